-- A patched source that is right to write passes every test of its job, when it is read again.
use Rattle.std.proofs.Common.{◌≡◌, ℕ, List, Some, sym, ap, subst, ◌∙◌, get_or, Contains}
use Rattle.std.specs.Prelude.{option_map, slice_get}
use Rattle.std.proofs.lemmas.List.Elements.{All-contains, Contains-get_or}
use Rattle.std.proofs.lemmas.Option.{get_or_from_slice_get, slice_get_within}
use Rattle.c_tree.specs.Tree.{Outer}
use Rattle.c_types.specs.Slots.{resolved}
use Rattle.c_stdio.specs.declared.test.Test.{Test}
use Rattle.bare_laws.specs.Plain.{plain_program}
use Rattle.bare_runs.specs.Laws.{RunAlike}
use Rattle.patch_reread.specs.ReadsAgain.{PatchesReadAgain}
use Rattle.repair_job.specs.Answers.{IsFirstRepair}
use Rattle.repair_job.specs.Job.{Job, Passes}
use Rattle.repair_job.specs.Patches.{Patch, patches, patched, patched_text}
use Rattle.repair_job.specs.Texts.{text_of, shown_of}
use Rattle.repair_cli.specs.Laws.{PatchedSourcesPass}
use Rattle.repair_cli.specs.ReadAgain.{IsReadAgain, ReadsAndPasses}
use Rattle.repair_cli.proofs.Reading.{each_read}

-- a program that is the same as one that passes a test, but for spans and the spelling of constants,
-- passes it
passes_alike : RunAlike → (job : Job) (p q : List Outer) → plain_program p ≡ plain_program q
    → (test : Test) → Passes job q test → Passes job p test
unfolding Passes
passes_alike alike job p q same test h = (alike p q same test job.limit).0 ∙ h

-- what has a rank in a list is in it
ranked_within : {A : Type 0} (xs : List A) (n : ℕ) (x : A) → slice_get xs n ≡ Some x → Contains xs x
ranked_within xs n x is =
    subst (Contains xs) (get_or_from_slice_get xs n x x is)
    (Contains-get_or xs n x (slice_get_within xs n x is))

-- the text of a patch that has a rank
text_is : (job : Job) (rank : ℕ) (patch : Patch) (text : List ℕ)
    → slice_get (patches job) rank ≡ Some patch
    → option_map (shown_of job) (slice_get (patches job) rank) ≡ Some text
    → shown_of job patch ≡ text
text_is job rank patch text ranked is =
    let both : Some (shown_of job patch) ≡ Some text =
    sym (ap (option_map (shown_of job)) ranked) ∙ is in
    cc

pub sources_pass : PatchesReadAgain → RunAlike → PatchedSourcesPass
sources_pass again alike source rank text reply shown =
    let job = reply.job in
    let first : IsFirstRepair job rank = reply.right.1 in
    let patch = first.patch in
    let reads : IsReadAgain job patch =
    All-contains (IsReadAgain job) (patches job) patch (each_read again source job reply.stated)
    (ranked_within (patches job) rank patch first.ranked) in
    let is : patched_text job patch ≡ text =
    ap (λ s. text_of s job patch) (sym shown)
    ∙ text_is job rank patch text first.ranked reply.is_text in
    subst (ReadsAndPasses job) is (record {
      tokens = reads.tokens;
      room = reads.room;
      found = reads.found;
      lexes = reads.lexes;
      derives = reads.derives;
      faultless = reads.checks.faultless;
      passes = λ k d lt.
          passes_alike alike job (resolved reads.found) (patched job patch) reads.checks.is_same
          (get_or job.tests k d) (first.repairs k d lt);
    })

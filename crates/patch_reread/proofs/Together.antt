-- The text of a patch, read again, is the patched program.
use Rattle.std.proofs.Common.{◌≡◌, ℕ, List, [], length, Ok, Option, Some, None, option_map, refl, sym, ap, subst, ◌∙◌, codes, pos, Contains, All}
use Rattle.std.specs.Prelude.{slice_get}
use Rattle.std.proofs.lemmas.List.Elements.{All-contains, Contains-get_or}
use Rattle.std.proofs.lemmas.Option.{get_or_from_slice_get, slice_get_within}
use Rattle.c_lex.specs.declared.token.TokenKind.TheVariants as kind
use Rattle.c_lex.specs.Bytes.{Bytes}
use Rattle.c_lex.specs.Lexemes.{Lexeme}
use Rattle.c_lex.specs.Tokens.{Macros, Lexes}
use Rattle.c_lex.proofs.Sources.{spans_rise}
use Rattle.c_tree.specs.declared.expr.BinOp.TheVariants.{Both, Either}
use Rattle.c_tree.specs.declared.place.Loc.{Loc}
use Rattle.c_tree.specs.declared.place.LocKind.{LocKind}
use Rattle.c_tree.specs.declared.place.LocKind.TheVariants as which
use Rattle.c_tree.specs.Tree.{Outer, bare_program}
use Rattle.c_types.specs.Evidence.{IsChecked, IsOrdered}
use Rattle.c_types.specs.Laws.{ResolvingChangesSlots, ResolvingKeepsOrder, ResolvingKeepsBare, ResolvingIgnoresSlots, ResolvedIsChecked}
use Rattle.c_types.specs.Programs.{program_faults}
use Rattle.c_types.specs.Slots.{resolved}
use Rattle.c_types.specs.Unresolved.{unresolved, unresolved_tree}
use Rattle.c_location.specs.Changes.{replaced as with_new, combined, guarded as with_test}
use Rattle.c_location.specs.Locations.{locations, part_at}
use Rattle.c_location.specs.Rewrites.{Rewrite, rewritten}
use Rattle.c_grammar.specs.Programs.{Derives}
use Rattle.c_grammar.specs.Texts.{IsInTextOrder}
use Rattle.c_splice.specs.Words.{IsWordOf}
use Rattle.schemas.specs.declared.edit.Edit.{Edit}
use Rattle.schemas.specs.Candidates.{candidates}
use Rattle.patch_space.specs.declared.patch.Patch.{Patch}
use Rattle.patch_space.proofs.EachPatch.{each_patch}
use Rattle.patch_space.specs.Laws.{PatchedIsChecked}
use Rattle.patch_space.specs.Space.{patch_of, patches, Change, replaced, narrowed, widened, guarded, rewrite_of, change_there, changed_at, changed, with_change, applied}
use Rattle.printed_tokens.specs.Laws.{ProgramsSourced, PurePrints}
use Rattle.printed_tokens.specs.Sourced.{SourcedProgram}
use Rattle.c_reread.specs.ReadAgain.{IsTextOf, ReadAgain, TextsReadAgain}
use Rattle.bare_laws.specs.Laws.{CheckedAlike}
use Rattle.patch_reread.specs.Suits.{Suits}
use Rattle.patch_reread.specs.ReadsAgain.{ReadsAs, IsSourceOf}
use Rattle.patch_reread.specs.Texts.{changed_text, text_with_change, patched_text}
use Rattle.patch_reread.proofs.LocationsAlike.{locations-same}
use Rattle.patch_reread.proofs.RewritingAlike.{Unslots, replaced-unslots, combined-unslots, guarded-unslots, rewritten-same}
use Rattle.patch_reread.proofs.WordsAlike.{sourced_alike}
use Rattle.patch_reread.proofs.Edits.{candidates-suit}

-- what is said by the laws that this one stands on
pub record Laws : Type 0 where
  pub texts : TextsReadAgain
  pub sourced : ProgramsSourced
  pub nought : (m : Macros) → IsWordOf m (codes "0") (kind.Const (pos 0) (codes "0"))
  pub unit : (m : Macros) → IsWordOf m (codes "1") (kind.Const (pos 1) (codes "1"))
  pub prints : PurePrints
  pub slots : ResolvingChangesSlots
  pub keeps : ResolvingKeepsBare
  pub ignores : ResolvingIgnoresSlots
  pub keeps_order : ResolvingKeepsOrder
  pub resolves : ResolvedIsChecked
  pub order : IsInTextOrder
  pub alike : CheckedAlike
  pub patched : PatchedIsChecked

-- without its slots, a program is the same but for spans, slots and the spelling of constants
bare-slotless : Laws → (p : List Outer) → bare_program (unresolved p) ≡ bare_program p
bare-slotless laws p =
    sym (laws.keeps (unresolved p)) ∙ ap bare_program (laws.ignores p) ∙ laws.keeps p

-- so programs that are the same without their slots are
bare-by : Laws → (p q : List Outer) → unresolved p ≡ unresolved q
    → bare_program p ≡ bare_program q
bare-by laws p q e = sym (bare-slotless laws p) ∙ ap bare_program e ∙ bare-slotless laws q

-- what a change makes of parts without slots
abbrev unslotted : Change → Rewrite
unslotted (replaced e) = with_new (unresolved_tree e)
unslotted (narrowed e) = combined Both (unresolved_tree e)
unslotted (widened e) = combined Either (unresolved_tree e)
unslotted (guarded e) = with_test (unresolved_tree e)

changes-unslot : (c : Change) → Unslots (rewrite_of c) (unslotted c)
changes-unslot (replaced e) = replaced-unslots e
changes-unslot (narrowed e) = combined-unslots Both e
changes-unslot (widened e) = combined-unslots Either e
changes-unslot (guarded e) = guarded-unslots e

-- a change at a location makes the same of programs that are the same without their slots
changed-alike : Laws → (l : Loc) (c : Change) (p q : List Outer) → unresolved p ≡ unresolved q
    → bare_program (rewritten l (rewrite_of c) p) ≡ bare_program (rewritten l (rewrite_of c) q)
changed-alike laws l c p q e =
    let u = changes-unslot c in
    bare-by laws (rewritten l (rewrite_of c) p) (rewritten l (rewrite_of c) q)
    (rewritten-same l (rewrite_of c) (unslotted c) u p ∙ ap (rewritten l (unslotted c)) e
    ∙ sym (rewritten-same l (rewrite_of c) (unslotted c) u q))

module _ (source : Bytes) (tokens : List Lexeme) (p : List Outer) (l : Loc)
    (x : ReadAgain source tokens p l) where
  -- the text of a change that suits its location is read as the changed program
  text_by : (k : LocKind) → l.kind ≡ k → (c : Change) → Suits x.macros k c
      → IsTextOf (changed_text source l c) (rewritten l (rewrite_of c) p)
  text_by which.Cond e (replaced new) h = x.condition e new h
  text_by which.Cond e (narrowed new) h = x.narrowed e new h
  text_by which.Cond e (widened new) h = x.widened e new h
  text_by which.Cond e (guarded new) h = absurd h
  text_by which.Right e (replaced new) h = x.right_side e new h
  text_by which.Right e (narrowed new) h = absurd h
  text_by which.Right e (widened new) h = absurd h
  text_by which.Right e (guarded new) h = absurd h
  text_by which.Guard e (replaced new) h = absurd h
  text_by which.Guard e (narrowed new) h = absurd h
  text_by which.Guard e (widened new) h = absurd h
  text_by which.Guard e (guarded new) h = x.guard e new h

-- a source, its tokens, and the program that they derive, which has no fault
module _ (laws : Laws) (source : Bytes) (tokens : List Lexeme) (room : ℕ) (found : List Outer)
    (lexes : Lexes source (Ok tokens)) (derives : Derives room tokens found)
    (faultless : program_faults found (length source) ≡ []) where
  -- the program of the source
  abbrev program : List Outer
  program = resolved found

  checked : IsChecked program
  checked = laws.resolves found (length source) faultless

  ordered : IsOrdered program
  ordered = record {
    end = length source;
    placed = laws.keeps_order 0 (length source) found
        (laws.order room (length source) tokens found (spans_rise source tokens lexes) derives);
  }

  same_locations : locations program ≡ locations found
  same_locations =
      sym (locations-same program) ∙ ap locations (laws.slots found) ∙ locations-same found

  -- the source itself is read as its program
  source_reads : ReadsAs source program
  source_reads = record {
    tokens = tokens;
    room = room;
    found = found;
    lexes = lexes;
    derives = derives;
    checks = laws.alike program found checked (sym (laws.keeps found));
  }

  -- at a location
  module _ (l : Loc) (among : Contains (locations program) l) where
    again : ReadAgain source tokens found l
    again =
        laws.texts source tokens room found l lexes derives
        (subst (λ ls. Contains ls l) same_locations among)

    words : SourcedProgram again.macros program
    words =
        sourced_alike again.macros found program (sym (laws.slots found))
        (laws.sourced again.macros room tokens found derives again.words)

    change_reads : (c : Change) → Suits again.macros l.kind c
        → IsChecked (rewritten l (rewrite_of c) program)
        → ReadsAs (changed_text source l c) (rewritten l (rewrite_of c) program)
    change_reads c h fine =
        let t = text_by source tokens found l again l.kind refl c h in
        record {
          tokens = t.tokens;
          room = t.room;
          found = t.found;
          lexes = t.lexes;
          derives = t.derives;
          checks = laws.alike (rewritten l (rewrite_of c) program) t.found fine
              (t.is_same ∙ changed-alike laws l c found program (sym (laws.slots found)));
        }

    suits : (cost : ℕ)
        → All (λ (edit : Edit). (c : Change) → change_there edit (part_at l program) ≡ Some c
        → Suits again.macros l.kind c) (candidates program l cost)
    suits cost =
        candidates-suit again.macros (laws.nought again.macros) (laws.unit again.macros) laws.prints
        program l cost words

  -- what an edit makes at a location, if anything
  abbrev MakesText : Loc → Edit → Type 0
  MakesText l edit = IsChecked (with_change program (changed_at program edit (Some l)))
      → ReadsAs (text_with_change source (changed_at program edit (Some l)))
      (with_change program (changed_at program edit (Some l)))

  -- the same for each patch
  abbrev MakesPatched : List Loc → Patch → Type 0
  MakesPatched all patch = IsChecked (applied program all patch)
      → ReadsAs (text_with_change source (changed program all patch)) (applied program all patch)

  edit_reads : (l : Loc) (among : Contains (locations program) l) (edit : Edit)
      → ((c : Change) → change_there edit (part_at l program) ≡ Some c
      → Suits (again l among).macros l.kind c) → MakesText l edit
  edit_reads l among edit h = by_change (change_there edit (part_at l program)) (λ c is. h c is)
    where
      by_change : (o : Option Change) → ((c : Change) → o ≡ Some c
          → Suits (again l among).macros l.kind c)
          → IsChecked (with_change program (option_map (λ c. (l, c)) o))
          → ReadsAs (text_with_change source (option_map (λ c. (l, c)) o))
          (with_change program (option_map (λ c. (l, c)) o))
      by_change None h fine = source_reads
      by_change (Some c) h fine = change_reads l among c (h c refl) fine

  patch_reads : (l : Loc) (cost n : ℕ) (edit : Edit) → slice_get (locations program) n ≡ Some l
      → Contains (candidates program l cost) edit
      → MakesPatched (locations program) (patch_of cost n edit)
  patch_reads l cost n edit is candidate =
      let among : Contains (locations program) l =
      subst (Contains (locations program)) (get_or_from_slice_get (locations program) n l l is)
      (Contains-get_or (locations program) n l (slice_get_within (locations program) n l is)) in
      let P = λ (e : Edit). (c : Change) → change_there e (part_at l program) ≡ Some c
      → Suits (again l among).macros l.kind c in
      subst
      (λ o. IsChecked (with_change program (changed_at program edit o))
      → ReadsAs (text_with_change source (changed_at program edit o))
      (with_change program (changed_at program edit o)))
      (sym is)
      (edit_reads l among edit
      (All-contains P (candidates program l cost) edit (suits l among cost) candidate))

  patches_read : All (λ patch. ReadsAs (patched_text source program patch)
      (applied program (locations program) patch)) (patches program)
  patches_read =
      let texts = each_patch program (MakesPatched (locations program)) patch_reads in
      let fine = laws.patched program checked ordered in
      λ k d lt. texts k d lt (fine k d lt)

-- the text of each patch of a source's program is read as the patched program
pub read_again : Laws → (source : Bytes) (p : List Outer) → IsSourceOf source p
    → All (λ patch. ReadsAs (patched_text source p patch) (applied p (locations p) patch)) (patches p)
read_again laws source p h =
    subst
    (λ q. All (λ patch. ReadsAs (patched_text source q patch) (applied q (locations q) patch)) (patches q))
    h.is_resolved (patches_read laws source h.tokens h.room h.found h.lexes h.derives h.faultless)

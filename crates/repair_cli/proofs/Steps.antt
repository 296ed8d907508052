-- One step of the work after another.
use Rattle.std.proofs.Common.{◌≡◌, ℕ, ◌≤◌, ◌⊎◌, List, subst, sym, inl, inr}
use Rattle.std.specs.Prelude.{Some, Option, unwrap_or}
use Rattle.fx_io.specs.Faults.{Rose}
use Rattle.fx_io.specs.Held.{Lacks}
use Rattle.fx_io.proofs.FaultCounts.{Rose-later}
use Rattle.c_tree.specs.Tree.{Outer}
use Rattle.c_types.specs.Evidence.{IsOrdered}
use Rattle.c_stdio.specs.declared.test.Test.{Test}
use Rattle.repair_job.specs.Job.{Job}
use Rattle.repair_job.specs.declared.answer.Answer.{Answer}
use Rattle.repair_job.specs.declared.answer.Answer.TheVariants as answer
use Rattle.repair_cli.specs.Words.{Asked, repair, command_in}
use Rattle.repair_cli.specs.Jobs.{IsLimit, CanBeDone}
use Rattle.repair_cli.specs.Ends.{Ends, IsAnswer}
use Rattle.repair_cli.specs.Parts.{GivesNoProgram, GivesNoSuite, Reports}
use Rattle.repair_cli.specs.Sinks.{Seen}
use Rattle.repair_cli.specs.Source.{Files, File, Source, file_in, Asks, States, HoldsProgram, HoldsSuite, Cause}
use Rattle.repair_cli.specs.declared.status.Status.{Status}
use Rattle.repair_cli.specs.declared.status.Status.TheVariants as status
use Rattle.repair_cli.proofs.Commands.{limit_range}
use Rattle.repair_cli.proofs.Suites.{stated_range}

-- the program was not had
pub program_fails : (source : Source) (asked : Asked) (s : Status) (text : List ℕ) → Asks source asked → GivesNoProgram (file_in source asked.program) s text → Cause source s text
program_fails source asked status.ReadFault text valid why = inl (record { asked = asked; valid = valid; unread = why.0; message = why.1 })
program_fails source asked status.ProgramRefused text valid why = record { asked = asked; valid = valid; refused = why }
program_fails source asked status.NoMemory text valid why = why
program_fails source asked _ text valid why = absurd why

-- a file by its name, in a part of a call
abbrev pub file_at : Option Files → List ℕ → ℕ → ℕ → File
file_at held name faults after = record { name = name; held = held; faults = faults; faults_after = after }

-- a call, by its parts
abbrev pub source_at : List (List ℕ) → Option Files → ℕ → ℕ → Source
source_at words held faults after = record { words = words; held = held; faults = faults; faults_after = after }

-- the program was accepted, and the suite was not had
suite_fails_here : (words : List (List ℕ)) (held : Option Files) (f0 f1 f2 : ℕ) (asked : Asked) (bytes : List ℕ) (tree : List Outer) (s : Status) (text : List ℕ)
    → command_in words ≡ Some (repair asked) → HoldsProgram (file_at held asked.program f0 f1) bytes tree → f0 ≤ f1 → GivesNoSuite (file_at held asked.suite f1 f2) s text
    → Cause (source_at words held f0 f2) s text
suite_fails_here words held f0 f1 f2 asked bytes tree status.ReadFault text valid holds later why =
    let rose : (Rose f1 f2 ⊎ Lacks held asked.suite) → Rose f0 f2 ⊎ Lacks held asked.suite = λ x. elim x [ inl r ↦ inl (Rose-later f0 f1 f2 later r) | inr l ↦ inr l ] in
    inr (record { asked = asked; valid = valid; program = (bytes, tree, holds); unread = rose why.0; message = why.1 })
suite_fails_here words held f0 f1 f2 asked bytes tree status.SuiteRefused text valid holds later why =
    record { asked = asked; valid = valid; program = (bytes, tree, holds); refused = why }
suite_fails_here words held f0 f1 f2 asked bytes tree status.NoMemory text valid holds later why = why
suite_fails_here words held f0 f1 f2 asked bytes tree _ text valid holds later why = absurd why

-- the same where the files are the same after the reading of the program
pub suite_fails : (words : List (List ℕ)) (held mid : Option Files) (f0 f1 f2 : ℕ) (asked : Asked) (bytes : List ℕ) (tree : List Outer) (s : Status) (text : List ℕ)
    → command_in words ≡ Some (repair asked) → HoldsProgram (file_at held asked.program f0 f1) bytes tree → mid ≡ held → f0 ≤ f1 → GivesNoSuite (file_at mid asked.suite f1 f2) s text
    → Cause (source_at words held f0 f2) s text
suite_fails words held mid f0 f1 f2 asked bytes tree s text valid holds same later why =
    suite_fails_here words held f0 f1 f2 asked bytes tree s text valid holds later (subst (λ (h : Option Files). GivesNoSuite (file_at h asked.suite f1 f2) s text) same why)

-- both files were accepted
pub suite_held : (held mid : Option Files) (name : List ℕ) (f0 f1 f2 : ℕ) (tests : List Test) (limit : ℕ) → mid ≡ held → HoldsSuite (file_at mid name f1 f2) tests limit
    → HoldsSuite (file_at held name f0 f2) tests limit
suite_held held mid name f0 f1 f2 tests limit same h = subst (λ (h : Option Files). HoldsSuite (file_at h name f0 f2) tests limit) same h

-- the words and the files state the job, and it can be done
pub job_states : (source : Source) (asked : Asked) (job : Job) (bytes : List ℕ) (tree : List Outer) (tests : List Test) (limit : ℕ)
    → Asks source asked → HoldsProgram (file_in source asked.program) bytes tree → IsOrdered tree → HoldsSuite (file_in source asked.suite) tests limit
    → job.source ≡ bytes → job.program ≡ tree → job.tests ≡ tests → job.limit ≡ unwrap_or asked.options.limit limit → job.most_patches ≡ asked.options.patches
    → job.shown ≡ asked.options.shown
    → States source job × CanBeDone job
job_states source asked job bytes tree tests limit valid program text suite b t u l m s =
    let from_bytes : HoldsProgram (file_in source asked.program) job.source tree =
    subst (λ (x : List ℕ). HoldsProgram (file_in source asked.program) x tree) (sym b) program in
    let held : HoldsProgram (file_in source asked.program) job.source job.program =
    subst (λ (x : List Outer). HoldsProgram (file_in source asked.program) job.source x) (sym t) from_bytes in
    let judged : HoldsSuite (file_in source asked.suite) job.tests limit =
    subst (λ (x : List Test). HoldsSuite (file_in source asked.suite) x limit) (sym u) suite in
    let own = stated_range suite.0 (record { tests = tests; limit = limit }) suite.2.states in (
      record { asked = asked; valid = valid; program = held; limit = limit; suite = judged; limit_is = l; patches_are = m; shown_is = s },
      record { limit = subst IsLimit (sym l) (limit_range source.words asked limit valid own); few = held.1.runnable.few; ordered = subst IsOrdered (sym t) text },
    )

-- the text of the answer was written, or its write failed
pub answer_reported : (s : Source) (out err : Seen) (answer : Answer) (text : List ℕ) (result : Status) → IsAnswer s answer text → Reports out err answer text result → Ends s out err result
answer_reported s out err answer.Sound text result right (inl w) = subst (Ends s out err) (sym w.0) (record { text = text; right = right; written = w.1; silent = w.2 })
answer_reported s out err (answer.Patch rank) text result right (inl w) = subst (Ends s out err) (sym w.0) (rank, record { text = text; right = right; written = w.1; silent = w.2 })
answer_reported s out err answer.Nothing text result right (inl w) = subst (Ends s out err) (sym w.0) (record { text = text; right = right; written = w.1; silent = w.2 })
answer_reported s out err a text result right (inr b) = subst (Ends s out err) (sym b.0) (inl (record { answer = a; text = text; right = right; broken = b.1; written = b.2 }))

-- What a repair is given, and when a program passes its tests.
use Rattle.std.specs.Prelude.{◌≡◌, ℕ, List}
use Rattle.std.specs.List.{All}
use Rattle.c_tree.specs.Tree.{Outer}
use Rattle.c_stdio.specs.declared.test.Test.{Test}
use Rattle.c_meaning.specs.Ends.{outcome}
use Rattle.c_meaning.specs.declared.outcome.Outcome.TheVariants.{Passed}
use Rattle.repair_job.specs.declared.answer.Shown.{Shown}

-- the bytes of a source and the program that they state; its tests, and the units of work that each
-- may take; how many patches are tried at most; and what the answer shows of a patch
pub record Job : Type 0 where
  pub source : List ℕ
  pub program : List Outer
  pub tests : List Test
  pub limit : ℕ
  pub most_patches : ℕ
  pub shown : Shown

-- a program passes a test within the job's limit
unfoldable pub Passes : Job → List Outer → Test → Type 0
Passes job program test = outcome program test job.limit ≡ Passed

-- a program passes every test of the job
abbrev pub PassesAll : Job → List Outer → Type 0
PassesAll job program = All (Passes job program) job.tests

-- Why a suite is refused: its first refusal, with the test that is at fault and the words, and the
-- message that these give.
use Rattle.std.specs.Prelude.{◌≡◌, ℕ, ◌<◌, ◌≤◌, List, length, Option, None, Err, codes}
use Rattle.test_suite.specs.Faults as reader
use Rattle.test_suite.specs.Suite.{stated}
use Rattle.test_suite.specs.declared.fault.SuiteFault.{SuiteFault}
use Rattle.repair_cli.specs.Limits.{suite_limit}
use Rattle.repair_cli.specs.Texts.{faulty_suite}
use Rattle.repair_cli.specs.declared.fault.TestsFault.{TestsFault}
use Rattle.repair_cli.specs.declared.fault.TestsFault.TheVariants.{TooLong, Suite}

-- the number of the test that is at fault, if one is
abbrev pub fault_test : TestsFault → Option ℕ
fault_test TooLong = None
fault_test (Suite f) = reader.test_at f

-- its words
abbrev pub fault_words : TestsFault → List ℕ
fault_words TooLong = codes "too long"
fault_words (Suite f) = reader.words_of f

-- the first refusal of a suite
pub data IsSuiteFault (bytes : List ℕ) : TestsFault → Type 0 where
  too_long : suite_limit < length bytes → IsSuiteFault bytes TooLong
  of_suite : (f : SuiteFault) → length bytes ≤ suite_limit → stated bytes ≡ Err f
      → IsSuiteFault bytes (Suite f)

-- the message that the suite of this name has this fault
abbrev pub suite_message : List ℕ → TestsFault → List ℕ
suite_message name f = faulty_suite name (fault_test f) (fault_words f)

-- the suite of this name, with these bytes, states no tests: this is the message of its first
-- refusal
pub record StatesNoSuite (name bytes text : List ℕ) : Type 0 where
  pub fault : TestsFault
  pub is_first : IsSuiteFault bytes fault
  pub message : text ≡ suite_message name fault

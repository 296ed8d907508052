-- Why a suite is refused: in which test, and in what words.
use Rattle.std.specs.Prelude.{◌≡◌, ◌≢◌, ℕ, List, ◌++◌, Option, Some, None, Result, Err, codes}
use Rattle.test_suite.specs.declared.fault.Key.{Key}
use Rattle.test_suite.specs.declared.fault.Key.TheVariants.{Name, Input, Output, Status}
use Rattle.test_suite.specs.declared.fault.SuiteFault.{SuiteFault}
use Rattle.test_suite.specs.declared.fault.SuiteFault.TheVariants.{NotJson, NoTests, TooMany, BadLimit, NotATest, BadField, TooLongText, NoMemory}

-- the key as it stands in a suite
abbrev pub word_of : Key → List ℕ
word_of Name = codes "name"
word_of Input = codes "input"
word_of Output = codes "output"
word_of Status = codes "status"

-- the number of the test that is at fault, counted from 0
abbrev pub test_at : SuiteFault → Option ℕ
test_at NotJson = None
test_at NoTests = None
test_at (TooMany count) = None
test_at BadLimit = None
test_at (NotATest test) = Some test
test_at (BadField test key) = Some test
test_at (TooLongText test key) = Some test
test_at NoMemory = None

-- what is said of the suite, or of that test
abbrev pub words_of : SuiteFault → List ℕ
words_of NotJson = codes "not JSON"
words_of NoTests = codes "no tests"
words_of (TooMany count) = codes "too many tests"
words_of BadLimit = codes "bad limit"
words_of (NotATest test) = codes "not a test"
words_of (BadField test key) = codes "bad field " ++ word_of key
words_of (TooLongText test key) = codes "too long " ++ word_of key
words_of NoMemory = codes "out of memory"

-- this is the refusal that is stated; or memory ran out, which may come at any time
pub record Causes {T : Type 0} (stated : Result T SuiteFault) (fault : SuiteFault) : Type 0 where
  pub is_stated : fault ≢ NoMemory → stated ≡ Err fault

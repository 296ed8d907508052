-- The tests and the limit that a suite states, or why it is refused. Each step is one rule, in the order in which a
-- suite is held to them, so the first refusal is the answer.
use Rattle.std.specs.Prelude.{ℕ, ◌+◌, ◌==◌, List, [], ◌∷◌, length, Bool, ◌||◌, nat_lt, is_some, is_none, if◌then◌else◌, codes, Option, Some, None, option_and_then, Result, Ok, Err}
use Rattle.std.specs.Str.{is_utf8}
use Rattle.serde_json.specs.Data.{Data, Items, no_items, item}
use Rattle.serde_json.specs.Events.{items_len}
use Rattle.serde_json.specs.Find.{get, as_str, as_array, as_object, as_number, as_u64}
use Rattle.serde_json.specs.Read.{read}
use Rattle.c_stdio.specs.declared.test.Test.{Test}
use Rattle.test_suite.specs.Faults.{word_of}
use Rattle.test_suite.specs.declared.fault.Key.{Key}
use Rattle.test_suite.specs.declared.fault.Key.TheVariants.{Name, Input, Output, Status}
use Rattle.test_suite.specs.declared.fault.SuiteFault.{SuiteFault}
use Rattle.test_suite.specs.declared.fault.SuiteFault.TheVariants.{NotJson, NoTests, TooMany, BadLimit, NotATest, BadField, TooLongText}

-- the most tests of a suite
abbrev pub max_tests : ℕ
max_tests = 256

-- the most bytes of a text
abbrev pub max_text : ℕ
max_text = 65_536

-- the units of work that each test may take, where the suite says nothing of it
abbrev pub default_limit : ℕ
default_limit = 100_000

-- the most that a suite may say
abbrev pub max_limit : ℕ
max_limit = 10_000_000

-- the greatest exit status
abbrev pub max_status : ℕ
max_status = 255

-- ---- steps

-- a step, and then another that depends on what it gave, if it refused nothing
abbrev pub and_then :
    {A B : Type 0} → Result A SuiteFault → (A → Result B SuiteFault) → Result B SuiteFault
and_then (Ok a) next = next a
and_then (Err fault) next = Err fault

-- what a step gave, changed
abbrev pub mapped : {A B : Type 0} → (A → B) → Result A SuiteFault → Result B SuiteFault
mapped change (Ok a) = Ok (change a)
mapped change (Err fault) = Err fault

-- ---- members

-- the value is an object that has this member
abbrev pub has : List ℕ → Data → Bool
has word value = is_some (get word value)

-- the text at this member
abbrev pub text_at : List ℕ → Data → Option (List ℕ)
text_at word value = option_and_then as_str (get word value)

-- the whole number from 0 on at this member: one that JSON text writes with digits alone
abbrev pub number_at : List ℕ → Data → Option ℕ
number_at word value = option_and_then as_u64 (option_and_then as_number (get word value))

-- ---- one test, which has this number

-- a text that is not too long
abbrev pub fitting : ℕ → Key → Option (List ℕ) → Result (List ℕ) SuiteFault
fitting number key None = Err (BadField number key)
fitting number key (Some text) =
    if nat_lt max_text (length text) then Err (TooLongText number key) else Ok text

-- the text at a key that must be there
abbrev pub required : ℕ → Key → Data → Result (List ℕ) SuiteFault
required number key test = fitting number key (text_at (word_of key) test)

-- the text at a key that may be absent, and is empty then
abbrev pub optional : ℕ → Key → Data → Result (List ℕ) SuiteFault
optional number key test = if has (word_of key) test then required number key test else Ok []

-- a status
abbrev pub valid_status : ℕ → Option ℕ → Result ℕ SuiteFault
valid_status number None = Err (BadField number Status)
valid_status number (Some status) =
    if nat_lt max_status status then Err (BadField number Status) else Ok status

-- the status at its key, or 0 where that is absent
abbrev pub status_in : ℕ → Data → Result ℕ SuiteFault
status_in number test =
    if has (word_of Status) test then valid_status number (number_at (word_of Status) test)
    else Ok 0

-- the test of these four
abbrev pub test_of : List ℕ → List ℕ → List ℕ → ℕ → Test
test_of name input output status =
    record { name = name; input = input; output = output; status = status }

-- the fields of a test, each held to its rule in this order
abbrev pub fields_in : ℕ → Data → Result Test SuiteFault
fields_in number test =
    and_then (optional number Name test) (λ name.
    and_then (optional number Input test) (λ input.
    and_then (required number Output test) (λ output.
    mapped (test_of name input output) (status_in number test))))

-- a test is an object
abbrev pub test_in : ℕ → Data → Result Test SuiteFault
test_in number test = if is_none (as_object test) then Err (NotATest number) else fields_in number test

-- ---- a suite

-- the tests in order, of which the first has this number
abbrev pub tests_from : ℕ → Items → Result (List Test) SuiteFault
tests_from number no_items = Ok []
tests_from number (item test rest) =
    and_then (test_in number test)
    (λ first. mapped (λ tests. first ∷ tests) (tests_from (number + 1) rest))

-- a limit
abbrev pub valid_limit : Option ℕ → Result ℕ SuiteFault
valid_limit None = Err BadLimit
valid_limit (Some limit) = if limit == 0 || nat_lt max_limit limit then Err BadLimit else Ok limit

-- the limit of a suite
abbrev pub limit_in : Data → Result ℕ SuiteFault
limit_in suite =
    if has (codes "limit") suite then valid_limit (number_at (codes "limit") suite)
    else Ok default_limit

-- not too many tests
abbrev pub few : Option Items → Result Items SuiteFault
few None = Err NoTests
few (Some tests) =
    if nat_lt max_tests (items_len tests) then Err (TooMany (items_len tests)) else Ok tests

-- the list of tests of a suite: it is an object whose `tests` are a list
abbrev pub list_in : Data → Result Items SuiteFault
list_in suite = few (option_and_then as_array (get (codes "tests") suite))

-- tests, and how many units of work each may take
pub record Stated : Type 0 where
  pub tests : List Test
  pub limit : ℕ

-- what a suite states
abbrev pub stated_in : Data → Result Stated SuiteFault
stated_in suite =
    and_then (list_in suite) (λ list.
    and_then (limit_in suite) (λ limit.
    mapped (λ tests. record { tests = tests; limit = limit }) (tests_from 0 list)))

-- the value that the bytes are as JSON text, which is UTF-8 (RFC 8259, section 8.1)
abbrev pub document : List ℕ → Option Data
document bytes = if is_utf8 bytes then read bytes else None

-- what these bytes are as JSON text
abbrev pub value_in : Option Data → Result Data SuiteFault
value_in None = Err NotJson
value_in (Some value) = Ok value

-- the tests and the limit that the bytes state, or why they are refused
abbrev pub stated : List ℕ → Result Stated SuiteFault
stated bytes = and_then (value_in (document bytes)) stated_in

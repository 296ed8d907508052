-- The test that is at fault in a refused suite is one of the first 256.
use Rattle.std.proofs.Common.{◌≡◌, ℕ, suc, ◌+◌, ◌<◌, ◌≤◌, Bool, true, false, ◌||◌, ◌==◌, nat_lt, List, [], ◌∷◌, length, Option, Some, None, Result, Ok, Err, refl, ap, subst, arith}
use Rattle.std.specs.Prelude.{if◌then◌else◌, codes, IfSome, is_none, option_and_then}
use Rattle.std.proofs.lemmas.Bool.Decides.{nat_tests}
use Rattle.serde_json.specs.Data.{Data, Items, no_items, item}
use Rattle.serde_json.specs.Events.{items_len}
use Rattle.serde_json.specs.Find.{get, as_array, as_object}
use Rattle.c_stdio.specs.declared.test.Test.{Test}
use Rattle.test_suite.specs.Faults.{test_at, word_of}
use Rattle.test_suite.specs.Suite as suite
use Rattle.test_suite.specs.Suite.{and_then, mapped, has, text_at, number_at, stated, Stated}
use Rattle.test_suite.specs.declared.fault.Key.{Key}
use Rattle.test_suite.specs.declared.fault.Key.TheVariants.{Name, Input, Output, Status}
use Rattle.test_suite.specs.declared.fault.SuiteFault.{SuiteFault}
use Rattle.test_suite.specs.declared.fault.SuiteFault.TheVariants.{NotJson, NoTests, TooMany, BadLimit, NotATest, BadField, TooLongText}

-- the test at fault, if one is, has a number below this
abbrev pub Below : ℕ → SuiteFault → Type 0
Below k f = IfSome (test_at f) (λ n. n < k)

-- ---- steps

-- the refusal of one of two steps
one_of_two : {A B : Type 0} (P : SuiteFault → Type 0) (x : Result A SuiteFault) (next : A → Result B SuiteFault) (f : SuiteFault)
    → and_then x next ≡ Err f → ((g : SuiteFault) → x ≡ Err g → P g) → ((a : A) (g : SuiteFault) → x ≡ Ok a → next a ≡ Err g → P g) → P f
one_of_two P (Ok a) next f e first second = second a f refl e
one_of_two P (Err g) next f e first second = let same : g ≡ f = cc in subst P same (first g refl)

-- the refusal of a step whose value is changed
of_mapped : {A B : Type 0} (h : A → B) (x : Result A SuiteFault) (f : SuiteFault) → mapped h x ≡ Err f → x ≡ Err f
of_mapped h (Ok a) f e = absurd (cc)
of_mapped h (Err g) f e = let same : g ≡ f = cc in ap Err same

-- the refusal of one of two arms
of_arms : {A : Type 0} (P : Type 0) (b : Bool) (x y : Result A SuiteFault) (f : SuiteFault) → (if b then x else y) ≡ Err f
    → (x ≡ Err f → P) → (y ≡ Err f → P) → P
of_arms P true x y f e one other = one e
of_arms P false x y f e one other = other e

-- a refusal that is this one
of_err : {A : Type 0} (k : ℕ) (g f : SuiteFault) → ◌≡◌ {A = Result A SuiteFault} (Err g) (Err f) → Below k g → Below k f
of_err k g f e b = let same : g ≡ f = cc in subst (Below k) same b

-- what is given isn't refused
not_ok : {A : Type 0} {P : Type 0} (a : A) (f : SuiteFault) → ◌≡◌ {A = Result A SuiteFault} (Ok a) (Err f) → P
not_ok a f e = absurd (cc)

-- a greater bound
weaken_at : (o : Option ℕ) (j k : ℕ) → j ≤ k → IfSome o (λ n. n < j) → IfSome o (λ n. n < k)
weaken_at None j k le h = tt
weaken_at (Some n) j k le h = omega (arith, le, h)

weaken : (f : SuiteFault) (j k : ℕ) → j ≤ k → Below j f → Below k f
weaken f j k le h = weaken_at (test_at f) j k le h

-- ---- one test

fitting_below : (n : ℕ) (key : Key) (o : Option (List ℕ)) (f : SuiteFault) → suite.fitting n key o ≡ Err f → Below (suc n) f
fitting_below n key None f e = of_err (suc n) (BadField n key) f e (omega arith)
fitting_below n key (Some text) f e =
    of_arms (Below (suc n) f) (nat_lt suite.max_text (length text)) (Err (TooLongText n key)) (Ok text) f e
    (λ x. of_err (suc n) (TooLongText n key) f x (omega arith)) (λ x. not_ok text f x)

optional_below : (n : ℕ) (key : Key) (d : Data) (f : SuiteFault) → suite.optional n key d ≡ Err f → Below (suc n) f
optional_below n key d f e =
    of_arms (Below (suc n) f) (has (word_of key) d) (suite.required n key d) (Ok []) f e
    (λ x. fitting_below n key (text_at (word_of key) d) f x) (λ x. not_ok [] f x)

status_below : (n : ℕ) (o : Option ℕ) (f : SuiteFault) → suite.valid_status n o ≡ Err f → Below (suc n) f
status_below n None f e = of_err (suc n) (BadField n Status) f e (omega arith)
status_below n (Some s) f e =
    of_arms (Below (suc n) f) (nat_lt suite.max_status s) (Err (BadField n Status)) (Ok s) f e
    (λ x. of_err (suc n) (BadField n Status) f x (omega arith)) (λ x. not_ok s f x)

status_in_below : (n : ℕ) (d : Data) (f : SuiteFault) → suite.status_in n d ≡ Err f → Below (suc n) f
status_in_below n d f e =
    of_arms (Below (suc n) f) (has (word_of Status) d) (suite.valid_status n (number_at (word_of Status) d)) (Ok 0) f e
    (λ x. status_below n (number_at (word_of Status) d) f x) (λ x. not_ok 0 f x)

fields_below : (n : ℕ) (d : Data) (f : SuiteFault) → suite.fields_in n d ≡ Err f → Below (suc n) f
fields_below n d f e =
    one_of_two (Below (suc n)) (suite.optional n Name d) _ f e (λ g x. optional_below n Name d g x) (λ name g x more.
    one_of_two (Below (suc n)) (suite.optional n Input d) _ g more (λ h y. optional_below n Input d h y) (λ input h y most.
    one_of_two (Below (suc n)) (suite.required n Output d) _ h most (λ i z. fitting_below n Output (text_at (word_of Output) d) i z) (λ output i z last.
    status_in_below n d i (of_mapped (suite.test_of name input output) (suite.status_in n d) i last))))

test_below : (n : ℕ) (d : Data) (f : SuiteFault) → suite.test_in n d ≡ Err f → Below (suc n) f
test_below n d f e =
    of_arms (Below (suc n) f) (is_none (as_object d)) (Err (NotATest n)) (suite.fields_in n d) f e
    (λ x. of_err (suc n) (NotATest n) f x (omega arith)) (λ x. fields_below n d f x)

-- ---- all tests

tests_below : (n : ℕ) (items : Items) (f : SuiteFault) → suite.tests_from n items ≡ Err f → Below (n + items_len items) f
tests_below n no_items f e = not_ok [] f e
tests_below n (item d rest) f e =
    one_of_two (Below (n + suc (items_len rest))) (suite.test_in n d) _ f e
    (λ g x. weaken g (suc n) (n + suc (items_len rest)) (omega arith) (test_below n d g x))
    (λ first g x more. weaken g (n + 1 + items_len rest) (n + suc (items_len rest)) (omega arith)
    (tests_below (n + 1) rest g (of_mapped (λ tests. first ∷ tests) (suite.tests_from (n + 1) rest) g more)))

-- a list of tests has at most 256
few_tests : (o : Option Items) (items : Items) → suite.few o ≡ Ok items → items_len items ≤ 256
few_tests None items e = absurd (cc)
few_tests (Some tests) items e = by_test (nat_lt 256 (items_len tests)) refl e
  where
    by_test : (b : Bool) → nat_lt 256 (items_len tests) ≡ b → (if b then Err (TooMany (items_len tests)) else Ok tests) ≡ Ok items
        → items_len items ≤ 256
    by_test true is e = absurd (cc)
    by_test false is e =
        let same : tests ≡ items = cc in
        let few : items_len tests ≤ 256 = grind (arith, nat_tests) in
        subst (λ (i : Items). items_len i ≤ 256) same few

few_below : (o : Option Items) (f : SuiteFault) → suite.few o ≡ Err f → Below 256 f
few_below None f e = of_err 256 NoTests f e tt
few_below (Some tests) f e =
    of_arms (Below 256 f) (nat_lt suite.max_tests (items_len tests)) (Err (TooMany (items_len tests))) (Ok tests) f e
    (λ x. of_err 256 (TooMany (items_len tests)) f x tt) (λ x. not_ok tests f x)

limit_below : (o : Option ℕ) (f : SuiteFault) → suite.valid_limit o ≡ Err f → Below 256 f
limit_below None f e = of_err 256 BadLimit f e tt
limit_below (Some n) f e =
    of_arms (Below 256 f) (n == 0 || nat_lt suite.max_limit n) (Err BadLimit) (Ok n) f e (λ x. of_err 256 BadLimit f x tt) (λ x. not_ok n f x)

limit_in_below : (d : Data) (f : SuiteFault) → suite.limit_in d ≡ Err f → Below 256 f
limit_in_below d f e =
    of_arms (Below 256 f) (has (codes "limit") d) (suite.valid_limit (number_at (codes "limit") d)) (Ok suite.default_limit) f e
    (λ x. limit_below (number_at (codes "limit") d) f x) (λ x. not_ok suite.default_limit f x)

value_below : (o : Option Data) (f : SuiteFault) → suite.value_in o ≡ Err f → Below 256 f
value_below None f e = of_err 256 NotJson f e tt
value_below (Some d) f e = not_ok d f e

stated_in_below : (d : Data) (f : SuiteFault) → suite.stated_in d ≡ Err f → Below 256 f
stated_in_below d f e =
    let list = option_and_then as_array (get (codes "tests") d) in
    one_of_two (Below 256) (suite.list_in d) _ f e (λ g x. few_below list g x) (λ items g x more.
    one_of_two (Below 256) (suite.limit_in d) _ g more (λ h y. limit_in_below d h y) (λ limit h y last.
    let few = few_tests list items x in
    weaken h (0 + items_len items) 256 (omega (arith, few))
    (tests_below 0 items h (of_mapped (λ (tests : List Test). record { tests = tests; limit = limit }) (suite.tests_from 0 items) h last))))

-- the test at fault in a refused suite, if one is, is one of the first 256
pub stated_below : (bytes : List ℕ) (f : SuiteFault) → stated bytes ≡ Err f → Below 256 f
stated_below bytes f e =
    one_of_two (Below 256) (suite.value_in (suite.document bytes)) _ f e (λ g x. value_below (suite.document bytes) g x)
    (λ d g x more. stated_in_below d g more)

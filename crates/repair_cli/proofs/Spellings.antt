-- Words that begin with the spelling of an option, and numbers in words.
use Rattle.std.proofs.Common.{◌≡◌, ◌≢◌, ℕ, ◌<◌, ◌≤◌, Bool, true, false, ◌&&◌, nat_le, List, ◌++◌, length, take, drop, Result, Ok, refl, sym, ap, ◌∙◌, arith, take-append-drop}
use Rattle.std.specs.Prelude.{Option, Some, None, if◌then◌else◌, MatchOption, option_map}
use Rattle.std.specs.Str.{bytes_eq, all_ascii_digits}
use Rattle.std.specs.Str.Parse.{digits_value, ParsesUnsigned}
use Rattle.std.specs.Str.Pattern.{FindsTextPrefix, StripsPrefix}
use Rattle.std.proofs.lemmas.Bool.Decides.{nat_tests}
use Rattle.std.proofs.lemmas.List.{take-append-le, take_all}
use Rattle.std.proofs.lemmas.Slice.Eq.{bytes_eq-Decides}
use Rattle.std.proofs.lemmas.Str.Parse.{IsNumeralModel, numerals_by_value, tells_all_ascii_digits, parse_gives, digits_value_short}
use Rattle.repair_cli.specs.Words.{after, number_to, is_numeral, is_within}

-- ---- spellings

-- what an arm gives whose test passed
passed : {A : Type 0} (b : Bool) (x : A) → b ≡ true → (if b then Some x else None) ≡ Some x
passed true x e = refl
passed false x e = absurd (cc)

-- and whose test failed
failed : {A : Type 0} (b : Bool) (x : A) → b ≡ false → (if b then Some x else None) ≡ None
failed true x e = absurd (cc)
failed false x e = refl

-- a word begins with the spelling, and this stands after it
pub after_found : (spelling word text : List ℕ) (k : ℕ) → k ≡ length spelling → word ≡ spelling ++ drop k word → text ≡ drop k word
    → Some text ≡ after spelling word
after_found spelling word text k is begins same =
    let front : take (length spelling) word ≡ spelling =
    ap (take (length spelling)) begins ∙ take-append-le (length spelling) spelling (drop k word) (omega arith) ∙ take_all (length spelling) spelling (omega arith) in
    let yes = (bytes_eq-Decides (take (length spelling) word) spelling).1 front in
    ap Some (same ∙ ap (λ n. drop n word) is) ∙ sym (passed (bytes_eq (take (length spelling) word) spelling) (drop (length spelling) word) yes)

-- a word doesn't begin with the spelling
pub after_lacks : (spelling word : List ℕ) → ((rest : List ℕ) → word ≢ spelling ++ rest) → None ≡ after spelling word
after_lacks spelling word lacks = by_test (bytes_eq (take (length spelling) word) spelling) refl
  where
    by_test : (b : Bool) → bytes_eq (take (length spelling) word) spelling ≡ b
        → ◌≡◌ {A = Option (List ℕ)} None (if b then Some (drop (length spelling) word) else None)
    by_test true is =
        let front = (bytes_eq-Decides (take (length spelling) word) spelling).0 is in
        absurd (lacks (drop (length spelling) word)
        (sym (take-append-drop (length spelling) word) ∙ ap (λ l. l ++ drop (length spelling) word) front))
    by_test false is = refl

-- a word of which a spelling is looked for
pub after_is : {B : Type 0} (now : B → List ℕ) (spelling word : List ℕ) (r : Option B)
    → MatchOption r (FindsTextPrefix spelling word None) (λ x. StripsPrefix (FindsTextPrefix spelling) word (now x))
    → option_map now r ≡ after spelling word
after_is now spelling word None h = after_lacks spelling word h
after_is now spelling word (Some x) h = after_found spelling word (now x) h.0 h.1.0 h.1.1 h.2

-- ---- numbers

own : IsNumeralModel (λ ds. all_ascii_digits ds ≡ true) (digits_value 10)
own = numerals_by_value (λ ds. all_ascii_digits ds ≡ true) tells_all_ascii_digits

-- what a numeral is
digits_of : (d : Bool) (n : ℕ) → (nat_le 1 n && nat_le n 10 && d) ≡ true → (0 < n) × (n ≤ 10) × (d ≡ true)
digits_of true n e = (grind (arith, nat_tests), grind (arith, nat_tests), refl)
digits_of false n e = absurd (grind (arith, nat_tests))

-- a numeral is read as the number that its digits write
pub read_number : {E : Type 0} (text : List ℕ) (r : Result ℕ E) → ParsesUnsigned 64 10 text r → is_numeral text ≡ true
    → r ≡ Ok (digits_value 10 text)
read_number text r h is =
    let d = digits_of (all_ascii_digits text) (length text) is in
    parse_gives own 64 text r h d.2 d.0 (omega (arith, digits_value_short own text 10 d.2 d.1))

both : (a b : Bool) → a ≡ true → b ≡ true → (a && b) ≡ true
both a b x y = cc

second : (a b : Bool) → b ≡ false → (a && b) ≡ false
second true b y = y
second false b y = refl

-- a number in its range
pub number_inside : (most n : ℕ) (text : List ℕ) → is_numeral text ≡ true → n ≡ digits_value 10 text → is_within most n ≡ true
    → Some n ≡ number_to most text
number_inside most n text is same fits =
    let v = digits_value 10 text in
    let within : is_within most v ≡ true = ap (is_within most) (sym same) ∙ fits in
    ap Some same ∙ sym (passed (is_numeral text && is_within most v) v (both (is_numeral text) (is_within most v) is within))

-- a number out of its range
pub number_outside : (most n : ℕ) (text : List ℕ) → n ≡ digits_value 10 text → is_within most n ≡ false → None ≡ number_to most text
number_outside most n text same outside =
    let v = digits_value 10 text in
    let out : is_within most v ≡ false = ap (is_within most) (sym same) ∙ outside in
    sym (failed (is_numeral text && is_within most v) v (second (is_numeral text) (is_within most v) out))

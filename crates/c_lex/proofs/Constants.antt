-- The values of integer constants: at most one each, and only numbers have one.
use Rattle.std.proofs.Common.{◌≡◌, ◌≢◌, ℕ, ℤ, pos, zero, suc, ◌+◌, ◌*◌, ◌^◌, ◌≤◌, ◌<◌, ◌⊎◌, inl, inr, ⊎_elim, true, false, [], ◌∷◌, ◌++◌, length, drop, get_or, codes, refl, sym, ap, ◌∙◌, subst, arith}
use Rattle.std.specs.Char.{is_ascii_digit, digit_value}
use Rattle.std.specs.Str.Parse.{AllDigits, digits_value}
use Rattle.std.proofs.lemmas.Bool.Decides.{nat_tests}
use Rattle.std.proofs.lemmas.Bool.{cases_lt}
use Rattle.c_lex.specs.declared.constant.Constant.{Constant}
use Rattle.c_lex.specs.declared.constant.Constant.TheVariants.{Value, TooLarge, Bad}
use Rattle.c_lex.specs.Bytes.{Bytes, is_word}
use Rattle.c_lex.specs.Pieces.{goes_on_number, is_chain, is_number}
use Rattle.c_lex.specs.Constants.{HasDigits, HasValue}
use Rattle.c_lex.specs.LiteralReading.{HasSmallDigits, begins_hexadecimal, begins_zero, AnswersDigits, Answers}

-- ---- the form of a constant

-- the digits of one base have one value
pub one_digits : {base : ℕ} {w : Bytes} {n m : ℕ} → HasDigits base w n → HasDigits base w m → n ≡ m
one_digits h i = h.is_value ∙ sym i.is_value

-- the bytes `0x` or `0X` before some digits, seen from the whole
pub hexadecimal_form : (w digits : Bytes) → (w ≡ codes "0x" ++ digits) ⊎ (w ≡ codes "0X" ++ digits)
    → (get_or w 0 0 ≡ 48) × ((get_or w 1 0 ≡ 120) ⊎ (get_or w 1 0 ≡ 88)) × (drop 2 w ≡ digits) × (w ≡ 48 ∷ get_or w 1 0 ∷ digits)
hexadecimal_form w digits (inl e) = (ap (λ z. get_or z 0 0) e, inl (ap (λ z. get_or z 1 0) e), ap (drop 2) e, e ∙ ap (λ x. 48 ∷ x ∷ digits) (sym (ap (λ z. get_or z 1 0) e)))
hexadecimal_form w digits (inr e) = (ap (λ z. get_or z 0 0) e, inr (ap (λ z. get_or z 1 0) e), ap (drop 2) e, e ∙ ap (λ x. 48 ∷ x ∷ digits) (sym (ap (λ z. get_or z 1 0) e)))

-- the letter after the 0 of a hexadecimal constant is no octal digit, and goes on a number
letter_of : (x : ℕ) → (x ≡ 120) ⊎ (x ≡ 88) → (8 ≤ digit_value x) × (is_word x ≡ true)
letter_of x (inl e) = subst (λ y. (8 ≤ digit_value y) × (is_word y ≡ true)) (sym e) (omega arith, refl)
letter_of x (inr e) = subst (λ y. (8 ≤ digit_value y) × (is_word y ≡ true)) (sym e) (omega arith, refl)

-- no hexadecimal constant has octal digits alone
no_octal : (w digits : Bytes) → (w ≡ codes "0x" ++ digits) ⊎ (w ≡ codes "0X" ++ digits) → AllDigits 8 w → ⊥
no_octal w digits e h =
    let f = hexadecimal_form w digits e in
    let i : AllDigits 8 (48 ∷ get_or w 1 0 ∷ digits) = subst (AllDigits 8) f.3 h in
    let l = (letter_of (get_or w 1 0) f.1).0 in
    omega (arith, i.1.0)

-- the value of a hexadecimal constant is that of the digits after `0x`
hexadecimal_digits : (w digits : Bytes) (n : ℕ) → (w ≡ codes "0x" ++ digits) ⊎ (w ≡ codes "0X" ++ digits) → HasDigits 16 digits n → HasDigits 16 (drop 2 w) n
hexadecimal_digits w digits n e h = subst (λ z. HasDigits 16 z n) (sym (hexadecimal_form w digits e).2) h

-- a word has one value at most
pub one_value : {w : Bytes} {n m : ℕ} → HasValue w n → HasValue w m → n ≡ m
one_value (HasValue.decimal f h) (HasValue.decimal g i) = one_digits h i
one_value (HasValue.decimal f h) (HasValue.octal g i) = absurd (f g)
one_value {w = w} (HasValue.decimal f h) (HasValue.hexadecimal d e i) = absurd (f (hexadecimal_form w d e).0)
one_value (HasValue.octal f h) (HasValue.decimal g i) = absurd (g f)
one_value (HasValue.octal f h) (HasValue.octal g i) = one_digits h i
one_value {w = w} (HasValue.octal f h) (HasValue.hexadecimal d e i) = absurd (no_octal w d e h.digits)
one_value {w = w} (HasValue.hexadecimal d e h) (HasValue.decimal g i) = absurd (g (hexadecimal_form w d e).0)
one_value {w = w} (HasValue.hexadecimal d e h) (HasValue.octal g i) = absurd (no_octal w d e i.digits)
one_value {w = w} {n = n} {m = m} (HasValue.hexadecimal d e h) (HasValue.hexadecimal c f i) = one_digits (hexadecimal_digits w d n e h) (hexadecimal_digits w c m f i)

-- ---- a constant is a number

-- a digit of a base up to sixteen goes on a number
digit_goes_on : (before b : ℕ) → digit_value b < 16 → goes_on_number before b ≡ true
digit_goes_on before b h = let w : is_word b ≡ true = grind (arith, nat_tests) in rw w refl

-- some digits go on a number
digits_go_on : (base before : ℕ) (w : Bytes) → base ≤ 16 → AllDigits base w → is_chain goes_on_number before w ≡ true
digits_go_on base before [] s h = refl
digits_go_on base before (b ∷ w) s h = rw (digit_goes_on before b (omega (arith, h.0))) (digits_go_on base b w s h.1)

-- a constant of digits alone is a number
digits_are_number : (base : ℕ) (w : Bytes) (n : ℕ) → base ≤ 10 → HasDigits base w n → is_number w ≡ true
digits_are_number base [] n s h = absurd (omega (arith, h.some))
digits_are_number base (b ∷ w) n s h =
    let v : digit_value b < 10 = omega (arith, h.digits.0) in
    let d : is_ascii_digit b ≡ true = grind (arith, nat_tests) in
    rw d (digits_go_on base b w (omega arith) h.digits.1)

-- a hexadecimal constant is a number
hexadecimal_is_number : (x n : ℕ) (digits : Bytes) → is_word x ≡ true → HasDigits 16 digits n → is_number (48 ∷ x ∷ digits) ≡ true
hexadecimal_is_number x n digits l h = rw l (digits_go_on 16 x digits (omega arith) h.digits)

-- what has a value is a number
pub value_is_number : {w : Bytes} {n : ℕ} → HasValue w n → is_number w ≡ true
value_is_number {w = w} {n = n} (HasValue.decimal f h) = digits_are_number 10 w n (omega arith) h
value_is_number {w = w} {n = n} (HasValue.octal f h) = digits_are_number 8 w n (omega arith) h
value_is_number {w = w} {n = n} (HasValue.hexadecimal d e h) =
    let f = hexadecimal_form w d e in
    subst (λ z. is_number z ≡ true) (sym f.3) (hexadecimal_is_number (get_or w 1 0) n d (letter_of (get_or w 1 0) f.1).1 h)

-- ---- one more digit

-- the step of `capped` where the digits so far have a small value
capped_small : (base all value digit next : ℕ) → value ≡ all
    → (value * base + digit < 2 ^ 31 → next ≡ value * base + digit) → (2 ^ 31 ≤ value * base + digit → next ≡ 2 ^ 31)
    → (all * base + digit < 2 ^ 31 → next ≡ all * base + digit) × (2 ^ 31 ≤ all * base + digit → next ≡ 2 ^ 31)
capped_small base all value digit next e s l =
    subst (λ v. (v * base + digit < 2 ^ 31 → next ≡ v * base + digit) × (2 ^ 31 ≤ v * base + digit → next ≡ 2 ^ 31)) e (s, l)

-- a product with a factor of 1 or more is no smaller than the other factor
product_above : (n base : ℕ) → 1 ≤ base → n ≤ n * base
product_above n base h = grind arith

-- the step of `capped` where they have a large one
capped_large : (base all value digit next : ℕ) → 1 ≤ base → 2 ^ 31 ≤ all → value ≡ 2 ^ 31
    → (2 ^ 31 ≤ value * base + digit → next ≡ 2 ^ 31)
    → (all * base + digit < 2 ^ 31 → next ≡ all * base + digit) × (2 ^ 31 ≤ all * base + digit → next ≡ 2 ^ 31)
capped_large base all value digit next b big e l =
    let p = product_above value base b in
    let q = product_above all base b in
    let r = l (omega arith) in
    (λ h. absurd (omega arith), λ h. r)

-- with one more digit the value is still that of the digits, or the limit
pub capped : (base all value digit next : ℕ) → 1 ≤ base → (all < 2 ^ 31 → value ≡ all) → (2 ^ 31 ≤ all → value ≡ 2 ^ 31)
    → (value * base + digit < 2 ^ 31 → next ≡ value * base + digit) → (2 ^ 31 ≤ value * base + digit → next ≡ 2 ^ 31)
    → (all * base + digit < 2 ^ 31 → next ≡ all * base + digit) × (2 ^ 31 ≤ all * base + digit → next ≡ 2 ^ 31)
capped base all value digit next b f g s l =
    ⊎_elim (λ h. capped_small base all value digit next (f h) s l) (λ h. capped_large base all value digit next b h (g h) l) (cases_lt all (2 ^ 31))

-- the value or the limit is no larger than the limit
pub below_limit : (more next : ℕ) → (more < 2 ^ 31 → next ≡ more) → (2 ^ 31 ≤ more → next ≡ 2 ^ 31) → next ≤ 2 ^ 31
below_limit more next s l = ⊎_elim (λ h. omega (arith, s h)) (λ h. omega (arith, l h)) (cases_lt more (2 ^ 31))

-- each of some digits is a digit
pub digit_at : (base : ℕ) (w : Bytes) (i : ℕ) → AllDigits base w → i < length w → digit_value (get_or w i 0) < base
digit_at base [] i h l = absurd (omega arith)
digit_at base (b ∷ w) zero h l = h.0
digit_at base (b ∷ w) (suc i) h l = digit_at base w i h.1 (omega arith)

-- ---- answers

-- digits with a small value
pub answers_value : (base : ℕ) (w : Bytes) (v : ℕ) (x : ℤ) → HasSmallDigits base w v → v < 2 ^ 31 → x ≡ pos v → AnswersDigits base w (Value x)
answers_value base w v x h s e =
    ⊎_elim (λ l. (digits_value base w, h.digits, l, e ∙ ap pos (h.small l))) (λ l. absurd (omega (arith, h.large l))) (cases_lt (digits_value base w) (2 ^ 31))

-- digits with a large value
pub answers_large : (base : ℕ) (w : Bytes) (v : ℕ) → HasSmallDigits base w v → 2 ^ 31 ≤ v → AnswersDigits base w TooLarge
answers_large base w v h s =
    ⊎_elim (λ l. absurd (omega (arith, h.small l))) (λ l. (digits_value base w, h.digits, l)) (cases_lt (digits_value base w) (2 ^ 31))

-- an answer of some digits is one of a word that has the value of these digits, and no other
answers_by : (base : ℕ) (digits w : Bytes) (r : Constant) → ((n : ℕ) → HasDigits base digits n → HasValue w n) → ((n : ℕ) → HasValue w n → HasDigits base digits n)
    → AnswersDigits base digits r → Answers w r
answers_by base digits w (Value x) f g a = (a.0, f a.0 a.1, a.2, a.3)
answers_by base digits w TooLarge f g a = (a.0, f a.0 a.1, a.2)
answers_by base digits w Bad f g a = λ n h. a n (g n h)

-- what doesn't begin with 0 has a value by decimal digits alone
only_decimal : (w : Bytes) (n : ℕ) → get_or w 0 0 ≢ 48 → HasValue w n → HasDigits 10 w n
only_decimal w n f (HasValue.decimal g h) = h
only_decimal w n f (HasValue.octal g h) = absurd (f g)
only_decimal w n f (HasValue.hexadecimal d e h) = absurd (f (hexadecimal_form w d e).0)

-- what begins with no 0 is answered by its decimal digits
pub decimal_answers : (w : Bytes) (r : Constant) → begins_zero w ≡ false → AnswersDigits 10 w r → Answers w r
decimal_answers w r f a =
    let g : get_or w 0 0 ≢ 48 = no_zero w f in
    answers_by 10 w w r (λ n h. HasValue.decimal g h) (λ n h. only_decimal w n g h) a
  where
    no_zero : (w : Bytes) → begins_zero w ≡ false → get_or w 0 0 ≢ 48
    no_zero [] f = λ e. absurd (omega arith)
    no_zero (b ∷ w) f = λ e. absurd (grind (arith, nat_tests))

-- what begins with 0, but with no `0x` or `0X`, has a value by octal digits alone
only_octal : (w : Bytes) (n : ℕ) → get_or w 0 0 ≡ 48 → begins_hexadecimal w ≡ false → HasValue w n → HasDigits 8 w n
only_octal w n f x (HasValue.decimal g h) = absurd (g f)
only_octal w n f x (HasValue.octal g h) = h
only_octal w n f x (HasValue.hexadecimal d (inl e) h) = absurd (let g = ap begins_hexadecimal e in cc)
only_octal w n f x (HasValue.hexadecimal d (inr e) h) = absurd (let g = ap begins_hexadecimal e in cc)

-- what begins with 0, but with no `0x` or `0X`, is answered by its octal digits
pub octal_answers : (w : Bytes) (r : Constant) → begins_hexadecimal w ≡ false → begins_zero w ≡ true → AnswersDigits 8 w r → Answers w r
octal_answers w r x f a =
    let g : get_or w 0 0 ≡ 48 = zero_first w f in
    answers_by 8 w w r (λ n h. HasValue.octal g h) (λ n h. only_octal w n g x h) a
  where
    zero_first : (w : Bytes) → begins_zero w ≡ true → get_or w 0 0 ≡ 48
    zero_first [] f = absurd (cc)
    zero_first (b ∷ w) f = grind (arith, nat_tests)

-- what begins with `0x` or `0X` has a value by the hexadecimal digits after
only_hexadecimal : (w digits : Bytes) (n : ℕ) → (w ≡ codes "0x" ++ digits) ⊎ (w ≡ codes "0X" ++ digits) → HasValue w n → HasDigits 16 digits n
only_hexadecimal w digits n e (HasValue.decimal g h) = absurd (g (hexadecimal_form w digits e).0)
only_hexadecimal w digits n e (HasValue.octal g h) = absurd (no_octal w digits e h.digits)
only_hexadecimal w digits n e (HasValue.hexadecimal d f h) = subst (λ z. HasDigits 16 z n) (hexadecimal_form w digits e).2 (hexadecimal_digits w d n f h)

-- a word that begins with `0x` or `0X` is one of these and the rest
hexadecimal_parts : (w : Bytes) → begins_hexadecimal w ≡ true → (w ≡ codes "0x" ++ drop 2 w) ⊎ (w ≡ codes "0X" ++ drop 2 w)
hexadecimal_parts [] h = absurd (cc)
hexadecimal_parts (b ∷ []) h = absurd (cc)
hexadecimal_parts (b ∷ c ∷ w) h =
    let e : b ≡ 48 = grind (arith, nat_tests) in
    let f : (c ≡ 120) ⊎ (c ≡ 88) = grind (arith, nat_tests) in
    ⊎_elim (λ i. inl (ap (λ x. x ∷ c ∷ w) e ∙ ap (λ x. 48 ∷ x ∷ w) i)) (λ i. inr (ap (λ x. x ∷ c ∷ w) e ∙ ap (λ x. 48 ∷ x ∷ w) i)) f

-- what begins with `0x` or `0X` is answered by its hexadecimal digits
pub hexadecimal_answers : (w : Bytes) (r : Constant) → begins_hexadecimal w ≡ true → AnswersDigits 16 (drop 2 w) r → Answers w r
hexadecimal_answers w r h a =
    let e = hexadecimal_parts w h in
    answers_by 16 (drop 2 w) w r (λ n i. HasValue.hexadecimal (drop 2 w) e i) (λ n i. only_hexadecimal w (drop 2 w) n e i) a

-- ---- what the answers mean

-- a word with a value that an `int` holds is answered by it
pub small_answer : (w : Bytes) (r : Constant) (n : ℕ) → Answers w r → HasValue w n → n < 2 ^ 31 → r ≡ Value (pos n)
small_answer w (Value x) n a h s = ap Value (a.3 ∙ ap pos (one_value a.1 h))
small_answer w TooLarge n a h s = absurd (omega (arith, a.2, one_value a.1 h))
small_answer w Bad n a h s = absurd (a n h)

-- a word with a larger value is answered so
pub large_answer : (w : Bytes) (r : Constant) (n : ℕ) → Answers w r → HasValue w n → 2 ^ 31 ≤ n → r ≡ TooLarge
large_answer w (Value x) n a h s = absurd (omega (arith, a.2, one_value a.1 h))
large_answer w TooLarge n a h s = refl
large_answer w Bad n a h s = absurd (a n h)

-- a word without a value is answered so
pub bad_answer : (w : Bytes) (r : Constant) → Answers w r → ((n : ℕ) → HasValue w n → ⊥) → r ≡ Bad
bad_answer w (Value x) a f = absurd (f a.0 a.1)
bad_answer w TooLarge a f = absurd (f a.0 a.1)
bad_answer w Bad a f = refl

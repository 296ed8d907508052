-- The characters between quotes: how the first is read, and that there is one list of them at most.
use Rattle.std.proofs.Common.{◌≡◌, ◌≢◌, ℕ, zero, suc, ◌+◌, ◌-◌, ◌≤◌, ◌<◌, ◌⊎◌, inl, inr, ⊎_elim, Bool, true, false, ◌&&◌, ◌==◌, nat_le, if◌then◌else◌, List, [], ◌∷◌, ◌++◌, length, take, drop, get_or, Option, Some, None, refl, sym, ap, ◌∙◌, subst, arith, append_assoc, append-nil, take-append-drop}
use Rattle.std.specs.Char.{digit_value, is_digit}
use Rattle.std.specs.Str.Parse.{AllDigits, digits_value}
use Rattle.std.proofs.lemmas.Bool.Decides.{nat_tests}
use Rattle.std.proofs.lemmas.Bool.{cases_lt}
use Rattle.std.proofs.lemmas.List.{length-take-le, take_at, drop_at, drop_all, drop-drop, length-drop, at_drop_more}
use Rattle.c_lex.specs.declared.character.FirstCharacter.{FirstCharacter}
use Rattle.c_lex.specs.Bytes.{Bytes}
use Rattle.c_lex.specs.Constants.{HasDigits, is_bare, simple_escape, begins_digit, Character, Characters}
use Rattle.c_lex.specs.LiteralReading.{digit_count, by_digits, numeric_escape, escape_by, escape, first_character}

-- ---- digits at the start

-- the step of `counted_digits`, by whether the first byte is a digit
counted_by : (base most b : ℕ) (z : Bytes) (x : Bool) → is_digit b base ≡ x → AllDigits base (take (digit_count base most z) z)
    → AllDigits base (take (if x then suc (digit_count base most z) else 0) (b ∷ z))
counted_by base most b z true e h = (grind (arith, nat_tests), h)
counted_by base most b z false e h = tt

-- what is counted are digits
pub counted_digits : (base most : ℕ) (z : Bytes) → AllDigits base (take (digit_count base most z) z)
counted_digits base zero z = tt
counted_digits base (suc most) [] = tt
counted_digits base (suc most) (b ∷ z) = counted_by base most b z (is_digit b base) refl (counted_digits base most z)

-- the step of `counted_within`, by whether the first byte is a digit
within_by : (x : Bool) (n most l : ℕ) → (n ≤ most) × (n ≤ l) → ((if x then suc n else 0) ≤ suc most) × ((if x then suc n else 0) ≤ suc l)
within_by true n most l h = (omega arith, omega arith)
within_by false n most l h = (omega arith, omega arith)

-- no more are counted than `most`, and than there are bytes
pub counted_within : (base most : ℕ) (z : Bytes) → (digit_count base most z ≤ most) × (digit_count base most z ≤ length z)
counted_within base zero z = (omega arith, omega arith)
counted_within base (suc most) [] = (omega arith, omega arith)
counted_within base (suc most) (b ∷ z) = within_by (is_digit b base) (digit_count base most z) most (length z) (counted_within base most z)

-- the step of `counted_all`, by whether the first byte is a digit
all_by : (base most b : ℕ) (z : Bytes) (x : Bool) → is_digit b base ≡ x → (digit_count base most z ≡ most) ⊎ (begins_digit base (drop (digit_count base most z) z) ≡ false)
    → ((if x then suc (digit_count base most z) else 0) ≡ suc most) ⊎ (begins_digit base (drop (if x then suc (digit_count base most z) else 0) (b ∷ z)) ≡ false)
all_by base most b z true e (inl h) = inl (omega arith)
all_by base most b z true e (inr h) = inr h
all_by base most b z false e h = inr e

-- where fewer are counted, no digit follows
pub counted_all : (base most : ℕ) (z : Bytes) → (digit_count base most z ≡ most) ⊎ (begins_digit base (drop (digit_count base most z) z) ≡ false)
counted_all base zero z = inl refl
counted_all base (suc most) [] = inr refl
counted_all base (suc most) (b ∷ z) = all_by base most b z (is_digit b base) refl (counted_all base most z)

-- before what is no digit none are counted
none_counted : (base most : ℕ) (z : Bytes) → (most ≡ 0) ⊎ (begins_digit base z ≡ false) → digit_count base most z ≡ 0
none_counted base zero z h = refl
none_counted base (suc most) [] h = refl
none_counted base (suc most) (b ∷ z) (inl h) = absurd (omega arith)
none_counted base (suc most) (b ∷ z) (inr h) = ap (λ t. if t then suc (digit_count base most z) else 0) h

-- digits that end at `most` or before no digit are all counted
pub all_counted : (base most : ℕ) (w rest : Bytes) → AllDigits base w → length w ≤ most → (length w ≡ most) ⊎ (begins_digit base rest ≡ false)
    → digit_count base most (w ++ rest) ≡ length w
all_counted base most [] rest h l e = none_counted base most rest (⊎_elim (λ i. inl (sym i)) (λ i. inr i) e)
all_counted base zero (b ∷ w) rest h l e = absurd (omega arith)
all_counted base (suc most) (b ∷ w) rest h l e =
    let d : is_digit b base ≡ true = grind (arith, nat_tests, h.0) in
    let i = all_counted base most w rest h.1 (omega arith) (⊎_elim (λ i. inl (omega arith)) (λ i. inr i) e) in
    ap (λ t. if t then suc (digit_count base most (w ++ rest)) else 0) d ∙ ap suc i

-- some counted digits have their value
counted_value : (base most : ℕ) (z : Bytes) → 1 ≤ digit_count base most z
    → HasDigits base (take (digit_count base most z) z) (digits_value base (take (digit_count base most z) z))
counted_value base most z h = record {
  some = omega (arith, length-take-le (digit_count base most z) z (counted_within base most z).1);
  digits = counted_digits base most z;
  is_value = refl;
}

-- one more digit is counted
pub count_more : (base most at : ℕ) (z : Bytes) → at < most → at < length z → is_digit (get_or z at 0) base ≡ true
    → digit_count base (most - at) (drop at z) ≡ suc (digit_count base (most - (at + 1)) (drop (at + 1) z))
count_more base most at z m l d =
    let n : most - at ≡ suc (most - (at + 1)) = omega arith in
    ap (λ k. digit_count base k (drop at z)) n ∙ at_drop_more (digit_count base (suc (most - (at + 1)))) z at 0 l
    ∙ ap (λ t. if t then suc (digit_count base (most - (at + 1)) (drop (at + 1) z)) else 0) d

-- at a byte that is no digit none is counted
pub count_stops : (base most at : ℕ) (z : Bytes) → at < length z → is_digit (get_or z at 0) base ≡ false → digit_count base (most - at) (drop at z) ≡ 0
count_stops base most at z l d = none_counted base (most - at) (drop at z) (inr (at_drop_more (begins_digit base) z at 0 l ∙ d))

-- at the end none is counted
pub count_ends : (base most at : ℕ) (z : Bytes) → length z ≤ at → digit_count base (most - at) (drop at z) ≡ 0
count_ends base most at z l = none_counted base (most - at) (drop at z) (inr (ap (begins_digit base) (drop_all at z l)))

-- where the counted bytes have no value, no character is written
pub no_value : (base most before : ℕ) (z : Bytes) → ((n : ℕ) → HasDigits base (take (digit_count base most z) z) n → ⊥) → None ≡ numeric_escape base most before z
unfolding numeric_escape
no_value base most before z f =
    let n = digit_count base most z in
    ⊎_elim
    (λ l.
    let p : nat_le 1 n ≡ false = grind (arith, nat_tests) in
    sym (ap (λ t. if t && nat_le (digits_value base (take n z)) 255 then Some (record { value = digits_value base (take n z); len = before + n }) else None) p))
    (λ l. absurd (f (digits_value base (take n z)) (counted_value base most z l)))
    (cases_lt n 1)

-- ---- the first character

-- f is the first character of z between such quotes
pub record IsFirst (quote : ℕ) (z : Bytes) (f : FirstCharacter) : Type 0 where
  pub character : Character quote z f.value (drop f.len z)
  pub some : 1 ≤ f.len
  pub within : f.len ≤ length z

-- what `by_digits` gives
by_digits_is : (base before count : ℕ) (z : Bytes) (f : FirstCharacter) → by_digits base before count z ≡ Some f
    → (1 ≤ count) × (digits_value base (take count z) ≤ 255) × (f.value ≡ digits_value base (take count z)) × (f.len ≡ before + count)
by_digits_is base before count z f h = by (nat_le 1 count) (nat_le (digits_value base (take count z)) 255) refl refl h
  where
    by : (x y : Bool) → nat_le 1 count ≡ x → nat_le (digits_value base (take count z)) 255 ≡ y
        → (if x && y then Some (record { value = digits_value base (take count z); len = before + count }) else None) ≡ Some f
        → (1 ≤ count) × (digits_value base (take count z) ≤ 255) × (f.value ≡ digits_value base (take count z)) × (f.len ≡ before + count)
    by true true p q e = (grind (arith, nat_tests), grind (arith, nat_tests), cc, cc)
    by true false p q e = absurd (cc)
    by false y p q e = absurd (cc)

-- what `by_digits` gives of one digit or more with a value up to 255
by_digits_gives : (base before count : ℕ) (z : Bytes) (value : ℕ) → 1 ≤ count → value ≡ digits_value base (take count z) → value ≤ 255
    → by_digits base before count z ≡ Some (record { value = value; len = before + count })
by_digits_gives base before count z value s e l =
    let p : nat_le 1 count ≡ true = grind (arith, nat_tests) in
    let q : nat_le (digits_value base (take count z)) 255 ≡ true = grind (arith, nat_tests) in
    ap (λ t. if t && nat_le (digits_value base (take count z)) 255 then Some (record { value = digits_value base (take count z); len = before + count }) else None) p
    ∙ ap (λ t. if t then Some (record { value = digits_value base (take count z); len = before + count }) else None) q
    ∙ ap (λ v. Some (record { value = v; len = before + count })) (sym e)

-- what an octal escape of the bytes z gives is the first character after a backslash
octal_first : (quote : ℕ) (z : Bytes) (f : FirstCharacter) → numeric_escape 8 3 1 z ≡ Some f → IsFirst quote (92 ∷ z) f
unfolding numeric_escape
octal_first quote z f h =
    let n = digit_count 8 3 z in
    let p = by_digits_is 8 1 n z f h in
    let v = counted_value 8 3 z p.0 in
    let w = counted_within 8 3 z in
    let t = length-take-le n z w.1 in
    let l : f.len ≡ suc n = omega (arith, p.3) in
    let c : Character quote (92 ∷ z) (digits_value 8 (take n z)) (drop n z) =
    Character.octal (take n z) (ap (λ y. 92 ∷ y) (sym (take-append-drop n z))) v (omega (arith, w.0)) (⊎_elim (λ i. inl (t ∙ i)) (λ i. inr i) (counted_all 8 3 z)) p.1 in
    record {
      character = subst (λ k. Character quote (92 ∷ z) f.value (drop k (92 ∷ z))) (sym l) (subst (λ k. Character quote (92 ∷ z) k (drop n z)) (sym p.2) c);
      some = omega arith;
      within = omega (arith, w.1);
    }

-- after as many digits as there are bytes no digit follows
hexadecimal_ends : (z : Bytes) → begins_digit 16 (drop (digit_count 16 (length z) z) z) ≡ false
hexadecimal_ends z =
    ⊎_elim (λ i. ap (begins_digit 16) (drop_all (digit_count 16 (length z) z) z (omega arith))) (λ i. i) (counted_all 16 (length z) z)

-- what a hexadecimal escape gives is the first character after a backslash and `x`
hexadecimal_first : (quote : ℕ) (z : Bytes) (f : FirstCharacter) → numeric_escape 16 (length z) 2 z ≡ Some f → IsFirst quote (92 ∷ 120 ∷ z) f
unfolding numeric_escape
hexadecimal_first quote z f h =
    let n = digit_count 16 (length z) z in
    let p = by_digits_is 16 2 n z f h in
    let v = counted_value 16 (length z) z p.0 in
    let w = counted_within 16 (length z) z in
    let l : f.len ≡ suc (suc n) = omega (arith, p.3) in
    let c : Character quote (92 ∷ 120 ∷ z) (digits_value 16 (take n z)) (drop n z) =
    Character.hexadecimal (take n z) (ap (λ y. 92 ∷ 120 ∷ y) (sym (take-append-drop n z))) v (hexadecimal_ends z) p.1 in
    record {
      character = subst (λ k. Character quote (92 ∷ 120 ∷ z) f.value (drop k (92 ∷ 120 ∷ z))) (sym l) (subst (λ k. Character quote (92 ∷ 120 ∷ z) k (drop n z)) (sym p.2) c);
      some = omega arith;
      within = omega (arith, w.1);
    }

-- the step of `escape_first` without a simple escape, by whether the byte is `x`
numeric_first : (quote b : ℕ) (z : Bytes) (f : FirstCharacter) (x : Bool) → (b == 120) ≡ x
    → (if x then numeric_escape 16 (length z) 2 z else numeric_escape 8 3 1 (b ∷ z)) ≡ Some f → IsFirst quote (92 ∷ b ∷ z) f
numeric_first quote b z f true e h = let s : 120 ≡ b = grind (arith, nat_tests) in subst (λ c. IsFirst quote (92 ∷ c ∷ z) f) s (hexadecimal_first quote z f h)
numeric_first quote b z f false e h = octal_first quote (b ∷ z) f h

-- the step of `escape_first`, by the value of a simple escape
simple_first : (quote b : ℕ) (z : Bytes) (f : FirstCharacter) (o : Option ℕ) → simple_escape b ≡ o → escape_by o b z ≡ Some f → IsFirst quote (92 ∷ b ∷ z) f
simple_first quote b z f (Some value) e h =
    let c : Character quote (92 ∷ b ∷ z) value z = Character.simple b refl e in
    let i : IsFirst quote (92 ∷ b ∷ z) (record { value = value; len = 2 }) = record { character = c; some = omega arith; within = omega arith } in
    let s : record { value = value; len = 2 } ≡ f = cc in
    subst (IsFirst quote (92 ∷ b ∷ z)) s i
simple_first quote b z f None e h = numeric_first quote b z f (b == 120) refl h

-- what an escape gives is the first character after its backslash
escape_first : (quote : ℕ) (z : Bytes) (f : FirstCharacter) → escape z ≡ Some f → IsFirst quote (92 ∷ z) f
unfolding escape
escape_first quote [] f h = absurd (cc)
escape_first quote (b ∷ z) f h = simple_first quote b z f (simple_escape b) refl h

-- the step of `first_is`, by the tests of the first byte
first_by : (quote b : ℕ) (z : Bytes) (f : FirstCharacter) (x y : Bool) → (b == 92) ≡ x → is_bare quote b ≡ y
    → (if x then escape z else if y then Some (record { value = b; len = 1 }) else None) ≡ Some f → IsFirst quote (b ∷ z) f
first_by quote b z f true y e g h = let s : 92 ≡ b = grind (arith, nat_tests) in subst (λ c. IsFirst quote (c ∷ z) f) s (escape_first quote z f h)
first_by quote b z f false true e g h =
    let i : IsFirst quote (b ∷ z) (record { value = b; len = 1 }) = record { character = Character.bare g; some = omega arith; within = omega arith } in
    let s : record { value = b; len = 1 } ≡ f = cc in
    subst (IsFirst quote (b ∷ z)) s i
first_by quote b z f false false e g h = absurd (cc)

-- what is read is the first character
pub first_is : (quote : ℕ) (z : Bytes) (f : FirstCharacter) → first_character quote z ≡ Some f → IsFirst quote z f
unfolding first_character
first_is quote [] f h = absurd (cc)
first_is quote (b ∷ z) f h = first_by quote b z f (b == 92) (is_bare quote b) refl refl h

-- ---- each first character is read

-- a first character that is read, with what stands after it
abbrev pub Reads : ℕ → Bytes → ℕ → Bytes → Type 0
Reads quote z value rest = (n : ℕ) × (first_character quote z ≡ Some (record { value = value; len = n })) × (drop n z ≡ rest)

-- after a backslash the escape is read
escape_read : (quote : ℕ) (z : Bytes) (f : FirstCharacter) → escape z ≡ Some f → first_character quote (92 ∷ z) ≡ Some f
unfolding first_character
escape_read quote z f h = h

-- a byte that stands for itself is no backslash
bare_read : (quote b : ℕ) (rest : Bytes) → is_bare quote b ≡ true → first_character quote (b ∷ rest) ≡ Some (record { value = b; len = 1 })
unfolding first_character
bare_read quote b rest h =
    let s : (b == 92) ≡ false = grind (arith, nat_tests) in
    ap (λ t. if t then escape rest else if is_bare quote b then Some (record { value = b; len = 1 }) else None) s
    ∙ ap (λ t. if t then Some (record { value = b; len = 1 }) else None) h

-- a simple escape is read
simple_read : (b value : ℕ) (rest : Bytes) → simple_escape b ≡ Some value → escape (b ∷ rest) ≡ Some (record { value = value; len = 2 })
unfolding escape
simple_read b value rest h = ap (λ o. escape_by o b rest) h

-- an octal digit is no simple escape, and no `x`
octal_digit : (b : ℕ) → digit_value b < 8 → (simple_escape b ≡ None) × ((b == 120) ≡ false)
unfolding simple_escape
octal_digit b h = (grind (arith, nat_tests), grind (arith, nat_tests))

-- after a backslash an octal digit begins a numeric escape
octal_read : (b : ℕ) (z : Bytes) (f : FirstCharacter) → digit_value b < 8 → numeric_escape 8 3 1 (b ∷ z) ≡ Some f → escape (b ∷ z) ≡ Some f
unfolding escape
octal_read b z f d h =
    let o = octal_digit b d in
    ap (λ o. escape_by o b z) o.0 ∙ ap (λ t. if t then numeric_escape 16 (length z) 2 z else numeric_escape 8 3 1 (b ∷ z)) o.1 ∙ h

-- after a backslash and `x` stands a hexadecimal escape
hexadecimal_read : (z : Bytes) (f : FirstCharacter) → numeric_escape 16 (length z) 2 z ≡ Some f → escape (120 ∷ z) ≡ Some f
unfolding escape simple_escape
hexadecimal_read z f h = h

-- a numeric escape reads its digits
numeric_read : (base most before value : ℕ) (w rest : Bytes) → HasDigits base w value → length w ≤ most → (length w ≡ most) ⊎ (begins_digit base rest ≡ false) → value ≤ 255
    → numeric_escape base most before (w ++ rest) ≡ Some (record { value = value; len = before + length w })
unfolding numeric_escape
numeric_read base most before value w rest h l e s =
    let n = all_counted base most w rest h.digits l e in
    let v : value ≡ digits_value base (take (length w) (w ++ rest)) = h.is_value ∙ ap (digits_value base) (sym (take_at w rest (length w) refl)) in
    ap (λ k. by_digits base before k (w ++ rest)) n ∙ by_digits_gives base before (length w) (w ++ rest) value h.some v s

-- an octal escape is read
octal_reads : (quote value : ℕ) (w rest : Bytes) → HasDigits 8 w value → length w ≤ 3 → (length w ≡ 3) ⊎ (begins_digit 8 rest ≡ false) → value ≤ 255
    → Reads quote (92 ∷ w ++ rest) value rest
octal_reads quote value [] rest h l e s = absurd (omega (arith, h.some))
octal_reads quote value (b ∷ w) rest h l e s = (
  1 + length (b ∷ w),
  escape_read quote (b ∷ w ++ rest) (record { value = value; len = 1 + length (b ∷ w) })
      (octal_read b (w ++ rest) (record { value = value; len = 1 + length (b ∷ w) }) h.digits.0 (numeric_read 8 3 1 value (b ∷ w) rest h l e s)),
  drop_at (92 ∷ b ∷ w) rest (1 + length (b ∷ w)) (omega arith),
)

-- a hexadecimal escape is read
hexadecimal_reads : (quote value : ℕ) (w rest : Bytes) → HasDigits 16 w value → begins_digit 16 rest ≡ false → value ≤ 255 → Reads quote (92 ∷ 120 ∷ w ++ rest) value rest
hexadecimal_reads quote value w rest h e s = (
  2 + length w,
  escape_read quote (120 ∷ w ++ rest) (record { value = value; len = 2 + length w })
      (hexadecimal_read (w ++ rest) (record { value = value; len = 2 + length w }) (numeric_read 16 (length (w ++ rest)) 2 value w rest h (length_prefix w rest) (inr e) s)),
  drop_at (92 ∷ 120 ∷ w) rest (2 + length w) (omega arith),
)
  where
    length_prefix : (w rest : Bytes) → length w ≤ length (w ++ rest)
    length_prefix [] rest = omega arith
    length_prefix (b ∷ w) rest = let h = length_prefix w rest in omega arith

-- each first character is read
pub first_read : {quote value : ℕ} {z rest : Bytes} → Character quote z value rest → Reads quote z value rest
first_read {quote = quote} {value = b} {rest = rest} (Character.bare h) = (1, bare_read quote b rest h, refl)
first_read {quote = quote} {value = value} {rest = rest} (Character.simple b e h) =
    subst (λ z. Reads quote z value rest) (sym e) (2, escape_read quote (b ∷ rest) (record { value = value; len = 2 }) (simple_read b value rest h), refl)
first_read {quote = quote} {value = value} {rest = rest} (Character.octal w e h l n s) = subst (λ z. Reads quote z value rest) (sym e) (octal_reads quote value w rest h l n s)
first_read {quote = quote} {value = value} {rest = rest} (Character.hexadecimal w e h n s) = subst (λ z. Reads quote z value rest) (sym e) (hexadecimal_reads quote value w rest h n s)

-- where none is read, there is none
pub first_missing : {quote value : ℕ} {z rest : Bytes} → first_character quote z ≡ None → Character quote z value rest → ⊥
first_missing e c = let r = first_read c in absurd (cc (e, r.1))

-- ---- lists of characters

-- equal first characters have equal values and lengths
same_first : (a b : FirstCharacter) → Some a ≡ Some b → (a.value ≡ b.value) × (a.len ≡ b.len)
same_first a b e =
    let f : a ≡ b = cc in
    (ap (λ (x : FirstCharacter). x.value) f, ap (λ (x : FirstCharacter). x.len) f)

-- a text has one first character at most
pub one_character : {quote v u : ℕ} {z x y : Bytes} → Character quote z v x → Character quote z u y → (v ≡ u) × (x ≡ y)
one_character {v = v} {u = u} {z = z} {x = x} {y = y} c d =
    let r = first_read c in
    let s = first_read d in
    let same = same_first (record { value = v; len = r.0 }) (record { value = u; len = s.0 }) (sym r.1 ∙ s.1) in
    (same.0, sym r.2 ∙ ap (λ n. drop n z) same.1 ∙ s.2)

-- nothing begins with no character
nothing_first : (quote : ℕ) → first_character quote [] ≡ None
unfolding first_character
nothing_first quote = refl

-- where a text begins with a character, the others are those of the rest
pub after_first : {quote v : ℕ} {z rest : Bytes} {values : List ℕ} → Characters quote z values → Character quote z v rest
    → (others : List ℕ) × (values ≡ v ∷ others) × Characters quote rest others
after_first {quote = quote} Characters.done c = absurd (first_missing (nothing_first quote) c)
after_first {quote = quote} {v = v} {rest = rest} (Characters.more {value = u} {rest = y} {values = others} d l) c =
    let s = one_character d c in
    (others, ap (λ x. x ∷ others) s.0, subst (λ x. Characters quote x others) s.1 l)

-- no text has no characters and some
no_others : {quote : ℕ} {z : Bytes} {values : List ℕ} → Characters quote z values → z ≡ [] → values ≡ []
no_others Characters.done e = refl
no_others {quote = quote} (Characters.more {value = v} {rest = rest} c l) e = absurd (first_missing (nothing_first quote) (subst (λ x. Character quote x v rest) e c))

-- a text is one list of characters at most
pub one_characters : {quote : ℕ} {z : Bytes} {vs us : List ℕ} → Characters quote z vs → Characters quote z us → vs ≡ us
one_characters Characters.done d = sym (no_others d refl)
one_characters (Characters.more {value = v} {values = values} c l) d =
    let s = after_first d c in
    ap (λ x. v ∷ x) (one_characters l s.2) ∙ sym s.1

-- ---- what is answered between quotes

-- where the first character takes all bytes, it is the only one
pub only_one : (quote : ℕ) (z : Bytes) (f : FirstCharacter) → first_character quote z ≡ Some f → f.len ≡ length z → Characters quote z (f.value ∷ [])
only_one quote z f e l =
    let rest : drop f.len z ≡ [] = drop_all f.len z (omega arith) in
    Characters.more (first_is quote z f e).character (subst (λ x. Characters quote x []) (sym rest) Characters.done)

-- where it takes fewer, there is no one character
pub not_only : (quote v : ℕ) (z : Bytes) (f : FirstCharacter) → first_character quote z ≡ Some f → f.len ≢ length z → Characters quote z (v ∷ []) → ⊥
not_only quote v z f e l (Characters.more {value = u} {rest = rest} c d) =
    let i = first_is quote z f e in
    let s = first_read c in
    let same = same_first f (record { value = u; len = s.0 }) (sym e ∙ s.1) in
    let left : drop f.len z ≡ [] = ap (λ n. drop n z) same.1 ∙ s.2 ∙ nothing_left d refl in
    l (omega (arith, ap length left, length-drop f.len z, i.within))
  where
    nothing_left : {x : Bytes} {us : List ℕ} → Characters quote x us → us ≡ [] → x ≡ []
    nothing_left Characters.done g = refl
    nothing_left (Characters.more a b) g = absurd (cc)

-- where none is read, some bytes are no characters
pub no_characters : {quote : ℕ} {z : Bytes} {vs : List ℕ} → first_character quote z ≡ None → 1 ≤ length z → Characters quote z vs → ⊥
no_characters e l Characters.done = absurd (omega arith)
no_characters e l (Characters.more c d) = first_missing e c

-- where none is read, there is no one character
pub no_one : (quote v : ℕ) (z : Bytes) → first_character quote z ≡ None → Characters quote z (v ∷ []) → ⊥
no_one quote v z e (Characters.more c d) = first_missing e c

-- the bytes before the place `at` have been read as characters with these values
pub record IsReadTo (quote : ℕ) (body : Bytes) (at : ℕ) (values : List ℕ) : Type 0 where
  pub reads : (us : List ℕ) → Characters quote (drop at body) us → Characters quote body (values ++ us)
  pub leaves : (us : List ℕ) → Characters quote body us → (vs : List ℕ) × Characters quote (drop at body) vs

-- at the begin nothing has been read
pub read_none : (quote : ℕ) (body : Bytes) → IsReadTo quote body 0 []
read_none quote body = record { reads = λ us d. d; leaves = λ us d. (us, d) }

-- one more character is read
pub read_more : (quote : ℕ) (body : Bytes) (at : ℕ) (values : List ℕ) (f : FirstCharacter) → IsReadTo quote body at values
    → first_character quote (drop at body) ≡ Some f → IsReadTo quote body (at + f.len) (values ++ f.value ∷ [])
read_more quote body at values f r e =
    let i = first_is quote (drop at body) f e in
    let rest : drop f.len (drop at body) ≡ drop (at + f.len) body = drop-drop f.len at body in
    let c : Character quote (drop at body) f.value (drop (at + f.len) body) = subst (Character quote (drop at body) f.value) rest i.character in
    record {
      reads = λ us d. subst (Characters quote body) (sym (append_assoc values (f.value ∷ []) us)) (r.reads (f.value ∷ us) (Characters.more c d));
      leaves = λ us d.
          let vs = r.leaves us d in
          let a = after_first vs.1 c in
          (a.0, a.2);
    }

-- what has been read up to the end are the characters of the whole
pub read_all : (quote : ℕ) (body : Bytes) (at : ℕ) (values : List ℕ) → IsReadTo quote body at values → length body ≤ at → Characters quote body values
read_all quote body at values r l =
    subst (Characters quote body) (append-nil values) (r.reads [] (subst (λ x. Characters quote x []) (sym (drop_all at body l)) Characters.done))

-- where no character follows, the whole is no list of characters
pub read_stops : (quote : ℕ) (body : Bytes) (at : ℕ) (values us : List ℕ) → IsReadTo quote body at values → at < length body → first_character quote (drop at body) ≡ None
    → Characters quote body us → ⊥
read_stops quote body at values us r l e d = let vs = r.leaves us d in no_characters e (omega (arith, length-drop at body)) vs.1

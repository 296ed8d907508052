-- Whole literals at the start of a text: one at most, and where it ends.
use Rattle.std.proofs.Common.{◌≡◌, ◌≢◌, ℕ, suc, ◌+◌, ◌≤◌, ◌<◌, Bool, true, false, ◌&&◌, ◌==◌, if◌then◌else◌, [], ◌∷◌, ◌++◌, length, take, drop, get_or, Option, Some, None, refl, sym, ap, ◌∙◌, subst, arith, take-append-drop}
use Rattle.std.proofs.lemmas.Bool.Decides.{nat_tests}
use Rattle.std.proofs.lemmas.List.{length-take-le, take_at, at_drop_more, at_drop_all}
use Rattle.c_lex.specs.Bytes.{Bytes}
use Rattle.c_lex.specs.Constants.{closes, is_quoted}
use Rattle.c_lex.specs.LiteralReading.{literal_end}
use Rattle.c_lex.proofs.Runs.{both_left, both_right}

-- ---- where a literal ends

-- a prefix of z, from the place `at` to the place m, goes up to the closing quote
abbrev Ended : ℕ → Bool → ℕ → ℕ → Bytes → Type 0
Ended quote passed at m z = (n : ℕ) × (m ≡ at + n) × (n ≤ length z) × (closes quote passed (take n z) ≡ true)

-- the step of `end_closes`, by the tests of the first byte
closes_by : (quote at m b : ℕ) (z : Bytes) (x passed y : Bool) → (b == 10) ≡ x → (b == quote) ≡ y
    → ((p : Bool) → literal_end quote p (at + 1) z ≡ Some m → Ended quote p (at + 1) m z)
    → (if x then None else if passed then literal_end quote false (at + 1) z else if y then Some (at + 1) else literal_end quote (b == 92) (at + 1) z) ≡ Some m
    → Ended quote passed at m (b ∷ z)
closes_by quote at m b z true passed y e f g h = absurd (cc)
closes_by quote at m b z false true y e f g h =
    let r = g false h in
    (suc r.0, omega (arith, r.1), omega (arith, r.2), ap (λ t. if t then false else closes quote false (take r.0 z)) e ∙ r.3)
closes_by quote at m b z false false true e f g h =
    let same : at + 1 ≡ m = cc in
    (1, sym same, omega arith, ap (λ t. if t then false else (if b == quote then true else false)) e ∙ ap (λ t. if t then true else false) f)
closes_by quote at m b z false false false e f g h =
    let r = g (b == 92) h in (
      suc r.0,
      omega (arith, r.1),
      omega (arith, r.2),
      ap (λ t. if t then false else (if b == quote then length (take r.0 z) == 0 else closes quote (b == 92) (take r.0 z))) e
          ∙ ap (λ t. if t then length (take r.0 z) == 0 else closes quote (b == 92) (take r.0 z)) f ∙ r.3,
    )

-- at the place that is found, the prefix closes
pub end_closes : (quote : ℕ) (passed : Bool) (at m : ℕ) (z : Bytes) → literal_end quote passed at z ≡ Some m → Ended quote passed at m z
end_closes quote passed at m [] h = absurd (cc)
end_closes quote passed at m (b ∷ z) h =
    closes_by quote at m b z (b == 10) passed (b == quote) refl refl (λ p i. end_closes quote p (at + 1) m z i) h

-- a list of no length is at its end
none_left : (v : Bytes) → (length v == 0) ≡ true → length v ≡ 0
none_left v h = grind (arith, nat_tests)

-- the step of `end_found`, by the tests of the first byte
found_by : (quote at b : ℕ) (v x : Bytes) (l passed y : Bool) → (b == 10) ≡ l → (b == quote) ≡ y
    → ((p : Bool) → closes quote p v ≡ true → literal_end quote p (at + 1) (v ++ x) ≡ Some (at + 1 + length v))
    → (if l then false else if passed then closes quote false v else if y then length v == 0 else closes quote (b == 92) v) ≡ true
    → (if l then None else if passed then literal_end quote false (at + 1) (v ++ x) else if y then Some (at + 1) else literal_end quote (b == 92) (at + 1) (v ++ x))
    ≡ Some (at + suc (length v))
found_by quote at b v x true passed y e f g h = absurd (cc)
found_by quote at b v x false true y e f g h = g false h ∙ ap Some (omega arith)
found_by quote at b v x false false true e f g h = ap Some (omega (arith, none_left v h))
found_by quote at b v x false false false e f g h = g (b == 92) h ∙ ap Some (omega arith)

-- where a prefix closes, its end is found
pub end_found : (quote : ℕ) (passed : Bool) (at : ℕ) (v x : Bytes) → closes quote passed v ≡ true → literal_end quote passed at (v ++ x) ≡ Some (at + length v)
end_found quote passed at [] x h = absurd (cc)
end_found quote passed at (b ∷ v) x h =
    found_by quote at b v x (b == 10) passed (b == quote) refl refl (λ p i. end_found quote p (at + 1) v x i) h

-- ---- whole literals

-- a whole literal begins with its quote, and has the closing quote too
pub quoted_begins : (quote : ℕ) (w : Bytes) → is_quoted quote w ≡ true → (2 ≤ length w) × (get_or w 0 0 ≡ quote)
quoted_begins quote [] h = absurd (cc)
quoted_begins quote (b ∷ []) h = absurd (let f = both_right (b == quote) false h in cc)
quoted_begins quote (b ∷ c ∷ w) h = let f = both_left (b == quote) (closes quote false (c ∷ w)) h in (omega arith, grind (arith, nat_tests))

-- the end of a whole literal is found in each text that it begins
quoted_end : (quote : ℕ) (w x : Bytes) → is_quoted quote w ≡ true → literal_end quote false 1 (drop 1 (w ++ x)) ≡ Some (length w)
quoted_end quote [] x h = absurd (cc)
quoted_end quote (b ∷ w) x h = end_found quote false 1 w x (both_right (b == quote) (closes quote false w) h) ∙ ap Some (omega arith)

-- two whole literals at the start of one text are equally long
quoted_length : (quote : ℕ) (w v x y : Bytes) → w ++ x ≡ v ++ y → is_quoted quote w ≡ true → is_quoted quote v ≡ true → length w ≡ length v
quoted_length quote w v x y e h i =
    let f = quoted_end quote w x h in
    let g = quoted_end quote v y i in
    let same = ap (λ z. literal_end quote false 1 (drop 1 z)) e in
    let both : Some (length w) ≡ Some (length v) = sym f ∙ same ∙ g in
    cc

-- a text has one whole literal at its start at most
pub one_quoted : (quote : ℕ) (w v x y : Bytes) → w ++ x ≡ v ++ y → is_quoted quote w ≡ true → is_quoted quote v ≡ true → w ≡ v
one_quoted quote w v x y e h i =
    let l = quoted_length quote w v x y e h i in
    sym (take_at w x (length w) refl) ∙ ap (take (length w)) e ∙ take_at v y (length w) (sym l)

-- ---- where the search stops

-- at a line feed there is no end
pub stops_at_line_feed : (quote at : ℕ) (passed : Bool) (z : Bytes) → at < length z → get_or z at 0 ≡ 10
    → literal_end quote passed at (drop at z) ≡ literal_end quote false 1 (drop 1 z) → literal_end quote false 1 (drop 1 z) ≡ None
stops_at_line_feed quote at passed z l b e = sym e ∙ at_drop_more (literal_end quote passed at) z at 0 l ∙ ap (λ x. literal_end quote passed at (x ∷ drop (at + 1) z)) b

-- at the closing quote is the end
pub stops_at_quote : (quote at : ℕ) (passed : Bool) (z : Bytes) → at < length z → passed ≡ false → get_or z at 0 ≢ 10 → get_or z at 0 ≡ quote
    → literal_end quote passed at (drop at z) ≡ literal_end quote false 1 (drop 1 z) → literal_end quote false 1 (drop 1 z) ≡ Some (at + 1)
stops_at_quote quote at passed z l p f b e =
    let x : (get_or z at 0 == 10) ≡ false = grind (arith, nat_tests) in
    let y : (get_or z at 0 == quote) ≡ true = grind (arith, nat_tests) in
    let after = drop (at + 1) z in
    let c = get_or z at 0 in
    sym e ∙ at_drop_more (literal_end quote passed at) z at 0 l ∙ ap (λ t. literal_end quote t at (c ∷ after)) p
    ∙ ap (λ t. if t then None else if c == quote then Some (at + 1) else literal_end quote (c == 92) (at + 1) after) x
    ∙ ap (λ t. if t then Some (at + 1) else literal_end quote (c == 92) (at + 1) after) y

-- at the end of the text there is none
pub stops_at_end : (quote at : ℕ) (passed : Bool) (z : Bytes) → length z ≤ at
    → literal_end quote passed at (drop at z) ≡ literal_end quote false 1 (drop 1 z) → literal_end quote false 1 (drop 1 z) ≡ None
stops_at_end quote at passed z l e = sym e ∙ at_drop_all (literal_end quote passed at) z at l

-- ---- what is answered of a text

-- a prefix that is a whole literal is found
pub literal_found : (quote n : ℕ) (z : Bytes) → n ≤ length z → is_quoted quote (take n z) ≡ true → literal_end quote false 1 (drop 1 z) ≡ Some n
literal_found quote n z l h =
    ap (λ y. literal_end quote false 1 (drop 1 y)) (sym (take-append-drop n z)) ∙ quoted_end quote (take n z) (drop n z) h ∙ ap Some (length-take-le n z l)

-- where no end is found, no prefix is a whole literal
pub literal_missing : (quote n : ℕ) (z : Bytes) → literal_end quote false 1 (drop 1 z) ≡ None → is_quoted quote (take n z) ≡ true → ⊥
literal_missing quote n z e h =
    let f : literal_end quote false 1 (drop 1 z) ≡ Some (length (take n z)) = ap (λ y. literal_end quote false 1 (drop 1 y)) (sym (take-append-drop n z)) ∙ quoted_end quote (take n z) (drop n z) h in
    let g : None ≡ Some (length (take n z)) = sym e ∙ f in
    absurd (cc)

-- what is found is a whole literal
pub found_literal : (quote m : ℕ) (z : Bytes) → 0 < length z → get_or z 0 0 ≡ quote → literal_end quote false 1 (drop 1 z) ≡ Some m
    → (m ≤ length z) × (is_quoted quote (take m z) ≡ true)
found_literal quote m [] l q e = absurd (omega arith)
found_literal quote m (b ∷ z) l q e =
    let r = end_closes quote false 1 m z e in
    let t : (b == quote) ≡ true = grind (arith, nat_tests) in
    let n : suc r.0 ≡ m = omega (arith, r.1) in
    (omega (arith, r.1, r.2), subst (λ k. is_quoted quote (take k (b ∷ z)) ≡ true) n (ap (λ t. t && closes quote false (take r.0 z)) t ∙ r.3))

-- two answers are the same
abbrev IsSame : Option ℕ → Option ℕ → Type 0
IsSame a b = a ≡ b

-- where no end is found, a prefix that is a whole literal would be found
pub none_only : (quote n : ℕ) (z : Bytes) → literal_end quote false 1 (drop 1 z) ≡ None → n ≤ length z → is_quoted quote (take n z) ≡ true → IsSame None (Some n)
none_only quote n z e l h = sym e ∙ literal_found quote n z l h

-- Texts that are written one after another.
use Rattle.std.proofs.Common.{◌≡◌, ℕ, suc, ◌+◌, ◌-◌, ◌≤◌, Bool, true, false, cond, if◌then◌else◌, ℤ, pos, Some, None, eqb, List, [], ◌∷◌, ◌++◌, length, drop, refl, sym, ap, ◌∙◌, arith, eqb-true, length-append, length-drop, drop-drop}
use Rattle.std.proofs.lemmas.Bool.{cond-true, cond-false}
use Rattle.std.proofs.lemmas.List.Sums.{common_prefix_len-le}
use Rattle.c_stdio.specs.Io.{Io}
use Rattle.c_stdio.specs.Output.{agreeing, is_expected, expected_after}

-- where a first text is expected, the second one is compared with what is expected after it
agreeing-append : (p q e : List ℕ) → agreeing (p ++ q) e ≡ cond (eqb (agreeing p e) (length p)) (length p + agreeing q (drop (length p) e)) (agreeing p e)
agreeing-append [] q e = omega arith
agreeing-append (x ∷ p) q [] = empty (length p) (agreeing q (drop (suc (length p)) []))
  where
    empty : (n m : ℕ) → 0 ≡ cond (eqb 0 (suc n)) (suc n + m) 0
    empty n m = grind arith
agreeing-append (x ∷ p) q (y ∷ e) = next (eqb x y) (agreeing (p ++ q) e) (agreeing p e) (length p) (agreeing q (drop (length p) e)) (agreeing-append p q e)
  where
    next : (b : Bool) (s l n m : ℕ) → s ≡ cond (eqb l n) (n + m) l → cond b (1 + s) 0 ≡ cond (eqb (cond b (1 + l) 0) (suc n)) (suc n + m) (cond b (1 + l) 0)
    next true s l n m e = grind arith
    next false s l n m e = grind arith

pub agreeing_le : (text expected : List ℕ) → agreeing text expected ≤ length expected
agreeing_le text expected = (common_prefix_len-le eqb text expected).1

pub agreeing_nothing : (text expected : List ℕ) → expected ≡ [] → agreeing text expected ≡ 0
agreeing_nothing [] expected e = refl
agreeing_nothing (b ∷ text) expected e = ap (agreeing (b ∷ text)) e

same_test : (a k l n m : ℕ) → n ≡ a + k → m ≡ a + l → eqb k l ≡ eqb n m
same_test a k l n m p q = grind arith

-- what is left to write of a text is written from here as the whole from the start
pub record Writes (whole first rest now : List ℕ) : Type 0 where
  pub expected : is_expected rest now ≡ is_expected whole first
  pub state : expected_after rest now ≡ expected_after whole first

pub writes_at_first : (whole first : List ℕ) → Writes whole first whole first
writes_at_first whole first = record { expected = refl; state = refl }

module _ (p q now : List ℕ) where
  agree_on : is_expected p now ≡ true → agreeing (p ++ q) now ≡ agreeing p now + agreeing q (expected_after p now)
  agree_on h =
      let all : agreeing p now ≡ length p = eqb-true _ _ h in
      agreeing-append p q now ∙ cond-true _ _ _ h ∙ ap (λ n. n + agreeing q (drop n now)) (sym all)

  -- after a first text that was expected
  pub writes_on : {whole first : List ℕ} → Writes whole first (p ++ q) now → is_expected p now ≡ true → Writes whole first q (expected_after p now)
  writes_on w h =
      let all : agreeing p now ≡ length p = eqb-true _ _ h in
      let on = agree_on h in
      let long : length (p ++ q) ≡ agreeing p now + length q = length-append p q ∙ ap (λ n. n + length q) (sym all) in
      record {
        expected = same_test (agreeing p now) (agreeing q (expected_after p now)) (length q) (agreeing (p ++ q) now) (length (p ++ q)) on long ∙ w.expected;
        state = drop-drop (agreeing q (expected_after p now)) (agreeing p now) now ∙ ap (λ n. drop n now) (sym on) ∙ w.state;
      }

  stopped : is_expected p now ≡ false → agreeing (p ++ q) now ≡ agreeing p now
  stopped h = agreeing-append p q now ∙ cond-false _ _ _ h

  -- after a first text that wasn't expected
  pub stops : {whole first : List ℕ} → Writes whole first (p ++ q) now → is_expected p now ≡ false → false ≡ is_expected whole first
  stops w h =
      let le = (common_prefix_len-le eqb p now).0 in
      short p q (agreeing p now) (agreeing (p ++ q) now) le h (stopped h) ∙ w.expected
    where
      short : (p q : List ℕ) (k n : ℕ) → k ≤ length p → eqb k (length p) ≡ false → n ≡ k → false ≡ eqb n (length (p ++ q))
      short p q k n le ne e = grind (arith, length-append p q)

  pub stops_after : {whole first : List ℕ} → Writes whole first (p ++ q) now → is_expected p now ≡ false → expected_after p now ≡ expected_after whole first
  stops_after w h = ap (λ n. drop n now) (sym (stopped h)) ∙ w.state

-- how many bytes an expected text takes
pub taken : (text expected : List ℕ) → is_expected text expected ≡ true → length expected - length (expected_after text expected) ≡ length text
taken text expected h =
    let all : agreeing text expected ≡ length text = eqb-true _ _ h in
    let le = (common_prefix_len-le eqb text expected).1 in
    omega (arith, length-drop (agreeing text expected) expected)

pub taken_le : (text expected : List ℕ) → length (expected_after text expected) ≤ length expected
taken_le text expected = omega (arith, length-drop (agreeing text expected) expected)

-- the number of bytes that was written, by what is still expected
pub count : (text expected after : List ℕ) (n : ℤ) → true ≡ is_expected text expected → after ≡ expected_after text expected → n ≡ pos (length expected - length after) → Some n ≡ (if is_expected text expected then Some (pos (length text)) else None)
count text expected after n all is e =
    let h = sym all in
    let long : length expected - length after ≡ length text = ap (λ l. length expected - length l) is ∙ taken text expected h in
    ap Some (e ∙ ap pos long) ∙ sym (cond-true (is_expected text expected) _ _ h)

-- the state after a write, where nothing was read
pub written : (new old : Io) (input e1 e2 : List ℕ) → new ≡ record old { expected = e1 } → e1 ≡ e2 → old.input ≡ input → new ≡ record { input = input; expected = e2 }
written new old input e1 e2 s p q =
    let make : List ℕ → List ℕ → Io = λ i e. record { input = i; expected = e } in
    s ∙ ap (λ e. make old.input e) p ∙ ap (λ i. make i e2) q

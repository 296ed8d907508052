-- Quotients and remainders.
use Rattle.std.proofs.Common.{◌≡◌, zero, suc, ◌<◌, ℤ, pos, negsuc, ◌+ℤ◌, ◌*ℤ◌, Bool, true, false, cond, Some, None, refl, sym, ap, subst, ◌∙◌, arith}
use Rattle.std.specs.Prelude.{int_div, int_rem, unsigned_abs}
use Rattle.std.proofs.lemmas.Int.{quot-rem, rem_below}
use Rattle.c_tree.specs.declared.stmt.Ty.{Ty}
use Rattle.c_tree.specs.declared.expr.BinOp.TheVariants.{Rem}
use Rattle.c_arith.specs.Arith.{is_zero, in_range, fitting, op}
use Rattle.c_arith.specs.Laws.{DivisionIsWhole, RemaindersAreLess}

-- where there is a quotient there is a remainder
pub remainder_is : (ty : Ty) (a b q : ℤ) → is_zero b ≡ false → fitting ty (int_div a b) ≡ Some q → op ty Rem a b ≡ Some (int_rem a b)
remainder_is ty a b q h e = ap (λ t. cond t None (cond (in_range ty (int_div a b)) (Some (int_rem a b)) None)) h ∙ here (in_range ty (int_div a b)) e
  where
    here : (t : Bool) → cond t (Some (int_div a b)) None ≡ Some q → cond t (Some (int_rem a b)) None ≡ Some (int_rem a b)
    here true k = refl
    here false k = absurd (cc)

-- a result that is given only where one test fails and another holds
given_is : (t u : Bool) (x y : ℤ) → cond t None (cond u (Some x) None) ≡ Some y → x ≡ y
given_is true u x y e = absurd (cc)
given_is false true x y e = cc
given_is false false x y e = absurd (cc)

first_fails : (t u : Bool) (x y : ℤ) → cond t None (cond u (Some x) None) ≡ Some y → t ≡ false
first_fails true u x y e = absurd (cc)
first_fails false u x y e = refl

pub division_whole : DivisionIsWhole
division_whole ty a b q r e f =
    let quotient = given_is (is_zero b) (in_range ty (int_div a b)) (int_div a b) q e in
    let rest = given_is (is_zero b) (in_range ty (int_div a b)) (int_rem a b) r f in
    ap (λ z. z *ℤ b +ℤ r) (sym quotient) ∙ ap (λ z. int_div a b *ℤ b +ℤ z) (sym rest) ∙ quot-rem a b

not_zero : (b : ℤ) → is_zero b ≡ false → 0 < unsigned_abs b
not_zero (pos zero) e = absurd (cc)
not_zero (pos (suc n)) e = omega arith
not_zero (negsuc n) e = omega arith

pub remainders_less : RemaindersAreLess
remainders_less ty a b r f =
    let rest = given_is (is_zero b) (in_range ty (int_div a b)) (int_rem a b) r f in
    let below = rem_below a b (not_zero b (first_fails (is_zero b) (in_range ty (int_div a b)) (int_rem a b) r f)) in
    let P : ℤ → Type 0 = λ z. unsigned_abs z < unsigned_abs b in
    subst P rest below

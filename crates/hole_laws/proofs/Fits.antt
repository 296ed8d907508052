-- A hole fits at a location as well as what stands there.
use Rattle.std.proofs.Common.{◌≡◌, Bool, true, false, if◌then◌else◌, List, [], ◌∷◌, ◌++◌, refl, ap, ap₂, Some, None, add-zero}
use Rattle.c_tree.specs.declared.place.LocKind.{LocKind}
use Rattle.c_tree.specs.declared.place.LocKind.TheVariants.{Guard, Cond, Right}
use Rattle.c_tree.specs.Parts.{span_of_code}
use Rattle.c_tree.specs.Tree.{Tree, hole, hole_after, is_pure, block, if_then, next, done}
use Rattle.c_types.specs.declared.fault.Fault.{Fault}
use Rattle.c_types.specs.declared.scope.Declaration.{Declaration}
use Rattle.c_types.specs.Expressions.{as_number, faults}
use Rattle.c_types.specs.Slots.{code_count, resolved_tree}
use Rattle.c_types.specs.Statements.{code_faults}
use Rattle.c_meaning.specs.Filled.{hole_of}
use Rattle.rewrite_laws.specs.Laws.{FitsAsWell, RewrittenIsChecked}
use Rattle.hole_laws.specs.Laws.{HoledIsChecked}

-- what is added after nothing
nothing_after : (xs : List Fault) → xs ++ [] ≡ xs
nothing_after [] = refl
nothing_after (x ∷ xs) = ap (λ z. x ∷ z) (nothing_after xs)

-- a statement with an `if` round it, whose test is the hole
guard_fits : FitsAsWell (hole_of Guard)
guard_fits = record {
  is_number = λ ds e a f. a;
  faultless = λ ds e a f. f;
  slots = λ ds e was. was;
  same_faults = λ ret ds in_loop c. nothing_after (code_faults ret ds in_loop c);
  code_slots = λ ds n c was i. block (next (if_then hole (was i) (span_of_code c)) done) (span_of_code c);
  same_count = λ c. add-zero (code_count c);
}

-- the hole of a condition
module _ (ds : List Declaration) (e : Tree) where
  condition_number : (b : Bool) → as_number ds (if b then hole else hole_after e) ≡ []
  condition_number true = refl
  condition_number false = refl

  condition_faultless : (b : Bool) → as_number ds e ≡ [] → faults ds e ≡ [] → faults ds (if b then hole else hole_after e) ≡ []
  condition_faultless true a f = refl
  condition_faultless false a f = ap₂ (λ (xs ys : List Fault). xs ++ ys) a f

  condition_slots : (b : Bool) → resolved_tree ds e ≡ e → resolved_tree ds (if b then hole else hole_after e) ≡ (if b then hole else hole_after e)
  condition_slots true was = refl
  condition_slots false was = ap hole_after was

condition_fits : FitsAsWell (hole_of Cond)
condition_fits = record {
  is_number = λ ds e a f. condition_number ds e (is_pure e);
  faultless = λ ds e a f. condition_faultless ds e (is_pure e) a f;
  slots = λ ds e was. condition_slots ds e (is_pure e) was;
  same_faults = λ ret ds in_loop c. refl;
  code_slots = λ ds n c was. was;
  same_count = λ c. refl;
}

right_side_fits : FitsAsWell (hole_of Right)
right_side_fits = record {
  is_number = λ ds e a f. refl;
  faultless = λ ds e a f. refl;
  slots = λ ds e was. refl;
  same_faults = λ ret ds in_loop c. refl;
  code_slots = λ ds n c was. was;
  same_count = λ c. refl;
}

pub hole_fits : (kind : LocKind) → FitsAsWell (hole_of kind)
hole_fits Guard = guard_fits
hole_fits Cond = condition_fits
hole_fits Right = right_side_fits

-- a checked program with a hole is a checked program
pub holed_checked : RewrittenIsChecked → HoledIsChecked
holed_checked law p h None = h
holed_checked law p h (Some l) = law (hole_of l.kind) (hole_fits l.kind) p h l

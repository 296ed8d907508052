-- Another operator between the same operands.
use Rattle.std.proofs.Common.{◌≡◌, List, refl, ap, ◌∙◌}
use Rattle.c_tree.specs.declared.expr.BinOp.{BinOp}
use Rattle.c_tree.specs.declared.place.Span.{Span}
use Rattle.c_tree.specs.Tree.{Tree, binary}
use Rattle.c_types.specs.declared.scope.Declaration.{Declaration}
use Rattle.c_types.specs.Alike.{TypedAlike}
use Rattle.c_types.specs.Slots.{resolved_tree}

resolved_operator : (ds : List Declaration) (old new : BinOp) (l r : Tree) (s : Span)
    → resolved_tree ds (binary old l r s) ≡ binary old l r s → resolved_tree ds (binary new l r s) ≡ binary new l r s
resolved_operator ds old new l r s is =
    let left : resolved_tree ds l ≡ l = cc in
    let right : resolved_tree ds r ≡ r = cc in
    ap (λ x. binary new x (resolved_tree ds r) s) left ∙ ap (λ x. binary new l x s) right

-- it is typed alike
pub operators_alike : (old new : BinOp) (l r : Tree) (s : Span) → TypedAlike (binary old l r s) (binary new l r s)
operators_alike old new l r s = record {
  same_span = refl;
  same_kind = λ ds. refl;
  same_faults = λ ds. refl;
  same_place = λ ds. refl;
  same_operand = refl;
  same_store = λ ds. refl;
  same_constant = refl;
  resolves = λ ds. resolved_operator ds old new l r s;
}

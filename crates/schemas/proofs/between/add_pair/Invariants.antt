use Rattle.std.proofs.Common.{◌≡◌, ◌++◌, map, drop}
use Rattle.c_tree.specs.declared.expr.BinOp.{BinOp}
use Rattle.schemas.specs.declared.atom.Bound.{Bound}
use Rattle.schemas.proofs.between.add_pair.Given as goal

-- the bounds so far, with those of the comparisons that are left
abbrev pub invariant-loop-op : goal.invariant-loop-op
invariant-loop-op l =
    l.found.items ++ map (λ (op : BinOp). let b : Bound = record { left = l.x; op = op; right = l.y } in b) (drop l.op-index l.op-items)
    ≡ l.initial.found.items ++ map (λ (op : BinOp). let b : Bound = record { left = l.x; op = op; right = l.y } in b) l.op-items

use Rattle.std.proofs.Common.{◌≡◌, ◌++◌, map, drop}
use Rattle.schemas.specs.declared.atom.Atom.{Atom}
use Rattle.schemas.specs.declared.edit.Edit.TheVariants.{Leaf}
use Rattle.schemas.proofs.offered.add_leaf.Given as goal

-- the edits so far, with those by the atoms that are left
abbrev pub invariant-loop-atom : goal.invariant-loop-atom
invariant-loop-atom l = l.edits.items ++ map (λ (a : Atom). Leaf l.k a) (drop l.atom-index l.atoms) ≡ l.initial.edits.items ++ map (λ (a : Atom). Leaf l.k a) l.atoms

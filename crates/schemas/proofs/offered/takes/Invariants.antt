use Rattle.std.proofs.Common.{◌≡◌, ◌++◌, map, drop}
use Rattle.schemas.specs.declared.atom.Atom.{Atom}
use Rattle.schemas.specs.declared.edit.Edit.TheVariants.{Take}
use Rattle.schemas.proofs.offered.takes.Given as goal

-- the edits so far, with those by the atoms that are left
abbrev pub invariant-loop-atom : goal.invariant-loop-atom
invariant-loop-atom l = l.edits.items ++ map (λ (a : Atom). Take a) (drop l.atom-index l.atoms) ≡ map (λ (a : Atom). Take a) l.atoms

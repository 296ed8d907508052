-- The bounds over some atoms: comparisons of a variable with an atom that stands after it.
use Rattle.std.specs.Prelude.{Bool, true, false, if◌then◌else◌, List, [], ◌∷◌, ◌++◌, map}
use Rattle.std.specs.List.{flat_map}
use Rattle.c_tree.specs.declared.expr.BinOp.{BinOp}
use Rattle.c_tree.specs.declared.expr.BinOp.TheVariants.{Lt, Le, Gt, Ge, Eq, Ne}
use Rattle.schemas.specs.declared.atom.Atom.{Atom}
use Rattle.schemas.specs.declared.atom.Atom.TheVariants.{Var, Num}
use Rattle.schemas.specs.declared.atom.Bound.{Bound}

-- the comparisons (C11 6.5.8, 6.5.9)
abbrev pub comparisons : List BinOp
comparisons = Eq ∷ Ne ∷ Lt ∷ Le ∷ Gt ∷ Ge ∷ []

-- whether an atom is a variable
abbrev pub is_variable : Atom → Bool
is_variable (Var word slot) = true
is_variable (Num value word) = false

-- the bounds of an atom by another
abbrev pub bounds_by : Atom → Atom → List Bound
bounds_by x y = map (λ op. record { left = x; op = op; right = y }) comparisons

-- all bounds over these atoms: by the variable, then by the atom after it, then by the comparison
abbrev pub bounds : List Atom → List Bound
bounds [] = []
bounds (x ∷ later) = (if is_variable x then flat_map (bounds_by x) later else []) ++ bounds later

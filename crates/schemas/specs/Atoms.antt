-- The atoms of a place: the variables and constants that new expressions are made of.
use Rattle.std.specs.Prelude.{ℕ, ℤ, pos, Bool, false, not, if◌then◌else◌, List, [], ◌∷◌, ◌++◌, map, filter, take, codes}
use Rattle.std.specs.List.{list_any}
use Rattle.std.specs.Ordering.{int_eq}
use Rattle.c_tree.specs.Tree.{Outer}
use Rattle.c_types.specs.declared.visible.Visible.{Visible}
use Rattle.c_types.specs.Visible.{visible_at}
use Rattle.schemas.specs.declared.atom.Atom.{Atom}
use Rattle.schemas.specs.declared.atom.Atom.TheVariants.{Var, Num}
use Rattle.schemas.specs.Constants.{Constant, constants_at}

-- a visible variable as an atom
abbrev pub variable_atom : Visible → Atom
variable_atom v = Var v.word v.slot

-- the variables that are numbers, and no arrays
abbrev pub numbers : List Visible → List Visible
numbers = filter (λ v. not v.array)

-- the first eight of them
abbrev pub first_variables : List Visible → List Atom
first_variables vs = map variable_atom (take 8 (numbers vs))

-- the constants 0 and 1, spelled so
abbrev pub zero : Atom
zero = Num (pos 0) (codes "0")

abbrev pub one : Atom
one = Num (pos 1) (codes "1")

-- a constant as an atom
abbrev pub constant_atom : Constant → Atom
constant_atom c = Num c.value c.word

-- whether an atom is a constant of this value
abbrev pub is_value : ℤ → Atom → Bool
is_value n (Num m word) = int_eq m n
is_value n (Var word slot) = false

-- whether a constant has the value of one of these atoms
abbrev pub is_known : List Atom → Constant → Bool
is_known before c = list_any (is_value c.value) before

-- the constants that have another value than each of these atoms and than each constant before them
abbrev pub further : List Atom → List Constant → List Atom
further before [] = []
further before (c ∷ cs) =
    if is_known before c then further before cs
    else (constant_atom c ∷ further (before ++ constant_atom c ∷ []) cs)

-- The atoms at a place: the first eight visible variables that are numbers, 0 and 1, and the first four further values of
-- the constants in the function's body.
abbrev pub atoms_at : ℕ → List Outer → List Atom
atoms_at place program =
    first_variables (visible_at place program)
    ++ zero ∷ one ∷ take 4 (further (zero ∷ one ∷ []) (constants_at place program))

-- The edits that can be made at a location, by their costs.
use Rattle.std.specs.Prelude.{ℕ, ◌+◌, zero, suc, min, nat_eq, Bool, true, false, if◌then◌else◌, List, [], ◌∷◌, ◌++◌, map, Option, Some, None}
use Rattle.std.specs.List.{list_any}
use Rattle.c_tree.specs.declared.expr.BinOp.{BinOp}
use Rattle.c_tree.specs.declared.expr.BinOp.TheVariants.{Mul, Div, Rem, Add, Sub, Lt, Le, Gt, Ge, Eq, Ne, Both, Either}
use Rattle.c_tree.specs.declared.place.Loc.{Loc}
use Rattle.c_tree.specs.declared.place.LocKind.{LocKind}
use Rattle.c_tree.specs.declared.place.LocKind.TheVariants as which
use Rattle.c_tree.specs.Tree.{Tree, binary, is_pure, Outer}
use Rattle.c_location.specs.Locations.{Part, expression, statement, part_at}
use Rattle.schemas.specs.declared.atom.Atom.{Atom}
use Rattle.schemas.specs.declared.edit.Edit.{Edit}
use Rattle.schemas.specs.declared.edit.Edit.TheVariants.{Op, Leaf, Plus, Side, Negate, Take, Narrow, Widen, Guard}
use Rattle.schemas.specs.Atoms.{atoms_at}
use Rattle.schemas.specs.Bounds.{bounds}
use Rattle.schemas.specs.Edits.{made}
use Rattle.schemas.specs.Leaves.{leaves}
use Rattle.schemas.specs.Same.{same}

-- The operators that may stand in place of one at the top of a condition: the other comparisons (C11 6.5.8, 6.5.9), the other
-- of `&&` and `||` (C11 6.5.13, 6.5.14).
abbrev pub other_operators : BinOp → List BinOp
other_operators Eq = Ne ∷ Lt ∷ Le ∷ Gt ∷ Ge ∷ []
other_operators Ne = Eq ∷ Lt ∷ Le ∷ Gt ∷ Ge ∷ []
other_operators Lt = Eq ∷ Ne ∷ Le ∷ Gt ∷ Ge ∷ []
other_operators Le = Eq ∷ Ne ∷ Lt ∷ Gt ∷ Ge ∷ []
other_operators Gt = Eq ∷ Ne ∷ Lt ∷ Le ∷ Ge ∷ []
other_operators Ge = Eq ∷ Ne ∷ Lt ∷ Le ∷ Gt ∷ []
other_operators Both = Either ∷ []
other_operators Either = Both ∷ []
other_operators op = []

-- the same at the top of a right side: the others of `+ - * / %` (C11 6.5.5, 6.5.6)
abbrev pub other_arithmetic : BinOp → List BinOp
other_arithmetic Add = Sub ∷ Mul ∷ Div ∷ Rem ∷ []
other_arithmetic Sub = Add ∷ Mul ∷ Div ∷ Rem ∷ []
other_arithmetic Mul = Add ∷ Sub ∷ Div ∷ Rem ∷ []
other_arithmetic Div = Add ∷ Sub ∷ Mul ∷ Rem ∷ []
other_arithmetic Rem = Add ∷ Sub ∷ Mul ∷ Div ∷ []
other_arithmetic op = []

-- whether an operator is a comparison
abbrev pub is_comparison : BinOp → Bool
is_comparison Eq = true
is_comparison Ne = true
is_comparison Lt = true
is_comparison Le = true
is_comparison Gt = true
is_comparison Ge = true
is_comparison op = false

-- another operator in place of the one at the top
abbrev pub operator_edits : (BinOp → List BinOp) → Tree → List Edit
operator_edits others (binary op l r s) = map (λ new. Op new) (others op)
operator_edits others e = []

-- each atom in place of each of so many constants and names, of which the first has that number
abbrev pub leaf_edits : List Atom → ℕ → ℕ → List Edit
leaf_edits atoms k zero = []
leaf_edits atoms k (suc count) = map (λ a. Leaf k a) atoms ++ leaf_edits atoms (k + 1) count

-- the right operand of a comparison at the top, plus 1 and minus 1
abbrev pub side_edits : Tree → List Edit
side_edits (binary op l r s) = if is_comparison op then Side true ∷ Side false ∷ [] else []
side_edits e = []

-- these, where the expression has no effect
abbrev pub if_pure : Tree → List Edit → List Edit
if_pure e edits = if is_pure e then edits else []

-- the edits of a condition at a cost, with these atoms
abbrev pub condition_edits : List Atom → Tree → ℕ → List Edit
condition_edits atoms e cost =
    if nat_eq cost 1 then if_pure e (operator_edits other_operators e)
    else (if nat_eq cost 2 then if_pure e (leaf_edits atoms 0 (min (leaves e) 8) ++ side_edits e)
    else (if nat_eq cost 3 then if_pure e (Negate ∷ [])
    else (if nat_eq cost 4 then map (λ b. Narrow b) (bounds atoms)
    else (if nat_eq cost 5 then map (λ b. Widen b) (bounds atoms) else []))))

-- the edits of a right side
abbrev pub right_side_edits : List Atom → Tree → ℕ → List Edit
right_side_edits atoms e cost =
    if nat_eq cost 1 then if_pure e (operator_edits other_arithmetic e)
    else (if nat_eq cost 2 then
    if_pure e (leaf_edits atoms 0 (min (leaves e) 8) ++ (Plus true ∷ Plus false ∷ []))
    else (if nat_eq cost 3 then if_pure e (map (λ a. Take a) atoms) else []))

-- the edits of a statement
abbrev pub guard_edits : List Atom → ℕ → List Edit
guard_edits atoms cost = if nat_eq cost 6 then map (λ b. Guard b) (bounds atoms) else []

-- the edits of a part that stands at a location of a kind
abbrev pub edits_of : LocKind → List Atom → Part → ℕ → List Edit
edits_of which.Cond atoms (expression e) cost = condition_edits atoms e cost
edits_of which.Right atoms (expression e) cost = right_side_edits atoms e cost
edits_of which.Guard atoms (statement c) cost = guard_edits atoms cost
edits_of _ atoms part cost = []

-- the edits of costs 1 to n, in order
abbrev pub edits_upto : LocKind → List Atom → Part → ℕ → List Edit
edits_upto kind atoms part zero = []
edits_upto kind atoms part (suc n) = edits_upto kind atoms part n ++ edits_of kind atoms part (suc n)

-- whether an expression is there and the same as one of these
abbrev pub is_among : Option Tree → List Tree → Bool
is_among None seen = false
is_among (Some e) seen = list_any (same e) seen

-- one more expression, if it is there
abbrev pub and_made : List Tree → Option Tree → List Tree
and_made seen None = seen
and_made seen (Some e) = seen ++ e ∷ []

-- these expressions, and those that the edits make of the part
abbrev pub and_all_made : Part → List Tree → List Edit → List Tree
and_all_made part seen [] = seen
and_all_made part seen (edit ∷ edits) = and_all_made part (and_made seen (made part edit)) edits

-- the edits that make an expression which is the same as none of these, nor as one that an edit before makes
abbrev pub new_edits : Part → List Tree → List Edit → List Edit
new_edits part seen [] = []
new_edits part seen (edit ∷ edits) =
    if is_among (made part edit) seen then new_edits part seen edits
    else (edit ∷ new_edits part (and_made seen (made part edit)) edits)

-- the expression that stood there before: an edit that makes it again is none
abbrev pub old : Part → List Tree
old (expression e) = e ∷ []
old (statement c) = []

-- the candidates at a part: its edits of a cost, but for those that make the old expression or one of an edit before again
abbrev pub candidates_of : LocKind → List Atom → Part → ℕ → List Edit
candidates_of kind atoms part zero = []
candidates_of kind atoms part (suc n) =
    new_edits part (and_all_made part (old part) (edits_upto kind atoms part n)) (edits_of kind atoms part (suc n))

-- the same of what stands there, if anything does
abbrev pub candidates_there : LocKind → List Atom → Option Part → ℕ → List Edit
candidates_there kind atoms None cost = []
candidates_there kind atoms (Some part) cost = candidates_of kind atoms part cost

-- the candidates of a cost at a location of a program
abbrev pub candidates : List Outer → Loc → ℕ → List Edit
candidates program l cost =
    candidates_there l.kind (atoms_at l.at.from program) (part_at l program) cost

-- the expression that an edit makes at a location, if it can be made there
abbrev pub made_there : Option Part → Edit → Option Tree
made_there None edit = None
made_there (Some part) edit = made part edit

abbrev pub made_at : List Outer → Loc → Edit → Option Tree
made_at program l edit = made_there (part_at l program) edit

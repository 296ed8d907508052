-- What the edits make of the part at a location.
use Rattle.std.specs.Prelude.{Bool, if◌then◌else◌, Option, Some, None}
use Rattle.c_tree.specs.declared.expr.BinOp.{BinOp}
use Rattle.c_tree.specs.declared.expr.BinOp.TheVariants.{Add, Sub, Both, Either}
use Rattle.c_tree.specs.declared.expr.UnOp.TheVariants.{Flip}
use Rattle.c_tree.specs.declared.place.Span.{Span}
use Rattle.c_tree.specs.Parts.{span_of, span_of_code}
use Rattle.c_tree.specs.Tree.{Tree, unary, binary, Code}
use Rattle.c_location.specs.Locations.{Part, expression, statement}
use Rattle.schemas.specs.declared.atom.Bound.{Bound}
use Rattle.schemas.specs.declared.edit.Edit.{Edit}
use Rattle.schemas.specs.declared.edit.Edit.TheVariants.{Op, Leaf, Plus, Side, Negate, Take, Narrow, Widen, Guard}
use Rattle.schemas.specs.Atoms.{one}
use Rattle.schemas.specs.Leaves.{atom_tree, with_leaf}

-- All that an edit adds covers the text of what it is added to.

-- the same operands under another operator; what has no operator stays
abbrev pub with_operator : BinOp → Tree → Tree
with_operator new (binary op l r s) = binary new l r s
with_operator new e = e

-- `e + 1` or `e - 1`
abbrev pub by_one : Bool → Tree → Tree
by_one up e = binary (if up then Add else Sub) e (atom_tree one (span_of e)) (span_of e)

-- the same of the right operand; what has no operator stays
abbrev pub side_by_one : Bool → Tree → Tree
side_by_one up (binary op l r s) = binary op l (by_one up r) s
side_by_one up e = e

-- a bound as an expression
abbrev pub bound_tree : Bound → Span → Tree
bound_tree b s = binary b.op (atom_tree b.left s) (atom_tree b.right s) s

-- the new expression in place of one; an edit of a statement leaves it
abbrev pub edited : Tree → Edit → Tree
edited e (Op op) = with_operator op e
edited e (Leaf k a) = with_leaf k a e
edited e (Plus up) = by_one up e
edited e (Side up) = side_by_one up e
edited e Negate = unary Flip e (span_of e)
edited e (Take a) = atom_tree a (span_of e)
edited e (Narrow b) = binary Both e (bound_tree b (span_of e)) (span_of e)
edited e (Widen b) = binary Either e (bound_tree b (span_of e)) (span_of e)
edited e (Guard b) = e

-- the test that is put before a statement; an edit of an expression has none
abbrev pub test_before : Code → Edit → Option Tree
test_before c (Guard b) = Some (bound_tree b (span_of_code c))
test_before c _ = None

-- the expression that an edit makes at a part: a new one in place of an expression, the test before a statement
abbrev pub made : Part → Edit → Option Tree
made (expression e) (Guard b) = None
made (expression e) edit = Some (edited e edit)
made (statement c) edit = test_before c edit

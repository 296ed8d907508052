-- The constants and the names of variables in a pure expression, counted from 0 in text order. The name of an array, which
-- stands before `[`, isn't one of them.
use Rattle.std.specs.Prelude.{ℕ, ◌+◌, ◌-◌, nat_eq, nat_lt, if◌then◌else◌}
use Rattle.c_tree.specs.Tree.{Tree, constant, name, index, call, unary, cast, binary, choice, assign, bump, comma, hole, hole_after}
use Rattle.c_tree.specs.declared.place.Span.{Span}
use Rattle.schemas.specs.declared.atom.Atom.{Atom}
use Rattle.schemas.specs.declared.atom.Atom.TheVariants.{Var, Num}

-- an atom as an expression that covers this text
abbrev pub atom_tree : Atom → Span → Tree
atom_tree (Var word slot) s = name word slot s
atom_tree (Num value word) s = constant value word s

-- how many there are
abbrev pub leaves : Tree → ℕ
leaves (constant n word s) = 1
leaves (name word slot s) = 1
leaves (index word slot e s) = leaves e
leaves (call word args s) = 0
leaves (unary op e s) = leaves e
leaves (cast ty e s) = leaves e
leaves (binary op l r s) = leaves l + leaves r
leaves (choice t a b s) = leaves t + leaves a + leaves b
leaves (assign op place e s) = 0
leaves (bump before up place s) = 0
leaves (comma l r s) = leaves l + leaves r
leaves hole = 0
leaves (hole_after e) = 0

-- the expression with an atom in place of the one of that number, in the same text
abbrev pub with_leaf : ℕ → Atom → Tree → Tree
with_leaf k a (constant n word s) = if nat_eq k 0 then atom_tree a s else constant n word s
with_leaf k a (name word slot s) = if nat_eq k 0 then atom_tree a s else name word slot s
with_leaf k a (index word slot e s) = index word slot (with_leaf k a e) s
with_leaf k a (call word args s) = call word args s
with_leaf k a (unary op e s) = unary op (with_leaf k a e) s
with_leaf k a (cast ty e s) = cast ty (with_leaf k a e) s
with_leaf k a (binary op l r s) =
    if nat_lt k (leaves l) then binary op (with_leaf k a l) r s
    else binary op l (with_leaf (k - leaves l) a r) s
with_leaf k a (choice t b c s) =
    if nat_lt k (leaves t) then choice (with_leaf k a t) b c s
    else (if nat_lt (k - leaves t) (leaves b) then choice t (with_leaf (k - leaves t) a b) c s
    else choice t b (with_leaf (k - leaves t - leaves b) a c) s)
with_leaf k a (assign op place e s) = assign op place e s
with_leaf k a (bump before up place s) = bump before up place s
with_leaf k a (comma l r s) =
    if nat_lt k (leaves l) then comma (with_leaf k a l) r s
    else comma l (with_leaf (k - leaves l) a r) s
with_leaf k a hole = hole
with_leaf k a (hole_after e) = hole_after e

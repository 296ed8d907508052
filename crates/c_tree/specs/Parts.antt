-- The text that a part of a program covers, and the variable that it names.
use Rattle.std.specs.Prelude.{Bool, ◌&&◌, nat_eq}
use Rattle.c_tree.specs.declared.place.Span.{Span}
use Rattle.c_tree.specs.declared.stmt.Slot.{Slot}
use Rattle.c_tree.specs.declared.stmt.Slot.TheVariants.{Unset}
use Rattle.c_tree.specs.Tree.{Tree, constant, name, index, call, unary, cast, binary, choice, assign, bump, comma, hole, hole_after, Code, empty, act, block, if_then, if_else, while, do_while, for, give, break, continue, no_span}

-- the text that an expression covers; a hole covers none
abbrev pub span_of : Tree → Span
span_of (constant n word s) = s
span_of (name word slot s) = s
span_of (index word slot e s) = s
span_of (call word args s) = s
span_of (unary op e s) = s
span_of (cast ty e s) = s
span_of (binary op l r s) = s
span_of (choice t a b s) = s
span_of (assign op place e s) = s
span_of (bump before up place s) = s
span_of (comma l r s) = s
span_of hole = no_span
span_of (hole_after e) = span_of e

-- the text that a statement covers
abbrev pub span_of_code : Code → Span
span_of_code (empty s) = s
span_of_code (act e s) = s
span_of_code (block body s) = s
span_of_code (if_then t a s) = s
span_of_code (if_else t a b s) = s
span_of_code (while t a s) = s
span_of_code (do_while a t s) = s
span_of_code (for i t u a s) = s
span_of_code (give e s) = s
span_of_code (break s) = s
span_of_code (continue s) = s

-- the same first byte and the same byte after the last
abbrev pub same_span : Span → Span → Bool
same_span s t = nat_eq s.from t.from && nat_eq s.to t.to

-- the variable that a name stands for, or the array that an element belongs to; other expressions
-- name none
abbrev pub slot_of : Tree → Slot
slot_of (name word slot s) = slot
slot_of (index word slot e s) = slot
slot_of e = Unset

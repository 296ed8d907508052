-- The text of a pure expression, as a patch writes it.
use Rattle.std.specs.Prelude.{ℕ, List, [], ◌++◌, codes}
use Rattle.c_tree.specs.declared.expr.BinOp.{BinOp}
use Rattle.c_tree.specs.declared.expr.BinOp.TheVariants.{Mul, Div, Rem, Add, Sub, Shl, Shr, Lt, Le, Gt, Ge, Eq, Ne, BitAnd, BitXor, BitOr, Both, Either}
use Rattle.c_tree.specs.declared.expr.UnOp.{UnOp}
use Rattle.c_tree.specs.declared.expr.UnOp.TheVariants.{Plus, Minus, Flip, Compl}
use Rattle.c_tree.specs.declared.stmt.Ty.{Ty}
use Rattle.c_tree.specs.declared.stmt.Ty.TheVariants.{Int, Char}
use Rattle.c_tree.specs.Tree.{Tree, constant, name, index, call, unary, cast, binary, choice, assign, bump, comma, hole, hole_after}

-- a prefix operator's spelling (C11 6.5.3.3)
abbrev pub sign : UnOp → List ℕ
sign Plus = codes "+"
sign Minus = codes "-"
sign Flip = codes "!"
sign Compl = codes "~"

-- the spelling of an operator between two operands (C11 6.5.5 to 6.5.14)
abbrev pub symbol : BinOp → List ℕ
symbol Mul = codes "*"
symbol Div = codes "/"
symbol Rem = codes "%"
symbol Add = codes "+"
symbol Sub = codes "-"
symbol Shl = codes "<<"
symbol Shr = codes ">>"
symbol Lt = codes "<"
symbol Le = codes "<="
symbol Gt = codes ">"
symbol Ge = codes ">="
symbol Eq = codes "=="
symbol Ne = codes "!="
symbol BitAnd = codes "&"
symbol BitXor = codes "^"
symbol BitOr = codes "|"
symbol Both = codes "&&"
symbol Either = codes "||"

-- the name of a type (C11 6.7.2)
abbrev pub type_name : Ty → List ℕ
type_name Int = codes "int"
type_name Char = codes "char"

-- a text in parentheses
abbrev pub parenthesized : List ℕ → List ℕ
parenthesized text = codes "(" ++ text ++ codes ")"

-- an expression with this text, as an operand: a constant, a name and an element stand bare, all
-- else in parentheses
abbrev pub operand : Tree → List ℕ → List ℕ
operand (constant n word s) text = text
operand (name word slot s) text = text
operand (index word slot e s) text = text
operand e text = parenthesized text

-- the text of an expression; a call, an assignment and a bump have none
abbrev pub printed : Tree → List ℕ
printed (constant n word s) = word
printed (name word slot s) = word
printed (index word slot e s) = word ++ codes "[" ++ printed e ++ codes "]"
printed (call word args s) = []
printed (unary op e s) = sign op ++ operand e (printed e)
printed (cast ty e s) = parenthesized (type_name ty) ++ codes " " ++ operand e (printed e)
printed (binary op l r s) =
    operand l (printed l) ++ codes " " ++ symbol op ++ codes " " ++ operand r (printed r)
printed (choice t a b s) =
    operand t (printed t) ++ codes " ? " ++ operand a (printed a) ++ codes " : " ++
    operand b (printed b)
printed (assign op place e s) = []
printed (bump before up place s) = []
printed (comma l r s) = operand l (printed l) ++ codes ", " ++ operand r (printed r)
printed hole = []
printed (hole_after e) = []

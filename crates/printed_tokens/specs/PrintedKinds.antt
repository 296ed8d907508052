-- The tokens of the text of a pure expression, as a patch writes it.
use Rattle.std.specs.Prelude.{List, [], ◌∷◌, ◌++◌}
use Rattle.c_lex.specs.declared.token.Keyword.{Keyword}
use Rattle.c_lex.specs.declared.token.Keyword.TheVariants as key
use Rattle.c_lex.specs.declared.token.Punct.{Punct}
use Rattle.c_lex.specs.declared.token.Punct.TheVariants as mark
use Rattle.c_lex.specs.declared.token.TokenKind.{TokenKind}
use Rattle.c_lex.specs.declared.token.TokenKind.TheVariants as kind
use Rattle.c_lex.specs.Tokens.{Macros}
use Rattle.c_tree.specs.declared.expr.BinOp.{BinOp}
use Rattle.c_tree.specs.declared.expr.BinOp.TheVariants.{Mul, Div, Rem, Add, Sub, Shl, Shr, Lt, Le, Gt, Ge, Eq, Ne, BitAnd, BitXor, BitOr, Both, Either}
use Rattle.c_tree.specs.declared.expr.UnOp.{UnOp}
use Rattle.c_tree.specs.declared.expr.UnOp.TheVariants.{Plus, Minus, Flip, Compl}
use Rattle.c_tree.specs.declared.stmt.Ty.{Ty}
use Rattle.c_tree.specs.declared.stmt.Ty.TheVariants.{Int, Char}
use Rattle.c_tree.specs.Tree.{Tree, constant, name, index, call, unary, cast, binary, choice, assign, bump, comma, hole, hole_after}
use Rattle.c_splice.specs.Words.{IsWordOf}

-- the punctuator of a prefix operator
abbrev pub sign_mark : UnOp → Punct
sign_mark Plus = mark.Plus
sign_mark Minus = mark.Minus
sign_mark Flip = mark.Not
sign_mark Compl = mark.Tilde

-- the punctuator of an operator between two operands
abbrev pub symbol_mark : BinOp → Punct
symbol_mark Mul = mark.Star
symbol_mark Div = mark.Slash
symbol_mark Rem = mark.Percent
symbol_mark Add = mark.Plus
symbol_mark Sub = mark.Minus
symbol_mark Shl = mark.ShiftLeft
symbol_mark Shr = mark.ShiftRight
symbol_mark Lt = mark.Less
symbol_mark Le = mark.LessEqual
symbol_mark Gt = mark.Greater
symbol_mark Ge = mark.GreaterEqual
symbol_mark Eq = mark.Equal
symbol_mark Ne = mark.NotEqual
symbol_mark BitAnd = mark.And
symbol_mark BitXor = mark.Xor
symbol_mark BitOr = mark.Or
symbol_mark Both = mark.AndAnd
symbol_mark Either = mark.OrOr

-- the keyword of a type
abbrev pub type_key : Ty → Keyword
type_key Int = key.Int
type_key Char = key.Char

-- tokens in parentheses
abbrev pub enclosed : List TokenKind → List TokenKind
enclosed ks = kind.Punct mark.OpenParen ∷ (ks ++ kind.Punct mark.CloseParen ∷ [])

-- an expression with these tokens, as an operand: a constant, a name and an element stand bare, all
-- else in parentheses
abbrev pub operand_kinds : Tree → List TokenKind → List TokenKind
operand_kinds (constant n w s) ks = ks
operand_kinds (name w v s) ks = ks
operand_kinds (index w v e s) ks = ks
operand_kinds e ks = enclosed ks

-- the tokens of an expression; a call, an assignment and a bump have none
abbrev pub printed_kinds : Tree → List TokenKind
printed_kinds (constant n w s) = kind.Const n w ∷ []
printed_kinds (name w v s) = kind.Name w ∷ []
printed_kinds (index w v e s) =
    kind.Name w ∷ kind.Punct mark.OpenBracket
    ∷ (printed_kinds e ++ kind.Punct mark.CloseBracket ∷ [])
printed_kinds (call w args s) = []
printed_kinds (unary op e s) = kind.Punct (sign_mark op) ∷ operand_kinds e (printed_kinds e)
printed_kinds (cast ty e s) =
    enclosed (kind.Word (type_key ty) ∷ []) ++ operand_kinds e (printed_kinds e)
printed_kinds (binary op l r s) =
    operand_kinds l (printed_kinds l)
    ++ kind.Punct (symbol_mark op) ∷ operand_kinds r (printed_kinds r)
printed_kinds (choice t a b s) =
    operand_kinds t (printed_kinds t)
    ++ kind.Punct mark.Question ∷ (operand_kinds a (printed_kinds a)
    ++ kind.Punct mark.Colon ∷ operand_kinds b (printed_kinds b))
printed_kinds (assign op place e s) = []
printed_kinds (bump before up place s) = []
printed_kinds (comma l r s) =
    operand_kinds l (printed_kinds l) ++ kind.Punct mark.Comma ∷ operand_kinds r (printed_kinds r)
printed_kinds hole = []
printed_kinds (hole_after e) = []

-- a pure expression is printable if the word of each constant and name in it is that token by
-- itself, with these macros
abbrev pub Printable : Macros → Tree → Type 0
Printable m (constant n w s) = IsWordOf m w (kind.Const n w)
Printable m (name w v s) = IsWordOf m w (kind.Name w)
Printable m (index w v e s) = IsWordOf m w (kind.Name w) × Printable m e
Printable m (call w args s) = ⊥
Printable m (unary op e s) = Printable m e
Printable m (cast ty e s) = Printable m e
Printable m (binary op l r s) = Printable m l × Printable m r
Printable m (choice t a b s) = Printable m t × Printable m a × Printable m b
Printable m (assign op place e s) = ⊥
Printable m (bump before up place s) = ⊥
Printable m (comma l r s) = Printable m l × Printable m r
Printable m hole = ⊥
Printable m (hole_after e) = ⊥

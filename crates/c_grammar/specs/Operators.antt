-- What punctuators and keywords are to the grammar: operators with their ranks, and types (C11 6.5,
-- 6.7.2).
use Rattle.std.specs.Prelude.{ℕ, Bool, true, false, Option, Some, None}
use Rattle.c_lex.specs.declared.token.Keyword.{Keyword}
use Rattle.c_lex.specs.declared.token.Keyword.TheVariants as key
use Rattle.c_lex.specs.declared.token.Punct.{Punct}
use Rattle.c_lex.specs.declared.token.Punct.TheVariants as mark
use Rattle.c_tree.specs.declared.expr.BinOp.{BinOp}
use Rattle.c_tree.specs.declared.expr.BinOp.TheVariants as op
use Rattle.c_tree.specs.declared.expr.UnOp.{UnOp}
use Rattle.c_tree.specs.declared.expr.UnOp.TheVariants as prefix
use Rattle.c_tree.specs.declared.stmt.Ty.{Ty}
use Rattle.c_tree.specs.declared.stmt.Ty.TheVariants as ty

-- the operators between two operands (C11 6.5.5 to 6.5.14)
abbrev pub binary_operator : Punct → Option BinOp
binary_operator mark.Star = Some op.Mul
binary_operator mark.Slash = Some op.Div
binary_operator mark.Percent = Some op.Rem
binary_operator mark.Plus = Some op.Add
binary_operator mark.Minus = Some op.Sub
binary_operator mark.ShiftLeft = Some op.Shl
binary_operator mark.ShiftRight = Some op.Shr
binary_operator mark.Less = Some op.Lt
binary_operator mark.LessEqual = Some op.Le
binary_operator mark.Greater = Some op.Gt
binary_operator mark.GreaterEqual = Some op.Ge
binary_operator mark.Equal = Some op.Eq
binary_operator mark.NotEqual = Some op.Ne
binary_operator mark.And = Some op.BitAnd
binary_operator mark.Xor = Some op.BitXor
binary_operator mark.Or = Some op.BitOr
binary_operator mark.AndAnd = Some op.Both
binary_operator mark.OrOr = Some op.Either
binary_operator _ = None

-- the rank of an operator: the higher, the weaker it binds
abbrev pub rank : BinOp → ℕ
rank op.Mul = 1
rank op.Div = 1
rank op.Rem = 1
rank op.Add = 2
rank op.Sub = 2
rank op.Shl = 3
rank op.Shr = 3
rank op.Lt = 4
rank op.Le = 4
rank op.Gt = 4
rank op.Ge = 4
rank op.Eq = 5
rank op.Ne = 5
rank op.BitAnd = 6
rank op.BitXor = 7
rank op.BitOr = 8
rank op.Both = 9
rank op.Either = 10

-- the rank of `||`
abbrev pub weakest : ℕ
weakest = 10

-- the operators before one operand, but for `++` and `--` (C11 6.5.3.3)
abbrev pub prefix_operator : Punct → Option UnOp
prefix_operator mark.Plus = Some prefix.Plus
prefix_operator mark.Minus = Some prefix.Minus
prefix_operator mark.Not = Some prefix.Flip
prefix_operator mark.Tilde = Some prefix.Compl
prefix_operator _ = None

-- true of `++`, false of `--` (C11 6.5.2.4, 6.5.3.1)
abbrev pub bump_operator : Punct → Option Bool
bump_operator mark.Increment = Some true
bump_operator mark.Decrement = Some false
bump_operator _ = None

-- `=`, and the assignments with an operator (C11 6.5.16)
abbrev pub assignment_operator : Punct → Option (Option BinOp)
assignment_operator mark.Assign = Some None
assignment_operator mark.StarAssign = Some (Some op.Mul)
assignment_operator mark.SlashAssign = Some (Some op.Div)
assignment_operator mark.PercentAssign = Some (Some op.Rem)
assignment_operator mark.PlusAssign = Some (Some op.Add)
assignment_operator mark.MinusAssign = Some (Some op.Sub)
assignment_operator mark.ShiftLeftAssign = Some (Some op.Shl)
assignment_operator mark.ShiftRightAssign = Some (Some op.Shr)
assignment_operator mark.AndAssign = Some (Some op.BitAnd)
assignment_operator mark.XorAssign = Some (Some op.BitXor)
assignment_operator mark.OrAssign = Some (Some op.BitOr)
assignment_operator _ = None

-- the types of variables
abbrev pub type_word : Keyword → Option Ty
type_word key.Int = Some ty.Int
type_word key.Char = Some ty.Char
type_word _ = None

-- what a function gives: a value of a type, or nothing
abbrev pub result_word : Keyword → Option (Option Ty)
result_word key.Int = Some (Some ty.Int)
result_word key.Char = Some (Some ty.Char)
result_word key.Void = Some None
result_word _ = None

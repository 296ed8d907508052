-- The terminals of the grammar: what it sees of a token, and of the next token.
use Rattle.std.specs.Prelude.{ℕ, Bool, true, false, [], ◌∷◌, Option, Some, None, ◌==◌, if◌then◌else◌}
use Rattle.c_lex.specs.declared.token.TokenKind.{TokenKind}
use Rattle.c_lex.specs.declared.token.TokenKind.TheVariants as kind
use Rattle.c_lex.specs.declared.token.Keyword.{Keyword}
use Rattle.c_lex.specs.declared.token.Keyword.TheVariants as key
use Rattle.c_lex.specs.declared.token.Punct.{Punct}
use Rattle.c_lex.specs.declared.token.Punct.TheVariants as mark
use Rattle.c_tree.specs.declared.expr.BinOp.{BinOp}
use Rattle.c_tree.specs.declared.expr.BinOp.TheVariants as op
use Rattle.c_tree.specs.declared.expr.UnOp.{UnOp}
use Rattle.c_tree.specs.declared.expr.UnOp.TheVariants as prefix
use Rattle.c_tree.specs.declared.stmt.Ty.{Ty}
use Rattle.c_tree.specs.declared.stmt.Ty.TheVariants as ty
use Rattle.c_grammar.specs.declared.terminal.Terminal.{Terminal}
use Rattle.c_grammar.specs.declared.terminal.Terminal.TheVariants as terminal
use Rattle.c_grammar.specs.Operators.{rank, binary_operator, assignment_operator}
use Rattle.c_grammar.specs.Grammar.{Tokens}

-- what a keyword is to the grammar
abbrev pub keyword_terminal : Keyword → Terminal
keyword_terminal key.Int = terminal.Type ty.Int
keyword_terminal key.Char = terminal.Type ty.Char
keyword_terminal key.Void = terminal.Void
keyword_terminal key.If = terminal.If
keyword_terminal key.Else = terminal.Else
keyword_terminal key.While = terminal.While
keyword_terminal key.Do = terminal.Do
keyword_terminal key.For = terminal.For
keyword_terminal key.Return = terminal.Return
keyword_terminal key.Break = terminal.Break
keyword_terminal key.Continue = terminal.Continue
keyword_terminal _ = terminal.Other

-- what an operator is to the grammar, by the assignment or the operator between two operands that
-- it is
abbrev pub operator_by : Option (Option BinOp) → Option BinOp → Terminal
operator_by (Some f) _ = terminal.Assign f
operator_by None (Some f) = terminal.Binary f
operator_by None None = terminal.Other

-- what an operator is to the grammar that assigns or stands between two operands
abbrev pub operator_terminal : Punct → Terminal
operator_terminal p = operator_by (assignment_operator p) (binary_operator p)

-- what a punctuator is to the grammar
abbrev pub punct_terminal : Punct → Terminal
punct_terminal mark.OpenParen = terminal.OpenParen
punct_terminal mark.CloseParen = terminal.CloseParen
punct_terminal mark.OpenBracket = terminal.OpenBracket
punct_terminal mark.CloseBracket = terminal.CloseBracket
punct_terminal mark.OpenBrace = terminal.OpenBrace
punct_terminal mark.CloseBrace = terminal.CloseBrace
punct_terminal mark.Semicolon = terminal.Semicolon
punct_terminal mark.Comma = terminal.Comma
punct_terminal mark.Question = terminal.Question
punct_terminal mark.Colon = terminal.Colon
punct_terminal mark.Not = terminal.Prefix prefix.Flip
punct_terminal mark.Tilde = terminal.Prefix prefix.Compl
punct_terminal mark.Increment = terminal.Bump true
punct_terminal mark.Decrement = terminal.Bump false
punct_terminal p = operator_terminal p

-- the terminal that a token is
abbrev pub terminal_of : TokenKind → Terminal
terminal_of (kind.Name w) = terminal.Name
terminal_of (kind.Const n w) = terminal.Constant
terminal_of (kind.Str w) = terminal.Text
terminal_of (kind.Word k) = keyword_terminal k
terminal_of (kind.Punct p) = punct_terminal p

-- the terminal that the next token is
abbrev pub lookahead : Tokens → Terminal
lookahead [] = terminal.End
lookahead ((k, s) ∷ a) = terminal_of k

-- the tokens after the next one
abbrev pub rest : Tokens → Tokens
rest [] = []
rest (x ∷ a) = a

-- ---- tests on the next token

-- a name
abbrev pub is_name : Terminal → Bool
is_name terminal.Name = true
is_name _ = false

-- a constant
abbrev pub is_constant : Terminal → Bool
is_constant terminal.Constant = true
is_constant _ = false

-- `void`
abbrev pub is_void : Terminal → Bool
is_void terminal.Void = true
is_void _ = false

-- `else`
abbrev pub is_else : Terminal → Bool
is_else terminal.Else = true
is_else _ = false

-- `while`
abbrev pub is_while : Terminal → Bool
is_while terminal.While = true
is_while _ = false

-- `(`
abbrev pub is_open_paren : Terminal → Bool
is_open_paren terminal.OpenParen = true
is_open_paren _ = false

-- `)`
abbrev pub is_close_paren : Terminal → Bool
is_close_paren terminal.CloseParen = true
is_close_paren _ = false

-- `[`
abbrev pub is_open_bracket : Terminal → Bool
is_open_bracket terminal.OpenBracket = true
is_open_bracket _ = false

-- `]`
abbrev pub is_close_bracket : Terminal → Bool
is_close_bracket terminal.CloseBracket = true
is_close_bracket _ = false

-- `{`
abbrev pub is_open_brace : Terminal → Bool
is_open_brace terminal.OpenBrace = true
is_open_brace _ = false

-- `}`
abbrev pub is_close_brace : Terminal → Bool
is_close_brace terminal.CloseBrace = true
is_close_brace _ = false

-- `;`
abbrev pub is_semicolon : Terminal → Bool
is_semicolon terminal.Semicolon = true
is_semicolon _ = false

-- `,`
abbrev pub is_comma : Terminal → Bool
is_comma terminal.Comma = true
is_comma _ = false

-- `?`
abbrev pub is_question : Terminal → Bool
is_question terminal.Question = true
is_question _ = false

-- `:`
abbrev pub is_colon : Terminal → Bool
is_colon terminal.Colon = true
is_colon _ = false

-- `=`, by the operator before it
abbrev pub is_plain : Option BinOp → Bool
is_plain None = true
is_plain (Some f) = false

-- `=`
abbrev pub is_assign : Terminal → Bool
is_assign (terminal.Assign f) = is_plain f
is_assign _ = false

-- the end of the tokens
abbrev pub is_end : Terminal → Bool
is_end terminal.End = true
is_end _ = false

-- no token
abbrev pub never : Terminal → Bool
never l = false

-- the type that a token is
abbrev pub type_at : Terminal → Option Ty
type_at (terminal.Type ty) = Some ty
type_at _ = None

-- what a function gives whose declaration begins with the token
abbrev pub result_at : Terminal → Option (Option Ty)
result_at (terminal.Type ty) = Some (Some ty)
result_at terminal.Void = Some None
result_at _ = None

-- an operator between two operands as one before an operand
abbrev pub binary_prefix : BinOp → Option UnOp
binary_prefix op.Add = Some prefix.Plus
binary_prefix op.Sub = Some prefix.Minus
binary_prefix _ = None

-- the operator before an operand that a token is
abbrev pub prefix_at : Terminal → Option UnOp
prefix_at (terminal.Prefix f) = Some f
prefix_at (terminal.Binary f) = binary_prefix f
prefix_at _ = None

-- `++` or `--`
abbrev pub bump_at : Terminal → Option Bool
bump_at (terminal.Bump up) = Some up
bump_at _ = None

-- the assignment that a token is
abbrev pub assignment_at : Terminal → Option (Option BinOp)
assignment_at (terminal.Assign f) = Some f
assignment_at _ = None

-- the operator of that rank that a token is
abbrev pub operator_at : ℕ → Terminal → Option BinOp
operator_at j (terminal.Binary f) = if rank f == j then Some f else None
operator_at j _ = None

-- whether `(` and a type come next
abbrev pub is_type : Option Ty → Bool
is_type (Some ty) = true
is_type None = false

-- whether a conversion comes next, and no expression in parentheses
abbrev pub casts_by : Terminal → Tokens → Bool
casts_by terminal.OpenParen a = is_type (type_at (lookahead (rest a)))
casts_by _ a = false

-- whether a conversion comes next
abbrev pub casts : Tokens → Bool
casts a = casts_by (lookahead a) a

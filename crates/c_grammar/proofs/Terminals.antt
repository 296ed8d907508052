-- What a terminal tells of its token, and the terminal of each token of the grammar.
use Rattle.std.proofs.Common.{◌≡◌, ℕ, ℤ, Bool, true, false, List, [], ◌∷◌, Option, Some, None, refl, sym, subst, ap, ◌∙◌, arith, ◌==◌, if◌then◌else◌}
use Rattle.std.proofs.lemmas.Bool.Decides.{nat_tests}
use Rattle.c_lex.specs.declared.token.TokenKind.{TokenKind}
use Rattle.c_lex.specs.declared.token.TokenKind.TheVariants as kind
use Rattle.c_lex.specs.declared.token.Keyword.{Keyword}
use Rattle.c_lex.specs.declared.token.Keyword.TheVariants as key
use Rattle.c_lex.specs.declared.token.Punct.{Punct}
use Rattle.c_lex.specs.declared.token.Punct.TheVariants as mark
use Rattle.c_tree.specs.declared.expr.BinOp.{BinOp}
use Rattle.c_tree.specs.declared.expr.BinOp.TheVariants as op
use Rattle.c_tree.specs.declared.expr.UnOp.{UnOp}
use Rattle.c_tree.specs.declared.stmt.Ty.{Ty}
use Rattle.c_grammar.specs.declared.terminal.Terminal.{Terminal}
use Rattle.c_grammar.specs.declared.terminal.Terminal.TheVariants as terminal
use Rattle.c_grammar.specs.Operators.{binary_operator, rank, prefix_operator, bump_operator, assignment_operator, type_word, result_word}
use Rattle.c_grammar.specs.Grammar.{Tokens}
use Rattle.c_grammar.specs.Terminals.{keyword_terminal, punct_terminal, terminal_of, lookahead, is_name, is_constant, is_void, is_else, is_while, is_open_paren, is_close_paren, is_open_bracket, is_close_bracket, is_open_brace, is_close_brace, is_semicolon, is_comma, is_question, is_colon, is_plain, is_assign, is_end, type_at, result_at, binary_prefix, prefix_at, bump_at, assignment_at, operator_at}

-- what a terminal tells of the kind of its token
abbrev pub Shows : Terminal → TokenKind → Type 0
Shows terminal.Name k = (w : List ℕ) × (k ≡ kind.Name w)
Shows terminal.Constant k = (n : ℤ) × (w : List ℕ) × (k ≡ kind.Const n w)
Shows terminal.Text k = (w : List ℕ) × (k ≡ kind.Str w)
Shows (terminal.Type ty) k = (w : Keyword) × (k ≡ kind.Word w) × (type_word w ≡ Some ty)
Shows terminal.Void k = k ≡ kind.Word key.Void
Shows terminal.If k = k ≡ kind.Word key.If
Shows terminal.Else k = k ≡ kind.Word key.Else
Shows terminal.While k = k ≡ kind.Word key.While
Shows terminal.Do k = k ≡ kind.Word key.Do
Shows terminal.For k = k ≡ kind.Word key.For
Shows terminal.Return k = k ≡ kind.Word key.Return
Shows terminal.Break k = k ≡ kind.Word key.Break
Shows terminal.Continue k = k ≡ kind.Word key.Continue
Shows terminal.OpenParen k = k ≡ kind.Punct mark.OpenParen
Shows terminal.CloseParen k = k ≡ kind.Punct mark.CloseParen
Shows terminal.OpenBracket k = k ≡ kind.Punct mark.OpenBracket
Shows terminal.CloseBracket k = k ≡ kind.Punct mark.CloseBracket
Shows terminal.OpenBrace k = k ≡ kind.Punct mark.OpenBrace
Shows terminal.CloseBrace k = k ≡ kind.Punct mark.CloseBrace
Shows terminal.Semicolon k = k ≡ kind.Punct mark.Semicolon
Shows terminal.Comma k = k ≡ kind.Punct mark.Comma
Shows terminal.Question k = k ≡ kind.Punct mark.Question
Shows terminal.Colon k = k ≡ kind.Punct mark.Colon
Shows (terminal.Assign f) k = (p : Punct) × (k ≡ kind.Punct p) × (assignment_operator p ≡ Some f)
Shows (terminal.Binary f) k = (p : Punct) × (k ≡ kind.Punct p) × (binary_operator p ≡ Some f)
Shows (terminal.Prefix f) k = (p : Punct) × (k ≡ kind.Punct p) × (prefix_operator p ≡ Some f)
Shows (terminal.Bump up) k = (p : Punct) × (k ≡ kind.Punct p) × (bump_operator p ≡ Some up)
Shows terminal.Other k = Unit {0}
Shows terminal.End k = ⊥

keyword_shows : (k : Keyword) → Shows (keyword_terminal k) (kind.Word k)
keyword_shows key.Int = (key.Int, refl, refl)
keyword_shows key.Char = (key.Char, refl, refl)
keyword_shows key.Void = refl
keyword_shows key.If = refl
keyword_shows key.Else = refl
keyword_shows key.While = refl
keyword_shows key.Do = refl
keyword_shows key.For = refl
keyword_shows key.Return = refl
keyword_shows key.Break = refl
keyword_shows key.Continue = refl
keyword_shows _ = tt

punct_shows : (p : Punct) → Shows (punct_terminal p) (kind.Punct p)
punct_shows mark.OpenParen = refl
punct_shows mark.CloseParen = refl
punct_shows mark.OpenBracket = refl
punct_shows mark.CloseBracket = refl
punct_shows mark.OpenBrace = refl
punct_shows mark.CloseBrace = refl
punct_shows mark.Semicolon = refl
punct_shows mark.Comma = refl
punct_shows mark.Question = refl
punct_shows mark.Colon = refl
punct_shows mark.Not = (mark.Not, refl, refl)
punct_shows mark.Tilde = (mark.Tilde, refl, refl)
punct_shows mark.Increment = (mark.Increment, refl, refl)
punct_shows mark.Decrement = (mark.Decrement, refl, refl)
punct_shows mark.Assign = (mark.Assign, refl, refl)
punct_shows mark.StarAssign = (mark.StarAssign, refl, refl)
punct_shows mark.SlashAssign = (mark.SlashAssign, refl, refl)
punct_shows mark.PercentAssign = (mark.PercentAssign, refl, refl)
punct_shows mark.PlusAssign = (mark.PlusAssign, refl, refl)
punct_shows mark.MinusAssign = (mark.MinusAssign, refl, refl)
punct_shows mark.ShiftLeftAssign = (mark.ShiftLeftAssign, refl, refl)
punct_shows mark.ShiftRightAssign = (mark.ShiftRightAssign, refl, refl)
punct_shows mark.AndAssign = (mark.AndAssign, refl, refl)
punct_shows mark.XorAssign = (mark.XorAssign, refl, refl)
punct_shows mark.OrAssign = (mark.OrAssign, refl, refl)
punct_shows mark.Star = (mark.Star, refl, refl)
punct_shows mark.Slash = (mark.Slash, refl, refl)
punct_shows mark.Percent = (mark.Percent, refl, refl)
punct_shows mark.Plus = (mark.Plus, refl, refl)
punct_shows mark.Minus = (mark.Minus, refl, refl)
punct_shows mark.ShiftLeft = (mark.ShiftLeft, refl, refl)
punct_shows mark.ShiftRight = (mark.ShiftRight, refl, refl)
punct_shows mark.Less = (mark.Less, refl, refl)
punct_shows mark.LessEqual = (mark.LessEqual, refl, refl)
punct_shows mark.Greater = (mark.Greater, refl, refl)
punct_shows mark.GreaterEqual = (mark.GreaterEqual, refl, refl)
punct_shows mark.Equal = (mark.Equal, refl, refl)
punct_shows mark.NotEqual = (mark.NotEqual, refl, refl)
punct_shows mark.And = (mark.And, refl, refl)
punct_shows mark.Xor = (mark.Xor, refl, refl)
punct_shows mark.Or = (mark.Or, refl, refl)
punct_shows mark.AndAnd = (mark.AndAnd, refl, refl)
punct_shows mark.OrOr = (mark.OrOr, refl, refl)

pub shows : (k : TokenKind) → Shows (terminal_of k) k
shows (kind.Name w) = (w, refl)
shows (kind.Const n w) = (n, w, refl)
shows (kind.Str w) = (w, refl)
shows (kind.Word k) = keyword_shows k
shows (kind.Punct p) = punct_shows p

-- what a terminal tells, where the terminal is known
pub terminal_shows : (k : TokenKind) (l : Terminal) → terminal_of k ≡ l → Shows l k
terminal_shows k l e = subst (λ l. Shows l k) e (shows k)

-- ---- from the tables to the terminal

pub terminal_binary : (p : Punct) (f : BinOp) → binary_operator p ≡ Some f → punct_terminal p ≡ terminal.Binary f
terminal_binary mark.Star f e = cc (e)
terminal_binary mark.Slash f e = cc (e)
terminal_binary mark.Percent f e = cc (e)
terminal_binary mark.Plus f e = cc (e)
terminal_binary mark.Minus f e = cc (e)
terminal_binary mark.ShiftLeft f e = cc (e)
terminal_binary mark.ShiftRight f e = cc (e)
terminal_binary mark.Less f e = cc (e)
terminal_binary mark.LessEqual f e = cc (e)
terminal_binary mark.Greater f e = cc (e)
terminal_binary mark.GreaterEqual f e = cc (e)
terminal_binary mark.Equal f e = cc (e)
terminal_binary mark.NotEqual f e = cc (e)
terminal_binary mark.And f e = cc (e)
terminal_binary mark.Xor f e = cc (e)
terminal_binary mark.Or f e = cc (e)
terminal_binary mark.AndAnd f e = cc (e)
terminal_binary mark.OrOr f e = cc (e)
terminal_binary _ f e = absurd (cc (e))

pub terminal_bump : (p : Punct) (up : Bool) → bump_operator p ≡ Some up → punct_terminal p ≡ terminal.Bump up
terminal_bump mark.Increment up e = cc (e)
terminal_bump mark.Decrement up e = cc (e)
terminal_bump _ up e = absurd (cc (e))

pub terminal_assignment : (p : Punct) (f : Option BinOp) → assignment_operator p ≡ Some f → punct_terminal p ≡ terminal.Assign f
terminal_assignment mark.Assign f e = cc (e)
terminal_assignment mark.StarAssign f e = cc (e)
terminal_assignment mark.SlashAssign f e = cc (e)
terminal_assignment mark.PercentAssign f e = cc (e)
terminal_assignment mark.PlusAssign f e = cc (e)
terminal_assignment mark.MinusAssign f e = cc (e)
terminal_assignment mark.ShiftLeftAssign f e = cc (e)
terminal_assignment mark.ShiftRightAssign f e = cc (e)
terminal_assignment mark.AndAssign f e = cc (e)
terminal_assignment mark.XorAssign f e = cc (e)
terminal_assignment mark.OrAssign f e = cc (e)
terminal_assignment _ f e = absurd (cc (e))

pub terminal_prefix : (p : Punct) (f : UnOp) → prefix_operator p ≡ Some f → prefix_at (punct_terminal p) ≡ Some f
terminal_prefix mark.Plus f e = cc (e)
terminal_prefix mark.Minus f e = cc (e)
terminal_prefix mark.Not f e = cc (e)
terminal_prefix mark.Tilde f e = cc (e)
terminal_prefix _ f e = absurd (cc (e))

pub terminal_prefix_no_bump : (p : Punct) (f : UnOp) → prefix_operator p ≡ Some f → bump_at (punct_terminal p) ≡ None
terminal_prefix_no_bump mark.Plus f e = refl
terminal_prefix_no_bump mark.Minus f e = refl
terminal_prefix_no_bump mark.Not f e = refl
terminal_prefix_no_bump mark.Tilde f e = refl
terminal_prefix_no_bump _ f e = absurd (cc (e))

pub terminal_type : (k : Keyword) (t : Ty) → type_word k ≡ Some t → keyword_terminal k ≡ terminal.Type t
terminal_type key.Int t e = cc (e)
terminal_type key.Char t e = cc (e)
terminal_type _ t e = absurd (cc (e))

pub terminal_result : (k : Keyword) (ret : Option Ty) → result_word k ≡ Some ret → result_at (keyword_terminal k) ≡ Some ret
terminal_result key.Int ret e = cc (e)
terminal_result key.Char ret e = cc (e)
terminal_result key.Void ret e = cc (e)
terminal_result _ ret e = absurd (cc (e))

-- ---- from the tests to the kind

name_terminal : (l : Terminal) → is_name l ≡ true → l ≡ terminal.Name
name_terminal terminal.Name e = refl
name_terminal _ e = absurd (cc (e))

pub name_is : (k : TokenKind) → is_name (terminal_of k) ≡ true → (w : List ℕ) × (k ≡ kind.Name w)
name_is k e = terminal_shows k terminal.Name (name_terminal (terminal_of k) e)

constant_terminal : (l : Terminal) → is_constant l ≡ true → l ≡ terminal.Constant
constant_terminal terminal.Constant e = refl
constant_terminal _ e = absurd (cc (e))

pub constant_is : (k : TokenKind) → is_constant (terminal_of k) ≡ true → (n : ℤ) × (w : List ℕ) × (k ≡ kind.Const n w)
constant_is k e = terminal_shows k terminal.Constant (constant_terminal (terminal_of k) e)

void_terminal : (l : Terminal) → is_void l ≡ true → l ≡ terminal.Void
void_terminal terminal.Void e = refl
void_terminal _ e = absurd (cc (e))

pub void_is : (k : TokenKind) → is_void (terminal_of k) ≡ true → k ≡ kind.Word key.Void
void_is k e = terminal_shows k terminal.Void (void_terminal (terminal_of k) e)

else_terminal : (l : Terminal) → is_else l ≡ true → l ≡ terminal.Else
else_terminal terminal.Else e = refl
else_terminal _ e = absurd (cc (e))

pub else_is : (k : TokenKind) → is_else (terminal_of k) ≡ true → k ≡ kind.Word key.Else
else_is k e = terminal_shows k terminal.Else (else_terminal (terminal_of k) e)

while_terminal : (l : Terminal) → is_while l ≡ true → l ≡ terminal.While
while_terminal terminal.While e = refl
while_terminal _ e = absurd (cc (e))

pub while_is : (k : TokenKind) → is_while (terminal_of k) ≡ true → k ≡ kind.Word key.While
while_is k e = terminal_shows k terminal.While (while_terminal (terminal_of k) e)

open_paren_terminal : (l : Terminal) → is_open_paren l ≡ true → l ≡ terminal.OpenParen
open_paren_terminal terminal.OpenParen e = refl
open_paren_terminal _ e = absurd (cc (e))

pub open_paren_is : (k : TokenKind) → is_open_paren (terminal_of k) ≡ true → k ≡ kind.Punct mark.OpenParen
open_paren_is k e = terminal_shows k terminal.OpenParen (open_paren_terminal (terminal_of k) e)

close_paren_terminal : (l : Terminal) → is_close_paren l ≡ true → l ≡ terminal.CloseParen
close_paren_terminal terminal.CloseParen e = refl
close_paren_terminal _ e = absurd (cc (e))

pub close_paren_is : (k : TokenKind) → is_close_paren (terminal_of k) ≡ true → k ≡ kind.Punct mark.CloseParen
close_paren_is k e = terminal_shows k terminal.CloseParen (close_paren_terminal (terminal_of k) e)

open_bracket_terminal : (l : Terminal) → is_open_bracket l ≡ true → l ≡ terminal.OpenBracket
open_bracket_terminal terminal.OpenBracket e = refl
open_bracket_terminal _ e = absurd (cc (e))

pub open_bracket_is : (k : TokenKind) → is_open_bracket (terminal_of k) ≡ true → k ≡ kind.Punct mark.OpenBracket
open_bracket_is k e = terminal_shows k terminal.OpenBracket (open_bracket_terminal (terminal_of k) e)

close_bracket_terminal : (l : Terminal) → is_close_bracket l ≡ true → l ≡ terminal.CloseBracket
close_bracket_terminal terminal.CloseBracket e = refl
close_bracket_terminal _ e = absurd (cc (e))

pub close_bracket_is : (k : TokenKind) → is_close_bracket (terminal_of k) ≡ true → k ≡ kind.Punct mark.CloseBracket
close_bracket_is k e = terminal_shows k terminal.CloseBracket (close_bracket_terminal (terminal_of k) e)

open_brace_terminal : (l : Terminal) → is_open_brace l ≡ true → l ≡ terminal.OpenBrace
open_brace_terminal terminal.OpenBrace e = refl
open_brace_terminal _ e = absurd (cc (e))

pub open_brace_is : (k : TokenKind) → is_open_brace (terminal_of k) ≡ true → k ≡ kind.Punct mark.OpenBrace
open_brace_is k e = terminal_shows k terminal.OpenBrace (open_brace_terminal (terminal_of k) e)

close_brace_terminal : (l : Terminal) → is_close_brace l ≡ true → l ≡ terminal.CloseBrace
close_brace_terminal terminal.CloseBrace e = refl
close_brace_terminal _ e = absurd (cc (e))

pub close_brace_is : (k : TokenKind) → is_close_brace (terminal_of k) ≡ true → k ≡ kind.Punct mark.CloseBrace
close_brace_is k e = terminal_shows k terminal.CloseBrace (close_brace_terminal (terminal_of k) e)

semicolon_terminal : (l : Terminal) → is_semicolon l ≡ true → l ≡ terminal.Semicolon
semicolon_terminal terminal.Semicolon e = refl
semicolon_terminal _ e = absurd (cc (e))

pub semicolon_is : (k : TokenKind) → is_semicolon (terminal_of k) ≡ true → k ≡ kind.Punct mark.Semicolon
semicolon_is k e = terminal_shows k terminal.Semicolon (semicolon_terminal (terminal_of k) e)

comma_terminal : (l : Terminal) → is_comma l ≡ true → l ≡ terminal.Comma
comma_terminal terminal.Comma e = refl
comma_terminal _ e = absurd (cc (e))

pub comma_is : (k : TokenKind) → is_comma (terminal_of k) ≡ true → k ≡ kind.Punct mark.Comma
comma_is k e = terminal_shows k terminal.Comma (comma_terminal (terminal_of k) e)

question_terminal : (l : Terminal) → is_question l ≡ true → l ≡ terminal.Question
question_terminal terminal.Question e = refl
question_terminal _ e = absurd (cc (e))

pub question_is : (k : TokenKind) → is_question (terminal_of k) ≡ true → k ≡ kind.Punct mark.Question
question_is k e = terminal_shows k terminal.Question (question_terminal (terminal_of k) e)

colon_terminal : (l : Terminal) → is_colon l ≡ true → l ≡ terminal.Colon
colon_terminal terminal.Colon e = refl
colon_terminal _ e = absurd (cc (e))

pub colon_is : (k : TokenKind) → is_colon (terminal_of k) ≡ true → k ≡ kind.Punct mark.Colon
colon_is k e = terminal_shows k terminal.Colon (colon_terminal (terminal_of k) e)

plain_none : (f : Option BinOp) → is_plain f ≡ true → f ≡ None
plain_none None e = refl
plain_none (Some f) e = absurd (cc (e))

assign_terminal : (l : Terminal) → is_assign l ≡ true → l ≡ terminal.Assign None
assign_terminal (terminal.Assign f) e = ap terminal.Assign (plain_none f e)
assign_terminal _ e = absurd (cc (e))

no_operator_assigns : (p : Punct) → assignment_operator p ≡ Some None → p ≡ mark.Assign
no_operator_assigns mark.Assign e = refl
no_operator_assigns _ e = absurd (cc (e))

pub assign_is : (k : TokenKind) → is_assign (terminal_of k) ≡ true → k ≡ kind.Punct mark.Assign
assign_is k e = let x = terminal_shows k (terminal.Assign None) (assign_terminal (terminal_of k) e) in x.1 ∙ ap kind.Punct (no_operator_assigns x.0 x.2)

end_terminal : (l : Terminal) → is_end l ≡ true → l ≡ terminal.End
end_terminal terminal.End e = refl
end_terminal _ e = absurd (cc (e))

-- no token is the end
pub no_end : (k : TokenKind) → is_end (terminal_of k) ≡ true → ⊥
no_end k e = terminal_shows k terminal.End (end_terminal (terminal_of k) e)

pub end_is : (a : Tokens) → is_end (lookahead a) ≡ true → a ≡ []
end_is [] e = refl
end_is ((k, s) ∷ a) e = absurd (no_end k e)

type_terminal : (l : Terminal) (t : Ty) → type_at l ≡ Some t → l ≡ terminal.Type t
type_terminal (terminal.Type u) t e = cc (e)
type_terminal _ t e = absurd (cc (e))

pub type_is : (k : TokenKind) (t : Ty) → type_at (terminal_of k) ≡ Some t → (w : Keyword) × (k ≡ kind.Word w) × (type_word w ≡ Some t)
type_is k t e = terminal_shows k (terminal.Type t) (type_terminal (terminal_of k) t e)

result_of_type : (w : Keyword) (t : Ty) → type_word w ≡ Some t → result_word w ≡ Some (Some t)
result_of_type key.Int t e = cc (e)
result_of_type key.Char t e = cc (e)
result_of_type _ t e = absurd (cc (e))

result_told : (l : Terminal) (k : TokenKind) (ret : Option Ty) → Shows l k → result_at l ≡ Some ret → (w : Keyword) × (k ≡ kind.Word w) × (result_word w ≡ Some ret)
result_told (terminal.Type t) k ret x e = (x.0, x.1, let y = result_of_type x.0 t x.2 in cc (y, e))
result_told terminal.Void k ret x e = (key.Void, x, cc (e))
result_told _ k ret x e = absurd (cc (e))

pub result_is : (k : TokenKind) (ret : Option Ty) → result_at (terminal_of k) ≡ Some ret → (w : Keyword) × (k ≡ kind.Word w) × (result_word w ≡ Some ret)
result_is k ret e = result_told (terminal_of k) k ret (shows k) e

ranked : (j : ℕ) (g f : BinOp) (b : Bool) → (rank g == j) ≡ b → (if b then Some g else None) ≡ Some f → (g ≡ f) × (rank f ≡ j)
ranked j g f true t e = let h : g ≡ f = cc (e) in (h, subst (λ f. rank f ≡ j) h (grind (arith, nat_tests, t)))
ranked j g f false t e = absurd (cc (e))

operator_terminal : (j : ℕ) (l : Terminal) (f : BinOp) → operator_at j l ≡ Some f → (l ≡ terminal.Binary f) × (rank f ≡ j)
operator_terminal j (terminal.Binary g) f e = let x = ranked j g f (rank g == j) refl e in (ap terminal.Binary x.0, x.1)
operator_terminal j _ f e = absurd (cc (e))

pub operator_is : (j : ℕ) (k : TokenKind) (f : BinOp) → operator_at j (terminal_of k) ≡ Some f
    → (p : Punct) × (k ≡ kind.Punct p) × (binary_operator p ≡ Some f) × (rank f ≡ j)
operator_is j k f e = let x = operator_terminal j (terminal_of k) f e in let y = terminal_shows k (terminal.Binary f) x.0 in (y.0, y.1, y.2, x.1)

add_is : (p : Punct) → binary_operator p ≡ Some op.Add → p ≡ mark.Plus
add_is mark.Plus e = refl
add_is _ e = absurd (cc (e))

sub_is : (p : Punct) → binary_operator p ≡ Some op.Sub → p ≡ mark.Minus
sub_is mark.Minus e = refl
sub_is _ e = absurd (cc (e))

both_ways : (p : Punct) (g : BinOp) (f : UnOp) → binary_operator p ≡ Some g → binary_prefix g ≡ Some f → prefix_operator p ≡ Some f
both_ways p op.Add f e h = subst (λ p. prefix_operator p ≡ Some f) (sym (add_is p e)) (let x : binary_prefix op.Add ≡ Some f = h in cc (x))
both_ways p op.Sub f e h = subst (λ p. prefix_operator p ≡ Some f) (sym (sub_is p e)) (let x : binary_prefix op.Sub ≡ Some f = h in cc (x))
both_ways p _ f e h = absurd (cc (h))

prefix_told : (l : Terminal) (k : TokenKind) (f : UnOp) → Shows l k → prefix_at l ≡ Some f → (p : Punct) × (k ≡ kind.Punct p) × (prefix_operator p ≡ Some f)
prefix_told (terminal.Prefix g) k f x e = (x.0, x.1, let y = x.2 in cc (y, e))
prefix_told (terminal.Binary g) k f x e = (x.0, x.1, both_ways x.0 g f x.2 e)
prefix_told _ k f x e = absurd (cc (e))

pub prefix_is : (k : TokenKind) (f : UnOp) → prefix_at (terminal_of k) ≡ Some f → (p : Punct) × (k ≡ kind.Punct p) × (prefix_operator p ≡ Some f)
prefix_is k f e = prefix_told (terminal_of k) k f (shows k) e

bump_terminal : (l : Terminal) (up : Bool) → bump_at l ≡ Some up → l ≡ terminal.Bump up
bump_terminal (terminal.Bump u) up e = cc (e)
bump_terminal _ up e = absurd (cc (e))

pub bump_is : (k : TokenKind) (up : Bool) → bump_at (terminal_of k) ≡ Some up → (p : Punct) × (k ≡ kind.Punct p) × (bump_operator p ≡ Some up)
bump_is k up e = terminal_shows k (terminal.Bump up) (bump_terminal (terminal_of k) up e)

assignment_terminal : (l : Terminal) (f : Option BinOp) → assignment_at l ≡ Some f → l ≡ terminal.Assign f
assignment_terminal (terminal.Assign g) f e = cc (e)
assignment_terminal _ f e = absurd (cc (e))

pub assignment_is : (k : TokenKind) (f : Option BinOp) → assignment_at (terminal_of k) ≡ Some f
    → (p : Punct) × (k ≡ kind.Punct p) × (assignment_operator p ≡ Some f)
assignment_is k f e = terminal_shows k (terminal.Assign f) (assignment_terminal (terminal_of k) f e)

-- What an expression and an argument begin with, and what the tests on the next token say of that.
use Rattle.std.proofs.Common.{◌≡◌, ℕ, Bool, true, false, List, ◌∷◌, Option, Some, None, refl, ap}
use Rattle.c_lex.specs.declared.token.TokenKind.TheVariants as kind
use Rattle.c_tree.specs.declared.expr.BinOp.TheVariants as op
use Rattle.c_tree.specs.declared.expr.UnOp.{UnOp}
use Rattle.c_tree.specs.Tree.{Tree}
use Rattle.c_grammar.specs.declared.terminal.Terminal.{Terminal}
use Rattle.c_grammar.specs.declared.terminal.Terminal.TheVariants as terminal
use Rattle.c_grammar.specs.declared.nonterminal.Nonterminal.{Nonterminal}
use Rattle.c_grammar.specs.declared.nonterminal.Nonterminal.TheVariants.{Unary, Postfix, Primary}
use Rattle.c_grammar.specs.Grammar.{Tokens, Reads, Argument, Arguments, Given}
use Rattle.c_grammar.specs.Terminals.{lookahead, punct_terminal, is_close_paren, is_else, is_close_brace, is_close_bracket, is_semicolon, type_at, is_type, binary_prefix, prefix_at, casts_by, casts}
use Rattle.c_grammar.specs.Descent.{Reader, Read, argument_by, unary, postfix, value}
use Rattle.c_grammar.proofs.Terminals.{terminal_prefix, terminal_bump}

-- whether there is an operator
abbrev pub is_prefix : Option UnOp → Bool
is_prefix (Some f) = true
is_prefix None = false

-- whether a token can begin an expression
abbrev pub starting : Terminal → Bool
starting terminal.Name = true
starting terminal.Constant = true
starting terminal.OpenParen = true
starting (terminal.Prefix f) = true
starting (terminal.Bump up) = true
starting (terminal.Binary f) = is_prefix (binary_prefix f)
starting _ = false

pub prefix_starts : (l : Terminal) (f : UnOp) → prefix_at l ≡ Some f → starting l ≡ true
prefix_starts (terminal.Prefix g) f e = refl
prefix_starts (terminal.Binary g) f e = ap is_prefix e
prefix_starts _ f e = absurd (cc (e))

-- what each expression begins with
pub starts : {N : Nonterminal} {r m : ℕ} {a b : Tokens} {t : Tree} → Reads N r a m b t → starting (lookahead a) ≡ true
starts Reads.constant = refl
starts Reads.name = refl
starts (Reads.index d) = refl
starts Reads.call_bare = refl
starts (Reads.call d) = refl
starts (Reads.paren d) = refl
starts (Reads.postfix d) = starts d
starts (Reads.bump_after e d) = starts d
starts (Reads.unary d) = starts d
starts (Reads.bump_before {p = p} {up = up} e d) = ap starting (terminal_bump p up e)
starts (Reads.prefix {p = p} {f = f} e d) = prefix_starts (punct_terminal p) f (terminal_prefix p f e)
starts (Reads.cast d) = starts d
starts (Reads.cast_to e d) = refl
starts (Reads.operand d) = starts d
starts (Reads.weaker d) = starts d
starts (Reads.binary e h d1 d2) = starts d1
starts (Reads.conditional d) = starts d
starts (Reads.choose d1 d2 d3) = starts d1
starts (Reads.assignment d) = starts d
starts (Reads.assign e d1 d2) = starts d1
starts (Reads.expression d) = starts d
starts (Reads.comma d1 d2) = starts d1

pub starting_no_type : (l : Terminal) → starting l ≡ true → type_at l ≡ None
starting_no_type (terminal.Type ty) e = absurd (cc (e))
starting_no_type _ e = refl

pub starting_no_close : (l : Terminal) → starting l ≡ true → is_close_paren l ≡ false
starting_no_close terminal.CloseParen e = absurd (cc (e))
starting_no_close _ e = refl

pub starting_no_bracket : (l : Terminal) → starting l ≡ true → is_close_bracket l ≡ false
starting_no_bracket terminal.CloseBracket e = absurd (cc (e))
starting_no_bracket _ e = refl

pub starting_no_brace : (l : Terminal) → starting l ≡ true → is_close_brace l ≡ false
starting_no_brace terminal.CloseBrace e = absurd (cc (e))
starting_no_brace _ e = refl

pub starting_no_semicolon : (l : Terminal) → starting l ≡ true → is_semicolon l ≡ false
starting_no_semicolon terminal.Semicolon e = absurd (cc (e))
starting_no_semicolon _ e = refl

pub starting_no_else : (l : Terminal) → starting l ≡ true → is_else l ≡ false
starting_no_else terminal.Else e = absurd (cc (e))
starting_no_else _ e = refl

-- an argument that begins as an expression does is a value
pub starting_value : (self : Nonterminal → Reader Read) (l : Terminal) (r : ℕ) (a : Tokens) → starting l ≡ true → argument_by self l r a ≡ value self r a
starting_value self terminal.Text r a e = absurd (cc (e))
starting_value self (terminal.Binary op.BitAnd) r a e = absurd (cc (e))
starting_value self (terminal.Binary _) r a e = refl
starting_value self _ r a e = refl

-- no argument begins with a `)`
pub argument_no_close : {r : ℕ} {a b : Tokens} {g : Given} → Argument r a b g → is_close_paren (lookahead a) ≡ false
argument_no_close (Argument.value {a = a} d) = starting_no_close (lookahead a) (starts d)
argument_no_close Argument.format = refl
argument_no_close (Argument.address d) = refl

pub arguments_no_close : {r : ℕ} {a b : Tokens} {gs : List Given} → Arguments r a b gs → is_close_paren (lookahead a) ≡ false
arguments_no_close (Arguments.last d) = argument_no_close d
arguments_no_close (Arguments.more d e) = argument_no_close d

prefix_no_cast : (l : Terminal) (f : UnOp) (a : Tokens) → prefix_at l ≡ Some f → casts_by l a ≡ false
prefix_no_cast terminal.OpenParen f a e = absurd (cc (e))
prefix_no_cast _ f a e = refl

-- a parenthesis that begins a primary expression begins no conversion
not_cast_primary : {r m : ℕ} {a b : Tokens} {t : Tree} → Reads Primary r a m b t → casts a ≡ false
not_cast_primary Reads.constant = refl
not_cast_primary Reads.name = refl
not_cast_primary (Reads.index d) = refl
not_cast_primary Reads.call_bare = refl
not_cast_primary (Reads.call d) = refl
not_cast_primary (Reads.paren {a = a} d) = ap is_type (starting_no_type (lookahead a) (starts d))

not_cast_postfix : {r m : ℕ} {a b : Tokens} {t : Tree} → Reads Postfix r a m b t → casts a ≡ false
not_cast_postfix (Reads.postfix d) = not_cast_primary d
not_cast_postfix (Reads.bump_after e d) = not_cast_primary d

-- no unary expression begins as a conversion does
pub not_cast : {r m : ℕ} {a b : Tokens} {t : Tree} → Reads Unary r a m b t → casts a ≡ false
not_cast (Reads.unary d) = not_cast_postfix d
not_cast (Reads.bump_before {a = a} {p = p} {s = s} {up = up} e d) = ap (λ l. casts_by l ((kind.Punct p, s) ∷ a)) (terminal_bump p up e)
not_cast (Reads.prefix {a = a} {p = p} {s = s} {f = f} e d) = prefix_no_cast (punct_terminal p) f ((kind.Punct p, s) ∷ a) (terminal_prefix p f e)

unary_primary : {r m : ℕ} {a b : Tokens} {t : Tree} (self : Nonterminal → Reader Read) → Reads Primary r a m b t → unary self r a ≡ postfix self r a
unary_primary self Reads.constant = refl
unary_primary self Reads.name = refl
unary_primary self (Reads.index d) = refl
unary_primary self Reads.call_bare = refl
unary_primary self (Reads.call d) = refl
unary_primary self (Reads.paren d) = refl

-- a unary expression that begins as a postfix expression does is one
pub unary_postfix : {r m : ℕ} {a b : Tokens} {t : Tree} (self : Nonterminal → Reader Read) → Reads Postfix r a m b t → unary self r a ≡ postfix self r a
unary_postfix self (Reads.postfix d) = unary_primary self d
unary_postfix self (Reads.bump_after e d) = unary_primary self d

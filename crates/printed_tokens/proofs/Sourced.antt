-- Expressions that are derived from tokens have their words, and 0 and 1 are words of tokens.
use Rattle.std.proofs.Common.{◌≡◌, ℕ, pos, true, ◌&&◌, List, [], ◌∷◌, codes, refl, arith}
use Rattle.c_lex.specs.declared.token.TokenKind.TheVariants as kind
use Rattle.c_lex.specs.Constants.{HasValue}
use Rattle.c_lex.specs.Tokens.{Macros}
use Rattle.c_lex.proofs.Runs.{both_left, both_right}
use Rattle.c_tree.specs.declared.place.Span.{Span}
use Rattle.c_tree.specs.Tree as tree
use Rattle.c_tree.specs.Tree.{Tree, Args, is_pure}
use Rattle.c_grammar.specs.declared.nonterminal.Nonterminal.{Nonterminal}
use Rattle.c_grammar.specs.Grammar.{Tokens, wrapped, Given, by_value, by_format, by_address, args, Reads, Argument, Arguments}
use Rattle.c_splice.specs.Words.{Spells, IsWordOf, AllWorded}
use Rattle.printed_tokens.specs.PrintedKinds.{Printable}
use Rattle.printed_tokens.specs.Sourced.{Sourced, SourcedArgs, SourcedGiven}
use Rattle.printed_tokens.proofs.Safe.{safe_is}

-- ---- pure expressions print

-- a pure expression whose words are each its token is printable
pub printable : (m : Macros) (t : Tree) → is_pure t ≡ true → Sourced m t → Printable m t
printable m (tree.constant n w s) p h = h
printable m (tree.name w v s) p h = h
printable m (tree.index w v e s) p h = (h.0, printable m e p h.1)
printable m (tree.call w x s) p h = absurd (cc)
printable m (tree.unary op e s) p h = printable m e p h
printable m (tree.cast ty e s) p h = printable m e p h
printable m (tree.binary op a b s) p h = (
  printable m a (both_left (is_pure a) (is_pure b) p) h.0,
  printable m b (both_right (is_pure a) (is_pure b) p) h.1,
)
printable m (tree.choice t a b s) p h =
    let q = both_left (is_pure t && is_pure a) (is_pure b) p in (
      printable m t (both_left (is_pure t) (is_pure a) q) h.0,
      printable m a (both_right (is_pure t) (is_pure a) q) h.1,
      printable m b (both_right (is_pure t && is_pure a) (is_pure b) p) h.2,
    )
printable m (tree.assign op place e s) p h = absurd (cc)
printable m (tree.bump before up e s) p h = absurd (cc)
printable m (tree.comma a b s) p h = (
  printable m a (both_left (is_pure a) (is_pure b) p) h.0,
  printable m b (both_right (is_pure a) (is_pure b) p) h.1,
)
printable m tree.hole p h = absurd (cc)
printable m (tree.hole_after e) p h = absurd (cc)

-- ---- what is derived

-- parentheses round an expression change no word
wrapped_sourced : (m : Macros) (s : Span) (t : Tree) → Sourced m t → Sourced m (wrapped s t)
wrapped_sourced m s (tree.constant n w e) h = h
wrapped_sourced m s (tree.name w v e) h = h
wrapped_sourced m s (tree.index w v t e) h = h
wrapped_sourced m s (tree.call w x e) h = h
wrapped_sourced m s (tree.unary f t e) h = h
wrapped_sourced m s (tree.cast ty t e) h = h
wrapped_sourced m s (tree.binary f t u e) h = h
wrapped_sourced m s (tree.choice t u v e) h = h
wrapped_sourced m s (tree.assign f t u e) h = h
wrapped_sourced m s (tree.bump before up t e) h = h
wrapped_sourced m s (tree.comma t u e) h = h
wrapped_sourced m s tree.hole h = h
wrapped_sourced m s (tree.hole_after t) h = h

-- an argument before others
put_sourced : (m : Macros) (g : Given) (gs : List Given) → SourcedGiven m g
    → SourcedArgs m (args gs) → SourcedArgs m (args (g ∷ gs))
put_sourced m (by_value e) gs h k = (h, k)
put_sourced m (by_format f s) gs h k = k
put_sourced m (by_address e) gs h k = (h, k)

module _ (m : Macros) where
  mutual
    -- the words of an expression are words of its tokens; and so are those that follow it
    pub sourced : {N : Nonterminal} {r q : ℕ} {a b : Tokens} {t : Tree} → Reads N r a q b t → AllWorded m a
        → Sourced m t × AllWorded m b
    sourced Reads.constant h = (h.0, h.1)
    sourced Reads.name h = (h.0, h.1)
    sourced (Reads.index d) h = let x = sourced d h.1.1 in ((h.0, x.0), x.1.1)
    sourced Reads.call_bare h = (tt, h.1.1.1)
    sourced (Reads.call d) h = let x = sourced_arguments d h.1.1 in (x.0, x.1.1)
    sourced (Reads.paren {o = o} {e = e} {t = t} d) h =
        let x = sourced d h.1 in (wrapped_sourced m _ t x.0, x.1.1)
    sourced (Reads.postfix d) h = sourced d h
    sourced (Reads.bump_after e d) h = let x = sourced d h in (x.0, x.1.1)
    sourced (Reads.unary d) h = sourced d h
    sourced (Reads.bump_before e d) h = sourced d h.1
    sourced (Reads.prefix e d) h = sourced d h.1
    sourced (Reads.cast d) h = sourced d h
    sourced (Reads.cast_to f d) h = sourced d h.1.1.1
    sourced (Reads.operand d) h = sourced d h
    sourced (Reads.weaker d) h = sourced d h
    sourced (Reads.binary e i d1 d2) h =
        let x = sourced d1 h in let y = sourced d2 x.1.1 in ((x.0, y.0), y.1)
    sourced (Reads.conditional d) h = sourced d h
    sourced (Reads.choose d1 d2 d3) h =
        let x = sourced d1 h in let y = sourced d2 x.1.1 in let z = sourced d3 y.1.1 in
        ((x.0, y.0, z.0), z.1)
    sourced (Reads.assignment d) h = sourced d h
    sourced (Reads.assign e d1 d2) h =
        let x = sourced d1 h in let y = sourced d2 x.1.1 in ((x.0, y.0), y.1)
    sourced (Reads.expression d) h = sourced d h
    sourced (Reads.comma d1 d2) h =
        let x = sourced d1 h in let y = sourced d2 x.1.1 in ((x.0, y.0), y.1)

    -- the same of an argument
    sourced_argument : {r : ℕ} {a b : Tokens} {g : Given} → Argument r a b g → AllWorded m a
        → SourcedGiven m g × AllWorded m b
    sourced_argument (Argument.value d) h = sourced d h
    sourced_argument Argument.format h = (tt, h.1)
    sourced_argument (Argument.address d) h = sourced d h.1

    -- the same of arguments
    sourced_arguments : {r : ℕ} {a b : Tokens} {gs : List Given} → Arguments r a b gs
        → AllWorded m a → SourcedArgs m (args gs) × AllWorded m b
    sourced_arguments (Arguments.last {g = g} d) h =
        let x = sourced_argument d h in (put_sourced m g [] x.0 tt, x.1)
    sourced_arguments (Arguments.more {g = g} {gs = gs} d e) h =
        let x = sourced_argument d h in let y = sourced_arguments e x.1.1 in
        (put_sourced m g gs x.0 y.0, y.1)

  -- ---- 0 and 1

  -- `0` is that constant by itself
  pub zero_word : IsWordOf m (codes "0") (kind.Const (pos 0) (codes "0"))
  zero_word = record {
    spells =
        Spells.number 0 refl
        (HasValue.octal refl
        (record { some = omega arith; digits = (omega arith, tt); is_value = refl }))
        (omega arith);
    clean = (safe_is (codes "0") refl).clean;
  }

  -- so is `1`
  pub one_word : IsWordOf m (codes "1") (kind.Const (pos 1) (codes "1"))
  one_word = record {
    spells =
        Spells.number 1 refl
        (HasValue.decimal (λ e. absurd (omega (arith, e)))
        (record { some = omega arith; digits = (omega arith, tt); is_value = refl }))
        (omega arith);
    clean = (safe_is (codes "1") refl).clean;
  }

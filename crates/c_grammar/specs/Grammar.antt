-- The grammar of expressions (C11 6.5): what each part derives, and what begins it. Each part is a
-- relation between the tokens before it and the tokens after it.
--
-- The room at a token is how many more openers may be open there. An opener takes one: `(`, `[`, a
-- prefix operator, the `&` of an argument, the `(` of a cast, a binary operator, an assignment
-- operator, `?` and the comma operator. A closing bracket, and the end of an argument, gives back
-- the room that there was before.
use Rattle.std.specs.Prelude.{◌≡◌, ℕ, ℤ, suc, Bool, true, false, List, [], ◌∷◌, Option, Some}
use Rattle.c_lex.specs.declared.token.TokenKind.{TokenKind}
use Rattle.c_lex.specs.declared.token.TokenKind.TheVariants as kind
use Rattle.c_lex.specs.declared.token.Keyword.{Keyword}
use Rattle.c_lex.specs.declared.token.Punct.{Punct}
use Rattle.c_lex.specs.declared.token.Punct.TheVariants as mark
use Rattle.c_tree.specs.declared.expr.BinOp.{BinOp}
use Rattle.c_tree.specs.declared.expr.UnOp.{UnOp}
use Rattle.c_tree.specs.declared.place.Span.{Span}
use Rattle.c_tree.specs.declared.stmt.Slot.TheVariants.{Unset}
use Rattle.c_tree.specs.declared.stmt.Ty.{Ty}
use Rattle.c_tree.specs.Parts.{span_of}
use Rattle.c_tree.specs.Tree as tree
use Rattle.c_tree.specs.Tree.{Tree, Args}
use Rattle.c_grammar.specs.declared.nonterminal.Nonterminal.{Nonterminal}
use Rattle.c_grammar.specs.declared.nonterminal.Nonterminal.TheVariants.{Expression, Assignment, Conditional, Binary, Cast, Unary, Postfix, Primary}
use Rattle.c_grammar.specs.Operators.{binary_operator, rank, weakest, prefix_operator, bump_operator, assignment_operator, type_word}

-- tokens, each with the text that it covers
abbrev pub Tokens : Type 0
Tokens = List (TokenKind × Span)

-- from the first byte of the one to the last of the other
abbrev pub over : Span → Span → Span
over s e = record { from = s.from; to = e.to }

-- the same expression with another text, the parentheses directly round it among it
abbrev pub wrapped : Span → Tree → Tree
wrapped s (tree.constant n w _) = tree.constant n w s
wrapped s (tree.name w v _) = tree.name w v s
wrapped s (tree.index w v t _) = tree.index w v t s
wrapped s (tree.call w x _) = tree.call w x s
wrapped s (tree.unary f t _) = tree.unary f t s
wrapped s (tree.cast ty t _) = tree.cast ty t s
wrapped s (tree.binary f t u _) = tree.binary f t u s
wrapped s (tree.choice t u v _) = tree.choice t u v s
wrapped s (tree.assign f t u _) = tree.assign f t u s
wrapped s (tree.bump before up t _) = tree.bump before up t s
wrapped s (tree.comma t u _) = tree.comma t u s
wrapped s tree.hole = tree.hole
wrapped s (tree.hole_after t) = tree.hole_after t

-- an operator before its operand
abbrev pub prefixed : UnOp → Span → Tree → Tree
prefixed f s t = tree.unary f t (over s (span_of t))

-- an operator between two operands
abbrev pub joined : BinOp → Tree → Tree → Tree
joined f t u = tree.binary f t u (over (span_of t) (span_of u))

-- `test ? yes : no`
abbrev pub chosen : Tree → Tree → Tree → Tree
chosen t u v = tree.choice t u v (over (span_of t) (span_of v))

-- `place = value`, or with an operator before the `=`
abbrev pub assigned : Option BinOp → Tree → Tree → Tree
assigned f t u = tree.assign f t u (over (span_of t) (span_of u))

-- `left, right`
abbrev pub followed : Tree → Tree → Tree
followed t u = tree.comma t u (over (span_of t) (span_of u))

-- An argument of a call: a value, a format, or the address of a place.
pub data Given : Type 0 where
  by_value : Tree → Given
  by_format : List ℕ → Span → Given
  by_address : Tree → Given

-- one more argument before the others
abbrev pub put : Given → Args → Args
put (by_value t) x = tree.value t x
put (by_format w s) x = tree.format w s x
put (by_address t) x = tree.address t x

-- the arguments of a call
abbrev pub args : List Given → Args
args [] = tree.no_args
args (g ∷ gs) = put g (args gs)

mutual
  -- Reads N r a m b t: from a down to b the tokens are the expression t of the kind N, with room r
  -- before it and m after it.
  pub data Reads : Nonterminal → ℕ → Tokens → ℕ → Tokens → Tree → Type 0 where
    constant : {r : ℕ} {a : Tokens} {n : ℤ} {w : List ℕ} {s : Span}
        → Reads Primary r ((kind.Const n w, s) ∷ a) r a (tree.constant n w s)
    name : {r : ℕ} {a : Tokens} {w : List ℕ} {s : Span}
        → Reads Primary r ((kind.Name w, s) ∷ a) r a (tree.name w Unset s)
    index : {r m : ℕ} {a b : Tokens} {w : List ℕ} {s o e : Span} {t : Tree}
        → Reads Expression r a m ((kind.Punct mark.CloseBracket, e) ∷ b) t
        → Reads Primary (suc r) ((kind.Name w, s) ∷ (kind.Punct mark.OpenBracket, o) ∷ a)
        (suc r) b (tree.index w Unset t (over s e))
    call_bare : {r : ℕ} {a : Tokens} {w : List ℕ} {s o e : Span}
        → Reads Primary (suc r)
        ((kind.Name w, s) ∷ (kind.Punct mark.OpenParen, o) ∷ (kind.Punct mark.CloseParen, e) ∷ a)
        (suc r) a (tree.call w tree.no_args (over s e))
    call : {r : ℕ} {a b : Tokens} {w : List ℕ} {s o e : Span} {gs : List Given}
        → Arguments r a ((kind.Punct mark.CloseParen, e) ∷ b) gs
        → Reads Primary (suc r) ((kind.Name w, s) ∷ (kind.Punct mark.OpenParen, o) ∷ a)
        (suc r) b (tree.call w (args gs) (over s e))
    paren : {r m : ℕ} {a b : Tokens} {o e : Span} {t : Tree}
        → Reads Expression r a m ((kind.Punct mark.CloseParen, e) ∷ b) t
        → Reads Primary (suc r) ((kind.Punct mark.OpenParen, o) ∷ a)
        (suc r) b (wrapped (over o e) t)
    postfix : {r m : ℕ} {a b : Tokens} {t : Tree} → Reads Primary r a m b t
        → Reads Postfix r a m b t
    bump_after : {r m : ℕ} {a b : Tokens} {t : Tree} {p : Punct} {s : Span} {up : Bool}
        → bump_operator p ≡ Some up → Reads Primary r a m ((kind.Punct p, s) ∷ b) t
        → Reads Postfix r a m b (tree.bump false up t (over (span_of t) s))
    unary : {r m : ℕ} {a b : Tokens} {t : Tree} → Reads Postfix r a m b t → Reads Unary r a m b t
    bump_before : {r m : ℕ} {a b : Tokens} {t : Tree} {p : Punct} {s : Span} {up : Bool}
        → bump_operator p ≡ Some up → Reads Unary r a m b t
        → Reads Unary (suc r) ((kind.Punct p, s) ∷ a) m b (tree.bump true up t (over s (span_of t)))
    prefix : {r m : ℕ} {a b : Tokens} {t : Tree} {p : Punct} {s : Span} {f : UnOp}
        → prefix_operator p ≡ Some f → Reads Cast r a m b t
        → Reads Unary (suc r) ((kind.Punct p, s) ∷ a) m b (prefixed f s t)
    cast : {r m : ℕ} {a b : Tokens} {t : Tree} → Reads Unary r a m b t → Reads Cast r a m b t
    cast_to : {r m : ℕ} {a b : Tokens} {t : Tree} {k : Keyword} {o s e : Span} {ty : Ty}
        → type_word k ≡ Some ty → Reads Cast r a m b t
        → Reads Cast (suc r)
        ((kind.Punct mark.OpenParen, o) ∷ (kind.Word k, s) ∷ (kind.Punct mark.CloseParen, e) ∷ a)
        m b (tree.cast ty t (over o (span_of t)))
    operand : {r m : ℕ} {a b : Tokens} {t : Tree} → Reads Cast r a m b t
        → Reads (Binary 0) r a m b t
    weaker : {r m j : ℕ} {a b : Tokens} {t : Tree} → Reads (Binary j) r a m b t
        → Reads (Binary (suc j)) r a m b t
    binary : {r m n j : ℕ} {a b c : Tokens} {t u : Tree} {p : Punct} {s : Span} {f : BinOp}
        → binary_operator p ≡ Some f → rank f ≡ suc j
        → Reads (Binary (suc j)) r a (suc m) ((kind.Punct p, s) ∷ b) t → Reads (Binary j) m b n c u
        → Reads (Binary (suc j)) r a n c (joined f t u)
    conditional : {r m : ℕ} {a b : Tokens} {t : Tree} → Reads (Binary weakest) r a m b t
        → Reads Conditional r a m b t
    choose : {r m n q : ℕ} {a b c d : Tokens} {t u v : Tree} {s o : Span}
        → Reads (Binary weakest) r a (suc m) ((kind.Punct mark.Question, s) ∷ b) t
        → Reads Expression m b n ((kind.Punct mark.Colon, o) ∷ c) u → Reads Conditional n c q d v
        → Reads Conditional r a q d (chosen t u v)
    assignment : {r m : ℕ} {a b : Tokens} {t : Tree} → Reads Conditional r a m b t
        → Reads Assignment r a m b t
    assign : {r m n : ℕ} {a b c : Tokens} {t u : Tree} {p : Punct} {s : Span} {f : Option BinOp}
        → assignment_operator p ≡ Some f
        → Reads Unary r a (suc m) ((kind.Punct p, s) ∷ b) t → Reads Assignment m b n c u
        → Reads Assignment r a n c (assigned f t u)
    expression : {r m : ℕ} {a b : Tokens} {t : Tree} → Reads Assignment r a m b t
        → Reads Expression r a m b t
    comma : {r m n : ℕ} {a b c : Tokens} {t u : Tree} {s : Span}
        → Reads Expression r a (suc m) ((kind.Punct mark.Comma, s) ∷ b) t
        → Reads Assignment m b n c u
        → Reads Expression r a n c (followed t u)

  -- an argument of a call, with the same room before it and after it
  pub data Argument : ℕ → Tokens → Tokens → Given → Type 0 where
    value : {r m : ℕ} {a b : Tokens} {t : Tree} → Reads Assignment r a m b t
        → Argument r a b (by_value t)
    format : {r : ℕ} {a : Tokens} {w : List ℕ} {s : Span}
        → Argument r ((kind.Str w, s) ∷ a) a (by_format w s)
    address : {r m : ℕ} {a b : Tokens} {t : Tree} {s : Span} → Reads Unary r a m b t
        → Argument (suc r) ((kind.Punct mark.And, s) ∷ a) b (by_address t)

  -- one argument, or more with commas between them
  pub data Arguments : ℕ → Tokens → Tokens → List Given → Type 0 where
    last : {r : ℕ} {a b : Tokens} {g : Given} → Argument r a b g → Arguments r a b (g ∷ [])
    more : {r : ℕ} {a b c : Tokens} {g : Given} {gs : List Given} {s : Span}
        → Argument r a ((kind.Punct mark.Comma, s) ∷ b) g → Arguments r b c gs
        → Arguments r a c (g ∷ gs)

mutual
  -- Begins N r a b: the tokens from a down to b begin an expression of the kind N, with room r
  -- before it.
  pub data Begins : Nonterminal → ℕ → Tokens → Tokens → Type 0 where
    none : {N : Nonterminal} {r : ℕ} {a : Tokens} → Begins N r a a
    constant : {r : ℕ} {a : Tokens} {n : ℤ} {w : List ℕ} {s : Span}
        → Begins Primary r ((kind.Const n w, s) ∷ a) a
    name : {r : ℕ} {a : Tokens} {w : List ℕ} {s : Span} → Begins Primary r ((kind.Name w, s) ∷ a) a
    index : {r : ℕ} {a b : Tokens} {w : List ℕ} {s o : Span} → Begins Expression r a b
        → Begins Primary (suc r) ((kind.Name w, s) ∷ (kind.Punct mark.OpenBracket, o) ∷ a) b
    index_end : {r m : ℕ} {a b : Tokens} {w : List ℕ} {s o e : Span} {t : Tree}
        → Reads Expression r a m ((kind.Punct mark.CloseBracket, e) ∷ b) t
        → Begins Primary (suc r) ((kind.Name w, s) ∷ (kind.Punct mark.OpenBracket, o) ∷ a) b
    call_bare : {r : ℕ} {a : Tokens} {w : List ℕ} {s o e : Span}
        → Begins Primary (suc r)
        ((kind.Name w, s) ∷ (kind.Punct mark.OpenParen, o) ∷ (kind.Punct mark.CloseParen, e) ∷ a) a
    call : {r : ℕ} {a b : Tokens} {w : List ℕ} {s o : Span} → BeginsArguments r a b
        → Begins Primary (suc r) ((kind.Name w, s) ∷ (kind.Punct mark.OpenParen, o) ∷ a) b
    call_end : {r : ℕ} {a b : Tokens} {w : List ℕ} {s o e : Span} {gs : List Given}
        → Arguments r a ((kind.Punct mark.CloseParen, e) ∷ b) gs
        → Begins Primary (suc r) ((kind.Name w, s) ∷ (kind.Punct mark.OpenParen, o) ∷ a) b
    paren : {r : ℕ} {a b : Tokens} {o : Span} → Begins Expression r a b
        → Begins Primary (suc r) ((kind.Punct mark.OpenParen, o) ∷ a) b
    paren_end : {r m : ℕ} {a b : Tokens} {o e : Span} {t : Tree}
        → Reads Expression r a m ((kind.Punct mark.CloseParen, e) ∷ b) t
        → Begins Primary (suc r) ((kind.Punct mark.OpenParen, o) ∷ a) b
    postfix : {r : ℕ} {a b : Tokens} → Begins Primary r a b → Begins Postfix r a b
    bump_after : {r m : ℕ} {a b : Tokens} {t : Tree} {p : Punct} {s : Span} {up : Bool}
        → bump_operator p ≡ Some up → Reads Primary r a m ((kind.Punct p, s) ∷ b) t
        → Begins Postfix r a b
    unary : {r : ℕ} {a b : Tokens} → Begins Postfix r a b → Begins Unary r a b
    bump_before : {r : ℕ} {a b : Tokens} {p : Punct} {s : Span} {up : Bool}
        → bump_operator p ≡ Some up → Begins Unary r a b
        → Begins Unary (suc r) ((kind.Punct p, s) ∷ a) b
    prefix : {r : ℕ} {a b : Tokens} {p : Punct} {s : Span} {f : UnOp} → prefix_operator p ≡ Some f
        → Begins Cast r a b → Begins Unary (suc r) ((kind.Punct p, s) ∷ a) b
    cast : {r : ℕ} {a b : Tokens} → Begins Unary r a b → Begins Cast r a b
    cast_open : {r : ℕ} {a : Tokens} {o : Span}
        → Begins Cast (suc r) ((kind.Punct mark.OpenParen, o) ∷ a) a
    cast_type : {r : ℕ} {a : Tokens} {k : Keyword} {o s : Span} {ty : Ty} → type_word k ≡ Some ty
        → Begins Cast (suc r) ((kind.Punct mark.OpenParen, o) ∷ (kind.Word k, s) ∷ a) a
    cast_to : {r : ℕ} {a b : Tokens} {k : Keyword} {o s e : Span} {ty : Ty} → type_word k ≡ Some ty
        → Begins Cast r a b
        → Begins Cast (suc r)
        ((kind.Punct mark.OpenParen, o) ∷ (kind.Word k, s) ∷ (kind.Punct mark.CloseParen, e) ∷ a) b
    operand : {r : ℕ} {a b : Tokens} → Begins Cast r a b → Begins (Binary 0) r a b
    weaker : {r j : ℕ} {a b : Tokens} → Begins (Binary j) r a b → Begins (Binary (suc j)) r a b
    binary : {r m j : ℕ} {a b c : Tokens} {t : Tree} {p : Punct} {s : Span} {f : BinOp}
        → binary_operator p ≡ Some f → rank f ≡ suc j
        → Reads (Binary (suc j)) r a (suc m) ((kind.Punct p, s) ∷ b) t → Begins (Binary j) m b c
        → Begins (Binary (suc j)) r a c
    conditional : {r : ℕ} {a b : Tokens} → Begins (Binary weakest) r a b → Begins Conditional r a b
    choose : {r m : ℕ} {a b c : Tokens} {t : Tree} {s : Span}
        → Reads (Binary weakest) r a (suc m) ((kind.Punct mark.Question, s) ∷ b) t
        → Begins Expression m b c → Begins Conditional r a c
    choose_no : {r m n : ℕ} {a b c d : Tokens} {t u : Tree} {s o : Span}
        → Reads (Binary weakest) r a (suc m) ((kind.Punct mark.Question, s) ∷ b) t
        → Reads Expression m b n ((kind.Punct mark.Colon, o) ∷ c) u → Begins Conditional n c d
        → Begins Conditional r a d
    assignment : {r : ℕ} {a b : Tokens} → Begins Conditional r a b → Begins Assignment r a b
    assign : {r m : ℕ} {a b c : Tokens} {t : Tree} {p : Punct} {s : Span} {f : Option BinOp}
        → assignment_operator p ≡ Some f
        → Reads Unary r a (suc m) ((kind.Punct p, s) ∷ b) t → Begins Assignment m b c
        → Begins Assignment r a c
    expression : {r : ℕ} {a b : Tokens} → Begins Assignment r a b → Begins Expression r a b
    comma : {r m : ℕ} {a b c : Tokens} {t : Tree} {s : Span}
        → Reads Expression r a (suc m) ((kind.Punct mark.Comma, s) ∷ b) t → Begins Assignment m b c
        → Begins Expression r a c

  -- what begins an argument
  pub data BeginsArgument : ℕ → Tokens → Tokens → Type 0 where
    value : {r : ℕ} {a b : Tokens} → Begins Assignment r a b → BeginsArgument r a b
    format : {r : ℕ} {a : Tokens} {w : List ℕ} {s : Span} → BeginsArgument r ((kind.Str w, s) ∷ a) a
    address : {r : ℕ} {a b : Tokens} {s : Span} → Begins Unary r a b
        → BeginsArgument (suc r) ((kind.Punct mark.And, s) ∷ a) b

  -- what begins arguments
  pub data BeginsArguments : ℕ → Tokens → Tokens → Type 0 where
    last : {r : ℕ} {a b : Tokens} → BeginsArgument r a b → BeginsArguments r a b
    more : {r : ℕ} {a b c : Tokens} {g : Given} {s : Span}
        → Argument r a ((kind.Punct mark.Comma, s) ∷ b) g → BeginsArguments r b c
        → BeginsArguments r a c

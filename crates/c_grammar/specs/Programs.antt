-- The grammar of declarations, statements and programs (C11 6.7 to 6.9): what each part derives,
-- and what begins it. Each part is a relation between the tokens before it and the tokens after it,
-- with the room for openers there. Beside the openers of expressions, `{`, `if`, `do`, `for` and a
-- `while` that begins a statement take one. A closing bracket, and the end of an initialiser, of a
-- clause of a `for` and of a statement, gives back the room that there was before, so the room is
-- the same before and after each part here.
use Rattle.std.specs.Prelude.{◌≡◌, ℕ, ℤ, suc, Bool, true, false, List, [], ◌∷◌, Option, Some, None}
use Rattle.c_lex.specs.declared.token.TokenKind.TheVariants as kind
use Rattle.c_lex.specs.declared.token.Keyword.{Keyword}
use Rattle.c_lex.specs.declared.token.Keyword.TheVariants as key
use Rattle.c_lex.specs.declared.token.Punct.TheVariants as mark
use Rattle.c_tree.specs.declared.place.Span.{Span}
use Rattle.c_tree.specs.declared.program.Param.{Param}
use Rattle.c_tree.specs.declared.stmt.Slot.TheVariants.{Unset}
use Rattle.c_tree.specs.declared.stmt.Ty.{Ty}
use Rattle.c_tree.specs.declared.stmt.Shape.{Shape}
use Rattle.c_tree.specs.declared.stmt.Shape.TheVariants.{Scalar, Array}
use Rattle.c_tree.specs.Parts.{span_of, span_of_code}
use Rattle.c_tree.specs.Tree as tree
use Rattle.c_tree.specs.Tree.{Tree, Initial, Variable, First, Code, Body, Function, Outer}
use Rattle.c_grammar.specs.declared.nonterminal.Nonterminal.TheVariants.{Expression, Assignment}
use Rattle.c_grammar.specs.Operators.{type_word, result_word}
use Rattle.c_grammar.specs.Grammar.{Tokens, over, Reads, Begins}

-- a declared variable
abbrev pub variable : List ℕ → Span → Shape → Initial → Variable
variable w s shape start = record { word = w; slot = Unset; span = s; shape = shape; start = start }

-- a parameter
abbrev pub parameter : List ℕ → Span → Ty → Bool → Param
parameter w s ty array = record { word = w; slot = Unset; span = s; ty = ty; array = array }

-- a function, with its text from its name to its last token
abbrev pub function : List ℕ → Span → Option Ty → List Param → Option Body → Outer
function w s ret ps body =
    tree.outer_func (record { word = w; span = s; ret = ret; params = ps; body = body })

-- ---- declarations

-- the brackets after an array's name, with the length that stands in them and the `]`
pub data Length : ℕ → Tokens → Tokens → Option ℤ → Span → Type 0 where
  bare : {r : ℕ} {a : Tokens} {o e : Span}
      → Length (suc r)
      ((kind.Punct mark.OpenBracket, o) ∷ (kind.Punct mark.CloseBracket, e) ∷ a) a None e
  constant : {r : ℕ} {a : Tokens} {n : ℤ} {w : List ℕ} {s o e : Span}
      → Length (suc r)
      ((kind.Punct mark.OpenBracket, o) ∷ (kind.Const n w, s) ∷ (kind.Punct mark.CloseBracket, e) ∷ a)
      a (Some n) e

-- the elements of an initialiser list, with a comma after the last or none
pub data Elements : ℕ → Tokens → Tokens → List Tree → Type 0 where
  last : {r m : ℕ} {a b : Tokens} {t : Tree} → Reads Assignment r a m b t → Elements r a b (t ∷ [])
  last_comma : {r m : ℕ} {a b : Tokens} {t : Tree} {s : Span}
      → Reads Assignment r a m ((kind.Punct mark.Comma, s) ∷ b) t → Elements r a b (t ∷ [])
  more : {r m : ℕ} {a b c : Tokens} {t : Tree} {ts : List Tree} {s : Span}
      → Reads Assignment r a m ((kind.Punct mark.Comma, s) ∷ b) t → Elements r b c ts
      → Elements r a c (t ∷ ts)

-- a declared variable, with its initialiser
pub data Declarator : ℕ → Tokens → Tokens → Variable → Type 0 where
  scalar : {r : ℕ} {a : Tokens} {w : List ℕ} {s : Span}
      → Declarator r ((kind.Name w, s) ∷ a) a (variable w s Scalar tree.bare_start)
  scalar_start : {r m : ℕ} {a b : Tokens} {w : List ℕ} {s o : Span} {t : Tree}
      → Reads Assignment r a m b t
      → Declarator r ((kind.Name w, s) ∷ (kind.Punct mark.Assign, o) ∷ a) b
      (variable w s Scalar (tree.one_start t))
  array : {r : ℕ} {a b : Tokens} {w : List ℕ} {s e : Span} {n : Option ℤ} → Length r a b n e
      → Declarator r ((kind.Name w, s) ∷ a) b (variable w (over s e) (Array n) tree.bare_start)
  array_list : {r : ℕ} {a b c : Tokens} {w : List ℕ} {s e o p q : Span} {n : Option ℤ}
      {ts : List Tree}
      → Length (suc r) a ((kind.Punct mark.Assign, o) ∷ (kind.Punct mark.OpenBrace, p) ∷ b) n e
      → Elements r b ((kind.Punct mark.CloseBrace, q) ∷ c) ts
      → Declarator (suc r)
      ((kind.Name w, s) ∷ a) c (variable w (over s e) (Array n) (tree.list_start ts))

-- one declared variable, or more with commas between them
pub data Declarators : ℕ → Tokens → Tokens → List Variable → Type 0 where
  last : {r : ℕ} {a b : Tokens} {v : Variable} → Declarator r a b v → Declarators r a b (v ∷ [])
  more : {r : ℕ} {a b c : Tokens} {v : Variable} {vs : List Variable} {s : Span}
      → Declarator r a ((kind.Punct mark.Comma, s) ∷ b) v → Declarators r b c vs
      → Declarators r a c (v ∷ vs)

-- a declaration of variables of a type
pub data Vars : ℕ → Tokens → Tokens → Ty → List Variable → Type 0 where
  vars : {r : ℕ} {a b : Tokens} {k : Keyword} {s e : Span} {ty : Ty} {vs : List Variable}
      → type_word k ≡ Some ty → Declarators r a ((kind.Punct mark.Semicolon, e) ∷ b) vs
      → Vars r ((kind.Word k, s) ∷ a) b ty vs

-- ---- statements

-- the first clause of a `for`, with its `;`
pub data Clause : ℕ → Tokens → Tokens → First → Type 0 where
  empty : {r : ℕ} {a : Tokens} {e : Span}
      → Clause r ((kind.Punct mark.Semicolon, e) ∷ a) a tree.no_first
  act : {r m : ℕ} {a b : Tokens} {e : Span} {t : Tree}
      → Reads Expression r a m ((kind.Punct mark.Semicolon, e) ∷ b) t
      → Clause r a b (tree.first_act t)
  vars : {r : ℕ} {a b : Tokens} {ty : Ty} {vs : List Variable} → Vars r a b ty vs
      → Clause r a b (tree.first_vars ty vs)

-- an expression that may be absent
pub data Optional : ℕ → Tokens → Tokens → Option Tree → Type 0 where
  absent : {r : ℕ} {a : Tokens} → Optional r a a None
  present : {r m : ℕ} {a b : Tokens} {t : Tree} → Reads Expression r a m b t
      → Optional r a b (Some t)

mutual
  -- Statement o r a b c: from a down to b the tokens are the statement c. Where o is true it is
  -- open: an `else` after it would belong to it.
  pub data Statement : Bool → ℕ → Tokens → Tokens → Code → Type 0 where
    empty : {r : ℕ} {a : Tokens} {s : Span}
        → Statement false r ((kind.Punct mark.Semicolon, s) ∷ a) a (tree.empty s)
    act : {r m : ℕ} {a b : Tokens} {e : Span} {t : Tree}
        → Reads Expression r a m ((kind.Punct mark.Semicolon, e) ∷ b) t
        → Statement false r a b (tree.act t (over (span_of t) e))
    block : {r : ℕ} {a b : Tokens} {s e : Span} {body : Body}
        → Items r a ((kind.Punct mark.CloseBrace, e) ∷ b) body
        → Statement false (suc r)
        ((kind.Punct mark.OpenBrace, s) ∷ a) b (tree.block body (over s e))
    if_then : {o : Bool} {r m : ℕ} {a b c : Tokens} {s p e : Span} {t : Tree} {y : Code}
        → Reads Expression r a m ((kind.Punct mark.CloseParen, e) ∷ b) t → Statement o (suc r) b c y
        → Statement true (suc (suc r))
        ((kind.Word key.If, s) ∷ (kind.Punct mark.OpenParen, p) ∷ a) c
        (tree.if_then t y (over s (span_of_code y)))
    if_else : {o : Bool} {r m : ℕ} {a b c d : Tokens} {s p e q : Span} {t : Tree} {y z : Code}
        → Reads Expression r a m ((kind.Punct mark.CloseParen, e) ∷ b) t
        → Statement false (suc r) b ((kind.Word key.Else, q) ∷ c) y → Statement o (suc r) c d z
        → Statement o (suc (suc r))
        ((kind.Word key.If, s) ∷ (kind.Punct mark.OpenParen, p) ∷ a) d
        (tree.if_else t y z (over s (span_of_code z)))
    while : {o : Bool} {r m : ℕ} {a b c : Tokens} {s p e : Span} {t : Tree} {y : Code}
        → Reads Expression r a m ((kind.Punct mark.CloseParen, e) ∷ b) t → Statement o (suc r) b c y
        → Statement o (suc (suc r))
        ((kind.Word key.While, s) ∷ (kind.Punct mark.OpenParen, p) ∷ a) c
        (tree.while t y (over s (span_of_code y)))
    do_while : {o : Bool} {r m : ℕ} {a b c : Tokens} {s w p e q : Span} {t : Tree} {y : Code}
        → Statement o (suc r) a ((kind.Word key.While, w) ∷ (kind.Punct mark.OpenParen, p) ∷ b) y
        → Reads Expression r b m
        ((kind.Punct mark.CloseParen, e) ∷ (kind.Punct mark.Semicolon, q) ∷ c) t
        → Statement false (suc (suc r)) ((kind.Word key.Do, s) ∷ a) c (tree.do_while y t (over s q))
    for : {o : Bool} {r : ℕ} {a b c d f : Tokens} {s p e q : Span} {i : First} {t u : Option Tree}
        {y : Code} → Clause r a b i → Optional r b ((kind.Punct mark.Semicolon, e) ∷ c) t
        → Optional r c ((kind.Punct mark.CloseParen, q) ∷ d) u → Statement o (suc r) d f y
        → Statement o (suc (suc r))
        ((kind.Word key.For, s) ∷ (kind.Punct mark.OpenParen, p) ∷ a) f
        (tree.for i t u y (over s (span_of_code y)))
    give : {r : ℕ} {a b : Tokens} {s e : Span} {t : Option Tree}
        → Optional r a ((kind.Punct mark.Semicolon, e) ∷ b) t
        → Statement false r ((kind.Word key.Return, s) ∷ a) b (tree.give t (over s e))
    break : {r : ℕ} {a : Tokens} {s e : Span}
        → Statement false r ((kind.Word key.Break, s) ∷ (kind.Punct mark.Semicolon, e) ∷ a) a
        (tree.break (over s e))
    continue : {r : ℕ} {a : Tokens} {s e : Span}
        → Statement false r ((kind.Word key.Continue, s) ∷ (kind.Punct mark.Semicolon, e) ∷ a) a
        (tree.continue (over s e))

  -- the items of a block: declarations and statements
  pub data Items : ℕ → Tokens → Tokens → Body → Type 0 where
    none : {r : ℕ} {a : Tokens} → Items r a a tree.done
    vars : {r : ℕ} {a b c : Tokens} {ty : Ty} {vs : List Variable} {body : Body} → Vars r a b ty vs
        → Items r b c body → Items r a c (tree.vars ty vs body)
    statement : {o : Bool} {r : ℕ} {a b c : Tokens} {x : Code} {body : Body} → Statement o r a b x
        → Items r b c body → Items r a c (tree.next x body)

-- ---- programs

-- a parameter
pub data Parameter : ℕ → Tokens → Tokens → Param → Type 0 where
  scalar : {r : ℕ} {a : Tokens} {k : Keyword} {w : List ℕ} {o s : Span} {ty : Ty}
      → type_word k ≡ Some ty
      → Parameter r ((kind.Word k, o) ∷ (kind.Name w, s) ∷ a) a (parameter w s ty false)
  array : {r : ℕ} {a b : Tokens} {k : Keyword} {w : List ℕ} {o s e : Span} {ty : Ty} {n : Option ℤ}
      → type_word k ≡ Some ty → Length r a b n e
      → Parameter r ((kind.Word k, o) ∷ (kind.Name w, s) ∷ a) b (parameter w (over s e) ty true)

-- one parameter, or more with commas between them
pub data Parameters : ℕ → Tokens → Tokens → List Param → Type 0 where
  last : {r : ℕ} {a b : Tokens} {x : Param} → Parameter r a b x → Parameters r a b (x ∷ [])
  more : {r : ℕ} {a b c : Tokens} {x : Param} {xs : List Param} {s : Span}
      → Parameter r a ((kind.Punct mark.Comma, s) ∷ b) x → Parameters r b c xs
      → Parameters r a c (x ∷ xs)

-- what stands between the parentheses after a function's name
pub data Signature : ℕ → Tokens → Tokens → List Param → Type 0 where
  empty : {r : ℕ} {a : Tokens} → Signature r a a []
  void : {r : ℕ} {a : Tokens} {s : Span} → Signature r ((kind.Word key.Void, s) ∷ a) a []
  parameters : {r : ℕ} {a b : Tokens} {xs : List Param} → Parameters r a b xs → Signature r a b xs

-- what stands at file scope
pub data External : ℕ → Tokens → Tokens → Outer → Type 0 where
  vars : {r : ℕ} {a b : Tokens} {ty : Ty} {vs : List Variable} → Vars r a b ty vs
      → External r a b (tree.outer_vars ty vs)
  prototype : {r : ℕ} {a b : Tokens} {k : Keyword} {w : List ℕ} {o s p e q : Span} {ret : Option Ty}
      {xs : List Param} → result_word k ≡ Some ret
      → Signature r a ((kind.Punct mark.CloseParen, e) ∷ (kind.Punct mark.Semicolon, q) ∷ b) xs
      → External (suc r)
      ((kind.Word k, o) ∷ (kind.Name w, s) ∷ (kind.Punct mark.OpenParen, p) ∷ a) b
      (function w (over s q) ret xs None)
  definition : {r : ℕ} {a b c : Tokens} {k : Keyword} {w : List ℕ} {o s p e q z : Span}
      {ret : Option Ty} {xs : List Param} {body : Body} → result_word k ≡ Some ret
      → Signature r a ((kind.Punct mark.CloseParen, e) ∷ (kind.Punct mark.OpenBrace, q) ∷ b) xs
      → Items r b ((kind.Punct mark.CloseBrace, z) ∷ c) body
      → External (suc r)
      ((kind.Word k, o) ∷ (kind.Name w, s) ∷ (kind.Punct mark.OpenParen, p) ∷ a) c
      (function w (over s z) ret xs (Some body))

-- how many openers may be open at a token of a program
abbrev pub max_nesting : ℕ
max_nesting = 64

-- Derives r a p: the tokens are the program p, with room r at its begin.
pub data Derives : ℕ → Tokens → List Outer → Type 0 where
  last : {r : ℕ} {a : Tokens} {x : Outer} → External r a [] x → Derives r a (x ∷ [])
  more : {r : ℕ} {a b : Tokens} {x : Outer} {p : List Outer} → External r a b x → Derives r b p
      → Derives r a (x ∷ p)

-- ---- what begins each part

-- what begins the brackets after an array's name
pub data BeginsLength : ℕ → Tokens → Tokens → Type 0 where
  none : {r : ℕ} {a : Tokens} → BeginsLength r a a
  bracket : {r : ℕ} {a : Tokens} {o : Span}
      → BeginsLength (suc r) ((kind.Punct mark.OpenBracket, o) ∷ a) a
  constant : {r : ℕ} {a : Tokens} {n : ℤ} {w : List ℕ} {s o : Span}
      → BeginsLength (suc r) ((kind.Punct mark.OpenBracket, o) ∷ (kind.Const n w, s) ∷ a) a
  end : {r : ℕ} {a b : Tokens} {n : Option ℤ} {e : Span} → Length r a b n e → BeginsLength r a b

-- what begins the elements of an initialiser list
pub data BeginsElements : ℕ → Tokens → Tokens → Type 0 where
  last : {r : ℕ} {a b : Tokens} → Begins Assignment r a b → BeginsElements r a b
  more : {r m : ℕ} {a b c : Tokens} {t : Tree} {s : Span}
      → Reads Assignment r a m ((kind.Punct mark.Comma, s) ∷ b) t → BeginsElements r b c
      → BeginsElements r a c

-- what begins a declared variable
pub data BeginsDeclarator : ℕ → Tokens → Tokens → Type 0 where
  none : {r : ℕ} {a : Tokens} → BeginsDeclarator r a a
  scalar_start : {r : ℕ} {a b : Tokens} {w : List ℕ} {s o : Span} → Begins Assignment r a b
      → BeginsDeclarator r ((kind.Name w, s) ∷ (kind.Punct mark.Assign, o) ∷ a) b
  array : {r : ℕ} {a b : Tokens} {w : List ℕ} {s : Span} → BeginsLength r a b
      → BeginsDeclarator r ((kind.Name w, s) ∷ a) b
  array_start : {r : ℕ} {a b : Tokens} {w : List ℕ} {s e o : Span} {n : Option ℤ}
      → Length r a ((kind.Punct mark.Assign, o) ∷ b) n e
      → BeginsDeclarator r ((kind.Name w, s) ∷ a) b
  array_list : {r : ℕ} {a b c : Tokens} {w : List ℕ} {s e o p : Span} {n : Option ℤ}
      → Length (suc r) a ((kind.Punct mark.Assign, o) ∷ (kind.Punct mark.OpenBrace, p) ∷ b) n e
      → BeginsElements r b c → BeginsDeclarator (suc r) ((kind.Name w, s) ∷ a) c
  array_end : {r : ℕ} {a b c : Tokens} {w : List ℕ} {s e o p q : Span} {n : Option ℤ}
      {ts : List Tree}
      → Length (suc r) a ((kind.Punct mark.Assign, o) ∷ (kind.Punct mark.OpenBrace, p) ∷ b) n e
      → Elements r b ((kind.Punct mark.CloseBrace, q) ∷ c) ts
      → BeginsDeclarator (suc r) ((kind.Name w, s) ∷ a) c

-- what begins declared variables
pub data BeginsDeclarators : ℕ → Tokens → Tokens → Type 0 where
  last : {r : ℕ} {a b : Tokens} → BeginsDeclarator r a b → BeginsDeclarators r a b
  more : {r : ℕ} {a b c : Tokens} {v : Variable} {s : Span}
      → Declarator r a ((kind.Punct mark.Comma, s) ∷ b) v → BeginsDeclarators r b c
      → BeginsDeclarators r a c

-- what begins a declaration of variables
pub data BeginsVars : ℕ → Tokens → Tokens → Type 0 where
  none : {r : ℕ} {a : Tokens} → BeginsVars r a a
  vars : {r : ℕ} {a b : Tokens} {k : Keyword} {s : Span} {ty : Ty} → type_word k ≡ Some ty
      → BeginsDeclarators r a b → BeginsVars r ((kind.Word k, s) ∷ a) b
  end : {r : ℕ} {a b : Tokens} {ty : Ty} {vs : List Variable} → Vars r a b ty vs → BeginsVars r a b

-- what begins the first clause of a `for`
pub data BeginsClause : ℕ → Tokens → Tokens → Type 0 where
  act : {r : ℕ} {a b : Tokens} → Begins Expression r a b → BeginsClause r a b
  vars : {r : ℕ} {a b : Tokens} → BeginsVars r a b → BeginsClause r a b
  end : {r : ℕ} {a b : Tokens} {i : First} → Clause r a b i → BeginsClause r a b

mutual
  -- what begins a statement
  pub data BeginsStatement : ℕ → Tokens → Tokens → Type 0 where
    act : {r : ℕ} {a b : Tokens} → Begins Expression r a b → BeginsStatement r a b
    block : {r : ℕ} {a b : Tokens} {s : Span} → BeginsItems r a b
        → BeginsStatement (suc r) ((kind.Punct mark.OpenBrace, s) ∷ a) b
    if_word : {r : ℕ} {a : Tokens} {s : Span}
        → BeginsStatement (suc r) ((kind.Word key.If, s) ∷ a) a
    if_test : {r : ℕ} {a b : Tokens} {s p : Span} → Begins Expression r a b
        → BeginsStatement (suc (suc r))
        ((kind.Word key.If, s) ∷ (kind.Punct mark.OpenParen, p) ∷ a) b
    if_then : {r m : ℕ} {a b c : Tokens} {s p e : Span} {t : Tree}
        → Reads Expression r a m ((kind.Punct mark.CloseParen, e) ∷ b) t
        → BeginsStatement (suc r) b c
        → BeginsStatement (suc (suc r))
        ((kind.Word key.If, s) ∷ (kind.Punct mark.OpenParen, p) ∷ a) c
    if_else : {r m : ℕ} {a b c d : Tokens} {s p e q : Span} {t : Tree} {y : Code}
        → Reads Expression r a m ((kind.Punct mark.CloseParen, e) ∷ b) t
        → Statement false (suc r) b ((kind.Word key.Else, q) ∷ c) y → BeginsStatement (suc r) c d
        → BeginsStatement (suc (suc r))
        ((kind.Word key.If, s) ∷ (kind.Punct mark.OpenParen, p) ∷ a) d
    while_word : {r : ℕ} {a : Tokens} {s : Span}
        → BeginsStatement (suc r) ((kind.Word key.While, s) ∷ a) a
    while_test : {r : ℕ} {a b : Tokens} {s p : Span} → Begins Expression r a b
        → BeginsStatement (suc (suc r))
        ((kind.Word key.While, s) ∷ (kind.Punct mark.OpenParen, p) ∷ a) b
    while : {r m : ℕ} {a b c : Tokens} {s p e : Span} {t : Tree}
        → Reads Expression r a m ((kind.Punct mark.CloseParen, e) ∷ b) t
        → BeginsStatement (suc r) b c
        → BeginsStatement (suc (suc r))
        ((kind.Word key.While, s) ∷ (kind.Punct mark.OpenParen, p) ∷ a) c
    do_body : {r : ℕ} {a b : Tokens} {s : Span} → BeginsStatement r a b
        → BeginsStatement (suc r) ((kind.Word key.Do, s) ∷ a) b
    do_word : {o : Bool} {r : ℕ} {a b : Tokens} {s w : Span} {y : Code}
        → Statement o r a ((kind.Word key.While, w) ∷ b) y
        → BeginsStatement (suc r) ((kind.Word key.Do, s) ∷ a) b
    do_test : {o : Bool} {r : ℕ} {a b c : Tokens} {s w p : Span} {y : Code}
        → Statement o (suc r) a ((kind.Word key.While, w) ∷ (kind.Punct mark.OpenParen, p) ∷ b) y
        → Begins Expression r b c
        → BeginsStatement (suc (suc r)) ((kind.Word key.Do, s) ∷ a) c
    do_close : {o : Bool} {r m : ℕ} {a b c : Tokens} {s w p e : Span} {t : Tree} {y : Code}
        → Statement o (suc r) a ((kind.Word key.While, w) ∷ (kind.Punct mark.OpenParen, p) ∷ b) y
        → Reads Expression r b m ((kind.Punct mark.CloseParen, e) ∷ c) t
        → BeginsStatement (suc (suc r)) ((kind.Word key.Do, s) ∷ a) c
    for_word : {r : ℕ} {a : Tokens} {s : Span}
        → BeginsStatement (suc r) ((kind.Word key.For, s) ∷ a) a
    for_first : {r : ℕ} {a b : Tokens} {s p : Span} → BeginsClause r a b
        → BeginsStatement (suc (suc r))
        ((kind.Word key.For, s) ∷ (kind.Punct mark.OpenParen, p) ∷ a) b
    for_test : {r : ℕ} {a b c : Tokens} {s p : Span} {i : First} → Clause r a b i
        → Begins Expression r b c
        → BeginsStatement (suc (suc r))
        ((kind.Word key.For, s) ∷ (kind.Punct mark.OpenParen, p) ∷ a) c
    for_step : {r : ℕ} {a b c d : Tokens} {s p e : Span} {i : First} {t : Option Tree}
        → Clause r a b i → Optional r b ((kind.Punct mark.Semicolon, e) ∷ c) t
        → Begins Expression r c d
        → BeginsStatement (suc (suc r))
        ((kind.Word key.For, s) ∷ (kind.Punct mark.OpenParen, p) ∷ a) d
    for : {r : ℕ} {a b c d f : Tokens} {s p e q : Span} {i : First} {t u : Option Tree}
        → Clause r a b i → Optional r b ((kind.Punct mark.Semicolon, e) ∷ c) t
        → Optional r c ((kind.Punct mark.CloseParen, q) ∷ d) u → BeginsStatement (suc r) d f
        → BeginsStatement (suc (suc r))
        ((kind.Word key.For, s) ∷ (kind.Punct mark.OpenParen, p) ∷ a) f
    give : {r : ℕ} {a b : Tokens} {s : Span} → Begins Expression r a b
        → BeginsStatement r ((kind.Word key.Return, s) ∷ a) b
    break : {r : ℕ} {a : Tokens} {s : Span} → BeginsStatement r ((kind.Word key.Break, s) ∷ a) a
    continue : {r : ℕ} {a : Tokens} {s : Span}
        → BeginsStatement r ((kind.Word key.Continue, s) ∷ a) a
    end : {o : Bool} {r : ℕ} {a b : Tokens} {x : Code} → Statement o r a b x → BeginsStatement r a b

  -- what begins the items of a block
  pub data BeginsItems : ℕ → Tokens → Tokens → Type 0 where
    vars : {r : ℕ} {a b : Tokens} → BeginsVars r a b → BeginsItems r a b
    statement : {r : ℕ} {a b : Tokens} → BeginsStatement r a b → BeginsItems r a b
    more_vars : {r : ℕ} {a b c : Tokens} {ty : Ty} {vs : List Variable} → Vars r a b ty vs
        → BeginsItems r b c → BeginsItems r a c
    more_statement : {o : Bool} {r : ℕ} {a b c : Tokens} {x : Code} → Statement o r a b x
        → BeginsItems r b c → BeginsItems r a c

-- what begins a parameter
pub data BeginsParameter : ℕ → Tokens → Tokens → Type 0 where
  none : {r : ℕ} {a : Tokens} → BeginsParameter r a a
  type : {r : ℕ} {a : Tokens} {k : Keyword} {o : Span} {ty : Ty} → type_word k ≡ Some ty
      → BeginsParameter r ((kind.Word k, o) ∷ a) a
  array : {r : ℕ} {a b : Tokens} {k : Keyword} {w : List ℕ} {o s : Span} {ty : Ty}
      → type_word k ≡ Some ty → BeginsLength r a b
      → BeginsParameter r ((kind.Word k, o) ∷ (kind.Name w, s) ∷ a) b

-- what begins parameters
pub data BeginsParameters : ℕ → Tokens → Tokens → Type 0 where
  last : {r : ℕ} {a b : Tokens} → BeginsParameter r a b → BeginsParameters r a b
  more : {r : ℕ} {a b c : Tokens} {x : Param} {s : Span}
      → Parameter r a ((kind.Punct mark.Comma, s) ∷ b) x → BeginsParameters r b c
      → BeginsParameters r a c

-- what begins a signature
pub data BeginsSignature : ℕ → Tokens → Tokens → Type 0 where
  void : {r : ℕ} {a : Tokens} {s : Span} → BeginsSignature r ((kind.Word key.Void, s) ∷ a) a
  parameters : {r : ℕ} {a b : Tokens} → BeginsParameters r a b → BeginsSignature r a b

-- what begins a declaration of variables, a prototype or a definition
pub data BeginsExternal : ℕ → Tokens → Tokens → Type 0 where
  none : {r : ℕ} {a : Tokens} → BeginsExternal r a a
  vars : {r : ℕ} {a b : Tokens} → BeginsVars r a b → BeginsExternal r a b
  result : {r : ℕ} {a : Tokens} {k : Keyword} {o : Span} {ret : Option Ty}
      → result_word k ≡ Some ret → BeginsExternal r ((kind.Word k, o) ∷ a) a
  name : {r : ℕ} {a : Tokens} {k : Keyword} {w : List ℕ} {o s : Span} {ret : Option Ty}
      → result_word k ≡ Some ret → BeginsExternal r ((kind.Word k, o) ∷ (kind.Name w, s) ∷ a) a
  signature : {r : ℕ} {a b : Tokens} {k : Keyword} {w : List ℕ} {o s p : Span} {ret : Option Ty}
      → result_word k ≡ Some ret → BeginsSignature r a b
      → BeginsExternal (suc r)
      ((kind.Word k, o) ∷ (kind.Name w, s) ∷ (kind.Punct mark.OpenParen, p) ∷ a) b
  close : {r : ℕ} {a b : Tokens} {k : Keyword} {w : List ℕ} {o s p e : Span} {ret : Option Ty}
      {xs : List Param} → result_word k ≡ Some ret
      → Signature r a ((kind.Punct mark.CloseParen, e) ∷ b) xs
      → BeginsExternal (suc r)
      ((kind.Word k, o) ∷ (kind.Name w, s) ∷ (kind.Punct mark.OpenParen, p) ∷ a) b
  body : {r : ℕ} {a b c : Tokens} {k : Keyword} {w : List ℕ} {o s p e q : Span} {ret : Option Ty}
      {xs : List Param} → result_word k ≡ Some ret
      → Signature r a ((kind.Punct mark.CloseParen, e) ∷ (kind.Punct mark.OpenBrace, q) ∷ b) xs
      → BeginsItems r b c
      → BeginsExternal (suc r)
      ((kind.Word k, o) ∷ (kind.Name w, s) ∷ (kind.Punct mark.OpenParen, p) ∷ a) c
  end : {r : ℕ} {a b : Tokens} {x : Outer} → External r a b x → BeginsExternal r a b

-- Viable r a b: the tokens from a down to b begin a program, with room r at its begin.
pub data Viable : ℕ → Tokens → Tokens → Type 0 where
  external : {r : ℕ} {a b : Tokens} → BeginsExternal r a b → Viable r a b
  more : {r : ℕ} {a b c : Tokens} {x : Outer} → External r a b x → Viable r b c → Viable r a c

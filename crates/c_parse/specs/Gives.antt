-- What a function that parses ensures: what the descent comes to, unless memory fails.
use Rattle.std.specs.Prelude.{◌≡◌, ◌≢◌, ℕ, ℤ, suc, Bool, List, map, Option, Result, Ok, Err, Vec, Box}
use Rattle.std.specs.declared.alloc.Global.{Global}
use denote.Ref.{MutBor}
use Rattle.c_tree.specs.declared.expr.Arg.{Arg}
use Rattle.c_tree.specs.declared.expr.Arg.TheVariants.{Value', Format, Address'}
use Rattle.c_tree.specs.declared.expr.Expr.{Expr}
use Rattle.c_tree.specs.declared.place.Span.{Span}
use Rattle.c_tree.specs.declared.program.External.{External}
use Rattle.c_tree.specs.declared.program.Param.{Param}
use Rattle.c_tree.specs.declared.stmt.Declarator.{Declarator}
use Rattle.c_tree.specs.declared.stmt.Init.{Init}
use Rattle.c_tree.specs.declared.stmt.Item.{Item}
use Rattle.c_tree.specs.declared.stmt.Stmt.{Stmt}
use Rattle.c_tree.specs.declared.stmt.Ty.{Ty}
use Rattle.c_tree.specs.Tree as plain
use Rattle.c_tree.specs.Tree.{Tree, Code, Variable, First, Body, Outer}
use Rattle.c_tree.specs.Views.{node_tree, tree, tree_option, trees, variables, first, code, with_item, body_of, outer}
use Rattle.c_grammar.specs.declared.nonterminal.Nonterminal.{Nonterminal}
use Rattle.c_grammar.specs.Grammar.{Tokens, Given, by_value, by_format, by_address}
use Rattle.c_grammar.specs.Descent.{Reading, found, unexpected, too_deep, Reader, Read, run}
use Rattle.c_parse.specs.declared.cursor.Cursor.{Cursor}
use Rattle.c_parse.specs.declared.expression.ExpressionParser.{ExpressionParser}
use Rattle.c_parse.specs.declared.fault.Stop.{Stop}
use Rattle.c_parse.specs.declared.fault.Stop.TheVariants.{Unexpected, TooDeep, NoMemory}

-- the outcome of the descent where reading stopped, with the tokens from there on
abbrev pub stopped : {A : Type 0} → Stop → Tokens → Reading A
stopped Unexpected b = unexpected b
stopped TooDeep b = too_deep b
stopped NoMemory b = unexpected b

-- the result is what the descent finds, seen as a plain tree, with the room and the tokens after
-- it; or it is the fault
abbrev pub Gives : {X A : Type 0} → (X → A) → Reading A → Result X Stop → ℕ → Tokens → Type 0
Gives view o (Ok x) m b = o ≡ found (view x) m b
Gives view o (Err e) m b = e ≢ NoMemory → o ≡ stopped e b

-- the result is what the reader finds at the cursor, seen as a plain tree, and the cursor is then
-- after it, or at the fault
abbrev pub Parses : {X A : Type 0} → (X → A) → Reader A → Cursor → Result X Stop → Cursor → Type 0
Parses view reader before result after =
    Gives view (reader before.room before.rest.now) result after.room after.rest.now

-- ---- how results are seen

-- as they are
abbrev pub itself : {A : Type 0} → A → A
itself x = x

-- a text and its span: its bytes and its span
abbrev pub named : List ℕ × Span → List ℕ × Span
named x = x

-- a constant: its value, the bytes of its text and its span
abbrev pub numbered : ℤ × List ℕ × Span → ℤ × List ℕ × Span
numbered x = x

-- an expression, and whether it is written as a unary expression
abbrev pub marked : Expr × Bool → Read
marked x = (tree x.0, x.1)

-- the same where the expression stands in a box
abbrev pub marked_box : Box Expr Global × Bool → Read
marked_box x = (tree x.0.value, x.1)

-- an argument of a call
abbrev pub given : Arg → Given
given (Value' e s) = by_value (node_tree e s)
given (Format w s) = by_format w s
given (Address' e s) = by_address (node_tree e s)

-- the arguments of a call
abbrev pub givens : Vec Arg Global → List Given
givens v = map given v.items

-- the elements of an initializer list
abbrev pub elements : Vec Expr Global → List Tree
elements v = trees v.items

-- declared variables
abbrev pub declared : Vec Declarator Global → List Variable
declared v = variables v.items

-- declared variables of a type
abbrev pub typed : Ty × Vec Declarator Global → Ty × List Variable
typed x = (x.0, declared x.1)

-- the clauses of a `for`
abbrev pub clauses : Init × Option Expr × Option Expr → First × Option Tree × Option Tree
clauses x = (first x.0, tree_option x.1, tree_option x.2)

-- the condition of a `do`, and the span of its `;`
abbrev pub ended : Expr × Span → Tree × Span
ended x = (tree x.0, x.1)

-- a statement in a box
abbrev pub boxed : Box Stmt Global → Code
boxed b = code b.value

-- an item of a block, as the items of a block that has no other
abbrev pub alone : Item → Body
alone i = with_item i plain.done

-- the items of a block
abbrev pub body : Vec Item Global → Body
body v = body_of v.items

-- the items of a function's body, and the span of its `}`
abbrev pub closed_body : Vec Item Global × Span → Body × Span
closed_body x = (body x.0, x.1)

-- parameters
abbrev pub params : Vec Param Global → List Param
params v = v.items

-- external declarations
abbrev pub outers : Vec External Global → List Outer
outers v = map outer v.items

-- ---- parsers of the parts after an opener

-- The parser of parts that an expression parser takes: it may always be called at the parser's
-- depth, and then gives what the descent comes to. The turns are one more than the depth.
pub record ReadsParts {F : Type 0} (pre : F → Global → MutBor Cursor → ℕ → Nonterminal → Type 0)
    (post : F → Global → MutBor Cursor → ℕ → Nonterminal → Result (Expr × Bool) Stop
    → MutBor Cursor → Type 0)
    (p : ExpressionParser F) : Type 0 where
  pub counted : p.turns ≡ suc p.depth
  pub callable : (alloc : Global) (old : MutBor Cursor) (part : Nonterminal)
      → pre p.parse_part alloc old p.depth part
  pub reads : (alloc : Global) (old new : MutBor Cursor) (part : Nonterminal)
      (r : Result (Expr × Bool) Stop)
      → post p.parse_part alloc old p.depth part r new
      → Parses marked (run p.depth part) old.now r new.now

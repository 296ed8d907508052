-- Parts of a program in which the word of each constant and variable is that token by itself.
use Rattle.std.specs.Prelude.{List, [], ◌∷◌, Option, Some, None}
use Rattle.c_lex.specs.declared.token.TokenKind.TheVariants as kind
use Rattle.c_lex.specs.Tokens.{Macros}
use Rattle.c_tree.specs.declared.program.Param.{Param}
use Rattle.c_tree.specs.Tree.{Tree, constant, name, index, call, unary, cast, binary, choice, assign, bump, comma, hole, hole_after, Args, no_args, value, format, address, Initial, bare_start, one_start, list_start, Variable, First, no_first, first_act, first_vars, Code, empty, act, block, if_then, if_else, while, do_while, for, give, break, continue, Body, done, next, vars, Outer, outer_vars, outer_func}
use Rattle.c_grammar.specs.Grammar.{Given, by_value, by_format, by_address}
use Rattle.c_splice.specs.Words.{IsWordOf}

abbrev mutual
  -- with these macros, the word of each constant and variable of the expression is that token by
  -- itself
  pub Sourced : Macros → Tree → Type 0
  Sourced m (constant n w s) = IsWordOf m w (kind.Const n w)
  Sourced m (name w v s) = IsWordOf m w (kind.Name w)
  Sourced m (index w v e s) = IsWordOf m w (kind.Name w) × Sourced m e
  Sourced m (call w x s) = SourcedArgs m x
  Sourced m (unary op e s) = Sourced m e
  Sourced m (cast ty e s) = Sourced m e
  Sourced m (binary op a b s) = Sourced m a × Sourced m b
  Sourced m (choice t a b s) = Sourced m t × Sourced m a × Sourced m b
  Sourced m (assign op place e s) = Sourced m place × Sourced m e
  Sourced m (bump before up e s) = Sourced m e
  Sourced m (comma a b s) = Sourced m a × Sourced m b
  Sourced m hole = Unit {0}
  Sourced m (hole_after e) = Sourced m e

  -- the same of the arguments of a call; a format is no constant
  pub SourcedArgs : Macros → Args → Type 0
  SourcedArgs m no_args = Unit {0}
  SourcedArgs m (value e x) = Sourced m e × SourcedArgs m x
  SourcedArgs m (format f s x) = SourcedArgs m x
  SourcedArgs m (address e x) = Sourced m e × SourcedArgs m x

-- the same of an argument
abbrev pub SourcedGiven : Macros → Given → Type 0
SourcedGiven m (by_value e) = Sourced m e
SourcedGiven m (by_format f s) = Unit {0}
SourcedGiven m (by_address e) = Sourced m e

-- the same of the expressions of a list
abbrev pub SourcedTrees : Macros → List Tree → Type 0
SourcedTrees m [] = Unit {0}
SourcedTrees m (e ∷ es) = Sourced m e × SourcedTrees m es

-- the same of an expression that may be absent
abbrev pub SourcedOption : Macros → Option Tree → Type 0
SourcedOption m None = Unit {0}
SourcedOption m (Some e) = Sourced m e

-- the same of an initialiser
abbrev pub SourcedInitial : Macros → Initial → Type 0
SourcedInitial m bare_start = Unit {0}
SourcedInitial m (one_start e) = Sourced m e
SourcedInitial m (list_start es) = SourcedTrees m es

-- the same of a declared variable, with its own name
abbrev pub SourcedVariable : Macros → Variable → Type 0
SourcedVariable m v = IsWordOf m v.word (kind.Name v.word) × SourcedInitial m v.start

-- the same of declared variables
abbrev pub SourcedVariables : Macros → List Variable → Type 0
SourcedVariables m [] = Unit {0}
SourcedVariables m (v ∷ vs) = SourcedVariable m v × SourcedVariables m vs

-- the same of the first clause of a `for`
abbrev pub SourcedFirst : Macros → First → Type 0
SourcedFirst m no_first = Unit {0}
SourcedFirst m (first_act e) = Sourced m e
SourcedFirst m (first_vars ty vs) = SourcedVariables m vs

abbrev mutual
  -- the same of a statement
  pub SourcedCode : Macros → Code → Type 0
  SourcedCode m (empty s) = Unit {0}
  SourcedCode m (act e s) = Sourced m e
  SourcedCode m (block body s) = SourcedBody m body
  SourcedCode m (if_then t a s) = Sourced m t × SourcedCode m a
  SourcedCode m (if_else t a b s) = Sourced m t × SourcedCode m a × SourcedCode m b
  SourcedCode m (while t a s) = Sourced m t × SourcedCode m a
  SourcedCode m (do_while a t s) = SourcedCode m a × Sourced m t
  SourcedCode m (for i t u a s) =
      SourcedFirst m i × SourcedOption m t × SourcedOption m u × SourcedCode m a
  SourcedCode m (give e s) = SourcedOption m e
  SourcedCode m (break s) = Unit {0}
  SourcedCode m (continue s) = Unit {0}

  -- the same of the body of a block
  pub SourcedBody : Macros → Body → Type 0
  SourcedBody m done = Unit {0}
  SourcedBody m (next c rest) = SourcedCode m c × SourcedBody m rest
  SourcedBody m (vars ty vs rest) = SourcedVariables m vs × SourcedBody m rest

-- the same of the names of parameters
abbrev pub SourcedParams : Macros → List Param → Type 0
SourcedParams m [] = Unit {0}
SourcedParams m (x ∷ xs) = IsWordOf m x.word (kind.Name x.word) × SourcedParams m xs

-- the same of the body of a function, which a prototype has none of
abbrev pub SourcedDefinition : Macros → Option Body → Type 0
SourcedDefinition m None = Unit {0}
SourcedDefinition m (Some body) = SourcedBody m body

-- the same of what stands at file scope
abbrev pub SourcedOuter : Macros → Outer → Type 0
SourcedOuter m (outer_vars ty vs) = SourcedVariables m vs
SourcedOuter m (outer_func f) = SourcedParams m f.params × SourcedDefinition m f.body

-- the same of a program
abbrev pub SourcedProgram : Macros → List Outer → Type 0
SourcedProgram m [] = Unit {0}
SourcedProgram m (x ∷ p) = SourcedOuter m x × SourcedProgram m p

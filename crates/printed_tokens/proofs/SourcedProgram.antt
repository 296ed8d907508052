-- A program that is derived from tokens has their words.
use Rattle.std.proofs.Common.{ℕ, ℤ, Bool, List, [], ◌∷◌, Option}
use Rattle.c_lex.specs.Tokens.{Macros}
use Rattle.c_tree.specs.declared.place.Span.{Span}
use Rattle.c_tree.specs.declared.program.Param.{Param}
use Rattle.c_tree.specs.declared.stmt.Ty.{Ty}
use Rattle.c_tree.specs.Tree.{Tree, Variable, First, Code, Body, Outer}
use Rattle.c_grammar.specs.Grammar.{Tokens}
use Rattle.c_grammar.specs.Programs.{Length, Elements, Declarator, Declarators, Vars, Clause, Optional, Statement, Items, Parameter, Parameters, Signature, External, Derives}
use Rattle.c_splice.specs.Words.{AllWorded}
use Rattle.printed_tokens.specs.Sourced.{SourcedTrees, SourcedOption, SourcedVariable, SourcedVariables, SourcedFirst, SourcedCode, SourcedBody, SourcedParams, SourcedOuter, SourcedProgram}
use Rattle.printed_tokens.proofs.Sourced.{sourced}

module _ (m : Macros) where
  -- the length of an array has no word
  length_passed : {r : ℕ} {a b : Tokens} {n : Option ℤ} {e : Span} → Length r a b n e
      → AllWorded m a → AllWorded m b
  length_passed Length.bare h = h.1.1
  length_passed Length.constant h = h.1.1.1

  -- the words of the elements of a list, and what follows
  elements : {r : ℕ} {a b : Tokens} {ts : List Tree} → Elements r a b ts → AllWorded m a
      → SourcedTrees m ts × AllWorded m b
  elements (Elements.last d) h = let x = sourced m d h in ((x.0, tt), x.1)
  elements (Elements.last_comma d) h = let x = sourced m d h in ((x.0, tt), x.1.1)
  elements (Elements.more d e) h =
      let x = sourced m d h in let y = elements e x.1.1 in ((x.0, y.0), y.1)

  -- the words of a declarator
  declarator : {r : ℕ} {a b : Tokens} {v : Variable} → Declarator r a b v → AllWorded m a
      → SourcedVariable m v × AllWorded m b
  declarator Declarator.scalar h = ((h.0, tt), h.1)
  declarator (Declarator.scalar_start d) h = let x = sourced m d h.1.1 in ((h.0, x.0), x.1)
  declarator (Declarator.array d) h = ((h.0, tt), length_passed d h.1)
  declarator (Declarator.array_list d e) h =
      let x = length_passed d h.1 in let y = elements e x.1.1 in ((h.0, y.0), y.1.1)

  -- of declarators
  declarators : {r : ℕ} {a b : Tokens} {vs : List Variable} → Declarators r a b vs → AllWorded m a
      → SourcedVariables m vs × AllWorded m b
  declarators (Declarators.last d) h = let x = declarator d h in ((x.0, tt), x.1)
  declarators (Declarators.more d e) h =
      let x = declarator d h in let y = declarators e x.1.1 in ((x.0, y.0), y.1)

  -- of a declaration
  declaration : {r : ℕ} {a b : Tokens} {ty : Ty} {vs : List Variable} → Vars r a b ty vs
      → AllWorded m a → SourcedVariables m vs × AllWorded m b
  declaration (Vars.vars f d) h = let x = declarators d h.1 in (x.0, x.1.1)

  -- of the first clause of a `for`
  clause : {r : ℕ} {a b : Tokens} {i : First} → Clause r a b i → AllWorded m a
      → SourcedFirst m i × AllWorded m b
  clause Clause.empty h = (tt, h.1)
  clause (Clause.act d) h = let x = sourced m d h in (x.0, x.1.1)
  clause (Clause.vars d) h = declaration d h

  -- of an expression that may be absent
  optional : {r : ℕ} {a b : Tokens} {t : Option Tree} → Optional r a b t → AllWorded m a
      → SourcedOption m t × AllWorded m b
  optional Optional.absent h = (tt, h)
  optional (Optional.present d) h = sourced m d h

  mutual
    -- of a statement
    statement : {o : Bool} {r : ℕ} {a b : Tokens} {c : Code} → Statement o r a b c → AllWorded m a
        → SourcedCode m c × AllWorded m b
    statement Statement.empty h = (tt, h.1)
    statement (Statement.act d) h = let x = sourced m d h in (x.0, x.1.1)
    statement (Statement.block d) h = let x = items d h.1 in (x.0, x.1.1)
    statement (Statement.if_then d e) h =
        let x = sourced m d h.1.1 in let y = statement e x.1.1 in ((x.0, y.0), y.1)
    statement (Statement.if_else d e f) h =
        let x = sourced m d h.1.1 in let y = statement e x.1.1 in let z = statement f y.1.1 in
        ((x.0, y.0, z.0), z.1)
    statement (Statement.while d e) h =
        let x = sourced m d h.1.1 in let y = statement e x.1.1 in ((x.0, y.0), y.1)
    statement (Statement.do_while d e) h =
        let x = statement d h.1 in let y = sourced m e x.1.1.1 in ((x.0, y.0), y.1.1.1)
    statement (Statement.for c d e f) h =
        let x = clause c h.1.1 in let y = optional d x.1 in
        let z = optional e y.1.1 in let w = statement f z.1.1 in
        ((x.0, y.0, z.0, w.0), w.1)
    statement (Statement.give d) h = let x = optional d h.1 in (x.0, x.1.1)
    statement Statement.break h = (tt, h.1.1)
    statement Statement.continue h = (tt, h.1.1)

    -- of the items of a block
    items : {r : ℕ} {a b : Tokens} {body : Body} → Items r a b body → AllWorded m a
        → SourcedBody m body × AllWorded m b
    items Items.none h = (tt, h)
    items (Items.vars d e) h = let x = declaration d h in let y = items e x.1 in ((x.0, y.0), y.1)
    items (Items.statement d e) h = let x = statement d h in let y = items e x.1 in ((x.0, y.0), y.1)

  -- of a parameter
  parameter : {r : ℕ} {a b : Tokens} {x : Param} → Parameter r a b x → AllWorded m a
      → SourcedParams m (x ∷ []) × AllWorded m b
  parameter (Parameter.scalar f) h = ((h.1.0, tt), h.1.1)
  parameter (Parameter.array f d) h = ((h.1.0, tt), length_passed d h.1.1)

  -- of parameters
  parameters : {r : ℕ} {a b : Tokens} {xs : List Param} → Parameters r a b xs → AllWorded m a
      → SourcedParams m xs × AllWorded m b
  parameters (Parameters.last d) h = parameter d h
  parameters (Parameters.more d e) h =
      let x = parameter d h in let y = parameters e x.1.1 in ((x.0.0, y.0), y.1)

  -- of the parameters of a function
  signature : {r : ℕ} {a b : Tokens} {xs : List Param} → Signature r a b xs → AllWorded m a
      → SourcedParams m xs × AllWorded m b
  signature Signature.empty h = (tt, h)
  signature Signature.void h = (tt, h.1)
  signature (Signature.parameters d) h = parameters d h

  -- of what stands at file scope
  external : {r : ℕ} {a b : Tokens} {x : Outer} → External r a b x → AllWorded m a
      → SourcedOuter m x × AllWorded m b
  external (External.vars d) h = declaration d h
  external (External.prototype f d) h = let x = signature d h.1.1.1 in ((x.0, tt), x.1.1.1)
  external (External.definition f d e) h =
      let x = signature d h.1.1.1 in let y = items e x.1.1.1 in ((x.0, y.0), y.1.1)

  -- the words of a program are words of its tokens
  pub program_sourced : {r : ℕ} {a : Tokens} {p : List Outer} → Derives r a p → AllWorded m a
      → SourcedProgram m p
  program_sourced (Derives.last d) h = ((external d h).0, tt)
  program_sourced (Derives.more d e) h = let x = external d h in (x.0, program_sourced e x.1)

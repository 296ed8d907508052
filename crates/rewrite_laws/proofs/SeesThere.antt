-- What the scopes are in which a location stands, by the walk that looks for faults.
use Rattle.std.specs.Prelude.{◌≡◌, true, List, [], ◌∷◌, ◌++◌, Option, Some, None}
use Rattle.c_tree.specs.declared.expr.BinOp.{BinOp}
use Rattle.c_tree.specs.declared.place.Loc.{Loc}
use Rattle.c_tree.specs.declared.place.LocKind.{LocKind}
use Rattle.c_tree.specs.declared.place.LocKind.TheVariants.{Guard, Cond, Right}
use Rattle.c_tree.specs.declared.place.Span.{Span}
use Rattle.c_tree.specs.declared.stmt.Ty.{Ty}
use Rattle.c_tree.specs.Parts.{span_of}
use Rattle.c_tree.specs.Tree.{Tree, constant, name, index, call, unary, cast, binary, choice, assign, bump, comma, hole, hole_after, Args, no_args, value, format, address, Initial, bare_start, one_start, list_start, Variable, First, no_first, first_act, first_vars, Code, empty, act, block, if_then, if_else, while, do_while, for, give, break, continue, Body, done, next, vars, Outer, outer_vars, outer_func}
use Rattle.c_types.specs.declared.scope.Declaration.{Declaration}
use Rattle.c_types.specs.Library.{library}
use Rattle.c_types.specs.Programs.{function_declaration, params_declared}
use Rattle.c_types.specs.Statements.{variable_declaration, declared, first_declared}
use Rattle.c_location.specs.Locations.{stands}

-- nothing is said
abbrev pub Nothing : Type 0
Nothing = Unit {0}

-- S is to hold of what stands at the location with the declarations in scope there, where it is an expression, and C of the
-- declarations alone, where it is a statement.
module _ (l : Loc) (S : List Declaration → Tree → Type 0) (C : List Declaration → Type 0) where
  -- where this expression is the location
  abbrev pub Here : LocKind → List Declaration → Tree → Type 0
  Here kind ds e = stands l kind (span_of e) ≡ true → S ds e

  -- where the statement of this text is
  abbrev pub HereCode : List Declaration → Span → Type 0
  HereCode ds s = stands l Guard s ≡ true → C ds

  -- the same of the value of an assignment, which is a location where the assignment has no operator
  abbrev pub InAssigned : Option BinOp → List Declaration → Tree → Type 0
  InAssigned None ds e = Here Right ds e
  InAssigned (Some op) ds e = Nothing

  -- of each location in an expression
  abbrev mutual
    pub InTree : List Declaration → Tree → Type 0
    InTree ds (constant n word s) = Nothing
    InTree ds (name word slot s) = Nothing
    InTree ds (index word slot e s) = InTree ds e
    InTree ds (call word x s) = InArgs ds x
    InTree ds (unary op e s) = InTree ds e
    InTree ds (cast ty e s) = InTree ds e
    InTree ds (binary op a b s) = InTree ds a × InTree ds b
    InTree ds (choice t a b s) = InTree ds t × InTree ds a × InTree ds b
    InTree ds (assign op place e s) = InTree ds place × InAssigned op ds e × InTree ds e
    InTree ds (bump before up place s) = InTree ds place
    InTree ds (comma a b s) = InTree ds a × InTree ds b
    InTree ds hole = Nothing
    InTree ds (hole_after e) = InTree ds e

    pub InArgs : List Declaration → Args → Type 0
    InArgs ds no_args = Nothing
    InArgs ds (value e x) = InTree ds e × InArgs ds x
    InArgs ds (format text s x) = InArgs ds x
    InArgs ds (address e x) = InTree ds e × InArgs ds x

  -- of a part that can be a location itself
  abbrev pub InPart : LocKind → List Declaration → Tree → Type 0
  InPart kind ds e = Here kind ds e × InTree ds e

  abbrev pub InOption : LocKind → List Declaration → Option Tree → Type 0
  InOption kind ds None = Nothing
  InOption kind ds (Some e) = InPart kind ds e

  -- of the step of a `for`, which is no location
  abbrev pub InStep : List Declaration → Option Tree → Type 0
  InStep ds None = Nothing
  InStep ds (Some e) = InTree ds e

  abbrev pub InTrees : List Declaration → List Tree → Type 0
  InTrees ds [] = Nothing
  InTrees ds (e ∷ es) = InTree ds e × InTrees ds es

  abbrev pub InInitial : List Declaration → Initial → Type 0
  InInitial ds bare_start = Nothing
  InInitial ds (one_start e) = InPart Right ds e
  InInitial ds (list_start es) = InTrees ds es

  abbrev pub InVariables : List Declaration → List Declaration → Ty → List Variable → Type 0
  InVariables here around ty [] = Nothing
  InVariables here around ty (v ∷ vs) =
      InInitial (variable_declaration ty v ∷ (here ++ around)) v.start
      × InVariables (variable_declaration ty v ∷ here) around ty vs

  abbrev pub InFirst : List Declaration → First → Type 0
  InFirst ds no_first = Nothing
  InFirst ds (first_act e) = InTree ds e
  InFirst ds (first_vars ty vs) = InVariables [] ds ty vs

  -- of each location in a statement
  abbrev mutual
    pub InCode : List Declaration → Code → Type 0
    InCode ds (empty s) = Nothing
    InCode ds (act e s) = HereCode ds s × InTree ds e
    InCode ds (block body s) = InBody [] ds body
    InCode ds (if_then t a s) = InPart Cond ds t × InCode ds a
    InCode ds (if_else t a b s) = InPart Cond ds t × InCode ds a × InCode ds b
    InCode ds (while t a s) = InPart Cond ds t × InCode ds a
    InCode ds (do_while a t s) = InCode ds a × InPart Cond ds t
    InCode ds (for i t u a s) =
        InFirst ds i × InOption Cond (first_declared i ++ ds) t × InStep (first_declared i ++ ds) u × InCode (first_declared i ++ ds) a
    InCode ds (give e s) = HereCode ds s × InOption Right ds e
    InCode ds (break s) = HereCode ds s
    InCode ds (continue s) = HereCode ds s

    pub InBody : List Declaration → List Declaration → Body → Type 0
    InBody here around done = Nothing
    InBody here around (next c rest) = InCode (here ++ around) c × InBody here around rest
    InBody here around (vars ty vs rest) = InVariables here around ty vs × InBody (declared ty vs here) around rest

  abbrev pub InDefinition : List Declaration → List Declaration → Option Body → Type 0
  InDefinition here around None = Nothing
  InDefinition here around (Some body) = InBody here around body

  module _ (file : List Outer) where
    abbrev pub InOuters : List Declaration → List Outer → Type 0
    InOuters here [] = Nothing
    InOuters here (outer_vars ty vs ∷ rest) = InOuters (declared ty vs here) rest
    InOuters here (outer_func f ∷ rest) =
        InDefinition (params_declared f.params []) (function_declaration file f ∷ here) f.body
        × InOuters (function_declaration file f ∷ here) rest

  -- of each location in a program
  abbrev pub InProgram : List Outer → Type 0
  InProgram file = InOuters file library file

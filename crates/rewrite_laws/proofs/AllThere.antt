-- What holds of every expression and all declarations holds at each location.
use Rattle.std.proofs.Common.{List, [], ◌∷◌, ◌++◌, Option, Some, None}
use Rattle.c_tree.specs.declared.expr.BinOp.{BinOp}
use Rattle.c_tree.specs.declared.place.Loc.{Loc}
use Rattle.c_tree.specs.declared.place.LocKind.{LocKind}
use Rattle.c_tree.specs.declared.place.LocKind.TheVariants.{Cond, Right}
use Rattle.c_tree.specs.declared.stmt.Ty.{Ty}
use Rattle.c_tree.specs.Tree.{Tree, constant, name, index, call, unary, cast, binary, choice, assign, bump, comma, hole, hole_after, Args, no_args, value, format, address, Initial, bare_start, one_start, list_start, Variable, First, no_first, first_act, first_vars, Code, empty, act, block, if_then, if_else, while, do_while, for, give, break, continue, Body, done, next, vars, Outer, outer_vars, outer_func}
use Rattle.c_types.specs.declared.scope.Declaration.{Declaration}
use Rattle.c_types.specs.Library.{library}
use Rattle.c_types.specs.Programs.{function_declaration, params_declared}
use Rattle.c_types.specs.Statements.{variable_declaration, declared, first_declared}
use Rattle.rewrite_laws.proofs.SeesThere.{InAssigned, InTree, InArgs, InPart, InOption, InStep, InTrees, InInitial, InVariables, InFirst, InCode, InBody, InDefinition, InOuters, InProgram}

module _ (l : Loc) (S : List Declaration → Tree → Type 0) (C : List Declaration → Type 0) (all : (ds : List Declaration) (e : Tree) → S ds e) (all_code : (ds : List Declaration) → C ds) where
  module _ (ds : List Declaration) where
    assigned : (op : Option BinOp) (e : Tree) → InAssigned l S C op ds e
    assigned None e = λ is. all ds e
    assigned (Some op) e = tt

    mutual
      in_tree : (e : Tree) → InTree l S C ds e
      in_tree (constant n w s) = tt
      in_tree (name w v s) = tt
      in_tree (index w v e s) = in_tree e
      in_tree (call w x s) = in_args x
      in_tree (unary op e s) = in_tree e
      in_tree (cast ty e s) = in_tree e
      in_tree (binary op a b s) = (in_tree a, in_tree b)
      in_tree (choice t a b s) = (in_tree t, in_tree a, in_tree b)
      in_tree (assign op place e s) = (in_tree place, assigned op e, in_tree e)
      in_tree (bump before up place s) = in_tree place
      in_tree (comma a b s) = (in_tree a, in_tree b)
      in_tree hole = tt
      in_tree (hole_after e) = in_tree e

      in_args : (x : Args) → InArgs l S C ds x
      in_args no_args = tt
      in_args (value e x) = (in_tree e, in_args x)
      in_args (format text s x) = in_args x
      in_args (address e x) = (in_tree e, in_args x)

    in_part : (kind : LocKind) (e : Tree) → InPart l S C kind ds e
    in_part kind e = (λ is. all ds e, in_tree e)

    in_trees : (es : List Tree) → InTrees l S C ds es
    in_trees [] = tt
    in_trees (e ∷ es) = (in_tree e, in_trees es)

    in_initial : (start : Initial) → InInitial l S C ds start
    in_initial bare_start = tt
    in_initial (one_start e) = in_part Right e
    in_initial (list_start es) = in_trees es

    in_option : (kind : LocKind) (o : Option Tree) → InOption l S C kind ds o
    in_option kind None = tt
    in_option kind (Some e) = in_part kind e

    in_step : (o : Option Tree) → InStep l S C ds o
    in_step None = tt
    in_step (Some e) = in_tree e

  in_variables : (here around : List Declaration) (ty : Ty) (vs : List Variable) → InVariables l S C here around ty vs
  in_variables here around ty [] = tt
  in_variables here around ty (v ∷ vs) = (
    in_initial (variable_declaration ty v ∷ (here ++ around)) v.start,
    in_variables (variable_declaration ty v ∷ here) around ty vs,
  )

  in_first : (ds : List Declaration) (f : First) → InFirst l S C ds f
  in_first ds no_first = tt
  in_first ds (first_act e) = in_tree ds e
  in_first ds (first_vars ty vs) = in_variables [] ds ty vs

  mutual
    in_code : (ds : List Declaration) (c : Code) → InCode l S C ds c
    in_code ds (empty s) = tt
    in_code ds (act e s) = (λ is. all_code ds, in_tree ds e)
    in_code ds (block body s) = in_body [] ds body
    in_code ds (if_then t a s) = (in_part ds Cond t, in_code ds a)
    in_code ds (if_else t a b s) = (in_part ds Cond t, in_code ds a, in_code ds b)
    in_code ds (while t a s) = (in_part ds Cond t, in_code ds a)
    in_code ds (do_while a t s) = (in_code ds a, in_part ds Cond t)
    in_code ds (for f t u a s) = (
      in_first ds f,
      in_option (first_declared f ++ ds) Cond t,
      in_step (first_declared f ++ ds) u,
      in_code (first_declared f ++ ds) a,
    )
    in_code ds (give e s) = (λ is. all_code ds, in_option ds Right e)
    in_code ds (break s) = λ is. all_code ds
    in_code ds (continue s) = λ is. all_code ds

    in_body : (here around : List Declaration) (b : Body) → InBody l S C here around b
    in_body here around done = tt
    in_body here around (next c rest) = (in_code (here ++ around) c, in_body here around rest)
    in_body here around (vars ty vs rest) = (in_variables here around ty vs, in_body (declared ty vs here) around rest)

  in_definition : (here around : List Declaration) (b : Option Body) → InDefinition l S C here around b
  in_definition here around None = tt
  in_definition here around (Some body) = in_body here around body

  in_outers : (file : List Outer) (here : List Declaration) (p : List Outer) → InOuters l S C file here p
  in_outers file here [] = tt
  in_outers file here (outer_vars ty vs ∷ rest) = in_outers file (declared ty vs here) rest
  in_outers file here (outer_func f ∷ rest) = (
    in_definition (params_declared f.params []) (function_declaration file f ∷ here) f.body,
    in_outers file (function_declaration file f ∷ here) rest,
  )

  pub all_there : (p : List Outer) → InProgram l S C p
  all_there p = in_outers p library p

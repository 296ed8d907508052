-- What holds at each location holds there of anything weaker.
use Rattle.std.proofs.Common.{List, [], ◌∷◌, ◌++◌, Option, Some, None}
use Rattle.c_tree.specs.declared.expr.BinOp.{BinOp}
use Rattle.c_tree.specs.declared.place.Loc.{Loc}
use Rattle.c_tree.specs.declared.place.LocKind.{LocKind}
use Rattle.c_tree.specs.declared.place.LocKind.TheVariants.{Cond, Right}
use Rattle.c_tree.specs.declared.stmt.Ty.{Ty}
use Rattle.c_tree.specs.Tree.{Tree, constant, name, index, call, unary, cast, binary, choice, assign, bump, comma, hole, hole_after, Args, no_args, value, format, address, Initial, bare_start, one_start, list_start, Variable, First, no_first, first_act, first_vars, Code, empty, act, block, if_then, if_else, while, do_while, for, give, break, continue, Body, done, next, vars, Outer, outer_vars, outer_func}
use Rattle.c_types.specs.declared.scope.Declaration.{Declaration}
use Rattle.c_types.specs.Library.{library}
use Rattle.c_types.specs.Programs.{function_declaration, params_declared}
use Rattle.c_types.specs.Statements.{variable_declaration, declared, first_declared}
use Rattle.rewrite_laws.proofs.SeesThere.{InAssigned, InTree, InArgs, InPart, InOption, InStep, InTrees, InInitial, InVariables, InFirst, InCode, InBody, InDefinition, InOuters, InProgram}

module _ (l : Loc) (S T : List Declaration → Tree → Type 0) (C D : List Declaration → Type 0) (weak : (ds : List Declaration) (e : Tree) → S ds e → T ds e) (weak_code : (ds : List Declaration) → C ds → D ds) where
  module _ (ds : List Declaration) where
    assigned : (op : Option BinOp) (e : Tree) → InAssigned l S C op ds e → InAssigned l T D op ds e
    assigned None e k = λ is. weak ds e (k is)
    assigned (Some op) e k = tt

    mutual
      in_tree : (e : Tree) → InTree l S C ds e → InTree l T D ds e
      in_tree (constant n w s) k = tt
      in_tree (name w v s) k = tt
      in_tree (index w v e s) k = in_tree e k
      in_tree (call w x s) k = in_args x k
      in_tree (unary op e s) k = in_tree e k
      in_tree (cast ty e s) k = in_tree e k
      in_tree (binary op a b s) k = (in_tree a k.0, in_tree b k.1)
      in_tree (choice t a b s) k = (in_tree t k.0, in_tree a k.1, in_tree b k.2)
      in_tree (assign op place e s) k = (in_tree place k.0, assigned op e k.1, in_tree e k.2)
      in_tree (bump before up place s) k = in_tree place k
      in_tree (comma a b s) k = (in_tree a k.0, in_tree b k.1)
      in_tree hole k = tt
      in_tree (hole_after e) k = in_tree e k

      in_args : (x : Args) → InArgs l S C ds x → InArgs l T D ds x
      in_args no_args k = tt
      in_args (value e x) k = (in_tree e k.0, in_args x k.1)
      in_args (format text s x) k = in_args x k
      in_args (address e x) k = (in_tree e k.0, in_args x k.1)

    in_part : (kind : LocKind) (e : Tree) → InPart l S C kind ds e → InPart l T D kind ds e
    in_part kind e k = (λ is. weak ds e (k.0 is), in_tree e k.1)

    in_trees : (es : List Tree) → InTrees l S C ds es → InTrees l T D ds es
    in_trees [] k = tt
    in_trees (e ∷ es) k = (in_tree e k.0, in_trees es k.1)

    in_initial : (start : Initial) → InInitial l S C ds start → InInitial l T D ds start
    in_initial bare_start k = tt
    in_initial (one_start e) k = in_part Right e k
    in_initial (list_start es) k = in_trees es k

    in_option : (kind : LocKind) (o : Option Tree) → InOption l S C kind ds o → InOption l T D kind ds o
    in_option kind None k = tt
    in_option kind (Some e) k = in_part kind e k

    in_step : (o : Option Tree) → InStep l S C ds o → InStep l T D ds o
    in_step None k = tt
    in_step (Some e) k = in_tree e k

  in_variables : (here around : List Declaration) (ty : Ty) (vs : List Variable) → InVariables l S C here around ty vs → InVariables l T D here around ty vs
  in_variables here around ty [] k = tt
  in_variables here around ty (v ∷ vs) k = (
    in_initial (variable_declaration ty v ∷ (here ++ around)) v.start k.0,
    in_variables (variable_declaration ty v ∷ here) around ty vs k.1,
  )

  in_first : (ds : List Declaration) (f : First) → InFirst l S C ds f → InFirst l T D ds f
  in_first ds no_first k = tt
  in_first ds (first_act e) k = in_tree ds e k
  in_first ds (first_vars ty vs) k = in_variables [] ds ty vs k

  mutual
    in_code : (ds : List Declaration) (c : Code) → InCode l S C ds c → InCode l T D ds c
    in_code ds (empty s) k = tt
    in_code ds (act e s) k = (λ is. weak_code ds (k.0 is), in_tree ds e k.1)
    in_code ds (block body s) k = in_body [] ds body k
    in_code ds (if_then t a s) k = (in_part ds Cond t k.0, in_code ds a k.1)
    in_code ds (if_else t a b s) k = (in_part ds Cond t k.0, in_code ds a k.1, in_code ds b k.2)
    in_code ds (while t a s) k = (in_part ds Cond t k.0, in_code ds a k.1)
    in_code ds (do_while a t s) k = (in_code ds a k.0, in_part ds Cond t k.1)
    in_code ds (for f t u a s) k = (
      in_first ds f k.0,
      in_option (first_declared f ++ ds) Cond t k.1,
      in_step (first_declared f ++ ds) u k.2,
      in_code (first_declared f ++ ds) a k.3,
    )
    in_code ds (give e s) k = (λ is. weak_code ds (k.0 is), in_option ds Right e k.1)
    in_code ds (break s) k = λ is. weak_code ds (k is)
    in_code ds (continue s) k = λ is. weak_code ds (k is)

    in_body : (here around : List Declaration) (b : Body) → InBody l S C here around b → InBody l T D here around b
    in_body here around done k = tt
    in_body here around (next c rest) k = (in_code (here ++ around) c k.0, in_body here around rest k.1)
    in_body here around (vars ty vs rest) k = (in_variables here around ty vs k.0, in_body (declared ty vs here) around rest k.1)

  in_definition : (here around : List Declaration) (b : Option Body) → InDefinition l S C here around b → InDefinition l T D here around b
  in_definition here around None k = tt
  in_definition here around (Some body) k = in_body here around body k

  in_outers : (file : List Outer) (here : List Declaration) (p : List Outer) → InOuters l S C file here p → InOuters l T D file here p
  in_outers file here [] k = tt
  in_outers file here (outer_vars ty vs ∷ rest) k = in_outers file (declared ty vs here) rest k
  in_outers file here (outer_func f ∷ rest) k = (
    in_definition (params_declared f.params []) (function_declaration file f ∷ here) f.body k.0,
    in_outers file (function_declaration file f ∷ here) rest k.1,
  )

  pub weaker_there : (p : List Outer) → InProgram l S C p → InProgram l T D p
  weaker_there p k = in_outers p library p k

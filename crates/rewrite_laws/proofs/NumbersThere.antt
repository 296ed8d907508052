-- In a program without a fault what stands at a condition or a right side is a number without a fault, in the scope there.
use Rattle.std.proofs.Common.{◌≡◌, Bool, true, false, ℕ, suc, List, [], ◌∷◌, ◌++◌, Option, Some, None}
use Rattle.c_tree.specs.declared.expr.BinOp.{BinOp}
use Rattle.c_tree.specs.declared.place.Loc.{Loc}
use Rattle.c_tree.specs.declared.place.LocKind.{LocKind}
use Rattle.c_tree.specs.declared.place.LocKind.TheVariants.{Cond, Right}
use Rattle.c_tree.specs.declared.stmt.Ty.{Ty}
use Rattle.c_tree.specs.Parts.{span_of}
use Rattle.c_tree.specs.Tree.{Tree, constant, name, index, call, unary, cast, binary, choice, assign, bump, comma, hole, hole_after, Args, no_args, value, format, address, Initial, bare_start, one_start, list_start, Variable, First, no_first, first_act, first_vars, Code, empty, act, block, if_then, if_else, while, do_while, for, give, break, continue, Body, done, next, vars, Outer, outer_vars, outer_func}
use Rattle.c_types.specs.declared.fault.Fault.{Fault}
use Rattle.c_types.specs.declared.fault.FaultKind.TheVariants.{Twice}
use Rattle.c_types.specs.declared.kinds.Wanted.{Wanted}
use Rattle.c_types.specs.declared.scope.Declaration.{Declaration}
use Rattle.c_types.specs.declared.scope.Storage.TheVariants.{Static, Automatic}
use Rattle.c_types.specs.Arguments.{converted, wanted, value_faults, format_faults, address_faults, call_faults}
use Rattle.c_types.specs.Expressions.{index_faults, place_faults, as_number, as_void, faults, args_faults}
use Rattle.c_types.specs.Kinds.{kind}
use Rattle.c_types.specs.Least.{fault_if}
use Rattle.c_types.specs.Library.{library}
use Rattle.c_types.specs.Programs.{function_declaration, params_declared, params_faults, name_faults, definition_faults, function_faults, outers_faults, main_faults, program_faults}
use Rattle.c_types.specs.Scopes.{denoted, is_declared}
use Rattle.c_types.specs.Statements.{variable_declaration, declared, length_faults, as_numbers, initial_faults, number_option, void_option, variable_faults, variables_faults, first_declared, first_faults, clause_faults, return_faults, code_faults, body_faults}
use Rattle.c_types.proofs.Checked.{none_left, none_right}
use Rattle.rewrite_laws.proofs.SeesThere.{InAssigned, InTree, InArgs, InPart, InOption, InStep, InTrees, InInitial, InVariables, InFirst, InCode, InBody, InDefinition, InOuters, InProgram}

-- an expression is a number without a fault
pub record IsNumber (ds : List Declaration) (e : Tree) : Type 0 where
  pub number : as_number ds e ≡ []
  pub faultless : faults ds e ≡ []

-- what is said of an expression and its scope, and that it is a number without a fault
abbrev pub And : (List Declaration → Tree → Type 0) → List Declaration → Tree → Type 0
And S ds e = IsNumber ds e × S ds e

module _ (l : Loc) (S : List Declaration → Tree → Type 0) (C : List Declaration → Type 0) where
  module _ (ds : List Declaration) where
    assigned : (op : Option BinOp) (e : Tree) → as_number ds e ≡ [] → faults ds e ≡ [] → InAssigned l S C op ds e → InAssigned l (And S) C op ds e
    assigned None e a f k = λ is. (record { number = a; faultless = f }, k is)
    assigned (Some op) e a f k = tt

    mutual
      in_tree : (e : Tree) → faults ds e ≡ [] → InTree l S C ds e → InTree l (And S) C ds e
      in_tree (constant n w s) h k = tt
      in_tree (name w v s) h k = tt
      in_tree (index w v e s) h k =
          in_tree e (none_right (as_number ds e) (faults ds e) (none_right (index_faults (denoted ds w) s) (as_number ds e ++ faults ds e) h)) k
      in_tree (call w x s) h k =
          let want : ℕ → Wanted = wanted (denoted ds w) (converted x) in
          in_args want 0 x (none_right (call_faults (denoted ds w) x s) (args_faults ds want 0 x) h) k
      in_tree (unary op e s) h k = in_tree e (none_right (as_number ds e) (faults ds e) h) k
      in_tree (cast ty e s) h k = in_tree e (none_right (as_number ds e) (faults ds e) h) k
      in_tree (binary op a b s) h k = (
        in_tree a (none_right (as_number ds a) (faults ds a) (none_left (as_number ds a ++ faults ds a) (as_number ds b ++ faults ds b) h)) k.0,
        in_tree b (none_right (as_number ds b) (faults ds b) (none_right (as_number ds a ++ faults ds a) (as_number ds b ++ faults ds b) h)) k.1,
      )
      in_tree (choice t a b s) h k =
          let rest : (as_number ds a ++ faults ds a) ++ (as_number ds b ++ faults ds b) ≡ [] = none_right (as_number ds t ++ faults ds t) ((as_number ds a ++ faults ds a) ++ (as_number ds b ++ faults ds b)) h in (
            in_tree t (none_right (as_number ds t) (faults ds t) (none_left (as_number ds t ++ faults ds t) ((as_number ds a ++ faults ds a) ++ (as_number ds b ++ faults ds b)) h)) k.0,
            in_tree a (none_right (as_number ds a) (faults ds a) (none_left (as_number ds a ++ faults ds a) (as_number ds b ++ faults ds b) rest)) k.1,
            in_tree b (none_right (as_number ds b) (faults ds b) (none_right (as_number ds a ++ faults ds a) (as_number ds b ++ faults ds b) rest)) k.2,
          )
      in_tree (assign op place e s) h k =
          let value_none : as_number ds e ++ faults ds e ≡ [] = none_right (place_faults ds place ++ faults ds place) (as_number ds e ++ faults ds e) h in (
            in_tree place (none_right (place_faults ds place) (faults ds place) (none_left (place_faults ds place ++ faults ds place) (as_number ds e ++ faults ds e) h)) k.0,
            assigned op e (none_left (as_number ds e) (faults ds e) value_none) (none_right (as_number ds e) (faults ds e) value_none) k.1,
            in_tree e (none_right (as_number ds e) (faults ds e) value_none) k.2,
          )
      in_tree (bump before up place s) h k = in_tree place (none_right (place_faults ds place) (faults ds place) h) k
      in_tree (comma a b s) h k = (
        in_tree a (none_right (as_void ds a) (faults ds a) (none_left (as_void ds a ++ faults ds a) (as_number ds b ++ faults ds b) h)) k.0,
        in_tree b (none_right (as_number ds b) (faults ds b) (none_right (as_void ds a ++ faults ds a) (as_number ds b ++ faults ds b) h)) k.1,
      )
      in_tree hole h k = tt
      in_tree (hole_after e) h k = in_tree e (none_right (as_number ds e) (faults ds e) h) k

      in_args : (want : ℕ → Wanted) (n : ℕ) (x : Args) → args_faults ds want n x ≡ [] → InArgs l S C ds x → InArgs l (And S) C ds x
      in_args want n no_args h k = tt
      in_args want n (value e x) h k =
          let here : value_faults (want n) (kind ds e) (span_of e) ++ faults ds e ≡ [] = none_left (value_faults (want n) (kind ds e) (span_of e) ++ faults ds e) (args_faults ds want (suc n) x) h in (
            in_tree e (none_right (value_faults (want n) (kind ds e) (span_of e)) (faults ds e) here) k.0,
            in_args want (suc n) x (none_right (value_faults (want n) (kind ds e) (span_of e) ++ faults ds e) (args_faults ds want (suc n) x) h) k.1,
          )
      in_args want n (format text s x) h k = in_args want (suc n) x (none_right (format_faults (want n) text s) (args_faults ds want (suc n) x) h) k
      in_args want n (address e x) h k =
          let here : address_faults (want n) ds e ++ faults ds e ≡ [] = none_left (address_faults (want n) ds e ++ faults ds e) (args_faults ds want (suc n) x) h in (
            in_tree e (none_right (address_faults (want n) ds e) (faults ds e) here) k.0,
            in_args want (suc n) x (none_right (address_faults (want n) ds e ++ faults ds e) (args_faults ds want (suc n) x) h) k.1,
          )

    in_part : (kind : LocKind) (e : Tree) → as_number ds e ++ faults ds e ≡ [] → InPart l S C kind ds e → InPart l (And S) C kind ds e
    in_part kind e h k = (
      λ is. (record { number = none_left (as_number ds e) (faults ds e) h; faultless = none_right (as_number ds e) (faults ds e) h }, k.0 is),
      in_tree e (none_right (as_number ds e) (faults ds e) h) k.1,
    )

    in_trees : (es : List Tree) → as_numbers ds es ≡ [] → InTrees l S C ds es → InTrees l (And S) C ds es
    in_trees [] h k = tt
    in_trees (e ∷ es) h k = (
      in_tree e (none_right (as_number ds e) (faults ds e) (none_left (as_number ds e ++ faults ds e) (as_numbers ds es) h)) k.0,
      in_trees es (none_right (as_number ds e ++ faults ds e) (as_numbers ds es) h) k.1,
    )

    in_initial : (start : Initial) → initial_faults ds start ≡ [] → InInitial l S C ds start → InInitial l (And S) C ds start
    in_initial bare_start h k = tt
    in_initial (one_start e) h k = in_part Right e h k
    in_initial (list_start es) h k = in_trees es h k

    in_option : (kind : LocKind) (o : Option Tree) → number_option ds o ≡ [] → InOption l S C kind ds o → InOption l (And S) C kind ds o
    in_option kind None h k = tt
    in_option kind (Some e) h k = in_part kind e h k

    in_step : (o : Option Tree) → void_option ds o ≡ [] → InStep l S C ds o → InStep l (And S) C ds o
    in_step None h k = tt
    in_step (Some e) h k = in_tree e (none_right (as_void ds e) (faults ds e) h) k

  in_variables : (here around : List Declaration) (ty : Ty) (vs : List Variable) → variables_faults Automatic here around ty vs ≡ []
      → InVariables l S C here around ty vs → InVariables l (And S) C here around ty vs
  in_variables here around ty [] h k = tt
  in_variables here around ty (v ∷ vs) h k =
      let d = variable_declaration ty v in
      let inner : List Declaration = d ∷ (here ++ around) in
      let one : variable_faults Automatic here around ty v ≡ [] = none_left (variable_faults Automatic here around ty v) (variables_faults Automatic (d ∷ here) around ty vs) h in
      let lengths : length_faults v.shape v.start v.span ++ (initial_faults inner v.start ++ []) ≡ [] =
      none_right (fault_if (is_declared here v.word) Twice v.span) (length_faults v.shape v.start v.span ++ (initial_faults inner v.start ++ [])) one in (
        in_initial inner v.start (none_left (initial_faults inner v.start) [] (none_right (length_faults v.shape v.start v.span) (initial_faults inner v.start ++ []) lengths)) k.0,
        in_variables (d ∷ here) around ty vs (none_right (variable_faults Automatic here around ty v) (variables_faults Automatic (d ∷ here) around ty vs) h) k.1,
      )

  in_first : (ds : List Declaration) (f : First) → first_faults ds f ≡ [] → InFirst l S C ds f → InFirst l (And S) C ds f
  in_first ds no_first h k = tt
  in_first ds (first_act e) h k = in_tree ds e (none_right (as_void ds e) (faults ds e) h) k
  in_first ds (first_vars ty vs) h k = in_variables [] ds ty vs h k

  module _ (ret : Option Ty) where
    mutual
      in_code : (ds : List Declaration) (in_loop : Bool) (c : Code) → code_faults ret ds in_loop c ≡ [] → InCode l S C ds c → InCode l (And S) C ds c
      in_code ds in_loop (empty s) h k = tt
      in_code ds in_loop (act e s) h k = (k.0, in_tree ds e (none_right (as_void ds e) (faults ds e) h) k.1)
      in_code ds in_loop (block body s) h k = in_body [] ds in_loop body h k
      in_code ds in_loop (if_then t a s) h k = (
        in_part ds Cond t (none_left (as_number ds t ++ faults ds t) (code_faults ret ds in_loop a) h) k.0,
        in_code ds in_loop a (none_right (as_number ds t ++ faults ds t) (code_faults ret ds in_loop a) h) k.1,
      )
      in_code ds in_loop (if_else t a b s) h k =
          let arms : code_faults ret ds in_loop a ++ code_faults ret ds in_loop b ≡ [] = none_right (as_number ds t ++ faults ds t) (code_faults ret ds in_loop a ++ code_faults ret ds in_loop b) h in (
            in_part ds Cond t (none_left (as_number ds t ++ faults ds t) (code_faults ret ds in_loop a ++ code_faults ret ds in_loop b) h) k.0,
            in_code ds in_loop a (none_left (code_faults ret ds in_loop a) (code_faults ret ds in_loop b) arms) k.1,
            in_code ds in_loop b (none_right (code_faults ret ds in_loop a) (code_faults ret ds in_loop b) arms) k.2,
          )
      in_code ds in_loop (while t a s) h k = (
        in_part ds Cond t (none_left (as_number ds t ++ faults ds t) (code_faults ret ds true a) h) k.0,
        in_code ds true a (none_right (as_number ds t ++ faults ds t) (code_faults ret ds true a) h) k.1,
      )
      in_code ds in_loop (do_while a t s) h k = (
        in_code ds true a (none_left (code_faults ret ds true a) (as_number ds t ++ faults ds t) h) k.0,
        in_part ds Cond t (none_right (code_faults ret ds true a) (as_number ds t ++ faults ds t) h) k.1,
      )
      in_code ds in_loop (for f t u a s) h k =
          let inner : List Declaration = first_declared f ++ ds in
          let clauses : first_faults ds f ++ (number_option inner t ++ void_option inner u) ≡ [] = none_left (clause_faults ds f t u) (code_faults ret inner true a) h in
          let others : number_option inner t ++ void_option inner u ≡ [] = none_right (first_faults ds f) (number_option inner t ++ void_option inner u) clauses in (
            in_first ds f (none_left (first_faults ds f) (number_option inner t ++ void_option inner u) clauses) k.0,
            in_option inner Cond t (none_left (number_option inner t) (void_option inner u) others) k.1,
            in_step inner u (none_right (number_option inner t) (void_option inner u) others) k.2,
            in_code inner true a (none_right (clause_faults ds f t u) (code_faults ret inner true a) h) k.3,
          )
      in_code ds in_loop (give e s) h k = (k.0, in_option ds Right e (none_right (return_faults ret e s) (number_option ds e) h) k.1)
      in_code ds in_loop (break s) h k = k
      in_code ds in_loop (continue s) h k = k

      in_body : (here around : List Declaration) (in_loop : Bool) (b : Body) → body_faults ret here around in_loop b ≡ [] → InBody l S C here around b → InBody l (And S) C here around b
      in_body here around in_loop done h k = tt
      in_body here around in_loop (next c rest) h k = (
        in_code (here ++ around) in_loop c (none_left (code_faults ret (here ++ around) in_loop c) (body_faults ret here around in_loop rest) h) k.0,
        in_body here around in_loop rest (none_right (code_faults ret (here ++ around) in_loop c) (body_faults ret here around in_loop rest) h) k.1,
      )
      in_body here around in_loop (vars ty vs rest) h k = (
        in_variables here around ty vs (none_left (variables_faults Automatic here around ty vs) (body_faults ret (declared ty vs here) around in_loop rest) h) k.0,
        in_body (declared ty vs here) around in_loop rest (none_right (variables_faults Automatic here around ty vs) (body_faults ret (declared ty vs here) around in_loop rest) h) k.1,
      )

  in_definition : (ret : Option Ty) (here around : List Declaration) (b : Option Body) → definition_faults ret here around b ≡ [] → InDefinition l S C here around b → InDefinition l (And S) C here around b
  in_definition ret here around None h k = tt
  in_definition ret here around (Some body) h k = in_body ret here around false body h k

  in_outers : (file : List Outer) (here : List Declaration) (p : List Outer) → outers_faults file here p ≡ [] → InOuters l S C file here p → InOuters l (And S) C file here p
  in_outers file here [] h k = tt
  in_outers file here (outer_vars ty vs ∷ rest) h k =
      in_outers file (declared ty vs here) rest (none_right (variables_faults Static here [] ty vs) (outers_faults file (declared ty vs here) rest) h) k
  in_outers file here (outer_func f ∷ rest) h k =
      let around : List Declaration = function_declaration file f ∷ here in
      let one : function_faults file here f ≡ [] = none_left (function_faults file here f) (outers_faults file around rest) h in
      let bodies : List Fault = definition_faults f.ret (params_declared f.params []) around f.body in
      let inner : params_faults [] f.params ++ bodies ≡ [] = none_right (name_faults here f) (params_faults [] f.params ++ bodies) one in (
        in_definition f.ret (params_declared f.params []) around f.body (none_right (params_faults [] f.params) bodies inner) k.0,
        in_outers file around rest (none_right (function_faults file here f) (outers_faults file around rest) h) k.1,
      )

  -- in a program without a fault each condition and right side is a number without a fault
  pub in_program : (p : List Outer) (end : ℕ) → program_faults p end ≡ [] → InProgram l S C p → InProgram l (And S) C p
  in_program p end h k = in_outers p library p (none_left (outers_faults p library p) (main_faults p end) h) k

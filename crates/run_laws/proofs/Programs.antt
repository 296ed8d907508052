-- A checked program: what a call means agrees with the definition that runs, and its run keeps states typed.
use Rattle.std.proofs.Common.{◌≡◌, ℕ, suc, ◌+◌, Bool, true, false, not, ◌&&◌, ◌||◌, cond, nat_eq, List, [], ◌∷◌, ◌++◌, map, length, Option, Some, None, is_some, refl, sym, ap, ap₂, ◌∙◌, subst, arith, inl, inr, ◌⊎◌, ℤ, append-nil, slice_get, zero, codes}
use Rattle.std.specs.Prelude.{⊤, Contains, All}
use Rattle.std.specs.Str.{bytes_eq}
use Rattle.std.proofs.lemmas.Slice.Eq.{bytes_eq-Decides}
use Rattle.std.proofs.lemmas.List.Elements.{All-nil, All-head, All-from_recursion, All-cons, All-append, All-tail, All-weaker, All-contains_itself}
use Rattle.c_tree.specs.declared.program.Param.{Param}
use Rattle.c_tree.specs.declared.stmt.Slot.{Slot}
use Rattle.c_tree.specs.declared.stmt.Ty.{Ty}
use Rattle.c_tree.specs.declared.stmt.Ty.TheVariants.{Int}
use Rattle.c_tree.specs.Tree.{Tree, Variable, Code, Body, Function, Outer, outer_vars, outer_func}
use Rattle.c_types.specs.declared.fault.FaultKind.TheVariants.{Twice, WrongKind, WrongCount, NoMain}
use Rattle.c_types.specs.declared.scope.Declaration.{Declaration}
use Rattle.c_types.specs.declared.scope.Entity.{Entity}
use Rattle.c_types.specs.declared.scope.Entity.TheVariants.{Variable as VariableEntity, Function as FunctionEntity, Library, Printf, Scanf}
use Rattle.c_types.specs.declared.scope.ParamType.{ParamType}
use Rattle.c_types.specs.declared.scope.Storage.TheVariants.{Static}
use Rattle.c_types.specs.Evidence.{IsChecked}
use Rattle.c_types.specs.Expressions.{as_number, as_void, faults}
use Rattle.c_types.specs.Found.{variables_found, code_found, definition_found, outers_found}
use Rattle.c_types.specs.Kinds.{same_ty}
use Rattle.c_types.specs.Least.{fault_if}
use Rattle.c_types.specs.Library.{library}
use Rattle.c_types.specs.Programs.{param_type, param_declaration, params_declared, function_declaration, params_faults, same_result, same_param, same_params, redeclared_faults, name_faults, definition_faults, function_faults, outers_faults, has_no_params, is_main, has_main, main_faults, program_faults, is_defined as has_definition}
use Rattle.c_types.specs.Scopes.{denoted, is_declared}
use Rattle.c_types.specs.Slots.{resolved_definition, resolved_tree, slot_in, numbered_variable, numbered, numbered_param, numbered_params, resolved_variables, resolved_function, resolved_code, resolved_outers, resolved}
use Rattle.c_types.specs.Statements.{variable_declaration, declared, variables_faults, code_faults}
use Rattle.c_types.specs.Uses.{Use, uses, IsResolved}
use Rattle.c_types.proofs.Checked.{none_left, none_right, no_fault}
use Rattle.c_types.proofs.Resolving.{program-kept, function-kept}
use Rattle.c_types.proofs.NamesResolved.{names-resolved}
use Rattle.c_types.proofs.SlotlessFaults.{function_declaration-same}
use Rattle.c_meaning.specs.World.{Object, World, Out, going, over, waiting}
use Rattle.c_meaning.specs.Meaning.{Filling, Called, definition, is_defined, exec, user_call, calls, call_limit, declare_globals, make_globals, run_program}
use Rattle.c_meaning.specs.Laws.{FitsCell, FitsWorld, FitsOut}
use Rattle.c_meaning.proofs.Related.{program_related}
use Rattle.c_meaning.proofs.Fits.{Fitting, fits}
use Rattle.run_laws.specs.Typed.{EntityHasObject, IsTypedBy, IsSteady}
use Rattle.run_laws.specs.Holes.{Names, tree_holes, holes, of_holes}
use Rattle.run_laws.specs.Laws.{RunsFindObjects, ArraysArePassedByName, IsTypedByOne, HolesAreTyped, HolesFit, NameHasObject, NamesHaveObjects, TypedStatesShowVariables, EndsTyped, StatementsKeepTypes, ExpressionsFindObjects}
use Rattle.run_laws.specs.Places.{outers_declared, file_scope, below, HasSlotIn, AgreesWith, Agrees, IsThere, IsScopeIn}
use Rattle.run_laws.proofs.Keeping.{All-left, All-right, AllWithin, all_within_more, typed_moves, Any, From, of_file, file_below}
use Rattle.run_laws.proofs.Calls.{IsKnown, IsKnownIfAny, scope_at_end, WellGlobals, no_slot, of_file_below, calls_keep, program_from, found_in, main_called, calls_find, variables_from, within_globals, globals_made}
use Rattle.run_laws.proofs.Runs.{denoted_object, CallsKeep, exec_sound}
use Rattle.run_laws.proofs.Called.{no_such, some_same, not_true, same_types, nat_equal, length-map, and_left, and_right, Stands, AllStand, option_there, definition_body, definition_word, Among, denoted_among}
use Rattle.run_laws.proofs.Faultless.{declared-resolved, globals_well, agree_declared, tree_well, code_well, definition_well}
use Rattle.run_laws.specs.Reads.{Then, TakesAll, IsDefinedFor, GivesValue, Inside, Finds}
use Rattle.run_laws.specs.Bodies.{FindsOuters, in_calls, RunFinds}
use Rattle.run_laws.specs.Passing.{PassesByName, written_calls, of_calls}
use Rattle.run_laws.proofs.Passing.{variables_pass, definition_passes}
use Rattle.run_laws.proofs.Bodies.{globals_find}
use Rattle.run_laws.proofs.Sound.{Context}
use Rattle.run_laws.proofs.Finding.{then_made, CallsFind, finds}

-- ---- lists of declarations

among_declared : (d : Declaration) (ty : Ty) (vs : List Variable) (here : List Declaration) → Among d here → Among d (declared ty vs here)
among_declared d ty [] here h = h
among_declared d ty (v ∷ vs) here h = among_declared d ty vs (variable_declaration ty v ∷ here) (inr h)

typed_before : (ty : Ty) (vs : List Variable) (here : List Declaration) (w : World) → IsTypedBy (declared ty vs here) w → IsTypedBy here w
typed_before ty [] here w h = h
typed_before ty (v ∷ vs) here w h = All-tail (λ (d : Declaration). EntityHasObject w d.entity) (variable_declaration ty v) here (typed_before ty vs (variable_declaration ty v ∷ here) w h)

-- a scope of the file is a part of what its end sees
scope_before : (file p : List Outer) (here : List Declaration) (n : ℕ) (w : World) → IsTypedBy (scope_at_end file here n p) w → IsTypedBy here w
scope_before file [] here n w h = h
scope_before file (outer_vars ty vs ∷ p) here n w h =
    typed_before ty (numbered (slot_in Static) n vs) here w (scope_before file p (declared ty (numbered (slot_in Static) n vs) here) (n + length vs) w h)
scope_before file (outer_func f ∷ p) here n w h =
    All-tail (λ (d : Declaration). EntityHasObject w d.entity) (function_declaration file f) here (scope_before file p (function_declaration file f ∷ here) n w h)

at_file_declared : (ty : Ty) (n : ℕ) (vs : List Variable) (here : List Declaration) → AllWithin of_file here → AllWithin of_file (declared ty (numbered (slot_in Static) n vs) here)
at_file_declared ty n [] here h = h
at_file_declared ty n (v ∷ vs) here h =
    at_file_declared ty (suc n) vs (variable_declaration ty (numbered_variable (slot_in Static n) v) ∷ here) (All-cons (λ (d : Declaration). HasSlotIn of_file d.entity) _ here tt h)

at_file_function : (file : List Outer) (f : Function) (here : List Declaration) → AllWithin of_file here → AllWithin of_file (function_declaration file f ∷ here)
at_file_function file f here h = All-cons (λ (d : Declaration). HasSlotIn of_file d.entity) _ here tt h

at_file : (file p : List Outer) (here : List Declaration) (n : ℕ) → AllWithin of_file here → AllWithin of_file (scope_at_end file here n p)
at_file file [] here n h = h
at_file file (outer_vars ty vs ∷ p) here n h = at_file file p (declared ty (numbered (slot_in Static) n vs) here) (n + length vs) (at_file_declared ty n vs here h)
at_file file (outer_func f ∷ p) here n h = at_file file p (function_declaration file f ∷ here) n (at_file_function file f here h)

-- ---- functions of one name

flag_equal : (a b : Bool) → cond a b (not b) ≡ true → a ≡ b
flag_equal true true h = refl
flag_equal true false h = absurd (cc)
flag_equal false true h = absurd (cc)
flag_equal false false h = refl

param_equal : (a b : ParamType) → same_param a b ≡ true → a ≡ b
param_equal a b h =
    let make : Ty → Bool → ParamType = λ t f. record { ty = t; array = f } in
    ap₂ make (same_types a.ty b.ty (and_left (same_ty a.ty b.ty) _ h)) (flag_equal a.array b.array (and_right (same_ty a.ty b.ty) _ h))

results_equal : (a b : Option Ty) → same_result a b ≡ true → a ≡ b
results_equal None None h = refl
results_equal None (Some b) h = absurd (cc)
results_equal (Some a) None h = absurd (cc)
results_equal (Some a) (Some b) h = ap (λ t. Some t) (same_types a b h)

params_equal : (xs ys : List ParamType) → same_params xs ys ≡ true → length xs ≡ length ys → xs ≡ ys
params_equal [] [] h l = refl
params_equal [] (y ∷ ys) h l = absurd (omega arith)
params_equal (x ∷ xs) [] h l = absurd (omega arith)
params_equal (x ∷ xs) (y ∷ ys) h l = ap₂ (λ z zs. z ∷ zs) (param_equal x y (and_left (same_param x y) _ h)) (params_equal xs ys (and_right (same_param x y) _ h) (omega arith))

-- ---- tests

or_right : (a b : Bool) → (a || b) ≡ true → a ≡ false → b ≡ true
or_right true b h k = absurd (cc)
or_right false b h k = h

or_flip : (a b c : Bool) → ((a && b) || c) ≡ true → (b && a) ≡ false → c ≡ true
or_flip true true c h k = absurd (cc)
or_flip true false c h k = h
or_flip false b c h k = h

body_same : (here around : List Declaration) (n : ℕ) (o : Option Body) → is_defined (resolved_definition here around n o) ≡ is_some o
body_same here around n None = refl
body_same here around n (Some body) = refl

main_flag : (a b c : Bool) (o : Option Body) → (a && is_defined o) ≡ false → (a && (b && (c && is_some o))) ≡ false
main_flag false b c o h = refl
main_flag true false c o h = refl
main_flag true true false o h = refl
main_flag true true true None h = refl
main_flag true true true (Some body) h = h

map_nil : {X Y : Type 0} (f : X → Y) (xs : List X) → map f xs ≡ [] → xs ≡ []
map_nil f [] h = refl
map_nil f (x ∷ xs) h = absurd (cc)

bare_params : (ps : List Param) → has_no_params (numbered_params 0 ps) ≡ true → map param_type ps ≡ []
bare_params [] h = refl
bare_params (p ∷ ps) h = absurd (cc)

-- no name of the library is one of a function of a file
library_refuses : (f : Function) (d : Declaration) → Among d library → AgreesWith f d.entity → ⊥
library_refuses f d (inl e) = subst (λ (z : Declaration). AgreesWith f z.entity → ⊥) e (λ k. k)
library_refuses f d (inr (inl e)) = subst (λ (z : Declaration). AgreesWith f z.entity → ⊥) e (λ k. k)
library_refuses f d (inr (inr (inl e))) = subst (λ (z : Declaration). AgreesWith f z.entity → ⊥) e (λ k. k)
library_refuses f d (inr (inr (inr (inl e)))) = subst (λ (z : Declaration). AgreesWith f z.entity → ⊥) e (λ k. k)
library_refuses f d (inr (inr (inr (inr (inl e))))) = subst (λ (z : Declaration). AgreesWith f z.entity → ⊥) e (λ k. k)
library_refuses f d (inr (inr (inr (inr (inr (inl e)))))) = subst (λ (z : Declaration). AgreesWith f z.entity → ⊥) e (λ k. k)
library_refuses f d (inr (inr (inr (inr (inr (inr h)))))) = absurd h

-- a name that is declared again as a function is one of a function with the same parameters
-- a declaration is one of a function with the same parameters and the same result
abbrev Matches : Function → Entity → Type 0
Matches f (VariableEntity slot ty array) = ⊤
Matches f (FunctionEntity ret params body defined) = (params ≡ map param_type f.params) × (ret ≡ f.ret)
Matches f (Library ret params) = ⊥
Matches f Printf = ⊥
Matches f Scanf = ⊥

matches_agree : (f : Function) (e : Entity) → Matches f e → AgreesWith f e
matches_agree f (VariableEntity slot ty array) h = tt
matches_agree f (FunctionEntity ret params body defined) h = h.0
matches_agree f (Library ret params) h = h
matches_agree f Printf h = h
matches_agree f Scanf h = h

again_agrees : (e : Entity) (f : Function) → redeclared_faults e f ≡ [] → Matches f e
again_agrees (VariableEntity slot ty array) f h = tt
again_agrees (FunctionEntity ret params body defined) f h =
    let kinds = none_right (fault_if (body && is_some f.body) Twice f.span) _ h in
    let same = not_true _ (no_fault (not (same_result ret f.ret && same_params params (map param_type f.params))) WrongKind f.span (none_left _ _ kinds)) in
    let count = not_true _ (no_fault (not (nat_eq (length params) (length f.params))) WrongCount f.span
    (none_right (fault_if (not (same_result ret f.ret && same_params params (map param_type f.params))) WrongKind f.span) _ kinds)) in
    (params_equal params (map param_type f.params) (and_right (same_result ret f.ret) _ same) (nat_equal _ _ count ∙ sym (length-map param_type f.params)), results_equal ret f.ret (and_left (same_result ret f.ret) _ same))
again_agrees (Library ret params) f h = no_such Twice f.span h
again_agrees Printf f h = no_such Twice f.span h
again_agrees Scanf f h = no_such Twice f.span h

-- so it is with each earlier declaration
name_among : (here : List Declaration) (f : Function) (d : Declaration) → name_faults here f ≡ [] → Among d here → bytes_eq d.word f.word ≡ true → redeclared_faults d.entity f ≡ []
name_among [] f d h at e = absurd at
name_among (x ∷ xs) f d h (inl same) e =
    let own : cond (bytes_eq x.word f.word) (redeclared_faults x.entity f) [] ≡ [] = none_left _ _ h in
    let test : bytes_eq x.word f.word ≡ true = ap (λ (c : Declaration). bytes_eq c.word f.word) same ∙ e in
    subst (λ (c : Declaration). redeclared_faults c.entity f ≡ []) same (sym (ap (λ b. cond b (redeclared_faults x.entity f) []) test) ∙ own)
name_among (x ∷ xs) f d h (inr at) e = name_among xs f d (none_right (cond (bytes_eq x.word f.word) (redeclared_faults x.entity f) []) _ h) at e

same_words : (a b word : List ℕ) → bytes_eq a word ≡ true → bytes_eq b word ≡ true → bytes_eq a b ≡ true
same_words a b word h k = (bytes_eq-Decides a b).1 ((bytes_eq-Decides a word).0 h ∙ sym ((bytes_eq-Decides b word).0 k))

numbered-types : (n : ℕ) (ps : List Param) → map param_type (numbered_params n ps) ≡ map param_type ps
numbered-types n [] = refl
numbered-types n (p ∷ ps) = ap (λ ts. param_type p ∷ ts) (numbered-types (suc n) ps)

agree_globals : (program : List Outer) (ty : Ty) (n : ℕ) (vs : List Variable) (here : List Declaration) → AllStand program ⊤ here → AllStand program ⊤ (declared ty (numbered (slot_in Static) n vs) here)
agree_globals program ty n vs here h =
    subst (λ (ds : List Declaration). AllStand program ⊤ ds) (append-nil (declared ty (numbered (slot_in Static) n vs) here))
    (agree_declared program [] ⊤ Static ty n vs here [] (subst (λ (ds : List Declaration). AllStand program ⊤ ds) (sym (append-nil here)) h))

agree_params : (program : List Outer) (n : ℕ) (ps : List Param) (here around : List Declaration) → AllStand program ⊤ (here ++ around) → AllStand program ⊤ (params_declared (numbered_params n ps) here ++ around)
agree_params program n [] here around h = h
agree_params program n (p ∷ ps) here around h =
    agree_params program (suc n) ps (param_declaration (numbered_param n p) ∷ here) around (All-cons (Stands program ⊤) (param_declaration (numbered_param n p)) (here ++ around) ((λ word f e is. tt), (λ sure. tt)) h)

module _ (file : List Outer) (scopes : List Names) where
  -- the resolved program
  abbrev whole : List Outer
  whole = resolved file

  -- a function with its slots, where these names are declared before it
  abbrev placed : List Declaration → Function → Function
  placed here f = resolved_function (function_declaration file f ∷ here) f

  own-resolved : (around : List Declaration) (f : Function) → function_declaration whole (resolved_function around f) ≡ function_declaration file f
  own-resolved around f =
      sym (function_declaration-same whole (resolved_function around f))
      ∙ ap₂ function_declaration (program-kept file) (function-kept around f)
      ∙ function_declaration-same file f

  scope-resolved : (here : List Declaration) (f : Function) → function_declaration whole (placed here f) ∷ here ≡ function_declaration file f ∷ here
  scope-resolved here f = ap (λ z. z ∷ here) (own-resolved (function_declaration file f ∷ here) f)

  abbrev Faultless : List Declaration → ℕ → List Outer → Type 0
  Faultless here n p = outers_faults whole here (resolved_outers file here n p) ≡ []

  -- the parts of that fact
  vars_faultless : (ty : Ty) (vs : List Variable) (p : List Outer) (here : List Declaration) (n : ℕ) → Faultless here n (outer_vars ty vs ∷ p) → Faultless (declared ty (numbered (slot_in Static) n vs) here) (n + length vs) p
  vars_faultless ty vs p here n h =
      let ws = numbered (slot_in Static) n vs in
      let rs = resolved_variables here [] ty ws in
      ap (λ z. outers_faults whole z (resolved_outers file (declared ty ws here) (n + length vs) p)) (sym (declared-resolved here [] ty ws here)) ∙ none_right (variables_faults Static here [] ty rs) _ h

  function_faultless : (f : Function) (p : List Outer) (here : List Declaration) (n : ℕ) → Faultless here n (outer_func f ∷ p) → Faultless (function_declaration file f ∷ here) n p
  function_faultless f p here n h =
      ap (λ z. outers_faults whole z (resolved_outers file (function_declaration file f ∷ here) n p)) (sym (scope-resolved here f)) ∙ none_right (function_faults whole here (placed here f)) _ h

  names_faultless : (f : Function) (p : List Outer) (here : List Declaration) (n : ℕ) → Faultless here n (outer_func f ∷ p) → name_faults here (placed here f) ≡ []
  names_faultless f p here n h = none_left _ _ (none_left (function_faults whole here (placed here f)) _ h)

  -- a declaration agrees with each later definition of its name
  later : (p : List Outer) (here : List Declaration) (n : ℕ) (d : Declaration) (word : List ℕ) (f : Function) → Faultless here n p → Among d here → bytes_eq d.word word ≡ true → definition word (resolved_outers file here n p) ≡ Some f → Matches f d.entity
  later [] here n d word f h at e found = absurd (cc)
  later (outer_vars ty vs ∷ p) here n d word f h at e found =
      later p (declared ty (numbered (slot_in Static) n vs) here) (n + length vs) d word f (vars_faultless ty vs p here n h) (among_declared d ty (numbered (slot_in Static) n vs) here at) e found
  later (outer_func g ∷ p) here n d word f h at e found =
      by_test (bytes_eq g.word word && is_defined (placed here g).body) refl (later p (function_declaration file g ∷ here) n d word f (function_faultless g p here n h) (inr at) e) found
    where
      by_test : (b : Bool) → (bytes_eq g.word word && is_defined (placed here g).body) ≡ b → (definition word (resolved_outers file (function_declaration file g ∷ here) n p) ≡ Some f → Matches f d.entity)
          → cond b (Some (placed here g)) (definition word (resolved_outers file (function_declaration file g ∷ here) n p)) ≡ Some f → Matches f d.entity
      by_test true t rest k =
          let test = and_left (bytes_eq g.word word) _ t in
          subst (λ (z : Function). Matches z d.entity) (some_same k)
          (again_agrees d.entity (placed here g) (name_among here (placed here g) d (names_faultless g p here n h) at (same_words d.word g.word word e test)))
      by_test false t rest k = rest k

  -- a definition that stands earlier is declared
  record Earlier (here : List Declaration) (word : List ℕ) (f : Function) : Type 0 where
    declaration : Declaration
    among : Among declaration here
    same_word : bytes_eq declaration.word word ≡ true
    ret : Option Ty
    params : List ParamType
    body : Bool
    defined : Bool
    is : declaration.entity ≡ FunctionEntity ret params body defined
    params_are : params ≡ map param_type f.params
    ret_is : ret ≡ f.ret

  -- each definition of the program stands earlier, or is still to come
  abbrev Located : List Declaration → List Outer → Type 0
  Located here q = (word : List ℕ) (f : Function) → definition word whole ≡ Some f → Earlier here word f ⊎ (definition word q ≡ Some f)

  earlier_more : (d : Declaration) (here : List Declaration) (word : List ℕ) (f : Function) → Earlier here word f → Earlier (d ∷ here) word f
  earlier_more d here word f h = record { declaration = h.declaration; among = inr h.among; same_word = h.same_word; ret = h.ret; params = h.params; body = h.body; defined = h.defined; is = h.is; params_are = h.params_are; ret_is = h.ret_is }

  earlier_declared : (ty : Ty) (vs : List Variable) (here : List Declaration) (word : List ℕ) (f : Function) → Earlier here word f → Earlier (declared ty vs here) word f
  earlier_declared ty vs here word f h =
      record { declaration = h.declaration; among = among_declared h.declaration ty vs here h.among; same_word = h.same_word; ret = h.ret; params = h.params; body = h.body; defined = h.defined; is = h.is; params_are = h.params_are; ret_is = h.ret_is }

  vars_located : (ty : Ty) (vs : List Variable) (p : List Outer) (here : List Declaration) (n : ℕ) → Located here (resolved_outers file here n (outer_vars ty vs ∷ p))
      → Located (declared ty (numbered (slot_in Static) n vs) here) (resolved_outers file (declared ty (numbered (slot_in Static) n vs) here) (n + length vs) p)
  vars_located ty vs p here n h word f found = by_case (h word f found)
    where
      by_case : Earlier here word f ⊎ (definition word (resolved_outers file here n (outer_vars ty vs ∷ p)) ≡ Some f)
          → Earlier (declared ty (numbered (slot_in Static) n vs) here) word f ⊎ (definition word (resolved_outers file (declared ty (numbered (slot_in Static) n vs) here) (n + length vs) p) ≡ Some f)
      by_case (inl e) = inl (earlier_declared ty (numbered (slot_in Static) n vs) here word f e)
      by_case (inr e) = inr e

  function_located : (g : Function) (p : List Outer) (here : List Declaration) (n : ℕ) → Located here (resolved_outers file here n (outer_func g ∷ p))
      → Located (function_declaration file g ∷ here) (resolved_outers file (function_declaration file g ∷ here) n p)
  function_located g p here n h word f found = by_case (h word f found)
    where
      more : List Outer
      more = resolved_outers file (function_declaration file g ∷ here) n p

      by_test : (b : Bool) → (bytes_eq g.word word && is_defined (placed here g).body) ≡ b → cond b (Some (placed here g)) (definition word (resolved_outers file (function_declaration file g ∷ here) n p)) ≡ Some f
          → Earlier (function_declaration file g ∷ here) word f ⊎ (definition word (resolved_outers file (function_declaration file g ∷ here) n p) ≡ Some f)
      by_test true t k =
          let params : map param_type g.params ≡ map param_type f.params = sym (numbered-types 0 g.params) ∙ ap (λ (z : Function). map param_type z.params) (some_same k) in
          inl (record { declaration = function_declaration file g; among = inl refl; same_word = and_left (bytes_eq g.word word) _ t; ret = _; params = _; body = _; defined = _; is = refl; params_are = params; ret_is = ap (λ (z : Function). z.ret) (some_same k) })
      by_test false t k = inr k

      by_case : Earlier here word f ⊎ (definition word (resolved_outers file here n (outer_func g ∷ p)) ≡ Some f)
          → Earlier (function_declaration file g ∷ here) word f ⊎ (definition word (resolved_outers file (function_declaration file g ∷ here) n p) ≡ Some f)
      by_case (inl e) = inl (earlier_more (function_declaration file g) here word f e)
      by_case (inr e) = by_test (bytes_eq g.word word && is_defined (placed here g).body) refl e

  -- a function's declaration agrees with the definition of its name
  function_matches : (g : Function) (p : List Outer) (here : List Declaration) (n : ℕ) → Faultless here n (outer_func g ∷ p) → Located here (resolved_outers file here n (outer_func g ∷ p))
      → (word : List ℕ) (f : Function) → bytes_eq g.word word ≡ true → definition word whole ≡ Some f → Matches f (function_declaration file g).entity
  function_matches g p here n h located word f e found = by_case (function_located g p here n located word f found) (located word f found)
    where
      types : (z : Function) → map param_type z.params ≡ map param_type (placed here g).params → map param_type g.params ≡ map param_type z.params
      types z k = sym (numbered-types 0 g.params) ∙ sym k

      from_earlier : Earlier here word f → (map param_type g.params ≡ map param_type f.params) × (g.ret ≡ f.ret)
      from_earlier x =
          let agrees = again_agrees x.declaration.entity (placed here g) (name_among here (placed here g) x.declaration (names_faultless g p here n h) x.among (same_words x.declaration.word g.word word x.same_word e)) in
          let same : (x.params ≡ map param_type (placed here g).params) × (x.ret ≡ g.ret) = subst (λ (z : Entity). Matches (placed here g) z) x.is agrees in
          (sym (numbered-types 0 g.params) ∙ sym same.0 ∙ x.params_are, sym same.1 ∙ x.ret_is)

      by_test : (b : Bool) → cond b (Some (placed here g)) (definition word (resolved_outers file (function_declaration file g ∷ here) n p)) ≡ Some f → (map param_type g.params ≡ map param_type f.params) × (g.ret ≡ f.ret)
      by_test true k = (sym (numbered-types 0 g.params) ∙ ap (λ (z : Function). map param_type z.params) (some_same k), ap (λ (z : Function). z.ret) (some_same k))
      by_test false k = later p (function_declaration file g ∷ here) n (function_declaration file g) word f (function_faultless g p here n h) (inl refl) e k

      by_case : Earlier (function_declaration file g ∷ here) word f ⊎ (definition word (resolved_outers file (function_declaration file g ∷ here) n p) ≡ Some f)
          → Earlier here word f ⊎ (definition word (resolved_outers file here n (outer_func g ∷ p)) ≡ Some f) → (map param_type g.params ≡ map param_type f.params) × (g.ret ≡ f.ret)
      by_case z (inl x) = from_earlier x
      by_case z (inr k) = by_test (bytes_eq g.word word && is_defined (placed here g).body) k

  -- ---- what is called is there

  -- the names of the library are declared
  abbrev LibraryIn : List Declaration → Type 0
  LibraryIn here = (d : Declaration) → Among d library → Among d here

  -- so a function has another name
  free_word : (here : List Declaration) (g : Function) → LibraryIn here → name_faults here (placed here g) ≡ [] → is_declared library g.word ≡ false
  free_word here g lib h = by_case (denoted library g.word) refl
    where
      by_case : (o : Option Entity) → denoted library g.word ≡ o → is_some o ≡ false
      by_case None is = refl
      by_case (Some e) is =
          let d = denoted_among library g.word e is in
          absurd (library_refuses (placed here g) d.declaration d.among
          (matches_agree (placed here g) d.declaration.entity (again_agrees d.declaration.entity (placed here g)
          (name_among here (placed here g) d.declaration h (lib d.declaration d.among) ((bytes_eq-Decides d.declaration.word g.word).1 d.word_is)))))

  -- what the file defines, the program defines
  defined_there : (p : List Outer) (here : List Declaration) (n : ℕ) (word : List ℕ) → has_definition p word ≡ true → is_some (definition word (resolved_outers file here n p)) ≡ true
  defined_there [] here n word h = absurd (cc)
  defined_there (outer_vars ty vs ∷ p) here n word h = defined_there p (declared ty (numbered (slot_in Static) n vs) here) (n + length vs) word h
  defined_there (outer_func g ∷ p) here n word h =
      by_test (bytes_eq g.word word && is_defined (placed here g).body) refl (defined_there p (function_declaration file g ∷ here) n word) h
    where
      by_test : (b : Bool) → (bytes_eq g.word word && is_defined (placed here g).body) ≡ b
          → (has_definition p word ≡ true → is_some (definition word (resolved_outers file (function_declaration file g ∷ here) n p)) ≡ true)
          → ((is_some g.body && bytes_eq g.word word) || has_definition p word) ≡ true
          → is_some (cond b (Some (placed here g)) (definition word (resolved_outers file (function_declaration file g ∷ here) n p))) ≡ true
      by_test true t rest k = refl
      by_test false t rest k =
          let same : is_some g.body ≡ is_defined (placed here g).body = sym (body_same (params_declared (numbered_params 0 g.params) []) (function_declaration file g ∷ here) (length g.params) g.body) in
          rest (or_flip (is_some g.body) (bytes_eq g.word word) (has_definition p word) k (ap (λ z. bytes_eq g.word word && z) same ∙ t))

  function_there : (g : Function) (p : List Outer) (here : List Declaration) (n : ℕ) → Faultless here n (outer_func g ∷ p) → Located here (resolved_outers file here n (outer_func g ∷ p)) → LibraryIn here → name_faults here (placed here g) ≡ []
      → IsThere whole (function_declaration file g)
  function_there g p here n fine located lib h =
      let free = free_word here g lib h in (
        free,
        (λ d. defined_there file library 0 g.word (or_right (is_declared library g.word) (has_definition file g.word) d free)),
        (λ f found. sym (function_matches g p here n fine located g.word f ((bytes_eq-Decides g.word g.word).1 refl) found).1),
      )

  -- ---- `main`

  main_defined : (q : List Outer) → has_main q ≡ true → is_some (definition (codes "main") q) ≡ true
  main_defined [] h = absurd (cc)
  main_defined (outer_vars ty vs ∷ q) h = main_defined q h
  main_defined (outer_func g ∷ q) h = by_test (bytes_eq g.word (codes "main") && is_defined g.body) refl (main_defined q) h
    where
      by_test : (b : Bool) → (bytes_eq g.word (codes "main") && is_defined g.body) ≡ b → (has_main q ≡ true → is_some (definition (codes "main") q) ≡ true) → (is_main g || has_main q) ≡ true
          → is_some (cond b (Some g) (definition (codes "main") q)) ≡ true
      by_test true t rest k = refl
      by_test false t rest k =
          rest (or_right (is_main g) (has_main q) k (main_flag (bytes_eq g.word (codes "main")) (same_result g.ret (Some Int)) (has_no_params g.params) g.body t))

  -- it has no parameters, as the definition that is looked for has the same
  main_bare : (f : Function) → definition (codes "main") whole ≡ Some f → (p : List Outer) (here : List Declaration) (n : ℕ) → Located here (resolved_outers file here n p) → Faultless here n p → has_main (resolved_outers file here n p) ≡ true → (f.params ≡ []) × (f.ret ≡ Some Int)
  main_bare f found [] here n located h m = absurd (cc)
  main_bare f found (outer_vars ty vs ∷ p) here n located h m =
      main_bare f found p (declared ty (numbered (slot_in Static) n vs) here) (n + length vs) (vars_located ty vs p here n located) (vars_faultless ty vs p here n h) m
  main_bare f found (outer_func g ∷ p) here n located h m =
      by_test (is_main (placed here g)) refl (main_bare f found p (function_declaration file g ∷ here) n (function_located g p here n located) (function_faultless g p here n h)) m
    where
      by_test : (b : Bool) → is_main (placed here g) ≡ b → (has_main (resolved_outers file (function_declaration file g ∷ here) n p) ≡ true → (f.params ≡ []) × (f.ret ≡ Some Int)) → (b || has_main (resolved_outers file (function_declaration file g ∷ here) n p)) ≡ true
          → (f.params ≡ []) × (f.ret ≡ Some Int)
      by_test true t rest k =
          let named = and_left (bytes_eq g.word (codes "main")) _ t in
          let bare = and_left (has_no_params (numbered_params 0 g.params)) _ (and_right (same_result g.ret (Some Int)) _ (and_right (bytes_eq g.word (codes "main")) _ t)) in
          let number = and_left (same_result g.ret (Some Int)) _ (and_right (bytes_eq g.word (codes "main")) _ t) in
          let agrees = function_matches g p here n h located (codes "main") f named found in
          (map_nil param_type f.params (sym agrees.0 ∙ bare_params g.params bare), sym agrees.1 ∙ results_equal g.ret (Some Int) number)
      by_test false t rest k = rest k

  abbrev Held : List Names → Type 0
  Held hs = All (Contains scopes) hs

  vars_held : (ty : Ty) (vs : List Variable) (p : List Outer) (here : List Declaration) (n : ℕ) → Held (outers_found of_holes whole here (resolved_outers file here n (outer_vars ty vs ∷ p)))
      → Held (outers_found of_holes whole (declared ty (numbered (slot_in Static) n vs) here) (resolved_outers file (declared ty (numbered (slot_in Static) n vs) here) (n + length vs) p))
  vars_held ty vs p here n h =
      let ws = numbered (slot_in Static) n vs in
      let rs = resolved_variables here [] ty ws in
      subst (λ (z : List Declaration). Held (outers_found of_holes whole z (resolved_outers file (declared ty ws here) (n + length vs) p))) (declared-resolved here [] ty ws here)
      (All-right (Contains scopes) (variables_found of_holes here [] ty rs) _ h)

  function_held : (f : Function) (p : List Outer) (here : List Declaration) (n : ℕ) → Held (outers_found of_holes whole here (resolved_outers file here n (outer_func f ∷ p)))
      → Held (definition_found of_holes (params_declared (numbered_params 0 f.params) []) (function_declaration file f ∷ here) (placed here f).body) × Held (outers_found of_holes whole (function_declaration file f ∷ here) (resolved_outers file (function_declaration file f ∷ here) n p))
  function_held f p here n h =
      let ds = params_declared (numbered_params 0 f.params) [] in
      let around = function_declaration whole (placed here f) ∷ here in (
        subst (λ (z : List Declaration). Held (definition_found of_holes ds z (placed here f).body)) (scope-resolved here f) (All-left (Contains scopes) _ _ h),
        subst (λ (z : List Declaration). Held (outers_found of_holes whole z (resolved_outers file (function_declaration file f ∷ here) n p))) (scope-resolved here f) (All-right (Contains scopes) (definition_found of_holes ds around (placed here f).body) _ h),
      )

  globals_are_well : (p : List Outer) (here : List Declaration) (n : ℕ) → Faultless here n p → Held (outers_found of_holes whole here (resolved_outers file here n p)) → WellGlobals whole scopes file here n p
  globals_are_well [] here n h g = tt
  globals_are_well (outer_vars ty vs ∷ p) here n h g = (
    globals_well whole scopes ty n vs here [] (none_left _ _ h) (All-left (Contains scopes) _ _ g),
    globals_are_well p (declared ty (numbered (slot_in Static) n vs) here) (n + length vs) (vars_faultless ty vs p here n h) (vars_held ty vs p here n g),
  )
  globals_are_well (outer_func f ∷ p) here n h g = globals_are_well p (function_declaration file f ∷ here) n (function_faultless f p here n h) (function_held f p here n g).1

  -- a function's declaration agrees with the definitions, and what is called by it is there
  stands_next : (d : Function) (p : List Outer) (here : List Declaration) (n : ℕ) → LibraryIn here → AllStand whole ⊤ here → Located here (resolved_outers file here n (outer_func d ∷ p)) → Faultless here n (outer_func d ∷ p) → AllStand whole ⊤ (function_declaration file d ∷ here)
  stands_next d p here n lib agree located h =
      All-cons (Stands whole ⊤) (function_declaration file d) here ((λ word f e found. (function_matches d p here n h located word f e found).0), (λ sure. function_there d p here n h located lib (names_faultless d p here n h))) agree

  -- each definition that is still to come stands where its names agree, and its body is well-formed
  known_later : (p : List Outer) (here : List Declaration) (n : ℕ) → LibraryIn here → AllStand whole ⊤ here → AllWithin of_file here → Located here (resolved_outers file here n p) → Faultless here n p → Held (outers_found of_holes whole here (resolved_outers file here n p))
      → (word : List ℕ) (f : Function) → definition word (resolved_outers file here n p) ≡ Some f → IsKnown whole scopes (scope_at_end file here n p) f
  known_later [] here n lib agree at located h g word f found = absurd (cc)
  known_later (outer_vars ty vs ∷ p) here n lib agree at located h g word f found =
      let more = declared ty (numbered (slot_in Static) n vs) here in
      known_later p more (n + length vs) (λ d a. among_declared d ty (numbered (slot_in Static) n vs) here (lib d a)) (agree_globals whole ty n vs here agree) (at_file_declared ty n vs here at) (vars_located ty vs p here n located) (vars_faultless ty vs p here n h) (vars_held ty vs p here n g) word f found
  known_later (outer_func d ∷ p) here n lib agree at located h g word f found =
      let around = function_declaration file d ∷ here in
      let agrees : AllStand whole ⊤ around = stands_next d p here n lib agree located h in
      let held = function_held d p here n g in
      by_test agrees held (bytes_eq d.word word && is_defined (placed here d).body)
      (known_later p around n (λ e a. inr (lib e a)) agrees (at_file_function file d here at) (function_located d p here n located) (function_faultless d p here n h) held.1 word f) found
    where
      by_test : AllStand whole ⊤ (function_declaration file d ∷ here)
          → Held (definition_found of_holes (params_declared (numbered_params 0 d.params) []) (function_declaration file d ∷ here) (placed here d).body) × Held (outers_found of_holes whole (function_declaration file d ∷ here) (resolved_outers file (function_declaration file d ∷ here) n p))
          → (b : Bool) → (definition word (resolved_outers file (function_declaration file d ∷ here) n p) ≡ Some f → IsKnown whole scopes (scope_at_end file (function_declaration file d ∷ here) n p) f)
          → cond b (Some (placed here d)) (definition word (resolved_outers file (function_declaration file d ∷ here) n p)) ≡ Some f → IsKnown whole scopes (scope_at_end file (function_declaration file d ∷ here) n p) f
      by_test agrees held true rest k =
          let around = function_declaration file d ∷ here in
          let params = params_declared (numbered_params 0 d.params) [] in
          let own = none_right (params_faults [] (numbered_params 0 d.params)) _ (none_right (name_faults here (placed here d)) _ (none_left (function_faults whole here (placed here d)) _ h)) in
          let bodies : definition_faults d.ret params around (placed here d).body ≡ [] = ap (λ z. definition_faults d.ret params z (placed here d).body) (sym (scope-resolved here d)) ∙ own in
          record {
            around = around;
            written = d;
            is = sym (some_same k);
            in_file = λ w typed. scope_before file p around n w typed;
            at_file = at_file_function file d here at;
            well = definition_well whole scopes ⊤ d.ret d.body params around (agree_params whole 0 d.params [] around agrees) (length d.params) bodies held.0;
            faultless = bodies;
          }
      by_test agrees held false rest k = rest k

  -- each call that is still to come passes arrays by their names
  outers_pass : (p : List Outer) (here : List Declaration) (n : ℕ) → LibraryIn here → AllStand whole ⊤ here → Located here (resolved_outers file here n p) → Faultless here n p
      → All (PassesByName whole) (outers_found of_calls whole here (resolved_outers file here n p))
  outers_pass [] here n lib agree located h = All-nil (PassesByName whole)
  outers_pass (outer_vars ty vs ∷ p) here n lib agree located h =
      let ws = numbered (slot_in Static) n vs in
      let more = declared ty ws here in
      let whole_scope : AllStand whole ⊤ (here ++ []) = subst (λ (ds : List Declaration). AllStand whole ⊤ ds) (sym (append-nil here)) agree in
      All-append (PassesByName whole) _ _ (variables_pass whole ⊤ Static ty n vs here [] whole_scope (none_left _ _ h))
      (subst (λ (z : List Declaration). All (PassesByName whole) (outers_found of_calls whole z (resolved_outers file more (n + length vs) p))) (sym (declared-resolved here [] ty ws here))
      (outers_pass p more (n + length vs) (λ d a. among_declared d ty ws here (lib d a)) (agree_globals whole ty n vs here agree) (vars_located ty vs p here n located) (vars_faultless ty vs p here n h)))
  outers_pass (outer_func d ∷ p) here n lib agree located h =
      let around = function_declaration file d ∷ here in
      let params = params_declared (numbered_params 0 d.params) [] in
      let agrees : AllStand whole ⊤ around = stands_next d p here n lib agree located h in
      let own = none_right (params_faults [] (numbered_params 0 d.params)) _ (none_right (name_faults here (placed here d)) _ (none_left (function_faults whole here (placed here d)) _ h)) in
      let bodies : definition_faults d.ret params around (placed here d).body ≡ [] = ap (λ z. definition_faults d.ret params z (placed here d).body) (sym (scope-resolved here d)) ∙ own in
      subst (λ (z : List Declaration). All (PassesByName whole) (definition_found of_calls params z (placed here d).body ++ outers_found of_calls whole z (resolved_outers file around n p))) (sym (scope-resolved here d))
      (All-append (PassesByName whole) _ _ (definition_passes whole ⊤ d.ret d.body params around (agree_params whole 0 d.params [] around agrees) (length d.params) bodies)
      (outers_pass p around n (λ e a. inr (lib e a)) agrees (function_located d p here n located) (function_faultless d p here n h)))

  module _ (faultless : Faultless library 0 file) (held : Held (outers_found of_holes whole library whole)) where
    -- a name of the library has no definition
    library_agrees : (d : Declaration) → Among d library → Agrees whole d
    library_agrees d at word f e found = matches_agree f d.entity (later file library 0 d word f faultless at e found)

    all_agree : AllStand whole ⊤ library
    all_agree = All-from_recursion (Stands whole ⊤) library (
      (library_agrees _ (inl refl), (λ sure. refl)),
      (
        (library_agrees _ (inr (inl refl)), (λ sure. refl)),
        (
          (library_agrees _ (inr (inr (inl refl))), (λ sure. refl)),
          (
            (library_agrees _ (inr (inr (inr (inl refl)))), (λ sure. refl)),
            (
              (library_agrees _ (inr (inr (inr (inr (inl refl))))), (λ sure. refl)),
              ((library_agrees _ (inr (inr (inr (inr (inr (inl refl)))))), (λ sure. refl)), tt),
            ),
          ),
        ),
      ),
    )

    at_start : AllWithin of_file library
    at_start = All-from_recursion (λ (d : Declaration). HasSlotIn of_file d.entity) library (tt, (tt, (tt, (tt, (tt, (tt, tt))))))

    begins : AllWithin (file_below 0) library
    begins = All-from_recursion (λ (d : Declaration). HasSlotIn (file_below 0) d.entity) library (tt, (tt, (tt, (tt, (tt, (tt, tt))))))

    typed_at_start : (w : World) → IsTypedBy library w
    typed_at_start w = All-from_recursion (λ (d : Declaration). EntityHasObject w d.entity) library (tt, (tt, (tt, (tt, (tt, (tt, tt))))))

    known_if_any : (word : List ℕ) (o : Option Function) → definition word whole ≡ o → IsKnownIfAny whole scopes (scope_at_end file library 0 file) o
    known_if_any word None found = tt
    known_if_any word (Some f) found = known_later file library 0 (λ d a. a) all_agree at_start (λ w g e. inr e) faultless held word f found

    pub whole_passes : All (PassesByName whole) (written_calls whole)
    whole_passes = outers_pass file library 0 (λ d a. a) all_agree (λ w g e. inr e) faultless

    pub whole_from : (filling : Filling) → IsSteady filling → (W : World → Type 0) → ((ds : Names) → Contains scopes ds → (x : World) → IsTypedBy ds x → W x) → (w : World) → From W no_slot Any w (run_program filling whole w)
    whole_from filling steady W at_hole w =
        program_from filling steady whole scopes file library W at_hole (at_file file file library 0 at_start) begins (λ word. known_if_any word (definition word whole) refl)
        (globals_are_well file library 0 faultless held) refl w (typed_at_start w)

    known_word : (word : List ℕ) → IsKnownIfAny whole scopes (scope_at_end file library 0 file) (definition word whole)
    known_word word = known_if_any word (definition word whole) refl

    pub calls_kept : (filling : Filling) → IsSteady filling → (W : World → Type 0) → ((ds : Names) → Contains scopes ds → (x : World) → IsTypedBy ds x → W x) → (left : ℕ)
        → CallsKeep W (scope_at_end file library 0 file) ⊤ whole (calls filling whole left)
    calls_kept filling steady W at_hole left = calls_keep filling steady whole scopes (scope_at_end file library 0 file) W at_hole (at_file file file library 0 at_start) known_word left

    pub whole_files : (n : ℕ) → AllWithin (below n) (scope_at_end file library 0 file)
    whole_files n = all_within_more of_file (below n) (of_file_below n) (scope_at_end file library 0 file) (at_file file file library 0 at_start)

    module _ (filling : Filling) (steady : IsSteady filling) (W : World → Type 0) (at_hole : (ds : Names) → Contains scopes ds → (x : World) → IsTypedBy ds x → W x) where
      pub calls_found : (left : ℕ) → CallsFind (scope_at_end file library 0 file) ⊤ whole (in_calls filling whole left)
      calls_found left = calls_find filling steady whole scopes (scope_at_end file library 0 file) W at_hole (at_file file file library 0 at_start) known_word left

      outers_find : (called : Called) (inside : Inside) (p : List Outer) (here : List Declaration) (n : ℕ) → AllWithin (file_below n) here → WellGlobals whole scopes file here n p → (w : World) → IsTypedBy here w
          → FindsOuters filling whole called inside (resolved_outers file here n p) w
      outers_find called inside [] here n h well w typed = tt
      outers_find called inside (outer_vars ty vs ∷ p) here n h well w typed =
          let ws = numbered (slot_in Static) n vs in
          let rs = resolved_variables here [] ty ws in (
            globals_find filling steady whole scopes ⊤ tt called inside W [] ⊥ at_hole (λ word gs x c t s. absurd c) (λ word gs x c t s. absurd c) Static (λ m. All-nil (λ (d : Declaration). HasSlotIn (file_below m) d.entity)) n ty vs here []
                (subst (λ (ds : List Declaration). AllWithin (file_below n) ds) (sym (append-nil here)) h) well.0 w
                (record { typed = subst (λ (ds : List Declaration). IsTypedBy ds w) (sym (append-nil here)) typed; of_file = λ c. absurd c }),
            then_made (declare_globals filling whole called ty rs w) _ (variables_from filling steady whole scopes W at_hole called file n ty vs here h well.0 w typed)
                (λ o x keeps good. outers_find called inside p (declared ty ws here) (n + length vs) (within_globals n ty vs here h) well.1 x good),
          )
      outers_find called inside (outer_func f ∷ p) here n h well w typed =
          outers_find called inside p (function_declaration file f ∷ here) n (All-cons (λ (d : Declaration). HasSlotIn (file_below n) d.entity) _ here tt h) well w (All-cons (λ (d : Declaration). EntityHasObject w d.entity) _ here tt typed)

      main_there : has_main whole ≡ true → (x : World) → IsDefinedFor whole (codes "main") [] x × GivesValue whole (codes "main")
      main_there mains x =
          let found = option_there (definition (codes "main") whole) (main_defined whole mains) in
          let bodied = definition_body (codes "main") whole found.0 found.1 in
          let bare = main_bare found.0 found.1 file library 0 (λ w g e. inr e) faultless mains in (
            record { function = found.0; is = found.1; body = bodied.0; has_body = bodied.1; takes = subst (λ (ps : List Param). TakesAll ps [] x) (sym bare.0) tt },
            (λ f is none.
                let number : f.ret ≡ Some Int = (main_bare f is file library 0 (λ w g e. inr e) faultless mains).1 in
                absurd (cc)),
          )

      main_value : has_main whole ≡ true → (x : World) → Then (user_call filling whole call_limit (definition (codes "main") whole) [] x) (λ o y. is_some o ≡ true)
      main_value mains x =
          let found = option_there (definition (codes "main") whole) (main_defined whole mains) in
          let number = (main_bare found.0 found.1 file library 0 (λ w g e. inr e) faultless mains).1 in
          let is : IsKnown whole scopes (scope_at_end file library 0 file) found.0 = subst (λ (o : Option Function). IsKnownIfAny whole scopes (scope_at_end file library 0 file) o) found.1 (known_word (codes "main")) in
          subst (λ (o : Option Function). Then (user_call filling whole call_limit o [] x) (λ v y. is_some v ≡ true)) (sym found.1)
          ((main_called filling steady whole scopes (scope_at_end file library 0 file) W at_hole (at_file file file library 0 at_start) known_word call_limit found.0 [] is
          (definition_word (codes "main") whole found.0 found.1) (ap (λ (r : Option Ty). is_some r) number)).by x)

      pub run_found : has_main whole ≡ true → (w : World) → RunFinds filling whole w
      run_found mains w =
          let called = calls filling whole call_limit in
          let well = globals_are_well file library 0 faultless held in (
            outers_find called (in_calls filling whole call_limit) file library 0 begins well w (typed_at_start w),
            then_made (make_globals filling whole called whole w) _ (globals_made filling steady whole scopes W at_hole called file file library 0 begins well w (typed_at_start w))
                (λ o x keeps good. (
                  (main_there mains x).0,
                  (main_there mains x).1,
                  found_in filling steady whole scopes (scope_at_end file library 0 file) W at_hole (at_file file file library 0 at_start) known_word call_limit (definition (codes "main") whole) [] x (known_word (codes "main")) good tt,
                  main_value mains x,
                )),
          )

-- a run that waits does so where a hole stands
waits_there : {A : Type 0} (W : World → Type 0) (w : World) (old : Option ℤ) (x : World) (o : Out A) → o ≡ waiting old x → From W no_slot Any w o → W x
waits_there W w old x o e h = (subst (λ (z : Out _). From W no_slot Any w z) e h).by

pub holes-typed : HolesAreTyped
holes-typed p checked filling steady old w x =
    subst (λ (q : List Outer). run_program filling q w ≡ waiting old x → IsTypedByOne (holes q) x) checked.is_resolved
    (λ e.
    let faultless : outers_faults (resolved p) library (resolved p) ≡ [] = none_left _ (main_faults (resolved p) 0) (ap (λ q. program_faults q 0) checked.is_resolved ∙ checked.faultless 0) in
    waits_there (IsTypedByOne (holes (resolved p))) w old x (run_program filling (resolved p) w) e
    (whole_from p (holes (resolved p)) faultless (All-contains_itself (holes (resolved p))) filling steady (IsTypedByOne (holes (resolved p)))
    (λ ds at y typed. record { scope = ds; is_scope = at; typed = typed }) w))

-- ---- names

pub names-have : NamesHaveObjects
names-have p checked =
    All-weaker IsResolved (λ (u : Use). (w : World) → IsTypedBy u.scope w → NameHasObject u w)
    (λ u r w typed. record { ty = r.ty; array = r.array; denotes = r.denotes; has = denoted_object u.scope w u.word u.slot r.ty r.array typed r.denotes; indexed = r.indexed })
    (uses p) (names-resolved p checked)

-- ---- numbers

fits_there : {A : Type 0} (old : Option ℤ) (x : World) (o : Out A) → o ≡ waiting old x → FitsOut o → FitsWorld x
fits_there old x o e h = subst (λ (z : Out _). FitsOut z) e h

pub holes-fit : HolesFit
holes-fit p filling keeps old w x fit e =
    fits_there old x (run_program filling p w) e ((program_related (λ A m n. Fitting m) fits filling filling (λ o. record { by = keeps.by o }) p).by w fit)

-- the cells of an object that is got of a list
got : {X : Type 0} (P : X → Type 0) (xs : List X) (i : ℕ) (x : X) → All P xs → slice_get xs i ≡ Some x → P x
got P [] i x h e = absurd (cc)
got P (y ∷ ys) zero x h e = subst P (some_same e) (All-head P y ys h)
got P (y ∷ ys) (suc i) x h e = got P ys i x (All-tail P y ys h) e

pub states-show : TypedStatesShowVariables
states-show ds w typed fit word slot ty array is =
    let has = denoted_object ds w word slot ty array typed is in
    record {
      has = has;
      values = subst (λ (t : Ty). All (FitsCell t) has.object.cells) has.typed (got (λ (o : Object). All (FitsCell o.ty) o.cells) w.objects has.number has.object fit has.lives);
    }

-- ---- statements

scope_end-same : (file p : List Outer) (here : List Declaration) (n : ℕ) → outers_declared (resolved file) here (resolved_outers file here n p) ≡ scope_at_end file here n p
scope_end-same file [] here n = refl
scope_end-same file (outer_vars ty vs ∷ p) here n =
    let ws = numbered (slot_in Static) n vs in
    ap (λ z. outers_declared (resolved file) z (resolved_outers file (declared ty ws here) (n + length vs) p)) (declared-resolved here [] ty ws here) ∙ scope_end-same file p (declared ty ws here) (n + length vs)
scope_end-same file (outer_func f ∷ p) here n =
    ap (λ z. outers_declared (resolved file) z (resolved_outers file (function_declaration file f ∷ here) n p)) (scope-resolved file [] here f) ∙ scope_end-same file p (function_declaration file f ∷ here) n

ends_typed : {A : Type 0} (scopes : List Names) (S : Slot → Type 0) (ds : List Declaration) (w : World) (o : Out A) → AllWithin S ds → IsTypedBy ds w → From (IsTypedByOne scopes) S Any w o → EndsTyped scopes ds o
ends_typed scopes S ds w (going a x) slots typed h = typed_moves S ds w x slots h.by.0 typed
ends_typed scopes S ds w (over e x) slots typed h = tt
ends_typed scopes S ds w (waiting old x) slots typed h = h.by

faultless_whole : (p : List Outer) → IsChecked p → outers_faults (resolved p) library (resolved p) ≡ []
faultless_whole p checked = none_left _ (main_faults (resolved p) 0) (ap (λ q. program_faults q 0) checked.is_resolved ∙ checked.faultless 0)

-- there is a `main`
main_whole : (p : List Outer) → IsChecked p → has_main (resolved p) ≡ true
main_whole p checked =
    not_true (has_main (resolved p)) (no_fault (not (has_main (resolved p))) NoMain (record { from = 0; to = 0 })
    (none_right (outers_faults (resolved p) library (resolved p)) _ (ap (λ q. program_faults q 0) checked.is_resolved ∙ checked.faultless 0)))

module _ (file : List Outer) (checked : IsChecked file) (filling : Filling) (steady : IsSteady filling) (left n : ℕ) (ds : Names) where
  statement_whole : IsScopeIn (resolved file) n ds → (ret : Option Ty) (in_loop : Bool) (c : Code) → code_faults ret ds in_loop c ≡ [] → resolved_code ds n c ≡ c
      → (w : World) → IsTypedBy ds w → IsTypedBy (file_scope (resolved file)) w → EndsTyped (code_found of_holes ds c ++ holes (resolved file)) ds (exec filling (resolved file) (calls filling (resolved file) left) c w)
  statement_whole scope ret in_loop c free same w typed all =
      let scopes = code_found of_holes ds c ++ holes (resolved file) in
      let every : All (Contains scopes) scopes = All-contains_itself scopes in
      let in_code : All (Contains scopes) (code_found of_holes ds c) = All-left (Contains scopes) (code_found of_holes ds c) (holes (resolved file)) every in
      let in_whole : All (Contains scopes) (holes (resolved file)) = All-right (Contains scopes) (code_found of_holes ds c) (holes (resolved file)) every in
      let free_there : code_faults ret ds in_loop (resolved_code ds n c) ≡ [] = ap (λ z. code_faults ret ds in_loop z) same ∙ free in
      let held_there : All (Contains scopes) (code_found of_holes ds (resolved_code ds n c)) = subst (λ (z : Code). All (Contains scopes) (code_found of_holes ds z)) (sym same) in_code in
      let stand : AllStand (resolved file) ⊥ ds = λ i d lt. (scope.agrees i d lt, (λ sure. absurd sure)) in
      let well = code_well (resolved file) scopes ⊥ ret c ds stand n in_loop free_there held_there in
      let faultless = faultless_whole file checked in
      let W = IsTypedByOne scopes in
      let at_hole : (es : Names) → Contains scopes es → (x : World) → IsTypedBy es x → W x = λ es at y t. record { scope = es; is_scope = at; typed = t } in
      let F = scope_at_end file library 0 file in
      let sound = exec_sound filling steady (resolved file) scopes ⊥ (calls filling (resolved file) left) W F ⊤ at_hole (calls_kept file scopes faultless in_whole filling steady W at_hole left) (whole_files file scopes faultless in_whole) c n ds scope.slots well in
      let all_there : IsTypedBy F w = subst (λ (z : List Declaration). IsTypedBy z w) (scope_end-same file file library 0) all in
      ends_typed scopes (below n) ds w _ scope.slots typed
      (subst (λ (z : Code). From W (below n) Any w (exec filling (resolved file) (calls filling (resolved file) left) z w)) same (sound.by w (record { typed = typed; of_file = λ c. all_there })))

  -- what is known of an expression in the whole program
  expression_whole : IsScopeIn (resolved file) n ds → All (IsThere (resolved file)) ds → (wanted : Bool) (e : Tree) → cond wanted (as_number ds e) (as_void ds e) ≡ [] → faults ds e ≡ [] → resolved_tree ds e ≡ e
      → (w : World) → IsTypedBy ds w → IsTypedBy (file_scope (resolved file)) w → Finds filling (resolved file) (calls filling (resolved file) left) (in_calls filling (resolved file) left) wanted e w
  expression_whole scope are wanted e kind free same w typed all =
      let scopes = tree_holes ds e ++ holes (resolved file) in
      let every : All (Contains scopes) scopes = All-contains_itself scopes in
      let in_tree : All (Contains scopes) (tree_holes ds e) = All-left (Contains scopes) (tree_holes ds e) (holes (resolved file)) every in
      let in_whole : All (Contains scopes) (holes (resolved file)) = All-right (Contains scopes) (tree_holes ds e) (holes (resolved file)) every in
      let free_there : faults ds (resolved_tree ds e) ≡ [] = ap (λ z. faults ds z) same ∙ free in
      let kind_there : cond wanted (as_number ds (resolved_tree ds e)) (as_void ds (resolved_tree ds e)) ≡ [] = ap (λ z. cond wanted (as_number ds z) (as_void ds z)) same ∙ kind in
      let stand : AllStand (resolved file) ⊤ ds = λ i d lt. (scope.agrees i d lt, (λ sure. are i d lt)) in
      let held_there : All (Contains scopes) (tree_holes ds (resolved_tree ds e)) = subst (λ (z : Tree). All (Contains scopes) (tree_holes ds z)) (sym same) in_tree in
      let well = tree_well (resolved file) scopes ⊤ ds stand wanted e (λ sure. kind_there) free_there held_there in
      let faultless = faultless_whole file checked in
      let W = IsTypedByOne scopes in
      let at_hole : (es : Names) → Contains scopes es → (x : World) → IsTypedBy es x → W x = λ es at y t. record { scope = es; is_scope = at; typed = t } in
      let F = scope_at_end file library 0 file in
      let k : Context = record { waits = W; file = F; may_call = ⊤; slots = below n; scope = ds; in_scope = scope.slots; in_file = whole_files file scopes faultless in_whole n } in
      let all_there : IsTypedBy F w = subst (λ (z : List Declaration). IsTypedBy z w) (scope_end-same file file library 0) all in
      subst (λ (z : Tree). Finds filling (resolved file) (calls filling (resolved file) left) (in_calls filling (resolved file) left) wanted z w) same
      (finds filling steady (resolved file) scopes ⊤ tt (calls filling (resolved file) left) k at_hole (calls_kept file scopes faultless in_whole filling steady W at_hole left) (in_calls filling (resolved file) left) (calls_found file scopes faultless in_whole filling steady W at_hole left) wanted e well w (record { typed = typed; of_file = λ c. all_there }))

pub statements-keep : StatementsKeepTypes
statements-keep p checked filling steady left n ds =
    subst (λ (q : List Outer). IsScopeIn q n ds → (ret : Option Ty) (in_loop : Bool) (c : Code) → code_faults ret ds in_loop c ≡ [] → resolved_code ds n c ≡ c
    → (w : World) → IsTypedBy ds w → IsTypedBy (file_scope q) w → EndsTyped (code_found of_holes ds c ++ holes q) ds (exec filling q (calls filling q left) c w)) checked.is_resolved
    (statement_whole p checked filling steady left n ds)

pub expressions-find : ExpressionsFindObjects
expressions-find p checked filling steady left n ds =
    subst (λ (q : List Outer). IsScopeIn q n ds → All (IsThere q) ds → (wanted : Bool) (e : Tree) → cond wanted (as_number ds e) (as_void ds e) ≡ [] → faults ds e ≡ [] → resolved_tree ds e ≡ e
    → (w : World) → IsTypedBy ds w → IsTypedBy (file_scope q) w → Finds filling q (calls filling q left) (in_calls filling q left) wanted e w) checked.is_resolved
    (expression_whole p checked filling steady left n ds)

pub runs-find : RunsFindObjects
runs-find p checked filling steady w =
    let scopes = holes (resolved p) in
    subst (λ (q : List Outer). RunFinds filling q w) checked.is_resolved
    (run_found p scopes (faultless_whole p checked) (All-contains_itself scopes) filling steady (IsTypedByOne scopes) (λ ds at y typed. record { scope = ds; is_scope = at; typed = typed }) (main_whole p checked) w)

-- ---- arrays

pub arrays-passed : ArraysArePassedByName
arrays-passed p checked =
    subst (λ (q : List Outer). All (PassesByName q) (written_calls q)) checked.is_resolved
    (whole_passes p (holes (resolved p)) (faultless_whole p checked) (All-contains_itself (holes (resolved p))))

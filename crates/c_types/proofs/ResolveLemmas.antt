-- Trees whose parts are changed one after another, each perhaps in another way.
use Rattle.std.proofs.Common.{◌≡◌, ℕ, zero, suc, ◌+◌, ◌<◌, ◌≤◌, Bool, true, false, is_some, ◌&&◌, ◌||◌, List, [], ◌∷◌, ◌++◌, map, length, take, drop, get_or, slice_set, refl, sym, ap, ap₂, ◌∙◌, add-one, drop-cons, drop-set-lt, arith, Vec, Global}
use Rattle.std.specs.Str.{bytes_eq}
use Rattle.std.proofs.lemmas.Grind.{common_steps}
use Rattle.std.proofs.lemmas.List.{map-id, take_all, take_more_set}
use Rattle.c_tree.specs.declared.place.Span.{Span}
use Rattle.c_tree.specs.declared.expr.Arg.{Arg}
use Rattle.c_tree.specs.declared.expr.ExprNode.TheVariants.{Call}
use Rattle.c_tree.specs.declared.program.External.{External}
use Rattle.c_tree.specs.declared.program.Param.{Param}
use Rattle.c_tree.specs.declared.stmt.Declarator.{Declarator}
use Rattle.c_tree.specs.declared.stmt.Item.{Item}
use Rattle.c_tree.specs.declared.stmt.Slot.{Slot}
use Rattle.c_tree.specs.declared.stmt.Ty.{Ty}
use Rattle.c_tree.specs.declared.stmt.StmtNode.TheVariants.{Block}
use Rattle.c_tree.specs.Tree.{Variable, Body, Outer, outer_vars, outer_func, call, block}
use Rattle.c_tree.specs.Views.{node_tree, args_of, node_code, variable, with_item, body_of, outer}
use Rattle.c_tree.proofs.ViewsLemmas.{node-Call, node-Block}
use Rattle.c_types.specs.declared.scope.Declaration.{Declaration}
use Rattle.c_types.specs.declared.scope.Storage.{Storage}
use Rattle.c_types.specs.declared.scope.Entity.TheVariants.{Function as FunctionEntity}
use Rattle.c_types.specs.Library.{library}
use Rattle.c_types.specs.Programs.{is_defined, param_type, param_declaration, params_declared}
use Rattle.c_types.specs.Scopes.{is_declared}
use Rattle.c_types.specs.Slots.{slot_in, numbered_variable, numbered, numbered_param, numbered_params, resolved_tree, resolved_args, resolved_variable, resolved_variables, resolved_code, resolved_body, with_function, resolved_outers, code_count, body_count}
use Rattle.c_types.specs.Statements.{variable_declaration, declared}
use Rattle.c_types.proofs.Resolving.{outers-kept}
use Rattle.c_types.proofs.SlotlessFaults.{defined-same}

-- a call whose arguments are resolved is resolved
pub resolved_call : (ds : List Declaration) (word : List ℕ) (args new_args : Vec Arg Global) → args_of new_args.items ≡ resolved_args ds (args_of args.items)
    → (s : Span) → node_tree (Call word new_args) s ≡ resolved_tree ds (node_tree (Call word args) s)
resolved_call ds word args new_args h s =
    node-Call word new_args s ∙ ap (λ x. call word x s) h ∙ sym (ap (resolved_tree ds) (node-Call word args s))

-- a block whose items are resolved is resolved
pub resolved_block : (ds : List Declaration) (n : ℕ) (items new_items : Vec Item Global) → body_of new_items.items ≡ resolved_body [] ds n (body_of items.items)
    → (s : Span) → node_code (Block new_items) s ≡ resolved_code ds n (node_code (Block items) s)
resolved_block ds n items new_items h s =
    node-Block new_items s ∙ ap (λ b. block b s) h ∙ sym (ap (resolved_code ds n) (node-Block items s))

-- a block declares what its items declare
pub count_block : (items : Vec Item Global) (s : Span) → body_count (body_of items.items) ≡ code_count (node_code (Block items) s)
count_block items s = sym (ap code_count (node-Block items s))

-- elements before others
abbrev pub before : {A B : Type 0} → (A → B → B) → List A → B → B
before onto [] rest = rest
before onto (x ∷ xs) rest = onto x (before onto xs rest)

before-append : {A B : Type 0} (onto : A → B → B) (xs ys : List A) (rest : B) → before onto (xs ++ ys) rest ≡ before onto xs (before onto ys rest)
before-append onto [] ys rest = refl
before-append onto (x ∷ xs) ys rest = ap (onto x) (before-append onto xs ys rest)

module _ {A B : Type 0} (view : List A → B) (onto : A → B → B) (cons : (x : A) (xs : List A) → view (x ∷ xs) ≡ onto x (view xs)) where
  before-view : (xs : List A) → before onto xs (view []) ≡ view xs
  before-view [] = refl
  before-view (x ∷ xs) = ap (onto x) (before-view xs) ∙ sym (cons x xs)

  -- one more element is changed: what the elements so far, and the others once they are changed, stand for stays
  pub changed_more : (change change_rest : B → B) (now : List A) (i : ℕ) (d y : A) (all : B) → i < length now
      → ((rest : B) → onto y (change_rest rest) ≡ change (onto (get_or now i d) rest))
      → before onto (take i now) (change (view (drop i now))) ≡ all
      → before onto (take (i + 1) (slice_set now i y)) (change_rest (view (drop (i + 1) (slice_set now i y)))) ≡ all
  changed_more change change_rest now i d y all lt step h =
      let x : A = get_or now i d in
      let rest : List A = drop (i + 1) now in
      let front : drop i now ≡ x ∷ rest = rw add-one (drop-cons now i d lt) in
      let after : drop (i + 1) (slice_set now i y) ≡ rest = drop-set-lt (i + 1) now i y (omega arith) in
      let up_to : take (i + 1) (slice_set now i y) ≡ take i now ++ y ∷ [] = take_more_set now i y lt in
      ap (λ z. before onto z (change_rest (view (drop (i + 1) (slice_set now i y))))) up_to
      ∙ ap (λ z. before onto (take i now ++ y ∷ []) (change_rest (view z))) after
      ∙ before-append onto (take i now) (y ∷ []) (change_rest (view rest))
      ∙ ap (before onto (take i now)) (step (view rest) ∙ ap change (sym (cons x rest) ∙ sym (ap view front)))
      ∙ h

  -- the same of a number that is counted
  pub counted_more : (count : B → ℕ) (now : List A) (i n m all : ℕ) (d y : A) → i < length now
      → ((rest : B) → m + count rest ≡ n + count (onto (get_or now i d) rest))
      → n + count (view (drop i now)) ≡ all → m + count (view (drop (i + 1) (slice_set now i y))) ≡ all
  counted_more count now i n m all d y lt step h =
      let rest : List A = drop (i + 1) now in
      let front : drop i now ≡ get_or now i d ∷ rest = rw add-one (drop-cons now i d lt) in
      let after : drop (i + 1) (slice_set now i y) ≡ rest = drop-set-lt (i + 1) now i y (omega arith) in
      ap (λ z. m + count (view z)) after ∙ step (view rest)
      ∙ ap (λ z. n + count z) (sym (cons (get_or now i d) rest) ∙ sym (ap view front)) ∙ h

  -- all elements are changed
  pub changed_all : (change : B → B) → change (view []) ≡ view [] → (now : List A) (i : ℕ) (all : B) → length now ≤ i
      → before onto (take i now) (change (view (drop i now))) ≡ all → view now ≡ all
  changed_all change none now i all le h =
      let whole : take i now ≡ now = take_all i now le in
      let end : drop i now ≡ [] = grind (arith, common_steps) in
      sym (before-view now) ∙ ap (before onto now) (sym none ∙ ap (λ z. change (view z)) (sym end))
      ∙ sym (ap (λ z. before onto z (change (view (drop i now)))) whole) ∙ h

-- the elements of a list that are changed so far, and the others once they are changed
abbrev pub listed : {A B : Type 0} → (A → B) → (List B → List B) → List A → ℕ → List B
listed view change now i = before (λ x rest. view x ∷ rest) (take i now) (change (map view (drop i now)))

-- one more element of a list is changed
pub listed_more : {A B : Type 0} (view : A → B) (change change_rest : List B → List B) (now : List A) (i : ℕ) (d y : A) (all : List B) → i < length now
    → ((rest : List B) → view y ∷ change_rest rest ≡ change (view (get_or now i d) ∷ rest))
    → listed view change now i ≡ all → listed view change_rest (slice_set now i y) (i + 1) ≡ all
listed_more view change change_rest now i d y all lt step h =
    changed_more (map view) (λ x rest. view x ∷ rest) (λ x xs. refl) change change_rest now i d y all lt step h

-- all elements of a list are changed
pub listed_all : {A B : Type 0} (view : A → B) (change : List B → List B) → change [] ≡ [] → (now : List A) (i : ℕ) (all : List B) → length now ≤ i
    → listed view change now i ≡ all → map view now ≡ all
listed_all view change none now i all le h =
    changed_all (map view) (λ x rest. view x ∷ rest) (λ x xs. refl) change none now i all le h

-- the same of a number that is counted
pub counted_one_more : {A B : Type 0} (view : A → B) (now : List A) (i n m all : ℕ) (d y : A) → i < length now → m ≡ suc n
    → n + length (map view (drop i now)) ≡ all → m + length (map view (drop (i + 1) (slice_set now i y))) ≡ all
counted_one_more view now i n m all d y lt next h =
    counted_more (map view) (λ x rest. view x ∷ rest) (λ x xs. refl) length now i n m all d y lt
    (λ rest. let same : m + length rest ≡ n + suc (length rest) = omega arith in same) h

module _ (storage : Storage) (ty : Ty) (now : List Declarator) (i : ℕ) (d y : Declarator) (hs hs' os at : List Declaration) (n m : ℕ) (slot : Slot) where
  -- one more declarator is resolved, and declared after those before it
  pub declarators_more : (all : List Variable) → i < length now → at ≡ os → slot ≡ slot_in storage n → m ≡ suc n
      → hs' ≡ variable_declaration ty (numbered_variable slot (variable (get_or now i d))) ∷ hs
      → variable y ≡ resolved_variable hs at ty (numbered_variable slot (variable (get_or now i d)))
      → listed variable (λ vs. resolved_variables hs os ty (numbered (slot_in storage) n vs)) now i ≡ all
      → listed variable (λ vs. resolved_variables hs' os ty (numbered (slot_in storage) m vs)) (slice_set now i y) (i + 1) ≡ all
  declarators_more all lt around same next here one h =
      let x : Variable = variable (get_or now i d) in
      let first : variable y ≡ resolved_variable hs os ty (numbered_variable (slot_in storage n) x) =
      one ∙ ap₂ (λ o k. resolved_variable hs o ty (numbered_variable k x)) around same in
      let after : hs' ≡ variable_declaration ty (numbered_variable (slot_in storage n) x) ∷ hs =
      here ∙ ap (λ k. variable_declaration ty (numbered_variable k x) ∷ hs) same in
      listed_more variable (λ vs. resolved_variables hs os ty (numbered (slot_in storage) n vs)) (λ vs. resolved_variables hs' os ty (numbered (slot_in storage) m vs)) now i d y all lt
      (λ rest. λ j. first j ∷ resolved_variables (after j) os ty (numbered (slot_in storage) (next j) rest)) h

  pub declared_more : (all : List Declaration) → i < length now → slot ≡ slot_in storage n → m ≡ suc n
      → hs' ≡ variable_declaration ty (numbered_variable slot (variable (get_or now i d))) ∷ hs
      → declared ty (numbered (slot_in storage) n (map variable (drop i now))) hs ≡ all
      → declared ty (numbered (slot_in storage) m (map variable (drop (i + 1) (slice_set now i y)))) hs' ≡ all
  declared_more all lt same next here h =
      let x : Variable = variable (get_or now i d) in
      let rest : List Declarator = drop (i + 1) now in
      let front : drop i now ≡ get_or now i d ∷ rest = rw add-one (drop-cons now i d lt) in
      let left : drop (i + 1) (slice_set now i y) ≡ rest = drop-set-lt (i + 1) now i y (omega arith) in
      let after : hs' ≡ variable_declaration ty (numbered_variable (slot_in storage n) x) ∷ hs =
      here ∙ ap (λ k. variable_declaration ty (numbered_variable k x) ∷ hs) same in
      ap (λ z. declared ty (numbered (slot_in storage) m (map variable z)) hs') left
      ∙ ap₂ (λ k z. declared ty (numbered (slot_in storage) k (map variable rest)) z) next after
      ∙ sym (ap (λ z. declared ty (numbered (slot_in storage) n (map variable z)) hs) front) ∙ h

module _ (now : List Param) (i : ℕ) (d y : Param) (hs hs' : List Declaration) (n m k : ℕ) where
  -- one more parameter has its slot, and is declared
  pub params_more : (all : List Param) → i < length now → m ≡ suc n → k ≡ n → y ≡ numbered_param k (get_or now i d)
      → listed (λ p. p) (numbered_params n) now i ≡ all → listed (λ p. p) (numbered_params m) (slice_set now i y) (i + 1) ≡ all
  params_more all lt next number one h =
      let first : y ≡ numbered_param n (get_or now i d) = one ∙ ap (λ z. numbered_param z (get_or now i d)) number in
      listed_more (λ p. p) (numbered_params n) (numbered_params m) now i d y all lt (λ rest. λ j. first j ∷ numbered_params (next j) rest) h

  pub params_declared_more : (all : List Declaration) → i < length now → m ≡ suc n → k ≡ n → hs' ≡ param_declaration (numbered_param k (get_or now i d)) ∷ hs
      → params_declared (numbered_params n (drop i now)) hs ≡ all → params_declared (numbered_params m (drop (i + 1) (slice_set now i y))) hs' ≡ all
  params_declared_more all lt next number here h =
      let after : hs' ≡ param_declaration (numbered_param n (get_or now i d)) ∷ hs =
      here ∙ ap (λ z. param_declaration (numbered_param z (get_or now i d)) ∷ hs) number in
      let rest : List Param = drop (i + 1) now in
      let front : drop i now ≡ get_or now i d ∷ rest = rw add-one (drop-cons now i d lt) in
      let left : drop (i + 1) (slice_set now i y) ≡ rest = drop-set-lt (i + 1) now i y (omega arith) in
      ap (λ z. params_declared (numbered_params m z) hs') left
      ∙ ap₂ (λ z es. params_declared (numbered_params z rest) es) next after
      ∙ sym (ap (λ z. params_declared (numbered_params n z) hs) front) ∙ h

-- parameters that stand for themselves
pub params_all : (n : ℕ) (now : List Param) (i : ℕ) (all : List Param) → length now ≤ i → listed (λ p. p) (numbered_params n) now i ≡ all → now ≡ all
params_all n now i all le h = sym (map-id now) ∙ listed_all (λ p. p) (numbered_params n) refl now i all le h

module _ (now : List Item) (i : ℕ) (d y : Item) (hs hs' os at : List Declaration) (n m : ℕ) where
  -- one more item is resolved
  pub items_more : (all : Body) → i < length now → at ≡ os
      → ((rest : Body) → with_item y (resolved_body hs' at m rest) ≡ resolved_body hs at n (with_item (get_or now i d) rest))
      → before with_item (take i now) (resolved_body hs os n (body_of (drop i now))) ≡ all
      → before with_item (take (i + 1) (slice_set now i y)) (resolved_body hs' os m (body_of (drop (i + 1) (slice_set now i y)))) ≡ all
  items_more all lt same step h =
      changed_more body_of with_item (λ x xs. refl) (resolved_body hs os n) (resolved_body hs' os m) now i d y all lt
      (λ rest. sym (ap (λ o. with_item y (resolved_body hs' o m rest)) same) ∙ step rest ∙ ap (λ o. resolved_body hs o n (with_item (get_or now i d) rest)) same) h

  pub items_counted : (all : ℕ) → i < length now → ((rest : Body) → m + body_count rest ≡ n + body_count (with_item (get_or now i d) rest))
      → n + body_count (body_of (drop i now)) ≡ all → m + body_count (body_of (drop (i + 1) (slice_set now i y))) ≡ all
  items_counted all lt step h = counted_more body_of with_item (λ x xs. refl) body_count now i n m all d y lt step h

-- parameters are counted
pub params_counted : (now : List Param) (i n m all : ℕ) (d y : Param) → i < length now → m ≡ suc n
    → n + length (drop i now) ≡ all → m + length (drop (i + 1) (slice_set now i y)) ≡ all
params_counted now i n m all d y lt next h =
    counted_more (λ ps. ps) (λ p rest. p ∷ rest) (λ p ps. refl) length now i n m all d y lt
    (λ rest. let same : m + length rest ≡ n + suc (length rest) = omega arith in same) h

-- what is resolved at file scope so far has the definitions that the file has
pub defined_more : (file : List Outer) (here : List Declaration) (n : ℕ) (x y : Outer) → y ∷ [] ≡ resolved_outers file here n (x ∷ []) → (w : List ℕ) → is_defined (y ∷ []) w ≡ is_defined (x ∷ []) w
defined_more file here n x y is w =
    ap (λ p. is_defined p w) is ∙ sym (defined-same (resolved_outers file here n (x ∷ [])) w)
    ∙ ap (λ p. is_defined p w) (outers-kept file here n (x ∷ [])) ∙ defined-same (x ∷ []) w

-- a definition stands in the head or in the rest
defined_cons : (x y : Outer) (xs ys : List Outer) (w : List ℕ) → is_defined (x ∷ []) w ≡ is_defined (y ∷ []) w → is_defined xs w ≡ is_defined ys w → is_defined (x ∷ xs) w ≡ is_defined (y ∷ ys) w
defined_cons x y xs ys w h g = sym (defined_split x xs w) ∙ ap₂ (λ a b. a || b) h g ∙ defined_split y ys w
  where
    by_tests : (a b : Bool) → ((a || false) || b) ≡ (a || b)
    by_tests true b = refl
    by_tests false b = refl

    defined_split : (x : Outer) (xs : List Outer) (w : List ℕ) → (is_defined (x ∷ []) w || is_defined xs w) ≡ is_defined (x ∷ xs) w
    defined_split (outer_vars ty vs) xs w = refl
    defined_split (outer_func f) xs w = by_tests (is_some f.body && bytes_eq f.word w) (is_defined xs w)

-- the same after one element is changed
pub defined_set : (now : List External) (i : ℕ) (d y : External) (w : List ℕ) → i < length now → is_defined (outer y ∷ []) w ≡ is_defined (outer (get_or now i d) ∷ []) w
    → is_defined (map outer (slice_set now i y)) w ≡ is_defined (map outer now) w
defined_set [] i d y w lt h = absurd (omega arith)
defined_set (x ∷ xs) zero d y w lt h = defined_cons (outer y) (outer x) (map outer xs) (map outer xs) w h refl
defined_set (x ∷ xs) (suc i) d y w lt h = defined_cons (outer x) (outer x) (map outer (slice_set xs i y)) (map outer xs) w refl (defined_set xs i d y w (omega arith) h)

-- the name of a function is declared alike where the same functions are defined
with_function-same : (a b : List Outer) (x : Outer) (hs : List Declaration) → ((w : List ℕ) → is_defined a w ≡ is_defined b w) → with_function a x hs ≡ with_function b x hs
with_function-same a b (outer_vars ty vs) hs same = refl
with_function-same a b (outer_func f) hs same =
    ap (λ z. record { word = f.word; entity = FunctionEntity f.ret (map param_type f.params) (is_some f.body) (is_declared library f.word || z) } ∷ hs) (same f.word)

module _ (file : List Outer) (now : List External) (i : ℕ) (d y : External) (hs own hs' : List Declaration) (n m : ℕ) where
  -- one more of what stands at file scope is resolved
  pub externals_more : (all : List Outer) → i < length now → ((w : List ℕ) → is_defined (map outer now) w ≡ is_defined file w)
      → own ≡ with_function (map outer now) (outer (get_or now i d)) hs
      → ((f : List Outer) (before : List Declaration) (rest : List Outer) → own ≡ with_function f (outer (get_or now i d)) before
      → outer y ∷ resolved_outers f hs' m rest ≡ resolved_outers f before n (outer (get_or now i d) ∷ rest))
      → listed outer (resolved_outers file hs n) now i ≡ all → listed outer (resolved_outers file hs' m) (slice_set now i y) (i + 1) ≡ all
  externals_more all lt same declares step h =
      let here : own ≡ with_function file (outer (get_or now i d)) hs =
      declares ∙ with_function-same (map outer now) file (outer (get_or now i d)) hs same in
      listed_more outer (resolved_outers file hs n) (resolved_outers file hs' m) now i d y all lt (λ rest. step file hs rest here) h

  -- the file still has the same definitions
  pub externals_defined : i < length now → ((w : List ℕ) → is_defined (map outer now) w ≡ is_defined file w)
      → own ≡ with_function (map outer now) (outer (get_or now i d)) hs
      → ((f : List Outer) (before : List Declaration) (rest : List Outer) → own ≡ with_function f (outer (get_or now i d)) before
      → outer y ∷ resolved_outers f hs' m rest ≡ resolved_outers f before n (outer (get_or now i d) ∷ rest))
      → (w : List ℕ) → is_defined (map outer (slice_set now i y)) w ≡ is_defined file w
  externals_defined lt same declares step w =
      defined_set now i d y w lt (defined_more (map outer now) hs n (outer (get_or now i d)) (outer y) (step (map outer now) hs [] declares) w) ∙ same w

-- all that stands at file scope is resolved
pub externals_all : (file : List Outer) (hs : List Declaration) (n : ℕ) (now : List External) (i : ℕ) (all : List Outer) → length now ≤ i
    → listed outer (resolved_outers file hs n) now i ≡ all → map outer now ≡ all
externals_all file hs n now i all le h = listed_all outer (resolved_outers file hs n) refl now i all le h

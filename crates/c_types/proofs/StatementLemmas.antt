-- Declarators and items of blocks one by one.
use Rattle.std.proofs.Common.{◌≡◌, ℕ, suc, ◌+◌, ◌<◌, Bool, List, [], ◌∷◌, ◌++◌, get_or, length, drop, sym, ap, ◌∙◌, add-one, drop-cons, Option, Vec, Global}
use Rattle.c_tree.specs.declared.stmt.Declarator.{Declarator}
use Rattle.c_tree.specs.declared.stmt.Item.{Item}
use Rattle.c_tree.specs.declared.stmt.Stmt.{Stmt}
use Rattle.c_tree.specs.declared.stmt.StmtNode.{StmtNode}
use Rattle.c_tree.specs.declared.stmt.StmtNode.TheVariants.{Block}
use Rattle.c_tree.specs.declared.stmt.Ty.{Ty}
use Rattle.c_tree.specs.Tree.{Variable, Body}
use Rattle.c_tree.specs.Views.{variable, variables, code, node_code, body_of, with_item}
use Rattle.c_tree.proofs.ViewsLemmas.{node-Block}
use Rattle.c_types.specs.declared.fault.Fault.{Fault}
use Rattle.c_types.specs.declared.scope.Declaration.{Declaration}
use Rattle.c_types.specs.declared.scope.Storage.{Storage}
use Rattle.c_types.specs.Constants.{constant_faults}
use Rattle.c_types.specs.Least.{least, earlier, fault_if}
use Rattle.c_types.specs.Scopes.{is_declared}
use Rattle.c_types.specs.Statements.{length_faults, initial_faults, variable_declaration, declared, variable_faults, variables_faults, code_faults, body_faults}
use Rattle.c_types.specs.declared.fault.FaultKind.TheVariants.{Twice}
use Rattle.c_types.proofs.LeastLemmas.{more_from, step_by, joined}

-- one more declarator was looked at
pub variables_more : (storage : Storage) (here next around at : List Declaration) (ty : Ty) (ds : List Declarator) (i : ℕ) (d : Declarator) (all before now after : Option Fault)
    → i < length ds → d ≡ get_or ds i d → at ≡ around → now ≡ least (variable_faults storage here at ty (variable d)) → next ≡ variable_declaration ty (variable d) ∷ here
    → after ≡ earlier before now
    → all ≡ earlier before (least (variables_faults storage here around ty (variables (drop i ds))))
    → all ≡ earlier after (least (variables_faults storage next around ty (variables (drop (i + 1) ds))))
variables_more storage here next around at ty ds i d all before now after lt is same now_is next_is joined so_far =
    more_from (λ (xs : List Declarator). least (variables_faults storage here around ty (variables xs))) (λ (xs : List Declarator). least (variables_faults storage next around ty (variables xs))) ds i d all before now after lt is
    (step_by (variable_faults storage here around ty (variable d)) (variables_faults storage (variable_declaration ty (variable d) ∷ here) around ty (variables (drop (suc i) ds))) now
    (now_is ∙ ap (λ (ks : List Declaration). least (variable_faults storage here ks ty (variable d))) same)
    ∙ ap (λ (ks : List Declaration). earlier now (least (variables_faults storage ks around ty (variables (drop (suc i) ds))))) (sym next_is))
    joined so_far

-- one more declarator is in scope
pub declared_more : (all here next : List Declaration) (ty : Ty) (ds : List Declarator) (i : ℕ) (d : Declarator)
    → i < length ds → d ≡ get_or ds i d → next ≡ variable_declaration ty (variable d) ∷ here
    → all ≡ declared ty (variables (drop i ds)) here → all ≡ declared ty (variables (drop (i + 1) ds)) next
declared_more all here next ty ds i d lt is next_is so_far =
    let front : drop i ds ≡ d ∷ drop (suc i) ds = drop-cons ds i d lt ∙ ap (λ (z : Declarator). z ∷ drop (suc i) ds) (sym is) in
    rw add-one (so_far ∙ ap (λ (xs : List Declarator). declared ty (variables xs) here) front ∙ ap (declared ty (variables (drop (suc i) ds))) (sym next_is))

-- one more item was looked at
pub items_more : (ret : Option Ty) (in_loop : Bool) (here next around at : List Declaration) (items : List Item) (i : ℕ) (x : Item) (all before now after : Option Fault)
    → i < length items → x ≡ get_or items i x → at ≡ around
    → ((rest : Body) → least (body_faults ret here at in_loop (with_item x rest)) ≡ earlier now (least (body_faults ret next at in_loop rest)))
    → after ≡ earlier before now
    → all ≡ earlier before (least (body_faults ret here around in_loop (body_of (drop i items))))
    → all ≡ earlier after (least (body_faults ret next around in_loop (body_of (drop (i + 1) items))))
items_more ret in_loop here next around at items i x all before now after lt is same step joined so_far =
    let rest = body_of (drop (suc i) items) in
    more_from (λ (xs : List Item). least (body_faults ret here around in_loop (body_of xs))) (λ (xs : List Item). least (body_faults ret next around in_loop (body_of xs))) items i x all before now after lt is
    (ap (λ (ks : List Declaration). least (body_faults ret here ks in_loop (with_item x rest))) (sym same) ∙ step rest ∙ ap (λ (ks : List Declaration). earlier now (least (body_faults ret next ks in_loop rest))) same)
    joined so_far

-- the faults of a block are those of its items, in a new scope
pub block_faults : (ret : Option Ty) (in_loop : Bool) (ks here around : List Declaration) (st : Stmt) (items : Vec Item Global) (xs : List Item)
    → st.node ≡ Block items → here ≡ [] → around ≡ ks → xs ≡ items.items
    → least (body_faults ret here around in_loop (body_of xs)) ≡ least (code_faults ret ks in_loop (code st))
block_faults ret in_loop ks here around st items xs is none same xs_is =
    ap (λ (h : List Declaration). least (body_faults ret h around in_loop (body_of xs))) none ∙ ap (λ (o : List Declaration). least (body_faults ret [] o in_loop (body_of xs))) same
    ∙ ap (λ (ys : List Item). least (body_faults ret [] ks in_loop (body_of ys))) xs_is
    ∙ sym (ap (λ b. least (code_faults ret ks in_loop b)) (node-Block items st.span)) ∙ sym (ap (λ (n : StmtNode). least (code_faults ret ks in_loop (node_code n st.span))) is)

-- the faults of a declarator are those of its four parts
pub variable_joined : (storage : Storage) (here around next at : List Declaration) (ty : Ty) (v : Variable) (a b c d cd bcd r : Option Fault)
    → next ≡ variable_declaration ty v ∷ here → at ≡ around
    → a ≡ least (fault_if (is_declared here v.word) Twice v.span) → b ≡ least (length_faults v.shape v.start v.span)
    → c ≡ least (initial_faults (next ++ at) v.start) → d ≡ least (constant_faults storage v.start)
    → cd ≡ earlier c d → bcd ≡ earlier b cd → r ≡ earlier a bcd → r ≡ least (variable_faults storage here around ty v)
variable_joined storage here around next at ty v a b c d cd bcd r next_is same a_is b_is c_is d_is cd_is bcd_is r_is =
    let c_in : c ≡ least (initial_faults (variable_declaration ty v ∷ (here ++ around)) v.start) =
    c_is ∙ ap (λ (ks : List Declaration). least (initial_faults (ks ++ at) v.start)) next_is ∙ ap (λ (ks : List Declaration). least (initial_faults (variable_declaration ty v ∷ (here ++ ks)) v.start)) same in
    let C = initial_faults (variable_declaration ty v ∷ (here ++ around)) v.start in let D = constant_faults storage v.start in let B = length_faults v.shape v.start v.span in
    joined (fault_if (is_declared here v.word) Twice v.span) (B ++ (C ++ D)) a bcd r r_is a_is (joined B (C ++ D) b cd bcd bcd_is b_is (joined C D c d cd cd_is c_in d_is))

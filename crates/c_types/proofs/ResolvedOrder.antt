-- The spans of a program are in text order after resolving as they are before.
use Rattle.std.proofs.Common.{ℕ, suc, ◌+◌, List, [], ◌∷◌, ◌++◌, map, length, Option}
use Rattle.c_tree.specs.declared.program.Param.{Param}
use Rattle.c_tree.specs.declared.stmt.Slot.{Slot}
use Rattle.c_tree.specs.declared.stmt.Ty.{Ty}
use Rattle.c_tree.specs.Order as order
use Rattle.c_tree.specs.Order.{TreeIn, ArgsIn, TreesIn, OptionIn, InitialIn, VariablesIn, FirstIn, CodeIn, BodyIn, ParamsIn, DefinitionIn, OuterIn, ProgramIn}
use Rattle.c_tree.specs.Tree.{Tree, Args, Initial, Variable, First, Code, Body, Outer}
use Rattle.c_types.specs.declared.scope.Declaration.{Declaration}
use Rattle.c_types.specs.declared.scope.Storage.TheVariants.{Static, Automatic}
use Rattle.c_types.specs.Library.{library}
use Rattle.c_types.specs.Programs.{function_declaration, params_declared}
use Rattle.c_types.specs.Slots.{first_count, code_count, slot_in, numbered_variable, numbered, numbered_params, resolved_tree, resolved_args, resolved_option, resolved_initial, resolved_variables, numbered_first, resolved_first, resolved_code, resolved_body, resolved_definition, resolved_outers, resolved}
use Rattle.c_types.specs.Statements.{variable_declaration, declared, first_declared}

module _ (ds : List Declaration) where
  mutual
    tree-order : {from to : ℕ} {e : Tree} → TreeIn from to e → TreeIn from to (resolved_tree ds e)
    tree-order (order.constant w) = order.constant w
    tree-order (order.name w) = order.name w
    tree-order (order.index w h) = order.index w (tree-order h)
    tree-order (order.call w h) = order.call w (args-order h)
    tree-order (order.unary w h) = order.unary w (tree-order h)
    tree-order (order.cast w h) = order.cast w (tree-order h)
    tree-order (order.binary w a b) = order.binary w (tree-order a) (tree-order b)
    tree-order (order.choice w t a b) = order.choice w (tree-order t) (tree-order a) (tree-order b)
    tree-order (order.assign w p e) = order.assign w (tree-order p) (tree-order e)
    tree-order (order.bump w h) = order.bump w (tree-order h)
    tree-order (order.comma w a b) = order.comma w (tree-order a) (tree-order b)

    args-order : {from to : ℕ} {x : Args} → ArgsIn from to x → ArgsIn from to (resolved_args ds x)
    args-order (order.no_args le) = order.no_args le
    args-order (order.value e x) = order.value (tree-order e) (args-order x)
    args-order (order.format w x) = order.format w (args-order x)
    args-order (order.address e x) = order.address (tree-order e) (args-order x)

  trees-order : {from to : ℕ} {es : List Tree} → TreesIn from to es → TreesIn from to (map (resolved_tree ds) es)
  trees-order (order.none le) = order.none le
  trees-order (order.more e es) = order.more (tree-order e) (trees-order es)

  option-order : {from to : ℕ} {o : Option Tree} → OptionIn from to o → OptionIn from to (resolved_option ds o)
  option-order (order.absent le) = order.absent le
  option-order (order.present e) = order.present (tree-order e)

  initial-order : {from to : ℕ} {start : Initial} → InitialIn from to start → InitialIn from to (resolved_initial ds start)
  initial-order (order.bare le) = order.bare le
  initial-order (order.one e) = order.one (tree-order e)
  initial-order (order.many es) = order.many (trees-order es)

variables-order : (slot : ℕ → Slot) (here around : List Declaration) (ty : Ty) (n : ℕ) {from to : ℕ} {vs : List Variable}
    → VariablesIn from to vs → VariablesIn from to (resolved_variables here around ty (numbered slot n vs))
variables-order slot here around ty n (order.none le) = order.none le
variables-order slot here around ty n (order.more {v = v} w start rest) =
    let d = variable_declaration ty (numbered_variable (slot n) v) in
    order.more w (initial-order (d ∷ (here ++ around)) start) (variables-order slot (d ∷ here) around ty (suc n) rest)

first-order : (ds : List Declaration) (n : ℕ) {from to : ℕ} {f : First} → FirstIn from to f → FirstIn from to (resolved_first ds (numbered_first n f))
first-order ds n (order.none le) = order.none le
first-order ds n (order.act e) = order.act (tree-order ds e)
first-order ds n (order.vars {ty = ty} vs) = order.vars (variables-order (slot_in Automatic) [] ds ty n vs)

mutual
  code-order : (ds : List Declaration) (n : ℕ) {from to : ℕ} {c : Code} → CodeIn from to c → CodeIn from to (resolved_code ds n c)
  code-order ds n (order.empty w) = order.empty w
  code-order ds n (order.act w e) = order.act w (tree-order ds e)
  code-order ds n (order.block w b) = order.block w (body-order [] ds n b)
  code-order ds n (order.if_then w t a) = order.if_then w (tree-order ds t) (code-order ds n a)
  code-order ds n (order.if_else {a = c} w t a b) = order.if_else w (tree-order ds t) (code-order ds n a) (code-order ds (n + code_count c) b)
  code-order ds n (order.while w t a) = order.while w (tree-order ds t) (code-order ds n a)
  code-order ds n (order.do_while w a t) = order.do_while w (code-order ds n a) (tree-order ds t)
  code-order ds n (order.for {i = f} w h t u a) =
      let all = first_declared (numbered_first n f) ++ ds in
      order.for w (first-order ds n h) (option-order all t) (option-order all u) (code-order all (n + first_count f) a)
  code-order ds n (order.give w e) = order.give w (option-order ds e)
  code-order ds n (order.break w) = order.break w
  code-order ds n (order.continue w) = order.continue w

  body-order : (here around : List Declaration) (n : ℕ) {from to : ℕ} {b : Body} → BodyIn from to b → BodyIn from to (resolved_body here around n b)
  body-order here around n (order.done le) = order.done le
  body-order here around n (order.next {a = c} a rest) = order.next (code-order (here ++ around) n a) (body-order here around (n + code_count c) rest)
  body-order here around n (order.vars {ty = ty} {vs = vs} h rest) =
      order.vars (variables-order (slot_in Automatic) here around ty n h)
      (body-order (declared ty (numbered (slot_in Automatic) n vs) here) around (n + length vs) rest)

definition-order : (here around : List Declaration) (n : ℕ) {from to : ℕ} {b : Option Body} → DefinitionIn from to b → DefinitionIn from to (resolved_definition here around n b)
definition-order here around n (order.absent le) = order.absent le
definition-order here around n (order.present b) = order.present (body-order here around n b)

params-order : (n : ℕ) {from to : ℕ} {ps : List Param} → ParamsIn from to ps → ParamsIn from to (numbered_params n ps)
params-order n (order.none le) = order.none le
params-order n (order.more w rest) = order.more w (params-order (suc n) rest)

outers-order : (file : List Outer) (here : List Declaration) (n : ℕ) {from to : ℕ} {p : List Outer} → ProgramIn from to p → ProgramIn from to (resolved_outers file here n p)
outers-order file here n (order.none le) = order.none le
outers-order file here n (order.more (order.vars {ty = ty} {vs = vs} h) rest) =
    order.more (order.vars (variables-order (slot_in Static) here [] ty n h))
    (outers-order file (declared ty (numbered (slot_in Static) n vs) here) (n + length vs) rest)
outers-order file here n (order.more (order.func {f = f} w ps b) rest) =
    let d = function_declaration file f in
    order.more (order.func w (params-order 0 ps) (definition-order (params_declared (numbered_params 0 f.params) []) (d ∷ here) (length f.params) b))
    (outers-order file (d ∷ here) n rest)

-- a program in text order is so once it is resolved
pub program-order : (from to : ℕ) (p : List Outer) → ProgramIn from to p → ProgramIn from to (resolved p)
program-order from to p h = outers-order p library 0 h

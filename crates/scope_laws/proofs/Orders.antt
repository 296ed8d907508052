-- The text of a part lies between the places that the part does.
use Rattle.std.proofs.Common.{ℕ, ◌≤◌, List, Option, arith}
use Rattle.c_tree.specs.declared.place.Span.{Span}
use Rattle.c_tree.specs.declared.program.Param.{Param}
use Rattle.c_tree.specs.Order as order
use Rattle.c_tree.specs.Order.{Within, TreeIn, ArgsIn, TreesIn, OptionIn, InitialIn, VariablesIn, FirstIn, CodeIn, BodyIn, ParamsIn, DefinitionIn, OuterIn, ProgramIn}
use Rattle.c_tree.specs.Parts.{span_of, span_of_code}
use Rattle.c_tree.specs.Tree.{Tree, Args, Initial, Variable, First, Code, Body, Outer}

-- a text lies between its own ends
pub own_text : {i j : ℕ} {s : Span} → Within i j s → Within s.from s.to s
own_text w = record { begins = omega arith; covers = w.covers; ends = omega arith }

pub tree_text : {i j : ℕ} {e : Tree} → TreeIn i j e → Within i j (span_of e)
tree_text (order.constant w) = w
tree_text (order.name w) = w
tree_text (order.index w x) = w
tree_text (order.call w x) = w
tree_text (order.unary w x) = w
tree_text (order.cast w x) = w
tree_text (order.binary w x y) = w
tree_text (order.choice w x y z) = w
tree_text (order.assign w x y) = w
tree_text (order.bump w x) = w
tree_text (order.comma w x y) = w

pub tree_own : {i j : ℕ} {e : Tree} → TreeIn i j e → TreeIn (span_of e).from (span_of e).to e
tree_own (order.constant w) = order.constant (own_text w)
tree_own (order.name w) = order.name (own_text w)
tree_own (order.index w x) = order.index (own_text w) x
tree_own (order.call w x) = order.call (own_text w) x
tree_own (order.unary w x) = order.unary (own_text w) x
tree_own (order.cast w x) = order.cast (own_text w) x
tree_own (order.binary w x y) = order.binary (own_text w) x y
tree_own (order.choice w x y z) = order.choice (own_text w) x y z
tree_own (order.assign w x y) = order.assign (own_text w) x y
tree_own (order.bump w x) = order.bump (own_text w) x
tree_own (order.comma w x y) = order.comma (own_text w) x y

pub code_text : {i j : ℕ} {c : Code} → CodeIn i j c → Within i j (span_of_code c)
code_text (order.empty w) = w
code_text (order.act w x) = w
code_text (order.block w b) = w
code_text (order.if_then w t a) = w
code_text (order.if_else w t a b) = w
code_text (order.while w t a) = w
code_text (order.do_while w a t) = w
code_text (order.for w i t u a) = w
code_text (order.give w e) = w
code_text (order.break w) = w
code_text (order.continue w) = w

pub code_own : {i j : ℕ} {c : Code} → CodeIn i j c → CodeIn (span_of_code c).from (span_of_code c).to c
code_own (order.empty w) = order.empty (own_text w)
code_own (order.act w x) = order.act (own_text w) x
code_own (order.block w b) = order.block (own_text w) b
code_own (order.if_then w t a) = order.if_then (own_text w) t a
code_own (order.if_else w t a b) = order.if_else (own_text w) t a b
code_own (order.while w t a) = order.while (own_text w) t a
code_own (order.do_while w a t) = order.do_while (own_text w) a t
code_own (order.for w i t u a) = order.for (own_text w) i t u a
code_own (order.give w e) = order.give (own_text w) e
code_own (order.break w) = order.break (own_text w)
code_own (order.continue w) = order.continue (own_text w)

-- no part ends before it begins
pub text_le : {i j : ℕ} {s : Span} → Within i j s → i ≤ j
text_le w = omega (arith, w.begins, w.covers, w.ends)

pub tree_le : {i j : ℕ} {e : Tree} → TreeIn i j e → i ≤ j
tree_le x = text_le (tree_text x)

pub args_le : {i j : ℕ} {x : Args} → ArgsIn i j x → i ≤ j
args_le (order.no_args h) = h
args_le (order.value x rest) = omega (arith, tree_le x, args_le rest)
args_le (order.format w rest) = omega (arith, text_le w, args_le rest)
args_le (order.address x rest) = omega (arith, tree_le x, args_le rest)

pub trees_le : {i j : ℕ} {es : List Tree} → TreesIn i j es → i ≤ j
trees_le (order.none h) = h
trees_le (order.more x rest) = omega (arith, tree_le x, trees_le rest)

pub option_le : {i j : ℕ} {o : Option Tree} → OptionIn i j o → i ≤ j
option_le (order.absent h) = h
option_le (order.present x) = tree_le x

pub initial_le : {i j : ℕ} {start : Initial} → InitialIn i j start → i ≤ j
initial_le (order.bare h) = h
initial_le (order.one x) = tree_le x
initial_le (order.many xs) = trees_le xs

pub variables_le : {i j : ℕ} {vs : List Variable} → VariablesIn i j vs → i ≤ j
variables_le (order.none h) = h
variables_le (order.more w start rest) = omega (arith, text_le w, variables_le rest)

pub first_le : {i j : ℕ} {f : First} → FirstIn i j f → i ≤ j
first_le (order.none h) = h
first_le (order.act x) = tree_le x
first_le (order.vars vs) = variables_le vs

pub code_le : {i j : ℕ} {c : Code} → CodeIn i j c → i ≤ j
code_le x = text_le (code_text x)

pub body_le : {i j : ℕ} {b : Body} → BodyIn i j b → i ≤ j
body_le (order.done h) = h
body_le (order.next a rest) = omega (arith, code_le a, body_le rest)
body_le (order.vars vs rest) = omega (arith, variables_le vs, body_le rest)

pub params_le : {i j : ℕ} {ps : List Param} → ParamsIn i j ps → i ≤ j
params_le (order.none h) = h
params_le (order.more w rest) = omega (arith, text_le w, params_le rest)

pub definition_le : {i j : ℕ} {d : Option Body} → DefinitionIn i j d → i ≤ j
definition_le (order.absent h) = h
definition_le (order.present b) = body_le b

pub outer_le : {i j : ℕ} {o : Outer} → OuterIn i j o → i ≤ j
outer_le (order.vars vs) = variables_le vs
outer_le (order.func w ps d) = text_le w

pub program_le : {i j : ℕ} {p : List Outer} → ProgramIn i j p → i ≤ j
program_le (order.none h) = h
program_le (order.more x rest) = omega (arith, outer_le x, program_le rest)

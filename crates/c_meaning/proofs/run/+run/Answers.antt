use Rattle.std.proofs.Common.{rules, ◌≡◌, ◌<◌, ◌+◌, ◌-◌, ◌∙◌, ◌++◌, ◌∷◌, [], drop, map, Option, Some, None, sym, ap, arith}
use Rattle.std.specs.Option.{option_map}
use Rattle.c_tree.specs.declared.stmt.Stmt.{Stmt}
use Rattle.c_tree.specs.declared.stmt.StmtNode.{StmtNode}
use Rattle.c_tree.specs.declared.stmt.Item.{Item}
use Rattle.c_tree.specs.Tree.{done}
use Rattle.c_tree.specs.Views.{tree, args_of, with_arg, code, node_code, first, with_item, variables, tree_option, outer, function as function_tree, body_of}
use Rattle.c_meaning.specs.declared.stop.Flow.{Flow}
use Rattle.c_meaning.specs.World.{going, used, and_then}
use Rattle.c_meaning.specs.Meaning.{eval, exec, evals, run_body, bind_params, rest_of, looping, turn_of_while, turn_test_first, turn_body_first, test_of, step_of, run_for, result_of, user_call, calls, no_hole}
use Rattle.c_meaning.proofs.Falls.{looping-turn}
use Rattle.c_meaning.proofs.Trees.{call_is, block_is}
use Rattle.c_meaning.proofs.Lists.{with_prefix, rest_args, one_argument, no_argument_given}
use Rattle.c_meaning.proofs.Sizes.{weight, variables_weight, code_weight, body_weight, function_weight, bound, arg_weight, item_weight, element_weight, declarator_weight, definition_below, entry_falls}
use Rattle.c_meaning.proofs.Turns.{while_turn, do_turn, for_turn, loop_goes}
use Rattle.c_meaning.proofs.Callings.{user_stops, user_missing, user_bodyless, user_starts, restored, inside, goes_into, call_gives, after_call}
use Rattle.c_meaning.proofs.run.+run.Goals as goal

pub eval-call-requires : goal.eval-call-requires
eval-call-requires t c = let size = ap weight (call_is c.args.e.now c.in-Call.word c.in-Call.args c.deref-in-Call.result.now c.in-Call.is c.deref-in-Call.ensures.value) in (omega (arith, size, c.decreases), tt)

pub eval-returns-in-Call : goal.eval-returns-in-Call
eval-returns-in-Call t c = rw (call_is c.args.e.now c.in-Call.word c.in-Call.args c.deref-in-Call.result.now c.in-Call.is c.deref-in-Call.ensures.value) (search rules)

pub call-call_function-requires : goal.call-call_function-requires
call-call_function-requires t c =
    let P = map outer c.args.context.now.externals.now in
    let below = definition_below P c.args.word.now in
    let same = ap function_weight c.definition-function.ensures in
    let size = entry_falls c.args.context.now.left (bound P) (function_weight (option_map (λ f. function_tree f.now) c.definition-function.result)) (omega arith) in
    (omega (arith, size, c.decreases), tt)

pub eval_args-argument-requires : goal.eval_args-argument-requires
eval_args-argument-requires t c = let size = arg_weight c.args.args.now c.loop-arg.arg-index c.arg-item.result (omega arith) c.arg-item.is in (omega (arith, size, c.decreases), tt)

pub eval_args-returns-in_err-argument : goal.eval_args-returns-in_err-argument
eval_args-returns-in_err-argument t c =
    let P = map outer c.args.context.now.externals.now in
    let k = calls no_hole P c.args.context.now.left in
    let step = rest_args c.args.args.now c.loop-arg.arg-index c.arg-item.result (omega arith) c.arg-item.is in
    let whole : evals no_hole P k c.args.params.now (args_of c.args.args.now) c.args.state.now ≡ with_prefix c.loop-arg.arguments.items (evals no_hole P k c.loop-arg.rest.now (with_arg c.arg-item.result (args_of (drop (c.loop-arg.arg-index + 1) c.args.args.now)))) c.loop-arg.state =
    c.loop-arg.invariant ∙ ap (λ z. with_prefix c.loop-arg.arguments.items (evals no_hole P k c.loop-arg.rest.now z) c.loop-arg.state) step in
    rw whole (search (rules, no_argument_given))

pub eval_args-loop-arg-preserved : goal.eval_args-loop-arg-preserved
eval_args-loop-arg-preserved t c =
    let P = map outer c.args.context.now.externals.now in
    let k = calls no_hole P c.args.context.now.left in
    let gs = c.loop-arg.arguments.items in
    let a = c.in_ok-argument.field-0 in
    let rest = args_of (drop (c.loop-arg.arg-index + 1) c.args.args.now) in
    let y = c.argument.new.state in
    let step = rest_args c.args.args.now c.loop-arg.arg-index c.arg-item.result (omega arith) c.arg-item.is in
    let push : c.push.new.self.items ≡ gs ++ a ∷ [] = search rules in
    c.loop-arg.invariant
    ∙ ap (λ z. with_prefix gs (evals no_hole P k c.loop-arg.rest.now z) c.loop-arg.state) step
    ∙ one_argument no_hole P k c.loop-arg.rest.now c.arg-item.result rest gs a c.loop-arg.state y c.in_ok-argument.ensures
    ∙ ap (λ z. with_prefix z (evals no_hole P k (rest_of c.loop-arg.rest.now) rest) y) (sym push)
    ∙ ap (λ ps. with_prefix c.push.new.self.items (evals no_hole P k ps rest) y) (sym c.rest_of-rest.ensures)

pub call_function-returns-then-context-eq0 : goal.call_function-returns-then-context-eq0
call_function-returns-then-context-eq0 t c = user_stops (map outer c.args.context.now.externals.now) c.args.context.now.left _ c.args.arguments.now c.args.state.now c.if-context-eq0.true

pub call_function-returns-in_default : goal.call_function-returns-in_default
call_function-returns-in_default t c =
    let some : 0 < c.args.context.now.left = omega arith in
    let none : option_map (λ f. function_tree f.now) c.args.function ≡ None = search rules in
    user_missing (map outer c.args.context.now.externals.now) c.args.context.now.left _ c.args.arguments.now c.args.state.now some none

pub call_function-returns-in_default-body : goal.call_function-returns-in_default-body
call_function-returns-in_default-body t c =
    let some : 0 < c.args.context.now.left = omega arith in
    let f = function_tree c.in-Some.function.now in
    let is : option_map (λ f. function_tree f.now) c.args.function ≡ Some f = search rules in
    let none : f.body ≡ None = search rules in
    rw is (user_bodyless (map outer c.args.context.now.externals.now) c.args.context.now.left f c.args.arguments.now c.args.state.now some none)

pub call_function-returns-in_err-take_unit : goal.call_function-returns-in_err-take_unit
call_function-returns-in_err-take_unit t c =
    let some : 0 < c.args.context.now.left = omega arith in
    let f = function_tree c.in-Some.function.now in
    let is : option_map (λ f. function_tree f.now) c.args.function ≡ Some f = search rules in
    let has : f.body ≡ Some (body_of c.in-Some-body.body.items) = search rules in
    rw (is, user_starts (map outer c.args.context.now.externals.now) c.args.context.now.left f (body_of c.in-Some-body.body.items) c.args.arguments.now c.args.state.now some has) (search rules)

pub call_function-returns-in_err-bind_params : goal.call_function-returns-in_err-bind_params
call_function-returns-in_err-bind_params t c =
    let P = map outer c.args.context.now.externals.now in
    let some : 0 < c.args.context.now.left = omega arith in
    let f = function_tree c.in-Some.function.now in
    let body = body_of c.in-Some-body.body.items in
    let gs = c.args.arguments.now in
    let x = c.take_unit.new.self in
    let y = c.swap-outer.new.self in
    let is : option_map (λ f. function_tree f.now) c.args.function ≡ Some f = search rules in
    let has : f.body ≡ Some body = search rules in
    let frame : y ≡ record x { frame = [] } = c.swap-outer.ensures.new ∙ ap (λ z. record x { frame = z }) c.new.ensures.items in
    let whole = inside P c.args.context.now.left f body gs c.args.state.now x y some has c.in_ok-take_unit.ensures frame
    ∙ ap (λ ps. and_then (and_then (bind_params ps gs y) (λ u. run_body no_hole P (calls no_hole P (c.args.context.now.left - 1)) body)) (λ flow z. going (result_of f flow) (restored x z))) (sym c.deref.ensures.value) in
    rw (is, whole) (search rules)

pub call_function-returns-in_err-flow : goal.call_function-returns-in_err-flow
call_function-returns-in_err-flow t c =
    let P = map outer c.args.context.now.externals.now in
    let some : 0 < c.args.context.now.left = omega arith in
    let f = function_tree c.in-Some.function.now in
    let body = body_of c.in-Some-body.body.items in
    let gs = c.args.arguments.now in
    let x = c.take_unit.new.self in
    let y = c.swap-outer.new.self in
    let is : option_map (λ f. function_tree f.now) c.args.function ≡ Some f = search rules in
    let has : f.body ≡ Some body = search rules in
    let frame : y ≡ record x { frame = [] } = c.swap-outer.ensures.new ∙ ap (λ z. record x { frame = z }) c.new.ensures.items in
    let z = c.bind_params.new.state in
    let bound : bind_params f.params gs y ≡ going tt z = ap (λ ps. bind_params ps gs y) (sym c.deref.ensures.value) ∙ c.in_ok-bind_params.ensures in
    let whole = goes_into P c.args.context.now.left f body gs c.args.state.now x y some has c.in_ok-take_unit.ensures frame z bound
    ∙ ap (λ items. and_then (run_body no_hole P (calls no_hole P (c.args.context.now.left - 1)) (body_of items) z) (λ flow z. going (result_of f flow) (restored x z))) (sym c.deref-2.ensures.value) in
    rw (is, whole) (search rules)

pub call_function-returns : goal.call_function-returns
call_function-returns t c =
    let P = map outer c.args.context.now.externals.now in
    let some : 0 < c.args.context.now.left = omega arith in
    let f = function_tree c.in-Some.function.now in
    let body = body_of c.in-Some-body.body.items in
    let gs = c.args.arguments.now in
    let x = c.take_unit.new.self in
    let y = c.swap-outer.new.self in
    let is : option_map (λ f. function_tree f.now) c.args.function ≡ Some f = search rules in
    let has : f.body ≡ Some body = search rules in
    let frame : y ≡ record x { frame = [] } = c.swap-outer.ensures.new ∙ ap (λ z. record x { frame = z }) c.new.ensures.items in
    let z = c.bind_params.new.state in
    let bound : bind_params f.params gs y ≡ going tt z = ap (λ ps. bind_params ps gs y) (sym c.deref.ensures.value) ∙ c.in_ok-bind_params.ensures in
    let v = c.run_items.new.state in
    let ran : run_body no_hole P (calls no_hole P (c.args.context.now.left - 1)) body z ≡ going c.in_ok-flow.flow v = ap (λ items. run_body no_hole P (calls no_hole P (c.args.context.now.left - 1)) (body_of items) z) (sym c.deref-2.ensures.value) ∙ c.in_ok-flow.ensures in
    ap (λ o. user_call no_hole P c.args.context.now.left o gs c.args.state.now) is
    ∙ call_gives P c.args.context.now.left f body gs c.args.state.now x y some has c.in_ok-take_unit.ensures frame c.in_ok-flow.flow z v bound ran
    ∙ ap (λ r. going r (restored x v)) (sym c.result_of.ensures)
    ∙ ap (λ q. going c.result_of.result q) (after_call x y v c.cut.new.self c.swap-inner.new.self c.object_count-live.result c.swap-outer.result.items frame c.object_count-live.ensures c.cut.ensures c.swap-outer.ensures.old c.swap-inner.ensures.new)

pub declare-declare_local-requires : goal.declare-declare_local-requires
declare-declare_local-requires t c = let size = declarator_weight c.args.declarators.now c.loop-declarator.declarator-index c.declarator-item.result (omega arith) c.declarator-item.is in (omega (arith, size, c.decreases), tt)

pub exec-run_block-requires : goal.exec-run_block-requires
exec-run_block-requires t c = let size = ap code_weight (block_is c.args.statement.now c.in-Block.items c.deref.result.now c.in-Block.is c.deref.ensures.value) in (omega (arith, size, c.decreases), tt)

pub exec-returns-in-Block : goal.exec-returns-in-Block
exec-returns-in-Block t c = rw (block_is c.args.statement.now c.in-Block.items c.deref.result.now c.in-Block.is c.deref.ensures.value) (search rules)

pub exec-returns-in-While : goal.exec-returns-in-While
exec-returns-in-While t c =
    let P = map outer c.args.context.now.externals.now in
    let k = calls no_hole P c.args.context.now.left in
    let loop = λ (b : Stmt). looping (turn_of_while (used (eval no_hole P k (tree c.in-While.test))) (exec no_hole P k (code b))) c.args.state.now in
    let is : exec no_hole P k (code c.args.statement.now) c.args.state.now ≡ loop c.in-While.body.value = ap (λ (n : StmtNode). exec no_hole P k (node_code n c.args.statement.now.span) c.args.state.now) c.in-While.is in
    rw (is, ap loop (sym c.deref-in-While.ensures)) (search rules)

pub exec-returns-in-For : goal.exec-returns-in-For
exec-returns-in-For t c =
    let P = map outer c.args.context.now.externals.now in
    let k = calls no_hole P c.args.context.now.left in
    let loop = λ (b : Stmt). run_for no_hole P k (first c.in-For.init) (tree_option c.in-For.test) (tree_option c.in-For.step) (exec no_hole P k (code b)) c.args.state.now in
    let is : exec no_hole P k (code c.args.statement.now) c.args.state.now ≡ loop c.in-For.body.value = ap (λ (n : StmtNode). exec no_hole P k (node_code n c.args.statement.now.span) c.args.state.now) c.in-For.is in
    rw (is, ap loop (sym c.deref-in-For.ensures)) (search rules)

pub run_items-declare-requires : goal.run_items-declare-requires
run_items-declare-requires t c =
    let size = item_weight c.args.items.now c.loop-item.item-index c.item-item.result (omega arith) c.item-item.is in
    let same = ap (λ (z : Item). body_weight (with_item z done)) c.in-Vars.is in
    let list = ap (λ ds. variables_weight (variables ds)) c.deref.ensures.value in
    (omega (arith, size, same, list, c.decreases), tt)

pub run_items-exec-requires : goal.run_items-exec-requires
run_items-exec-requires t c =
    let size = item_weight c.args.items.now c.loop-item.item-index c.item-item.result (omega arith) c.item-item.is in
    let same = ap (λ (z : Item). body_weight (with_item z done)) c.in-Stmt.is in
    (omega (arith, size, same, c.decreases), tt)

pub store_list-number-requires : goal.store_list-number-requires
store_list-number-requires t c = let size = element_weight c.args.list.now c.loop-at.at c.index-list-at.result (omega arith) c.index-list-at.is in (omega (arith, size, c.decreases), tt)

pub run_while-returns-in_err-flow : goal.run_while-returns-in_err-flow
run_while-returns-in_err-flow t c = rw (c.turns.invariant, looping-turn _ (while_turn (map outer c.args.context.now.externals.now) c.args.context.now.left (tree c.args.test.now) (code c.args.body.now)) c.turns.state) (search rules)

pub run_while-returns-in-Some : goal.run_while-returns-in-Some
run_while-returns-in-Some t c = rw (c.turns.invariant, looping-turn _ (while_turn (map outer c.args.context.now.externals.now) c.args.context.now.left (tree c.args.test.now) (code c.args.body.now)) c.turns.state) (search rules)

pub run_while-turns-smaller : goal.run_while-turns-smaller
run_while-turns-smaller t c =
    let P = map outer c.args.context.now.externals.now in
    let k = calls no_hole P c.args.context.now.left in
    let turn = turn_of_while (used (eval no_hole P k (tree c.args.test.now))) (exec no_hole P k (code c.args.body.now)) in
    let e : turn c.turns.state ≡ going None c.turn_while.new.state = c.in_ok-flow.ensures ∙ ap (λ (o : Option Flow). going o c.turn_while.new.state) c.in-None.is in
    (while_turn P c.args.context.now.left (tree c.args.test.now) (code c.args.body.now)).again c.turns.state c.turn_while.new.state e

pub run_while-turns-preserved : goal.run_while-turns-preserved
run_while-turns-preserved t c =
    let P = map outer c.args.context.now.externals.now in
    let k = calls no_hole P c.args.context.now.left in
    let turn = turn_of_while (used (eval no_hole P k (tree c.args.test.now))) (exec no_hole P k (code c.args.body.now)) in
    let e : turn c.turns.state ≡ going None c.turn_while.new.state = c.in_ok-flow.ensures ∙ ap (λ (o : Option Flow). going o c.turn_while.new.state) c.in-None.is in
    c.turns.invariant ∙ loop_goes turn (while_turn P c.args.context.now.left (tree c.args.test.now) (code c.args.body.now)) c.turns.state c.turn_while.new.state e

pub run_do-returns-in_err-flow : goal.run_do-returns-in_err-flow
run_do-returns-in_err-flow t c = rw (c.turns.invariant, looping-turn _ (do_turn (map outer c.args.context.now.externals.now) c.args.context.now.left (code c.args.body.now) (tree c.args.test.now)) c.turns.state) (search rules)

pub run_do-returns-in-Some : goal.run_do-returns-in-Some
run_do-returns-in-Some t c = rw (c.turns.invariant, looping-turn _ (do_turn (map outer c.args.context.now.externals.now) c.args.context.now.left (code c.args.body.now) (tree c.args.test.now)) c.turns.state) (search rules)

pub run_do-turns-smaller : goal.run_do-turns-smaller
run_do-turns-smaller t c =
    let P = map outer c.args.context.now.externals.now in
    let k = calls no_hole P c.args.context.now.left in
    let turn = turn_body_first (exec no_hole P k (code c.args.body.now)) (used (eval no_hole P k (tree c.args.test.now))) in
    let e : turn c.turns.state ≡ going None c.turn_do.new.state = c.in_ok-flow.ensures ∙ ap (λ (o : Option Flow). going o c.turn_do.new.state) c.in-None.is in
    (do_turn P c.args.context.now.left (code c.args.body.now) (tree c.args.test.now)).again c.turns.state c.turn_do.new.state e

pub run_do-turns-preserved : goal.run_do-turns-preserved
run_do-turns-preserved t c =
    let P = map outer c.args.context.now.externals.now in
    let k = calls no_hole P c.args.context.now.left in
    let turn = turn_body_first (exec no_hole P k (code c.args.body.now)) (used (eval no_hole P k (tree c.args.test.now))) in
    let e : turn c.turns.state ≡ going None c.turn_do.new.state = c.in_ok-flow.ensures ∙ ap (λ (o : Option Flow). going o c.turn_do.new.state) c.in-None.is in
    c.turns.invariant ∙ loop_goes turn (do_turn P c.args.context.now.left (code c.args.body.now) (tree c.args.test.now)) c.turns.state c.turn_do.new.state e

pub run_for-returns-in_err-flow : goal.run_for-returns-in_err-flow
run_for-returns-in_err-flow t c = rw (c.turns.invariant, looping-turn _ (for_turn (map outer c.args.context.now.externals.now) c.args.context.now.left (tree_option c.args.test.now) (tree_option c.args.step.now) (code c.args.body.now)) c.turns.state) (search rules)

pub run_for-returns-in-Some : goal.run_for-returns-in-Some
run_for-returns-in-Some t c = rw (c.turns.invariant, looping-turn _ (for_turn (map outer c.args.context.now.externals.now) c.args.context.now.left (tree_option c.args.test.now) (tree_option c.args.step.now) (code c.args.body.now)) c.turns.state) (search rules)

pub run_for-turns-smaller : goal.run_for-turns-smaller
run_for-turns-smaller t c =
    let P = map outer c.args.context.now.externals.now in
    let k = calls no_hole P c.args.context.now.left in
    let turn = turn_test_first (test_of no_hole P k (tree_option c.args.test.now)) (exec no_hole P k (code c.args.body.now)) (step_of no_hole P k (tree_option c.args.step.now)) in
    let e : turn c.turns.state ≡ going None c.turn_for.new.state = c.in_ok-flow.ensures ∙ ap (λ (o : Option Flow). going o c.turn_for.new.state) c.in-None.is in
    (for_turn P c.args.context.now.left (tree_option c.args.test.now) (tree_option c.args.step.now) (code c.args.body.now)).again c.turns.state c.turn_for.new.state e

pub run_for-turns-preserved : goal.run_for-turns-preserved
run_for-turns-preserved t c =
    let P = map outer c.args.context.now.externals.now in
    let k = calls no_hole P c.args.context.now.left in
    let turn = turn_test_first (test_of no_hole P k (tree_option c.args.test.now)) (exec no_hole P k (code c.args.body.now)) (step_of no_hole P k (tree_option c.args.step.now)) in
    let e : turn c.turns.state ≡ going None c.turn_for.new.state = c.in_ok-flow.ensures ∙ ap (λ (o : Option Flow). going o c.turn_for.new.state) c.in-None.is in
    c.turns.invariant ∙ loop_goes turn (for_turn P c.args.context.now.left (tree_option c.args.test.now) (tree_option c.args.step.now) (code c.args.body.now)) c.turns.state c.turn_for.new.state e

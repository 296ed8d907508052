use Rattle.std.proofs.Common.{◌≡◌, ◌+◌, ◌*◌, drop, map}
use Rattle.std.specs.Option.{option_map}
use Rattle.c_tree.specs.Tree.{no_args}
use Rattle.c_tree.specs.Views.{tree, trees, args_of, with_arg, code, body_of, variables, initial, first, tree_option, outer, function as function_tree}
use Rattle.c_meaning.specs.Meaning.{store_list, looping, no_hole}
use Rattle.c_meaning.specs.Own.{outers, own_calls, own_args, own_list, own_declare, own_items, own_while_turn, own_do_turn, own_for_turn}
use Rattle.c_meaning.proofs.Lists.{with_prefix}
use Rattle.c_meaning.proofs.Sizes.{weight, weights, list_weight, initial_weight, variables_weight, first_weight, option_weight, code_weight, body_weight, function_weight, entry_weight, bound}
use Rattle.c_meaning.proofs.run.+run.Given as goal

-- the arguments so far, and then those that are left
abbrev pub invariant-eval_args-loop-arg : goal.invariant-eval_args-loop-arg
invariant-eval_args-loop-arg l = own_args l.context l.params (args_of l.args) l.fn.state ≡ with_prefix l.arguments.items (own_args l.context l.rest (args_of (drop l.arg-index l.args))) l.state

-- the initialisers that are left
abbrev pub invariant-store_list-loop-at : goal.invariant-store_list-loop-at
invariant-store_list-loop-at l = own_list l.context l.slot (trees l.list) l.fn.state ≡ store_list no_hole (outers l.context) (own_calls l.context) l.slot l.at (trees (drop l.at l.list)) l.state

-- the declarators that are left
abbrev pub invariant-declare-loop-declarator : goal.invariant-declare-loop-declarator
invariant-declare-loop-declarator l = own_declare l.context l.ty (variables l.declarators) l.fn.state ≡ own_declare l.context l.ty (variables (drop l.declarator-index l.declarators)) l.state

-- the items that are left do the rest
abbrev pub invariant-run_items-loop-item : goal.invariant-run_items-loop-item
invariant-run_items-loop-item l = own_items l.context (body_of l.items) l.fn.state ≡ own_items l.context (body_of (drop l.item-index l.items)) l.state

-- the loop does the rest
abbrev pub invariant-run_while-turns : goal.invariant-run_while-turns
invariant-run_while-turns l = let loop = looping (own_while_turn l.context (tree l.test) (code l.body)) in loop l.fn.state ≡ loop l.state

abbrev pub invariant-run_do-turns : goal.invariant-run_do-turns
invariant-run_do-turns l = let loop = looping (own_do_turn l.context (code l.body) (tree l.test)) in loop l.fn.state ≡ loop l.state

abbrev pub invariant-run_for-turns : goal.invariant-run_for-turns
invariant-run_for-turns l = let loop = looping (own_for_turn l.context (tree_option l.test) (tree_option l.step) (code l.body)) in loop l.fn.state ≡ loop l.state

abbrev pub decreases-run_while-turns : goal.decreases-run_while-turns
decreases-run_while-turns l = l.state.units

abbrev pub decreases-run_do-turns : goal.decreases-run_do-turns
decreases-run_do-turns l = l.state.units

abbrev pub decreases-run_for-turns : goal.decreases-run_for-turns
decreases-run_for-turns l = l.state.units

-- the recursion falls in the calls that may still be live, and then in the tree
abbrev pub decreases-eval : goal.decreases-eval
decreases-eval l = l.context.now.left * bound (map outer l.context.now.externals.now) + (weight (tree l.e.now) + 1)

abbrev pub decreases-eval_binary : goal.decreases-eval_binary
decreases-eval_binary l = l.context.now.left * bound (map outer l.context.now.externals.now) + (weight (tree l.left.now) + weight (tree l.right.now) + 6)

abbrev pub decreases-eval_choice : goal.decreases-eval_choice
decreases-eval_choice l = l.context.now.left * bound (map outer l.context.now.externals.now) + (weight (tree l.test.now) + weight (tree l.yes.now) + weight (tree l.no.now) + 6)

abbrev pub decreases-assign : goal.decreases-assign
decreases-assign l = l.context.now.left * bound (map outer l.context.now.externals.now) + (weight (tree l.place.now) + weight (tree l.value.now) + 6)

abbrev pub decreases-update : goal.decreases-update
decreases-update l = l.context.now.left * bound (map outer l.context.now.externals.now) + (weight (tree l.place.now) + weight (tree l.value.now) + 6)

abbrev pub decreases-bump : goal.decreases-bump
decreases-bump l = l.context.now.left * bound (map outer l.context.now.externals.now) + (weight (tree l.place.now) + 6)

abbrev pub decreases-number : goal.decreases-number
decreases-number l = l.context.now.left * bound (map outer l.context.now.externals.now) + (weight (tree l.e.now) + 2)

abbrev pub decreases-index_of : goal.decreases-index_of
decreases-index_of l = l.context.now.left * bound (map outer l.context.now.externals.now) + (weight (tree l.place.now) + 3)

abbrev pub decreases-call : goal.decreases-call
decreases-call l = l.context.now.left * bound (map outer l.context.now.externals.now) + (weights (args_of l.args.now) + 6)

abbrev pub decreases-arguments_for : goal.decreases-arguments_for
decreases-arguments_for l = l.context.now.left * bound (map outer l.context.now.externals.now) + (weights (args_of l.args.now) + 5)

abbrev pub decreases-eval_args : goal.decreases-eval_args
decreases-eval_args l = l.context.now.left * bound (map outer l.context.now.externals.now) + (weights (args_of l.args.now) + 4)

abbrev pub decreases-argument : goal.decreases-argument
decreases-argument l = l.context.now.left * bound (map outer l.context.now.externals.now) + (weights (with_arg l.arg.now no_args) + 2)

abbrev pub decreases-call_function : goal.decreases-call_function
decreases-call_function l = entry_weight l.context.now.left (bound (map outer l.context.now.externals.now)) (function_weight (option_map (λ f. function_tree f.now) l.function))

abbrev pub decreases-perform : goal.decreases-perform
decreases-perform l = l.context.now.left * bound (map outer l.context.now.externals.now) + (weight (tree l.e.now) + 2)

abbrev pub decreases-store_list : goal.decreases-store_list
decreases-store_list l = l.context.now.left * bound (map outer l.context.now.externals.now) + (list_weight (trees l.list.now) + 3)

abbrev pub decreases-declare_object : goal.decreases-declare_object
decreases-declare_object l = l.context.now.left * bound (map outer l.context.now.externals.now) + (initial_weight (initial l.declarator.now.start) + 3)

abbrev pub decreases-declare_local : goal.decreases-declare_local
decreases-declare_local l = l.context.now.left * bound (map outer l.context.now.externals.now) + (initial_weight (initial l.declarator.now.start) + 4)

abbrev pub decreases-declare : goal.decreases-declare
decreases-declare l = l.context.now.left * bound (map outer l.context.now.externals.now) + (variables_weight (variables l.declarators.now) + 3)

abbrev pub decreases-begin : goal.decreases-begin
decreases-begin l = l.context.now.left * bound (map outer l.context.now.externals.now) + (first_weight (first l.init.now) + 3)

abbrev pub decreases-exec : goal.decreases-exec
decreases-exec l = l.context.now.left * bound (map outer l.context.now.externals.now) + (code_weight (code l.statement.now) + 1)

abbrev pub decreases-run_expression : goal.decreases-run_expression
decreases-run_expression l = l.context.now.left * bound (map outer l.context.now.externals.now) + (weight (tree l.e.now) + 6)

abbrev pub decreases-run_return : goal.decreases-run_return
decreases-run_return l = l.context.now.left * bound (map outer l.context.now.externals.now) + (weight (tree l.e.now) + 6)

abbrev pub decreases-run_while : goal.decreases-run_while
decreases-run_while l = l.context.now.left * bound (map outer l.context.now.externals.now) + (weight (tree l.test.now) + code_weight (code l.body.now) + 5)

abbrev pub decreases-turn_while : goal.decreases-turn_while
decreases-turn_while l = l.context.now.left * bound (map outer l.context.now.externals.now) + (weight (tree l.test.now) + code_weight (code l.body.now) + 4)

abbrev pub decreases-run_do : goal.decreases-run_do
decreases-run_do l = l.context.now.left * bound (map outer l.context.now.externals.now) + (weight (tree l.test.now) + code_weight (code l.body.now) + 5)

abbrev pub decreases-turn_do : goal.decreases-turn_do
decreases-turn_do l = l.context.now.left * bound (map outer l.context.now.externals.now) + (weight (tree l.test.now) + code_weight (code l.body.now) + 4)

abbrev pub decreases-run_scoped_for : goal.decreases-run_scoped_for
decreases-run_scoped_for l = l.context.now.left * bound (map outer l.context.now.externals.now) + (first_weight (first l.init.now) + option_weight (tree_option l.test.now) + option_weight (tree_option l.step.now) + code_weight (code l.body.now) + 6)

abbrev pub decreases-run_for : goal.decreases-run_for
decreases-run_for l = l.context.now.left * bound (map outer l.context.now.externals.now) + (option_weight (tree_option l.test.now) + option_weight (tree_option l.step.now) + code_weight (code l.body.now) + 5)

abbrev pub decreases-turn_for : goal.decreases-turn_for
decreases-turn_for l = l.context.now.left * bound (map outer l.context.now.externals.now) + (option_weight (tree_option l.test.now) + option_weight (tree_option l.step.now) + code_weight (code l.body.now) + 4)

abbrev pub decreases-tested : goal.decreases-tested
decreases-tested l = l.context.now.left * bound (map outer l.context.now.externals.now) + (option_weight (tree_option l.test.now) + 3)

abbrev pub decreases-run_block : goal.decreases-run_block
decreases-run_block l = l.context.now.left * bound (map outer l.context.now.externals.now) + (body_weight (body_of l.items.now) + 2)

abbrev pub decreases-run_items : goal.decreases-run_items
decreases-run_items l = l.context.now.left * bound (map outer l.context.now.externals.now) + (body_weight (body_of l.items.now) + 1)

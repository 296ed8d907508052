use Rattle.std.proofs.Common.{rules, ◌≡◌, true, false}
use Rattle.c_tree.specs.declared.place.LocKind.TheVariants.{Cond}
use Rattle.c_tree.specs.Tree.{is_pure}
use Rattle.c_tree.specs.Views.{tree}
use Rattle.interp_code.specs.Plan.{ask_after}
use Rattle.interp_code.specs.Flat.{plan_at}
use Rattle.interp_code.specs.Holed.{is_hole_at, value_plan}
use Rattle.interp_code.proofs.Made.{ok_after, ok_same, standing, condition_asked_after}
use Rattle.interp_code.proofs.expressions.flat_condition.Goals as goal

pub returns : goal.returns
returns c =
    let x = c.args.context.now in
    let e = c.args.e.now in
    let k = plan_at c.args.nodes.now c.args.next in
    let stood : is_hole_at x.hole Cond e.span ≡ true = search rules in
    let impure : is_pure (tree e) ≡ false = search rules in
    ok_same c.args.nodes.now c.flat_value-2.new.nodes _ _ c.flat_value-2.result (condition_asked_after x (tree e) k (standing x.hole Cond e true stood) impure)
    (ok_after (value_plan x (tree e)) c.args.nodes.now c.push-2.new.self c.flat_value-2.new.nodes c.in_ok-ask.ask (ask_after k) c.flat_value-2.result c.in_ok-ask.ensures c.flat_value-2.ensures)

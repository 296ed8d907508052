use Rattle.std.proofs.Common.{rules, ◌≡◌, ◌++◌, ◌∷◌, [], map, arith}
use Rattle.c_tree.specs.Views.{outer}
use Rattle.interp_code.specs.Holed.{entry_plan}
use Rattle.interp_code.proofs.Starts.{functions_more}
use Rattle.interp_code.proofs.program.flat_functions.Goals as goal

pub loop-external-preserved : goal.loop-external-preserved
loop-external-preserved c =
    let x = c.args.context.now in
    let i = c.loop-external.external-index in
    let rs = c.loop-external.routines.items in
    let r = c.in_ok-flat_external.field-0 in
    let pushed : c.push.new.self.items ≡ rs ++ r ∷ [] = search rules in
    let m = functions_more x c.args.nodes.now c.loop-external.nodes c.flat_external.new.nodes x.externals.now i c.external-item.result rs c.push.new.self.items r (map (entry_plan x) (map outer x.externals.now)) (omega arith) c.external-item.is pushed c.loop-external.invariant.grown c.loop-external.invariant.whole c.in_ok-flat_external.ensures in
    record { grown = m.0; whole = m.1 }

use Rattle.std.proofs.Common.{◌∙◌, ◌<◌, ◌≤◌, map, length, arith}
use Rattle.std.proofs.lemmas.Grind.{common_steps}
use Rattle.c_tree.specs.Views.{outer}
use Rattle.c_types.specs.Scopes.{here}
use Rattle.c_types.proofs.ResolveLemmas.{externals_more, externals_defined, externals_all}
use Rattle.c_types.proofs.resolve_file.resolve_externals.Goals as goal

pub loop-i-preserved : goal.loop-i-preserved
loop-i-preserved c =
    let own = c.in_ok-resolve_external.ensures in
    let declares = c.in_ok-declare_function.ensures.here c.index-externals-i.result in
    let lt : c.loop-i.i < length c.loop-i.externals = omega (arith, c.loop-i.invariant.long, c.loop-i-test.true) in
    record {
      resolved = externals_more (map outer c.args.externals.now) c.loop-i.externals c.loop-i.i c.index-externals-i.result c.resolve_external.new.external (here c.loop-i.scope) (here c.declare_function.new.scope) (here c.resolve_external.new.scope) c.loop-i.next c.resolve_external.new.next _
          lt c.loop-i.invariant.defined declares own.resolved c.loop-i.invariant.resolved;
      outside = own.outside ∙ c.in_ok-declare_function.ensures.outside ∙ c.loop-i.invariant.outside;
      defined = externals_defined (map outer c.args.externals.now) c.loop-i.externals c.loop-i.i c.index-externals-i.result c.resolve_external.new.external (here c.loop-i.scope) (here c.declare_function.new.scope) (here c.resolve_external.new.scope) c.loop-i.next c.resolve_external.new.next
          lt c.loop-i.invariant.defined declares own.resolved;
      long = grind (arith, common_steps, c.loop-i.invariant.long);
    }

pub returns : goal.returns
returns c =
    let all : length c.loop-i.externals ≤ c.loop-i.i = omega (arith, c.loop-i.invariant.long, c.loop-i-test.false) in
    externals_all (map outer c.args.externals.now) (here c.loop-i.scope) c.loop-i.next c.loop-i.externals c.loop-i.i _ all c.loop-i.invariant.resolved

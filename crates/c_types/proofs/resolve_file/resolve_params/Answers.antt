use Rattle.std.proofs.Common.{◌∙◌, arith}
use Rattle.c_types.specs.Scopes.{here}
use Rattle.c_types.proofs.ResolveLemmas.{params_more, params_declared_more, params_counted, params_all}
use Rattle.c_types.proofs.resolve_file.resolve_params.Goals as goal

pub loop-param-preserved : goal.loop-param-preserved
loop-param-preserved c =
    let own = c.in_ok-resolve_param.ensures in
    let number_is = c.in_ok-take_number.ensures.number in
    record {
      resolved = params_more c.loop-param.param-items c.loop-param.param-index c.param-item.result c.resolve_param.new.param (here c.loop-param.scope) (here c.resolve_param.new.scope) c.loop-param.next c.take_number.new.next c.in_ok-take_number.field-0 _
          (omega arith) c.in_ok-take_number.ensures.next number_is own.resolved c.loop-param.invariant.resolved;
      here = params_declared_more c.loop-param.param-items c.loop-param.param-index c.param-item.result c.resolve_param.new.param (here c.loop-param.scope) (here c.resolve_param.new.scope) c.loop-param.next c.take_number.new.next c.in_ok-take_number.field-0 _
          (omega arith) c.in_ok-take_number.ensures.next number_is own.here c.loop-param.invariant.here;
      outside = own.outside ∙ c.loop-param.invariant.outside;
      next = params_counted c.loop-param.param-items c.loop-param.param-index c.loop-param.next c.take_number.new.next _ c.param-item.result c.resolve_param.new.param (omega arith) c.in_ok-take_number.ensures.next c.loop-param.invariant.next;
    }

pub returns-clause-resolved : goal.returns-clause-resolved
returns-clause-resolved c =
    params_all c.loop-param.next c.loop-param.param-items c.loop-param.param-index _ (omega arith) c.loop-param.invariant.resolved

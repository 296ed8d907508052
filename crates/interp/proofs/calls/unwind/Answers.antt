use Rattle.std.proofs.Common.{rules, sym, ap, ◌∙◌}
use Rattle.c_meaning.specs.Filled.{with_tape}
use Rattle.interp_code.specs.Go.{unwind}
use Rattle.interp.specs.Left.{around}
use Rattle.interp.proofs.CallSteps.{unwind_scope, unwind_turn, unwind_tested, unwind_none}
use Rattle.interp.proofs.calls.unwind.Goals as goal

pub each-preserved-in-Scope : goal.each-preserved-in-Scope
each-preserved-in-Scope c = record {
  same = λ code room r b.
      c.each.invariant.same code room r b
      ∙ unwind_scope c.each.frames.items c.pop.new.self.items c.in-Scope.count c.each.state (search rules) code room r b
      ∙ ap (λ w. unwind (around code room c.pop.new.self.items) r (with_tape b w)) (sym c.cut.ensures);
  units = ap (λ w. w.units) c.cut.ensures ∙ c.each.invariant.units;
}

pub each-preserved-in-Some : goal.each-preserved-in-Some
each-preserved-in-Some c = record {
  same = λ code room r b. c.each.invariant.same code room r b ∙ unwind_turn c.each.frames.items c.pop.new.self.items c.in-Turn._turn c.each.state (search rules) code room r b;
  units = c.each.invariant.units;
}

pub each-preserved : goal.each-preserved
each-preserved c = record {
  same = λ code room r b. c.each.invariant.same code room r b ∙ unwind_tested c.each.frames.items c.pop.new.self.items c.in-Tested._turn c.each.state (search rules) code room r b;
  units = c.each.invariant.units;
}

pub returns : goal.returns
returns c = record {
  same = λ code room r b. c.each.invariant.same code room r b ∙ unwind_none c.each.frames.items c.each.state (search rules) code room r b;
  units = c.each.invariant.units;
}

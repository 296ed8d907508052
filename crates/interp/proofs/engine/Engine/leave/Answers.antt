use Rattle.std.proofs.Common.{rules, refl}
use Rattle.interp.proofs.Nexts.{leave_turn, leave_tested, leave_none, leave_scope}
use Rattle.interp.proofs.engine.Engine.leave.Goals as goal

pub returns-in-Some-Turn : goal.returns-in-Some-Turn
returns-in-Some-Turn c = leave_turn c.args.code.now _ _ c.pop.new.self.items c.in-Some-Turn._turn c.args.next c.requires.plan (search rules) refl refl refl (record { at = refl; room = refl; callers = refl }) c.requires.lower

pub returns-in-Some-Tested : goal.returns-in-Some-Tested
returns-in-Some-Tested c = leave_tested c.args.code.now _ _ c.pop.new.self.items c.in-Some-Tested._turn c.args.next c.requires.plan (search rules) refl refl refl (record { at = refl; room = refl; callers = refl }) c.requires.lower

pub returns-in-Some-Scope : goal.returns-in-Some-Scope
returns-in-Some-Scope c = leave_scope c.args.code.now _ _ c.pop.new.self.items c.in-Some-Scope._count c.args.next c.requires.plan (search rules) refl

pub returns-in-None : goal.returns-in-None
returns-in-None c = leave_none c.args.code.now _ _ c.args.next c.requires.plan (search rules) refl

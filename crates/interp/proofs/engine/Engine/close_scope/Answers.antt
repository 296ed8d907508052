use Rattle.std.proofs.Common.{rules, refl}
use Rattle.interp.proofs.Nexts.{close_goes, close_none, close_turn, close_tested}
use Rattle.interp.proofs.engine.Engine.close_scope.Goals as goal

pub returns-in-Some-Scope : goal.returns-in-Some-Scope
returns-in-Some-Scope c = close_goes c.args.code.now _ _ c.pop.new.self.items c.in-Some-Scope.count c.args.next c.requires.plan (search rules) refl refl c.cut.ensures (record { at = refl; room = refl; callers = refl }) c.requires.lower

pub returns-in-Some-Turn : goal.returns-in-Some-Turn
returns-in-Some-Turn c = close_turn c.args.code.now _ _ c.pop.new.self.items c.in-Some-Turn._turn c.args.next c.requires.plan (search rules) refl

pub returns-in-Some-Tested : goal.returns-in-Some-Tested
returns-in-Some-Tested c = close_tested c.args.code.now _ _ c.pop.new.self.items c.in-Some-Tested._turn c.args.next c.requires.plan (search rules) refl

pub returns-in-None : goal.returns-in-None
returns-in-None c = close_none c.args.code.now _ _ c.args.next c.requires.plan (search rules) refl

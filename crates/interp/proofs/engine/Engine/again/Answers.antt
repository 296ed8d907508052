use Rattle.std.proofs.Common.{rules, refl}
use Rattle.interp.proofs.Nexts.{again_goes, again_none, again_scope, again_turn}
use Rattle.interp.proofs.engine.Engine.again.Goals as goal

pub returns-in_ok-push-in-Some-Tested : goal.returns-in_ok-push-in-Some-Tested
returns-in_ok-push-in-Some-Tested c = again_goes c.args.code.now _ _ c.pop.new.self.items c.in-Some-Tested.turn c.requires.plan (search rules) refl (search rules) refl (record { at = refl; room = refl; callers = refl })

pub returns-in-Some-Scope : goal.returns-in-Some-Scope
returns-in-Some-Scope c = again_scope c.args.code.now _ _ c.pop.new.self.items c.in-Some-Scope._count c.requires.plan (search rules) refl

pub returns-in-Some-Turn : goal.returns-in-Some-Turn
returns-in-Some-Turn c = again_turn c.args.code.now _ _ c.pop.new.self.items c.in-Some-Turn._turn c.requires.plan (search rules) refl

pub returns-in-None : goal.returns-in-None
returns-in-None c = again_none c.args.code.now _ _ c.requires.plan (search rules) refl

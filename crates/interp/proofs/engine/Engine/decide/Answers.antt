use Rattle.std.proofs.Common.{rules, refl}
use Rattle.interp.proofs.Nexts.{decide_goes, decide_other, decide_none}
use Rattle.interp.proofs.engine.Engine.decide.Goals as goal

pub returns-in_default : goal.returns-in_default
returns-in_default c = decide_none c.args.code.now _ _ c.args.op c.args.next c.args.other c.requires.plan (search rules) refl

pub returns-in_ok-push-in-Some-decided : goal.returns-in_ok-push-in-Some-decided
returns-in_ok-push-in-Some-decided c = decide_goes c.args.code.now _ _ c.args.op c.pop.new.self.items c.in-Some.operand c.in-Some-decided.value c.args.next c.args.other c.requires.plan (search rules) (search rules) (search rules) refl refl (record { at = refl; room = refl; callers = refl }) c.requires.lower

pub returns-in_ok-push-in-None : goal.returns-in_ok-push-in-None
returns-in_ok-push-in-None c = decide_other c.args.code.now _ _ c.args.op c.pop.new.self.items c.in-Some.operand c.args.next c.args.other c.requires.plan (search rules) (search rules) (search rules) refl refl (record { at = refl; room = refl; callers = refl }) c.requires.other

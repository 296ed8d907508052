use Rattle.std.proofs.Common.{rules, refl}
use Rattle.interp.proofs.Nexts.{forget_goes, forget_none}
use Rattle.interp.proofs.engine.Engine.forget.Goals as goal

pub returns-in_default : goal.returns-in_default
returns-in_default c = forget_none c.args.code.now _ _ c.args.next c.requires.plan (search rules) refl

pub returns : goal.returns
returns c = forget_goes c.args.code.now _ _ c.pop.new.self.items c.in-Some._value c.args.next c.requires.plan (search rules) refl refl refl (record { at = refl; room = refl; callers = refl }) c.requires.lower

use Rattle.std.proofs.Common.{rules, refl}
use Rattle.interp.proofs.Nexts.{fork_zero, fork_other, fork_none}
use Rattle.interp.proofs.engine.Engine.fork.Goals as goal

pub returns-in_default : goal.returns-in_default
returns-in_default c = fork_none c.args.code.now _ _ c.args.zero c.args.other c.requires.plan (search rules) refl

pub returns-then-value-eq0 : goal.returns-then-value-eq0
returns-then-value-eq0 c = fork_zero c.args.code.now _ _ c.pop.new.self.items c.in-Some.value c.args.zero c.args.other c.requires.plan (search rules) (search rules) refl refl refl (record { at = refl; room = refl; callers = refl }) c.requires.zero

pub returns : goal.returns
returns c = fork_other c.args.code.now _ _ c.pop.new.self.items c.in-Some.value c.args.zero c.args.other c.requires.plan (search rules) (search rules) refl refl refl (record { at = refl; room = refl; callers = refl }) c.requires.other

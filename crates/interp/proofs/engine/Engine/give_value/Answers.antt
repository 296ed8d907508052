use Rattle.std.proofs.Common.{rules, refl}
use Rattle.interp.proofs.CallSteps.{value_stands, value_lacks}
use Rattle.interp.proofs.engine.Engine.give_value.Goals as goal

pub returns-in_default : goal.returns-in_default
returns-in_default c = value_lacks c.args.code.now _ _ c.requires.plan (search rules) refl

pub returns : goal.returns
returns c = c.give_back.ensures c.args.self.now (value_stands c.args.code.now _ _ c.pop.new.self.items _ c.requires.plan (search rules) refl refl refl refl refl)

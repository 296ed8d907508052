use Rattle.interp.proofs.CallSteps.{none_stands}
use Rattle.interp.proofs.engine.Engine.give_none.Goals as goal

pub returns : goal.returns
returns c = c.give_back.ensures c.args.self.now (none_stands c.args.code.now c.args.self.now c.requires.plan)

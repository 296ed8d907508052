use Rattle.std.proofs.Common.{refl}
use Rattle.interp.proofs.engine.Engine.ask.Goals as goal

pub returns : goal.returns
returns c = record { asks = c.requires.plan; lower = c.requires.lower; stays = refl }

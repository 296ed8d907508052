use Rattle.run_laws.proofs.Formats.{conversions-agree}
use Rattle.run_laws.proofs.laws.formats_agree.Goals as goal

pub returns : goal.returns
returns c = conversions-agree

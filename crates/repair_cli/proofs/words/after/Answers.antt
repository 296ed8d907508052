-- A word of which a spelling is looked for.
use Rattle.repair_cli.proofs.Spellings.{after_is}
use Rattle.repair_cli.proofs.words.after.Goals as goal

pub returns : goal.returns
returns c = after_is (λ x. x.now) c.args.spelling.now c.args.word.now c.strip_prefix.result c.strip_prefix.ensures.cases

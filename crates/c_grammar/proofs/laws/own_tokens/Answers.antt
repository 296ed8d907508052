use Rattle.c_grammar.proofs.OwnTokens.{expression_owns, statement_owns}
use Rattle.c_grammar.proofs.laws.own_tokens.Goals as goal

pub returns : goal.returns
returns c = record { expressions = expression_owns; statements = statement_owns }

use Rattle.scope_laws.proofs.Agreeing.{scopes_agree}
use Rattle.scope_laws.proofs.Used.{uses_agree}
use Rattle.scope_laws.proofs.scopes_agree.Goals as goal

pub returns : goal.returns
returns c = record { spots = scopes_agree; uses = uses_agree }

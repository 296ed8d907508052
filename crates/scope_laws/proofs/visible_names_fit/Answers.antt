use Rattle.scope_laws.proofs.Meant.{visible_are_meant, meant_are_visible, names_fit}
use Rattle.scope_laws.proofs.visible_names_fit.Goals as goal

pub returns : goal.returns
returns c = record { meant = visible_are_meant; visible = meant_are_visible; names = names_fit }

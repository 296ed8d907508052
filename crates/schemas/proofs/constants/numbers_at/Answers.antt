use Rattle.std.proofs.Common.{rules, ◌≡◌, List, [], ◌∷◌, ap, ◌∙◌}
use Rattle.c_tree.specs.Views.{program}
use Rattle.schemas.specs.Atoms.{zero, one}
use Rattle.schemas.specs.Kept.{with_constants}
use Rattle.schemas.specs.Constants.{Constant, constants_at}
use Rattle.schemas.proofs.ConstantLemmas.{numbers_kept}
use Rattle.schemas.proofs.constants.numbers_at.Goals as goal

pub returns : goal.returns
returns c =
    let cs : List Constant = constants_at c.args.place (program c.args.program.now) in
    let start : c.push-2.new.self.items ≡ zero ∷ one ∷ [] = search rules in
    let met : c.add_externals.new.found.items ≡ with_constants c.push-2.new.self.items cs = search rules in
    met ∙ ap (λ z. with_constants z cs) start ∙ numbers_kept cs

use Rattle.std.proofs.Common.{◌≡◌, rules, ◌∙◌, [], ap, sym, w64, to_z, of_z}
use Rattle.interp.specs.Future.{value_in}
use Rattle.interp.specs.Seen.{seen}
use Rattle.interp.proofs.Plain.{value_is, value_taped}
use Rattle.interp.proofs.Machines.{element_is}
use Rattle.interp.proofs.machine.ViewReads.element.Goals as goal

pub returns : goal.returns
returns c =
    let w = c.args.self.now.state.now in
    let index = c.args.index in
    let same : to_z w64 (of_z w64 index) ≡ index = search rules in
    value_is c.args.slot (to_z w64 (of_z w64 index)) w c.value.result c.value.ensures
    ∙ ap (λ i. value_in c.args.slot i w) same
    ∙ sym (value_taped c.args.slot index [] w)
    ∙ element_is c.args.slot index (seen c.args.self.now)

use Rattle.patch_reread.proofs.Together.{read_again}
use Rattle.patch_reread.proofs.laws.patches_read_again.Goals as goal

pub returns : goal.returns
returns c = read_again (record {
  texts = c.texts_read_again.ensures;
  sourced = c.words_of_the_source.ensures.programs;
  nought = c.zero_and_one.ensures.zero;
  unit = c.zero_and_one.ensures.one;
  prints = c.pure_prints.ensures;
  slots = c.resolving_changes_slots.ensures.slots;
  keeps = c.resolving_changes_slots.ensures.bare;
  ignores = c.resolving_ignores_slots.ensures.before;
  keeps_order = c.resolving_changes_slots.ensures.order;
  resolves = c.resolved_is_checked.ensures;
  order = c.text_order.ensures;
  alike = c.checked_alike.ensures;
  patched = c.patched_is_checked.ensures;
})

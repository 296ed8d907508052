-- How many items a list has.
use Rattle.serde_json.proofs.Views.{items_len-items_view}

-- the items that a list of values stands for are as many as its values
pub ruleset counts = (items_len-items_view)

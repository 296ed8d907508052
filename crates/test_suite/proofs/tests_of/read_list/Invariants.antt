-- The tests so far, before those that are left.
use Rattle.std.proofs.Common.{◌≡◌, ◌++◌, drop}
use Rattle.serde_json.specs.View.{items_view}
use Rattle.test_suite.specs.Suite.{tests_from, mapped}
use Rattle.test_suite.proofs.tests_of.read_list.Given as goal

abbrev pub invariant-loop-number : goal.invariant-loop-number
invariant-loop-number l = mapped (λ rest. l.tests.items ++ rest) (tests_from l.number (items_view (drop l.number l.list))) ≡ tests_from 0 (items_view l.list)

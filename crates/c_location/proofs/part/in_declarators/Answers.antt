use Rattle.std.proofs.Common.{arith}
use Rattle.c_tree.specs.Tree.{Variable}
use Rattle.c_tree.specs.Views.{variables, variable}
use Rattle.c_location.specs.Locations.{in_variables, in_initial}
use Rattle.c_location.specs.Shown.{lent, found_at}
use Rattle.c_location.proofs.PartLemmas.{found_at-more, found_at-here}
use Rattle.c_location.proofs.part.in_declarators.Goals as goal

pub returns-in-Some : goal.returns-in-Some
returns-in-Some c =
    found_at-here (λ (v : Variable). in_initial v.start) variable c.args.l.now c.args.declarators.now c.loop-declarator.declarator-index c.declarator-item.result (found_at c.args.l.now (in_variables (variables c.args.declarators.now))) (lent c.in-Some.found) (omega arith) c.declarator-item.is c.in-Some.ensures c.loop-declarator.invariant

pub loop-declarator-preserved : goal.loop-declarator-preserved
loop-declarator-preserved c =
    found_at-more (λ (v : Variable). in_initial v.start) variable c.args.l.now c.args.declarators.now c.loop-declarator.declarator-index c.declarator-item.result (found_at c.args.l.now (in_variables (variables c.args.declarators.now))) (omega arith) c.declarator-item.is c.in-None.ensures c.loop-declarator.invariant

use Rattle.std.proofs.Common.{ℕ, ◌≤◌, List, Option, sym, subst, ap, ◌∙◌, map, IfSome}
use Rattle.c_tree.specs.declared.program.External.{External}
use Rattle.c_tree.specs.Views.{outer, program as tree_program}
use Rattle.c_tree.specs.Tree.{Outer}
use Rattle.c_types.specs.Evidence.{IsChecked, IsOrdered}
use Rattle.c_types.specs.Least.{least}
use Rattle.c_types.specs.Programs.{program_faults}
use Rattle.c_types.proofs.Checked.{checked, resolved_ordered}
use Rattle.c_types.proofs.FirstLemmas.{least_first, least_none}
use Rattle.c_types.proofs.Placed.{contained, program_upto}
use Rattle.c_types.proofs.check_program.check.Goals as goal

pub returns-in-Some-clause-refused : goal.returns-in-Some-clause-refused
returns-in-Some-clause-refused c =
    let all = program_faults (tree_program c.args.program) c.args.end in
    c.refusal.ensures.causes all
    (least_first all c.in-Some.fault (sym (c.in_ok-found.ensures ∙ ap (λ (es : List External). least (program_faults (map outer es) c.args.end)) c.deref.ensures.value) ∙ c.in-Some.is))

pub returns-in-Some-clause-placed : goal.returns-in-Some-clause-placed
returns-in-Some-clause-placed c =
    let all = program_faults (tree_program c.args.program) c.args.end in
    let first = least_first all c.in-Some.fault (sym (c.in_ok-found.ensures ∙ ap (λ (es : List External). least (program_faults (map outer es) c.args.end)) c.deref.ensures.value) ∙ c.in-Some.is) in
    subst (λ (o : Option ℕ). IfSome o (λ place. place ≤ c.args.end)) (sym c.refusal.ensures.place)
    (contained (program_upto c.args.end (tree_program c.args.program) c.requires.ordered) c.in-Some.fault first.among)

pub returns-in_ok-resolve-in-None-clause-accepted : goal.returns-in_ok-resolve-in-None-clause-accepted
returns-in_ok-resolve-in-None-clause-accepted c =
    let all = program_faults (tree_program c.args.program) c.args.end in
    least_none all (sym (c.in_ok-found.ensures ∙ ap (λ (es : List External). least (program_faults (map outer es) c.args.end)) c.deref.ensures.value) ∙ c.in-None.is)

pub returns-in_ok-resolve-in-None-clause-ordered : goal.returns-in_ok-resolve-in-None-clause-ordered
returns-in_ok-resolve-in-None-clause-ordered c =
    subst (λ (p : List Outer). IsOrdered p) (sym (c.new.ensures ∙ c.in_ok-resolve-in-None.ensures)) (resolved_ordered (tree_program c.args.program) c.args.end c.requires.ordered)

pub new-requires : goal.new-requires
new-requires c =
    let all = program_faults (tree_program c.args.program) c.args.end in
    let none = least_none all (sym (c.in_ok-found.ensures ∙ ap (λ (es : List External). least (program_faults (map outer es) c.args.end)) c.deref.ensures.value) ∙ c.in-None.is) in
    subst (λ (p : List Outer). IsChecked p) (sym c.in_ok-resolve-in-None.ensures) (checked (tree_program c.args.program) c.args.end none)

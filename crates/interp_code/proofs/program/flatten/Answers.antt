use Rattle.std.proofs.Common.{◌≡◌, List, Option, option_map, IfOk, subst}
use Rattle.c_tree.specs.declared.place.Loc.{Loc}
use Rattle.c_tree.specs.Tree.{Outer}
use Rattle.c_tree.specs.Views.{program}
use Rattle.c_types.specs.Shown.{tree_of}
use Rattle.interp_code.specs.Shown.{StandsFor}
use Rattle.interp_code.proofs.Whole.{stands_for}
use Rattle.interp_code.proofs.program.flatten.Goals as goal

pub returns : goal.returns
returns c =
    let r = c.flat_program.result in
    let hole : c.copied.result ≡ option_map (λ l. l.now) c.args.hole = c.copied.ensures in
    subst (λ (o : Option Loc). IfOk r (λ code. StandsFor code o (tree_of c.args.program.now))) hole
    (subst (λ (p : List Outer). IfOk r (λ code. StandsFor code c.copied.result p)) c.program.ensures.tree
    (stands_for r c.copied.result (program c.program.result.now) c.flat_program.ensures))

use Rattle.std.proofs.Common.{rules, ◌≡◌, false, Some, sym, ap, ◌∙◌, w64}
use Rattle.std.specs.Prelude.{int_div}
use Rattle.std.proofs.lemmas.Int.{rem_is}
use Rattle.c_arith.specs.Arith.{is_zero, fitting}
use Rattle.c_arith.proofs.Remainders.{remainder_is}
use Rattle.c_arith.proofs.products.remainder.Goals as goal

pub returns-in-Some-fitting : goal.returns-in-Some-fitting
returns-in-Some-fitting c =
    let zero : is_zero c.args.right ≡ false = search rules in
    let fits : fitting c.args.ty (int_div c.args.left c.args.right) ≡ Some c.in-Some-fitting.field-0 = search rules in
    ap Some (rem_is w64 c.args.left c.args.right c.ranges.left c.ranges.right) ∙ sym (remainder_is c.args.ty c.args.left c.args.right c.in-Some-fitting.field-0 zero fits)

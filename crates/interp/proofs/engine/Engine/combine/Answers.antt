use Rattle.std.proofs.Common.{◌≡◌, rules, refl, ap, Some, None}
use Rattle.c_tree.specs.declared.stmt.Ty.TheVariants.{Int}
use Rattle.c_arith.specs.Arith.{op}
use Rattle.c_meaning.specs.World.{lift}
use Rattle.interp.proofs.Nexts.{binary_goes, binary_traps, binary_one, binary_none, combine_is}
use Rattle.interp.proofs.engine.Engine.combine.Goals as goal

pub returns-in_default : goal.returns-in_default
returns-in_default c = binary_none c.args.code.now _ _ _ (combine_is c.args.code.now c.args.op c.args.next) _ _ c.requires.plan (search rules) refl

pub returns-in_default-pop : goal.returns-in_default-pop
returns-in_default-pop c = binary_one c.args.code.now _ _ _ (combine_is c.args.code.now c.args.op c.args.next) _ _ c.pop.new.self.items c.in-Some.right c.requires.plan (search rules) (search rules) refl

pub returns-in_default-binary : goal.returns-in_default-binary
returns-in_default-binary c =
    let none : op Int c.args.op c.in-Some-pop.left c.in-Some.right ≡ None = search rules in
    binary_traps c.args.code.now _ _ _ (combine_is c.args.code.now c.args.op c.args.next) _ _ c.pop.new.self.items c.pop-2.new.self.items c.in-Some.right c.in-Some-pop.left c.requires.plan (search rules) (search rules) (ap lift none) refl

pub returns : goal.returns
returns c =
    let some : op Int c.args.op c.in-Some-pop.left c.in-Some.right ≡ Some c.in-Some-binary.value = search rules in
    binary_goes c.args.code.now _ _ _ (combine_is c.args.code.now c.args.op c.args.next) _ _ c.pop.new.self.items c.pop-2.new.self.items c.in-Some.right c.in-Some-pop.left c.in-Some-binary.value c.requires.plan (search rules) (search rules) (λ i. lift (some i) c.args.self.now.state) (search rules) refl (record { at = refl; room = refl; callers = refl }) c.requires.lower

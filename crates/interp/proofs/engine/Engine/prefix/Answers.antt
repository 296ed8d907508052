use Rattle.std.proofs.Common.{◌≡◌, rules, refl, ap, Some, None}
use Rattle.c_tree.specs.declared.stmt.Ty.TheVariants.{Int}
use Rattle.c_arith.specs.Arith.{prefix}
use Rattle.c_meaning.specs.World.{lift}
use Rattle.interp.proofs.Nexts.{unary_goes, unary_traps, unary_none, prefix_is}
use Rattle.interp.proofs.engine.Engine.prefix.Goals as goal

pub returns-in_default : goal.returns-in_default
returns-in_default c = unary_none c.args.code.now _ _ _ (prefix_is c.args.code.now c.args.op c.args.next) _ _ c.requires.plan (search rules) refl

pub returns-in_default-unary : goal.returns-in_default-unary
returns-in_default-unary c =
    let none : prefix Int c.args.op c.in-Some.operand ≡ None = search rules in
    unary_traps c.args.code.now _ _ _ (prefix_is c.args.code.now c.args.op c.args.next) _ _ c.pop.new.self.items c.in-Some.operand c.requires.plan (search rules) (ap lift none) refl

pub returns : goal.returns
returns c =
    let some : prefix Int c.args.op c.in-Some.operand ≡ Some c.in-Some-unary.value = search rules in
    unary_goes c.args.code.now _ _ _ (prefix_is c.args.code.now c.args.op c.args.next) _ _ c.pop.new.self.items c.in-Some.operand c.in-Some-unary.value c.requires.plan (search rules) (λ i. lift (some i) c.args.self.now.state) (search rules) refl (record { at = refl; room = refl; callers = refl }) c.requires.lower

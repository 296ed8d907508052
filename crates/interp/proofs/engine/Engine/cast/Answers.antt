use Rattle.std.proofs.Common.{rules, refl}
use Rattle.interp.proofs.Nexts.{unary_goes, unary_none, cast_is}
use Rattle.c_arith.specs.Arith.{convert}
use Rattle.interp.proofs.engine.Engine.cast.Goals as goal

pub returns-in_default : goal.returns-in_default
returns-in_default c = unary_none c.args.code.now _ _ _ (cast_is c.args.code.now c.args.ty c.args.next) _ _ c.requires.plan (search rules) refl

pub returns : goal.returns
returns c = unary_goes c.args.code.now _ _ _ (cast_is c.args.code.now c.args.ty c.args.next) _ _ c.pop.new.self.items c.in-Some.value (convert c.args.ty c.in-Some.value) c.requires.plan (search rules) refl (search rules) refl (record { at = refl; room = refl; callers = refl }) c.requires.lower

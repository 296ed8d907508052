use Rattle.std.proofs.Common.{rules, refl}
use Rattle.interp.specs.declared.engine.Engine.{Engine}
use Rattle.interp.proofs.Nexts.{test_goes, test_err, test_none, test_scope, test_tested}
use Rattle.interp.proofs.Moving.{spends_moves}
use Rattle.interp.proofs.engine.Engine.test.Goals as goal

pub returns-in-Err : goal.returns-in-Err
returns-in-Err g c = test_err c.args.code.now _ _ c.pop.new.self.items c.in-Some-Turn.turn _ c.args.next c.in-Err.stop c.requires.plan (search rules) c.in-Err.ensures

pub returns-in_ok-push-in-Ok : goal.returns-in_ok-push-in-Ok
returns-in_ok-push-in-Ok g c =
    let old : Engine = c.args.self.now in
    let new : Engine = record { room = old.room; at = c.args.next; values = old.values; frames = c.push.new.self; callers = old.callers; spare = old.spare; spare_slots = old.spare_slots; spare_arguments = old.spare_arguments; state = c.take_unit.new.self } in
    spends_moves c.args.code.now old new _ _ (search rules) (test_goes c.args.code.now old new c.pop.new.self.items c.in-Some-Turn.turn c.args.next c.requires.plan (search rules) c.in-Ok.ensures refl (search rules) (record { at = refl; room = refl; callers = refl }) c.requires.lower)

pub returns-in-Some-Scope : goal.returns-in-Some-Scope
returns-in-Some-Scope g c = test_scope c.args.code.now _ _ c.pop.new.self.items c.in-Some-Scope._count _ c.args.next c.requires.plan (search rules) refl

pub returns-in-Some-Tested : goal.returns-in-Some-Tested
returns-in-Some-Tested g c = test_tested c.args.code.now _ _ c.pop.new.self.items c.in-Some-Tested._turn _ c.args.next c.requires.plan (search rules) refl

pub returns-in-None : goal.returns-in-None
returns-in-None g c = test_none c.args.code.now _ _ _ c.args.next c.requires.plan (search rules) refl

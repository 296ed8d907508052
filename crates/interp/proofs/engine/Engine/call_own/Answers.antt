use Rattle.std.proofs.Common.{rules, refl, ◌-◌, arith}
use Rattle.interp_code.specs.declared.node.Callee.TheVariants.{Function as Own}
use Rattle.interp_code.specs.Shown.{entry_at}
use Rattle.interp.specs.declared.engine.Engine.{Engine}
use Rattle.interp.specs.Left.{upper}
use Rattle.interp.proofs.CallSteps.{call_lacks, own_deep, own_lacks, own_err, opened_err, own_goes}
use Rattle.interp.proofs.Moving.{ends_moves, spends_moves}
use Rattle.interp.proofs.engine.Engine.call_own.Goals as goal

pub returns-in_default : goal.returns-in_default
returns-in_default g c = ends_moves c.args.code.now _ _ _ _ (call_lacks c.args.code.now _ _ (Own c.args.place) c.args.wanted c.args.given.now c.args.next c.requires.plan (search rules) refl)

pub returns-then-self-eq0 : goal.returns-then-self-eq0
returns-then-self-eq0 g c =
    let gs = c.in-Some.arguments.items in
    let us = upper c.take_arguments.new.values.items in
    own_deep c.args.code.now _ _ c.args.place c.args.wanted c.args.given.now c.args.next _ gs us c.requires.plan (rw c.in-Some.is at c.in_ok-taken.ensures) (omega arith) refl

pub returns-in_default-routine : goal.returns-in_default-routine
returns-in_default-routine g c =
    let gs = c.in-Some.arguments.items in
    let us = upper c.take_arguments.new.values.items in
    own_lacks c.args.code.now _ _ c.args.place c.args.wanted c.args.given.now c.args.next (c.args.self.now.room - 1) _ gs us c.requires.plan (rw c.in-Some.is at c.in_ok-taken.ensures) (omega arith) (search rules) refl

pub returns-in-Err : goal.returns-in-Err
returns-in-Err g c =
    let gs = c.in-Some.arguments.items in
    let us = upper c.take_arguments.new.values.items in
    let entry = entry_at c.args.code.now.nodes c.in-Some-routine.routine.now in
    own_err c.args.code.now _ _ c.args.place c.args.wanted c.args.given.now c.args.next (c.args.self.now.room - 1) _ gs us entry c.in-Err.stop c.requires.plan (rw c.in-Some.is at c.in_ok-taken.ensures) (omega arith) (search rules) c.in-Err.ensures

pub returns-in-Err-open : goal.returns-in-Err-open
returns-in-Err-open g c =
    let gs = c.in-Some.arguments.items in
    let us = upper c.take_arguments.new.values.items in
    let entry = entry_at c.args.code.now.nodes c.in-Some-routine.routine.now in
    opened_err c.args.code.now _ _ c.args.place c.args.wanted c.args.given.now c.args.next (c.args.self.now.room - 1) _ _ gs us entry c.take_unit.new.self c.in-Err-open.stop c.requires.plan (rw c.in-Some.is at c.in_ok-taken.ensures) (omega arith) (search rules) c.in-Ok.ensures c.tick.ensures (search rules)

pub returns-in_ok-enter-in-Ok-open : goal.returns-in_ok-enter-in-Ok-open
returns-in_ok-enter-in-Ok-open g c =
    let gs = c.in-Some.arguments.items in
    let us = upper c.take_arguments.new.values.items in
    let entry = entry_at c.args.code.now.nodes c.in-Some-routine.routine.now in
    let old = c.args.self.now in
    let mid : Engine = record { room = old.room; at = old.at; values = c.take_arguments.new.values; frames = old.frames; callers = old.callers; spare = old.spare; spare_slots = c.empty_slots-empty.new.spare; spare_arguments = c.in-Some.arguments; state = c.open.new.state } in
    spends_moves c.args.code.now _ _ _ _ c.tick.ensures
    (own_goes c.args.code.now _ mid _ c.args.place c.args.wanted c.args.given.now c.args.next _ _ gs us entry c.take_unit.new.self _ c.in-Ok-open.opened c.requires.plan (rw c.in-Some.is at c.in_ok-taken.ensures) (search rules) refl c.in-Ok.ensures (search rules) c.tick.ensures c.in_ok-enter-in-Ok-open.ensures refl refl refl refl c.requires.lower)

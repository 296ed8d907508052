use Rattle.std.proofs.Common.{rules, refl}
use Rattle.interp.specs.Left.{upper}
use Rattle.interp.proofs.CallSteps.{call_lacks, library_drops, library_gives, library_lacks, library_err}
use Rattle.interp.proofs.engine.Engine.call_library.Goals as goal

pub returns-in_default : goal.returns-in_default
returns-in_default c = call_lacks c.args.code.now _ _ c.args.callee c.args.wanted c.args.given.now c.args.next c.requires.plan (search rules) refl

pub returns-in-Err : goal.returns-in-Err
returns-in-Err c =
    let gs = c.in-Some.arguments.items in
    let us = upper c.take_arguments.new.values.items in
    library_err c.args.code.now _ _ c.args.callee c.args.wanted c.args.given.now c.args.next gs us c.in-Err.stop c.requires.plan (rw c.in-Some.is at c.in_ok-taken.ensures) c.requires.library (search rules)

pub returns-then-not-wanted : goal.returns-then-not-wanted
returns-then-not-wanted c =
    let gs = c.in-Some.arguments.items in
    let us = upper c.take_arguments.new.values.items in
    library_drops c.args.code.now _ _ c.args.callee c.args.wanted c.args.given.now c.args.next gs us c.in-Ok.value c.requires.plan (rw c.in-Some.is at c.in_ok-taken.ensures) c.requires.library (search rules) (search rules) refl refl (record { at = refl; room = refl; callers = refl }) c.requires.lower

pub returns-in_default-value : goal.returns-in_default-value
returns-in_default-value c =
    let gs = c.in-Some.arguments.items in
    let us = upper c.take_arguments.new.values.items in
    library_lacks c.args.code.now _ _ c.args.callee c.args.wanted c.args.given.now c.args.next gs us c.in-Ok.value c.requires.plan (rw c.in-Some.is at c.in_ok-taken.ensures) c.requires.library (search rules) (search rules) (search rules)

pub returns-in_ok-push-in-Ok : goal.returns-in_ok-push-in-Ok
returns-in_ok-push-in-Ok c =
    let gs = c.in-Some.arguments.items in
    let us = upper c.take_arguments.new.values.items in
    library_gives c.args.code.now _ _ c.args.callee c.args.wanted c.args.given.now c.args.next gs us c.take_arguments.new.values.items c.in-Ok.value c.in-Some-value.value c.requires.plan (rw c.in-Some.is at c.in_ok-taken.ensures) c.requires.library (search rules) (search rules) (search rules) refl (search rules) refl (record { at = refl; room = refl; callers = refl }) c.requires.lower

use Rattle.std.proofs.Common.{◌≡◌, rules, refl, w64, to_z, of_z}
use Rattle.interp.specs.declared.machine.Machine.{Machine}
use Rattle.interp.specs.declared.machine.Phase.TheVariants.{Waiting, Over, Done}
use Rattle.interp.proofs.Machines.{hole_comes, end_comes, done_comes}
use Rattle.interp.proofs.machine.Machine.go_on.Goals as goal

pub returns-in-Ok-Hole : goal.returns-in-Ok-Hole
returns-in-Ok-Hole g c =
    let old = c.args.self.now in
    let new : Machine = record { alloc = old.alloc; code = old.code; wanted = old.wanted; engine = c.run.new.self; phase = Waiting } in
    let stop = rw c.in-Ok-Hole.field-0-is at c.in-Ok-Hole.ensures.pause in
    let comes = hole_comes old new c.args.given c.requires (record { code = refl; wanted = refl }) c.in-Ok-Hole.old refl stop in
    record { failed = tt; event = comes.event; waits = comes.waits; future = comes.future; state = comes.state; ticks = c.in-Ok-Hole.ensures.ticks }

pub returns-in-Ok-Over : goal.returns-in-Ok-Over
returns-in-Ok-Over g c =
    let old = c.args.self.now in
    let end = c.in-Ok-Over.end in
    let new : Machine = record { alloc = old.alloc; code = old.code; wanted = old.wanted; engine = c.run.new.self; phase = Over end } in
    let stop = rw c.in-Ok-Over.field-0-is at c.in-Ok-Over.ensures.pause in
    let comes = end_comes old new c.args.given c.requires (record { code = refl; wanted = refl }) end c.over.result refl c.over.ensures stop in
    record { failed = tt; event = comes.event; waits = comes.waits; future = comes.future; state = comes.state; ticks = c.in-Ok-Over.ensures.ticks }

pub returns-in-Ok-Done : goal.returns-in-Ok-Done
returns-in-Ok-Done g c =
    let old = c.args.self.now in
    let v = c.in-Ok-Done.value in
    let same : to_z w64 (of_z w64 v) ≡ v = search rules in
    let new : Machine = record { alloc = old.alloc; code = old.code; wanted = old.wanted; engine = c.run.new.self; phase = Done (to_z w64 (of_z w64 v)) } in
    let stop = rw c.in-Ok-Done.field-0-is at c.in-Ok-Done.ensures.pause in
    let comes = done_comes old new c.args.given c.requires (record { code = refl; wanted = refl }) v _ c.finished.result same refl (search rules) stop in
    record { failed = tt; event = comes.event; waits = comes.waits; future = comes.future; state = comes.state; ticks = c.in-Ok-Done.ensures.ticks }

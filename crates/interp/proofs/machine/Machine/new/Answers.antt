use Rattle.std.proofs.Common.{rules, refl}
use Rattle.interp.specs.declared.engine.Engine.{Engine}
use Rattle.interp.proofs.Starts.{starts}
use Rattle.interp.proofs.machine.Machine.new.Goals as goal

pub returns-clause-follows : goal.returns-clause-follows
returns-clause-follows c =
    let e : Engine = record { room = 256; at = c.start.result; values = c.new.result; frames = c.new-2.result; callers = c.new-3.result; spare = c.new-4.result; spare_slots = c.new-5.result; spare_arguments = c.new-6.result; state = c.new-7.result } in
    record {
      wanted = refl;
      future = starts c.args.code.now e c.args.test.now c.args.limit (search rules) (search rules) (search rules) (search rules) (search rules) (search rules);
    }

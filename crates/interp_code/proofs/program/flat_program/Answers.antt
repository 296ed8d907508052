use Rattle.std.proofs.Common.{length, map, ap}
use Rattle.c_tree.specs.Views.{outer, program}
use Rattle.interp_code.specs.declared.context.Context.{Context}
use Rattle.interp_code.proofs.Entries.{begin_later}
use Rattle.interp_code.proofs.Whole.{program_made}
use Rattle.interp_code.proofs.program.flat_program.Goals as goal

pub into_code-requires-clause-entries : goal.into_code-requires-clause-entries
into_code-requires-clause-entries c = begin_later (length c.flat_functions.new.nodes) (length c.flat_start.new.nodes) c.in_ok-start.ensures.longer c.in_ok-routines.routines.items c.in_ok-routines.ensures.within

pub returns : goal.returns
returns c =
    let context : Context = record { alloc = c.args.alloc; externals = c.deref.result; hole = c.args.hole } in
    program_made context (program c.args.program.now) c.new-nodes.result c.flat_functions.new.nodes c.flat_start.new.nodes c.in_ok-routines.routines.items c.in_ok-start.start c.into_code.result c.into_code.ensures (ap (map outer) c.deref.ensures.value) c.in_ok-routines.ensures c.in_ok-start.ensures

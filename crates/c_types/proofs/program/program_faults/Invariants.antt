use Rattle.std.proofs.Common.{◌≡◌, [], drop, map}
use Rattle.c_tree.specs.Views.{outer}
use Rattle.c_types.specs.Least.{least, earlier}
use Rattle.c_types.specs.Library.{library}
use Rattle.c_types.specs.Programs.{outers_faults}
use Rattle.c_types.specs.Scopes.{here, outside}
use Rattle.c_types.proofs.program.program_faults.Given as goal

-- the fault of the file so far and that of what is left is that of all
abbrev pub invariant-loop-external : goal.invariant-loop-external
invariant-loop-external l = record {
  faults : least (outers_faults (map outer l.file) library (map outer l.file)) ≡ earlier l.found.fault (least (outers_faults (map outer l.file) (here l.scope) (map outer (drop l.external-index l.file))));
  outside : outside l.scope ≡ [];
}

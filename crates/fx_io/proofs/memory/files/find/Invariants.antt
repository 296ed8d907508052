use Rattle.std.proofs.Common.{◌≡◌, drop}
use Rattle.std.specs.Prelude.{map}
use Rattle.fx_io.specs.Held.{file_named}
use Rattle.fx_io.specs.Named.{name_and_bytes}
use Rattle.fx_io.proofs.memory.files.find.Given as goal

abbrev pub invariant-each : goal.invariant-each
invariant-each l = file_named (map name_and_bytes (drop l.i l.files)) l.name ≡ file_named (map name_and_bytes l.files) l.name

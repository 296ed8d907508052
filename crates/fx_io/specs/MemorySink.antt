-- How a sink in memory is kept.
use Rattle.std.specs.Prelude.{◌-◌, ◌<◌, ◌≤◌, length, vec_capacity}
use Rattle.fx_io.specs.Shelf.{Tray}
use Rattle.fx_io.specs.declared.memory.sink.MemSink.TheInside.{Inside}

-- what contracts see
abbrev pub tray_of : Inside → Tray
tray_of inside =
    record {
      written = inside.bytes.items;
      room = inside.room - length inside.bytes.items;
      chunk = inside.chunk;
      plan = inside.plan;
    }

-- a write may take a byte, and the room was taken from the start
pub record IsInOrder (inside : Inside) : Type 0 where
  pub chunk : 0 < inside.chunk
  pub within : length inside.bytes.items ≤ inside.room
  pub room : inside.room ≤ vec_capacity inside.bytes

-- When a write to a sink in memory fails.
use Rattle.std.specs.Prelude.{◌≡◌, ◌⊎◌, ℕ, ◌<◌, List, [], ◌∷◌, length, IsTrue}
use Rattle.fx_io.specs.Plan.{fails_next}
use Rattle.fx_io.specs.Shelf.{Tray}

-- the next write of this piece fails: its number is one of the failing, or there are bytes to take and no room
abbrev pub Refuses : Tray → List ℕ → Type 0
Refuses tray piece = IsTrue (fails_next tray.plan) ⊎ ((0 < length piece) × (tray.room ≡ 0))

-- the room, if no number is one of the failing
abbrev pub room_if : List ℕ → ℕ → ℕ
room_if [] room = room
room_if (n ∷ ns) room = 0

-- how many bytes can be written with no failure
abbrev pub sure_room : Tray → ℕ
sure_room tray = room_if tray.plan.failing tray.room

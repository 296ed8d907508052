-- How files in memory are kept.
use Rattle.std.specs.Prelude.{◌≡◌, ℕ, ◌<◌, ◌≤◌, List, length, map, Option, Some, None, slice_get, IfSome, string_bytes}
use Rattle.fx_io.specs.Held.{file_named}
use Rattle.fx_io.specs.Named.{File, name_and_bytes}
use Rattle.fx_io.specs.Shelf.{Shelf}
use Rattle.fx_io.specs.declared.memory.files.Place.{Place}
use Rattle.fx_io.specs.declared.memory.files.MemFiles.TheInside.{Inside}

-- the name of this file, and the number of its bytes that were read
abbrev pub place_in : Option File → ℕ → Option (List ℕ × ℕ)
place_in None read = None
place_in (Some file) read = Some (string_bytes file.0, read)

-- the name of the chosen file and the place in it, if one is chosen
abbrev pub place_of : List File → Option Place → Option (List ℕ × ℕ)
place_of files None = None
place_of files (Some place) = place_in (slice_get files place.file) place.read

-- what contracts see
abbrev pub shelf_of : Inside → Shelf
shelf_of inside =
    record {
      files = map name_and_bytes inside.files.items;
      at = place_of inside.files.items inside.chosen;
      chunk = inside.chunk;
      plan = inside.plan;
    }

-- the file is there, its name leads to its bytes, and no more of them were read than there are
pub record IsPlace (files : List File) (place : Place) : Type 0 where
  pub within : place.file < length files
  pub bytes : IfSome (slice_get files place.file)
      (λ file. file_named (map name_and_bytes files) (string_bytes file.0) ≡ Some file.1.items)
  pub read : IfSome (slice_get files place.file) (λ file. place.read ≤ length file.1.items)

-- a read may give a byte, and the chosen place is one of a file
pub record IsInOrder (inside : Inside) : Type 0 where
  pub chunk : 0 < inside.chunk
  pub chosen : IfSome inside.chosen (IsPlace inside.files.items)

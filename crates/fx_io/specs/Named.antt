-- Files in memory as pairs of a name and bytes.
use Rattle.std.specs.Prelude.{◌≡◌, ℕ, ◌<◌, List, length, map, Some, Vec, slice_get, IfSome, string_bytes, String}
use Rattle.std.specs.declared.alloc.Global.{Global}
use Rattle.fx_io.specs.Held.{file_named}

-- a name and the bytes under it
abbrev pub File : Type 0
File = String Global × Vec ℕ Global

-- the bytes of the name, and the bytes under it
abbrev pub name_and_bytes : File → List ℕ × List ℕ
name_and_bytes file = (string_bytes file.0, file.1.items)

-- the first file of this name stands at index i
pub record IsFoundAt (files : List File) (name : List ℕ) (i : ℕ) : Type 0 where
  pub within : i < length files
  pub called : IfSome (slice_get files i) (λ file. string_bytes file.0 ≡ name)
  pub bytes : IfSome (slice_get files i)
      (λ file. file_named (map name_and_bytes files) name ≡ Some file.1.items)

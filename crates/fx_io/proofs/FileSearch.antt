-- The search for a file by its name.
use Rattle.std.proofs.Common.{◌≡◌, ℕ, suc, ◌<◌, List, ◌∷◌, length, get_or, drop, refl, sym, ap, ◌∙◌, true, Bool}
use Rattle.std.specs.Prelude.{Some, map, slice_get, string_bytes, if◌then◌else◌}
use Rattle.std.specs.Str.{bytes_eq}
use Rattle.std.proofs.lemmas.Option.{slice_get_read}
use Rattle.std.proofs.lemmas.Slice.Eq.{bytes_eq-Decides}
use Rattle.std.proofs.Math.Seq.{drop-cons}
use Rattle.fx_io.specs.Held.{file_named}
use Rattle.fx_io.specs.Named.{File, name_and_bytes, IsFoundAt}

-- a file of this name in front is the first one
file_named-front : (f : File) (files : List File) (name : List ℕ) → bytes_eq (string_bytes f.0) name ≡ true → file_named (map name_and_bytes (f ∷ files)) name ≡ Some f.1.items
file_named-front f files name same = ap (λ (b : Bool). if b then Some f.1.items else file_named (map name_and_bytes files) name) same

-- where no file before index i has this name and the file there has it, it is the first one
pub found : (files : List File) (name : List ℕ) (i : ℕ) (f : File) → i < length files → f ≡ get_or files i f → string_bytes f.0 ≡ name → file_named (map name_and_bytes (drop i files)) name ≡ file_named (map name_and_bytes files) name → IsFoundAt files name i
found files name i f lt is called rest =
    let at : slice_get files i ≡ Some f = slice_get_read files (length files) i f refl lt is in
    let same : bytes_eq (string_bytes f.0) name ≡ true = (bytes_eq-Decides (string_bytes f.0) name).1 called in
    record {
      within = lt;
      called = rw at called;
      bytes = rw at (sym rest ∙ ap (λ l. file_named (map name_and_bytes l) name) (drop-cons files i f lt ∙ ap (λ g. g ∷ drop (suc i) files) (sym is)) ∙ file_named-front f (drop (suc i) files) name same);
    }

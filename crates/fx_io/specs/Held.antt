-- Files as pairs of a name and bytes, and what is left to read of one.
use Rattle.std.specs.Prelude.{◌≡◌, ℕ, ◌+◌, ◌≤◌, ◌<◌, List, [], ◌∷◌, length, take, drop, Option, Some, None, IfSome, MatchOption, if◌then◌else◌}
use Rattle.std.specs.Str.{bytes_eq}

-- the bytes of the first file of this name
abbrev pub file_named : List (List ℕ × List ℕ) → List ℕ → Option (List ℕ)
file_named [] name = None
file_named (f ∷ fs) name = if bytes_eq f.0 name then Some f.1 else file_named fs name

-- where the files held are told, the file of this name has exactly these bytes
abbrev pub IsContent : Option (List (List ℕ × List ℕ)) → List ℕ → List ℕ → Type 0
IsContent held name bytes = IfSome held (λ files. file_named files name ≡ Some bytes)

-- the files held are told, and none has this name
abbrev pub Lacks : Option (List (List ℕ × List ℕ)) → List ℕ → Type 0
Lacks held name = MatchOption held ⊥ (λ files. file_named files name ≡ None)

-- the place in the same file, n bytes further on
abbrev pub place_after : Option (List ℕ × ℕ) → ℕ → Option (List ℕ × ℕ)
place_after None n = None
place_after (Some at) n = Some (at.0, at.1 + n)

-- the bytes behind a place, if there is such a file
abbrev pub left_at : List (List ℕ × List ℕ) → Option (List ℕ × ℕ) → Option (List ℕ)
left_at files None = None
left_at files (Some at) =
    elim (file_named files at.0) [ None ↦ None | Some bytes ↦ Some (drop at.1 bytes) ]

-- the bytes behind a place, where the files held and the place are told
abbrev pub left_of : Option (List (List ℕ × List ℕ)) → Option (List ℕ × ℕ) → Option (List ℕ)
left_of None at = None
left_of (Some files) at = left_at files at

-- where what is left to read is told, it is exactly these bytes
abbrev pub IsLeft : Option (List ℕ) → List ℕ → Type 0
IsLeft left bytes = IfSome left (λ whole. whole ≡ bytes)

-- the front of the buffer has the next n bytes of those that were left; none for a buffer with room means the end
pub record Reads (left : List ℕ) (rest : Option (List ℕ)) (n : ℕ) (buf : List ℕ) : Type 0 where
  pub bytes : take n buf ≡ take n left
  pub within : n ≤ length left
  pub after : rest ≡ Some (drop n left)
  pub end : n ≡ 0 → 0 < length buf → left ≡ []

-- Laws of candidates.
use Rattle.std.specs.Prelude.{◌≡◌, ◌↔◌, ℕ, List, IsSome, IsTrue}
use Rattle.std.specs.List.{All}
use Rattle.c_tree.specs.declared.place.Loc.{Loc}
use Rattle.c_tree.specs.Tree.{Tree, bare, Outer}
use Rattle.schemas.specs.Candidates.{candidates, made_at}
use Rattle.schemas.specs.Same.{same}

-- each candidate of a location can be made there
abbrev pub CandidatesCanBeMade : Type 0
CandidatesCanBeMade = (program : List Outer) (l : Loc) (cost : ℕ)
    → All (λ edit. IsSome (made_at program l edit)) (candidates program l cost)

-- expressions pass the test of sameness exactly where they are equal without spans, slots and the spelling of constants
abbrev pub SameAreEqualWhenBare : Type 0
SameAreEqualWhenBare = (a b : Tree) → IsTrue (same a b) ↔ (bare a ≡ bare b)

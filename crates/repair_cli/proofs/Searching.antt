-- One step of the search after another.
use Rattle.std.proofs.Common.{◌≡◌, ℕ, ◌+◌, List, take, refl, sym, subst}
use Rattle.std.specs.Prelude.{Option, Some, None, slice_get, option_map}
use Rattle.std.specs.List.{All}
use Rattle.std.proofs.lemmas.List.Elements.{All-more}
use Rattle.std.proofs.lemmas.Option.{none-some, same_Some, slice_get_within, get_or_from_slice_get}
use Rattle.c_tree.specs.Tree.{Outer}
use Rattle.repair_job.specs.Job.{Job, PassesAll}
use Rattle.repair_job.specs.Answers.{Repairs, IsFirstRepair}
use Rattle.repair_job.specs.Patches.{Patch, patches, patched}

-- what an option maps to a value has a value in it
some_inside : (f : Patch → List Outer) (found : Option Patch) (other : List Outer) → option_map f found ≡ Some other → (patch : Patch) × (found ≡ Some patch) × (f patch ≡ other)
some_inside f None other e = absurd (none-some other e)
some_inside f (Some p) other e = (p, refl, same_Some (f p) other e)

-- the patch of a rank repairs, and no earlier one does
pub first_found : (job : Job) (other : List Outer) (rank : ℕ) → option_map (patched job) (slice_get (patches job) rank) ≡ Some other → PassesAll job other
    → All (λ patch. ¬ Repairs job patch) (take rank (patches job)) → IsFirstRepair job rank
first_found job other rank ranked passes first =
    let inside = some_inside (patched job) (slice_get (patches job) rank) other ranked in
    record { patch = inside.0; ranked = inside.1; repairs = subst (PassesAll job) (sym inside.2) passes; first = first }

-- the patch of a rank does not repair, and no earlier one does
pub not_found_yet : (job : Job) (other : List Outer) (rank : ℕ) → option_map (patched job) (slice_get (patches job) rank) ≡ Some other → ¬ PassesAll job other
    → All (λ patch. ¬ Repairs job patch) (take rank (patches job)) → All (λ patch. ¬ Repairs job patch) (take (rank + 1) (patches job))
not_found_yet job other rank ranked fails first =
    let inside = some_inside (patched job) (slice_get (patches job) rank) other ranked in
    let P : Patch → Type 0 = λ patch. ¬ Repairs job patch in
    let here : P inside.0 = λ repairs. fails (subst (PassesAll job) inside.2 repairs) in
    All-more P (patches job) rank inside.0 (slice_get_within (patches job) rank inside.0 inside.1) first (subst P (sym (get_or_from_slice_get (patches job) rank inside.0 inside.0 inside.1)) here)

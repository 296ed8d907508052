-- The law of programs in which what stands at one location becomes something else.
use Rattle.std.specs.Prelude.{◌≡◌, ℕ, Bool, List, [], Option}
use Rattle.c_tree.specs.declared.place.Loc.{Loc}
use Rattle.c_tree.specs.declared.stmt.Ty.{Ty}
use Rattle.c_tree.specs.Tree.{Tree, Code, Outer}
use Rattle.c_types.specs.declared.scope.Declaration.{Declaration}
use Rattle.c_types.specs.Evidence.{IsChecked}
use Rattle.c_types.specs.Expressions.{as_number, faults}
use Rattle.c_types.specs.Slots.{code_count, resolved_tree, resolved_code}
use Rattle.c_types.specs.Statements.{code_faults}
use Rattle.c_location.specs.Rewrites.{Rewrite, rewritten}

-- What stands in the place of a part fits there as the part does, whatever declarations are in
-- scope: of a number without a fault it makes another, and of a statement one with the same faults
-- that declares as many variables; and each name has its slot, where it had it before.
pub record FitsAsWell (r : Rewrite) : Type 0 where
  pub is_number : (ds : List Declaration) (e : Tree) → as_number ds e ≡ [] → faults ds e ≡ []
      → as_number ds (r.tree e) ≡ []
  pub faultless : (ds : List Declaration) (e : Tree) → as_number ds e ≡ [] → faults ds e ≡ []
      → faults ds (r.tree e) ≡ []
  pub slots : (ds : List Declaration) (e : Tree) → resolved_tree ds e ≡ e
      → resolved_tree ds (r.tree e) ≡ r.tree e
  pub same_faults : (ret : Option Ty) (ds : List Declaration) (in_loop : Bool) (c : Code)
      → code_faults ret ds in_loop (r.code c) ≡ code_faults ret ds in_loop c
  pub code_slots : (ds : List Declaration) (n : ℕ) (c : Code) → resolved_code ds n c ≡ c
      → resolved_code ds n (r.code c) ≡ r.code c
  pub same_count : (c : Code) → code_count (r.code c) ≡ code_count c

-- a checked program in which what stands at a location is rewritten so is a checked program
abbrev pub RewrittenIsChecked : Type 0
RewrittenIsChecked = (r : Rewrite) → FitsAsWell r → (p : List Outer) → IsChecked p → (l : Loc)
    → IsChecked (rewritten l r p)

-- An edit at a location of a resolved program makes a resolved program, where its atoms denote variables in the scope there.
use Rattle.std.proofs.Common.{◌≡◌, ℕ, List, refl, ap, ◌∙◌, add-zero}
use Rattle.c_tree.specs.declared.place.Loc.{Loc}
use Rattle.c_tree.specs.declared.place.Span.{Span}
use Rattle.c_tree.specs.Parts.{span_of_code}
use Rattle.c_tree.specs.Tree.{Code, block, if_then, next, done, Outer}
use Rattle.c_types.specs.declared.scope.Declaration.{Declaration}
use Rattle.c_types.specs.Slots.{code_count, resolved_code, resolved}
use Rattle.c_location.specs.Rewrites.{rewritten}
use Rattle.schemas.specs.declared.atom.Bound.{Bound}
use Rattle.schemas.specs.declared.edit.Edit.{Edit}
use Rattle.schemas.specs.declared.edit.Edit.TheVariants.{Op, Leaf, Plus, Side, Negate, Take, Narrow, Widen, Guard}
use Rattle.schemas.specs.Edits.{edited}
use Rattle.patch_space.proofs.NewTrees.{Sees, Denotes, edited_resolved, bound_resolved}
use Rattle.rewrite_laws.proofs.NumbersThere.{And}
use Rattle.patch_space.proofs.EditedFaults.{SeesFor, under, edited_code, rewrite_by, keeps}
use Rattle.rewrite_laws.proofs.SeesThere.{InProgram}
use Rattle.rewrite_laws.proofs.ThereFaults.{function_declaration-kept}
use Rattle.rewrite_laws.proofs.ThereSlots.{KeepsSlots, program-slots}

under_resolved : (ds : List Declaration) (n : ℕ) (b : Bound) (c : Code) → Denotes ds b.left → Denotes ds b.right → resolved_code ds n c ≡ c
    → resolved_code ds n (under b c) ≡ under b c
under_resolved ds n b c p q was =
    let s : Span = span_of_code c in
    let test = bound_resolved ds b s p q in
    λ i. block (next (if_then (test i) (was i) s) done) s

code_resolved : (edit : Edit) (ds : List Declaration) (n : ℕ) (c : Code) → Sees ds edit → resolved_code ds n c ≡ c → resolved_code ds n (edited_code edit c) ≡ edited_code edit c
code_resolved (Op op) ds n c sees was = was
code_resolved (Leaf k a) ds n c sees was = was
code_resolved (Plus up) ds n c sees was = was
code_resolved (Side up) ds n c sees was = was
code_resolved Negate ds n c sees was = was
code_resolved (Take a) ds n c sees was = was
code_resolved (Narrow b) ds n c sees was = was
code_resolved (Widen b) ds n c sees was = was
code_resolved (Guard b) ds n c sees was = under_resolved ds n b c sees.0 sees.1 was

code_counted : (edit : Edit) (c : Code) → code_count (edited_code edit c) ≡ code_count c
code_counted (Op op) c = refl
code_counted (Leaf k a) c = refl
code_counted (Plus up) c = refl
code_counted (Side up) c = refl
code_counted Negate c = refl
code_counted (Take a) c = refl
code_counted (Narrow b) c = refl
code_counted (Widen b) c = refl
code_counted (Guard b) c = add-zero (code_count c)

keeps_slots : (edit : Edit) → KeepsSlots (SeesFor edit) (λ ds. Sees ds edit) (rewrite_by edit)
keeps_slots edit = record {
  tree = λ ds e sees was. edited_resolved ds e edit sees ∙ ap (λ z. edited z edit) was;
  code = λ ds n c sees was. code_resolved edit ds n c sees was;
  count = code_counted edit;
}

-- the program that an edit makes is resolved
pub edited_is_resolved : (p : List Outer) (l : Loc) (edit : Edit) → InProgram l (SeesFor edit) (λ ds. Sees ds edit) p → resolved p ≡ p
    → resolved (rewritten l (rewrite_by edit) p) ≡ rewritten l (rewrite_by edit) p
edited_is_resolved p l edit sees was =
    program-slots l (rewrite_by edit) (SeesFor edit) (λ ds. Sees ds edit) (keeps_slots edit) p
    (λ f. function_declaration-kept l (rewrite_by edit) (And (SeesFor edit)) (λ ds. Sees ds edit) (keeps edit) p f) sees was

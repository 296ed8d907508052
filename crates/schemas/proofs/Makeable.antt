-- That each candidate of a location can be made there.
use Rattle.std.proofs.Common.{ℕ, zero, suc, ◌+◌, min, Bool, true, false, if◌then◌else◌, nat_eq, List, [], ◌∷◌, ◌++◌, map, Option, Some, None, refl}
use Rattle.std.specs.Prelude.{IsSome}
use Rattle.std.specs.List.{All}
use Rattle.std.proofs.lemmas.List.Elements.{All-nil, All-cons, All-head, All-tail, All-append}
use Rattle.c_tree.specs.declared.expr.BinOp.{BinOp}
use Rattle.c_tree.specs.declared.place.Loc.{Loc}
use Rattle.c_tree.specs.declared.place.LocKind.{LocKind}
use Rattle.c_tree.specs.declared.place.LocKind.TheVariants as which
use Rattle.c_tree.specs.Tree.{Tree, binary, is_pure, Code, Outer}
use Rattle.c_location.specs.Locations.{Part, expression, statement, part_at}
use Rattle.schemas.specs.declared.atom.Atom.{Atom}
use Rattle.schemas.specs.declared.edit.Edit.{Edit}
use Rattle.schemas.specs.declared.edit.Edit.TheVariants.{Op, Leaf, Plus, Side, Negate, Take, Narrow, Widen, Guard}
use Rattle.schemas.specs.Atoms.{atoms_at}
use Rattle.schemas.specs.Bounds.{bounds}
use Rattle.schemas.specs.Edits.{made}
use Rattle.schemas.specs.Leaves.{leaves}
use Rattle.schemas.specs.Candidates.{other_operators, other_arithmetic, is_comparison, operator_edits, leaf_edits, side_edits, if_pure, condition_edits, right_side_edits, guard_edits, edits_of, edits_upto, is_among, and_made, and_all_made, new_edits, old, candidates_of, candidates_there, candidates, made_there, made_at}

-- an edit makes an expression of a part
abbrev Makes : Part → Edit → Type 0
Makes part edit = IsSome (made part edit)

-- all elements of a list, whose form doesn't matter, pass
each : {A B : Type 0} (P : B → Type 0) (f : A → B) → ((a : A) → P (f a)) → (xs : List A) → All P (map f xs)
each P f h [] = All-nil P
each P f h (x ∷ xs) = All-cons P (f x) (map f xs) (h x) (each P f h xs)

-- those that are chosen pass
chosen : (P : Edit → Type 0) (b : Bool) (xs ys : List Edit) → All P xs → All P ys → All P (if b then xs else ys)
chosen P true xs ys p q = p
chosen P false xs ys p q = q

module _ (e : Tree) where
  abbrev here : Edit → Type 0
  here = Makes (expression e)

  operators : (others : BinOp → List BinOp) (t : Tree) → All here (operator_edits others t)
  operators others (binary op l r s) = each here (λ new. Op new) (λ new. refl) (others op)
  operators others _ = All-nil here

  leaves_each : (atoms : List Atom) (k count : ℕ) → All here (leaf_edits atoms k count)
  leaves_each atoms k zero = All-nil here
  leaves_each atoms k (suc count) =
      All-append here (map (λ a. Leaf k a) atoms) (leaf_edits atoms (k + 1) count) (each here (λ a. Leaf k a) (λ a. refl) atoms) (leaves_each atoms (k + 1) count)

  two : (x y : Edit) → here x → here y → All here (x ∷ y ∷ [])
  two x y p q = All-cons here x (y ∷ []) p (All-cons here y [] q (All-nil here))

  sides : (t : Tree) → All here (side_edits t)
  sides (binary op l r s) = chosen here (is_comparison op) (Side true ∷ Side false ∷ []) [] (two (Side true) (Side false) refl refl) (All-nil here)
  sides _ = All-nil here

  pure : (edits : List Edit) → All here edits → All here (if_pure e edits)
  pure edits h = chosen here (is_pure e) edits [] h (All-nil here)

  conditions : (atoms : List Atom) (cost : ℕ) → All here (condition_edits atoms e cost)
  conditions atoms cost =
      chosen here (nat_eq cost 1) _ _ (pure (operator_edits other_operators e) (operators other_operators e))
      (chosen here (nat_eq cost 2) _ _ (pure (leaf_edits atoms 0 (min (leaves e) 8) ++ side_edits e) (All-append here (leaf_edits atoms 0 (min (leaves e) 8)) (side_edits e) (leaves_each atoms 0 (min (leaves e) 8)) (sides e)))
      (chosen here (nat_eq cost 3) _ _ (pure (Negate ∷ []) (All-cons here Negate [] refl (All-nil here)))
      (chosen here (nat_eq cost 4) _ _ (each here (λ b. Narrow b) (λ b. refl) (bounds atoms))
      (chosen here (nat_eq cost 5) _ _ (each here (λ b. Widen b) (λ b. refl) (bounds atoms)) (All-nil here)))))

  right_sides : (atoms : List Atom) (cost : ℕ) → All here (right_side_edits atoms e cost)
  right_sides atoms cost =
      chosen here (nat_eq cost 1) _ _ (pure (operator_edits other_arithmetic e) (operators other_arithmetic e))
      (chosen here (nat_eq cost 2) _ _ (pure (leaf_edits atoms 0 (min (leaves e) 8) ++ (Plus true ∷ Plus false ∷ [])) (All-append here (leaf_edits atoms 0 (min (leaves e) 8)) (Plus true ∷ Plus false ∷ []) (leaves_each atoms 0 (min (leaves e) 8)) (two (Plus true) (Plus false) refl refl)))
      (chosen here (nat_eq cost 3) _ _ (pure (map (λ a. Take a) atoms) (each here (λ a. Take a) (λ a. refl) atoms)) (All-nil here)))

guards : (c : Code) (atoms : List Atom) (cost : ℕ) → All (Makes (statement c)) (guard_edits atoms cost)
guards c atoms cost =
    chosen (Makes (statement c)) (nat_eq cost 6) _ _ (each (Makes (statement c)) (λ b. Guard b) (λ b. refl) (bounds atoms)) (All-nil (Makes (statement c)))

all_made : (kind : LocKind) (atoms : List Atom) (part : Part) (cost : ℕ) → All (Makes part) (edits_of kind atoms part cost)
all_made which.Cond atoms (expression e) cost = conditions e atoms cost
all_made which.Right atoms (expression e) cost = right_sides e atoms cost
all_made which.Guard atoms (statement c) cost = guards c atoms cost
all_made _ atoms part cost = All-nil (Makes part)

-- so are those that are left
new_made : (part : Part) (seen : List Tree) (edits : List Edit) → All (Makes part) edits → All (Makes part) (new_edits part seen edits)
new_made part seen [] h = All-nil (Makes part)
new_made part seen (x ∷ xs) h =
    let rest : All (Makes part) xs = All-tail (Makes part) x xs h in
    chosen (Makes part) (is_among (made part x) seen) _ _ (new_made part seen xs rest)
    (All-cons (Makes part) x (new_edits part (and_made seen (made part x)) xs) (All-head (Makes part) x xs h) (new_made part (and_made seen (made part x)) xs rest))

part_made : (kind : LocKind) (atoms : List Atom) (part : Part) (cost : ℕ) → All (Makes part) (candidates_of kind atoms part cost)
part_made kind atoms part zero = All-nil (Makes part)
part_made kind atoms part (suc n) =
    new_made part (and_all_made part (old part) (edits_upto kind atoms part n)) (edits_of kind atoms part (suc n)) (all_made kind atoms part (suc n))

there_made : (kind : LocKind) (atoms : List Atom) (o : Option Part) (cost : ℕ) → All (λ edit. IsSome (made_there o edit)) (candidates_there kind atoms o cost)
there_made kind atoms None cost = All-nil (λ edit. IsSome (made_there None edit))
there_made kind atoms (Some part) cost = part_made kind atoms part cost

pub candidates_made : (program : List Outer) (l : Loc) (cost : ℕ) → All (λ edit. IsSome (made_at program l edit)) (candidates program l cost)
candidates_made program l cost = there_made l.kind (atoms_at l.at.from program) (part_at l program) cost

-- The atoms of a location's candidates denote variables in its scope, where the scope shows all that is visible there.
use Rattle.std.proofs.Common.{◌≡◌, ℕ, zero, suc, ◌+◌, min, Bool, true, false, not, if◌then◌else◌, nat_eq, List, [], ◌∷◌, ◌++◌, map, take, Option, Some, None, refl}
use Rattle.std.specs.List.{All, flat_map}
use Rattle.std.proofs.lemmas.List.Elements.{All-nil, All-cons, All-head, All-tail, All-append, All-take}
use Rattle.c_tree.specs.declared.expr.BinOp.{BinOp}
use Rattle.c_tree.specs.declared.place.Loc.{Loc}
use Rattle.c_tree.specs.declared.place.LocKind.{LocKind}
use Rattle.c_tree.specs.declared.place.LocKind.TheVariants as which
use Rattle.c_tree.specs.Tree.{Tree, binary, is_pure, Outer}
use Rattle.c_types.specs.declared.scope.Declaration.{Declaration}
use Rattle.c_types.specs.declared.visible.Visible.{Visible}
use Rattle.c_types.specs.Visible.{visible_at}
use Rattle.c_location.specs.Locations.{Part, expression, statement, part_at}
use Rattle.schemas.specs.declared.atom.Atom.{Atom}
use Rattle.schemas.specs.declared.atom.Bound.{Bound}
use Rattle.schemas.specs.declared.edit.Edit.{Edit}
use Rattle.schemas.specs.declared.edit.Edit.TheVariants.{Op, Leaf, Plus, Side, Negate, Take, Narrow, Widen, Guard}
use Rattle.schemas.specs.Atoms.{variable_atom, numbers, first_variables, zero as zero_atom, one as one_atom, constant_atom, is_known, further, atoms_at}
use Rattle.schemas.specs.Bounds.{comparisons, is_variable, bounds_by, bounds}
use Rattle.schemas.specs.Candidates.{other_operators, other_arithmetic, is_comparison, operator_edits, leaf_edits, side_edits, if_pure, condition_edits, right_side_edits, guard_edits, edits_of, edits_upto, is_among, and_made, and_all_made, new_edits, old, candidates_of, candidates_there, candidates}
use Rattle.schemas.specs.Constants.{Constant, constants_at}
use Rattle.schemas.specs.Edits.{made}
use Rattle.schemas.specs.Leaves.{leaves}
use Rattle.scope_laws.specs.Seen.{IsMeant}
use Rattle.patch_space.proofs.NewTrees.{Denotes, Sees}

module _ (ds : List Declaration) where
  -- a variable that is no array, as an atom
  number_shown : (v : Visible) → v.array ≡ false → IsMeant ds v → Denotes ds (variable_atom v)
  number_shown v is h = (v.ty, cc)

  numbers_shown : (vs : List Visible) → All (IsMeant ds) vs → All (λ v. Denotes ds (variable_atom v)) (numbers vs)
  numbers_shown [] h = All-nil (λ v. Denotes ds (variable_atom v))
  numbers_shown (v ∷ vs) h = by_test v.array refl (numbers_shown vs (All-tail (IsMeant ds) v vs h))
    where
      by_test : (b : Bool) → v.array ≡ b → All (λ w. Denotes ds (variable_atom w)) (numbers vs) → All (λ w. Denotes ds (variable_atom w)) (if not b then v ∷ numbers vs else numbers vs)
      by_test true is rest = rest
      by_test false is rest = All-cons (λ w. Denotes ds (variable_atom w)) v (numbers vs) (number_shown v is (All-head (IsMeant ds) v vs h)) rest

  -- all elements that a function makes of those of a list
  each : {A B : Type 0} (P : B → Type 0) (Q : A → Type 0) (f : A → B) → ((a : A) → Q a → P (f a)) → (xs : List A) → All Q xs → All P (map f xs)
  each P Q f h [] k = All-nil P
  each P Q f h (x ∷ xs) k = All-cons P (f x) (map f xs) (h x (All-head Q x xs k)) (each P Q f h xs (All-tail Q x xs k))

  further_shown : (before : List Atom) (cs : List Constant) → All (Denotes ds) (further before cs)
  further_shown before [] = All-nil (Denotes ds)
  further_shown before (c ∷ cs) = by_test (is_known before c) (further_shown before cs) (further_shown (before ++ constant_atom c ∷ []) cs)
    where
      by_test : (b : Bool) → All (Denotes ds) (further before cs) → All (Denotes ds) (further (before ++ constant_atom c ∷ []) cs)
          → All (Denotes ds) (if b then further before cs else (constant_atom c ∷ further (before ++ constant_atom c ∷ []) cs))
      by_test true p q = p
      by_test false p q = All-cons (Denotes ds) (constant_atom c) (further (before ++ constant_atom c ∷ []) cs) tt q

  pub atoms_shown : (place : ℕ) (program : List Outer) → All (IsMeant ds) (visible_at place program) → All (Denotes ds) (atoms_at place program)
  atoms_shown place program h =
      let vs : List Visible = visible_at place program in
      let rest : List Atom = take 4 (further (zero_atom ∷ one_atom ∷ []) (constants_at place program)) in
      All-append (Denotes ds) (first_variables vs) (zero_atom ∷ one_atom ∷ rest)
      (each (Denotes ds) (λ v. Denotes ds (variable_atom v)) variable_atom (λ v d. d) (take 8 (numbers vs)) (All-take (λ v. Denotes ds (variable_atom v)) 8 (numbers vs) (numbers_shown vs h)))
      (All-cons (Denotes ds) zero_atom (one_atom ∷ rest) tt (All-cons (Denotes ds) one_atom rest tt
      (All-take (Denotes ds) 4 (further (zero_atom ∷ one_atom ∷ []) (constants_at place program)) (further_shown (zero_atom ∷ one_atom ∷ []) (constants_at place program)))))

  -- both sides of a bound
  abbrev Both : Bound → Type 0
  Both b = Denotes ds b.left × Denotes ds b.right

  abbrev Any : BinOp → Type 0
  Any op = Unit {0}

  any_all : (ops : List BinOp) → All Any ops
  any_all [] = All-nil Any
  any_all (op ∷ ops) = All-cons Any op ops tt (any_all ops)

  bounds_of : (x : Atom) (later : List Atom) → Denotes ds x → All (Denotes ds) later → All Both (flat_map (bounds_by x) later)
  bounds_of x [] p h = All-nil Both
  bounds_of x (y ∷ ys) p h =
      let q : Denotes ds y = All-head (Denotes ds) y ys h in
      All-append Both (bounds_by x y) (flat_map (bounds_by x) ys)
      (each Both Any (λ op. record { left = x; op = op; right = y }) (λ op _. (p, q)) comparisons (any_all comparisons))
      (bounds_of x ys p (All-tail (Denotes ds) y ys h))

  bounds_shown : (atoms : List Atom) → All (Denotes ds) atoms → All Both (bounds atoms)
  bounds_shown [] h = All-nil Both
  bounds_shown (x ∷ later) h =
      let rest : All (Denotes ds) later = All-tail (Denotes ds) x later h in
      All-append Both (if is_variable x then flat_map (bounds_by x) later else []) (bounds later)
      (by_test (is_variable x) rest) (bounds_shown later rest)
    where
      by_test : (b : Bool) → All (Denotes ds) later → All Both (if b then flat_map (bounds_by x) later else [])
      by_test true rest = bounds_of x later (All-head (Denotes ds) x later h) rest
      by_test false rest = All-nil Both

  chosen : (b : Bool) (xs ys : List Edit) → All (Sees ds) xs → All (Sees ds) ys → All (Sees ds) (if b then xs else ys)
  chosen true xs ys p q = p
  chosen false xs ys p q = q

  none : All (Sees ds) []
  none = All-nil (Sees ds)

  operators : (others : BinOp → List BinOp) (t : Tree) → All (Sees ds) (operator_edits others t)
  operators others (binary op l r s) = each (Sees ds) Any (λ new. Op new) (λ new _. tt) (others op) (any_all (others op))
  operators others _ = none

  module _ (atoms : List Atom) (shown : All (Denotes ds) atoms) where
    leaves_each : (k count : ℕ) → All (Sees ds) (leaf_edits atoms k count)
    leaves_each k zero = none
    leaves_each k (suc count) =
        All-append (Sees ds) (map (λ a. Leaf k a) atoms) (leaf_edits atoms (k + 1) count) (each (Sees ds) (Denotes ds) (λ a. Leaf k a) (λ a d. d) atoms shown) (leaves_each (k + 1) count)

    two : (x y : Edit) → Sees ds x → Sees ds y → All (Sees ds) (x ∷ y ∷ [])
    two x y p q = All-cons (Sees ds) x (y ∷ []) p (All-cons (Sees ds) y [] q none)

    sides : (t : Tree) → All (Sees ds) (side_edits t)
    sides (binary op l r s) = chosen (is_comparison op) (Side true ∷ Side false ∷ []) [] (two (Side true) (Side false) tt tt) none
    sides _ = none

    pure : (e : Tree) (edits : List Edit) → All (Sees ds) edits → All (Sees ds) (if_pure e edits)
    pure e edits h = chosen (is_pure e) edits [] h none

    conditions : (e : Tree) (cost : ℕ) → All (Sees ds) (condition_edits atoms e cost)
    conditions e cost =
        chosen (nat_eq cost 1) _ _ (pure e (operator_edits other_operators e) (operators other_operators e))
        (chosen (nat_eq cost 2) _ _ (pure e (leaf_edits atoms 0 (min (leaves e) 8) ++ side_edits e) (All-append (Sees ds) (leaf_edits atoms 0 (min (leaves e) 8)) (side_edits e) (leaves_each 0 (min (leaves e) 8)) (sides e)))
        (chosen (nat_eq cost 3) _ _ (pure e (Negate ∷ []) (All-cons (Sees ds) Negate [] tt none))
        (chosen (nat_eq cost 4) _ _ (each (Sees ds) Both (λ b. Narrow b) (λ b d. d) (bounds atoms) (bounds_shown atoms shown))
        (chosen (nat_eq cost 5) _ _ (each (Sees ds) Both (λ b. Widen b) (λ b d. d) (bounds atoms) (bounds_shown atoms shown)) none))))

    right_sides : (e : Tree) (cost : ℕ) → All (Sees ds) (right_side_edits atoms e cost)
    right_sides e cost =
        chosen (nat_eq cost 1) _ _ (pure e (operator_edits other_arithmetic e) (operators other_arithmetic e))
        (chosen (nat_eq cost 2) _ _ (pure e (leaf_edits atoms 0 (min (leaves e) 8) ++ (Plus true ∷ Plus false ∷ [])) (All-append (Sees ds) (leaf_edits atoms 0 (min (leaves e) 8)) (Plus true ∷ Plus false ∷ []) (leaves_each 0 (min (leaves e) 8)) (two (Plus true) (Plus false) tt tt)))
        (chosen (nat_eq cost 3) _ _ (pure e (map (λ a. Take a) atoms) (each (Sees ds) (Denotes ds) (λ a. Take a) (λ a d. d) atoms shown)) none))

    guards : (cost : ℕ) → All (Sees ds) (guard_edits atoms cost)
    guards cost = chosen (nat_eq cost 6) _ _ (each (Sees ds) Both (λ b. Guard b) (λ b d. d) (bounds atoms) (bounds_shown atoms shown)) none

    edits_shown : (kind : LocKind) (part : Part) (cost : ℕ) → All (Sees ds) (edits_of kind atoms part cost)
    edits_shown which.Cond (expression e) cost = conditions e cost
    edits_shown which.Right (expression e) cost = right_sides e cost
    edits_shown which.Guard (statement c) cost = guards cost
    edits_shown _ part cost = none

    new_shown : (part : Part) (seen : List Tree) (edits : List Edit) → All (Sees ds) edits → All (Sees ds) (new_edits part seen edits)
    new_shown part seen [] h = none
    new_shown part seen (x ∷ xs) h =
        let rest : All (Sees ds) xs = All-tail (Sees ds) x xs h in
        chosen (is_among (made part x) seen) _ _ (new_shown part seen xs rest)
        (All-cons (Sees ds) x (new_edits part (and_made seen (made part x)) xs) (All-head (Sees ds) x xs h) (new_shown part (and_made seen (made part x)) xs rest))

    part_shown : (kind : LocKind) (part : Part) (cost : ℕ) → All (Sees ds) (candidates_of kind atoms part cost)
    part_shown kind part zero = none
    part_shown kind part (suc n) =
        new_shown part (and_all_made part (old part) (edits_upto kind atoms part n)) (edits_of kind atoms part (suc n)) (edits_shown kind part (suc n))

    there_shown : (kind : LocKind) (o : Option Part) (cost : ℕ) → All (Sees ds) (candidates_there kind atoms o cost)
    there_shown kind None cost = none
    there_shown kind (Some part) cost = part_shown kind part cost

  -- the atoms of a location's candidates denote variables in a scope that shows all that is visible there
  pub candidates_shown : (program : List Outer) (l : Loc) (cost : ℕ) → All (IsMeant ds) (visible_at l.at.from program) → All (Sees ds) (candidates program l cost)
  candidates_shown program l cost h =
      there_shown (atoms_at l.at.from program) (atoms_shown l.at.from program h) l.kind (part_at l program) cost

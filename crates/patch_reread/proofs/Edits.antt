-- What candidates make of a part suits its location: each word of the new expression is its token.
use Rattle.std.proofs.Common.{◌≡◌, ℕ, zero, suc, ◌+◌, ◌-◌, Bool, true, false, nat_eq, nat_lt, min, if◌then◌else◌, List, [], ◌∷◌, ◌++◌, map, Option, Some, None, refl, sym, subst, codes, pos, All}
use Rattle.std.specs.List.{flat_map}
use Rattle.std.proofs.lemmas.List.Elements.{All-nil, All-cons, All-append, All-head, All-tail}
use Rattle.c_lex.specs.declared.token.TokenKind.TheVariants as kind
use Rattle.c_lex.specs.Tokens.{Macros}
use Rattle.c_tree.specs.declared.expr.BinOp.{BinOp}
use Rattle.c_tree.specs.declared.place.Loc.{Loc}
use Rattle.c_tree.specs.declared.place.LocKind.{LocKind}
use Rattle.c_tree.specs.declared.place.LocKind.TheVariants as which
use Rattle.c_tree.specs.declared.place.Span.{Span}
use Rattle.c_tree.specs.Parts.{span_of, span_of_code}
use Rattle.c_tree.specs.Tree.{Tree, constant, name, index, call, unary, cast, binary, choice, assign, bump, comma, hole, hole_after, is_pure, Outer}
use Rattle.c_location.specs.Locations.{Part, expression, statement, part_at}
use Rattle.schemas.specs.declared.atom.Atom.{Atom}
use Rattle.schemas.specs.declared.atom.Atom.TheVariants.{Var, Num}
use Rattle.schemas.specs.declared.atom.Bound.{Bound}
use Rattle.schemas.specs.declared.edit.Edit.{Edit}
use Rattle.schemas.specs.declared.edit.Edit.TheVariants.{Op, Leaf, Plus, Side, Negate, Take, Narrow, Widen, Guard}
use Rattle.schemas.specs.Atoms.{one, atoms_at}
use Rattle.schemas.specs.Bounds.{comparisons, is_variable, bounds_by, bounds}
use Rattle.schemas.specs.Candidates.{other_operators, other_arithmetic, operator_edits, leaf_edits, side_edits, is_comparison, if_pure, condition_edits, right_side_edits, guard_edits, edits_of, edits_upto, is_among, and_made, and_all_made, new_edits, old, candidates_of, candidates_there, candidates}
use Rattle.schemas.specs.Edits.{with_operator, by_one, side_by_one, bound_tree, edited, made}
use Rattle.schemas.specs.Leaves.{atom_tree, leaves, with_leaf}
use Rattle.patch_space.specs.Space.{Change, replaced, narrowed, widened, guarded, change_of, change_there}
use Rattle.c_splice.specs.Words.{IsWordOf}
use Rattle.printed_tokens.specs.Laws.{PurePrints}
use Rattle.printed_tokens.specs.PrintedKinds.{Printable}
use Rattle.printed_tokens.specs.Sourced.{Sourced, SourcedProgram}
use Rattle.patch_reread.specs.Suits.{Suits}
use Rattle.patch_reread.proofs.Atoms.{SourcedAtom, atoms-sourced}
use Rattle.patch_reread.proofs.Parts.{SourcedPart, part-fine}

-- what holds of two lists holds of the one that a test chooses
by_test : {X : Type 0} (P : X → Type 0) (b : Bool) (xs ys : List X) → All P xs → All P ys
    → All P (if b then xs else ys)
by_test P true xs ys f g = f
by_test P false xs ys f g = g

-- the bound of an atom by another
abbrev bound_of : Atom → Atom → BinOp → Bound
bound_of x y op = record { left = x; op = op; right = y }

-- the atoms of a bound
abbrev SourcedBound : Macros → Bound → Type 0
SourcedBound m b = SourcedAtom m b.left × SourcedAtom m b.right

-- what an edit makes of a part at a location of that kind suits it
abbrev Makes : Macros → LocKind → Part → Edit → Type 0
Makes m k part edit = (c : Change) → change_of edit part ≡ Some c → Suits m k c

module _ (m : Macros) where
  -- ---- new expressions

  chosen : (b : Bool) (x y : Tree) → Printable m x → Printable m y
      → Printable m (if b then x else y)
  chosen true x y f g = f
  chosen false x y f g = g

  atom-prints : (a : Atom) (s : Span) → SourcedAtom m a → Printable m (atom_tree a s)
  atom-prints (Var w v) s h = h
  atom-prints (Num n w) s h = h

  leaf-prints : (k : ℕ) (a : Atom) (e : Tree) → SourcedAtom m a → Printable m e
      → Printable m (with_leaf k a e)
  leaf-prints k a (constant n w s) h p =
      chosen (nat_eq k 0) (atom_tree a s) (constant n w s) (atom-prints a s h) p
  leaf-prints k a (name w v s) h p =
      chosen (nat_eq k 0) (atom_tree a s) (name w v s) (atom-prints a s h) p
  leaf-prints k a (index w v e s) h p = (p.0, leaf-prints k a e h p.1)
  leaf-prints k a (call w x s) h p = absurd p
  leaf-prints k a (unary op e s) h p = leaf-prints k a e h p
  leaf-prints k a (cast ty e s) h p = leaf-prints k a e h p
  leaf-prints k a (binary op l r s) h p =
      chosen (nat_lt k (leaves l)) (binary op (with_leaf k a l) r s)
      (binary op l (with_leaf (k - leaves l) a r) s) (leaf-prints k a l h p.0, p.1)
      (p.0, leaf-prints (k - leaves l) a r h p.1)
  leaf-prints k a (choice t b c s) h p =
      chosen (nat_lt k (leaves t)) (choice (with_leaf k a t) b c s)
      (if nat_lt (k - leaves t) (leaves b) then choice t (with_leaf (k - leaves t) a b) c s
      else choice t b (with_leaf (k - leaves t - leaves b) a c) s)
      (leaf-prints k a t h p.0, p.1, p.2)
      (chosen (nat_lt (k - leaves t) (leaves b)) (choice t (with_leaf (k - leaves t) a b) c s)
      (choice t b (with_leaf (k - leaves t - leaves b) a c) s)
      (p.0, leaf-prints (k - leaves t) a b h p.1, p.2)
      (p.0, p.1, leaf-prints (k - leaves t - leaves b) a c h p.2))
  leaf-prints k a (assign op place e s) h p = absurd p
  leaf-prints k a (bump before up place s) h p = absurd p
  leaf-prints k a (comma l r s) h p =
      chosen (nat_lt k (leaves l)) (comma (with_leaf k a l) r s)
      (comma l (with_leaf (k - leaves l) a r) s) (leaf-prints k a l h p.0, p.1)
      (p.0, leaf-prints (k - leaves l) a r h p.1)
  leaf-prints k a hole h p = absurd p
  leaf-prints k a (hole_after e) h p = absurd p

  operator-prints : (op : BinOp) (e : Tree) → Printable m e → Printable m (with_operator op e)
  operator-prints op (binary o l r s) p = p
  operator-prints op _ p = p

  bound-prints : (b : Bound) (s : Span) → SourcedBound m b → Printable m (bound_tree b s)
  bound-prints b s h = (atom-prints b.left s h.0, atom-prints b.right s h.1)

  bounds_by-sourced : (x y : Atom) → SourcedAtom m x → SourcedAtom m y
      → All (SourcedBound m) (bounds_by x y)
  bounds_by-sourced x y f g = by_each comparisons
    where
      by_each : (ops : List BinOp)
          → All (SourcedBound m) (map (bound_of x y) ops)
      by_each [] = All-nil (SourcedBound m)
      by_each (op ∷ ops) =
          All-cons (SourcedBound m) (bound_of x y op) (map (bound_of x y) ops) (f, g) (by_each ops)

  bounds_all-sourced : (x : Atom) (later : List Atom) → SourcedAtom m x
      → All (SourcedAtom m) later → All (SourcedBound m) (flat_map (bounds_by x) later)
  bounds_all-sourced x [] f a = All-nil (SourcedBound m)
  bounds_all-sourced x (y ∷ later) f a =
      All-append (SourcedBound m) (bounds_by x y) (flat_map (bounds_by x) later)
      (bounds_by-sourced x y f (All-head (SourcedAtom m) y later a))
      (bounds_all-sourced x later f (All-tail (SourcedAtom m) y later a))

  bounds-sourced : (atoms : List Atom) → All (SourcedAtom m) atoms
      → All (SourcedBound m) (bounds atoms)
  bounds-sourced [] a = All-nil (SourcedBound m)
  bounds-sourced (x ∷ later) a =
      All-append (SourcedBound m) (if is_variable x then flat_map (bounds_by x) later else [])
      (bounds later)
      (by_test (SourcedBound m) (is_variable x) (flat_map (bounds_by x) later) []
      (bounds_all-sourced x later (All-head (SourcedAtom m) x later a)
      (All-tail (SourcedAtom m) x later a))
      (All-nil (SourcedBound m)))
      (bounds-sourced later (All-tail (SourcedAtom m) x later a))

  -- ---- edits

  -- it makes this change
  makes : (k : LocKind) (part : Part) (edit : Edit) (c : Change) → change_of edit part ≡ Some c
      → Suits m k c → Makes m k part edit
  makes k part edit c is h = λ d e. let same : c ≡ d = cc in subst (Suits m k) same h

  module _ (unit : IsWordOf m (codes "1") (kind.Const (pos 1) (codes "1")))
      (prints : PurePrints) (k : LocKind) (e : Tree)
      (suits : (new : Tree) → Printable m new → Suits m k (replaced new))
      (words : Sourced m e) where
    abbrev Made : Edit → Type 0
    Made = Makes m k (expression e)

    -- where the expression is pure
    pure-makes : (edits : List Edit) → (Printable m e → All Made edits)
        → All Made (if_pure e edits)
    pure-makes edits f = by (is_pure e) refl
      where
        by : (b : Bool) → is_pure e ≡ b → All Made (if b then edits else [])
        by true is = f (prints m e is words)
        by false is = All-nil Made

    module _ (p : Printable m e) where
      op-makes : (op : BinOp) → Made (Op op)
      op-makes op =
          makes k (expression e) (Op op) (replaced (edited e (Op op))) refl
          (suits (with_operator op e) (operator-prints op e p))

      ops-make : (ops : List BinOp) → All Made (map (λ op. Op op) ops)
      ops-make [] = All-nil Made
      ops-make (op ∷ ops) =
          All-cons Made (Op op) (map (λ o. Op o) ops) (op-makes op) (ops-make ops)

      operators-make : (others : BinOp → List BinOp) (t : Tree) → All Made (operator_edits others t)
      operators-make others (binary op l r s) = ops-make (others op)
      operators-make others _ = All-nil Made

      leaf-makes : (i : ℕ) (a : Atom) → SourcedAtom m a → Made (Leaf i a)
      leaf-makes i a h =
          makes k (expression e) (Leaf i a) (replaced (edited e (Leaf i a))) refl
          (suits (with_leaf i a e) (leaf-prints i a e h p))

      atoms-make : (i : ℕ) (atoms : List Atom) → All (SourcedAtom m) atoms
          → All Made (map (λ a. Leaf i a) atoms)
      atoms-make i [] h = All-nil Made
      atoms-make i (a ∷ atoms) h =
          All-cons Made (Leaf i a) (map (λ b. Leaf i b) atoms)
          (leaf-makes i a (All-head (SourcedAtom m) a atoms h))
          (atoms-make i atoms (All-tail (SourcedAtom m) a atoms h))

      leaves-make : (atoms : List Atom) (i count : ℕ) → All (SourcedAtom m) atoms
          → All Made (leaf_edits atoms i count)
      leaves-make atoms i zero h = All-nil Made
      leaves-make atoms i (suc count) h =
          All-append Made (map (λ a. Leaf i a) atoms) (leaf_edits atoms (i + 1) count)
          (atoms-make i atoms h) (leaves-make atoms (i + 1) count h)

      by_one-prints : (up : Bool) (t : Tree) → Printable m t → Printable m (by_one up t)
      by_one-prints up t h = (h, unit)

      side-prints : (up : Bool) (t : Tree) → Printable m t → Printable m (side_by_one up t)
      side-prints up (binary op l r s) h = (h.0, by_one-prints up r h.1)
      side-prints up _ h = h

      side-makes : (up : Bool) → Made (Side up)
      side-makes up =
          makes k (expression e) (Side up) (replaced (edited e (Side up))) refl
          (suits (side_by_one up e) (side-prints up e p))

      sides-make : (t : Tree) → All Made (side_edits t)
      sides-make (binary op l r s) =
          by_test Made (is_comparison op) (Side true ∷ Side false ∷ []) []
          (All-cons Made (Side true) (Side false ∷ []) (side-makes true)
          (All-cons Made (Side false) [] (side-makes false) (All-nil Made)))
          (All-nil Made)
      sides-make _ = All-nil Made

      plus-makes : (up : Bool) → Made (Plus up)
      plus-makes up =
          makes k (expression e) (Plus up) (replaced (edited e (Plus up))) refl
          (suits (by_one up e) (by_one-prints up e p))

      negate-makes : Made Negate
      negate-makes =
          makes k (expression e) Negate (replaced (edited e Negate)) refl (suits (edited e Negate) p)

    take-makes : (a : Atom) → SourcedAtom m a → Made (Take a)
    take-makes a h =
        makes k (expression e) (Take a) (replaced (edited e (Take a))) refl
        (suits (atom_tree a (span_of e)) (atom-prints a (span_of e) h))

    takes-make : (atoms : List Atom) → All (SourcedAtom m) atoms
        → All Made (map (λ a. Take a) atoms)
    takes-make [] h = All-nil Made
    takes-make (a ∷ atoms) h =
        All-cons Made (Take a) (map (λ b. Take b) atoms)
        (take-makes a (All-head (SourcedAtom m) a atoms h))
        (takes-make atoms (All-tail (SourcedAtom m) a atoms h))

  -- each bound in an edit
  bounds-make : (P : Edit → Type 0) (f : Bound → Edit) → ((b : Bound) → SourcedBound m b → P (f b))
      → (bs : List Bound) → All (SourcedBound m) bs → All P (map f bs)
  bounds-make P f each [] h = All-nil P
  bounds-make P f each (b ∷ bs) h =
      All-cons P (f b) (map f bs) (each b (All-head (SourcedBound m) b bs h))
      (bounds-make P f each bs (All-tail (SourcedBound m) b bs h))

  module _ (unit : IsWordOf m (codes "1") (kind.Const (pos 1) (codes "1")))
      (prints : PurePrints) (atoms : List Atom) (h : All (SourcedAtom m) atoms) where
    condition-makes : (e : Tree) → Sourced m e → (cost : ℕ)
        → All (Makes m which.Cond (expression e)) (condition_edits atoms e cost)
    condition-makes e w cost =
        let P = Makes m which.Cond (expression e) in
        let suits = λ (new : Tree) (q : Printable m new). q in
        let one_each = operator_edits other_operators e in
        let two = leaf_edits atoms 0 (min (leaves e) 8) ++ side_edits e in
        let four = map (λ (b : Bound). Narrow b) (bounds atoms) in
        let five = map (λ (b : Bound). Widen b) (bounds atoms) in
        let fifth = if nat_eq cost 5 then five else [] in
        let fourth = if nat_eq cost 4 then four else fifth in
        let third = if nat_eq cost 3 then if_pure e (Negate ∷ []) else fourth in
        let second = if nat_eq cost 2 then if_pure e two else third in
        by_test P (nat_eq cost 1) (if_pure e one_each) second
        (pure-makes unit prints which.Cond e suits w one_each
        (λ p. operators-make unit prints which.Cond e suits w p other_operators e))
        (by_test P (nat_eq cost 2) (if_pure e two) third
        (pure-makes unit prints which.Cond e suits w two
        (λ p. All-append P (leaf_edits atoms 0 (min (leaves e) 8)) (side_edits e)
        (leaves-make unit prints which.Cond e suits w p atoms 0 (min (leaves e) 8) h)
        (sides-make unit prints which.Cond e suits w p e)))
        (by_test P (nat_eq cost 3) (if_pure e (Negate ∷ [])) fourth
        (pure-makes unit prints which.Cond e suits w (Negate ∷ [])
        (λ p. All-cons P Negate [] (negate-makes unit prints which.Cond e suits w p) (All-nil P)))
        (by_test P (nat_eq cost 4) four fifth
        (bounds-make P (λ b. Narrow b)
        (λ b g. makes which.Cond (expression e) (Narrow b) (narrowed (bound_tree b (span_of e))) refl (bound-prints b (span_of e) g))
        (bounds atoms) (bounds-sourced atoms h))
        (by_test P (nat_eq cost 5) five []
        (bounds-make P (λ b. Widen b)
        (λ b g. makes which.Cond (expression e) (Widen b) (widened (bound_tree b (span_of e))) refl (bound-prints b (span_of e) g))
        (bounds atoms) (bounds-sourced atoms h))
        (All-nil P)))))

    right_side-makes : (e : Tree) → Sourced m e → (cost : ℕ)
        → All (Makes m which.Right (expression e)) (right_side_edits atoms e cost)
    right_side-makes e w cost =
        let P = Makes m which.Right (expression e) in
        let suits = λ (new : Tree) (q : Printable m new). q in
        let one_each = operator_edits other_arithmetic e in
        let two = leaf_edits atoms 0 (min (leaves e) 8) ++ (Plus true ∷ Plus false ∷ []) in
        let three = map (λ (a : Atom). Take a) atoms in
        let third = if nat_eq cost 3 then if_pure e three else [] in
        let second = if nat_eq cost 2 then if_pure e two else third in
        by_test P (nat_eq cost 1) (if_pure e one_each) second
        (pure-makes unit prints which.Right e suits w one_each
        (λ p. operators-make unit prints which.Right e suits w p other_arithmetic e))
        (by_test P (nat_eq cost 2) (if_pure e two) third
        (pure-makes unit prints which.Right e suits w two
        (λ p. All-append P (leaf_edits atoms 0 (min (leaves e) 8)) (Plus true ∷ Plus false ∷ [])
        (leaves-make unit prints which.Right e suits w p atoms 0 (min (leaves e) 8) h)
        (All-cons P (Plus true) (Plus false ∷ []) (plus-makes unit prints which.Right e suits w p true)
        (All-cons P (Plus false) [] (plus-makes unit prints which.Right e suits w p false) (All-nil P)))))
        (by_test P (nat_eq cost 3) (if_pure e three) []
        (pure-makes unit prints which.Right e suits w three
        (λ p. takes-make unit prints which.Right e suits w atoms h))
        (All-nil P)))

    edits-make : (k : LocKind) (part : Part) (cost : ℕ) → SourcedPart m part
        → All (Makes m k part) (edits_of k atoms part cost)
    edits-make which.Cond (expression e) cost w = condition-makes e w cost
    edits-make which.Right (expression e) cost w = right_side-makes e w cost
    edits-make which.Guard (statement c) cost w =
        by_test (Makes m which.Guard (statement c)) (nat_eq cost 6) (map (λ b. Guard b) (bounds atoms)) []
        (bounds-make (Makes m which.Guard (statement c)) (λ b. Guard b)
        (λ b g. makes which.Guard (statement c) (Guard b) (guarded (bound_tree b (span_of_code c))) refl (bound-prints b (span_of_code c) g))
        (bounds atoms) (bounds-sourced atoms h))
        (All-nil (Makes m which.Guard (statement c)))
    edits-make which.Guard (expression e) cost w = All-nil (Makes m which.Guard (expression e))
    edits-make which.Cond (statement c) cost w = All-nil (Makes m which.Cond (statement c))
    edits-make which.Right (statement c) cost w = All-nil (Makes m which.Right (statement c))

    -- the edits that make something new are among them
    new-make : (P : Edit → Type 0) (part : Part) (seen : List Tree) (edits : List Edit)
        → All P edits → All P (new_edits part seen edits)
    new-make P part seen [] a = All-nil P
    new-make P part seen (edit ∷ edits) a =
        let rest : All P edits = All-tail P edit edits a in
        by_test P (is_among (made part edit) seen) (new_edits part seen edits)
        (edit ∷ new_edits part (and_made seen (made part edit)) edits)
        (new-make P part seen edits rest)
        (All-cons P edit (new_edits part (and_made seen (made part edit)) edits)
        (All-head P edit edits a) (new-make P part (and_made seen (made part edit)) edits rest))

    candidates-make : (k : LocKind) (part : Part) (cost : ℕ) → SourcedPart m part
        → All (Makes m k part) (candidates_of k atoms part cost)
    candidates-make k part zero w = All-nil (Makes m k part)
    candidates-make k part (suc n) w =
        new-make (Makes m k part) part (and_all_made part (old part) (edits_upto k atoms part n))
        (edits_of k atoms part (suc n)) (edits-make k part (suc n) w)

    there-makes : (k : LocKind) (o : Option Part) (cost : ℕ)
        → ((part : Part) → o ≡ Some part → SourcedPart m part)
        → All (λ (edit : Edit). (c : Change) → change_there edit o ≡ Some c → Suits m k c)
        (candidates_there k atoms o cost)
    there-makes k None cost w =
        All-nil (λ (edit : Edit). (c : Change) → change_there edit None ≡ Some c → Suits m k c)
    there-makes k (Some part) cost w = candidates-make k part cost (w part refl)

  -- what a candidate makes at a location of a program suits the location
  pub candidates-suit : IsWordOf m (codes "0") (kind.Const (pos 0) (codes "0"))
      → IsWordOf m (codes "1") (kind.Const (pos 1) (codes "1")) → PurePrints
      → (p : List Outer) (l : Loc) (cost : ℕ) → SourcedProgram m p
      → All (λ (edit : Edit). (c : Change) → change_there edit (part_at l p) ≡ Some c → Suits m l.kind c)
      (candidates p l cost)
  candidates-suit nought unit prints p l cost w =
      there-makes unit prints (atoms_at l.at.from p) (atoms-sourced m nought unit l.at.from p w) l.kind
      (part_at l p) cost (λ part e. part-fine m l p part w e)

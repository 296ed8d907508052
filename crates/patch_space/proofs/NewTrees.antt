-- What an edit makes of a number without a fault is a number without a fault, where the atoms denote variables that are numbers.
use Rattle.std.proofs.Common.{◌≡◌, ℕ, ◌+◌, ◌-◌, Bool, true, false, nat_eq, nat_lt, if◌then◌else◌, List, [], ◌++◌, Option, Some, is_none, refl, sym, ap, ap₂, ◌∙◌}
use Rattle.c_tree.specs.declared.expr.BinOp.{BinOp}
use Rattle.c_tree.specs.declared.expr.BinOp.TheVariants.{Add, Sub, Both, Either}
use Rattle.c_tree.specs.declared.expr.UnOp.{UnOp}
use Rattle.c_tree.specs.declared.expr.UnOp.TheVariants.{Flip}
use Rattle.c_tree.specs.declared.place.Span.{Span}
use Rattle.c_tree.specs.declared.stmt.Ty.{Ty}
use Rattle.c_tree.specs.Parts.{span_of}
use Rattle.c_tree.specs.Tree.{Tree, constant, name, index, call, unary, cast, binary, choice, assign, bump, comma, hole, hole_after}
use Rattle.c_types.specs.declared.fault.Fault.{Fault}
use Rattle.c_types.specs.declared.fault.FaultKind.TheVariants.{Unknown}
use Rattle.c_types.specs.declared.kinds.Kind.{Kind}
use Rattle.c_types.specs.declared.kinds.Kind.TheVariants.{Number, Array, Function as Callable, Void}
use Rattle.c_types.specs.declared.scope.Declaration.{Declaration}
use Rattle.c_types.specs.declared.scope.Entity.{Entity}
use Rattle.c_types.specs.declared.scope.Entity.TheVariants.{Variable as VariableEntity}
use Rattle.c_types.specs.Arguments.{number_faults}
use Rattle.c_types.specs.Expressions.{void_faults, index_faults, as_number, as_void, faults}
use Rattle.c_types.specs.Kinds.{kind, named}
use Rattle.c_types.specs.Least.{fault_if}
use Rattle.c_types.specs.Scopes.{denoted}
use Rattle.c_types.specs.Slots.{entity_slot, resolved_tree}
use Rattle.c_types.proofs.Checked.{none_left, none_right}
use Rattle.schemas.specs.declared.atom.Atom.{Atom}
use Rattle.schemas.specs.declared.atom.Atom.TheVariants.{Var, Num}
use Rattle.schemas.specs.declared.atom.Bound.{Bound}
use Rattle.schemas.specs.declared.edit.Edit.{Edit}
use Rattle.schemas.specs.declared.edit.Edit.TheVariants.{Op, Leaf, Plus, Side, Negate, Take, Narrow, Widen, Guard}
use Rattle.schemas.specs.Atoms.{one}
use Rattle.schemas.specs.Edits.{with_operator, by_one, side_by_one, bound_tree, edited}
use Rattle.schemas.specs.Leaves.{atom_tree, leaves, with_leaf}
use Rattle.rewrite_laws.proofs.NumbersThere.{IsNumber}

-- an atom denotes a variable that is a number, with its slot, where it is a variable
abbrev pub Denotes : List Declaration → Atom → Type 0
Denotes ds (Var word slot) = (ty : Ty) × (denoted ds word ≡ Some (VariableEntity slot ty false))
Denotes ds (Num value word) = Unit {0}

-- an edit's atoms do
abbrev pub Sees : List Declaration → Edit → Type 0
Sees ds (Op op) = Unit {0}
Sees ds (Leaf k a) = Denotes ds a
Sees ds (Plus up) = Unit {0}
Sees ds (Side up) = Unit {0}
Sees ds Negate = Unit {0}
Sees ds (Take a) = Denotes ds a
Sees ds (Narrow b) = Denotes ds b.left × Denotes ds b.right
Sees ds (Widen b) = Denotes ds b.left × Denotes ds b.right
Sees ds (Guard b) = Denotes ds b.left × Denotes ds b.right

module _ (ds : List Declaration) where
  -- a number can be evaluated as a void expression
  void_of : (k : Kind) (s : Span) → number_faults k s ≡ [] → void_faults k s ≡ []
  void_of Number s h = refl
  void_of (Array ty) s h = h
  void_of Callable s h = h
  void_of Void s h = refl

  -- nothing and nothing is nothing
  none : {A : Type 0} {xs ys : List A} → xs ≡ [] → ys ≡ [] → xs ++ ys ≡ []
  none {A} {xs} {ys} p q = ap₂ (λ (x y : List A). x ++ y) p q

  -- an atom is a number
  pub atom_number : (a : Atom) (s : Span) → Denotes ds a → IsNumber ds (atom_tree a s)
  atom_number (Var word slot) s h = record {
    number = ap (λ (o : Option Entity). number_faults (named o) s) h.1;
    faultless = ap (λ (o : Option Entity). fault_if (is_none o) Unknown s) h.1;
  }
  atom_number (Num value word) s h = record { number = refl; faultless = refl }

  pub unary_number : (op : UnOp) (e : Tree) (s : Span) → IsNumber ds e → IsNumber ds (unary op e s)
  unary_number op e s h = record {
    number = refl;
    faultless = none h.number h.faultless;
  }

  pub binary_number : (op : BinOp) (l r : Tree) (s : Span) → IsNumber ds l → IsNumber ds r → IsNumber ds (binary op l r s)
  binary_number op l r s p q = record {
    number = refl;
    faultless = none (none p.number p.faultless) (none q.number q.faultless);
  }

  -- the operands of a number are numbers
  left_number : (op : BinOp) (l r : Tree) (s : Span) → IsNumber ds (binary op l r s) → IsNumber ds l
  left_number op l r s h = record {
    number = none_left (as_number ds l) (faults ds l) (none_left (as_number ds l ++ faults ds l) (as_number ds r ++ faults ds r) h.faultless);
    faultless = none_right (as_number ds l) (faults ds l) (none_left (as_number ds l ++ faults ds l) (as_number ds r ++ faults ds r) h.faultless);
  }

  right_number : (op : BinOp) (l r : Tree) (s : Span) → IsNumber ds (binary op l r s) → IsNumber ds r
  right_number op l r s h = record {
    number = none_left (as_number ds r) (faults ds r) (none_right (as_number ds l ++ faults ds l) (as_number ds r ++ faults ds r) h.faultless);
    faultless = none_right (as_number ds r) (faults ds r) (none_right (as_number ds l ++ faults ds l) (as_number ds r ++ faults ds r) h.faultless);
  }

  by_one_number : (up : Bool) (e : Tree) → IsNumber ds e → IsNumber ds (by_one up e)
  by_one_number up e h = binary_number (if up then Add else Sub) e (atom_tree one (span_of e)) (span_of e) h (atom_number one (span_of e) tt)

  side_number : (up : Bool) (e : Tree) → IsNumber ds e → IsNumber ds (side_by_one up e)
  side_number up (binary op l r s) h = binary_number op l (by_one up r) s (left_number op l r s h) (by_one_number up r (right_number op l r s h))
  side_number up _ h = h

  operator_number : (op : BinOp) (e : Tree) → IsNumber ds e → IsNumber ds (with_operator op e)
  operator_number op (binary o l r s) h = binary_number op l r s (left_number o l r s h) (right_number o l r s h)
  operator_number op _ h = h

  pub bound_number : (b : Bound) (s : Span) → Denotes ds b.left → Denotes ds b.right → IsNumber ds (bound_tree b s)
  bound_number b s p q = binary_number b.op (atom_tree b.left s) (atom_tree b.right s) s (atom_number b.left s p) (atom_number b.right s q)

  -- the parts of an expression of two parts that has no fault
  module _ (xs ys zs ws : List Fault) (h : (xs ++ ys) ++ (zs ++ ws) ≡ []) where
    first_wanted : xs ≡ []
    first_wanted = none_left xs ys (none_left (xs ++ ys) (zs ++ ws) h)

    first_fine : ys ≡ []
    first_fine = none_right xs ys (none_left (xs ++ ys) (zs ++ ws) h)

    second_wanted : zs ≡ []
    second_wanted = none_left zs ws (none_right (xs ++ ys) (zs ++ ws) h)

    second_fine : ws ≡ []
    second_fine = none_right zs ws (none_right (xs ++ ys) (zs ++ ws) h)

  module _ (a : Atom) (denotes : Denotes ds a) where
    -- an atom in place of a constant or a name
    abbrev or_atom : Bool → Span → Tree → Tree
    or_atom b s e = if b then atom_tree a s else e

    number_or : (b : Bool) (s : Span) (e : Tree) → as_number ds e ≡ [] → as_number ds (or_atom b s e) ≡ []
    number_or true s e h = (atom_number a s denotes).number
    number_or false s e h = h

    void_or : (b : Bool) (s : Span) (e : Tree) → as_void ds e ≡ [] → as_void ds (or_atom b s e) ≡ []
    void_or true s e h = void_of (kind ds (atom_tree a s)) (span_of (atom_tree a s)) (atom_number a s denotes).number
    void_or false s e h = h

    -- one of two expressions
    chosen : (P : Tree → Type 0) (b : Bool) (x y : Tree) → P x → P y → P (if b then x else y)
    chosen P true x y p q = p
    chosen P false x y p q = q

    -- where a number is wanted, one stays
    leaf_number : (k : ℕ) (e : Tree) → as_number ds e ≡ [] → as_number ds (with_leaf k a e) ≡ []
    leaf_number k (constant n w s) h = number_or (nat_eq k 0) s (constant n w s) h
    leaf_number k (name w v s) h = number_or (nat_eq k 0) s (name w v s) h
    leaf_number k (index w v e s) h = refl
    leaf_number k (call w x s) h = h
    leaf_number k (unary op e s) h = refl
    leaf_number k (cast ty e s) h = refl
    leaf_number k (binary op l r s) h = chosen (λ z. as_number ds z ≡ []) (nat_lt k (leaves l)) _ _ refl refl
    leaf_number k (choice t x y s) h =
        chosen (λ z. as_number ds z ≡ []) (nat_lt k (leaves t)) _ _ refl
        (chosen (λ z. as_number ds z ≡ []) (nat_lt (k - leaves t) (leaves x)) _ _ refl refl)
    leaf_number k (assign op l r s) h = h
    leaf_number k (bump before up e s) h = h
    leaf_number k (comma l r s) h = chosen (λ z. as_number ds z ≡ []) (nat_lt k (leaves l)) _ _ refl refl
    leaf_number k hole h = h
    leaf_number k (hole_after e) h = h

    leaf_void : (k : ℕ) (e : Tree) → as_void ds e ≡ [] → as_void ds (with_leaf k a e) ≡ []
    leaf_void k (constant n w s) h = void_or (nat_eq k 0) s (constant n w s) h
    leaf_void k (name w v s) h = void_or (nat_eq k 0) s (name w v s) h
    leaf_void k (index w v e s) h = refl
    leaf_void k (call w x s) h = h
    leaf_void k (unary op e s) h = refl
    leaf_void k (cast ty e s) h = refl
    leaf_void k (binary op l r s) h = chosen (λ z. as_void ds z ≡ []) (nat_lt k (leaves l)) _ _ refl refl
    leaf_void k (choice t x y s) h =
        chosen (λ z. as_void ds z ≡ []) (nat_lt k (leaves t)) _ _ refl
        (chosen (λ z. as_void ds z ≡ []) (nat_lt (k - leaves t) (leaves x)) _ _ refl refl)
    leaf_void k (assign op l r s) h = h
    leaf_void k (bump before up e s) h = h
    leaf_void k (comma l r s) h = chosen (λ z. as_void ds z ≡ []) (nat_lt k (leaves l)) _ _ refl refl
    leaf_void k hole h = h
    leaf_void k (hole_after e) h = h

    -- with an atom in place of one constant or name there is still no fault
    leaf_faultless : (k : ℕ) (e : Tree) → faults ds e ≡ [] → faults ds (with_leaf k a e) ≡ []
    leaf_faultless k (constant n w s) h = chosen (λ z. faults ds z ≡ []) (nat_eq k 0) _ _ (atom_number a s denotes).faultless h
    leaf_faultless k (name w v s) h = chosen (λ z. faults ds z ≡ []) (nat_eq k 0) _ _ (atom_number a s denotes).faultless h
    leaf_faultless k (index w v e s) h =
        let outer : index_faults (denoted ds w) s ≡ [] = none_left (index_faults (denoted ds w) s) (as_number ds e ++ faults ds e) h in
        let inner : as_number ds e ++ faults ds e ≡ [] = none_right (index_faults (denoted ds w) s) (as_number ds e ++ faults ds e) h in
        none outer (none (leaf_number k e (none_left (as_number ds e) (faults ds e) inner)) (leaf_faultless k e (none_right (as_number ds e) (faults ds e) inner)))
    leaf_faultless k (call w x s) h = h
    leaf_faultless k (unary op e s) h = none (leaf_number k e (none_left (as_number ds e) (faults ds e) h)) (leaf_faultless k e (none_right (as_number ds e) (faults ds e) h))
    leaf_faultless k (cast ty e s) h = none (leaf_number k e (none_left (as_number ds e) (faults ds e) h)) (leaf_faultless k e (none_right (as_number ds e) (faults ds e) h))
    leaf_faultless k (binary op l r s) h =
        let a1 : as_number ds l ≡ [] = first_wanted (as_number ds l) (faults ds l) (as_number ds r) (faults ds r) h in
        let f1 : faults ds l ≡ [] = first_fine (as_number ds l) (faults ds l) (as_number ds r) (faults ds r) h in
        let a2 : as_number ds r ≡ [] = second_wanted (as_number ds l) (faults ds l) (as_number ds r) (faults ds r) h in
        let f2 : faults ds r ≡ [] = second_fine (as_number ds l) (faults ds l) (as_number ds r) (faults ds r) h in
        chosen (λ z. faults ds z ≡ []) (nat_lt k (leaves l)) _ _
        (none (none (leaf_number k l a1) (leaf_faultless k l f1)) (none a2 f2))
        (none (none a1 f1) (none (leaf_number (k - leaves l) r a2) (leaf_faultless (k - leaves l) r f2)))
    leaf_faultless k (choice t x y s) h =
        let test : as_number ds t ++ faults ds t ≡ [] = none_left (as_number ds t ++ faults ds t) ((as_number ds x ++ faults ds x) ++ (as_number ds y ++ faults ds y)) h in
        let both : (as_number ds x ++ faults ds x) ++ (as_number ds y ++ faults ds y) ≡ [] = none_right (as_number ds t ++ faults ds t) ((as_number ds x ++ faults ds x) ++ (as_number ds y ++ faults ds y)) h in
        let at : as_number ds t ≡ [] = none_left (as_number ds t) (faults ds t) test in
        let ft : faults ds t ≡ [] = none_right (as_number ds t) (faults ds t) test in
        let ax : as_number ds x ≡ [] = first_wanted (as_number ds x) (faults ds x) (as_number ds y) (faults ds y) both in
        let fx : faults ds x ≡ [] = first_fine (as_number ds x) (faults ds x) (as_number ds y) (faults ds y) both in
        let ay : as_number ds y ≡ [] = second_wanted (as_number ds x) (faults ds x) (as_number ds y) (faults ds y) both in
        let fy : faults ds y ≡ [] = second_fine (as_number ds x) (faults ds x) (as_number ds y) (faults ds y) both in
        let second : Tree = choice t (with_leaf (k - leaves t) a x) y s in
        let third : Tree = choice t x (with_leaf (k - leaves t - leaves x) a y) s in
        chosen (λ z. faults ds z ≡ []) (nat_lt k (leaves t)) (choice (with_leaf k a t) x y s) (if nat_lt (k - leaves t) (leaves x) then second else third)
        (none (none (leaf_number k t at) (leaf_faultless k t ft)) both)
        (chosen (λ z. faults ds z ≡ []) (nat_lt (k - leaves t) (leaves x)) second third
        (none test (none (none (leaf_number (k - leaves t) x ax) (leaf_faultless (k - leaves t) x fx)) (none ay fy)))
        (none test (none (none ax fx) (none (leaf_number (k - leaves t - leaves x) y ay) (leaf_faultless (k - leaves t - leaves x) y fy)))))
    leaf_faultless k (assign op l r s) h = h
    leaf_faultless k (bump before up e s) h = h
    leaf_faultless k (comma l r s) h =
        let a1 : as_void ds l ≡ [] = first_wanted (as_void ds l) (faults ds l) (as_number ds r) (faults ds r) h in
        let f1 : faults ds l ≡ [] = first_fine (as_void ds l) (faults ds l) (as_number ds r) (faults ds r) h in
        let a2 : as_number ds r ≡ [] = second_wanted (as_void ds l) (faults ds l) (as_number ds r) (faults ds r) h in
        let f2 : faults ds r ≡ [] = second_fine (as_void ds l) (faults ds l) (as_number ds r) (faults ds r) h in
        chosen (λ z. faults ds z ≡ []) (nat_lt k (leaves l)) _ _
        (none (none (leaf_void k l a1) (leaf_faultless k l f1)) (none a2 f2))
        (none (none a1 f1) (none (leaf_number (k - leaves l) r a2) (leaf_faultless (k - leaves l) r f2)))
    leaf_faultless k hole h = h
    leaf_faultless k (hole_after e) h = h

    leaf_is_number : (k : ℕ) (e : Tree) → IsNumber ds e → IsNumber ds (with_leaf k a e)
    leaf_is_number k e h = record {
      number = leaf_number k e h.number;
      faultless = leaf_faultless k e h.faultless;
    }

  -- what an edit makes of a number is a number, where its atoms denote variables that are numbers
  pub edited_number : (e : Tree) (edit : Edit) → Sees ds edit → IsNumber ds e → IsNumber ds (edited e edit)
  edited_number e (Op op) sees h = operator_number op e h
  edited_number e (Leaf k a) sees h = leaf_is_number a sees k e h
  edited_number e (Plus up) sees h = by_one_number up e h
  edited_number e (Side up) sees h = side_number up e h
  edited_number e Negate sees h = unary_number Flip e (span_of e) h
  edited_number e (Take a) sees h = atom_number a (span_of e) sees
  edited_number e (Narrow b) sees h = binary_number Both e (bound_tree b (span_of e)) (span_of e) h (bound_number b (span_of e) sees.0 sees.1)
  edited_number e (Widen b) sees h = binary_number Either e (bound_tree b (span_of e)) (span_of e) h (bound_number b (span_of e) sees.0 sees.1)
  edited_number e (Guard b) sees h = h

-- resolving doesn't change how many constants and names there are
leaves-resolved : (ds : List Declaration) (e : Tree) → leaves (resolved_tree ds e) ≡ leaves e
leaves-resolved ds (constant n w s) = refl
leaves-resolved ds (name w v s) = refl
leaves-resolved ds (index w v e s) = leaves-resolved ds e
leaves-resolved ds (call w x s) = refl
leaves-resolved ds (unary op e s) = leaves-resolved ds e
leaves-resolved ds (cast ty e s) = leaves-resolved ds e
leaves-resolved ds (binary op l r s) = ap₂ (λ m n. m + n) (leaves-resolved ds l) (leaves-resolved ds r)
leaves-resolved ds (choice t x y s) = λ i. leaves-resolved ds t i + leaves-resolved ds x i + leaves-resolved ds y i
leaves-resolved ds (assign op l r s) = refl
leaves-resolved ds (bump before up e s) = refl
leaves-resolved ds (comma l r s) = ap₂ (λ m n. m + n) (leaves-resolved ds l) (leaves-resolved ds r)
leaves-resolved ds hole = refl
leaves-resolved ds (hole_after e) = refl

-- nor the text of an expression
span-resolved : (ds : List Declaration) (e : Tree) → span_of (resolved_tree ds e) ≡ span_of e
span-resolved ds (constant n word s) = refl
span-resolved ds (name word slot s) = refl
span-resolved ds (index word slot e s) = refl
span-resolved ds (call word x s) = refl
span-resolved ds (unary op e s) = refl
span-resolved ds (cast ty e s) = refl
span-resolved ds (binary op a b s) = refl
span-resolved ds (choice t a b s) = refl
span-resolved ds (assign op place e s) = refl
span-resolved ds (bump before up place s) = refl
span-resolved ds (comma a b s) = refl
span-resolved ds hole = refl
span-resolved ds (hole_after e) = span-resolved ds e

module _ (ds : List Declaration) where
  -- an atom that denotes a variable has its slot
  atom_resolved : (a : Atom) (s : Span) → Denotes ds a → resolved_tree ds (atom_tree a s) ≡ atom_tree a s
  atom_resolved (Var word slot) s h = ap (λ (o : Option Entity). name word (entity_slot o) s) h.1
  atom_resolved (Num value word) s h = refl

  pub bound_resolved : (b : Bound) (s : Span) → Denotes ds b.left → Denotes ds b.right → resolved_tree ds (bound_tree b s) ≡ bound_tree b s
  bound_resolved b s p q = ap₂ (λ x y. binary b.op x y s) (atom_resolved b.left s p) (atom_resolved b.right s q)

  one_resolved : (up : Bool) (e : Tree) → resolved_tree ds (by_one up e) ≡ by_one up (resolved_tree ds e)
  one_resolved up e = ap (λ t. binary (if up then Add else Sub) (resolved_tree ds e) (atom_tree one t) t) (sym (span-resolved ds e))

  side_resolved : (up : Bool) (e : Tree) → resolved_tree ds (side_by_one up e) ≡ side_by_one up (resolved_tree ds e)
  side_resolved up (constant n w s) = refl
  side_resolved up (name w v s) = refl
  side_resolved up (index w v e s) = refl
  side_resolved up (call w x s) = refl
  side_resolved up (unary op e s) = refl
  side_resolved up (cast ty e s) = refl
  side_resolved up (binary op l r s) = ap (λ z. binary op (resolved_tree ds l) z s) (one_resolved up r)
  side_resolved up (choice t x y s) = refl
  side_resolved up (assign op l r s) = refl
  side_resolved up (bump before b e s) = refl
  side_resolved up (comma l r s) = refl
  side_resolved up hole = refl
  side_resolved up (hole_after e) = refl

  operator_resolved : (op : BinOp) (e : Tree) → resolved_tree ds (with_operator op e) ≡ with_operator op (resolved_tree ds e)
  operator_resolved op (constant n w s) = refl
  operator_resolved op (name w v s) = refl
  operator_resolved op (index w v e s) = refl
  operator_resolved op (call w x s) = refl
  operator_resolved op (unary o e s) = refl
  operator_resolved op (cast ty e s) = refl
  operator_resolved op (binary o l r s) = refl
  operator_resolved op (choice t x y s) = refl
  operator_resolved op (assign o l r s) = refl
  operator_resolved op (bump before up e s) = refl
  operator_resolved op (comma l r s) = refl
  operator_resolved op hole = refl
  operator_resolved op (hole_after e) = refl

  -- what becomes of the one of two that is chosen
  of_chosen : (b c : Bool) (x y z w : Tree) → b ≡ c → resolved_tree ds x ≡ z → resolved_tree ds y ≡ w
      → resolved_tree ds (if b then x else y) ≡ (if c then z else w)
  of_chosen b c x y z w is p q = by_test b p q ∙ ap (λ d. if d then z else w) is
    where
      by_test : (d : Bool) → resolved_tree ds x ≡ z → resolved_tree ds y ≡ w → resolved_tree ds (if d then x else y) ≡ (if d then z else w)
      by_test true u v = u
      by_test false u v = v

  module _ (a : Atom) (denotes : Denotes ds a) where
    leaf_resolved : (k : ℕ) (e : Tree) → resolved_tree ds (with_leaf k a e) ≡ with_leaf k a (resolved_tree ds e)
    leaf_resolved k (constant n w s) = of_chosen (nat_eq k 0) (nat_eq k 0) _ _ _ _ refl (atom_resolved a s denotes) refl
    leaf_resolved k (name w v s) = of_chosen (nat_eq k 0) (nat_eq k 0) _ _ _ _ refl (atom_resolved a s denotes) refl
    leaf_resolved k (index w v e s) = ap (λ z. index w (entity_slot (denoted ds w)) z s) (leaf_resolved k e)
    leaf_resolved k (call w x s) = refl
    leaf_resolved k (unary op e s) = ap (λ z. unary op z s) (leaf_resolved k e)
    leaf_resolved k (cast ty e s) = ap (λ z. cast ty z s) (leaf_resolved k e)
    leaf_resolved k (binary op l r s) =
        let same : leaves l ≡ leaves (resolved_tree ds l) = sym (leaves-resolved ds l) in
        of_chosen (nat_lt k (leaves l)) (nat_lt k (leaves (resolved_tree ds l))) _ _ _ _ (ap (nat_lt k) same)
        (ap (λ z. binary op z (resolved_tree ds r) s) (leaf_resolved k l))
        (ap (λ z. binary op (resolved_tree ds l) z s) (leaf_resolved (k - leaves l) r ∙ ap (λ n. with_leaf (k - n) a (resolved_tree ds r)) same))
    leaf_resolved k (choice t x y s) =
        let one : leaves t ≡ leaves (resolved_tree ds t) = sym (leaves-resolved ds t) in
        let two : leaves x ≡ leaves (resolved_tree ds x) = sym (leaves-resolved ds x) in
        let t' : Tree = resolved_tree ds t in
        let x' : Tree = resolved_tree ds x in
        let y' : Tree = resolved_tree ds y in
        let second : Tree = choice t (with_leaf (k - leaves t) a x) y s in
        let third : Tree = choice t x (with_leaf (k - leaves t - leaves x) a y) s in
        let other : Tree = choice t' (with_leaf (k - leaves t') a x') y' s in
        let another : Tree = choice t' x' (with_leaf (k - leaves t' - leaves x') a y') s in
        of_chosen (nat_lt k (leaves t)) (nat_lt k (leaves t')) (choice (with_leaf k a t) x y s) (if nat_lt (k - leaves t) (leaves x) then second else third)
        (choice (with_leaf k a t') x' y' s) (if nat_lt (k - leaves t') (leaves x') then other else another) (ap (nat_lt k) one)
        (ap (λ z. choice z (resolved_tree ds x) (resolved_tree ds y) s) (leaf_resolved k t))
        (of_chosen (nat_lt (k - leaves t) (leaves x)) (nat_lt (k - leaves (resolved_tree ds t)) (leaves (resolved_tree ds x))) second third other another (ap₂ (λ m n. nat_lt (k - m) n) one two)
        (ap (λ z. choice (resolved_tree ds t) z (resolved_tree ds y) s) (leaf_resolved (k - leaves t) x ∙ ap (λ n. with_leaf (k - n) a (resolved_tree ds x)) one))
        (ap (λ z. choice (resolved_tree ds t) (resolved_tree ds x) z s) (leaf_resolved (k - leaves t - leaves x) y ∙ ap₂ (λ m n. with_leaf (k - m - n) a (resolved_tree ds y)) one two)))
    leaf_resolved k (assign op l r s) = refl
    leaf_resolved k (bump before up e s) = refl
    leaf_resolved k (comma l r s) =
        let same : leaves l ≡ leaves (resolved_tree ds l) = sym (leaves-resolved ds l) in
        of_chosen (nat_lt k (leaves l)) (nat_lt k (leaves (resolved_tree ds l))) _ _ _ _ (ap (nat_lt k) same)
        (ap (λ z. comma z (resolved_tree ds r) s) (leaf_resolved k l))
        (ap (λ z. comma (resolved_tree ds l) z s) (leaf_resolved (k - leaves l) r ∙ ap (λ n. with_leaf (k - n) a (resolved_tree ds r)) same))
    leaf_resolved k hole = refl
    leaf_resolved k (hole_after e) = refl

  -- an edit of a resolved expression is the resolved edit of it, where its atoms denote variables
  pub edited_resolved : (e : Tree) (edit : Edit) → Sees ds edit → resolved_tree ds (edited e edit) ≡ edited (resolved_tree ds e) edit
  edited_resolved e (Op op) sees = operator_resolved op e
  edited_resolved e (Leaf k a) sees = leaf_resolved a sees k e
  edited_resolved e (Plus up) sees = one_resolved up e
  edited_resolved e (Side up) sees = side_resolved up e
  edited_resolved e Negate sees = ap (λ t. unary Flip (resolved_tree ds e) t) (sym (span-resolved ds e))
  edited_resolved e (Take a) sees = atom_resolved a (span_of e) sees ∙ ap (λ t. atom_tree a t) (sym (span-resolved ds e))
  edited_resolved e (Narrow b) sees =
      ap (λ z. binary Both (resolved_tree ds e) z (span_of e)) (bound_resolved b (span_of e) sees.0 sees.1)
      ∙ ap (λ t. binary Both (resolved_tree ds e) (bound_tree b t) t) (sym (span-resolved ds e))
  edited_resolved e (Widen b) sees =
      ap (λ z. binary Either (resolved_tree ds e) z (span_of e)) (bound_resolved b (span_of e) sees.0 sees.1)
      ∙ ap (λ t. binary Either (resolved_tree ds e) (bound_tree b t) t) (sym (span-resolved ds e))
  edited_resolved e (Guard b) sees = refl

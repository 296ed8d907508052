-- The variables that declarations make visible are those that words denote.
use Rattle.std.proofs.Common.{◌≡◌, ◌≢◌, ℕ, zero, suc, ◌⊎◌, inl, inr, Bool, true, false, not, cond, if◌then◌else◌, List, [], ◌∷◌, Option, Some, None, is_none, refl, sym, ap, ◌∙◌, subst, arith}
use Rattle.std.specs.List.{All, Contains}
use Rattle.std.specs.Str.{bytes_eq}
use Rattle.std.proofs.lemmas.List.Elements.{All-nil, All-cons, All-head, All-tail, All-filter, Contains-append_left, Contains-append_right, Contains-push}
use Rattle.std.proofs.lemmas.Slice.Eq.{bytes_eq-Decides}
use Rattle.c_tree.specs.declared.place.Span.{Span}
use Rattle.c_tree.specs.declared.stmt.Slot.{Slot}
use Rattle.c_tree.specs.declared.stmt.Ty.{Ty}
use Rattle.c_tree.specs.Tree.{name}
use Rattle.c_types.specs.declared.fault.FaultKind.TheVariants.{Unknown}
use Rattle.c_types.specs.declared.kinds.Kind.TheVariants.{Number, Array}
use Rattle.c_types.specs.declared.scope.Declaration.{Declaration}
use Rattle.c_types.specs.declared.scope.Entity.{Entity}
use Rattle.c_types.specs.declared.scope.Entity.TheVariants.{Variable as VariableEntity, Function as FunctionEntity, Library, Printf, Scanf}
use Rattle.c_types.specs.declared.visible.Visible.{Visible}
use Rattle.c_types.specs.Kinds.{named}
use Rattle.c_types.specs.Least.{fault_if}
use Rattle.c_types.specs.Scopes.{denoted}
use Rattle.c_types.specs.Slots.{entity_slot}
use Rattle.c_types.specs.Visible.{others}
use Rattle.scope_laws.specs.Seen.{onto, visible_in, usable, IsMeant}
use Rattle.scope_laws.specs.Laws.{NameFits}
use Rattle.scope_laws.proofs.Hiding.{same_word, word_swap}

some_same : {A : Type 0} {x y : A} → Some x ≡ Some y → x ≡ y
some_same h = cc

differ : true ≡ false → ⊥
differ h = cc

-- an earlier declaration of another name isn't meant by the word
past : (d : Declaration) (ds : List Declaration) (v : Visible) → bytes_eq v.word d.word ≡ false → IsMeant ds v → IsMeant (d ∷ ds) v
past d ds v apart h =
    ap (λ (t : Bool). if t then Some d.entity else denoted ds v.word) (word_swap d.word v.word ∙ apart) ∙ h

-- so the variables that a declaration doesn't hide are still meant
others_meant : (d : Declaration) (ds : List Declaration) (vs : List Visible) → All (IsMeant ds) vs → All (IsMeant (d ∷ ds)) (others d.word vs)
others_meant d ds [] h = All-nil (IsMeant (d ∷ ds))
others_meant d ds (v ∷ vs) h = by_test (bytes_eq v.word d.word) refl (others_meant d ds vs (All-tail (IsMeant ds) v vs h))
  where
    by_test : (b : Bool) → bytes_eq v.word d.word ≡ b → All (IsMeant (d ∷ ds)) (others d.word vs)
        → All (IsMeant (d ∷ ds)) (cond (not b) (v ∷ others d.word vs) (others d.word vs))
    by_test true is rest = rest
    by_test false is rest = All-cons (IsMeant (d ∷ ds)) v (others d.word vs) (past d ds v is (All-head (IsMeant ds) v vs h)) rest

pub visible_are_meant : (ds : List Declaration) → All (IsMeant ds) (visible_in ds)
visible_are_meant [] = All-nil (IsMeant [])
visible_are_meant (d ∷ ds) = by_entity d.entity refl (others_meant d ds (visible_in ds) (visible_are_meant ds))
  where
    by_entity : (e : Entity) → d.entity ≡ e → All (IsMeant (d ∷ ds)) (others d.word (visible_in ds))
        → All (IsMeant (d ∷ ds)) (onto d.word e (others d.word (visible_in ds)))
    by_entity (VariableEntity slot ty array) is rest =
        All-cons (IsMeant (d ∷ ds)) _ (others d.word (visible_in ds))
        (ap (λ (t : Bool). if t then Some d.entity else denoted ds d.word) (same_word d.word) ∙ ap Some is) rest
    by_entity (FunctionEntity ret params body defined) is rest = rest
    by_entity (Library ret params) is rest = rest
    by_entity Printf is rest = rest
    by_entity Scanf is rest = rest

contains_first : {A : Type 0} (x y : A) (xs : List A) → x ≡ y → Contains (x ∷ xs) y
contains_first x y xs is = subst (Contains (x ∷ xs)) is (Contains-append_left (x ∷ []) xs x (Contains-push [] x))

contains_rest : {A : Type 0} (x y : A) (xs : List A) → Contains xs y → Contains (x ∷ xs) y
contains_rest x y xs h = Contains-append_right (x ∷ []) xs y h

-- a variable of another name isn't hidden
pub kept : (w : List ℕ) (v : Visible) (vs : List Visible) → bytes_eq v.word w ≡ false → Contains vs v → Contains (others w vs) v
kept w v [] apart h = h
kept w v (u ∷ us) apart h = by_test (bytes_eq u.word w) refl (first_or_rest h) (kept w v us apart)
  where
    first_or_rest : Contains (u ∷ us) v → (u ≡ v) ⊎ Contains us v
    first_or_rest (zero, lt, is) = inl is
    first_or_rest (suc k, lt, is) = inr (k, omega (arith, lt), is)

    by_test : (b : Bool) → bytes_eq u.word w ≡ b → (u ≡ v) ⊎ Contains us v → (Contains us v → Contains (others w us) v)
        → Contains (cond (not b) (u ∷ others w us) (others w us)) v
    by_test true is (inl same) more = absurd (differ (sym is ∙ ap (λ (x : Visible). bytes_eq x.word w) same ∙ apart))
    by_test true is (inr c) more = more c
    by_test false is (inl same) more = contains_first u v (others w us) same
    by_test false is (inr c) more = contains_rest u v (others w us) (more c)

pub meant_are_visible : (ds : List Declaration) (v : Visible) → IsMeant ds v → Contains (visible_in ds) v
meant_are_visible [] v h = absurd (cc)
meant_are_visible (d ∷ ds) v h = by_test (bytes_eq d.word v.word) refl h (meant_are_visible ds v)
  where
    onto_rest : (e : Entity) (vs : List Visible) → Contains vs v → Contains (onto d.word e vs) v
    onto_rest (VariableEntity slot ty array) vs c = contains_rest _ v vs c
    onto_rest (FunctionEntity ret params body defined) vs c = c
    onto_rest (Library ret params) vs c = c
    onto_rest Printf vs c = c
    onto_rest Scanf vs c = c

    by_test : (b : Bool) → bytes_eq d.word v.word ≡ b → (if b then Some d.entity else denoted ds v.word) ≡ Some (VariableEntity v.slot v.ty v.array)
        → (IsMeant ds v → Contains (visible_in ds) v) → Contains (onto d.word d.entity (others d.word (visible_in ds))) v
    by_test true is k more =
        let same : d.word ≡ v.word = (bytes_eq-Decides d.word v.word).0 is in
        let front : onto d.word d.entity (others d.word (visible_in ds)) ≡ v ∷ others d.word (visible_in ds) =
        ap (λ (e : Entity). onto d.word e (others d.word (visible_in ds))) (some_same k)
        ∙ ap (λ (w : List ℕ). record { word = w; slot = v.slot; ty = v.ty; array = v.array } ∷ others d.word (visible_in ds)) same in
        subst (λ (xs : List Visible). Contains xs v) (sym front) (contains_first v v (others d.word (visible_in ds)) refl)
    by_test false is k more =
        onto_rest d.entity (others d.word (visible_in ds))
        (kept d.word v (visible_in ds) (word_swap v.word d.word ∙ is) (more k))

-- the same of those that are usable
pub usable_are_meant : (ds : List Declaration) (initialised : Option (List ℕ)) → All (IsMeant ds) (usable initialised (visible_in ds))
usable_are_meant ds None = visible_are_meant ds
usable_are_meant ds (Some word) = All-filter (λ v. not (bytes_eq v.word word)) (IsMeant ds) (visible_in ds) (visible_are_meant ds)

pub meant_are_usable : (ds : List Declaration) (initialised : Option (List ℕ)) (v : Visible) → IsMeant ds v → initialised ≢ Some v.word
    → Contains (usable initialised (visible_in ds)) v
meant_are_usable ds None v h other = meant_are_visible ds v h
meant_are_usable ds (Some word) v h other = by_test (bytes_eq v.word word) refl
  where
    by_test : (b : Bool) → bytes_eq v.word word ≡ b → Contains (others word (visible_in ds)) v
    by_test true is = absurd (other (ap Some (sym ((bytes_eq-Decides v.word word).0 is))))
    by_test false is = kept word v (visible_in ds) is (meant_are_visible ds v h)

-- the name of a variable that is meant
named_variable : (slot : Slot) (ty : Ty) (array : Bool) → named (Some (VariableEntity slot ty array)) ≡ (if array then Array ty else Number)
named_variable slot ty true = refl
named_variable slot ty false = refl

pub names_fit : (ds : List Declaration) (v : Visible) → IsMeant ds v → (s : Span) → NameFits ds v s
names_fit ds v h s = record {
  its_kind = ap named h ∙ named_variable v.slot v.ty v.array;
  no_fault = ap (λ (o : Option Entity). fault_if (is_none o) Unknown s) h;
  its_slot = ap (λ (o : Option Entity). name v.word (entity_slot o) s) h;
}

-- The ranks of patches are listed for each location, one patch after another.
use Rattle.std.proofs.Common.{◌≡◌, ◌≢◌, ℕ, zero, suc, ◌+◌, ◌<◌, ◌≤◌, Bool, true, false, nat_eq, if◌then◌else◌, List, [], ◌∷◌, ◌++◌, length, drop, get_or, Option, Some, None, refl, sym, ap, ◌∙◌, add-one, append_assoc, drop-cons, eqb-true, eq-eqb, subst, arith, Vec, Global, not-suc-le-zero, le_of_suc-le-suc, length-append}
use Rattle.std.specs.Prelude.{slice_get, option_map}
use Rattle.std.proofs.lemmas.List.{append-nil}
use Rattle.std.proofs.Math.ListN.{set}
use Rattle.patch_space.specs.declared.patch.Patch.{Patch}
use Rattle.patch_space.specs.Ranks.{lists, ranks_from}

-- one more rank, where the list is the one of that number
abbrev with_rank : ℕ → ℕ → ℕ → List ℕ → List ℕ
with_rank l rank k ranks = if nat_eq l k then ranks ++ rank ∷ [] else ranks

-- the list that is put there
put_there : (xs : List (Vec ℕ Global)) (l : ℕ) (v : Vec ℕ Global) → l < length xs → slice_get (lists (set xs l v)) l ≡ Some v.items
put_there [] l v lt = absurd (not-suc-le-zero lt)
put_there (x ∷ xs) zero v lt = refl
put_there (x ∷ xs) (suc l) v lt = put_there xs l v (le_of_suc-le-suc lt)

-- and the one that was there
was_there : (xs : List (Vec ℕ Global)) (l : ℕ) (old : Vec ℕ Global) → l < length xs → old ≡ get_or xs l old → slice_get (lists xs) l ≡ Some old.items
was_there [] l old lt is = absurd (not-suc-le-zero lt)
was_there (x ∷ xs) zero old lt is = ap (λ (v : Vec ℕ Global). Some v.items) (sym is)
was_there (x ∷ xs) (suc l) old lt is = was_there xs l old (le_of_suc-le-suc lt) is

-- the others stay
stays_there : (xs : List (Vec ℕ Global)) (l k : ℕ) (v : Vec ℕ Global) → l ≢ k → slice_get (lists (set xs l v)) k ≡ slice_get (lists xs) k
stays_there [] l k v other = refl
stays_there (x ∷ xs) zero zero v other = absurd (other refl)
stays_there (x ∷ xs) zero (suc k) v other = refl
stays_there (x ∷ xs) (suc l) zero v other = refl
stays_there (x ∷ xs) (suc l) (suc k) v other = stays_there xs l k v (λ is. other (ap suc is))

-- none is after the last
none_there : (xs : List (Vec ℕ Global)) (k : ℕ) → length xs ≤ k → slice_get (lists xs) k ≡ None
none_there [] k le = refl
none_there (x ∷ xs) zero le = absurd (not-suc-le-zero le)
none_there (x ∷ xs) (suc k) le = none_there xs k (le_of_suc-le-suc le)

-- what is made of a list that may be absent, where nothing is made of it
same_option : {A : Type 0} (o : Option A) → o ≡ option_map (λ x. x) o
same_option None = refl
same_option (Some x) = refl

-- other numbers don't pass for the same
differ : (l k : ℕ) → nat_eq l k ≡ false → l ≢ k
differ l k is same = let yes : nat_eq l k ≡ true = eq-eqb l k same in absurd (cc)

-- a rank is added to the list of that number
pub rank_added : (xs : List (Vec ℕ Global)) (l rank : ℕ) (v old : Vec ℕ Global) → l < length xs → old ≡ get_or xs l old → v.items ≡ old.items ++ rank ∷ []
    → (k : ℕ) → slice_get (lists (set xs l v)) k ≡ option_map (with_rank l rank k) (slice_get (lists xs) k)
rank_added xs l rank v old lt was is k = by_test (nat_eq l k) refl
  where
    by_test : (b : Bool) → nat_eq l k ≡ b → slice_get (lists (set xs l v)) k ≡ option_map (λ ranks. if b then ranks ++ rank ∷ [] else ranks) (slice_get (lists xs) k)
    by_test true same =
        subst (λ m. slice_get (lists (set xs l v)) m ≡ option_map (λ ranks. ranks ++ rank ∷ []) (slice_get (lists xs) m)) (eqb-true l k same)
        (put_there xs l v lt ∙ ap Some is ∙ sym (ap (option_map (λ ranks. ranks ++ rank ∷ [])) (was_there xs l old lt was)))
    by_test false same = stays_there xs l k v (differ l k same) ∙ same_option (slice_get (lists xs) k)

-- where there is no such list, nothing changes
pub rank_left : (xs : List (Vec ℕ Global)) (l rank : ℕ) → length xs ≤ l → (k : ℕ) → slice_get (lists xs) k ≡ option_map (with_rank l rank k) (slice_get (lists xs) k)
rank_left xs l rank le k = by_test (nat_eq l k) refl
  where
    by_test : (b : Bool) → nat_eq l k ≡ b → slice_get (lists xs) k ≡ option_map (λ ranks. if b then ranks ++ rank ∷ [] else ranks) (slice_get (lists xs) k)
    by_test true same =
        subst (λ m. slice_get (lists xs) m ≡ option_map (λ ranks. ranks ++ rank ∷ []) (slice_get (lists xs) m)) (eqb-true l k same)
        (none_there xs l le ∙ sym (ap (option_map (λ ranks. ranks ++ rank ∷ [])) (none_there xs l le)))
    by_test false same = same_option (slice_get (lists xs) k)

-- one patch more, whose rank is the next one where it is at the location
next_rank : (b : Bool) (i : ℕ) (r all : List ℕ) (before after : Option (List ℕ)) → after ≡ option_map (λ ranks. if b then ranks ++ i ∷ [] else ranks) before
    → option_map (λ ranks. ranks ++ (if b then i ∷ r else r)) before ≡ Some all → option_map (λ ranks. ranks ++ r) after ≡ Some all
next_rank true i r all None after e so_far = absurd (cc)
next_rank true i r all (Some ranks) after e so_far = ap (option_map (λ z. z ++ r)) e ∙ ap Some (append_assoc ranks (i ∷ []) r) ∙ so_far
next_rank false i r all None after e so_far = absurd (cc)
next_rank false i r all (Some ranks) after e so_far = ap (option_map (λ z. z ++ r)) e ∙ so_far

-- the ranks so far, with those of the patches that are left, are all
pub rank_more : (k i n : ℕ) (ps : List Patch) (d : Patch) (before after : Option (List ℕ)) (all : List ℕ) → i < length ps → (get_or ps i d).loc ≡ n
    → after ≡ option_map (with_rank n i k) before → option_map (λ ranks. ranks ++ ranks_from k i (drop i ps)) before ≡ Some all
    → option_map (λ ranks. ranks ++ ranks_from k (i + 1) (drop (i + 1) ps)) after ≡ Some all
rank_more k i n ps d before after all lt own added so_far =
    let front : drop i ps ≡ get_or ps i d ∷ drop (i + 1) ps = rw add-one (drop-cons ps i d lt) in
    next_rank (nat_eq (get_or ps i d).loc k) i (ranks_from k (i + 1) (drop (i + 1) ps)) all before after (added ∙ ap (λ m. option_map (with_rank m i k) before) (sym own))
    (sym (ap (λ z. option_map (λ ranks. ranks ++ ranks_from k i z) before) front) ∙ so_far)

-- where no patch is left they are those that are listed
pub ranks_end : (o : Option (List ℕ)) (all : List ℕ) → option_map (λ ranks. ranks ++ []) o ≡ Some all → o ≡ Some all
ranks_end None all is = absurd (cc)
ranks_end (Some ranks) all is = ap Some (sym (append-nil ranks)) ∙ is

-- as many empty lists, and one more
pub empty_more : (xs : List (Vec ℕ Global)) (v : Vec ℕ Global) (n : ℕ) → length xs ≡ n → v.items ≡ [] → ((k : ℕ) → k < n → slice_get (lists xs) k ≡ Some [])
    → (k : ℕ) → k < n + 1 → slice_get (lists (xs ++ v ∷ [])) k ≡ Some []
empty_more [] v n len is none zero lt = ap Some is
empty_more [] v n len is none (suc k) lt = absurd (omega arith)
empty_more (x ∷ xs) v n len is none zero lt = none zero (omega arith)
empty_more (x ∷ xs) v n len is none (suc k) lt = empty_more xs v (length xs) refl is (λ m below. none (suc m) (omega arith)) k (omega arith)

-- the same of what the list has become
pub empties_more : (xs ys : List (Vec ℕ Global)) (v : Vec ℕ Global) (n : ℕ) → ys ≡ xs ++ v ∷ [] → length xs ≡ n → v.items ≡ []
    → ((k : ℕ) → k < n → slice_get (lists xs) k ≡ Some [])
    → (length ys ≡ n + 1) × ((k : ℕ) → k < n + 1 → slice_get (lists ys) k ≡ Some [])
empties_more xs ys v n is len empty none = (
  omega (arith, ap length is, length-append xs (v ∷ []), len),
  subst (λ zs. (k : ℕ) → k < n + 1 → slice_get (lists zs) k ≡ Some []) (sym is) (empty_more xs v n len empty none),
)

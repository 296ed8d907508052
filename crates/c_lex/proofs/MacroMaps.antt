-- A map of macros after one more definition.
use Rattle.std.proofs.Common.{◌≡◌, ℕ, Bool, true, false, if◌then◌else◌, List, Option, refl, sym, subst, ◌∙◌}
use Rattle.std.specs.BTreeMap.{BTreeMap, UpdatesBy, get_by}
use Rattle.std.specs.Cmp.{eq_by_cmp_equiv}
use Rattle.std.specs.Cmp.Lexicographic.{slice_cmp, nat_list_cmp_total, nat_list_eq_equiv}
use Rattle.std.specs.Map.{lookup, IsKeyTest, AreApart, KeepsOthers}
use Rattle.std.specs.Ordering.{is_eq, nat_cmp}
use Rattle.std.specs.Str.{bytes_eq}
use Rattle.std.proofs.lemmas.Map.Text.{is_eq-slice_cmp}
use Rattle.std.proofs.lemmas.Slice.Eq.{bytes_eq-Decides}

-- what is equal to one of two texts that differ differs from the other
apart : (bs cs ks : List ℕ) → bytes_eq bs cs ≡ false → bytes_eq bs ks ≡ true → bytes_eq cs ks ≡ false
apart bs cs ks n y = nat_list_eq_equiv.symm cs ks ∙ sym (nat_list_eq_equiv.congr bs ks cs y) ∙ n

-- the same in the order of texts
apart_in_order : (bs cs ks : List ℕ) → bytes_eq bs cs ≡ false → is_eq (slice_cmp nat_cmp bs ks) ≡ true → is_eq (slice_cmp nat_cmp cs ks) ≡ false
apart_in_order bs cs ks n y = is_eq-slice_cmp cs ks ∙ apart bs cs ks n (sym (is_eq-slice_cmp bs ks) ∙ y)

module _ {K : Type 0} (eq : K → K → Bool) (test : K → Bool) where
  -- the entries of other keys stay
  other_entries : {X : Type 0} (old new : List (K × X)) → KeepsOthers eq test old new → (other : K → Bool) → IsKeyTest eq other → AreApart test other → lookup other new ≡ lookup other old
  unfolding KeepsOthers
  other_entries old new h = h

-- the value of the key that was set, and of any other
value_by : {K X : Type 0} (bytes : K → List ℕ) (m n : BTreeMap K X) (name : List ℕ) (w : Option X) (word : List ℕ) (x : Bool) → bytes_eq name word ≡ x
    → UpdatesBy (λ j k. slice_cmp nat_cmp (bytes j) (bytes k)) (λ k. slice_cmp nat_cmp name (bytes k)) m n w
    → get_by (λ k. slice_cmp nat_cmp word (bytes k)) n ≡ (if x then w else get_by (λ k. slice_cmp nat_cmp word (bytes k)) m)
value_by bytes m n name w word true e h = subst (λ l. get_by (λ k. slice_cmp nat_cmp l (bytes k)) n ≡ w) ((bytes_eq-Decides name word).0 e) h.1
value_by bytes m n name w word false e h =
    other_entries _ _ _ _ h.3 _ (λ x y. (eq_by_cmp_equiv nat_list_cmp_total).congr word (bytes x) (bytes y)) (λ k. apart_in_order name word (bytes k) e)

-- the values after a key was set
pub value_after : {K X : Type 0} (bytes : K → List ℕ) (m n : BTreeMap K X) (name : List ℕ) (w : Option X)
    → UpdatesBy (λ j k. slice_cmp nat_cmp (bytes j) (bytes k)) (λ k. slice_cmp nat_cmp name (bytes k)) m n w
    → (word : List ℕ) → get_by (λ k. slice_cmp nat_cmp word (bytes k)) n ≡ (if bytes_eq name word then w else get_by (λ k. slice_cmp nat_cmp word (bytes k)) m)
value_after bytes m n name w h word = value_by bytes m n name w word (bytes_eq name word) refl h

-- The numbers that arguments are, one after another.
use Rattle.std.proofs.Common.{◌≡◌, ℕ, suc, ◌+◌, ◌<◌, ◌≤◌, ℤ, Option, Some, None, List, [], ◌∷◌, ◌++◌, length, get_or, drop, refl, sym, ap, ◌∙◌, add-one, drop-cons, append_assoc, append-nil}
use Rattle.std.specs.Prelude.{option_map}
use Rattle.std.proofs.lemmas.List.{drop_all}
use Rattle.c_meaning.specs.declared.argument.Argument.{Argument}
use Rattle.c_meaning.specs.declared.argument.Argument.TheVariants.{Number, Array, Format, Place}
use Rattle.c_meaning.specs.Library.{numbers}

-- the numbers so far, and then those of these arguments
abbrev pub with_numbers : List ℤ → List Argument → Option (List ℤ)
with_numbers vs gs = option_map (λ ws. vs ++ ws) (numbers gs)

front_twice : (vs : List ℤ) (v : ℤ) (o : Option (List ℤ)) → option_map (λ ws. vs ++ ws) (option_map (λ ws. v ∷ ws) o) ≡ option_map (λ ws. (vs ++ v ∷ []) ++ ws) o
front_twice vs v (Some ws) = ap Some (sym (append_assoc vs (v ∷ []) ws))
front_twice vs v None = refl

not_first : (vs : List ℤ) (g : Argument) (gs : List Argument) → ((v : ℤ) → g ≡ Number v → ⊥) → with_numbers vs (g ∷ gs) ≡ None
not_first vs (Number v) gs not = absurd (not v refl)
not_first vs (Array n) gs not = refl
not_first vs (Format f) gs not = refl
not_first vs (Place slot i) gs not = refl

-- one number more
pub numbers_more : (vs : List ℤ) (gs : List Argument) (i : ℕ) (v : ℤ) (g : Argument) → i < length gs → g ≡ get_or gs i g → g ≡ Number v
    → with_numbers vs (drop i gs) ≡ with_numbers (vs ++ v ∷ []) (drop (i + 1) gs)
numbers_more vs gs i v g lt at is =
    rw add-one (ap (with_numbers vs) (drop-cons gs i g lt ∙ ap (λ x. x ∷ drop (suc i) gs) (sym at ∙ is)) ∙ front_twice vs v (numbers (drop (suc i) gs)))

-- one that isn't a number
pub numbers_not : (vs : List ℤ) (gs : List Argument) (i : ℕ) (g : Argument) → i < length gs → g ≡ get_or gs i g → ((v : ℤ) → g ≡ Number v → ⊥)
    → with_numbers vs (drop i gs) ≡ None
numbers_not vs gs i g lt at not =
    ap (with_numbers vs) (drop-cons gs i g lt ∙ ap (λ x. x ∷ drop (suc i) gs) (sym at)) ∙ not_first vs g (drop (suc i) gs) not

-- no one more
pub numbers_all : (vs : List ℤ) (gs : List Argument) (i : ℕ) → length gs ≤ i → with_numbers vs (drop i gs) ≡ Some vs
numbers_all vs gs i le = ap (with_numbers vs) (drop_all i gs le) ∙ ap Some (append-nil vs)

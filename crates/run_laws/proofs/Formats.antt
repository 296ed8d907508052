-- The rules of kinds and the printing count a format's conversions alike.
use Rattle.std.proofs.Common.{◌≡◌, ℕ, suc, ◌||◌, nat_eq, List, [], ◌∷◌, Option, Some, None, if◌then◌else◌, refl, ap, ◌∙◌}
use Rattle.std.specs.Option.{option_map}
use Rattle.c_types.specs.Formats as kinds
use Rattle.c_stdio.specs.Formats as printing

-- one more is one more
one_more-is : (o : Option ℕ) → kinds.one_more o ≡ option_map suc o
one_more-is None = refl
one_more-is (Some n) = refl

mutual
  pub conversions-agree : (text : List ℕ) → kinds.conversions text ≡ printing.conversions text
  conversions-agree [] = refl
  conversions-agree (b ∷ bs) = λ i.
      if nat_eq b 0 then None
      else (if nat_eq b 37 then after-agree bs i else conversions-agree bs i)

  -- the same of what follows a `%`
  after-agree : (text : List ℕ) → kinds.after_percent text ≡ printing.conversions_after text
  after-agree [] = refl
  after-agree (b ∷ bs) =
      let more : kinds.one_more (kinds.conversions bs) ≡ option_map suc (printing.conversions bs) =
      one_more-is (kinds.conversions bs) ∙ ap (option_map suc) (conversions-agree bs) in
      λ i. if nat_eq b 100 || nat_eq b 99 then more i else (if nat_eq b 37 then conversions-agree bs i else None)

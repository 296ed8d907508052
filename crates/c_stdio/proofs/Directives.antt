-- One directive of a format.
use Rattle.std.proofs.Common.{◌≡◌, ℕ, suc, ◌+◌, ◌<◌, ◌≤◌, ℤ, Bool, true, false, cond, eqb, List, [], ◌∷◌, ◌++◌, length, drop, get_or, length-drop, Option, Some, None, option_map, refl, sym, ap, subst, ◌∙◌, arith, ne_eqb, eq-eqb}
use Rattle.std.proofs.lemmas.Bool.{cond-true, cond-false}
use Rattle.std.proofs.lemmas.List.{drop_more, drop_all}
use Rattle.c_stdio.specs.Output.{is_expected, expected_after}
use Rattle.c_stdio.specs.Formats.{takes_argument, conversions, conversions_after, converted, text, text_after}
use Rattle.c_stdio.proofs.Writing.{Writes, writes_at_first, writes_on, stops, stops_after}

-- ---- how many arguments are converted

-- a byte that stands for itself
pub conversions-plain : (b : ℕ) (f : List ℕ) → (b ≡ 0 → ⊥) → (b ≡ 37 → ⊥) → conversions (b ∷ f) ≡ conversions f
conversions-plain b f some plain = cond-false (eqb b 0) _ _ (ne_eqb b 0 some) ∙ cond-false (eqb b 37) _ _ (ne_eqb b 37 plain)

pub conversions-zero : (b : ℕ) (f : List ℕ) → b ≡ 0 → conversions (b ∷ f) ≡ None
conversions-zero b f e = cond-true (eqb b 0) _ _ (eq-eqb b 0 e)

pub conversions-percent : (b : ℕ) (f : List ℕ) → b ≡ 37 → conversions (b ∷ f) ≡ conversions_after f
conversions-percent b f e = ap (λ x. conversions (x ∷ f)) e

pub conversions-taking : (c : ℕ) (f : List ℕ) → takes_argument c ≡ true → conversions_after (c ∷ f) ≡ option_map suc (conversions f)
conversions-taking c f t = cond-true (takes_argument c) _ _ t

pub conversions-twice : (c : ℕ) (f : List ℕ) → c ≡ 37 → conversions_after (c ∷ f) ≡ conversions f
conversions-twice c f e = ap (λ x. conversions_after (x ∷ f)) e

pub conversions-other : (c : ℕ) (f : List ℕ) → takes_argument c ≡ false → (c ≡ 37 → ⊥) → conversions_after (c ∷ f) ≡ None
conversions-other c f t e = cond-false (takes_argument c) _ _ t ∙ cond-false (eqb c 37) _ _ (ne_eqb c 37 e)

-- what a count so far makes of the count of the rest
pub counted : (n : ℕ) (o : Option ℕ) → option_map (λ m. n + m) (option_map suc o) ≡ option_map (λ m. n + 1 + m) o
counted n None = refl
counted n (Some m) = ap Some (more n m)
  where
    more : (n m : ℕ) → n + suc m ≡ n + 1 + m
    more n m = omega arith

pub counted_none : (o : Option ℕ) → option_map (λ m. 0 + m) o ≡ o
counted_none None = refl
counted_none (Some m) = let e : 0 + m ≡ m = omega arith in ap Some e

-- ---- the text

pub text-plain : (b : ℕ) (f : List ℕ) (args : List ℤ) → (b ≡ 37 → ⊥) → text (b ∷ f) args ≡ (b ∷ []) ++ text f args
text-plain b f args plain = cond-false (eqb b 37) _ _ (ne_eqb b 37 plain)

pub text-twice : (b c : ℕ) (f : List ℕ) (args : List ℤ) → b ≡ 37 → c ≡ 37 → text (b ∷ c ∷ f) args ≡ (37 ∷ []) ++ text f args
text-twice b c f args e d = ap (λ x. text (x ∷ c ∷ f) args) e ∙ ap (λ x. text_after (x ∷ f) args) d

pub text-converted : (b c : ℕ) (f : List ℕ) (v : ℤ) (args : List ℤ) → b ≡ 37 → (c ≡ 37 → ⊥) → text (b ∷ c ∷ f) (v ∷ args) ≡ converted c v ++ text f args
text-converted b c f v args e d = ap (λ x. text (x ∷ c ∷ f) (v ∷ args)) e ∙ cond-false (eqb c 37) _ _ (ne_eqb c 37 d)

-- ---- a format that fits its arguments

module _ (b : ℕ) (f : List ℕ) (n : ℕ) (h : conversions (b ∷ f) ≡ Some n) where
  -- its first byte isn't zero
  not_zero : b ≡ 0 → ⊥
  not_zero e = let z = conversions-zero b f e in cc

  -- a byte that stands for itself
  fits_plain : (b ≡ 37 → ⊥) → conversions f ≡ Some n
  fits_plain plain = sym (conversions-plain b f not_zero plain) ∙ h

  -- a `%` has something after it
  fits_after : b ≡ 37 → f ≡ [] → ⊥
  fits_after e none = let z : conversions_after f ≡ None = ap conversions_after none in let y = conversions-percent b f e in cc

module _ (b c : ℕ) (f : List ℕ) (n : ℕ) (h : conversions (b ∷ c ∷ f) ≡ Some n) (e : b ≡ 37) where
  -- a `%%`
  fits_twice : c ≡ 37 → conversions f ≡ Some n
  fits_twice d = sym (conversions-twice c f d) ∙ sym (conversions-percent b (c ∷ f) e) ∙ h

  -- another `%` has an argument
  fits_converted : (c ≡ 37 → ⊥) → (m : ℕ) × (n ≡ suc m) × (conversions f ≡ Some m)
  fits_converted d =
      by (takes_argument c) (conversions f) (conversions_after (c ∷ f))
      (ap (λ x. cond (takes_argument c) (option_map suc (conversions f)) x) (cond-false (eqb c 37) _ _ (ne_eqb c 37 d)))
      (sym (conversions-percent b (c ∷ f) e) ∙ h)
    where
      by : (t : Bool) (o p : Option ℕ) → p ≡ cond t (option_map suc o) None → p ≡ Some n → (m : ℕ) × (n ≡ suc m) × (o ≡ Some m)
      by false o p q k = absurd (let z : None ≡ Some n = sym q ∙ k in cc)
      by true None p q k = absurd (let z : None ≡ Some n = sym q ∙ k in cc)
      by true (Some m) p q k = let z : Some (suc m) ≡ Some n = sym q ∙ k in (m, cc, refl)

-- ---- what remains to be written of a format, where what is expected now is this

pub record Remains (whole first rest : List ℕ) (args : List ℤ) (now : List ℕ) : Type 0 where
  pub fits : conversions rest ≡ Some (length args)
  pub writes : Writes whole first (text rest args) now

-- a text can't be written whole: nothing more is written
pub record Ends (whole first after : List ℕ) : Type 0 where
  pub expected : false ≡ is_expected whole first
  pub state : after ≡ expected_after whole first

pub all_remains : (format : List ℕ) (args : List ℤ) (first : List ℕ) → conversions format ≡ Some (length args) → Remains (text format args) first format args first
all_remains format args first fits = record { fits = fits; writes = writes_at_first _ _ }

module _ {whole first now : List ℕ} {args : List ℤ} where
  module _ (b : ℕ) (f : List ℕ) (r : Remains whole first (b ∷ f) args now) where
    on_plain : (b ≡ 37 → ⊥) → Writes whole first ((b ∷ []) ++ text f args) now
    on_plain plain = subst (λ t. Writes whole first t now) (text-plain b f args plain) r.writes

    pub remains_plain : (b ≡ 37 → ⊥) → is_expected (b ∷ []) now ≡ true → Remains whole first f args (expected_after (b ∷ []) now)
    remains_plain plain h = record { fits = fits_plain b f _ r.fits plain; writes = writes_on (b ∷ []) (text f args) now (on_plain plain) h }

    pub ends_plain : (b ≡ 37 → ⊥) → is_expected (b ∷ []) now ≡ false → Ends whole first (expected_after (b ∷ []) now)
    ends_plain plain h = record { expected = stops (b ∷ []) (text f args) now (on_plain plain) h; state = stops_after (b ∷ []) (text f args) now (on_plain plain) h }

    pub more_format : b ≡ 37 → 0 < length f
    more_format e = by f refl
      where
        by : (g : List ℕ) → f ≡ g → 0 < length g
        by [] is = absurd (fits_after b f _ r.fits e is)
        by (c ∷ g) is = omega arith

  module _ (b c : ℕ) (f : List ℕ) (r : Remains whole first (b ∷ c ∷ f) args now) (e : b ≡ 37) where
    on_twice : c ≡ 37 → Writes whole first ((37 ∷ []) ++ text f args) now
    on_twice d = subst (λ t. Writes whole first t now) (text-twice b c f args e d) r.writes

    pub remains_twice : c ≡ 37 → is_expected (37 ∷ []) now ≡ true → Remains whole first f args (expected_after (37 ∷ []) now)
    remains_twice d h = record { fits = fits_twice b c f _ r.fits e d; writes = writes_on (37 ∷ []) (text f args) now (on_twice d) h }

    pub ends_twice : c ≡ 37 → is_expected (37 ∷ []) now ≡ false → Ends whole first (expected_after (37 ∷ []) now)
    ends_twice d h = record { expected = stops (37 ∷ []) (text f args) now (on_twice d) h; state = stops_after (37 ∷ []) (text f args) now (on_twice d) h }

    pub more_args : (c ≡ 37 → ⊥) → 0 < length args
    more_args d = let m = fits_converted b c f _ r.fits e d in omega (arith, m.1)

module _ {whole first now : List ℕ} {args : List ℤ} (b c : ℕ) (f : List ℕ) (v : ℤ) (r : Remains whole first (b ∷ c ∷ f) (v ∷ args) now) (e : b ≡ 37) (d : c ≡ 37 → ⊥) where
  on_converted : Writes whole first (converted c v ++ text f args) now
  on_converted = subst (λ t. Writes whole first t now) (text-converted b c f v args e d) r.writes

  pub remains_converted : is_expected (converted c v) now ≡ true → Remains whole first f args (expected_after (converted c v) now)
  remains_converted h =
      let m = fits_converted b c f _ r.fits e d in
      let same : m.0 ≡ length args = omega (arith, m.1) in
      record { fits = m.2 ∙ ap Some same; writes = writes_on (converted c v) (text f args) now on_converted h }

  pub ends_converted : is_expected (converted c v) now ≡ false → Ends whole first (expected_after (converted c v) now)
  ends_converted h = record { expected = stops (converted c v) (text f args) now on_converted h; state = stops_after (converted c v) (text f args) now on_converted h }

-- ---- the same at places in a format and its arguments

module _ {whole first now : List ℕ} (format : List ℕ) (args : List ℤ) (at next : ℕ) (r : Remains whole first (drop at format) (drop next args) now) (here : at < length format) where
  byte : ℕ
  byte = get_or format at 0

  one : Remains whole first (get_or format at 0 ∷ drop (at + 1) format) (drop next args) now
  one = subst (λ l. Remains whole first l (drop next args) now) (drop_more format at 0 here) r

  pub plain_at : (get_or format at 0 ≡ 37 → ⊥) → is_expected (get_or format at 0 ∷ []) now ≡ true → Remains whole first (drop (at + 1) format) (drop next args) (expected_after (get_or format at 0 ∷ []) now)
  plain_at = remains_plain (get_or format at 0) (drop (at + 1) format) one

  pub plain_ends : (get_or format at 0 ≡ 37 → ⊥) → is_expected (get_or format at 0 ∷ []) now ≡ false → Ends whole first (expected_after (get_or format at 0 ∷ []) now)
  plain_ends = ends_plain (get_or format at 0) (drop (at + 1) format) one

  pub specifier_in : get_or format at 0 ≡ 37 → at + 1 < length format
  specifier_in e = let more = more_format (get_or format at 0) (drop (at + 1) format) one e in omega (arith, length-drop (at + 1) format)

  module _ (e : get_or format at 0 ≡ 37) where
    two : Remains whole first (get_or format at 0 ∷ get_or format (at + 1) 0 ∷ drop (at + 1 + 1) format) (drop next args) now
    two = subst (λ l. Remains whole first (get_or format at 0 ∷ l) (drop next args) now) (drop_more format (at + 1) 0 (specifier_in e)) one

    pub twice_at : get_or format (at + 1) 0 ≡ 37 → is_expected (37 ∷ []) now ≡ true → Remains whole first (drop (at + 1 + 1) format) (drop next args) (expected_after (37 ∷ []) now)
    twice_at = remains_twice (get_or format at 0) (get_or format (at + 1) 0) (drop (at + 1 + 1) format) two e

    pub twice_ends : get_or format (at + 1) 0 ≡ 37 → is_expected (37 ∷ []) now ≡ false → Ends whole first (expected_after (37 ∷ []) now)
    twice_ends = ends_twice (get_or format at 0) (get_or format (at + 1) 0) (drop (at + 1 + 1) format) two e

    module _ (d : get_or format (at + 1) 0 ≡ 37 → ⊥) where
      pub argument_in : next < length args
      argument_in = let more = more_args (get_or format at 0) (get_or format (at + 1) 0) (drop (at + 1 + 1) format) two e d in omega (arith, length-drop next args)

      three : (v : ℤ) → Remains whole first (get_or format at 0 ∷ get_or format (at + 1) 0 ∷ drop (at + 1 + 1) format) (get_or args next v ∷ drop (next + 1) args) now
      three v = subst (λ l. Remains whole first (get_or format at 0 ∷ get_or format (at + 1) 0 ∷ drop (at + 1 + 1) format) l now) (drop_more args next v argument_in) two

      pub converted_at : (v : ℤ) → is_expected (converted (get_or format (at + 1) 0) (get_or args next v)) now ≡ true → Remains whole first (drop (at + 1 + 1) format) (drop (next + 1) args) (expected_after (converted (get_or format (at + 1) 0) (get_or args next v)) now)
      converted_at v = remains_converted (get_or format at 0) (get_or format (at + 1) 0) (drop (at + 1 + 1) format) (get_or args next v) (three v) e d

      pub converted_ends : (v : ℤ) → is_expected (converted (get_or format (at + 1) 0) (get_or args next v)) now ≡ false → Ends whole first (expected_after (converted (get_or format (at + 1) 0) (get_or args next v)) now)
      converted_ends v = ends_converted (get_or format at 0) (get_or format (at + 1) 0) (drop (at + 1 + 1) format) (get_or args next v) (three v) e d

-- at the end of the format
pub all_written : {whole first now : List ℕ} (format : List ℕ) (args : List ℤ) (at : ℕ) → Remains whole first (drop at format) args now → length format ≤ at → (true ≡ is_expected whole first) × (now ≡ expected_after whole first)
all_written {whole} {first} {now} format args at r end =
    let w = subst (λ l. Remains whole first l args now) (drop_all at format end) r in
    (w.writes.expected, w.writes.state)

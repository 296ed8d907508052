-- Texts that hold no line splice and no trigraph, put together from two parts.
use Rattle.std.proofs.Common.{◌≡◌, ℕ, zero, suc, ◌≤◌, Bool, true, false, not, ◌||◌, ◌&&◌, ◌==◌, [], ◌∷◌, ◌++◌, length, take, drop, refl, sym, subst, arith, take-append-drop}
use Rattle.std.proofs.lemmas.Bool.Decides.{nat_tests}
use Rattle.c_lex.specs.Bytes.{Bytes}
use Rattle.c_lex.specs.Places.{IsNowhere, is_refused, ends_trigraph}
use Rattle.c_splice.specs.Seams.{is_seam, begins_seam}
use Rattle.c_splice.specs.Edges.{is_calm, ends_query, begins_plain}

-- ---- single places

-- one byte is nothing that is refused
refused_one : (b : ℕ) → is_refused (b ∷ []) ≡ false
refused_one b = grind (arith, nat_tests)

-- nor are two bytes that begin nothing of the kind
refused_two : (b c : ℕ) (s : Bytes) → is_refused (b ∷ c ∷ s) ≡ false → is_refused (b ∷ c ∷ []) ≡ false
refused_two b c [] h = h
refused_two b c (d ∷ s) h = grind (arith, nat_tests)

-- a byte that is neither `?` nor a backslash begins nothing that is refused
calm_one : (b : ℕ) (s : Bytes) → is_calm (b ∷ []) ≡ true → is_refused (b ∷ s) ≡ false
calm_one b [] h = refused_one b
calm_one b (c ∷ []) h = grind (arith, nat_tests)
calm_one b (c ∷ d ∷ s) h = grind (arith, nat_tests)

-- the byte before one that is calm begins nothing more
calm_two : (b c : ℕ) (s : Bytes) → is_calm (c ∷ []) ≡ true → is_refused (b ∷ c ∷ []) ≡ false
    → is_refused (b ∷ c ∷ s) ≡ false
calm_two b c [] h e = e
calm_two b c (d ∷ s) h e = grind (arith, nat_tests)

-- a byte before a seam begins nothing that is refused
seam_one : (b c : ℕ) (s : Bytes) → is_seam c ≡ true → is_refused (b ∷ c ∷ s) ≡ false
seam_one b c [] h = grind (arith, nat_tests)
seam_one b c (d ∷ s) h = grind (arith, nat_tests)

-- two bytes before a seam begin a trigraph only where they are `??` and the seam ends one
seam_two : (b c d : ℕ) (s : Bytes) → is_seam d ≡ true
    → (not (b == 63 && c == 63) || not (ends_trigraph d)) ≡ true → is_refused (b ∷ c ∷ []) ≡ false
    → is_refused (b ∷ c ∷ d ∷ s) ≡ false
seam_two b c d s h t e = grind (arith, nat_tests)

-- ---- clean texts

-- a clean text is clean without its first byte
pub clean_tail : (b : ℕ) (z : Bytes) → IsNowhere is_refused (b ∷ z) → IsNowhere is_refused z
clean_tail b z h m l = h (suc m) (omega arith)

-- so it is without a prefix
pub clean_suffix : (x s : Bytes) → IsNowhere is_refused (x ++ s) → IsNowhere is_refused s
clean_suffix [] s h = h
clean_suffix (b ∷ x) s h = clean_suffix x s (clean_tail b (x ++ s) h)

-- and without its first n bytes
pub clean_drop : (n : ℕ) (z : Bytes) → IsNowhere is_refused z → IsNowhere is_refused (drop n z)
clean_drop n z h =
    clean_suffix (take n z) (drop n z) (subst (IsNowhere is_refused) (sym (take-append-drop n z)) h)

-- a clean text is clean with a byte before it that begins nothing that is refused
pub more : (b : ℕ) (z : Bytes) → is_refused (b ∷ z) ≡ false → IsNowhere is_refused z
    → IsNowhere is_refused (b ∷ z)
more b z e h zero l = e
more b z e h (suc m) l = h m (omega arith)

-- the first byte of a clean text begins nothing that is refused
first : (b : ℕ) (z : Bytes) → IsNowhere is_refused (b ∷ z) → is_refused (b ∷ z) ≡ false
first b z h = h 0 (omega arith)

-- the empty text is clean
pub clean_none : IsNowhere is_refused []
clean_none zero l = refl
clean_none (suc m) l = absurd (omega arith)

-- a clean text is clean without what follows a prefix
pub clean_prefix : (x s : Bytes) → IsNowhere is_refused (x ++ s) → IsNowhere is_refused x
clean_prefix [] s h = clean_none
clean_prefix (b ∷ []) s h = more b [] (refused_one b) clean_none
clean_prefix (b ∷ c ∷ []) s h =
    more b (c ∷ []) (refused_two b c s (first b (c ∷ s) h))
    (clean_prefix (c ∷ []) s (clean_tail b (c ∷ s) h))
clean_prefix (b ∷ c ∷ d ∷ x) s h =
    more b (c ∷ d ∷ x) (first b (c ∷ d ∷ (x ++ s)) h)
    (clean_prefix (c ∷ d ∷ x) s (clean_tail b (c ∷ d ∷ (x ++ s)) h))

-- a clean text after one that ends calmly
pub clean_calm : (x s : Bytes) → IsNowhere is_refused x → is_calm x ≡ true → IsNowhere is_refused s
    → IsNowhere is_refused (x ++ s)
clean_calm [] s h i g = g
clean_calm (b ∷ []) s h i g = more b s (calm_one b s i) g
clean_calm (b ∷ c ∷ []) s h i g =
    more b (c ∷ s) (calm_two b c s i (first b (c ∷ []) h))
    (clean_calm (c ∷ []) s (clean_tail b (c ∷ []) h) i g)
clean_calm (b ∷ c ∷ d ∷ x) s h i g =
    more b (c ∷ d ∷ (x ++ s)) (first b (c ∷ d ∷ x) h)
    (clean_calm (c ∷ d ∷ x) s (clean_tail b (c ∷ d ∷ x) h) i g)

-- a clean text before one that begins with a seam, which ends no trigraph or doesn't follow `??`
pub clean_seam : (x s : Bytes) → IsNowhere is_refused x → begins_seam s ≡ true
    → (not (ends_query x) || begins_plain s) ≡ true → IsNowhere is_refused s
    → IsNowhere is_refused (x ++ s)
clean_seam x [] h i t g = absurd (cc)
clean_seam [] (e ∷ s) h i t g = g
clean_seam (b ∷ []) (e ∷ s) h i t g = more b (e ∷ s) (seam_one b e s i) g
clean_seam (b ∷ c ∷ []) (e ∷ s) h i t g =
    more b (c ∷ e ∷ s) (seam_two b c e s i t (first b (c ∷ []) h))
    (more c (e ∷ s) (seam_one c e s i) g)
clean_seam (b ∷ c ∷ d ∷ x) (e ∷ s) h i t g =
    more b (c ∷ d ∷ (x ++ e ∷ s)) (first b (c ∷ d ∷ x) h)
    (clean_seam (c ∷ d ∷ x) (e ∷ s) (clean_tail b (c ∷ d ∷ x) h) i t g)

-- ---- calm ends

-- two texts end calmly where the second does
pub calm_append : (x y : Bytes) → is_calm y ≡ true → 1 ≤ length y → is_calm (x ++ y) ≡ true
calm_append [] y h l = h
calm_append (b ∷ []) [] h l = absurd (omega arith)
calm_append (b ∷ []) (c ∷ y) h l = h
calm_append (b ∷ c ∷ x) y h l = calm_append (c ∷ x) y h l

-- ---- texts that begin with a seam

-- a text that begins with a seam does so whatever follows it
pub seam_append : (x y : Bytes) → begins_seam x ≡ true → begins_seam (x ++ y) ≡ true
seam_append [] y h = absurd (cc)
seam_append (b ∷ x) y h = h

-- and its first byte ends no trigraph whatever follows it
pub plain_append : (q : Bool) (x y : Bytes) → begins_seam x ≡ true → (q || begins_plain x) ≡ true
    → (q || begins_plain (x ++ y)) ≡ true
plain_append q [] y i h = absurd (cc)
plain_append q (b ∷ x) y i h = h

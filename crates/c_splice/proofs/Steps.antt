-- The steps of a cut, in other texts and from other places on.
use Rattle.std.proofs.Common.{◌≡◌, ℕ, ℤ, ◌+◌, ◌≤◌, Bool, true, ◌||◌, List, [], ◌∷◌, ◌++◌, length, take, drop, Ok, Err, refl, sym, ap, ◌∙◌, subst, arith, take-append-drop}
use Rattle.std.proofs.lemmas.List.{length-take-le}
use Rattle.c_lex.specs.declared.scan.Scanned.{Scanned}
use Rattle.c_lex.specs.declared.scan.Scanned.TheVariants as scanned
use Rattle.c_lex.specs.declared.opening.Opening.{Opening}
use Rattle.c_lex.specs.declared.token.TokenKind.{TokenKind}
use Rattle.c_lex.specs.Bytes.{Bytes}
use Rattle.c_lex.specs.Lexemes.{Lexeme, span_at, kinds}
use Rattle.c_lex.specs.Openings.{opening_of}
use Rattle.c_lex.specs.Tokens.{Macros, Found, Outcome, Stands, Cuts, also}
use Rattle.c_lex.proofs.Appends.{prefix_dropped}
use Rattle.c_lex.proofs.Sizes.{IsWithin, stands_within}
use Rattle.c_splice.specs.Seams.{begins_seam, CutsInto}
use Rattle.c_splice.proofs.Stood.{size, reach, is_taken, begins_token, stands_same, stands_seam, stands_moved}

-- ---- one step before a text that is cut

-- what is left after a prefix
left : (w s : Bytes) (len : ℕ) → len ≡ length w → s ≡ drop len (w ++ s)
left w s len e = sym (ap (λ q. drop q (w ++ s)) e ∙ prefix_dropped w s)

-- white space, a comment or an `#include` before a text
pub passes : {begun : Bool} {m : Macros} (w s : Bytes) (len : ℕ) (ks : List TokenKind)
    → len ≡ length w → 1 ≤ length w
    → ((at : ℕ) → Stands m at (w ++ s) begun (opening_of (w ++ s)) (Ok (scanned.Pass len)))
    → CutsInto begun m s ks → CutsInto begun m (w ++ s) ks
passes [] s len ks e l h g at = absurd (omega arith)
passes {begun} {m} (b ∷ w) s len ks e l h g at =
    let r = g (at + len) in (
      r.0,
      Cuts.pass len (h at)
          (subst (λ q. Cuts begun m (at + len) q (Ok r.0)) (left (b ∷ w) s len e) r.1),
      r.2,
    )

-- the definition of a macro before a text
pub defines : {begun : Bool} {m : Macros} (w s : Bytes) (name : Bytes) (value : ℤ) (len : ℕ)
    (ks : List TokenKind)
    → len ≡ length w → 1 ≤ length w
    → ((at : ℕ) → Stands m at (w ++ s) begun (opening_of (w ++ s)) (Ok (scanned.Define name value len)))
    → CutsInto begun ((name, value) ∷ m) s ks → CutsInto begun m (w ++ s) ks
defines [] s name value len ks e l h g at = absurd (omega arith)
defines {begun} {m} (b ∷ w) s name value len ks e l h g at =
    let r = g (at + len) in
    let later =
    subst (λ q. Cuts begun ((name, value) ∷ m) (at + len) q (Ok r.0))
    (left (b ∷ w) s len e) r.1 in
    (r.0, Cuts.define name value len (h at) later, r.2)

-- a token before a text
pub takes : {begun : Bool} {m : Macros} (w s : Bytes) (kind : TokenKind) (len : ℕ) (ks : List TokenKind)
    → len ≡ length w → 1 ≤ length w
    → ((at : ℕ) → Stands m at (w ++ s) begun (opening_of (w ++ s)) (Ok (scanned.Take kind len)))
    → CutsInto true m s ks → CutsInto begun m (w ++ s) (kind ∷ ks)
takes [] s kind len ks e l h g at = absurd (omega arith)
takes {begun} {m} (b ∷ w) s kind len ks e l h g at =
    let r = g (at + len) in
    let later = subst (λ q. Cuts true m (at + len) q (Ok r.0)) (left (b ∷ w) s len e) r.1 in
    ((kind, span_at at len) ∷ r.0, Cuts.token kind len (h at) later, ap (λ q. kind ∷ q) r.2)

-- the same by what the text begins with
pub takes_by : {m : Macros} (w s : Bytes) (kind : TokenKind) (o : Opening) (ks : List TokenKind)
    → 1 ≤ length w
    → opening_of (w ++ s) ≡ o
    → ((at : ℕ) → Stands m at (w ++ s) true o (Ok (scanned.Take kind (length w))))
    → CutsInto true m s ks → CutsInto true m (w ++ s) (kind ∷ ks)
takes_by {m} w s kind o ks l e h g = takes w s kind (length w) ks refl l (λ at. stands at) g
  where
    stands : (at : ℕ)
        → Stands m at (w ++ s) true (opening_of (w ++ s)) (Ok (scanned.Take kind (length w)))
    stands at =
        subst (λ q. Stands m at (w ++ s) true q (Ok (scanned.Take kind (length w)))) (sym e) (h at)

-- ---- a whole text from another place on

-- a token before an outcome that is tokens
pub also_ok : (t : Lexeme) (r : Outcome) (ts : List Lexeme) → also t r ≡ Ok ts
    → (us : List Lexeme) × (r ≡ Ok us) × (ts ≡ t ∷ us)
also_ok t (Ok us) ts e = (us, refl, cc)
also_ok t (Err f) ts e = absurd (cc)

-- a text that is cut into tokens is cut into the same kinds from each place on
pub moved : {begun : Bool} {m : Macros} {at : ℕ} {z : Bytes} {r : Outcome} → Cuts begun m at z r
    → (ts : List Lexeme) → r ≡ Ok ts → CutsInto begun m z (kinds ts)
moved Cuts.done ts e at = ([], Cuts.done, ap kinds (let f : [] ≡ ts = cc in f))
moved {begun} {m} (Cuts.pass {b = b} {z = z} len s d) ts e place =
    let r = moved d ts e (place + len) in
    (r.0, Cuts.pass len (stands_moved place (stands_within s refl (omega arith)).0 s) r.1, r.2)
moved {begun} {m} (Cuts.define {b = b} {z = z} name value len s d) ts e place =
    let r = moved d ts e (place + len) in (
      r.0,
      Cuts.define name value len
          (stands_moved place (stands_within s refl (omega arith)).0 s) r.1,
      r.2,
    )
moved {begun} {m} {at} (Cuts.token {b = b} {z = z} {r = o} kind len s d) ts e place =
    let p = also_ok (kind, span_at at len) o ts e in
    let r = moved d p.0 p.1 (place + len) in (
      (kind, span_at place len) ∷ r.0,
      Cuts.token kind len (stands_moved place (stands_within s refl (omega arith)).0 s) r.1,
      ap (λ q. kind ∷ q) r.2 ∙ ap kinds (sym p.2),
    )
moved (Cuts.stop f s) ts e place = absurd (cc)

-- ---- one step of a text, with its bytes

-- a step of the cut of z: its bytes w, and what follows them, in two parts
pub record Step (begun : Bool) (m : Macros) (at : ℕ) (z : Bytes) (r : Found)
    (x y : Bytes) : Type 0 where
  pub w : Bytes
  pub some : 1 ≤ length w
  pub reaches : reach r ≡ length w
  pub is_text : z ≡ w ++ (x ++ y)
  pub stands : Stands m at (w ++ (x ++ y)) begun (opening_of (w ++ (x ++ y))) r

-- what stands at a place has a byte or more, and lies in the text
within_size : (at n : ℕ) (f : Scanned) → IsWithin at n (Ok f) → (1 ≤ size f) × (size f ≤ n)
within_size at n (scanned.Pass len) h = h
within_size at n (scanned.Define name value len) h = h
within_size at n (scanned.Take kind len) h = h

-- each step of a cut
pub step : {begun : Bool} {m : Macros} {at : ℕ} (b : ℕ) (z : Bytes) (f : Scanned) (x y : Bytes)
    → Stands m at (b ∷ z) begun (opening_of (b ∷ z)) (Ok f) → drop (size f) (b ∷ z) ≡ x ++ y
    → Step begun m at (b ∷ z) (Ok f) x y
step {begun} {m} {at} b z f x y s e =
    let within = within_size at (length (b ∷ z)) f (stands_within s refl (omega arith)) in
    let w = take (size f) (b ∷ z) in
    let len : length w ≡ size f = length-take-le (size f) (b ∷ z) within.1 in
    let text : b ∷ z ≡ w ++ (x ++ y) = sym (take-append-drop (size f) (b ∷ z)) ∙ ap (λ q. w ++ q) e in
    record {
      w = w;
      some = omega (arith, len, within.0);
      reaches = sym len;
      is_text = text;
      stands = subst (λ q. Stands m at q begun (opening_of q) (Ok f)) text s;
    }

-- the same step before a text that begins with the same bytes
pub step_before : {begun : Bool} {m : Macros} {at : ℕ} {z : Bytes} {r : Found} (x y : Bytes)
    (k : Step begun m at z r x y) → 1 ≤ length x → (s : Bytes) (place : ℕ)
    → Stands m place (k.w ++ (x ++ s)) begun (opening_of (k.w ++ (x ++ s))) r
step_before [] y k i s place = absurd (omega arith)
step_before (c ∷ x) y k i s place = stands_same place k.w (x ++ y) (x ++ s) c k.stands k.reaches k.some

-- the same, or before a seam where nothing stands between
pub step_again : {begun : Bool} {m : Macros} {at : ℕ} {z : Bytes} {r : Found} (x y : Bytes)
    (k : Step begun m at z r x y) → (is_taken r || begins_token y) ≡ true
    → (s : Bytes) → begins_seam s ≡ true → (place : ℕ)
    → Stands m place (k.w ++ (x ++ s)) begun (opening_of (k.w ++ (x ++ s))) r
step_again [] y k t [] i place = absurd (cc)
step_again [] y k t (b ∷ s) i place = stands_seam place k.w y s b k.stands k.reaches k.some i t
step_again (c ∷ x) y k t s i place = stands_same place k.w (x ++ y) (x ++ s) c k.stands k.reaches k.some

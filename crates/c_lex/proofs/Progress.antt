-- A reading that has come to a place.
use Rattle.std.proofs.Common.{◌≡◌, ℕ, ℤ, ◌+◌, ◌-◌, ◌<◌, ◌≤◌, Bool, true, false, List, [], ◌∷◌, ◌++◌, length, take, drop, Ok, Err, refl, sym, ap, subst, arith, append_assoc}
use Rattle.std.proofs.lemmas.List.{take_rest, append-nil, drop-drop, length-drop}
use Rattle.c_lex.specs.declared.fault.LexFault.{LexFault}
use Rattle.c_lex.specs.declared.scan.Scanned.{Scanned}
use Rattle.c_lex.specs.declared.scan.Scanned.TheVariants as scanned
use Rattle.c_lex.specs.declared.macros.MacroMap.{MacroMap}
use Rattle.c_lex.specs.declared.token.TokenKind.{TokenKind}
use Rattle.c_lex.specs.Bytes.{Bytes}
use Rattle.c_lex.specs.Lexemes.{Lexeme, span_at, Rise}
use Rattle.c_lex.specs.Openings.{opening_of}
use Rattle.c_lex.specs.Tokens.{Macros, first_macros, Found, Outcome, also, Stands, Cuts, IsPlaced}
use Rattle.c_lex.specs.Reading.{Knows}
use Rattle.c_lex.proofs.Sizes.{IsWithin, stands_within}

-- ---- the steps of a cut

-- something is passed over
cut_pass : {begun : Bool} {m : Macros} {at : ℕ} (z : Bytes) {r : Outcome} (len : ℕ) → 1 ≤ length z → Stands m at z begun (opening_of z) (Ok (scanned.Pass len))
    → Cuts begun m (at + len) (drop len z) r → Cuts begun m at z r
cut_pass [] len l s d = absurd (omega arith)
cut_pass (b ∷ z) len l s d = Cuts.pass len s d

-- a macro is defined
cut_define : {begun : Bool} {m : Macros} {at : ℕ} (z : Bytes) {r : Outcome} (name : Bytes) (value : ℤ) (len : ℕ) → 1 ≤ length z
    → Stands m at z begun (opening_of z) (Ok (scanned.Define name value len)) → Cuts begun ((name, value) ∷ m) (at + len) (drop len z) r → Cuts begun m at z r
cut_define [] name value len l s d = absurd (omega arith)
cut_define (b ∷ z) name value len l s d = Cuts.define name value len s d

-- a token is taken
cut_token : {begun : Bool} {m : Macros} {at : ℕ} (z : Bytes) {r : Outcome} (kind : TokenKind) (len : ℕ) → 1 ≤ length z
    → Stands m at z begun (opening_of z) (Ok (scanned.Take kind len)) → Cuts true m (at + len) (drop len z) r → Cuts begun m at z (also (kind, span_at at len) r)
cut_token [] kind len l s d = absurd (omega arith)
cut_token (b ∷ z) kind len l s d = Cuts.token kind len s d

-- a fault ends the cut
cut_stop : {begun : Bool} {m : Macros} {at : ℕ} (z : Bytes) (f : LexFault) → 1 ≤ length z → Stands m at z begun (opening_of z) (Err f) → Cuts begun m at z (Err f)
cut_stop [] f l s = absurd (omega arith)
cut_stop (b ∷ z) f l s = Cuts.stop f s

-- ---- the reading

-- the tokens that were read before the outcome of what is left
abbrev pub after : List Lexeme → Outcome → Outcome
after read (Ok ts) = Ok (read ++ ts)
after read (Err f) = Err f

-- one more token was read
after_also : (read : List Lexeme) (t : Lexeme) (r : Outcome) → after read (also t r) ≡ after (read ++ t ∷ []) r
after_also read t (Ok ts) = ap Ok (sym (append_assoc read (t ∷ []) ts))
after_also read t (Err f) = refl

-- the outcome of what is left, after the tokens that were read, is the outcome of the whole text
pub record IsReadTo (bytes : Bytes) (map : MacroMap) (begun : Bool) (at : ℕ) (read : List Lexeme) : Type 0 where
  pub macros : Macros
  pub known : Knows map macros
  pub forward : (r : Outcome) → Cuts begun macros at (drop at bytes) r → Cuts false first_macros 0 bytes (after read r)

-- nothing is read yet
pub read_none : (bytes : Bytes) (map : MacroMap) → Knows map first_macros → IsReadTo bytes map false 0 []
read_none bytes map known = record { macros = first_macros; known = known; forward = λ r d. subst (Cuts false first_macros 0 bytes) (all r) d }
  where
    all : (r : Outcome) → r ≡ after [] r
    all (Ok ts) = refl
    all (Err f) = refl

-- with each list of macros that the map knows, this stands at the place
abbrev pub Stood : MacroMap → Bool → ℕ → Bytes → Found → Type 0
Stood map begun at bytes r = (m : Macros) → Knows map m → Stands m at (drop at bytes) begun (opening_of (drop at bytes)) r

-- what is answered of the rest of a text stands at its place
pub stood_at : (map : MacroMap) (begun : Bool) (at : ℕ) (bytes : Bytes) (found x : Scanned) → found ≡ x
    → ((m : Macros) → Knows map m → Stands m at (take (length bytes - at) (drop at bytes)) begun (opening_of (take (length bytes - at) (drop at bytes))) (Ok found)) → Stood map begun at bytes (Ok x)
stood_at map begun at bytes found x e h =
    subst (λ y. Stood map begun at bytes (Ok y)) e
    (subst (λ z. (m : Macros) → Knows map m → Stands m at z begun (opening_of z) (Ok found)) (take_rest bytes at) h)

-- there is a byte at a place before the end
some_left : (bytes : Bytes) (at : ℕ) → at < length bytes → 1 ≤ length (drop at bytes)
some_left bytes at l = omega (arith, length-drop at bytes)

-- something is passed over
pub read_pass : (bytes : Bytes) (map : MacroMap) (begun : Bool) (at : ℕ) (read : List Lexeme) (len : ℕ) → at < length bytes → IsReadTo bytes map begun at read
    → Stood map begun at bytes (Ok (scanned.Pass len)) → IsReadTo bytes map begun (at + len) read
read_pass bytes map begun at read len l h s = record {
  macros = h.macros;
  known = h.known;
  forward = λ r d. h.forward r (cut_pass (drop at bytes) len (some_left bytes at l) (s h.macros h.known) (subst (λ z. Cuts begun h.macros (at + len) z r) (sym (drop-drop len at bytes)) d));
}

-- a macro is defined
pub read_define : (bytes : Bytes) (map more : MacroMap) (begun : Bool) (at : ℕ) (read : List Lexeme) (name : Bytes) (value : ℤ) (len : ℕ) → at < length bytes → IsReadTo bytes map begun at read
    → Stood map begun at bytes (Ok (scanned.Define name value len))
    → ((m : Macros) → Knows map m → Knows more ((name, value) ∷ m)) → IsReadTo bytes more begun (at + len) read
read_define bytes map more begun at read name value len l h s k = record {
  macros = (name, value) ∷ h.macros;
  known = k h.macros h.known;
  forward = λ r d. h.forward r (cut_define (drop at bytes) name value len (some_left bytes at l) (s h.macros h.known) (subst (λ z. Cuts begun ((name, value) ∷ h.macros) (at + len) z r) (sym (drop-drop len at bytes)) d));
}

-- a token is read
pub read_token : (bytes : Bytes) (map : MacroMap) (begun : Bool) (at : ℕ) (read : List Lexeme) (kind : TokenKind) (len : ℕ) → at < length bytes → IsReadTo bytes map begun at read
    → Stood map begun at bytes (Ok (scanned.Take kind len))
    → IsReadTo bytes map true (at + len) (read ++ (kind, span_at at len) ∷ [])
read_token bytes map begun at read kind len l h s = record {
  macros = h.macros;
  known = h.known;
  forward = λ r d. subst (Cuts false first_macros 0 bytes) (after_also read (kind, span_at at len) r)
      (h.forward (also (kind, span_at at len) r) (cut_token (drop at bytes) kind len (some_left bytes at l) (s h.macros h.known) (subst (λ z. Cuts true h.macros (at + len) z r) (sym (drop-drop len at bytes)) d)));
}

-- a fault ends the reading
pub read_stop : (bytes : Bytes) (map : MacroMap) (begun : Bool) (at : ℕ) (read : List Lexeme) (f : LexFault) → at < length bytes → IsReadTo bytes map begun at read
    → Stood map begun at bytes (Err f) → Cuts false first_macros 0 bytes (Err f)
read_stop bytes map begun at read f l h s = h.forward (Err f) (cut_stop (drop at bytes) f (some_left bytes at l) (s h.macros h.known))

-- what stands at a place before the end has a byte, and ends in the text
pub read_within : (bytes : Bytes) (map : MacroMap) (begun : Bool) (at : ℕ) (read : List Lexeme) (r : Found) → at < length bytes → IsReadTo bytes map begun at read
    → Stood map begun at bytes r → IsWithin at (length bytes - at) r
read_within bytes map begun at read r l h s =
    subst (λ n. IsWithin at n r) (length-drop at bytes) (stands_within (s h.macros h.known) refl (some_left bytes at l))

-- at the end all is read
pub read_all : (bytes : Bytes) (map : MacroMap) (begun : Bool) (at : ℕ) (read : List Lexeme) → drop at bytes ≡ [] → IsReadTo bytes map begun at read → Cuts false first_macros 0 bytes (Ok read)
read_all bytes map begun at read e h =
    subst (λ ts. Cuts false first_macros 0 bytes (Ok ts)) (append-nil read) (h.forward (Ok []) (subst (λ z. Cuts begun h.macros at z (Ok [])) (sym e) Cuts.done))

-- ---- places

-- the spans of tokens rise, and a fault's place is at most `end`
abbrev IsPlacedFrom : ℕ → ℕ → Outcome → Type 0
IsPlacedFrom at end (Ok ts) = Rise at end ts
IsPlacedFrom at end (Err f) = IsPlaced end f

-- spans that rise from a place on rise from an earlier one on
placed_earlier : (from at end : ℕ) (r : Outcome) → from ≤ at → IsPlacedFrom at end r → IsPlacedFrom from end r
placed_earlier from at end (Ok []) l h = omega arith
placed_earlier from at end (Ok (t ∷ ts)) l h = (omega (arith, h.0), h.1, h.2)
placed_earlier from at end (Err f) l h = h

-- a token before what is placed after it
placed_also : (at end : ℕ) (kind : TokenKind) (len : ℕ) (r : Outcome) → 1 ≤ len → IsPlacedFrom (at + len) end r → IsPlacedFrom at end (also (kind, span_at at len) r)
placed_also at end kind len (Ok ts) l h = (omega arith, omega arith, h)
placed_also at end kind len (Err f) l h = h

-- what is left after some bytes ends at the same place
same_end : (at len : ℕ) (z : Bytes) → len ≤ length z → at + len + length (drop len z) ≡ at + length z
same_end at len z l = omega (arith, length-drop len z)

-- the outcome of a text is placed in it
pub cuts_placed : {begun : Bool} {m : Macros} {at : ℕ} {z : Bytes} {r : Outcome} → Cuts begun m at z r → IsPlacedFrom at (at + length z) r
cuts_placed Cuts.done = omega arith
cuts_placed (Cuts.pass {begun} {m} {at} {b} {z} {r} len s d) =
    let w = stands_within s refl (omega arith) in
    placed_earlier at (at + len) (at + length (b ∷ z)) r (omega arith) (subst (λ n. IsPlacedFrom (at + len) n r) (same_end at len (b ∷ z) w.1) (cuts_placed d))
cuts_placed (Cuts.define {begun} {m} {at} {b} {z} {r} name value len s d) =
    let w = stands_within s refl (omega arith) in
    placed_earlier at (at + len) (at + length (b ∷ z)) r (omega arith) (subst (λ n. IsPlacedFrom (at + len) n r) (same_end at len (b ∷ z) w.1) (cuts_placed d))
cuts_placed (Cuts.token {begun} {m} {at} {b} {z} {r} kind len s d) =
    let w = stands_within s refl (omega arith) in
    placed_also at (at + length (b ∷ z)) kind len r w.0 (subst (λ n. IsPlacedFrom (at + len) n r) (same_end at len (b ∷ z) w.1) (cuts_placed d))
cuts_placed (Cuts.stop f s) = stands_within s refl (omega arith)

-- The text of a directive, read from the left.
use Rattle.std.proofs.Common.{◌≡◌, ℕ, ◌+◌, ◌<◌, ◌≤◌, Bool, true, false, if◌then◌else◌, [], ◌∷◌, ◌++◌, length, drop, get_or, codes, Result, Ok, Err, refl, sym, ap, ◌∙◌, subst, arith, append_assoc, length-append}
use Rattle.std.proofs.lemmas.Bool.Decides.{Decides-eqb}
use Rattle.std.proofs.lemmas.List.{append-nil, drop_more, drop-drop, length-drop, drop_all}
use Rattle.std.proofs.lemmas.Slice.Eq.{starts_is}
use Rattle.c_lex.specs.declared.opening.LinePart.TheVariants as part
use Rattle.c_lex.specs.Bytes.{Bytes}
use Rattle.c_lex.specs.Places.{IsFirstAt, IsNowhere, begins, is_line_end, is_comment_end}
use Rattle.c_lex.specs.Openings.{line_part}
use Rattle.c_lex.specs.Directives.{before_line, spaces, Line, HasLine}

-- ---- places

-- what begins with some bytes is these bytes and a rest
pub begins_is : (w z : Bytes) → begins w z ≡ true → z ≡ w ++ drop (length w) z
begins_is w z h = (starts_is Decides-eqb z w (begins w z) refl).0 h

-- the bytes and a rest begin with the bytes
pub is_begins : (w z rest : Bytes) → z ≡ w ++ rest → begins w z ≡ true
is_begins w z rest e = (starts_is Decides-eqb z w (begins w z) refl).1 rest e

-- what begins with some bytes is no shorter
pub begins_size : (w z : Bytes) → begins w z ≡ true → length w ≤ length z
begins_size w z h = let e = begins_is w z h in omega (arith, ap length e, length-append w (drop (length w) z))

-- a text has an end
pub line_ends_somewhere : (z : Bytes) → IsNowhere is_line_end z → ⊥
line_ends_somewhere z h = let e = drop_all (length z) z (omega arith) in let f = h (length z) (omega arith) in let g = ap is_line_end e in absurd (cc)

-- a closed comment fits into the text
pub comment_fits : (z : Bytes) (n : ℕ) → 2 ≤ length z → IsFirstAt is_comment_end (drop 2 z) n → n + 4 ≤ length z
comment_fits z n l h =
    let s = begins_size (codes "*/") (drop n (drop 2 z)) h.holds in
    omega (arith, length-drop n (drop 2 z), length-drop 2 z, h.within)

-- where a comment begins there are two bytes
pub two_bytes : (z : Bytes) → line_part z ≡ part.BlockComment → 2 ≤ length z
two_bytes z h = by (is_line_end z) (begins (codes "//") z) (begins (codes "/*") z) refl h
  where
    by : (x y v : Bool) → begins (codes "/*") z ≡ v → (if x then part.End else if y then part.LineComment else if v then part.BlockComment else part.Byte) ≡ part.BlockComment → 2 ≤ length z
    by true y v e h = absurd (cc)
    by false true v e h = absurd (cc)
    by false false true e h = begins_size (codes "/*") z e
    by false false false e h = absurd (cc)

-- ---- steps

before_append : (v w : Bytes) (r : Result Bytes ℕ) → before_line v (before_line w r) ≡ before_line (v ++ w) r
before_append v w (Ok line) = ap Ok (sym (append_assoc v w line))
before_append v w (Err n) = ap Err (omega (arith, length-append v w))

-- what the rest of the text gives stands after the line so far
abbrev pub IsLineTo : Bytes → ℕ → Bytes → Type 0
IsLineTo text place line = (r : Result Bytes ℕ) → HasLine (drop place text) r → HasLine text (before_line line r)

-- the line ends
pub ends_line : (text : Bytes) (place : ℕ) (line : Bytes) → IsLineTo text place line → line_part (drop place text) ≡ part.End → HasLine text (Ok line)
ends_line text place line h e = subst (λ w. HasLine text (Ok w)) (append-nil line) (h (Ok []) (subst (λ p. Line p (drop place text) (Ok [])) (sym e) Line.ends))

-- a `//` comment ends the line
pub last_of_line : (text : Bytes) (place : ℕ) (line : Bytes) (n : ℕ) → IsLineTo text place line → line_part (drop place text) ≡ part.LineComment
    → IsFirstAt is_line_end (drop place text) n → HasLine text (Ok (line ++ spaces n))
last_of_line text place line n h e f = h (Ok (spaces n)) (subst (λ p. Line p (drop place text) (Ok (spaces n))) (sym e) (Line.last f))

-- a comment in the line isn't closed
pub open_in_line : (text : Bytes) (place : ℕ) (line : Bytes) → IsLineTo text place line → line_part (drop place text) ≡ part.BlockComment
    → IsNowhere is_comment_end (drop 2 (drop place text)) → HasLine text (Err (length line))
open_in_line text place line h e f =
    let same : length line + 0 ≡ length line = omega arith in
    subst (λ n. HasLine text (Err n)) same (h (Err 0) (subst (λ p. Line p (drop place text) (Err 0)) (sym e) (Line.unclosed f)))

-- a comment is read
pub comment_in_line : (text : Bytes) (place : ℕ) (line : Bytes) (n : ℕ) → IsLineTo text place line → line_part (drop place text) ≡ part.BlockComment
    → IsFirstAt is_comment_end (drop 2 (drop place text)) n → IsLineTo text (place + (n + 4)) (line ++ spaces (n + 4))
comment_in_line text place line n h e f r d =
    let z = drop place text in
    let rest = subst (λ y. HasLine y r) (sym (drop-drop (n + 4) place text)) d in
    subst (HasLine text) (before_append line (spaces (n + 4)) r)
    (h (before_line (spaces (n + 4)) r) (subst (λ p. Line p z (before_line (spaces (n + 4)) r)) (sym e) (Line.comment f rest)))

-- a byte is read
pub byte_in_line : (text : Bytes) (place : ℕ) (line : Bytes) (b : ℕ) → place < length text → b ≡ get_or (drop place text) 0 0 → IsLineTo text place line
    → line_part (drop place text) ≡ part.Byte → IsLineTo text (place + 1) (line ++ b ∷ [])
byte_in_line text place line b l s h e r d =
    let more = drop_more text place 0 l in
    let same : b ≡ get_or text place 0 = s ∙ ap (λ z. get_or z 0 0) more in
    let split : drop place text ≡ b ∷ drop (place + 1) text = more ∙ ap (λ x. x ∷ drop (place + 1) text) (sym same) in
    let one : Line part.Byte (b ∷ drop (place + 1) text) (before_line (b ∷ []) r) = Line.byte d in
    let here = subst (λ z. Line part.Byte z (before_line (b ∷ []) r)) (sym split) one in
    subst (HasLine text) (before_append line (b ∷ []) r) (h (before_line (b ∷ []) r) (subst (λ p. Line p (drop place text) (before_line (b ∷ []) r)) (sym e) here))

-- Where comments and the texts of directives end, where what follows them changes.
use Rattle.std.proofs.Common.{◌≡◌, ℕ, zero, suc, ◌+◌, ◌≤◌, ◌<◌, Bool, true, false, if◌then◌else◌, [], ◌∷◌, ◌++◌, length, drop, codes, Result, Ok, Err, refl, sym, ap, ◌∙◌, subst, arith, append_assoc, length-append}
use Rattle.std.proofs.lemmas.List.{length-replicate}
use Rattle.c_lex.specs.declared.opening.LinePart.{LinePart}
use Rattle.c_lex.specs.declared.opening.LinePart.TheVariants as part
use Rattle.c_lex.specs.Bytes.{Bytes}
use Rattle.c_lex.specs.Places.{IsFirstAt, begins, is_line_end, is_comment_end}
use Rattle.c_lex.specs.Openings.{line_part}
use Rattle.c_lex.specs.Directives.{before_line, spaces, Line, HasLine}
use Rattle.c_lex.proofs.Appends.{prefix_dropped}
use Rattle.c_splice.proofs.Openings.{line_part_same}

-- ---- ends of lines

-- whether a line ends at a place of a prefix is seen in the prefix
line_end_at : (m : ℕ) (w y v : Bytes) → m < length w
    → is_line_end (drop m (w ++ y)) ≡ is_line_end (drop m (w ++ v))
line_end_at m [] y v l = absurd (omega arith)
line_end_at zero (c ∷ w) y v l = refl
line_end_at (suc m) (c ∷ w) y v l = line_end_at m w y v (omega arith)

-- a line that fills a prefix ends after it
pub line_end_after : (w y : Bytes) (n : ℕ) → n ≡ length w → IsFirstAt is_line_end (w ++ y) n
    → is_line_end y ≡ true
line_end_after w y n e f =
    ap is_line_end (sym (prefix_dropped w y)) ∙ ap (λ k. is_line_end (drop k (w ++ y))) (sym e)
    ∙ f.holds

-- and it ends there too before each other line end
pub line_end_kept : (w y v : Bytes) (n : ℕ) → n ≡ length w → is_line_end v ≡ true
    → IsFirstAt is_line_end (w ++ y) n → IsFirstAt is_line_end (w ++ v) n
line_end_kept w y v n e h f = record {
  within = omega (arith, e, length-append w v);
  holds = ap (λ k. is_line_end (drop k (w ++ v))) e ∙ ap is_line_end (prefix_dropped w v) ∙ h;
  first = λ m l. line_end_at m w v y (omega (arith, e)) ∙ f.first m l;
}

-- ---- ends of comments

-- whether a comment ends at a place of a prefix, before its last byte, is seen in the prefix
comment_end_at : (m : ℕ) (w y v : Bytes) → m + 1 < length w
    → is_comment_end (drop m (w ++ y)) ≡ is_comment_end (drop m (w ++ v))
comment_end_at m [] y v l = absurd (omega arith)
comment_end_at m (c ∷ []) y v l = absurd (omega arith)
comment_end_at zero (c ∷ d ∷ w) y v l = refl
comment_end_at (suc m) (c ∷ d ∷ w) y v l = comment_end_at m (d ∷ w) y v (omega arith)

-- a comment that a prefix ends is ended by it before each text
comment_end_in : (w y v : Bytes) (n : ℕ) → n + 2 ≡ length w → IsFirstAt is_comment_end (w ++ y) n
    → IsFirstAt is_comment_end (w ++ v) n
comment_end_in w y v n e f = record {
  within = omega (arith, e, length-append w v);
  holds = comment_end_at n w v y (omega (arith, e)) ∙ f.holds;
  first = λ m l. comment_end_at m w v y (omega (arith, e)) ∙ f.first m l;
}

-- the same with the two bytes that open it
pub comment_end_kept : (w y v : Bytes) (n : ℕ) → n + 4 ≡ length w
    → IsFirstAt is_comment_end (drop 2 (w ++ y)) n → IsFirstAt is_comment_end (drop 2 (w ++ v)) n
comment_end_kept [] y v n e f = absurd (omega arith)
comment_end_kept (c ∷ []) y v n e f = absurd (omega arith)
comment_end_kept (c ∷ d ∷ w) y v n e f = comment_end_in w y v n (omega arith) f

-- ---- the texts of directives

-- the length of a text, where it is whole
abbrev line_size : Result Bytes ℕ → ℕ → Type 0
line_size (Ok line) n = length line ≡ n
line_size (Err place) n = ⊥

-- what the text of a directive goes on with, by the tests of its first bytes
abbrev line_tests : Bool → Bool → Bool → LinePart
line_tests end line block =
    if end then part.End else if line then part.LineComment else if block then part.BlockComment
    else part.Byte

-- where the text of a directive goes on with its end, a line ends
end_part : (z : Bytes) → line_part z ≡ part.End → is_line_end z ≡ true
end_part z h = by (is_line_end z) (begins (codes "//") z) (begins (codes "/*") z) h
  where
    by : (x y v : Bool) → line_tests x y v ≡ part.End → x ≡ true
    by true y v h = refl
    by false true v h = absurd (cc)
    by false false true h = absurd (cc)
    by false false false h = absurd (cc)

-- where a line ends, the text of a directive does
is_end_part : (z : Bytes) → is_line_end z ≡ true → line_part z ≡ part.End
is_end_part z h = ap (λ x. line_tests x (begins (codes "//") z) (begins (codes "/*") z)) h

-- the first n bytes, and the others
split : (n : ℕ) (w : Bytes) → n ≤ length w → (a : Bytes) × (b : Bytes) × (w ≡ a ++ b) × (length a ≡ n)
split zero w l = ([], w, refl, refl)
split (suc n) [] l = absurd (omega arith)
split (suc n) (c ∷ w) l =
    let r = split n w (omega arith) in (c ∷ r.0, r.1, ap (λ x. c ∷ x) r.2, omega (arith, r.3))

-- the length of a text with others before it
size_before : (x : Bytes) (r : Result Bytes ℕ) (n : ℕ) → line_size (before_line x r) n
    → (k : ℕ) × (n ≡ length x + k) × line_size r k
size_before x (Ok line) n h = (length line, omega (arith, h, length-append x line), refl)
size_before x (Err place) n h = absurd h

-- where it goes on with a comment of two slashes, no line ends
line_comment_two : (z : Bytes) → line_part z ≡ part.LineComment → is_line_end z ≡ false
line_comment_two z h = by (is_line_end z) (begins (codes "//") z) (begins (codes "/*") z) h
  where
    by : (x y v : Bool) → line_tests x y v ≡ part.LineComment → x ≡ false
    by true y v h = absurd (cc)
    by false y v h = refl

-- the text of a directive that fills a prefix ends after it, and is the same before each text that
-- begins with the same byte
pub line_kept : {p : LinePart} {z : Bytes} {r : Result Bytes ℕ} → Line p z r → (w y : Bytes)
    → p ≡ line_part z → z ≡ w ++ y → line_size r (length w)
    → (is_line_end y ≡ true) × ((b : ℕ) (u v : Bytes) → y ≡ b ∷ u → HasLine (w ++ b ∷ v) r)
line_kept Line.ends [] y e f s =
    let stop = end_part y (ap line_part (sym f) ∙ sym e) in (
      stop,
      λ b u v g. let h : is_line_end (b ∷ v) ≡ true = ap is_line_end (sym g) ∙ stop in
          subst (λ q. Line q (b ∷ v) (Ok [])) (sym (is_end_part (b ∷ v) h)) Line.ends,
    )
line_kept Line.ends (c ∷ w) y e f s = absurd (omega arith)
line_kept {z = z} (Line.last {n = n} g) w y e f s =
    let size : n ≡ length w = sym (length-replicate {A = ℕ} n 32) ∙ s in
    let here : IsFirstAt is_line_end (w ++ y) n = subst (λ q. IsFirstAt is_line_end q n) f g in
    let stop = line_end_after w y n size here in (
      stop,
      λ b u v i.
          last w b u v (subst (λ q. IsFirstAt is_line_end (w ++ q) n) i here) size
          (ap is_line_end (sym i) ∙ stop) (ap line_part (ap (λ q. w ++ q) (sym i) ∙ sym f) ∙ sym e),
    )
  where
    last : (w : Bytes) (b : ℕ) (u v : Bytes) → IsFirstAt is_line_end (w ++ b ∷ u) n → n ≡ length w
        → is_line_end (b ∷ u) ≡ true → line_part (w ++ b ∷ u) ≡ part.LineComment
        → HasLine (w ++ b ∷ v) (Ok (spaces n))
    last [] b u v h size stop i = absurd (let no = line_comment_two (b ∷ u) i in cc)
    last (c ∷ w) b u v h size stop i =
        subst (λ q. Line q ((c ∷ w) ++ b ∷ v) (Ok (spaces n)))
        (sym i ∙ line_part_same (c ∷ w) u v b (omega arith))
        (Line.last (line_end_kept (c ∷ w) (b ∷ u) (b ∷ v) n size stop h))
line_kept {z = z} (Line.comment {n = n} {r = r} g d) w y e f s =
    let sized = size_before (spaces (n + 4)) r (length w) s in
    let parts = split (n + 4) w (omega (arith, sized.1, length-replicate {A = ℕ} (n + 4) 32)) in
    comment (λ c g h. line_kept d c y refl g h) parts.0 parts.1 sized.0 parts.2 parts.3
    (omega (
      arith,
      sized.1,
      length-replicate {A = ℕ} (n + 4) 32,
      parts.3,
      ap length parts.2,
      length-append parts.0 parts.1,
    )) sized.2
  where
    comment :
        ((c : Bytes) → drop (n + 4) z ≡ c ++ y → line_size r (length c)
        → (is_line_end y ≡ true) × ((b : ℕ) (u v : Bytes) → y ≡ b ∷ u → HasLine (c ++ b ∷ v) r))
        → (a c : Bytes) (k : ℕ) → w ≡ a ++ c → length a ≡ n + 4 → length c ≡ k → line_size r k
        → (is_line_end y ≡ true)
        × ((b : ℕ) (u v : Bytes) → y ≡ b ∷ u → HasLine (w ++ b ∷ v) (before_line (spaces (n + 4)) r))
    comment again a c k parted len rest size =
        let whole : z ≡ a ++ (c ++ y) = f ∙ ap (λ q. q ++ y) parted ∙ append_assoc a c y in
        let rest_text : drop (n + 4) z ≡ c ++ y =
        ap (λ q. drop (n + 4) q) whole ∙ ap (λ q. drop q (a ++ (c ++ y))) (sym len)
        ∙ prefix_dropped a (c ++ y) in
        let later = again c rest_text (subst (line_size r) (sym rest) size) in (
          later.0,
          λ b u v i.
              let inner = later.1 b u v i in
              let there =
              comment_end_kept a (c ++ y) (c ++ b ∷ v) n (sym len)
              (subst (λ q. IsFirstAt is_comment_end (drop 2 q) n) whole g) in
              let back : drop (n + 4) (a ++ (c ++ b ∷ v)) ≡ c ++ b ∷ v =
              ap (λ q. drop q (a ++ (c ++ b ∷ v))) (sym len) ∙ prefix_dropped a (c ++ b ∷ v) in
              let kept : part.BlockComment ≡ line_part (a ++ (c ++ b ∷ v)) =
              e ∙ ap line_part whole ∙ two a (c ++ y) (c ++ b ∷ v) (omega (arith, len)) in
              let done : Line part.BlockComment (a ++ (c ++ b ∷ v))
              (before_line (spaces (n + 4)) r) =
              Line.comment there (subst (λ q. HasLine q r) (sym back) inner) in
              subst (λ q. HasLine q (before_line (spaces (n + 4)) r))
              (sym (append_assoc a c (b ∷ v)) ∙ ap (λ q. q ++ b ∷ v) (sym parted))
              (subst (λ q. Line q (a ++ (c ++ b ∷ v)) (before_line (spaces (n + 4)) r)) kept done),
        )
      where
        two : (a x y : Bytes) → 2 ≤ length a → line_part (a ++ x) ≡ line_part (a ++ y)
        two [] x y l = absurd (omega arith)
        two (c ∷ []) x y l = absurd (omega arith)
        two (c ∷ d ∷ a) x y l = refl
line_kept (Line.unclosed g) w y e f s = absurd s
line_kept (Line.byte {b = c} {r = r} d) [] y e f s =
    let sized = size_before (c ∷ []) r 0 s in absurd (omega (arith, sized.1))
line_kept (Line.byte {b = c} {z = z} {r = r} d) (a ∷ w) y e f s =
    let sized = size_before (c ∷ []) r (length (a ∷ w)) s in
    let same : c ≡ a = cc in
    let tail : z ≡ w ++ y = cc in
    let later = line_kept d w y refl tail (subst (line_size r) (omega (arith, sized.1)) sized.2) in (
      later.0,
      λ b u v i.
          let inner = later.1 b u v i in
          let kept : part.Byte ≡ line_part (a ∷ (w ++ b ∷ v)) =
          e ∙ ap line_part
          (ap (λ q. c ∷ q) (tail ∙ ap (λ q. w ++ q) i) ∙ ap (λ q. q ∷ (w ++ b ∷ u)) same)
          ∙ line_part_same (a ∷ w) u v b (omega arith) in
          let done : Line part.Byte (a ∷ (w ++ b ∷ v)) (before_line (a ∷ []) r) = Line.byte inner in
          subst (λ q. Line q (a ∷ (w ++ b ∷ v)) (before_line (c ∷ []) r)) kept
          (subst (λ q. Line part.Byte (a ∷ (w ++ b ∷ v)) (before_line (q ∷ []) r))
          (sym same) done),
    )

-- A text up to a token ends with `?` only where the token before it is one.
use Rattle.std.proofs.Common.{◌≡◌, ℕ, zero, suc, ◌+◌, ◌≤◌, Bool, true, false, not, ◌&&◌, ◌||◌, ◌==◌, [], ◌∷◌, ◌++◌, length, drop, Ok, refl, sym, ap, ◌∙◌, subst, arith}
use Rattle.std.proofs.lemmas.Bool.Decides.{nat_tests}
use Rattle.std.proofs.lemmas.List.{append-nil}
use Rattle.c_lex.specs.declared.scan.Scanned.TheVariants as scanned
use Rattle.c_lex.specs.declared.opening.Opening.{Opening}
use Rattle.c_lex.specs.declared.opening.Opening.TheVariants as opening
use Rattle.c_lex.specs.declared.token.Punct.{Punct as Mark}
use Rattle.c_lex.specs.declared.token.Punct.TheVariants as mark
use Rattle.c_lex.specs.Bytes.{Bytes, is_space}
use Rattle.c_lex.specs.Spellings.{punct_spelling}
use Rattle.c_lex.specs.Places.{IsFirstAt, is_line_end, is_comment_end}
use Rattle.c_lex.specs.Openings.{opening_of}
use Rattle.c_lex.specs.Tokens.{Macros, Found, IsDirective, Stands}
use Rattle.c_lex.proofs.Longest.{piece_not_empty}
use Rattle.c_lex.specs.Lexemes.{is_other, is_no_question}
use Rattle.c_splice.specs.Edges.{is_calm, ends_query}
use Rattle.c_splice.proofs.LastBytes.{identifier_calm, number_word_calm, quoted_calm}
use Rattle.c_splice.proofs.CommentEnds.{line_end_after, line_kept}
use Rattle.c_splice.proofs.Stood.{reach, is_taken, begins_token, no_token, says_moved, says_not_taken, number_moved, character_moved, text_moved, filled}
use Rattle.c_splice.proofs.FirstBytes.{space_first, starts_letter, starts_digit}
use Rattle.c_splice.proofs.Worded.{piece_word, piece_number}

-- the last byte is `?`
abbrev pub ends_question : Bytes → Bool
ends_question [] = false
ends_question (b ∷ []) = b == 63
ends_question (b ∷ c ∷ x) = ends_question (c ∷ x)

-- the last byte of two parts is that of the second
pub question_append : (x y : Bytes) → 1 ≤ length y → ends_question (x ++ y) ≡ ends_question y
question_append [] y l = refl
question_append (b ∷ []) [] l = absurd (omega arith)
question_append (b ∷ []) (c ∷ y) l = refl
question_append (b ∷ c ∷ x) y l = question_append (c ∷ x) y l

-- what ends with `??` ends with `?`
pub query_question : (x : Bytes) → ends_question x ≡ false → ends_query x ≡ false
query_question [] h = refl
query_question (b ∷ []) h = refl
query_question (b ∷ c ∷ []) h = by (b == 63) (c == 63) h
  where
    by : (x y : Bool) → y ≡ false → (x && y) ≡ false
    by true y h = h
    by false y h = refl
query_question (b ∷ c ∷ d ∷ x) h = query_question (c ∷ d ∷ x) h

-- a calm end is none
calm_no_question : (x : Bytes) → is_calm x ≡ true → ends_question x ≡ false
calm_no_question [] h = refl
calm_no_question (b ∷ []) h = grind (arith, nat_tests)
calm_no_question (b ∷ c ∷ x) h = calm_no_question (c ∷ x) h

-- what stands at a place is the token `?`
abbrev pub is_question : Found → Bool
is_question (Ok (scanned.Take k n)) = not (is_other k)
is_question _ = false

-- white space is no `?`
space_no_question : (c : ℕ) → is_space c ≡ true → (c == 63) ≡ false
space_no_question c h = grind (arith, nat_tests)

-- white space that fills a prefix is no `?`
space_end : (w y : Bytes) → length w ≡ 1 → opening.Space ≡ opening_of (w ++ y) → ends_question w ≡ false
space_end [] y l h = refl
space_end (c ∷ []) y l h = space_no_question c (space_first c y (sym h))
space_end (c ∷ d ∷ w) y l h = absurd (omega arith)

-- a comment ends with a slash
star_slash : (e f : ℕ) (y : Bytes) → is_comment_end (e ∷ f ∷ y) ≡ true → (f == 63) ≡ false
star_slash e f y h = grind (arith, nat_tests)

-- so a prefix that ends a comment does
comment_in : (w y : Bytes) (n : ℕ) → n + 2 ≡ length w → is_comment_end (drop n (w ++ y)) ≡ true
    → ends_question w ≡ false
comment_in [] y n l h = refl
comment_in (e ∷ []) y n l h = absurd (omega arith)
comment_in (e ∷ f ∷ []) y zero l h = star_slash e f y h
comment_in (e ∷ f ∷ []) y (suc n) l h = absurd (omega arith)
comment_in (e ∷ f ∷ g ∷ w) y zero l h = absurd (omega arith)
comment_in (e ∷ f ∷ g ∷ w) y (suc n) l h = comment_in (f ∷ g ∷ w) y n (omega arith) h

-- the same with the two bytes that open it
comment_end : (w y : Bytes) (n : ℕ) → n + 4 ≡ length w
    → is_comment_end (drop n (drop 2 (w ++ y))) ≡ true → ends_question w ≡ false
comment_end [] y n l h = refl
comment_end (c ∷ []) y n l h = absurd (omega arith)
comment_end (c ∷ d ∷ []) y n l h = absurd (omega arith)
comment_end (c ∷ d ∷ e ∷ w) y n l h = comment_in (e ∷ w) y n (omega arith) h

-- a punctuator ends with `?` where it is one
punct_end : (p : Mark) → ends_question (punct_spelling p) ≡ not (is_no_question p)
unfolding punct_spelling
punct_end mark.OpenParen = refl
punct_end _ = refl

-- a prefix that is filled ends as what fills it
no_question_of : (w a : Bytes) → a ≡ w → ends_question a ≡ false → ends_question w ≡ false
no_question_of w a e h = ap ends_question (sym e) ∙ h

-- what stands first, and is followed by a token or is one, ends with `?` only where it is the token `?`
pub stood_end : {m : Macros} {at : ℕ} {z : Bytes} {begun : Bool} {o : Opening} {r : Found}
    → Stands m at z begun o r → (w y : Bytes) → z ≡ w ++ y → o ≡ opening_of z → reach r ≡ length w
    → 1 ≤ length w → (is_taken r || begins_token y) ≡ true → is_question r ≡ false
    → ends_question w ≡ false
stood_end Stands.space w y e i f l t k = space_end w y (sym f) (i ∙ ap opening_of e)
stood_end (Stands.line_comment {n = n} h) w y e i f l t k =
    absurd (no_token y (line_end_after w y n f (subst (λ q. IsFirstAt is_line_end q n) e h)) t)
stood_end (Stands.comment {n = n} h) w y e i f l t k =
    comment_end w y n f (ap (λ q. is_comment_end (drop n (drop 2 q))) (sym e) ∙ h.holds)
stood_end (Stands.open_comment h) w y e i f l t k = absurd (omega arith)
stood_end (Stands.directive (IsDirective.unclosed p h)) w y e i f l t k = absurd (omega arith)
stood_end {at = at} (Stands.directive (IsDirective.closed line h d)) w y e i f l t k =
    let moved = says_moved at (omega (arith, f, l)) d in
    let kept = line_kept h w y refl e (sym moved.0 ∙ f) in
    absurd (no_token y kept.0 (sym (ap (λ q. q || begins_token y) (says_not_taken d)) ∙ t))
stood_end Stands.late w y e i f l t k = absurd (omega arith)
stood_end {z = z} (Stands.word a rest g h s) w y e i f l t k =
    let same = filled _ w y a rest g e f in
    let begin = starts_letter z a rest g (piece_not_empty h.piece) i in
    no_question_of w a same.0 (calm_no_question a (identifier_calm a (piece_word a h.piece begin)))
stood_end {at = at} {z = z} (Stands.number a rest g h s) w y e i f l t k =
    let moved = number_moved at (omega (arith, f, l)) s in
    let same = filled _ w y a rest g e (sym moved.0 ∙ f) in
    let begin = starts_digit z a rest g (piece_not_empty h.piece) i in
    no_question_of w a same.0 (calm_no_question a (number_word_calm a (piece_number a h.piece begin)))
stood_end {at = at} (Stands.character a rest g h s) w y e i f l t k =
    let moved = character_moved at (omega (arith, f, l)) s in
    let same = filled _ w y a rest g e (sym moved.0 ∙ f) in
    no_question_of w a same.0 (calm_no_question a (quoted_calm 39 a refl h))
stood_end (Stands.open_character h) w y e i f l t k = absurd (omega arith)
stood_end {at = at} (Stands.text a rest g h s) w y e i f l t k =
    let moved = text_moved at (omega (arith, f, l)) s in
    let same = filled _ w y a rest g e (sym moved.0 ∙ f) in
    no_question_of w a same.0 (calm_no_question a (quoted_calm 34 a refl h))
stood_end (Stands.open_text h) w y e i f l t k = absurd (omega arith)
stood_end Stands.digraph w y e i f l t k = absurd (omega arith)
stood_end (Stands.punctuator p rest g h) w y e i f l t k =
    let same = filled _ w y (punct_spelling p) rest g e f in
    no_question_of w (punct_spelling p) same.0 (punct_end p ∙ k)
stood_end (Stands.stray h) w y e i f l t k = absurd (omega arith)

-- what stands first in a text, and the text up to a token after it, don't end with `?`
pub question_step : {m : Macros} {at : ℕ} {begun : Bool} {r : Found} (w x y : Bytes)
    → Stands m at (w ++ (x ++ y)) begun (opening_of (w ++ (x ++ y))) r → reach r ≡ length w
    → 1 ≤ length w → (is_taken r || begins_token y) ≡ true → (length x ≡ 0 → is_question r ≡ false)
    → ends_question x ≡ false → ends_question (w ++ x) ≡ false
question_step w [] y h e l t k i =
    ap ends_question (append-nil w) ∙ stood_end h w y refl refl e l t (k refl)
question_step w (c ∷ x) y h e l t k i = question_append w (c ∷ x) (omega arith) ∙ i

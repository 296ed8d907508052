-- Tokens of a source after its first can be replaced.
use Rattle.std.proofs.Common.{◌≡◌, ℕ, ◌+◌, ◌-◌, true, false, not, ◌||◌, List, [], ◌∷◌, ◌++◌, length, take, drop, Ok, refl, sym, ap, ◌∙◌, subst, arith, append_assoc, length-append}
use Rattle.c_lex.specs.Bytes.{Bytes}
use Rattle.c_lex.specs.Lexemes.{Lexeme, kinds, end_of}
use Rattle.c_lex.specs.Places.{IsNowhere, is_refused}
use Rattle.c_lex.specs.Tokens.{Macros, first_macros, Lexes}
use Rattle.c_lex.proofs.Appends.{prefix_dropped, prefix_taken}
use Rattle.c_splice.specs.Seams.{IsTight}
use Rattle.c_splice.specs.Edges.{ends_query, begins_plain}
use Rattle.c_splice.specs.Replaced.{between, Replaceable}
use Rattle.c_splice.specs.Words.{AllWorded}
use Rattle.c_splice.proofs.Steps.{moved}
use Rattle.c_splice.proofs.Parted.{UpTo, parted, Through, ended, all_worded}
use Rattle.c_splice.proofs.Questions.{query_question}
use Rattle.c_splice.proofs.CleanTexts.{clean_prefix, clean_suffix, clean_calm, clean_seam, seam_append, plain_append}

-- the first of the three parts of a text
part_first : (z x y v : Bytes) (from : ℕ) → z ≡ x ++ (y ++ v) → length x ≡ from → take from z ≡ x
part_first z x y v from e l =
    ap (λ q. take from q) e ∙ ap (λ q. take q (x ++ (y ++ v))) (sym l) ∙ prefix_taken x (y ++ v)

-- the last of them
part_last : (z x y v : Bytes) (to : ℕ) → z ≡ x ++ (y ++ v) → length x + length y ≡ to → drop to z ≡ v
part_last z x y v to e l =
    let size : length (x ++ y) ≡ to = omega (arith, l, length-append x y) in
    ap (λ q. drop to q) (e ∙ sym (append_assoc x y v)) ∙ ap (λ q. drop q ((x ++ y) ++ v)) (sym size)
    ∙ prefix_dropped (x ++ y) v

-- the middle one
part_middle : (z x y v : Bytes) (from to : ℕ) → z ≡ x ++ (y ++ v) → length x ≡ from
    → length x + length y ≡ to → between from to z ≡ y
part_middle z x y v from to e l k =
    let size : length y ≡ to - from = omega (arith, l, k) in
    let rest : drop from z ≡ y ++ v =
    ap (λ q. drop from q) e ∙ ap (λ q. drop q (x ++ (y ++ v))) (sym l)
    ∙ prefix_dropped x (y ++ v) in
    ap (λ q. take (to - from) q) rest ∙ ap (λ q. take q (y ++ v)) (sym size) ∙ prefix_taken y v

-- the words of some tokens and of others
words_append : (m : Macros) (ts us : List Lexeme) → AllWorded m ts → AllWorded m us
    → AllWorded m (ts ++ us)
words_append m [] us h g = g
words_append m (t ∷ ts) us h g = (h.0, words_append m ts us h.1 g)

-- tokens of a clean source can be replaced that stand between two places where it is parted
between_parts : (source : Bytes) (p : Lexeme) (pre : List Lexeme) (t : Lexeme) (own post : List Lexeme)
    → IsNowhere is_refused source → (f : UpTo false first_macros 0 source (p ∷ pre) t (own ++ post))
    → Through true f.inner t.1.from f.after t own post → Replaceable source (p ∷ pre) t own post
between_parts source p pre t own post clean f b =
    let whole : source ≡ f.prefix ++ (b.prefix ++ b.after) =
    f.is_text ∙ ap (λ q. f.prefix ++ q) b.is_text in
    let from : length f.prefix ≡ t.1.from = omega (arith, f.place) in
    let to : length f.prefix + length b.prefix ≡ end_of t own = omega (arith, from, b.place) in
    let before = part_first source f.prefix b.prefix b.after t.1.from whole from in
    let old = part_middle source f.prefix b.prefix b.after t.1.from (end_of t own) whole from to in
    let after = part_last source f.prefix b.prefix b.after (end_of t own) whole to in
    let clean_text : IsNowhere is_refused (f.prefix ++ (b.prefix ++ b.after)) =
    subst (IsNowhere is_refused) whole clean in
    let clean_rest = clean_suffix f.prefix (b.prefix ++ b.after) clean_text in
    record {
      macros = f.inner;
      old = subst (λ q. IsTight f.inner q (kinds (t ∷ own))) (sym old) (record { before = b.again });
      words =
          words_append f.inner (p ∷ pre) (t ∷ (own ++ post)) (f.worded clean)
          (all_worded f.left (t ∷ (own ++ post)) refl refl
          (subst (IsNowhere is_refused) (sym b.is_text) clean_rest));
      before_query = λ i. ap ends_query before ∙ query_question f.prefix (f.no_question i);
      old_query = λ i. ap ends_query old ∙ query_question b.prefix (b.no_question i);
      clean = subst (IsNowhere is_refused) (sym old) (clean_prefix b.prefix b.after clean_rest);
      replaced = λ new ks fits loose.
          let whole_new = take t.1.from source ++ new ++ drop (end_of t own) source in
          let text : whole_new ≡ f.prefix ++ (new ++ b.after) =
          ap (λ q. q ++ new ++ drop (end_of t own) source) before
          ∙ ap (λ q. f.prefix ++ new ++ q) after ∙ append_assoc f.prefix new b.after in
          let plain : (not (ends_query f.prefix) || begins_plain new) ≡ true =
          subst (λ q. (not (ends_query q) || begins_plain new) ≡ true) before fits.plain in
          let later = loose.before b.after (kinds post) (moved b.left post refl) in
          let seam = seam_append new b.after fits.seam in
          let all = f.again (new ++ b.after) (ks ++ kinds post) seam later 0 in
          let safe =
          clean_seam f.prefix (new ++ b.after)
          (clean_prefix f.prefix (b.prefix ++ b.after) clean_text) seam
          (plain_append (not (ends_query f.prefix)) new b.after fits.seam plain)
          (clean_calm new b.after fits.clean fits.calm (clean_suffix b.prefix b.after clean_rest)) in (
            all.0,
            subst (λ q. Lexes q (Ok all.0)) (sym text) (Lexes.cut safe all.1),
            all.2 ∙ sym (append_assoc (kinds (p ∷ pre)) ks (kinds post)),
          );
    }

-- tokens of a source after its first can be replaced
pub replaceable : (source : Bytes) (p : Lexeme) (pre : List Lexeme) (t : Lexeme)
    (own post : List Lexeme)
    → Lexes source (Ok ((p ∷ pre) ++ t ∷ (own ++ post))) → Replaceable source (p ∷ pre) t own post
replaceable source p pre t own post (Lexes.cut clean d) =
    let f = parted d (p ∷ pre) t (own ++ post) refl in
    between_parts source p pre t own post clean f (ended f.left t own post refl refl)

-- A text is parted at each of its tokens, and its parts are cut alike in other texts.
use Rattle.std.proofs.Common.{◌≡◌, ℕ, ℤ, ◌+◌, ◌≤◌, Bool, true, false, not, List, [], ◌∷◌, ◌++◌, length, drop, Ok, refl, sym, ap, ◌∙◌, subst, arith, append_assoc, length-append}
use Rattle.c_lex.specs.declared.scan.Scanned.TheVariants as scanned
use Rattle.c_lex.specs.declared.token.TokenKind.{TokenKind}
use Rattle.c_lex.specs.Bytes.{Bytes, is_space}
use Rattle.c_lex.specs.Lexemes.{Lexeme, span_at, kinds, end_of, is_other}
use Rattle.c_lex.specs.Places.{IsNowhere, is_refused}
use Rattle.c_lex.specs.Openings.{opening_of}
use Rattle.c_lex.specs.Tokens.{Macros, Outcome, Stands, Cuts}
use Rattle.c_splice.specs.Seams.{begins_seam, CutsInto}
use Rattle.c_splice.specs.Edges.{ends_other}
use Rattle.c_splice.specs.Words.{Worded, AllWorded}
use Rattle.c_splice.proofs.CleanTexts.{clean_drop}
use Rattle.c_splice.proofs.FirstBytes.{space_opens}
use Rattle.c_splice.proofs.Questions.{ends_question, question_append, stood_end, question_step}
use Rattle.c_splice.proofs.Steps.{passes, defines, takes, also_ok, Step, step, step_before, step_again}
use Rattle.c_splice.proofs.Stood.{begins_token, taken_no_space, begun_no_define}
use Rattle.c_splice.proofs.Worded.{stood_worded}

-- ---- before a token

-- whether a token was read before what follows these
abbrev pub begun_after : List Lexeme → Bool → Bool
begun_after [] begun = begun
begun_after (t ∷ ts) begun = true

-- where one was read before these, one was read before what follows them
begun_still : (ts : List Lexeme) → begun_after ts true ≡ true
begun_still [] = refl
begun_still (t ∷ ts) = refl

-- a text in two parts: the prefix up to the token t, which holds the tokens `pre`, and what begins
-- with t. The prefix is cut alike before each seam
pub record UpTo (begun : Bool) (m : Macros) (at : ℕ) (z : Bytes) (pre : List Lexeme) (t : Lexeme)
    (post : List Lexeme) : Type 0 where
  pub prefix : Bytes
  pub after : Bytes
  pub inner : Macros
  pub is_text : z ≡ prefix ++ after
  pub place : at + length prefix ≡ t.1.from
  pub left : Cuts (begun_after pre begun) inner t.1.from after (Ok (t ∷ post))
  pub starts : begins_token after ≡ true
  pub kept : begun ≡ true → inner ≡ m
  pub again : (s : Bytes) (ks : List TokenKind) → begins_seam s ≡ true
      → CutsInto (begun_after pre begun) inner s ks → CutsInto begun m (prefix ++ s) (kinds pre ++ ks)
  pub worded : IsNowhere is_refused z → AllWorded inner pre
  pub some : 1 ≤ length pre → 1 ≤ length prefix
  pub no_question : ends_other pre ≡ true → ends_question prefix ≡ false

-- a token begins with no white space
token_starts : {m : Macros} {at : ℕ} {begun : Bool} (b : ℕ) (z : Bytes) (kind : TokenKind) (len : ℕ)
    → Stands m at (b ∷ z) begun (opening_of (b ∷ z)) (Ok (scanned.Take kind len))
    → begins_token (b ∷ z) ≡ true
token_starts b z kind len s = by (is_space b) refl
  where
    by : (x : Bool) → is_space b ≡ x → not x ≡ true
    by false e = refl
    by true e = absurd (taken_no_space s (space_opens b z e) refl)

-- no tokens are not tokens among which t is
none_there : (pre : List Lexeme) (t : Lexeme) (post : List Lexeme)
    → ◌≡◌ {A = Outcome} (Ok []) (Ok (pre ++ t ∷ post)) → ⊥
none_there [] t post e = cc
none_there (p ∷ pre) t post e = cc

-- where the last of some tokens is no `?`, neither is the last of those after the first
ends_more : (u : Lexeme) (pre : List Lexeme) → ends_other (u ∷ pre) ≡ true → ends_other pre ≡ true
ends_more u [] h = refl
ends_more u (v ∷ pre) h = h

-- a token before t, between which and t nothing stands, is the last before it
question_last : (k : TokenKind) (u : Lexeme) (pre : List Lexeme) (x : Bytes) → k ≡ u.0
    → ends_other (u ∷ pre) ≡ true
    → (1 ≤ length pre → 1 ≤ length x) → length x ≡ 0 → not (is_other k) ≡ false
question_last k u [] x e h s l = ap (λ q. not (is_other q)) e ∙ ap not h
question_last k u (v ∷ pre) x e h s l = absurd (let more = s (omega arith) in omega (arith, more, l))

-- white space, a comment or an `#include` before a text that is parted
pass_up_to : {begun : Bool} {m : Macros} {at b len : ℕ} {z : Bytes} {pre : List Lexeme} {t : Lexeme}
    {post : List Lexeme} (h : UpTo begun m (at + len) (drop len (b ∷ z)) pre t post)
    → Step begun m at (b ∷ z) (Ok (scanned.Pass len)) h.prefix h.after
    → UpTo begun m at (b ∷ z) pre t post
pass_up_to {begun} {m} {at} {b} {len} {z} {pre} {t} {post} h k = record {
  prefix = k.w ++ h.prefix;
  after = h.after;
  inner = h.inner;
  is_text = k.is_text ∙ sym (append_assoc k.w h.prefix h.after);
  place = omega (arith, h.place, k.reaches, length-append k.w h.prefix);
  left = h.left;
  starts = h.starts;
  kept = h.kept;
  worded = λ c. h.worded (clean_drop len (b ∷ z) c);
  some = λ i. omega (arith, k.some, length-append k.w h.prefix);
  no_question = λ i.
      question_step k.w h.prefix h.after k.stands k.reaches k.some h.starts (λ j. refl)
      (h.no_question i);
  again = λ x ks i g.
      subst (λ q. CutsInto begun m q (kinds pre ++ ks)) (sym (append_assoc k.w h.prefix x))
      (passes k.w (h.prefix ++ x) len (kinds pre ++ ks) k.reaches k.some
      (λ place. step_again h.prefix h.after k h.starts x i place) (h.again x ks i g));
}

-- the definition of a macro before one
define_up_to : {m : Macros} {at b len : ℕ} {z name : Bytes} {value : ℤ} {pre : List Lexeme} {t : Lexeme}
    {post : List Lexeme} (h : UpTo false ((name, value) ∷ m) (at + len) (drop len (b ∷ z)) pre t post)
    → Step false m at (b ∷ z) (Ok (scanned.Define name value len)) h.prefix h.after
    → UpTo false m at (b ∷ z) pre t post
define_up_to {m} {at} {b} {len} {z} {name} {value} {pre} {t} {post} h k = record {
  prefix = k.w ++ h.prefix;
  after = h.after;
  inner = h.inner;
  is_text = k.is_text ∙ sym (append_assoc k.w h.prefix h.after);
  place = omega (arith, h.place, k.reaches, length-append k.w h.prefix);
  left = h.left;
  starts = h.starts;
  kept = λ i. absurd (cc);
  worded = λ c. h.worded (clean_drop len (b ∷ z) c);
  some = λ i. omega (arith, k.some, length-append k.w h.prefix);
  no_question = λ i.
      question_step k.w h.prefix h.after k.stands k.reaches k.some h.starts (λ j. refl)
      (h.no_question i);
  again = λ x ks i g.
      subst (λ q. CutsInto false m q (kinds pre ++ ks)) (sym (append_assoc k.w h.prefix x))
      (defines k.w (h.prefix ++ x) name value len (kinds pre ++ ks) k.reaches k.some
      (λ place. step_again h.prefix h.after k h.starts x i place) (h.again x ks i g));
}

-- a token before one
take_up_to : {begun : Bool} {m : Macros} {at b len : ℕ} {z : Bytes} {kind : TokenKind} (u : Lexeme)
    {pre : List Lexeme} {t : Lexeme} {post : List Lexeme} → kind ≡ u.0
    → Stands m at (b ∷ z) begun (opening_of (b ∷ z)) (Ok (scanned.Take kind len))
    → (h : UpTo true m (at + len) (drop len (b ∷ z)) pre t post)
    → Step begun m at (b ∷ z) (Ok (scanned.Take kind len)) h.prefix h.after
    → UpTo begun m at (b ∷ z) (u ∷ pre) t post
take_up_to {begun} {m} {at} {b} {len} {z} {kind} u {pre} {t} {post} same s h k =
    let inner : h.inner ≡ m = h.kept refl in
    record {
      prefix = k.w ++ h.prefix;
      after = h.after;
      inner = h.inner;
      is_text = k.is_text ∙ sym (append_assoc k.w h.prefix h.after);
      place = omega (arith, h.place, k.reaches, length-append k.w h.prefix);
      left = subst (λ q. Cuts q h.inner t.1.from h.after (Ok (t ∷ post))) (begun_still pre) h.left;
      starts = h.starts;
      kept = λ i. inner;
      worded = λ c.
          let word : Worded m kind = stood_worded s refl refl c in (
            subst (Worded h.inner) same (subst (λ q. Worded q kind) (sym inner) word),
            h.worded (clean_drop len (b ∷ z) c),
          );
      some = λ i. omega (arith, k.some, length-append k.w h.prefix);
      no_question = λ i.
          question_step k.w h.prefix h.after k.stands k.reaches k.some refl
          (λ j. question_last kind u pre h.prefix same i h.some j) (h.no_question (ends_more u pre i));
      again = λ x ks i g.
          let rest = kinds pre ++ ks in
          let later = h.again x ks i (subst (λ q. CutsInto q h.inner x ks) (sym (begun_still pre)) g) in
          subst (λ q. CutsInto begun m q (u.0 ∷ rest)) (sym (append_assoc k.w h.prefix x))
          (subst (λ q. CutsInto begun m (k.w ++ (h.prefix ++ x)) (q ∷ rest)) same
          (takes k.w (h.prefix ++ x) kind len rest k.reaches k.some
          (λ place. step_again h.prefix h.after k refl x i place) later));
    }

-- before its first token a text that begins with it is parted at its beginning
first_up_to : {begun : Bool} {m : Macros} {z : Bytes} {t : Lexeme} {post : List Lexeme}
    → begins_token z ≡ true → Cuts begun m t.1.from z (Ok (t ∷ post))
    → UpTo begun m t.1.from z [] t post
first_up_to {begun} {m} {z} {t} {post} starts d = record {
  prefix = [];
  after = z;
  inner = m;
  is_text = refl;
  place = omega arith;
  left = d;
  starts = starts;
  kept = λ i. refl;
  worded = λ c. tt;
  some = λ i. absurd (omega arith);
  no_question = λ i. refl;
  again = λ x ks i g. g;
}

-- a text is parted before each of its tokens
pub parted : {begun : Bool} {m : Macros} {at : ℕ} {z : Bytes} {r : Outcome} → Cuts begun m at z r
    → (pre : List Lexeme) (t : Lexeme) (post : List Lexeme) → r ≡ Ok (pre ++ t ∷ post)
    → UpTo begun m at z pre t post
parted Cuts.done pre t post e = absurd (none_there pre t post e)
parted (Cuts.pass {b = b} {z = z} len s d) pre t post e =
    let h = parted d pre t post e in
    pass_up_to h (step b z (scanned.Pass len) h.prefix h.after s h.is_text)
parted {begun = true} (Cuts.define {b = b} {z = z} name value len s d) pre t post e =
    absurd (begun_no_define s refl refl)
parted {begun = false} (Cuts.define {b = b} {z = z} name value len s d) pre t post e =
    let h = parted d pre t post e in
    define_up_to h (step b z (scanned.Define name value len) h.prefix h.after s h.is_text)
parted {begun} {m} {at} (Cuts.token {b = b} {z = z} {r = o} kind len s d) [] t post e =
    let p = also_ok (kind, span_at at len) o (t ∷ post) e in
    let same : (kind, span_at at len) ≡ t = let f = p.2 in cc in
    let place : at ≡ t.1.from = ap (λ q. q.1.from) same in
    let whole : Cuts begun m at (b ∷ z) (Ok (t ∷ post)) =
    subst (Cuts begun m at (b ∷ z)) e (Cuts.token kind len s d) in
    subst (λ q. UpTo begun m q (b ∷ z) [] t post) (sym place)
    (first_up_to (token_starts b z kind len s)
    (subst (λ q. Cuts begun m q (b ∷ z) (Ok (t ∷ post))) place whole))
parted {begun} {m} {at} (Cuts.token {b = b} {z = z} {r = o} kind len s d) (u ∷ pre) t post e =
    let p = also_ok (kind, span_at at len) o (u ∷ (pre ++ t ∷ post)) e in
    let same : (kind, span_at at len) ≡ u = let f = p.2 in cc in
    let tail : p.0 ≡ pre ++ t ∷ post = let f = p.2 in cc in
    let h = parted d pre t post (p.1 ∙ ap Ok tail) in
    take_up_to u (ap (λ q. q.0) same) s h (step b z (scanned.Take kind len) h.prefix h.after s h.is_text)
parted (Cuts.stop f s) pre t post e = absurd (cc)

-- ---- after a token

-- a text in two parts: the prefix up to the end of the tokens t and `own`, and what holds the tokens
-- `post`. The prefix is cut alike before each seam
pub record Through (begun : Bool) (m : Macros) (at : ℕ) (z : Bytes) (t : Lexeme) (own : List Lexeme)
    (post : List Lexeme) : Type 0 where
  pub prefix : Bytes
  pub after : Bytes
  pub some : 1 ≤ length prefix
  pub is_text : z ≡ prefix ++ after
  pub place : at + length prefix ≡ end_of t own
  pub left : Cuts true m (end_of t own) after (Ok post)
  pub no_question : ends_other (t ∷ own) ≡ true → ends_question prefix ≡ false
  pub again : (s : Bytes) (ks : List TokenKind) → begins_seam s ≡ true
      → CutsInto true m s ks → CutsInto begun m (prefix ++ s) (kinds (t ∷ own) ++ ks)

-- white space or a comment before a text that is parted
pass_through : {begun : Bool} {m : Macros} {at b len : ℕ} {z : Bytes} {t : Lexeme}
    {own post : List Lexeme}
    (h : Through begun m (at + len) (drop len (b ∷ z)) t own post)
    → Step begun m at (b ∷ z) (Ok (scanned.Pass len)) h.prefix h.after
    → Through begun m at (b ∷ z) t own post
pass_through {begun} {m} {at} {b} {len} {z} {t} {own} {post} h k = record {
  prefix = k.w ++ h.prefix;
  after = h.after;
  some = omega (arith, length-append k.w h.prefix, h.some);
  is_text = k.is_text ∙ sym (append_assoc k.w h.prefix h.after);
  place = omega (arith, h.place, k.reaches, length-append k.w h.prefix);
  left = h.left;
  no_question = λ j. question_append k.w h.prefix h.some ∙ h.no_question j;
  again = λ x ks j g.
      subst (λ q. CutsInto begun m q (kinds (t ∷ own) ++ ks)) (sym (append_assoc k.w h.prefix x))
      (passes k.w (h.prefix ++ x) len (kinds (t ∷ own) ++ ks) k.reaches k.some
      (λ place. step_before h.prefix h.after k h.some x place) (h.again x ks j g));
}

-- the last of the tokens
last_through : {begun : Bool} {m : Macros} {at b len : ℕ} {z rest : Bytes} {kind : TokenKind}
    (t : Lexeme)
    {post : List Lexeme} → (kind, span_at at len) ≡ t → Cuts true m (at + len) rest (Ok post)
    → Step begun m at (b ∷ z) (Ok (scanned.Take kind len)) [] rest → Through begun m at (b ∷ z) t [] post
last_through {begun} {m} {at} {b} {len} {z} {rest} {kind} t {post} same d k =
    let same_kind : kind ≡ t.0 = ap (λ q. q.0) same in
    let place : at + len ≡ t.1.to = ap (λ q. q.1.to) same in
    record {
      prefix = k.w;
      after = rest;
      some = k.some;
      is_text = k.is_text;
      place = omega (arith, place, k.reaches);
      left = subst (λ q. Cuts true m q rest (Ok post)) place d;
      no_question = λ j.
          let other : not (is_other kind) ≡ false = ap (λ q. not (is_other q)) same_kind ∙ ap not j in
          stood_end k.stands k.w rest refl refl k.reaches k.some refl other;
      again = λ x ks j g.
          subst (λ q. CutsInto begun m (k.w ++ x) (q ∷ ks)) same_kind
          (takes k.w x kind len ks k.reaches k.some (λ place. step_again [] rest k refl x j place) g);
    }

-- a token before others
take_through : {begun : Bool} {m : Macros} {at b len : ℕ} {z : Bytes} {kind : TokenKind} (t u : Lexeme)
    {own post : List Lexeme} → kind ≡ t.0
    → (h : Through true m (at + len) (drop len (b ∷ z)) u own post)
    → Step begun m at (b ∷ z) (Ok (scanned.Take kind len)) h.prefix h.after
    → Through begun m at (b ∷ z) t (u ∷ own) post
take_through {begun} {m} {at} {b} {len} {z} {kind} t u {own} {post} same h k = record {
  prefix = k.w ++ h.prefix;
  after = h.after;
  some = omega (arith, length-append k.w h.prefix, h.some);
  is_text = k.is_text ∙ sym (append_assoc k.w h.prefix h.after);
  place = omega (arith, h.place, k.reaches, length-append k.w h.prefix);
  left = h.left;
  no_question = λ j. question_append k.w h.prefix h.some ∙ h.no_question j;
  again = λ x ks j g.
      let rest = kinds (u ∷ own) ++ ks in
      subst (λ q. CutsInto begun m q (t.0 ∷ rest)) (sym (append_assoc k.w h.prefix x))
      (subst (λ q. CutsInto begun m (k.w ++ (h.prefix ++ x)) (q ∷ rest)) same
      (takes k.w (h.prefix ++ x) kind len rest k.reaches k.some
      (λ place. step_before h.prefix h.after k h.some x place) (h.again x ks j g)));
}

-- a text is parted after each of its tokens
pub ended : {begun : Bool} {m : Macros} {at : ℕ} {z : Bytes} {r : Outcome} → Cuts begun m at z r
    → (t : Lexeme) (own post : List Lexeme) → r ≡ Ok (t ∷ (own ++ post)) → begun ≡ true
    → Through begun m at z t own post
ended Cuts.done t own post e i = absurd (cc)
ended (Cuts.pass {b = b} {z = z} len s d) t own post e i =
    let h = ended d t own post e i in
    pass_through h (step b z (scanned.Pass len) h.prefix h.after s h.is_text)
ended (Cuts.define name value len s d) t own post e i = absurd (begun_no_define s i refl)
ended {begun} {m} {at} (Cuts.token {b = b} {z = z} {r = o} kind len s d) t [] post e i =
    let p = also_ok (kind, span_at at len) o (t ∷ post) e in
    let same : (kind, span_at at len) ≡ t = let f = p.2 in cc in
    let tail : p.0 ≡ post = let f = p.2 in cc in
    let later : Cuts true m (at + len) (drop len (b ∷ z)) (Ok post) =
    subst (λ q. Cuts true m (at + len) (drop len (b ∷ z)) q) (p.1 ∙ ap Ok tail) d in
    last_through t same later (step b z (scanned.Take kind len) [] (drop len (b ∷ z)) s refl)
ended {at = at} (Cuts.token {b = b} {z = z} {r = o} kind len s d) t (u ∷ own) post e i =
    let p = also_ok (kind, span_at at len) o (t ∷ (u ∷ (own ++ post))) e in
    let same : (kind, span_at at len) ≡ t = let f = p.2 in cc in
    let tail : p.0 ≡ u ∷ (own ++ post) = let f = p.2 in cc in
    let h = ended d u own post (p.1 ∙ ap Ok tail) refl in
    take_through t u (ap (λ q. q.0) same) h
    (step b z (scanned.Take kind len) h.prefix h.after s h.is_text)
ended (Cuts.stop f s) t own post e i = absurd (cc)

-- ---- words

-- where a token was read before, the words of all tokens of a clean text are those tokens by themselves
pub all_worded : {begun : Bool} {m : Macros} {at : ℕ} {z : Bytes} {r : Outcome} → Cuts begun m at z r
    → (ts : List Lexeme) → r ≡ Ok ts → begun ≡ true → IsNowhere is_refused z → AllWorded m ts
all_worded {m} Cuts.done ts e i c = let f : [] ≡ ts = cc in subst (AllWorded m) f tt
all_worded (Cuts.pass {b = b} {z = z} len s d) ts e i c = all_worded d ts e i (clean_drop len (b ∷ z) c)
all_worded (Cuts.define name value len s d) ts e i c = absurd (begun_no_define s i refl)
all_worded {m} {at} (Cuts.token {b = b} {z = z} {r = o} kind len s d) ts e i c =
    let p = also_ok (kind, span_at at len) o ts e in
    let word : Worded m kind = stood_worded s refl refl c in
    subst (AllWorded m) (sym p.2) (word, all_worded d p.0 p.1 refl (clean_drop len (b ∷ z) c))
all_worded (Cuts.stop f s) ts e i c = absurd (cc)

-- The texts that patches put in place of a part.
use Rattle.std.proofs.Common.{◌≡◌, Bool, true, false, not, ◌||◌, List, [], ◌∷◌, ◌++◌, codes, refl, sym, ap, ◌∙◌, subst, append_assoc, arith, length-append}
use Rattle.c_lex.specs.declared.token.Keyword.TheVariants as key
use Rattle.c_lex.specs.declared.token.Punct.TheVariants as mark
use Rattle.c_lex.specs.declared.token.TokenKind.{TokenKind}
use Rattle.c_lex.specs.declared.token.TokenKind.TheVariants as kind
use Rattle.c_lex.specs.Bytes.{Bytes}
use Rattle.c_lex.specs.Spellings.{keyword_spelling, punct_spelling}
use Rattle.c_lex.specs.Places.{IsNowhere, is_refused}
use Rattle.c_lex.specs.Tokens.{Macros}
use Rattle.c_tree.specs.declared.expr.BinOp.{BinOp}
use Rattle.c_tree.specs.declared.expr.BinOp.TheVariants.{Mul}
use Rattle.patch_text.specs.Printed.{symbol, parenthesized}
use Rattle.c_splice.specs.Seams.{IsLoose, IsTight}
use Rattle.c_splice.specs.Edges.{begins_plain, ends_query}
use Rattle.c_splice.specs.Replaced.{Fits}
use Rattle.c_splice.proofs.CleanTexts.{clean_calm, clean_seam, calm_append}
use Rattle.c_splice.proofs.Joined.{loose_join, loose_tight, tight_loose}
use Rattle.c_splice.proofs.Marks.{open_paren, close_paren, open_brace, close_brace, space, mark_tight, keyword_tight}
use Rattle.c_replace.specs.Replacing.{enclosed, joined_kinds, guarded_kinds}
use Rattle.printed_tokens.specs.PrintedKinds.{symbol_mark}
use Rattle.printed_tokens.specs.Safe.{IsSafe}
use Rattle.printed_tokens.proofs.Safe.{safe_is, safe_join, safe_enclosed}

-- the same text with equal kinds
loose_kinds : {m : Macros} {x : Bytes} {ks ls : List TokenKind} → ks ≡ ls → IsLoose m x ks
    → IsLoose m x ls
loose_kinds {m} {x} e f = subst (IsLoose m x) e f

-- one of two tests holds
left_holds : (x y : Bool) → x ≡ true → (x || y) ≡ true
left_holds true y h = refl
left_holds false y h = absurd (cc)

right_holds : (x y : Bool) → y ≡ true → (x || y) ≡ true
right_holds true y h = refl
right_holds false y h = h

-- the opposite of a test that fails
fails : (x : Bool) → x ≡ false → not x ≡ true
fails false h = refl
fails true h = absurd (cc)

-- ---- `(` expression `)`

-- the tokens of a text in parentheses
pub enclosed_loose : {m : Macros} {x : Bytes} {ks : List TokenKind} → IsTight m x ks
    → IsLoose m (parenthesized x) (enclosed ks)
enclosed_loose f = tight_loose (loose_tight open_paren f) refl close_paren

-- it fits after a text that doesn't end with `??`
pub enclosed_fits : (before x : Bytes) → ends_query before ≡ false → IsSafe x
    → Fits before (parenthesized x)
enclosed_fits before x q n =
    let e = safe_enclosed n in
    record {
      seam = refl;
      calm = e.calm;
      clean = e.clean;
      plain = left_holds (not (ends_query before)) (begins_plain (parenthesized x)) (fails (ends_query before) q);
    }

-- ---- `(` old `)`, an operator and `(` bound `)`

-- an operator is spelled as its punctuator
symbol_text : (f : BinOp) → punct_spelling (symbol_mark f) ≡ symbol f
unfolding punct_spelling
symbol_text Mul = refl
symbol_text _ = refl

-- an operator before a seam
symbol_tight : {m : Macros} (f : BinOp) → IsTight m (symbol f) (kind.Punct (symbol_mark f) ∷ [])
symbol_tight {m} f =
    subst (λ q. IsTight m q (kind.Punct (symbol_mark f) ∷ [])) (symbol_text f)
    (mark_tight (symbol_mark f))

-- an operator is safe
symbol_safe : (f : BinOp) → IsSafe (symbol f)
symbol_safe Mul = safe_is (codes "*") refl
symbol_safe f = safe_is (symbol f) refl

-- the spaces have no tokens
between : (k : TokenKind) (es fs : List TokenKind)
    → (((es ++ []) ++ (k ∷ [])) ++ []) ++ fs ≡ es ++ k ∷ fs
between k [] fs = refl
between k (e ∷ es) fs = ap (λ q. e ∷ q) (between k es fs)

-- the tokens of two texts in parentheses with an operator between them
pub joined_loose : {m : Macros} {x y : Bytes} {ks ls : List TokenKind} (f : BinOp) → IsTight m x ks
    → IsTight m y ls
    → IsLoose m (parenthesized x ++ codes " " ++ symbol f ++ codes " " ++ parenthesized y)
    (joined_kinds (symbol_mark f) ks ls)
joined_loose {ks = ks} {ls = ls} f g h =
    loose_kinds (between (kind.Punct (symbol_mark f)) (enclosed ks) (enclosed ls))
    (loose_join
    (tight_loose (loose_tight (loose_join (enclosed_loose g) space) (symbol_tight f)) refl space)
    (enclosed_loose h))

-- a clean text that doesn't end with `??` is clean in parentheses, and ends calmly
held_clean : (x : Bytes) → IsNowhere is_refused x → ends_query x ≡ false → IsSafe (parenthesized x)
held_clean x c o =
    let open_safe = safe_is (codes "(") refl in
    let close_safe = safe_is (codes ")") refl in
    let rest = clean_seam x (codes ")") c refl
    (left_holds (not (ends_query x)) (begins_plain (codes ")")) (fails (ends_query x) o))
    close_safe.clean in
    record {
      clean = subst (IsNowhere is_refused) (sym (append_assoc (codes "(") x (codes ")")))
          (clean_calm (codes "(") (x ++ codes ")") open_safe.clean open_safe.calm rest);
      calm = calm_append (codes "(" ++ x) (codes ")") refl close_safe.some;
      some = omega (arith, length-append (codes "(" ++ x) (codes ")"));
    }

-- they fit after a text that doesn't end with `??`
pub joined_fits : (f : BinOp) (before x y : Bytes) → ends_query before ≡ false
    → IsNowhere is_refused x → ends_query x ≡ false → IsSafe y
    → Fits before (parenthesized x ++ codes " " ++ symbol f ++ codes " " ++ parenthesized y)
joined_fits f before x y q c o n =
    let blank = safe_is (codes " ") refl in
    let all = safe_join (safe_join (safe_join (safe_join (held_clean x c o) blank) (symbol_safe f)) blank)
    (safe_enclosed n) in
    record {
      seam = refl;
      calm = all.calm;
      clean = all.clean;
      plain = left_holds (not (ends_query before)) _ (fails (ends_query before) q);
    }

-- ---- `{ if (` test `) ` old ` }`

if_text : codes "if" ≡ keyword_spelling key.If
unfolding keyword_spelling
if_text = refl

-- `{ if (`
opening : {m : Macros} → IsLoose m (codes "{ if (")
    (kind.Punct mark.OpenBrace ∷ kind.Word key.If ∷ kind.Punct mark.OpenParen ∷ [])
opening {m} =
    let word = subst (λ q. IsTight m q (kind.Word key.If ∷ [])) (sym if_text) (keyword_tight key.If) in
    tight_loose (loose_tight (loose_join open_brace space) word) refl (loose_join space open_paren)

-- its tokens
pub guarded_loose : {m : Macros} {x y : Bytes} {ks ls : List TokenKind} → IsTight m y ls
    → IsTight m x ks
    → IsLoose m (codes "{ if (" ++ y ++ codes ") " ++ x ++ codes " }") (guarded_kinds ls ks)
guarded_loose {ks = ks} {ls = ls} g f =
    let start = kind.Punct mark.OpenBrace ∷ kind.Word key.If ∷ kind.Punct mark.OpenParen ∷ [] in
    let close = kind.Punct mark.CloseParen ∷ [] in
    let end = kind.Punct mark.CloseBrace ∷ [] in
    let same : (((start ++ ls) ++ close) ++ ks) ++ end
    ≡ start ++ (ls ++ kind.Punct mark.CloseParen ∷ (ks ++ end)) =
    ap (λ q. start ++ q) (append_assoc (ls ++ close) ks end ∙ append_assoc ls close (ks ++ end)) in
    loose_kinds same
    (tight_loose
    (loose_tight (tight_loose (loose_tight opening g) refl (loose_join close_paren space)) f) refl
    (loose_join space close_brace))

-- it fits after each text
pub guarded_fits : (before x y : Bytes) → IsNowhere is_refused x → IsSafe y
    → Fits before (codes "{ if (" ++ y ++ codes ") " ++ x ++ codes " }")
guarded_fits before x y c n =
    let start = safe_join (safe_join (safe_is (codes "{ if (") refl) n) (safe_is (codes ") ") refl) in
    let end = safe_is (codes " }") refl in
    let head = codes "{ if (" ++ y ++ codes ") " in
    let rest = clean_seam x (codes " }") c refl (right_holds (not (ends_query x)) true refl) end.clean in
    record {
      seam = refl;
      calm = calm_append (head ++ x) (codes " }") refl end.some;
      clean = subst (IsNowhere is_refused) (sym (append_assoc head x (codes " }")))
          (clean_calm head (x ++ codes " }") start.clean start.calm rest);
      plain = right_holds (not (ends_query before)) true refl;
    }

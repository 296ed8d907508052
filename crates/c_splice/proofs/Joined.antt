-- Texts put together from parts are cut into the tokens of the parts.
use Rattle.std.proofs.Common.{◌≡◌, true, List, ◌++◌, sym, subst, append_assoc}
use Rattle.c_lex.specs.declared.token.TokenKind.{TokenKind}
use Rattle.c_lex.specs.Bytes.{Bytes}
use Rattle.c_lex.specs.Tokens.{Macros}
use Rattle.c_splice.specs.Seams.{begins_seam, CutsInto, IsLoose, IsTight}
use Rattle.c_splice.proofs.CleanTexts.{seam_append}

-- equal texts are cut into equal kinds
cuts_as : {m : Macros} (x y : Bytes) (ks ls : List TokenKind) → x ≡ y → ks ≡ ls
    → CutsInto true m x ks → CutsInto true m y ls
cuts_as {m} x y ks ls e f g = subst (CutsInto true m y) f (subst (λ q. CutsInto true m q ks) e g)

-- the same of a text of three parts
regrouped : {m : Macros} (x y s : Bytes) (ks ls js : List TokenKind)
    → CutsInto true m (x ++ (y ++ s)) (ks ++ (ls ++ js))
    → CutsInto true m ((x ++ y) ++ s) ((ks ++ ls) ++ js)
regrouped x y s ks ls js g =
    cuts_as (x ++ (y ++ s)) ((x ++ y) ++ s) (ks ++ (ls ++ js)) ((ks ++ ls) ++ js)
    (sym (append_assoc x y s)) (sym (append_assoc ks ls js)) g

-- two parts that may stand before everything
pub loose_join : {m : Macros} {x y : Bytes} {ks ls : List TokenKind} → IsLoose m x ks
    → IsLoose m y ls → IsLoose m (x ++ y) (ks ++ ls)
loose_join {x = x} {y = y} {ks = ks} {ls = ls} f g =
    record {
      before = λ s js h.
          regrouped x y s ks ls js (f.before (y ++ s) (ls ++ js) (g.before s js h));
    }

-- a part that may stand before everything, and one before a seam
pub loose_tight : {m : Macros} {x y : Bytes} {ks ls : List TokenKind} → IsLoose m x ks
    → IsTight m y ls → IsTight m (x ++ y) (ks ++ ls)
loose_tight {x = x} {y = y} {ks = ks} {ls = ls} f g =
    record {
      before = λ s js i h.
          regrouped x y s ks ls js (f.before (y ++ s) (ls ++ js) (g.before s js i h));
    }

-- a part before a seam, and one that begins with a seam
pub tight_loose : {m : Macros} {x y : Bytes} {ks ls : List TokenKind} → IsTight m x ks
    → begins_seam y ≡ true → IsLoose m y ls → IsLoose m (x ++ y) (ks ++ ls)
tight_loose {x = x} {y = y} {ks = ks} {ls = ls} f i g =
    record {
      before = λ s js h.
          regrouped x y s ks ls js (f.before (y ++ s) (ls ++ js) (seam_append y s i) (g.before s js h));
    }

-- the same where both stand before a seam
pub tight_tight : {m : Macros} {x y : Bytes} {ks ls : List TokenKind} → IsTight m x ks
    → begins_seam y ≡ true → IsTight m y ls → IsTight m (x ++ y) (ks ++ ls)
tight_tight {x = x} {y = y} {ks = ks} {ls = ls} f i g =
    record {
      before = λ s js j h.
          regrouped x y s ks ls js
          (f.before (y ++ s) (ls ++ js) (seam_append y s i) (g.before s js j h));
    }

-- what may stand before everything may stand before a seam
pub loose_is_tight : {m : Macros} {x : Bytes} {ks : List TokenKind} → IsLoose m x ks → IsTight m x ks
loose_is_tight f = record { before = λ s ls i g. f.before s ls g }

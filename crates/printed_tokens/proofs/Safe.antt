-- The text of a printed expression holds no trigraph and no line splice, and makes none with what
-- follows it.
use Rattle.std.proofs.Common.{◌≡◌, Bool, true, false, not, ◌&&◌, [], ◌∷◌, ◌++◌, codes, refl, arith, length-append}
use Rattle.c_lex.specs.declared.token.TokenKind.{TokenKind}
use Rattle.c_lex.specs.Bytes.{Bytes}
use Rattle.c_lex.specs.Places.{IsNowhere, is_refused}
use Rattle.c_lex.specs.Tokens.{Macros}
use Rattle.c_lex.proofs.Runs.{both_left, both_right}
use Rattle.c_tree.specs.declared.expr.BinOp.{BinOp}
use Rattle.c_tree.specs.declared.expr.BinOp.TheVariants.{Mul}
use Rattle.c_tree.specs.declared.expr.UnOp.{UnOp}
use Rattle.c_tree.specs.declared.expr.UnOp.TheVariants.{Plus}
use Rattle.c_tree.specs.declared.stmt.Ty.{Ty}
use Rattle.c_tree.specs.declared.stmt.Ty.TheVariants.{Int, Char}
use Rattle.c_tree.specs.Tree.{Tree, constant, name, index, call, unary, cast, binary, choice, assign, bump, comma, hole, hole_after}
use Rattle.patch_text.specs.Printed.{sign, symbol, type_name, parenthesized, operand, printed}
use Rattle.c_splice.specs.Edges.{is_calm}
use Rattle.c_splice.specs.Words.{IsWordOf}
use Rattle.c_splice.proofs.LastBytes.{spelled_calm}
use Rattle.c_splice.proofs.CleanTexts.{clean_calm, clean_none, more, calm_append}
use Rattle.printed_tokens.specs.PrintedKinds.{Printable}
use Rattle.printed_tokens.specs.Safe.{IsSafe}

-- ---- texts that are written out

-- by its bytes, the text holds nothing that is refused
abbrev is_clean : Bytes → Bool
is_clean [] = true
is_clean (b ∷ z) = not (is_refused (b ∷ z)) && is_clean z

-- a test whose opposite holds fails
not_true : (x : Bool) → not x ≡ true → x ≡ false
not_true false h = refl
not_true true h = absurd (cc)

-- what holds nothing of the kind by its bytes is clean
clean_is : (z : Bytes) → is_clean z ≡ true → IsNowhere is_refused z
clean_is [] h = clean_none
clean_is (b ∷ z) h =
    more b z (not_true (is_refused (b ∷ z)) (both_left (not (is_refused (b ∷ z))) (is_clean z) h))
    (clean_is z (both_right (not (is_refused (b ∷ z))) (is_clean z) h))

-- by its bytes, the text is safe
abbrev safe_test : Bytes → Bool
safe_test [] = false
safe_test (b ∷ z) = is_clean (b ∷ z) && is_calm (b ∷ z)

-- what is safe by its bytes is safe
pub safe_is : (z : Bytes) → safe_test z ≡ true → IsSafe z
safe_is [] h = absurd (cc)
safe_is (b ∷ z) h =
    record {
      clean = clean_is (b ∷ z) (both_left (is_clean (b ∷ z)) (is_calm (b ∷ z)) h);
      calm = both_right (is_clean (b ∷ z)) (is_calm (b ∷ z)) h;
      some = omega arith;
    }

-- two safe texts, one after the other, are safe
pub safe_join : {x y : Bytes} → IsSafe x → IsSafe y → IsSafe (x ++ y)
safe_join {x} {y} f g =
    record {
      clean = clean_calm x y f.clean f.calm g.clean;
      calm = calm_append x y g.calm g.some;
      some = omega (arith, f.some, length-append x y);
    }

-- ---- words

-- the word of a token is safe
word_safe : {m : Macros} {w : Bytes} {k : TokenKind} → IsWordOf m w k → IsSafe w
word_safe h = let c = spelled_calm h.spells in record { clean = h.clean; calm = c.0; some = c.1 }

-- ---- expressions

-- an operator is safe
symbol_safe : (f : BinOp) → IsSafe (symbol f)
symbol_safe f = safe_is (symbol f) (test f)
  where
    test : (f : BinOp) → safe_test (symbol f) ≡ true
    test Mul = refl
    test _ = refl

-- so is a prefix operator
sign_safe : (f : UnOp) → IsSafe (sign f)
sign_safe f = safe_is (sign f) (test f)
  where
    test : (f : UnOp) → safe_test (sign f) ≡ true
    test Plus = refl
    test _ = refl

-- and a type
type_safe : (ty : Ty) → IsSafe (type_name ty)
type_safe Int = safe_is (codes "int") refl
type_safe Char = safe_is (codes "char") refl

-- and a safe text in parentheses
pub safe_enclosed : {x : Bytes} → IsSafe x → IsSafe (parenthesized x)
safe_enclosed f = safe_join (safe_join (safe_is (codes "(") refl) f) (safe_is (codes ")") refl)

-- and a space
space : IsSafe (codes " ")
space = safe_is (codes " ") refl

-- an element of an array
indexed : {w x : Bytes} → IsSafe w → IsSafe x → IsSafe (w ++ codes "[" ++ x ++ codes "]")
indexed f g = safe_join (safe_join (safe_join f (safe_is (codes "[") refl)) g) (safe_is (codes "]") refl)

-- a cast
casted : {x : Bytes} (ty : Ty) → IsSafe x → IsSafe (parenthesized (type_name ty) ++ codes " " ++ x)
casted ty f = safe_join (safe_join (safe_enclosed (type_safe ty)) space) f

-- an operator between two operands
infixed : {x y : Bytes} (op : BinOp) → IsSafe x → IsSafe y
    → IsSafe (x ++ codes " " ++ symbol op ++ codes " " ++ y)
infixed op f g = safe_join (safe_join (safe_join (safe_join f space) (symbol_safe op)) space) g

-- `?` and `:` between three
chosen : {x y z : Bytes} → IsSafe x → IsSafe y → IsSafe z
    → IsSafe (x ++ codes " ? " ++ y ++ codes " : " ++ z)
chosen f g h =
    safe_join (safe_join (safe_join (safe_join f (safe_is (codes " ? ") refl)) g) (safe_is (codes " : ") refl)) h

-- a comma between two
paired : {x y : Bytes} → IsSafe x → IsSafe y → IsSafe (x ++ codes ", " ++ y)
paired f g = safe_join (safe_join f (safe_is (codes ", ") refl)) g

mutual
  -- the text of an expression is safe
  pub safe : (m : Macros) (t : Tree) → Printable m t → IsSafe (printed t)
  safe m (constant n w s) p = word_safe p
  safe m (name w v s) p = word_safe p
  safe m (index w v e s) p = indexed (word_safe p.0) (safe m e p.1)
  safe m (call w args s) p = absurd p
  safe m (unary op e s) p = safe_join (sign_safe op) (safe_operand m e p)
  safe m (cast ty e s) p = casted ty (safe_operand m e p)
  safe m (binary op l r s) p = infixed op (safe_operand m l p.0) (safe_operand m r p.1)
  safe m (choice t a b s) p = chosen (safe_operand m t p.0) (safe_operand m a p.1) (safe_operand m b p.2)
  safe m (assign op place e s) p = absurd p
  safe m (bump before up place s) p = absurd p
  safe m (comma l r s) p = paired (safe_operand m l p.0) (safe_operand m r p.1)
  safe m hole p = absurd p
  safe m (hole_after e) p = absurd p

  -- so is its text as an operand
  safe_operand : (m : Macros) (t : Tree) → Printable m t → IsSafe (operand t (printed t))
  safe_operand m (constant n w s) p = word_safe p
  safe_operand m (name w v s) p = word_safe p
  safe_operand m (index w v e s) p = indexed (word_safe p.0) (safe m e p.1)
  safe_operand m (call w args s) p = absurd p
  safe_operand m (unary op e s) p = safe_enclosed (safe_join (sign_safe op) (safe_operand m e p))
  safe_operand m (cast ty e s) p = safe_enclosed (casted ty (safe_operand m e p))
  safe_operand m (binary op l r s) p =
      safe_enclosed (infixed op (safe_operand m l p.0) (safe_operand m r p.1))
  safe_operand m (choice t a b s) p =
      safe_enclosed (chosen (safe_operand m t p.0) (safe_operand m a p.1) (safe_operand m b p.2))
  safe_operand m (assign op place e s) p = absurd p
  safe_operand m (bump before up place s) p = absurd p
  safe_operand m (comma l r s) p =
      safe_enclosed (paired (safe_operand m l p.0) (safe_operand m r p.1))
  safe_operand m hole p = absurd p
  safe_operand m (hole_after e) p = absurd p

-- The text of a printed expression is cut into its tokens.
use Rattle.std.proofs.Common.{◌≡◌, ℕ, true, ◌||◌, ◌==◌, List, [], ◌∷◌, ◌++◌, codes, refl, sym, ap, ◌∙◌, subst, append_assoc, arith}
use Rattle.std.proofs.lemmas.List.{append-nil}
use Rattle.std.proofs.lemmas.Bool.Decides.{nat_tests}
use Rattle.std.specs.Char.{is_ascii_digit}
use Rattle.c_lex.specs.declared.token.TokenKind.{TokenKind}
use Rattle.c_lex.specs.declared.token.TokenKind.TheVariants as kind
use Rattle.c_lex.specs.declared.token.Punct.TheVariants as mark
use Rattle.c_lex.specs.Bytes.{Bytes, is_letter}
use Rattle.c_lex.specs.Spellings.{keyword_spelling, punct_spelling}
use Rattle.c_lex.specs.Pieces.{goes_on_word, goes_on_number, is_chain}
use Rattle.c_lex.specs.Tokens.{Macros}
use Rattle.c_lex.proofs.Runs.{both_left}
use Rattle.c_lex.proofs.Literals.{quoted_begins}
use Rattle.c_tree.specs.declared.expr.BinOp.{BinOp}
use Rattle.c_tree.specs.declared.expr.BinOp.TheVariants.{Mul}
use Rattle.c_tree.specs.declared.expr.UnOp.{UnOp}
use Rattle.c_tree.specs.declared.expr.UnOp.TheVariants.{Plus, Minus, Flip, Compl}
use Rattle.c_tree.specs.declared.stmt.Ty.{Ty}
use Rattle.c_tree.specs.declared.stmt.Ty.TheVariants.{Int, Char}
use Rattle.c_tree.specs.Tree.{Tree, constant, name, index, call, unary, cast, binary, choice, assign, bump, comma, hole, hole_after}
use Rattle.patch_text.specs.Printed.{sign, symbol, type_name, parenthesized, operand, printed}
use Rattle.c_splice.specs.Seams.{IsLoose, IsTight}
use Rattle.c_splice.specs.Words.{Spells}
use Rattle.c_splice.proofs.TightWords.{tight_word}
use Rattle.c_splice.proofs.Joined.{loose_join, loose_tight, tight_loose, loose_is_tight}
use Rattle.c_splice.proofs.Marks.{open_paren, close_paren, open_bracket, close_bracket, comma_mark, space, mark_tight, keyword_tight, begins_operand, plus_tight, minus_tight, not_tight, tilde_tight}
use Rattle.printed_tokens.specs.PrintedKinds.{sign_mark, symbol_mark, type_key, enclosed, operand_kinds, printed_kinds, Printable}

-- ---- words and signs

-- the same text with equal kinds
tight_kinds : {m : Macros} {x : Bytes} {ks ls : List TokenKind} → ks ≡ ls → IsTight m x ks
    → IsTight m x ls
tight_kinds {m} {x} e f = subst (IsTight m x) e f

-- an operator is spelled as its punctuator
symbol_text : (f : BinOp) → punct_spelling (symbol_mark f) ≡ symbol f
unfolding punct_spelling
symbol_text Mul = refl
symbol_text _ = refl

-- an operator before a seam
symbol_tight : {m : Macros} (f : BinOp) → IsTight m (symbol f) (kind.Punct (symbol_mark f) ∷ [])
symbol_tight {m} f =
    subst (λ q. IsTight m q (kind.Punct (symbol_mark f) ∷ [])) (symbol_text f)
    (mark_tight (symbol_mark f))

-- a type is spelled as its keyword
type_text : (ty : Ty) → keyword_spelling (type_key ty) ≡ type_name ty
unfolding keyword_spelling
type_text Int = refl
type_text Char = refl

-- a type before a seam
type_tight : {m : Macros} (ty : Ty) → IsTight m (type_name ty) (kind.Word (type_key ty) ∷ [])
type_tight {m} ty =
    subst (λ q. IsTight m q (kind.Word (type_key ty) ∷ [])) (type_text ty)
    (keyword_tight (type_key ty))

-- a prefix operator directly before an operand
sign_tight : {m : Macros} {x : Bytes} {ks : List TokenKind} (f : UnOp) → begins_operand x ≡ true
    → IsTight m x ks → IsTight m (sign f ++ x) (kind.Punct (sign_mark f) ∷ ks)
sign_tight Plus i g = plus_tight i g
sign_tight Minus i g = minus_tight i g
sign_tight Flip i g = not_tight i g
sign_tight Compl i g = tilde_tight i g

-- a text in parentheses
pub enclosed_tight : {m : Macros} {x : Bytes} {ks : List TokenKind} → IsTight m x ks
    → IsLoose m (parenthesized x) (enclosed ks)
enclosed_tight {ks = ks} f = tight_loose (loose_tight open_paren f) refl close_paren

-- ---- what an operand begins with

-- what a word of a constant or a name begins with
word_begins : {m : Macros} {w : Bytes} {k : TokenKind} → Spells m w k → (y : Bytes)
    → begins_operand (w ++ y) ≡ true
word_begins {w = []} (Spells.word i s) y = absurd (cc)
word_begins {w = c ∷ w} (Spells.word i s) y =
    letter c (both_left (is_letter c) (is_chain goes_on_word c w) i)
  where
    letter : (c : ℕ) → is_letter c ≡ true
        → (is_letter c || is_ascii_digit c || c == 39 || c == 40) ≡ true
    letter c h = ap (λ q. q || is_ascii_digit c || c == 39 || c == 40) h
word_begins {w = []} (Spells.number n i v s) y = absurd (cc)
word_begins {w = c ∷ w} (Spells.number n i v s) y =
    digit c (both_left (is_ascii_digit c) (is_chain goes_on_number c w) i)
  where
    digit : (c : ℕ) → is_ascii_digit c ≡ true
        → (is_letter c || is_ascii_digit c || c == 39 || c == 40) ≡ true
    digit c h = grind (arith, nat_tests)
word_begins {w = []} (Spells.character v i s) y = absurd (cc)
word_begins {w = c ∷ w} (Spells.character v i s) y =
    let quote : 39 ≡ c = sym (quoted_begins 39 (c ∷ w) i).1 in
    subst (λ q. begins_operand (q ∷ (w ++ y)) ≡ true) quote refl

-- what the text of an operand begins with
operand_begins : (m : Macros) (t : Tree) → Printable m t → begins_operand (operand t (printed t)) ≡ true
operand_begins m (constant n w s) p =
    subst (λ q. begins_operand q ≡ true) (append-nil w) (word_begins p.spells [])
operand_begins m (name w v s) p =
    subst (λ q. begins_operand q ≡ true) (append-nil w) (word_begins p.spells [])
operand_begins m (index w v e s) p =
    subst (λ q. begins_operand q ≡ true)
    (sym
    (append_assoc (w ++ codes "[") (printed e) (codes "]")
    ∙ append_assoc w (codes "[") (printed e ++ codes "]")))
    (word_begins p.0.spells (codes "[" ++ (printed e ++ codes "]")))
operand_begins m (call w args s) p = absurd p
operand_begins m (unary op e s) p = refl
operand_begins m (cast ty e s) p = refl
operand_begins m (binary op l r s) p = refl
operand_begins m (choice t a b s) p = refl
operand_begins m (assign op place e s) p = absurd p
operand_begins m (bump before up place s) p = absurd p
operand_begins m (comma l r s) p = refl
operand_begins m hole p = absurd p
operand_begins m (hole_after e) p = absurd p

-- ---- between operands

-- ` ? ` between operands
question : {m : Macros} → IsLoose m (codes " ? ") (kind.Punct mark.Question ∷ [])
unfolding punct_spelling
question {m} = loose_join space (tight_loose (mark_tight mark.Question) refl space)

-- ` : ` between operands
colon : {m : Macros} → IsLoose m (codes " : ") (kind.Punct mark.Colon ∷ [])
unfolding punct_spelling
colon {m} = loose_join space (tight_loose (mark_tight mark.Colon) refl space)

-- `, ` between operands
comma_space : {m : Macros} → IsLoose m (codes ", ") (kind.Punct mark.Comma ∷ [])
comma_space {m} = loose_join comma_mark space

-- ---- expressions

-- an operator between two operands
infixed : {m : Macros} {x y z : Bytes} {ks ls : List TokenKind} {k : TokenKind} → IsTight m x ks
    → IsTight m z (k ∷ []) → IsTight m y ls
    → IsTight m (x ++ codes " " ++ z ++ codes " " ++ y) (ks ++ k ∷ ls)
infixed {ks = ks} {ls = ls} {k = k} f h g =
    let first = tight_loose f refl space in
    let second = loose_tight first h in
    let third = tight_loose second refl space in
    tight_kinds
    (ap (λ q. q ++ ls)
    (append-nil ((ks ++ []) ++ k ∷ []) ∙ ap (λ q. q ++ k ∷ []) (append-nil ks))
    ∙ append_assoc ks (k ∷ []) ls)
    (loose_tight third g)

-- `?` and `:` between three
chosen : {m : Macros} {x y z : Bytes} {ks ls js : List TokenKind} → IsTight m x ks → IsTight m y ls
    → IsTight m z js
    → IsTight m (x ++ codes " ? " ++ y ++ codes " : " ++ z)
    (ks ++ kind.Punct mark.Question ∷ (ls ++ kind.Punct mark.Colon ∷ js))
chosen {ks = ks} {ls = ls} {js = js} f g h =
    let quest = kind.Punct mark.Question ∷ [] in
    let col = kind.Punct mark.Colon ∷ [] in
    tight_kinds
    (append_assoc ((ks ++ quest) ++ ls) col js
    ∙ append_assoc (ks ++ quest) ls (kind.Punct mark.Colon ∷ js)
    ∙ append_assoc ks quest (ls ++ kind.Punct mark.Colon ∷ js))
    (loose_tight (tight_loose (loose_tight (tight_loose f refl question) g) refl colon) h)

-- a comma between two
paired : {m : Macros} {x y : Bytes} {ks ls : List TokenKind} → IsTight m x ks → IsTight m y ls
    → IsTight m (x ++ codes ", " ++ y) (ks ++ kind.Punct mark.Comma ∷ ls)
paired {ks = ks} {ls = ls} f g =
    tight_kinds (append_assoc ks (kind.Punct mark.Comma ∷ []) ls)
    (loose_tight (tight_loose f refl comma_space) g)

-- an element of an array
indexed : {m : Macros} {w x : Bytes} {ks : List TokenKind} → IsTight m w (kind.Name w ∷ [])
    → IsTight m x ks
    → IsLoose m (w ++ codes "[" ++ x ++ codes "]")
    (kind.Name w ∷ kind.Punct mark.OpenBracket ∷ (ks ++ kind.Punct mark.CloseBracket ∷ []))
indexed f g = tight_loose (loose_tight (tight_loose f refl open_bracket) g) refl close_bracket

-- a cast
casted : {m : Macros} {x : Bytes} {ks : List TokenKind} (ty : Ty) → IsTight m x ks
    → IsTight m (parenthesized (type_name ty) ++ codes " " ++ x)
    (kind.Punct mark.OpenParen ∷ kind.Word (type_key ty) ∷ kind.Punct mark.CloseParen ∷ ks)
casted {ks = ks} ty g = loose_tight (loose_join (enclosed_tight (type_tight ty)) space) g

mutual
  -- the text of an expression is cut into its tokens before a seam
  pub tight : (m : Macros) (t : Tree) → Printable m t → IsTight m (printed t) (printed_kinds t)
  tight m (constant n w s) p = tight_word p.spells
  tight m (name w v s) p = tight_word p.spells
  tight m (index w v e s) p = loose_is_tight (indexed (tight_word p.0.spells) (tight m e p.1))
  tight m (call w args s) p = absurd p
  tight m (unary op e s) p = sign_tight op (operand_begins m e p) (tight_operand m e p)
  tight m (cast ty e s) p = casted ty (tight_operand m e p)
  tight m (binary op l r s) p =
      infixed (tight_operand m l p.0) (symbol_tight op) (tight_operand m r p.1)
  tight m (choice t a b s) p =
      chosen (tight_operand m t p.0) (tight_operand m a p.1) (tight_operand m b p.2)
  tight m (assign op place e s) p = absurd p
  tight m (bump before up place s) p = absurd p
  tight m (comma l r s) p = paired (tight_operand m l p.0) (tight_operand m r p.1)
  tight m hole p = absurd p
  tight m (hole_after e) p = absurd p

  -- so is its text as an operand
  tight_operand : (m : Macros) (t : Tree) → Printable m t
      → IsTight m (operand t (printed t)) (operand_kinds t (printed_kinds t))
  tight_operand m (constant n w s) p = tight_word p.spells
  tight_operand m (name w v s) p = tight_word p.spells
  tight_operand m (index w v e s) p = loose_is_tight (indexed (tight_word p.0.spells) (tight m e p.1))
  tight_operand m (call w args s) p = absurd p
  tight_operand m (unary op e s) p =
      loose_is_tight (enclosed_tight (sign_tight op (operand_begins m e p) (tight_operand m e p)))
  tight_operand m (cast ty e s) p = loose_is_tight (enclosed_tight (casted ty (tight_operand m e p)))
  tight_operand m (binary op l r s) p =
      loose_is_tight
      (enclosed_tight (infixed (tight_operand m l p.0) (symbol_tight op) (tight_operand m r p.1)))
  tight_operand m (choice t a b s) p =
      loose_is_tight
      (enclosed_tight
      (chosen (tight_operand m t p.0) (tight_operand m a p.1) (tight_operand m b p.2)))
  tight_operand m (assign op place e s) p = absurd p
  tight_operand m (bump before up place s) p = absurd p
  tight_operand m (comma l r s) p =
      loose_is_tight (enclosed_tight (paired (tight_operand m l p.0) (tight_operand m r p.1)))
  tight_operand m hole p = absurd p
  tight_operand m (hole_after e) p = absurd p

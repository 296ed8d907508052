-- The tokens of the text of a printed expression derive it.
use Rattle.std.proofs.Common.{◌≡◌, ℕ, zero, suc, ◌+◌, ◌-◌, ◌≤◌, List, [], ◌∷◌, ◌++◌, Some, refl, subst, arith}
use Rattle.c_lex.specs.declared.token.Punct.TheVariants as mark
use Rattle.c_lex.specs.declared.token.TokenKind.{TokenKind}
use Rattle.c_lex.specs.declared.token.TokenKind.TheVariants as kind
use Rattle.c_lex.specs.Tokens.{Macros}
use Rattle.c_tree.specs.declared.expr.BinOp.{BinOp}
use Rattle.c_tree.specs.declared.expr.BinOp.TheVariants.{Mul, Div, Rem, Add, Sub, Shl, Shr, Lt, Le, Gt, Ge, Eq, Ne, BitAnd, BitXor, BitOr, Both, Either}
use Rattle.c_tree.specs.declared.expr.UnOp.{UnOp}
use Rattle.c_tree.specs.declared.expr.UnOp.TheVariants.{Plus}
use Rattle.c_tree.specs.declared.stmt.Ty.{Ty}
use Rattle.c_tree.specs.declared.stmt.Ty.TheVariants.{Int, Char}
use Rattle.c_tree.specs.Tree.{Tree, constant, name, index, call, unary, cast, binary, choice, assign, bump, comma, hole, hole_after, bare, no_span}
use Rattle.c_grammar.specs.declared.nonterminal.Nonterminal.TheVariants.{Expression, Conditional, Binary, Cast, Unary, Primary}
use Rattle.c_grammar.specs.Operators.{binary_operator, rank, prefix_operator, type_word}
use Rattle.c_replace.specs.Shapes.{Shaped}
use Rattle.c_replace.proofs.Shapes as shape
use Rattle.printed_tokens.specs.PrintedKinds.{sign_mark, symbol_mark, type_key, enclosed, operand_kinds, printed_kinds, Printable}

-- ---- parts that are expressions

-- operands of operators are operands of weaker ones
climb : {j : ℕ} {ks : List TokenKind} {t : Tree} (n k : ℕ) → k ≡ n + j → Shaped (Binary j) ks t
    → Shaped (Binary k) ks t
climb {j} {ks} {t} zero k e x =
    let same : j ≡ k = omega arith in subst (λ q. Shaped (Binary q) ks t) same x
climb {j} {ks} {t} (suc n) zero e x = absurd (omega arith)
climb {j} {ks} {t} (suc n) (suc k) e x = shape.weaker (climb n k (omega arith) x)

-- a primary expression is a cast
cast_of : {ks : List TokenKind} {t : Tree} → Shaped Primary ks t → Shaped Cast ks t
cast_of x = shape.cast (shape.unary (shape.postfix x))

-- and an operand of each operator
pub binary_of : {ks : List TokenKind} {t : Tree} (j : ℕ) → Shaped Primary ks t → Shaped (Binary j) ks t
binary_of j x = climb j j (omega arith) (shape.operand (cast_of x))

-- a conditional is an expression
expression_of : {ks : List TokenKind} {t : Tree} → Shaped Conditional ks t → Shaped Expression ks t
expression_of x = shape.expression (shape.assignment x)

-- so is an operand of an operator
pub from_binary : {ks : List TokenKind} {t : Tree} (j : ℕ) → j ≤ 10 → Shaped (Binary j) ks t
    → Shaped Expression ks t
from_binary j l x = expression_of (shape.conditional (climb (10 - j) 10 (omega arith) x))

-- and a unary expression
from_unary : {ks : List TokenKind} {t : Tree} → Shaped Unary ks t → Shaped Expression ks t
from_unary x = from_binary 0 (omega arith) (shape.operand (shape.cast x))

-- ---- operators

-- each operator has a rank, of 1 to 10
rank_some : (f : BinOp) → (j : ℕ) × (rank f ≡ suc j) × (suc j ≤ 10)
rank_some Mul = (0, refl, omega arith)
rank_some Div = (0, refl, omega arith)
rank_some Rem = (0, refl, omega arith)
rank_some Add = (1, refl, omega arith)
rank_some Sub = (1, refl, omega arith)
rank_some Shl = (2, refl, omega arith)
rank_some Shr = (2, refl, omega arith)
rank_some Lt = (3, refl, omega arith)
rank_some Le = (3, refl, omega arith)
rank_some Gt = (3, refl, omega arith)
rank_some Ge = (3, refl, omega arith)
rank_some Eq = (4, refl, omega arith)
rank_some Ne = (4, refl, omega arith)
rank_some BitAnd = (5, refl, omega arith)
rank_some BitXor = (6, refl, omega arith)
rank_some BitOr = (7, refl, omega arith)
rank_some Both = (8, refl, omega arith)
rank_some Either = (9, refl, omega arith)

-- the punctuator of an operator is that operator
symbol_is : (f : BinOp) → binary_operator (symbol_mark f) ≡ Some f
symbol_is Mul = refl
symbol_is _ = refl

-- so is that of a prefix operator
sign_is : (f : UnOp) → prefix_operator (sign_mark f) ≡ Some f
sign_is Plus = refl
sign_is _ = refl

-- the keyword of a type names it
type_is : (ty : Ty) → type_word (type_key ty) ≡ Some ty
type_is Int = refl
type_is Char = refl

-- ---- expressions

-- a primary expression is a conditional
conditional_of : {ks : List TokenKind} {t : Tree} → Shaped Primary ks t → Shaped Conditional ks t
conditional_of x = shape.conditional (binary_of 10 x)

-- a prefix operator before an operand
signed : {ks : List TokenKind} {t : Tree} (f : UnOp) → Shaped Primary ks t
    → Shaped Expression (kind.Punct (sign_mark f) ∷ ks) (unary f t no_span)
signed f x = from_unary (shape.prefix (sign_mark f) f (sign_is f) (cast_of x))

-- a cast of an operand
casted : {ks : List TokenKind} {t : Tree} (ty : Ty) → Shaped Primary ks t
    → Shaped Expression (enclosed (kind.Word (type_key ty) ∷ []) ++ ks) (cast ty t no_span)
casted ty x =
    let whole = shape.cast_to (type_key ty) ty (type_is ty) (cast_of x) in
    from_binary 0 (omega arith) (shape.operand whole)

-- an operator between two operands
infixed : {ks ls : List TokenKind} {t u : Tree} (f : BinOp) → Shaped Primary ks t
    → Shaped Primary ls u
    → Shaped Expression (ks ++ kind.Punct (symbol_mark f) ∷ ls) (binary f t u no_span)
infixed f x y =
    let j = rank_some f in
    let left = binary_of (suc j.0) x in
    let right = binary_of j.0 y in
    from_binary (suc j.0) j.2 (shape.binary (symbol_mark f) f (symbol_is f) j.1 left right)

-- `?` and `:` between three
chosen : {ks ls js : List TokenKind} {t u v : Tree} → Shaped Primary ks t → Shaped Primary ls u
    → Shaped Primary js v
    → Shaped Expression (ks ++ kind.Punct mark.Question ∷ (ls ++ kind.Punct mark.Colon ∷ js))
    (choice t u v no_span)
chosen x y z =
    expression_of (shape.choose (binary_of 10 x) (expression_of (conditional_of y)) (conditional_of z))

-- a comma between two
paired : {ks ls : List TokenKind} {t u : Tree} → Shaped Primary ks t → Shaped Primary ls u
    → Shaped Expression (ks ++ kind.Punct mark.Comma ∷ ls) (comma t u no_span)
paired x y = shape.comma (expression_of (conditional_of x)) (shape.assignment (conditional_of y))

mutual
  -- the tokens of an expression derive it
  pub read : (m : Macros) (t : Tree) → Printable m t → Shaped Expression (printed_kinds t) (bare t)
  read m (constant n w s) p = expression_of (conditional_of (shape.constant n w))
  read m (name w v s) p = expression_of (conditional_of (shape.name w))
  read m (index w v e s) p = expression_of (conditional_of (shape.index w (read m e p.1)))
  read m (call w args s) p = absurd p
  read m (unary op e s) p = signed op (read_operand m e p)
  read m (cast ty e s) p = casted ty (read_operand m e p)
  read m (binary op l r s) p = infixed op (read_operand m l p.0) (read_operand m r p.1)
  read m (choice t a b s) p =
      chosen (read_operand m t p.0) (read_operand m a p.1) (read_operand m b p.2)
  read m (assign op place e s) p = absurd p
  read m (bump before up place s) p = absurd p
  read m (comma l r s) p = paired (read_operand m l p.0) (read_operand m r p.1)
  read m hole p = absurd p
  read m (hole_after e) p = absurd p

  -- its tokens as an operand derive it as a primary expression
  read_operand : (m : Macros) (t : Tree) → Printable m t
      → Shaped Primary (operand_kinds t (printed_kinds t)) (bare t)
  read_operand m (constant n w s) p = shape.constant n w
  read_operand m (name w v s) p = shape.name w
  read_operand m (index w v e s) p = shape.index w (read m e p.1)
  read_operand m (call w args s) p = absurd p
  read_operand m (unary op e s) p = shape.paren (signed op (read_operand m e p))
  read_operand m (cast ty e s) p = shape.paren (casted ty (read_operand m e p))
  read_operand m (binary op l r s) p =
      shape.paren (infixed op (read_operand m l p.0) (read_operand m r p.1))
  read_operand m (choice t a b s) p =
      shape.paren (chosen (read_operand m t p.0) (read_operand m a p.1) (read_operand m b p.2))
  read_operand m (assign op place e s) p = absurd p
  read_operand m (bump before up place s) p = absurd p
  read_operand m (comma l r s) p = shape.paren (paired (read_operand m l p.0) (read_operand m r p.1))
  read_operand m hole p = absurd p
  read_operand m (hole_after e) p = absurd p

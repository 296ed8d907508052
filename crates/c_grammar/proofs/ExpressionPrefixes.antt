-- What begins an expression is closed under prefixes: where more tokens begin one, fewer do.
use Rattle.std.proofs.Common.{◌≡◌, ℕ, ◌≤◌, List, [], ◌∷◌, refl, subst, ◌⊎◌, inl, inr, arith, length}
use Rattle.c_lex.specs.declared.token.TokenKind.{TokenKind}
use Rattle.c_tree.specs.declared.place.Span.{Span}
use Rattle.c_tree.specs.Tree.{Tree}
use Rattle.c_grammar.specs.declared.nonterminal.Nonterminal.{Nonterminal}
use Rattle.c_grammar.specs.declared.nonterminal.Nonterminal.TheVariants.{Assignment, Unary}
use Rattle.c_grammar.specs.Grammar.{Tokens, Given, Reads, Argument, Arguments, Begins, BeginsArgument, BeginsArguments}

-- b is a tail of a
pub data Tail : Tokens → Tokens → Type 0 where
  all : {a : Tokens} → Tail a a
  later : {x : TokenKind × Span} {a b : Tokens} → Tail a b → Tail (x ∷ a) b

pub join : {a b c : Tokens} → Tail a b → Tail b c → Tail a c
join all y = y
join (later x) y = later (join x y)

pub next : {x : TokenKind × Span} {a b : Tokens} → Tail a (x ∷ b) → Tail a b
next all = later all
next (later x) = later (next x)

pub shorter_tail : {a b : Tokens} → Tail a b → length b ≤ length a
shorter_tail all = omega arith
shorter_tail (later x) = let h = shorter_tail x in omega arith

equal_by : {a b : Tokens} → Tail a b → length a ≤ length b → a ≡ b
equal_by all h = refl
equal_by (later x) h = let q = shorter_tail x in absurd (omega arith)

-- lists that are tails of each other are one
pub equal : {a b : Tokens} → Tail a b → Tail b a → a ≡ b
equal x y = equal_by x (shorter_tail y)

-- the end is a tail
pub tail_end : (a : Tokens) → Tail a []
tail_end [] = all
tail_end (x ∷ a) = later (tail_end a)

-- of two tails of one list, one is a tail of the other
pub seam_at : {a b c : Tokens} → Tail a c → Tail a b → Tail c b ⊎ Tail b c
seam_at all y = inl y
seam_at (later x) all = inr (later x)
seam_at (later x) (later y) = seam_at x y

-- the same, with a token between them
pub seam : {x : TokenKind × Span} {a b c : Tokens} → Tail a c → Tail a (x ∷ b) → Tail c (x ∷ b) ⊎ Tail b c
seam all y = inl y
seam (later x) all = inr x
seam (later x) (later y) = seam x y

-- a tail is all, or begins after the first token
pub first : {x : TokenKind × Span} {a c : Tokens} → Tail (x ∷ a) c → (x ∷ a ≡ c) ⊎ Tail a c
first all = inl refl
first (later x) = inr x

pub by_side : {A B C : Type 0} → A ⊎ B → (A → C) → (B → C) → C
by_side (inl x) f g = f x
by_side (inr x) f g = g x

-- what begins a unary expression begins an assignment
unary_begins : {r : ℕ} {a b : Tokens} → Begins Unary r a b → Begins Assignment r a b
unary_begins d =
    Begins.assignment (Begins.conditional (
    Begins.weaker (Begins.weaker (Begins.weaker (Begins.weaker (Begins.weaker (Begins.weaker (Begins.weaker (Begins.weaker (Begins.weaker (Begins.weaker (
    Begins.operand (Begins.cast d)))))))))))))

-- ---- what is read ends at a tail

mutual
  pub tail_reads : {N : Nonterminal} {r m : ℕ} {a b : Tokens} {t : Tree} → Reads N r a m b t → Tail a b
  tail_reads Reads.constant = later all
  tail_reads Reads.name = later all
  tail_reads (Reads.index d) = later (later (next (tail_reads d)))
  tail_reads Reads.call_bare = later (later (later all))
  tail_reads (Reads.call d) = later (later (next (tail_arguments d)))
  tail_reads (Reads.paren d) = later (next (tail_reads d))
  tail_reads (Reads.postfix d) = tail_reads d
  tail_reads (Reads.bump_after h d) = next (tail_reads d)
  tail_reads (Reads.unary d) = tail_reads d
  tail_reads (Reads.bump_before h d) = later (tail_reads d)
  tail_reads (Reads.prefix h d) = later (tail_reads d)
  tail_reads (Reads.cast d) = tail_reads d
  tail_reads (Reads.cast_to h d) = later (later (later (tail_reads d)))
  tail_reads (Reads.operand d) = tail_reads d
  tail_reads (Reads.weaker d) = tail_reads d
  tail_reads (Reads.binary h k d e) = join (next (tail_reads d)) (tail_reads e)
  tail_reads (Reads.conditional d) = tail_reads d
  tail_reads (Reads.choose d e f) = join (next (tail_reads d)) (join (next (tail_reads e)) (tail_reads f))
  tail_reads (Reads.assignment d) = tail_reads d
  tail_reads (Reads.assign h d e) = join (next (tail_reads d)) (tail_reads e)
  tail_reads (Reads.expression d) = tail_reads d
  tail_reads (Reads.comma d e) = join (next (tail_reads d)) (tail_reads e)

  pub tail_argument : {r : ℕ} {a b : Tokens} {g : Given} → Argument r a b g → Tail a b
  tail_argument (Argument.value d) = tail_reads d
  tail_argument Argument.format = later all
  tail_argument (Argument.address d) = later (tail_reads d)

  pub tail_arguments : {r : ℕ} {a b : Tokens} {gs : List Given} → Arguments r a b gs → Tail a b
  tail_arguments (Arguments.last d) = tail_argument d
  tail_arguments (Arguments.more d e) = join (next (tail_argument d)) (tail_arguments e)

mutual
  pub tail_begins : {N : Nonterminal} {r : ℕ} {a b : Tokens} → Begins N r a b → Tail a b
  tail_begins Begins.none = all
  tail_begins Begins.constant = later all
  tail_begins Begins.name = later all
  tail_begins (Begins.index d) = later (later (tail_begins d))
  tail_begins (Begins.index_end d) = later (later (next (tail_reads d)))
  tail_begins Begins.call_bare = later (later (later all))
  tail_begins (Begins.call d) = later (later (tail_begins_arguments d))
  tail_begins (Begins.call_end d) = later (later (next (tail_arguments d)))
  tail_begins (Begins.paren d) = later (tail_begins d)
  tail_begins (Begins.paren_end d) = later (next (tail_reads d))
  tail_begins (Begins.postfix d) = tail_begins d
  tail_begins (Begins.bump_after h d) = next (tail_reads d)
  tail_begins (Begins.unary d) = tail_begins d
  tail_begins (Begins.bump_before h d) = later (tail_begins d)
  tail_begins (Begins.prefix h d) = later (tail_begins d)
  tail_begins (Begins.cast d) = tail_begins d
  tail_begins Begins.cast_open = later all
  tail_begins (Begins.cast_type h) = later (later all)
  tail_begins (Begins.cast_to h d) = later (later (later (tail_begins d)))
  tail_begins (Begins.operand d) = tail_begins d
  tail_begins (Begins.weaker d) = tail_begins d
  tail_begins (Begins.binary h k d e) = join (next (tail_reads d)) (tail_begins e)
  tail_begins (Begins.conditional d) = tail_begins d
  tail_begins (Begins.choose d e) = join (next (tail_reads d)) (tail_begins e)
  tail_begins (Begins.choose_no d e f) = join (next (tail_reads d)) (join (next (tail_reads e)) (tail_begins f))
  tail_begins (Begins.assignment d) = tail_begins d
  tail_begins (Begins.assign h d e) = join (next (tail_reads d)) (tail_begins e)
  tail_begins (Begins.expression d) = tail_begins d
  tail_begins (Begins.comma d e) = join (next (tail_reads d)) (tail_begins e)

  pub tail_begins_argument : {r : ℕ} {a b : Tokens} → BeginsArgument r a b → Tail a b
  tail_begins_argument (BeginsArgument.value d) = tail_begins d
  tail_begins_argument BeginsArgument.format = later all
  tail_begins_argument (BeginsArgument.address d) = later (tail_begins d)

  pub tail_begins_arguments : {r : ℕ} {a b : Tokens} → BeginsArguments r a b → Tail a b
  tail_begins_arguments (BeginsArguments.last d) = tail_begins_argument d
  tail_begins_arguments (BeginsArguments.more d e) = join (next (tail_argument d)) (tail_begins_arguments e)

-- ---- what begins a part down to a place begins it down to the same place

pub begins_at : {N : Nonterminal} {r : ℕ} {a b c : Tokens} → b ≡ c → Begins N r a b → Begins N r a c
begins_at {N} {r} {a} {b} {c} e d = subst (Begins N r a) e d

pub begins_argument_at : {r : ℕ} {a b c : Tokens} → b ≡ c → BeginsArgument r a b → BeginsArgument r a c
begins_argument_at {r} {a} {b} {c} e d = subst (BeginsArgument r a) e d

pub begins_arguments_at : {r : ℕ} {a b c : Tokens} → b ≡ c → BeginsArguments r a b → BeginsArguments r a c
begins_arguments_at {r} {a} {b} {c} e d = subst (BeginsArguments r a) e d

-- ---- prefixes

mutual
  pub reads_prefix : {N : Nonterminal} {r m : ℕ} {a b c : Tokens} {t : Tree} → Reads N r a m b t → Tail a c → Tail c b → Begins N r a c
  reads_prefix Reads.constant all y = Begins.none
  reads_prefix Reads.constant (later x) y = begins_at (equal x y) Begins.constant
  reads_prefix Reads.name all y = Begins.none
  reads_prefix Reads.name (later x) y = begins_at (equal x y) Begins.name
  reads_prefix (Reads.index d) all y = Begins.none
  reads_prefix (Reads.index d) (later all) y = Begins.name
  reads_prefix (Reads.index d) (later (later x)) y = by_side (seam x (tail_reads d)) (λ w1. Begins.index (reads_prefix d x w1))
      (λ z1. begins_at (equal z1 y) (Begins.index_end d))
  reads_prefix Reads.call_bare all y = Begins.none
  reads_prefix Reads.call_bare (later all) y = Begins.name
  reads_prefix Reads.call_bare (later (later all)) y = Begins.call (BeginsArguments.last (BeginsArgument.value Begins.none))
  reads_prefix Reads.call_bare (later (later (later x))) y = begins_at (equal x y) Begins.call_bare
  reads_prefix (Reads.call d) all y = Begins.none
  reads_prefix (Reads.call d) (later all) y = Begins.name
  reads_prefix (Reads.call d) (later (later x)) y = by_side (seam x (tail_arguments d)) (λ w1. Begins.call (arguments_prefix d x w1))
      (λ z1. begins_at (equal z1 y) (Begins.call_end d))
  reads_prefix (Reads.paren d) all y = Begins.none
  reads_prefix (Reads.paren d) (later x) y = by_side (seam x (tail_reads d)) (λ w1. Begins.paren (reads_prefix d x w1))
      (λ z1. begins_at (equal z1 y) (Begins.paren_end d))
  reads_prefix (Reads.postfix d) x y = Begins.postfix (reads_prefix d x y)
  reads_prefix (Reads.bump_after h d) x y = by_side (seam x (tail_reads d)) (λ w1. Begins.postfix (reads_prefix d x w1))
      (λ z1. begins_at (equal z1 y) (Begins.bump_after h d))
  reads_prefix (Reads.unary d) x y = Begins.unary (reads_prefix d x y)
  reads_prefix (Reads.bump_before h d) all y = Begins.none
  reads_prefix (Reads.bump_before h d) (later x) y = Begins.bump_before h (reads_prefix d x y)
  reads_prefix (Reads.prefix h d) all y = Begins.none
  reads_prefix (Reads.prefix h d) (later x) y = Begins.prefix h (reads_prefix d x y)
  reads_prefix (Reads.cast d) x y = Begins.cast (reads_prefix d x y)
  reads_prefix (Reads.cast_to h d) all y = Begins.none
  reads_prefix (Reads.cast_to h d) (later all) y = Begins.cast_open
  reads_prefix (Reads.cast_to h d) (later (later all)) y = Begins.cast_type h
  reads_prefix (Reads.cast_to h d) (later (later (later x))) y = Begins.cast_to h (reads_prefix d x y)
  reads_prefix (Reads.operand d) x y = Begins.operand (reads_prefix d x y)
  reads_prefix (Reads.weaker d) x y = Begins.weaker (reads_prefix d x y)
  reads_prefix (Reads.binary h k d e) x y = by_side (seam x (tail_reads d)) (λ w1. reads_prefix d x w1) (λ z1. Begins.binary h k d (reads_prefix e z1 y))
  reads_prefix (Reads.conditional d) x y = Begins.conditional (reads_prefix d x y)
  reads_prefix (Reads.choose d e f) x y = by_side (seam x (tail_reads d)) (λ w1. Begins.conditional (reads_prefix d x w1))
      (λ z1. by_side (seam z1 (tail_reads e)) (λ w2. Begins.choose d (reads_prefix e z1 w2)) (λ z2. Begins.choose_no d e (reads_prefix f z2 y)))
  reads_prefix (Reads.assignment d) x y = Begins.assignment (reads_prefix d x y)
  reads_prefix (Reads.assign h d e) x y = by_side (seam x (tail_reads d)) (λ w1. unary_begins (reads_prefix d x w1))
      (λ z1. Begins.assign h d (reads_prefix e z1 y))
  reads_prefix (Reads.expression d) x y = Begins.expression (reads_prefix d x y)
  reads_prefix (Reads.comma d e) x y = by_side (seam x (tail_reads d)) (λ w1. reads_prefix d x w1) (λ z1. Begins.comma d (reads_prefix e z1 y))

  pub argument_prefix : {r : ℕ} {a b c : Tokens} {g : Given} → Argument r a b g → Tail a c → Tail c b → BeginsArgument r a c
  argument_prefix (Argument.value d) x y = BeginsArgument.value (reads_prefix d x y)
  argument_prefix Argument.format all y = BeginsArgument.value Begins.none
  argument_prefix Argument.format (later x) y = begins_argument_at (equal x y) BeginsArgument.format
  argument_prefix (Argument.address d) all y = BeginsArgument.value Begins.none
  argument_prefix (Argument.address d) (later x) y = BeginsArgument.address (reads_prefix d x y)

  pub arguments_prefix : {r : ℕ} {a b c : Tokens} {gs : List Given} → Arguments r a b gs → Tail a c → Tail c b → BeginsArguments r a c
  arguments_prefix (Arguments.last d) x y = BeginsArguments.last (argument_prefix d x y)
  arguments_prefix (Arguments.more d e) x y = by_side (seam x (tail_argument d)) (λ w1. BeginsArguments.last (argument_prefix d x w1))
      (λ z1. BeginsArguments.more d (arguments_prefix e z1 y))

mutual
  pub begins_prefix : {N : Nonterminal} {r : ℕ} {a b c : Tokens} → Begins N r a b → Tail a c → Tail c b → Begins N r a c
  begins_prefix Begins.none x y = begins_at (equal x y) Begins.none
  begins_prefix Begins.constant all y = Begins.none
  begins_prefix Begins.constant (later x) y = begins_at (equal x y) Begins.constant
  begins_prefix Begins.name all y = Begins.none
  begins_prefix Begins.name (later x) y = begins_at (equal x y) Begins.name
  begins_prefix (Begins.index d) all y = Begins.none
  begins_prefix (Begins.index d) (later all) y = Begins.name
  begins_prefix (Begins.index d) (later (later x)) y = Begins.index (begins_prefix d x y)
  begins_prefix (Begins.index_end d) all y = Begins.none
  begins_prefix (Begins.index_end d) (later all) y = Begins.name
  begins_prefix (Begins.index_end d) (later (later x)) y = by_side (seam x (tail_reads d)) (λ w1. Begins.index (reads_prefix d x w1))
      (λ z1. begins_at (equal z1 y) (Begins.index_end d))
  begins_prefix Begins.call_bare all y = Begins.none
  begins_prefix Begins.call_bare (later all) y = Begins.name
  begins_prefix Begins.call_bare (later (later all)) y = Begins.call (BeginsArguments.last (BeginsArgument.value Begins.none))
  begins_prefix Begins.call_bare (later (later (later x))) y = begins_at (equal x y) Begins.call_bare
  begins_prefix (Begins.call d) all y = Begins.none
  begins_prefix (Begins.call d) (later all) y = Begins.name
  begins_prefix (Begins.call d) (later (later x)) y = Begins.call (begins_arguments_prefix d x y)
  begins_prefix (Begins.call_end d) all y = Begins.none
  begins_prefix (Begins.call_end d) (later all) y = Begins.name
  begins_prefix (Begins.call_end d) (later (later x)) y = by_side (seam x (tail_arguments d)) (λ w1. Begins.call (arguments_prefix d x w1))
      (λ z1. begins_at (equal z1 y) (Begins.call_end d))
  begins_prefix (Begins.paren d) all y = Begins.none
  begins_prefix (Begins.paren d) (later x) y = Begins.paren (begins_prefix d x y)
  begins_prefix (Begins.paren_end d) all y = Begins.none
  begins_prefix (Begins.paren_end d) (later x) y = by_side (seam x (tail_reads d)) (λ w1. Begins.paren (reads_prefix d x w1))
      (λ z1. begins_at (equal z1 y) (Begins.paren_end d))
  begins_prefix (Begins.postfix d) x y = Begins.postfix (begins_prefix d x y)
  begins_prefix (Begins.bump_after h d) x y = by_side (seam x (tail_reads d)) (λ w1. Begins.postfix (reads_prefix d x w1))
      (λ z1. begins_at (equal z1 y) (Begins.bump_after h d))
  begins_prefix (Begins.unary d) x y = Begins.unary (begins_prefix d x y)
  begins_prefix (Begins.bump_before h d) all y = Begins.none
  begins_prefix (Begins.bump_before h d) (later x) y = Begins.bump_before h (begins_prefix d x y)
  begins_prefix (Begins.prefix h d) all y = Begins.none
  begins_prefix (Begins.prefix h d) (later x) y = Begins.prefix h (begins_prefix d x y)
  begins_prefix (Begins.cast d) x y = Begins.cast (begins_prefix d x y)
  begins_prefix Begins.cast_open all y = Begins.none
  begins_prefix Begins.cast_open (later x) y = begins_at (equal x y) Begins.cast_open
  begins_prefix (Begins.cast_type h) all y = Begins.none
  begins_prefix (Begins.cast_type h) (later all) y = Begins.cast_open
  begins_prefix (Begins.cast_type h) (later (later x)) y = begins_at (equal x y) (Begins.cast_type h)
  begins_prefix (Begins.cast_to h d) all y = Begins.none
  begins_prefix (Begins.cast_to h d) (later all) y = Begins.cast_open
  begins_prefix (Begins.cast_to h d) (later (later all)) y = Begins.cast_type h
  begins_prefix (Begins.cast_to h d) (later (later (later x))) y = Begins.cast_to h (begins_prefix d x y)
  begins_prefix (Begins.operand d) x y = Begins.operand (begins_prefix d x y)
  begins_prefix (Begins.weaker d) x y = Begins.weaker (begins_prefix d x y)
  begins_prefix (Begins.binary h k d e) x y = by_side (seam x (tail_reads d)) (λ w1. reads_prefix d x w1) (λ z1. Begins.binary h k d (begins_prefix e z1 y))
  begins_prefix (Begins.conditional d) x y = Begins.conditional (begins_prefix d x y)
  begins_prefix (Begins.choose d e) x y = by_side (seam x (tail_reads d)) (λ w1. Begins.conditional (reads_prefix d x w1))
      (λ z1. Begins.choose d (begins_prefix e z1 y))
  begins_prefix (Begins.choose_no d e f) x y = by_side (seam x (tail_reads d)) (λ w1. Begins.conditional (reads_prefix d x w1))
      (λ z1. by_side (seam z1 (tail_reads e)) (λ w2. Begins.choose d (reads_prefix e z1 w2)) (λ z2. Begins.choose_no d e (begins_prefix f z2 y)))
  begins_prefix (Begins.assignment d) x y = Begins.assignment (begins_prefix d x y)
  begins_prefix (Begins.assign h d e) x y = by_side (seam x (tail_reads d)) (λ w1. unary_begins (reads_prefix d x w1))
      (λ z1. Begins.assign h d (begins_prefix e z1 y))
  begins_prefix (Begins.expression d) x y = Begins.expression (begins_prefix d x y)
  begins_prefix (Begins.comma d e) x y = by_side (seam x (tail_reads d)) (λ w1. reads_prefix d x w1) (λ z1. Begins.comma d (begins_prefix e z1 y))

  pub begins_argument_prefix : {r : ℕ} {a b c : Tokens} → BeginsArgument r a b → Tail a c → Tail c b → BeginsArgument r a c
  begins_argument_prefix (BeginsArgument.value d) x y = BeginsArgument.value (begins_prefix d x y)
  begins_argument_prefix BeginsArgument.format all y = BeginsArgument.value Begins.none
  begins_argument_prefix BeginsArgument.format (later x) y = begins_argument_at (equal x y) BeginsArgument.format
  begins_argument_prefix (BeginsArgument.address d) all y = BeginsArgument.value Begins.none
  begins_argument_prefix (BeginsArgument.address d) (later x) y = BeginsArgument.address (begins_prefix d x y)

  pub begins_arguments_prefix : {r : ℕ} {a b c : Tokens} → BeginsArguments r a b → Tail a c → Tail c b → BeginsArguments r a c
  begins_arguments_prefix (BeginsArguments.last d) x y = BeginsArguments.last (begins_argument_prefix d x y)
  begins_arguments_prefix (BeginsArguments.more d e) x y = by_side (seam x (tail_argument d)) (λ w1. BeginsArguments.last (argument_prefix d x w1))
      (λ z1. BeginsArguments.more d (begins_arguments_prefix e z1 y))

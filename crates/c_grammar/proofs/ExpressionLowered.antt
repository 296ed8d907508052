-- An expression after whose openers there is room to spare is one with less room.
use Rattle.std.proofs.Common.{◌≡◌, ℕ, suc, ◌≤◌, ◌-◌, List, [], ◌∷◌, ◌++◌, arith, subst}
use Rattle.c_tree.specs.Tree.{Tree}
use Rattle.c_grammar.specs.declared.nonterminal.Nonterminal.{Nonterminal}
use Rattle.c_grammar.specs.Grammar.{Tokens, Given, Reads, Argument, Arguments}
use Rattle.c_grammar.specs.Rooms.{rooms, argument_rooms, arguments_rooms}

-- each of these rooms is at least this
pub data Spare (x : ℕ) : List ℕ → Type 0 where
  none : Spare x []
  also : {n : ℕ} {q : List ℕ} → x ≤ n → Spare x q → Spare x (n ∷ q)

pub first : {x n : ℕ} {q : List ℕ} → Spare x (n ∷ q) → x ≤ n
first (Spare.also h k) = h

pub others : {x n : ℕ} {q : List ℕ} → Spare x (n ∷ q) → Spare x q
others (Spare.also h k) = k

pub left : {x : ℕ} (q s : List ℕ) → Spare x (q ++ s) → Spare x q
left [] s h = Spare.none
left (n ∷ q) s (Spare.also h k) = Spare.also h (left q s k)

pub right : {x : ℕ} (q : List ℕ) {s : List ℕ} → Spare x (q ++ s) → Spare x s
right [] h = h
right (n ∷ q) (Spare.also h k) = right q k

-- the room after an expression, said otherwise
pub leaving : {N : Nonterminal} {r m : ℕ} {a b : Tokens} {t : Tree} (n : ℕ) → m ≡ n → Reads N r a m b t → Reads N r a n b t
leaving {N} {r} {m} {a} {b} {t} n e d = subst (λ k. Reads N r a k b t) e d

pub suc_less : (x r : ℕ) → x ≤ r → suc r - x ≡ suc (r - x)
suc_less x r h = omega arith

mutual
  pub reads_lower : {N : Nonterminal} {r m : ℕ} {a b : Tokens} {t : Tree} (x : ℕ) (d : Reads N r a m b t) → Spare x (rooms d) → Reads N (r - x) a (m - x) b t
  reads_lower x Reads.constant h = Reads.constant
  reads_lower x Reads.name h = Reads.name
  reads_lower x (Reads.index {r = r} d) h = rw (suc_less x r (first h)) (Reads.index (reads_lower x d (others h)))
  reads_lower x (Reads.call_bare {r = r}) h = rw (suc_less x r (first h)) Reads.call_bare
  reads_lower x (Reads.call {r = r} d) h = rw (suc_less x r (first h)) (Reads.call (arguments_lower x d (others h)))
  reads_lower x (Reads.paren {r = r} d) h = rw (suc_less x r (first h)) (Reads.paren (reads_lower x d (others h)))
  reads_lower x (Reads.postfix d) h = Reads.postfix (reads_lower x d h)
  reads_lower x (Reads.bump_after e d) h = Reads.bump_after e (reads_lower x d h)
  reads_lower x (Reads.unary d) h = Reads.unary (reads_lower x d h)
  reads_lower x (Reads.bump_before {r = r} e d) h = rw (suc_less x r (first h)) (Reads.bump_before e (reads_lower x d (others h)))
  reads_lower x (Reads.prefix {r = r} e d) h = rw (suc_less x r (first h)) (Reads.prefix e (reads_lower x d (others h)))
  reads_lower x (Reads.cast d) h = Reads.cast (reads_lower x d h)
  reads_lower x (Reads.cast_to {r = r} e d) h = rw (suc_less x r (first h)) (Reads.cast_to e (reads_lower x d (others h)))
  reads_lower x (Reads.operand d) h = Reads.operand (reads_lower x d h)
  reads_lower x (Reads.weaker d) h = Reads.weaker (reads_lower x d h)
  reads_lower x (Reads.binary {m = m} e i d1 d2) h =
      let k = right (rooms d1) h in
      Reads.binary e i (leaving (suc (m - x)) (suc_less x m (first k)) (reads_lower x d1 (left (rooms d1) _ h))) (reads_lower x d2 (others k))
  reads_lower x (Reads.conditional d) h = Reads.conditional (reads_lower x d h)
  reads_lower x (Reads.choose {m = m} d1 d2 d3) h =
      let l = left (rooms d1 ++ m ∷ rooms d2) _ h in
      let k = right (rooms d1) l in
      Reads.choose (leaving (suc (m - x)) (suc_less x m (first k)) (reads_lower x d1 (left (rooms d1) _ l))) (reads_lower x d2 (others k))
      (reads_lower x d3 (right (rooms d1 ++ m ∷ rooms d2) h))
  reads_lower x (Reads.assignment d) h = Reads.assignment (reads_lower x d h)
  reads_lower x (Reads.assign {m = m} e d1 d2) h =
      let k = right (rooms d1) h in
      Reads.assign e (leaving (suc (m - x)) (suc_less x m (first k)) (reads_lower x d1 (left (rooms d1) _ h))) (reads_lower x d2 (others k))
  reads_lower x (Reads.expression d) h = Reads.expression (reads_lower x d h)
  reads_lower x (Reads.comma {m = m} d1 d2) h =
      let k = right (rooms d1) h in
      Reads.comma (leaving (suc (m - x)) (suc_less x m (first k)) (reads_lower x d1 (left (rooms d1) _ h))) (reads_lower x d2 (others k))

  pub argument_lower : {r : ℕ} {a b : Tokens} {g : Given} (x : ℕ) (d : Argument r a b g) → Spare x (argument_rooms d) → Argument (r - x) a b g
  argument_lower x (Argument.value d) h = Argument.value (reads_lower x d h)
  argument_lower x Argument.format h = Argument.format
  argument_lower x (Argument.address {r = r} d) h = rw (suc_less x r (first h)) (Argument.address (reads_lower x d (others h)))

  pub arguments_lower : {r : ℕ} {a b : Tokens} {gs : List Given} (x : ℕ) (d : Arguments r a b gs) → Spare x (arguments_rooms d) → Arguments (r - x) a b gs
  arguments_lower x (Arguments.last d) h = Arguments.last (argument_lower x d h)
  arguments_lower x (Arguments.more d e) h = Arguments.more (argument_lower x d (left (argument_rooms d) _ h)) (arguments_lower x e (right (argument_rooms d) h))

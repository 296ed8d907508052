-- The scanner finds the nesting of expressions.
use Rattle.std.proofs.Common.{◌≡◌, ℕ, suc, ◌≤◌, ◌+◌, ◌-◌, List, ◌∷◌, Some, refl, ap, arith, length}
use Rattle.c_lex.specs.declared.token.TokenKind.TheVariants as kind
use Rattle.c_lex.specs.declared.token.Punct.TheVariants as mark
use Rattle.c_tree.specs.declared.expr.UnOp.{UnOp}
use Rattle.c_tree.specs.Tree.{Tree}
use Rattle.c_grammar.specs.declared.terminal.Terminal.{Terminal}
use Rattle.c_grammar.specs.declared.terminal.Terminal.TheVariants as terminal
use Rattle.c_grammar.specs.declared.nonterminal.Nonterminal.{Nonterminal}
use Rattle.c_grammar.specs.declared.nonterminal.Nonterminal.TheVariants.{Expression}
use Rattle.c_grammar.specs.Grammar.{Tokens, Given, Reads, Argument, Arguments}
use Rattle.c_grammar.specs.Terminals.{prefix_at}
use Rattle.c_grammar.specs.Nesting.{Opener, ending, arguments_ending, openers, argument_openers, arguments_openers}
use Rattle.c_grammar.proofs.ExpressionBasics.{room, reads_shorter, arguments_shorter}
use Rattle.c_grammar.proofs.Terminals.{terminal_binary, terminal_bump, terminal_assignment, terminal_prefix, terminal_type}
use Rattle.c_grammar.proofs.Scanner.{Frame, operand, operated, group, call, pick, step, by_comma, at_operand}
use Rattle.c_grammar.proofs.ScannedParts.{Part, nothing, before, opened, after, close, finish, join, at}

-- in an expression a comma is an operator
abbrev pub Free : Nonterminal → List Frame → Type 0
Free Expression k = (n : ℕ) → by_comma k n ≡ operand (suc n) k
Free _ k = Unit {0}

pub prefix_opens : (l : Terminal) (f : UnOp) (n : ℕ) (k : List Frame) → prefix_at l ≡ Some f
    → at_operand l n k ≡ operand (suc n) k
prefix_opens (terminal.Prefix g) f n k e = refl
prefix_opens (terminal.Binary g) f n k e = refl
prefix_opens _ f n k e = absurd (cc (e))

-- ---- what is read

-- an argument
pub record Passed (r z n : ℕ) (k : List Frame) (a b : Tokens) (l : List Opener) : Type 0 where
  pub until : ℕ
  pub part : Part r r z n (operand n k) a (operated until k) b l

mutual
  pub reads_part : {N : Nonterminal} {r m : ℕ} {a b : Tokens} {t : Tree} (d : Reads N r a m b t) (end : Tokens)
      → length end ≤ length b → (n i : ℕ) → i + m ≡ n + r → (k : List Frame) → Free N k
      → Part r m (length end) n (operand n k) a (operated i k) b (openers d end)
  reads_part {r = r} {b = b} Reads.constant end h n i x k f =
      at (ap (λ j. operated j k) (omega arith)) (before refl refl (nothing r (length end) n (operated n k) b h))
  reads_part {r = r} {b = b} Reads.name end h n i x k f =
      at (ap (λ j. operated j k) (omega arith)) (before refl refl (nothing r (length end) n (operated n k) b h))
  reads_part (Reads.index {r = r} {m = m} d) end h n i x k f =
      let y = room d in
      let p = reads_part d (ending d) (omega arith) (suc n) (suc n + r - m) (omega arith) (group n ∷ k) (λ j. refl) in
      at (ap (λ j. operated j k) (omega arith)) (before refl refl (close (opened refl refl (ending d) p) refl refl h))
  reads_part {b = b} (Reads.call_bare {r = r} {e = e}) end h n i x k f =
      let c = (kind.Punct mark.CloseParen, e) ∷ b in
      at (ap (λ j. operated j k) (omega arith))
      (before refl refl (close (opened refl refl c (nothing r (length c) (suc n) (operand (suc n) (call n ∷ k)) c (omega arith))) refl refl h))
  reads_part (Reads.call d) end h n i x k f =
      let p = arguments_part d n k (length (arguments_ending d)) (omega arith) in
      at (ap (λ j. operated j k) (omega arith)) (before refl refl (close (opened refl refl (arguments_ending d) p.part) refl refl h))
  reads_part (Reads.paren {r = r} {m = m} d) end h n i x k f =
      let y = room d in
      let p = reads_part d (ending d) (omega arith) (suc n) (suc n + r - m) (omega arith) (group n ∷ k) (λ j. refl) in
      at (ap (λ j. operated j k) (omega arith)) (close (opened refl refl (ending d) p) refl refl h)
  reads_part (Reads.postfix d) end h n i x k f = reads_part d end h n i x k tt
  reads_part (Reads.bump_after {p = p} {up = up} e d) end h n i x k f =
      after (reads_part d end (omega arith) n i x k tt) (ap (step (operated i k)) (terminal_bump p up e)) x h
  reads_part (Reads.unary d) end h n i x k f = reads_part d end h n i x k tt
  reads_part (Reads.bump_before {p = p} {up = up} e d) end h n i x k f =
      opened (ap (step (operand n k)) (terminal_bump p up e)) refl end (reads_part d end h (suc n) i (omega arith) k tt)
  reads_part (Reads.prefix {p = p} {f = g} e d) end h n i x k f =
      opened (prefix_opens _ g n k (terminal_prefix p g e)) refl end (reads_part d end h (suc n) i (omega arith) k tt)
  reads_part (Reads.cast d) end h n i x k f = reads_part d end h n i x k tt
  reads_part (Reads.cast_to {k = w} {ty = ty} e d) end h n i x k f =
      opened refl refl end
      (before (ap (step (operand (suc n) (group n ∷ k))) (terminal_type w ty e)) refl (before refl refl (reads_part d end h (suc n) i (omega arith) k tt)))
  reads_part (Reads.operand d) end h n i x k f = reads_part d end h n i x k tt
  reads_part (Reads.weaker d) end h n i x k f = reads_part d end h n i x k tt
  reads_part {r = r} (Reads.binary {m = m} {p = p} {f = g} e q d1 d2) end h n i x k f =
      let y = room d1 in
      let z = reads_shorter d2 in
      let j = n + r - suc m in
      join (reads_part d1 end (omega arith) n j (omega arith) k tt)
      (opened (ap (step (operated j k)) (terminal_binary p g e)) refl end (reads_part d2 end h (suc j) i (omega arith) k tt)) (omega arith)
  reads_part (Reads.conditional d) end h n i x k f = reads_part d end h n i x k tt
  reads_part {r = r} (Reads.choose {m = m} {n = o} d1 d2 d3) end h n i x k f =
      let y = room d1 in
      let z = room d2 in
      let u = reads_shorter d2 in
      let v = reads_shorter d3 in
      let j = n + r - suc m in
      let l = n + r - o in
      join
      (join (reads_part d1 end (omega arith) n j (omega arith) k tt)
      (after (opened refl refl end (reads_part d2 end (omega arith) (suc j) l (omega arith) (pick ∷ k) (λ w. refl))) refl (omega arith) (omega arith)) (omega arith))
      (reads_part d3 end h l i (omega arith) k tt) (omega arith)
  reads_part (Reads.assignment d) end h n i x k f = reads_part d end h n i x k tt
  reads_part {r = r} (Reads.assign {m = m} {p = p} {f = g} e d1 d2) end h n i x k f =
      let y = room d1 in
      let z = reads_shorter d2 in
      let j = n + r - suc m in
      join (reads_part d1 end (omega arith) n j (omega arith) k tt)
      (opened (ap (step (operated j k)) (terminal_assignment p g e)) refl end (reads_part d2 end h (suc j) i (omega arith) k tt)) (omega arith)
  reads_part (Reads.expression d) end h n i x k f = reads_part d end h n i x k tt
  reads_part {r = r} (Reads.comma {m = m} d1 d2) end h n i x k f =
      let y = room d1 in
      let z = reads_shorter d2 in
      let j = n + r - suc m in
      join (reads_part d1 end (omega arith) n j (omega arith) k f)
      (opened (f j) refl end (reads_part d2 end h (suc j) i (omega arith) k tt)) (omega arith)

  pub argument_part : {r : ℕ} {a b : Tokens} {g : Given} (d : Argument r a b g) (n : ℕ) (k : List Frame) (z : ℕ)
      → z ≤ length b → Passed r z n k a b (argument_openers d)
  argument_part {r = r} {b = b} (Argument.value {m = m} d) n k z h =
      let y = room d in
      record { until = n + r - m; part = finish (reads_part d b (omega arith) n (n + r - m) (omega arith) k tt) h }
  argument_part {r = r} {b = b} Argument.format n k z h = record { until = n; part = before refl refl (nothing r z n (operated n k) b h) }
  argument_part {b = b} (Argument.address {r = r} {m = m} d) n k z h =
      let y = room d in
      record { until = suc n + r - m; part = finish (opened refl refl b (reads_part d b (omega arith) (suc n) (suc n + r - m) (omega arith) k tt)) h }

  pub arguments_part : {r : ℕ} {a b : Tokens} {gs : List Given} (d : Arguments r a b gs) (n : ℕ) (k : List Frame) (z : ℕ)
      → z ≤ length b → Passed r z (suc n) (call n ∷ k) a b (arguments_openers d)
  arguments_part (Arguments.last d) n k z h = argument_part d (suc n) (call n ∷ k) z h
  arguments_part (Arguments.more d e) n k z h =
      let y = arguments_shorter e in
      let p = argument_part d (suc n) (call n ∷ k) z (omega arith) in
      let q = arguments_part e n k z h in
      record { until = q.until; part = join (after p.part refl (omega arith) (omega arith)) q.part (omega arith) }

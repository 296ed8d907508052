-- The room of expressions is their nesting: at each opener the room before the part is the nesting there and the room after it.
use Rattle.std.proofs.Common.{◌≡◌, ℕ, suc, ◌≤◌, ◌<◌, ◌+◌, List, ◌∷◌, arith, length}
use Rattle.c_tree.specs.Tree.{Tree}
use Rattle.c_grammar.specs.declared.nonterminal.Nonterminal.{Nonterminal}
use Rattle.c_grammar.specs.Terminals.{rest}
use Rattle.c_grammar.specs.Grammar.{Tokens, Given, Reads, Argument, Arguments}
use Rattle.c_grammar.specs.Nesting.{nesting, ending, arguments_ending, openers, argument_openers, arguments_openers}
use Rattle.c_grammar.specs.Rooms.{rooms, argument_rooms, arguments_rooms}
use Rattle.c_grammar.proofs.ExpressionBasics.{reads_shorter, arguments_shorter}
use Rattle.c_grammar.proofs.Nested.{NestsIn, nests_none, nests_one, nests_join, nests_open, nests_wide, nests_shut}

mutual
  -- the openers of an expression fit its room
  pub reads_fit : {N : Nonterminal} {r m : ℕ} {a b : Tokens} {t : Tree} (d : Reads N r a m b t) (end : Tokens) → length end ≤ length b
      → NestsIn r m (length a) (length b) (length end) (openers d end) (rooms d)
  reads_fit {r = r} {a = a} {b = b} Reads.constant end h = nests_none r (length a) (length b) (length end) (omega arith) h
  reads_fit {r = r} {a = a} {b = b} Reads.name end h = nests_none r (length a) (length b) (length end) (omega arith) h
  reads_fit {a = a} (Reads.index d) end h = nests_shut (nests_open (rest a) (ending d) (reads_fit d (ending d) (omega arith)) (omega arith)) (omega arith) (omega arith) h
  reads_fit {a = a} (Reads.call_bare {r = r}) end h =
      nests_shut (nests_one r (length (rest a)) (length (rest (rest a))) (rest a) (rest (rest a)) (omega arith) (omega arith) (omega arith)) (omega arith) (omega arith) h
  reads_fit {a = a} (Reads.call d) end h =
      nests_shut (nests_open (rest a) (arguments_ending d) (arguments_fit d (length (arguments_ending d)) (omega arith)) (omega arith)) (omega arith) (omega arith) h
  reads_fit {a = a} (Reads.paren d) end h = nests_shut (nests_open a (ending d) (reads_fit d (ending d) (omega arith)) (omega arith)) (omega arith) (omega arith) h
  reads_fit (Reads.postfix d) end h = reads_fit d end h
  reads_fit (Reads.bump_after e d) end h = nests_wide (reads_fit d end (omega arith)) (omega arith) (omega arith) h
  reads_fit (Reads.unary d) end h = reads_fit d end h
  reads_fit {a = a} (Reads.bump_before e d) end h = nests_open a end (reads_fit d end h) (omega arith)
  reads_fit {a = a} (Reads.prefix e d) end h = nests_open a end (reads_fit d end h) (omega arith)
  reads_fit (Reads.cast d) end h = reads_fit d end h
  reads_fit {a = a} (Reads.cast_to e d) end h = nests_open a end (reads_fit d end h) (omega arith)
  reads_fit (Reads.operand d) end h = reads_fit d end h
  reads_fit (Reads.weaker d) end h = reads_fit d end h
  reads_fit (Reads.binary e i d1 d2) end h = let x = reads_shorter d2 in
      nests_join (reads_fit d1 end (omega arith)) (nests_open (ending d1) end (reads_fit d2 end h) (omega arith)) (omega arith)
  reads_fit (Reads.conditional d) end h = reads_fit d end h
  reads_fit (Reads.choose d1 d2 d3) end h = let x = reads_shorter d2 in let y = reads_shorter d3 in
      nests_join (nests_join (reads_fit d1 end (omega arith)) (nests_open (ending d1) end (reads_fit d2 end (omega arith)) (omega arith)) (omega arith)) (reads_fit d3 end h) (omega arith)
  reads_fit (Reads.assignment d) end h = reads_fit d end h
  reads_fit (Reads.assign e d1 d2) end h = let x = reads_shorter d2 in
      nests_join (reads_fit d1 end (omega arith)) (nests_open (ending d1) end (reads_fit d2 end h) (omega arith)) (omega arith)
  reads_fit (Reads.expression d) end h = reads_fit d end h
  reads_fit (Reads.comma d1 d2) end h = let x = reads_shorter d2 in
      nests_join (reads_fit d1 end (omega arith)) (nests_open (ending d1) end (reads_fit d2 end h) (omega arith)) (omega arith)

  -- the openers of an argument are closed at its end
  pub argument_fit : {r : ℕ} {a b : Tokens} {g : Given} (d : Argument r a b g) (e : ℕ) → e ≤ length b → NestsIn r r (length a) (length b) e (argument_openers d) (argument_rooms d)
  argument_fit {b = b} (Argument.value d) e h = nests_shut (reads_fit d b (omega arith)) (omega arith) (omega arith) h
  argument_fit {r = r} {a = a} {b = b} Argument.format e h = nests_none r (length a) (length b) e (omega arith) h
  argument_fit {a = a} {b = b} (Argument.address d) e h = nests_shut (nests_open a b (reads_fit d b (omega arith)) (omega arith)) (omega arith) (omega arith) h

  -- the openers of arguments are closed at their end
  pub arguments_fit : {r : ℕ} {a b : Tokens} {gs : List Given} (d : Arguments r a b gs) (e : ℕ) → e ≤ length b → NestsIn r r (length a) (length b) e (arguments_openers d) (arguments_rooms d)
  arguments_fit (Arguments.last d) e h = argument_fit d e h
  arguments_fit (Arguments.more d f) e h = let x = arguments_shorter f in nests_join (argument_fit d e (omega arith)) (arguments_fit f e h) (omega arith)

-- an expression that is an argument, an initialiser, a clause or a statement, or stands as the last in it
pub reads_within : {N : Nonterminal} {r m : ℕ} {a b : Tokens} {t : Tree} (d : Reads N r a m b t) (end : Tokens) → length end ≤ length b → (j z : ℕ) → j ≤ length end → z ≤ j
    → NestsIn r r (length a) j z (openers d end) (rooms d)
reads_within d end h j z x y = nests_shut (reads_fit d end h) (omega arith) x y

-- an expression in brackets
pub reads_bracketed : {N : Nonterminal} {r m : ℕ} {a b : Tokens} {t : Tree} (o : Tokens) (d : Reads N r a m b t) → length a < length o → (j z : ℕ) → j ≤ length b → z ≤ j
    → NestsIn (suc r) (suc r) (length o) j z ((o, b) ∷ openers d b) (r ∷ rooms d)
reads_bracketed {b = b} o d h j z x y = nests_shut (nests_open o b (reads_fit d b (omega arith)) h) (omega arith) x y

-- after an expression the room is less by those of its openers that are still open
pub nesting_after : (N : Nonterminal) (r m : ℕ) (a b end : Tokens) (t : Tree) (d : Reads N r a m b t) (c : Tokens) → length end < length c → length c ≤ length b
    → nesting (openers d end) c + m ≡ r
nesting_after N r m a b end t d c h l = let f = reads_fit d end (omega arith) in f.after c l h

-- The room of what begins an expression is its nesting.
use Rattle.std.proofs.Common.{ℕ, suc, ◌≤◌, ◌<◌, List, [], ◌∷◌, ◌++◌, arith, length}
use Rattle.c_grammar.specs.declared.nonterminal.Nonterminal.{Nonterminal}
use Rattle.c_grammar.specs.Terminals.{rest}
use Rattle.c_grammar.specs.Grammar.{Tokens, Begins, BeginsArgument, BeginsArguments}
use Rattle.c_grammar.specs.Nesting.{Opener, ending, arguments_ending}
use Rattle.c_grammar.specs.BegunNesting.{begun_openers, begun_argument_openers, begun_arguments_openers}
use Rattle.c_grammar.specs.BegunRooms.{begun_rooms, begun_argument_rooms, begun_arguments_rooms}
use Rattle.c_grammar.proofs.Nested.{NestsIn, nests_none, nests_one, nests_join, nests_open, nests_wide, nests_shut}
use Rattle.c_grammar.proofs.ExpressionNesting.{reads_fit, reads_bracketed, argument_fit, arguments_fit}

-- ---- openers that fit the rooms, of which some are closed nowhere

-- Begun r i j k q: in what begins a part, with i tokens before it and j after it, and room r before it, the openers k stand, with the rooms q
-- after them.
pub record Begun (r i j : ℕ) (k : List Opener) (q : List ℕ) : Type 0 where
  pub left : ℕ
  pub fits : NestsIn r left i j 0 k q

pub begun_whole : {r m i j : ℕ} {k : List Opener} {q : List ℕ} → NestsIn r m i j 0 k q → Begun r i j k q
begun_whole {m = m} f = record { left = m; fits = f }

pub begun_none : (r i j : ℕ) → j ≤ i → Begun r i j [] []
begun_none r i j h = begun_whole (nests_none r i j 0 h (omega arith))

-- what begins a part after a part
pub begun_join : {r m i j h p : ℕ} {k l : List Opener} {q s : List ℕ} → NestsIn r m i j 0 k q → Begun m h p l s → h ≤ j → Begun r i p (k ++ l) (q ++ s)
begun_join f g x = begun_whole (nests_join f g.fits x)

-- an opener before what begins a part
pub begun_open : {m h j : ℕ} {k : List Opener} {q : List ℕ} (a : Tokens) → Begun m h j k q → h < length a → Begun (suc m) (length a) j ((a, []) ∷ k) (m ∷ q)
begun_open a f x = begun_whole (nests_open a [] f.fits x)

-- an opener that is the last
pub begun_one : (m j : ℕ) (a : Tokens) → j < length a → Begun (suc m) (length a) j ((a, []) ∷ []) (m ∷ [])
begun_one m j a x = begun_open a (begun_none m j j (omega arith)) x

-- what begins a part, looked at from further off
pub begun_wide : {r i j h p : ℕ} {k : List Opener} {q : List ℕ} → Begun r i j k q → i ≤ h → p ≤ j → Begun r h p k q
begun_wide f x y = begun_whole (nests_wide f.fits x y (omega arith))

-- ---- expressions

mutual
  pub begun_fit : {N : Nonterminal} {r : ℕ} {a b : Tokens} (d : Begins N r a b) → Begun r (length a) (length b) (begun_openers d) (begun_rooms d)
  begun_fit {r = r} {a = a} {b = b} Begins.none = begun_none r (length a) (length b) (omega arith)
  begun_fit {r = r} {a = a} {b = b} Begins.constant = begun_none r (length a) (length b) (omega arith)
  begun_fit {r = r} {a = a} {b = b} Begins.name = begun_none r (length a) (length b) (omega arith)
  begun_fit {a = a} (Begins.index d) = begun_wide (begun_open (rest a) (begun_fit d) (omega arith)) (omega arith) (omega arith)
  begun_fit {a = a} {b = b} (Begins.index_end d) = begun_wide (begun_whole (reads_bracketed (rest a) d (omega arith) (length b) 0 (omega arith) (omega arith))) (omega arith) (omega arith)
  begun_fit {a = a} (Begins.call_bare {r = r}) =
      begun_whole (nests_shut (nests_one r (length (rest a)) (length (rest (rest a))) (rest a) (rest (rest a)) (omega arith) (omega arith) (omega arith)) (omega arith) (omega arith) (omega arith))
  begun_fit {a = a} (Begins.call d) = begun_wide (begun_open (rest a) (begun_arguments_fit d) (omega arith)) (omega arith) (omega arith)
  begun_fit {a = a} (Begins.call_end d) =
      begun_whole (nests_shut (nests_open (rest a) (arguments_ending d) (arguments_fit d (length (arguments_ending d)) (omega arith)) (omega arith)) (omega arith) (omega arith) (omega arith))
  begun_fit {a = a} (Begins.paren d) = begun_open a (begun_fit d) (omega arith)
  begun_fit {a = a} {b = b} (Begins.paren_end d) = begun_whole (reads_bracketed a d (omega arith) (length b) 0 (omega arith) (omega arith))
  begun_fit (Begins.postfix d) = begun_fit d
  begun_fit (Begins.bump_after e d) = begun_wide (begun_whole (reads_fit d [] (omega arith))) (omega arith) (omega arith)
  begun_fit (Begins.unary d) = begun_fit d
  begun_fit {a = a} (Begins.bump_before e d) = begun_open a (begun_fit d) (omega arith)
  begun_fit {a = a} (Begins.prefix e d) = begun_open a (begun_fit d) (omega arith)
  begun_fit (Begins.cast d) = begun_fit d
  begun_fit {a = a} {b = b} (Begins.cast_open {r = r}) = begun_one r (length b) a (omega arith)
  begun_fit {a = a} {b = b} (Begins.cast_type {r = r} e) = begun_one r (length b) a (omega arith)
  begun_fit {a = a} (Begins.cast_to e d) = begun_open a (begun_fit d) (omega arith)
  begun_fit (Begins.operand d) = begun_fit d
  begun_fit (Begins.weaker d) = begun_fit d
  begun_fit (Begins.binary e h d1 d2) = begun_join (reads_fit d1 [] (omega arith)) (begun_open (ending d1) (begun_fit d2) (omega arith)) (omega arith)
  begun_fit (Begins.conditional d) = begun_fit d
  begun_fit (Begins.choose d1 d2) = begun_join (reads_fit d1 [] (omega arith)) (begun_open (ending d1) (begun_fit d2) (omega arith)) (omega arith)
  begun_fit (Begins.choose_no d1 d2 d3) =
      begun_join (nests_join (reads_fit d1 [] (omega arith)) (nests_open (ending d1) [] (reads_fit d2 [] (omega arith)) (omega arith)) (omega arith)) (begun_fit d3) (omega arith)
  begun_fit (Begins.assignment d) = begun_fit d
  begun_fit (Begins.assign e d1 d2) = begun_join (reads_fit d1 [] (omega arith)) (begun_open (ending d1) (begun_fit d2) (omega arith)) (omega arith)
  begun_fit (Begins.expression d) = begun_fit d
  begun_fit (Begins.comma d1 d2) = begun_join (reads_fit d1 [] (omega arith)) (begun_open (ending d1) (begun_fit d2) (omega arith)) (omega arith)

  pub begun_argument_fit : {r : ℕ} {a b : Tokens} (d : BeginsArgument r a b) → Begun r (length a) (length b) (begun_argument_openers d) (begun_argument_rooms d)
  begun_argument_fit (BeginsArgument.value d) = begun_fit d
  begun_argument_fit {r = r} {a = a} {b = b} BeginsArgument.format = begun_none r (length a) (length b) (omega arith)
  begun_argument_fit {a = a} (BeginsArgument.address d) = begun_open a (begun_fit d) (omega arith)

  pub begun_arguments_fit : {r : ℕ} {a b : Tokens} (d : BeginsArguments r a b) → Begun r (length a) (length b) (begun_arguments_openers d) (begun_arguments_rooms d)
  begun_arguments_fit (BeginsArguments.last d) = begun_argument_fit d
  begun_arguments_fit (BeginsArguments.more d e) = begun_join (argument_fit d 0 (omega arith)) (begun_arguments_fit e) (omega arith)

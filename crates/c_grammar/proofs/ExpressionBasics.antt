-- Laws of expressions by themselves.
use Rattle.std.proofs.Common.{ℕ, suc, ◌≤◌, ◌<◌, List, arith, length}
use Rattle.c_tree.specs.Tree.{Tree}
use Rattle.c_grammar.specs.declared.nonterminal.Nonterminal.{Nonterminal}
use Rattle.c_grammar.specs.Grammar.{Tokens, Given, Reads, Argument, Arguments, Begins, BeginsArgument, BeginsArguments}

-- what is read takes room and gives none
pub room : {N : Nonterminal} {r m : ℕ} {a b : Tokens} {t : Tree} → Reads N r a m b t → m ≤ r
room Reads.constant = omega arith
room Reads.name = omega arith
room (Reads.index d) = omega arith
room Reads.call_bare = omega arith
room (Reads.call d) = omega arith
room (Reads.paren d) = omega arith
room (Reads.postfix d) = room d
room (Reads.bump_after e d) = room d
room (Reads.unary d) = room d
room (Reads.bump_before e d) = let x = room d in omega arith
room (Reads.prefix e d) = let x = room d in omega arith
room (Reads.cast d) = room d
room (Reads.cast_to e d) = let x = room d in omega arith
room (Reads.operand d) = room d
room (Reads.weaker d) = room d
room (Reads.binary e h d1 d2) = let x = room d1 in let y = room d2 in omega arith
room (Reads.conditional d) = room d
room (Reads.choose d1 d2 d3) = let x = room d1 in let y = room d2 in let z = room d3 in omega arith
room (Reads.assignment d) = room d
room (Reads.assign e d1 d2) = let x = room d1 in let y = room d2 in omega arith
room (Reads.expression d) = room d
room (Reads.comma d1 d2) = let x = room d1 in let y = room d2 in omega arith

mutual
  -- with more room the same is read
  pub reads_lift : {N : Nonterminal} {r m : ℕ} {a b : Tokens} {t : Tree} → Reads N r a m b t → Reads N (suc r) a (suc m) b t
  reads_lift Reads.constant = Reads.constant
  reads_lift Reads.name = Reads.name
  reads_lift (Reads.index d) = Reads.index (reads_lift d)
  reads_lift Reads.call_bare = Reads.call_bare
  reads_lift (Reads.call d) = Reads.call (arguments_lift d)
  reads_lift (Reads.paren d) = Reads.paren (reads_lift d)
  reads_lift (Reads.postfix d) = Reads.postfix (reads_lift d)
  reads_lift (Reads.bump_after e d) = Reads.bump_after e (reads_lift d)
  reads_lift (Reads.unary d) = Reads.unary (reads_lift d)
  reads_lift (Reads.bump_before e d) = Reads.bump_before e (reads_lift d)
  reads_lift (Reads.prefix e d) = Reads.prefix e (reads_lift d)
  reads_lift (Reads.cast d) = Reads.cast (reads_lift d)
  reads_lift (Reads.cast_to e d) = Reads.cast_to e (reads_lift d)
  reads_lift (Reads.operand d) = Reads.operand (reads_lift d)
  reads_lift (Reads.weaker d) = Reads.weaker (reads_lift d)
  reads_lift (Reads.binary e h d1 d2) = Reads.binary e h (reads_lift d1) (reads_lift d2)
  reads_lift (Reads.conditional d) = Reads.conditional (reads_lift d)
  reads_lift (Reads.choose d1 d2 d3) = Reads.choose (reads_lift d1) (reads_lift d2) (reads_lift d3)
  reads_lift (Reads.assignment d) = Reads.assignment (reads_lift d)
  reads_lift (Reads.assign e d1 d2) = Reads.assign e (reads_lift d1) (reads_lift d2)
  reads_lift (Reads.expression d) = Reads.expression (reads_lift d)
  reads_lift (Reads.comma d1 d2) = Reads.comma (reads_lift d1) (reads_lift d2)

  pub argument_lift : {r : ℕ} {a b : Tokens} {g : Given} → Argument r a b g → Argument (suc r) a b g
  argument_lift (Argument.value d) = Argument.value (reads_lift d)
  argument_lift Argument.format = Argument.format
  argument_lift (Argument.address d) = Argument.address (reads_lift d)

  pub arguments_lift : {r : ℕ} {a b : Tokens} {gs : List Given} → Arguments r a b gs → Arguments (suc r) a b gs
  arguments_lift (Arguments.last d) = Arguments.last (argument_lift d)
  arguments_lift (Arguments.more d e) = Arguments.more (argument_lift d) (arguments_lift e)

-- what is read begins the part
pub reads_begun : {N : Nonterminal} {r m : ℕ} {a b : Tokens} {t : Tree} → Reads N r a m b t → Begins N r a b
reads_begun Reads.constant = Begins.constant
reads_begun Reads.name = Begins.name
reads_begun (Reads.index d) = Begins.index_end d
reads_begun Reads.call_bare = Begins.call_bare
reads_begun (Reads.call d) = Begins.call_end d
reads_begun (Reads.paren d) = Begins.paren_end d
reads_begun (Reads.postfix d) = Begins.postfix (reads_begun d)
reads_begun (Reads.bump_after e d) = Begins.bump_after e d
reads_begun (Reads.unary d) = Begins.unary (reads_begun d)
reads_begun (Reads.bump_before e d) = Begins.bump_before e (reads_begun d)
reads_begun (Reads.prefix e d) = Begins.prefix e (reads_begun d)
reads_begun (Reads.cast d) = Begins.cast (reads_begun d)
reads_begun (Reads.cast_to e d) = Begins.cast_to e (reads_begun d)
reads_begun (Reads.operand d) = Begins.operand (reads_begun d)
reads_begun (Reads.weaker d) = Begins.weaker (reads_begun d)
reads_begun (Reads.binary e h d1 d2) = Begins.binary e h d1 (reads_begun d2)
reads_begun (Reads.conditional d) = Begins.conditional (reads_begun d)
reads_begun (Reads.choose d1 d2 d3) = Begins.choose_no d1 d2 (reads_begun d3)
reads_begun (Reads.assignment d) = Begins.assignment (reads_begun d)
reads_begun (Reads.assign e d1 d2) = Begins.assign e d1 (reads_begun d2)
reads_begun (Reads.expression d) = Begins.expression (reads_begun d)
reads_begun (Reads.comma d1 d2) = Begins.comma d1 (reads_begun d2)

pub argument_begun : {r : ℕ} {a b : Tokens} {g : Given} → Argument r a b g → BeginsArgument r a b
argument_begun (Argument.value d) = BeginsArgument.value (reads_begun d)
argument_begun Argument.format = BeginsArgument.format
argument_begun (Argument.address d) = BeginsArgument.address (reads_begun d)

pub arguments_begun : {r : ℕ} {a b : Tokens} {gs : List Given} → Arguments r a b gs → BeginsArguments r a b
arguments_begun (Arguments.last d) = BeginsArguments.last (argument_begun d)
arguments_begun (Arguments.more d e) = BeginsArguments.more d (arguments_begun e)

mutual
  -- with more room the same begins a part
  pub begins_lift : {N : Nonterminal} {r : ℕ} {a b : Tokens} → Begins N r a b → Begins N (suc r) a b
  begins_lift Begins.none = Begins.none
  begins_lift Begins.constant = Begins.constant
  begins_lift Begins.name = Begins.name
  begins_lift (Begins.index d) = Begins.index (begins_lift d)
  begins_lift (Begins.index_end d) = Begins.index_end (reads_lift d)
  begins_lift Begins.call_bare = Begins.call_bare
  begins_lift (Begins.call d) = Begins.call (begins_arguments_lift d)
  begins_lift (Begins.call_end d) = Begins.call_end (arguments_lift d)
  begins_lift (Begins.paren d) = Begins.paren (begins_lift d)
  begins_lift (Begins.paren_end d) = Begins.paren_end (reads_lift d)
  begins_lift (Begins.postfix d) = Begins.postfix (begins_lift d)
  begins_lift (Begins.bump_after e d) = Begins.bump_after e (reads_lift d)
  begins_lift (Begins.unary d) = Begins.unary (begins_lift d)
  begins_lift (Begins.bump_before e d) = Begins.bump_before e (begins_lift d)
  begins_lift (Begins.prefix e d) = Begins.prefix e (begins_lift d)
  begins_lift (Begins.cast d) = Begins.cast (begins_lift d)
  begins_lift Begins.cast_open = Begins.cast_open
  begins_lift (Begins.cast_type e) = Begins.cast_type e
  begins_lift (Begins.cast_to e d) = Begins.cast_to e (begins_lift d)
  begins_lift (Begins.operand d) = Begins.operand (begins_lift d)
  begins_lift (Begins.weaker d) = Begins.weaker (begins_lift d)
  begins_lift (Begins.binary e h d1 d2) = Begins.binary e h (reads_lift d1) (begins_lift d2)
  begins_lift (Begins.conditional d) = Begins.conditional (begins_lift d)
  begins_lift (Begins.choose d1 d2) = Begins.choose (reads_lift d1) (begins_lift d2)
  begins_lift (Begins.choose_no d1 d2 d3) = Begins.choose_no (reads_lift d1) (reads_lift d2) (begins_lift d3)
  begins_lift (Begins.assignment d) = Begins.assignment (begins_lift d)
  begins_lift (Begins.assign e d1 d2) = Begins.assign e (reads_lift d1) (begins_lift d2)
  begins_lift (Begins.expression d) = Begins.expression (begins_lift d)
  begins_lift (Begins.comma d1 d2) = Begins.comma (reads_lift d1) (begins_lift d2)

  pub begins_argument_lift : {r : ℕ} {a b : Tokens} → BeginsArgument r a b → BeginsArgument (suc r) a b
  begins_argument_lift (BeginsArgument.value d) = BeginsArgument.value (begins_lift d)
  begins_argument_lift BeginsArgument.format = BeginsArgument.format
  begins_argument_lift (BeginsArgument.address d) = BeginsArgument.address (begins_lift d)

  pub begins_arguments_lift : {r : ℕ} {a b : Tokens} → BeginsArguments r a b → BeginsArguments (suc r) a b
  begins_arguments_lift (BeginsArguments.last d) = BeginsArguments.last (begins_argument_lift d)
  begins_arguments_lift (BeginsArguments.more d e) = BeginsArguments.more (argument_lift d) (begins_arguments_lift e)

mutual
  -- each part has a token
  pub reads_shorter : {N : Nonterminal} {r m : ℕ} {a b : Tokens} {t : Tree} → Reads N r a m b t → length b < length a
  reads_shorter Reads.constant = omega arith
  reads_shorter Reads.name = omega arith
  reads_shorter (Reads.index d) = let x = reads_shorter d in omega arith
  reads_shorter Reads.call_bare = omega arith
  reads_shorter (Reads.call d) = let x = arguments_shorter d in omega arith
  reads_shorter (Reads.paren d) = let x = reads_shorter d in omega arith
  reads_shorter (Reads.postfix d) = reads_shorter d
  reads_shorter (Reads.bump_after e d) = let x = reads_shorter d in omega arith
  reads_shorter (Reads.unary d) = reads_shorter d
  reads_shorter (Reads.bump_before e d) = let x = reads_shorter d in omega arith
  reads_shorter (Reads.prefix e d) = let x = reads_shorter d in omega arith
  reads_shorter (Reads.cast d) = reads_shorter d
  reads_shorter (Reads.cast_to e d) = let x = reads_shorter d in omega arith
  reads_shorter (Reads.operand d) = reads_shorter d
  reads_shorter (Reads.weaker d) = reads_shorter d
  reads_shorter (Reads.binary e h d1 d2) = let x = reads_shorter d1 in let y = reads_shorter d2 in omega arith
  reads_shorter (Reads.conditional d) = reads_shorter d
  reads_shorter (Reads.choose d1 d2 d3) = let x = reads_shorter d1 in let y = reads_shorter d2 in let z = reads_shorter d3 in omega arith
  reads_shorter (Reads.assignment d) = reads_shorter d
  reads_shorter (Reads.assign e d1 d2) = let x = reads_shorter d1 in let y = reads_shorter d2 in omega arith
  reads_shorter (Reads.expression d) = reads_shorter d
  reads_shorter (Reads.comma d1 d2) = let x = reads_shorter d1 in let y = reads_shorter d2 in omega arith

  pub argument_shorter : {r : ℕ} {a b : Tokens} {g : Given} → Argument r a b g → length b < length a
  argument_shorter (Argument.value d) = reads_shorter d
  argument_shorter Argument.format = omega arith
  argument_shorter (Argument.address d) = let x = reads_shorter d in omega arith

  pub arguments_shorter : {r : ℕ} {a b : Tokens} {gs : List Given} → Arguments r a b gs → length b < length a
  arguments_shorter (Arguments.last d) = argument_shorter d
  arguments_shorter (Arguments.more d e) = let x = argument_shorter d in let y = arguments_shorter e in omega arith

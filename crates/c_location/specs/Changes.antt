-- What each change makes of the part at its location.
use Rattle.c_tree.specs.declared.expr.BinOp.{BinOp}
use Rattle.c_tree.specs.declared.expr.BinOp.TheVariants.{Both, Either}
use Rattle.c_tree.specs.Parts.{span_of, span_of_code}
use Rattle.c_tree.specs.Tree.{Tree, binary, block, if_then, next, done}
use Rattle.c_tree.specs.Views.{tree as tree_of}
use Rattle.c_location.specs.declared.change.Change.{Change}
use Rattle.c_location.specs.declared.change.Change.TheVariants as change
use Rattle.c_location.specs.Rewrites.{Rewrite}

-- another expression in the place of an expression; a statement stays
abbrev pub replaced : Tree → Rewrite
replaced new = record { tree = λ old. new; code = λ c. c }

-- a condition and the new one joined by an operator, with the text of the old one;
-- a statement stays
abbrev pub combined : BinOp → Tree → Rewrite
combined op new = record { tree = λ old. binary op old new (span_of old); code = λ c. c }

-- a block that holds an `if` with the new test round the statement; an expression stays
abbrev pub guarded : Tree → Rewrite
guarded test = record {
  tree = λ old. old;
  code = λ c. block (next (if_then test c (span_of_code c)) done) (span_of_code c);
}

-- what a change makes of the part
abbrev pub rewrite_of : Change → Rewrite
rewrite_of (change.Replaced new) = replaced (tree_of new)
rewrite_of (change.Narrowed new) = combined Both (tree_of new)
rewrite_of (change.Widened new) = combined Either (tree_of new)
rewrite_of (change.Guarded test) = guarded (tree_of test)

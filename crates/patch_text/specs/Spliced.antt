-- The text of a source in which a part is replaced.
use Rattle.std.specs.Prelude.{ℕ, List, ◌++◌, take, drop, slice_range, codes}
use Rattle.c_tree.specs.declared.expr.BinOp.{BinOp}
use Rattle.c_tree.specs.declared.place.Span.{Span}
use Rattle.c_tree.specs.Tree.{Tree}
use Rattle.patch_text.specs.Printed.{symbol, printed, parenthesized}

-- the source with the new text in place of the span's
abbrev pub spliced : List ℕ → Span → List ℕ → List ℕ
spliced source at new = take at.from source ++ new ++ drop at.to source

-- the source with the expression, in parentheses, in place of the span's text
abbrev pub replaced : List ℕ → Span → Tree → List ℕ
replaced source at new = spliced source at (parenthesized (printed new))

-- the text of a span
abbrev pub old_text : List ℕ → Span → List ℕ
old_text source at = slice_range source at.from at.to

-- the source with the span's text in parentheses, joined by an operator to the expression in
-- parentheses
abbrev pub joined : List ℕ → Span → BinOp → Tree → List ℕ
joined source at op bound =
    spliced source at
    (parenthesized (old_text source at)
    ++ codes " " ++ symbol op ++ codes " " ++ parenthesized (printed bound))

-- the source with a block in place of the span's text, in which an `if` with the test stands before
-- the text
abbrev pub guarded : List ℕ → Span → Tree → List ℕ
guarded source at test =
    spliced source at
    (codes "{ if (" ++ printed test ++ codes ") " ++ old_text source at ++ codes " }")

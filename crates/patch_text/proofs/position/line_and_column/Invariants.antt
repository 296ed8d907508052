use Rattle.std.proofs.Common.{◌≡◌}
use Rattle.patch_text.specs.Lines.{line_of, column_of}
use Rattle.patch_text.proofs.position.line_and_column.Given as goal

-- the line and the column of the index
abbrev pub invariant-loop-i : goal.invariant-loop-i
invariant-loop-i l = record { line : l.line ≡ line_of l.text l.i; column : l.column ≡ column_of l.text l.i }

use Rattle.std.proofs.Common.{◌≡◌, drop}
use Rattle.std.specs.Str.{all_ascii_digits}
use Rattle.repair_cli.proofs.words.are_digits.Given as goal

-- the answer is the one for the bytes that are left
abbrev pub invariant-loop-byte : goal.invariant-loop-byte
invariant-loop-byte l = all_ascii_digits l.text ≡ all_ascii_digits (drop l.byte-index l.text)

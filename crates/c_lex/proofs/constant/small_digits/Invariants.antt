-- The digits so far, and their value, or the limit.
use Rattle.std.proofs.Common.{◌≡◌, ◌≤◌, ◌<◌, ◌^◌, take}
use Rattle.std.specs.Str.Parse.{AllDigits, digits_value}
use Rattle.c_lex.proofs.constant.small_digits.Given as goal

abbrev pub invariant-loop-byte : goal.invariant-loop-byte
invariant-loop-byte l = record {
  digits : AllDigits l.base (take l.byte-index l.word);
  kept : l.value ≤ 2 ^ 31;
  small : digits_value l.base (take l.byte-index l.word) < 2 ^ 31 → l.value ≡ digits_value l.base (take l.byte-index l.word);
  large : 2 ^ 31 ≤ digits_value l.base (take l.byte-index l.word) → l.value ≡ 2 ^ 31;
}

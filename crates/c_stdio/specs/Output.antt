-- Writing where each byte has to be the next one expected.
use Rattle.std.specs.Prelude.{ℕ, Bool, List, length, drop, nat_eq, ◌==◌}
use Rattle.std.specs.List.{common_prefix_len}

-- how many bytes of a text are the next ones expected, before the first that isn't
abbrev pub agreeing : List ℕ → List ℕ → ℕ
agreeing text expected = common_prefix_len nat_eq text expected

-- every byte of the text is the next one expected
abbrev pub is_expected : List ℕ → List ℕ → Bool
is_expected text expected = agreeing text expected == length text

-- what is still expected after the text was written, up to its first byte that isn't the next one expected
abbrev pub expected_after : List ℕ → List ℕ → List ℕ
expected_after text expected = drop (agreeing text expected) expected

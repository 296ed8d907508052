-- The limits of a call.
use Rattle.std.specs.Prelude.{ℕ}

-- the most bytes of a source
abbrev pub source_limit : ℕ
source_limit = 65_536

-- the most bytes of a suite
abbrev pub suite_limit : ℕ
suite_limit = 4_194_304

-- the most units of work that a test may take
abbrev pub most_units : ℕ
most_units = 10_000_000

-- the most patches that the words can say are tried at most
abbrev pub most_patches : ℕ
most_patches = 65_536

-- how many patches are tried at most, where the words say nothing of it
abbrev pub default_patches : ℕ
default_patches = 16_384

-- the most digits of a number in the words
abbrev pub most_digits : ℕ
most_digits = 10

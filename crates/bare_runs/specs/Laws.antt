-- The law of the runs of programs that are the same but for spans and the spelling of constants.
use Rattle.std.specs.Prelude.{◌≡◌, ℕ, List}
use Rattle.c_tree.specs.Tree.{Outer}
use Rattle.c_stdio.specs.declared.test.Test.{Test}
use Rattle.c_meaning.specs.Ends.{outcome, units_taken}
use Rattle.bare_laws.specs.Plain.{plain_program}

-- programs that are the same but for these have the same outcome on every test, after as many units
abbrev pub RunAlike : Type 0
RunAlike = (p q : List Outer) → plain_program p ≡ plain_program q → (test : Test) (limit : ℕ)
    → (outcome p test limit ≡ outcome q test limit)
    × (units_taken p test limit ≡ units_taken q test limit)

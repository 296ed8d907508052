-- What a list of tokens is: a program, or a first fault.
use Rattle.std.specs.Prelude.{ℕ, suc, List, [], ◌∷◌}
use Rattle.c_tree.specs.Tree.{Outer}
use Rattle.c_grammar.specs.Grammar.{Tokens}
use Rattle.c_grammar.specs.Programs.{Derives, Viable}
use Rattle.c_grammar.specs.Descent.{Reading, found, unexpected, too_deep}
use Rattle.c_grammar.specs.ProgramDescent as descent

-- A program; or the tokens from the first on that isn't expected, or that is nested too deep.
pub data Verdict : Type 0 where
  good : List Outer → Verdict
  unexpected_at : Tokens → Verdict
  too_deep_at : Tokens → Verdict

-- With the token at b, or the end of the tokens, nothing is a program that begins so, whatever the
-- room.
abbrev pub NoMore : Tokens → Tokens → Type 0
NoMore a [] = (s : ℕ) (p : List Outer) → Derives s a p → ⊥
NoMore a (x ∷ c) = (s : ℕ) → Viable s a c → ⊥

-- With one more room the token at b can go on, and with that room it can't.
abbrev pub Deeper : ℕ → Tokens → Tokens → Type 0
Deeper r a [] = ⊥
Deeper r a (x ∷ c) = Viable (suc r) a c × (Viable r a c → ⊥)

-- The verdict on the tokens, with room r at their begin.
abbrev pub Judged : ℕ → Tokens → Verdict → Type 0
Judged r a (good p) = Derives r a p
Judged r a (unexpected_at b) = Viable r a b × NoMore a b
Judged r a (too_deep_at b) = Viable r a b × Deeper r a b

-- the verdict that the descent comes to
abbrev pub verdict : Reading (List Outer) → Verdict
verdict (found p m b) = good p
verdict (unexpected b) = unexpected_at b
verdict (too_deep b) = too_deep_at b

-- the verdict of the descent
unfoldable pub judge : ℕ → Tokens → Verdict
judge r a = verdict (descent.program r a)

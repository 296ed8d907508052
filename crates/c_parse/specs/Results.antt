-- What a result of `parse` says of the tokens.
use Rattle.std.specs.Prelude.{◌≡◌, ◌≢◌, ℕ, ◌≤◌, [], ◌∷◌, Result, Ok, Err}
use Rattle.c_tree.specs.declared.program.Program.{Program}
use Rattle.c_tree.specs.Views.{program}
use Rattle.c_grammar.specs.Grammar.{Tokens}
use Rattle.c_grammar.specs.Programs.{max_nesting}
use Rattle.c_grammar.specs.BegunNesting.{Passes}
use Rattle.c_grammar.specs.Judge.{Verdict, good, unexpected_at, too_deep_at, Judged}
use Rattle.c_parse.specs.declared.fault.ParseFault.{ParseFault}
use Rattle.c_parse.specs.declared.fault.ParseFault.TheVariants.{Unexpected, TooDeep, NoMemory}

-- where the next token begins; at the end of the tokens, where their source ends
abbrev pub place_of : ℕ → Tokens → ℕ
place_of end [] = end
place_of end ((k, s) ∷ a) = s.from

-- why tokens have no tree: at the place begins their first fault, a token with which nothing is a
-- program, or the first at which the nesting is more than a program may have
abbrev pub IsFirstFault : ℕ → Tokens → ParseFault → Type 0
IsFirstFault end a (Unexpected at) =
    (b : Tokens) × (at ≡ place_of end b) × Judged max_nesting a (unexpected_at b)
IsFirstFault end a (TooDeep at) = (b : Tokens) × (at ≡ place_of end b) × Passes max_nesting a b
IsFirstFault end a NoMemory = Unit {0}

-- the place of a fault is at most the length of the source
abbrev pub IsPlaced : ℕ → ParseFault → Type 0
IsPlaced end (Unexpected at) = at ≤ end
IsPlaced end (TooDeep at) = at ≤ end
IsPlaced end NoMemory = Unit {0}

-- the result is the one that goes with the verdict, unless memory fails
abbrev pub MatchesVerdict : ℕ → Verdict → Result Program ParseFault → Type 0
MatchesVerdict end (good q) (Ok p) = program p ≡ q
MatchesVerdict end (good q) (Err e) = e ≡ NoMemory
MatchesVerdict end (unexpected_at b) (Ok p) = ⊥
MatchesVerdict end (unexpected_at b) (Err e) = e ≢ NoMemory → e ≡ Unexpected (place_of end b)
MatchesVerdict end (too_deep_at b) (Ok p) = ⊥
MatchesVerdict end (too_deep_at b) (Err e) = e ≢ NoMemory → e ≡ TooDeep (place_of end b)

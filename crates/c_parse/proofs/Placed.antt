-- The place of a fault lies in the source.
use Rattle.std.proofs.Common.{◌≡◌, ℕ, ◌≤◌, ◌<◌, List, [], ◌∷◌, sym, subst, arith}
use Rattle.c_lex.specs.Lexemes.{Rise}
use Rattle.c_grammar.specs.Grammar.{Tokens}
use Rattle.c_grammar.proofs.ExpressionPrefixes.{Tail}
use Rattle.c_grammar.proofs.ProgramPrefixes.{tail_viable}
use Rattle.c_grammar.proofs.TooDeep.{passes_deep}
use Rattle.c_parse.specs.declared.fault.ParseFault.{ParseFault}
use Rattle.c_parse.specs.declared.fault.ParseFault.TheVariants.{Unexpected, TooDeep, NoMemory}
use Rattle.c_parse.specs.Results.{place_of, IsFirstFault, IsPlaced}

-- spans that rise end at their end at most
rise_within : (from end : ℕ) (a : Tokens) → Rise from end a → from ≤ end
rise_within from end [] h = h
rise_within from end ((k, s) ∷ a) h = let i = rise_within s.to end a h.2 in omega arith

-- the first of tokens whose spans rise begins at their end at most
first_within : (from end : ℕ) (a : Tokens) → Rise from end a → place_of end a ≤ end
first_within from end [] h = omega arith
first_within from end ((k, s) ∷ a) h = let i = rise_within s.to end a h.2 in omega arith

-- so does each token after it
placed : {a b : Tokens} (from end : ℕ) → Rise from end a → Tail a b → place_of end b ≤ end
placed from end h (Tail.all {a}) = first_within from end a h
placed from end h (Tail.later {x} d) = placed x.1.to end h.2 d

-- the place of a fault is at most the length of the source
pub causes_placed : (end : ℕ) (a : Tokens) (e : ParseFault) → Rise 0 end a → IsFirstFault end a e → IsPlaced end e
causes_placed end a (Unexpected at) h c = let i = placed 0 end h (tail_viable c.2.0) in subst (λ n. n ≤ end) (sym c.1) i
causes_placed end a (TooDeep at) h c = let j = passes_deep 64 a c.0 c.2 in let i = placed 0 end h (tail_viable j.0) in subst (λ n. n ≤ end) (sym c.1) i
causes_placed end a NoMemory h c = tt

-- Parts of the descent that a function of their own parses.
use Rattle.std.specs.Prelude.{ℕ, ℤ, Bool, List, Option}
use Rattle.c_tree.specs.declared.place.Span.{Span}
use Rattle.c_tree.specs.Tree.{Tree, Code, Variable}
use Rattle.c_grammar.specs.declared.terminal.Terminal.{Terminal}
use Rattle.c_grammar.specs.Grammar.{Tokens}
use Rattle.c_grammar.specs.Terminals.{lookahead, is_constant, is_assign, is_while, is_semicolon, is_close_paren}
use Rattle.c_grammar.specs.Descent.{Reading, Reader, found, and_then, expected, all_listed}
use Rattle.c_grammar.specs.ProgramDescent.{bound_by, scalar_by, optional, tested, under}

-- a token that closes what an opener opened: the room after it is the room outside
abbrev pub closed : (Terminal → Bool) → ℕ → Reader Span
closed is outside r a = expected is outside a

-- parts with commas between them, each with the room before the list; after a comma the list ends
-- where the test says so
abbrev pub comma_list : {A : Type 0} → (Terminal → Bool) → Reader A → Reader (List A)
comma_list ends part r a = all_listed ends (part r) r a

-- the length of an array, where one is written
abbrev pub array_length : Reader (Option ℤ)
array_length r a = bound_by (is_constant (lookahead a)) r a

-- what comes after the name of a variable that is one number
abbrev pub scalar : List ℕ × Span → Reader Variable
scalar w r a = scalar_by (is_assign (lookahead a)) w r a

-- the condition of a `for`, where there is one, with its `;`
abbrev pub for_test : Reader (Option Tree)
for_test r a =
    and_then (optional is_semicolon r a) (λ t m b. and_then (expected is_semicolon m b) (λ e n c. found t n c))

-- the step of a `for`, where there is one, with the `)` after it; the outer room comes first
abbrev pub for_step : ℕ → Reader (Option Tree)
for_step outside r a =
    and_then (optional is_close_paren r a) (λ u m b. and_then (expected is_close_paren outside b) (λ e n c. found u n c))

-- a statement inside another one, outside of which there is that room
abbrev pub inner : ℕ → Reader Code
inner outside r a = under outside a

-- a statement of that form, in which statements have one room less
abbrev pub with_inner : ((Tokens → Reading Code) → Reader Code) → Reader Code
with_inner form r a = form (under r) r a

-- `while ( expression ) ;` after the body of a `do`, with the span of the `;`; the outer room comes
-- first
abbrev pub do_end : ℕ → Reader (Tree × Span)
do_end outside r a =
    and_then (expected is_while r a) (λ w m b.
    and_then (tested m b)
    (λ t n c. and_then (expected is_semicolon outside c) (λ e q d. found (t, e) q d)))

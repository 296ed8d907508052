-- The descent of the clauses of a `for`, in three steps: the first clause, the condition with its `;`, the step with the `)`.
use Rattle.std.proofs.Common.{◌≡◌, ℕ, Option, refl, ap, ◌∙◌}
use Rattle.c_tree.specs.declared.place.Span.{Span}
use Rattle.c_tree.specs.Tree.{Tree, First}
use Rattle.c_grammar.specs.Grammar.{Tokens}
use Rattle.c_grammar.specs.Terminals.{is_open_paren, is_close_paren, is_semicolon}
use Rattle.c_grammar.specs.Descent.{Reading, found, unexpected, too_deep, Reader, and_then, entered, expected}
use Rattle.c_grammar.specs.ProgramDescent.{clause, clauses, optional}
use Rattle.c_parse.specs.declared.fault.Stop.{Stop}
use Rattle.c_parse.specs.Gives.{stopped}
use Rattle.c_parse.specs.Parts.{for_test, for_step}
use Rattle.c_parse.proofs.Turns.{stops}

-- a token after a part: the part with its token is read first, and then what comes next
token : {A B : Type 0} (x : A) (o : Reading Span) (k : A → Reader B)
    → and_then o (λ e v c. k x v c) ≡ and_then (and_then o (λ e v c. found x v c)) k
token x (found e v c) k = refl
token x (unexpected b) k = refl
token x (too_deep b) k = refl

with_token : {A B : Type 0} (o : Reading A) (p : Reader Span) (k : A → Reader B)
    → and_then o (λ x q d. and_then (p q d) (λ e v c. k x v c))
    ≡ and_then (and_then o (λ x q d. and_then (p q d) (λ e v c. found x v c))) k
with_token (found x q d) p k = token x (p q d) k
with_token (unexpected b) p k = refl
with_token (too_deep b) p k = refl

-- after the step
abbrev stepped : First → Option Tree → Option Tree → Reader (First × Option Tree × Option Tree)
stepped i t u n c = found (i, t, u) n c

-- after the condition, outside of whose parentheses there is that room
abbrev tested : ℕ → First → Option Tree → Reader (First × Option Tree × Option Tree)
tested r i t n c = and_then (optional is_close_paren n c) (λ u q d. and_then (expected is_close_paren r d) (λ e v x. stepped i t u v x))

-- after the first clause
abbrev begun : ℕ → First → Reader (First × Option Tree × Option Tree)
begun r i n c = and_then (optional is_semicolon n c) (λ t q d. and_then (expected is_semicolon q d) (λ e v x. tested r i t v x))

-- after the `(`
abbrev entering : ℕ → Reader (First × Option Tree × Option Tree)
entering r m b = and_then (clause m b) (begun r)

-- a condition that isn't read
pub test_fails : {s : Span} {m n : ℕ} {b c : Tokens} {i : First} (r : ℕ) (a : Tokens) (e : Stop) (d : Tokens)
    → entered is_open_paren r a ≡ found s m b → clause m b ≡ found i n c → for_test n c ≡ stopped e d → clauses r a ≡ stopped e d
test_fails {n = n} {c = c} {i = i} r a e d h k l =
    ap (λ o. and_then o (λ s m b. entering r m b)) h ∙ ap (λ o. and_then o (begun r)) k
    ∙ with_token (optional is_semicolon n c) (expected is_semicolon) (tested r i)
    ∙ ap (λ o. and_then o (tested r i)) l ∙ stops e d (tested r i)

-- a step that isn't read
pub step_fails : {s : Span} {m n q : ℕ} {b c d : Tokens} {i : First} {t : Option Tree} (r : ℕ) (a : Tokens) (e : Stop) (x : Tokens)
    → entered is_open_paren r a ≡ found s m b → clause m b ≡ found i n c → for_test n c ≡ found t q d
    → for_step r q d ≡ stopped e x → clauses r a ≡ stopped e x
step_fails {n = n} {q = q} {c = c} {d = d} {i = i} {t = t} r a e x h k l j =
    ap (λ o. and_then o (λ s m b. entering r m b)) h ∙ ap (λ o. and_then o (begun r)) k
    ∙ with_token (optional is_semicolon n c) (expected is_semicolon) (tested r i)
    ∙ ap (λ o. and_then o (tested r i)) l
    ∙ with_token (optional is_close_paren q d) (λ y z. expected is_close_paren r z) (stepped i t)
    ∙ ap (λ o. and_then o (stepped i t)) j ∙ stops e x (stepped i t)

-- the clauses
pub clauses_found : {s : Span} {m n q v : ℕ} {b c d x : Tokens} {i : First} {t u : Option Tree} (r : ℕ) (a : Tokens)
    → entered is_open_paren r a ≡ found s m b → clause m b ≡ found i n c → for_test n c ≡ found t q d
    → for_step r q d ≡ found u v x → clauses r a ≡ found (i, t, u) v x
clauses_found {n = n} {q = q} {c = c} {d = d} {i = i} {t = t} r a h k l j =
    ap (λ o. and_then o (λ s m b. entering r m b)) h ∙ ap (λ o. and_then o (begun r)) k
    ∙ with_token (optional is_semicolon n c) (expected is_semicolon) (tested r i)
    ∙ ap (λ o. and_then o (tested r i)) l
    ∙ with_token (optional is_close_paren q d) (λ y z. expected is_close_paren r z) (stepped i t)
    ∙ ap (λ o. and_then o (stepped i t)) j

-- The descent of statements and of a function's body, with the room that the cursor has at each step.
use Rattle.std.proofs.Common.{◌≡◌, ℕ, zero, suc, ◌-◌, ◌<◌, Bool, true, false, List, [], ◌∷◌, refl, ap, ◌∙◌, arith}
use Rattle.c_tree.specs.declared.place.Span.{Span}
use Rattle.c_tree.specs.Parts.{span_of_code}
use Rattle.c_tree.specs.Tree as tree
use Rattle.c_tree.specs.Tree.{Tree, Code, Body, Outer}
use Rattle.c_grammar.specs.Grammar.{Tokens, over}
use Rattle.c_grammar.specs.Terminals.{lookahead, is_open_brace, is_close_brace, is_else}
use Rattle.c_grammar.specs.Descent.{Reading, Reader, found, unexpected, too_deep, and_then, taken, opened, entered_by, entered, expected}
use Rattle.c_grammar.specs.ProgramDescent.{tested, block, branch, otherwise_by, statement, does, under, items, body, program}
use Rattle.c_grammar.specs.Judge.{judge, verdict, good, unexpected_at, too_deep_at}
use Rattle.c_parse.specs.declared.fault.Stop.{Stop}
use Rattle.c_parse.specs.Gives.{stopped}
use Rattle.c_parse.proofs.Turns.{stops}

does-under : (r : ℕ) (a : Tokens) → does r a ≡ statement (under r) r a
unfolding does
does-under zero a = refl
does-under (suc r) a = refl

-- a statement in another
pub under-suc : (r : ℕ) (a : Tokens) → 0 < r → under r a ≡ statement (under (r - 1)) (r - 1) a
under-suc r a some = let e : r ≡ suc (r - 1) = omega arith in ap (λ n. under n a) e ∙ does-under (r - 1) a

-- ---- blocks

-- after the `}` of a block
abbrev braced : Span → Body → Span → Reader Code
braced s x e q d = found (tree.block x (over s e)) q d

-- after its items
abbrev itemised : ℕ → Span → Body → Reader Code
itemised r s x n c = and_then (expected is_close_brace r c) (braced s x)

-- after its `{`
abbrev opening : ℕ → Span → Reader Code
opening r s m b = and_then (items (under r) m b) (itemised r s)

-- a block whose items aren't read
pub block_fails : {s : Span} {m : ℕ} {b : Tokens} (r : ℕ) (a : Tokens) (e : Stop) (c : Tokens) → opened r a ≡ found s m b
    → items (under r) m b ≡ stopped e c → block (under r) r a ≡ stopped e c
block_fails {s} r a e c h k = ap (λ o. and_then o (opening r)) h ∙ ap (λ o. and_then o (itemised r s)) k ∙ stops e c (itemised r s)

-- a block without its `}`
pub block_unclosed : {s : Span} {m n : ℕ} {b c : Tokens} {x : Body} (r : ℕ) (a : Tokens) (e : Stop) (d : Tokens) → opened r a ≡ found s m b
    → items (under r) m b ≡ found x n c
    → expected is_close_brace r c ≡ stopped e d → block (under r) r a ≡ stopped e d
block_unclosed {s} {x = x} r a e d h k l =
    ap (λ o. and_then o (opening r)) h ∙ ap (λ o. and_then o (itemised r s)) k ∙ ap (λ o. and_then o (braced s x)) l ∙ stops e d (braced s x)

-- a block
pub block_found : {s e : Span} {m n q : ℕ} {b c d : Tokens} {x : Body} (r : ℕ) (a : Tokens) → opened r a ≡ found s m b → items (under r) m b ≡ found x n c
    → expected is_close_brace r c ≡ found e q d
    → block (under r) r a ≡ found (tree.block x (over s e)) q d
block_found {s} {x = x} r a h k l = ap (λ o. and_then o (opening r)) h ∙ ap (λ o. and_then o (itemised r s)) k ∙ ap (λ o. and_then o (braced s x)) l

-- ---- `if`

-- after the second arm
abbrev second : ℕ → Span → Tree → Code → Code → Reader Code
second r s t y z q d = found (tree.if_else t y z (over s (span_of_code z))) r d

-- after the `else`
abbrev other : ℕ → Span → Tree → Code → Span → Reader Code
other r s t y e n c = and_then (under r c) (second r s t y)

-- after the first arm
abbrev first : ℕ → Span → Tree → Code → Reader Code
first r s t y q d = otherwise_by (under r) r (is_else (lookahead d)) s t y q d

-- after the test
abbrev test : ℕ → Span → Tree → Reader Code
test r s t n c = and_then (under r c) (first r s t)

-- after the `if`
abbrev choice : ℕ → Span → Reader Code
choice r s m b = and_then (tested m b) (test r s)

-- an `if` whose second arm isn't read
pub branch_fails : {s v : Span} {m n q i : ℕ} {b c d z : Tokens} {t : Tree} {y : Code} (r : ℕ) (a : Tokens) (e : Stop) (w : Tokens)
    → opened r a ≡ found s m b → tested m b ≡ found t n c → under r c ≡ found y q d
    → is_else (lookahead d) ≡ true → taken q d ≡ found v i z → under r z ≡ stopped e w → branch (under r) r a ≡ stopped e w
branch_fails {s} {q = q} {d = d} {t = t} {y = y} r a e w h1 h2 h3 h4 h5 h6 =
    ap (λ o. and_then o (choice r)) h1 ∙ ap (λ o. and_then o (test r s)) h2 ∙ ap (λ o. and_then o (first r s t)) h3
    ∙ ap (λ l. otherwise_by (under r) r l s t y q d) h4
    ∙ ap (λ o. and_then o (other r s t y)) h5 ∙ ap (λ o. and_then o (second r s t y)) h6 ∙ stops e w (second r s t y)

-- ---- the body of a function

-- after the `}` of a function's body
abbrev shut : Body → Span → Reader (Body × Span)
shut x e q d = found (x, e) q d

-- after the items of a function's body
abbrev closed : ℕ → Body → Reader (Body × Span)
closed r x n c = and_then (expected is_close_brace r c) (shut x)

-- the steps of a function's body
abbrev body_steps : ℕ → Tokens → Reading (Body × Span)
body_steps r a = and_then (entered is_open_brace r a) (λ o m b. and_then (items (under r) m b) (closed r))

brace_steps : (z : Bool) (r : ℕ) (a : Tokens)
    → and_then (entered_by z r a) (λ o m b. and_then (items (does m) m b) (closed r)) ≡ and_then (entered_by z r a)
    (λ o m b. and_then (items (under r) m b) (closed r))
brace_steps true zero a = refl
brace_steps true (suc r) [] = refl
brace_steps true (suc r) ((k, s) ∷ a) = refl
brace_steps false r a = refl

body-steps : (r : ℕ) (a : Tokens) → body r a ≡ body_steps r a
body-steps r a = brace_steps (is_open_brace (lookahead a)) r a

-- after its `{`
abbrev unfolded : ℕ → Span → Reader (Body × Span)
unfolded r s m b = and_then (items (under r) m b) (closed r)

-- a body whose items aren't read
pub body_fails : {s : Span} {m : ℕ} {b : Tokens} (r : ℕ) (a : Tokens) (e : Stop) (c : Tokens) → entered is_open_brace r a ≡ found s m b
    → items (under r) m b ≡ stopped e c → body r a ≡ stopped e c
body_fails r a e c h k = body-steps r a ∙ ap (λ o. and_then o (unfolded r)) h ∙ ap (λ o. and_then o (closed r)) k ∙ stops e c (closed r)

-- a body without its `}`
pub body_unclosed : {s : Span} {m n : ℕ} {b c : Tokens} {x : Body} (r : ℕ) (a : Tokens) (e : Stop) (d : Tokens) → entered is_open_brace r a ≡ found s m b
    → items (under r) m b ≡ found x n c
    → expected is_close_brace r c ≡ stopped e d → body r a ≡ stopped e d
body_unclosed {x = x} r a e d h k l =
    body-steps r a ∙ ap (λ o. and_then o (unfolded r)) h ∙ ap (λ o. and_then o (closed r)) k ∙ ap (λ o. and_then o (shut x)) l
    ∙ stops e d (shut x)

-- a body
pub body_found : {s e : Span} {m n q : ℕ} {b c d : Tokens} {x : Body} (r : ℕ) (a : Tokens) → entered is_open_brace r a ≡ found s m b
    → items (under r) m b ≡ found x n c → expected is_close_brace r c ≡ found e q d
    → body r a ≡ found (x, e) q d
body_found {x = x} r a h k l = body-steps r a ∙ ap (λ o. and_then o (unfolded r)) h ∙ ap (λ o. and_then o (closed r)) k ∙ ap (λ o. and_then o (shut x)) l

-- ---- verdicts

-- the verdict, from what the descent comes to
pub judge-found : {p : List Outer} {m : ℕ} {b : Tokens} (r : ℕ) (a : Tokens) → program r a ≡ found p m b → judge r a ≡ good p
unfolding judge
judge-found r a e = ap verdict e

pub judge-unexpected : {b : Tokens} (r : ℕ) (a : Tokens) → program r a ≡ unexpected b → judge r a ≡ unexpected_at b
unfolding judge
judge-unexpected r a e = ap verdict e

pub judge-too_deep : {b : Tokens} (r : ℕ) (a : Tokens) → program r a ≡ too_deep b → judge r a ≡ too_deep_at b
unfolding judge
judge-too_deep r a e = ap verdict e

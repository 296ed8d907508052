-- A scanner that goes over tokens from the left, and keeps how deep they nest and what is open. It knows nothing of derivations, so what it
-- says of a token depends on the tokens up to it alone.
use Rattle.std.proofs.Common.{◌≡◌, ℕ, suc, ◌≤◌, ◌<◌, Bool, true, false, List, [], ◌∷◌, inl, inr, ap, sym, subst, ◌∙◌, arith, length}
use Rattle.c_lex.specs.declared.token.TokenKind.{TokenKind}
use Rattle.c_tree.specs.declared.place.Span.{Span}
use Rattle.c_grammar.specs.declared.terminal.Terminal.{Terminal}
use Rattle.c_grammar.specs.declared.terminal.Terminal.TheVariants as terminal
use Rattle.c_grammar.specs.Grammar.{Tokens}
use Rattle.c_grammar.specs.Terminals.{terminal_of, lookahead, is_else}
use Rattle.c_grammar.proofs.Nested.{larger}

-- ---- what is open

-- What is open, with the nesting outside it.
pub data Frame : Type 0 where
  -- brackets round an expression, a length or parameters
  group : ℕ → Frame
  -- the arguments of a call, and the elements of an initialiser list
  call : ℕ → Frame
  list : ℕ → Frame
  -- an initialiser
  start : ℕ → Frame
  -- what stands between `?` and `:`
  pick : Frame
  -- the test of an `if` or a `while`, and that of a `do`
  test : ℕ → Frame
  again : ℕ → Frame
  -- the clauses of a `for`
  first : ℕ → Frame
  second : ℕ → Frame
  third : ℕ → Frame
  -- an expression up to a `;`
  act : Frame
  -- the statement that an `else` may follow, another one, and that of a `do`
  branch : ℕ → Frame
  body : ℕ → Frame
  turn : ℕ → Frame
  -- a block
  block : ℕ → Frame

-- what a `(` opens after a keyword
pub data Head : Type 0 where
  of_test : Head
  of_again : Head
  of_clauses : Head

-- Where the scanner stands, with the nesting there and what is open.
pub data State : Type 0 where
  -- a statement, an item or a declaration may begin
  fresh : ℕ → List Frame → State
  -- a statement has ended
  ended : ℕ → List Frame → State
  -- an operand begins, or has ended
  operand : ℕ → List Frame → State
  operated : ℕ → List Frame → State
  -- a `)` ends a conversion
  casting : ℕ → List Frame → State
  -- in a declaration, or in parameters
  declared : ℕ → List Frame → State
  -- a `(` follows
  head : Head → ℕ → List Frame → State

-- the nesting
abbrev pub depth : State → ℕ
depth (fresh n k) = n
depth (ended n k) = n
depth (operand n k) = n
depth (operated n k) = n
depth (casting n k) = n
depth (declared n k) = n
depth (head h n k) = n

-- ---- steps

-- after the `;` of a declaration
abbrev pub vars_end : List Frame → ℕ → State
vars_end (first m ∷ k) n = operand n (second m ∷ k)
vars_end k n = fresh n k

-- at a closing bracket, or a `;` after an expression
abbrev pub shut : List Frame → ℕ → State
shut (group m ∷ k) n = operated m k
shut (call m ∷ k) n = operated m k
shut (list m ∷ k) n = operated m k
shut (start m ∷ k) n = vars_end k m
shut (test m ∷ k) n = fresh m k
shut (again m ∷ k) n = operated m (act ∷ k)
shut (first m ∷ k) n = operand (suc m) (second m ∷ k)
shut (second m ∷ k) n = operand (suc m) (third m ∷ k)
shut (third m ∷ k) n = fresh m k
shut (act ∷ k) n = ended n k
shut k n = ended n k

-- at a comma
abbrev pub by_comma : List Frame → ℕ → State
by_comma (call m ∷ k) n = operand (suc m) (call m ∷ k)
by_comma (list m ∷ k) n = operand (suc m) (list m ∷ k)
by_comma (start m ∷ k) n = declared m k
by_comma k n = operand (suc n) k

-- at a `:`
abbrev pub by_colon : List Frame → ℕ → State
by_colon (pick ∷ k) n = operand n k
by_colon k n = operand n k

-- at a type where an operand may begin
abbrev pub by_type : List Frame → ℕ → State
by_type (group m ∷ k) n = casting n k
by_type k n = declared n k

-- where an operand begins
abbrev pub at_operand : Terminal → ℕ → List Frame → State
at_operand terminal.OpenParen n k = operand (suc n) (group n ∷ k)
at_operand terminal.OpenBrace n k = operand (suc n) (list n ∷ k)
at_operand (terminal.Prefix f) n k = operand (suc n) k
at_operand (terminal.Binary f) n k = operand (suc n) k
at_operand (terminal.Bump up) n k = operand (suc n) k
at_operand (terminal.Type ty) n k = by_type k n
at_operand terminal.CloseParen n k = shut k n
at_operand terminal.CloseBracket n k = shut k n
at_operand terminal.CloseBrace n k = shut k n
at_operand terminal.Semicolon n k = shut k n
at_operand _ n k = operated n k

-- where an operand has ended
abbrev pub at_operated : Terminal → ℕ → List Frame → State
at_operated terminal.OpenParen n k = operand (suc n) (call n ∷ k)
at_operated terminal.OpenBracket n k = operand (suc n) (group n ∷ k)
at_operated (terminal.Binary f) n k = operand (suc n) k
at_operated (terminal.Assign f) n k = operand (suc n) k
at_operated terminal.Question n k = operand (suc n) (pick ∷ k)
at_operated terminal.Colon n k = by_colon k n
at_operated terminal.Comma n k = by_comma k n
at_operated terminal.CloseParen n k = shut k n
at_operated terminal.CloseBracket n k = shut k n
at_operated terminal.CloseBrace n k = shut k n
at_operated terminal.Semicolon n k = shut k n
at_operated _ n k = operated n k

-- at the closing bracket of a length or of parameters
abbrev pub ungrouped : List Frame → ℕ → State
ungrouped (group m ∷ k) n = declared m k
ungrouped k n = declared n k

-- in a declaration, or in parameters
abbrev pub at_declared : Terminal → ℕ → List Frame → State
at_declared (terminal.Assign f) n k = operand n (start n ∷ k)
at_declared terminal.OpenParen n k = declared (suc n) (group n ∷ k)
at_declared terminal.OpenBracket n k = declared (suc n) (group n ∷ k)
at_declared terminal.OpenBrace n k = fresh (suc n) (block n ∷ k)
at_declared terminal.CloseParen n k = ungrouped k n
at_declared terminal.CloseBracket n k = ungrouped k n
at_declared terminal.Semicolon n k = vars_end k n
at_declared _ n k = declared n k

-- at the `}` of a block
abbrev pub unblocked : List Frame → ℕ → State
unblocked (block m ∷ k) n = ended m k
unblocked k n = ended n k

-- where a statement, an item or a declaration may begin
abbrev pub at_fresh : Terminal → ℕ → List Frame → State
at_fresh terminal.Semicolon n k = ended n k
at_fresh terminal.OpenBrace n k = fresh (suc n) (block n ∷ k)
at_fresh terminal.CloseBrace n k = unblocked k n
at_fresh terminal.If n k = head of_test (suc n) (branch n ∷ k)
at_fresh terminal.While n k = head of_test (suc n) (body n ∷ k)
at_fresh terminal.Do n k = fresh (suc n) (turn n ∷ k)
at_fresh terminal.For n k = head of_clauses (suc n) (body n ∷ k)
at_fresh terminal.Return n k = operand n (act ∷ k)
at_fresh terminal.Break n k = operated n (act ∷ k)
at_fresh terminal.Continue n k = operated n (act ∷ k)
at_fresh (terminal.Type ty) n k = declared n k
at_fresh terminal.Void n k = declared n k
at_fresh l n k = at_operand l n (act ∷ k)

-- after the statement of an `if`, by whether an `else` follows
abbrev pub by_else : Bool → ℕ → List Frame → State → State
by_else true m k σ = fresh (suc m) (body m ∷ k)
by_else false m k σ = σ

-- where a statement has ended
abbrev pub at_ended : List Frame → Terminal → State
at_ended [] l = at_fresh l 0 []
at_ended (branch m ∷ k) l = by_else (is_else l) m k (at_ended k l)
at_ended (body m ∷ k) l = at_ended k l
at_ended (turn m ∷ k) l = head of_again (suc m) k
at_ended (block m ∷ k) l = at_fresh l (suc m) (block m ∷ k)
at_ended (_ ∷ k) l = ended 0 k

-- after a keyword
abbrev pub at_head : Head → ℕ → List Frame → State
at_head of_test n k = operand (suc n) (test n ∷ k)
at_head of_again n k = operand (suc n) (again n ∷ k)
at_head of_clauses n k = operand (suc n) (first n ∷ k)

-- where the scanner stands after a token
abbrev pub step : State → Terminal → State
step (fresh n k) l = at_fresh l n k
step (ended n k) l = at_ended k l
step (operand n k) l = at_operand l n k
step (operated n k) l = at_operated l n k
step (casting n k) l = operand n k
step (declared n k) l = at_declared l n k
step (head h n k) l = at_head h n k

-- ---- runs of the scanner

-- Scans f σ a τ b: over the tokens from a down to b the scanner goes from σ to τ, and f is the nesting at each.
pub data Scans (f : Tokens → ℕ) : State → Tokens → State → Tokens → Type 0 where
  stop : {σ : State} {a : Tokens} → Scans f σ a σ a
  token : {σ τ υ : State} {x : TokenKind × Span} {a b : Tokens} → step σ (terminal_of x.0) ≡ τ → depth τ ≡ f (x ∷ a)
      → Scans f τ a υ b → Scans f σ (x ∷ a) υ b

pub scans_shorter : {f : Tokens → ℕ} {σ τ : State} {a b : Tokens} → Scans f σ a τ b → length b ≤ length a
scans_shorter Scans.stop = omega arith
scans_shorter (Scans.token e h z) = let i = scans_shorter z in omega arith

pub scans_join : {f : Tokens → ℕ} {σ τ υ : State} {a b c : Tokens} → Scans f σ a τ b → Scans f τ b υ c
    → Scans f σ a υ c
scans_join Scans.stop z = z
scans_join (Scans.token e h y) z = Scans.token e h (scans_join y z)

pub scans_same : {f g : Tokens → ℕ} {σ τ : State} {a b : Tokens} → Scans f σ a τ b
    → ((c : Tokens) → length b < length c → length c ≤ length a → f c ≡ g c) → Scans g σ a τ b
scans_same Scans.stop q = Scans.stop
scans_same (Scans.token {x = x} {a = a} e h z) q =
    let i = scans_shorter z in
    Scans.token e (h ∙ q (x ∷ a) (omega arith) (omega arith)) (scans_same z (λ c j l. q c j (omega arith)))

-- from a state that goes on with the first token in the same way
pub scans_enter : {f : Tokens → ℕ} {σ τ : State} {a b : Tokens} (υ : State) → Scans f σ a τ b → length b < length a
    → step υ (lookahead a) ≡ step σ (lookahead a) → Scans f υ a τ b
scans_enter υ Scans.stop h q = absurd (omega arith)
scans_enter υ (Scans.token e h z) l q = Scans.token (q ∙ e) h z

-- a function of tokens that depends on how many there are
pub record Counts (f : Tokens → ℕ) : Type 0 where
  pub same : (c d : Tokens) → length c ≡ length d → f c ≡ f d

-- two runs over the same tokens have the same nesting at each
pub scans_agree : {f g : Tokens → ℕ} {σ τ υ : State} {a b d : Tokens} → Counts f → Counts g → Scans f σ a τ b
    → Scans g σ a υ d → (c : Tokens) → length b < length c → length d < length c → length c ≤ length a → f c ≡ g c
scans_agree u v Scans.stop z c h i j = absurd (omega arith)
scans_agree u v (Scans.token e k y) Scans.stop c h i j = absurd (omega arith)
scans_agree {f} {g} {d = d} u v (Scans.token {τ = τ} {x = x} {a = a} e k y) (Scans.token {τ = π} {υ = υ} e2 k2 z) c h i j =
    let q : π ≡ τ = sym e2 ∙ e in
    let w : Scans g τ a υ d = subst (λ s. Scans g s a υ d) q z in
    elim (larger (length c) (length a)) [
      | inl l ↦ scans_agree u v y w c h i l
      | inr l ↦
          let n : length c ≡ length (x ∷ a) = omega arith in
          u.same c (x ∷ a) n ∙ (sym k ∙ (ap depth (sym q) ∙ (k2 ∙ sym (v.same c (x ∷ a) n))))
    ]

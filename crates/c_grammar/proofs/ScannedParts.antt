-- Parts whose openers are what the scanner finds: what joins them.
use Rattle.std.proofs.Common.{◌≡◌, ℕ, suc, ◌≤◌, ◌<◌, ◌+◌, Bool, true, List, [], ◌∷◌, ◌++◌, ap, subst, ◌∙◌, arith, length, if◌then◌else◌}
use Rattle.c_lex.specs.declared.token.TokenKind.{TokenKind}
use Rattle.c_tree.specs.declared.place.Span.{Span}
use Rattle.c_grammar.specs.Grammar.{Tokens}
use Rattle.c_grammar.specs.Terminals.{terminal_of, lookahead}
use Rattle.c_grammar.specs.Nesting.{Opener, is_open, nesting}
use Rattle.c_grammar.proofs.Nested.{NestsIn, nesting_join, is_open_there, nests_none, nests_join, nests_open, nests_wide, nests_shut}
use Rattle.c_grammar.proofs.Scanner.{State, depth, step, Scans, scans_shorter, scans_join, scans_same, scans_enter}

-- ---- the nesting of an opener and others

there : (o : Opener) (k : List Opener) (c : Tokens) → is_open o c ≡ true → nesting (o ∷ k) c ≡ suc (nesting k c)
there o k c h = ap (λ (x : Bool). if x then suc (nesting k c) else nesting k c) h

-- ---- parts

-- Part r m e n σ a τ b k: from a down to b a part stands, with room r before it and m after it, and nesting n round it. The openers k
-- stand in it, closed where e tokens are left, and the scanner finds their nesting on the way from σ to τ.
pub record Part (r m e n : ℕ) (σ : State) (a : Tokens) (τ : State) (b : Tokens) (k : List Opener) : Type 0 where
  pub rooms : List ℕ
  pub fits : NestsIn r m (length a) (length b) e k rooms
  pub scans : Scans (λ c. n + nesting k c) σ a τ b

-- no token
pub nothing : (r e n : ℕ) (σ : State) (a : Tokens) → e ≤ length a → Part r r e n σ a σ a []
nothing r e n σ a h = record { rooms = []; fits = nests_none r (length a) (length a) e (omega arith) h; scans = Scans.stop }

-- a token before a part
pub before : {r m e n : ℕ} {σ τ υ : State} {x : TokenKind × Span} {a b : Tokens} {k : List Opener}
    → step σ (terminal_of x.0) ≡ τ → depth τ ≡ n → Part r m e n τ a υ b k → Part r m e n σ (x ∷ a) υ b k
before {x = x} {a = a} {k = k} q h p =
    let f = p.fits in
    let z = f.before (x ∷ a) (omega arith) in
    record { rooms = p.rooms; fits = nests_wide f (omega arith) (omega arith) f.shut; scans = Scans.token q (omega arith) p.scans }

-- an opener before a part
pub opened : {r m n : ℕ} {σ τ υ : State} {x : TokenKind × Span} {a b : Tokens} {k : List Opener}
    → step σ (terminal_of x.0) ≡ τ → depth τ ≡ suc n → (c : Tokens) → Part r m (length c) (suc n) τ a υ b k
    → Part (suc r) m (length c) n σ (x ∷ a) υ b ((x ∷ a, c) ∷ k)
opened {r} {m} {n} {x = x} {a = a} {b = b} {k = k} q h c p =
    let f = p.fits in
    let i = f.shut in
    let j = f.ordered in
    let z = f.before (x ∷ a) (omega arith) in
    let y = there (x ∷ a, c) k (x ∷ a) (is_open_there (x ∷ a) c (x ∷ a) (omega arith) (omega arith)) in
    record {
      rooms = r ∷ p.rooms;
      fits = nests_open (x ∷ a) c f (omega arith);
      scans = Scans.token q (omega (arith, y, z)) (scans_same p.scans (inside i));
    }
  where
    inside : length c ≤ length b → (d : Tokens) → length b < length d → length d ≤ length a
        → suc n + nesting k d ≡ n + nesting ((x ∷ a, c) ∷ k) d
    inside i d g l = let y = there (x ∷ a, c) k d (is_open_there (x ∷ a) c d (omega arith) (omega arith)) in omega (arith, y)

-- a token after a part, where the openers of the part are still open
pub after : {r m e n : ℕ} {σ τ υ : State} {x : TokenKind × Span} {a b : Tokens} {k : List Opener}
    → Part r m e n σ a τ (x ∷ b) k → step τ (terminal_of x.0) ≡ υ → depth υ + m ≡ n + r → e ≤ length b
    → Part r m e n σ a υ b k
after {x = x} {b = b} p q h i =
    let f = p.fits in
    let z = f.after (x ∷ b) (omega arith) (omega arith) in
    record { rooms = p.rooms; fits = nests_wide f (omega arith) (omega arith) i; scans = scans_join p.scans (Scans.token q (omega arith) Scans.stop) }

-- a token after a part, where the openers of the part are closed
pub close : {r m n d : ℕ} {σ τ υ : State} {x : TokenKind × Span} {a b : Tokens} {k : List Opener}
    → Part r m (length (x ∷ b)) n σ a τ (x ∷ b) k → step τ (terminal_of x.0) ≡ υ → depth υ ≡ n → d ≤ length b
    → Part r r d n σ a υ b k
close {x = x} {b = b} p q h i =
    let f = p.fits in
    let z = f.closed (x ∷ b) (omega arith) in
    record { rooms = p.rooms; fits = nests_shut f (omega arith) (omega arith) i; scans = scans_join p.scans (Scans.token q (omega arith) Scans.stop) }

-- a part at whose end its openers are closed
pub finish : {r m n d : ℕ} {σ τ : State} {a b : Tokens} {k : List Opener} → Part r m (length b) n σ a τ b k
    → d ≤ length b → Part r r d n σ a τ b k
finish p i = record { rooms = p.rooms; fits = nests_shut p.fits (omega arith) (omega arith) i; scans = p.scans }

-- a part after a part
pub join : {r m z e n i : ℕ} {σ τ υ : State} {a b c : Tokens} {k l : List Opener} → Part r m e n σ a τ b k
    → Part m z e i τ b υ c l → i + m ≡ n + r → Part r z e n σ a υ c (k ++ l)
join {r} {m} {z} {e} {n} {i} {a = a} {b = b} {c = c} {k = k} {l = l} p q h =
    record { rooms = p.rooms ++ q.rooms; fits = nests_join p.fits q.fits (omega arith); scans = scans_join (scans_same p.scans left) (scans_same q.scans right) }
  where
    left : (d : Tokens) → length b < length d → length d ≤ length a → n + nesting k d ≡ n + nesting (k ++ l) d
    left d g j = let f = q.fits in let y = f.before d g in let w = nesting_join k l d in omega arith

    right : (d : Tokens) → length c < length d → length d ≤ length b → i + nesting l d ≡ n + nesting (k ++ l) d
    right d g j = let f = p.fits in let s = q.fits.shut in let y = f.after d j (omega arith) in let w = nesting_join k l d in omega arith

-- the state at the end, said otherwise
pub at : {r m e n : ℕ} {σ τ υ : State} {a b : Tokens} {k : List Opener} → τ ≡ υ → Part r m e n σ a τ b k
    → Part r m e n σ a υ b k
at {r} {m} {e} {n} {σ} {a = a} {b = b} {k = k} q p = subst (λ s. Part r m e n σ a s b k) q p

-- from a state that goes on with the first token in the same way
pub enter : {r m e n : ℕ} {σ τ : State} {a b : Tokens} {k : List Opener} (υ : State) → Part r m e n σ a τ b k
    → length b < length a → step υ (lookahead a) ≡ step σ (lookahead a) → Part r m e n υ a τ b k
enter υ p h q = record { rooms = p.rooms; fits = p.fits; scans = scans_enter υ p.scans h q }

-- ---- what begins parts

-- the same of what begins a part, where the rest of the tokens stays open
pub record Start (r n : ℕ) (σ : State) (a b : Tokens) (k : List Opener) : Type 0 where
  pub left : ℕ
  pub final : State
  pub part : Part r left 0 n σ a final b k

pub whole : {r m n : ℕ} {σ τ : State} {a b : Tokens} {k : List Opener} → Part r m 0 n σ a τ b k → Start r n σ a b k
whole {m = m} {τ = τ} p = record { left = m; final = τ; part = p }

pub none : (r n : ℕ) (σ : State) (a : Tokens) → Start r n σ a a []
none r n σ a = whole (nothing r 0 n σ a (omega arith))

pub start_before : {r n : ℕ} {σ τ : State} {x : TokenKind × Span} {a b : Tokens} {k : List Opener}
    → step σ (terminal_of x.0) ≡ τ → depth τ ≡ n → Start r n τ a b k → Start r n σ (x ∷ a) b k
start_before q h s = whole (before q h s.part)

pub start_open : {r n : ℕ} {σ τ : State} {x : TokenKind × Span} {a b : Tokens} {k : List Opener}
    → step σ (terminal_of x.0) ≡ τ → depth τ ≡ suc n → Start r (suc n) τ a b k
    → Start (suc r) n σ (x ∷ a) b ((x ∷ a, []) ∷ k)
start_open q h s = whole (opened q h [] s.part)

pub start_join : {r m n i : ℕ} {σ τ : State} {a b c : Tokens} {k l : List Opener} → Part r m 0 n σ a τ b k
    → Start m i τ b c l → i + m ≡ n + r → Start r n σ a c (k ++ l)
start_join p s h = whole (join p s.part h)

record Entered (f : Tokens → ℕ) (υ : State) (a b : Tokens) : Type 0 where
  final : State
  scans : Scans f υ a final b

entered : {f : Tokens → ℕ} {σ τ : State} {a b : Tokens} (υ : State) → Scans f σ a τ b
    → (length b < length a → step υ (lookahead a) ≡ step σ (lookahead a)) → Entered f υ a b
entered υ Scans.stop q = record { final = υ; scans = Scans.stop }
entered υ (Scans.token {υ = τ} e h z) q = let i = scans_shorter z in record { final = τ; scans = Scans.token (q (omega arith) ∙ e) h z }

-- from a state that goes on with the first token in the same way, if there is one
pub start_enter : {r n : ℕ} {σ : State} {a b : Tokens} {k : List Opener} (υ : State) → Start r n σ a b k
    → (length b < length a → step υ (lookahead a) ≡ step σ (lookahead a)) → Start r n υ a b k
start_enter υ s q =
    let p = s.part in
    let e = entered υ p.scans q in
    record { left = s.left; final = e.final; part = record { rooms = p.rooms; fits = p.fits; scans = e.scans } }

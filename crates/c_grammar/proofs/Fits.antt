-- What an outcome of reading is to be, and how that is carried from the tokens and the parts to the whole.
use Rattle.std.proofs.Common.{◌≡◌, ℕ, ℤ, zero, suc, Bool, true, false, List, [], ◌∷◌, Option, Some, None, refl, subst, sym}
use Rattle.c_lex.specs.declared.token.TokenKind.{TokenKind}
use Rattle.c_lex.specs.declared.token.TokenKind.TheVariants as kind
use Rattle.c_lex.specs.declared.token.Keyword.{Keyword}
use Rattle.c_lex.specs.declared.token.Keyword.TheVariants as key
use Rattle.c_lex.specs.declared.token.Punct.TheVariants as mark
use Rattle.c_tree.specs.declared.place.Span.{Span}
use Rattle.c_tree.specs.declared.stmt.Ty.{Ty}
use Rattle.c_grammar.specs.declared.terminal.Terminal.{Terminal}
use Rattle.c_grammar.specs.declared.terminal.Terminal.TheVariants as terminal
use Rattle.c_grammar.specs.Operators.{type_word}
use Rattle.c_grammar.specs.Grammar.{Tokens}
use Rattle.c_grammar.specs.Terminals.{terminal_of, lookahead, is_void, is_else, is_while, is_open_paren, is_close_paren, is_open_bracket, is_close_bracket, is_open_brace, is_close_brace, is_semicolon, is_comma, is_question, is_colon, is_assign, type_at}
use Rattle.c_grammar.specs.Descent.{Reading, found, unexpected, too_deep, Reader, and_then, expected_by, expected, entered_by, entered, name, constant, text, type_by, type}
use Rattle.c_grammar.proofs.Terminals.{void_is, else_is, while_is, open_paren_is, close_paren_is, open_bracket_is, close_bracket_is, open_brace_is, close_brace_is, semicolon_is, comma_is, question_is, colon_is, assign_is, type_is}

-- What is found meets F; where a token isn't expected, V holds of the tokens from it on; and where it is nested too deep, V holds of
-- them too, and W, which speaks of one more room, holds of the tokens after it.
pub data Fits {A : Type 0} (V W : Tokens → Type 0) (F : A → ℕ → Tokens → Type 0) : Reading A → Type 0 where
  finds : {x : A} {m : ℕ} {b : Tokens} → F x m b → Fits V W F (found x m b)
  stops : {b : Tokens} → V b → Fits V W F (unexpected b)
  sinks : {x : TokenKind × Span} {b : Tokens} → V (x ∷ b) → W b → Fits V W F (too_deep (x ∷ b))

-- what is found with that room after it
pub record Kept {A : Type 0} (r : ℕ) (F : A → Tokens → Type 0) (x : A) (m : ℕ) (b : Tokens) : Type 0 where
  pub same : m ≡ r
  pub is : F x b

-- a part, and then what is read after it
pub part_fits : {A B : Type 0} {V W X Y : Tokens → Type 0} {F : A → ℕ → Tokens → Type 0} {G : B → ℕ → Tokens → Type 0} {o : Reading A} {f : A → Reader B}
    → Fits V W F o → ((b : Tokens) → V b → X b) → ((b : Tokens) → W b → Y b) → ((x : A) (m : ℕ) (b : Tokens) → F x m b → Fits X Y G (f x m b))
    → Fits X Y G (and_then o f)
part_fits (Fits.finds {x} {m} {b} h) v w g = g x m b h
part_fits (Fits.stops {b} h) v w g = Fits.stops (v b h)
part_fits (Fits.sinks {x} {b} h i) v w g = Fits.sinks (v (x ∷ b) h) (w b i)

-- a part that keeps the room, and then what is read after it
pub kept_fits : {A B : Type 0} {V W X Y : Tokens → Type 0} {r : ℕ} {F : A → Tokens → Type 0} {G : B → ℕ → Tokens → Type 0} {o : Reading A} (f : A → Reader B)
    → Fits V W (Kept r F) o → ((b : Tokens) → V b → X b) → ((b : Tokens) → W b → Y b) → ((x : A) (b : Tokens) → F x b → Fits X Y G (f x r b))
    → Fits X Y G (and_then o f)
kept_fits {X = X} {Y = Y} {G = G} f p v w g = part_fits p v w (λ x m b k. subst (λ z. Fits X Y G (f x z b)) (sym k.same) (g x b k.is))

-- a part as another
pub as_fits : {A : Type 0} {V W X Y : Tokens → Type 0} {F G : A → ℕ → Tokens → Type 0} {o : Reading A}
    → Fits V W F o → ((b : Tokens) → V b → X b) → ((b : Tokens) → W b → Y b) → ((x : A) (m : ℕ) (b : Tokens) → F x m b → G x m b) → Fits X Y G o
as_fits (Fits.finds {x} {m} {b} h) v w g = Fits.finds (g x m b h)
as_fits (Fits.stops {b} h) v w g = Fits.stops (v b h)
as_fits (Fits.sinks {x} {b} h i) v w g = Fits.sinks (v (x ∷ b) h) (w b i)

-- ---- tokens of one kind

-- The test admits tokens of the kind, and nothing else.
pub record Only (is : Terminal → Bool) (K : TokenKind) : Type 0 where
  pub only : (k : TokenKind) → is (terminal_of k) ≡ true → k ≡ K
  pub end : is terminal.End ≡ false

pub void_word : Only is_void (kind.Word key.Void)
void_word = record { only = void_is; end = refl }

pub else_word : Only is_else (kind.Word key.Else)
else_word = record { only = else_is; end = refl }

pub while_word : Only is_while (kind.Word key.While)
while_word = record { only = while_is; end = refl }

pub open_paren : Only is_open_paren (kind.Punct mark.OpenParen)
open_paren = record { only = open_paren_is; end = refl }

pub close_paren : Only is_close_paren (kind.Punct mark.CloseParen)
close_paren = record { only = close_paren_is; end = refl }

pub open_bracket : Only is_open_bracket (kind.Punct mark.OpenBracket)
open_bracket = record { only = open_bracket_is; end = refl }

pub close_bracket : Only is_close_bracket (kind.Punct mark.CloseBracket)
close_bracket = record { only = close_bracket_is; end = refl }

pub open_brace : Only is_open_brace (kind.Punct mark.OpenBrace)
open_brace = record { only = open_brace_is; end = refl }

pub close_brace : Only is_close_brace (kind.Punct mark.CloseBrace)
close_brace = record { only = close_brace_is; end = refl }

pub semicolon : Only is_semicolon (kind.Punct mark.Semicolon)
semicolon = record { only = semicolon_is; end = refl }

pub comma : Only is_comma (kind.Punct mark.Comma)
comma = record { only = comma_is; end = refl }

pub question : Only is_question (kind.Punct mark.Question)
question = record { only = question_is; end = refl }

pub colon : Only is_colon (kind.Punct mark.Colon)
colon = record { only = colon_is; end = refl }

pub assign : Only is_assign (kind.Punct mark.Assign)
assign = record { only = assign_is; end = refl }

-- where the test admits the next token, it is one of the kind
pub lookahead_is : {is : Terminal → Bool} {K : TokenKind} → Only is K → (M : Tokens → Type 0) (a : Tokens) → is (lookahead a) ≡ true
    → ((s : Span) (c : Tokens) → M ((K, s) ∷ c)) → M a
lookahead_is y M [] e g = let x = y.end in absurd (cc (x, e))
lookahead_is y M ((k, s) ∷ a) e g = subst (λ z. M ((z, s) ∷ a)) (sym (y.only k e)) (g s a)

-- where the next token tells something, it is one of the kinds that tell it
pub lookahead_tells : {X I : Type 0} (build : I → TokenKind) (at : Terminal → Option X) (Of : I → X → Type 0)
    → ((k : TokenKind) (x : X) → at (terminal_of k) ≡ Some x → (i : I) × (k ≡ build i) × Of i x) → at terminal.End ≡ None
    → (M : Tokens → Type 0) (x : X) (a : Tokens) → at (lookahead a) ≡ Some x → ((i : I) (s : Span) (c : Tokens) → Of i x → M ((build i, s) ∷ c)) → M a
lookahead_tells build at Of is end M x [] e g = absurd (cc (end, e))
lookahead_tells build at Of is end M x ((k, s) ∷ a) e g = let y = is k x e in subst (λ z. M ((z, s) ∷ a)) (sym y.1) (g y.0 s a y.2)

-- ---- readers of tokens
-- P holds of the tokens before the token, and V where the token isn't the one that is read.

expected_by_fits : {is : Terminal → Bool} {K : TokenKind} {B : Type 0} {V W : Tokens → Type 0} {G : B → ℕ → Tokens → Type 0} → Only is K
    → (P : Tokens → Type 0) (f : Span → Reader B) (r : ℕ) (k : TokenKind) (s : Span) (a : Tokens) (x : Bool) → is (terminal_of k) ≡ x
    → V ((k, s) ∷ a) → P ((k, s) ∷ a) → ((s : Span) (c : Tokens) → P ((K, s) ∷ c) → Fits V W G (f s r c)) → Fits V W G (and_then (expected_by x r ((k, s) ∷ a)) f)
expected_by_fits y P f r k s a true e v p g = g s a (subst (λ z. P ((z, s) ∷ a)) (y.only k e) p)
expected_by_fits y P f r k s a false e v p g = Fits.stops v

-- a token of the kind, and then what is read after it
pub token_fits : {is : Terminal → Bool} {K : TokenKind} {B : Type 0} {V W : Tokens → Type 0} {G : B → ℕ → Tokens → Type 0} → Only is K
    → (P : Tokens → Type 0) (f : Span → Reader B) (r : ℕ) (a : Tokens) → V a → P a → ((s : Span) (c : Tokens) → P ((K, s) ∷ c) → Fits V W G (f s r c))
    → Fits V W G (and_then (expected is r a) f)
token_fits {V = V} {W = W} {G = G} y P f r [] v p g = subst (λ (z : Bool). Fits V W G (and_then (expected_by z r []) f)) (sym y.end) (Fits.stops v)
token_fits {is = is} y P f r ((k, s) ∷ a) v p g = expected_by_fits y P f r k s a (is (terminal_of k)) refl v p g

-- a name, and then what is read after it
pub name_fits : {B : Type 0} {V W : Tokens → Type 0} {G : B → ℕ → Tokens → Type 0} (P : Tokens → Type 0) (f : List ℕ × Span → Reader B) (r : ℕ) (a : Tokens)
    → V a → P a → ((w : List ℕ) (s : Span) (c : Tokens) → P ((kind.Name w, s) ∷ c) → Fits V W G (f (w, s) r c)) → Fits V W G (and_then (name r a) f)
name_fits P f r [] v p g = Fits.stops v
name_fits P f r ((kind.Name w, s) ∷ a) v p g = g w s a p
name_fits P f r ((k, s) ∷ a) v p g = Fits.stops v

-- a constant, and then what is read after it
pub constant_fits : {B : Type 0} {V W : Tokens → Type 0} {G : B → ℕ → Tokens → Type 0} (P : Tokens → Type 0) (f : ℤ × List ℕ × Span → Reader B) (r : ℕ) (a : Tokens)
    → V a → P a → ((n : ℤ) (w : List ℕ) (s : Span) (c : Tokens) → P ((kind.Const n w, s) ∷ c) → Fits V W G (f (n, w, s) r c))
    → Fits V W G (and_then (constant r a) f)
constant_fits P f r [] v p g = Fits.stops v
constant_fits P f r ((kind.Const n w, s) ∷ a) v p g = g n w s a p
constant_fits P f r ((k, s) ∷ a) v p g = Fits.stops v

-- a string literal, and then what is read after it
pub text_fits : {B : Type 0} {V W : Tokens → Type 0} {G : B → ℕ → Tokens → Type 0} (P : Tokens → Type 0) (f : List ℕ × Span → Reader B) (r : ℕ) (a : Tokens)
    → V a → P a → ((w : List ℕ) (s : Span) (c : Tokens) → P ((kind.Str w, s) ∷ c) → Fits V W G (f (w, s) r c)) → Fits V W G (and_then (text r a) f)
text_fits P f r [] v p g = Fits.stops v
text_fits P f r ((kind.Str w, s) ∷ a) v p g = g w s a p
text_fits P f r ((k, s) ∷ a) v p g = Fits.stops v

type_by_fits : {B : Type 0} {V W : Tokens → Type 0} {G : B → ℕ → Tokens → Type 0} (P : Tokens → Type 0) (f : Ty → Reader B) (r : ℕ) (a : Tokens) (x : Option Ty)
    → type_at (lookahead a) ≡ x
    → V a → P a → ((k : Keyword) (ty : Ty) (s : Span) (c : Tokens) → type_word k ≡ Some ty → P ((kind.Word k, s) ∷ c) → Fits V W G (f ty r c))
    → Fits V W G (and_then (type_by x r a) f)
type_by_fits P f r a None e v p g = Fits.stops v
type_by_fits {V = V} {W = W} {G = G} P f r a (Some ty) e v p g =
    lookahead_tells kind.Word type_at (λ k t. type_word k ≡ Some t) type_is refl (λ z. P z → Fits V W G (and_then (type_by (Some ty) r z) f)) ty a e
    (λ k s c q i. g k ty s c q i) p

-- a type, and then what is read after it
pub type_fits : {B : Type 0} {V W : Tokens → Type 0} {G : B → ℕ → Tokens → Type 0} (P : Tokens → Type 0) (f : Ty → Reader B) (r : ℕ) (a : Tokens)
    → V a → P a → ((k : Keyword) (ty : Ty) (s : Span) (c : Tokens) → type_word k ≡ Some ty → P ((kind.Word k, s) ∷ c) → Fits V W G (f ty r c))
    → Fits V W G (and_then (type r a) f)
type_fits P f r a v p g = type_by_fits P f r a (type_at (lookahead a)) refl v p g

-- ---- the same, where what is to hold speaks of the token

-- a token of the kind, and then what is read after it
pub token_opens : {is : Terminal → Bool} {K : TokenKind} {B : Type 0} → Only is K
    → (V W : Tokens → Tokens → Type 0) (G : Tokens → B → ℕ → Tokens → Type 0) (f : Span → Reader B) (r : ℕ) (a : Tokens)
    → V a a → ((s : Span) (c : Tokens) → Fits (V ((K, s) ∷ c)) (W ((K, s) ∷ c)) (G ((K, s) ∷ c)) (f s r c)) → Fits (V a) (W a) (G a) (and_then (expected is r a) f)
token_opens y V W G f r a v g = token_fits y (λ z. a ≡ z) f r a v refl (λ s c e. subst (λ z. Fits (V z) (W z) (G z) (f s r c)) (sym e) (g s c))

-- a name, and then what is read after it
pub name_opens : {B : Type 0} (V W : Tokens → Tokens → Type 0) (G : Tokens → B → ℕ → Tokens → Type 0) (f : List ℕ × Span → Reader B) (r : ℕ) (a : Tokens)
    → V a a → ((w : List ℕ) (s : Span) (c : Tokens) → Fits (V ((kind.Name w, s) ∷ c)) (W ((kind.Name w, s) ∷ c)) (G ((kind.Name w, s) ∷ c)) (f (w, s) r c))
    → Fits (V a) (W a) (G a) (and_then (name r a) f)
name_opens V W G f r a v g = name_fits (λ z. a ≡ z) f r a v refl (λ w s c e. subst (λ z. Fits (V z) (W z) (G z) (f (w, s) r c)) (sym e) (g w s c))

-- a constant, and then what is read after it
pub constant_opens : {B : Type 0} (V W : Tokens → Tokens → Type 0) (G : Tokens → B → ℕ → Tokens → Type 0) (f : ℤ × List ℕ × Span → Reader B) (r : ℕ) (a : Tokens)
    → V a a → ((n : ℤ) (w : List ℕ) (s : Span) (c : Tokens) → Fits (V ((kind.Const n w, s) ∷ c)) (W ((kind.Const n w, s) ∷ c)) (G ((kind.Const n w, s) ∷ c))
    (f (n, w, s) r c))
    → Fits (V a) (W a) (G a) (and_then (constant r a) f)
constant_opens V W G f r a v g = constant_fits (λ z. a ≡ z) f r a v refl (λ n w s c e. subst (λ z. Fits (V z) (W z) (G z) (f (n, w, s) r c)) (sym e) (g n w s c))

-- a string literal, and then what is read after it
pub text_opens : {B : Type 0} (V W : Tokens → Tokens → Type 0) (G : Tokens → B → ℕ → Tokens → Type 0) (f : List ℕ × Span → Reader B) (r : ℕ) (a : Tokens)
    → V a a → ((w : List ℕ) (s : Span) (c : Tokens) → Fits (V ((kind.Str w, s) ∷ c)) (W ((kind.Str w, s) ∷ c)) (G ((kind.Str w, s) ∷ c)) (f (w, s) r c))
    → Fits (V a) (W a) (G a) (and_then (text r a) f)
text_opens V W G f r a v g = text_fits (λ z. a ≡ z) f r a v refl (λ w s c e. subst (λ z. Fits (V z) (W z) (G z) (f (w, s) r c)) (sym e) (g w s c))

-- a type, and then what is read after it
pub type_opens : {B : Type 0} (V W : Tokens → Tokens → Type 0) (G : Tokens → B → ℕ → Tokens → Type 0) (f : Ty → Reader B) (r : ℕ) (a : Tokens)
    → V a a → ((k : Keyword) (ty : Ty) (s : Span) (c : Tokens) → type_word k ≡ Some ty
    → Fits (V ((kind.Word k, s) ∷ c)) (W ((kind.Word k, s) ∷ c)) (G ((kind.Word k, s) ∷ c)) (f ty r c))
    → Fits (V a) (W a) (G a) (and_then (type r a) f)
type_opens V W G f r a v g = type_fits (λ z. a ≡ z) f r a v refl (λ k ty s c q e. subst (λ z. Fits (V z) (W z) (G z) (f ty r c)) (sym e) (g k ty s c q))

enters_by : {is : Terminal → Bool} {K : TokenKind} {B : Type 0} → Only is K
    → (V : ℕ → Tokens → Tokens → Type 0) (G : ℕ → Tokens → B → ℕ → Tokens → Type 0) (f : ℕ → Span → Reader B) (r : ℕ) (a : Tokens) (x : Bool)
    → is (lookahead a) ≡ x → ((m : ℕ) (c : Tokens) → V m c c) → ((s : Span) (m : ℕ) (c : Tokens) → V (suc m) ((K, s) ∷ c) c)
    → ((s : Span) (m : ℕ) (c : Tokens) → Fits (V (suc m) ((K, s) ∷ c)) (V (suc (suc m)) ((K, s) ∷ c)) (G (suc m) ((K, s) ∷ c)) (f (suc m) s m c))
    → Fits (V r a) (V (suc r) a) (G r a) (and_then (entered_by x r a) (f r))
enters_by y V G f r a false e v w g = Fits.stops (v r a)
enters_by y V G f zero a true e v w g =
    lookahead_is y (λ z. Fits (V zero z) (V (suc zero) z) (G zero z) (and_then (entered_by true zero z) (f zero))) a e (λ s c. Fits.sinks (v zero _) (w s zero c))
enters_by y V G f (suc r) a true e v w g =
    lookahead_is y (λ z. Fits (V (suc r) z) (V (suc (suc r)) z) (G (suc r) z) (and_then (entered_by true (suc r) z) (f (suc r)))) a e (λ s c. g s r c)

-- a token of the kind as an opener, and then what is read after it
pub enters : {is : Terminal → Bool} {K : TokenKind} {B : Type 0} → Only is K
    → (V : ℕ → Tokens → Tokens → Type 0) (G : ℕ → Tokens → B → ℕ → Tokens → Type 0) (f : ℕ → Span → Reader B)
    → ((m : ℕ) (c : Tokens) → V m c c) → ((s : Span) (m : ℕ) (c : Tokens) → V (suc m) ((K, s) ∷ c) c)
    → ((s : Span) (m : ℕ) (c : Tokens) → Fits (V (suc m) ((K, s) ∷ c)) (V (suc (suc m)) ((K, s) ∷ c)) (G (suc m) ((K, s) ∷ c)) (f (suc m) s m c))
    → (r : ℕ) (a : Tokens) → Fits (V r a) (V (suc r) a) (G r a) (and_then (entered is r a) (f r))
enters {is = is} y V G f v w g r a = enters_by y V G f r a (is (lookahead a)) refl v w g

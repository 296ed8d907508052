-- What the descent reads as a program is derived; where it stops, what comes before begins a program.
use Rattle.std.proofs.Common.{◌≡◌, ℕ, zero, suc, Bool, true, false, List, [], ◌∷◌, Option, Some, None, refl, subst, ap}
use Rattle.c_lex.specs.declared.token.TokenKind.{TokenKind}
use Rattle.c_lex.specs.declared.token.TokenKind.TheVariants as kind
use Rattle.c_lex.specs.declared.token.Keyword.{Keyword}
use Rattle.c_lex.specs.declared.token.Punct.TheVariants as mark
use Rattle.c_tree.specs.declared.place.Span.{Span}
use Rattle.c_tree.specs.declared.program.Param.{Param}
use Rattle.c_tree.specs.declared.stmt.Ty.{Ty}
use Rattle.c_tree.specs.Tree.{Body, Outer}
use Rattle.c_grammar.specs.declared.terminal.Terminal.{Terminal}
use Rattle.c_grammar.specs.declared.terminal.Terminal.TheVariants as terminal
use Rattle.c_grammar.specs.Operators.{type_word, result_word}
use Rattle.c_grammar.specs.Grammar.{Tokens, over, Begins}
use Rattle.c_grammar.specs.Terminals.{lookahead, is_void, is_open_bracket, is_semicolon, is_end, result_at, never}
use Rattle.c_grammar.specs.Programs.{function, Items, Parameter, Parameters, Signature, External, Derives, BeginsStatement, BeginsItems, BeginsParameter, BeginsParameters, BeginsSignature, BeginsExternal, Viable}
use Rattle.c_grammar.specs.Descent.{Reading, found, unexpected, too_deep, Reader, and_then}
use Rattle.c_grammar.specs.ProgramDescent.{does, parameter_by, param, params_by, signature, result_by, result, body, ended_by, func, is_func, external_by, externals_by, externals, program}
use Rattle.c_grammar.proofs.Terminals.{end_is, result_is}
use Rattle.c_grammar.proofs.ProgramBasics.{parameter_lift, signature_lift, signature_begun, items_begun, external_lift}
use Rattle.c_grammar.proofs.Fits.{Fits, Kept, part_fits, kept_fits, as_fits, lookahead_is, lookahead_tells, token_fits, name_opens, type_opens, enters, void_word, open_paren, close_paren, open_bracket, open_brace, close_brace, semicolon}
use Rattle.c_grammar.proofs.ListFits.{Listing, listed_fits}
use Rattle.c_grammar.proofs.DeclarationSound.{bracketed_ok, vars_ok}
use Rattle.c_grammar.proofs.StatementSound.{items_ok, does_ok}

-- ---- parameters

parameter_by_ok : (x : Bool) (k : Keyword) (o : Span) (ty : Ty) (w : List ℕ) (s : Span) (r : ℕ) (a : Tokens) → is_open_bracket (lookahead a) ≡ x → type_word k ≡ Some ty
    → Fits (BeginsParameter r ((kind.Word k, o) ∷ (kind.Name w, s) ∷ a)) (BeginsParameter (suc r) ((kind.Word k, o) ∷ (kind.Name w, s) ∷ a))
    (Kept r (λ x b. Parameter r ((kind.Word k, o) ∷ (kind.Name w, s) ∷ a) b x)) (parameter_by x ty (w, s) r a)
parameter_by_ok false k o ty w s r a e q = Fits.finds (record { same = refl; is = Parameter.scalar q })
parameter_by_ok true k o ty w s r a e q =
    lookahead_is open_bracket (λ z. Fits (BeginsParameter r ((kind.Word k, o) ∷ (kind.Name w, s) ∷ z))
    (BeginsParameter (suc r) ((kind.Word k, o) ∷ (kind.Name w, s) ∷ z))
    (Kept r (λ x b. Parameter r ((kind.Word k, o) ∷ (kind.Name w, s) ∷ z) b x)) (parameter_by true ty (w, s) r z)) a e
    (λ i c. kept_fits _ (bracketed_ok r i c) (λ b v. BeginsParameter.array q v) (λ b v. BeginsParameter.array q v)
    (λ n b d. Fits.finds (record { same = refl; is = Parameter.array q d })))

param_ok : (r : ℕ) (a : Tokens) → Fits (BeginsParameter r a) (BeginsParameter (suc r) a) (Kept r (λ x b. Parameter r a b x)) (param r a)
param_ok r a =
    type_opens (BeginsParameter r) (BeginsParameter (suc r)) (λ z. Kept r (λ x b. Parameter r z b x)) _ r a BeginsParameter.none
    (λ k ty o c q. name_opens (λ z. BeginsParameter r ((kind.Word k, o) ∷ z)) (λ z. BeginsParameter (suc r) ((kind.Word k, o) ∷ z))
    (λ z. Kept r (λ x b. Parameter r ((kind.Word k, o) ∷ z) b x)) _ r c
    (BeginsParameter.type q) (λ w s d. parameter_by_ok (is_open_bracket (lookahead d)) k o ty w s r d refl q))

parameter_lists : (r : ℕ)
    → Listing never (λ a x b. Parameter r a b x) (λ a xs b. Parameters r a b xs) (BeginsParameter r) (BeginsParameter (suc r)) (BeginsParameters r)
    (BeginsParameters (suc r))
parameter_lists r =
    record {
      none = λ a. BeginsParameters.last BeginsParameter.none;
      last = λ d. Parameters.last d;
      last_comma = λ e d. absurd (cc (e));
      more = λ d x. Parameters.more d x;
      begins_last = λ v. BeginsParameters.last v;
      deeper_last = λ v. BeginsParameters.last v;
      begins_more = λ d v. BeginsParameters.more d v;
      deeper_more = λ d v. BeginsParameters.more (parameter_lift d) v;
    }

params_by_ok : (l : Terminal) (r : ℕ) (a : Tokens) → lookahead a ≡ l → Fits (BeginsSignature r a) (BeginsSignature (suc r) a) (Kept r (λ xs b. Signature r a b xs))
    (params_by l r a)
params_by_ok terminal.CloseParen r a e = Fits.finds (record { same = refl; is = Signature.empty })
params_by_ok terminal.Void r a e =
    lookahead_is void_word (λ z. Fits (BeginsSignature r z) (BeginsSignature (suc r) z) (Kept r (λ xs b. Signature r z b xs)) (params_by terminal.Void r z)) a (ap is_void e)
    (λ s c. Fits.finds (record { same = refl; is = Signature.void }))
params_by_ok _ r a e =
    as_fits (listed_fits (parameter_lists r) (param r) r (param_ok r) _ a) (λ b v. BeginsSignature.parameters v) (λ b v. BeginsSignature.parameters v)
    (λ xs m b d. record { same = d.same; is = Signature.parameters d.is })

-- ---- functions

-- a signature with its parentheses
data Signed : ℕ → Tokens → List Param → Tokens → Type 0 where
  parens : {r : ℕ} {a b : Tokens} {p e : Span} {xs : List Param} → Signature r a ((kind.Punct mark.CloseParen, e) ∷ b) xs
      → Signed (suc r) ((kind.Punct mark.OpenParen, p) ∷ a) xs b

-- what begins a signature with its parentheses
data BeginsSigned : ℕ → Tokens → Tokens → Type 0 where
  none : {r : ℕ} {a : Tokens} → BeginsSigned r a a
  paren : {r : ℕ} {a b : Tokens} {p : Span} → BeginsSignature r a b → BeginsSigned (suc r) ((kind.Punct mark.OpenParen, p) ∷ a) b
  end : {r : ℕ} {a b : Tokens} {xs : List Param} → Signed r a xs b → BeginsSigned r a b

signature_ok : (r : ℕ) (a : Tokens) → Fits (BeginsSigned r a) (BeginsSigned (suc r) a) (Kept r (Signed r a)) (signature r a)
signature_ok =
    enters open_paren BeginsSigned (λ m z. Kept m (Signed m z)) _ (λ m c. BeginsSigned.none)
    (λ s m c. BeginsSigned.paren (BeginsSignature.parameters (BeginsParameters.last BeginsParameter.none)))
    (λ s m c. part_fits (params_by_ok (lookahead c) m c refl) (λ b v. BeginsSigned.paren v) (λ b v. BeginsSigned.paren v)
    (λ xs n b d. token_fits close_paren (λ z. Signature m c z xs) _ (suc m) b (BeginsSigned.paren (signature_begun d.is)) d.is
    (λ e z g. Fits.finds (record { same = refl; is = Signed.parens g }))))

-- a function's body with its braces, the second with that text
data Bodied : ℕ → Tokens → Body → Span → Tokens → Type 0 where
  braces : {r : ℕ} {a b : Tokens} {p z : Span} {x : Body} → Items r a ((kind.Punct mark.CloseBrace, z) ∷ b) x
      → Bodied (suc r) ((kind.Punct mark.OpenBrace, p) ∷ a) x z b

-- what begins a function's body with its braces
data BeginsBodied : ℕ → Tokens → Tokens → Type 0 where
  none : {r : ℕ} {a : Tokens} → BeginsBodied r a a
  brace : {r : ℕ} {a b : Tokens} {p : Span} → BeginsItems r a b → BeginsBodied (suc r) ((kind.Punct mark.OpenBrace, p) ∷ a) b
  end : {r : ℕ} {a b : Tokens} {x : Body} {z : Span} → Bodied r a x z b → BeginsBodied r a b

body_ok : (r : ℕ) (a : Tokens) → Fits (BeginsBodied r a) (BeginsBodied (suc r) a) (Kept r (λ x b. Bodied r a x.0 x.1 b)) (body r a)
body_ok =
    enters open_brace BeginsBodied (λ m z. Kept m (λ x b. Bodied m z x.0 x.1 b)) _ (λ m c. BeginsBodied.none)
    (λ s m c. BeginsBodied.brace (BeginsItems.statement (BeginsStatement.act Begins.none)))
    (λ s m c. part_fits (items_ok (does m) m (does_ok m) c) (λ b v. BeginsBodied.brace v) (λ b v. BeginsBodied.brace v)
    (λ x n b d. token_fits close_brace (λ z. Items m c z x) _ (suc m) b (BeginsBodied.brace (items_begun d.is)) d.is
    (λ e z g. Fits.finds (record { same = refl; is = Bodied.braces g }))))

signature_begins : {r : ℕ} {k : Keyword} {w : List ℕ} {o s : Span} {ret : Option Ty} {a b : Tokens} → result_word k ≡ Some ret → BeginsSigned r a b
    → BeginsExternal r ((kind.Word k, o) ∷ (kind.Name w, s) ∷ a) b
signature_begins q BeginsSigned.none = BeginsExternal.name q
signature_begins q (BeginsSigned.paren v) = BeginsExternal.signature q v
signature_begins q (BeginsSigned.end (Signed.parens d)) = BeginsExternal.close q d

prototype_is : {r : ℕ} {k : Keyword} {w : List ℕ} {o s z : Span} {ret : Option Ty} {xs : List Param} {a b : Tokens} → result_word k ≡ Some ret
    → Signed r a xs ((kind.Punct mark.Semicolon, z) ∷ b)
    → External r ((kind.Word k, o) ∷ (kind.Name w, s) ∷ a) b (function w (over s z) ret xs None)
prototype_is q (Signed.parens d) = External.prototype q d

definition_is : {r : ℕ} {k : Keyword} {w : List ℕ} {o s z : Span} {ret : Option Ty} {xs : List Param} {x : Body} {a b c : Tokens} → result_word k ≡ Some ret
    → Signed r a xs b → Bodied r b x z c
    → External r ((kind.Word k, o) ∷ (kind.Name w, s) ∷ a) c (function w (over s z) ret xs (Some x))
definition_is q (Signed.parens d) (Bodied.braces e) = External.definition q d e

body_begins : {r : ℕ} {k : Keyword} {w : List ℕ} {o s : Span} {ret : Option Ty} {xs : List Param} {a b c : Tokens} → result_word k ≡ Some ret → Signed r a xs b
    → BeginsBodied r b c
    → BeginsExternal r ((kind.Word k, o) ∷ (kind.Name w, s) ∷ a) c
body_begins q d BeginsBodied.none = signature_begins q (BeginsSigned.end d)
body_begins q (Signed.parens d) (BeginsBodied.brace v) = BeginsExternal.body q d v
body_begins q d (BeginsBodied.end e) = BeginsExternal.end (definition_is q d e)

signed_lift : {r : ℕ} {a b : Tokens} {xs : List Param} → Signed r a xs b → Signed (suc r) a xs b
signed_lift (Signed.parens d) = Signed.parens (signature_lift d)

ended_by_ok : (x : Bool) (k : Keyword) (o : Span) (ret : Option Ty) (w : List ℕ) (s : Span) (r : ℕ) (a : Tokens) (xs : List Param) (b : Tokens)
    → is_semicolon (lookahead b) ≡ x → result_word k ≡ Some ret → Signed r a xs b
    → Fits (BeginsExternal r ((kind.Word k, o) ∷ (kind.Name w, s) ∷ a)) (BeginsExternal (suc r) ((kind.Word k, o) ∷ (kind.Name w, s) ∷ a))
    (Kept r (λ x c. External r ((kind.Word k, o) ∷ (kind.Name w, s) ∷ a) c x)) (ended_by x ret (w, s) xs r b)
ended_by_ok true k o ret w s r a xs b e q d =
    lookahead_is semicolon (λ z. Signed r a xs z → Fits (BeginsExternal r ((kind.Word k, o) ∷ (kind.Name w, s) ∷ a))
    (BeginsExternal (suc r) ((kind.Word k, o) ∷ (kind.Name w, s) ∷ a))
    (Kept r (λ x c. External r ((kind.Word k, o) ∷ (kind.Name w, s) ∷ a) c x)) (ended_by true ret (w, s) xs r z)) b e
    (λ i c g. Fits.finds (record { same = refl; is = prototype_is q g })) d
ended_by_ok false k o ret w s r a xs b e q d =
    kept_fits _ (body_ok r b) (λ c v. body_begins q d v) (λ c v. body_begins q (signed_lift d) v)
    (λ x c g. Fits.finds (record { same = refl; is = definition_is q d g }))

result_by_ok : {B : Type 0} (V W : Tokens → Tokens → Type 0) (G : Tokens → B → ℕ → Tokens → Type 0) (f : Option Ty
    → Reader B) (r : ℕ) (a : Tokens) (x : Option (Option Ty)) → result_at (lookahead a) ≡ x
    → V a a → ((k : Keyword) (ret : Option Ty) (s : Span) (c : Tokens) → result_word k ≡ Some ret
    → Fits (V ((kind.Word k, s) ∷ c)) (W ((kind.Word k, s) ∷ c)) (G ((kind.Word k, s) ∷ c)) (f ret r c))
    → Fits (V a) (W a) (G a) (and_then (result_by x r a) f)
result_by_ok V W G f r a None e v g = Fits.stops v
result_by_ok V W G f r a (Some ret) e v g =
    lookahead_tells kind.Word result_at (λ k y. result_word k ≡ Some y) result_is refl (λ z. Fits (V z) (W z) (G z) (and_then (result_by (Some ret) r z) f)) ret a e
    (λ k s c q. g k ret s c q)

-- what a function gives, and then what is read after it
result_opens : {B : Type 0} (V W : Tokens → Tokens → Type 0) (G : Tokens → B → ℕ → Tokens → Type 0) (f : Option Ty → Reader B) (r : ℕ) (a : Tokens)
    → V a a → ((k : Keyword) (ret : Option Ty) (s : Span) (c : Tokens) → result_word k ≡ Some ret
    → Fits (V ((kind.Word k, s) ∷ c)) (W ((kind.Word k, s) ∷ c)) (G ((kind.Word k, s) ∷ c)) (f ret r c))
    → Fits (V a) (W a) (G a) (and_then (result r a) f)
result_opens V W G f r a v g = result_by_ok V W G f r a (result_at (lookahead a)) refl v g

func_ok : (r : ℕ) (a : Tokens) → Fits (BeginsExternal r a) (BeginsExternal (suc r) a) (Kept r (λ x b. External r a b x)) (func r a)
func_ok r a =
    result_opens (BeginsExternal r) (BeginsExternal (suc r)) (λ z. Kept r (λ x b. External r z b x)) _ r a BeginsExternal.none
    (λ k ret o c q. name_opens (λ z. BeginsExternal r ((kind.Word k, o) ∷ z)) (λ z. BeginsExternal (suc r) ((kind.Word k, o) ∷ z))
    (λ z. Kept r (λ x b. External r ((kind.Word k, o) ∷ z) b x)) _ r c
    (BeginsExternal.result q)
    (λ w s d. kept_fits _ (signature_ok r d) (λ b v. signature_begins q v) (λ b v. signature_begins q v)
    (λ xs b g. ended_by_ok (is_semicolon (lookahead b)) k o ret w s r d xs b refl q g)))

-- ---- programs

external_by_ok : (x : Bool) (r : ℕ) (a : Tokens) → Fits (BeginsExternal r a) (BeginsExternal (suc r) a) (Kept r (λ x b. External r a b x)) (external_by x r a)
external_by_ok true r a = func_ok r a
external_by_ok false r a = part_fits (vars_ok r a) (λ b v. BeginsExternal.vars v) (λ b v. BeginsExternal.vars v)
    (λ x m b d. Fits.finds (record { same = d.same; is = External.vars d.is }))

-- a whole program
record Whole (r : ℕ) (a : Tokens) (p : List Outer) (b : Tokens) : Type 0 where
  derived : Derives r a p
  ended : b ≡ []

externals_by_ok : (x : Bool) (on : ℕ → Tokens → Reading (List Outer)) (r : ℕ) (a : Tokens) (y : Outer) (b : Tokens) → is_end (lookahead b) ≡ x → External r a b y
    → Fits (Viable r b) (Viable (suc r) b) (Kept r (Whole r b)) (on r b) → Fits (Viable r a) (Viable (suc r) a) (Kept r (Whole r a)) (externals_by x on y r b)
externals_by_ok true on r a y b e d h = Fits.finds (record {
  same = refl;
  is = record
      { derived = Derives.last (subst (λ z. External r a z y) (end_is b e) d); ended = end_is b e };
})
externals_by_ok false on r a y b e d h =
    part_fits h (λ c v. Viable.more d v) (λ c v. Viable.more (external_lift d) v)
    (λ p m c k. Fits.finds (record { same = k.same; is = record { derived = Derives.more d k.is.derived; ended = k.is.ended } }))

externals_ok : (n : ℕ) (r : ℕ) (a : Tokens) → Fits (Viable r a) (Viable (suc r) a) (Kept r (Whole r a)) (externals n r a)
unfolding externals
externals_ok zero r a = Fits.stops (Viable.external BeginsExternal.none)
externals_ok (suc n) r a =
    kept_fits _ (external_by_ok (is_func a) r a) (λ b v. Viable.external v) (λ b v. Viable.external v)
    (λ y b d. externals_by_ok (is_end (lookahead b)) (externals n) r a y b refl d (externals_ok n r b))

-- What is found is a program. Where a token isn't expected, what comes before begins one; where it is nested too deep, with one more
-- room that token does as well.
abbrev pub ProgramSound : ℕ → Tokens → Reading (List Outer) → Type 0
ProgramSound r a (found p m b) = Derives r a p × (b ≡ [])
ProgramSound r a (unexpected b) = Viable r a b
ProgramSound r a (too_deep b) = Viable r a b × ((x : TokenKind × Span) × (c : Tokens) × (b ≡ x ∷ c) × Viable (suc r) a c)

program_by : {r : ℕ} {a : Tokens} {o : Reading (List Outer)} → Fits (Viable r a) (Viable (suc r) a) (Kept r (Whole r a)) o → ProgramSound r a o
program_by (Fits.finds d) = (d.is.derived, d.is.ended)
program_by (Fits.stops v) = v
program_by (Fits.sinks {x} {b} v w) = (v, (x, b, refl, w))

-- with that room, what is read is a program
pub program_ok : (r : ℕ) (a : Tokens) → ProgramSound r a (program r a)
program_ok r a = program_by (externals_ok _ r a)

-- What begins a program is passed by the descent.
use Rattle.std.proofs.Common.{◌≡◌, ℕ, zero, suc, ◌≤◌, ◌<◌, Bool, true, false, List, [], ◌∷◌, Option, Some, None, refl, subst, sym, ap, arith, length}
use Rattle.c_lex.specs.declared.token.TokenKind.{TokenKind}
use Rattle.c_lex.specs.declared.token.TokenKind.TheVariants as kind
use Rattle.c_lex.specs.declared.token.Keyword.{Keyword}
use Rattle.c_lex.specs.declared.token.Keyword.TheVariants as key
use Rattle.c_lex.specs.declared.token.Punct.TheVariants as mark
use Rattle.c_tree.specs.declared.place.Span.{Span}
use Rattle.c_tree.specs.declared.stmt.Ty.{Ty}
use Rattle.c_tree.specs.Tree.{Outer, Variable}
use Rattle.c_grammar.specs.declared.terminal.Terminal.{Terminal}
use Rattle.c_grammar.specs.declared.terminal.Terminal.TheVariants as terminal
use Rattle.c_grammar.specs.Operators.{type_word, result_word}
use Rattle.c_grammar.specs.Grammar.{Tokens}
use Rattle.c_grammar.specs.Programs.{External, BeginsLength, BeginsDeclarators, BeginsVars, BeginsItems, BeginsParameter, BeginsParameters, BeginsSignature, BeginsExternal, Viable}
use Rattle.c_grammar.specs.Terminals.{lookahead, rest, keyword_terminal, is_comma, is_open_paren, is_close_paren, is_open_bracket, is_close_brace, is_semicolon, is_end, never, type_at}
use Rattle.c_grammar.specs.Descent.{Reader, found, and_then, expected, name, type_by, listed_by, listed}
use Rattle.c_grammar.specs.ProgramDescent as descent
use Rattle.c_grammar.specs.ProgramDescent.{externals, program}
use Rattle.c_grammar.proofs.Terminals.{terminal_type, terminal_result, open_paren_is, end_is}
use Rattle.c_grammar.proofs.ProgramBasics.{parameter_shorter, external_shorter}
use Rattle.c_grammar.proofs.ProgramFirstSets.{result_func}
use Rattle.c_grammar.proofs.ProgramComplete.{complete_parameter, complete_signature, complete_external}
use Rattle.c_grammar.proofs.ExpressionConsumption.{Far, Within, within_then, stays, refuses, expected_within, name_within, listed_by_within, listed_within, ahead_within}
use Rattle.c_grammar.proofs.ProgramConsumption.{declarators_within, declared_by_within, declarator_within, parameter_by_within, param_within, params_by_within, signature_within, ended_by_within, external_within, externals_by_within, externals_within}
use Rattle.c_grammar.proofs.ExpressionViable.{within_more, refused, list_passes, list_goes_on}
use Rattle.c_grammar.proofs.DeclarationViable.{arrives, length_stops, pass_length, declared, pass_vars}
use Rattle.c_grammar.proofs.StatementViable.{pass_items}

-- ---- parameters

array_passes : (ty : Ty) (w : List ℕ) (s : Span) (r : ℕ) (a b : Tokens) (x : Bool) → is_open_bracket (lookahead a) ≡ x → BeginsLength r a b
    → Within b (descent.parameter_by x ty (w, s) r a)
array_passes ty w s r a b true e d = within_then (pass_length d) (λ n m c. stays)
array_passes ty w s r a b false e d = within_more (length_stops d e) stays

pass_parameter : {r : ℕ} {a b : Tokens} → BeginsParameter r a b → Within b (descent.param r a)
pass_parameter (BeginsParameter.none {r} {a}) = param_within r a
pass_parameter (BeginsParameter.type {r} {a} {k} {o} {ty} h) =
    rw (terminal_type k ty h) (within_then (name_within r a) (λ w n c. parameter_by_within (is_open_bracket (lookahead c)) ty w n c))
pass_parameter (BeginsParameter.array {r} {a} {b} {k} {w} {o} {s} {ty} h d) =
    rw (terminal_type k ty h) (array_passes ty w s r a b (is_open_bracket (lookahead a)) refl d)

pass_parameters : {r : ℕ} {a b : Tokens} (q : ℕ) → BeginsParameters r a b → length a < q → Within b (listed never (descent.param r) q r a)
pass_parameters zero d h = absurd (omega arith)
pass_parameters (suc q) (BeginsParameters.last {r} {a} {b} d) h = list_passes never (descent.param r) (param_within r) q r a b (pass_parameter d)
pass_parameters (suc q) (BeginsParameters.more {r} {a} {b} {c} {x} {s} d f) h =
    let w = parameter_shorter d in
    list_goes_on never (descent.param r) q r a b c x s (complete_parameter d (omega arith)) refl (pass_parameters q f (omega arith))

-- parameters at a token that is no type are nothing yet
no_parameter : (r q : ℕ) (a b : Tokens) → type_at (lookahead a) ≡ None → Within b (listed never (descent.param r) (suc q) r a) → length a ≤ length b
unfolding listed
no_parameter r q a b e f =
    refused (listed never (descent.param r) (suc q) r a)
    (ap (λ x. and_then (and_then (type_by x r a) (λ ty m b. and_then (name m b) (λ w n c. descent.parameter_by (is_open_bracket (lookahead c)) ty w n c)))
    (λ x m b. listed_by never (descent.param r) (is_comma (lookahead b)) (listed never (descent.param r) q) x m b)) e) f

params_pass : (r : ℕ) (l : Terminal) (a b : Tokens) → lookahead a ≡ l → Within b (listed never (descent.param r) (suc (length a)) r a)
    → Within b (descent.params_by l r a)
params_pass r terminal.CloseParen a b e f = within_more (no_parameter r (length a) a b (ap type_at e) f) (params_by_within terminal.CloseParen r a)
params_pass r terminal.Void a b e f = within_more (no_parameter r (length a) a b (ap type_at e) f) (params_by_within terminal.Void r a)
params_pass r _ a b e f = f

pass_signature : {r : ℕ} {a b : Tokens} → BeginsSignature r a b → Within b (descent.params r a)
pass_signature BeginsSignature.void = stays
pass_signature (BeginsSignature.parameters {r} {a} {b} d) = params_pass r (lookahead a) a b refl (pass_parameters (suc (length a)) d (omega arith))

-- ---- functions

-- after the name of a function
abbrev after_name : Option Ty → List ℕ × Span → Reader Outer
after_name ret w r a = and_then (descent.signature r a) (λ xs q d. descent.ended_by (is_semicolon (lookahead d)) ret w xs q d)

-- after the word that says what a function gives
abbrev after_result : Option Ty → Reader Outer
after_result ret r a = and_then (name r a) (λ w n c. after_name ret w n c)

-- after the type of declared variables
abbrev after_type : Ty → Reader (Ty × List Variable)
after_type ty r a = and_then (descent.declarators r a) (λ vs n c. and_then (expected is_semicolon n c) (λ e q d. found (ty, vs) q d))

after_name_within : (ret : Option Ty) (w : List ℕ × Span) (r : ℕ) (a : Tokens) → Within a (after_name ret w r a)
after_name_within ret w r a = within_then (signature_within r a) (λ xs q d. ended_by_within (is_semicolon (lookahead d)) ret w xs q d)

after_result_within : (ret : Option Ty) (r : ℕ) (a : Tokens) → Within a (after_result ret r a)
after_result_within ret r a = within_then (name_within r a) (λ w n c. after_name_within ret w n c)

func_passes : (r : ℕ) (a b : Tokens) (k : Keyword) (ret : Option Ty) (w : List ℕ) (o s p : Span) → result_word k ≡ Some ret
    → Within b (after_name ret (w, s) r ((kind.Punct mark.OpenParen, p) ∷ a))
    → Within b (descent.external r ((kind.Word k, o) ∷ (kind.Name w, s) ∷ (kind.Punct mark.OpenParen, p) ∷ a))
func_passes r a b k ret w o s p h f =
    let y : Within b (descent.func r ((kind.Word k, o) ∷ (kind.Name w, s) ∷ (kind.Punct mark.OpenParen, p) ∷ a)) = rw (terminal_result k ret h) f in
    subst (λ x. Within b (descent.external_by x r ((kind.Word k, o) ∷ (kind.Name w, s) ∷ (kind.Punct mark.OpenParen, p) ∷ a)))
    (sym (result_func (keyword_terminal k) ret ((kind.Word k, o) ∷ (kind.Name w, s) ∷ (kind.Punct mark.OpenParen, p) ∷ a) (terminal_result k ret h) refl)) y

-- the body of a function
pass_body : {r : ℕ} {a b : Tokens} (q : Span) → BeginsItems r a b → Within b (descent.body (suc r) ((kind.Punct mark.OpenBrace, q) ∷ a))
pass_body {r} {a} {b} q d =
    within_then (pass_items (suc (length a)) d (omega arith)) (λ x n c. within_then (expected_within is_close_brace (suc r) c) (λ e q x. stays))

-- ---- declarations that may be functions

-- a declaration of variables
outer_passes : (r : ℕ) (a b : Tokens) → Within b (descent.vars r a) → Within b (descent.external_by false r a)
outer_passes r a b f = within_then f (λ v m c. stays)

-- declared variables at a `(` after a name are passed as a function where they would be as variables
paren_passes : (r : ℕ) (ty : Ty) (k : TokenKind) (s p : Span) (a b : Tokens) → Within b (after_type ty r ((k, s) ∷ (kind.Punct mark.OpenParen, p) ∷ a))
    → Within b (after_result (Some ty) r ((k, s) ∷ (kind.Punct mark.OpenParen, p) ∷ a))
unfolding listed
paren_passes r ty (kind.Name w) s p a b f = within_more f.far (after_name_within (Some ty) (w, s) r ((kind.Punct mark.OpenParen, p) ∷ a))
paren_passes r ty (kind.Const n w) s p a b f = within_more f.far refuses
paren_passes r ty (kind.Str w) s p a b f = within_more f.far refuses
paren_passes r ty (kind.Word w) s p a b f = within_more f.far refuses
paren_passes r ty (kind.Punct w) s p a b f = within_more f.far refuses

vars_func : (r : ℕ) (ty : Ty) (k : Keyword) (s : Span) (a b : Tokens) → result_word k ≡ Some (Some ty) → is_open_paren (lookahead (rest a)) ≡ true
    → BeginsDeclarators r a b → Within b (descent.func r ((kind.Word k, s) ∷ a))
vars_func r ty k s [] b g e d = absurd (cc (e))
vars_func r ty k s (x ∷ []) b g e d = absurd (cc (e))
vars_func r ty k s ((k2, s2) ∷ (k3, p) ∷ a) b g e d =
    let h = open_paren_is k3 e in
    let f : Within b (after_type ty r ((k2, s2) ∷ (k3, p) ∷ a)) = declared ty d in
    let y = paren_passes r ty k2 s2 p a b (subst (λ k. Within b (after_type ty r ((k2, s2) ∷ (k, p) ∷ a))) h f) in
    rw (terminal_result k (Some ty) g) (subst (λ k. Within b (after_result (Some ty) r ((k2, s2) ∷ (k, p) ∷ a))) (sym h) y)

-- what begins declared variables after a type
typed_passes : (r : ℕ) (ty : Ty) (k : Keyword) (s : Span) (a b : Tokens) (x : Bool) → is_open_paren (lookahead (rest a)) ≡ x → type_word k ≡ Some ty
    → result_word k ≡ Some (Some ty) → BeginsDeclarators r a b
    → Within b (descent.external_by x r ((kind.Word k, s) ∷ a))
typed_passes r ty k s a b true e h g d = vars_func r ty k s a b g e d
typed_passes r ty k s a b false e h g d = outer_passes r ((kind.Word k, s) ∷ a) b (pass_vars (BeginsVars.vars h d))

type_result : (k : Keyword) (ty : Ty) → type_word k ≡ Some ty → result_word k ≡ Some (Some ty)
type_result key.Int ty e = cc (e)
type_result key.Char ty e = cc (e)
type_result _ ty e = absurd (cc (e))

outer_vars : {r : ℕ} {a b : Tokens} → BeginsVars r a b → Within b (descent.external r a)
outer_vars (BeginsVars.none {r} {a}) = external_within r a
outer_vars (BeginsVars.vars {r} {a} {b} {k} {s} {ty} h d) =
    subst (λ l. Within b (descent.external_by (descent.is_func_by l ((kind.Word k, s) ∷ a)) r ((kind.Word k, s) ∷ a))) (sym (terminal_type k ty h))
    (typed_passes r ty k s a b (is_open_paren (lookahead (rest a))) refl h (type_result k ty h) d)
outer_vars (BeginsVars.end d) = arrives (complete_external (External.vars d))

-- after the word that says what a function gives
after_word : (r : ℕ) (k : Keyword) (ty : Ty) (x : Bool) (o : Span) (a : Tokens) → keyword_terminal k ≡ terminal.Type ty
    → Within a (descent.external_by x r ((kind.Word k, o) ∷ a))
after_word r k ty true o a h = rw h (after_result_within (Some ty) r a)
after_word r k ty false o a h =
    outer_passes r ((kind.Word k, o) ∷ a) a
    (rw h (within_then (declarators_within r a) (λ vs n c. within_then (expected_within is_semicolon n c) (λ e q d. stays))))

result_passes : (r : ℕ) (k : Keyword) (ret : Option Ty) (o : Span) (a : Tokens) → result_word k ≡ Some ret
    → Within a (descent.external r ((kind.Word k, o) ∷ a))
result_passes r key.Int ret o a h = after_word r key.Int _ (is_open_paren (lookahead (rest a))) o a refl
result_passes r key.Char ret o a h = after_word r key.Char _ (is_open_paren (lookahead (rest a))) o a refl
result_passes r key.Void ret o a h = after_result_within None r a
result_passes r _ ret o a h = absurd (cc (h))

-- after the name of what is declared
variable_within : (r : ℕ) (w : List ℕ) (s : Span) (a : Tokens) → Within a (descent.declarators r ((kind.Name w, s) ∷ a))
unfolding listed
variable_within r w s a =
    within_then (declared_by_within (is_open_bracket (lookahead a)) (w, s) r a)
    (λ x m b.
    listed_by_within never (descent.declarator r) (declarator_within r) (is_comma (lookahead b)) (listed never (descent.declarator r) (suc (length a)))
    (listed_within never (descent.declarator r) (declarator_within r) (suc (length a))) x m b)

after_variable : (r : ℕ) (k : Keyword) (ty : Ty) (x : Bool) (w : List ℕ) (o s : Span) (a : Tokens) → keyword_terminal k ≡ terminal.Type ty
    → Within a (descent.external_by x r ((kind.Word k, o) ∷ (kind.Name w, s) ∷ a))
after_variable r k ty true w o s a h = rw h (after_name_within (Some ty) (w, s) r a)
after_variable r k ty false w o s a h =
    outer_passes r ((kind.Word k, o) ∷ (kind.Name w, s) ∷ a) a
    (rw h (within_then (variable_within r w s a) (λ vs n c. within_then (expected_within is_semicolon n c) (λ e q d. stays))))

name_passes : (r : ℕ) (k : Keyword) (ret : Option Ty) (w : List ℕ) (o s : Span) (a : Tokens) → result_word k ≡ Some ret
    → Within a (descent.external r ((kind.Word k, o) ∷ (kind.Name w, s) ∷ a))
name_passes r key.Int ret w o s a h = after_variable r key.Int _ (is_open_paren (lookahead a)) w o s a refl
name_passes r key.Char ret w o s a h = after_variable r key.Char _ (is_open_paren (lookahead a)) w o s a refl
name_passes r key.Void ret w o s a h = after_name_within None (w, s) r a
name_passes r _ ret w o s a h = absurd (cc (h))

pass_external : {r : ℕ} {a b : Tokens} → BeginsExternal r a b → Within b (descent.external r a)
pass_external (BeginsExternal.none {r} {a}) = external_within r a
pass_external (BeginsExternal.vars d) = outer_vars d
pass_external (BeginsExternal.result {r} {a} {k} {o} {ret} h) = result_passes r k ret o a h
pass_external (BeginsExternal.name {r} {a} {k} {w} {o} {s} {ret} h) = name_passes r k ret w o s a h
pass_external (BeginsExternal.signature {r} {a} {b} {k} {w} {o} {s} {p} {ret} h d) =
    func_passes (suc r) a b k ret w o s p h
    (within_then (within_then (pass_signature d) (λ xs n c. within_then (expected_within is_close_paren (suc r) c) (λ e q x. stays)))
    (λ xs q x. ended_by_within (is_semicolon (lookahead x)) ret (w, s) xs q x))
pass_external (BeginsExternal.close {r} {a} {b} {k} {w} {o} {s} {p} {e} {ret} {xs} h d) =
    func_passes (suc r) a b k ret w o s p h (rw (complete_signature p d) (ended_by_within (is_semicolon (lookahead b)) ret (w, s) xs (suc r) b))
pass_external (BeginsExternal.body {r} {a} {b} {c} {k} {w} {o} {s} {p} {e} {q} {ret} h d f) =
    func_passes (suc r) a c k ret w o s p h (rw (complete_signature p d) (within_then (pass_body q f) (λ x m b. stays)))
pass_external (BeginsExternal.end d) = arrives (complete_external d)

-- ---- programs

after_external : (q r : ℕ) (b c : Tokens) (x : Outer) (y : Bool) → is_end (lookahead b) ≡ y → Within c (externals q r b)
    → Within c (descent.externals_by y (externals q) x r b)
after_external q r b c x true e f = subst (λ b. Within c (found (x ∷ []) r b)) (sym (end_is b e)) (record { far = omega arith })
after_external q r b c x false e f = ahead_within (x ∷ []) (externals q r b) f

pass_program : {r : ℕ} {a b : Tokens} (q : ℕ) → Viable r a b → length a < q → Within b (externals q r a)
unfolding externals
pass_program zero d h = absurd (omega arith)
pass_program (suc q) (Viable.external d) h =
    within_then (pass_external d) (λ x m c. externals_by_within (is_end (lookahead c)) (externals q) (externals_within q) x m c)
pass_program (suc q) (Viable.more {r} {a} {b} {c} {x} d f) h =
    let w = external_shorter d in
    rw (complete_external d) (after_external q r b c x (is_end (lookahead b)) refl (pass_program q f (omega arith)))

pub program_passes : {r : ℕ} {a b : Tokens} → Viable r a b → Within b (program r a)
program_passes {r} {a} d = pass_program (suc (length a)) d (omega arith)

pub program_passed : {r : ℕ} {a b : Tokens} → Viable r a b → Far b (program r a)
program_passed d = (program_passes d).far

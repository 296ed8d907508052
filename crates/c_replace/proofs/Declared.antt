-- Declarations and parameters have tokens of their own, and all tokens of their kinds are the same.
use Rattle.std.proofs.Common.{◌≡◌, ℕ, ℤ, List, [], ◌∷◌, ◌++◌, map, Option, refl, sym, ap, ◌∙◌, subst, append_assoc}
use Rattle.c_lex.specs.declared.token.TokenKind.{TokenKind}
use Rattle.c_lex.specs.declared.token.TokenKind.TheVariants as kind
use Rattle.c_lex.specs.declared.token.Keyword.TheVariants as key
use Rattle.c_lex.specs.declared.token.Punct.TheVariants as mark
use Rattle.c_tree.specs.declared.place.Span.{Span}
use Rattle.c_tree.specs.declared.stmt.Ty.{Ty}
use Rattle.c_tree.specs.declared.program.Param.{Param}
use Rattle.c_tree.specs.Tree.{Tree, Variable, bare, bare_variable, bare_param}
use Rattle.c_grammar.specs.Grammar.{Tokens}
use Rattle.c_grammar.specs.Programs.{Length, Elements, Declarator, Declarators, Vars, Parameter, Parameters, Signature}
use Rattle.c_lex.specs.Lexemes.{kinds}
use Rattle.c_replace.specs.Forms.{Formed, OwnPart}
use Rattle.c_replace.proofs.Splits.{kinds_append}
use Rattle.c_replace.proofs.Owned.{owned}
use Rattle.c_replace.proofs.Forms as form
use Rattle.c_replace.proofs.Forms.{LengthIn, bare_length, VarsIn, bare_vars}

-- own tokens of a part, of which the kinds are known
abbrev pub own_part : {X : Type 0} {R : ℕ → Tokens → Tokens → X → Type 0} {bare : X → X} {a b : Tokens}
    {x : X} (own : Tokens) (ks : List TokenKind) → a ≡ own ++ b → kinds own ≡ ks
    → Formed R bare ks (bare x)
    → OwnPart R bare a b x
own_part {R = R} {bare = bare} {x = x} own ks e f g = record {
  own = own;
  splits = e;
  formed = subst (λ q. Formed R bare q (bare x)) (sym f) g;
}

-- a prefix of tokens, and what follows it
pub prefix_join : {a b : Tokens} (c x y : Tokens) → a ≡ x ++ b → b ≡ y ++ c → a ≡ (x ++ y) ++ c
prefix_join c x y e f = e ∙ ap (λ q. x ++ q) f ∙ sym (append_assoc x y c)

-- a prefix of tokens, and one more token
pub prefix_end : {a : Tokens} (b x : Tokens) (k : TokenKind) (s : Span) → a ≡ x ++ (k, s) ∷ b
    → a ≡ (x ++ (k, s) ∷ []) ++ b
prefix_end b x k s e = e ∙ sym (append_assoc x ((k, s) ∷ []) b)

-- the brackets after an array's name have tokens of their own
pub owned_length : {r : ℕ} {a b : Tokens} {n : Option ℤ} {e : Span} → Length r a b n e
    → OwnPart LengthIn bare_length a b (n, e)
owned_length (Length.bare {o = o} {e = e}) =
    own_part ((kind.Punct mark.OpenBracket, o) ∷ (kind.Punct mark.CloseBracket, e) ∷ []) _ refl refl
    form.length_bare
owned_length (Length.constant {n = n} {w = w} {s = s} {o = o} {e = e}) =
    own_part ((kind.Punct mark.OpenBracket, o) ∷ (kind.Const n w, s) ∷
    (kind.Punct mark.CloseBracket, e) ∷ []) _ refl refl (form.length_constant n w)

-- the same of the elements of an initialiser list
pub owned_elements : {r : ℕ} {a b : Tokens} {ts : List Tree} → Elements r a b ts
    → OwnPart Elements (map bare) a b ts
owned_elements (Elements.last d) = let o = owned d in
    own_part o.own (kinds o.own) o.splits refl (form.elements_last o.shaped)
owned_elements (Elements.last_comma {s = s} d) =
    let o = owned d in
    own_part (o.own ++ (kind.Punct mark.Comma, s) ∷ []) _
    (prefix_end _ o.own (kind.Punct mark.Comma) s o.splits)
    (kinds_append o.own ((kind.Punct mark.Comma, s) ∷ [])) (form.elements_last_comma o.shaped)
owned_elements (Elements.more {s = s} d e) =
    let o = owned d in
    let p = owned_elements e in
    own_part (o.own ++ (kind.Punct mark.Comma, s) ∷ p.own) _
    (prefix_join _ o.own ((kind.Punct mark.Comma, s) ∷ p.own) o.splits
    (ap (λ q. (kind.Punct mark.Comma, s) ∷ q) p.splits))
    (kinds_append o.own ((kind.Punct mark.Comma, s) ∷ p.own)) (form.elements_more o.shaped p.formed)

-- the same of a declared variable
pub owned_declarator : {r : ℕ} {a b : Tokens} {v : Variable} → Declarator r a b v
    → OwnPart Declarator bare_variable a b v
owned_declarator (Declarator.scalar {w = w} {s = s}) =
    own_part ((kind.Name w, s) ∷ []) _ refl refl (form.scalar w)
owned_declarator (Declarator.scalar_start {w = w} {s = s} {o = p} d) =
    let o = owned d in
    own_part ((kind.Name w, s) ∷ (kind.Punct mark.Assign, p) ∷ o.own) _
    (ap (λ q. (kind.Name w, s) ∷ (kind.Punct mark.Assign, p) ∷ q) o.splits) refl
    (form.scalar_start w o.shaped)
owned_declarator (Declarator.array {w = w} {s = s} d) =
    let o = owned_length d in
    own_part ((kind.Name w, s) ∷ o.own) _ (ap (λ q. (kind.Name w, s) ∷ q) o.splits) refl
    (form.array w o.formed)
owned_declarator (Declarator.array_list {w = w} {s = s} {o = i} {p = j} {q = k} d e) =
    let o = owned_length d in
    let p = owned_elements e in
    let tail = p.own ++ (kind.Punct mark.CloseBrace, k) ∷ [] in
    own_part ((kind.Name w, s) ∷ (o.own ++ (kind.Punct mark.Assign, i) ∷
    (kind.Punct mark.OpenBrace, j) ∷ tail)) _
    (ap (λ q. (kind.Name w, s) ∷ q) (prefix_join _ o.own
    ((kind.Punct mark.Assign, i) ∷ (kind.Punct mark.OpenBrace, j) ∷ tail) o.splits
    (ap (λ q. (kind.Punct mark.Assign, i) ∷ (kind.Punct mark.OpenBrace, j) ∷ q)
    (prefix_end _ p.own (kind.Punct mark.CloseBrace) k p.splits))))
    (ap (λ q. kind.Name w ∷ q) (kinds_append o.own
    ((kind.Punct mark.Assign, i) ∷ (kind.Punct mark.OpenBrace, j) ∷ tail)
    ∙ ap (λ q. kinds o.own ++ kind.Punct mark.Assign ∷ kind.Punct mark.OpenBrace ∷ q)
    (kinds_append p.own ((kind.Punct mark.CloseBrace, k) ∷ []))))
    (form.array_list w o.formed p.formed)

-- the same of declared variables
pub owned_declarators : {r : ℕ} {a b : Tokens} {vs : List Variable} → Declarators r a b vs
    → OwnPart Declarators (map bare_variable) a b vs
owned_declarators (Declarators.last d) = let o = owned_declarator d in
    own_part o.own (kinds o.own) o.splits refl (form.declarators_last o.formed)
owned_declarators (Declarators.more {s = s} d e) =
    let o = owned_declarator d in
    let p = owned_declarators e in
    own_part (o.own ++ (kind.Punct mark.Comma, s) ∷ p.own) _
    (prefix_join _ o.own ((kind.Punct mark.Comma, s) ∷ p.own) o.splits
    (ap (λ q. (kind.Punct mark.Comma, s) ∷ q) p.splits))
    (kinds_append o.own ((kind.Punct mark.Comma, s) ∷ p.own)) (form.declarators_more o.formed p.formed)

-- the same of a declaration
pub owned_vars : {r : ℕ} {a b : Tokens} {ty : Ty} {vs : List Variable} → Vars r a b ty vs
    → OwnPart VarsIn bare_vars a b (ty, vs)
owned_vars (Vars.vars {k = k} {s = s} {e = e} {ty = ty} f d) =
    let o = owned_declarators d in
    own_part ((kind.Word k, s) ∷ (o.own ++ (kind.Punct mark.Semicolon, e) ∷ [])) _
    (ap (λ q. (kind.Word k, s) ∷ q) (prefix_end _ o.own (kind.Punct mark.Semicolon) e o.splits))
    (ap (λ q. kind.Word k ∷ q) (kinds_append o.own ((kind.Punct mark.Semicolon, e) ∷ [])))
    (form.vars k ty f o.formed)

-- the same of a parameter
pub owned_parameter : {r : ℕ} {a b : Tokens} {x : Param} → Parameter r a b x
    → OwnPart Parameter bare_param a b x
owned_parameter (Parameter.scalar {k = k} {w = w} {o = o} {s = s} {ty = ty} f) =
    own_part ((kind.Word k, o) ∷ (kind.Name w, s) ∷ []) _ refl refl (form.parameter_scalar k w ty f)
owned_parameter (Parameter.array {k = k} {w = w} {o = o} {s = s} {ty = ty} f d) =
    let p = owned_length d in
    own_part ((kind.Word k, o) ∷ (kind.Name w, s) ∷ p.own) _
    (ap (λ q. (kind.Word k, o) ∷ (kind.Name w, s) ∷ q) p.splits) refl
    (form.parameter_array k w ty f p.formed)

-- the same of parameters
pub owned_parameters : {r : ℕ} {a b : Tokens} {xs : List Param} → Parameters r a b xs
    → OwnPart Parameters (map bare_param) a b xs
owned_parameters (Parameters.last d) = let o = owned_parameter d in
    own_part o.own (kinds o.own) o.splits refl (form.parameters_last o.formed)
owned_parameters (Parameters.more {s = s} d e) =
    let o = owned_parameter d in
    let p = owned_parameters e in
    own_part (o.own ++ (kind.Punct mark.Comma, s) ∷ p.own) _
    (prefix_join _ o.own ((kind.Punct mark.Comma, s) ∷ p.own) o.splits
    (ap (λ q. (kind.Punct mark.Comma, s) ∷ q) p.splits))
    (kinds_append o.own ((kind.Punct mark.Comma, s) ∷ p.own)) (form.parameters_more o.formed p.formed)

-- the same of what stands between a function's parentheses
pub owned_signature : {r : ℕ} {a b : Tokens} {xs : List Param} → Signature r a b xs
    → OwnPart Signature (map bare_param) a b xs
owned_signature Signature.empty = own_part [] _ refl refl form.signature_empty
owned_signature (Signature.void {s = s}) =
    own_part ((kind.Word key.Void, s) ∷ []) _ refl refl form.signature_void
owned_signature (Signature.parameters d) = let o = owned_parameters d in
    own_part o.own (kinds o.own) o.splits refl (form.signature_parameters o.formed)

-- Each production of declarations, by the kinds of its tokens alone.
use Rattle.std.proofs.Common.{◌≡◌, ℕ, ℤ, suc, ◌+◌, true, false, List, [], ◌∷◌, ◌++◌, map, Option, Some, None, refl, sym, ap, ◌∙◌, subst, arith, append_assoc}
use Rattle.c_lex.specs.declared.token.TokenKind.{TokenKind}
use Rattle.c_lex.specs.declared.token.TokenKind.TheVariants as kind
use Rattle.c_lex.specs.declared.token.Keyword.{Keyword}
use Rattle.c_lex.specs.declared.token.Keyword.TheVariants as key
use Rattle.c_lex.specs.declared.token.Punct.TheVariants as mark
use Rattle.c_tree.specs.declared.place.Span.{Span}
use Rattle.c_tree.specs.declared.stmt.Ty.{Ty}
use Rattle.c_tree.specs.declared.stmt.Shape.TheVariants.{Scalar, Array}
use Rattle.c_tree.specs.declared.program.Param.{Param}
use Rattle.c_tree.specs.Tree as tree
use Rattle.c_tree.specs.Tree.{Tree, Initial, Variable, First, Code, Body, Outer, bare, bare_option, bare_initial, bare_variable, bare_first, bare_param, no_span}
use Rattle.c_grammar.specs.declared.nonterminal.Nonterminal.{Nonterminal}
use Rattle.c_grammar.specs.declared.nonterminal.Nonterminal.TheVariants.{Expression, Assignment}
use Rattle.c_grammar.specs.Operators.{type_word}
use Rattle.c_grammar.specs.Grammar.{Tokens, over, Reads}
use Rattle.c_grammar.specs.Programs.{variable, parameter, Length, Elements, Declarator, Declarators, Vars, Clause, Optional, Parameter, Parameters, Signature}
use Rattle.c_replace.specs.Shapes.{Shaped}
use Rattle.c_replace.specs.Forms.{Formed}
use Rattle.c_replace.proofs.Splits.{at_suc, headed}
use Rattle.c_replace.proofs.NextToken.{got_end, got_then}

-- the room after an expression is of no use to what holds it
abbrev pub ReadsIn : Nonterminal → ℕ → Tokens → Tokens → Tree → Type 0
ReadsIn N r a b t = (m : ℕ) × Reads N r a m b t

-- tokens of the kinds of an expression begin with the expression
pub expr : {N : Nonterminal} {ks : List TokenKind} {t : Tree} → Shaped N ks t → Formed (ReadsIn N) bare ks t
expr x = record {
  each = λ ls a e.
      let g = x.each ls a e in
      record {
        rest = g.rest;
        rest_kinds = g.rest_kinds;
        need = g.need;
        found = g.found;
        is_bare = g.is_bare;
        reads = λ r l. let d = g.reads r l in (d.0, d.2);
      };
}

-- ---- expressions that may be absent

-- an expression that is absent
pub absent : Formed Optional bare_option [] None
absent = record {
  each = λ ls a e. record {
    rest = a;
    rest_kinds = e;
    need = 0;
    found = None;
    is_bare = refl;
    reads = λ r l. Optional.absent;
  };
}

-- an expression that is present
pub present : {ks : List TokenKind} {t : Tree} → Shaped Expression ks t
    → Formed Optional bare_option ks (Some t)
present x = record {
  each = λ ls a e.
      let g = (expr x).each ls a e in
      record {
        rest = g.rest;
        rest_kinds = g.rest_kinds;
        need = g.need;
        found = Some g.found;
        is_bare = ap Some g.is_bare;
        reads = λ r l. Optional.present (g.reads r l).1;
      };
}

-- ---- declarations

-- the brackets after an array's name, with the text of the `]`
abbrev pub LengthIn : ℕ → Tokens → Tokens → (Option ℤ × Span) → Type 0
LengthIn r a b x = Length r a b x.0 x.1

-- the same without the text
abbrev pub bare_length : (Option ℤ × Span) → (Option ℤ × Span)
bare_length x = (x.0, no_span)

-- `[]`
pub length_bare : Formed LengthIn bare_length
    (kind.Punct mark.OpenBracket ∷ kind.Punct mark.CloseBracket ∷ []) (None, no_span)
length_bare = record {
  each = λ ls a e.
      let g = headed a (kind.Punct mark.OpenBracket) (kind.Punct mark.CloseBracket ∷ ls) e in
      let h = headed g.tail (kind.Punct mark.CloseBracket) ls g.tail_kinds in
      record {
        rest = h.tail;
        rest_kinds = h.tail_kinds;
        need = 1;
        found = (None, h.span);
        is_bare = refl;
        reads = λ r l. subst (λ q. Length r q h.tail None h.span)
            (sym (g.consists ∙ ap (λ q. (kind.Punct mark.OpenBracket, g.span) ∷ q) h.consists))
            (at_suc (λ i. Length i ((kind.Punct mark.OpenBracket, g.span) ∷
            (kind.Punct mark.CloseBracket, h.span) ∷ h.tail) h.tail None h.span) 0 r l
            (λ q low. Length.bare));
      };
}

-- `[n]`
pub length_constant : (n : ℤ) (w : List ℕ)
    → Formed LengthIn bare_length (kind.Punct mark.OpenBracket ∷ kind.Const n w
    ∷ kind.Punct mark.CloseBracket ∷ []) (Some n, no_span)
length_constant n w = record {
  each = λ ls a e.
      let g = headed a (kind.Punct mark.OpenBracket)
      (kind.Const n w ∷ kind.Punct mark.CloseBracket ∷ ls) e in
      let i = headed g.tail (kind.Const n w) (kind.Punct mark.CloseBracket ∷ ls) g.tail_kinds in
      let h = headed i.tail (kind.Punct mark.CloseBracket) ls i.tail_kinds in
      record {
        rest = h.tail;
        rest_kinds = h.tail_kinds;
        need = 1;
        found = (Some n, h.span);
        is_bare = refl;
        reads = λ r l. subst (λ q. Length r q h.tail (Some n) h.span)
            (sym (g.consists ∙ ap (λ q. (kind.Punct mark.OpenBracket, g.span) ∷ q)
            (i.consists ∙ ap (λ q. (kind.Const n w, i.span) ∷ q) h.consists)))
            (at_suc (λ j. Length j ((kind.Punct mark.OpenBracket, g.span) ∷ (kind.Const n w, i.span) ∷
            (kind.Punct mark.CloseBracket, h.span) ∷ h.tail) h.tail (Some n) h.span) 0 r l
            (λ q low. Length.constant));
      };
}

-- the last element of an initialiser list
pub elements_last : {ks : List TokenKind} {t : Tree} → Shaped Assignment ks t
    → Formed Elements (map bare) ks (t ∷ [])
elements_last x = record {
  each = λ ls a e.
      let g = (expr x).each ls a e in
      record {
        rest = g.rest;
        rest_kinds = g.rest_kinds;
        need = g.need;
        found = g.found ∷ [];
        is_bare = ap (λ q. q ∷ []) g.is_bare;
        reads = λ r l. Elements.last (g.reads r l).1;
      };
}

-- the last element with a comma after it
pub elements_last_comma : {ks : List TokenKind} {t : Tree} → Shaped Assignment ks t
    → Formed Elements (map bare) (ks ++ kind.Punct mark.Comma ∷ []) (t ∷ [])
elements_last_comma {ks} x = record {
  each = λ ls a e.
      let g = got_end (kind.Punct mark.Comma) ls a x
      (e ∙ append_assoc ks (kind.Punct mark.Comma ∷ []) ls) in
      record {
        rest = g.rest;
        rest_kinds = g.rest_kinds;
        need = g.need;
        found = g.found ∷ [];
        is_bare = ap (λ q. q ∷ []) g.is_bare;
        reads = λ r l. Elements.last_comma (g.reads r l).2;
      };
}

-- an element, a comma and others
pub elements_more : {ks js : List TokenKind} {t : Tree} {ts : List Tree} → Shaped Assignment ks t
    → Formed Elements (map bare) js ts → Formed Elements (map bare) (ks ++ kind.Punct mark.Comma ∷ js)
    (t ∷ ts)
elements_more {ks} {js} {t} x y = record {
  each = λ ls a e.
      let g = got_end (kind.Punct mark.Comma) (js ++ ls) a x
      (e ∙ append_assoc ks (kind.Punct mark.Comma ∷ js) ls) in
      let h = y.each ls g.rest g.rest_kinds in
      record {
        rest = h.rest;
        rest_kinds = h.rest_kinds;
        need = g.need + h.need;
        found = g.found ∷ h.found;
        is_bare = ap (λ q. q ∷ map bare h.found) g.is_bare ∙ ap (λ q. t ∷ q) h.is_bare;
        reads = λ r l. Elements.more (g.reads r (omega arith)).2 (h.reads r (omega arith));
      };
}

-- a scalar
pub scalar : (w : List ℕ) → Formed Declarator bare_variable (kind.Name w ∷ [])
    (variable w no_span Scalar tree.bare_start)
scalar w = record {
  each = λ ls a e.
      let h = headed a (kind.Name w) ls e in
      record {
        rest = h.tail;
        rest_kinds = h.tail_kinds;
        need = 0;
        found = variable w h.span Scalar tree.bare_start;
        is_bare = refl;
        reads = λ r l. subst (λ q. Declarator r q h.tail (variable w h.span Scalar tree.bare_start))
            (sym h.consists) Declarator.scalar;
      };
}

-- a scalar with an initialiser
pub scalar_start : {ks : List TokenKind} {t : Tree} (w : List ℕ) → Shaped Assignment ks t
    → Formed Declarator bare_variable (kind.Name w ∷ kind.Punct mark.Assign ∷ ks)
    (variable w no_span Scalar (tree.one_start t))
scalar_start {ks} w x = record {
  each = λ ls a e.
      let h = headed a (kind.Name w) (kind.Punct mark.Assign ∷ (ks ++ ls)) e in
      let i = headed h.tail (kind.Punct mark.Assign) (ks ++ ls) h.tail_kinds in
      let g = (expr x).each ls i.tail i.tail_kinds in
      record {
        rest = g.rest;
        rest_kinds = g.rest_kinds;
        need = g.need;
        found = variable w h.span Scalar (tree.one_start g.found);
        is_bare = ap (λ q. variable w no_span Scalar (tree.one_start q)) g.is_bare;
        reads = λ r l. subst (λ q. Declarator r q g.rest
            (variable w h.span Scalar (tree.one_start g.found)))
            (sym (h.consists ∙ ap (λ q. (kind.Name w, h.span) ∷ q) i.consists))
            (Declarator.scalar_start (g.reads r l).1);
      };
}

-- an array
pub array : {ks : List TokenKind} {n : Option ℤ} (w : List ℕ)
    → Formed LengthIn bare_length ks (n, no_span)
    → Formed Declarator bare_variable (kind.Name w ∷ ks) (variable w no_span (Array n) tree.bare_start)
array {ks} {n} w x = record {
  each = λ ls a e.
      let h = headed a (kind.Name w) (ks ++ ls) e in
      let g = x.each ls h.tail h.tail_kinds in
      let v = variable w (over h.span g.found.1) (Array g.found.0) tree.bare_start in
      record {
        rest = g.rest;
        rest_kinds = g.rest_kinds;
        need = g.need;
        found = v;
        is_bare = ap (λ q. variable w no_span (Array q.0) tree.bare_start) g.is_bare;
        reads = λ r l. subst (λ q. Declarator r q g.rest v) (sym h.consists)
            (Declarator.array (g.reads r l));
      };
}

-- an array with an initialiser list
pub array_list : {ks js : List TokenKind} {n : Option ℤ} {ts : List Tree} (w : List ℕ)
    → Formed LengthIn bare_length ks (n, no_span) → Formed Elements (map bare) js ts
    → Formed Declarator bare_variable (kind.Name w ∷
    (ks ++ kind.Punct mark.Assign ∷ kind.Punct mark.OpenBrace ∷
    (js ++ kind.Punct mark.CloseBrace ∷ []))) (variable w no_span (Array n) (tree.list_start ts))
array_list {ks} {js} {n} {ts} w x y = record {
  each = λ ls a e.
      let h = headed a (kind.Name w)
      ((ks ++ kind.Punct mark.Assign ∷ kind.Punct mark.OpenBrace ∷
      (js ++ kind.Punct mark.CloseBrace ∷ [])) ++ ls) e in
      let g = got_then (kind.Punct mark.Assign)
      (kind.Punct mark.OpenBrace ∷ ((js ++ kind.Punct mark.CloseBrace ∷ []) ++ ls)) h.tail x
      (h.tail_kinds ∙ append_assoc ks (kind.Punct mark.Assign ∷ kind.Punct mark.OpenBrace ∷
      (js ++ kind.Punct mark.CloseBrace ∷ [])) ls) in
      let i = headed g.rest (kind.Punct mark.OpenBrace)
      ((js ++ kind.Punct mark.CloseBrace ∷ []) ++ ls) g.rest_kinds in
      let f = got_then (kind.Punct mark.CloseBrace) ls i.tail y
      (i.tail_kinds ∙ append_assoc js (kind.Punct mark.CloseBrace ∷ []) ls) in
      let v = variable w (over h.span g.found.1) (Array g.found.0) (tree.list_start f.found) in
      record {
        rest = f.rest;
        rest_kinds = f.rest_kinds;
        need = suc (g.need + f.need);
        found = v;
        is_bare = ap (λ q. variable w no_span (Array q.0) (tree.list_start (map bare f.found)))
            g.is_bare ∙ ap (λ q. variable w no_span (Array n) (tree.list_start q)) f.is_bare;
        reads = λ r l. subst (λ q. Declarator r q f.rest v) (sym h.consists)
            (at_suc (λ j. Declarator j ((kind.Name w, h.span) ∷ h.tail) f.rest v) (g.need + f.need) r l
            (λ j low. Declarator.array_list
            (subst (λ q. Length (suc j) h.tail ((kind.Punct mark.Assign, g.span) ∷ q) g.found.0
            g.found.1) i.consists (g.reads (suc j) (omega arith))) (f.reads j (omega arith))));
      };
}

-- the last declared variable
pub declarators_last : {ks : List TokenKind} {v : Variable} → Formed Declarator bare_variable ks v
    → Formed Declarators (map bare_variable) ks (v ∷ [])
declarators_last x = record {
  each = λ ls a e.
      let g = x.each ls a e in
      record {
        rest = g.rest;
        rest_kinds = g.rest_kinds;
        need = g.need;
        found = g.found ∷ [];
        is_bare = ap (λ q. q ∷ []) g.is_bare;
        reads = λ r l. Declarators.last (g.reads r l);
      };
}

-- a declared variable, a comma and others
pub declarators_more : {ks js : List TokenKind} {v : Variable} {vs : List Variable}
    → Formed Declarator bare_variable ks v → Formed Declarators (map bare_variable) js vs
    → Formed Declarators (map bare_variable) (ks ++ kind.Punct mark.Comma ∷ js) (v ∷ vs)
declarators_more {ks} {js} {v} x y = record {
  each = λ ls a e.
      let g = got_then (kind.Punct mark.Comma) (js ++ ls) a x
      (e ∙ append_assoc ks (kind.Punct mark.Comma ∷ js) ls) in
      let h = y.each ls g.rest g.rest_kinds in
      record {
        rest = h.rest;
        rest_kinds = h.rest_kinds;
        need = g.need + h.need;
        found = g.found ∷ h.found;
        is_bare = ap (λ q. q ∷ map bare_variable h.found) g.is_bare ∙ ap (λ q. v ∷ q) h.is_bare;
        reads = λ r l. Declarators.more (g.reads r (omega arith)) (h.reads r (omega arith));
      };
}

-- a declaration, with the type
abbrev pub VarsIn : ℕ → Tokens → Tokens → (Ty × List Variable) → Type 0
VarsIn r a b x = Vars r a b x.0 x.1

-- the same without spans, slots and the spelling of constants
abbrev pub bare_vars : (Ty × List Variable) → (Ty × List Variable)
bare_vars x = (x.0, map bare_variable x.1)

-- a type, declared variables and `;`
pub vars : {ks : List TokenKind} {vs : List Variable} (k : Keyword) (ty : Ty) → type_word k ≡ Some ty
    → Formed Declarators (map bare_variable) ks vs
    → Formed VarsIn bare_vars (kind.Word k ∷ (ks ++ kind.Punct mark.Semicolon ∷ [])) (ty, vs)
vars {ks} {vs} k ty f x = record {
  each = λ ls a e.
      let h = headed a (kind.Word k) ((ks ++ kind.Punct mark.Semicolon ∷ []) ++ ls) e in
      let g = got_then (kind.Punct mark.Semicolon) ls h.tail x
      (h.tail_kinds ∙ append_assoc ks (kind.Punct mark.Semicolon ∷ []) ls) in
      record {
        rest = g.rest;
        rest_kinds = g.rest_kinds;
        need = g.need;
        found = (ty, g.found);
        is_bare = ap (λ q. (ty, q)) g.is_bare;
        reads = λ r l. subst (λ q. Vars r q g.rest ty g.found) (sym h.consists)
            (Vars.vars f (g.reads r l));
      };
}

-- ---- the first clause of a `for`

-- no clause
pub clause_empty : Formed Clause bare_first (kind.Punct mark.Semicolon ∷ []) tree.no_first
clause_empty = record {
  each = λ ls a e.
      let h = headed a (kind.Punct mark.Semicolon) ls e in
      record {
        rest = h.tail;
        rest_kinds = h.tail_kinds;
        need = 0;
        found = tree.no_first;
        is_bare = refl;
        reads = λ r l. subst (λ q. Clause r q h.tail tree.no_first) (sym h.consists) Clause.empty;
      };
}

-- an expression as the first clause
pub clause_act : {ks : List TokenKind} {t : Tree} → Shaped Expression ks t
    → Formed Clause bare_first (ks ++ kind.Punct mark.Semicolon ∷ []) (tree.first_act t)
clause_act {ks} x = record {
  each = λ ls a e.
      let g = got_end (kind.Punct mark.Semicolon) ls a x
      (e ∙ append_assoc ks (kind.Punct mark.Semicolon ∷ []) ls) in
      record {
        rest = g.rest;
        rest_kinds = g.rest_kinds;
        need = g.need;
        found = tree.first_act g.found;
        is_bare = ap tree.first_act g.is_bare;
        reads = λ r l. Clause.act (g.reads r l).2;
      };
}

-- a declaration as the first clause
pub clause_vars : {ks : List TokenKind} {ty : Ty} {vs : List Variable}
    → Formed VarsIn bare_vars ks (ty, vs) → Formed Clause bare_first ks (tree.first_vars ty vs)
clause_vars x = record {
  each = λ ls a e.
      let g = x.each ls a e in
      record {
        rest = g.rest;
        rest_kinds = g.rest_kinds;
        need = g.need;
        found = tree.first_vars g.found.0 g.found.1;
        is_bare = ap (λ q. tree.first_vars q.0 q.1) g.is_bare;
        reads = λ r l. Clause.vars (g.reads r l);
      };
}

-- ---- parameters

-- a scalar parameter
pub parameter_scalar : (k : Keyword) (w : List ℕ) (ty : Ty) → type_word k ≡ Some ty
    → Formed Parameter bare_param (kind.Word k ∷ kind.Name w ∷ []) (parameter w no_span ty false)
parameter_scalar k w ty f = record {
  each = λ ls a e.
      let g = headed a (kind.Word k) (kind.Name w ∷ ls) e in
      let h = headed g.tail (kind.Name w) ls g.tail_kinds in
      record {
        rest = h.tail;
        rest_kinds = h.tail_kinds;
        need = 0;
        found = parameter w h.span ty false;
        is_bare = refl;
        reads = λ r l. subst (λ q. Parameter r q h.tail (parameter w h.span ty false))
            (sym (g.consists ∙ ap (λ q. (kind.Word k, g.span) ∷ q) h.consists)) (Parameter.scalar f);
      };
}

-- an array parameter
pub parameter_array : {ks : List TokenKind} {n : Option ℤ} (k : Keyword) (w : List ℕ) (ty : Ty)
    → type_word k ≡ Some ty → Formed LengthIn bare_length ks (n, no_span)
    → Formed Parameter bare_param (kind.Word k ∷ kind.Name w ∷ ks) (parameter w no_span ty true)
parameter_array {ks} {n} k w ty f x = record {
  each = λ ls a e.
      let g = headed a (kind.Word k) (kind.Name w ∷ (ks ++ ls)) e in
      let h = headed g.tail (kind.Name w) (ks ++ ls) g.tail_kinds in
      let i = x.each ls h.tail h.tail_kinds in
      let v = parameter w (over h.span i.found.1) ty true in
      record {
        rest = i.rest;
        rest_kinds = i.rest_kinds;
        need = i.need;
        found = v;
        is_bare = refl;
        reads = λ r l. subst (λ q. Parameter r q i.rest v)
            (sym (g.consists ∙ ap (λ q. (kind.Word k, g.span) ∷ q) h.consists))
            (Parameter.array f (i.reads r l));
      };
}

-- the last parameter
pub parameters_last : {ks : List TokenKind} {p : Param} → Formed Parameter bare_param ks p
    → Formed Parameters (map bare_param) ks (p ∷ [])
parameters_last x = record {
  each = λ ls a e.
      let g = x.each ls a e in
      record {
        rest = g.rest;
        rest_kinds = g.rest_kinds;
        need = g.need;
        found = g.found ∷ [];
        is_bare = ap (λ q. q ∷ []) g.is_bare;
        reads = λ r l. Parameters.last (g.reads r l);
      };
}

-- a parameter, a comma and others
pub parameters_more : {ks js : List TokenKind} {p : Param} {ps : List Param}
    → Formed Parameter bare_param ks p → Formed Parameters (map bare_param) js ps
    → Formed Parameters (map bare_param) (ks ++ kind.Punct mark.Comma ∷ js) (p ∷ ps)
parameters_more {ks} {js} {p} x y = record {
  each = λ ls a e.
      let g = got_then (kind.Punct mark.Comma) (js ++ ls) a x
      (e ∙ append_assoc ks (kind.Punct mark.Comma ∷ js) ls) in
      let h = y.each ls g.rest g.rest_kinds in
      record {
        rest = h.rest;
        rest_kinds = h.rest_kinds;
        need = g.need + h.need;
        found = g.found ∷ h.found;
        is_bare = ap (λ q. q ∷ map bare_param h.found) g.is_bare ∙ ap (λ q. p ∷ q) h.is_bare;
        reads = λ r l. Parameters.more (g.reads r (omega arith)) (h.reads r (omega arith));
      };
}

-- nothing between the parentheses
pub signature_empty : Formed Signature (map bare_param) [] []
signature_empty = record {
  each = λ ls a e. record {
    rest = a;
    rest_kinds = e;
    need = 0;
    found = [];
    is_bare = refl;
    reads = λ r l. Signature.empty;
  };
}

-- `void` between them
pub signature_void : Formed Signature (map bare_param) (kind.Word key.Void ∷ []) []
signature_void = record {
  each = λ ls a e.
      let h = headed a (kind.Word key.Void) ls e in
      record {
        rest = h.tail;
        rest_kinds = h.tail_kinds;
        need = 0;
        found = [];
        is_bare = refl;
        reads = λ r l. subst (λ q. Signature r q h.tail []) (sym h.consists) Signature.void;
      };
}

-- parameters between them
pub signature_parameters : {ks : List TokenKind} {ps : List Param}
    → Formed Parameters (map bare_param) ks ps → Formed Signature (map bare_param) ks ps
signature_parameters x = record {
  each = λ ls a e.
      let g = x.each ls a e in
      record {
        rest = g.rest;
        rest_kinds = g.rest_kinds;
        need = g.need;
        found = g.found;
        is_bare = g.is_bare;
        reads = λ r l. Signature.parameters (g.reads r l);
      };
}

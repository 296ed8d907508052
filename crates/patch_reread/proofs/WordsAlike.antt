-- The words of a program are the same whatever its slots.
use Rattle.std.proofs.Common.{◌≡◌, List, [], ◌∷◌, map, Option, Some, None, refl, sym, ap, ◌∙◌, subst}
use Rattle.c_lex.specs.declared.token.TokenKind.TheVariants as kind
use Rattle.c_lex.specs.Tokens.{Macros}
use Rattle.c_tree.specs.declared.program.Param.{Param}
use Rattle.c_tree.specs.Tree.{Tree, constant, name, index, call, unary, cast, binary, choice, assign, bump, comma, hole, hole_after, Args, no_args, value, format, address, Initial, bare_start, one_start, list_start, Variable, First, no_first, first_act, first_vars, Code, empty, act, block, if_then, if_else, while, do_while, for, give, break, continue, Body, done, next, vars, Outer, outer_vars, outer_func}
use Rattle.c_types.specs.Unresolved.{unresolved_tree, unresolved_args, unresolved_option, unresolved_initial, unresolved_variable, unresolved_first, unresolved_code, unresolved_body, unresolved_param, unresolved_definition, unresolved_outer, unresolved}
use Rattle.c_splice.specs.Words.{IsWordOf}
use Rattle.printed_tokens.specs.Sourced.{Sourced, SourcedArgs, SourcedTrees, SourcedOption, SourcedInitial, SourcedVariable, SourcedVariables, SourcedFirst, SourcedCode, SourcedBody, SourcedParams, SourcedDefinition, SourcedOuter, SourcedProgram}

module _ (m : Macros) where
  mutual
    tree-same : (e : Tree) → Sourced m (unresolved_tree e) ≡ Sourced m e
    tree-same (constant n w s) = refl
    tree-same (name w v s) = refl
    tree-same (index w v e s) = λ i. IsWordOf m w (kind.Name w) × tree-same e i
    tree-same (call w x s) = args-same x
    tree-same (unary op e s) = tree-same e
    tree-same (cast ty e s) = tree-same e
    tree-same (binary op a b s) = λ i. tree-same a i × tree-same b i
    tree-same (choice t a b s) = λ i. tree-same t i × tree-same a i × tree-same b i
    tree-same (assign op place e s) = λ i. tree-same place i × tree-same e i
    tree-same (bump before up e s) = tree-same e
    tree-same (comma a b s) = λ i. tree-same a i × tree-same b i
    tree-same hole = refl
    tree-same (hole_after e) = tree-same e

    args-same : (x : Args) → SourcedArgs m (unresolved_args x) ≡ SourcedArgs m x
    args-same no_args = refl
    args-same (value e x) = λ i. tree-same e i × args-same x i
    args-same (format f s x) = args-same x
    args-same (address e x) = λ i. tree-same e i × args-same x i

  trees-same : (es : List Tree) → SourcedTrees m (map unresolved_tree es) ≡ SourcedTrees m es
  trees-same [] = refl
  trees-same (e ∷ es) = λ i. tree-same e i × trees-same es i

  option-same : (o : Option Tree) → SourcedOption m (unresolved_option o) ≡ SourcedOption m o
  option-same None = refl
  option-same (Some e) = tree-same e

  initial-same : (start : Initial)
      → SourcedInitial m (unresolved_initial start) ≡ SourcedInitial m start
  initial-same bare_start = refl
  initial-same (one_start e) = tree-same e
  initial-same (list_start es) = trees-same es

  variables-same : (vs : List Variable)
      → SourcedVariables m (map unresolved_variable vs) ≡ SourcedVariables m vs
  variables-same [] = refl
  variables-same (v ∷ vs) =
      λ i. (IsWordOf m v.word (kind.Name v.word) × initial-same v.start i) × variables-same vs i

  first-same : (f : First) → SourcedFirst m (unresolved_first f) ≡ SourcedFirst m f
  first-same no_first = refl
  first-same (first_act e) = tree-same e
  first-same (first_vars ty vs) = variables-same vs

  mutual
    code-same : (c : Code) → SourcedCode m (unresolved_code c) ≡ SourcedCode m c
    code-same (empty s) = refl
    code-same (act e s) = tree-same e
    code-same (block body s) = body-same body
    code-same (if_then t a s) = λ i. tree-same t i × code-same a i
    code-same (if_else t a b s) = λ i. tree-same t i × code-same a i × code-same b i
    code-same (while t a s) = λ i. tree-same t i × code-same a i
    code-same (do_while a t s) = λ i. code-same a i × tree-same t i
    code-same (for f t u a s) =
        λ i. first-same f i × option-same t i × option-same u i × code-same a i
    code-same (give e s) = option-same e
    code-same (break s) = refl
    code-same (continue s) = refl

    body-same : (b : Body) → SourcedBody m (unresolved_body b) ≡ SourcedBody m b
    body-same done = refl
    body-same (next c rest) = λ i. code-same c i × body-same rest i
    body-same (vars ty vs rest) = λ i. variables-same vs i × body-same rest i

  params-same : (ps : List Param) → SourcedParams m (map unresolved_param ps) ≡ SourcedParams m ps
  params-same [] = refl
  params-same (p ∷ ps) = λ i. IsWordOf m p.word (kind.Name p.word) × params-same ps i

  definition-same : (b : Option Body)
      → SourcedDefinition m (unresolved_definition b) ≡ SourcedDefinition m b
  definition-same None = refl
  definition-same (Some body) = body-same body

  outer-same : (x : Outer) → SourcedOuter m (unresolved_outer x) ≡ SourcedOuter m x
  outer-same (outer_vars ty vs) = variables-same vs
  outer-same (outer_func f) = λ i. params-same f.params i × definition-same f.body i

  program-same : (p : List Outer) → SourcedProgram m (unresolved p) ≡ SourcedProgram m p
  program-same [] = refl
  program-same (x ∷ p) = λ i. outer-same x i × program-same p i

-- programs that are the same without their slots have the same words
pub sourced_alike : (m : Macros) (p q : List Outer) → unresolved p ≡ unresolved q
    → SourcedProgram m p → SourcedProgram m q
sourced_alike m p q e h =
    subst (λ (X : Type 0). X) (program-same m q)
    (subst (λ x. SourcedProgram m x) e (subst (λ (X : Type 0). X) (sym (program-same m p)) h))

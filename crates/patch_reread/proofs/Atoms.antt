-- The atoms at a place of a program are words of the source.
use Rattle.std.proofs.Common.{◌≡◌, ℕ, Bool, true, false, not, nat_lt, if◌then◌else◌, List, [], ◌∷◌, ◌++◌, map, filter, reverse, take, Option, Some, None, refl, sym, subst, codes, pos, All}
use Rattle.std.proofs.lemmas.List.{reverse-append}
use Rattle.std.specs.List.{flat_map}
use Rattle.std.specs.Str.{bytes_eq}
use Rattle.std.proofs.lemmas.List.Elements.{All-nil, All-cons, All-append, All-head, All-tail, All-take, All-map, All-filter}
use Rattle.c_lex.specs.declared.token.TokenKind.TheVariants as kind
use Rattle.c_lex.specs.Tokens.{Macros}
use Rattle.c_tree.specs.declared.program.Param.{Param}
use Rattle.c_tree.specs.declared.stmt.Ty.{Ty}
use Rattle.c_tree.specs.Tree.{Tree, constant, name, index, call, unary, cast, binary, choice, assign, bump, comma, hole, hole_after, Args, no_args, value, format, address, Initial, bare_start, one_start, list_start, Variable, First, no_first, first_act, first_vars, Code, empty, act, block, if_then, if_else, while, do_while, for, give, break, continue, Body, done, next, vars, Outer, outer_vars, outer_func}
use Rattle.c_types.specs.declared.visible.Visible.{Visible}
use Rattle.c_types.specs.Visible.{others, and_then, visible_variable, visible_param, is_inside, with_variable, with_variables, with_param, with_params, with_first, with_code, with_body, with_definition, with_outer, with_outers, visible_at}
use Rattle.schemas.specs.declared.atom.Atom.{Atom}
use Rattle.schemas.specs.declared.atom.Atom.TheVariants.{Var, Num}
use Rattle.schemas.specs.Atoms.{variable_atom, numbers, first_variables, zero, one, constant_atom, is_known, further, atoms_at}
use Rattle.schemas.specs.Constants.{Constant, constants_in, constants_in_args, constants_in_option, constants_in_initial, constants_in_variables, constants_in_first, constants_in_code, constants_in_body, has_place, constants_in_definition, constants_around, constants_at}
use Rattle.c_splice.specs.Words.{IsWordOf}
use Rattle.printed_tokens.specs.Sourced.{Sourced, SourcedArgs, SourcedTrees, SourcedOption, SourcedInitial, SourcedVariables, SourcedFirst, SourcedCode, SourcedBody, SourcedParams, SourcedDefinition, SourcedOuter, SourcedProgram}

-- the word of an atom is its token
abbrev pub SourcedAtom : Macros → Atom → Type 0
SourcedAtom m (Var word slot) = IsWordOf m word (kind.Name word)
SourcedAtom m (Num n word) = IsWordOf m word (kind.Const n word)

-- what holds of two lists holds of the one that a test chooses
by_test : {X : Type 0} (P : X → Type 0) (b : Bool) (xs ys : List X) → All P xs → All P ys
    → All P (if b then xs else ys)
by_test P true xs ys f g = f
by_test P false xs ys f g = g

-- the name of a visible variable is its token
abbrev Named : Macros → Visible → Type 0
Named m v = IsWordOf m v.word (kind.Name v.word)

record AllNamed (m : Macros) (vs : List Visible) : Type 0 where
  each : All (Named m) vs

-- the spelling of a constant is its token
abbrev Spelled : Macros → Constant → Type 0
Spelled m c = IsWordOf m c.word (kind.Const c.value c.word)

record AllSpelled (m : Macros) (cs : List Constant) : Type 0 where
  each : All (Spelled m) cs

module _ (m : Macros) where
  -- ---- visible variables

  others-named : (word : List ℕ) (vs : List Visible) → AllNamed m vs → AllNamed m (others word vs)
  others-named word vs a =
      record { each = All-filter (λ (v : Visible). not (bytes_eq v.word word)) (Named m) vs a.each }

  and_then-named : (v : Visible) (vs : List Visible) → Named m v → AllNamed m vs
      → AllNamed m (and_then v vs)
  and_then-named v vs h a = record {
    each = All-append (Named m) (others v.word vs) (v ∷ []) (others-named v.word vs a).each
        (All-cons (Named m) v [] h (All-nil (Named m)));
  }

  named-by : (b : Bool) (xs ys : List Visible) → AllNamed m xs → AllNamed m ys
      → AllNamed m (if b then xs else ys)
  named-by b xs ys f g = record { each = by_test (Named m) b xs ys f.each g.each }

  module _ (place : ℕ) where
    variable-named : (ty : Ty) (v : Variable) (before : List Visible)
        → IsWordOf m v.word (kind.Name v.word) → AllNamed m before
        → AllNamed m (with_variable place ty v before)
    variable-named ty v before h a =
        named-by (nat_lt place v.span.to) before
        (if is_inside place v.start then others v.word before
        else and_then (visible_variable ty v) before)
        a
        (named-by (is_inside place v.start) (others v.word before)
        (and_then (visible_variable ty v) before) (others-named v.word before a)
        (and_then-named (visible_variable ty v) before h a))

    variables-named : (ty : Ty) (vs : List Variable) (before : List Visible)
        → SourcedVariables m vs → AllNamed m before → AllNamed m (with_variables place ty vs before)
    variables-named ty [] before h a = a
    variables-named ty (v ∷ vs) before h a =
        variables-named ty vs (with_variable place ty v before) h.1
        (variable-named ty v before h.0.0 a)

    params-named : (ps : List Param) (before : List Visible) → SourcedParams m ps
        → AllNamed m before → AllNamed m (with_params place ps before)
    params-named [] before h a = a
    params-named (p ∷ ps) before h a =
        params-named ps (with_param place p before) h.1
        (named-by (nat_lt place p.span.to) before (and_then (visible_param p) before) a
        (and_then-named (visible_param p) before h.0 a))

    first-named : (f : First) (before : List Visible) → SourcedFirst m f → AllNamed m before
        → AllNamed m (with_first place f before)
    first-named no_first before h a = a
    first-named (first_act e) before h a = a
    first-named (first_vars ty vs) before h a = variables-named ty vs before h a

    mutual
      code-named : (c : Code) (before : List Visible) → SourcedCode m c → AllNamed m before
          → AllNamed m (with_code place c before)
      code-named (empty s) before h a = a
      code-named (act e s) before h a = a
      code-named (block body s) before h a =
          named-by (nat_lt place s.to) (with_body place body before) before
          (body-named body before h a) a
      code-named (if_then t x s) before h a = code-named x before h.1 a
      code-named (if_else t x y s) before h a =
          code-named y (with_code place x before) h.2 (code-named x before h.1 a)
      code-named (while t x s) before h a = code-named x before h.1 a
      code-named (do_while x t s) before h a = code-named x before h.0 a
      code-named (for f t u x s) before h a =
          named-by (nat_lt place s.to) (with_code place x (with_first place f before)) before
          (code-named x (with_first place f before) h.3 (first-named f before h.0 a)) a
      code-named (give e s) before h a = a
      code-named (break s) before h a = a
      code-named (continue s) before h a = a

      body-named : (b : Body) (before : List Visible) → SourcedBody m b → AllNamed m before
          → AllNamed m (with_body place b before)
      body-named done before h a = a
      body-named (next c rest) before h a =
          body-named rest (with_code place c before) h.1 (code-named c before h.0 a)
      body-named (vars ty vs rest) before h a =
          body-named rest (with_variables place ty vs before) h.1
          (variables-named ty vs before h.0 a)

    definition-named : (b : Option Body) (before : List Visible) → SourcedDefinition m b
        → AllNamed m before → AllNamed m (with_definition place b before)
    definition-named None before h a = a
    definition-named (Some body) before h a = body-named body before h a

    outers-named : (p : List Outer) (before : List Visible) → SourcedProgram m p
        → AllNamed m before → AllNamed m (with_outers place p before)
    outers-named [] before h a = a
    outers-named (outer_vars ty vs ∷ p) before h a =
        outers-named p (with_variables place ty vs before) h.1 (variables-named ty vs before h.0 a)
    outers-named (outer_func f ∷ p) before h a =
        outers-named p (with_outer place (outer_func f) before) h.1
        (named-by (nat_lt place f.span.to)
        (with_definition place f.body (with_params place f.params before)) before
        (definition-named f.body (with_params place f.params before) h.0.1
        (params-named f.params before h.0.0 a)) a)

  reversed : (vs : List Visible) → AllNamed m vs → AllNamed m (reverse vs)
  reversed [] a = record { each = All-nil (Named m) }
  reversed (v ∷ vs) a = record {
    each = subst (All (Named m)) (sym (reverse-append (v ∷ []) vs))
        (All-append (Named m) (reverse vs) (v ∷ [])
        (reversed vs (record { each = All-tail (Named m) v vs a.each })).each
        (All-cons (Named m) v [] (All-head (Named m) v vs a.each) (All-nil (Named m))));
  }

  visible-named : (place : ℕ) (p : List Outer) → SourcedProgram m p
      → AllNamed m (visible_at place p)
  visible-named place p h =
      reversed (with_outers place p [])
      (outers-named place p [] h (record { each = All-nil (Named m) }))

  -- ---- constants

  none : AllSpelled m []
  none = record { each = All-nil (Spelled m) }

  both : {xs ys : List Constant} → AllSpelled m xs → AllSpelled m ys → AllSpelled m (xs ++ ys)
  both {xs} {ys} a b = record { each = All-append (Spelled m) xs ys a.each b.each }

  mutual
    tree-spelled : (e : Tree) → Sourced m e → AllSpelled m (constants_in e)
    tree-spelled (constant n w s) h =
        record { each = All-cons (Spelled m) (record { value = n; word = w }) [] h (All-nil (Spelled m)) }
    tree-spelled (name w v s) h = none
    tree-spelled (index w v e s) h = tree-spelled e h.1
    tree-spelled (call w x s) h = args-spelled x h
    tree-spelled (unary op e s) h = tree-spelled e h
    tree-spelled (cast ty e s) h = tree-spelled e h
    tree-spelled (binary op a b s) h = both (tree-spelled a h.0) (tree-spelled b h.1)
    tree-spelled (choice t a b s) h =
        both (both (tree-spelled t h.0) (tree-spelled a h.1)) (tree-spelled b h.2)
    tree-spelled (assign op place e s) h = both (tree-spelled place h.0) (tree-spelled e h.1)
    tree-spelled (bump before up e s) h = tree-spelled e h
    tree-spelled (comma a b s) h = both (tree-spelled a h.0) (tree-spelled b h.1)
    tree-spelled hole h = none
    tree-spelled (hole_after e) h = tree-spelled e h

    args-spelled : (x : Args) → SourcedArgs m x → AllSpelled m (constants_in_args x)
    args-spelled no_args h = none
    args-spelled (value e x) h = both (tree-spelled e h.0) (args-spelled x h.1)
    args-spelled (format f s x) h = args-spelled x h
    args-spelled (address e x) h = both (tree-spelled e h.0) (args-spelled x h.1)

  option-spelled : (o : Option Tree) → SourcedOption m o → AllSpelled m (constants_in_option o)
  option-spelled None h = none
  option-spelled (Some e) h = tree-spelled e h

  trees-spelled : (es : List Tree) → SourcedTrees m es → AllSpelled m (flat_map constants_in es)
  trees-spelled [] h = none
  trees-spelled (e ∷ es) h = both (tree-spelled e h.0) (trees-spelled es h.1)

  initial-spelled : (start : Initial) → SourcedInitial m start
      → AllSpelled m (constants_in_initial start)
  initial-spelled bare_start h = none
  initial-spelled (one_start e) h = tree-spelled e h
  initial-spelled (list_start es) h = trees-spelled es h

  variables-spelled : (vs : List Variable) → SourcedVariables m vs
      → AllSpelled m (constants_in_variables vs)
  variables-spelled [] h = none
  variables-spelled (v ∷ vs) h = both (initial-spelled v.start h.0.1) (variables-spelled vs h.1)

  first-spelled : (f : First) → SourcedFirst m f → AllSpelled m (constants_in_first f)
  first-spelled no_first h = none
  first-spelled (first_act e) h = tree-spelled e h
  first-spelled (first_vars ty vs) h = variables-spelled vs h

  mutual
    code-spelled : (c : Code) → SourcedCode m c → AllSpelled m (constants_in_code c)
    code-spelled (empty s) h = none
    code-spelled (act e s) h = tree-spelled e h
    code-spelled (block body s) h = body-spelled body h
    code-spelled (if_then t a s) h = both (tree-spelled t h.0) (code-spelled a h.1)
    code-spelled (if_else t a b s) h =
        both (both (tree-spelled t h.0) (code-spelled a h.1)) (code-spelled b h.2)
    code-spelled (while t a s) h = both (tree-spelled t h.0) (code-spelled a h.1)
    code-spelled (do_while a t s) h = both (code-spelled a h.0) (tree-spelled t h.1)
    code-spelled (for f t u a s) h =
        both (both (both (first-spelled f h.0) (option-spelled t h.1)) (option-spelled u h.2))
        (code-spelled a h.3)
    code-spelled (give e s) h = option-spelled e h
    code-spelled (break s) h = none
    code-spelled (continue s) h = none

    body-spelled : (b : Body) → SourcedBody m b → AllSpelled m (constants_in_body b)
    body-spelled done h = none
    body-spelled (next c rest) h = both (code-spelled c h.0) (body-spelled rest h.1)
    body-spelled (vars ty vs rest) h = both (variables-spelled vs h.0) (body-spelled rest h.1)

  definition-spelled : (b : Option Body) → SourcedDefinition m b
      → AllSpelled m (constants_in_definition b)
  definition-spelled None h = none
  definition-spelled (Some body) h = body-spelled body h

  around-spelled : (place : ℕ) (x : Outer) → SourcedOuter m x
      → AllSpelled m (constants_around place x)
  around-spelled place (outer_vars ty vs) h = none
  around-spelled place (outer_func f) h = record {
    each = by_test (Spelled m) (has_place f.span place) (constants_in_definition f.body) []
        (definition-spelled f.body h.1).each (All-nil (Spelled m));
  }

  constants-spelled : (place : ℕ) (p : List Outer) → SourcedProgram m p
      → AllSpelled m (constants_at place p)
  constants-spelled place [] h = none
  constants-spelled place (x ∷ p) h = both (around-spelled place x h.0) (constants-spelled place p h.1)

  -- ---- atoms

  further-sourced : (before : List Atom) (cs : List Constant) → AllSpelled m cs
      → All (SourcedAtom m) (further before cs)
  further-sourced before [] a = All-nil (SourcedAtom m)
  further-sourced before (c ∷ cs) a =
      let rest : AllSpelled m cs = record { each = All-tail (Spelled m) c cs a.each } in
      by_test (SourcedAtom m) (is_known before c) (further before cs)
      (constant_atom c ∷ further (before ++ constant_atom c ∷ []) cs)
      (further-sourced before cs rest)
      (All-cons (SourcedAtom m) (constant_atom c) (further (before ++ constant_atom c ∷ []) cs)
      (All-head (Spelled m) c cs a.each) (further-sourced (before ++ constant_atom c ∷ []) cs rest))

  first_variables-sourced : (vs : List Visible) → AllNamed m vs
      → All (SourcedAtom m) (first_variables vs)
  first_variables-sourced vs a =
      All-map (SourcedAtom m) variable_atom (take 8 (numbers vs))
      (All-take (Named m) 8 (numbers vs)
      (All-filter (λ (v : Visible). not v.array) (Named m) vs a.each))

  -- the atoms at a place of a program of which each word is a word of the source
  pub atoms-sourced : IsWordOf m (codes "0") (kind.Const (pos 0) (codes "0"))
      → IsWordOf m (codes "1") (kind.Const (pos 1) (codes "1")) → (place : ℕ) (p : List Outer)
      → SourcedProgram m p → All (SourcedAtom m) (atoms_at place p)
  atoms-sourced nought unit place p h =
      let vs = first_variables (visible_at place p) in
      let cs = take 4 (further (zero ∷ one ∷ []) (constants_at place p)) in
      let last : All (SourcedAtom m) cs = All-take (SourcedAtom m) 4 (further (zero ∷ one ∷ []) (constants_at place p))
      (further-sourced (zero ∷ one ∷ []) (constants_at place p) (constants-spelled place p h)) in
      All-append (SourcedAtom m) vs (zero ∷ one ∷ cs)
      (first_variables-sourced (visible_at place p) (visible-named place p h))
      (All-cons (SourcedAtom m) zero (one ∷ cs) nought (All-cons (SourcedAtom m) one cs unit last))

-- The variables that are visible at a place of a resolved program (C11 6.2.1p4, p7), by the text: a
-- declaration is in scope from the end of its name and brackets to the end of its block, `for` or
-- function, and hides those of its name before it. In a scalar's initialiser neither the new name nor
-- one that it hides is usable, since its value isn't set.
use Rattle.std.specs.Prelude.{ℕ, Bool, false, not, ◌&&◌, nat_lt, nat_le, List, [], ◌∷◌, ◌++◌, filter, reverse, Option, Some, None, if◌then◌else◌}
use Rattle.std.specs.Str.{bytes_eq}
use Rattle.c_tree.specs.declared.program.Param.{Param}
use Rattle.c_tree.specs.declared.stmt.Ty.{Ty}
use Rattle.c_tree.specs.Parts.{span_of}
use Rattle.c_tree.specs.Tree.{Initial, bare_start, one_start, list_start, Variable, First, no_first, first_act, first_vars, Code, empty, act, block, if_then, if_else, while, do_while, for, give, break, continue, Body, done, next, vars, Outer, outer_vars, outer_func}
use Rattle.c_types.specs.declared.visible.Visible.{Visible}
use Rattle.c_types.specs.Statements.{is_array}

-- those of other names
abbrev pub others : List ℕ → List Visible → List Visible
others word = filter (λ v. not (bytes_eq v.word word))

-- a variable after those that it doesn't hide
abbrev pub and_then : Visible → List Visible → List Visible
and_then v before = others v.word before ++ v ∷ []

-- what is visible of a declarator and of a parameter
abbrev pub visible_variable : Ty → Variable → Visible
visible_variable ty v =
    record { word = v.word; slot = v.slot; ty = ty; array = is_array v.shape }

abbrev pub visible_param : Param → Visible
visible_param p = record { word = p.word; slot = p.slot; ty = p.ty; array = p.array }

module _ (place : ℕ) where
  -- whether the place is in a scalar's initialiser
  abbrev pub is_inside : Initial → Bool
  is_inside bare_start = false
  is_inside (one_start e) = nat_le (span_of e).from place && nat_lt place (span_of e).to
  is_inside (list_start es) = false

  -- a declarator, where some variables are visible before it; all lists are in text order
  abbrev pub with_variable : Ty → Variable → List Visible → List Visible
  with_variable ty v before =
      if nat_lt place v.span.to then before
      else (if is_inside v.start then others v.word before
      else and_then (visible_variable ty v) before)

  -- declarators, one after another
  abbrev pub with_variables : Ty → List Variable → List Visible → List Visible
  with_variables ty [] before = before
  with_variables ty (v ∷ vs) before = with_variables ty vs (with_variable ty v before)

  -- a parameter
  abbrev pub with_param : Param → List Visible → List Visible
  with_param p before =
      if nat_lt place p.span.to then before else and_then (visible_param p) before

  -- parameters, one after another
  abbrev pub with_params : List Param → List Visible → List Visible
  with_params [] before = before
  with_params (p ∷ ps) before = with_params ps (with_param p before)

  -- the first clause of a `for`
  abbrev pub with_first : First → List Visible → List Visible
  with_first no_first before = before
  with_first (first_act e) before = before
  with_first (first_vars ty vs) before = with_variables ty vs before

  -- the declarations in a statement; those of a block or a `for` that ends before the place are out of
  -- scope
  abbrev mutual
    pub with_code : Code → List Visible → List Visible
    with_code (empty s) before = before
    with_code (act e s) before = before
    with_code (block body s) before = if nat_lt place s.to then with_body body before else before
    with_code (if_then t a s) before = with_code a before
    with_code (if_else t a b s) before = with_code b (with_code a before)
    with_code (while t a s) before = with_code a before
    with_code (do_while a t s) before = with_code a before
    with_code (for i t u a s) before =
        if nat_lt place s.to then with_code a (with_first i before) else before
    with_code (give e s) before = before
    with_code (break s) before = before
    with_code (continue s) before = before

    -- the same in the items of a block
    pub with_body : Body → List Visible → List Visible
    with_body done before = before
    with_body (next c rest) before = with_body rest (with_code c before)
    with_body (vars ty vs rest) before = with_body rest (with_variables ty vs before)

  -- the same in a body that may be absent
  abbrev pub with_definition : Option Body → List Visible → List Visible
  with_definition None before = before
  with_definition (Some body) before = with_body body before

  -- what stands at file scope; the scope of parameters and local variables ends with their function
  abbrev pub with_outer : Outer → List Visible → List Visible
  with_outer (outer_vars ty vs) before = with_variables ty vs before
  with_outer (outer_func f) before =
      if nat_lt place f.span.to then with_definition f.body (with_params f.params before)
      else before

  -- the same, one after another
  abbrev pub with_outers : List Outer → List Visible → List Visible
  with_outers [] before = before
  with_outers (o ∷ rest) before = with_outers rest (with_outer o before)

  -- the visible variables, the innermost scope first and in a scope the latest first
  abbrev pub visible_at : List Outer → List Visible
  visible_at file = reverse (with_outers file [])

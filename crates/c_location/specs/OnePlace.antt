-- A program with one hole in the place of the part at a location, and the program again with a part
-- put into the hole.
use Rattle.std.specs.Prelude.{◌≡◌, ℕ, ◌+◌, ◌<◌, List, [], ◌∷◌, map, sum, Option, Some, None}
use Rattle.std.specs.List.{All}
use Rattle.c_tree.specs.declared.place.Loc.{Loc}
use Rattle.c_tree.specs.declared.place.LocKind.{LocKind}
use Rattle.c_tree.specs.declared.place.LocKind.TheVariants.{Guard, Cond, Right}
use Rattle.c_tree.specs.declared.place.Span.{Span}
use Rattle.c_tree.specs.Parts.{span_of, span_of_code}
use Rattle.c_tree.specs.Tree.{Tree, constant, name, index, call, unary, cast, binary, choice, assign, bump, comma, hole, hole_after, Args, no_args, value, format, address, Initial, bare_start, one_start, list_start, Variable, First, no_first, first_act, first_vars, Code, empty, act, block, if_then, if_else, while, do_while, for, give, break, continue, Body, done, next, vars, Outer, outer_vars, outer_func, no_span}
use Rattle.c_location.specs.Locations.{Part, expression, statement, part_at}
use Rattle.c_location.specs.Rewrites.{Rewrite, rewrite, rewritten}

-- a hole in the place of an expression, and a statement that is a hole in the place of a statement
abbrev pub opening : Rewrite
opening = record { tree = λ old. hole; code = λ c. act hole no_span }

-- the program with a hole at the location
abbrev pub opened : Loc → List Outer → List Outer
opened l p = rewritten l opening p

-- how many holes an expression has
abbrev mutual
  pub holes_in : Tree → ℕ
  holes_in (constant n w s) = 0
  holes_in (name w v s) = 0
  holes_in (index w v e s) = holes_in e
  holes_in (call w x s) = holes_in_args x
  holes_in (unary f e s) = holes_in e
  holes_in (cast ty e s) = holes_in e
  holes_in (binary f a b s) = holes_in a + holes_in b
  holes_in (choice t a b s) = holes_in t + holes_in a + holes_in b
  holes_in (assign f place e s) = holes_in place + holes_in e
  holes_in (bump before up e s) = holes_in e
  holes_in (comma a b s) = holes_in a + holes_in b
  holes_in hole = 1
  holes_in (hole_after e) = 1 + holes_in e

  -- the same of arguments
  pub holes_in_args : Args → ℕ
  holes_in_args no_args = 0
  holes_in_args (value e x) = holes_in e + holes_in_args x
  holes_in_args (format f s x) = holes_in_args x
  holes_in_args (address e x) = holes_in e + holes_in_args x

-- the same of an expression that may be absent
abbrev pub holes_in_option : Option Tree → ℕ
holes_in_option None = 0
holes_in_option (Some e) = holes_in e

-- the same of an initialiser
abbrev pub holes_in_initial : Initial → ℕ
holes_in_initial bare_start = 0
holes_in_initial (one_start e) = holes_in e
holes_in_initial (list_start es) = sum (map holes_in es)

-- the same of declared variables
abbrev pub holes_in_variables : List Variable → ℕ
holes_in_variables vs = sum (map (λ v. holes_in_initial v.start) vs)

-- the same of the first clause of a `for`
abbrev pub holes_in_first : First → ℕ
holes_in_first no_first = 0
holes_in_first (first_act e) = holes_in e
holes_in_first (first_vars ty vs) = holes_in_variables vs

-- the same of a statement
abbrev mutual
  pub holes_in_code : Code → ℕ
  holes_in_code (empty s) = 0
  holes_in_code (act e s) = holes_in e
  holes_in_code (block body s) = holes_in_body body
  holes_in_code (if_then t a s) = holes_in t + holes_in_code a
  holes_in_code (if_else t a b s) = holes_in t + holes_in_code a + holes_in_code b
  holes_in_code (while t a s) = holes_in t + holes_in_code a
  holes_in_code (do_while a t s) = holes_in_code a + holes_in t
  holes_in_code (for i t u a s) =
      holes_in_first i + holes_in_option t + holes_in_option u + holes_in_code a
  holes_in_code (give e s) = holes_in_option e
  holes_in_code (break s) = 0
  holes_in_code (continue s) = 0

  -- the same of the items of a block
  pub holes_in_body : Body → ℕ
  holes_in_body done = 0
  holes_in_body (next c rest) = holes_in_code c + holes_in_body rest
  holes_in_body (vars ty vs rest) = holes_in_variables vs + holes_in_body rest

-- the same of a body that may be absent
abbrev pub holes_in_definition : Option Body → ℕ
holes_in_definition None = 0
holes_in_definition (Some body) = holes_in_body body

-- the same of what stands at file scope
abbrev pub holes_in_outer : Outer → ℕ
holes_in_outer (outer_vars ty vs) = holes_in_variables vs
holes_in_outer (outer_func f) = holes_in_definition f.body

-- how many holes a program has
abbrev pub holes : List Outer → ℕ
holes p = sum (map holes_in_outer p)

-- what a part puts into the hole of an expression; a statement leaves it
abbrev pub into_hole : Part → Tree
into_hole (expression e) = e
into_hole (statement c) = hole

module _ (part : Part) where
  -- a statement, with the part put in where it is a hole and the part is a statement;
  -- another is as given
  abbrev pub into_act : Tree → Code → Code
  into_act hole other = elim part [ expression e ↦ other | statement c ↦ c ]
  into_act _ other = other

  -- an expression, with the part put into each hole
  abbrev mutual
    pub fill_tree : Tree → Tree
    fill_tree (constant n w s) = constant n w s
    fill_tree (name w v s) = name w v s
    fill_tree (index w v e s) = index w v (fill_tree e) s
    fill_tree (call w x s) = call w (fill_args x) s
    fill_tree (unary f e s) = unary f (fill_tree e) s
    fill_tree (cast ty e s) = cast ty (fill_tree e) s
    fill_tree (binary f a b s) = binary f (fill_tree a) (fill_tree b) s
    fill_tree (choice t a b s) = choice (fill_tree t) (fill_tree a) (fill_tree b) s
    fill_tree (assign f place e s) = assign f (fill_tree place) (fill_tree e) s
    fill_tree (bump before up e s) = bump before up (fill_tree e) s
    fill_tree (comma a b s) = comma (fill_tree a) (fill_tree b) s
    fill_tree hole = into_hole part
    fill_tree (hole_after e) = hole_after (fill_tree e)

    -- the same of arguments
    pub fill_args : Args → Args
    fill_args no_args = no_args
    fill_args (value e x) = value (fill_tree e) (fill_args x)
    fill_args (format f s x) = format f s (fill_args x)
    fill_args (address e x) = address (fill_tree e) (fill_args x)

  -- the same of an expression that may be absent
  abbrev pub fill_option : Option Tree → Option Tree
  fill_option None = None
  fill_option (Some e) = Some (fill_tree e)

  -- the same of an initialiser
  abbrev pub fill_initial : Initial → Initial
  fill_initial bare_start = bare_start
  fill_initial (one_start e) = one_start (fill_tree e)
  fill_initial (list_start es) = list_start (map fill_tree es)

  -- the same of a declared variable
  abbrev pub fill_variable : Variable → Variable
  fill_variable v = record v { start = fill_initial v.start }

  -- the same of the first clause of a `for`
  abbrev pub fill_first : First → First
  fill_first no_first = no_first
  fill_first (first_act e) = first_act (fill_tree e)
  fill_first (first_vars ty vs) = first_vars ty (map fill_variable vs)

  -- a statement, with the part put into each hole
  abbrev mutual
    pub fill_code : Code → Code
    fill_code (empty s) = empty s
    fill_code (act e s) = into_act e (act (fill_tree e) s)
    fill_code (block body s) = block (fill_body body) s
    fill_code (if_then t a s) = if_then (fill_tree t) (fill_code a) s
    fill_code (if_else t a b s) = if_else (fill_tree t) (fill_code a) (fill_code b) s
    fill_code (while t a s) = while (fill_tree t) (fill_code a) s
    fill_code (do_while a t s) = do_while (fill_code a) (fill_tree t) s
    fill_code (for i t u a s) = for (fill_first i) (fill_option t) (fill_option u) (fill_code a) s
    fill_code (give e s) = give (fill_option e) s
    fill_code (break s) = break s
    fill_code (continue s) = continue s

    -- the same of the items of a block
    pub fill_body : Body → Body
    fill_body done = done
    fill_body (next c rest) = next (fill_code c) (fill_body rest)
    fill_body (vars ty vs rest) = vars ty (map fill_variable vs) (fill_body rest)

  -- the same of a body that may be absent
  abbrev pub fill_definition : Option Body → Option Body
  fill_definition None = None
  fill_definition (Some body) = Some (fill_body body)

  -- the same of what stands at file scope
  abbrev pub fill_outer : Outer → Outer
  fill_outer (outer_vars ty vs) = outer_vars ty (map fill_variable vs)
  fill_outer (outer_func f) = outer_func (record f { body = fill_definition f.body })

  -- a program with the part put into each hole
  abbrev pub filled : List Outer → List Outer
  filled = map fill_outer

-- the location of a part: its kind, and the text that the part covers
abbrev pub IsOf : LocKind → Span → Part → Type 0
IsOf Guard at (statement c) = span_of_code c ≡ at
IsOf Cond at (expression e) = span_of e ≡ at
IsOf Right at (expression e) = span_of e ≡ at
IsOf _ _ _ = ⊥

-- The location names one place of the program. The program is one with a single hole, with the part
-- in the hole; and whatever becomes of the part, it stands in that hole, and all else stays.
pub record NamesOnePlace (l : Loc) (p : List Outer) : Type 0 where
  pub part : Part
  pub found : part_at l p ≡ Some part
  pub covers : IsOf l.kind l.at part
  pub one : holes (opened l p) ≡ 1
  pub whole : filled part (opened l p) ≡ p
  pub changed : (r : Rewrite) → rewritten l r p ≡ filled (rewrite r part) (opened l p)

-- each begins before all that follow it
abbrev pub Rising : List Loc → Type 0
Rising [] = Unit {0}
Rising (l ∷ ls) = All (λ later. l.at.from < later.at.from) ls × Rising ls

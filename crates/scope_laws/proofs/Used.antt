-- Where the two definitions of scope agree at the expressions and statements of a program, they do at its names.
use Rattle.std.proofs.Common.{◌≡◌, ℕ, List, [], ◌∷◌, ◌++◌, Option, Some, None, arith}
use Rattle.std.specs.List.{All, flat_map}
use Rattle.c_tree.specs.declared.stmt.Ty.{Ty}
use Rattle.c_tree.specs.Order.{ProgramIn}
use Rattle.c_tree.specs.Tree.{Tree, constant, name, index, call, unary, cast, binary, choice, assign, bump, comma, hole, hole_after, Args, no_args, value, format, address, Initial, bare_start, one_start, list_start, Variable, First, no_first, first_act, first_vars, Code, empty, act, block, if_then, if_else, while, do_while, for, give, break, continue, Body, done, next, vars, Outer, outer_vars, outer_func}
use Rattle.c_types.specs.Found.{option_found, initial_found, variables_found, first_found, code_found, body_found, definition_found, outers_found}
use Rattle.c_types.specs.declared.scope.Declaration.{Declaration}
use Rattle.c_types.specs.Library.{library}
use Rattle.c_types.specs.Programs.{function_declaration, params_declared, program_faults}
use Rattle.c_types.specs.Statements.{variable_declaration, declared, first_declared}
use Rattle.c_types.specs.Uses.{Use, tree_uses, args_uses, uses}
use Rattle.scope_laws.specs.Spots.{Spot, spot, tree_spots, args_spots, option_spots, initial_spots, variables_spots, first_spots, code_spots, body_spots, definition_spots, outers_spots}
use Rattle.scope_laws.specs.Laws.{Sees, SeesScope}
use Rattle.scope_laws.proofs.Agreeing.{scopes_agree}
use Rattle.scope_laws.proofs.Every.{Every, nil, cons, append, head, tail, left, right}

module _ (file : List Outer) where
  abbrev UseSees : Use → Type 0
  UseSees u = Sees file u.place u.scope u.initialised

  first_place : (u : Spot) → SeesScope file u → Sees file u.text.from u.scope u.initialised
  first_place u h = h.sees u.text.from (omega arith) h.covers

  -- both of two parts
  both : {xs ys : List Spot} {us vs : List Use} → (Every (SeesScope file) xs → Every UseSees us) → (Every (SeesScope file) ys → Every UseSees vs)
      → Every (SeesScope file) (xs ++ ys) → Every UseSees (us ++ vs)
  both {xs = xs} {ys = ys} f g h = append (f (left xs ys h)) (g (right xs ys h))

  module _ (ds : List Declaration) (o : Option (List ℕ)) where
    mutual
      tree_used : (e : Tree) → Every (SeesScope file) (tree_spots ds o e) → Every UseSees (tree_uses ds o e)
      tree_used (constant n word s) h = nil
      tree_used (name word slot s) h = cons (first_place (spot ds o s) (head h)) nil
      tree_used (index word slot e s) h = cons (first_place (spot ds o s) (head h)) (tree_used e (tail h))
      tree_used (call word x s) h = args_used x (tail h)
      tree_used (unary op e s) h = tree_used e (tail h)
      tree_used (cast ty e s) h = tree_used e (tail h)
      tree_used (binary op l r s) h = both (tree_used l) (tree_used r) (tail h)
      tree_used (choice t a b s) h = both (tree_used t) (both (tree_used a) (tree_used b)) (tail h)
      tree_used (assign op place e s) h = both (tree_used place) (tree_used e) (tail h)
      tree_used (bump before up place s) h = tree_used place (tail h)
      tree_used (comma l r s) h = both (tree_used l) (tree_used r) (tail h)
      tree_used hole h = nil
      tree_used (hole_after e) h = tree_used e h

      args_used : (x : Args) → Every (SeesScope file) (args_spots ds o x) → Every UseSees (args_uses ds o x)
      args_used no_args h = nil
      args_used (value e x) h = both (tree_used e) (args_used x) h
      args_used (format text s x) h = args_used x h
      args_used (address e x) h = both (tree_used e) (args_used x) h

  trees_used : (ds : List Declaration) (es : List Tree) → Every (SeesScope file) (flat_map (tree_spots ds None) es) → Every UseSees (flat_map (tree_uses ds None) es)
  trees_used ds [] h = nil
  trees_used ds (e ∷ es) h = both (tree_used ds None e) (trees_used ds es) h

  option_used : (ds : List Declaration) (e : Option Tree) → Every (SeesScope file) (option_spots ds e) → Every UseSees (option_found tree_uses ds e)
  option_used ds None h = nil
  option_used ds (Some e) h = tree_used ds None e h

  initial_used : (ds : List Declaration) (word : List ℕ) (start : Initial) → Every (SeesScope file) (initial_spots ds word start)
      → Every UseSees (initial_found tree_uses ds word start)
  initial_used ds word bare_start h = nil
  initial_used ds word (one_start e) h = tree_used ds (Some word) e h
  initial_used ds word (list_start es) h = trees_used ds es h

  variables_used : (here around : List Declaration) (ty : Ty) (vs : List Variable) → Every (SeesScope file) (variables_spots here around ty vs)
      → Every UseSees (variables_found tree_uses here around ty vs)
  variables_used here around ty [] h = nil
  variables_used here around ty (v ∷ vs) h =
      both (initial_used (variable_declaration ty v ∷ (here ++ around)) v.word v.start)
      (variables_used (variable_declaration ty v ∷ here) around ty vs) h

  first_used : (ds : List Declaration) (f : First) → Every (SeesScope file) (first_spots ds f) → Every UseSees (first_found tree_uses ds f)
  first_used ds no_first h = nil
  first_used ds (first_act e) h = tree_used ds None e h
  first_used ds (first_vars ty vs) h = variables_used [] ds ty vs h

  mutual
    code_used : (ds : List Declaration) (c : Code) → Every (SeesScope file) (code_spots ds c) → Every UseSees (code_found tree_uses ds c)
    code_used ds (empty s) h = nil
    code_used ds (act e s) h = tree_used ds None e (tail h)
    code_used ds (block b s) h = body_used [] ds b (tail h)
    code_used ds (if_then t a s) h = both (tree_used ds None t) (code_used ds a) (tail h)
    code_used ds (if_else t a b s) h =
        both (tree_used ds None t) (both (code_used ds a) (code_used ds b)) (tail h)
    code_used ds (while t a s) h = both (tree_used ds None t) (code_used ds a) (tail h)
    code_used ds (do_while a t s) h = both (code_used ds a) (tree_used ds None t) (tail h)
    code_used ds (for i t u a s) h =
        let es = first_declared i ++ ds in
        both (first_used ds i)
        (both (option_used es t) (both (option_used es u) (code_used es a))) (tail h)
    code_used ds (give e s) h = option_used ds e (tail h)
    code_used ds (break s) h = nil
    code_used ds (continue s) h = nil

    body_used : (here around : List Declaration) (b : Body) → Every (SeesScope file) (body_spots here around b) → Every UseSees (body_found tree_uses here around b)
    body_used here around done h = nil
    body_used here around (next c rest) h = both (code_used (here ++ around) c) (body_used here around rest) h
    body_used here around (vars ty vs rest) h =
        both (variables_used here around ty vs) (body_used (declared ty vs here) around rest) h

  definition_used : (here around : List Declaration) (d : Option Body) → Every (SeesScope file) (definition_spots here around d)
      → Every UseSees (definition_found tree_uses here around d)
  definition_used here around None h = nil
  definition_used here around (Some b) h = body_used here around b h

  outers_used : (here : List Declaration) (os : List Outer) → Every (SeesScope file) (outers_spots file here os) → Every UseSees (outers_found tree_uses file here os)
  outers_used here [] h = nil
  outers_used here (outer_vars ty vs ∷ rest) h = both (variables_used here [] ty vs) (outers_used (declared ty vs here) rest) h
  outers_used here (outer_func f ∷ rest) h =
      both (definition_used (params_declared f.params []) (function_declaration file f ∷ here) f.body)
      (outers_used (function_declaration file f ∷ here) rest) h

pub uses_agree : (file : List Outer) (from to end : ℕ) → ProgramIn from to file → program_faults file end ≡ []
    → All (λ u. Sees file u.place u.scope u.initialised) (uses file)
uses_agree file from to end ordered none =
    (outers_used file library file (record { all = scopes_agree file from to end ordered none })).all

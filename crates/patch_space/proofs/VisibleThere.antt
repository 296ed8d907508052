-- The scope that the walk for faults hands to a location shows all that is visible there by the text, in a program in text
-- order.
use Rattle.std.proofs.Common.{◌≡◌, ℕ, ◌<◌, true, List, [], ◌∷◌, ◌++◌, Option, Some, None, ap, arith}
use Rattle.std.specs.List.{All, flat_map}
use Rattle.c_tree.specs.declared.expr.BinOp.{BinOp}
use Rattle.c_tree.specs.declared.place.Loc.{Loc}
use Rattle.c_tree.specs.declared.place.LocKind.{LocKind}
use Rattle.c_tree.specs.declared.place.LocKind.TheVariants.{Guard, Cond, Right}
use Rattle.c_tree.specs.declared.place.Span.{Span}
use Rattle.c_tree.specs.declared.stmt.Ty.{Ty}
use Rattle.c_tree.specs.Order as order
use Rattle.c_tree.specs.Order.{TreeIn, ArgsIn, TreesIn, OptionIn, InitialIn, VariablesIn, FirstIn, CodeIn, BodyIn, DefinitionIn, ProgramIn}
use Rattle.c_tree.specs.Parts.{span_of}
use Rattle.c_tree.specs.Tree.{Tree, hole, Args, Initial, Variable, First, Code, Body, Outer}
use Rattle.c_types.specs.declared.scope.Declaration.{Declaration}
use Rattle.c_types.specs.Evidence.{IsChecked, IsOrdered}
use Rattle.c_types.specs.Library.{library}
use Rattle.c_types.specs.Programs.{function_declaration, params_declared}
use Rattle.c_types.specs.Statements.{variable_declaration, declared, first_declared}
use Rattle.c_types.specs.Visible.{visible_at}
use Rattle.c_location.specs.Locations.{expression, stands}
use Rattle.c_location.proofs.Places.{is_at-loc}
use Rattle.scope_laws.specs.Seen.{IsMeant}
use Rattle.scope_laws.specs.Spots.{spot, tree_spots, args_spots, option_spots, initial_spots, variables_spots, first_spots, code_spots, body_spots, definition_spots, outers_spots}
use Rattle.scope_laws.specs.Laws.{SeesScope, ScopesAgree}
use Rattle.scope_laws.proofs.Every.{Every, head, tail, left, right}
use Rattle.rewrite_laws.proofs.SeesThere.{InAssigned, InTree, InArgs, InPart, InOption, InStep, InTrees, InInitial, InVariables, InFirst, InCode, InBody, InDefinition, InOuters, InProgram}

-- the declarations show all that is visible at the location
abbrev pub ShowsAll : List Outer → Loc → List Declaration → Type 0
ShowsAll p l ds = All (IsMeant ds) (visible_at l.at.from p)

-- so they do where an expression is the location, whichever it is
abbrev pub ShowsFor : List Outer → Loc → List Declaration → Tree → Type 0
ShowsFor p l ds e = ShowsAll p l ds

-- the text of what is at a location is its own
own_text : (l : Loc) (kind : LocKind) (s : Span) → stands l kind s ≡ true → s ≡ l.at
own_text l kind s is = ap (λ (m : Loc). m.at) (is_at-loc l (record { loc = record { kind = kind; at = s }; part = expression hole }) is)

module _ (file : List Outer) (l : Loc) where
  -- where the text of a spot is the location, its declarations show what is visible there
  spot_shows : (ds : List Declaration) (o : Option (List ℕ)) (s : Span) → SeesScope file (spot ds o s) → s ≡ l.at → ShowsAll file l ds
  spot_shows ds o s h is =
      let from : s.from ≡ l.at.from = ap (λ (t : Span). t.from) is in
      let to : s.to ≡ l.at.to = ap (λ (t : Span). t.to) is in
      let covers : s.from < s.to = h.covers in
      (h.sees l.at.from (omega arith) (omega arith)).meant

  -- the same of an expression
  tree_shows : {from to : ℕ} {e : Tree} (ds : List Declaration) (o : Option (List ℕ)) → TreeIn from to e
      → Every (SeesScope file) (tree_spots ds o e) → span_of e ≡ l.at → ShowsAll file l ds
  tree_shows ds o (order.constant {s = s} w) h is = spot_shows ds o s (head h) is
  tree_shows ds o (order.name {s = s} w) h is = spot_shows ds o s (head h) is
  tree_shows ds o (order.index {s = s} w a) h is = spot_shows ds o s (head h) is
  tree_shows ds o (order.call {s = s} w x) h is = spot_shows ds o s (head h) is
  tree_shows ds o (order.unary {s = s} w a) h is = spot_shows ds o s (head h) is
  tree_shows ds o (order.cast {s = s} w a) h is = spot_shows ds o s (head h) is
  tree_shows ds o (order.binary {s = s} w a b) h is = spot_shows ds o s (head h) is
  tree_shows ds o (order.choice {s = s} w t a b) h is = spot_shows ds o s (head h) is
  tree_shows ds o (order.assign {s = s} w a b) h is = spot_shows ds o s (head h) is
  tree_shows ds o (order.bump {s = s} w a) h is = spot_shows ds o s (head h) is
  tree_shows ds o (order.comma {s = s} w a b) h is = spot_shows ds o s (head h) is

  module _ (ds : List Declaration) (o : Option (List ℕ)) where
    assigned : {from to : ℕ} {e : Tree} (op : Option BinOp) → TreeIn from to e → Every (SeesScope file) (tree_spots ds o e)
        → InAssigned l (ShowsFor file l) (ShowsAll file l) op ds e
    assigned {e = e} None x h = λ is. tree_shows ds o x h (own_text l Right (span_of e) is)
    assigned (Some op) x h = tt

    mutual
      in_tree : {from to : ℕ} {e : Tree} → TreeIn from to e → Every (SeesScope file) (tree_spots ds o e)
          → InTree l (ShowsFor file l) (ShowsAll file l) ds e
      in_tree (order.constant w) h = tt
      in_tree (order.name w) h = tt
      in_tree (order.index w a) h = in_tree a (tail h)
      in_tree (order.call w x) h = in_args x (tail h)
      in_tree (order.unary w a) h = in_tree a (tail h)
      in_tree (order.cast w a) h = in_tree a (tail h)
      in_tree (order.binary {l = e} {r = f} w a b) h = (
        in_tree a (left (tree_spots ds o e) (tree_spots ds o f) (tail h)),
        in_tree b (right (tree_spots ds o e) (tree_spots ds o f) (tail h)),
      )
      in_tree (order.choice {t = e} {a = f} {b = g} w t a b) h =
          let rest = right (tree_spots ds o e) (tree_spots ds o f ++ tree_spots ds o g) (tail h) in (
            in_tree t (left (tree_spots ds o e) (tree_spots ds o f ++ tree_spots ds o g) (tail h)),
            in_tree a (left (tree_spots ds o f) (tree_spots ds o g) rest),
            in_tree b (right (tree_spots ds o f) (tree_spots ds o g) rest),
          )
      in_tree (order.assign {f = op} {place = e} {e = f} w a b) h =
          let rest = right (tree_spots ds o e) (tree_spots ds o f) (tail h) in (
            in_tree a (left (tree_spots ds o e) (tree_spots ds o f) (tail h)),
            assigned op b rest,
            in_tree b rest,
          )
      in_tree (order.bump w a) h = in_tree a (tail h)
      in_tree (order.comma {l = e} {r = f} w a b) h = (
        in_tree a (left (tree_spots ds o e) (tree_spots ds o f) (tail h)),
        in_tree b (right (tree_spots ds o e) (tree_spots ds o f) (tail h)),
      )

      in_args : {from to : ℕ} {x : Args} → ArgsIn from to x → Every (SeesScope file) (args_spots ds o x)
          → InArgs l (ShowsFor file l) (ShowsAll file l) ds x
      in_args (order.no_args le) h = tt
      in_args (order.value {e = e} {rest = x} a rest) h = (
        in_tree a (left (tree_spots ds o e) (args_spots ds o x) h),
        in_args rest (right (tree_spots ds o e) (args_spots ds o x) h),
      )
      in_args (order.format w rest) h = in_args rest h
      in_args (order.address {e = e} {rest = x} a rest) h = (
        in_tree a (left (tree_spots ds o e) (args_spots ds o x) h),
        in_args rest (right (tree_spots ds o e) (args_spots ds o x) h),
      )

    in_part : {from to : ℕ} {e : Tree} (kind : LocKind) → TreeIn from to e → Every (SeesScope file) (tree_spots ds o e)
        → InPart l (ShowsFor file l) (ShowsAll file l) kind ds e
    in_part {e = e} kind x h = (λ is. tree_shows ds o x h (own_text l kind (span_of e) is), in_tree x h)

  module _ (ds : List Declaration) where
    in_trees : {from to : ℕ} {es : List Tree} → TreesIn from to es → Every (SeesScope file) (flat_map (tree_spots ds None) es)
        → InTrees l (ShowsFor file l) (ShowsAll file l) ds es
    in_trees (order.none le) h = tt
    in_trees (order.more {e = e} {es = es} x rest) h = (
      in_tree ds None x (left (tree_spots ds None e) (flat_map (tree_spots ds None) es) h),
      in_trees rest (right (tree_spots ds None e) (flat_map (tree_spots ds None) es) h),
    )

    in_initial : {from to : ℕ} {start : Initial} (word : List ℕ) → InitialIn from to start → Every (SeesScope file) (initial_spots ds word start)
        → InInitial l (ShowsFor file l) (ShowsAll file l) ds start
    in_initial word (order.bare le) h = tt
    in_initial word (order.one x) h = in_part ds (Some word) Right x h
    in_initial word (order.many xs) h = in_trees xs h

    in_option : {from to : ℕ} {e : Option Tree} (kind : LocKind) → OptionIn from to e → Every (SeesScope file) (option_spots ds e)
        → InOption l (ShowsFor file l) (ShowsAll file l) kind ds e
    in_option kind (order.absent le) h = tt
    in_option kind (order.present x) h = in_part ds None kind x h

    in_step : {from to : ℕ} {e : Option Tree} → OptionIn from to e → Every (SeesScope file) (option_spots ds e)
        → InStep l (ShowsFor file l) (ShowsAll file l) ds e
    in_step (order.absent le) h = tt
    in_step (order.present x) h = in_tree ds None x h

  in_variables : {from to : ℕ} {vs : List Variable} (here around : List Declaration) (ty : Ty) → VariablesIn from to vs
      → Every (SeesScope file) (variables_spots here around ty vs) → InVariables l (ShowsFor file l) (ShowsAll file l) here around ty vs
  in_variables here around ty (order.none le) h = tt
  in_variables here around ty (order.more {v = v} {vs = vs} w start rest) h =
      let d = variable_declaration ty v in
      let own = initial_spots (d ∷ (here ++ around)) v.word v.start in
      let others = variables_spots (d ∷ here) around ty vs in (
        in_initial (d ∷ (here ++ around)) v.word start (left own others h),
        in_variables (d ∷ here) around ty rest (right own others h),
      )

  in_first : {from to : ℕ} {f : First} (ds : List Declaration) → FirstIn from to f → Every (SeesScope file) (first_spots ds f)
      → InFirst l (ShowsFor file l) (ShowsAll file l) ds f
  in_first ds (order.none le) h = tt
  in_first ds (order.act x) h = in_tree ds None x h
  in_first ds (order.vars {ty = ty} vs) h = in_variables [] ds ty vs h

  mutual
    in_code : {from to : ℕ} {c : Code} (ds : List Declaration) → CodeIn from to c → Every (SeesScope file) (code_spots ds c)
        → InCode l (ShowsFor file l) (ShowsAll file l) ds c
    in_code ds (order.empty w) h = tt
    in_code ds (order.act {s = s} w x) h = (λ is. spot_shows ds None s (head h) (own_text l Guard s is), in_tree ds None x (tail h))
    in_code ds (order.block w b) h = in_body [] ds b (tail h)
    in_code ds (order.if_then {t = e} {a = c} w t a) h = (
      in_part ds None Cond t (left (tree_spots ds None e) (code_spots ds c) (tail h)),
      in_code ds a (right (tree_spots ds None e) (code_spots ds c) (tail h)),
    )
    in_code ds (order.if_else {t = e} {a = c} {b = d} w t a b) h =
        let arms = right (tree_spots ds None e) (code_spots ds c ++ code_spots ds d) (tail h) in (
          in_part ds None Cond t (left (tree_spots ds None e) (code_spots ds c ++ code_spots ds d) (tail h)),
          in_code ds a (left (code_spots ds c) (code_spots ds d) arms),
          in_code ds b (right (code_spots ds c) (code_spots ds d) arms),
        )
    in_code ds (order.while {t = e} {a = c} w t a) h = (
      in_part ds None Cond t (left (tree_spots ds None e) (code_spots ds c) (tail h)),
      in_code ds a (right (tree_spots ds None e) (code_spots ds c) (tail h)),
    )
    in_code ds (order.do_while {a = c} {t = e} w a t) h = (
      in_code ds a (left (code_spots ds c) (tree_spots ds None e) (tail h)),
      in_part ds None Cond t (right (code_spots ds c) (tree_spots ds None e) (tail h)),
    )
    in_code ds (order.for {i = f} {t = e} {u = g} {a = c} w x t u a) h =
        let inner = first_declared f ++ ds in
        let third = option_spots inner g ++ code_spots inner c in
        let second = option_spots inner e ++ third in
        let after_first = right (first_spots ds f) second (tail h) in
        let after_test = right (option_spots inner e) third after_first in (
          in_first ds x (left (first_spots ds f) second (tail h)),
          in_option inner Cond t (left (option_spots inner e) third after_first),
          in_step inner u (left (option_spots inner g) (code_spots inner c) after_test),
          in_code inner a (right (option_spots inner g) (code_spots inner c) after_test),
        )
    in_code ds (order.give {s = s} w e) h = (λ is. spot_shows ds None s (head h) (own_text l Guard s is), in_option ds Right e (tail h))
    in_code ds (order.break {s = s} w) h = λ is. spot_shows ds None s (head h) (own_text l Guard s is)
    in_code ds (order.continue {s = s} w) h = λ is. spot_shows ds None s (head h) (own_text l Guard s is)

    in_body : {from to : ℕ} {b : Body} (here around : List Declaration) → BodyIn from to b → Every (SeesScope file) (body_spots here around b)
        → InBody l (ShowsFor file l) (ShowsAll file l) here around b
    in_body here around (order.done le) h = tt
    in_body here around (order.next {a = c} {rest = b} a rest) h = (
      in_code (here ++ around) a (left (code_spots (here ++ around) c) (body_spots here around b) h),
      in_body here around rest (right (code_spots (here ++ around) c) (body_spots here around b) h),
    )
    in_body here around (order.vars {ty = ty} {vs = vs} {rest = b} x rest) h = (
      in_variables here around ty x (left (variables_spots here around ty vs) (body_spots (declared ty vs here) around b) h),
      in_body (declared ty vs here) around rest (right (variables_spots here around ty vs) (body_spots (declared ty vs here) around b) h),
    )

  in_definition : {from to : ℕ} {b : Option Body} (here around : List Declaration) → DefinitionIn from to b
      → Every (SeesScope file) (definition_spots here around b) → InDefinition l (ShowsFor file l) (ShowsAll file l) here around b
  in_definition here around (order.absent le) h = tt
  in_definition here around (order.present b) h = in_body here around b h

  in_outers : {from to : ℕ} {os : List Outer} (here : List Declaration) → ProgramIn from to os → Every (SeesScope file) (outers_spots file here os)
      → InOuters l (ShowsFor file l) (ShowsAll file l) file here os
  in_outers here (order.none le) h = tt
  in_outers here (order.more {p = os} (order.vars {ty = ty} {vs = vs} x) rest) h =
      in_outers (declared ty vs here) rest (right (variables_spots here [] ty vs) (outers_spots file (declared ty vs here) os) h)
  in_outers here (order.more {p = os} (order.func {f = f} w ps d) rest) h =
      let around = function_declaration file f ∷ here in
      let own = definition_spots (params_declared f.params []) around f.body in (
        in_definition (params_declared f.params []) around d (left own (outers_spots file around os) h),
        in_outers around rest (right own (outers_spots file around os) h),
      )

-- in a checked program in text order the scope of a location shows all that is visible there
pub visible_there : ScopesAgree → (p : List Outer) (l : Loc) → IsChecked p → IsOrdered p → InProgram l (ShowsFor p l) (ShowsAll p l) p
visible_there agree p l h text =
    in_outers p l library text.placed (record { all = agree p 0 text.end 0 text.placed (h.faultless 0) })

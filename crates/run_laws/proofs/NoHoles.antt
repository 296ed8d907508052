-- A program in text order has no hole, and where a checked program has none, what holes do makes no difference.
use Rattle.std.proofs.Common.{◌≡◌, ℕ, suc, ℤ, List, [], ◌∷◌, ◌++◌, length, Option, refl, sym, ap, ap₂, ◌∙◌, subst}
use Rattle.std.specs.Prelude.{⊤, Contains}
use Rattle.std.specs.List.{flat_map}
use Rattle.std.proofs.lemmas.List.Elements.{All-nil, All-contains}
use Rattle.c_tree.specs.declared.stmt.Ty.{Ty}
use Rattle.c_tree.specs.Order.{TreeIn, ArgsIn, TreesIn, OptionIn, InitialIn, VariablesIn, FirstIn, CodeIn, BodyIn, DefinitionIn, OuterIn, ProgramIn}
use Rattle.c_tree.specs.Tree.{Tree, Args, Initial, Variable, First, Code, Body, Outer}
use Rattle.c_types.specs.Found.{option_found, initial_found, variables_found, first_found, code_found, body_found, definition_found, outers_found}
use Rattle.c_types.specs.Library.{library}
use Rattle.c_types.specs.Programs.{params_declared, function_declaration}
use Rattle.c_types.specs.Statements.{variable_declaration, declared, first_declared}
use Rattle.c_meaning.specs.World.{World, Out, going, over, waiting, Run, and_then}
use Rattle.c_meaning.specs.Steps.{unit, load, store, make, attach, object_of, cut, swap, get_byte, scan, put_text}
use Rattle.c_meaning.specs.Meaning.{Filling, looping, run_program}
use Rattle.c_meaning.proofs.Related.{Kept, program_related}
use Rattle.run_laws.specs.Typed.{every_slot, IsSteady}
use Rattle.run_laws.specs.Holes.{Names, tree_holes, args_holes, holes, of_holes}
use Rattle.run_laws.specs.Laws.{OrderedProgramsHaveNoHole, NoHoleIsMet}
use Rattle.run_laws.proofs.Keeping.{keeps_refl}
use Rattle.run_laws.proofs.Programs.{holes-typed}

-- ---- trees in text order

both : {X : Type 0} (xs ys : List X) → xs ≡ [] → ys ≡ [] → xs ++ ys ≡ []
both xs ys h k = ap₂ (λ a b. a ++ b) h k

mutual
  tree_none : {i j : ℕ} {e : Tree} (ds : Names) → TreeIn i j e → tree_holes ds e ≡ []
  tree_none ds (TreeIn.constant w) = refl
  tree_none ds (TreeIn.name w) = refl
  tree_none ds (TreeIn.index w x) = tree_none ds x
  tree_none ds (TreeIn.call w x) = args_none ds x
  tree_none ds (TreeIn.unary w x) = tree_none ds x
  tree_none ds (TreeIn.cast w x) = tree_none ds x
  tree_none ds (TreeIn.binary {l = l} {r = r} w x y) = both (tree_holes ds l) (tree_holes ds r) (tree_none ds x) (tree_none ds y)
  tree_none ds (TreeIn.choice {t = t} {a = a} {b = b} w x y z) =
      both (tree_holes ds t) (tree_holes ds a ++ tree_holes ds b) (tree_none ds x) (both (tree_holes ds a) (tree_holes ds b) (tree_none ds y) (tree_none ds z))
  tree_none ds (TreeIn.assign {place = l} {e = r} w x y) = both (tree_holes ds l) (tree_holes ds r) (tree_none ds x) (tree_none ds y)
  tree_none ds (TreeIn.bump w x) = tree_none ds x
  tree_none ds (TreeIn.comma {l = l} {r = r} w x y) = both (tree_holes ds l) (tree_holes ds r) (tree_none ds x) (tree_none ds y)

  args_none : {i j : ℕ} {args : Args} (ds : Names) → ArgsIn i j args → args_holes ds args ≡ []
  args_none ds (ArgsIn.no_args le) = refl
  args_none ds (ArgsIn.value {e = e} {rest = rest} x y) = both (tree_holes ds e) (args_holes ds rest) (tree_none ds x) (args_none ds y)
  args_none ds (ArgsIn.format w y) = args_none ds y
  args_none ds (ArgsIn.address {e = e} {rest = rest} x y) = both (tree_holes ds e) (args_holes ds rest) (tree_none ds x) (args_none ds y)

trees_none : {i j : ℕ} {es : List Tree} (ds : Names) → TreesIn i j es → flat_map (tree_holes ds) es ≡ []
trees_none ds (TreesIn.none le) = refl
trees_none ds (TreesIn.more {e = e} {es = es} x y) = both (tree_holes ds e) (flat_map (tree_holes ds) es) (tree_none ds x) (trees_none ds y)

option_none : {i j : ℕ} {o : Option Tree} (ds : Names) → OptionIn i j o → option_found of_holes ds o ≡ []
option_none ds (OptionIn.absent le) = refl
option_none ds (OptionIn.present x) = tree_none ds x

initial_none : {i j : ℕ} {start : Initial} (ds : Names) (word : List ℕ) → InitialIn i j start → initial_found of_holes ds word start ≡ []
initial_none ds word (InitialIn.bare le) = refl
initial_none ds word (InitialIn.one x) = tree_none ds x
initial_none ds word (InitialIn.many x) = trees_none ds x

variables_none : {i j : ℕ} {vs : List Variable} (here around : Names) (ty : Ty) → VariablesIn i j vs → variables_found of_holes here around ty vs ≡ []
variables_none here around ty (VariablesIn.none le) = refl
variables_none here around ty (VariablesIn.more {v = v} {vs = vs} w x y) =
    let d = variable_declaration ty v in
    both (initial_found of_holes (d ∷ (here ++ around)) v.word v.start) (variables_found of_holes (d ∷ here) around ty vs) (initial_none (d ∷ (here ++ around)) v.word x) (variables_none (d ∷ here) around ty y)

first_none : {i j : ℕ} {first : First} (ds : Names) → FirstIn i j first → first_found of_holes ds first ≡ []
first_none ds (FirstIn.none le) = refl
first_none ds (FirstIn.act x) = tree_none ds x
first_none ds (FirstIn.vars {ty = ty} x) = variables_none [] ds ty x

mutual
  code_none : {i j : ℕ} {c : Code} (ds : Names) → CodeIn i j c → code_found of_holes ds c ≡ []
  code_none ds (CodeIn.empty w) = refl
  code_none ds (CodeIn.act w x) = tree_none ds x
  code_none ds (CodeIn.block w x) = body_none [] ds x
  code_none ds (CodeIn.if_then {t = t} {a = a} w x y) = both (tree_holes ds t) (code_found of_holes ds a) (tree_none ds x) (code_none ds y)
  code_none ds (CodeIn.if_else {t = t} {a = a} {b = b} w x y z) =
      both (tree_holes ds t) (code_found of_holes ds a ++ code_found of_holes ds b) (tree_none ds x) (both (code_found of_holes ds a) (code_found of_holes ds b) (code_none ds y) (code_none ds z))
  code_none ds (CodeIn.while {t = t} {a = a} w x y) = both (tree_holes ds t) (code_found of_holes ds a) (tree_none ds x) (code_none ds y)
  code_none ds (CodeIn.do_while {a = a} {t = t} w y x) = both (code_found of_holes ds a) (tree_holes ds t) (code_none ds y) (tree_none ds x)
  code_none ds (CodeIn.for {i = first} {t = t} {u = u} {a = a} w f x y z) =
      let es = first_declared first ++ ds in
      both (first_found of_holes ds first) (option_found of_holes es t ++ (option_found of_holes es u ++ code_found of_holes es a)) (first_none ds f)
      (both (option_found of_holes es t) (option_found of_holes es u ++ code_found of_holes es a) (option_none es x) (both (option_found of_holes es u) (code_found of_holes es a) (option_none es y) (code_none es z)))
  code_none ds (CodeIn.give w x) = option_none ds x
  code_none ds (CodeIn.break w) = refl
  code_none ds (CodeIn.continue w) = refl

  body_none : {i j : ℕ} {b : Body} (here around : Names) → BodyIn i j b → body_found of_holes here around b ≡ []
  body_none here around (BodyIn.done le) = refl
  body_none here around (BodyIn.next {a = a} {rest = rest} x y) =
      both (code_found of_holes (here ++ around) a) (body_found of_holes here around rest) (code_none (here ++ around) x) (body_none here around y)
  body_none here around (BodyIn.vars {ty = ty} {vs = vs} {rest = rest} x y) =
      both (variables_found of_holes here around ty vs) (body_found of_holes (declared ty vs here) around rest) (variables_none here around ty x) (body_none (declared ty vs here) around y)

definition_none : {i j : ℕ} {b : Option Body} (here around : Names) → DefinitionIn i j b → definition_found of_holes here around b ≡ []
definition_none here around (DefinitionIn.absent le) = refl
definition_none here around (DefinitionIn.present x) = body_none here around x

program_none : {i j : ℕ} {p : List Outer} (file : List Outer) (here : Names) → ProgramIn i j p → outers_found of_holes file here p ≡ []
program_none file here (ProgramIn.none le) = refl
program_none file here (ProgramIn.more {p = p} (OuterIn.vars {ty = ty} {vs = vs} x) y) =
    both (variables_found of_holes here [] ty vs) (outers_found of_holes file (declared ty vs here) p) (variables_none here [] ty x) (program_none file (declared ty vs here) y)
program_none file here (ProgramIn.more {p = p} (OuterIn.func {f = f} w ps x) y) =
    let around = function_declaration file f ∷ here in
    both (definition_found of_holes (params_declared f.params []) around f.body) (outers_found of_holes file around p) (definition_none (params_declared f.params []) around x) (program_none file around y)

pub ordered-none : OrderedProgramsHaveNoHole
ordered-none p ordered = program_none p library ordered.placed

-- ---- runs

-- what the one comes to, the other comes to, unless the one waits
abbrev AsUnlessWaits : {A : Type 0} → Out A → Out A → Type 0
AsUnlessWaits (going a x) o = o ≡ going a x
AsUnlessWaits (over e x) o = o ≡ over e x
AsUnlessWaits (waiting old x) o = ⊤

record Follows {A : Type 0} (m n : Run A) : Type 0 where
  by : (w : World) → AsUnlessWaits (m w) (n w)

follows_bind : {A B : Type 0} (o p : Out A) (f g : A → Run B) → AsUnlessWaits o p → ((a : A) → Follows (f a) (g a)) → AsUnlessWaits (and_then o f) (and_then p g)
follows_bind (going a x) p f g h k = subst (λ (z : Out _). AsUnlessWaits (f a x) (and_then z g)) (sym h) ((k a).by x)
follows_bind (over e x) p f g h k = ap (λ (z : Out _). and_then z g) h
follows_bind (waiting old x) p f g h k = tt

follows_same : {A : Type 0} (o : Out A) → AsUnlessWaits o o
follows_same (going a x) = refl
follows_same (over e x) = refl
follows_same (waiting old x) = tt

itself : {A : Type 0} (m : Run A) → Follows m m
itself m = record { by = λ w. follows_same (m w) }

kept : Kept (λ A m n. Follows m n)
unfolding looping
kept = record {
  at_pure = λ A a. record { by = λ w. refl };
  at_stop = λ A e. record { by = λ w. refl };
  at_bind = λ A B m n f g h k. record { by = λ w. follows_bind (m w) (n w) f g (h.by w) k };
  at_unit = itself unit;
  at_load = λ slot at. itself (load slot at);
  at_store = λ slot at v. itself (store slot at v);
  at_make = λ ty count. itself (make ty count);
  at_attach = λ slot number. itself (attach slot number);
  at_object = λ slot. itself (object_of slot);
  at_scope = λ A m n h. record { by = λ w. follows_bind (m w) (n w) _ _ (h.by w) (λ a. itself (λ x. and_then (cut (length w.objects) x) (λ u. λ y. going a y))) };
  at_frame = λ A m n h. record { by = λ w. follows_bind (m (record w { frame = [] })) (n (record w { frame = [] })) _ _ (h.by (record w { frame = [] })) (λ a. itself (λ x. and_then (swap w.frame x) (λ u. λ y. going a y))) };
  at_get = itself get_byte;
  at_scan = itself scan;
  at_put = λ text v. itself (put_text text v);
  at_loop = λ s t h k. record { by = λ w. (k (suc w.units)).by w };
}

-- holes at which every run waits
abbrev waits_there : Filling
waits_there old w = waiting old w

waits_steady : IsSteady waits_there
waits_steady = record { by = λ old w. keeps_refl every_slot w }

none_contained : {X : Type 0} (xs : List X) (x : X) → xs ≡ [] → Contains xs x → ⊥
none_contained {X = X} xs x e h = All-contains (λ (z : X). ⊥) [] x (All-nil (λ (z : X). ⊥)) (subst (λ (l : List X). Contains l x) e h)

-- what two come to, where they come to what another does, which doesn't wait
same_end : {A : Type 0} (o p q : Out A) → ((old : Option ℤ) (x : World) → o ≡ waiting old x → ⊥) → AsUnlessWaits o p → AsUnlessWaits o q → p ≡ q
same_end (going a x) p q goes h k = h ∙ sym k
same_end (over e x) p q goes h k = h ∙ sym k
same_end (waiting old x) p q goes h k = absurd (goes old x refl)

pub no-hole-met : NoHoleIsMet
no-hole-met p checked none f g w =
    let follows : (h : Filling) → AsUnlessWaits (run_program waits_there p w) (run_program h p w) =
    λ h. (program_related (λ A m n. Follows m n) kept waits_there h (λ old. record { by = λ x. tt }) p).by w in
    same_end (run_program waits_there p w) (run_program f p w) (run_program g p w)
    (λ old x e. let one = holes-typed p checked waits_there waits_steady old w x e in none_contained (holes p) one.scope none one.is_scope) (follows f) (follows g)

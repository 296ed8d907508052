-- What a run over a list does next.
use Rattle.std.proofs.Common.{◌≡◌, ℕ, suc, ◌+◌, ◌<◌, ℤ, Option, Err, Vec, Global, List, [], ◌∷◌, ◌++◌, length, get_or, drop, refl, sym, ap, ◌∙◌, add-one, drop-cons, append_assoc}
use Rattle.c_tree.specs.declared.program.Param.{Param}
use Rattle.c_tree.specs.declared.expr.Arg.{Arg}
use Rattle.c_tree.specs.declared.expr.Arg.TheVariants.{Value', Format, Address'}
use Rattle.c_tree.specs.declared.stmt.Item.{Item}
use Rattle.c_tree.specs.Views.{node_tree, args_of, with_arg, with_item, body_of}
use Rattle.c_tree.specs.Tree.{Args, no_args, Outer}
use Rattle.c_meaning.specs.declared.argument.Argument.{Argument}
use Rattle.c_meaning.specs.declared.argument.Argument.TheVariants.{Format as Text, Place}
use Rattle.c_meaning.specs.declared.stop.End.{End}
use Rattle.c_meaning.specs.declared.stop.Stop.{Stop}
use Rattle.c_meaning.specs.declared.stop.Stop.TheVariants.{Over, Memory}
use Rattle.c_meaning.specs.World.{World, Out, going, over, waiting, Run, pure, used, and_then, ◌>>=◌, Gives}
use Rattle.c_meaning.specs.Meaning.{slot_of, takes_array, rest_of, passed, eval, index_of, evals}

-- the arguments that are there already, and then those of a run
abbrev pub with_prefix : List Argument → Run (List Argument) → Run (List Argument)
with_prefix gs m = m >>= (λ bs. pure (gs ++ bs))

front_twice : (gs : List Argument) (a : Argument) (o : Out (List Argument)) → and_then (and_then o (λ bs. pure (a ∷ bs))) (λ bs. pure (gs ++ bs)) ≡ and_then o (λ bs. pure ((gs ++ a ∷ []) ++ bs))
front_twice gs a (going bs w) = ap (λ z. going z w) (sym (append_assoc gs (a ∷ []) bs))
front_twice gs a (over e w) = refl
front_twice gs a (waiting old w) = refl

pub rest_args : (args : List Arg) (i : ℕ) (x : Arg) → i < length args → x ≡ get_or args i x → args_of (drop i args) ≡ with_arg x (args_of (drop (i + 1) args))
rest_args args i x lt e = rw add-one (ap args_of (drop-cons args i x lt) ∙ ap (λ z. with_arg z (args_of (drop (suc i) args))) (sym e))

pub rest_items : (items : List Item) (i : ℕ) (x : Item) → i < length items → x ≡ get_or items i x → body_of (drop i items) ≡ with_item x (body_of (drop (i + 1) items))
rest_items items i x lt e = rw add-one (ap body_of (drop-cons items i x lt) ∙ ap (λ z. with_item z (body_of (drop (suc i) items))) (sym e))

-- one argument alone, and one before others
one_going : {A : Type 0} (o : Out A) (f : A → Argument) (m : Run (List Argument)) (a : Argument) (y : World) → and_then o (λ v. pure (f v ∷ [])) ≡ going (a ∷ []) y → and_then o (λ v. m >>= (λ bs. pure (f v ∷ bs))) ≡ and_then (m y) (λ bs. pure (a ∷ bs))
one_going (going v x) f m a y h = let e : f v ≡ a = cc in let w : x ≡ y = cc in ap (λ b. and_then (m x) (λ bs. pure (b ∷ bs))) e ∙ ap (λ z. and_then (m z) (λ bs. pure (a ∷ bs))) w
one_going (over e x) f m a y h = absurd (cc)
one_going (waiting old x) f m a y h = absurd (cc)

one_over : {A : Type 0} (o : Out A) (f : A → Argument) (m : Run (List Argument)) (d : End) (y : World) → and_then o (λ v. pure (f v ∷ [])) ≡ over d y → and_then o (λ v. m >>= (λ bs. pure (f v ∷ bs))) ≡ over d y
one_over (going v x) f m d y h = absurd (cc)
one_over (over e x) f m d y h = h
one_over (waiting old x) f m d y h = absurd (cc)

module _ (filling : Option ℤ → Run ℤ) (program : List Outer) (called : List ℕ → List Argument → Run (Option ℤ)) where
  argument_goes : (ps : List Param) (x : Arg) (rest : Args) (a : Argument) (w y : World) → evals filling program called ps (with_arg x no_args) w ≡ going (a ∷ []) y
      → evals filling program called ps (with_arg x rest) w ≡ and_then (evals filling program called (rest_of ps) rest y) (λ bs. pure (a ∷ bs))
  argument_goes ps (Value' e s) rest a w y h = one_going (passed (takes_array ps) (slot_of (node_tree e s)) (used (eval filling program called (node_tree e s))) w) (λ v. v) (evals filling program called (rest_of ps) rest) a y h
  argument_goes ps (Format f s) rest a w y h =
      let e : Text f ≡ a = cc in
      let v : w ≡ y = cc in
      ap (λ b. and_then (evals filling program called (rest_of ps) rest w) (λ bs. pure (b ∷ bs))) e ∙ ap (λ z. and_then (evals filling program called (rest_of ps) rest z) (λ bs. pure (a ∷ bs))) v
  argument_goes ps (Address' e s) rest a w y h = one_going (index_of filling program called (node_tree e s) w) (λ i. Place (slot_of (node_tree e s)) i) (evals filling program called (rest_of ps) rest) a y h

  argument_ends : (ps : List Param) (x : Arg) (rest : Args) (d : End) (w y : World) → evals filling program called ps (with_arg x no_args) w ≡ over d y → evals filling program called ps (with_arg x rest) w ≡ over d y
  argument_ends ps (Value' e s) rest d w y h = one_over (passed (takes_array ps) (slot_of (node_tree e s)) (used (eval filling program called (node_tree e s))) w) (λ v. v) (evals filling program called (rest_of ps) rest) d y h
  argument_ends ps (Format f s) rest d w y h = absurd (cc)
  argument_ends ps (Address' e s) rest d w y h = one_over (index_of filling program called (node_tree e s) w) (λ i. Place (slot_of (node_tree e s)) i) (evals filling program called (rest_of ps) rest) d y h

  -- one more argument
  pub one_argument : (ps : List Param) (x : Arg) (rest : Args) (gs : List Argument) (a : Argument) (w y : World) → evals filling program called ps (with_arg x no_args) w ≡ going (a ∷ []) y
      → with_prefix gs (evals filling program called ps (with_arg x rest)) w ≡ with_prefix (gs ++ a ∷ []) (evals filling program called (rest_of ps) rest) y
  one_argument ps x rest gs a w y h = ap (λ o. and_then o (λ bs. pure (gs ++ bs))) (argument_goes ps x rest a w y h) ∙ front_twice gs a (evals filling program called (rest_of ps) rest y)

  -- an argument that has no value
  pub no_argument : (ps : List Param) (x : Arg) (rest : Args) (gs : List Argument) (d : End) (w y : World) → evals filling program called ps (with_arg x no_args) w ≡ over d y
      → with_prefix gs (evals filling program called ps (with_arg x rest)) w ≡ over d y
  no_argument ps x rest gs d w y h = ap (λ o. and_then o (λ bs. pure (gs ++ bs))) (argument_ends ps x rest d w y h)

  -- the same, also where memory ran out
  pub no_argument_given : (ps : List Param) (x : Arg) (rest : Args) (gs : List Argument) (s : Stop) (w y : World) → Gives {X = Argument} (λ a. a ∷ []) (Err s) y (evals filling program called ps (with_arg x no_args) w)
      → Gives {X = Vec Argument Global} (λ v. v.items) (Err s) y (with_prefix gs (evals filling program called ps (with_arg x rest)) w)
  no_argument_given ps x rest gs (Over d) w y h = no_argument ps x rest gs d w y h
  no_argument_given ps x rest gs (Memory a) w y h = tt

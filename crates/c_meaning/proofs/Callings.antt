-- Calls of the functions of a program.
use Rattle.std.proofs.Common.{◌≡◌, ℕ, zero, suc, ◌-◌, ◌<◌, ℤ, List, [], length, take, Option, Some, None, refl, sym, ap, ◌∙◌, arith}
use Rattle.c_tree.specs.Tree.{Body, Function, Outer}
use Rattle.c_meaning.specs.declared.argument.Argument.{Argument}
use Rattle.c_meaning.specs.declared.stop.End.TheVariants.{Trapped, Depth}
use Rattle.c_meaning.specs.declared.stop.Flow.{Flow}
use Rattle.c_meaning.specs.World.{World, Out, going, over, waiting, Run, pure, and_then, ◌>>=◌}
use Rattle.c_meaning.specs.Steps.{unit, cut, swap, scoped, framed}
use Rattle.c_meaning.specs.Meaning.{run_body, bind_params, result_of, enter_body, enter, user_call, calls, no_hole}

-- a call where another may be live
pub user_is : (program : List Outer) (left : ℕ) (f : Option Function) (gs : List Argument) → 0 < left → user_call no_hole program left f gs ≡ enter (run_body no_hole program (calls no_hole program (left - 1))) f gs
unfolding user_call
user_is program zero f gs h = absurd (omega arith)
user_is program (suc n) f gs h = let less : suc n - 1 ≡ n = omega arith in ap (λ k. enter (run_body no_hole program (calls no_hole program k)) f gs) (sym less)

-- a call where no other may be live
pub user_stops : (program : List Outer) (left : ℕ) (f : Option Function) (gs : List Argument) (w : World) → left ≡ 0 → user_call no_hole program left f gs w ≡ over Depth w
unfolding user_call
user_stops program left f gs w h = ap (λ n. user_call no_hole program n f gs w) h

-- a call of what isn't defined
pub user_missing : (program : List Outer) (left : ℕ) (f : Option Function) (gs : List Argument) (w : World) → 0 < left → f ≡ None → user_call no_hole program left f gs w ≡ over Trapped w
user_missing program left f gs w some h = ap (λ (m : Run (Option ℤ)). m w) (user_is program left f gs some) ∙ ap (λ o. enter (run_body no_hole program (calls no_hole program (left - 1))) o gs w) h

pub user_bodyless : (program : List Outer) (left : ℕ) (f : Function) (gs : List Argument) (w : World) → 0 < left → f.body ≡ None → user_call no_hole program left (Some f) gs w ≡ over Trapped w
user_bodyless program left f gs w some h = ap (λ (m : Run (Option ℤ)). m w) (user_is program left (Some f) gs some) ∙ ap (λ o. enter_body (run_body no_hole program (calls no_hole program (left - 1))) f o gs w) h

-- a call begins with a unit
pub user_starts : (program : List Outer) (left : ℕ) (f : Function) (body : Body) (gs : List Argument) (w : World) → 0 < left → f.body ≡ Some body
    → user_call no_hole program left (Some f) gs w ≡ and_then (unit w) (λ u. framed (scoped (bind_params f.params gs >>= (λ u. run_body no_hole program (calls no_hole program (left - 1)) body))) >>= (λ flow. pure (result_of f flow)))
user_starts program left f body gs w some h = ap (λ (m : Run (Option ℤ)). m w) (user_is program left (Some f) gs some) ∙ ap (λ o. enter_body (run_body no_hole program (calls no_hole program (left - 1))) f o gs w) h

-- a state in which a body's objects and variables are gone
abbrev pub restored : World → World → World
restored x z = record z { objects = take (length x.objects) z.objects; frame = x.frame }

framed_out : (o : Out Flow) (x : World) (f : Function) → and_then (and_then (and_then o (λ flow. cut (length x.objects) >>= (λ u. pure flow))) (λ flow. swap x.frame >>= (λ inner. pure flow))) (λ flow. pure (result_of f flow)) ≡ and_then o (λ flow z. going (result_of f flow) (restored x z))
framed_out (going flow z) x f = refl
framed_out (over e z) x f = refl
framed_out (waiting old z) x f = refl

module _ (program : List Outer) (left : ℕ) (f : Function) (body : Body) (gs : List Argument) (w x y : World) (some : 0 < left) (has : f.body ≡ Some body) (eu : unit w ≡ going tt x) (frame : y ≡ record x { frame = [] }) where
  pub inside : user_call no_hole program left (Some f) gs w ≡ and_then (and_then (bind_params f.params gs y) (λ u. run_body no_hole program (calls no_hole program (left - 1)) body)) (λ flow z. going (result_of f flow) (restored x z))
  inside =
      user_starts program left f body gs w some has
      ∙ ap (λ o. and_then o (λ u. framed (scoped (bind_params f.params gs >>= (λ u. run_body no_hole program (calls no_hole program (left - 1)) body))) >>= (λ flow. pure (result_of f flow)))) eu
      ∙ framed_out (and_then (bind_params f.params gs (record x { frame = [] })) (λ u. run_body no_hole program (calls no_hole program (left - 1)) body)) x f
      ∙ ap (λ z. and_then (and_then (bind_params f.params gs z) (λ u. run_body no_hole program (calls no_hole program (left - 1)) body)) (λ flow z. going (result_of f flow) (restored x z))) (sym frame)

  -- where the parameters have their objects
  pub goes_into : (z : World) → bind_params f.params gs y ≡ going tt z → user_call no_hole program left (Some f) gs w ≡ and_then (run_body no_hole program (calls no_hole program (left - 1)) body z) (λ flow z. going (result_of f flow) (restored x z))
  goes_into z h = inside ∙ ap (λ o. and_then (and_then o (λ u. run_body no_hole program (calls no_hole program (left - 1)) body)) (λ flow z. going (result_of f flow) (restored x z))) h

  -- the body goes on
  pub call_gives : (flow : Flow) (z v : World) → bind_params f.params gs y ≡ going tt z → run_body no_hole program (calls no_hole program (left - 1)) body z ≡ going flow v
      → user_call no_hole program left (Some f) gs w ≡ going (result_of f flow) (restored x v)
  call_gives flow z v h b = goes_into z h ∙ ap (λ o. and_then o (λ flow z. going (result_of f flow) (restored x z))) b

-- the state rest_of a call
pub after_call : (x y z v t : World) (n : ℕ) (outer : List (Option ℕ)) → y ≡ record x { frame = [] } → n ≡ length y.objects → v ≡ record z { objects = take n z.objects } → outer ≡ x.frame → t ≡ record v { frame = outer } → restored x z ≡ t
after_call x y z v t n outer ey en ev eo et =
    let same : n ≡ length x.objects = en ∙ ap (λ (q : World). length q.objects) ey in
    sym (et ∙ ap (λ o. record v { frame = o }) eo ∙ ap (λ (q : World). record q { frame = x.frame }) ev ∙ ap (λ k. record z { objects = take k z.objects; frame = x.frame }) same)

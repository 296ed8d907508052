-- The objects of variables and parameters.
use Rattle.std.proofs.Common.{◌≡◌, ℕ, suc, ◌+◌, ◌-◌, ◌<◌, ℤ, pos, List, [], ◌∷◌, length, ap, ◌∙◌, arith}
use Rattle.c_tree.specs.declared.program.Param.{Param}
use Rattle.c_tree.specs.declared.stmt.Slot.{Slot}
use Rattle.c_meaning.specs.declared.argument.Argument.{Argument}
use Rattle.c_meaning.specs.declared.stop.End.TheVariants.{Trapped}
use Rattle.c_meaning.specs.World.{World, going, over, and_then}
use Rattle.c_meaning.specs.Steps.{store}
use Rattle.c_meaning.specs.Meaning.{store_zeros, bind_params}

-- one more zero
pub clear_more : (slot : Slot) (at to : ℕ) (v : ℤ) (w x : World) → at < to → store slot (pos at) (pos 0) w ≡ going v x → store_zeros slot at (to - at) w ≡ store_zeros slot (at + 1) (to - (at + 1)) x
clear_more slot at to v w x lt e =
    let n : to - at ≡ suc (to - (at + 1)) = omega arith in
    let k : suc at ≡ at + 1 = omega arith in
    ap (λ m. store_zeros slot at m w) n ∙ ap (λ m. and_then (store slot (pos at) (pos 0) w) (λ v. store_zeros slot m (to - (at + 1)))) k ∙ ap (λ o. and_then o (λ v. store_zeros slot (at + 1) (to - (at + 1)))) e

-- parameters that get no argument
pub none_left : (ps : List Param) (gs : List Argument) (w : World) → 0 < length ps → gs ≡ [] → bind_params ps gs w ≡ over Trapped w
none_left [] gs w h e = absurd (omega arith)
none_left (p ∷ ps) gs w h e = ap (λ z. bind_params (p ∷ ps) z w) e

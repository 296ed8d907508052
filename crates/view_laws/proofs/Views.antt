-- What a machine shows where it says that a hole is due.
use Rattle.std.proofs.Common.{◌≡◌, ℕ, zero, suc, ℤ, pos, negsuc, Bool, List, [], ◌∷◌, length, Option, Some, option_map, slice_get, is_some, IsSomeAnd, sym, ap, subst, ◌∙◌, All}
use Rattle.std.proofs.lemmas.List.Elements.{All-head, All-tail, All-weaker}
use Rattle.c_tree.specs.declared.place.Loc.{Loc}
use Rattle.c_tree.specs.declared.stmt.Slot.{Slot}
use Rattle.c_tree.specs.declared.stmt.Ty.{Ty}
use Rattle.c_tree.specs.Tree.{Outer}
use Rattle.c_types.specs.declared.visible.Visible.{Visible}
use Rattle.c_types.specs.Reads.{Object, initialised, element_of, element_at}
use Rattle.c_types.specs.Visible.{visible_at}
use Rattle.c_meaning.specs.Filled.{filled}
use Rattle.c_meaning.specs.Laws.{FitsCell}
use Rattle.c_meaning.specs.Steps.{object_at}
use Rattle.c_meaning.specs.World.{World, Out, going, over, waiting}
use Rattle.c_meaning.specs.Ends.{outcome_of}
use Rattle.run_laws.specs.Laws.{ShowsVariable}
use Rattle.hole_laws.specs.Laws.{ShowsName, ShowsLocation, FilledRunsShowLocations}
use Rattle.hole_laws.specs.Places.{part_uses}
use Rattle.interp.specs.declared.machine.Event.TheVariants.{Hole, End}
use Rattle.interp.specs.Following.{MachinesFollow}
use Rattle.interp.specs.Future.{event_of, world_at}
use Rattle.interp.specs.Seen.{seen, cells_in}
use Rattle.view_laws.specs.Laws.{StatesShowLocations, IsReadable, IsReadableName, ReadsLocation, ViewsReadLocations}

-- ---- the state at the hole

-- a run of which the event is a hole waits
waits : (wanted : ℕ) (o : Out ℤ) (old : Option ℤ) → event_of wanted o ≡ Hole old → o ≡ waiting old (world_at o)
waits wanted (going v w) old e = let f : End (outcome_of wanted (going v w)) ≡ Hole old = e in absurd (cc)
waits wanted (over end w) old e = let f : End (outcome_of wanted (over end w)) ≡ Hole old = e in absurd (cc)
waits wanted (waiting before w) old e =
    let f : Hole before ≡ Hole old = e in
    let same : before ≡ old = cc in
    ap (λ (z : Option ℤ). waiting z w) same

pub states_show : MachinesFollow → FilledRunsShowLocations → StatesShowLocations
states_show follow show m p l h =
    let says = follow.says m h.code h.test h.limit h.given h.follows in
    let run : Out ℤ = filled p (Some l) h.test h.limit h.given in
    let due : event_of h.test.status run ≡ Hole h.old = sym (says.event p (Some l) h.stands) ∙ h.due in
    subst (ShowsLocation p l) (sym (says.state p (Some l) h.stands))
    (show p h.checked h.ordered l h.location h.test h.limit h.given h.old (world_at run) (waits h.test.status run h.old due))

-- ---- what can be read in it

module _ (ty : Ty) where
  element_fits : (cells : Object) → All (FitsCell ty) cells → (n : ℕ) → FitsCell ty (initialised (slice_get cells n))
  element_fits [] h n = tt
  element_fits (cell ∷ cells) h zero = All-head (FitsCell ty) cell cells h
  element_fits (cell ∷ cells) h (suc n) = element_fits cells (All-tail (FitsCell ty) cell cells h) n

  index_fits : (cells : Object) → All (FitsCell ty) cells → (index : ℤ) → FitsCell ty (element_of cells index)
  index_fits cells h (pos n) = element_fits cells h n
  index_fits cells h (negsuc n) = tt

-- what is shown can be read
readable : (w : World) (slot : Slot) (ty : Ty) (array : Bool) → ShowsVariable w slot ty array → IsReadable w slot ty array
readable w slot ty array h =
    let cells : Object = h.has.object.cells in
    let shown : cells_in slot w ≡ Some cells =
    ap (λ n. option_map (λ object. object.cells) (object_at n w)) h.has.names
    ∙ ap (option_map (λ object. object.cells)) h.has.lives in
    record {
      cells = cells;
      shown = shown;
      single = h.has.single;
      values = h.values;
      scalar = λ e. subst (λ (o : Option Object). IsSomeAnd o (λ object. length object ≡ 1)) (sym shown) (h.has.single e);
      element = ap (is_some {T = Object}) shown;
      fits = λ index. subst (λ (o : Option Object). FitsCell ty (element_at o index)) (sym shown) (index_fits ty cells h.values index);
    }

reads_location : (p : List Outer) (l : Loc) (w : World) → ShowsLocation p l w → ReadsLocation p l w
reads_location p l w h = record {
  visible =
      All-weaker (λ (v : Visible). ShowsVariable w v.slot v.ty v.array) (λ (v : Visible). IsReadable w v.slot v.ty v.array)
      (λ v k. readable w v.slot v.ty v.array k) (visible_at l.at.from p) h.visible;
  hole = h.hole;
  named =
      All-weaker (ShowsName w) (IsReadableName w)
      (λ u k. record { ty = k.ty; array = k.array; denotes = k.denotes; readable = readable w u.slot k.ty k.array k.shows; indexed = k.indexed })
      (part_uses h.hole.scope h.hole.stands.initialised h.hole.stands.part) h.named;
}

pub views_read : StatesShowLocations → ViewsReadLocations
views_read law m p l h view is = reads_location p l (seen view) (subst (ShowsLocation p l) (sym is) (law m p l h))

use Rattle.std.proofs.Common.{◌≡◌, ℕ, List, [], map, length}
use Rattle.c_tree.specs.Views.{outer}
use Rattle.c_types.specs.Programs.{is_defined}
use Rattle.c_types.specs.Scopes.{here, outside}
use Rattle.c_types.specs.Slots.{resolved_outers, resolved}
use Rattle.c_types.proofs.ResolveLemmas.{listed}
use Rattle.c_types.proofs.resolve_file.resolve_externals.Given as goal

-- what stands before is resolved, and the rest is not; the same functions are defined
abbrev pub invariant-loop-i : goal.invariant-loop-i
invariant-loop-i l = record {
  resolved : listed outer (resolved_outers (map outer l.fn.externals) (here l.scope) l.next) l.externals l.i ≡ resolved (map outer l.fn.externals);
  outside : outside l.scope ≡ [];
  defined : (w : List ℕ) → is_defined (map outer l.externals) w ≡ is_defined (map outer l.fn.externals) w;
  long : length l.externals ≡ length l.fn.externals;
}

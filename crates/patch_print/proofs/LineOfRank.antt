-- The line of the patch of a rank.
use Rattle.std.proofs.Common.{◌≡◌, ℕ, ◌≤◌, List, [], length, Option, Some, None, sym, ap, ◌∙◌}
use Rattle.std.specs.Prelude.{slice_get, option_map, unwrap_or}
use Rattle.std.proofs.lemmas.Option.{slice_get_past, same_Some}
use Rattle.c_lex.specs.Bytes.{Bytes}
use Rattle.c_tree.specs.declared.place.Loc.{Loc}
use Rattle.c_tree.specs.Tree.{Outer}
use Rattle.patch_space.specs.Contents.{Contents}
use Rattle.patch_space.specs.Space.{Change, changed}
use Rattle.patch_space.specs.declared.patch.Patch.{Patch}
use Rattle.patch_print.specs.Lines.{line_with_change, patched_line, line_of_rank}

module _ (source : Bytes) (p : List Outer) (s : Contents) (i : ℕ) where
  -- it is that of the change that the patch of the rank makes
  pub line_made : (patch : Patch) (there : Option (Loc × Change))
      → slice_get s.patches i ≡ Some patch
      → option_map (changed p s.locations) (slice_get s.patches i) ≡ Some there
      → line_with_change source patch.cost there ≡ line_of_rank source p s i
  line_made patch there is made =
      let found : Some (changed p s.locations patch) ≡ Some there =
      sym (ap (option_map (changed p s.locations)) is) ∙ made in
      let same : changed p s.locations patch ≡ there =
      same_Some (changed p s.locations patch) there found in
      sym
      (ap (λ o. unwrap_or (option_map (patched_line source p s.locations) o) []) is
      ∙ ap (line_with_change source patch.cost) same)

  -- where no patch has the rank, it is empty
  pub line_missing : length s.patches ≤ i → [] ≡ line_of_rank source p s i
  line_missing past =
      sym
      (ap (λ o. unwrap_or (option_map (patched_line source p s.locations) o) [])
      (slice_get_past s.patches i past))

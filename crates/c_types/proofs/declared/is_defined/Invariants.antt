use Rattle.std.proofs.Common.{◌≡◌, drop, map}
use Rattle.c_tree.specs.Views.{outer}
use Rattle.c_types.specs.Programs.{is_defined}
use Rattle.c_types.proofs.declared.is_defined.Given as goal

-- the answer is the one for what is left
abbrev pub invariant-loop-external : goal.invariant-loop-external
invariant-loop-external l = is_defined (map outer l.file) l.word ≡ is_defined (map outer (drop l.external-index l.file)) l.word

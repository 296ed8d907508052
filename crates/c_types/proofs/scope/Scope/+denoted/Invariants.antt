use Rattle.std.proofs.Common.{◌≡◌, ◌++◌, take}
use Rattle.std.specs.Prelude.{reverse}
use Rattle.c_types.specs.declared.scope.Scope.TheViews.{out-Scope}
use Rattle.c_types.specs.Scopes.{denoted, outside, in_scope}
use Rattle.c_types.proofs.scope.Scope.+denoted.Given as goal

-- the word isn't among the declarations that were passed
abbrev pub invariant-loop-i : goal.invariant-loop-i
invariant-loop-i l = denoted (reverse (take l.i (out-Scope l.self).here.items) ++ outside l.self) l.word ≡ denoted (in_scope l.self) l.word

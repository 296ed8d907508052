use Rattle.std.proofs.Common.{◌≡◌, ◌+◌, length, drop}
use Rattle.c_types.specs.Programs.{params_declared}
use Rattle.c_types.specs.Scopes.{here, outside}
use Rattle.c_types.specs.Slots.{numbered_params}
use Rattle.c_types.proofs.ResolveLemmas.{listed}
use Rattle.c_types.proofs.resolve_file.resolve_params.Given as goal

-- those so far are numbered and declared, and the others are not
abbrev pub invariant-loop-param : goal.invariant-loop-param
invariant-loop-param l = record {
  resolved : listed (λ p. p) (numbered_params l.next) l.param-items l.param-index ≡ numbered_params l.fn.next l.initial.param-items;
  here : params_declared (numbered_params l.next (drop l.param-index l.param-items)) (here l.scope) ≡ params_declared (numbered_params l.fn.next l.initial.param-items) (here l.fn.scope);
  outside : outside l.scope ≡ outside l.fn.scope;
  next : l.next + length (drop l.param-index l.param-items) ≡ l.fn.next + length l.initial.param-items;
}

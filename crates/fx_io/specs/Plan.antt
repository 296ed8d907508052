-- Calls that are numbered from 0, and those of them that are to fail.
use Rattle.std.specs.Prelude.{ℕ, List, Bool, ◌==◌, if◌then◌else◌}
use Rattle.std.specs.List.{list_any}
use Rattle.fx_io.specs.Faults.{one_more}

-- the numbers of the calls that fail, how many calls were made, and how many failures were counted
pub record Plan : Type 0 where
  pub failing : List ℕ
  pub calls : ℕ
  pub faults : ℕ

-- before the first call
abbrev pub first_plan : List ℕ → Plan
first_plan failing = record { failing = failing; calls = 0; faults = 0 }

-- whether the next call is to fail: its number is one of the failing
abbrev pub fails_next : Plan → Bool
fails_next plan = list_any (λ n. n == plan.calls) plan.failing

-- after one call more, which didn't fail
abbrev pub after_call : Plan → Plan
after_call plan = record { failing = plan.failing; calls = one_more plan.calls; faults = plan.faults }

-- after one call more, which failed
abbrev pub after_failure : Plan → Plan
after_failure plan =
    record { failing = plan.failing; calls = one_more plan.calls; faults = one_more plan.faults }

-- after one call more, which failed if it was to
abbrev pub after_next : Plan → Plan
after_next plan = if fails_next plan then after_failure plan else after_call plan

-- From the verdict of the descent to what the grammar says.
use Rattle.std.proofs.Common.{◌≡◌, ℕ, Result, Ok, Err, IfOk, IfErr, refl, sym, subst}
use Rattle.c_tree.specs.declared.program.Program.{Program}
use Rattle.c_tree.specs.Views.{program}
use Rattle.c_grammar.specs.Grammar.{Tokens}
use Rattle.c_grammar.specs.Programs.{Derives}
use Rattle.c_grammar.specs.Judge.{Verdict, good, unexpected_at, too_deep_at, Judged, judge}
use Rattle.c_grammar.proofs.TooDeep.{deep_passes}
use Rattle.c_grammar.proofs.Verdicts.{judge_ok, judge_is}
use Rattle.c_parse.specs.declared.fault.ParseFault.{ParseFault}
use Rattle.c_parse.specs.declared.fault.ParseFault.TheVariants.{Unexpected, TooDeep, NoMemory}
use Rattle.c_parse.specs.Results.{place_of, IsFirstFault, MatchesVerdict}

-- where memory fails nothing is said
pub no_memory : (end : ℕ) (v : Verdict) → MatchesVerdict end v (Err NoMemory)
no_memory end (good q) = refl
no_memory end (unexpected_at b) = λ h. absurd (h refl)
no_memory end (too_deep_at b) = λ h. absurd (h refl)

derived_by : (end : ℕ) (a : Tokens) (v : Verdict) (r : Result Program ParseFault) → Judged 64 a v → MatchesVerdict end v r → IfOk r (λ p. Derives 64 a (program p))
derived_by end a (good q) (Ok p) j s = subst (Derives 64 a) (sym s) j
derived_by end a (unexpected_at b) (Ok p) j s = absurd s
derived_by end a (too_deep_at b) (Ok p) j s = absurd s
derived_by end a v (Err e) j s = tt

refused_by : (end : ℕ) (a : Tokens) (v : Verdict) (r : Result Program ParseFault) → Judged 64 a v → MatchesVerdict end v r → IfErr r (λ e. IsFirstFault end a e)
refused_by end a v (Ok p) j s = tt
refused_by end a v (Err NoMemory) j s = tt
refused_by end a (good q) (Err (Unexpected at)) j s = absurd (cc)
refused_by end a (good q) (Err (TooDeep at)) j s = absurd (cc)
refused_by end a (unexpected_at b) (Err (Unexpected at)) j s = let h : Unexpected at ≡ Unexpected (place_of end b) = s (λ e. absurd (cc)) in (b, cc, j)
refused_by end a (unexpected_at b) (Err (TooDeep at)) j s = let h : TooDeep at ≡ Unexpected (place_of end b) = s (λ e. absurd (cc)) in absurd (cc)
refused_by end a (too_deep_at b) (Err (Unexpected at)) j s = let h : Unexpected at ≡ TooDeep (place_of end b) = s (λ e. absurd (cc)) in absurd (cc)
refused_by end a (too_deep_at b) (Err (TooDeep at)) j s = let h : TooDeep at ≡ TooDeep (place_of end b) = s (λ e. absurd (cc)) in (b, cc, deep_passes 64 a b j)

-- what is read is derived
pub derived : (end : ℕ) (a : Tokens) (r : Result Program ParseFault) → MatchesVerdict end (judge 64 a) r → IfOk r (λ p. Derives 64 a (program p))
derived end a r s = derived_by end a (judge 64 a) r (judge_ok 64 a) s

-- what is refused has that fault
pub refused : (end : ℕ) (a : Tokens) (r : Result Program ParseFault) → MatchesVerdict end (judge 64 a) r → IfErr r (λ e. IsFirstFault end a e)
refused end a r s = refused_by end a (judge 64 a) r (judge_ok 64 a) s

-- each verdict that the grammar admits is answered
pub answered : (end : ℕ) (a : Tokens) (v : Verdict) (r : Result Program ParseFault) → MatchesVerdict end (judge 64 a) r → Judged 64 a v → MatchesVerdict end v r
answered end a v r s j = subst (λ v. MatchesVerdict end v r) (judge_is 64 a v j) s

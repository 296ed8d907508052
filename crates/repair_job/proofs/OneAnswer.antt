-- A job has one right answer at most, with one text.
use Rattle.std.proofs.Common.{◌≡◌, ℕ, ◌<◌, List, take, length, get_or, ap, sym, subst, ◌∙◌, arith, refl}
use Rattle.std.specs.Prelude.{Some, slice_get}
use Rattle.std.specs.List.{All}
use Rattle.std.proofs.lemmas.List.{length-take, get_or-take}
use Rattle.std.proofs.lemmas.List.Elements.{All-get_or}
use Rattle.std.proofs.lemmas.Option.{slice_get_within, get_or_from_slice_get, same_Some}
use Rattle.repair_job.specs.Job.{Job}
use Rattle.repair_job.specs.Answers.{IsFirstRepair, Repairs}
use Rattle.repair_job.specs.Patches.{Patch, patches}
use Rattle.repair_job.specs.Laws.{OneAnswer, OneText}
use Rattle.repair_job.specs.declared.answer.Answer.TheVariants as answer

-- what holds of each element holds of the one that is found at a place
All-found : (P : Patch → Type 0) (ps : List Patch) (i : ℕ) (p : Patch) → slice_get ps i ≡ Some p → All P ps → P p
All-found P ps i p found all = subst P (get_or_from_slice_get ps i p p found) (All-get_or P ps i p (slice_get_within ps i p found) all)

-- what holds of each element before a place holds of one that is found there
All-found_before : (P : Patch → Type 0) (ps : List Patch) (i n : ℕ) (p : Patch) → i < n → slice_get ps i ≡ Some p → All P (take n ps) → P p
All-found_before P ps i n p before found all =
    let within = slice_get_within ps i p found in
    let short : i < length (take n ps) = omega (arith, length-take n ps, within) in
    let same : get_or (take n ps) i p ≡ p = get_or-take n ps i p before ∙ get_or_from_slice_get ps i p p found in
    subst P same (All-get_or P (take n ps) i p short all)

-- no patch before the first that repairs does
not_before : (job : Job) (i j : ℕ) → IsFirstRepair job i → IsFirstRepair job j → i < j → ⊥
not_before job i j a b before = All-found_before (λ p. ¬ Repairs job p) (patches job) i j a.patch before a.ranked b.first a.repairs

-- there is one first at most
one_first : (job : Job) (i j : ℕ) → IsFirstRepair job i → IsFirstRepair job j → i ≡ j
one_first job i j a b =
    let left : i < j → ⊥ = not_before job i j a b in
    let right : j < i → ⊥ = not_before job j i b a in
    omega arith

-- one answer at most is right
pub one_right : OneAnswer
one_right job answer.Sound answer.Sound r s = refl
one_right job answer.Sound (answer.Patch j) r s = absurd (s.0 r)
one_right job answer.Sound answer.Nothing r s = absurd (s.0 r)
one_right job (answer.Patch i) answer.Sound r s = absurd (r.0 s)
one_right job (answer.Patch i) (answer.Patch j) r s = ap (λ n. answer.Patch n) (one_first job i j r.1 s.1)
one_right job (answer.Patch i) answer.Nothing r s = absurd (All-found (λ p. ¬ Repairs job p) (patches job) i r.1.patch r.1.ranked s.1 r.1.repairs)
one_right job answer.Nothing answer.Sound r s = absurd (r.0 s)
one_right job answer.Nothing (answer.Patch j) r s = absurd (All-found (λ p. ¬ Repairs job p) (patches job) j s.1.patch s.1.ranked r.1 s.1.repairs)
one_right job answer.Nothing answer.Nothing r s = refl

-- an answer has one text at most
pub one_text : OneText
one_text job answer.Sound t u x y = x ∙ sym y
one_text job (answer.Patch rank) t u x y = same_Some t u (sym x ∙ y)
one_text job answer.Nothing t u x y = x ∙ sym y

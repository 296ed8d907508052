-- What a call answers or refuses is settled by its words and files, and what is accepted is answered.
use Rattle.std.proofs.Common.{◌≡◌, ℕ, List, [], inl, inr, length, Result, Ok, Err, ap, sym, subst, ◌∙◌, refl, arith}
use Rattle.std.specs.Prelude.{Some, None, unwrap_or}
use Rattle.std.proofs.lemmas.Option.{same_Some}
use Rattle.fx_io.specs.Faults.{Rose}
use Rattle.fx_io.specs.Held.{file_named, IsContent}
use Rattle.c_tree.specs.Tree.{Outer}
use Rattle.c_stdio.specs.declared.test.Test.{Test}
use Rattle.test_suite.specs.declared.fault.SuiteFault.{SuiteFault}
use Rattle.test_suite.specs.Suite.{Stated, stated}
use Rattle.repair_job.specs.Job.{Job}
use Rattle.repair_job.specs.Answers.{IsRight}
use Rattle.repair_job.specs.Texts.{IsText}
use Rattle.repair_job.specs.declared.answer.Answer.{Answer}
use Rattle.repair_job.specs.declared.answer.Shown.{Shown}
use Rattle.repair_job.specs.declared.answer.Answer.TheVariants as answer
use Rattle.repair_job.proofs.OneAnswer.{one_right, one_text}
use Rattle.repair_cli.specs.Accepted.{IsProgram, IsSuite}
use Rattle.repair_cli.specs.Ends.{Ends, IsAnswer, status_of_answer}
use Rattle.repair_cli.specs.Faults.{Refuses}
use Rattle.repair_cli.specs.Laws.{given, OneSuite, OneSuiteFault, OneSuiteRefusal, NeverBothOfSuite, OneReply, OneEnd, IsSettled, AcceptedAreAnswered, IsAnswered}
use Rattle.repair_cli.specs.Sinks.{Seen, Takes}
use Rattle.repair_cli.specs.Source.{Files, File, States, Cause, IsUnreadable, HoldsSomeProgram, HoldsNoProgram, HoldsSuite, HoldsNoSuite}
use Rattle.repair_cli.specs.SuiteFaults.{IsSuiteFault, StatesNoSuite, suite_message}
use Rattle.repair_cli.specs.Texts.{usage}
use Rattle.repair_cli.specs.Words.{Asked, repair, command_in}
use Rattle.repair_cli.specs.declared.fault.TestsFault.{TestsFault}
use Rattle.repair_cli.specs.declared.fault.TestsFault.TheVariants.{Suite}
use Rattle.repair_cli.specs.declared.status.Status.{Status}
use Rattle.repair_cli.specs.declared.status.Status.TheVariants as status
use Rattle.repair_cli.proofs.Accepting.{one_program, one_refusal, never_both}
use Rattle.repair_cli.proofs.Commands.{one_asked}

-- ---- one job

-- a job of these parts
abbrev made : List ℕ → List Outer → List Test → ℕ → ℕ → Shown → Job
made source program tests limit most shown =
    record { source = source; program = program; tests = tests; limit = limit; most_patches = most; shown = shown }

-- jobs with the same parts are the same
same_job : (j k : Job) → j.source ≡ k.source → j.program ≡ k.program → j.tests ≡ k.tests → j.limit ≡ k.limit → j.most_patches ≡ k.most_patches
    → j.shown ≡ k.shown → j ≡ k
same_job j k s p t l m h =
    ap (λ x. made x j.program j.tests j.limit j.most_patches j.shown) s ∙ ap (λ x. made k.source x j.tests j.limit j.most_patches j.shown) p
    ∙ ap (λ x. made k.source k.program x j.limit j.most_patches j.shown) t ∙ ap (λ x. made k.source k.program k.tests x j.most_patches j.shown) l
    ∙ ap (λ x. made k.source k.program k.tests k.limit x j.shown) m ∙ ap (λ x. made k.source k.program k.tests k.limit k.most_patches x) h

-- a known file of one name has one content
one_content : (files : Files) (a b : List ℕ) (x y : List ℕ) → a ≡ b → file_named files a ≡ Some x → file_named files b ≡ Some y → x ≡ y
one_content files a b x y e p q = same_Some x y (sym p ∙ ap (file_named files) e ∙ q)

-- what a result gives is one thing at most
same_suite : (r : Result Stated SuiteFault) (a b : Stated) → r ≡ Ok a → r ≡ Ok b → a ≡ b
same_suite r a b x y = cc

-- bytes state one list of tests and one limit at most
pub one_suite : OneSuite
one_suite bytes tests tests' limit limit' a b =
    let one : Stated = record { tests = tests; limit = limit } in
    let other : Stated = record { tests = tests'; limit = limit' } in
    let same : one ≡ other = same_suite (stated bytes) one other a.states b.states in
    (ap (λ (s : Stated). s.tests) same, ap (λ (s : Stated). s.limit) same)

-- a suite that is stated isn't refused
never_refused : (r : Result Stated SuiteFault) (fault : SuiteFault) (a : Stated) → r ≡ Err fault → r ≡ Ok a → ⊥
never_refused r fault a x y = absurd (cc)

-- known files and words state one job at most
one_job : (words : List (List ℕ)) (files : Files) (m n m' n' : ℕ) (a b : Answer) (t u : List ℕ) (x : IsAnswer (given words files m n) a t) (y : IsAnswer (given words files m' n') b u)
    → x.job ≡ y.job
one_job words files m n m' n' a b t u x y =
    let i = x.stated in
    let j = y.stated in
    let asked = one_asked words i.asked j.asked i.valid j.valid in
    let source : x.job.source ≡ y.job.source =
    one_content files i.asked.program j.asked.program x.job.source y.job.source (ap (λ (k : Asked). k.program) asked) i.program.0 j.program.0 in
    let program : x.job.program ≡ y.job.program =
    one_program y.job.source x.job.program y.job.program (subst (λ w. IsProgram w x.job.program) source i.program.1) j.program.1 in
    let lists : i.suite.0 ≡ j.suite.0 =
    one_content files i.asked.suite j.asked.suite i.suite.0 j.suite.0 (ap (λ (k : Asked). k.suite) asked) i.suite.1 j.suite.1 in
    let same = one_suite j.suite.0 x.job.tests y.job.tests i.limit j.limit (subst (λ w. IsSuite w x.job.tests i.limit) lists i.suite.2) j.suite.2 in
    let tests : x.job.tests ≡ y.job.tests = same.0 in
    let own : i.limit ≡ j.limit = same.1 in
    let limit : x.job.limit ≡ y.job.limit =
    i.limit_is ∙ ap (λ l. unwrap_or i.asked.options.limit l) own ∙ ap (λ (k : Asked). unwrap_or k.options.limit j.limit) asked ∙ sym j.limit_is in
    let most : x.job.most_patches ≡ y.job.most_patches = i.patches_are ∙ ap (λ (k : Asked). k.options.patches) asked ∙ sym j.patches_are in
    let shown : x.job.shown ≡ y.job.shown = i.shown_is ∙ ap (λ (k : Asked). k.options.shown) asked ∙ sym j.shown_is in
    same_job x.job y.job source program tests limit most shown

-- where the files are known, one answer at most is right for them, with one text
pub one_reply : OneReply
one_reply words files m n m' n' a b t u x y =
    let job = one_job words files m n m' n' a b t u x y in
    let right : IsRight y.job a = subst (λ j. IsRight j a) job x.right in
    let same : a ≡ b = one_right y.job a b right y.right in
    let text : IsText y.job b t = subst (λ c. IsText y.job c t) same (subst (λ j. IsText j a t) job x.is_text) in
    (same, one_text y.job b t u text y.is_text)

-- ---- one end

-- a known file of this name
abbrev known : Files → List ℕ → File
known files name = record { name = name; held = Some files; faults = 0; faults_after = 0 }

-- why a call ends with a status, and appends these bytes to standard output and to standard error
data Why (words : List (List ℕ)) (files : Files) : Status → List ℕ → List ℕ → Type 0 where
  no_command : {e : List ℕ} → command_in words ≡ None → e ≡ usage → Why words files status.Usage [] e
  no_program : {e : List ℕ} (asked : Asked) → command_in words ≡ Some (repair asked) → HoldsNoProgram (known files asked.program) e → Why words files status.ProgramRefused [] e
  no_suite : {e : List ℕ} (asked : Asked) → command_in words ≡ Some (repair asked) → HoldsSomeProgram (known files asked.program) → HoldsNoSuite (known files asked.suite) e
      → Why words files status.SuiteRefused [] e
  answered : {o : List ℕ} (a : Answer) (m n : ℕ) → IsAnswer (given words files m n) a o → Why words files (status_of_answer a) o []

-- what was appended, and why
record Gist (words : List (List ℕ)) (files : Files) (out err : Seen) (s : Status) : Type 0 where
  text : List ℕ
  message : List ℕ
  out_has : Takes out text
  err_has : Takes err message
  why : Why words files s text message

-- an answer or a refusal has that gist
gist : (words : List (List ℕ)) (files : Files) (m n : ℕ) (out err : Seen) (s : Status) → Ends (given words files m n) out err s → IsSettled s → Gist words files out err s
gist words files m n out err status.Patched (rank, a) i = record { text = a.text; message = []; out_has = a.written; err_has = a.silent; why = Why.answered (answer.Patch rank) m n a.right }
gist words files m n out err status.Nothing a i = record { text = a.text; message = []; out_has = a.written; err_has = a.silent; why = Why.answered answer.Nothing m n a.right }
gist words files m n out err status.Sound a i = record { text = a.text; message = []; out_has = a.written; err_has = a.silent; why = Why.answered answer.Sound m n a.right }
gist words files m n out err status.Usage r i = record { text = []; message = r.text; out_has = r.silent; err_has = r.written; why = Why.no_command r.cause.0 r.cause.1 }
gist words files m n out err status.ProgramRefused r i =
    let c = r.cause in record { text = []; message = r.text; out_has = r.silent; err_has = r.written; why = Why.no_program c.asked c.valid c.refused }
gist words files m n out err status.SuiteRefused r i =
    let c = r.cause in record { text = []; message = r.text; out_has = r.silent; err_has = r.written; why = Why.no_suite c.asked c.valid c.program c.refused }
gist words files m n out err _ r i = absurd i

-- a command is no command
no_both : (words : List (List ℕ)) (asked : Asked) → command_in words ≡ None → command_in words ≡ Some (repair asked) → ⊥
no_both words asked x y = let e = sym x ∙ y in absurd (cc)

-- one program can't be refused and accepted
program_clash : (words : List (List ℕ)) (files : Files) (a b : Asked) (e : List ℕ) → command_in words ≡ Some (repair a) → command_in words ≡ Some (repair b)
    → HoldsNoProgram (known files a.program) e → HoldsSomeProgram (known files b.program) → ⊥
program_clash words files a b e x y bad some =
    let asked = one_asked words a b x y in
    let same = one_content files b.program a.program some.0 bad.0 (ap (λ (k : Asked). k.program) (sym asked)) some.2.0 bad.1 in
    never_both a.program bad.0 e some.1 (subst (λ w. IsProgram w some.1) same some.2.1) bad.2

-- bytes that state a suite aren't refused
not_both : (name xs ys text : List ℕ) (tests : List Test) (limit : ℕ) → xs ≡ ys → StatesNoSuite name xs text → IsSuite ys tests limit → ⊥
not_both name xs ys text tests limit same r i = by_fault r.fault r.is_first
  where
    by_fault : (f : TestsFault) → IsSuiteFault xs f → ⊥
    by_fault _ (IsSuiteFault.too_long long) =
        let short = i.short in
        let lengths : length xs ≡ length ys = ap length same in
        absurd (omega (arith, long, short, lengths))
    by_fault _ (IsSuiteFault.of_suite f s e) =
        never_refused (stated xs) f (record { tests = tests; limit = limit }) e (ap stated same ∙ i.states)

-- bytes that state tests aren't refused as a suite
pub never_both_of_suite : NeverBothOfSuite
never_both_of_suite name bytes t tests limit i r = not_both name bytes bytes t tests limit refl r i

-- a refusal that is stated is one
one_stated : (r : Result Stated SuiteFault) (f g : SuiteFault) → r ≡ Err f → r ≡ Err g → f ≡ g
one_stated r f g x y = cc

-- bytes have one first refusal at most
pub one_suite_fault : OneSuiteFault
one_suite_fault bytes _ _ (IsSuiteFault.too_long a) (IsSuiteFault.too_long b) = refl
one_suite_fault bytes _ _ (IsSuiteFault.too_long a) (IsSuiteFault.of_suite g s y) = absurd (omega (arith, a, s))
one_suite_fault bytes _ _ (IsSuiteFault.of_suite f s x) (IsSuiteFault.too_long b) = absurd (omega (arith, b, s))
one_suite_fault bytes _ _ (IsSuiteFault.of_suite f s x) (IsSuiteFault.of_suite g t y) = ap (λ h. Suite h) (one_stated (stated bytes) f g x y)

-- a suite is refused with one message at most
pub one_suite_refusal : OneSuiteRefusal
one_suite_refusal name bytes t u a b =
    a.message ∙ ap (suite_message name) (one_suite_fault bytes a.fault b.fault a.is_first b.is_first) ∙ sym b.message

-- one suite can't be refused and accepted
suite_clash : (words : List (List ℕ)) (files : Files) (a b : Asked) (e : List ℕ) (tests : List Test) (limit : ℕ) → command_in words ≡ Some (repair a) → command_in words ≡ Some (repair b)
    → HoldsNoSuite (known files a.suite) e → HoldsSuite (known files b.suite) tests limit → ⊥
suite_clash words files a b e tests limit x y bad some =
    let asked = one_asked words a b x y in
    let same = one_content files a.suite b.suite bad.0 some.0 (ap (λ (k : Asked). k.suite) asked) bad.1 some.1 in
    not_both a.suite bad.0 some.0 e tests limit same bad.2 some.2

-- what is said of one refused suite is one message
suite_said : (words : List (List ℕ)) (files : Files) (a b : Asked) (t u : List ℕ) → command_in words ≡ Some (repair a) → command_in words ≡ Some (repair b)
    → HoldsNoSuite (known files a.suite) t → HoldsNoSuite (known files b.suite) u → t ≡ u
suite_said words files a b t u x y bad also =
    let name = ap (λ (k : Asked). k.suite) (one_asked words a b x y) in
    let same = one_content files a.suite b.suite bad.0 also.0 name bad.1 also.1 in
    one_suite_refusal b.suite also.0 t u (subst (λ w. StatesNoSuite b.suite w t) same (subst (λ n. StatesNoSuite n bad.0 t) name bad.2)) also.2

-- what is said of one refused program is one message
program_said : (words : List (List ℕ)) (files : Files) (a b : Asked) (t u : List ℕ) → command_in words ≡ Some (repair a) → command_in words ≡ Some (repair b)
    → HoldsNoProgram (known files a.program) t → HoldsNoProgram (known files b.program) u → t ≡ u
program_said words files a b t u x y bad also =
    let name = ap (λ (k : Asked). k.program) (one_asked words a b x y) in
    let same = one_content files a.program b.program bad.0 also.0 name bad.1 also.1 in
    one_refusal b.program also.0 t u (subst (λ w. Refuses b.program w t) same (subst (λ n. Refuses n bad.0 t) name bad.2)) also.2

-- the same status, and the same bytes
abbrev Alike : Status → Status → List ℕ → List ℕ → List ℕ → List ℕ → Type 0
Alike s s' o o' e e' = (s ≡ s') × (o ≡ o') × (e ≡ e')

-- words and files settle it
agree : (words : List (List ℕ)) (files : Files) (s s' : Status) (o o' e e' : List ℕ) → Why words files s o e → Why words files s' o' e' → Alike s s' o o' e e'
agree words files _ _ _ _ _ _ (Why.no_command x p) (Why.no_command y q) = (refl, refl, p ∙ sym q)
agree words files _ _ _ _ _ _ (Why.no_command x p) (Why.no_program b y bad) = absurd (no_both words b x y)
agree words files _ _ _ _ _ _ (Why.no_command x p) (Why.no_suite b y some bad) = absurd (no_both words b x y)
agree words files _ _ _ _ _ _ (Why.no_command x p) (Why.answered b m n y) = absurd (no_both words y.stated.asked x y.stated.valid)
agree words files _ _ _ _ _ _ (Why.no_program a x bad) (Why.no_command y q) = absurd (no_both words a y x)
agree words files _ _ _ _ e e' (Why.no_program a x bad) (Why.no_program b y also) = (refl, refl, program_said words files a b e e' x y bad also)
agree words files _ _ _ _ e _ (Why.no_program a x bad) (Why.no_suite b y some never) = absurd (program_clash words files a b e x y bad some)
agree words files _ _ _ _ e _ (Why.no_program a x bad) (Why.answered b m n y) =
    absurd (program_clash words files a y.stated.asked e x y.stated.valid bad (y.job.source, y.job.program, y.stated.program))
agree words files _ _ _ _ _ _ (Why.no_suite a x some bad) (Why.no_command y q) = absurd (no_both words a y x)
agree words files _ _ _ _ _ e' (Why.no_suite a x some bad) (Why.no_program b y also) = absurd (program_clash words files b a e' y x also some)
agree words files _ _ _ _ e e' (Why.no_suite a x some bad) (Why.no_suite b y also never) = (refl, refl, suite_said words files a b e e' x y bad never)
agree words files _ _ _ _ e _ (Why.no_suite a x some bad) (Why.answered b m n y) =
    absurd (suite_clash words files a y.stated.asked e y.job.tests y.stated.limit x y.stated.valid bad y.stated.suite)
agree words files _ _ _ _ _ _ (Why.answered a m n x) (Why.no_command y q) = absurd (no_both words x.stated.asked y x.stated.valid)
agree words files _ _ _ _ _ e' (Why.answered a m n x) (Why.no_program b y also) =
    absurd (program_clash words files b x.stated.asked e' y x.stated.valid also (x.job.source, x.job.program, x.stated.program))
agree words files _ _ _ _ _ e' (Why.answered a m n x) (Why.no_suite b y some bad) =
    absurd (suite_clash words files b x.stated.asked e' x.job.tests x.stated.limit y x.stated.valid bad x.stated.suite)
agree words files _ _ o o' _ _ (Why.answered a m n x) (Why.answered b m' n' y) =
    let r = one_reply words files m n m' n' a b o o' x y in
    (ap status_of_answer r.0, r.1, refl)

-- two calls with the same words and files end alike
pub one_end : OneEnd
one_end words files one other =
    let x = gist words files one.faults one.faults_after one.out one.err one.status one.ends one.settled in
    let y = gist words files other.faults other.faults_after other.out other.err other.status other.ends other.settled in
    let same = agree words files one.status other.status x.text y.text x.message y.message x.why y.why in (
      same.0,
      record { text = y.text; one = subst (Takes one.out) same.1 x.out_has; both = y.out_has },
      record { text = y.message; one = subst (Takes one.err) same.2 x.err_has; both = y.err_has },
    )

-- ---- what is accepted

-- a known file that has content was read, if no count rose
was_read : (files : Files) (m n : ℕ) (a b bytes : List ℕ) → a ≡ b → ¬ Rose m n
    → IsUnreadable (record { name = a; held = Some files; faults = m; faults_after = n }) → IsContent (Some files) b bytes → ⊥
was_read files m n a b bytes same quiet (inl rose) content = quiet rose
was_read files m n a b bytes same quiet (inr lacks) content =
    let has : file_named files b ≡ Some bytes = content in
    let e = sym has ∙ ap (file_named files) (sym same) ∙ lacks in
    absurd (cc)

-- where a job is stated, there is no other cause for a call without an answer than memory, if no count rose
no_cause : (words : List (List ℕ)) (files : Files) (m n : ℕ) (job : Job) (s : Status) (text : List ℕ)
    → (i : States (given words files m n) job) → ¬ Rose m n → Cause (given words files m n) s text → IsAnswered s
no_cause words files m n job status.Usage text i quiet c = absurd (no_both words i.asked c.0 i.valid)
no_cause words files m n job status.ReadFault text i quiet (inl c) =
    let name = ap (λ (k : Asked). k.program) (one_asked words c.asked i.asked c.valid i.valid) in
    absurd (was_read files m n c.asked.program i.asked.program job.source name quiet c.unread i.program.0)
no_cause words files m n job status.ReadFault text i quiet (inr c) =
    let name = ap (λ (k : Asked). k.suite) (one_asked words c.asked i.asked c.valid i.valid) in
    absurd (was_read files m n c.asked.suite i.asked.suite i.suite.0 name quiet c.unread i.suite.1)
no_cause words files m n job status.ProgramRefused text i quiet c =
    absurd (program_clash words files c.asked i.asked text c.valid i.valid c.refused (job.source, job.program, i.program))
no_cause words files m n job status.SuiteRefused text i quiet c =
    absurd (suite_clash words files c.asked i.asked text job.tests i.limit c.valid i.valid c.refused i.suite)
no_cause words files m n job status.NoMemory text i quiet c = tt
no_cause words files m n job _ text i quiet c = absurd c

-- a call that states a job is answered or runs out of memory, if no count of failures rose
pub accepted_are_answered : AcceptedAreAnswered
accepted_are_answered words files m n job i out err status.Patched e quiet out_quiet err_quiet = tt
accepted_are_answered words files m n job i out err status.Nothing e quiet out_quiet err_quiet = tt
accepted_are_answered words files m n job i out err status.Sound e quiet out_quiet err_quiet = tt
accepted_are_answered words files m n job i out err status.NoMemory e quiet out_quiet err_quiet = tt
accepted_are_answered words files m n job i out err status.WriteFault (inl e) quiet out_quiet err_quiet = absurd (out_quiet e.broken.rose)
accepted_are_answered words files m n job i out err status.WriteFault (inr e) quiet out_quiet err_quiet = absurd (err_quiet e.broken.rose)
accepted_are_answered words files m n job i out err status.Usage e quiet out_quiet err_quiet = no_cause words files m n job status.Usage e.text i quiet e.cause
accepted_are_answered words files m n job i out err status.ReadFault e quiet out_quiet err_quiet = no_cause words files m n job status.ReadFault e.text i quiet e.cause
accepted_are_answered words files m n job i out err status.ProgramRefused e quiet out_quiet err_quiet = no_cause words files m n job status.ProgramRefused e.text i quiet e.cause
accepted_are_answered words files m n job i out err status.SuiteRefused e quiet out_quiet err_quiet = no_cause words files m n job status.SuiteRefused e.text i quiet e.cause

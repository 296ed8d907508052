-- That there is one right answer at most, or one refusal; that all bytes are accepted or refused;
-- that what a call answers is settled by its words and files; and that what is accepted is answered.
use Rattle.std.specs.Prelude.{◌≡◌, ◌≢◌, ◌⊎◌, ℕ, List, Some}
use Rattle.fx_io.specs.Faults.{Rose}
use Rattle.c_tree.specs.Tree.{Outer}
use Rattle.c_stdio.specs.declared.test.Test.{Test}
use Rattle.test_suite.specs.declared.fault.SuiteFault.TheVariants as refusal
use Rattle.repair_job.specs.Job.{Job}
use Rattle.repair_job.specs.declared.answer.Answer.{Answer}
use Rattle.repair_job.specs.declared.answer.Answer.TheVariants as answer
use Rattle.repair_job.specs.declared.answer.Shown.TheVariants as shown
use Rattle.repair_cli.specs.Accepted.{IsProgram, IsSuite}
use Rattle.repair_cli.specs.Ends.{IsAnswer, Ends}
use Rattle.repair_cli.specs.Faults.{IsFault, Refuses}
use Rattle.repair_cli.specs.ReadAgain.{ReadsAndPasses}
use Rattle.repair_cli.specs.Sinks.{Seen, Takes}
use Rattle.repair_cli.specs.Source.{Files, Source, States}
use Rattle.repair_cli.specs.SuiteFaults.{IsSuiteFault, StatesNoSuite}
use Rattle.repair_cli.specs.declared.fault.ProgramFault.{ProgramFault}
use Rattle.repair_cli.specs.declared.fault.ProgramFault.TheVariants as fault
use Rattle.repair_cli.specs.declared.fault.TestsFault.{TestsFault}
use Rattle.repair_cli.specs.declared.fault.TestsFault.TheVariants.{Suite}
use Rattle.repair_cli.specs.declared.status.Status.{Status}
use Rattle.repair_cli.specs.declared.status.Status.TheVariants.{Patched, Nothing, Sound, ReadFault, WriteFault, NoMemory}

-- a source states one program at most
abbrev pub OneProgram : Type 0
OneProgram = (bytes : List ℕ) (p q : List Outer) → IsProgram bytes p → IsProgram bytes q → p ≡ q

-- a source has one first fault at most
abbrev pub OneFault : Type 0
OneFault = (bytes : List ℕ) (f g : ProgramFault) → IsFault bytes f → IsFault bytes g → f ≡ g

-- a source is refused with one message at most
abbrev pub OneRefusal : Type 0
OneRefusal = (name bytes t u : List ℕ) → Refuses name bytes t → Refuses name bytes u → t ≡ u

-- a source that states a program isn't refused
abbrev pub NeverBoth : Type 0
NeverBoth = (name bytes t : List ℕ) (p : List Outer) → IsProgram bytes p → Refuses name bytes t → ⊥

-- bytes state one list of tests and one limit at most
abbrev pub OneSuite : Type 0
OneSuite = (bytes : List ℕ) (tests tests' : List Test) (limit limit' : ℕ)
    → IsSuite bytes tests limit → IsSuite bytes tests' limit' → (tests ≡ tests') × (limit ≡ limit')

-- bytes have one first refusal as a suite at most
abbrev pub OneSuiteFault : Type 0
OneSuiteFault = (bytes : List ℕ) (f g : TestsFault)
    → IsSuiteFault bytes f → IsSuiteFault bytes g → f ≡ g

-- a suite is refused with one message at most
abbrev pub OneSuiteRefusal : Type 0
OneSuiteRefusal = (name bytes t u : List ℕ)
    → StatesNoSuite name bytes t → StatesNoSuite name bytes u → t ≡ u

-- bytes that state tests aren't refused as a suite
abbrev pub NeverBothOfSuite : Type 0
NeverBothOfSuite = (name bytes t : List ℕ) (tests : List Test) (limit : ℕ)
    → IsSuite bytes tests limit → StatesNoSuite name bytes t → ⊥

-- a source states some program
abbrev pub StatesProgram : List ℕ → Type 0
StatesProgram bytes = (program : List Outer) × IsProgram bytes program

-- a source has a first fault, which isn't that memory ran out
abbrev pub HasFault : List ℕ → Type 0
HasFault bytes = (f : ProgramFault) × (f ≢ fault.NoMemory) × IsFault bytes f

-- each source, whatever its bytes and however long, states a program or has a first fault, which
-- isn't that memory ran out
abbrev pub EverySourceIsJudged : Type 0
EverySourceIsJudged = (bytes : List ℕ) → StatesProgram bytes ⊎ HasFault bytes

-- bytes state some tests and some limit
abbrev pub StatesSuite : List ℕ → Type 0
StatesSuite bytes = (tests : List Test) × (limit : ℕ) × IsSuite bytes tests limit

-- bytes have a first refusal as a suite, which isn't that memory ran out
abbrev pub HasSuiteFault : List ℕ → Type 0
HasSuiteFault bytes = (f : TestsFault) × (f ≢ Suite refusal.NoMemory) × IsSuiteFault bytes f

-- all bytes, however many, state tests and a limit or have a first refusal as a suite, which isn't
-- that memory ran out
abbrev pub EverySuiteIsJudged : Type 0
EverySuiteIsJudged = (bytes : List ℕ) → StatesSuite bytes ⊎ HasSuiteFault bytes

-- these words and files, which are known; the failures don't matter
abbrev pub given : List (List ℕ) → Files → ℕ → ℕ → Source
given words files before after =
    record { words = words; held = Some files; faults = before; faults_after = after }

-- where the files are known, one answer at most is right for them, with one text
abbrev pub OneReply : Type 0
OneReply = (words : List (List ℕ)) (files : Files) (m n m' n' : ℕ) (a b : Answer) (t u : List ℕ)
    → IsAnswer (given words files m n) a t → IsAnswer (given words files m' n') b u
    → (a ≡ b) × (t ≡ u)

-- the call gave an answer, or refused what it was given: no read, no write and no allocation failed
abbrev pub IsSettled : Status → Type 0
IsSettled ReadFault = ⊥
IsSettled WriteFault = ⊥
IsSettled NoMemory = ⊥
IsSettled _ = Unit {0}

-- a call with these words and files that ended with an answer or a refusal
pub record Settled (words : List (List ℕ)) (files : Files) : Type 0 where
  pub faults : ℕ
  pub faults_after : ℕ
  pub out : Seen
  pub err : Seen
  pub status : Status
  pub ends : Ends (given words files faults faults_after) out err status
  pub settled : IsSettled status

-- two sinks had the same bytes appended, where their bytes are known
pub record AppendAlike (sink other : Seen) : Type 0 where
  pub text : List ℕ
  pub one : Takes sink text
  pub both : Takes other text

-- two calls with the same words and the same files that end with an answer or a refusal end with
-- one status, and append the same bytes to standard output and to standard error, whatever the
-- counts of failures
abbrev pub OneEnd : Type 0
OneEnd = (words : List (List ℕ)) (files : Files) (one other : Settled words files)
    → (one.status ≡ other.status) × AppendAlike one.out other.out × AppendAlike one.err other.err

-- the call gave an answer, or ran out of memory
abbrev pub IsAnswered : Status → Type 0
IsAnswered Patched = Unit {0}
IsAnswered Nothing = Unit {0}
IsAnswered Sound = Unit {0}
IsAnswered NoMemory = Unit {0}
IsAnswered _ = ⊥

-- where the words are a command, and the known files state a program and tests, a call is answered
-- or runs out of memory, if no count of failures rose, of the files or of a sink
abbrev pub AcceptedAreAnswered : Type 0
AcceptedAreAnswered = (words : List (List ℕ)) (files : Files) (m n : ℕ) (job : Job)
    → States (given words files m n) job
    → (out err : Seen) (status : Status) → Ends (given words files m n) out err status
    → ¬ Rose m n → ¬ Rose out.faults out.faults_after → ¬ Rose err.faults err.faults_after
    → IsAnswered status

-- where a patched source is right to write, it passes every test of the job, when it is read again
abbrev pub PatchedSourcesPass : Type 0
PatchedSourcesPass = (source : Source) (rank : ℕ) (text : List ℕ)
    → (reply : IsAnswer source (answer.Patch rank) text) → reply.job.shown ≡ shown.Source
    → ReadsAndPasses reply.job text

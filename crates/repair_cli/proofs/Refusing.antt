-- The message of a refused source is that of its first fault.
use Rattle.std.proofs.Common.{◌≡◌, ℕ, List, sym, subst}
use Rattle.fx_io.specs.Ends.{IsLonger}
use Rattle.fx_io.specs.Held.{IsContent}
use Rattle.repair_cli.specs.Faults.{IsFault, Refuses, fault_words, fault_message}
use Rattle.repair_cli.specs.Limits.{source_limit, suite_limit}
use Rattle.repair_cli.specs.Parts.{IsRefusal, IsSuiteRefusal, GivesNoProgram, GivesNoSuite}
use Rattle.repair_cli.specs.Source.{File}
use Rattle.repair_cli.specs.SuiteFaults.{IsSuiteFault, StatesNoSuite, suite_message}
use Rattle.repair_cli.specs.Texts.{said_of}
use Rattle.repair_cli.specs.declared.fault.ProgramFault.{ProgramFault}
use Rattle.repair_cli.specs.declared.fault.ProgramFault.TheVariants.{TooLong}
use Rattle.repair_cli.specs.declared.fault.TestsFault.TheVariants as suite
use Rattle.repair_cli.specs.declared.status.Status.{Status}
use Rattle.repair_cli.specs.declared.status.Status.TheVariants as status

-- a refusal of a program with the message of its first fault
pub is_refusal : (name bytes : List ℕ) (f : ProgramFault) (s : Status) (text : List ℕ) → IsFault bytes f → s ≡ status.ProgramRefused → text ≡ fault_message name bytes f
    → IsRefusal name bytes s text
is_refusal name bytes f s text first is same =
    let refuses : Refuses name bytes text = record { fault = f; is_first = first; message = same } in
    subst (λ s. IsRefusal name bytes s text) (sym is) refuses

-- a file that is too long gives no program
pub long_gives : (file : File) (s : Status) (text : List ℕ) → IsLonger file.held file.name source_limit → s ≡ status.ProgramRefused → text ≡ said_of file.name (fault_words TooLong)
    → GivesNoProgram file s text
long_gives file s text long is same =
    let refuses : Refuses file.name long.0 text = record { fault = TooLong; is_first = IsFault.too_long long.2; message = same } in
    subst (λ s. GivesNoProgram file s text) (sym is) (long.0, long.1, refuses)

-- a file whose bytes are refused gives no program
pub refused_gives : (file : File) (bytes : List ℕ) (s : Status) (text : List ℕ) → IsContent file.held file.name bytes → IsRefusal file.name bytes s text → GivesNoProgram file s text
refused_gives file bytes status.ProgramRefused text content why = (bytes, content, why)
refused_gives file bytes status.NoMemory text content why = why
refused_gives file bytes _ text content why = absurd why

-- ---- suites

-- a file that is too long gives no suite
pub long_gives_none : (file : File) (s : Status) (text : List ℕ) → IsLonger file.held file.name suite_limit → s ≡ status.SuiteRefused
    → text ≡ suite_message file.name suite.TooLong → GivesNoSuite file s text
long_gives_none file s text long is same =
    let states : StatesNoSuite file.name long.0 text =
    record { fault = suite.TooLong; is_first = IsSuiteFault.too_long long.2; message = same } in
    subst (λ s. GivesNoSuite file s text) (sym is) (long.0, long.1, states)

-- a file whose bytes are refused gives no suite
pub refused_gives_none : (file : File) (bytes : List ℕ) (s : Status) (text : List ℕ) → IsContent file.held file.name bytes
    → IsSuiteRefusal file.name bytes s text → GivesNoSuite file s text
refused_gives_none file bytes status.SuiteRefused text content why = (bytes, content, why)
refused_gives_none file bytes status.NoMemory text content why = why
refused_gives_none file bytes _ text content why = absurd why

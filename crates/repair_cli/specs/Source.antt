-- What a call is given, and why it gives no answer.
use Rattle.std.specs.Prelude.{◌≡◌, ◌⊎◌, ℕ, List, Option, Some, None, String, unwrap_or}
use Rattle.std.specs.declared.alloc.Global.{Global}
use Rattle.fx_io.specs.Faults.{Rose}
use Rattle.fx_io.specs.Held.{IsContent, Lacks}
use Rattle.c_tree.specs.Tree.{Outer}
use Rattle.c_stdio.specs.declared.test.Test.{Test}
use Rattle.repair_job.specs.Job.{Job}
use Rattle.repair_cli.specs.Accepted.{IsProgram, IsSuite}
use Rattle.repair_cli.specs.Faults.{Refuses}
use Rattle.repair_cli.specs.SuiteFaults.{StatesNoSuite}
use Rattle.repair_cli.specs.Words.{Asked, repair, command_in, words_of}
use Rattle.repair_cli.specs.Texts.{usage, cannot_read, no_memory}
use Rattle.repair_cli.specs.declared.status.Status.{Status}
use Rattle.repair_cli.specs.declared.status.Status.TheVariants.{Patched, Nothing, Sound, Usage, ProgramRefused, SuiteRefused, ReadFault, WriteFault, NoMemory}

-- files by name
abbrev pub Files : Type 0
Files = List (List ℕ × List ℕ)

-- ---- one file

-- a file by its name, with all files, where they are known, and the count of failed calls on them
-- before and after
pub record File : Type 0 where
  pub name : List ℕ
  pub held : Option Files
  pub faults : ℕ
  pub faults_after : ℕ

-- the file of this name, by what gives all files and the count
abbrev pub file : {F : Type 0} → (F → Option Files) → (F → ℕ) → List ℕ → F → F → File
file held faults name before after =
    record { name = name; held = held before; faults = faults before; faults_after = faults after }

-- a call on the files failed, or the files are known and none has this name
abbrev pub IsUnreadable : File → Type 0
IsUnreadable file = Rose file.faults file.faults_after ⊎ Lacks file.held file.name

-- the file has these bytes, and they state this program
abbrev pub HoldsProgram : File → List ℕ → List Outer → Type 0
HoldsProgram file bytes program = IsContent file.held file.name bytes × IsProgram bytes program

-- the file states some program
abbrev pub HoldsSomeProgram : File → Type 0
HoldsSomeProgram file = (bytes : List ℕ) × (program : List Outer) × HoldsProgram file bytes program

-- the file states no program, as this message says
abbrev pub HoldsNoProgram : File → List ℕ → Type 0
HoldsNoProgram file text =
    (bytes : List ℕ) × IsContent file.held file.name bytes × Refuses file.name bytes text

-- the file states these tests with this limit
abbrev pub HoldsSuite : File → List Test → ℕ → Type 0
HoldsSuite file tests limit =
    (bytes : List ℕ) × IsContent file.held file.name bytes × IsSuite bytes tests limit

-- the file states no tests, as this message says
abbrev pub HoldsNoSuite : File → List ℕ → Type 0
HoldsNoSuite file text =
    (bytes : List ℕ) × IsContent file.held file.name bytes × StatesNoSuite file.name bytes text

-- ---- a whole call

-- the words of a call, the files, where they are known, and the count of failed calls on them
-- before and after
pub record Source : Type 0 where
  pub words : List (List ℕ)
  pub held : Option Files
  pub faults : ℕ
  pub faults_after : ℕ

-- these words and files, by what gives all files and the count
abbrev pub source : {F : Type 0} → (F → Option Files) → (F → ℕ) → List (String Global) → F → F
    → Source
source held faults words before after =
    record {
      words = words_of words;
      held = held before;
      faults = faults before;
      faults_after = faults after;
    }

-- the words ask for this repair
abbrev pub Asks : Source → Asked → Type 0
Asks source asked = command_in source.words ≡ Some (repair asked)

-- the file of this name
abbrev pub file_in : Source → List ℕ → File
file_in source name =
    record {
      name = name;
      held = source.held;
      faults = source.faults;
      faults_after = source.faults_after;
    }

-- the words ask for a repair, and both files were read: they and the options state this job
pub record States (source : Source) (job : Job) : Type 0 where
  pub asked : Asked
  pub valid : Asks source asked
  pub program : HoldsProgram (file_in source asked.program) job.source job.program
  pub limit : ℕ
  pub suite : HoldsSuite (file_in source asked.suite) job.tests limit
  pub limit_is : job.limit ≡ unwrap_or asked.options.limit limit
  pub patches_are : job.most_patches ≡ asked.options.patches
  pub shown_is : job.shown ≡ asked.options.shown

-- the program could not be read, as this message says
pub record LacksProgram (source : Source) (text : List ℕ) : Type 0 where
  pub asked : Asked
  pub valid : Asks source asked
  pub unread : IsUnreadable (file_in source asked.program)
  pub message : text ≡ cannot_read asked.program

-- the program was accepted, and the suite could not be read, as this message says
pub record LacksSuite (source : Source) (text : List ℕ) : Type 0 where
  pub asked : Asked
  pub valid : Asks source asked
  pub program : HoldsSomeProgram (file_in source asked.program)
  pub unread : IsUnreadable (file_in source asked.suite)
  pub message : text ≡ cannot_read asked.suite

-- the program is refused, as this message says
pub record RefusesProgram (source : Source) (text : List ℕ) : Type 0 where
  pub asked : Asked
  pub valid : Asks source asked
  pub refused : HoldsNoProgram (file_in source asked.program) text

-- the program was accepted, and the suite is refused, as this message says
pub record RefusesSuite (source : Source) (text : List ℕ) : Type 0 where
  pub asked : Asked
  pub valid : Asks source asked
  pub program : HoldsSomeProgram (file_in source asked.program)
  pub refused : HoldsNoSuite (file_in source asked.suite) text

-- why there is no answer, in the order of the work: the status, with its message
abbrev pub Cause : Source → Status → List ℕ → Type 0
Cause source Usage text = (command_in source.words ≡ None) × (text ≡ usage)
Cause source ReadFault text = LacksProgram source text ⊎ LacksSuite source text
Cause source ProgramRefused text = RefusesProgram source text
Cause source SuiteRefused text = RefusesSuite source text
Cause source NoMemory text = text ≡ no_memory
Cause source WriteFault text = ⊥
Cause source Sound text = ⊥
Cause source Nothing text = ⊥
Cause source Patched text = ⊥

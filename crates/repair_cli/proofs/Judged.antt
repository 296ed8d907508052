-- All bytes are judged: as a source they state a program or have a first fault, and as a suite they
-- state tests or have a first refusal.
use Rattle.std.proofs.Common.{◌≡◌, ◌≢◌, ℕ, ◌≤◌, ◌<◌, ◌+◌, Bool, true, false, ◌||◌, ◌==◌, nat_lt, List, [], ◌∷◌, ◌⊎◌, inl, inr, length, Option, Some, None, Result, Ok, Err, refl, ap}
use Rattle.std.specs.Prelude.{if◌then◌else◌, codes, is_none, min, option_and_then}
use Rattle.serde_json.specs.Data.{Data, Items, no_items, item}
use Rattle.serde_json.specs.Events.{items_len}
use Rattle.serde_json.specs.Find.{get, as_array, as_object}
use Rattle.c_tree.specs.Tree.{Outer}
use Rattle.c_lex.specs.Tokens.{Outcome, Lexes}
use Rattle.c_lex.specs.declared.fault.LexFault.TheVariants as lex
use Rattle.c_lex.proofs.Outcomes.{each_has_outcome}
use Rattle.c_grammar.specs.Grammar.{Tokens}
use Rattle.c_grammar.specs.Programs.{max_nesting}
use Rattle.c_grammar.specs.Judge.{Verdict, good, unexpected_at, too_deep_at, Judged, judge}
use Rattle.c_grammar.proofs.Nested.{larger}
use Rattle.c_grammar.proofs.TooDeep.{deep_passes}
use Rattle.c_grammar.proofs.Verdicts.{judge_ok}
use Rattle.c_location.specs.Locations.{locations}
use Rattle.c_parse.specs.Results.{place_of}
use Rattle.c_parse.specs.declared.fault.ParseFault.TheVariants as parse
use Rattle.c_stdio.specs.declared.test.Test.{Test}
use Rattle.c_types.specs.declared.fault.Fault.{Fault}
use Rattle.c_types.specs.declared.fault.FaultKind.{FaultKind}
use Rattle.c_types.specs.declared.fault.FaultKind.TheVariants as kind
use Rattle.c_types.specs.declared.fault.TypeFault.{TypeFault}
use Rattle.c_types.specs.declared.fault.TypeFault.TheVariants as kinds
use Rattle.c_types.specs.Least.{least, IsFirstAt, Causes as CausedBy}
use Rattle.c_types.specs.Programs.{program_faults}
use Rattle.c_types.specs.Slots.{resolved}
use Rattle.c_types.proofs.FirstLemmas.{least_none, least_first}
use Rattle.repair_job.specs.Patches.{HasFewLocations}
use Rattle.test_suite.specs.Faults.{word_of}
use Rattle.test_suite.specs.Suite as suite
use Rattle.test_suite.specs.Suite.{and_then, mapped, has, text_at, number_at, stated, Stated}
use Rattle.test_suite.specs.declared.fault.Key.{Key}
use Rattle.test_suite.specs.declared.fault.Key.TheVariants.{Name, Input, Output, Status}
use Rattle.test_suite.specs.declared.fault.SuiteFault.{SuiteFault}
use Rattle.test_suite.specs.declared.fault.SuiteFault.TheVariants as refusal
use Rattle.repair_cli.specs.Accepted.{IsShort, IsCut, IsRead, IsWellTyped}
use Rattle.repair_cli.specs.Faults.{IsFault}
use Rattle.repair_cli.specs.Laws.{StatesProgram, HasFault, EverySourceIsJudged, StatesSuite, HasSuiteFault, EverySuiteIsJudged}
use Rattle.repair_cli.specs.Limits.{source_limit, suite_limit}
use Rattle.repair_cli.specs.SuiteFaults.{IsSuiteFault}
use Rattle.repair_cli.specs.declared.fault.ProgramFault.TheVariants.{TooLong, Lex, Parse, Kinds, TooManyLocations}
use Rattle.repair_cli.specs.declared.fault.TestsFault.TheVariants as tests

-- ---- a source

-- the first of these faults, as it is reported
record IsReported (fs : List Fault) : Type 0 where
  reported : TypeFault
  some : reported ≢ kinds.NoMemory
  causes : CausedBy reported fs

-- the first of these faults, by its kind and its place, can be reported
reported_at : (fs : List Fault) (k : FaultKind) (place : ℕ) → IsFirstAt fs k place → IsReported fs
reported_at fs kind.Unknown n x = record { reported = kinds.Unknown n; some = λ e. cc; causes = x }
reported_at fs kind.Twice n x = record { reported = kinds.Twice n; some = λ e. cc; causes = x }
reported_at fs kind.WrongKind n x = record { reported = kinds.WrongKind n; some = λ e. cc; causes = x }
reported_at fs kind.WrongCount n x = record { reported = kinds.WrongCount n; some = λ e. cc; causes = x }
reported_at fs kind.NotPlace n x = record { reported = kinds.NotPlace n; some = λ e. cc; causes = x }
reported_at fs kind.NotConstant n x = record { reported = kinds.NotConstant n; some = λ e. cc; causes = x }
reported_at fs kind.BadArrayLength n x = record { reported = kinds.BadArrayLength n; some = λ e. cc; causes = x }
reported_at fs kind.LoopOnly n x = record { reported = kinds.LoopOnly n; some = λ e. cc; causes = x }
reported_at fs kind.BadFormat n x = record { reported = kinds.BadFormat n; some = λ e. cc; causes = x }
reported_at fs kind.NoMain n x = record { reported = kinds.NoMain n; some = λ e. cc; causes = x }

-- a list of faults is empty, or its first fault can be reported
none_or_reported : (fs : List Fault) → (fs ≡ []) ⊎ IsReported fs
none_or_reported fs = by_least (least fs) refl
  where
    by_least : (o : Option Fault) → least fs ≡ o → (fs ≡ []) ⊎ IsReported fs
    by_least None is = inl (least_none fs is)
    by_least (Some f) is = inr (reported_at fs f.kind f.place (least_first fs f is))

-- a source that has a well-typed tree, which has few locations or many
by_size : (bytes : List ℕ) (tree : List Outer) → IsRead bytes tree → IsWellTyped (length bytes) tree
    → HasFewLocations (resolved tree) ⊎ (4096 < length (locations (resolved tree)))
    → StatesProgram bytes ⊎ HasFault bytes
by_size bytes tree read typed (inl few) =
    inl (
      resolved tree,
      record {
        tree = tree;
        read = read;
        runnable = record { typed = typed; is_resolved = refl; few = few };
      },
    )
by_size bytes tree read typed (inr many) =
    let n = min (length (locations (resolved tree))) 4294967295 in
    inr (TooManyLocations n, λ e. cc, IsFault.of_size n tree read typed (refl, many))

-- a source that has a tree
of_tree : (bytes : List ℕ) (tree : List Outer) → IsRead bytes tree → StatesProgram bytes ⊎ HasFault bytes
of_tree bytes tree read = by_faults (none_or_reported (program_faults tree (length bytes)))
  where
    by_faults : (program_faults tree (length bytes) ≡ []) ⊎ IsReported (program_faults tree (length bytes))
        → StatesProgram bytes ⊎ HasFault bytes
    by_faults (inl typed) = by_size bytes tree read typed (larger (length (locations (resolved tree))) 4096)
    by_faults (inr t) = inr (Kinds t.reported, λ e. cc, IsFault.of_kinds t.reported tree t.some read t.causes)

-- a source that has tokens, by their verdict
by_verdict : (bytes : List ℕ) (ts : Tokens) (v : Verdict) → IsCut bytes ts → Judged max_nesting ts v
    → StatesProgram bytes ⊎ HasFault bytes
by_verdict bytes ts (good tree) cut d = of_tree bytes tree (record { tokens = ts; cut = cut; derived = d })
by_verdict bytes ts (unexpected_at b) cut d =
    let f = parse.Unexpected (place_of (length bytes) b) in
    inr (Parse f, λ e. cc, IsFault.of_tokens f ts (λ e. cc) cut (b, refl, d))
by_verdict bytes ts (too_deep_at b) cut d =
    let f = parse.TooDeep (place_of (length bytes) b) in
    inr (Parse f, λ e. cc, IsFault.of_tokens f ts (λ e. cc) cut (b, refl, deep_passes max_nesting ts b d))

-- a source that isn't too long, by its outcome
by_outcome : (bytes : List ℕ) (r : Outcome) → IsShort bytes → Lexes bytes r → r ≢ Err lex.NoMemory
    → StatesProgram bytes ⊎ HasFault bytes
by_outcome bytes (Ok ts) short lexes some =
    by_verdict bytes ts (judge max_nesting ts) (record { short = short; cut = lexes }) (judge_ok max_nesting ts)
by_outcome bytes (Err f) short lexes some =
    inr (Lex f, λ e. cc, IsFault.of_text f (λ e. some (ap (λ g. Err g) e)) short lexes)

-- each source states a program or has a first fault
pub every_source : EverySourceIsJudged
every_source bytes = by_length (larger (length bytes) source_limit)
  where
    by_length : IsShort bytes ⊎ (source_limit < length bytes) → StatesProgram bytes ⊎ HasFault bytes
    by_length (inl short) = let o = each_has_outcome bytes in by_outcome bytes o.0 short o.1 o.2
    by_length (inr long) = inr (TooLong, λ e. cc, IsFault.too_long long)

-- ---- steps that don't run out of memory

-- a step doesn't say that memory ran out
abbrev Definite : {A : Type 0} → Result A SuiteFault → Type 0
Definite r = r ≢ Err refusal.NoMemory

-- a step, and then another
then_definite : {A B : Type 0} (x : Result A SuiteFault) (next : A → Result B SuiteFault) → Definite x
    → ((a : A) → Definite (next a)) → Definite (and_then x next)
then_definite (Ok a) next first later e = later a e
then_definite (Err f) next first later e = let same : f ≡ refusal.NoMemory = cc in first (ap Err same)

-- a step whose value is changed
mapped_definite : {A B : Type 0} (h : A → B) (x : Result A SuiteFault) → Definite x → Definite (mapped h x)
mapped_definite h (Ok a) first e = cc
mapped_definite h (Err f) first e = let same : f ≡ refusal.NoMemory = cc in first (ap Err same)

-- one of two arms
arms_definite : {A : Type 0} (b : Bool) (x y : Result A SuiteFault) → Definite x → Definite y → Definite (if b then x else y)
arms_definite true x y one other = one
arms_definite false x y one other = other

-- ---- a test, and a suite, are never refused since memory ran out

fitting_definite : (n : ℕ) (key : Key) (o : Option (List ℕ)) → Definite (suite.fitting n key o)
fitting_definite n key None = λ e. cc
fitting_definite n key (Some text) =
    arms_definite (nat_lt suite.max_text (length text)) (Err (refusal.TooLongText n key)) (Ok text)
    (λ e. cc) (λ e. cc)

required_definite : (n : ℕ) (key : Key) (d : Data) → Definite (suite.required n key d)
required_definite n key d = fitting_definite n key (text_at (word_of key) d)

optional_definite : (n : ℕ) (key : Key) (d : Data) → Definite (suite.optional n key d)
optional_definite n key d =
    arms_definite (has (word_of key) d) (suite.required n key d) (Ok []) (required_definite n key d) (λ e. cc)

valid_status_definite : (n : ℕ) (o : Option ℕ) → Definite (suite.valid_status n o)
valid_status_definite n None = λ e. cc
valid_status_definite n (Some s) =
    arms_definite (nat_lt suite.max_status s) (Err (refusal.BadField n Status)) (Ok s) (λ e. cc) (λ e. cc)

status_definite : (n : ℕ) (d : Data) → Definite (suite.status_in n d)
status_definite n d =
    arms_definite (has (word_of Status) d) (suite.valid_status n (number_at (word_of Status) d)) (Ok 0)
    (valid_status_definite n (number_at (word_of Status) d)) (λ e. cc)

fields_definite : (n : ℕ) (d : Data) → Definite (suite.fields_in n d)
fields_definite n d =
    then_definite (suite.optional n Name d) _ (optional_definite n Name d) (λ name.
    then_definite (suite.optional n Input d) _ (optional_definite n Input d) (λ input.
    then_definite (suite.required n Output d) _ (required_definite n Output d) (λ output.
    mapped_definite (suite.test_of name input output) (suite.status_in n d) (status_definite n d))))

test_definite : (n : ℕ) (d : Data) → Definite (suite.test_in n d)
test_definite n d =
    arms_definite (is_none (as_object d)) (Err (refusal.NotATest n)) (suite.fields_in n d) (λ e. cc) (fields_definite n d)

tests_definite : (n : ℕ) (items : Items) → Definite (suite.tests_from n items)
tests_definite n no_items = λ e. cc
tests_definite n (item d rest) =
    then_definite (suite.test_in n d) _ (test_definite n d) (λ first.
    mapped_definite (λ tests. first ∷ tests) (suite.tests_from (n + 1) rest) (tests_definite (n + 1) rest))

few_definite : (o : Option Items) → Definite (suite.few o)
few_definite None = λ e. cc
few_definite (Some tests) =
    arms_definite (nat_lt suite.max_tests (items_len tests)) (Err (refusal.TooMany (items_len tests)))
    (Ok tests) (λ e. cc) (λ e. cc)

valid_limit_definite : (o : Option ℕ) → Definite (suite.valid_limit o)
valid_limit_definite None = λ e. cc
valid_limit_definite (Some n) =
    arms_definite (n == 0 || nat_lt suite.max_limit n) (Err refusal.BadLimit) (Ok n) (λ e. cc) (λ e. cc)

limit_definite : (d : Data) → Definite (suite.limit_in d)
limit_definite d =
    arms_definite (has (codes "limit") d) (suite.valid_limit (number_at (codes "limit") d)) (Ok suite.default_limit)
    (valid_limit_definite (number_at (codes "limit") d)) (λ e. cc)

stated_in_definite : (d : Data) → Definite (suite.stated_in d)
stated_in_definite d =
    then_definite (suite.list_in d) _ (few_definite (option_and_then as_array (get (codes "tests") d))) (λ items.
    then_definite (suite.limit_in d) _ (limit_definite d) (λ limit.
    mapped_definite (λ (tests : List Test). record { tests = tests; limit = limit })
    (suite.tests_from 0 items) (tests_definite 0 items)))

value_definite : (o : Option Data) → Definite (suite.value_in o)
value_definite None e = cc
value_definite (Some d) e = cc

-- what bytes state is never that memory ran out
stated_definite : (bytes : List ℕ) → Definite (stated bytes)
stated_definite bytes =
    then_definite (suite.value_in (suite.document bytes)) suite.stated_in
    (value_definite (suite.document bytes)) stated_in_definite

-- bytes that aren't too many state tests or have a first refusal
by_stated : (bytes : List ℕ) (r : Result Stated SuiteFault) → length bytes ≤ suite_limit → stated bytes ≡ r → Definite r
    → StatesSuite bytes ⊎ HasSuiteFault bytes
by_stated bytes (Ok s) short is some = inl (s.tests, s.limit, record { short = short; states = is })
by_stated bytes (Err f) short is some =
    inr (tests.Suite f, apart, IsSuiteFault.of_suite f short is)
  where
    apart : tests.Suite f ≢ tests.Suite refusal.NoMemory
    apart e = let same : f ≡ refusal.NoMemory = cc in some (ap Err same)

-- all bytes state tests or have a first refusal as a suite
pub every_suite : EverySuiteIsJudged
every_suite bytes = by_length (larger (length bytes) suite_limit)
  where
    by_length : (length bytes ≤ suite_limit) ⊎ (suite_limit < length bytes) → StatesSuite bytes ⊎ HasSuiteFault bytes
    by_length (inl short) = by_stated bytes (stated bytes) short refl (stated_definite bytes)
    by_length (inr long) = inr (tests.TooLong, λ e. cc, IsSuiteFault.too_long long)

-- How long a message is.
use Rattle.std.proofs.Common.{◌≡◌, ℕ, ◌≤◌, ◌<◌, ◌+◌, ◌^◌, inl, inr, List, ◌++◌, length, take, not, ◌==◌, ap, arith, length-append}
use Rattle.std.proofs.lemmas.List.Sums.{count_by-le-length, suffix_len-le-length}
use Rattle.std.proofs.lemmas.List.{length-take}
use Rattle.std.specs.Prelude.{codes, decimal, Option, Some, None, option_map, IfSome}
use Rattle.std.proofs.lemmas.Fmt.{length-decimal-le}
use Rattle.c_lex.specs.FaultWords as lexer
use Rattle.c_lex.specs.declared.fault.LexFault.{LexFault}
use Rattle.c_lex.specs.declared.fault.LexFault.TheVariants as lex
use Rattle.c_parse.specs.FaultWords as parser
use Rattle.c_parse.specs.declared.fault.ParseFault.{ParseFault}
use Rattle.c_parse.specs.declared.fault.ParseFault.TheVariants as parse
use Rattle.c_types.specs.FaultWords as checker
use Rattle.c_types.specs.declared.fault.TypeFault.{TypeFault}
use Rattle.c_types.specs.declared.fault.TypeFault.TheVariants as kinds
use Rattle.test_suite.specs.Faults as reader
use Rattle.test_suite.specs.declared.fault.Key.{Key}
use Rattle.test_suite.specs.declared.fault.Key.TheVariants as key
use Rattle.test_suite.specs.declared.fault.SuiteFault.{SuiteFault}
use Rattle.test_suite.specs.declared.fault.SuiteFault.TheVariants as refused
use Rattle.repair_cli.specs.Complete.{OnRead, IsFaultless, longest, longest_of}
use Rattle.repair_cli.specs.Faults.{Refuses, IsFault, fault_words, fault_message}
use Rattle.patch_text.specs.Lines.{line_of, column_of}
use Rattle.repair_cli.specs.Refusal.{status_of, message_of}
use Rattle.repair_cli.specs.Source.{Source, Cause}
use Rattle.repair_cli.specs.SuiteFaults.{IsSuiteFault, StatesNoSuite, suite_message, fault_words as tests_words}
use Rattle.repair_cli.specs.Words.{Command, repair, command_in}
use Rattle.repair_cli.specs.Texts.{position_of, located, faulty, faulty_suite, said_of, said_of_test, cannot_read}
use Rattle.repair_cli.specs.declared.fault.ProgramFault.{ProgramFault}
use Rattle.repair_cli.specs.declared.fault.ProgramFault.TheVariants.{TooLong, Lex, Parse, Kinds, TooManyLocations, NoMemory}
use Rattle.repair_cli.specs.declared.fault.TestsFault.{TestsFault}
use Rattle.repair_cli.specs.declared.fault.TestsFault.TheVariants as tests
use Rattle.repair_cli.specs.declared.refusal.Refusal.{Refusal}
use Rattle.repair_cli.specs.declared.refusal.Refusal.TheVariants as reason
use Rattle.repair_cli.specs.declared.status.Status.{Status}
use Rattle.repair_cli.specs.declared.status.Status.TheVariants as status
use Rattle.repair_cli.proofs.SuiteTests.{stated_below}

-- the longest words are those for a late directive
lex_words : (f : LexFault) → length (lexer.words_of f) ≤ 37
lex_words lex.NoMemory = omega arith
lex_words f = omega arith

-- no words of the parser are longer
parse_words : (f : ParseFault) → length (parser.fault_words f) ≤ 37
parse_words parse.NoMemory = omega arith
parse_words f = omega arith

-- nor are those of kinds
kind_words : (f : TypeFault) → length (checker.words_of f) ≤ 37
kind_words kinds.NoMemory = omega arith
kind_words f = omega arith

-- nor are others
pub words_within : (f : ProgramFault) → length (fault_words f) ≤ 37
words_within TooLong = omega arith
words_within (Lex f) = lex_words f
words_within (Parse f) = parse_words f
words_within (Kinds f) = kind_words f
words_within (TooManyLocations n) = omega arith
words_within NoMemory = omega arith

-- a number of 32 bits has ten digits at most
digits_within : (n : ℕ) → n < 2 ^ 32 → length (decimal n) ≤ 10
digits_within n small = length-decimal-le 10 n (omega arith) (omega (arith, small)) (omega (arith, small))

-- a message with a line and a column is at most 62 bytes longer than the name
located_within : (name : List ℕ) (line column : ℕ) (f : ProgramFault) → line < 2 ^ 32 → column < 2 ^ 32 → length (located name line column (fault_words f)) ≤ 62 + length name
located_within name line column f l c =
    let text = fault_words f in
    let one = name ++ codes ":" in
    let two = one ++ decimal line in
    let three = two ++ codes ":" in
    let four = three ++ decimal column in
    let five = four ++ codes ": " in
    let six = five ++ text in
    omega (
      arith,
      length-append six (codes "\n"),
      length-append five text,
      length-append four (codes ": "),
      length-append three (decimal column),
      length-append two (codes ":"),
      length-append one (decimal line),
      length-append name (codes ":"),
      words_within f,
      digits_within line l,
      digits_within column c,
    )

-- a message with none is at most 62 bytes longer than the name
said_within : (name words : List ℕ) → length words ≤ 37 → length (said_of name words) ≤ 62 + length name
said_within name words short =
    let one = name ++ codes ": " in
    let two = one ++ words in
    omega (arith, length-append two (codes "\n"), length-append one words, length-append name (codes ": "), short)

-- no key is longer than `output`
key_word : (key : Key) → length (reader.word_of key) ≤ 6
key_word key.Name = omega arith
key_word k = omega arith

-- no words of a suite's refusal are longer than those of a bad output
suite_words : (f : SuiteFault) → length (reader.words_of f) ≤ 16
suite_words (refused.BadField test k) = omega (arith, length-append (codes "bad field ") (reader.word_of k), key_word k)
suite_words (refused.TooLongText test k) = omega (arith, length-append (codes "too long ") (reader.word_of k), key_word k)
suite_words refused.NotJson = omega arith
suite_words f = omega arith

-- a message with the number of a test is at most 62 bytes longer than the name
test_within : (name words : List ℕ) (number : ℕ) → number < 256 → length words ≤ 16 → length (said_of_test name number words) ≤ 62 + length name
test_within name words number small short =
    let one = name ++ codes ": test " in
    let two = one ++ decimal number in
    let three = two ++ codes ": " in
    let four = three ++ words in
    omega (
      arith,
      length-append four (codes "\n"),
      length-append three words,
      length-append two (codes ": "),
      length-append one (decimal number),
      length-append name (codes ": test "),
      digits_within number (omega (arith, small)),
      short,
    )

-- ---- the messages of a call

-- the line of a place in a source is a number of 32 bits
line_small : (bytes : List ℕ) (place : ℕ) → length bytes ≤ 65536 → line_of bytes place < 2 ^ 32
line_small bytes place short = let feeds = count_by-le-length (λ b. b == 10) (take place bytes) in omega (arith, feeds, length-take place bytes, short)

-- so is the column
column_small : (bytes : List ℕ) (place : ℕ) → length bytes ≤ 65536 → column_of bytes place < 2 ^ 32
column_small bytes place short = let since = suffix_len-le-length (λ b. not (b == 10)) (take place bytes) in omega (arith, since, length-take place bytes, short)

-- the message of a fault with words no longer than those is at most 64 bytes longer than the name
at_within : (name bytes : List ℕ) (at : Option ℕ) (f : ProgramFault) → length bytes ≤ 65536 → length (faulty name (option_map (position_of bytes) at) (fault_words f)) ≤ 64 + length name
at_within name bytes None f short = let h = said_within name (fault_words f) (words_within f) in omega (arith, h)
at_within name bytes (Some place) f short =
    let h = located_within name (line_of bytes place) (column_of bytes place) f (line_small bytes place short) (column_small bytes place short) in omega (arith, h)

-- so is that of the first fault of a source
fault_within : (name bytes : List ℕ) (f : ProgramFault) → IsFault bytes f → length (fault_message name bytes f) ≤ 64 + length name
fault_within name bytes _ (IsFault.too_long a) = let h = said_within name (fault_words TooLong) (omega arith) in omega (arith, h)
fault_within name bytes _ (IsFault.of_text f n s a) = at_within name bytes (lexer.place_of f) (Lex f) s
fault_within name bytes _ (IsFault.of_tokens f ts n c x) = at_within name bytes (parser.fault_place f) (Parse f) c.short
fault_within name bytes _ (IsFault.of_kinds f t n r x) = at_within name bytes (checker.place_of f) (Kinds f) r.cut.short
fault_within name bytes _ (IsFault.of_size n t r x y) = let h = said_within name (fault_words (TooManyLocations n)) (omega arith) in omega (arith, h)

-- the message of a refused source is at most 64 bytes longer than the name
refuses_within : (name bytes text : List ℕ) → Refuses name bytes text → length text ≤ 64 + length name
refuses_within name bytes text r = let h = fault_within name bytes r.fault r.is_first in omega (arith, h, ap length r.message)

-- a message with no name is no longer than the longest
least : (command : Option Command) → 64 ≤ longest_of command
least None = omega arith
least (Some (repair asked)) = omega arith

-- the message that a file can't be read is at most 64 bytes longer than the name
cannot_read_within : (name text : List ℕ) → text ≡ cannot_read name → length text ≤ 64 + length name
cannot_read_within name text e =
    omega (arith, ap length e, length-append (codes "f1x: cannot read " ++ name) (codes "\n"), length-append (codes "f1x: cannot read ") name)

-- the message of a suite's fault, whose test is one of the first 256, is at most 64 bytes longer than the name
suite_at : (name : List ℕ) (at : Option ℕ) (words : List ℕ) → IfSome at (λ n. n < 256) → length words ≤ 16 → length (faulty_suite name at words) ≤ 64 + length name
suite_at name None words small short = let h = said_within name words (omega (arith, short)) in omega (arith, h)
suite_at name (Some number) words small short = let h = test_within name words number small short in omega (arith, h)

-- so is that of the first refusal of a suite
suite_within : (name bytes : List ℕ) (f : TestsFault) → IsSuiteFault bytes f → length (suite_message name f) ≤ 64 + length name
suite_within name bytes _ (IsSuiteFault.too_long a) = suite_at name None (tests_words tests.TooLong) tt (omega arith)
suite_within name bytes _ (IsSuiteFault.of_suite f s e) = suite_at name (reader.test_at f) (reader.words_of f) (stated_below bytes f e) (suite_words f)

-- the message of a refused suite is at most 64 bytes longer than the name
states_within : (name bytes text : List ℕ) → StatesNoSuite name bytes text → length text ≤ 64 + length name
states_within name bytes text r = let h = suite_within name bytes r.fault r.is_first in omega (arith, h, ap length r.message)

-- the message of a cause is no longer than the longest
pub cause_within : (s : Source) (st : Status) (text : List ℕ) → Cause s st text → length text ≤ longest s
cause_within s status.Usage text c = let h = ap longest_of c.0 in omega (arith, h, ap length c.1)
cause_within s status.ReadFault text (inl c) = let h = ap longest_of c.valid in let i = cannot_read_within c.asked.program text c.message in omega (arith, h, i)
cause_within s status.ReadFault text (inr c) = let h = ap longest_of c.valid in let i = cannot_read_within c.asked.suite text c.message in omega (arith, h, i)
cause_within s status.ProgramRefused text c =
    let h = ap longest_of c.valid in let i = refuses_within c.asked.program c.refused.0 text c.refused.2 in omega (arith, h, i)
cause_within s status.SuiteRefused text c = let h = ap longest_of c.valid in let i = states_within c.asked.suite c.refused.0 text c.refused.2 in omega (arith, h, i)
cause_within s status.NoMemory text c = let h = least (command_in s.words) in omega (arith, h, ap length c)
cause_within s status.WriteFault text c = absurd c
cause_within s status.Sound text c = absurd c
cause_within s status.Nothing text c = absurd c
cause_within s status.Patched text c = absurd c

-- where no read failed, the status of a refusal tells of no failed call
pub is_faultless : (s : Source) (r : Refusal) → OnRead r ⊥ → Cause s (status_of r) (message_of r) → IsFaultless (status_of r)
is_faultless s (reason.Read n) h c = absurd h
is_faultless s reason.Write h c = absurd c
is_faultless s _ h c = tt

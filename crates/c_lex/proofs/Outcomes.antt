-- A source has an outcome: something stands at each place.
use Rattle.std.proofs.Common.{◌≡◌, ◌≢◌, ◌⊎◌, inl, inr, ⊎_elim, ℕ, zero, suc, ◌+◌, ◌<◌, ◌≤◌, Bool, true, false, ◌==◌, if◌then◌else◌, [], ◌∷◌, ◌++◌, length, take, drop, get_or, map, Option, Some, None, codes, Ok, Err, refl, sym, ap, ◌∙◌, arith, length-append}
use Rattle.std.specs.Char.{is_ascii_digit}
use Rattle.std.specs.Option.{MatchOption}
use Rattle.std.proofs.lemmas.Bool.{cases_lt}
use Rattle.std.proofs.lemmas.Bool.Decides.{nat_tests}
use Rattle.std.proofs.lemmas.List.{length-drop}
use Rattle.c_lex.specs.declared.fault.LexFault.TheVariants as fault
use Rattle.c_lex.specs.declared.scan.Scanned.TheVariants as scanned
use Rattle.c_lex.specs.declared.opening.Opening.{Opening}
use Rattle.c_lex.specs.declared.opening.Opening.TheVariants as opening
use Rattle.c_lex.specs.declared.spelling.TheConstants.{PUNCTUATORS}
use Rattle.c_lex.specs.declared.token.Punct.{Punct as PunctKind}
use Rattle.c_lex.specs.declared.token.TokenKind.TheVariants.{Punct}
use Rattle.c_lex.specs.Bytes.{Bytes, is_space, is_letter}
use Rattle.c_lex.specs.Spellings.{punct_spelling, lookup}
use Rattle.c_lex.specs.LiteralReading.{literal_end}
use Rattle.c_lex.specs.Pieces.{goes_on_word, goes_on_number}
use Rattle.c_lex.specs.Places.{IsFirstAt, begins, is_line_end, is_comment_end, is_digraph, is_splice, is_refused}
use Rattle.c_lex.specs.Openings.{opening_of}
use Rattle.c_lex.specs.Directives.{Definition}
use Rattle.c_lex.specs.Laws.{EachHasOutcome}
use Rattle.c_lex.specs.Lexemes.{Lexeme, span_at}
use Rattle.c_lex.specs.Reading.{chain_len}
use Rattle.c_lex.specs.Tokens.{Macros, first_macros, Found, Outcome, also, IsDirective, IsNumber, IsCharacter, IsText, Defines, Says, Stands, Cuts, Lexes}
use Rattle.c_lex.proofs.Appends.{prefix_taken}
use Rattle.c_lex.proofs.Decided.{first_or_nowhere, word_is, number_is, character_is, text_is}
use Rattle.c_lex.proofs.DecidedLines.{directive_is}
use Rattle.c_lex.proofs.ScanParts.{word_stands, number_stands, character_stands, text_stands, none_quoted, punctuator_is, no_punctuator, punctuator_stands}
use Rattle.c_lex.proofs.Lines.{line_ends_somewhere}
use Rattle.c_lex.proofs.Literals.{found_literal, literal_missing}
use Rattle.c_lex.proofs.Longest.{word_at_start, number_at_start}
use Rattle.c_lex.proofs.Runs.{at_most_three, chain_len_within}
use Rattle.c_lex.proofs.Sizes.{stands_within}
use Rattle.c_lex.proofs.Sources.{other_is_trigraph}
use Rattle.c_lex.proofs.Spelled.{looked_up, punctuators_spelled, punctuator_listed}

-- something stands at a place
abbrev HasFound : Macros → ℕ → Bytes → Bool → Opening → Type 0
HasFound m at z begun o = (r : Found) × Stands m at z begun o r

-- ---- punctuators

-- the first n bytes are a punctuator
record HasPunct (z : Bytes) (n : ℕ) : Type 0 where
  punct : PunctKind
  within : n ≤ length z
  spelled : take n z ≡ punct_spelling punct

-- no punctuator at the start has n bytes
abbrev NoPunct : Bytes → ℕ → Type 0
NoPunct z n = (q : PunctKind) (rest : Bytes) → z ≡ punct_spelling q ++ rest → length (punct_spelling q) ≢ n

-- the step of `punct_or_not`, by what the table has for the bytes
punct_by : (z : Bytes) (n : ℕ) (o : Option PunctKind) → n ≤ length z
    → MatchOption o ((q : PunctKind) → take n z ≢ punct_spelling q) (λ q. take n z ≡ punct_spelling q)
    → HasPunct z n ⊎ NoPunct z n
punct_by z n (Some p) l h = inl (record { punct = p; within = l; spelled = h })
punct_by z n None l h =
    inr (λ q rest e s. h q (ap (take n) e ∙ ap (λ k. take k (punct_spelling q ++ rest)) (sym s) ∙ prefix_taken (punct_spelling q) rest))

-- the step of `punct_or_not` at enough bytes
punct_within : (z : Bytes) (n : ℕ) (o : Option PunctKind) → n ≤ length z
    → lookup (map (λ entry. (entry.0.now, entry.1)) PUNCTUATORS) (take n z) ≡ o → HasPunct z n ⊎ NoPunct z n
punct_within z n o l e =
    punct_by z n o l
    (looked_up punct_spelling (map (λ entry. (entry.0.now, entry.1)) PUNCTUATORS) (take n z) o punctuators_spelled punctuator_listed e)

-- the first n bytes are a punctuator, or no punctuator at the start has so many
punct_or_not : (z : Bytes) (n : ℕ) → HasPunct z n ⊎ NoPunct z n
punct_or_not z n =
    ⊎_elim (λ l. inr (λ q rest e s. omega (arith, ap length e, length-append (punct_spelling q) rest)))
    (λ l. punct_within z n (lookup (map (λ entry. (entry.0.now, entry.1)) PUNCTUATORS) (take n z)) l refl)
    (cases_lt (length z) n)

-- the punctuator of n bytes is a token, where none at the start has more
punctuator_found : (m : Macros) (at : ℕ) (z : Bytes) (begun : Bool) (n : ℕ)
    → is_letter (get_or z 0 0) ≡ false → is_ascii_digit (get_or z 0 0) ≡ false
    → HasPunct z n → ((q : PunctKind) (rest : Bytes) → z ≡ punct_spelling q ++ rest → length (punct_spelling q) ≤ n)
    → HasFound m at z begun opening.Other
punctuator_found m at z begun n l d h f =
    (Ok (scanned.Take (Punct h.punct) n), punctuator_stands m at z begun h.punct n (punctuator_is z n h.punct l d h.within h.spelled f))

-- the longest punctuator stands there, or a stray byte
punctuator_or_stray : (m : Macros) (at : ℕ) (z : Bytes) (begun : Bool)
    → is_letter (get_or z 0 0) ≡ false → is_ascii_digit (get_or z 0 0) ≡ false
    → HasPunct z 3 ⊎ NoPunct z 3 → HasPunct z 2 ⊎ NoPunct z 2 → HasPunct z 1 ⊎ NoPunct z 1 → HasFound m at z begun opening.Other
punctuator_or_stray m at z begun l d (inl h) y x = punctuator_found m at z begun 3 l d h (λ q rest e. at_most_three q)
punctuator_or_stray m at z begun l d (inr f) (inl h) x =
    punctuator_found m at z begun 2 l d h (λ q rest e. let no_three = f q rest e in let short = at_most_three q in omega arith)
punctuator_or_stray m at z begun l d (inr f) (inr g) (inl h) =
    punctuator_found m at z begun 1 l d h
    (λ q rest e. let no_three = f q rest e in let no_two = g q rest e in let short = at_most_three q in omega arith)
punctuator_or_stray m at z begun l d (inr f) (inr g) (inr h) = (
  Err (fault.StrayByte at),
  Stands.stray (no_punctuator z l d (λ q rest e.
      let no_three = f q rest e in
      let no_two = g q rest e in
      let no_one = h q rest e in
      let short = at_most_three q in omega arith)),
)

-- ---- what stands at a place

-- a comment goes to the end of its line
line_comment_there : (m : Macros) (at : ℕ) (z : Bytes) (begun : Bool) → HasFound m at z begun opening.LineComment
line_comment_there m at z begun =
    ⊎_elim (λ h. (Ok (scanned.Pass h.0), Stands.line_comment h.1)) (λ f. absurd (line_ends_somewhere z f))
    (first_or_nowhere is_line_end z)

-- a comment is closed, or not
comment_there : (m : Macros) (at : ℕ) (z : Bytes) (begun : Bool) → HasFound m at z begun opening.BlockComment
comment_there m at z begun =
    ⊎_elim (λ h. (Ok (scanned.Pass (h.0 + 4)), Stands.comment h.1)) (λ f. (Err (fault.OpenComment at), Stands.open_comment f))
    (first_or_nowhere is_comment_end (drop 2 z))

-- a directive, or one that comes too late
hash_there : (m : Macros) (at : ℕ) (z : Bytes) (begun : Bool) → HasFound m at z begun opening.Hash
hash_there m at z true = (Err (fault.DirectiveLate at), Stands.late)
hash_there m at z false = let d = directive_is m at z in (d.0, Stands.directive d.1)

-- a word at a letter
word_there : (m : Macros) (at b : ℕ) (z : Bytes) (begun : Bool) → is_letter b ≡ true → HasFound m at (b ∷ z) begun opening.Letter
word_there m at b z begun e =
    let n = 1 + chain_len goes_on_word b z in
    let w = word_is m (take n (b ∷ z)) in
    let fits = chain_len_within goes_on_word b z in
    let longest = (word_at_start (b ∷ z) n (omega arith) e refl).0 in
    (Ok (scanned.Take w.0 n), word_stands m at (b ∷ z) begun w.0 n (omega (arith, fits)) longest w.1)

-- a number at a digit
number_there : (m : Macros) (at b : ℕ) (z : Bytes) (begun : Bool) → is_ascii_digit b ≡ true → HasFound m at (b ∷ z) begun opening.Digit
number_there m at b z begun e =
    let n = 1 + chain_len goes_on_number b z in
    let w = number_is at (take n (b ∷ z)) in
    (w.0, number_stands m at (b ∷ z) begun w.0 n (number_at_start (b ∷ z) n (omega arith) e refl).0 w.1)

-- the step of `character_there`, by the end of the literal
character_by : (m : Macros) (at b : ℕ) (z : Bytes) (begun : Bool) (o : Option ℕ) → b ≡ 39 → literal_end 39 false 1 z ≡ o
    → HasFound m at (b ∷ z) begun opening.Character
character_by m at b z begun None e h =
    (Err (fault.OpenLiteral at), Stands.open_character (none_quoted 39 (b ∷ z) (λ n q. literal_missing 39 n (b ∷ z) h q)))
character_by m at b z begun (Some n) e h =
    let w = character_is at (take n (b ∷ z)) in
    (w.0, character_stands m at (b ∷ z) begun w.0 n (found_literal 39 n (b ∷ z) (omega arith) e h).1 w.1)

-- a character constant at a quote
character_there : (m : Macros) (at b : ℕ) (z : Bytes) (begun : Bool) → (b == 39) ≡ true → HasFound m at (b ∷ z) begun opening.Character
character_there m at b z begun e = character_by m at b z begun (literal_end 39 false 1 z) (grind (arith, nat_tests)) refl

-- the step of `text_there`, by the end of the literal
text_by : (m : Macros) (at b : ℕ) (z : Bytes) (begun : Bool) (o : Option ℕ) → b ≡ 34 → literal_end 34 false 1 z ≡ o
    → HasFound m at (b ∷ z) begun opening.Text
text_by m at b z begun None e h =
    (Err (fault.OpenLiteral at), Stands.open_text (none_quoted 34 (b ∷ z) (λ n q. literal_missing 34 n (b ∷ z) h q)))
text_by m at b z begun (Some n) e h =
    let w = text_is at (take n (b ∷ z)) in
    (w.0, text_stands m at (b ∷ z) begun w.0 n (found_literal 34 n (b ∷ z) (omega arith) e h).1 w.1)

-- a string literal at a quote
text_there : (m : Macros) (at b : ℕ) (z : Bytes) (begun : Bool) → (b == 34) ≡ true → HasFound m at (b ∷ z) begun opening.Text
text_there m at b z begun e = text_by m at b z begun (literal_end 34 false 1 z) (grind (arith, nat_tests)) refl

-- the step of `something_stands`, by what the text begins with
stands_by : (m : Macros) (at b : ℕ) (z : Bytes) (begun : Bool) (s l d h c t g i j : Bool)
    → is_letter b ≡ l → is_ascii_digit b ≡ d → (b == 39) ≡ c → (b == 34) ≡ t
    → HasFound m at (b ∷ z) begun
    (if s then opening.Space else if l then opening.Letter else if d then opening.Digit else if h then opening.Hash
    else if c then opening.Character else if t then opening.Text else if g then opening.LineComment
    else if i then opening.BlockComment else if j then opening.Digraph else opening.Other)
stands_by m at b z begun true l d h c t g i j el ed ec et = (Ok (scanned.Pass 1), Stands.space)
stands_by m at b z begun false true d h c t g i j el ed ec et = word_there m at b z begun el
stands_by m at b z begun false false true h c t g i j el ed ec et = number_there m at b z begun ed
stands_by m at b z begun false false false true c t g i j el ed ec et = hash_there m at (b ∷ z) begun
stands_by m at b z begun false false false false true t g i j el ed ec et = character_there m at b z begun ec
stands_by m at b z begun false false false false false true g i j el ed ec et = text_there m at b z begun et
stands_by m at b z begun false false false false false false true i j el ed ec et = line_comment_there m at (b ∷ z) begun
stands_by m at b z begun false false false false false false false true j el ed ec et = comment_there m at (b ∷ z) begun
stands_by m at b z begun false false false false false false false false true el ed ec et = (Err (fault.Digraph at), Stands.digraph)
stands_by m at b z begun false false false false false false false false false el ed ec et =
    punctuator_or_stray m at (b ∷ z) begun el ed (punct_or_not (b ∷ z) 3) (punct_or_not (b ∷ z) 2) (punct_or_not (b ∷ z) 1)

-- at each place something stands
something_stands : (m : Macros) (at b : ℕ) (z : Bytes) (begun : Bool) → HasFound m at (b ∷ z) begun (opening_of (b ∷ z))
something_stands m at b z begun =
    stands_by m at b z begun (is_space b) (is_letter b) (is_ascii_digit b) (b == 35) (b == 39) (b == 34)
    (begins (codes "//") (b ∷ z)) (begins (codes "/*") (b ∷ z)) (is_digraph (b ∷ z)) refl refl refl refl

-- ---- the whole text

-- a text has an outcome from a place on
abbrev HasCut : Bool → Macros → ℕ → Bytes → Type 0
HasCut begun m at z = (r : Outcome) × Cuts begun m at z r

-- the step of `cut_up_to`, by what stands at the start
cut_by : (begun : Bool) (m : Macros) (at b : ℕ) (z : Bytes) (r : Found) → Stands m at (b ∷ z) begun (opening_of (b ∷ z)) r
    → ((c : Bool) (l : Macros) (place : ℕ) (y : Bytes) → length y < length (b ∷ z) → HasCut c l place y) → HasCut begun m at (b ∷ z)
cut_by begun m at b z (Ok (scanned.Pass len)) h g =
    let w = stands_within h refl (omega arith) in
    let rest = g begun m (at + len) (drop len (b ∷ z)) (omega (arith, w.0, length-drop len (b ∷ z))) in
    (rest.0, Cuts.pass len h rest.1)
cut_by begun m at b z (Ok (scanned.Define name value len)) h g =
    let w = stands_within h refl (omega arith) in
    let rest = g begun ((name, value) ∷ m) (at + len) (drop len (b ∷ z)) (omega (arith, w.0, length-drop len (b ∷ z))) in
    (rest.0, Cuts.define name value len h rest.1)
cut_by begun m at b z (Ok (scanned.Take kind len)) h g =
    let w = stands_within h refl (omega arith) in
    let rest = g true m (at + len) (drop len (b ∷ z)) (omega (arith, w.0, length-drop len (b ∷ z))) in
    (also (kind, span_at at len) rest.0, Cuts.token kind len h rest.1)
cut_by begun m at b z (Err f) h g = (Err f, Cuts.stop f h)

-- a text of no more than n bytes has an outcome from whatever place on
cut_up_to : (n : ℕ) (begun : Bool) (m : Macros) (at : ℕ) (z : Bytes) → length z ≤ n → HasCut begun m at z
cut_up_to n begun m at [] l = (Ok [], Cuts.done)
cut_up_to zero begun m at (b ∷ z) l = absurd (omega arith)
cut_up_to (suc n) begun m at (b ∷ z) l =
    let s = something_stands m at b z begun in
    cut_by begun m at b z s.0 s.1 (λ c k place y h. cut_up_to n c k place y (omega arith))

-- the step of `some_outcome`, at the first place that is refused
refused_by : (bytes : Bytes) (n : ℕ) (x : Bool) → IsFirstAt is_refused bytes n → is_splice (drop n bytes) ≡ x
    → (r : Outcome) × Lexes bytes r
refused_by bytes n true h e = (Err (fault.LineSplice n), Lexes.splice n h e)
refused_by bytes n false h e = (Err (fault.Trigraph n), Lexes.trigraph n h (other_is_trigraph (drop n bytes) h.holds e))

-- a source has an outcome
pub some_outcome : (bytes : Bytes) → (r : Outcome) × Lexes bytes r
some_outcome bytes =
    ⊎_elim (λ h. refused_by bytes h.0 (is_splice (drop h.0 bytes)) h.1 refl)
    (λ f. let d = cut_up_to (length bytes) false first_macros 0 bytes (omega arith) in (d.0, Lexes.cut f d.1))
    (first_or_nowhere is_refused bytes)

-- ---- no outcome is out of memory

-- no definition is out of memory
defines_not_memory : {m : Macros} {at len : ℕ} {d : Definition} {r : Found} → Defines m at len d r → r ≢ Err fault.NoMemory
defines_not_memory (Defines.twice e) q = absurd (cc)
defines_not_memory (Defines.large n e v l) q = absurd (cc)
defines_not_memory (Defines.new n e v l) q = absurd (cc)

-- nor what the text of a directive says
says_not_memory : {m : Macros} {at : ℕ} {line : Bytes} {r : Found} → Says m at line r → r ≢ Err fault.NoMemory
says_not_memory (Says.include h) q = absurd (cc)
says_not_memory (Says.define d h s) q = defines_not_memory s q
says_not_memory (Says.unknown f g) q = absurd (cc)

-- nor a directive
directive_not_memory : {m : Macros} {at : ℕ} {z : Bytes} {r : Found} → IsDirective m at z r → r ≢ Err fault.NoMemory
directive_not_memory (IsDirective.unclosed place h) q = absurd (cc)
directive_not_memory (IsDirective.closed line h s) q = says_not_memory s q

-- nor a number
number_not_memory : {at : ℕ} {w : Bytes} {r : Found} → IsNumber at w r → r ≢ Err fault.NoMemory
number_not_memory (IsNumber.value n v l) q = absurd (cc)
number_not_memory (IsNumber.large n v l) q = absurd (cc)
number_not_memory (IsNumber.bad f) q = absurd (cc)

-- nor a character constant
character_not_memory : {at : ℕ} {w : Bytes} {r : Found} → IsCharacter at w r → r ≢ Err fault.NoMemory
character_not_memory (IsCharacter.value v c) q = absurd (cc)
character_not_memory (IsCharacter.bad f) q = absurd (cc)

-- nor a string literal
text_not_memory : {at : ℕ} {w : Bytes} {r : Found} → IsText at w r → r ≢ Err fault.NoMemory
text_not_memory (IsText.value v c) q = absurd (cc)
text_not_memory (IsText.bad f) q = absurd (cc)

-- nor what stands at a place
stands_not_memory : {m : Macros} {at : ℕ} {z : Bytes} {begun : Bool} {o : Opening} {r : Found} → Stands m at z begun o r
    → r ≢ Err fault.NoMemory
stands_not_memory Stands.space q = absurd (cc)
stands_not_memory (Stands.line_comment f) q = absurd (cc)
stands_not_memory (Stands.comment f) q = absurd (cc)
stands_not_memory (Stands.open_comment f) q = absurd (cc)
stands_not_memory (Stands.directive d) q = directive_not_memory d q
stands_not_memory Stands.late q = absurd (cc)
stands_not_memory (Stands.word w rest e h k) q = absurd (cc)
stands_not_memory (Stands.number w rest e h k) q = number_not_memory k q
stands_not_memory (Stands.character w rest e h k) q = character_not_memory k q
stands_not_memory (Stands.open_character f) q = absurd (cc)
stands_not_memory (Stands.text w rest e h k) q = text_not_memory k q
stands_not_memory (Stands.open_text f) q = absurd (cc)
stands_not_memory Stands.digraph q = absurd (cc)
stands_not_memory (Stands.punctuator p rest e h) q = absurd (cc)
stands_not_memory (Stands.stray f) q = absurd (cc)

-- the step of `cut_not_memory` after a token
also_not_memory : (t : Lexeme) (r : Outcome) → r ≢ Err fault.NoMemory → also t r ≢ Err fault.NoMemory
also_not_memory t (Ok ts) n q = absurd (cc)
also_not_memory t (Err f) n q = n q

-- nor the outcome from a place on
cut_not_memory : {begun : Bool} {m : Macros} {at : ℕ} {z : Bytes} {r : Outcome} → Cuts begun m at z r → r ≢ Err fault.NoMemory
cut_not_memory Cuts.done q = absurd (cc)
cut_not_memory (Cuts.pass len s d) q = cut_not_memory d q
cut_not_memory (Cuts.define name value len s d) q = cut_not_memory d q
cut_not_memory (Cuts.token {at = at} {r = r} kind len s d) q = also_not_memory (kind, span_at at len) r (cut_not_memory d) q
cut_not_memory (Cuts.stop f s) q = let same : f ≡ fault.NoMemory = cc in stands_not_memory s (ap Err same)

-- nor the outcome of a source
pub outcome_not_memory : {bytes : Bytes} {r : Outcome} → Lexes bytes r → r ≢ Err fault.NoMemory
outcome_not_memory (Lexes.splice n h e) q = absurd (cc)
outcome_not_memory (Lexes.trigraph n h e) q = absurd (cc)
outcome_not_memory (Lexes.cut n d) q = cut_not_memory d q

-- each source has an outcome, and it isn't out of memory
pub each_has_outcome : EachHasOutcome
each_has_outcome bytes = let h = some_outcome bytes in (h.0, h.1, outcome_not_memory h.1)

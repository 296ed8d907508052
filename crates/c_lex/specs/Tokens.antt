-- The tokens of a text, or the first fault in it: one cut of the whole text (C11 6.4).
use Rattle.std.specs.Prelude.{◌≡◌, ◌≢◌, ℕ, ℤ, pos, neg_ℤ, ◌+◌, ◌<◌, ◌≤◌, Bool, true, false, if◌then◌else◌, List, [], ◌∷◌, ◌++◌, length, drop, Some, None, Result, Ok, Err, codes}
use Rattle.c_lex.specs.declared.fault.LexFault.{LexFault}
use Rattle.c_lex.specs.declared.fault.LexFault.TheVariants as fault
use Rattle.c_lex.specs.declared.scan.Scanned.{Scanned}
use Rattle.c_lex.specs.declared.scan.Scanned.TheVariants as scanned
use Rattle.c_lex.specs.declared.opening.Opening.{Opening}
use Rattle.c_lex.specs.declared.opening.Opening.TheVariants as opening
use Rattle.c_lex.specs.declared.token.Keyword.{Keyword}
use Rattle.c_lex.specs.declared.token.Punct.{Punct as PunctKind}
use Rattle.c_lex.specs.declared.token.TokenKind.{TokenKind}
use Rattle.c_lex.specs.declared.token.TokenKind.TheVariants.{Name, Const, Str, Word, Punct}
use Rattle.c_lex.specs.Bytes.{Bytes}
use Rattle.c_lex.specs.Spellings.{keyword_spelling, punct_spelling, lookup}
use Rattle.c_lex.specs.Pieces.{IsPiece, IsLongest}
use Rattle.c_lex.specs.Lexemes.{Lexeme, span_at}
use Rattle.c_lex.specs.Constants.{int_limit, single_quote, double_quote, HasValue, is_quoted, between_quotes, Characters, char_value}
use Rattle.c_lex.specs.Places.{IsFirstAt, IsNowhere, is_line_end, is_comment_end, is_splice, is_trigraph, is_refused}
use Rattle.c_lex.specs.Openings.{opening_of}
use Rattle.c_lex.specs.Directives.{HasLine, IsInclude, Definition, IsDefine}

-- the macros that are defined, and their values
abbrev pub Macros : Type 0
Macros = List (Bytes × ℤ)

-- `EOF` is a macro from the start (C11 7.21.1)
abbrev pub first_macros : Macros
first_macros = (codes "EOF", neg_ℤ (pos 1)) ∷ []

-- the tokens of a text, or the first fault in it
abbrev pub Outcome : Type 0
Outcome = Result (List Lexeme) LexFault

-- what stands at a place: something with its length, or a fault
abbrev pub Found : Type 0
Found = Result Scanned LexFault

-- ---- directives

-- the number with its sign
abbrev pub signed : Bool → ℕ → ℤ
signed negative n = if negative then neg_ℤ (pos n) else pos n

-- what a definition of a macro is: twice the same name, a number that an `int` of 32 bits doesn't
-- hold, or a new macro
pub data Defines (m : Macros) (at len : ℕ) (d : Definition) : Found → Type 0 where
  twice : {v : ℤ} → lookup m d.name ≡ Some v
      → Defines m at len d (Err (fault.MacroTwice (at + d.name_at)))
  large : (n : ℕ) → lookup m d.name ≡ None → HasValue d.number n → int_limit ≤ n
      → Defines m at len d (Err (fault.ConstantTooLarge (at + d.number_at)))
  new : (n : ℕ) → lookup m d.name ≡ None → HasValue d.number n → n < int_limit
      → Defines m at len d (Ok (scanned.Define d.name (signed d.negative n) len))

-- what the text of a directive says
pub data Says (m : Macros) (at : ℕ) (line : Bytes) : Found → Type 0 where
  include : IsInclude line → Says m at line (Ok (scanned.Pass (length line)))
  define : {r : Found} (d : Definition) → IsDefine line d → Defines m at (length line) d r
      → Says m at line r
  unknown : (IsInclude line → ⊥) → ((d : Definition) → IsDefine line d → ⊥)
      → Says m at line (Err (fault.DirectiveUnknown at))

-- what the directive at the start of z is
pub data IsDirective (m : Macros) (at : ℕ) (z : Bytes) : Found → Type 0 where
  unclosed : (place : ℕ) → HasLine z (Err place)
      → IsDirective m at z (Err (fault.OpenComment (at + place)))
  closed : {r : Found} (line : Bytes) → HasLine z (Ok line) → Says m at line r
      → IsDirective m at z r

-- ---- tokens

-- the token of an identifier w: a keyword (C11 6.4.1), the value of a macro, or a name
pub data IsWord (m : Macros) (w : Bytes) : TokenKind → Type 0 where
  keyword : (k : Keyword) → w ≡ keyword_spelling k → IsWord m w (Word k)
  macro : {v : ℤ} → ((k : Keyword) → w ≢ keyword_spelling k) → lookup m w ≡ Some v
      → IsWord m w (Const v w)
  name : ((k : Keyword) → w ≢ keyword_spelling k) → lookup m w ≡ None → IsWord m w (Name w)

-- what a number w is: a constant that an `int` of 32 bits holds, or a fault
pub data IsNumber (at : ℕ) (w : Bytes) : Found → Type 0 where
  value : (n : ℕ) → HasValue w n → n < int_limit
      → IsNumber at w (Ok (scanned.Take (Const (pos n) w) (length w)))
  large : (n : ℕ) → HasValue w n → int_limit ≤ n → IsNumber at w (Err (fault.ConstantTooLarge at))
  bad : ((n : ℕ) → HasValue w n → ⊥) → IsNumber at w (Err (fault.BadConstant at))

-- what a whole character constant w is: of one character, or a fault
pub data IsCharacter (at : ℕ) (w : Bytes) : Found → Type 0 where
  value : (v : ℕ) → Characters single_quote (between_quotes w) (v ∷ [])
      → IsCharacter at w (Ok (scanned.Take (Const (char_value v) w) (length w)))
  bad : ((v : ℕ) → Characters single_quote (between_quotes w) (v ∷ []) → ⊥)
      → IsCharacter at w (Err (fault.BadConstant at))

-- what a whole string literal w is: its characters, or a fault
pub data IsText (at : ℕ) (w : Bytes) : Found → Type 0 where
  value : (values : List ℕ) → Characters double_quote (between_quotes w) values
      → IsText at w (Ok (scanned.Take (Str values) (length w)))
  bad : ((values : List ℕ) → Characters double_quote (between_quotes w) values → ⊥)
      → IsText at w (Err (fault.BadConstant at))

-- what stands at the place `at`, of which z is the text, by what z begins with; `begun` says that a
-- token was read before
pub data Stands (m : Macros) (at : ℕ) (z : Bytes) : Bool → Opening → Found → Type 0 where
  space : {begun : Bool} → Stands m at z begun opening.Space (Ok (scanned.Pass 1))
  line_comment : {begun : Bool} {n : ℕ} → IsFirstAt is_line_end z n
      → Stands m at z begun opening.LineComment (Ok (scanned.Pass n))
  comment : {begun : Bool} {n : ℕ} → IsFirstAt is_comment_end (drop 2 z) n
      → Stands m at z begun opening.BlockComment (Ok (scanned.Pass (n + 4)))
  open_comment : {begun : Bool} → IsNowhere is_comment_end (drop 2 z)
      → Stands m at z begun opening.BlockComment (Err (fault.OpenComment at))
  directive : {r : Found} → IsDirective m at z r → Stands m at z false opening.Hash r
  late : Stands m at z true opening.Hash (Err (fault.DirectiveLate at))
  word : {begun : Bool} {kind : TokenKind} (w rest : Bytes) → z ≡ w ++ rest → IsLongest w rest
      → IsWord m w kind → Stands m at z begun opening.Letter (Ok (scanned.Take kind (length w)))
  number : {begun : Bool} {r : Found} (w rest : Bytes) → z ≡ w ++ rest → IsLongest w rest
      → IsNumber at w r → Stands m at z begun opening.Digit r
  character : {begun : Bool} {r : Found} (w rest : Bytes) → z ≡ w ++ rest
      → is_quoted single_quote w ≡ true → IsCharacter at w r
      → Stands m at z begun opening.Character r
  open_character : {begun : Bool}
      → ((w rest : Bytes) → z ≡ w ++ rest → is_quoted single_quote w ≡ true → ⊥)
      → Stands m at z begun opening.Character (Err (fault.OpenLiteral at))
  text : {begun : Bool} {r : Found} (w rest : Bytes) → z ≡ w ++ rest
      → is_quoted double_quote w ≡ true → IsText at w r → Stands m at z begun opening.Text r
  open_text : {begun : Bool}
      → ((w rest : Bytes) → z ≡ w ++ rest → is_quoted double_quote w ≡ true → ⊥)
      → Stands m at z begun opening.Text (Err (fault.OpenLiteral at))
  digraph : {begun : Bool} → Stands m at z begun opening.Digraph (Err (fault.Digraph at))
  punctuator : {begun : Bool} (p : PunctKind) (rest : Bytes) → z ≡ punct_spelling p ++ rest
      → IsLongest (punct_spelling p) rest
      → Stands m at z begun opening.Other
      (Ok (scanned.Take (Punct p) (length (punct_spelling p))))
  stray : {begun : Bool} → ((w rest : Bytes) → z ≡ w ++ rest → IsPiece w → ⊥)
      → Stands m at z begun opening.Other (Err (fault.StrayByte at))

-- ---- the whole text

-- a token before the outcome of what follows
abbrev pub also : Lexeme → Outcome → Outcome
also t (Ok ts) = Ok (t ∷ ts)
also t (Err f) = Err f

-- the outcome from the place `at` on, of which z is the text, with the macros so far; `begun` says
-- that a token was read before
pub data Cuts : Bool → Macros → ℕ → Bytes → Outcome → Type 0 where
  done : {begun : Bool} {m : Macros} {at : ℕ} → Cuts begun m at [] (Ok [])
  pass : {begun : Bool} {m : Macros} {at b : ℕ} {z : Bytes} {r : Outcome} (len : ℕ)
      → Stands m at (b ∷ z) begun (opening_of (b ∷ z)) (Ok (scanned.Pass len))
      → Cuts begun m (at + len) (drop len (b ∷ z)) r → Cuts begun m at (b ∷ z) r
  define : {begun : Bool} {m : Macros} {at b : ℕ} {z : Bytes} {r : Outcome} (name : Bytes)
      (value : ℤ) (len : ℕ)
      → Stands m at (b ∷ z) begun (opening_of (b ∷ z)) (Ok (scanned.Define name value len))
      → Cuts begun ((name, value) ∷ m) (at + len) (drop len (b ∷ z)) r → Cuts begun m at (b ∷ z) r
  token : {begun : Bool} {m : Macros} {at b : ℕ} {z : Bytes} {r : Outcome} (kind : TokenKind)
      (len : ℕ) → Stands m at (b ∷ z) begun (opening_of (b ∷ z)) (Ok (scanned.Take kind len))
      → Cuts true m (at + len) (drop len (b ∷ z)) r
      → Cuts begun m at (b ∷ z) (also (kind, span_at at len) r)
  stop : {begun : Bool} {m : Macros} {at b : ℕ} {z : Bytes} (f : LexFault)
      → Stands m at (b ∷ z) begun (opening_of (b ∷ z)) (Err f) → Cuts begun m at (b ∷ z) (Err f)

-- the outcome of a whole text: what is refused anywhere comes first, also in comments and literals
pub data Lexes (bytes : Bytes) : Outcome → Type 0 where
  splice : (n : ℕ) → IsFirstAt is_refused bytes n → is_splice (drop n bytes) ≡ true
      → Lexes bytes (Err (fault.LineSplice n))
  trigraph : (n : ℕ) → IsFirstAt is_refused bytes n → is_trigraph (drop n bytes) ≡ true
      → Lexes bytes (Err (fault.Trigraph n))
  cut : {r : Outcome} → IsNowhere is_refused bytes → Cuts false first_macros 0 bytes r
      → Lexes bytes r

-- the place of a fault, which is at most `end`
abbrev pub IsPlaced : ℕ → LexFault → Type 0
IsPlaced end (fault.StrayByte place) = place ≤ end
IsPlaced end (fault.OpenComment place) = place ≤ end
IsPlaced end (fault.OpenLiteral place) = place ≤ end
IsPlaced end (fault.BadConstant place) = place ≤ end
IsPlaced end (fault.ConstantTooLarge place) = place ≤ end
IsPlaced end (fault.DirectiveLate place) = place ≤ end
IsPlaced end (fault.DirectiveUnknown place) = place ≤ end
IsPlaced end (fault.MacroTwice place) = place ≤ end
IsPlaced end (fault.Digraph place) = place ≤ end
IsPlaced end (fault.LineSplice place) = place ≤ end
IsPlaced end (fault.Trigraph place) = place ≤ end
IsPlaced end fault.NoMemory = Unit {0}

-- What the parts of the lexer say of the text that they read.
use Rattle.std.specs.Prelude.{◌≡◌, ◌≢◌, ℕ, ℤ, suc, Bool, if◌then◌else◌, [], ◌∷◌, ◌++◌, length, Option, Ok, Err}
use Rattle.std.specs.BTreeMap.{get_by}
use Rattle.std.specs.Cmp.Lexicographic.{slice_cmp}
use Rattle.std.specs.Ordering.{nat_cmp}
use Rattle.c_lex.specs.declared.fault.LexFault.TheVariants.{NoMemory}
use Rattle.c_lex.specs.declared.macros.MacroMap.{MacroMap}
use Rattle.c_lex.specs.declared.target.Target.{Target}
use Rattle.c_lex.specs.declared.target.Target.TheVariants as target
use Rattle.c_lex.specs.declared.opening.Opening.{Opening}
use Rattle.c_lex.specs.declared.token.Punct.{Punct}
use Rattle.c_lex.specs.declared.piece.Run.{Run}
use Rattle.c_lex.specs.declared.piece.Run.TheVariants as run
use Rattle.c_lex.specs.Bytes.{Bytes}
use Rattle.c_lex.specs.Spellings.{punct_spelling, lookup}
use Rattle.c_lex.specs.Pieces.{goes_on_word, goes_on_number, IsPiece, IsLongest}
use Rattle.c_lex.specs.Places.{is_refused, is_comment_end, is_line_end}
use Rattle.c_lex.specs.Tokens.{Macros, Found, Stands}

-- what goes on a run
abbrev pub goes_on : Run → ℕ → ℕ → Bool
goes_on run.Word = goes_on_word
goes_on run.Number = goes_on_number

-- how many bytes go on a run after the byte `before`
abbrev pub chain_len : (ℕ → ℕ → Bool) → ℕ → Bytes → ℕ
chain_len goes before [] = 0
chain_len goes before (b ∷ z) = if goes before b then suc (chain_len goes b z) else 0

-- what the target of a search is
abbrev pub test_of : Target → Bytes → Bool
test_of target.Refused = is_refused
test_of target.CommentEnd = is_comment_end
test_of target.LineEnd = is_line_end

-- the value that a map of macros has for a name
abbrev pub value_in : MacroMap → Bytes → Option ℤ
value_in map word = get_by (λ k. slice_cmp nat_cmp word k.items) map.values

-- a map has the values of these macros
abbrev pub Knows : MacroMap → Macros → Type 0
Knows map m = (word : Bytes) → value_in map word ≡ lookup m word

-- what is answered of what stands at a place; of `NoMemory` nothing is said
abbrev pub Finds : (Found → Type 0) → Found → Type 0
Finds P (Ok found) = P (Ok found)
Finds P (Err f) = f ≢ NoMemory → P (Err f)

-- what is found with a map of macros is right for all macros whose values the map has
abbrev pub FindsKnowing : MacroMap → (Macros → Found → Type 0) → Found → Type 0
FindsKnowing map P = Finds (λ r. (m : Macros) → Knows map m → P m r)

-- what is found stands at the place `at`, of which z is the text and which begins so, whatever the
-- macros and whether or not a token was read before
abbrev pub FindsAt : ℕ → Bytes → Opening → Found → Type 0
FindsAt at z o = Finds (λ r. (m : Macros) (begun : Bool) → Stands m at z begun o r)

-- the punctuator of `len` bytes is the longest piece at the start
abbrev pub IsPunctuator : Bytes → Punct → ℕ → Type 0
IsPunctuator z p len =
    (rest : Bytes) × (z ≡ punct_spelling p ++ rest) × (length (punct_spelling p) ≡ len)
    × IsLongest (punct_spelling p) rest

-- no piece stands at the start
abbrev pub NoPiece : Bytes → Type 0
NoPiece z = (w rest : Bytes) → z ≡ w ++ rest → IsPiece w → ⊥

-- What the reading asks of some bytes has an answer: where a target stands first, what a constant is, what characters are.
use Rattle.std.proofs.Common.{◌≡◌, ◌≢◌, ◌⊎◌, inl, inr, ⊎_elim, ℕ, zero, suc, ℤ, pos, ◌^◌, ◌<◌, ◌≤◌, Bool, true, false, List, [], ◌∷◌, length, drop, map, Option, Some, None, Ok, Err, refl, ap, ◌∙◌, arith}
use Rattle.std.specs.Char.{digit_value}
use Rattle.std.specs.Option.{MatchOption}
use Rattle.std.specs.Str.Parse.{AllDigits, digits_value}
use Rattle.std.proofs.lemmas.Bool.{cases_lt, cases_eq}
use Rattle.std.proofs.lemmas.List.{drop_all, length-drop}
use Rattle.c_lex.specs.declared.character.FirstCharacter.{FirstCharacter}
use Rattle.c_lex.specs.declared.constant.Constant.{Constant}
use Rattle.c_lex.specs.declared.constant.Constant.TheVariants.{Value, TooLarge, Bad}
use Rattle.c_lex.specs.declared.fault.LexFault.TheVariants as fault
use Rattle.c_lex.specs.declared.scan.Scanned.TheVariants as scanned
use Rattle.c_lex.specs.declared.spelling.TheConstants.{KEYWORDS}
use Rattle.c_lex.specs.declared.token.Keyword.{Keyword}
use Rattle.c_lex.specs.declared.token.TokenKind.{TokenKind}
use Rattle.c_lex.specs.declared.token.TokenKind.TheVariants.{Name, Const, Str, Word}
use Rattle.c_lex.specs.Bytes.{Bytes}
use Rattle.c_lex.specs.Spellings.{keyword_spelling, lookup}
use Rattle.c_lex.specs.Constants.{HasDigits, between_quotes, Characters, char_value}
use Rattle.c_lex.specs.LiteralReading.{begins_hexadecimal, begins_zero, AnswersDigits, Answers, first_character}
use Rattle.c_lex.specs.Places.{IsFirstAt, IsNowhere}
use Rattle.c_lex.specs.Tokens.{Macros, Found, IsWord, IsNumber, IsCharacter, IsText}
use Rattle.c_lex.proofs.Characters.{first_is, after_first, only_one, not_only, no_one, no_characters}
use Rattle.c_lex.proofs.Constants.{decimal_answers, octal_answers, hexadecimal_answers}
use Rattle.c_lex.proofs.Spelled.{looked_up, keywords_spelled, keyword_listed}

-- ---- places

-- a target stands somewhere first, or nowhere
abbrev pub FirstOrNowhere : (Bytes → Bool) → Bytes → Type 0
FirstOrNowhere test z = ((n : ℕ) × IsFirstAt test z n) ⊎ IsNowhere test z

-- the target stands at no place before n, seen from one byte earlier
not_earlier : (test : Bytes → Bool) (b : ℕ) (z : Bytes) (n : ℕ) → test (b ∷ z) ≡ false
    → ((m : ℕ) → m < n → test (drop m z) ≡ false) → (m : ℕ) → m < suc n → test (drop m (b ∷ z)) ≡ false
not_earlier test b z n e f zero l = e
not_earlier test b z n e f (suc m) l = f m (omega arith)

-- the target stands at the start
first_here : (test : Bytes → Bool) (z : Bytes) → test z ≡ true → IsFirstAt test z 0
first_here test z e = record { within = omega arith; holds = e; first = λ m l. absurd (omega arith) }

-- the step of `first_or_nowhere` at the end
first_in_none : (test : Bytes → Bool) (x : Bool) → test [] ≡ x → FirstOrNowhere test []
first_in_none test true e = inl (0, first_here test [] e)
first_in_none test false e = inr (λ m l. ap test (drop_all m [] (omega arith)) ∙ e)

-- the step of `first_or_nowhere` at a byte
first_in_more : (test : Bytes → Bool) (b : ℕ) (z : Bytes) (x : Bool) → test (b ∷ z) ≡ x → FirstOrNowhere test z
    → FirstOrNowhere test (b ∷ z)
first_in_more test b z true e h = inl (0, first_here test (b ∷ z) e)
first_in_more test b z false e (inl h) =
    inl (suc h.0, record { within = omega (arith, h.1.within); holds = h.1.holds; first = not_earlier test b z h.0 e h.1.first })
first_in_more test b z false e (inr h) =
    inr (λ m l. not_earlier test b z (suc (length z)) e (λ k s. h k (omega arith)) m (omega arith))

-- in each text a target stands somewhere first, or nowhere
pub first_or_nowhere : (test : Bytes → Bool) (z : Bytes) → FirstOrNowhere test z
first_or_nowhere test [] = first_in_none test (test []) refl
first_or_nowhere test (b ∷ z) = first_in_more test b z (test (b ∷ z)) refl (first_or_nowhere test z)

-- ---- words

-- a word is spelled as some keyword, or as none
abbrev KeywordOrNot : Bytes → Type 0
KeywordOrNot w = ((k : Keyword) × (w ≡ keyword_spelling k)) ⊎ ((k : Keyword) → w ≢ keyword_spelling k)

-- the step of `keyword_or_not`, by what the table has for the word
keyword_by : (w : Bytes) (o : Option Keyword)
    → MatchOption o ((k : Keyword) → w ≢ keyword_spelling k) (λ k. w ≡ keyword_spelling k) → KeywordOrNot w
keyword_by w (Some k) h = inl (k, h)
keyword_by w None h = inr h

-- the same, at the word itself
keyword_found : (w : Bytes) (o : Option Keyword) → lookup (map (λ entry. (entry.0.now, entry.1)) KEYWORDS) w ≡ o → KeywordOrNot w
keyword_found w o e =
    keyword_by w o
    (looked_up keyword_spelling (map (λ entry. (entry.0.now, entry.1)) KEYWORDS) w o keywords_spelled keyword_listed e)

-- so is each word
pub keyword_or_not : (w : Bytes) → ((k : Keyword) × (w ≡ keyword_spelling k)) ⊎ ((k : Keyword) → w ≢ keyword_spelling k)
keyword_or_not w = keyword_found w (lookup (map (λ entry. (entry.0.now, entry.1)) KEYWORDS) w) refl

-- the step of `word_is`, by the value of a macro
word_by : (m : Macros) (w : Bytes) (o : Option ℤ) → ((k : Keyword) → w ≢ keyword_spelling k) → lookup m w ≡ o
    → (kind : TokenKind) × IsWord m w kind
word_by m w (Some v) n e = (Const v w, IsWord.macro n e)
word_by m w None n e = (Name w, IsWord.name n e)

-- each identifier is a token
pub word_is : (m : Macros) (w : Bytes) → (kind : TokenKind) × IsWord m w kind
word_is m w = ⊎_elim (λ h. (Word h.0, IsWord.keyword h.0 h.1)) (λ n. word_by m w (lookup m w) n refl) (keyword_or_not w)

-- ---- integer constants

-- some bytes are digits of the base alone, or they aren't
digits_or_not : (base : ℕ) (w : Bytes) → AllDigits base w ⊎ (AllDigits base w → ⊥)
digits_or_not base [] = inl tt
digits_or_not base (b ∷ w) =
    ⊎_elim (λ l. ⊎_elim (λ h. inl (l, h)) (λ f. inr (λ h. f h.1)) (digits_or_not base w)) (λ l. inr (λ h. omega (arith, h.0)))
    (cases_lt (digit_value b) base)

-- some digits stand for a value, or for one that is too large
some_digits : (base : ℕ) (w : Bytes) → 1 ≤ length w → AllDigits base w → (r : Constant) × AnswersDigits base w r
some_digits base w l h =
    let n = digits_value base w in
    let d : HasDigits base w n = record { some = l; digits = h; is_value = refl } in
    ⊎_elim (λ s. (Value (pos n), (n, d, s, refl))) (λ s. (TooLarge, (n, d, s))) (cases_lt n (2 ^ 31))

-- some bytes stand for something as digits of a base
digits_answered : (base : ℕ) (w : Bytes) → (r : Constant) × AnswersDigits base w r
digits_answered base w =
    ⊎_elim (λ l. (Bad, λ n h. omega (arith, h.some)))
    (λ l. ⊎_elim (λ h. some_digits base w l h) (λ f. (Bad, λ n h. f h.digits)) (digits_or_not base w))
    (cases_lt (length w) 1)

-- the step of `constant_answered`, by how the word begins
constant_by : (w : Bytes) (x y : Bool) → begins_hexadecimal w ≡ x → begins_zero w ≡ y → (r : Constant) × Answers w r
constant_by w true y e f = let a = digits_answered 16 (drop 2 w) in (a.0, hexadecimal_answers w a.0 e a.1)
constant_by w false true e f = let a = digits_answered 8 w in (a.0, octal_answers w a.0 e f a.1)
constant_by w false false e f = let a = digits_answered 10 w in (a.0, decimal_answers w a.0 f a.1)

-- each word stands for something as an integer constant
pub constant_answered : (w : Bytes) → (r : Constant) × Answers w r
constant_answered w = constant_by w (begins_hexadecimal w) (begins_zero w) refl refl

-- the step of `number_is`, by what the word stands for
number_by : (at : ℕ) (w : Bytes) (c : Constant) → Answers w c → (r : Found) × IsNumber at w r
number_by at w (Value v) a = (Ok (scanned.Take (Const (pos a.0) w) (length w)), IsNumber.value a.0 a.1 a.2)
number_by at w TooLarge a = (Err (fault.ConstantTooLarge at), IsNumber.large a.0 a.1 a.2)
number_by at w Bad a = (Err (fault.BadConstant at), IsNumber.bad a)

-- each number is a constant or a fault
pub number_is : (at : ℕ) (w : Bytes) → (r : Found) × IsNumber at w r
number_is at w = let a = constant_answered w in number_by at w a.0 a.1

-- ---- literals

-- the step of `character_is`, by what is read first between the quotes
character_by : (at : ℕ) (w : Bytes) (o : Option FirstCharacter) → first_character 39 (between_quotes w) ≡ o
    → (r : Found) × IsCharacter at w r
character_by at w None e = (Err (fault.BadConstant at), IsCharacter.bad (λ v d. no_one 39 v (between_quotes w) e d))
character_by at w (Some f) e =
    let z = between_quotes w in
    ⊎_elim (λ l. (Ok (scanned.Take (Const (char_value f.value) w) (length w)), IsCharacter.value f.value (only_one 39 z f e l)))
    (λ n. (Err (fault.BadConstant at), IsCharacter.bad (λ v d. not_only 39 v z f e n d)))
    (cases_eq f.len (length z))

-- each whole character constant is a constant or a fault
pub character_is : (at : ℕ) (w : Bytes) → (r : Found) × IsCharacter at w r
character_is at w = character_by at w (first_character 39 (between_quotes w)) refl

-- some bytes are a list of characters, or they are none
abbrev CharactersOrNot : ℕ → Bytes → Type 0
CharactersOrNot quote z = ((values : List ℕ) × Characters quote z values) ⊎ ((values : List ℕ) → Characters quote z values → ⊥)

-- the step of `characters_or_not`, by the first character
characters_by : (quote b : ℕ) (z : Bytes) (o : Option FirstCharacter) → first_character quote (b ∷ z) ≡ o
    → ((y : Bytes) → length y < length (b ∷ z) → CharactersOrNot quote y) → CharactersOrNot quote (b ∷ z)
characters_by quote b z None e g = inr (λ values d. no_characters e (omega arith) d)
characters_by quote b z (Some f) e g =
    let i = first_is quote (b ∷ z) f e in
    let left = drop f.len (b ∷ z) in
    ⊎_elim (λ h. inl (f.value ∷ h.0, Characters.more i.character h.1))
    (λ n. inr (λ values d. let a = after_first d i.character in n a.0 a.2))
    (g left (omega (arith, length-drop f.len (b ∷ z), i.some)))

-- some bytes, no more than n, are a list of characters or none
characters_up_to : (n quote : ℕ) (z : Bytes) → length z ≤ n → CharactersOrNot quote z
characters_up_to n quote [] l = inl ([], Characters.done)
characters_up_to zero quote (b ∷ z) l = absurd (omega arith)
characters_up_to (suc n) quote (b ∷ z) l =
    characters_by quote b z (first_character quote (b ∷ z)) refl (λ y s. characters_up_to n quote y (omega arith))

-- each whole string literal is its characters or a fault
pub text_is : (at : ℕ) (w : Bytes) → (r : Found) × IsText at w r
text_is at w =
    let z = between_quotes w in
    ⊎_elim (λ h. (Ok (scanned.Take (Str h.0) (length w)), IsText.value h.0 h.1)) (λ n. (Err (fault.BadConstant at), IsText.bad n))
    (characters_up_to (length z) 34 z (omega arith))

-- The tables of spellings against the spellings themselves.
use Rattle.std.proofs.Common.{◌≡◌, ◌≢◌, Bool, true, false, ◌&&◌, ◌||◌, ◌==◌, nat_le, if◌then◌else◌, List, [], ◌∷◌, map, length, Option, Some, None, refl, sym, ap, ◌∙◌}
use Rattle.std.specs.Str.{bytes_eq}
use Rattle.std.specs.Option.{MatchOption}
use Rattle.std.proofs.lemmas.Slice.Eq.{bytes_eq-Decides}
use Rattle.c_lex.specs.declared.token.Keyword.{Keyword}
use Rattle.c_lex.specs.declared.token.Keyword.TheVariants as keyword
use Rattle.c_lex.specs.declared.token.Punct.{Punct}
use Rattle.c_lex.specs.declared.token.Punct.TheVariants as punct
use Rattle.c_lex.specs.declared.spelling.TheConstants.{KEYWORDS, PUNCTUATORS}
use Rattle.c_lex.specs.Bytes.{Bytes, is_space, is_word}
use Rattle.c_lex.specs.Spellings.{keyword_spelling, punct_spelling}
use Rattle.c_lex.specs.Pieces.{is_identifier}
use Rattle.c_lex.specs.Spellings.{lookup}

-- each entry of a table has its own spelling
abbrev is_spelled : {A : Type 0} → (A → Bytes) → List (Bytes × A) → Bool
is_spelled spelling [] = true
is_spelled spelling (entry ∷ table) = bytes_eq entry.0 (spelling entry.1) && is_spelled spelling table

-- the step of `found`, by whether the entry is the word, and whether it is spelled as it should be
found_by : {A : Type 0} (spelling : A → Bytes) (entry : Bytes × A) (table : List (Bytes × A)) (word : Bytes) (k : A) (x y : Bool)
    → (is_spelled spelling table ≡ true → lookup table word ≡ Some k → word ≡ spelling k)
    → bytes_eq entry.0 word ≡ x → bytes_eq entry.0 (spelling entry.1) ≡ y
    → (y && is_spelled spelling table) ≡ true → (if x then Some entry.1 else lookup table word) ≡ Some k → word ≡ spelling k
found_by spelling entry table word k true true f p q h e =
    let s = (bytes_eq-Decides entry.0 word).0 p in
    let t = (bytes_eq-Decides entry.0 (spelling entry.1)).0 q in
    let i : entry.1 ≡ k = cc in
    sym s ∙ t ∙ ap spelling i
found_by spelling entry table word k false true f p q h e = f h e
found_by spelling entry table word k x false f p q h e = absurd (cc)

-- what is found in such a table is spelled so
found : {A : Type 0} (spelling : A → Bytes) (table : List (Bytes × A)) (word : Bytes) (k : A)
    → is_spelled spelling table ≡ true → lookup table word ≡ Some k → word ≡ spelling k
found spelling [] word k h e = absurd (cc)
found spelling (entry ∷ table) word k h e =
    found_by spelling entry table word k (bytes_eq entry.0 word) (bytes_eq entry.0 (spelling entry.1)) (found spelling table word k) refl refl h e

-- what `lookup` answers in a table that lists each spelling
pub looked_up : {A : Type 0} (spelling : A → Bytes) (table : List (Bytes × A)) (word : Bytes) (o : Option A)
    → is_spelled spelling table ≡ true → ((k : A) → lookup table (spelling k) ≡ Some k) → lookup table word ≡ o
    → MatchOption o ((k : A) → word ≢ spelling k) (λ k. word ≡ spelling k)
looked_up spelling table word (Some k) h l e = found spelling table word k h e
looked_up spelling table word None h l e = λ k same. let q = l k in let p : lookup table word ≡ lookup table (spelling k) = cc in absurd (cc)

-- ---- keywords

-- each entry of the table of keywords has its own spelling
pub keywords_spelled : is_spelled keyword_spelling (map (λ entry. (entry.0.now, entry.1)) KEYWORDS) ≡ true
unfolding keyword_spelling
keywords_spelled = refl

-- the table of keywords has each spelling
pub keyword_listed : (k : Keyword) → lookup (map (λ entry. (entry.0.now, entry.1)) KEYWORDS) (keyword_spelling k) ≡ Some k
unfolding keyword_spelling
keyword_listed keyword.Auto = refl
keyword_listed _ = refl

-- a keyword has the form of an identifier
pub keyword_identifier : (k : Keyword) → is_identifier (keyword_spelling k) ≡ true
unfolding keyword_spelling
keyword_identifier keyword.Auto = refl
keyword_identifier _ = refl

-- ---- punctuators

-- each entry of the table of punctuators has its own spelling
pub punctuators_spelled : is_spelled punct_spelling (map (λ entry. (entry.0.now, entry.1)) PUNCTUATORS) ≡ true
unfolding punct_spelling
punctuators_spelled = refl

-- the table of punctuators has each spelling
pub punctuator_listed : (p : Punct) → lookup (map (λ entry. (entry.0.now, entry.1)) PUNCTUATORS) (punct_spelling p) ≡ Some p
unfolding punct_spelling
punctuator_listed punct.OpenParen = refl
punctuator_listed _ = refl

-- nothing, or first a byte of a word, white space or `#`: no punctuator is so
abbrev pub is_elsewhere : Bytes → Bool
is_elsewhere [] = true
is_elsewhere (b ∷ w) = is_word b || is_space b || b == 35

-- a punctuator begins otherwise
pub punct_not_elsewhere : (p : Punct) → is_elsewhere (punct_spelling p) ≡ false
unfolding punct_spelling
punct_not_elsewhere punct.OpenParen = refl
punct_not_elsewhere _ = refl

-- a punctuator has three bytes at most
pub punct_short : (p : Punct) → nat_le (length (punct_spelling p)) 3 ≡ true
unfolding punct_spelling
punct_short punct.OpenParen = refl
punct_short _ = refl

-- ---- the spellings differ

-- a spelling is one keyword's alone
pub keyword_same : (k j : Keyword) → keyword_spelling k ≡ keyword_spelling j → k ≡ j
keyword_same k j e = let p = keyword_listed k in let q = keyword_listed j in let f : Some k ≡ Some j = cc in cc

-- a spelling is one punctuator's alone
pub punct_same : (p q : Punct) → punct_spelling p ≡ punct_spelling q → p ≡ q
punct_same p q e = let a = punctuator_listed p in let b = punctuator_listed q in let f : Some p ≡ Some q = cc in cc

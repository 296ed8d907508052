-- The directives of the head of a text: `#include` and `#define` (C11 6.10.2, 6.10.3).
use Rattle.std.specs.Prelude.{◌≡◌, ◌≢◌, ◌⊎◌, ℕ, ◌+◌, ◌≤◌, Bool, true, false, ◌||◌, ◌&&◌, ◌==◌, nat_le, [], ◌∷◌, ◌++◌, length, drop, replicate, codes, Result, Ok, Err}
use Prim.Native.Char.{code}
use Rattle.c_lex.specs.declared.token.Keyword.{Keyword}
use Rattle.c_lex.specs.declared.opening.LinePart.{LinePart}
use Rattle.c_lex.specs.declared.opening.LinePart.TheVariants as part
use Rattle.c_lex.specs.Bytes.{Bytes}
use Rattle.c_lex.specs.Spellings.{keyword_spelling}
use Rattle.c_lex.specs.Pieces.{is_identifier}
use Rattle.c_lex.specs.Constants.{HasValue}
use Rattle.c_lex.specs.Places.{IsFirstAt, IsNowhere, is_line_end, is_comment_end}
use Rattle.c_lex.specs.Openings.{line_part}

-- ---- the text of a directive

-- some bytes before the text of a directive, or before the comment in it that isn't closed
abbrev pub before_line : Bytes → Result Bytes ℕ → Result Bytes ℕ
before_line w (Ok line) = Ok (w ++ line)
before_line w (Err place) = Err (length w + place)

-- so many spaces
abbrev pub spaces : ℕ → Bytes
spaces n = replicate n (code " ")

-- the text of a directive from z on, by what z begins with: to before the first line feed outside a
-- comment, or to the end, with spaces for the bytes of comments; or the place of the comment in it
-- that isn't closed
pub data Line : LinePart → Bytes → Result Bytes ℕ → Type 0 where
  ends : {z : Bytes} → Line part.End z (Ok [])
  last : {z : Bytes} {n : ℕ} → IsFirstAt is_line_end z n → Line part.LineComment z (Ok (spaces n))
  comment : {z : Bytes} {n : ℕ} {r : Result Bytes ℕ} → IsFirstAt is_comment_end (drop 2 z) n
      → Line (line_part (drop (n + 4) z)) (drop (n + 4) z) r
      → Line part.BlockComment z (before_line (spaces (n + 4)) r)
  unclosed : {z : Bytes} → IsNowhere is_comment_end (drop 2 z) → Line part.BlockComment z (Err 0)
  byte : {b : ℕ} {z : Bytes} {r : Result Bytes ℕ} → Line (line_part z) z r
      → Line part.Byte (b ∷ z) (before_line (b ∷ []) r)

-- the directive at the start of z has this text, or an open comment at that place
abbrev pub HasLine : Bytes → Result Bytes ℕ → Type 0
HasLine z r = Line (line_part z) z r

-- ---- its forms

-- a space, tab, vertical tab, form feed or carriage return
abbrev pub is_blank : ℕ → Bool
is_blank b = b == code " " || b == code "\t" || (nat_le 11 b && nat_le b (code "\r"))

-- each byte is a blank
abbrev pub are_blank : Bytes → Bool
are_blank [] = true
are_blank (b ∷ w) = is_blank b && are_blank w

-- `#include` of <stdio.h> or <stdlib.h>, with optional blanks between its parts
pub record IsInclude (line : Bytes) : Type 0 where
  pub before : Bytes
  pub between : Bytes
  pub header : Bytes
  pub after : Bytes
  pub is_line : line ≡ codes "#" ++ before ++ codes "include" ++ between ++ header ++ after
  pub is_header : (header ≡ codes "<stdio.h>") ⊎ (header ≡ codes "<stdlib.h>")
  pub blank_before : are_blank before ≡ true
  pub blank_between : are_blank between ≡ true
  pub blank_after : are_blank after ≡ true

-- v is the number, or `-` and the number with optional blanks between; the number begins at `place`
-- in v
pub data IsSigned (number : Bytes) : Bytes → Bool → ℕ → Type 0 where
  plain : IsSigned number number false 0
  minus : (a : Bytes) → are_blank a ≡ true
      → IsSigned number (codes "-" ++ a ++ number) true (1 + length a)

-- v is a number with or without `-`, or one in parentheses with optional blanks inside
pub data IsValue (number : Bytes) : Bytes → Bool → ℕ → Type 0 where
  bare : {v : Bytes} {negative : Bool} {place : ℕ} → IsSigned number v negative place
      → IsValue number v negative place
  inside : {v : Bytes} {negative : Bool} {place : ℕ} (a b : Bytes) → are_blank a ≡ true
      → are_blank b ≡ true → IsSigned number v negative place
      → IsValue number (codes "(" ++ a ++ v ++ b ++ codes ")") negative (1 + length a + place)

-- what a `#define` says: the macro's name, whether its value has a `-`, the number in its value,
-- and the places of name and number in the line
pub record Definition : Type 0 where
  pub name : Bytes
  pub name_at : ℕ
  pub negative : Bool
  pub number : Bytes
  pub number_at : ℕ

-- the line is a `#define` with this name and value
pub record IsDefine (line : Bytes) (d : Definition) : Type 0 where
  pub before : Bytes
  pub first : Bytes
  pub second : Bytes
  pub value : Bytes
  pub value_place : ℕ
  pub after : Bytes
  pub is_line : line
      ≡ codes "#" ++ before ++ codes "define" ++ first ++ d.name ++ second ++ value ++ after
  pub name_at : d.name_at ≡ 1 + length before + 6 + length first
  pub number_at : d.number_at ≡ d.name_at + length d.name + length second + value_place
  pub is_name : is_identifier d.name ≡ true
  pub no_keyword : (k : Keyword) → d.name ≢ keyword_spelling k
  pub is_value : IsValue d.number value d.negative value_place
  pub has_value : (n : ℕ) × HasValue d.number n
  pub blank_before : are_blank before ≡ true
  pub blank_first : are_blank first ≡ true
  pub blank_second : are_blank second ≡ true
  pub blank_after : are_blank after ≡ true
  pub some_first : 1 ≤ length first
  pub some_second : 1 ≤ length second

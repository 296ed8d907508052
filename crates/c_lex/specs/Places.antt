-- Places in a text: the first where something stands, and what can stand there.
use Rattle.std.specs.Prelude.{◌≡◌, ℕ, ◌<◌, ◌≤◌, Bool, true, false, ◌||◌, ◌&&◌, ◌==◌, eqb, [], ◌∷◌, length, drop, codes}
use Prim.Native.Char.{code}
use Rattle.std.specs.List.{starts_with}
use Rattle.c_lex.specs.Bytes.{Bytes, is_one_of}

-- the first place of z where what stands there passes the test
pub record IsFirstAt (test : Bytes → Bool) (z : Bytes) (place : ℕ) : Type 0 where
  pub within : place ≤ length z
  pub holds : test (drop place z) ≡ true
  pub first : (m : ℕ) → m < place → test (drop m z) ≡ false

-- what stands at each place of z fails the test
abbrev pub IsNowhere : (Bytes → Bool) → Bytes → Type 0
IsNowhere test z = (m : ℕ) → m ≤ length z → test (drop m z) ≡ false

-- z begins with the bytes w
abbrev pub begins : Bytes → Bytes → Bool
begins w z = starts_with eqb z w

-- a line feed or the end
abbrev pub is_line_end : Bytes → Bool
is_line_end [] = true
is_line_end (b ∷ z) = b == code "\n"

-- what closes a `/*` comment
abbrev pub is_comment_end : Bytes → Bool
is_comment_end z = begins (codes "*/") z

-- a backslash at the end of its line, which would splice it with the next (C11 5.1.1.2)
abbrev pub is_splice : Bytes → Bool
is_splice z = begins (codes "\\\n") z || begins (codes "\\\r\n") z

-- whether the byte ends a trigraph (C11 5.2.1.1)
abbrev pub ends_trigraph : ℕ → Bool
ends_trigraph b = is_one_of (codes "=(/)'<!>-") b

-- `??` and a byte that ends a trigraph
abbrev pub is_trigraph : Bytes → Bool
is_trigraph (b ∷ c ∷ d ∷ z) = b == code "?" && c == code "?" && ends_trigraph d
is_trigraph _ = false

-- what is refused wherever it stands
abbrev pub is_refused : Bytes → Bool
is_refused z = is_splice z || is_trigraph z

-- `<:`, `:>`, `<%`, `%>` or `%:` (C11 6.4.6)
abbrev pub is_digraph : Bytes → Bool
is_digraph z =
    begins (codes "<:") z || begins (codes ":>") z || begins (codes "<%") z || begins (codes "%>") z
    || begins (codes "%:") z

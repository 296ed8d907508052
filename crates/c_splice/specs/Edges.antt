-- The first and last bytes of texts: whether they make, with what stands beside them, a trigraph or
-- a line splice.
use Rattle.std.specs.Prelude.{Bool, true, false, not, ◌&&◌, ◌==◌, List, [], ◌∷◌}
use Prim.Native.Char.{code}
use Rattle.c_lex.specs.Bytes.{Bytes}
use Rattle.c_lex.specs.Lexemes.{Lexeme, is_other}
use Rattle.c_lex.specs.Places.{ends_trigraph}

-- the end of a text is calm if its last byte is none of `?`, a backslash and a carriage return: no
-- trigraph and no line splice reaches over it to what follows
abbrev pub is_calm : Bytes → Bool
is_calm [] = true
is_calm (b ∷ []) = not (b == code "?") && not (b == code "\\") && not (b == code "\r")
is_calm (b ∷ c ∷ x) = is_calm (c ∷ x)

-- the text ends with `??`
abbrev pub ends_query : Bytes → Bool
ends_query [] = false
ends_query (b ∷ []) = false
ends_query (b ∷ c ∷ []) = b == code "?" && c == code "?"
ends_query (b ∷ c ∷ d ∷ x) = ends_query (c ∷ d ∷ x)

-- the first byte ends no trigraph
abbrev pub begins_plain : Bytes → Bool
begins_plain [] = true
begins_plain (b ∷ x) = not (ends_trigraph b)

-- the last of some tokens is no `?`
abbrev pub ends_other : List Lexeme → Bool
ends_other [] = true
ends_other (t ∷ []) = is_other t.0
ends_other (t ∷ u ∷ ts) = ends_other (u ∷ ts)

-- The library over a test: what arguments are, and what the functions of the library do.
use Rattle.std.specs.Prelude.{ℕ, ℤ, pos, negsuc, neg_ℤ, List, [], ◌∷◌, length, codes, Option, Some, None, option_map, Bool, false, nat_eq, if◌then◌else◌}
use Rattle.std.specs.Str.{bytes_eq}
use Rattle.c_tree.specs.declared.stmt.Slot.{Slot}
use Rattle.c_tree.specs.declared.stmt.Ty.TheVariants.{Int}
use Rattle.c_arith.specs.Arith.{fitting}
use Rattle.c_stdio.specs.declared.scan.Scan.{Scan}
use Rattle.c_stdio.specs.declared.scan.Scan.TheVariants.{Number as Read, End, NoNumber, TooWide}
use Rattle.c_stdio.specs.Formats.{conversions, text}
use Rattle.c_meaning.specs.declared.argument.Argument.{Argument}
use Rattle.c_meaning.specs.declared.argument.Argument.TheVariants.{Number, Array, Format, Place}
use Rattle.c_meaning.specs.declared.stop.End.TheVariants.{Trapped, Exit}
use Rattle.c_meaning.specs.World.{Run, pure, stop, over, lift, ◌>>=◌, ◌>>◌}
use Rattle.c_meaning.specs.Steps.{store, get_byte, scan, put_text, put_byte}

-- the one number among the arguments
abbrev pub one_number : List Argument → Run ℤ
one_number [] = stop Trapped
one_number (Number v ∷ []) = pure v
one_number (Number v ∷ a ∷ gs) = stop Trapped
one_number (Array n ∷ gs) = stop Trapped
one_number (Format f ∷ gs) = stop Trapped
one_number (Place slot i ∷ gs) = stop Trapped

-- `getchar`, which has no argument
abbrev pub call_getchar : List Argument → Run (Option ℤ)
call_getchar [] = do
  v ← get_byte
  pure (Some v)
call_getchar (a ∷ gs) = stop Trapped

-- `putchar`
abbrev pub call_putchar : List Argument → Run (Option ℤ)
call_putchar gs = do
  v ← one_number gs
  u ← put_byte v
  pure (Some u)

-- the absolute value of a number
abbrev pub absolute : ℤ → ℤ
absolute (pos n) = pos n
absolute (negsuc n) = neg_ℤ (negsuc n)

-- `abs` (C11 7.22.6.1)
abbrev pub call_abs : List Argument → Run (Option ℤ)
call_abs gs = do
  v ← one_number gs
  u ← lift (fitting Int (absolute v))
  pure (Some u)

-- `exit` (C11 7.22.4.4)
abbrev pub call_exit : List Argument → Run (Option ℤ)
call_exit gs = do
  v ← one_number gs
  stop (Exit v)

-- the numbers that these arguments are, if all are numbers
abbrev pub numbers : List Argument → Option (List ℤ)
numbers [] = Some []
numbers (Number v ∷ gs) = option_map (λ vs. v ∷ vs) (numbers gs)
numbers (Array n ∷ gs) = None
numbers (Format f ∷ gs) = None
numbers (Place slot i ∷ gs) = None

-- there are so many
abbrev pub is_count : Option ℕ → ℕ → Bool
is_count (Some n) count = nat_eq n count
is_count None count = false

-- the text of a format with these numbers, if they are as many as its conversions
abbrev pub text_with : List ℕ → List ℤ → Option (List ℕ)
text_with f vs = if is_count (conversions f) (length vs) then Some (text f vs) else None

-- a format is written with these numbers, and its value is the length (C11 7.21.6.3)
abbrev pub print : List ℕ → List ℤ → Run ℤ
print f vs = do
  bytes ← lift (text_with f vs)
  put_text bytes (pos (length bytes))

-- `printf`: its first argument is a format, and the others are numbers
abbrev pub call_printf : List Argument → Run (Option ℤ)
call_printf [] = stop Trapped
call_printf (Number v ∷ gs) = stop Trapped
call_printf (Array n ∷ gs) = stop Trapped
call_printf (Format f ∷ gs) = do
  vs ← lift (numbers gs)
  v ← print f vs
  pure (Some v)
call_printf (Place slot i ∷ gs) = stop Trapped

-- what was read at `%d`: a number is stored, and the value is how many were, or -1 at the end of the
-- input (C11 7.21.6.2 p10, p16)
abbrev pub store_read : Slot → ℤ → Scan → Run ℤ
store_read slot i (Read v) = store slot i v >> pure (pos 1)
store_read slot i End = pure (negsuc 0)
store_read slot i NoNumber = pure (pos 0)
store_read slot i TooWide = stop Trapped

-- the one place among the arguments after a format
abbrev pub read_to : List Argument → Run (Option ℤ)
read_to [] = stop Trapped
read_to (Number v ∷ gs) = stop Trapped
read_to (Array n ∷ gs) = stop Trapped
read_to (Format f ∷ gs) = stop Trapped
read_to (Place slot i ∷ []) = do
  found ← scan
  v ← store_read slot i found
  pure (Some v)
read_to (Place slot i ∷ a ∷ gs) = stop Trapped

-- `scanf`: its arguments are the format `%d` and a place
abbrev pub call_scanf : List Argument → Run (Option ℤ)
call_scanf [] = stop Trapped
call_scanf (Number v ∷ gs) = stop Trapped
call_scanf (Array n ∷ gs) = stop Trapped
call_scanf (Format f ∷ gs) = λ w. if bytes_eq f (codes "%d") then read_to gs w else over Trapped w
call_scanf (Place slot i ∷ gs) = stop Trapped

-- a call of the library, or else another call
abbrev pub library : List ℕ → List Argument → Run (Option ℤ) → Run (Option ℤ)
library word gs other = λ w.
    if bytes_eq word (codes "getchar") then call_getchar gs w
    else (if bytes_eq word (codes "putchar") then call_putchar gs w
    else (if bytes_eq word (codes "printf") then call_printf gs w
    else (if bytes_eq word (codes "scanf") then call_scanf gs w
    else (if bytes_eq word (codes "abs") then call_abs gs w
    else (if bytes_eq word (codes "exit") then call_exit gs w else other w)))))

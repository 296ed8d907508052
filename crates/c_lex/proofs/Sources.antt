-- The outcome of a whole source.
use Rattle.std.proofs.Common.{◌≡◌, ◌≢◌, ◌+◌, Bool, true, false, ◌||◌, List, length, Ok, Err, subst, arith}
use Rattle.c_lex.specs.declared.fault.LexFault.{LexFault}
use Rattle.c_lex.specs.declared.fault.LexFault.TheVariants as fault
use Rattle.c_lex.specs.Bytes.{Bytes}
use Rattle.c_lex.specs.Lexemes.{Lexeme, Rise}
use Rattle.c_lex.specs.Places.{is_splice, is_trigraph, is_refused}
use Rattle.c_lex.specs.Tokens.{first_macros, Cuts, Lexes, IsPlaced}
use Rattle.c_lex.proofs.Progress.{cuts_placed}

-- what is refused and is no splice is a trigraph
pub other_is_trigraph : (z : Bytes) → is_refused z ≡ true → is_splice z ≡ false → is_trigraph z ≡ true
other_is_trigraph z h s = by (is_splice z) (is_trigraph z) h s
  where
    by : (x y : Bool) → (x || y) ≡ true → x ≡ false → y ≡ true
    by true y h s = absurd (cc)
    by false y h s = h

-- the spans of a source's tokens rise
pub source_rise : (bytes : Bytes) (ts : List Lexeme) → Cuts false first_macros 0 bytes (Ok ts) → Rise 0 (length bytes) ts
source_rise bytes ts d = let same : 0 + length bytes ≡ length bytes = omega arith in subst (λ n. Rise 0 n ts) same (cuts_placed d)

-- a fault of a source stands in it
fault_placed : (bytes : Bytes) (f : LexFault) → Cuts false first_macros 0 bytes (Err f) → IsPlaced (length bytes) f
fault_placed bytes f d = let same : 0 + length bytes ≡ length bytes = omega arith in subst (λ n. IsPlaced n f) same (cuts_placed d)

-- the place of what is answered, if it has one
pub answer_placed : (bytes : Bytes) (f : LexFault) → (f ≢ fault.NoMemory → Cuts false first_macros 0 bytes (Err f)) → IsPlaced (length bytes) f
answer_placed bytes fault.NoMemory h = tt
answer_placed bytes f h = fault_placed bytes f (h (λ e. cc))

-- the spans of the tokens of a text rise
pub spans_rise : (bytes : Bytes) (ts : List Lexeme) → Lexes bytes (Ok ts) → Rise 0 (length bytes) ts
spans_rise bytes ts (Lexes.cut n d) = source_rise bytes ts d

-- the first fault of a text stands in it
pub outcome_placed : (bytes : Bytes) (f : LexFault) → Lexes bytes (Err f) → IsPlaced (length bytes) f
outcome_placed bytes f (Lexes.splice n i h) = i.within
outcome_placed bytes f (Lexes.trigraph n i h) = i.within
outcome_placed bytes f (Lexes.cut n d) = fault_placed bytes f d

-- so does what is answered, if it has a place
pub fault_placed_unless : (bytes : Bytes) (f : LexFault) → (f ≢ fault.NoMemory → Lexes bytes (Err f)) → IsPlaced (length bytes) f
fault_placed_unless bytes fault.NoMemory h = tt
fault_placed_unless bytes f h = outcome_placed bytes f (h (λ e. cc))

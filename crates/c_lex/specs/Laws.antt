-- The law that a text has an outcome.
use Rattle.std.specs.Prelude.{◌≢◌, Err}
use Rattle.c_lex.specs.declared.fault.LexFault.TheVariants as fault
use Rattle.c_lex.specs.Bytes.{Bytes}
use Rattle.c_lex.specs.Tokens.{Outcome, Lexes}

-- each text, whatever its bytes and however long, has tokens or a first fault, which isn't
-- `NoMemory`
abbrev pub EachHasOutcome : Type 0
EachHasOutcome = (bytes : Bytes) → (r : Outcome) × Lexes bytes r × (r ≢ Err fault.NoMemory)

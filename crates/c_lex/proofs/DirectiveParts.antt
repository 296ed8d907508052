-- What a line says, from what is answered of its parts.
use Rattle.std.proofs.Common.{◌≡◌, ◌≢◌, ℕ, false, Some, None, Err, refl}
use Rattle.c_lex.specs.declared.fault.LexFault.TheVariants as fault
use Rattle.c_lex.specs.declared.constant.Constant.{Constant}
use Rattle.c_lex.specs.declared.constant.Constant.TheVariants as constant_is
use Rattle.c_lex.specs.LiteralReading.{Answers}
use Rattle.c_lex.specs.declared.form.DefineParts.{DefineParts}
use Rattle.c_lex.specs.Bytes.{Bytes}
use Rattle.c_lex.specs.Constants.{HasValue}
use Rattle.c_lex.specs.Directives.{IsInclude}
use Rattle.c_lex.specs.Tokens.{Macros, Says}
use Rattle.c_lex.specs.DirectiveReading.{is_include, parts_of, definition_of, BeginsName}
use Rattle.c_lex.proofs.Forms.{include_found, define_none, define_named, define_valued}

-- no include is there
no_include : (line : Bytes) → is_include line ≡ false → IsInclude line → ⊥
no_include line e h = let q = include_found line h in absurd (cc)

-- a line without the parts of a definition is unknown
pub unknown_none : (m : Macros) (at : ℕ) (line : Bytes) → is_include line ≡ false → parts_of line ≡ None → Says m at line (Err (fault.DirectiveUnknown at))
unknown_none m at line e h = Says.unknown (no_include line e) (λ d i. define_none line d h i)

-- a line without a name is unknown
pub unknown_name : (m : Macros) (at : ℕ) (line : Bytes) (p : DefineParts) → is_include line ≡ false → parts_of line ≡ Some p → (BeginsName (definition_of line p).name → ⊥)
    → Says m at line (Err (fault.DirectiveUnknown at))
unknown_name m at line p e h n = Says.unknown (no_include line e) (λ d i. n (define_named line p d h i))

-- a line without a number is unknown
pub unknown_number : (m : Macros) (at : ℕ) (line : Bytes) (p : DefineParts) → is_include line ≡ false → parts_of line ≡ Some p
    → ((n : ℕ) → HasValue (definition_of line p).number n → ⊥) → Says m at line (Err (fault.DirectiveUnknown at))
unknown_number m at line p e h n = Says.unknown (no_include line e) (λ d i. let v = define_valued line p d h i in n v.0 v.1)

-- a number that isn't bad has a value
pub answers_valued : (w : Bytes) (r : Constant) → Answers w r → r ≢ constant_is.Bad → (n : ℕ) × HasValue w n
answers_valued w (constant_is.Value v) a n = (a.0, a.1)
answers_valued w constant_is.TooLarge a n = (a.0, a.1)
answers_valued w constant_is.Bad a n = absurd (n refl)

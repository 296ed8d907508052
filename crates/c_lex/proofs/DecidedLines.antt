-- At each `#` stands a directive or a fault.
use Rattle.std.proofs.Common.{◌≡◌, ◌⊎◌, inl, inr, ⊎_elim, ℕ, zero, suc, ℤ, ◌+◌, ◌^◌, ◌<◌, ◌≤◌, Bool, true, false, if◌then◌else◌, [], ◌∷◌, length, drop, get_or, codes, Option, Some, None, Result, Ok, Err, refl, arith}
use Rattle.std.proofs.lemmas.Bool.{cases_lt}
use Rattle.std.proofs.lemmas.List.{length-drop}
use Rattle.c_lex.specs.declared.constant.Constant.{Constant}
use Rattle.c_lex.specs.declared.constant.Constant.TheVariants.{Value, TooLarge, Bad}
use Rattle.c_lex.specs.declared.fault.LexFault.TheVariants as fault
use Rattle.c_lex.specs.declared.form.DefineParts.{DefineParts}
use Rattle.c_lex.specs.declared.scan.Scanned.TheVariants as scanned
use Rattle.c_lex.specs.declared.opening.LinePart.TheVariants as part
use Rattle.c_lex.specs.Bytes.{Bytes, is_letter}
use Rattle.c_lex.specs.Spellings.{lookup}
use Rattle.c_lex.specs.Constants.{HasValue}
use Rattle.c_lex.specs.LiteralReading.{Answers}
use Rattle.c_lex.specs.Places.{begins, is_line_end, is_comment_end}
use Rattle.c_lex.specs.Directives.{before_line, spaces, Line, HasLine, Definition}
use Rattle.c_lex.specs.DirectiveReading.{is_include, parts_of, definition_of, BeginsName}
use Rattle.c_lex.specs.Tokens.{Macros, Found, signed, Defines, Says, IsDirective}
use Rattle.c_lex.proofs.Decided.{first_or_nowhere, keyword_or_not, constant_answered}
use Rattle.c_lex.proofs.DirectiveParts.{unknown_none, unknown_name, unknown_number}
use Rattle.c_lex.proofs.Forms.{include_is, define_is}
use Rattle.c_lex.proofs.Lines.{begins_size, comment_fits, line_ends_somewhere}

-- ---- the text of a directive

-- a directive has a text, or an open comment
abbrev HasText : Bytes → Type 0
HasText z = (r : Result Bytes ℕ) × HasLine z r

-- a `//` comment ends the line
last_line : (z : Bytes) → (r : Result Bytes ℕ) × Line part.LineComment z r
last_line z =
    ⊎_elim (λ h. (Ok (spaces h.0), Line.last h.1)) (λ f. absurd (line_ends_somewhere z f)) (first_or_nowhere is_line_end z)

-- a `/*` comment is closed, and the line goes on, or it isn't
comment_line : (z : Bytes) → begins (codes "/*") z ≡ true → ((y : Bytes) → length y < length z → HasText y)
    → (r : Result Bytes ℕ) × Line part.BlockComment z r
comment_line z e g =
    ⊎_elim
    (λ h.
    let fits = comment_fits z h.0 (begins_size (codes "/*") z e) h.1 in
    let rest = g (drop (h.0 + 4) z) (omega (arith, fits, length-drop (h.0 + 4) z)) in
    (before_line (spaces (h.0 + 4)) rest.0, Line.comment h.1 rest.1))
    (λ f. (Err 0, Line.unclosed f))
    (first_or_nowhere is_comment_end (drop 2 z))

-- a byte is read, and the line goes on
byte_line : (z : Bytes) → is_line_end z ≡ false → ((y : Bytes) → length y < length z → HasText y)
    → (r : Result Bytes ℕ) × Line part.Byte z r
byte_line [] e g = absurd (cc)
byte_line (b ∷ z) e g = let rest = g z (omega arith) in (before_line (b ∷ []) rest.0, Line.byte rest.1)

-- the step of `line_up_to`, by what z begins with
line_by : (z : Bytes) (x y v : Bool) → is_line_end z ≡ x → begins (codes "/*") z ≡ v
    → ((y : Bytes) → length y < length z → HasText y)
    → (r : Result Bytes ℕ)
    × Line (if x then part.End else if y then part.LineComment else if v then part.BlockComment else part.Byte) z r
line_by z true y v e f g = (Ok [], Line.ends)
line_by z false true v e f g = last_line z
line_by z false false true e f g = comment_line z f g
line_by z false false false e f g = byte_line z e g

-- so has each of no more than n bytes
line_up_to : (n : ℕ) (z : Bytes) → length z ≤ n → HasText z
line_up_to zero z l =
    line_by z (is_line_end z) (begins (codes "//") z) (begins (codes "/*") z) refl refl (λ y s. absurd (omega arith))
line_up_to (suc n) z l =
    line_by z (is_line_end z) (begins (codes "//") z) (begins (codes "/*") z) refl refl (λ y s. line_up_to n y (omega arith))

-- ---- what it says

-- a definition is a new macro or a fault, by the value of a macro of the name
defines_by : (m : Macros) (at len : ℕ) (d : Definition) (o : Option ℤ) (n : ℕ)
    → HasValue d.number n → lookup m d.name ≡ o → (r : Found) × Defines m at len d r
defines_by m at len d (Some v) n h e = (Err (fault.MacroTwice (at + d.name_at)), Defines.twice e)
defines_by m at len d None n h e =
    ⊎_elim (λ l. (Ok (scanned.Define d.name (signed d.negative n) len), Defines.new n e h l))
    (λ l. (Err (fault.ConstantTooLarge (at + d.number_at)), Defines.large n e h l))
    (cases_lt n (2 ^ 31))

-- a word begins as a name does and is no keyword, or not
name_or_not : (w : Bytes) (x : Bool) → is_letter (get_or w 0 0) ≡ x → BeginsName w ⊎ (BeginsName w → ⊥)
name_or_not w true e = ⊎_elim (λ k. inr (λ b. b.1 k.0 k.1)) (λ n. inl (e, n)) (keyword_or_not w)
name_or_not w false e = inr (λ b. let h = b.0 in absurd (cc))

-- what a line with the parts of a definition and a number says
valued_says : (m : Macros) (at : ℕ) (line : Bytes) (p : DefineParts) (n : ℕ) → is_include line ≡ false → parts_of line ≡ Some p
    → HasValue (definition_of line p).number n → (r : Found) × Says m at line r
valued_says m at line p n e h v =
    let d = definition_of line p in
    ⊎_elim
    (λ b.
    let f = defines_by m at (length line) d (lookup m d.name) n v refl in
    (f.0, Says.define d (define_is line p h b n v) f.1))
    (λ b. (Err (fault.DirectiveUnknown at), unknown_name m at line p e h b))
    (name_or_not d.name (is_letter (get_or d.name 0 0)) refl)

-- what a line with the parts of a definition says, by what the number stands for
parts_by : (m : Macros) (at : ℕ) (line : Bytes) (p : DefineParts) (c : Constant) → is_include line ≡ false → parts_of line ≡ Some p
    → Answers (definition_of line p).number c → (r : Found) × Says m at line r
parts_by m at line p (Value v) e h a = valued_says m at line p a.0 e h a.1
parts_by m at line p TooLarge e h a = valued_says m at line p a.0 e h a.1
parts_by m at line p Bad e h a = (Err (fault.DirectiveUnknown at), unknown_number m at line p e h a)

-- the step of `line_says`, by the parts of a definition
line_by_parts : (m : Macros) (at : ℕ) (line : Bytes) (o : Option DefineParts) → is_include line ≡ false → parts_of line ≡ o
    → (r : Found) × Says m at line r
line_by_parts m at line None e h = (Err (fault.DirectiveUnknown at), unknown_none m at line e h)
line_by_parts m at line (Some p) e h =
    let a = constant_answered (definition_of line p).number in parts_by m at line p a.0 e h a.1

-- the step of `line_says`, by whether the line includes a header
line_by_include : (m : Macros) (at : ℕ) (line : Bytes) (x : Bool) → is_include line ≡ x → (r : Found) × Says m at line r
line_by_include m at line true e = (Ok (scanned.Pass (length line)), Says.include (include_is line e))
line_by_include m at line false e = line_by_parts m at line (parts_of line) e refl

-- the text of a directive says something
line_says : (m : Macros) (at : ℕ) (line : Bytes) → (r : Found) × Says m at line r
line_says m at line = line_by_include m at line (is_include line) refl

-- the step of `directive_is`, by the text of the directive
directive_by : (m : Macros) (at : ℕ) (z : Bytes) (r : Result Bytes ℕ) → HasLine z r → (r : Found) × IsDirective m at z r
directive_by m at z (Ok line) h = let s = line_says m at line in (s.0, IsDirective.closed line h s.1)
directive_by m at z (Err place) h = (Err (fault.OpenComment (at + place)), IsDirective.unclosed place h)

-- each directive is something or a fault
pub directive_is : (m : Macros) (at : ℕ) (z : Bytes) → (r : Found) × IsDirective m at z r
directive_is m at z = let h = line_up_to (length z) z (omega arith) in directive_by m at z h.0 h.1

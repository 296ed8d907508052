-- How many bytes stand at the start of a text, and where its faults are.
use Rattle.std.proofs.Common.{◌≡◌, ℕ, zero, suc, ◌+◌, ◌≤◌, Bool, true, false, ◌==◌, if◌then◌else◌, [], ◌∷◌, ◌++◌, length, drop, get_or, codes, Result, Ok, Err, refl, sym, ap, ◌∙◌, subst, arith, length-append}
use Rattle.std.specs.Char.{is_ascii_digit}
use Rattle.std.proofs.lemmas.List.{length-drop, length-replicate}
use Rattle.c_lex.specs.declared.fault.LexFault.{LexFault}
use Rattle.c_lex.specs.declared.fault.LexFault.TheVariants as fault
use Rattle.c_lex.specs.declared.scan.Scanned.TheVariants as scanned
use Rattle.c_lex.specs.declared.opening.Opening.{Opening}
use Rattle.c_lex.specs.declared.opening.Opening.TheVariants as opening
use Rattle.c_lex.specs.declared.opening.LinePart.{LinePart}
use Rattle.c_lex.specs.Bytes.{Bytes, is_space, is_letter}
use Rattle.c_lex.specs.Spellings.{punct_spelling}
use Rattle.c_lex.specs.Places.{IsFirstAt, begins, is_line_end, is_digraph}
use Rattle.c_lex.specs.Openings.{opening_of, line_part}
use Rattle.c_lex.specs.Directives.{before_line, spaces, Line, HasLine, IsInclude, IsSigned, IsValue, Definition, IsDefine}
use Rattle.c_lex.specs.Tokens.{Macros, Found, Defines, Says, IsDirective, IsNumber, IsCharacter, IsText, Stands, IsPlaced}
use Rattle.c_lex.proofs.Appends.{right3, right5, right6, right8}
use Rattle.c_lex.proofs.Literals.{quoted_begins}
use Rattle.c_lex.proofs.Longest.{piece_not_empty}
use Rattle.c_lex.proofs.Lines.{begins_size, begins_is, comment_fits, two_bytes}

-- ---- what a text begins with

-- where a `//` comment is said to begin, one begins
pub line_comment_begins : (z : Bytes) → opening_of z ≡ opening.LineComment → begins (codes "//") z ≡ true
line_comment_begins z h =
    by (is_space (get_or z 0 0)) (is_letter (get_or z 0 0)) (is_ascii_digit (get_or z 0 0)) (get_or z 0 0 == 35) (get_or z 0 0 == 39) (get_or z 0 0 == 34) (begins (codes "//") z) (begins (codes "/*") z) (is_digraph z) h
  where
    by : (a b c d e f g i j : Bool)
        → (if a then opening.Space else if b then opening.Letter else if c then opening.Digit else if d then opening.Hash else if e then opening.Character else if f then opening.Text
        else if g then opening.LineComment else if i then opening.BlockComment else if j then opening.Digraph else opening.Other) ≡ opening.LineComment → g ≡ true
    by true b c d e f g i j h = absurd (cc)
    by false true c d e f g i j h = absurd (cc)
    by false false true d e f g i j h = absurd (cc)
    by false false false true e f g i j h = absurd (cc)
    by false false false false true f g i j h = absurd (cc)
    by false false false false false true g i j h = absurd (cc)
    by false false false false false false true i j h = refl
    by false false false false false false false true j h = absurd (cc)
    by false false false false false false false false true h = absurd (cc)
    by false false false false false false false false false h = absurd (cc)

-- where a `/*` comment is said to begin, one begins
pub comment_begins : (z : Bytes) → opening_of z ≡ opening.BlockComment → begins (codes "/*") z ≡ true
comment_begins z h =
    by (is_space (get_or z 0 0)) (is_letter (get_or z 0 0)) (is_ascii_digit (get_or z 0 0)) (get_or z 0 0 == 35) (get_or z 0 0 == 39) (get_or z 0 0 == 34) (begins (codes "//") z) (begins (codes "/*") z) (is_digraph z) h
  where
    by : (a b c d e f g i j : Bool)
        → (if a then opening.Space else if b then opening.Letter else if c then opening.Digit else if d then opening.Hash else if e then opening.Character else if f then opening.Text
        else if g then opening.LineComment else if i then opening.BlockComment else if j then opening.Digraph else opening.Other) ≡ opening.BlockComment → i ≡ true
    by true b c d e f g i j h = absurd (cc)
    by false true c d e f g i j h = absurd (cc)
    by false false true d e f g i j h = absurd (cc)
    by false false false true e f g i j h = absurd (cc)
    by false false false false true f g i j h = absurd (cc)
    by false false false false false true g i j h = absurd (cc)
    by false false false false false false true i j h = absurd (cc)
    by false false false false false false false true j h = refl
    by false false false false false false false false true h = absurd (cc)
    by false false false false false false false false false h = absurd (cc)

-- a `//` is no end of a line
slash_no_end : (z : Bytes) → begins (codes "//") z ≡ true → is_line_end z ≡ true → ⊥
slash_no_end z b e = let s = begins_is (codes "//") z b in let q : is_line_end (codes "//" ++ drop 2 z) ≡ true = subst (λ y. is_line_end y ≡ true) s e in absurd (cc)

-- a comment to the end of its line has a byte
pub line_comment_some : (z : Bytes) (n : ℕ) → opening_of z ≡ opening.LineComment → IsFirstAt is_line_end z n → 1 ≤ n
line_comment_some z zero h f = absurd (slash_no_end z (line_comment_begins z h) f.holds)
line_comment_some z (suc n) h f = omega arith

-- ---- the text of a directive

-- a text of a directive, or the place of an open comment in it, is at most n
abbrev LineWithin : ℕ → Result Bytes ℕ → Type 0
LineWithin n (Ok line) = length line ≤ n
LineWithin n (Err place) = place ≤ n

-- the same with some bytes before it
before_within : (w : Bytes) (n k : ℕ) (r : Result Bytes ℕ) → length w + n ≤ k → LineWithin n r → LineWithin k (before_line w r)
before_within w n k (Ok line) l h = omega (arith, length-append w line)
before_within w n k (Err place) l h = omega arith

-- the text of a directive is no longer than what it is read from
line_within : {p : LinePart} {z : Bytes} {r : Result Bytes ℕ} → Line p z r → p ≡ line_part z → LineWithin (length z) r
line_within Line.ends q = omega arith
line_within (Line.last {z} {n} f) q = let k : length (spaces n) ≡ n = length-replicate n _ in omega (arith, f.within)
line_within (Line.comment {z} {n} {r} f d) q =
    let fits = comment_fits z n (two_bytes z (sym q)) f in
    let k : length (spaces (n + 4)) ≡ n + 4 = length-replicate (n + 4) _ in
    before_within (spaces (n + 4)) (length (drop (n + 4) z)) (length z) r (omega (arith, length-drop (n + 4) z)) (line_within d refl)
line_within (Line.unclosed f) q = omega arith
line_within (Line.byte {b} {z} {r} d) q = before_within (b ∷ []) (length z) (suc (length z)) r (omega arith) (line_within d refl)

-- ---- what stands at a place

-- what stands at the place `at` has a byte and no more than n; a fault is in them or at their end
abbrev pub IsWithin : ℕ → ℕ → Found → Type 0
IsWithin at n (Ok (scanned.Pass len)) = (1 ≤ len) × (len ≤ n)
IsWithin at n (Ok (scanned.Define name value len)) = (1 ≤ len) × (len ≤ n)
IsWithin at n (Ok (scanned.Take kind len)) = (1 ≤ len) × (len ≤ n)
IsWithin at n (Err f) = IsPlaced (at + n) f

-- a fault's place at most an earlier end is at most a later one
pub placed_later : (n k : ℕ) (f : LexFault) → n ≤ k → IsPlaced n f → IsPlaced k f
placed_later n k (fault.StrayByte p) l h = omega arith
placed_later n k (fault.OpenComment p) l h = omega arith
placed_later n k (fault.OpenLiteral p) l h = omega arith
placed_later n k (fault.BadConstant p) l h = omega arith
placed_later n k (fault.ConstantTooLarge p) l h = omega arith
placed_later n k (fault.DirectiveLate p) l h = omega arith
placed_later n k (fault.DirectiveUnknown p) l h = omega arith
placed_later n k (fault.MacroTwice p) l h = omega arith
placed_later n k (fault.Digraph p) l h = omega arith
placed_later n k (fault.LineSplice p) l h = omega arith
placed_later n k (fault.Trigraph p) l h = omega arith
placed_later n k fault.NoMemory l h = tt

-- what stands in a part of a text stands in the text
within_more : (at n k : ℕ) (r : Found) → n ≤ k → IsWithin at n r → IsWithin at k r
within_more at n k (Ok (scanned.Pass len)) l h = (h.0, omega (arith, h.1))
within_more at n k (Ok (scanned.Define name value len)) l h = (h.0, omega (arith, h.1))
within_more at n k (Ok (scanned.Take kind len)) l h = (h.0, omega (arith, h.1))
within_more at n k (Err f) l h = placed_later (at + n) (at + k) f (omega arith) h

-- the number of a value without parentheses stands in it
signed_place : {number v : Bytes} {negative : Bool} {place : ℕ} → IsSigned number v negative place → place ≤ length v
signed_place IsSigned.plain = omega arith
signed_place {number} (IsSigned.minus a h) = omega (arith, ap length (right3 (codes "-") a number), length-append a number)

-- the number of a value stands in it
value_place : {number v : Bytes} {negative : Bool} {place : ℕ} → IsValue number v negative place → place ≤ length v
value_place (IsValue.bare s) = signed_place s
value_place (IsValue.inside {v} a b x y s) =
    let p = signed_place s in
    omega (arith, ap length (right5 (codes "(") a v b (codes ")")), length-append a (v ++ (b ++ codes ")")), length-append v (b ++ codes ")"))

-- the name and the number of a definition stand in its line
define_places : (line : Bytes) (d : Definition) → IsDefine line d → (d.name_at ≤ length line) × (d.number_at ≤ length line) × (1 ≤ length line)
define_places line d h =
    let tail = h.value ++ h.after in
    let more = h.second ++ tail in
    let rest = h.first ++ (d.name ++ more) in
    let right = right8 (codes "#") h.before (codes "define") h.first d.name h.second h.value h.after in
    let p = value_place h.is_value in
    let whole : length line ≡ 1 + (length h.before + (6 + (length h.first + (length d.name + (length h.second + (length h.value + length h.after)))))) =
    omega (arith, ap length (h.is_line ∙ right), length-append h.before (codes "define" ++ rest), length-append h.first (d.name ++ more), length-append d.name more, length-append h.second tail, length-append h.value h.after) in
    (omega (arith, whole, h.name_at), omega (arith, whole, h.name_at, h.number_at, p), omega (arith, whole))

-- what a definition is stands in its line
defines_within : {m : Macros} {at : ℕ} (line : Bytes) (d : Definition) {r : Found} → IsDefine line d → Defines m at (length line) d r → IsWithin at (length line) r
defines_within line d h (Defines.twice e) = let p = define_places line d h in omega (arith, p.0)
defines_within line d h (Defines.large n e v l) = let p = define_places line d h in omega (arith, p.1)
defines_within line d h (Defines.new n e v l) = let p = define_places line d h in (p.2, omega arith)

-- an include has a byte
include_some : (line : Bytes) → IsInclude line → 1 ≤ length line
include_some line h =
    omega (arith, ap length (h.is_line ∙ right6 (codes "#") h.before (codes "include") h.between h.header h.after))

-- what the text of a directive says stands in it
says_within : {m : Macros} {at : ℕ} {line : Bytes} {r : Found} → Says m at line r → IsWithin at (length line) r
says_within {line = line} (Says.include h) = (include_some line h, omega arith)
says_within {line = line} (Says.define d h s) = defines_within line d h s
says_within (Says.unknown f g) = omega arith

-- a prefix of a text is no longer than the text
prefix_within : (z w rest : Bytes) → z ≡ w ++ rest → length w ≤ length z
prefix_within z w rest e = omega (arith, ap length e, length-append w rest)

-- what a directive is stands in the text
directive_within : {m : Macros} {at : ℕ} {z : Bytes} {r : Found} → IsDirective m at z r → IsWithin at (length z) r
directive_within (IsDirective.unclosed place h) = let p = line_within h refl in omega (arith, p)
directive_within {at = at} {z = z} {r = r} (IsDirective.closed line h s) = within_more at (length line) (length z) r (line_within h refl) (says_within s)

-- what stands at a place stands in the text
pub stands_within : {m : Macros} {at : ℕ} {z : Bytes} {begun : Bool} {o : Opening} {r : Found} → Stands m at z begun o r → o ≡ opening_of z → 1 ≤ length z → IsWithin at (length z) r
stands_within Stands.space q l = (omega arith, l)
stands_within {z = z} (Stands.line_comment {begun} {n} f) q l = (line_comment_some z n (sym q) f, f.within)
stands_within {z = z} (Stands.comment {begun} {n} f) q l = (omega arith, comment_fits z n (begins_size (codes "/*") z (comment_begins z (sym q))) f)
stands_within (Stands.open_comment f) q l = omega arith
stands_within (Stands.directive d) q l = directive_within d
stands_within Stands.late q l = omega arith
stands_within {z = z} (Stands.word w rest e h k) q l = (piece_not_empty h.piece, prefix_within z w rest e)
stands_within {z = z} (Stands.number w rest e h (IsNumber.value n v s)) q l = (piece_not_empty h.piece, prefix_within z w rest e)
stands_within {z = z} (Stands.number w rest e h (IsNumber.large n v s)) q l = omega arith
stands_within {z = z} (Stands.number w rest e h (IsNumber.bad n)) q l = omega arith
stands_within {z = z} (Stands.character w rest e h (IsCharacter.value v c)) q l = (let two = (quoted_begins 39 w h).0 in omega (arith, two), prefix_within z w rest e)
stands_within {z = z} (Stands.character w rest e h (IsCharacter.bad n)) q l = omega arith
stands_within (Stands.open_character f) q l = omega arith
stands_within {z = z} (Stands.text w rest e h (IsText.value v c)) q l = (let two = (quoted_begins 34 w h).0 in omega (arith, two), prefix_within z w rest e)
stands_within {z = z} (Stands.text w rest e h (IsText.bad n)) q l = omega arith
stands_within (Stands.open_text f) q l = omega arith
stands_within Stands.digraph q l = omega arith
stands_within {z = z} (Stands.punctuator p rest e h) q l = (piece_not_empty h.piece, prefix_within z (punct_spelling p) rest e)
stands_within (Stands.stray f) q l = omega arith

-- a directive's text is no longer than the text that it stands in
pub line_size : (z line : Bytes) → HasLine z (Ok line) → length line ≤ length z
line_size z line h = line_within h refl

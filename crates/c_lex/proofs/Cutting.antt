-- A source has one outcome at most.
use Rattle.std.proofs.Common.{◌≡◌, ℕ, ◌+◌, ◌<◌, Bool, true, false, ◌&&◌, ◌||◌, ◌==◌, [], ◌∷◌, length, drop, Result, Ok, Err, pos, refl, sym, ap, ◌∙◌, subst, arith}
use Rattle.std.proofs.lemmas.Bool.Decides.{nat_tests}
use Rattle.c_lex.specs.declared.fault.LexFault.TheVariants as fault
use Rattle.c_lex.specs.declared.scan.Scanned.TheVariants as scanned
use Rattle.c_lex.specs.declared.opening.Opening.{Opening}
use Rattle.c_lex.specs.declared.opening.LinePart.{LinePart}
use Rattle.c_lex.specs.declared.token.TokenKind.{TokenKind}
use Rattle.c_lex.specs.declared.token.TokenKind.TheVariants.{Const, Str, Word, Punct}
use Rattle.c_lex.specs.Bytes.{Bytes}
use Rattle.c_lex.specs.Spellings.{punct_spelling}
use Rattle.c_lex.specs.Lexemes.{span_at}
use Rattle.c_lex.specs.Constants.{char_value}
use Rattle.c_lex.specs.Places.{IsFirstAt, IsNowhere, begins, is_splice, is_trigraph, ends_trigraph}
use Rattle.c_lex.specs.Openings.{line_part}
use Rattle.c_lex.specs.Directives.{before_line, spaces, Line, Definition}
use Rattle.c_lex.specs.Tokens.{Macros, Found, Outcome, Defines, Says, IsDirective, IsWord, IsNumber, IsCharacter, IsText, Stands, also, signed, Cuts, Lexes}
use Rattle.c_lex.proofs.Spelled.{keyword_same, punct_same}
use Rattle.c_lex.proofs.Runs.{both_left}
use Rattle.c_lex.proofs.Longest.{same_piece}
use Rattle.c_lex.proofs.Constants.{one_value}
use Rattle.c_lex.proofs.Characters.{one_characters}
use Rattle.c_lex.proofs.Literals.{one_quoted}
use Rattle.c_lex.proofs.Lines.{begins_is}
use Rattle.c_lex.proofs.Forms.{include_no_define, one_definition}

-- ---- places

-- one place at most is the first
first_once : (test : Bytes → Bool) (z : Bytes) (n m : ℕ) → IsFirstAt test z n → IsFirstAt test z m → n ≡ m
first_once test z n m f g =
    let no : n < m → ⊥ = λ l. let p = g.first n l in let q = f.holds in absurd (cc) in
    let none : m < n → ⊥ = λ l. let p = f.first m l in let q = g.holds in absurd (cc) in
    omega (arith, no, none)

-- no place is the first where there is none
nowhere_first : (test : Bytes → Bool) (z : Bytes) (n : ℕ) → IsNowhere test z → IsFirstAt test z n → ⊥
nowhere_first test z n h f = let p = h n f.within in let q = f.holds in absurd (cc)

-- ---- directives

-- a directive has one text at most
one_line : {p : LinePart} {z : Bytes} {r s : Result Bytes ℕ} → Line p z r → Line p z s → r ≡ s
one_line Line.ends Line.ends = refl
one_line {z = z} (Line.last {n = n} f) (Line.last {n = m} g) = ap (λ k. Ok (spaces k)) (first_once _ z n m f g)
one_line {z = z} (Line.comment {n = n} {r = r} f d) (Line.comment {n = m} {r = s} g e) =
    let same = first_once _ (drop 2 z) n m f g in
    let later = subst (λ k. Line (line_part (drop (k + 4) z)) (drop (k + 4) z) s) (sym same) e in
    ap (before_line (spaces (n + 4))) (one_line d later) ∙ ap (λ k. before_line (spaces (k + 4)) s) same
one_line {z = z} (Line.comment {n = n} f d) (Line.unclosed g) = absurd (nowhere_first _ (drop 2 z) n g f)
one_line {z = z} (Line.unclosed g) (Line.comment {n = n} f d) = absurd (nowhere_first _ (drop 2 z) n g f)
one_line (Line.unclosed f) (Line.unclosed g) = refl
one_line (Line.byte {b} d) (Line.byte e) = ap (before_line (b ∷ [])) (one_line d e)

-- a definition is one thing at most
one_defines : {m : Macros} {at len : ℕ} {d : Definition} {r s : Found} → Defines m at len d r → Defines m at len d s → r ≡ s
one_defines (Defines.twice e) (Defines.twice f) = refl
one_defines (Defines.twice e) (Defines.large n f v l) = absurd (cc)
one_defines (Defines.twice e) (Defines.new n f v l) = absurd (cc)
one_defines (Defines.large n f v l) (Defines.twice e) = absurd (cc)
one_defines (Defines.large n f v l) (Defines.large k g w i) = refl
one_defines (Defines.large n f v l) (Defines.new k g w i) = let same = one_value v w in absurd (omega (arith, same, l, i))
one_defines (Defines.new n f v l) (Defines.twice e) = absurd (cc)
one_defines (Defines.new n f v l) (Defines.large k g w i) = let same = one_value v w in absurd (omega (arith, same, l, i))
one_defines {len = len} {d = d} (Defines.new n f v l) (Defines.new k g w i) = ap (λ x. Ok (scanned.Define d.name (signed d.negative x) len)) (one_value v w)

-- the text of a directive says one thing at most
one_says : {m : Macros} {at : ℕ} {line : Bytes} {r s : Found} → Says m at line r → Says m at line s → r ≡ s
one_says (Says.include h) (Says.include i) = refl
one_says {line = line} (Says.include h) (Says.define d i s) = absurd (include_no_define line d h i)
one_says (Says.include h) (Says.unknown f g) = absurd (f h)
one_says {line = line} (Says.define d i s) (Says.include h) = absurd (include_no_define line d h i)
one_says {m = m} {at = at} {line = line} {s = t} (Says.define d i s) (Says.define e j u) =
    one_defines s (subst (λ x. Defines m at (length line) x t) (sym (one_definition line d e i j)) u)
one_says (Says.define d i s) (Says.unknown f g) = absurd (g d i)
one_says (Says.unknown f g) (Says.include h) = absurd (f h)
one_says (Says.unknown f g) (Says.define d i s) = absurd (g d i)
one_says (Says.unknown f g) (Says.unknown h i) = refl

-- a directive is one thing at most
one_directive : {m : Macros} {at : ℕ} {z : Bytes} {r s : Found} → IsDirective m at z r → IsDirective m at z s → r ≡ s
one_directive {at = at} (IsDirective.unclosed p h) (IsDirective.unclosed q i) = let e = one_line h i in let same : p ≡ q = cc in ap (λ x. Err (fault.OpenComment (at + x))) same
one_directive (IsDirective.unclosed p h) (IsDirective.closed line i s) = let e = one_line h i in absurd (cc)
one_directive (IsDirective.closed line h s) (IsDirective.unclosed q i) = let e = one_line h i in absurd (cc)
one_directive {m = m} {at = at} {s = t} (IsDirective.closed line h s) (IsDirective.closed other i u) =
    let e = one_line h i in
    let same : other ≡ line = cc in
    one_says s (subst (λ x. Says m at x t) same u)

-- ---- tokens

-- an identifier is one token at most
one_word : {m : Macros} {w : Bytes} {a b : TokenKind} → IsWord m w a → IsWord m w b → a ≡ b
one_word (IsWord.keyword k e) (IsWord.keyword j f) = ap Word (keyword_same k j (sym e ∙ f))
one_word (IsWord.keyword k e) (IsWord.macro n h) = absurd (n k e)
one_word (IsWord.keyword k e) (IsWord.name n h) = absurd (n k e)
one_word (IsWord.macro n h) (IsWord.keyword k e) = absurd (n k e)
one_word {w = w} (IsWord.macro {v = v} n h) (IsWord.macro {v = u} o i) = let same : v ≡ u = cc in ap (λ x. Const x w) same
one_word (IsWord.macro n h) (IsWord.name o i) = absurd (cc)
one_word (IsWord.name n h) (IsWord.keyword k e) = absurd (n k e)
one_word (IsWord.name n h) (IsWord.macro o i) = absurd (cc)
one_word (IsWord.name n h) (IsWord.name o i) = refl

-- a number is one thing at most
one_number : {at : ℕ} {w : Bytes} {r s : Found} → IsNumber at w r → IsNumber at w s → r ≡ s
one_number {w = w} (IsNumber.value n v l) (IsNumber.value k u i) = ap (λ x. Ok (scanned.Take (Const (pos x) w) (length w))) (one_value v u)
one_number (IsNumber.value n v l) (IsNumber.large k u i) = let same = one_value v u in absurd (omega (arith, same, l, i))
one_number (IsNumber.value n v l) (IsNumber.bad f) = absurd (f n v)
one_number (IsNumber.large n v l) (IsNumber.value k u i) = let same = one_value v u in absurd (omega (arith, same, l, i))
one_number (IsNumber.large n v l) (IsNumber.large k u i) = refl
one_number (IsNumber.large n v l) (IsNumber.bad f) = absurd (f n v)
one_number (IsNumber.bad f) (IsNumber.value n v l) = absurd (f n v)
one_number (IsNumber.bad f) (IsNumber.large n v l) = absurd (f n v)
one_number (IsNumber.bad f) (IsNumber.bad g) = refl

-- a character constant is one thing at most
one_character_token : {at : ℕ} {w : Bytes} {r s : Found} → IsCharacter at w r → IsCharacter at w s → r ≡ s
one_character_token {w = w} (IsCharacter.value v c) (IsCharacter.value u d) =
    let e = one_characters c d in
    let same : v ≡ u = cc in
    ap (λ x. Ok (scanned.Take (Const (char_value x) w) (length w))) same
one_character_token (IsCharacter.value v c) (IsCharacter.bad f) = absurd (f v c)
one_character_token (IsCharacter.bad f) (IsCharacter.value v c) = absurd (f v c)
one_character_token (IsCharacter.bad f) (IsCharacter.bad g) = refl

-- a string literal is one thing at most
one_text_token : {at : ℕ} {w : Bytes} {r s : Found} → IsText at w r → IsText at w s → r ≡ s
one_text_token {w = w} (IsText.value v c) (IsText.value u d) = ap (λ x. Ok (scanned.Take (Str x) (length w))) (one_characters c d)
one_text_token (IsText.value v c) (IsText.bad f) = absurd (f v c)
one_text_token (IsText.bad f) (IsText.value v c) = absurd (f v c)
one_text_token (IsText.bad f) (IsText.bad g) = refl

-- one thing at most stands at a place
one_found : {m : Macros} {at : ℕ} {z : Bytes} {begun : Bool} {o : Opening} {r s : Found} → Stands m at z begun o r → Stands m at z begun o s → r ≡ s
one_found Stands.space Stands.space = refl
one_found {z = z} (Stands.line_comment {n = n} f) (Stands.line_comment {n = k} g) = ap (λ x. Ok (scanned.Pass x)) (first_once _ z n k f g)
one_found {z = z} (Stands.comment {n = n} f) (Stands.comment {n = k} g) = ap (λ x. Ok (scanned.Pass (x + 4))) (first_once _ (drop 2 z) n k f g)
one_found {z = z} (Stands.comment {n = n} f) (Stands.open_comment g) = absurd (nowhere_first _ (drop 2 z) n g f)
one_found {z = z} (Stands.open_comment g) (Stands.comment {n = n} f) = absurd (nowhere_first _ (drop 2 z) n g f)
one_found (Stands.open_comment f) (Stands.open_comment g) = refl
one_found (Stands.directive d) (Stands.directive e) = one_directive d e
one_found Stands.late Stands.late = refl
one_found {m = m} (Stands.word {kind = a} w rest e h k) (Stands.word {kind = b} v x f i j) =
    let same = (same_piece w rest v x (sym e ∙ f) h i).0 in
    ap (λ c. Ok (scanned.Take c (length w))) (one_word k (subst (λ y. IsWord m y b) (sym same) j)) ∙ ap (λ y. Ok (scanned.Take b (length y))) same
one_found {at = at} {s = s} (Stands.number w rest e h k) (Stands.number v x f i j) =
    let same = (same_piece w rest v x (sym e ∙ f) h i).0 in
    one_number k (subst (λ y. IsNumber at y s) (sym same) j)
one_found {at = at} {s = s} (Stands.character w rest e h k) (Stands.character v x f i j) =
    let same = one_quoted 39 w v rest x (sym e ∙ f) h i in
    one_character_token k (subst (λ y. IsCharacter at y s) (sym same) j)
one_found (Stands.character w rest e h k) (Stands.open_character g) = absurd (g w rest e h)
one_found (Stands.open_character g) (Stands.character w rest e h k) = absurd (g w rest e h)
one_found (Stands.open_character f) (Stands.open_character g) = refl
one_found {at = at} {s = s} (Stands.text w rest e h k) (Stands.text v x f i j) =
    let same = one_quoted 34 w v rest x (sym e ∙ f) h i in
    one_text_token k (subst (λ y. IsText at y s) (sym same) j)
one_found (Stands.text w rest e h k) (Stands.open_text g) = absurd (g w rest e h)
one_found (Stands.open_text g) (Stands.text w rest e h k) = absurd (g w rest e h)
one_found (Stands.open_text f) (Stands.open_text g) = refl
one_found Stands.digraph Stands.digraph = refl
one_found (Stands.punctuator p rest e h) (Stands.punctuator q x f i) =
    let same = punct_same p q (same_piece _ rest _ x (sym e ∙ f) h i).0 in
    ap (λ y. Ok (scanned.Take (Punct y) (length (punct_spelling y)))) same
one_found (Stands.punctuator p rest e h) (Stands.stray g) = absurd (g (punct_spelling p) rest e h.piece)
one_found (Stands.stray g) (Stands.punctuator p rest e h) = absurd (g (punct_spelling p) rest e h.piece)
one_found (Stands.stray f) (Stands.stray g) = refl

-- ---- the whole text

-- a text has one cut at most
one_cut : {begun : Bool} {m : Macros} {at : ℕ} {z : Bytes} {r s : Outcome} → Cuts begun m at z r → Cuts begun m at z s → r ≡ s
one_cut Cuts.done Cuts.done = refl
one_cut {begun = begun} {m = m} {at = at} {s = u} (Cuts.pass {b = b} {z = z} n s d) (Cuts.pass k t e) =
    let p = one_found s t in
    let same : k ≡ n = cc in
    one_cut d (subst (λ x. Cuts begun m (at + x) (drop x (b ∷ z)) u) same e)
one_cut (Cuts.pass n s d) (Cuts.define name value k t e) = let p = one_found s t in absurd (cc)
one_cut (Cuts.pass n s d) (Cuts.token kind k t e) = let p = one_found s t in absurd (cc)
one_cut (Cuts.pass n s d) (Cuts.stop f t) = let p = one_found s t in absurd (cc)
one_cut (Cuts.define name value n s d) (Cuts.pass k t e) = let p = one_found s t in absurd (cc)
one_cut {begun = begun} {m = m} {at = at} {s = u} (Cuts.define {b = b} {z = z} name value n s d) (Cuts.define other amount k t e) =
    let p = one_found s t in
    let same : k ≡ n = cc in
    let named : other ≡ name = cc in
    let valued : amount ≡ value = cc in
    one_cut d (subst (λ y. Cuts begun ((name, y) ∷ m) (at + n) (drop n (b ∷ z)) u) valued
    (subst (λ y. Cuts begun ((y, amount) ∷ m) (at + n) (drop n (b ∷ z)) u) named (subst (λ x. Cuts begun ((other, amount) ∷ m) (at + x) (drop x (b ∷ z)) u) same e)))
one_cut (Cuts.define name value n s d) (Cuts.token kind k t e) = let p = one_found s t in absurd (cc)
one_cut (Cuts.define name value n s d) (Cuts.stop f t) = let p = one_found s t in absurd (cc)
one_cut (Cuts.token kind n s d) (Cuts.pass k t e) = let p = one_found s t in absurd (cc)
one_cut (Cuts.token kind n s d) (Cuts.define name value k t e) = let p = one_found s t in absurd (cc)
one_cut {begun = begun} {m = m} {at = at} (Cuts.token {b = b} {z = z} kind n s d) (Cuts.token {r = u} other k t e) =
    let p = one_found s t in
    let same : k ≡ n = cc in
    let kinds : kind ≡ other = cc in
    ap (also (kind, span_at at n)) (one_cut d (subst (λ x. Cuts true m (at + x) (drop x (b ∷ z)) u) same e))
    ∙ ap (λ x. also (x, span_at at n) u) kinds ∙ ap (λ x. also (other, span_at at x) u) (sym same)
one_cut (Cuts.token kind n s d) (Cuts.stop f t) = let p = one_found s t in absurd (cc)
one_cut (Cuts.stop f s) (Cuts.pass k t e) = let p = one_found s t in absurd (cc)
one_cut (Cuts.stop f s) (Cuts.define name value k t e) = let p = one_found s t in absurd (cc)
one_cut (Cuts.stop f s) (Cuts.token kind k t e) = let p = one_found s t in absurd (cc)
one_cut (Cuts.stop f s) (Cuts.stop g t) = let p = one_found s t in let same : f ≡ g = cc in ap Err same

-- what begins with a backslash is no trigraph
backslash_no_trigraph : (z rest : Bytes) → z ≡ 92 ∷ rest → is_trigraph z ≡ true → ⊥
backslash_no_trigraph [] rest e h = absurd (cc)
backslash_no_trigraph (b ∷ []) rest e h = absurd (cc)
backslash_no_trigraph (b ∷ c ∷ []) rest e h = absurd (cc)
backslash_no_trigraph (b ∷ c ∷ d ∷ z) rest e h =
    let same : b ≡ 92 = cc in
    let first = both_left (b == 63) (c == 63) (both_left (b == 63 && c == 63) (ends_trigraph d) h) in
    grind (arith, nat_tests)

-- no splice is a trigraph
splice_no_trigraph : (z : Bytes) → is_splice z ≡ true → is_trigraph z ≡ true → ⊥
splice_no_trigraph z h t = by (begins (92 ∷ 10 ∷ []) z) (begins (92 ∷ 13 ∷ 10 ∷ []) z) refl refl h
  where
    by : (x y : Bool) → begins (92 ∷ 10 ∷ []) z ≡ x → begins (92 ∷ 13 ∷ 10 ∷ []) z ≡ y → (x || y) ≡ true → ⊥
    by true y e f h = backslash_no_trigraph z _ (begins_is (92 ∷ 10 ∷ []) z e) t
    by false true e f h = backslash_no_trigraph z _ (begins_is (92 ∷ 13 ∷ 10 ∷ []) z f) t
    by false false e f h = absurd (cc)

-- a source has one outcome at most
pub one_outcome : (bytes : Bytes) (r s : Outcome) → Lexes bytes r → Lexes bytes s → r ≡ s
one_outcome bytes r s (Lexes.splice n f h) (Lexes.splice k g i) = ap (λ x. Err (fault.LineSplice x)) (first_once _ bytes n k f g)
one_outcome bytes r s (Lexes.splice n f h) (Lexes.trigraph k g i) =
    absurd (splice_no_trigraph (drop n bytes) h (subst (λ x. is_trigraph (drop x bytes) ≡ true) (sym (first_once _ bytes n k f g)) i))
one_outcome bytes r s (Lexes.splice n f h) (Lexes.cut e d) = absurd (nowhere_first _ bytes n e f)
one_outcome bytes r s (Lexes.trigraph n f h) (Lexes.splice k g i) =
    absurd (splice_no_trigraph (drop k bytes) i (subst (λ x. is_trigraph (drop x bytes) ≡ true) (first_once _ bytes n k f g) h))
one_outcome bytes r s (Lexes.trigraph n f h) (Lexes.trigraph k g i) = ap (λ x. Err (fault.Trigraph x)) (first_once _ bytes n k f g)
one_outcome bytes r s (Lexes.trigraph n f h) (Lexes.cut e d) = absurd (nowhere_first _ bytes n e f)
one_outcome bytes r s (Lexes.cut e d) (Lexes.splice n f h) = absurd (nowhere_first _ bytes n e f)
one_outcome bytes r s (Lexes.cut e d) (Lexes.trigraph n f h) = absurd (nowhere_first _ bytes n e f)
one_outcome bytes r s (Lexes.cut e d) (Lexes.cut f g) = one_cut d g

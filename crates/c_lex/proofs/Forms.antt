-- The forms of directives are found in their lines, and nothing else is.
use Rattle.std.proofs.Common.{◌≡◌, ◌≢◌, ◌⊎◌, inl, inr, ℕ, ◌+◌, ◌-◌, ◌<◌, Bool, true, false, ◌&&◌, nat_lt, if◌then◌else◌, [], ◌∷◌, ◌++◌, length, take, drop, get_or, codes, Option, Some, None, refl, sym, ap, ◌∙◌, subst, arith, length-append, take-append-drop, append_assoc}
use Rattle.std.specs.Char.{is_ascii_digit}
use Rattle.std.proofs.lemmas.Bool.Decides.{nat_tests}
use Rattle.std.proofs.lemmas.List.{append-nil}
use Rattle.c_lex.specs.declared.form.DefineParts.{DefineParts}
use Rattle.c_lex.specs.Bytes.{Bytes, is_letter}
use Rattle.c_lex.specs.Pieces.{goes_on_word, goes_on_number, is_chain, is_identifier}
use Rattle.c_lex.specs.Constants.{HasValue}
use Rattle.c_lex.specs.Places.{begins}
use Rattle.c_lex.specs.Directives.{is_blank, are_blank, IsInclude, IsSigned, IsValue, Definition, IsDefine}
use Rattle.c_lex.specs.DirectiveReading.{skip, strip, strip_in, body_of, word_len, after_word, is_blank_only, is_header, is_include, is_include_by, inside, number_of, ends_value, parts_by, parts_in, parts_of, definition_of, BeginsName}
use Rattle.c_lex.proofs.Appends.{right4, right6, right8, prefix_dropped, prefix_taken}
use Rattle.c_lex.proofs.Runs.{both_left, both_right}
use Rattle.c_lex.proofs.Constants.{value_is_number}
use Rattle.c_lex.proofs.Lines.{begins_is, is_begins}
use Rattle.c_lex.proofs.Scanning.{skip_parts, skip_past, skip_none, blank_only, only_blank, ends_word, word_past, after_past, identifier_is_run, value_is_run, some_blank_ends, blanks_end, name_kept, word_form}

-- ---- prefixes

-- what stands after a prefix is found
strip_found : (w z rest : Bytes) → z ≡ w ++ rest → strip w z ≡ Some rest
strip_found w z rest e = ap (λ x. if x then Some (drop (length w) z) else None) (is_begins w z rest e) ∙ ap Some (ap (drop (length w)) e ∙ prefix_dropped w rest)

-- the step of `strip_is`, by whether the text begins so
strip_by : (w z rest : Bytes) (x : Bool) → begins w z ≡ x → (if x then Some (drop (length w) z) else None) ≡ Some rest → z ≡ w ++ rest
strip_by w z rest true e h = let q : drop (length w) z ≡ rest = cc in begins_is w z e ∙ ap (λ y. w ++ y) q
strip_by w z rest false e h = absurd (cc)

-- what is found stands after the prefix
strip_is : (w z rest : Bytes) → strip w z ≡ Some rest → z ≡ w ++ rest
strip_is w z rest h = strip_by w z rest (begins w z) refl h

-- the step of `begins_not`
begins_not_by : (b c : ℕ) (z : Bytes) (x : Bool) → b ≢ c → begins (c ∷ []) (b ∷ z) ≡ x → x ≡ false
begins_not_by b c z true n e = absurd (let s = begins_is (c ∷ []) (b ∷ z) e in let q : b ≡ c = cc in n q)
begins_not_by b c z false n e = refl

-- a text with another first byte doesn't begin so
begins_not : (b c : ℕ) (z : Bytes) → b ≢ c → begins (c ∷ []) (b ∷ z) ≡ false
begins_not b c z n = begins_not_by b c z (begins (c ∷ []) (b ∷ z)) n refl

-- ---- the name of a directive

-- what stands after the name of a directive is found
body_found : (name line a r : Bytes) → line ≡ codes "#" ++ (a ++ (name ++ r)) → are_blank a ≡ true → skip (name ++ r) ≡ name ++ r → body_of name line ≡ Some r
body_found name line a r e h s =
    ap (strip_in name) (strip_found (codes "#") line (a ++ (name ++ r)) e) ∙ ap (strip name) (skip_past a (name ++ r) h s) ∙ strip_found name (name ++ r) r refl

-- the step of `body_is`, by what stands after the `#`
body_by : (name line r : Bytes) (o : Option Bytes) → strip (codes "#") line ≡ o → strip_in name o ≡ Some r
    → (a : Bytes) × (are_blank a ≡ true) × (line ≡ codes "#" ++ (a ++ (name ++ r)))
body_by name line r None e h = absurd (cc)
body_by name line r (Some y) e h =
    let p = skip_parts y in
    let s = strip_is name (skip y) r h in
    (p.0, p.1, strip_is (codes "#") line y e ∙ ap (λ v. codes "#" ++ v) (p.2 ∙ ap (λ v. p.0 ++ v) s))

-- what is found stands after the name
body_is : (name line r : Bytes) → body_of name line ≡ Some r → (a : Bytes) × (are_blank a ≡ true) × (line ≡ codes "#" ++ (a ++ (name ++ r)))
body_is name line r h = body_by name line r (strip (codes "#") line) refl h

-- ---- includes

-- a header is found
header_found : (header after : Bytes) → (header ≡ codes "<stdio.h>") ⊎ (header ≡ codes "<stdlib.h>") → are_blank after ≡ true
    → (skip (header ++ after) ≡ header ++ after) × (is_header (header ++ after) ≡ true)
header_found header after (inl e) h =
    let z = codes "<stdio.h>" ++ after in
    subst (λ v. (skip (v ++ after) ≡ v ++ after) × (is_header (v ++ after) ≡ true)) (sym e)
    (refl, ap (λ x. if x then is_blank_only (drop 9 z) else if begins (codes "<stdlib.h>") z then is_blank_only (drop 10 z) else false) (is_begins (codes "<stdio.h>") z after refl) ∙ blank_only after h)
header_found header after (inr e) h =
    let z = codes "<stdlib.h>" ++ after in
    let other : begins (codes "<stdio.h>") z ≡ false = refl in
    subst (λ v. (skip (v ++ after) ≡ v ++ after) × (is_header (v ++ after) ≡ true)) (sym e) (
      refl,
      ap (λ x. if x then is_blank_only (drop 9 z) else if begins (codes "<stdlib.h>") z then is_blank_only (drop 10 z) else false) other
          ∙ ap (λ x. if x then is_blank_only (drop 10 z) else false) (is_begins (codes "<stdlib.h>") z after refl) ∙ blank_only after h,
    )

-- the step of `header_is`, by which header begins the text
header_by : (z : Bytes) (x y : Bool) → begins (codes "<stdio.h>") z ≡ x → begins (codes "<stdlib.h>") z ≡ y
    → (if x then is_blank_only (drop 9 z) else if y then is_blank_only (drop 10 z) else false) ≡ true
    → (header : Bytes) × (after : Bytes) × (z ≡ header ++ after) × ((header ≡ codes "<stdio.h>") ⊎ (header ≡ codes "<stdlib.h>")) × (are_blank after ≡ true)
header_by z true y e f h = (codes "<stdio.h>", drop 9 z, begins_is (codes "<stdio.h>") z e, inl refl, only_blank (drop 9 z) h)
header_by z false true e f h = (codes "<stdlib.h>", drop 10 z, begins_is (codes "<stdlib.h>") z f, inr refl, only_blank (drop 10 z) h)
header_by z false false e f h = absurd (cc)

-- an include is found
pub include_found : (line : Bytes) → IsInclude line → is_include line ≡ true
include_found line h =
    let right = h.is_line ∙ right6 (codes "#") h.before (codes "include") h.between h.header h.after in
    let tail = h.header ++ h.after in
    let f = header_found h.header h.after h.is_header h.blank_after in
    ap is_include_by (body_found (codes "include") line h.before (h.between ++ tail) right h.blank_before refl) ∙ ap is_header (skip_past h.between tail h.blank_between f.0) ∙ f.1

-- the step of `include_is`, by what stands after the name
include_by : (line : Bytes) (o : Option Bytes) → body_of (codes "include") line ≡ o → is_include_by o ≡ true → IsInclude line
include_by line None e h = absurd (cc)
include_by line (Some r) e h =
    let p = body_is (codes "include") line r e in
    let q = skip_parts r in
    let f = header_by (skip r) (begins (codes "<stdio.h>") (skip r)) (begins (codes "<stdlib.h>") (skip r)) refl refl h in
    let whole : line ≡ codes "#" ++ (p.0 ++ (codes "include" ++ (q.0 ++ (f.0 ++ f.1)))) =
    p.2 ∙ ap (λ v. codes "#" ++ (p.0 ++ (codes "include" ++ v))) (q.2 ∙ ap (λ v. q.0 ++ v) f.2) in
    record {
      before = p.0;
      between = q.0;
      header = f.0;
      after = f.1;
      is_line = whole ∙ sym (right6 (codes "#") p.0 (codes "include") q.0 f.0 f.1);
      is_header = f.3;
      blank_before = p.1;
      blank_between = q.1;
      blank_after = f.4;
    }

-- what is found is an include
pub include_is : (line : Bytes) → is_include line ≡ true → IsInclude line
include_is line h = include_by line (body_of (codes "include") line) refl h

-- ---- values

-- a number has a first digit
first_digit : (w : Bytes) (n : ℕ) → HasValue w n → (c : ℕ) × (u : Bytes) × (w ≡ c ∷ u) × (is_ascii_digit c ≡ true)
first_digit [] n h = absurd (let q = value_is_number h in cc)
first_digit (c ∷ u) n h = (c, u, refl, both_left (is_ascii_digit c) (is_chain goes_on_number c u) (value_is_number h))

-- a digit is no blank and no sign or parenthesis
digit_no_blank : (c : ℕ) → is_ascii_digit c ≡ true → is_blank c ≡ false
digit_no_blank c h = grind (arith, nat_tests)

digit_no_minus : (c : ℕ) → is_ascii_digit c ≡ true → c ≢ 45
digit_no_minus c h = grind (arith, nat_tests)

digit_no_paren : (c : ℕ) → is_ascii_digit c ≡ true → c ≢ 40
digit_no_paren c h = grind (arith, nat_tests)

-- what is read of a text that begins with a number, maybe with a sign, and goes on with the tail
record SignedAt (number : Bytes) (negative : Bool) (place : ℕ) (tail z : Bytes) : Type 0 where
  prefix : Bytes
  split : z ≡ prefix ++ (number ++ tail)
  size : length prefix ≡ place
  found : number_of z ≡ number ++ tail
  minus : begins (codes "-") z ≡ negative
  kept : skip z ≡ z
  no_paren : begins (codes "(") z ≡ false

-- a number alone is read
plain_at : (number tail : Bytes) (c : ℕ) (u : Bytes) → number ≡ c ∷ u → is_ascii_digit c ≡ true → SignedAt number false 0 tail (number ++ tail)
plain_at number tail c u e h =
    let no : begins (codes "-") (number ++ tail) ≡ false = subst (λ w. begins (codes "-") (w ++ tail) ≡ false) (sym e) (begins_not c 45 (u ++ tail) (digit_no_minus c h)) in
    record {
      prefix = [];
      split = refl;
      size = refl;
      found = ap (λ x. if x then skip (drop 1 (number ++ tail)) else number ++ tail) no;
      minus = no;
      kept = subst (λ w. skip (w ++ tail) ≡ w ++ tail) (sym e) (skip_none c (u ++ tail) (digit_no_blank c h));
      no_paren = subst (λ w. begins (codes "(") (w ++ tail) ≡ false) (sym e) (begins_not c 40 (u ++ tail) (digit_no_paren c h));
    }

-- a number with a sign is read
minus_at : (number tail a : Bytes) (c : ℕ) (u : Bytes) → number ≡ c ∷ u → is_ascii_digit c ≡ true → are_blank a ≡ true → SignedAt number true (1 + length a) tail (codes "-" ++ (a ++ (number ++ tail)))
minus_at number tail a c u e h b =
    let z = codes "-" ++ (a ++ (number ++ tail)) in
    let yes = is_begins (codes "-") z (a ++ (number ++ tail)) refl in
    let kept = subst (λ w. skip (w ++ tail) ≡ w ++ tail) (sym e) (skip_none c (u ++ tail) (digit_no_blank c h)) in
    record {
      prefix = codes "-" ++ a;
      split = sym (append_assoc (codes "-") a (number ++ tail));
      size = omega arith;
      found = ap (λ x. if x then skip (drop 1 z) else z) yes ∙ skip_past a (number ++ tail) b kept;
      minus = yes;
      kept = refl;
      no_paren = refl;
    }

-- a number, maybe with a sign, is read
signed_at : {number v : Bytes} {negative : Bool} {place : ℕ} (n : ℕ) (tail : Bytes) → IsSigned number v negative place → HasValue number n → SignedAt number negative place tail (v ++ tail)
signed_at {number} n tail IsSigned.plain h = let f = first_digit number n h in plain_at number tail f.0 f.1 f.2 f.3
signed_at {number} n tail (IsSigned.minus a b) h =
    let f = first_digit number n h in
    subst (SignedAt number true (1 + length a) tail) (sym (right4 (codes "-") a number tail)) (minus_at number tail a f.0 f.1 f.2 f.3 b)

-- what is read of a value and blanks after it
record ValueAt (number : Bytes) (negative : Bool) (place : ℕ) (z : Bytes) : Type 0 where
  tail : Bytes
  prefix : Bytes
  split : z ≡ prefix ++ (number ++ tail)
  size : length prefix ≡ place
  found : number_of (inside z) ≡ number ++ tail
  stops : ends_word tail ≡ true
  ends : ends_value (begins (codes "(") z) tail ≡ true
  minus : begins (codes "-") (inside z) ≡ negative
  kept : skip z ≡ z

-- blanks end a word
blank_ends : (z : Bytes) → are_blank z ≡ true → ends_word z ≡ true
blank_ends z h = subst (λ y. ends_word y ≡ true) (append-nil z) (blanks_end z [] h refl)

-- a value without parentheses is read
bare_at : (number : Bytes) (negative : Bool) (place : ℕ) (after z : Bytes) → SignedAt number negative place after z → are_blank after ≡ true → ValueAt number negative place z
bare_at number negative place after z s h =
    let same : inside z ≡ z = ap (λ x. if x then skip (drop 1 z) else z) s.no_paren in
    record {
      tail = after;
      prefix = s.prefix;
      split = s.split;
      size = s.size;
      found = ap number_of same ∙ s.found;
      stops = blank_ends after h;
      ends = ap (λ x. ends_value x after) s.no_paren ∙ blank_only after h;
      minus = ap (begins (codes "-")) same ∙ s.minus;
      kept = s.kept;
    }

-- a value in parentheses is read
inside_at : (number : Bytes) (negative : Bool) (place : ℕ) (a v b after : Bytes) → are_blank a ≡ true → are_blank b ≡ true → are_blank after ≡ true
    → SignedAt number negative place (b ++ (codes ")" ++ after)) (v ++ (b ++ (codes ")" ++ after)))
    → ValueAt number negative (1 + length a + place) (codes "(" ++ (a ++ (v ++ (b ++ (codes ")" ++ after)))))
inside_at number negative place a v b after x y h s =
    let tail = b ++ (codes ")" ++ after) in
    let inner = v ++ tail in
    let z = codes "(" ++ (a ++ inner) in
    let opened = is_begins (codes "(") z (a ++ inner) refl in
    let same : inside z ≡ inner = ap (λ t. if t then skip (drop 1 z) else z) opened ∙ skip_past a inner x s.kept in
    let closed : skip tail ≡ codes ")" ++ after = skip_past b (codes ")" ++ after) y refl in
    let good : ends_value true tail ≡ true =
    ap (λ t. begins (codes ")") t && is_blank_only (drop 1 t)) closed ∙ ap (λ t. t && is_blank_only after) (is_begins (codes ")") (codes ")" ++ after) after refl) ∙ blank_only after h in
    record {
      tail = tail;
      prefix = codes "(" ++ (a ++ s.prefix);
      split = ap (λ w. codes "(" ++ (a ++ w)) s.split ∙ ap (λ w. codes "(" ++ w) (sym (append_assoc a s.prefix (number ++ tail)));
      size = omega (arith, length-append a s.prefix, s.size);
      found = ap number_of same ∙ s.found;
      stops = blanks_end b (codes ")" ++ after) y refl;
      ends = ap (λ t. ends_value t tail) opened ∙ good;
      minus = ap (begins (codes "-")) same ∙ s.minus;
      kept = refl;
    }

-- a value is read
value_at : {number v : Bytes} {negative : Bool} {place : ℕ} (n : ℕ) (after : Bytes) → IsValue number v negative place → HasValue number n → are_blank after ≡ true
    → ValueAt number negative place (v ++ after)
value_at n after (IsValue.bare {v} {negative} {place} s) h b = bare_at _ negative place after (v ++ after) (signed_at n after s h) b
value_at n after (IsValue.inside {v} {negative} {place} a b x y s) h c =
    subst (ValueAt _ negative (1 + length a + place)) (sym (right6 (codes "(") a v b (codes ")") after)) (inside_at _ negative place a v b after x y c (signed_at n (b ++ (codes ")" ++ after)) s h))

-- ---- definitions

-- the parts of a line, by where its name, value, inner value and number begin
abbrev parts_from : ℕ → Bytes → Bytes → Bytes → Bytes → Bytes → Option DefineParts
parts_from len body name value inner number =
    if nat_lt (length name) (length body) && nat_lt (length value) (length (after_word name)) && ends_value (begins (codes "(") value) (after_word number)
    then Some (record { name_at = len - length name; name_len = word_len name; negative = begins (codes "-") inner; number_at = len - length number; number_len = word_len number })
    else None

-- three tests that pass
all_true : (x y z : Bool) → x ≡ true → y ≡ true → z ≡ true → (x && y && z) ≡ true
all_true true true true a b c = refl
all_true true true false a b c = absurd (cc)
all_true true false z a b c = absurd (cc)
all_true false y z a b c = absurd (cc)

-- each of three tests passes
true_parts : (x y z : Bool) → (x && y && z) ≡ true → (x ≡ true) × (y ≡ true) × (z ≡ true)
true_parts true true true h = (refl, refl, refl)
true_parts true true false h = absurd (cc)
true_parts true false z h = absurd (cc)
true_parts false y z h = absurd (cc)

-- a smaller number passes the test
lt_true : (a b : ℕ) → a < b → nat_lt a b ≡ true
lt_true a b h = grind (arith, nat_tests)

-- what passes the test is smaller
true_lt : (a b : ℕ) → nat_lt a b ≡ true → a < b
true_lt a b h = grind (arith, nat_tests)

-- definitions of equal parts are equal
same_definition : (d : Definition) (name : Bytes) (name_at : ℕ) (negative : Bool) (number : Bytes) (number_at : ℕ)
    → name ≡ d.name → name_at ≡ d.name_at → negative ≡ d.negative → number ≡ d.number → number_at ≡ d.number_at
    → record { name = name; name_at = name_at; negative = negative; number = number; number_at = number_at } ≡ d
same_definition d name name_at negative number number_at a b c e f =
    let make : Bytes → ℕ → Bool → Bytes → ℕ → Definition = λ n p s m q. record { name = n; name_at = p; negative = s; number = m; number_at = q } in
    ap (λ x. make x name_at negative number number_at) a ∙ ap (λ x. make d.name x negative number number_at) b ∙ ap (λ x. make d.name d.name_at x number number_at) c
    ∙ ap (λ x. make d.name d.name_at d.negative x number_at) e ∙ ap (λ x. make d.name d.name_at d.negative d.number x) f

-- the rest of a rest
tail_more : (line p n q m : Bytes) → line ≡ p ++ n → n ≡ q ++ m → line ≡ (p ++ q) ++ m
tail_more line p n q m e f = e ∙ ap (λ y. p ++ y) f ∙ sym (append_assoc p q m)

-- where a rest begins
tail_place : (line p n : Bytes) → line ≡ p ++ n → length line - length n ≡ length p
tail_place line p n e = omega (arith, ap length e, length-append p n)

-- what stands there
tail_there : (line p n : Bytes) → line ≡ p ++ n → drop (length line - length n) line ≡ n
tail_there line p n e = ap (λ k. drop k line) (tail_place line p n e) ∙ ap (drop (length p)) e ∙ prefix_dropped p n

-- the parts of a definition are found
pub define_found : (line : Bytes) (d : Definition) → IsDefine line d → (p : DefineParts) × (parts_of line ≡ Some p) × (definition_of line p ≡ d)
define_found line d h =
    let len = length line in
    let value = h.value ++ h.after in
    let rest = h.second ++ value in
    let name = d.name ++ rest in
    let body = h.first ++ name in
    let right : line ≡ codes "#" ++ (h.before ++ (codes "define" ++ body)) = h.is_line ∙ right8 (codes "#") h.before (codes "define") h.first d.name h.second h.value h.after in
    let v : ValueAt d.number d.negative h.value_place value = value_at h.has_value.0 h.after h.is_value h.has_value.1 h.blank_after in
    let number = d.number ++ v.tail in
    let name_is : skip body ≡ name = skip_past h.first name h.blank_first (name_kept d.name rest h.is_name) in
    let run = identifier_is_run d.name h.is_name in
    let stops = some_blank_ends h.second value h.some_second h.blank_second in
    let rest_is : after_word name ≡ rest = after_past d.name rest run stops in
    let value_is : skip (after_word (skip body)) ≡ value = ap (λ n. skip (after_word n)) name_is ∙ ap skip rest_is ∙ skip_past h.second value h.blank_second v.kept in
    let found : body_of (codes "define") line ≡ Some body = body_found (codes "define") line h.before body right h.blank_before refl in
    let parts : parts_by len body ≡ parts_from len body name value (inside value) number =
    ap (λ n. parts_from len body n (skip (after_word (skip body))) (inside (skip (after_word (skip body)))) (number_of (inside (skip (after_word (skip body)))))) name_is
    ∙ ap (λ w. parts_from len body name w (inside w) (number_of (inside w))) value_is ∙ ap (parts_from len body name value (inside value)) v.found in
    let number_run = value_is_run h.has_value.1 in
    let ends : ends_value (begins (codes "(") value) (after_word number) ≡ true = ap (ends_value (begins (codes "(") value)) (after_past d.number v.tail number_run v.stops) ∙ v.ends in
    let good = all_true (nat_lt (length name) (length body)) (nat_lt (length value) (length (after_word name))) (ends_value (begins (codes "(") value) (after_word number))
    (lt_true (length name) (length body) (omega (arith, length-append h.first name, h.some_first)))
    (lt_true (length value) (length (after_word name)) (omega (arith, ap length rest_is, length-append h.second value, h.some_second))) ends in
    let p : DefineParts = record { name_at = len - length name; name_len = word_len name; negative = begins (codes "-") (inside value); number_at = len - length number; number_len = word_len number } in
    let t1 = tail_more line (codes "#") (h.before ++ (codes "define" ++ body)) h.before (codes "define" ++ body) right refl in
    let t2 = tail_more line (codes "#" ++ h.before) (codes "define" ++ body) (codes "define") body t1 refl in
    let p3 = codes "#" ++ h.before ++ codes "define" ++ h.first in
    let t3 : line ≡ p3 ++ name = tail_more line (codes "#" ++ h.before ++ codes "define") body h.first name t2 refl in
    let t4 = tail_more line p3 name d.name rest t3 refl in
    let t5 = tail_more line (p3 ++ d.name) rest h.second value t4 refl in
    let p6 = p3 ++ d.name ++ h.second ++ v.prefix in
    let t6 : line ≡ p6 ++ number = tail_more line (p3 ++ d.name ++ h.second) value v.prefix number t5 v.split in
    let size3 : length p3 ≡ 1 + length h.before + 6 + length h.first = omega (arith, length-append (codes "#" ++ h.before ++ codes "define") h.first, length-append (codes "#" ++ h.before) (codes "define"), length-append (codes "#") h.before) in
    let size6 : length p6 ≡ length p3 + length d.name + length h.second + length v.prefix = omega (arith, length-append (p3 ++ d.name ++ h.second) v.prefix, length-append (p3 ++ d.name) h.second, length-append p3 d.name) in (
      p,
      ap (parts_in len) found ∙ parts ∙ ap (λ x. if x then Some p else None) good,
      same_definition d (definition_of line p).name (definition_of line p).name_at (definition_of line p).negative (definition_of line p).number (definition_of line p).number_at
          (ap (take (word_len name)) (tail_there line p3 name t3) ∙ ap (λ n. take n name) (word_past d.name rest run stops) ∙ prefix_taken d.name rest)
          (omega (arith, tail_place line p3 name t3, size3, h.name_at))
          v.minus
          (ap (take (word_len number)) (tail_there line p6 number t6) ∙ ap (λ n. take n number) (word_past d.number v.tail number_run v.stops) ∙ prefix_taken d.number v.tail)
          (omega (arith, tail_place line p6 number t6, size6, size3, h.name_at, h.number_at, v.size)),
    )

-- a value without parentheses, by whether a `-` begins it
signed_by : (z number tail : Bytes) (x : Bool) → begins (codes "-") z ≡ x → (if x then skip (drop 1 z) else z) ≡ number ++ tail
    → (v : Bytes) × (q : Bytes) × IsSigned number v x (length q) × (z ≡ v ++ tail) × (z ≡ q ++ (number ++ tail))
signed_by z number tail true e h =
    let p = skip_parts (drop 1 z) in
    let whole : z ≡ codes "-" ++ (p.0 ++ (number ++ tail)) = begins_is (codes "-") z e ∙ ap (λ y. codes "-" ++ y) (p.2 ∙ ap (λ y. p.0 ++ y) h) in
    let size : 1 + length p.0 ≡ length (codes "-" ++ p.0) = omega arith in (
      codes "-" ++ p.0 ++ number,
      codes "-" ++ p.0,
      subst (IsSigned number (codes "-" ++ p.0 ++ number) true) size (IsSigned.minus p.0 p.1),
      whole ∙ sym (right4 (codes "-") p.0 number tail),
      whole ∙ sym (append_assoc (codes "-") p.0 (number ++ tail)),
    )
signed_by z number tail false e h = (number, [], IsSigned.plain, h, h)

-- a value, by whether a `(` begins it
value_by : (z number tail : Bytes) (x : Bool) → begins (codes "(") z ≡ x → number_of (if x then skip (drop 1 z) else z) ≡ number ++ tail → ends_value x tail ≡ true
    → (value : Bytes) × (after : Bytes) × (q : Bytes) × (z ≡ value ++ after) × (are_blank after ≡ true)
    × IsValue number value (begins (codes "-") (if x then skip (drop 1 z) else z)) (length q) × (z ≡ q ++ (number ++ tail))
value_by z number tail false e h g =
    let s = signed_by z number tail (begins (codes "-") z) refl h in
    (s.0, tail, s.1, s.3, only_blank tail g, IsValue.bare s.2, s.4)
value_by z number tail true e h g =
    let p = skip_parts (drop 1 z) in
    let inner = skip (drop 1 z) in
    let s = signed_by inner number tail (begins (codes "-") inner) refl h in
    let b = skip_parts tail in
    let close = both_left (begins (codes ")") (skip tail)) (is_blank_only (drop 1 (skip tail))) g in
    let after = drop 1 (skip tail) in
    let blank = only_blank after (both_right (begins (codes ")") (skip tail)) (is_blank_only after) g) in
    let tail_is : tail ≡ b.0 ++ (codes ")" ++ after) = b.2 ∙ ap (λ y. b.0 ++ y) (begins_is (codes ")") (skip tail) close) in
    let prefix : z ≡ codes "(" ++ (p.0 ++ inner) = begins_is (codes "(") z e ∙ ap (λ y. codes "(" ++ y) p.2 in
    let whole : z ≡ codes "(" ++ (p.0 ++ (s.0 ++ (b.0 ++ (codes ")" ++ after)))) = prefix ∙ ap (λ y. codes "(" ++ (p.0 ++ y)) (s.3 ∙ ap (λ y. s.0 ++ y) tail_is) in
    let size : 1 + length p.0 + length s.1 ≡ length (codes "(" ++ (p.0 ++ s.1)) = omega (arith, length-append p.0 s.1) in (
      codes "(" ++ p.0 ++ s.0 ++ b.0 ++ codes ")",
      after,
      codes "(" ++ (p.0 ++ s.1),
      whole ∙ sym (right6 (codes "(") p.0 s.0 b.0 (codes ")") after),
      blank,
      subst (IsValue number (codes "(" ++ p.0 ++ s.0 ++ b.0 ++ codes ")") (begins (codes "-") inner)) size (IsValue.inside p.0 b.0 p.1 b.1 s.2),
      prefix ∙ ap (λ y. codes "(" ++ (p.0 ++ y)) s.4 ∙ ap (λ y. codes "(" ++ y) (sym (append_assoc p.0 s.1 (number ++ tail))),
    )

-- whether what stands after `define` has the form of a definition, but maybe for its name and number
abbrev has_form : Bytes → Bool
has_form body =
    nat_lt (length (skip body)) (length body) && nat_lt (length (skip (after_word (skip body)))) (length (after_word (skip body)))
    && ends_value (begins (codes "(") (skip (after_word (skip body)))) (after_word (number_of (inside (skip (after_word (skip body))))))

-- its parts
abbrev made : ℕ → Bytes → DefineParts
made len body = record {
  name_at = len - length (skip body);
  name_len = word_len (skip body);
  negative = begins (codes "-") (inside (skip (after_word (skip body))));
  number_at = len - length (number_of (inside (skip (after_word (skip body)))));
  number_len = word_len (number_of (inside (skip (after_word (skip body)))));
}

-- what has the form is a definition, where its name and number are such
made_is : (line body a : Bytes) → are_blank a ≡ true → line ≡ codes "#" ++ (a ++ (codes "define" ++ body)) → has_form body ≡ true
    → BeginsName (definition_of line (made (length line) body)).name → (n : ℕ) → HasValue (definition_of line (made (length line) body)).number n
    → IsDefine line (definition_of line (made (length line) body))
made_is line body a blank e f begun n has =
    let name = skip body in
    let first = skip_parts body in
    let word = take (word_len name) name in
    let rest = after_word name in
    let split_name : name ≡ word ++ rest = sym (take-append-drop (word_len name) name) in
    let value = skip rest in
    let second = skip_parts rest in
    let number = number_of (inside value) in
    let digits = take (word_len number) number in
    let tail = after_word number in
    let split_number : number ≡ digits ++ tail = sym (take-append-drop (word_len number) number) in
    let t = true_parts (nat_lt (length name) (length body)) (nat_lt (length value) (length rest)) (ends_value (begins (codes "(") value) tail) f in
    let v = value_by value digits tail (begins (codes "(") value) refl split_number t.2 in
    let t1 = tail_more line (codes "#") (a ++ (codes "define" ++ body)) a (codes "define" ++ body) e refl in
    let t2 = tail_more line (codes "#" ++ a) (codes "define" ++ body) (codes "define") body t1 refl in
    let p3 = codes "#" ++ a ++ codes "define" ++ first.0 in
    let t3 : line ≡ p3 ++ name = tail_more line (codes "#" ++ a ++ codes "define") body first.0 name t2 first.2 in
    let t4 = tail_more line p3 name word rest t3 split_name in
    let t5 = tail_more line (p3 ++ word) rest second.0 value t4 second.2 in
    let p6 = p3 ++ word ++ second.0 ++ v.2 in
    let t6 : line ≡ p6 ++ number = tail_more line (p3 ++ word ++ second.0) value v.2 number t5 (v.6 ∙ ap (λ y. v.2 ++ y) (sym split_number)) in
    let size3 : length p3 ≡ 1 + length a + 6 + length first.0 = omega (arith, length-append (codes "#" ++ a ++ codes "define") first.0, length-append (codes "#" ++ a) (codes "define"), length-append (codes "#") a) in
    let size6 : length p6 ≡ length p3 + length word + length second.0 + length v.2 = omega (arith, length-append (p3 ++ word ++ second.0) v.2, length-append (p3 ++ word) second.0, length-append p3 word) in
    let d : Definition = record { name = word; name_at = length line - length name; negative = begins (codes "-") (inside value); number = digits; number_at = length line - length number } in
    let p = made (length line) body in
    let same : definition_of line p ≡ d = same_definition d (definition_of line p).name (definition_of line p).name_at (definition_of line p).negative (definition_of line p).number (definition_of line p).number_at
    (ap (take (word_len name)) (tail_there line p3 name t3)) refl refl (ap (take (word_len number)) (tail_there line p6 number t6)) refl in
    let named : BeginsName word = subst (λ x. BeginsName x.name) same begun in
    let valued : HasValue digits n = subst (λ x. HasValue x.number n) same has in
    let whole : line ≡ codes "#" ++ (a ++ (codes "define" ++ (first.0 ++ (word ++ (second.0 ++ (v.0 ++ v.1)))))) =
    e ∙ ap (λ y. codes "#" ++ (a ++ (codes "define" ++ y))) (first.2 ∙ ap (λ y. first.0 ++ y) (split_name ∙ ap (λ y. word ++ y) (second.2 ∙ ap (λ y. second.0 ++ y) v.3))) in
    let shorter = true_lt (length name) (length body) t.0 in
    let shorter_rest = true_lt (length value) (length rest) t.1 in
    subst (IsDefine line) (sym same)
    (record {
      before = a;
      first = first.0;
      second = second.0;
      value = v.0;
      value_place = length v.2;
      after = v.1;
      is_line = whole ∙ sym (right8 (codes "#") a (codes "define") first.0 word second.0 v.0 v.1);
      name_at = tail_place line p3 name t3 ∙ size3;
      number_at = omega (arith, tail_place line p3 name t3, tail_place line p6 number t6, size6);
      is_name = word_form name named.0;
      no_keyword = named.1;
      is_value = v.5;
      has_value = (n, valued);
      blank_before = blank;
      blank_first = first.1;
      blank_second = second.1;
      blank_after = v.4;
      some_first = omega (arith, ap length first.2, length-append first.0 name);
      some_second = omega (arith, ap length second.2, length-append second.0 value);
    })

-- the step of `define_by`, by whether the form is there
form_by : (line body a : Bytes) (p : DefineParts) (x : Bool) → are_blank a ≡ true → line ≡ codes "#" ++ (a ++ (codes "define" ++ body)) → has_form body ≡ x
    → (if x then Some (made (length line) body) else None) ≡ Some p → BeginsName (definition_of line p).name → (n : ℕ) → HasValue (definition_of line p).number n
    → IsDefine line (definition_of line p)
form_by line body a p true blank e f h begun n has =
    let same : made (length line) body ≡ p = cc in
    subst (λ q. BeginsName (definition_of line q).name → HasValue (definition_of line q).number n → IsDefine line (definition_of line q)) same
    (λ b v. made_is line body a blank e f b n v) begun has
form_by line body a p false blank e f h begun n has = absurd (cc)

-- the step of `define_is`, by what stands after `define`
define_by : (line : Bytes) (p : DefineParts) (o : Option Bytes) → body_of (codes "define") line ≡ o → parts_in (length line) o ≡ Some p
    → BeginsName (definition_of line p).name → (n : ℕ) → HasValue (definition_of line p).number n → IsDefine line (definition_of line p)
define_by line p None e h begun n has = absurd (cc)
define_by line p (Some body) e h begun n has =
    let b = body_is (codes "define") line body e in
    form_by line body b.0 p (has_form body) b.1 b.2 refl h begun n has

-- what is found is a definition, where its name and number are such
pub define_is : (line : Bytes) (p : DefineParts) → parts_of line ≡ Some p → BeginsName (definition_of line p).name → (n : ℕ) → HasValue (definition_of line p).number n
    → IsDefine line (definition_of line p)
define_is line p h begun n has = define_by line p (body_of (codes "define") line) refl h begun n has

-- a name begins as one
begins_name : (w : Bytes) → is_identifier w ≡ true → is_letter (get_or w 0 0) ≡ true
begins_name [] h = absurd (cc)
begins_name (b ∷ w) h = both_left (is_letter b) (is_chain goes_on_word b w) h

-- a line with parts that is a definition is the definition of its parts
pub define_only : (line : Bytes) (p : DefineParts) (d : Definition) → parts_of line ≡ Some p → IsDefine line d → definition_of line p ≡ d
define_only line p d h i = let f = define_found line d i in let q : Some f.0 ≡ Some p = sym f.1 ∙ h in let same : f.0 ≡ p = cc in ap (definition_of line) (sym same) ∙ f.2

-- a line without parts is no definition
pub define_none : (line : Bytes) (d : Definition) → parts_of line ≡ None → IsDefine line d → ⊥
define_none line d h i = let f = define_found line d i in let q : Some f.0 ≡ None = sym f.1 ∙ h in absurd (cc)

-- the parts of a definition begin with a name
pub define_named : (line : Bytes) (p : DefineParts) (d : Definition) → parts_of line ≡ Some p → IsDefine line d → BeginsName (definition_of line p).name
define_named line p d h i = subst (λ x. BeginsName x.name) (sym (define_only line p d h i)) (begins_name d.name i.is_name, i.no_keyword)

-- the parts of a definition have a number
pub define_valued : (line : Bytes) (p : DefineParts) (d : Definition) → parts_of line ≡ Some p → IsDefine line d → (n : ℕ) × HasValue (definition_of line p).number n
define_valued line p d h i = subst (λ x. (n : ℕ) × HasValue x.number n) (sym (define_only line p d h i)) i.has_value

-- one definition at most is in a line
pub one_definition : (line : Bytes) (d e : Definition) → IsDefine line d → IsDefine line e → d ≡ e
one_definition line d e i j = let f = define_found line d i in sym f.2 ∙ define_only line f.0 e f.1 j

-- no line is an include and a definition
pub include_no_define : (line : Bytes) (d : Definition) → IsInclude line → IsDefine line d → ⊥
include_no_define line d h i =
    let value = i.value ++ i.after in
    let r = h.between ++ (h.header ++ h.after) in
    let s = i.first ++ (d.name ++ (i.second ++ value)) in
    let e = h.is_line ∙ right6 (codes "#") h.before (codes "include") h.between h.header h.after in
    let f = i.is_line ∙ right8 (codes "#") i.before (codes "define") i.first d.name i.second i.value i.after in
    let same : h.before ++ (codes "include" ++ r) ≡ i.before ++ (codes "define" ++ s) = ap (drop 1) (sym e ∙ f) in
    let heads : codes "include" ++ r ≡ codes "define" ++ s =
    sym (skip_past h.before (codes "include" ++ r) h.blank_before refl) ∙ ap skip same ∙ skip_past i.before (codes "define" ++ s) i.blank_before refl in
    let first : 105 ≡ 100 = ap (λ z. get_or z 0 0) heads in
    absurd (omega (arith, first))

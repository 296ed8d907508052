-- What the words of a call ask for.
use Rattle.std.proofs.Common.{◌≡◌, ℕ, List, [], ◌∷◌, Bool, true, false, ◌&&◌, refl, sym, ap, subst, ◌∙◌, arith}
use Rattle.std.specs.Prelude.{Some, None, if◌then◌else◌, Option, option_map, unwrap_or, codes}
use Rattle.std.specs.List.{list_all}
use Rattle.std.specs.Str.{bytes_eq}
use Rattle.std.specs.Str.Parse.{digits_value}
use Rattle.std.proofs.lemmas.Bool.Decides.{nat_tests}
use Rattle.repair_job.specs.declared.answer.Shown.{Shown}
use Rattle.repair_cli.specs.Jobs.{IsLimit}
use Rattle.repair_cli.specs.Words.{Asked, repair, Options, command_in, repair_of, two, names, options_in, options_from, limit_in, patches_in, shown_by, given, limit_spelling, edit_spelling, number_given, number_to, is_known, is_numeral, is_within}

-- ---- the limit of an option

-- a number that passes the test is a limit
within : (a : Bool) (n : ℕ) → (a && is_within 10000000 n) ≡ true → IsLimit n
within true n e = record { some = grind (arith, nat_tests); most = grind (arith, nat_tests) }
within false n e = absurd (cc)

-- a number that a text is
number_range : (text : List ℕ) (n : ℕ) → number_to 10000000 text ≡ Some n → IsLimit n
number_range text n e = by_test (is_numeral text && is_within 10000000 (digits_value 10 text)) refl e
  where
    by_test : (b : Bool) → (is_numeral text && is_within 10000000 (digits_value 10 text)) ≡ b
        → (if b then Some (digits_value 10 text) else None) ≡ Some n → IsLimit n
    by_test true is e =
        let same : digits_value 10 text ≡ n = cc in
        subst IsLimit same (within (is_numeral text) (digits_value 10 text) is)
    by_test false is e = absurd (cc)

-- a number in an option of an option
inside : (o : Option ℕ) (n : ℕ) → ◌≡◌ {A = Option (Option ℕ)} (option_map Some o) (Some (Some n)) → o ≡ Some n
inside None n e = absurd (cc)
inside (Some m) n e = cc

-- a number that is given
given_range : (texts : List (List ℕ)) (n : ℕ) → number_given 10000000 texts ≡ Some (Some n) → IsLimit n
given_range [] n e = absurd (cc)
given_range (text ∷ []) n e = number_range text n (inside (number_to 10000000 text) n e)
given_range (text ∷ other ∷ rest) n e = absurd (cc)

-- the limit among options
limit_of : (o : Option (Option ℕ)) (p : Option ℕ) (s : Option Shown) (options : Options) → options_from o p s ≡ Some options
    → o ≡ Some options.limit
limit_of (Some limit) (Some patches) (Some shown) options e =
    let here : Options = record { limit = limit; patches = patches; shown = shown } in
    let same : here ≡ options = cc in
    ap (λ (k : Options). Some k.limit) same
limit_of None p s options e = absurd (cc)
limit_of (Some limit) None s options e = absurd (cc)
limit_of (Some limit) (Some patches) None options e = absurd (cc)

-- the limit of options, if they have one
options_range : (words : List (List ℕ)) (options : Options) (n : ℕ) → options_in words ≡ Some options → options.limit ≡ Some n → IsLimit n
options_range words options n e has = by_test (list_all is_known words) e
  where
    by_test : (b : Bool)
        → (if b then options_from (limit_in words) (patches_in words) (shown_by (given edit_spelling words)) else None) ≡ Some options
        → IsLimit n
    by_test true e =
        given_range (given limit_spelling words) n
        (limit_of (limit_in words) (patches_in words) (shown_by (given edit_spelling words)) options e ∙ ap (λ (l : Option ℕ). Some l) has)
    by_test false e = absurd (cc)

-- ---- the options of a command

-- a repair has the options that it was made with
repair_options : (both : Option (List ℕ × List ℕ)) (options : Option Options) (asked : Asked)
    → repair_of both options ≡ Some (repair asked) → options ≡ Some asked.options
repair_options (Some b) (Some o) asked e =
    let here : Asked = record { program = b.0; suite = b.1; options = o } in
    let same : here ≡ asked = cc in
    ap (λ (a : Asked). Some a.options) same
repair_options (Some b) None asked e = absurd (cc)
repair_options None o asked e = absurd (cc)

-- the options of a command stand among its words
asked_options : (words : List (List ℕ)) (asked : Asked) → command_in words ≡ Some (repair asked)
    → (rest : List (List ℕ)) × (options_in rest ≡ Some asked.options)
asked_options [] asked e = absurd (cc)
asked_options (word ∷ rest) asked e = by_test (bytes_eq word (codes "repair")) e
  where
    by_test : (b : Bool) → (if b then repair_of (two (names rest)) (options_in rest) else None) ≡ Some (repair asked)
        → (rest : List (List ℕ)) × (options_in rest ≡ Some asked.options)
    by_test true e = (rest, repair_options (two (names rest)) (options_in rest) asked e)
    by_test false e = absurd (cc)

-- one of two limits
either_limit : (l : Option ℕ) (own : ℕ) → ((n : ℕ) → l ≡ Some n → IsLimit n) → IsLimit own → IsLimit (unwrap_or l own)
either_limit None own h is = is
either_limit (Some n) own h is = h n refl

-- the limit of a job is one that a run can have, where the suite's is
pub limit_range : (words : List (List ℕ)) (asked : Asked) (own : ℕ) → command_in words ≡ Some (repair asked) → IsLimit own
    → IsLimit (unwrap_or asked.options.limit own)
limit_range words asked own e is =
    let options = asked_options words asked e in
    either_limit asked.options.limit own (λ n has. options_range options.0 asked.options n options.1 has) is

-- a call's words ask for one repair at most
pub one_asked : (words : List (List ℕ)) (a b : Asked) → command_in words ≡ Some (repair a) → command_in words ≡ Some (repair b) → a ≡ b
one_asked words a b x y = let e = sym x ∙ y in cc

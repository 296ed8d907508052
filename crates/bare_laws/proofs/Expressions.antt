-- The kinds of the faults of an expression depend on no span, no slot and no spelling of a constant.
use Rattle.std.proofs.Common.{◌≡◌, ℕ, suc, true, false, not, List, [], ◌∷◌, ◌++◌, map, Option, Some, None, is_none, refl, ap, ◌∙◌}
use Rattle.c_tree.specs.declared.place.Span.{Span}
use Rattle.c_tree.specs.Parts.{span_of}
use Rattle.c_tree.specs.Tree.{Tree, constant, name, index, call, unary, cast, binary, choice, assign, bump, comma, hole, hole_after, Args, no_args, value, format, address, Initial, bare_start, one_start, list_start, no_span, bare, bare_args, bare_option, bare_initial}
use Rattle.c_types.specs.declared.fault.FaultKind.TheVariants.{Unknown, WrongKind, NotPlace, NotConstant, BadFormat}
use Rattle.c_types.specs.declared.kinds.Wanted.{Wanted}
use Rattle.c_types.specs.declared.kinds.Wanted.TheVariants.{Anything, Scalar, ArrayOf, PrintfFormat, ScanfFormat, IntAddress}
use Rattle.c_types.specs.declared.scope.Declaration.{Declaration}
use Rattle.c_types.specs.declared.scope.Storage.{Storage}
use Rattle.c_types.specs.declared.scope.Storage.TheVariants.{Static, Automatic}
use Rattle.c_types.specs.Arguments.{number_faults, is_place, is_int, stores_int, converted, wanted, value_faults, operand_faults, address_faults, call_faults}
use Rattle.c_types.specs.Constants.{not_constant, not_constant_args, not_constant_all, constant_faults}
use Rattle.c_types.specs.Expressions.{void_faults, index_faults, place_faults, as_number, as_void, faults, args_faults}
use Rattle.c_types.specs.Kinds.{kind, named, called}
use Rattle.c_types.specs.Least.{fault, fault_if}
use Rattle.c_types.specs.Scopes.{denoted}
use Rattle.c_types.specs.Statements.{as_numbers, initial_faults, number_option, void_option}
use Rattle.bare_laws.proofs.SameKinds.{SameKinds, none, one, test, both, but_equal}
use Rattle.bare_laws.proofs.Scopes.{slotless, denoted-same, none-same, named-same, called-same, int-same, wants-same, number-alike, void-alike, value-alike, format-alike, index-alike, call-alike}

place-same : (e : Tree) → is_place (bare e) ≡ is_place e
place-same (constant n word s) = refl
place-same (name word slot s) = refl
place-same (index word slot e s) = refl
place-same (call word x s) = refl
place-same (unary op e s) = refl
place-same (cast ty e s) = refl
place-same (binary op l r s) = refl
place-same (choice t a b s) = refl
place-same (assign op place e s) = refl
place-same (bump before up place s) = refl
place-same (comma l r s) = refl
place-same hole = refl
place-same (hole_after e) = refl

operand-alike : (e : Tree) → SameKinds (operand_faults (bare e)) (operand_faults e)
operand-alike e =
    but_equal (ap (λ b. fault_if (not b) NotPlace (span_of (bare e))) (place-same e))
    (test (not (is_place e)) NotPlace (span_of (bare e)) (span_of e))

module _ (ds : List Declaration) where
  kind-same : (e : Tree) → kind (map slotless ds) (bare e) ≡ kind ds e
  kind-same (constant n word s) = refl
  kind-same (name word slot s) = ap named (denoted-same ds word) ∙ named-same (denoted ds word)
  kind-same (index word slot e s) = refl
  kind-same (call word x s) = ap called (denoted-same ds word) ∙ called-same (denoted ds word)
  kind-same (unary op e s) = refl
  kind-same (cast ty e s) = refl
  kind-same (binary op l r s) = refl
  kind-same (choice t a b s) = refl
  kind-same (assign op place e s) = refl
  kind-same (bump before up place s) = refl
  kind-same (comma l r s) = refl
  kind-same hole = refl
  kind-same (hole_after e) = refl

  pub as_number-alike : (e : Tree) → SameKinds (as_number (map slotless ds) (bare e)) (as_number ds e)
  as_number-alike e =
      but_equal (ap (λ k. number_faults k (span_of (bare e))) (kind-same e))
      (number-alike (kind ds e) (span_of (bare e)) (span_of e))

  pub as_void-alike : (e : Tree) → SameKinds (as_void (map slotless ds) (bare e)) (as_void ds e)
  as_void-alike e =
      but_equal (ap (λ k. void_faults k (span_of (bare e))) (kind-same e))
      (void-alike (kind ds e) (span_of (bare e)) (span_of e))

  value_of-alike : (w : Wanted) (e : Tree)
      → SameKinds (value_faults w (kind (map slotless ds) (bare e)) (span_of (bare e)))
      (value_faults w (kind ds e) (span_of e))
  value_of-alike w e =
      but_equal (ap (λ k. value_faults w k (span_of (bare e))) (kind-same e))
      (value-alike w (kind ds e) (span_of (bare e)) (span_of e))

  no_place : (s t : Span) → SameKinds (fault NotPlace s) (fault NotPlace t)
  no_place s t = one NotPlace s t

  place_faults-alike : (e : Tree)
      → SameKinds (place_faults (map slotless ds) (bare e)) (place_faults ds e)
  place_faults-alike (constant n word s) = no_place no_span s
  place_faults-alike (name word slot s) =
      but_equal (ap (λ k. number_faults k no_span) (kind-same (name word slot s)))
      (number-alike (named (denoted ds word)) no_span s)
  place_faults-alike (index word slot e s) = none
  place_faults-alike (call word x s) = no_place no_span s
  place_faults-alike (unary op e s) = no_place no_span s
  place_faults-alike (cast ty e s) = no_place no_span s
  place_faults-alike (binary op l r s) = no_place no_span s
  place_faults-alike (choice t a b s) = no_place no_span s
  place_faults-alike (assign op place e s) = no_place no_span s
  place_faults-alike (bump before up place s) = no_place no_span s
  place_faults-alike (comma l r s) = no_place no_span s
  place_faults-alike hole = no_place no_span no_span
  place_faults-alike (hole_after e) = no_place (span_of (bare e)) (span_of e)

  stores-same : (e : Tree) → stores_int (map slotless ds) (bare e) ≡ stores_int ds e
  stores-same (constant n word s) = refl
  stores-same (name word slot s) =
      ap (λ m. is_int m false) (denoted-same ds word) ∙ int-same (denoted ds word) false
  stores-same (index word slot e s) =
      ap (λ m. is_int m true) (denoted-same ds word) ∙ int-same (denoted ds word) true
  stores-same (call word x s) = refl
  stores-same (unary op e s) = refl
  stores-same (cast ty e s) = refl
  stores-same (binary op l r s) = refl
  stores-same (choice t a b s) = refl
  stores-same (assign op place e s) = refl
  stores-same (bump before up place s) = refl
  stores-same (comma l r s) = refl
  stores-same hole = refl
  stores-same (hole_after e) = refl

  -- `&` where no `scanf` wants it
  wrong_address : (e : Tree)
      → SameKinds (fault WrongKind (span_of (bare e)) ++ operand_faults (bare e))
      (fault WrongKind (span_of e) ++ operand_faults e)
  wrong_address e = both (one WrongKind (span_of (bare e)) (span_of e)) (operand-alike e)

  -- and where a format is wanted
  no_format : (e : Tree)
      → SameKinds
      (fault WrongKind (span_of (bare e))
      ++ (operand_faults (bare e) ++ fault BadFormat (span_of (bare e))))
      (fault WrongKind (span_of e) ++ (operand_faults e ++ fault BadFormat (span_of e)))
  no_format e =
      both (one WrongKind (span_of (bare e)) (span_of e))
      (both (operand-alike e) (one BadFormat (span_of (bare e)) (span_of e)))

  address-alike : (w : Wanted) (e : Tree)
      → SameKinds (address_faults w (map slotless ds) (bare e)) (address_faults w ds e)
  address-alike Anything e = wrong_address e
  address-alike Scalar e = wrong_address e
  address-alike (ArrayOf ty) e = wrong_address e
  address-alike PrintfFormat e = no_format e
  address-alike ScanfFormat e = no_format e
  address-alike IntAddress e =
      both
      (but_equal (ap (λ b. fault_if (not b) WrongKind (span_of (bare e))) (stores-same e))
      (test (not (stores_int ds e)) WrongKind (span_of (bare e)) (span_of e)))
      (operand-alike e)

  mutual
    pub faults-alike : (e : Tree) → SameKinds (faults (map slotless ds) (bare e)) (faults ds e)
    faults-alike (constant n word s) = none
    faults-alike (name word slot s) =
        but_equal
        (ap (λ m. fault_if (is_none m) Unknown no_span) (denoted-same ds word)
        ∙ ap (λ b. fault_if b Unknown no_span) (none-same (denoted ds word)))
        (test (is_none (denoted ds word)) Unknown no_span s)
    faults-alike (index word slot e s) =
        both
        (but_equal (ap (λ m. index_faults m no_span) (denoted-same ds word))
        (index-alike (denoted ds word) no_span s))
        (both (as_number-alike e) (faults-alike e))
    faults-alike (call word x s) =
        both
        (but_equal (ap (λ m. call_faults m (bare_args x) no_span) (denoted-same ds word))
        (call-alike (denoted ds word) x no_span s))
        (but_equal
        (ap (λ m. args_faults (map slotless ds) (wanted m (converted (bare_args x))) 0 (bare_args x))
        (denoted-same ds word)
        ∙ ap (λ want. args_faults (map slotless ds) want 0 (bare_args x)) (wants-same (denoted ds word) x))
        (args-alike (wanted (denoted ds word) (converted x)) 0 x))
    faults-alike (unary op e s) = both (as_number-alike e) (faults-alike e)
    faults-alike (cast ty e s) = both (as_number-alike e) (faults-alike e)
    faults-alike (binary op l r s) =
        both (both (as_number-alike l) (faults-alike l)) (both (as_number-alike r) (faults-alike r))
    faults-alike (choice t a b s) =
        both (both (as_number-alike t) (faults-alike t))
        (both (both (as_number-alike a) (faults-alike a)) (both (as_number-alike b) (faults-alike b)))
    faults-alike (assign op place e s) =
        both (both (place_faults-alike place) (faults-alike place))
        (both (as_number-alike e) (faults-alike e))
    faults-alike (bump before up place s) = both (place_faults-alike place) (faults-alike place)
    faults-alike (comma l r s) =
        both (both (as_void-alike l) (faults-alike l)) (both (as_number-alike r) (faults-alike r))
    faults-alike hole = none
    faults-alike (hole_after e) = both (as_number-alike e) (faults-alike e)

    args-alike : (want : ℕ → Wanted) (n : ℕ) (x : Args)
        → SameKinds (args_faults (map slotless ds) want n (bare_args x)) (args_faults ds want n x)
    args-alike want n no_args = none
    args-alike want n (value e x) =
        both (both (value_of-alike (want n) e) (faults-alike e)) (args-alike want (suc n) x)
    args-alike want n (format text s x) =
        both (format-alike (want n) text no_span s) (args-alike want (suc n) x)
    args-alike want n (address e x) =
        both (both (address-alike (want n) e) (faults-alike e)) (args-alike want (suc n) x)

  numbers-alike : (es : List Tree)
      → SameKinds (as_numbers (map slotless ds) (map bare es)) (as_numbers ds es)
  numbers-alike [] = none
  numbers-alike (e ∷ es) = both (both (as_number-alike e) (faults-alike e)) (numbers-alike es)

  pub initial-alike : (start : Initial)
      → SameKinds (initial_faults (map slotless ds) (bare_initial start)) (initial_faults ds start)
  initial-alike bare_start = none
  initial-alike (one_start e) = both (as_number-alike e) (faults-alike e)
  initial-alike (list_start es) = numbers-alike es

  pub number_option-alike : (o : Option Tree)
      → SameKinds (number_option (map slotless ds) (bare_option o)) (number_option ds o)
  number_option-alike None = none
  number_option-alike (Some e) = both (as_number-alike e) (faults-alike e)

  pub void_option-alike : (o : Option Tree)
      → SameKinds (void_option (map slotless ds) (bare_option o)) (void_option ds o)
  void_option-alike None = none
  void_option-alike (Some e) = both (as_void-alike e) (faults-alike e)

mutual
  constant-alike : (e : Tree) → SameKinds (not_constant (bare e)) (not_constant e)
  constant-alike (constant n word s) = none
  constant-alike (name word slot s) = one NotConstant no_span s
  constant-alike (index word slot e s) = both (one NotConstant no_span s) (constant-alike e)
  constant-alike (call word x s) = both (one NotConstant no_span s) (constant_args-alike x)
  constant-alike (unary op e s) = constant-alike e
  constant-alike (cast ty e s) = constant-alike e
  constant-alike (binary op l r s) = both (constant-alike l) (constant-alike r)
  constant-alike (choice t a b s) =
      both (constant-alike t) (both (constant-alike a) (constant-alike b))
  constant-alike (assign op place e s) =
      both (one NotConstant no_span s) (both (constant-alike place) (constant-alike e))
  constant-alike (bump before up place s) = both (one NotConstant no_span s) (constant-alike place)
  constant-alike (comma l r s) =
      both (one NotConstant no_span s) (both (constant-alike l) (constant-alike r))
  constant-alike hole = none
  constant-alike (hole_after e) = constant-alike e

  constant_args-alike : (x : Args)
      → SameKinds (not_constant_args (bare_args x)) (not_constant_args x)
  constant_args-alike no_args = none
  constant_args-alike (value e x) = both (constant-alike e) (constant_args-alike x)
  constant_args-alike (format text s x) = constant_args-alike x
  constant_args-alike (address e x) = both (constant-alike e) (constant_args-alike x)

constant_all-alike : (es : List Tree)
    → SameKinds (not_constant_all (map bare es)) (not_constant_all es)
constant_all-alike [] = none
constant_all-alike (e ∷ es) = both (constant-alike e) (constant_all-alike es)

pub constant_faults-alike : (storage : Storage) (start : Initial)
    → SameKinds (constant_faults storage (bare_initial start)) (constant_faults storage start)
constant_faults-alike Automatic start = none
constant_faults-alike Static bare_start = none
constant_faults-alike Static (one_start e) = constant-alike e
constant_faults-alike Static (list_start es) = constant_all-alike es

-- The faults of expressions (C11 6.5).
use Rattle.std.specs.Prelude.{ℕ, suc, not, List, [], ◌++◌, Option, Some, None, is_none}
use Rattle.c_tree.specs.declared.place.Span.{Span}
use Rattle.c_tree.specs.Parts.{span_of}
use Rattle.c_tree.specs.Tree.{Tree, constant, name, index, call, unary, cast, binary, choice, assign, bump, comma, hole, hole_after, Args, no_args, value, format, address}
use Rattle.c_types.specs.declared.fault.Fault.{Fault}
use Rattle.c_types.specs.declared.fault.FaultKind.TheVariants.{Unknown, WrongKind, NotPlace}
use Rattle.c_types.specs.declared.kinds.Kind.{Kind}
use Rattle.c_types.specs.declared.kinds.Kind.TheVariants.{Number, Array, Function as Callable, Void}
use Rattle.c_types.specs.declared.kinds.Wanted.{Wanted}
use Rattle.c_types.specs.declared.scope.Declaration.{Declaration}
use Rattle.c_types.specs.declared.scope.Entity.{Entity}
use Rattle.c_types.specs.declared.scope.Entity.TheVariants.{Variable, Function, Library, Printf, Scanf}
use Rattle.c_types.specs.Arguments.{number_faults, converted, wanted, value_faults, format_faults, address_faults, call_faults}
use Rattle.c_types.specs.Kinds.{kind, named}
use Rattle.c_types.specs.Least.{fault, fault_if}
use Rattle.c_types.specs.Scopes.{denoted}

-- where an expression is evaluated for its effects alone, as a void expression (C11 6.3.2.2, 6.8.3p2):
-- a call without a result may stand there too
abbrev pub void_faults : Kind → Span → List Fault
void_faults Number s = []
void_faults (Array ty) s = fault WrongKind s
void_faults Callable s = fault WrongKind s
void_faults Void s = []

-- `[` after a name, which denotes an array (C11 6.5.2.1p1)
abbrev pub index_faults : Option Entity → Span → List Fault
index_faults None s = fault Unknown s
index_faults (Some (Variable slot ty array)) s = fault_if (not array) WrongKind s
index_faults (Some (Function ret params body defined)) s = fault WrongKind s
index_faults (Some (Library ret params)) s = fault WrongKind s
index_faults (Some Printf) s = fault WrongKind s
index_faults (Some Scanf) s = fault WrongKind s

module _ (ds : List Declaration) where
  -- The place of an assignment, or of `++` or `--`: an element, or a name that denotes no array and no
  -- function (C11 6.5.16p2, 6.5.2.4p1, 6.5.3.1p1).
  abbrev pub place_faults : Tree → List Fault
  place_faults (name word slot s) = number_faults (named (denoted ds word)) s
  place_faults (index word slot e s) = []
  place_faults e = fault NotPlace (span_of e)

  -- an expression that stands where a number is wanted, its parts apart
  abbrev pub as_number : Tree → List Fault
  as_number e = number_faults (kind ds e) (span_of e)

  -- an expression that is evaluated as a void expression, its parts apart
  abbrev pub as_void : Tree → List Fault
  as_void e = void_faults (kind ds e) (span_of e)

  -- the faults of an expression, where these declarations are in scope
  abbrev mutual
    pub faults : Tree → List Fault
    faults (constant n word s) = []
    faults (name word slot s) = fault_if (is_none (denoted ds word)) Unknown s
    faults (index word slot e s) = index_faults (denoted ds word) s ++ (as_number e ++ faults e)
    faults (call word args s) =
        call_faults (denoted ds word) args s
        ++ args_faults (wanted (denoted ds word) (converted args)) 0 args
    faults (unary op e s) = as_number e ++ faults e
    faults (cast ty e s) = as_number e ++ faults e
    faults (binary op l r s) = (as_number l ++ faults l) ++ (as_number r ++ faults r)
    faults (choice t a b s) =
        (as_number t ++ faults t) ++ ((as_number a ++ faults a) ++ (as_number b ++ faults b))
    faults (assign op place e s) =
        (place_faults place ++ faults place) ++ (as_number e ++ faults e)
    faults (bump before up place s) = place_faults place ++ faults place
    faults (comma l r s) = (as_void l ++ faults l) ++ (as_number r ++ faults r)
    faults hole = []
    faults (hole_after e) = as_number e ++ faults e

    -- the faults of the arguments of a call from number i on, by what is wanted as each
    pub args_faults : (ℕ → Wanted) → ℕ → Args → List Fault
    args_faults want i no_args = []
    args_faults want i (value e rest) =
        (value_faults (want i) (kind ds e) (span_of e) ++ faults e)
        ++ args_faults want (suc i) rest
    args_faults want i (format text s rest) =
        format_faults (want i) text s ++ args_faults want (suc i) rest
    args_faults want i (address e rest) =
        (address_faults (want i) ds e ++ faults e) ++ args_faults want (suc i) rest

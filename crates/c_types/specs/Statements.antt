-- The faults of declarations (C11 6.7) and statements (C11 6.8).
use Rattle.std.specs.Prelude.{ℕ, ℤ, Bool, true, false, not, ◌||◌, ◌&&◌, pos, int_lt, List, [], ◌∷◌, ◌++◌, length, Option, Some, None}
use Rattle.c_tree.specs.declared.place.Span.{Span}
use Rattle.c_tree.specs.declared.stmt.Shape.{Shape}
use Rattle.c_tree.specs.declared.stmt.Shape.TheVariants.{Scalar, Array}
use Rattle.c_tree.specs.declared.stmt.Ty.{Ty}
use Rattle.c_tree.specs.Tree.{Tree, Initial, bare_start, one_start, list_start, Variable, First, no_first, first_act, first_vars, Code, empty, act, block, if_then, if_else, while, do_while, for, give, break, continue, Body, done, next, vars}
use Rattle.c_types.specs.declared.fault.Fault.{Fault}
use Rattle.c_types.specs.declared.fault.FaultKind.TheVariants.{Twice, WrongKind, WrongCount, BadArrayLength, LoopOnly}
use Rattle.c_types.specs.declared.scope.Declaration.{Declaration}
use Rattle.c_types.specs.declared.scope.Entity.TheVariants.{Variable as VariableEntity}
use Rattle.c_types.specs.declared.scope.Storage.{Storage}
use Rattle.c_types.specs.declared.scope.Storage.TheVariants.{Automatic}
use Rattle.c_types.specs.Constants.{constant_faults}
use Rattle.c_types.specs.Expressions.{as_number, as_void, faults}
use Rattle.c_types.specs.Least.{fault, fault_if}
use Rattle.c_types.specs.Scopes.{is_declared}

-- whether a name is declared as an array
abbrev pub is_array : Shape → Bool
is_array Scalar = false
is_array (Array length) = true

-- the declaration that a declarator makes
abbrev pub variable_declaration : Ty → Variable → Declaration
variable_declaration ty v =
    record { word = v.word; entity = VariableEntity v.slot ty (is_array v.shape) }

-- the declarations in a scope after these declarators, the latest first
abbrev pub declared : Ty → List Variable → List Declaration → List Declaration
declared ty [] here = here
declared ty (v ∷ vs) here = declared ty vs (variable_declaration ty v ∷ here)

-- how many elements an initialiser lists
abbrev pub elements : Initial → ℕ
elements bare_start = 0
elements (one_start e) = 0
elements (list_start es) = length es

-- whether it is a list
abbrev pub is_list : Initial → Bool
is_list bare_start = false
is_list (one_start e) = false
is_list (list_start es) = true

-- a list has no more initialisers than there are elements (C11 6.7.9p2)
abbrev pub list_faults : ℤ → Initial → Span → List Fault
list_faults n start s = fault_if (is_list start && int_lt n (pos (elements start))) WrongCount s

-- The length of an array: 1 to 1,048,576 elements (C11 6.7.6.2p1; the greater bound is f1x's own), and
-- no fewer than its list has. An array without a written length has a list (C11 6.7.9p22). What is no
-- array has one element.
abbrev pub length_faults : Shape → Initial → Span → List Fault
length_faults Scalar start s = list_faults (pos 1) start s
length_faults (Array None) start s = fault_if (not (is_list start)) BadArrayLength s
length_faults (Array (Some n)) start s =
    fault_if (int_lt n (pos 1) || int_lt (pos 1048576) n) BadArrayLength s ++ list_faults n start s

module _ (ds : List Declaration) where
  -- the faults of expressions that are each a number
  abbrev pub as_numbers : List Tree → List Fault
  as_numbers [] = []
  as_numbers (e ∷ es) = (as_number ds e ++ faults ds e) ++ as_numbers es

  -- the faults of an initialiser
  abbrev pub initial_faults : Initial → List Fault
  initial_faults bare_start = []
  initial_faults (one_start e) = as_number ds e ++ faults ds e
  initial_faults (list_start es) = as_numbers es

  -- the faults of an expression that may be absent and else is a number
  abbrev pub number_option : Option Tree → List Fault
  number_option None = []
  number_option (Some e) = as_number ds e ++ faults ds e

  -- the faults of an expression that may be absent and else is evaluated as a void expression
  abbrev pub void_option : Option Tree → List Fault
  void_option None = []
  void_option (Some e) = as_void ds e ++ faults ds e

-- The faults of a declarator, where some names are declared in its scope before it, and some in the
-- scopes around. Its own name is in scope in its initialiser (C11 6.2.1p7).
abbrev pub variable_faults :
    Storage → List Declaration → List Declaration → Ty → Variable → List Fault
variable_faults storage here around ty v =
    fault_if (is_declared here v.word) Twice v.span
    ++ (length_faults v.shape v.start v.span
    ++ (initial_faults (variable_declaration ty v ∷ (here ++ around)) v.start
    ++ constant_faults storage v.start))

-- the faults of declarators, one after another
abbrev pub variables_faults :
    Storage → List Declaration → List Declaration → Ty → List Variable → List Fault
variables_faults storage here around ty [] = []
variables_faults storage here around ty (v ∷ vs) =
    variable_faults storage here around ty v
    ++ variables_faults storage (variable_declaration ty v ∷ here) around ty vs

-- what the first clause of a `for` declares in the scope of the `for` (C11 6.8.5p5)
abbrev pub first_declared : First → List Declaration
first_declared no_first = []
first_declared (first_act e) = []
first_declared (first_vars ty vs) = declared ty vs []

-- the faults of the first clause of a `for`
abbrev pub first_faults : List Declaration → First → List Fault
first_faults ds no_first = []
first_faults ds (first_act e) = as_void ds e ++ faults ds e
first_faults ds (first_vars ty vs) = variables_faults Automatic [] ds ty vs

-- the faults of the three clauses of a `for`; what the first declares is in scope in the others
abbrev pub clause_faults : List Declaration → First → Option Tree → Option Tree → List Fault
clause_faults ds i t u =
    first_faults ds i
    ++ (number_option (first_declared i ++ ds) t ++ void_option (first_declared i ++ ds) u)

-- `return` has an expression exactly where the function has a result (C11 6.8.6.4p1)
abbrev pub return_faults : Option Ty → Option Tree → Span → List Fault
return_faults None None s = []
return_faults None (Some e) s = fault WrongKind s
return_faults (Some ty) None s = fault WrongKind s
return_faults (Some ty) (Some e) s = []

module _ (ret : Option Ty) where
  -- The faults of a statement of a function with that result, where these declarations are in scope,
  -- and it stands in a loop or not. A block begins a scope, and so does a `for` (C11 6.8p3, 6.8.5p5).
  abbrev mutual
    pub code_faults : List Declaration → Bool → Code → List Fault
    code_faults ds in_loop (empty s) = []
    code_faults ds in_loop (act e s) = as_void ds e ++ faults ds e
    code_faults ds in_loop (block body s) = body_faults [] ds in_loop body
    code_faults ds in_loop (if_then t a s) =
        (as_number ds t ++ faults ds t) ++ code_faults ds in_loop a
    code_faults ds in_loop (if_else t a b s) =
        (as_number ds t ++ faults ds t)
        ++ (code_faults ds in_loop a ++ code_faults ds in_loop b)
    code_faults ds in_loop (while t a s) =
        (as_number ds t ++ faults ds t) ++ code_faults ds true a
    code_faults ds in_loop (do_while a t s) =
        code_faults ds true a ++ (as_number ds t ++ faults ds t)
    code_faults ds in_loop (for i t u a s) =
        clause_faults ds i t u ++ code_faults (first_declared i ++ ds) true a
    code_faults ds in_loop (give e s) = return_faults ret e s ++ number_option ds e
    code_faults ds in_loop (break s) = fault_if (not in_loop) LoopOnly s
    code_faults ds in_loop (continue s) = fault_if (not in_loop) LoopOnly s

    -- the faults of the items of a block, where some names are declared in it before them, and some in
    -- the scopes around it
    pub body_faults : List Declaration → List Declaration → Bool → Body → List Fault
    body_faults here around in_loop done = []
    body_faults here around in_loop (next c rest) =
        code_faults (here ++ around) in_loop c ++ body_faults here around in_loop rest
    body_faults here around in_loop (vars ty vs rest) =
        variables_faults Automatic here around ty vs
        ++ body_faults (declared ty vs here) around in_loop rest

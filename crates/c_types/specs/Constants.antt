-- Initialisers of file scope, which are constant expressions (C11 6.6p3, 6.7.9p4).
use Rattle.std.specs.Prelude.{List, [], ◌∷◌, ◌++◌}
use Rattle.c_tree.specs.Tree.{Tree, constant, name, index, call, unary, cast, binary, choice, assign, bump, comma, hole, hole_after, Args, no_args, value, format, address, Initial, bare_start, one_start, list_start}
use Rattle.c_types.specs.declared.fault.Fault.{Fault}
use Rattle.c_types.specs.declared.fault.FaultKind.TheVariants.{NotConstant}
use Rattle.c_types.specs.declared.scope.Storage.{Storage}
use Rattle.c_types.specs.declared.scope.Storage.TheVariants.{Static, Automatic}
use Rattle.c_types.specs.Least.{fault}

-- the parts that no constant expression has: names, elements, calls, assignments, `++`, `--`, commas
abbrev mutual
  pub not_constant : Tree → List Fault
  not_constant (constant n word s) = []
  not_constant (name word slot s) = fault NotConstant s
  not_constant (index word slot e s) = fault NotConstant s ++ not_constant e
  not_constant (call word args s) = fault NotConstant s ++ not_constant_args args
  not_constant (unary op e s) = not_constant e
  not_constant (cast ty e s) = not_constant e
  not_constant (binary op l r s) = not_constant l ++ not_constant r
  not_constant (choice t a b s) = not_constant t ++ (not_constant a ++ not_constant b)
  not_constant (assign op place e s) =
      fault NotConstant s ++ (not_constant place ++ not_constant e)
  not_constant (bump before up place s) = fault NotConstant s ++ not_constant place
  not_constant (comma l r s) = fault NotConstant s ++ (not_constant l ++ not_constant r)
  not_constant hole = []
  not_constant (hole_after e) = not_constant e

  -- the same of arguments
  pub not_constant_args : Args → List Fault
  not_constant_args no_args = []
  not_constant_args (value e rest) = not_constant e ++ not_constant_args rest
  not_constant_args (format text s rest) = not_constant_args rest
  not_constant_args (address e rest) = not_constant e ++ not_constant_args rest

-- the same of expressions
abbrev pub not_constant_all : List Tree → List Fault
not_constant_all [] = []
not_constant_all (e ∷ es) = not_constant e ++ not_constant_all es

-- the same of an initialiser
abbrev pub not_constant_initial : Initial → List Fault
not_constant_initial bare_start = []
not_constant_initial (one_start e) = not_constant e
not_constant_initial (list_start es) = not_constant_all es

-- the same where the variable is one of file scope; the initialiser of another may be any expression
abbrev pub constant_faults : Storage → Initial → List Fault
constant_faults Automatic start = []
constant_faults Static start = not_constant_initial start

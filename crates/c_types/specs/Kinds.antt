-- The kind of an expression: a number, or what no number can be made of (C11 6.3.2.1, 6.5.1, 6.5.2.2).
use Rattle.std.specs.Prelude.{Bool, true, false, List, Option, Some, None}
use Rattle.c_tree.specs.declared.stmt.Ty.{Ty}
use Rattle.c_tree.specs.declared.stmt.Ty.TheVariants.{Int, Char}
use Rattle.c_tree.specs.Tree.{Tree, name, call}
use Rattle.c_types.specs.declared.kinds.Kind.{Kind}
use Rattle.c_types.specs.declared.kinds.Kind.TheVariants.{Number, Array, Function as Callable, Void}
use Rattle.c_types.specs.declared.scope.Declaration.{Declaration}
use Rattle.c_types.specs.declared.scope.Entity.{Entity}
use Rattle.c_types.specs.declared.scope.Entity.TheVariants.{Variable, Function, Library, Printf, Scanf}
use Rattle.c_types.specs.Scopes.{denoted}

-- whether two types are the same
abbrev pub same_ty : Ty → Ty → Bool
same_ty Int Int = true
same_ty Char Char = true
same_ty a b = false

-- the kind of a name by what it denotes (C11 6.5.1p2); one that isn't declared counts as a number
abbrev pub named : Option Entity → Kind
named None = Number
named (Some (Variable slot ty false)) = Number
named (Some (Variable slot ty true)) = Array ty
named (Some (Function ret params body defined)) = Callable
named (Some (Library ret params)) = Callable
named (Some Printf) = Callable
named (Some Scanf) = Callable

-- the kind of a call by what the called name denotes: void where the result is (C11 6.5.2.2p5)
abbrev pub called : Option Entity → Kind
called (Some (Function None params body defined)) = Void
called (Some (Library None params)) = Void
called entity = Number

-- the kind of an expression, where these declarations are in scope
abbrev pub kind : List Declaration → Tree → Kind
kind ds (name word slot s) = named (denoted ds word)
kind ds (call word args s) = called (denoted ds word)
kind ds e = Number

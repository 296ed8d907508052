-- The meaning of each kind of part in a program's own run.
use Rattle.std.specs.Prelude.{ℤ, List, Option, map}
use Rattle.c_tree.specs.declared.program.Param.{Param}
use Rattle.c_tree.specs.declared.stmt.Slot.{Slot}
use Rattle.c_tree.specs.declared.stmt.Ty.{Ty}
use Rattle.c_tree.specs.Tree.{Tree, Args, Initial, Variable, First, Code, Body, Function, Outer}
use Rattle.c_tree.specs.Views.{outer}
use Rattle.c_tree.specs.declared.stmt.Shape.{Shape}
use Rattle.c_meaning.specs.declared.argument.Argument.{Argument}
use Rattle.c_meaning.specs.declared.context.Context.{Context}
use Rattle.c_meaning.specs.declared.stop.Flow.{Flow}
use Rattle.c_meaning.specs.World.{Run, used}
use Rattle.c_meaning.specs.Meaning.{Called, eval, index_of, evals, perform, store_list, declare_object, declare_local, declare, begin, test_of, step_of, turn_of_while, turn_test_first, turn_body_first, run_for, exec, run_body, declare_global, declare_globals, make_globals, user_call, calls, no_hole}

module _ (c : Context) where
  -- the program
  abbrev pub outers : List Outer
  outers = map outer c.externals.now

  -- what a call does
  abbrev pub own_calls : Called
  own_calls = calls no_hole outers c.left

  -- a call of a function of the program
  abbrev pub own_call : Option Function → List Argument → Run (Option ℤ)
  own_call = user_call no_hole outers c.left

  -- an expression's value, if it has one
  abbrev pub own_eval : Tree → Run (Option ℤ)
  own_eval = eval no_hole outers own_calls

  -- the value of an expression whose value is used
  abbrev pub own_value : Tree → Run ℤ
  own_value e = used (own_eval e)

  -- the index of a place
  abbrev pub own_index : Tree → Run ℤ
  own_index = index_of no_hole outers own_calls

  -- arguments for these parameters
  abbrev pub own_args : List Param → Args → Run (List Argument)
  own_args = evals no_hole outers own_calls

  -- an expression whose value isn't used
  abbrev pub own_perform : Tree → Run (Unit {0})
  own_perform = perform no_hole outers own_calls

  -- a list of initialisers
  abbrev pub own_list : Slot → List Tree → Run (Unit {0})
  own_list slot = store_list no_hole outers own_calls slot 0

  -- an object with its initialiser
  abbrev pub own_object : Ty → Slot → Shape → Initial → Run (Unit {0})
  own_object = declare_object no_hole outers own_calls

  -- a declarator in a function
  abbrev pub own_local : Ty → Slot → Shape → Initial → Run (Unit {0})
  own_local = declare_local no_hole outers own_calls

  -- a declaration in a function
  abbrev pub own_declare : Ty → List Variable → Run (Unit {0})
  own_declare = declare no_hole outers own_calls

  -- the first clause of a `for`
  abbrev pub own_begin : First → Run (Unit {0})
  own_begin = begin no_hole outers own_calls

  -- the test of a `for`
  abbrev pub own_test : Option Tree → Run ℤ
  own_test = test_of no_hole outers own_calls

  -- where a statement leads
  abbrev pub own_exec : Code → Run Flow
  own_exec = exec no_hole outers own_calls

  -- where the items of a block lead
  abbrev pub own_items : Body → Run Flow
  own_items = run_body no_hole outers own_calls

  -- a turn of a `while`
  abbrev pub own_while_turn : Tree → Code → Run (Option Flow)
  own_while_turn test body = turn_of_while (own_value test) (own_exec body)

  -- a turn of a `do`
  abbrev pub own_do_turn : Code → Tree → Run (Option Flow)
  own_do_turn body test = turn_body_first (own_exec body) (own_value test)

  -- a turn of a `for`
  abbrev pub own_for_turn : Option Tree → Option Tree → Code → Run (Option Flow)
  own_for_turn test step body =
      turn_test_first (own_test test) (own_exec body) (step_of no_hole outers own_calls step)

  -- a `for`
  abbrev pub own_for : First → Option Tree → Option Tree → Code → Run Flow
  own_for first test step body = run_for no_hole outers own_calls first test step (own_exec body)

  -- an object of file scope
  abbrev pub own_global : Ty → Slot → Shape → Initial → Run (Unit {0})
  own_global = declare_global no_hole outers own_calls

  -- a declaration at file scope
  abbrev pub own_globals : Ty → List Variable → Run (Unit {0})
  own_globals = declare_globals no_hole outers own_calls

  -- the objects of file scope
  abbrev pub own_make_globals : Run (Unit {0})
  own_make_globals = make_globals no_hole outers own_calls outers

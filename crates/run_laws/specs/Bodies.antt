-- In a run of a program the slot of each name that is read, written or passed names a live object,
-- which has one cell where a number is meant, each function that is called is there and takes its
-- arguments, an object has a cell for each of its initialisers, and control leaves a function's body
-- as it may: in statements, in declarations, in the bodies of called functions, and so in the whole
-- run.
--
-- So these cases of the meaning of programs are never met in a run of a checked program: `load`,
-- `store` and `object_of` of a slot that names no live object, and `load` or `store` of a number
-- outside of its one cell; `attach` of `Unset`; `index_of` of what is neither a name nor an
-- element; `store` of a list's initialiser, or of the zeros after it, outside of the object;
-- `enter` and `enter_body` of nothing; `bind_params` of more or fewer arguments than parameters,
-- and `bind_param` of a format or a place; `result_of` of `Break` or `Continue`, of a `Return` with
-- a value from a function without a result, and of one without a value from a function with one;
-- `used` of a call of a function without a result; and in the library `one_number` of anything but
-- one number, `call_getchar` of an argument, `call_printf` of anything but a format and as many
-- numbers as it has conversions, and `call_scanf` and `read_to` of anything but `%d` and a place.
--
-- The other cases that trap are what C leaves undefined: a number that is uninitialised, or an
-- element outside of its array; a result out of range, a division by zero, a shift too far and a
-- left shift of a negative number; the value of a call that came to its function's end; and a
-- number too wide at `%d`. Two more are met only where the program has a hole, as a checked program
-- may, but none whose parts stand in text order (`OrderedProgramsHaveNoHole` in `Laws`): `no_hole`,
-- which is one of the fillings of which the laws speak (`NoHoleIsMet` there), and `outcome_of` of a
-- run that waits, since it waits in a state that is typed by the scope of a hole (`HolesAreTyped`
-- there).
--
-- That the word of an element denotes an array, and no number, is said by `NamesHaveObjects` there;
-- that what is passed as an array is the name of one, by `ArraysArePassedByName`.
use Rattle.std.specs.Prelude.{⊤, ◌≡◌, ◌≢◌, ◌≤◌, ◌<◌, ℕ, zero, suc, ℤ, pos, Bool, true, false, List, [], ◌∷◌, length, codes, All, Option, Some, None, is_some}
use Rattle.c_tree.specs.declared.program.Param.{Param}
use Rattle.c_tree.specs.declared.stmt.Slot.{Slot}
use Rattle.c_tree.specs.declared.stmt.Slot.TheVariants.{Unset}
use Rattle.c_tree.specs.declared.stmt.Shape.{Shape}
use Rattle.c_tree.specs.declared.stmt.Ty.{Ty}
use Rattle.c_tree.specs.Tree.{Tree, Initial, bare_start, one_start, list_start, Variable, First, no_first, first_act, first_vars, Code, empty, act, block, if_then, if_else, while, do_while, for, give, break, continue, Body, done, next, vars, Function, Outer, outer_vars, outer_func}
use Rattle.c_arith.specs.Arith.{is_zero}
use Rattle.c_meaning.specs.declared.argument.Argument.{Argument}
use Rattle.c_meaning.specs.declared.argument.Argument.TheVariants.{Number, Array, Format, Place}
use Rattle.c_meaning.specs.declared.stop.Flow.{Flow}
use Rattle.c_meaning.specs.declared.stop.Flow.TheVariants.{Next, Break, Continue, Return}
use Rattle.c_meaning.specs.World.{World, Run, pure, used, ◌>>◌}
use Rattle.c_meaning.specs.Steps.{unit, store}
use Rattle.c_meaning.specs.Meaning.{Filling, Called, turn_of_while, turn_test_first, turn_body_first, cell_count, make_variable, definition, eval, declare_local, declare, begin, test_of, step_of, exec, run_body, declare_global, declare_globals, make_globals, bind_param, bind_params, user_call, calls, call_limit}
use Rattle.run_laws.specs.Typed.{HasCells}
use Rattle.run_laws.specs.Reads.{Then, Chosen, IsDefinedFor, GivesValue, Inside, Finds}

-- what holds of the rest of a block, if control goes on there
abbrev pub IfNext : Flow → Type 0 → Type 0
IfNext Next P = P
IfNext Break P = ⊤
IfNext Continue P = ⊤
IfNext (Return v) P = ⊤

-- what holds of the rest of a turn, if control stays in the loop
abbrev pub IfStays : Flow → Type 0 → Type 0
IfStays Next P = P
IfStays Continue P = P
IfStays Break P = ⊤
IfStays (Return v) P = ⊤

-- what holds of the next turn, if there is one
abbrev pub IfAgain : Option Flow → Type 0 → Type 0
IfAgain (Some flow) P = ⊤
IfAgain None P = P

-- what holds in a turn whose test comes first, by what holds in its parts
abbrev pub InTestTurn :
    (World → Type 0) → Run ℤ → (World → Type 0) → Run Flow → (World → Type 0) → World → Type 0
InTestTurn T test B body S w =
    Then (unit w) (λ u x.
    T x
    × Then (test x) (λ v y.
    Chosen (is_zero v) ⊤ (B y × Then (body y) (λ flow z. IfStays flow (S z)))))

-- the same of a turn whose body comes first
abbrev pub InBodyTurn : (World → Type 0) → Run Flow → (World → Type 0) → World → Type 0
InBodyTurn B body T w = B w × Then (body w) (λ flow x. IfStays flow (Then (unit x) (λ u y. T y)))

-- the same of at most n turns
abbrev pub InTurns : (World → Type 0) → Run (Option Flow) → ℕ → World → Type 0
InTurns T turn zero w = ⊤
InTurns T turn (suc n) w = T w × Then (turn w) (λ o x. IfAgain o (InTurns T turn n x))

-- the same of a loop
abbrev pub InLoop : (World → Type 0) → Run (Option Flow) → World → Type 0
InLoop T turn w = InTurns T turn (suc w.units) w

-- the unit that an initialiser takes in a function
abbrev pub unit_for : Initial → Run (Unit {0})
unit_for bare_start = pure tt
unit_for (one_start e) = unit
unit_for (list_start es) = unit

-- how many initialisers are listed
abbrev pub listed : Initial → ℕ
listed bare_start = 0
listed (one_start e) = 1
listed (list_start es) = length es

-- how many cells the object of a declared variable has
abbrev pub cells_made : Shape → Initial → ℕ
cells_made shape start = cell_count shape (listed start)

-- an object has a cell for each initialiser (C11 6.7.9 p2)
abbrev pub HoldsList : Shape → Initial → Type 0
HoldsList shape start = listed start ≤ cells_made shape start

module _ (filling : Filling) (program : List Outer) (called : Called) (inside : Inside) where
  -- it is so in an expression that may be absent
  abbrev pub FindsOption : Bool → Option Tree → World → Type 0
  FindsOption wanted None w = ⊤
  FindsOption wanted (Some e) w = Finds filling program called inside wanted e w

  -- the same of a list of initialisers of a variable, from that cell on; at each of them, and at the
  -- end, where the other cells become 0, its object has all of its cells
  abbrev pub FindsList : Slot → ℕ → ℕ → List Tree → World → Type 0
  FindsList slot count at [] w = HasCells w slot count
  FindsList slot count at (e ∷ es) w =
      Finds filling program called inside true e w
      × Then (used (eval filling program called e) w) (λ v x.
      HasCells x slot count
      × (at < count)
      × Then (store slot (pos at) v x) (λ u y. FindsList slot count (suc at) es y))

  -- the same of an initialiser, where the variable's object has just been made
  abbrev pub FindsInitial : Slot → ℕ → Initial → World → Type 0
  FindsInitial slot count bare_start w = HasCells w slot count
  FindsInitial slot count (one_start e) w =
      Finds filling program called inside true e w
      × Then (used (eval filling program called e) w) (λ v x. HasCells x slot count × (0 < count))
  FindsInitial slot count (list_start es) w = FindsList slot count 0 es w

  -- the same of a declaration in a function
  abbrev pub FindsLocals : Ty → List Variable → World → Type 0
  FindsLocals ty [] w = ⊤
  FindsLocals ty (v ∷ vs) w =
      (v.slot ≢ Unset)
      × HoldsList v.shape v.start
      × Then ((unit_for v.start >> make_variable ty v.slot (cells_made v.shape v.start)) w)
      (λ u x.
      HasCells x v.slot (cells_made v.shape v.start)
      × FindsInitial v.slot (cells_made v.shape v.start) v.start x)
      × Then (declare_local filling program called ty v.slot v.shape v.start w) (λ u x.
      FindsLocals ty vs x)

  -- the same of a declaration at file scope
  abbrev pub FindsGlobals : Ty → List Variable → World → Type 0
  FindsGlobals ty [] w = ⊤
  FindsGlobals ty (v ∷ vs) w =
      (v.slot ≢ Unset)
      × HoldsList v.shape v.start
      × Then (make_variable ty v.slot (cells_made v.shape v.start) w)
      (λ u x.
      HasCells x v.slot (cells_made v.shape v.start)
      × FindsInitial v.slot (cells_made v.shape v.start) v.start x)
      × Then (declare_global filling program called ty v.slot v.shape v.start w) (λ u x.
      FindsGlobals ty vs x)

  -- the same of the first clause of a `for`
  abbrev pub FindsFirst : First → World → Type 0
  FindsFirst no_first w = ⊤
  FindsFirst (first_act e) w = Finds filling program called inside false e w
  FindsFirst (first_vars ty vs) w = FindsLocals ty vs w

  abbrev mutual
    -- the same of a statement
    pub FindsCode : Code → World → Type 0
    FindsCode (empty s) w = ⊤
    FindsCode (act e s) w = Then (unit w) (λ u x. Finds filling program called inside false e x)
    FindsCode (block body s) w = FindsBody body w
    FindsCode (if_then t a s) w =
        Then (unit w) (λ u x.
        Finds filling program called inside true t x
        × Then (used (eval filling program called t) x) (λ v y.
        Chosen (is_zero v) ⊤ (FindsCode a y)))
    FindsCode (if_else t a b s) w =
        Then (unit w) (λ u x.
        Finds filling program called inside true t x
        × Then (used (eval filling program called t) x) (λ v y.
        Chosen (is_zero v) (FindsCode b y) (FindsCode a y)))
    FindsCode (while t a s) w =
        let test = used (eval filling program called t) in
        let body = exec filling program called a in
        let finds = Finds filling program called inside true t in
        InLoop (InTestTurn finds test (FindsCode a) body (λ x. ⊤))
        (turn_of_while test body) w
    FindsCode (do_while a t s) w =
        let test = used (eval filling program called t) in
        let body = exec filling program called a in
        InLoop (InBodyTurn (FindsCode a) body (Finds filling program called inside true t))
        (turn_body_first body test) w
    FindsCode (for i t u a s) w =
        let test = test_of filling program called t in
        let body = exec filling program called a in
        FindsFirst i w
        × Then (begin filling program called i w) (λ o x.
        InLoop (InTestTurn (FindsOption true t) test (FindsCode a) body (FindsOption false u))
        (turn_test_first test body (step_of filling program called u)) x)
    FindsCode (give e s) w = Then (unit w) (λ u x. FindsOption true e x)
    FindsCode (break s) w = ⊤
    FindsCode (continue s) w = ⊤

    -- the same of the items of a block
    pub FindsBody : Body → World → Type 0
    FindsBody done w = ⊤
    FindsBody (next c rest) w =
        FindsCode c w
        × Then (exec filling program called c w) (λ flow x. IfNext flow (FindsBody rest x))
    FindsBody (vars ty vs rest) w =
        FindsLocals ty vs w
        × Then (declare filling program called ty vs w) (λ u x. FindsBody rest x)

  -- the same of the declarations of file scope
  abbrev pub FindsOuters : List Outer → World → Type 0
  FindsOuters [] w = ⊤
  FindsOuters (outer_vars ty vs ∷ rest) w =
      FindsGlobals ty vs w
      × Then (declare_globals filling program called ty vs w) (λ u x. FindsOuters rest x)
  FindsOuters (outer_func f ∷ rest) w = FindsOuters rest w

-- where a parameter takes a number, its new object has the cell into which that is stored
abbrev pub FindsParam : Param → Argument → World → Type 0
FindsParam p (Number v) w = Then (make_variable p.ty p.slot 1 w) (λ u x. HasCells x p.slot 1)
FindsParam p (Array n) w = ⊤
FindsParam p (Format f) w = ⊤
FindsParam p (Place slot i) w = ⊤

-- the same of parameters, in their order
abbrev pub FindsParams : List Param → List Argument → World → Type 0
FindsParams [] gs w = ⊤
FindsParams (p ∷ ps) [] w = ⊤
FindsParams (p ∷ ps) (g ∷ gs) w =
    FindsParam p g w × Then (bind_param p.ty p.slot g w) (λ u x. FindsParams ps gs x)

-- control leaves the body of a function with that result at its end or by a `return`, which has a
-- value exactly where the function has a result (C11 6.8.6)
abbrev pub LeavesBody : Option Ty → Flow → Type 0
LeavesBody ret Next = ⊤
LeavesBody ret Break = ⊥
LeavesBody ret Continue = ⊥
LeavesBody ret (Return v) = is_some v ≡ is_some ret

-- the parameters of a function have their slots; what holds in its body holds in the call, after
-- the parameters are bound, and control leaves the body as it may
abbrev pub InDefinition :
    (Body → World → Type 0) → (Body → Run Flow) → Function → Option Body → List Argument → World
    → Type 0
InDefinition finds go f None gs w = ⊤
InDefinition finds go f (Some body) gs w =
    All (λ (p : Param). p.slot ≢ Unset) f.params
    × Then (unit w) (λ u x.
    FindsParams f.params gs (record x { frame = [] })
    × Then (bind_params f.params gs (record x { frame = [] })) (λ o y.
    finds body y × Then (go body y) (λ flow z. LeavesBody f.ret flow)))

-- the same of a function, if there is one
abbrev pub InFunction :
    (Body → World → Type 0) → (Body → Run Flow) → Option Function → List Argument → World → Type 0
InFunction finds go None gs w = ⊤
InFunction finds go (Some f) gs w = InDefinition finds go f f.body gs w

-- it is so in a call of a function, where so many more calls may be live
unfoldable pub FindsCall :
    Filling → List Outer → ℕ → Option Function → List Argument → World → Type 0
FindsCall filling program zero f gs w = ⊤
FindsCall filling program (suc n) f gs w =
    InFunction
    (FindsBody filling program (calls filling program n)
    (λ word given x. FindsCall filling program n (definition word program) given x))
    (run_body filling program (calls filling program n))
    f gs w

-- the same by the called word
abbrev pub in_calls : Filling → List Outer → ℕ → Inside
in_calls filling program n word gs w = FindsCall filling program n (definition word program) gs w

-- it is so in the whole run of a program: in the declarations of file scope, and then in the call
-- of `main`, which is defined, has no parameters, and gives a value where it comes back
abbrev pub RunFinds : Filling → List Outer → World → Type 0
RunFinds filling program w =
    FindsOuters filling program (calls filling program call_limit)
    (in_calls filling program call_limit) program w
    × Then (make_globals filling program (calls filling program call_limit) program w) (λ u x.
    IsDefinedFor program (codes "main") [] x
    × GivesValue program (codes "main")
    × FindsCall filling program call_limit (definition (codes "main") program) [] x
    × Then (user_call filling program call_limit (definition (codes "main") program) [] x)
    (λ o y. is_some o ≡ true))

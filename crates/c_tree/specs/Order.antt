-- Trees whose spans are in text order, as those of a parsed source are: no span is empty, the text
-- of a part lies inside the text of the whole, and the parts follow one another in it. Each
-- relation says so of a part that lies between two places of the text, the second never before the
-- first, also where the part is empty or absent.
use Rattle.std.specs.Prelude.{ℕ, ℤ, suc, ◌<◌, ◌≤◌, Bool, List, [], ◌∷◌, Option, Some, None}
use Rattle.c_tree.specs.declared.place.Span.{Span}
use Rattle.c_tree.specs.declared.stmt.Slot.{Slot}
use Rattle.c_tree.specs.declared.stmt.Ty.{Ty}
use Rattle.c_tree.specs.declared.program.Param.{Param}
use Rattle.c_tree.specs.declared.expr.BinOp.{BinOp}
use Rattle.c_tree.specs.declared.expr.UnOp.{UnOp}
use Rattle.c_tree.specs.Tree as tree
use Rattle.c_tree.specs.Tree.{Tree, Args, Initial, Variable, First, Code, Body, Function, Outer}

-- a text that isn't empty lies between two places
pub record Within (from to : ℕ) (s : Span) : Type 0 where
  pub begins : from ≤ s.from
  pub covers : s.from < s.to
  pub ends : s.to ≤ to

mutual
  -- an expression lies between two places, and its parts follow one another in its text
  pub data TreeIn : ℕ → ℕ → Tree → Type 0 where
    constant : {from to : ℕ} {n : ℤ} {w : List ℕ} {s : Span}
        → Within from to s → TreeIn from to (tree.constant n w s)
    name : {from to : ℕ} {w : List ℕ} {v : Slot} {s : Span}
        → Within from to s → TreeIn from to (tree.name w v s)
    index : {from to : ℕ} {w : List ℕ} {v : Slot} {e : Tree} {s : Span}
        → Within from to s → TreeIn (suc s.from) s.to e → TreeIn from to (tree.index w v e s)
    call : {from to : ℕ} {w : List ℕ} {x : Args} {s : Span}
        → Within from to s → ArgsIn (suc s.from) s.to x → TreeIn from to (tree.call w x s)
    unary : {from to : ℕ} {f : UnOp} {e : Tree} {s : Span}
        → Within from to s → TreeIn (suc s.from) s.to e → TreeIn from to (tree.unary f e s)
    cast : {from to : ℕ} {ty : Ty} {e : Tree} {s : Span}
        → Within from to s → TreeIn (suc s.from) s.to e → TreeIn from to (tree.cast ty e s)
    binary : {from to m : ℕ} {f : BinOp} {l r : Tree} {s : Span}
        → Within from to s → TreeIn s.from m l → TreeIn m s.to r
        → TreeIn from to (tree.binary f l r s)
    choice : {from to m n : ℕ} {t a b : Tree} {s : Span}
        → Within from to s → TreeIn s.from m t → TreeIn m n a → TreeIn n s.to b
        → TreeIn from to (tree.choice t a b s)
    assign : {from to m : ℕ} {f : Option BinOp} {place e : Tree} {s : Span}
        → Within from to s → TreeIn s.from m place → TreeIn m s.to e
        → TreeIn from to (tree.assign f place e s)
    bump : {from to : ℕ} {before up : Bool} {place : Tree} {s : Span}
        → Within from to s → TreeIn s.from s.to place
        → TreeIn from to (tree.bump before up place s)
    comma : {from to m : ℕ} {l r : Tree} {s : Span}
        → Within from to s → TreeIn s.from m l → TreeIn m s.to r
        → TreeIn from to (tree.comma l r s)

  -- the same of arguments
  pub data ArgsIn : ℕ → ℕ → Args → Type 0 where
    no_args : {from to : ℕ} → from ≤ to → ArgsIn from to tree.no_args
    value : {from to m : ℕ} {e : Tree} {rest : Args}
        → TreeIn from m e → ArgsIn m to rest → ArgsIn from to (tree.value e rest)
    format : {from to m : ℕ} {f : List ℕ} {s : Span} {rest : Args}
        → Within from m s → ArgsIn m to rest → ArgsIn from to (tree.format f s rest)
    address : {from to m : ℕ} {e : Tree} {rest : Args}
        → TreeIn from m e → ArgsIn m to rest → ArgsIn from to (tree.address e rest)

-- the same of expressions one after another
pub data TreesIn : ℕ → ℕ → List Tree → Type 0 where
  none : {from to : ℕ} → from ≤ to → TreesIn from to []
  more : {from to m : ℕ} {e : Tree} {es : List Tree}
      → TreeIn from m e → TreesIn m to es → TreesIn from to (e ∷ es)

-- the same of an expression that may be absent
pub data OptionIn : ℕ → ℕ → Option Tree → Type 0 where
  absent : {from to : ℕ} → from ≤ to → OptionIn from to None
  present : {from to : ℕ} {e : Tree} → TreeIn from to e → OptionIn from to (Some e)

-- the same of an initialiser
pub data InitialIn : ℕ → ℕ → Initial → Type 0 where
  bare : {from to : ℕ} → from ≤ to → InitialIn from to tree.bare_start
  one : {from to : ℕ} {e : Tree} → TreeIn from to e → InitialIn from to (tree.one_start e)
  many : {from to : ℕ} {es : List Tree}
      → TreesIn from to es → InitialIn from to (tree.list_start es)

-- the same of declared variables: the initialiser of each comes after its name
pub data VariablesIn : ℕ → ℕ → List Variable → Type 0 where
  none : {from to : ℕ} → from ≤ to → VariablesIn from to []
  more : {from to m : ℕ} {v : Variable} {vs : List Variable}
      → Within from m v.span → InitialIn v.span.to m v.start → VariablesIn m to vs
      → VariablesIn from to (v ∷ vs)

-- the same of the first clause of a `for`
pub data FirstIn : ℕ → ℕ → First → Type 0 where
  none : {from to : ℕ} → from ≤ to → FirstIn from to tree.no_first
  act : {from to : ℕ} {e : Tree} → TreeIn from to e → FirstIn from to (tree.first_act e)
  vars : {from to : ℕ} {ty : Ty} {vs : List Variable}
      → VariablesIn from to vs → FirstIn from to (tree.first_vars ty vs)

mutual
  -- the same of a statement: what follows a keyword begins after its first byte
  pub data CodeIn : ℕ → ℕ → Code → Type 0 where
    empty : {from to : ℕ} {s : Span} → Within from to s → CodeIn from to (tree.empty s)
    act : {from to : ℕ} {e : Tree} {s : Span}
        → Within from to s → TreeIn s.from s.to e → CodeIn from to (tree.act e s)
    block : {from to : ℕ} {body : Body} {s : Span}
        → Within from to s → BodyIn (suc s.from) s.to body → CodeIn from to (tree.block body s)
    if_then : {from to m : ℕ} {t : Tree} {a : Code} {s : Span}
        → Within from to s → TreeIn (suc s.from) m t → CodeIn m s.to a
        → CodeIn from to (tree.if_then t a s)
    if_else : {from to m n : ℕ} {t : Tree} {a b : Code} {s : Span}
        → Within from to s → TreeIn (suc s.from) m t → CodeIn m n a → CodeIn n s.to b
        → CodeIn from to (tree.if_else t a b s)
    while : {from to m : ℕ} {t : Tree} {a : Code} {s : Span}
        → Within from to s → TreeIn (suc s.from) m t → CodeIn m s.to a
        → CodeIn from to (tree.while t a s)
    do_while : {from to m : ℕ} {a : Code} {t : Tree} {s : Span}
        → Within from to s → CodeIn (suc s.from) m a → TreeIn m s.to t
        → CodeIn from to (tree.do_while a t s)
    for : {from to k m n : ℕ} {i : First} {t u : Option Tree} {a : Code} {s : Span}
        → Within from to s → FirstIn (suc s.from) k i → OptionIn k m t → OptionIn m n u
        → CodeIn n s.to a → CodeIn from to (tree.for i t u a s)
    give : {from to : ℕ} {e : Option Tree} {s : Span}
        → Within from to s → OptionIn (suc s.from) s.to e → CodeIn from to (tree.give e s)
    break : {from to : ℕ} {s : Span} → Within from to s → CodeIn from to (tree.break s)
    continue : {from to : ℕ} {s : Span} → Within from to s → CodeIn from to (tree.continue s)

  -- the same of the items of a block
  pub data BodyIn : ℕ → ℕ → Body → Type 0 where
    done : {from to : ℕ} → from ≤ to → BodyIn from to tree.done
    next : {from to m : ℕ} {a : Code} {rest : Body}
        → CodeIn from m a → BodyIn m to rest → BodyIn from to (tree.next a rest)
    vars : {from to m : ℕ} {ty : Ty} {vs : List Variable} {rest : Body}
        → VariablesIn from m vs → BodyIn m to rest → BodyIn from to (tree.vars ty vs rest)

-- the same of parameters
pub data ParamsIn : ℕ → ℕ → List Param → Type 0 where
  none : {from to : ℕ} → from ≤ to → ParamsIn from to []
  more : {from to m : ℕ} {p : Param} {ps : List Param}
      → Within from m p.span → ParamsIn m to ps → ParamsIn from to (p ∷ ps)

-- the same of a body that may be absent
pub data DefinitionIn : ℕ → ℕ → Option Body → Type 0 where
  absent : {from to : ℕ} → from ≤ to → DefinitionIn from to None
  present : {from to : ℕ} {body : Body} → BodyIn from to body → DefinitionIn from to (Some body)

-- the same of what stands at file scope; the text of a function begins with its name
pub data OuterIn : ℕ → ℕ → Outer → Type 0 where
  vars : {from to : ℕ} {ty : Ty} {vs : List Variable}
      → VariablesIn from to vs → OuterIn from to (tree.outer_vars ty vs)
  func : {from to m : ℕ} {f : Function}
      → Within from to f.span → ParamsIn (suc f.span.from) m f.params
      → DefinitionIn m f.span.to f.body → OuterIn from to (tree.outer_func f)

-- the same of a program
pub data ProgramIn : ℕ → ℕ → List Outer → Type 0 where
  none : {from to : ℕ} → from ≤ to → ProgramIn from to []
  more : {from to m : ℕ} {x : Outer} {p : List Outer}
      → OuterIn from m x → ProgramIn m to p → ProgramIn from to (x ∷ p)

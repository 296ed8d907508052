-- Which constants are kept as atoms when they are met one after another: 0 and 1, and the first four of further values.
use Rattle.std.specs.Prelude.{nat_lt, if◌then◌else◌, List, [], ◌∷◌, ◌++◌, length}
use Rattle.schemas.specs.declared.atom.Atom.{Atom}
use Rattle.schemas.specs.Atoms.{constant_atom, is_known}
use Rattle.schemas.specs.Constants.{Constant}

-- one more constant is met: it is kept if no atom before it has its value, and there is room for it
abbrev pub with_constant : List Atom → Constant → List Atom
with_constant kept c =
    if is_known kept c then kept
    else (if nat_lt (length kept) 6 then kept ++ constant_atom c ∷ [] else kept)

-- more constants are met, in this order
abbrev pub with_constants : List Atom → List Constant → List Atom
with_constants kept [] = kept
with_constants kept (c ∷ cs) = with_constants (with_constant kept c) cs

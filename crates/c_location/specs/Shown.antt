-- What contracts see of a part, and what is found among locations.
use Rattle.std.specs.Prelude.{List, Option, option_map}
use Rattle.std.specs.List.{find}
use Rattle.c_tree.specs.declared.place.Loc.{Loc}
use Rattle.c_tree.specs.Views.{tree, code}
use Rattle.c_location.specs.declared.part.Part.{Part as Lent}
use Rattle.c_location.specs.declared.part.Part.TheVariants.{Expr, Stmt}
use Rattle.c_location.specs.Locations.{Part, expression, statement, Located, is_at}

-- the part that is lent
abbrev pub lent : Lent → Part
lent (Expr e) = expression (tree e.now)
lent (Stmt st) = statement (code st.now)

-- what stands at a location, sought among these
abbrev pub found_at : Loc → List Located → Option Part
found_at l xs = option_map (λ x. x.part) (find (is_at l) xs)

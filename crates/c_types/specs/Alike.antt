-- Expressions that may stand for one another in a checked program.
use Rattle.std.specs.Prelude.{◌≡◌, List}
use Rattle.c_tree.specs.Parts.{span_of}
use Rattle.c_tree.specs.Tree.{Tree}
use Rattle.c_types.specs.declared.scope.Declaration.{Declaration}
use Rattle.c_types.specs.Arguments.{is_place, stores_int}
use Rattle.c_types.specs.Constants.{not_constant}
use Rattle.c_types.specs.Expressions.{place_faults, faults}
use Rattle.c_types.specs.Kinds.{kind}
use Rattle.c_types.specs.Slots.{resolved_tree}

-- Two expressions cover the same text, and whatever declarations are in scope, they have the same kind
-- and the same faults; and where each name of the first has its slot, each of the second has.
pub record TypedAlike (a b : Tree) : Type 0 where
  pub same_span : span_of a ≡ span_of b
  pub same_kind : (ds : List Declaration) → kind ds a ≡ kind ds b
  pub same_faults : (ds : List Declaration) → faults ds a ≡ faults ds b
  pub same_place : (ds : List Declaration) → place_faults ds a ≡ place_faults ds b
  pub same_operand : is_place a ≡ is_place b
  pub same_store : (ds : List Declaration) → stores_int ds a ≡ stores_int ds b
  pub same_constant : not_constant a ≡ not_constant b
  pub resolves : (ds : List Declaration) → resolved_tree ds a ≡ a → resolved_tree ds b ≡ b

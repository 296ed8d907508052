-- The plain trees of what is built.
use Rattle.std.proofs.Common.{◌≡◌, ℕ, refl, sym, ap, ◌∙◌, List, [], ◌∷◌, ◌++◌, map, Vec, Global}
use Rattle.c_tree.specs.declared.place.Span.{Span}
use Rattle.c_tree.specs.declared.expr.ExprNode.TheVariants.{Call}
use Rattle.c_tree.specs.declared.expr.Arg.{Arg}
use Rattle.c_tree.specs.declared.expr.Arg.TheVariants.{Value', Format, Address'}
use Rattle.c_tree.specs.declared.expr.Arg.TheBlock.{Row_of-Arg, more_of-Arg, end_of-Arg, items-the_row-Arg, items_hidden-the_row-Arg-0, hidden-the_row-Arg-0}
use Rattle.c_tree.specs.declared.stmt.StmtNode.TheVariants.{Block}
use Rattle.c_tree.specs.declared.stmt.Item.{Item}
use Rattle.c_tree.specs.declared.stmt.Item.TheVariants.{Vars, Stmt'}
use Rattle.c_tree.specs.declared.stmt.Item.TheBlock.{Row_of-Item, more_of-Item, end_of-Item, items-the_row-Item, items_hidden-the_row-Item-0, hidden-the_row-Item-0}
use Rattle.c_tree.specs.Tree.{call, block, done}
use Rattle.c_tree.specs.Views.{node_tree, args_tree, with_arg, args_of, node_code, items_code, with_item, body_of}
use Rattle.c_grammar.specs.Grammar.{args}
use Rattle.c_grammar.specs.ProgramDescent.{append}
use Rattle.c_parse.specs.Gives.{given}

-- the arguments of a call, one by one
args-given : (xs : List Arg) → args_of xs ≡ args (map given xs)
args-given [] = refl
args-given (Value' e s ∷ xs) = ap (with_arg (Value' e s)) (args-given xs)
args-given (Format w s ∷ xs) = ap (with_arg (Format w s)) (args-given xs)
args-given (Address' e s ∷ xs) = ap (with_arg (Address' e s)) (args-given xs)

row_args : (n : _) (row : Row_of-Arg n) → args_tree row ≡ args_of (items-the_row-Arg n row)
row_args n end_of-Arg = refl
row_args n (more_of-Arg (Value' e s) rest) = ap (with_arg (Value' e s)) (row_args _ rest)
row_args n (more_of-Arg (Format f s) rest) = ap (with_arg (Format f s)) (row_args _ rest)
row_args n (more_of-Arg (Address' e s) rest) = ap (with_arg (Address' e s)) (row_args _ rest)

-- the arguments of a call, as a list
pub node-Call : (word : List ℕ) (xs : Vec Arg Global) (s : Span) → node_tree (Call word xs) s ≡ call word (args (map given xs.items)) s
node-Call word xs s = ap (λ a. call word a s) (row_args _ (hidden-the_row-Arg-0 xs) ∙ ap args_of (items_hidden-the_row-Arg-0 xs) ∙ args-given xs.items)

row_items : (n : _) (row : Row_of-Item n) → items_code row ≡ body_of (items-the_row-Item n row)
row_items n end_of-Item = refl
row_items n (more_of-Item (Stmt' e s) rest) = ap (with_item (Stmt' e s)) (row_items _ rest)
row_items n (more_of-Item (Vars ty ds) rest) = ap (with_item (Vars ty ds)) (row_items _ rest)

-- the items of a block, as a list
pub node-Block : (items : Vec Item Global) (s : Span) → node_code (Block items) s ≡ block (body_of items.items) s
node-Block items s = ap (λ b. block b s) (row_items _ (hidden-the_row-Item-0 items) ∙ ap body_of (items_hidden-the_row-Item-0 items))

-- one item more
pub body_of-push : (xs : List Item) (i : Item) → body_of (xs ++ i ∷ []) ≡ append (body_of xs) (with_item i done)
body_of-push [] i = refl
body_of-push (Stmt' n s ∷ xs) i = ap (with_item (Stmt' n s)) (body_of-push xs i)
body_of-push (Vars ty ds ∷ xs) i = ap (with_item (Vars ty ds)) (body_of-push xs i)

-- one more of what is seen as something else
pub map-push : {X A : Type 0} (f : X → A) (xs ys : List X) (x : X) → ys ≡ xs ++ x ∷ [] → map f ys ≡ map f xs ++ f x ∷ []
map-push f xs ys x e = ap (map f) e ∙ each xs where
  each : (xs : List _) → map f (xs ++ x ∷ []) ≡ map f xs ++ f x ∷ []
  each [] = refl
  each (y ∷ xs) = ap (λ ys. f y ∷ ys) (each xs)

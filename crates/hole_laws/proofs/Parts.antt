-- What holds of all spots, locations and names of a part of a program, and the parts that have no hole.
use Rattle.std.proofs.Common.{◌≡◌, ℕ, ◌+◌, List, [], ◌∷◌, ◌++◌, map, sum, length, refl, sym, ap₂, ◌∙◌, length-append, Option, Some, None}
use Rattle.std.specs.List.{flat_map}
use Rattle.std.proofs.lemmas.List.Sums.{sum_by-cons}
use Rattle.c_tree.specs.declared.stmt.Ty.{Ty}
use Rattle.c_tree.specs.Order as order
use Rattle.c_tree.specs.Order.{TreeIn, ArgsIn, TreesIn, OptionIn, InitialIn, VariablesIn}
use Rattle.c_tree.specs.Parts.{span_of}
use Rattle.c_tree.specs.Tree.{Tree, constant, name, index, call, unary, cast, binary, choice, assign, bump, comma, hole, hole_after, Args, no_args, value, format, address, Initial, Variable}
use Rattle.c_types.specs.Found.{option_found, initial_found, variables_found}
use Rattle.c_types.specs.Statements.{variable_declaration}
use Rattle.c_types.specs.Uses.{Use, tree_uses, args_uses}
use Rattle.c_location.specs.Locations.{Located}
use Rattle.c_location.specs.OnePlace.{holes_in, holes_in_args, holes_in_initial, holes_in_variables}
use Rattle.scope_laws.specs.Spots.{Spot, spot, tree_spots}
use Rattle.scope_laws.proofs.Every.{Every, nil, cons, append, head, tail, left, right}
use Rattle.run_laws.specs.Holes.{Names, tree_holes, args_holes, of_holes}

-- ---- what holds of the spots, the locations and the names of a part

pub record Facts (R : Spot → Type 0) (P : Located → Type 0) (Q : Use → Type 0) (xs : List Spot) (ys : List Located) (us : List Use) : Type 0 where
  pub spots : Every R xs
  pub located : Every P ys
  pub uses : Every Q us

module _ {R : Spot → Type 0} {P : Located → Type 0} {Q : Use → Type 0} where
  -- without the first spot
  pub inside : {x : Spot} {xs : List Spot} {ys : List Located} {us : List Use} → Facts R P Q (x ∷ xs) ys us → Facts R P Q xs ys us
  inside h = record { spots = tail h.spots; located = h.located; uses = h.uses }

  -- without the first name
  pub unnamed : {xs : List Spot} {ys : List Located} {u : Use} {us : List Use} → Facts R P Q xs ys (u ∷ us) → Facts R P Q xs ys us
  unnamed h = record { spots = h.spots; located = h.located; uses = tail h.uses }

  -- without the first location
  pub within : {xs : List Spot} {y : Located} {ys : List Located} {us : List Use} → Facts R P Q xs (y ∷ ys) us → Facts R P Q xs ys us
  within h = record { spots = h.spots; located = tail h.located; uses = h.uses }

  -- of the first of two parts, and of the second
  pub one : (xs zs : List Spot) (ys ws : List Located) (us vs : List Use) → Facts R P Q (xs ++ zs) (ys ++ ws) (us ++ vs) → Facts R P Q xs ys us
  one xs zs ys ws us vs h = record { spots = left xs zs h.spots; located = left ys ws h.located; uses = left us vs h.uses }

  pub two : (xs zs : List Spot) (ys ws : List Located) (us vs : List Use) → Facts R P Q (xs ++ zs) (ys ++ ws) (us ++ vs) → Facts R P Q zs ws vs
  two xs zs ys ws us vs h = record { spots = right xs zs h.spots; located = right ys ws h.located; uses = right us vs h.uses }

  -- the locations of three parts, the last two together
  pub grouped : {xs : List Spot} {us : List Use} (ys ws zs : List Located) → Facts R P Q xs ((ys ++ ws) ++ zs) us → Facts R P Q xs (ys ++ (ws ++ zs)) us
  grouped ys ws zs h =
      let both = left (ys ++ ws) zs h.located in
      record {
        spots = h.spots;
        located = append (left ys ws both) (append (right ys ws both) (right (ys ++ ws) zs h.located));
        uses = h.uses;
      }

-- the text of an expression is one of its spots
pub own_spot : {R : Spot → Type 0} {from to : ℕ} {e : Tree} (ds : Names) (o : Option (List ℕ)) → TreeIn from to e → Every R (tree_spots ds o e) → R (spot ds o (span_of e))
own_spot ds o (order.constant w) h = head h
own_spot ds o (order.name w) h = head h
own_spot ds o (order.index w a) h = head h
own_spot ds o (order.call w x) h = head h
own_spot ds o (order.unary w a) h = head h
own_spot ds o (order.cast w a) h = head h
own_spot ds o (order.binary w a b) h = head h
own_spot ds o (order.choice w t a b) h = head h
own_spot ds o (order.assign w a b) h = head h
own_spot ds o (order.bump w a) h = head h
own_spot ds o (order.comma w a b) h = head h

-- all names in an expression are in its scope
module _ (ds : Names) (o : Option (List ℕ)) where
  abbrev pub InScope : List Use → Type 0
  InScope = Every (λ (u : Use). u.scope ≡ ds)

  mutual
    pub tree_scope : (e : Tree) → InScope (tree_uses ds o e)
    tree_scope (constant n word s) = nil
    tree_scope (name word slot s) = cons refl nil
    tree_scope (index word slot e s) = cons refl (tree_scope e)
    tree_scope (call word x s) = args_scope x
    tree_scope (unary op e s) = tree_scope e
    tree_scope (cast ty e s) = tree_scope e
    tree_scope (binary op a b s) = append (tree_scope a) (tree_scope b)
    tree_scope (choice t a b s) = append (tree_scope t) (append (tree_scope a) (tree_scope b))
    tree_scope (assign op place e s) = append (tree_scope place) (tree_scope e)
    tree_scope (bump before up place s) = tree_scope place
    tree_scope (comma a b s) = append (tree_scope a) (tree_scope b)
    tree_scope hole = nil
    tree_scope (hole_after e) = tree_scope e

    args_scope : (x : Args) → InScope (args_uses ds o x)
    args_scope no_args = nil
    args_scope (value e x) = append (tree_scope e) (args_scope x)
    args_scope (format text s x) = args_scope x
    args_scope (address e x) = append (tree_scope e) (args_scope x)

-- so are those in an expression that may be absent
pub option_scope : (ds : Names) (e : Option Tree) → InScope ds None (option_found tree_uses ds e)
option_scope ds None = nil
option_scope ds (Some e) = tree_scope ds None e

-- ---- holes

-- a list of scopes of holes, of that length, of which each is as it is to be
pub record Counted (H : Names → Type 0) (xs : List Names) (n : ℕ) : Type 0 where
  pub each : Every H xs
  pub count : length xs ≡ n

module _ {H : Names → Type 0} where
  pub none : Counted H [] 0
  none = record { each = nil; count = refl }

  pub both : {xs ys : List Names} {m n : ℕ} → Counted H xs m → Counted H ys n → Counted H (xs ++ ys) (m + n)
  both {xs = xs} {ys = ys} {m = m} {n = n} h k = record {
    each = append h.each k.each;
    count = length-append xs ys ∙ ap₂ (λ i j. i + j) h.count k.count;
  }

  -- of as many
  pub as_many : {xs : List Names} {m n : ℕ} → Counted H xs m → m ≡ n → Counted H xs n
  as_many h e = record { each = h.each; count = h.count ∙ e }

  -- of a sum
  pub summed : {xs : List Names} (n : ℕ) (ns : List ℕ) → Counted H xs (n + sum ns) → Counted H xs (sum (n ∷ ns))
  summed n ns h = record { each = h.each; count = h.count ∙ sym (sum_by-cons (λ m. m) n ns) }

-- a part without a hole
pub record Closed (xs : List Names) (n : ℕ) : Type 0 where
  pub nothing : xs ≡ []
  pub count : n ≡ 0

closed : Closed [] 0
closed = record { nothing = refl; count = refl }

together : {xs ys : List Names} {m n : ℕ} → Closed xs m → Closed ys n → Closed (xs ++ ys) (m + n)
together h k = record { nothing = ap₂ (λ (a b : List Names). a ++ b) h.nothing k.nothing; count = ap₂ (λ i j. i + j) h.count k.count }

summed_up : {xs : List Names} (n : ℕ) (ns : List ℕ) → Closed xs (n + sum ns) → Closed xs (sum (n ∷ ns))
summed_up n ns h = record { nothing = h.nothing; count = sum_by-cons (λ m. m) n ns ∙ h.count }

-- what a closed part has is counted
pub counted : {H : Names → Type 0} {xs : List Names} {n : ℕ} → Closed xs n → Counted H xs n
counted {H} {xs} {n} h = by_nothing xs h.nothing
  where
    by_nothing : (ys : List Names) → ys ≡ [] → Counted H ys n
    by_nothing [] e = as_many none (sym h.count)
    by_nothing (y ∷ ys) e = absurd (cc)

-- what is in text order has no hole
module _ (ds : Names) where
  mutual
    pub closed_tree : {from to : ℕ} {e : Tree} → TreeIn from to e → Closed (tree_holes ds e) (holes_in e)
    closed_tree (order.constant w) = closed
    closed_tree (order.name w) = closed
    closed_tree (order.index w a) = closed_tree a
    closed_tree (order.call w x) = closed_args x
    closed_tree (order.unary w a) = closed_tree a
    closed_tree (order.cast w a) = closed_tree a
    closed_tree (order.binary w a b) = together (closed_tree a) (closed_tree b)
    closed_tree (order.choice w t a b) =
        let all = together (closed_tree t) (together (closed_tree a) (closed_tree b)) in
        record { nothing = all.nothing; count = ap₂ (λ i j. i + j) (ap₂ (λ i j. i + j) (closed_tree t).count (closed_tree a).count) (closed_tree b).count }
    closed_tree (order.assign w a b) = together (closed_tree a) (closed_tree b)
    closed_tree (order.bump w a) = closed_tree a
    closed_tree (order.comma w a b) = together (closed_tree a) (closed_tree b)

    closed_args : {from to : ℕ} {x : Args} → ArgsIn from to x → Closed (args_holes ds x) (holes_in_args x)
    closed_args (order.no_args le) = closed
    closed_args (order.value a rest) = together (closed_tree a) (closed_args rest)
    closed_args (order.format w rest) = closed_args rest
    closed_args (order.address a rest) = together (closed_tree a) (closed_args rest)

  closed_trees : {from to : ℕ} {es : List Tree} → TreesIn from to es → Closed (flat_map (tree_holes ds) es) (sum (map holes_in es))
  closed_trees (order.none le) = closed
  closed_trees (order.more {e = e} {es = es} x rest) = summed_up (holes_in e) (map holes_in es) (together (closed_tree x) (closed_trees rest))

  closed_initial : {from to : ℕ} {start : Initial} (word : List ℕ) → InitialIn from to start → Closed (initial_found of_holes ds word start) (holes_in_initial start)
  closed_initial word (order.bare le) = closed
  closed_initial word (order.one x) = closed_tree x
  closed_initial word (order.many xs) = closed_trees xs

  -- an expression that may be absent has none either
  pub closed_option : {from to : ℕ} {e : Option Tree} → OptionIn from to e → option_found of_holes ds e ≡ []
  closed_option (order.absent le) = refl
  closed_option (order.present x) = (closed_tree x).nothing

pub closed_variables : {from to : ℕ} {vs : List Variable} (here around : Names) (ty : Ty) → VariablesIn from to vs → Closed (variables_found of_holes here around ty vs) (holes_in_variables vs)
closed_variables here around ty (order.none le) = closed
closed_variables here around ty (order.more {v = v} {vs = vs} w start rest) =
    summed_up (holes_in_initial v.start) (map (λ (u : Variable). holes_in_initial u.start) vs)
    (together (closed_initial (variable_declaration ty v ∷ (here ++ around)) v.word start) (closed_variables (variable_declaration ty v ∷ here) around ty rest))

-- Expressions that are read from tokens whose spans rise are in text order.
use Rattle.std.proofs.Common.{ℕ, ◌≤◌, ◌<◌, Bool, List, Option, arith}
use Rattle.c_tree.specs.declared.expr.BinOp.{BinOp}
use Rattle.c_tree.specs.declared.expr.UnOp.{UnOp}
use Rattle.c_tree.specs.declared.place.Span.{Span}
use Rattle.c_tree.specs.declared.stmt.Ty.{Ty}
use Rattle.c_tree.specs.Parts.{span_of}
use Rattle.c_tree.specs.Tree as tree
use Rattle.c_tree.specs.Tree.{Tree}
use Rattle.c_tree.specs.Order.{Within, TreeIn, ArgsIn}
use Rattle.c_lex.specs.Lexemes.{Rise}
use Rattle.c_grammar.specs.declared.nonterminal.Nonterminal.{Nonterminal}
use Rattle.c_grammar.specs.Grammar.{Tokens, over, wrapped, prefixed, joined, chosen, assigned, followed, Given, args, put, Reads, Argument, Arguments}

-- ---- trees between other places

-- the text of an expression lies where the expression does
pub text_in : {i j : ℕ} {t : Tree} → TreeIn i j t → Within i j (span_of t)
text_in (TreeIn.constant w) = w
text_in (TreeIn.name w) = w
text_in (TreeIn.index w x) = w
text_in (TreeIn.call w x) = w
text_in (TreeIn.unary w x) = w
text_in (TreeIn.cast w x) = w
text_in (TreeIn.binary w x y) = w
text_in (TreeIn.choice w x y z) = w
text_in (TreeIn.assign w x y) = w
text_in (TreeIn.bump w x) = w
text_in (TreeIn.comma w x y) = w

-- an expression lies wherever its text does
pub moved : {i j k l : ℕ} {t : Tree} → TreeIn i j t → Within k l (span_of t) → TreeIn k l t
moved (TreeIn.constant v) w = TreeIn.constant w
moved (TreeIn.name v) w = TreeIn.name w
moved (TreeIn.index v x) w = TreeIn.index w x
moved (TreeIn.call v x) w = TreeIn.call w x
moved (TreeIn.unary v x) w = TreeIn.unary w x
moved (TreeIn.cast v x) w = TreeIn.cast w x
moved (TreeIn.binary v x y) w = TreeIn.binary w x y
moved (TreeIn.choice v x y z) w = TreeIn.choice w x y z
moved (TreeIn.assign v x y) w = TreeIn.assign w x y
moved (TreeIn.bump v x) w = TreeIn.bump w x
moved (TreeIn.comma v x y) w = TreeIn.comma w x y

-- two places may lie further apart
pub spread : {i j k l : ℕ} {t : Tree} → TreeIn i j t → k ≤ i → j ≤ l → TreeIn k l t
spread x h g = let w = text_in x in moved x (record { begins = omega arith; covers = w.covers; ends = omega arith })

-- the same of arguments
pub args_spread : {i j k l : ℕ} {x : tree.Args} → ArgsIn i j x → k ≤ i → j ≤ l → ArgsIn k l x
args_spread (ArgsIn.no_args o) h g = ArgsIn.no_args (omega arith)
args_spread (ArgsIn.value {m = m} x y) h g = ArgsIn.value {m = m} (spread x h (omega arith)) (args_spread y (omega arith) g)
args_spread (ArgsIn.format {m = m} w y) h g =
    ArgsIn.format {m = m} (record { begins = let b = w.begins in omega arith; covers = w.covers; ends = w.ends }) (args_spread y (omega arith) g)
args_spread (ArgsIn.address {m = m} x y) h g = ArgsIn.address {m = m} (spread x h (omega arith)) (args_spread y (omega arith) g)

-- an expression with a wider text
pub wrapped_in : {i j k l : ℕ} {t : Tree} (s : Span) → TreeIn i j t → s.from ≤ i → j ≤ s.to → Within k l s
    → TreeIn k l (wrapped s t)
wrapped_in s (TreeIn.constant v) h g w = TreeIn.constant w
wrapped_in s (TreeIn.name v) h g w = TreeIn.name w
wrapped_in s (TreeIn.index v x) h g w = TreeIn.index w (spread x (let b = v.begins in omega arith) (let e = v.ends in omega arith))
wrapped_in s (TreeIn.call v x) h g w = TreeIn.call w (args_spread x (let b = v.begins in omega arith) (let e = v.ends in omega arith))
wrapped_in s (TreeIn.unary v x) h g w = TreeIn.unary w (spread x (let b = v.begins in omega arith) (let e = v.ends in omega arith))
wrapped_in s (TreeIn.cast v x) h g w = TreeIn.cast w (spread x (let b = v.begins in omega arith) (let e = v.ends in omega arith))
wrapped_in s (TreeIn.binary {m = m} v x y) h g w =
    TreeIn.binary {m = m} w (spread x (let b = v.begins in omega arith) (omega arith)) (spread y (omega arith) (let e = v.ends in omega arith))
wrapped_in s (TreeIn.choice {m = m} {n = n} v x y z) h g w =
    TreeIn.choice {m = m} {n = n} w (spread x (let b = v.begins in omega arith) (omega arith)) y (spread z (omega arith) (let e = v.ends in omega arith))
wrapped_in s (TreeIn.assign {m = m} v x y) h g w =
    TreeIn.assign {m = m} w (spread x (let b = v.begins in omega arith) (omega arith)) (spread y (omega arith) (let e = v.ends in omega arith))
wrapped_in s (TreeIn.bump v x) h g w = TreeIn.bump w (spread x (let b = v.begins in omega arith) (let e = v.ends in omega arith))
wrapped_in s (TreeIn.comma {m = m} v x y) h g w =
    TreeIn.comma {m = m} w (spread x (let b = v.begins in omega arith) (omega arith)) (spread y (omega arith) (let e = v.ends in omega arith))

-- ---- trees of parts

prefixed_in : {i j k : ℕ} {t : Tree} (f : UnOp) (s : Span) → i ≤ s.from → s.from < s.to → s.to ≤ j → TreeIn j k t
    → TreeIn i k (prefixed f s t)
prefixed_in f s a b c x =
    let w = text_in x in
    TreeIn.unary (record { begins = a; covers = omega arith; ends = w.ends }) (moved x (record { begins = omega arith; covers = w.covers; ends = omega arith }))

cast_in : {i j k : ℕ} {t : Tree} (ty : Ty) (s : Span) → i ≤ s.from → s.from < s.to → s.to ≤ j → TreeIn j k t
    → TreeIn i k (tree.cast ty t (over s (span_of t)))
cast_in ty s a b c x =
    let w = text_in x in
    TreeIn.cast (record { begins = a; covers = omega arith; ends = w.ends }) (moved x (record { begins = omega arith; covers = w.covers; ends = omega arith }))

bump_before_in : {i j k : ℕ} {t : Tree} (up : Bool) (s : Span) → i ≤ s.from → s.from < s.to → s.to ≤ j → TreeIn j k t
    → TreeIn i k (tree.bump Bool.true up t (over s (span_of t)))
bump_before_in up s a b c x =
    let w = text_in x in
    TreeIn.bump (record { begins = a; covers = omega arith; ends = w.ends }) (moved x (record { begins = omega arith; covers = w.covers; ends = omega arith }))

bump_after_in : {i j : ℕ} {t : Tree} (up : Bool) (s : Span) → TreeIn i j t → j ≤ s.from → s.from < s.to
    → TreeIn i s.to (tree.bump Bool.false up t (over (span_of t) s))
bump_after_in up s x a b =
    let w = text_in x in
    TreeIn.bump (record { begins = w.begins; covers = omega arith; ends = omega arith }) (moved x (record { begins = omega arith; covers = w.covers; ends = omega arith }))

joined_in : {i j k l : ℕ} {t u : Tree} (f : BinOp) → TreeIn i j t → j ≤ k → TreeIn k l u → TreeIn i l (joined f t u)
joined_in {j = j} f x h y =
    let v = text_in x in
    let w = text_in y in
    TreeIn.binary {m = j} (record { begins = v.begins; covers = omega arith; ends = w.ends })
    (moved x (record { begins = omega arith; covers = v.covers; ends = v.ends })) (moved y (record { begins = omega arith; covers = w.covers; ends = omega arith }))

assigned_in : {i j k l : ℕ} {t u : Tree} (f : Option BinOp) → TreeIn i j t → j ≤ k → TreeIn k l u
    → TreeIn i l (assigned f t u)
assigned_in {j = j} f x h y =
    let v = text_in x in
    let w = text_in y in
    TreeIn.assign {m = j} (record { begins = v.begins; covers = omega arith; ends = w.ends })
    (moved x (record { begins = omega arith; covers = v.covers; ends = v.ends })) (moved y (record { begins = omega arith; covers = w.covers; ends = omega arith }))

followed_in : {i j k l : ℕ} {t u : Tree} → TreeIn i j t → j ≤ k → TreeIn k l u → TreeIn i l (followed t u)
followed_in {j = j} x h y =
    let v = text_in x in
    let w = text_in y in
    TreeIn.comma {m = j} (record { begins = v.begins; covers = omega arith; ends = w.ends })
    (moved x (record { begins = omega arith; covers = v.covers; ends = v.ends })) (moved y (record { begins = omega arith; covers = w.covers; ends = omega arith }))

chosen_in : {i j k l m n : ℕ} {t u v : Tree} → TreeIn i j t → j ≤ k → TreeIn k l u → l ≤ m → TreeIn m n v
    → TreeIn i n (chosen t u v)
chosen_in {j = j} {l = l} x h y g z =
    let a = text_in x in
    let b = text_in y in
    let c = text_in z in
    TreeIn.choice {m = j} {n = l} (record { begins = a.begins; covers = omega arith; ends = c.ends })
    (moved x (record { begins = omega arith; covers = a.covers; ends = a.ends })) (spread y h (omega arith))
    (moved z (record { begins = omega arith; covers = c.covers; ends = omega arith }))

-- ---- what is read

-- a part that lies between a place and another, from which on the spans of the tokens after it rise
pub record Placed (P : ℕ → ℕ → Type 0) (from end : ℕ) (b : Tokens) : Type 0 where
  pub at : ℕ
  pub order : from ≤ at
  pub part : P from at
  pub rise : Rise at end b

-- an argument that lies between two places
pub data GivenIn : ℕ → ℕ → Given → Type 0 where
  value : {i j : ℕ} {t : Tree} → TreeIn i j t → GivenIn i j (Given.by_value t)
  format : {i j : ℕ} {w : List ℕ} {s : Span} → Within i j s → GivenIn i j (Given.by_format w s)
  address : {i j : ℕ} {t : Tree} → TreeIn i j t → GivenIn i j (Given.by_address t)

put_in : {i j k : ℕ} {g : Given} {x : tree.Args} → GivenIn i j g → ArgsIn j k x → ArgsIn i k (put g x)
put_in (GivenIn.value x) y = ArgsIn.value x y
put_in (GivenIn.format w) y = ArgsIn.format w y
put_in (GivenIn.address x) y = ArgsIn.address x y

mutual
  pub tree_placed : {N : Nonterminal} {r m : ℕ} {a b : Tokens} {t : Tree} → Reads N r a m b t → (from end : ℕ)
      → Rise from end a → Placed (λ i j. TreeIn i j t) from end b
  tree_placed (Reads.constant {s = s}) from end h =
      record { at = s.to; order = omega arith; part = TreeIn.constant (record { begins = h.0; covers = h.1; ends = omega arith }); rise = h.2 }
  tree_placed (Reads.name {s = s}) from end h =
      record { at = s.to; order = omega arith; part = TreeIn.name (record { begins = h.0; covers = h.1; ends = omega arith }); rise = h.2 }
  tree_placed (Reads.index {s = s} {o = o} {e = e} d) from end h =
      let p = tree_placed d o.to end h.2.2 in
      let q = p.order in
      let g = h.2 in
      let l = p.rise in
      record {
        at = e.to;
        order = omega arith;
        part = TreeIn.index (record { begins = h.0; covers = omega arith; ends = omega arith }) (spread p.part (omega arith) (omega arith));
        rise = p.rise.2;
      }
  tree_placed (Reads.call_bare {s = s} {o = o} {e = e}) from end h =
      let g = h.2 in
      let l = g.2 in
      record { at = e.to; order = omega arith; part = TreeIn.call (record { begins = h.0; covers = omega arith; ends = omega arith }) (ArgsIn.no_args (omega arith)); rise = l.2 }
  tree_placed (Reads.call {s = s} {o = o} {e = e} d) from end h =
      let p = args_placed d o.to end h.2.2 in
      let q = p.order in
      let g = h.2 in
      let l = p.rise in
      record {
        at = e.to;
        order = omega arith;
        part = TreeIn.call (record { begins = h.0; covers = omega arith; ends = omega arith }) (args_spread p.part (omega arith) (omega arith));
        rise = p.rise.2;
      }
  tree_placed (Reads.paren {o = o} {e = e} d) from end h =
      let p = tree_placed d o.to end h.2 in
      let q = p.order in
      let l = p.rise in
      record {
        at = e.to;
        order = omega arith;
        part = wrapped_in (over o e) p.part (omega arith) (omega arith) (record { begins = h.0; covers = omega arith; ends = omega arith });
        rise = p.rise.2;
      }
  tree_placed (Reads.postfix d) from end h = tree_placed d from end h
  tree_placed (Reads.bump_after {s = s} {up = up} e d) from end h =
      let p = tree_placed d from end h in
      let q = p.order in
      let l = p.rise in
      record { at = s.to; order = omega arith; part = bump_after_in up s p.part l.0 l.1; rise = l.2 }
  tree_placed (Reads.unary d) from end h = tree_placed d from end h
  tree_placed (Reads.bump_before {s = s} {up = up} e d) from end h =
      let p = tree_placed d s.to end h.2 in
      let q = p.order in
      record { at = p.at; order = omega arith; part = bump_before_in up s h.0 h.1 (omega arith) p.part; rise = p.rise }
  tree_placed (Reads.prefix {s = s} {f = f} e d) from end h =
      let p = tree_placed d s.to end h.2 in
      let q = p.order in
      record { at = p.at; order = omega arith; part = prefixed_in f s h.0 h.1 (omega arith) p.part; rise = p.rise }
  tree_placed (Reads.cast d) from end h = tree_placed d from end h
  tree_placed (Reads.cast_to {o = o} {s = s} {e = e} {ty = ty} f d) from end h =
      let g = h.2 in
      let l = g.2 in
      let p = tree_placed d e.to end l.2 in
      let q = p.order in
      record { at = p.at; order = omega arith; part = cast_in ty o h.0 h.1 (omega arith) p.part; rise = p.rise }
  tree_placed (Reads.operand d) from end h = tree_placed d from end h
  tree_placed (Reads.weaker d) from end h = tree_placed d from end h
  tree_placed (Reads.binary {s = s} {f = f} e i d1 d2) from end h =
      let p = tree_placed d1 from end h in
      let l = p.rise in
      let q = tree_placed d2 s.to end l.2 in
      let x = p.order in
      let y = q.order in
      record { at = q.at; order = omega arith; part = joined_in f p.part (omega arith) q.part; rise = q.rise }
  tree_placed (Reads.conditional d) from end h = tree_placed d from end h
  tree_placed (Reads.choose {s = s} {o = o} d1 d2 d3) from end h =
      let p = tree_placed d1 from end h in
      let l = p.rise in
      let q = tree_placed d2 s.to end l.2 in
      let g = q.rise in
      let v = tree_placed d3 o.to end g.2 in
      let x = p.order in
      let y = q.order in
      let z = v.order in
      record { at = v.at; order = omega arith; part = chosen_in p.part (omega arith) q.part (omega arith) v.part; rise = v.rise }
  tree_placed (Reads.assignment d) from end h = tree_placed d from end h
  tree_placed (Reads.assign {s = s} {f = f} e d1 d2) from end h =
      let p = tree_placed d1 from end h in
      let l = p.rise in
      let q = tree_placed d2 s.to end l.2 in
      let x = p.order in
      let y = q.order in
      record { at = q.at; order = omega arith; part = assigned_in f p.part (omega arith) q.part; rise = q.rise }
  tree_placed (Reads.expression d) from end h = tree_placed d from end h
  tree_placed (Reads.comma {s = s} d1 d2) from end h =
      let p = tree_placed d1 from end h in
      let l = p.rise in
      let q = tree_placed d2 s.to end l.2 in
      let x = p.order in
      let y = q.order in
      record { at = q.at; order = omega arith; part = followed_in p.part (omega arith) q.part; rise = q.rise }

  pub given_placed : {r : ℕ} {a b : Tokens} {g : Given} → Argument r a b g → (from end : ℕ) → Rise from end a
      → Placed (λ i j. GivenIn i j g) from end b
  given_placed (Argument.value d) from end h =
      let p = tree_placed d from end h in
      record { at = p.at; order = p.order; part = GivenIn.value p.part; rise = p.rise }
  given_placed (Argument.format {s = s}) from end h =
      record { at = s.to; order = omega arith; part = GivenIn.format (record { begins = h.0; covers = h.1; ends = omega arith }); rise = h.2 }
  given_placed (Argument.address {s = s} d) from end h =
      let p = tree_placed d s.to end h.2 in
      let q = p.order in
      record { at = p.at; order = omega arith; part = GivenIn.address (spread p.part (omega arith) (omega arith)); rise = p.rise }

  pub args_placed : {r : ℕ} {a b : Tokens} {gs : List Given} → Arguments r a b gs → (from end : ℕ) → Rise from end a
      → Placed (λ i j. ArgsIn i j (args gs)) from end b
  args_placed (Arguments.last d) from end h =
      let p = given_placed d from end h in
      record { at = p.at; order = p.order; part = put_in {j = p.at} p.part (ArgsIn.no_args (omega arith)); rise = p.rise }
  args_placed (Arguments.more {s = s} d e) from end h =
      let p = given_placed d from end h in
      let l = p.rise in
      let q = args_placed e s.to end l.2 in
      let x = p.order in
      let y = q.order in
      record { at = q.at; order = omega arith; part = put_in p.part (args_spread q.part (omega arith) (omega arith)); rise = q.rise }

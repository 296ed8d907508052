-- Parts one after another: a turn of the descent is a turn of the loop that reads them.
use Rattle.std.proofs.Common.{◌≡◌, ℕ, suc, ◌+◌, ◌-◌, ◌<◌, ◌≤◌, Bool, true, false, Option, Some, None, List, [], ◌∷◌, ◌++◌, length, refl, sym, ap, ◌∙◌, append_assoc, arith}
use Rattle.c_tree.specs.declared.place.Span.{Span}
use Rattle.c_tree.specs.declared.expr.BinOp.{BinOp}
use Rattle.c_tree.specs.Tree as tree
use Rattle.c_tree.specs.Tree.{Tree, Body, Code, Outer}
use Rattle.c_grammar.specs.declared.terminal.Terminal.{Terminal}
use Rattle.c_grammar.specs.declared.nonterminal.Nonterminal.{Nonterminal}
use Rattle.c_grammar.specs.declared.nonterminal.Nonterminal.TheVariants.{Assignment, Binary}
use Rattle.c_grammar.specs.Grammar.{Tokens, joined, followed}
use Rattle.c_grammar.specs.Terminals.{lookahead, operator_at, is_comma, is_close_brace, is_end}
use Rattle.c_grammar.specs.Descent.{Reading, found, unexpected, too_deep, Reader, and_then, taken, opened, Read, operated, operators, comma_by, commas, ahead, after_comma, listed_by, listed, all_listed}
use Rattle.c_grammar.specs.ProgramDescent.{append, before, item, items_by, items_within, items, external, externals_by, externals, program}
use Rattle.c_parse.specs.declared.fault.Stop.{Stop}
use Rattle.c_parse.specs.declared.fault.Stop.TheVariants.{Unexpected, TooDeep, NoMemory}
use Rattle.c_parse.specs.Gives.{stopped}

-- ---- a recursion on a count of turns, beside a loop that counts up

one_more : {X : Type 0} {x : X} (f : ℕ → X) (n at : ℕ) → at < n → x ≡ f (n - at) → x ≡ f (suc (n - (at + 1)))
one_more f n at below e = let turn : n - at ≡ suc (n - (at + 1)) = omega arith in e ∙ ap f turn

no_more : {X : Type 0} {x : X} (f : ℕ → X) (n at : ℕ) → n ≤ at → x ≡ f (n - at) → x ≡ f 0
no_more f n at done e = let none : n - at ≡ 0 = omega arith in e ∙ ap f none

pub deeper : {X : Type 0} (f : ℕ → X) (n : ℕ) → 0 < n → f n ≡ f (suc (n - 1))
deeper f n some = let e : n ≡ suc (n - 1) = omega arith in ap f e

-- where reading has stopped nothing more is read
pub stops : {A B : Type 0} (e : Stop) (b : Tokens) (f : A → Reader B) → and_then (stopped e b) f ≡ stopped e b
stops Unexpected b f = refl
stops TooDeep b f = refl
stops NoMemory b f = refl

-- ---- operators

-- Some operators with their operands are read: what all of them come to is what the others come to after the expression t.
pub record OperatorsRead (self : Nonterminal → Reader Read) (j : ℕ) (whole : Reading Read) (n : ℕ) (t : Read) (m : ℕ) (b : Tokens) : Type 0 where
  pub so_far : whole ≡ operators self n j t m b

module _ {self : Nonterminal → Reader Read} {j : ℕ} {whole : Reading Read} {t : Read} {m : ℕ} {b : Tokens}
    (n at : ℕ) (more : at < n) (k : OperatorsRead self j whole (n - at) t m b) where
  -- after the operand of an operator
  abbrev operand : BinOp → Read → Reader Read
  operand f u q d = operators self (n - (at + 1)) j (joined f t.0 u.0, false) q d

  -- after an operator
  abbrev operator : BinOp → Span → Reader Read
  operator f s p c = and_then (self (Binary j) p c) (operand f)

  operator_turn : (o : Option BinOp) → operator_at (suc j) (lookahead b) ≡ o → whole ≡ operated self j (operators self (n - (at + 1)) j) o t m b
  operator_turn o h = one_more (λ n. operators self n j t m b) n at more k.so_far ∙ ap (λ o. operated self j (operators self (n - (at + 1)) j) o t m b) h

  -- no operator comes next
  pub operator_absent : operator_at (suc j) (lookahead b) ≡ None → whole ≡ found t m b
  operator_absent h = operator_turn None h

  -- an operator that isn't opened
  pub operator_fails : (f : BinOp) (e : Stop) (c : Tokens) → operator_at (suc j) (lookahead b) ≡ Some f → opened m b ≡ stopped e c → whole ≡ stopped e c
  operator_fails f e c h o = operator_turn (Some f) h ∙ ap (λ o. and_then o (operator f)) o ∙ stops e c (operator f)

  -- an operand that isn't read
  pub operand_fails : {s : Span} {p : ℕ} {c : Tokens} (f : BinOp) (e : Stop) (d : Tokens) → operator_at (suc j) (lookahead b) ≡ Some f
      → opened m b ≡ found s p c → self (Binary j) p c ≡ stopped e d → whole ≡ stopped e d
  operand_fails f e d h o v = operator_turn (Some f) h ∙ ap (λ o. and_then o (operator f)) o ∙ ap (λ o. and_then o (operand f)) v ∙ stops e d (operand f)

  -- an operator and its operand
  pub operator_goes : {s : Span} {p q : ℕ} {c d : Tokens} {u : Read} {z : Tree} (f : BinOp) → operator_at (suc j) (lookahead b) ≡ Some f
      → opened m b ≡ found s p c → self (Binary j) p c ≡ found u q d → z ≡ joined f t.0 u.0
      → OperatorsRead self j whole (n - (at + 1)) (z, false) q d
  operator_goes {q = q} {d = d} f h o v y = record {
    so_far =
        operator_turn (Some f) h ∙ ap (λ o. and_then o (operator f)) o ∙ ap (λ o. and_then o (operand f)) v
        ∙ ap (λ z. operators self (n - (at + 1)) j (z, false) q d) (sym y);
  }

-- no turn is left
pub operators_end : {self : Nonterminal → Reader Read} {j : ℕ} {whole : Reading Read} {t : Read} {m : ℕ} {b : Tokens} (n at : ℕ) → n ≤ at
    → OperatorsRead self j whole (n - at) t m b → whole ≡ too_deep b
operators_end {self} {j} {t = t} {m} {b} n at done k = no_more (λ n. operators self n j t m b) n at done k.so_far

-- Some commas with their operands are read.
pub record CommasRead (self : Nonterminal → Reader Read) (whole : Reading Read) (n : ℕ) (t : Read) (m : ℕ) (b : Tokens) : Type 0 where
  pub so_far : whole ≡ commas self n t m b

module _ {self : Nonterminal → Reader Read} {whole : Reading Read} {t : Read} {m : ℕ} {b : Tokens}
    (n at : ℕ) (more : at < n) (k : CommasRead self whole (n - at) t m b) where
  -- after the operand of a comma
  abbrev right : Read → Reader Read
  right u q d = commas self (n - (at + 1)) (followed t.0 u.0, false) q d

  -- after a comma
  abbrev comma : Span → Reader Read
  comma s p c = and_then (self Assignment p c) right

  comma_turn : (z : Bool) → is_comma (lookahead b) ≡ z → whole ≡ comma_by self z (commas self (n - (at + 1))) t m b
  comma_turn z h = one_more (λ n. commas self n t m b) n at more k.so_far ∙ ap (λ z. comma_by self z (commas self (n - (at + 1))) t m b) h

  -- no comma comes next
  pub comma_absent : is_comma (lookahead b) ≡ false → whole ≡ found t m b
  comma_absent h = comma_turn false h

  -- a comma that isn't opened
  pub comma_unopened : (e : Stop) (c : Tokens) → is_comma (lookahead b) ≡ true → opened m b ≡ stopped e c → whole ≡ stopped e c
  comma_unopened e c h o = comma_turn true h ∙ ap (λ o. and_then o comma) o ∙ stops e c comma

  -- an operand that isn't read
  pub right_fails : {s : Span} {p : ℕ} {c : Tokens} (e : Stop) (d : Tokens) → is_comma (lookahead b) ≡ true → opened m b ≡ found s p c
      → self Assignment p c ≡ stopped e d → whole ≡ stopped e d
  right_fails e d h o v = comma_turn true h ∙ ap (λ o. and_then o comma) o ∙ ap (λ o. and_then o right) v ∙ stops e d right

  -- a comma and its operand
  pub right_goes : {s : Span} {p q : ℕ} {c d : Tokens} {u : Read} {z : Tree} → is_comma (lookahead b) ≡ true → opened m b ≡ found s p c
      → self Assignment p c ≡ found u q d → z ≡ followed t.0 u.0
      → CommasRead self whole (n - (at + 1)) (z, false) q d
  right_goes {q = q} {d = d} h o v y = record {
    so_far = comma_turn true h ∙ ap (λ o. and_then o comma) o ∙ ap (λ o. and_then o right) v ∙ ap (λ z. commas self (n - (at + 1)) (z, false) q d) (sym y);
  }

-- no turn is left
pub commas_end : {self : Nonterminal → Reader Read} {whole : Reading Read} {t : Read} {m : ℕ} {b : Tokens} (n at : ℕ) → n ≤ at
    → CommasRead self whole (n - at) t m b → whole ≡ too_deep b
commas_end {self} {t = t} {m} {b} n at done k = no_more (λ n. commas self n t m b) n at done k.so_far

-- ---- lists with commas

ahead-none : {A : Type 0} (o : Reading (List A)) → ahead [] o ≡ o
ahead-none (found xs m b) = refl
ahead-none (unexpected b) = refl
ahead-none (too_deep b) = refl

ahead-ahead : {A : Type 0} (xs ys : List A) (o : Reading (List A)) → ahead xs (ahead ys o) ≡ ahead (xs ++ ys) o
ahead-ahead xs ys (found zs m b) = ap (λ z. found z m b) (sym (append_assoc xs ys zs))
ahead-ahead xs ys (unexpected b) = refl
ahead-ahead xs ys (too_deep b) = refl

ahead-stopped : {A : Type 0} (xs : List A) (e : Stop) (b : Tokens) → ahead xs (stopped e b) ≡ stopped e b
ahead-stopped xs e b = stops e b (λ ys m c. found (xs ++ ys) m c)

-- Some parts of a list are read: what the whole list comes to is them and what the other parts come to.
pub record ListRead {A : Type 0} (ends : Terminal → Bool) (part : Tokens → Reading A) (whole : Reading (List A)) (xs : List A) (n r : ℕ) (a : Tokens) : Type 0
  where
    pub so_far : whole ≡ ahead xs (listed ends part n r a)

-- before the first part
pub list_begins : {A : Type 0} {ends : Terminal → Bool} {part : Tokens → Reading A} {xs : List A} {n r : ℕ} {a : Tokens} → xs ≡ [] → n ≡ suc (length a)
    → ListRead ends part (all_listed ends part r a) xs n r a
list_begins {ends = ends} {part} {xs} {n} {r} {a} p q = record {
  so_far =
      sym (ahead-none (all_listed ends part r a)) ∙ ap (λ n. ahead [] (listed ends part n r a)) (sym q)
      ∙ ap (λ xs. ahead xs (listed ends part n r a)) (sym p);
}

module _ {A : Type 0} {ends : Terminal → Bool} {part : Tokens → Reading A} {whole : Reading (List A)} {xs : List A} {r : ℕ} {a : Tokens}
    (n at : ℕ) (more : at < n) (k : ListRead ends part whole xs (n - at) r a) where
  -- the parts after a comma
  abbrev others : ℕ → Tokens → Reading (List A)
  others = listed ends part (n - (at + 1))

  -- after a comma
  abbrev separated : A → Span → Reader (List A)
  separated x s q c = after_comma ends part (ends (lookahead c)) others x q c

  -- after a part
  abbrev parted : A → Reader (List A)
  parted x m b = listed_by ends part (is_comma (lookahead b)) others x m b

  list_turn : (o : Reading A) → part a ≡ o → whole ≡ ahead xs (and_then o parted)
  unfolding listed
  list_turn o h = one_more (λ n. ahead xs (listed ends part n r a)) n at more k.so_far ∙ ap (λ o. ahead xs (and_then o parted)) h

  -- the part isn't read
  pub part_fails : (e : Stop) (b : Tokens) → part a ≡ stopped e b → whole ≡ stopped e b
  part_fails e b h = list_turn (stopped e b) h ∙ ap (ahead xs) (stops e b parted) ∙ ahead-stopped xs e b

  part_turn : (x : A) (m : ℕ) (b : Tokens) (z : Bool) → part a ≡ found x m b → is_comma (lookahead b) ≡ z
      → whole ≡ ahead xs (listed_by ends part z others x m b)
  part_turn x m b z h c = list_turn (found x m b) h ∙ ap (λ z. ahead xs (listed_by ends part z others x m b)) c

  -- the part is the last
  pub part_ends : {ys : List A} {x : A} {m : ℕ} {b : Tokens} → part a ≡ found x m b → is_comma (lookahead b) ≡ false → ys ≡ xs ++ x ∷ [] → whole ≡ found ys m b
  part_ends {x = x} {m} {b} h c p = part_turn x m b false h c ∙ ap (λ z. found z m b) (sym p)

  -- the comma isn't taken
  pub comma_fails : {x : A} {m : ℕ} {b : Tokens} (e : Stop) (d : Tokens) → part a ≡ found x m b → is_comma (lookahead b) ≡ true → taken m b ≡ stopped e d
      → whole ≡ stopped e d
  comma_fails {x} {m} {b} e d h c t =
      part_turn x m b true h c ∙ ap (λ o. ahead xs (and_then o (separated x))) t ∙ ap (ahead xs) (stops e d (separated x)) ∙ ahead-stopped xs e d

  separated_turn : (x : A) (m : ℕ) (b : Tokens) (s : Span) (q : ℕ) (d : Tokens) (z : Bool) → part a ≡ found x m b → is_comma (lookahead b) ≡ true
      → taken m b ≡ found s q d → ends (lookahead d) ≡ z
      → whole ≡ ahead xs (after_comma ends part z others x q d)
  separated_turn x m b s q d z h c t e =
      part_turn x m b true h c ∙ ap (λ o. ahead xs (and_then o (separated x))) t ∙ ap (λ z. ahead xs (after_comma ends part z others x q d)) e

  -- after the comma the list ends
  pub comma_ends : {ys : List A} {x : A} {m q : ℕ} {b d : Tokens} {s : Span} → part a ≡ found x m b → is_comma (lookahead b) ≡ true → taken m b ≡ found s q d
      → ends (lookahead d) ≡ true → ys ≡ xs ++ x ∷ []
      → whole ≡ found ys q d
  comma_ends {x = x} {m} {q} {b} {d} {s} h c t e p = separated_turn x m b s q d true h c t e ∙ ap (λ z. found z q d) (sym p)

  -- after the comma the list goes on
  pub comma_goes : {ys : List A} {x : A} {m q : ℕ} {b d : Tokens} {s : Span} → part a ≡ found x m b → is_comma (lookahead b) ≡ true → taken m b ≡ found s q d
      → ends (lookahead d) ≡ false → ys ≡ xs ++ x ∷ []
      → ListRead ends part whole ys (n - (at + 1)) q d
  comma_goes {x = x} {m} {q} {b} {d} {s} h c t e p = record {
    so_far = separated_turn x m b s q d false h c t e ∙ ahead-ahead xs (x ∷ []) (others q d) ∙ ap (λ z. ahead z (others q d)) (sym p);
  }

-- no turn is left
pub list_ends : {A : Type 0} {ends : Terminal → Bool} {part : Tokens → Reading A} {whole : Reading (List A)} {xs : List A} {r : ℕ} {a : Tokens} (n at : ℕ)
    → n ≤ at → ListRead ends part whole xs (n - at) r a → whole ≡ unexpected a
unfolding listed
list_ends {ends = ends} {part} {xs = xs} {r} {a} n at done k = no_more (λ n. ahead xs (listed ends part n r a)) n at done k.so_far

-- ---- the items of a block

append-done : (x : Body) → append x tree.done ≡ x
append-done tree.done = refl
append-done (tree.next c x) = ap (tree.next c) (append-done x)
append-done (tree.vars ty vs x) = ap (tree.vars ty vs) (append-done x)

append-append : (x y z : Body) → append (append x y) z ≡ append x (append y z)
append-append tree.done y z = refl
append-append (tree.next c x) y z = ap (tree.next c) (append-append x y z)
append-append (tree.vars ty vs x) y z = ap (tree.vars ty vs) (append-append x y z)

before-before : (x y : Body) (o : Reading Body) → before x (before y o) ≡ before (append x y) o
before-before x y (found z m b) = ap (λ z. found z m b) (sym (append-append x y z))
before-before x y (unexpected b) = refl
before-before x y (too_deep b) = refl

before-done : (o : Reading Body) → before tree.done o ≡ o
before-done (found z m b) = refl
before-done (unexpected b) = refl
before-done (too_deep b) = refl

-- Some items of a block are read: what all its items come to is them and what the others come to.
pub record ItemsRead (self : Tokens → Reading Code) (whole : Reading Body) (x : Body) (n r : ℕ) (a : Tokens) : Type 0 where
  pub so_far : whole ≡ before x (items_within self n r a)

-- before the first item
pub items_begin : {self : Tokens → Reading Code} {x : Body} {n r : ℕ} {a : Tokens} → x ≡ tree.done → n ≡ suc (length a)
    → ItemsRead self (items self r a) x n r a
items_begin {self} {x} {n} {r} {a} p q = record {
  so_far =
      sym (before-done (items self r a)) ∙ ap (λ n. before tree.done (items_within self n r a)) (sym q)
      ∙ ap (λ x. before x (items_within self n r a)) (sym p);
}

module _ {self : Tokens → Reading Code} {whole : Reading Body} {x : Body} {r : ℕ} {a : Tokens}
    (n at : ℕ) (more : at < n) (k : ItemsRead self whole x (n - at) r a) where
  -- after an item
  abbrev itemised : Body → Reader Body
  itemised y m b = before y (items_within self (n - (at + 1)) r b)

  items_turn : (z : Bool) → is_close_brace (lookahead a) ≡ z → whole ≡ before x (items_by self z (items_within self (n - (at + 1))) r a)
  unfolding items_within
  items_turn z h =
      one_more (λ n. before x (items_within self n r a)) n at more k.so_far ∙ ap (λ z. before x (items_by self z (items_within self (n - (at + 1))) r a)) h

  -- the block ends
  pub items_end : is_close_brace (lookahead a) ≡ true → whole ≡ found x r a
  items_end h = items_turn true h ∙ ap (λ y. found y r a) (append-done x)

  -- the item isn't read
  pub item_fails : (e : Stop) (b : Tokens) → is_close_brace (lookahead a) ≡ false → item self r a ≡ stopped e b → whole ≡ stopped e b
  item_fails e b h o =
      items_turn false h ∙ ap (λ o. before x (and_then o itemised)) o ∙ ap (before x) (stops e b itemised) ∙ stops e b (λ y m b. found (append x y) m b)

  -- an item more
  pub item_goes : {y z : Body} {m : ℕ} {b : Tokens} → is_close_brace (lookahead a) ≡ false → item self r a ≡ found y m b → z ≡ append x y
      → ItemsRead self whole z (n - (at + 1)) r b
  item_goes {y} {z} {m} {b} h o p = record {
    so_far =
        items_turn false h ∙ ap (λ o. before x (and_then o itemised)) o ∙ before-before x y (items_within self (n - (at + 1)) r b)
        ∙ ap (λ z. before z (items_within self (n - (at + 1)) r b)) (sym p);
  }

-- no turn is left
pub block_ends : {self : Tokens → Reading Code} {whole : Reading Body} {x : Body} {r : ℕ} {a : Tokens} (n at : ℕ) → n ≤ at
    → ItemsRead self whole x (n - at) r a → whole ≡ unexpected a
unfolding items_within
block_ends {self} {x = x} {r} {a} n at done k = no_more (λ n. before x (items_within self n r a)) n at done k.so_far

-- ---- what stands at file scope

-- Some of it is read: what all of it comes to is that and what the rest comes to.
pub record ExternalsRead (whole : Reading (List Outer)) (xs : List Outer) (n r : ℕ) (a : Tokens) : Type 0 where
  pub so_far : whole ≡ ahead xs (externals n r a)

-- before the first of it
pub externals_begin : {xs : List Outer} {n r : ℕ} {a : Tokens} → xs ≡ [] → n ≡ suc (length a) → ExternalsRead (program r a) xs n r a
externals_begin {xs} {n} {r} {a} p q = record {
  so_far = sym (ahead-none (program r a)) ∙ ap (λ n. ahead [] (externals n r a)) (sym q) ∙ ap (λ xs. ahead xs (externals n r a)) (sym p);
}

module _ {whole : Reading (List Outer)} {xs : List Outer} {r : ℕ} {a : Tokens} (n at : ℕ) (more : at < n) (k : ExternalsRead whole xs (n - at) r a) where
  -- after one of it
  abbrev outermost : Outer → Reader (List Outer)
  outermost x m b = externals_by (is_end (lookahead b)) (externals (n - (at + 1))) x m b

  externals_turn : (o : Reading Outer) → external r a ≡ o → whole ≡ ahead xs (and_then o outermost)
  unfolding externals
  externals_turn o h = one_more (λ n. ahead xs (externals n r a)) n at more k.so_far ∙ ap (λ o. ahead xs (and_then o outermost)) h

  -- it isn't read
  pub external_fails : (e : Stop) (b : Tokens) → external r a ≡ stopped e b → whole ≡ stopped e b
  external_fails e b h = externals_turn (stopped e b) h ∙ ap (ahead xs) (stops e b outermost) ∙ ahead-stopped xs e b

  external_turn : (x : Outer) (m : ℕ) (b : Tokens) (z : Bool) → external r a ≡ found x m b → is_end (lookahead b) ≡ z
      → whole ≡ ahead xs (externals_by z (externals (n - (at + 1))) x m b)
  external_turn x m b z h e = externals_turn (found x m b) h ∙ ap (λ z. ahead xs (externals_by z (externals (n - (at + 1))) x m b)) e

  -- it is the last
  pub external_ends : {ys : List Outer} {x : Outer} {m : ℕ} {b : Tokens} → external r a ≡ found x m b → is_end (lookahead b) ≡ true → ys ≡ xs ++ x ∷ []
      → whole ≡ found ys m b
  external_ends {x = x} {m} {b} h e p = external_turn x m b true h e ∙ ap (λ z. found z m b) (sym p)

  -- one more
  pub external_goes : {ys : List Outer} {x : Outer} {m : ℕ} {b : Tokens} → external r a ≡ found x m b → is_end (lookahead b) ≡ false → ys ≡ xs ++ x ∷ []
      → ExternalsRead whole ys (n - (at + 1)) m b
  external_goes {x = x} {m} {b} h e p = record {
    so_far =
        external_turn x m b false h e ∙ ahead-ahead xs (x ∷ []) (externals (n - (at + 1)) m b) ∙ ap (λ z. ahead z (externals (n - (at + 1)) m b)) (sym p);
  }

-- no turn is left
pub externals_end : {whole : Reading (List Outer)} {xs : List Outer} {r : ℕ} {a : Tokens} (n at : ℕ) → n ≤ at → ExternalsRead whole xs (n - at) r a
    → whole ≡ unexpected a
unfolding externals
externals_end {xs = xs} {r} {a} n at done k = no_more (λ n. ahead xs (externals n r a)) n at done k.so_far

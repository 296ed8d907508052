-- Declarations and a location: each holds the location, or stays what it is.
use Rattle.std.proofs.Common.{◌≡◌, ℕ, true, List, [], ◌∷◌, ◌++◌, map, Option, sym, refl, ap, ◌∙◌, subst, append_assoc}
use Rattle.std.specs.List.{flat_map}
use Rattle.c_lex.specs.declared.token.TokenKind.TheVariants as kind
use Rattle.c_lex.specs.declared.token.Punct.TheVariants as mark
use Rattle.c_lex.specs.Lexemes.{Rise, kinds}
use Rattle.c_tree.specs.declared.place.Loc.{Loc}
use Rattle.c_tree.specs.declared.stmt.Ty.{Ty}
use Rattle.c_tree.specs.declared.stmt.Shape.TheVariants.{Array}
use Rattle.c_tree.specs.Tree as tree
use Rattle.c_tree.specs.Tree.{Tree, Variable, First, bare, bare_option, bare_variable, bare_first}
use Rattle.c_location.specs.Locations.{Located, in_tree, in_step, in_value, in_initial, in_variables, in_first}
use Rattle.c_location.specs.Rewrites.{Rewrite, to_tree, to_step, to_value, to_variable, to_first}
use Rattle.c_grammar.specs.Grammar.{Tokens, over}
use Rattle.c_grammar.specs.Programs.{variable, Elements, Declarator, Declarators, Vars, Clause, Optional}
use Rattle.c_replace.specs.Shapes.{is_settled}
use Rattle.c_replace.specs.Forms.{Formed}
use Rattle.c_replace.proofs.Splits.{kinds_append, settled_append}
use Rattle.c_replace.proofs.Owned.{owned}
use Rattle.c_replace.proofs.Forms as form
use Rattle.c_replace.proofs.Forms.{VarsIn, bare_vars}
use Rattle.c_replace.proofs.Shapes as expression
use Rattle.c_replace.proofs.Declared.{prefix_join, prefix_end, owned_length}
use Rattle.c_replace.proofs.Holes.{Edited, Before, rise_split, found_alone, carry, carry_last, two_last}
use Rattle.c_replace.proofs.EditedExpressions.{Alone, further, begin, side, owned_as, edited_tree}

module _ (l : Loc) where
  -- ---- declarations

  -- the own tokens of a part, which holds the location, or stays what it is
  pub record EditedPart {X : Type 0} (R : ℕ → Tokens → Tokens → X → Type 0) (bare : X → X)
      (to : Rewrite → X → X) (a b : Tokens) (x : X) (locs : List Located) : Type 0 where
    pub own : Tokens
    pub splits : a ≡ own ++ b
    pub edited : (lo hi : ℕ) → Rise lo hi own
        → Edited l (Before l) (λ ks how. Formed R bare ks (bare (to how x))) locs own

  -- the elements of an initialiser list
  pub elements : {r : ℕ} {a b : Tokens} {ts : List Tree} → Elements r a b ts
      → EditedPart Elements (map bare) (λ how ts. map (to_tree l how) ts) a b ts (flat_map in_tree ts)
  elements (Elements.last {t = t} d) =
      let o = edited_tree l d in
      record {
        own = o.own;
        splits = o.splits;
        edited = λ lo hi r. carry_last [] refl (λ q h. h) (found_alone l (in_tree t))
            (λ ks how x. form.elements_last x) (o.edited lo hi r);
      }
  elements (Elements.last_comma {b = b} {t = t} {s = s} d) =
      let o = edited_tree l d in
      record {
        own = o.own ++ (kind.Punct mark.Comma, s) ∷ [];
        splits = prefix_end b o.own (kind.Punct mark.Comma) s o.splits;
        edited = λ lo hi r.
            let at = rise_split o.own ((kind.Punct mark.Comma, s) ∷ []) lo hi r in
            carry [] ((kind.Punct mark.Comma, s) ∷ []) refl (λ q h. h) (found_alone l (in_tree t))
            (λ ks how x. form.elements_last_comma x) (o.edited lo at.0 at.1);
      }
  elements (Elements.more {c = c} {t = t} {ts = ts} {s = s} d e) =
      let o = edited_tree l d in
      let p = elements e in
      record {
        own = o.own ++ (kind.Punct mark.Comma, s) ∷ p.own;
        splits = prefix_join c o.own ((kind.Punct mark.Comma, s) ∷ p.own) o.splits
            (ap (λ q. (kind.Punct mark.Comma, s) ∷ q) p.splits);
        edited = λ lo hi r.
            let at = rise_split o.own ((kind.Punct mark.Comma, s) ∷ p.own) lo hi r in
            two_last [] o.own ((kind.Punct mark.Comma, s) ∷ []) p.own
            (o.own ++ (kind.Punct mark.Comma, s) ∷ p.own) refl (λ q h. h)
            (further l (o.own ++ (kind.Punct mark.Comma, s) ∷ []))
            (λ ks js how x y. form.elements_more x y)
            refl lo hi r (o.edited lo at.0 at.1) (p.edited s.to hi at.2.2);
      }

  -- a declared variable
  pub declarator : {r : ℕ} {a b : Tokens} {v : Variable} → Declarator r a b v
      → EditedPart Declarator bare_variable (λ how v. to_variable l how v) a b v (in_initial v.start)
  declarator (Declarator.scalar {w = w} {s = s}) = record {
    own = (kind.Name w, s) ∷ [];
    splits = refl;
    edited = λ lo hi r. Edited.kept refl (λ how. form.scalar w);
  }
  declarator (Declarator.scalar_start {w = w} {s = s} {o = p} {t = t} d) =
      let o = edited_tree l d in
      record {
        own = (kind.Name w, s) ∷ (kind.Punct mark.Assign, p) ∷ o.own;
        splits = ap (λ q. (kind.Name w, s) ∷ (kind.Punct mark.Assign, p) ∷ q) o.splits;
        edited = λ lo hi r. carry_last ((kind.Name w, s) ∷ (kind.Punct mark.Assign, p) ∷ []) refl
            (begin l ((kind.Name w, s) ∷ (kind.Punct mark.Assign, p) ∷ []) refl) refl
            (λ ks how x. form.scalar_start w x)
            (side l (owned d) o (λ ks u x. x) (λ ks u x. expression.expression x) p.to hi r.2.2);
      }
  declarator (Declarator.array {w = w} {s = s} d) =
      let o = owned_length d in
      record {
        own = (kind.Name w, s) ∷ o.own;
        splits = ap (λ q. (kind.Name w, s) ∷ q) o.splits;
        edited = λ lo hi r. Edited.kept refl (λ how. form.array w o.formed);
      }
  declarator (Declarator.array_list {c = c} {w = w} {s = s} {e = n} {o = i} {p = j} {q = k} {n = size}
      {ts = ts} d e) =
      let o = owned_length d in
      let p = elements e in
      let middle : Tokens = (kind.Punct mark.Assign, i) ∷ (kind.Punct mark.OpenBrace, j) ∷ [] in
      let end : Tokens = (kind.Punct mark.CloseBrace, k) ∷ [] in
      let start : Tokens = (kind.Name w, s) ∷ (o.own ++ middle) in
      record {
        own = start ++ (p.own ++ end);
        splits = ap (λ q. (kind.Name w, s) ∷ q) (prefix_join c (o.own ++ middle) (p.own ++ end)
            (prefix_join _ o.own middle o.splits refl) (prefix_join c p.own end p.splits refl));
        edited = λ lo hi r.
            let first = rise_split start (p.own ++ end) lo hi r in
            let second = rise_split p.own end first.0 hi first.2 in
            carry start end refl (further l start) refl (λ ks how x.
            let same : kinds (o.own ++ middle) ++ (ks ++ kind.Punct mark.CloseBrace ∷ [])
            ≡ kinds o.own ++ kind.Punct mark.Assign ∷ kind.Punct mark.OpenBrace ∷
            (ks ++ kind.Punct mark.CloseBrace ∷ []) =
            ap (λ y. y ++ (ks ++ kind.Punct mark.CloseBrace ∷ [])) (kinds_append o.own middle)
            ∙ append_assoc (kinds o.own) (kinds middle) (ks ++ kind.Punct mark.CloseBrace ∷ []) in
            subst (λ y. Formed Declarator bare_variable (kind.Name w ∷ y)
            (bare_variable
            (to_variable l how (variable w (over s n) (Array size) (tree.list_start ts)))))
            (sym same) (form.array_list w o.formed x)) (p.edited first.0 second.0 second.1);
      }

  -- declared variables
  pub declarators : {r : ℕ} {a b : Tokens} {vs : List Variable} → Declarators r a b vs
      → EditedPart Declarators (map bare_variable) (λ how vs. map (to_variable l how) vs) a b vs
      (in_variables vs)
  declarators (Declarators.last {v = v} d) =
      let o = declarator d in
      record {
        own = o.own;
        splits = o.splits;
        edited = λ lo hi r. carry_last [] refl (λ q h. h) (found_alone l (in_initial v.start))
            (λ ks how x. form.declarators_last x) (o.edited lo hi r);
      }
  declarators (Declarators.more {c = c} {v = v} {vs = vs} {s = s} d e) =
      let o = declarator d in
      let p = declarators e in
      record {
        own = o.own ++ (kind.Punct mark.Comma, s) ∷ p.own;
        splits = prefix_join c o.own ((kind.Punct mark.Comma, s) ∷ p.own) o.splits
            (ap (λ q. (kind.Punct mark.Comma, s) ∷ q) p.splits);
        edited = λ lo hi r.
            let at = rise_split o.own ((kind.Punct mark.Comma, s) ∷ p.own) lo hi r in
            two_last [] o.own ((kind.Punct mark.Comma, s) ∷ []) p.own
            (o.own ++ (kind.Punct mark.Comma, s) ∷ p.own) refl (λ q h. h)
            (further l (o.own ++ (kind.Punct mark.Comma, s) ∷ []))
            (λ ks js how x y. form.declarators_more x y)
            refl lo hi r (o.edited lo at.0 at.1) (p.edited s.to hi at.2.2);
      }

  -- the own tokens of a declaration, of which the last is `;`
  pub record EditedVars (a b : Tokens) (ty : Ty) (vs : List Variable) : Type 0 where
    pub own : Tokens
    pub splits : a ≡ own ++ b
    pub settled : is_settled own ≡ true
    pub edited : (lo hi : ℕ) → Rise lo hi own
        → Edited l (Before l) (λ ks how. Formed VarsIn bare_vars ks
        (bare_vars (ty, map (to_variable l how) vs))) (in_variables vs) own

  -- a declaration
  pub declaration : {r : ℕ} {a b : Tokens} {ty : Ty} {vs : List Variable} → Vars r a b ty vs
      → EditedVars a b ty vs
  declaration (Vars.vars {b = b} {k = k} {s = s} {e = e} {ty = ty} f d) =
      let o = declarators d in
      record {
        own = (kind.Word k, s) ∷ (o.own ++ (kind.Punct mark.Semicolon, e) ∷ []);
        splits = ap (λ q. (kind.Word k, s) ∷ q) (prefix_end b o.own
            (kind.Punct mark.Semicolon) e o.splits);
        settled = settled_append ((kind.Word k, s) ∷ o.own) ((kind.Punct mark.Semicolon, e) ∷ []) refl;
        edited = λ lo hi r.
            let at = rise_split o.own ((kind.Punct mark.Semicolon, e) ∷ []) s.to hi r.2 in
            carry ((kind.Word k, s) ∷ []) ((kind.Punct mark.Semicolon, e) ∷ []) refl
            (further l ((kind.Word k, s) ∷ [])) refl (λ ks how x. form.vars k ty f x)
            (o.edited s.to at.0 at.1);
      }

  -- the own tokens of the first clause of a `for`, of which the last is `;`
  pub record EditedFirst (a b : Tokens) (i : First) : Type 0 where
    pub own : Tokens
    pub splits : a ≡ own ++ b
    pub settled : is_settled own ≡ true
    pub edited : (lo hi : ℕ) → Rise lo hi own
        → Edited l (Before l) (λ ks how. Formed Clause bare_first ks (bare_first (to_first l how i)))
        (in_first i) own

  -- the first clause of a `for`
  pub first_clause : {r : ℕ} {a b : Tokens} {i : First} → Clause r a b i → EditedFirst a b i
  first_clause (Clause.empty {e = e}) = record {
    own = (kind.Punct mark.Semicolon, e) ∷ [];
    splits = refl;
    settled = refl;
    edited = λ lo hi r. Edited.kept refl (λ how. form.clause_empty);
  }
  first_clause (Clause.act {b = b} {e = e} d) =
      let o = edited_tree l d in
      record {
        own = o.own ++ (kind.Punct mark.Semicolon, e) ∷ [];
        splits = prefix_end b o.own (kind.Punct mark.Semicolon) e o.splits;
        settled = settled_append o.own ((kind.Punct mark.Semicolon, e) ∷ []) refl;
        edited = λ lo hi r.
            let at = rise_split o.own ((kind.Punct mark.Semicolon, e) ∷ []) lo hi r in
            carry [] ((kind.Punct mark.Semicolon, e) ∷ []) refl (λ q h. h) refl
            (λ ks how x. form.clause_act x) (o.edited lo at.0 at.1);
      }
  first_clause (Clause.vars d) =
      let o = declaration d in
      record {
        own = o.own;
        splits = o.splits;
        settled = o.settled;
        edited = λ lo hi r. carry_last [] refl (λ q h. h) refl (λ ks how x. form.clause_vars x)
            (o.edited lo hi r);
      }

  -- the step of a `for`
  pub step : {r : ℕ} {a b : Tokens} {t : Option Tree} → Optional r a b t
      → EditedPart Optional bare_option (λ how t. to_step l how t) a b t (in_step t)
  step Optional.absent = record {
    own = [];
    splits = refl;
    edited = λ lo hi r. Edited.kept refl (λ how. form.absent);
  }
  step (Optional.present d) = let o = edited_tree l d in record {
    own = o.own;
    splits = o.splits;
    edited = λ lo hi r. carry_last [] refl (λ q h. h) refl (λ ks how x. form.present x)
        (o.edited lo hi r);
  }

  -- the own tokens of the value of a `return`
  pub record EditedValue (a b : Tokens) (t : Option Tree) : Type 0 where
    pub own : Tokens
    pub splits : a ≡ own ++ b
    pub formed : Formed Optional bare_option (kinds own) (bare_option t)
    pub edited : (lo hi : ℕ) → Rise lo hi own
        → Edited l (Alone l) (λ ks how. Formed Optional bare_option ks (bare_option (to_value l how t)))
        (in_value t) own

  -- the value of a `return`
  pub returned : {r : ℕ} {a b : Tokens} {t : Option Tree} → Optional r a b t → EditedValue a b t
  returned Optional.absent = record {
    own = [];
    splits = refl;
    formed = form.absent;
    edited = λ lo hi r. Edited.kept refl (λ how. form.absent);
  }
  returned (Optional.present d) =
      let o = edited_tree l d in
      let w = owned d in
      record {
        own = o.own;
        splits = o.splits;
        formed = form.present (owned_as l w o).0;
        edited = λ lo hi r. carry_last [] refl (λ q h. h) refl (λ ks how x. form.present x)
            (side l w o (λ ks u x. expression.expression x) (λ ks u x. x) lo hi r);
      }

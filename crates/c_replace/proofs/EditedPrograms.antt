-- Statements and programs and a location: each holds the location, or stays what it is.
use Rattle.std.proofs.Common.{◌≡◌, inl, inr, ℕ, ◌≤◌, Bool, true, false, cond, if◌then◌else◌, List, [], ◌∷◌, ◌++◌, length, Option, Some, None, refl, sym, ap, ◌∙◌, subst, arith, append_assoc, length-append, find}
use Rattle.std.proofs.lemmas.List.{append-nil}
use Rattle.c_lex.specs.declared.token.TokenKind.{TokenKind}
use Rattle.c_lex.specs.declared.token.TokenKind.TheVariants as kind
use Rattle.c_lex.specs.declared.token.Keyword.TheVariants as key
use Rattle.c_lex.specs.declared.token.Punct.TheVariants as mark
use Rattle.c_lex.specs.Lexemes.{Rise, kinds, Covers}
use Rattle.c_tree.specs.declared.place.Loc.{Loc}
use Rattle.c_tree.specs.declared.place.LocKind.TheVariants.{Guard, Cond}
use Rattle.c_tree.specs.declared.place.Span.{Span}
use Rattle.c_tree.specs.Parts.{span_of, span_of_code}
use Rattle.c_tree.specs.Tree as tree
use Rattle.c_tree.specs.Tree.{Tree, Code, Body, Outer, bare, bare_option, bare_first, bare_code, bare_body, bare_outer, bare_program, no_span}
use Rattle.c_location.specs.Locations.{Located, expression, statement as statement_part, guard, condition, in_tree, in_condition, in_test, in_step, in_value, in_first, in_code, in_body, in_outer, located, stands, is_at}
use Rattle.c_location.specs.Rewrites.{Rewrite, rewrite, at_code, to_tree, to_condition, to_test, to_value, to_first, to_code, to_body, to_outer, rewritten}
use Rattle.c_grammar.specs.declared.nonterminal.Nonterminal.TheVariants.{Expression}
use Rattle.c_grammar.specs.Grammar.{Tokens, over, Reads}
use Rattle.c_grammar.specs.Programs.{function, Clause, Optional, Statement, Items, External, Derives}
use Rattle.c_replace.specs.Shapes.{Shaped, Own, is_settled}
use Rattle.c_replace.specs.Forms.{Formed, ShapedProgram}
use Rattle.c_replace.specs.Replacing.{Fits}
use Rattle.c_replace.proofs.LocationKinds.{stands_is}
use Rattle.c_replace.proofs.Splits.{kinds_append, covers_one, covers_join, covers_before, settled_append}
use Rattle.c_replace.proofs.Owned.{owned}
use Rattle.c_replace.proofs.Forms as form
use Rattle.c_replace.proofs.Statements as shape
use Rattle.c_replace.proofs.Declared.{prefix_join, prefix_end, owned_vars, owned_signature}
use Rattle.c_replace.proofs.Holes.{Edited, Before, rise_split, found_alone, carry, carry_last, two, two_last}
use Rattle.c_replace.proofs.EditedExpressions.{EditedTree, further, Alone, begin, covers_own, owned_as, edited_tree}
use Rattle.c_replace.proofs.EditedDeclarations.{declaration, first_clause, step, returned}

-- there are tokens before each location of a program, and before a condition or a right side the last
-- is no `?`
abbrev pub Inside : Loc → Tokens → Type 0
Inside l x = Before l x × (1 ≤ length x)

module _ (l : Loc) where
  -- ---- conditions

  -- all tokens of these kinds are the condition, rewritten
  abbrev TestKinds : Tree → List TokenKind → Rewrite → Type 0
  TestKinds t ks how = Shaped Expression ks (bare (to_condition l how t))

  -- a condition, by whether it is the location
  test_by : {a b : Tokens} {t : Tree} (w : Own Expression a b t) (o : EditedTree l Expression a b t)
      (x : Bool) → stands l Cond (span_of t) ≡ x → (lo hi : ℕ) → Rise lo hi o.own
      → Edited l (Alone l) (TestKinds t) (in_condition t) o.own
  test_by {t = t} w o true e lo hi r =
      let p = stands_is l Cond (span_of t) e in
      let alike = owned_as l w o in
      Edited.holed (record {
        before = [];
        mid = o.own;
        after = [];
        consists = sym (append-nil o.own);
        left = inl refl;
        covers = subst (Covers o.own) p.1 (covers_own l w o);
        place = condition t;
        found = ap (λ q. cond q (Some (condition t)) (find (is_at l) (in_tree t))) e;
        is_part = alike.0;
        settled = alike.1;
        fill = λ ks how fits.
            let here : Shaped Expression ks (bare (how.tree t)) =
            subst (λ q. Fits q ks (rewrite how (expression t))) p.0 fits in
            subst (λ q. TestKinds t q how) (sym (append-nil ks))
            (subst (λ q. Shaped Expression ks (bare (if q then how.tree t else to_tree l how t)))
            (sym e) here);
      })
  test_by {t = t} w o false e lo hi r =
      carry_last [] refl (λ q h. inr h)
      (ap (λ q. cond q (Some (condition t)) (find (is_at l) (in_tree t))) e)
      (λ ks how x. subst (λ q. Shaped Expression ks (bare (if q then how.tree t else to_tree l how t)))
      (sym e) x) (o.edited lo hi r)

  -- a condition with its own tokens
  record EditedCondition (a b : Tokens) (t : Tree) : Type 0 where
    own : Tokens
    splits : a ≡ own ++ b
    covers : Covers own (span_of t)
    edited : (lo hi : ℕ) → Rise lo hi own → Edited l (Alone l) (TestKinds t) (in_condition t) own

  -- a condition that is the location, or holds it, or stays
  test : {r m : ℕ} {a b : Tokens} {t : Tree} → Reads Expression r a m b t → EditedCondition a b t
  test {t = t} d =
      let w = owned d in
      let o = edited_tree l d in
      record {
        own = o.own;
        splits = o.splits;
        covers = covers_own l w o;
        edited = λ lo hi r. test_by w o (stands l Cond (span_of t)) refl lo hi r;
      }

  -- ---- statements that an `if` can be put round

  -- all tokens of these kinds are the statement c, rewritten; where it isn't the location it is what
  -- `inner` says
  abbrev GuardKinds : Code → (Rewrite → Code) → List TokenKind → Rewrite → Type 0
  GuardKinds c inner ks how = Formed (Statement false) bare_code ks
      (bare_code (at_code l how c (inner how)))

  -- all tokens of these kinds are the statement, with its parts looked at
  abbrev InnerKinds : (Rewrite → Code) → List TokenKind → Rewrite → Type 0
  InnerKinds inner ks how = Formed (Statement false) bare_code ks (bare_code (inner how))

  -- a statement, by whether it is the location
  guard_by : (own : Tokens) (c : Code) (inner : Rewrite → Code) (rest : List Located)
      → Covers own (span_of_code c) → is_settled own ≡ true
      → Formed (Statement false) bare_code (kinds own) (bare_code c)
      → Edited l (Before l) (InnerKinds inner) rest own → (x : Bool)
      → stands l Guard (span_of_code c) ≡ x → Edited l (Before l) (GuardKinds c inner)
      (guard c ∷ rest) own
  guard_by own c inner rest covers settled formed h true e =
      let p = stands_is l Guard (span_of_code c) e in
      Edited.holed (record {
        before = [];
        mid = own;
        after = [];
        consists = sym (append-nil own);
        left = λ n. absurd (n p.0);
        covers = subst (Covers own) p.1 covers;
        place = guard c;
        found = ap (λ q. cond q (Some (guard c)) (find (is_at l) rest)) e;
        is_part = formed;
        settled = settled;
        fill = λ ks how fits.
            let here : Formed (Statement false) bare_code ks (bare_code (how.code c)) =
            subst (λ q. Fits q ks (rewrite how (statement_part c))) p.0 fits in
            subst (λ q. GuardKinds c inner q how) (sym (append-nil ks))
            (subst (λ q. Formed (Statement false) bare_code ks
            (bare_code (if q then how.code c else inner how))) (sym e) here);
      })
  guard_by own c inner rest covers settled formed h false e =
      carry_last [] refl (λ q i. i) (ap (λ q. cond q (Some (guard c)) (find (is_at l) rest)) e)
      (λ ks how x. subst (λ q. Formed (Statement false) bare_code ks
      (bare_code (if q then how.code c else inner how))) (sym e) x) h

  -- a statement that is the location, or holds it, or stays
  edit_guard : (own : Tokens) (c : Code) (inner : Rewrite → Code) (rest : List Located)
      → Covers own (span_of_code c) → is_settled own ≡ true
      → Formed (Statement false) bare_code (kinds own) (bare_code c)
      → Edited l (Before l) (InnerKinds inner) rest own
      → Edited l (Before l) (GuardKinds c inner) (guard c ∷ rest) own
  edit_guard own c inner rest covers settled formed h =
      guard_by own c inner rest covers settled formed h (stands l Guard (span_of_code c)) refl

  -- ---- statements

  -- all tokens of these kinds are the statement, rewritten
  abbrev CodeKinds : Bool → Code → List TokenKind → Rewrite → Type 0
  CodeKinds o c ks how = Formed (Statement o) bare_code ks (bare_code (to_code l how c))

  -- the own tokens of a statement
  record EditedCode (o : Bool) (a b : Tokens) (c : Code) : Type 0 where
    own : Tokens
    splits : a ≡ own ++ b
    covers : Covers own (span_of_code c)
    edited : (lo hi : ℕ) → Rise lo hi own → Edited l (Before l) (CodeKinds o c) (in_code c) own

  -- all tokens of these kinds are the items, rewritten
  abbrev BodyKinds : Body → List TokenKind → Rewrite → Type 0
  BodyKinds body ks how = Formed Items bare_body ks (bare_body (to_body l how body))

  -- the own tokens of the items of a block
  record EditedBody (a b : Tokens) (body : Body) : Type 0 where
    own : Tokens
    splits : a ≡ own ++ b
    edited : (lo hi : ℕ) → Rise lo hi own → Edited l (Before l) (BodyKinds body) (in_body body) own

  -- with tokens before what covers a text, all cover one
  covers_tail : (x : Tokens) {y : Tokens} {e : Span} → Covers y e → (h : Span)
      × Covers (x ++ y) (over h e)
  covers_tail [] {y} {e} c = (e, c)
  covers_tail (t ∷ x) c = (t.1, covers_join (covers_one t.0 t.1) (covers_tail x c).1)

  -- `word ( test ) statement`
  tested : {a b : Tokens} (c : Tokens) {s p : Span} (e : Span) (k start close : TokenKind)
      (x y : Tokens) → a ≡ x ++ (close, e) ∷ b → b ≡ y ++ c
      → (k, s) ∷ (start, p) ∷ a ≡ ((k, s) ∷ (start, p) ∷ (x ++ (close, e) ∷ y)) ++ c
  tested c {s} {p} e k start close x y f g =
      ap (λ q. (k, s) ∷ (start, p) ∷ q) (prefix_join c x ((close, e) ∷ y) f
      (ap (λ q. (close, e) ∷ q) g))

  -- all tokens of these kinds are the condition of a `for`, rewritten
  abbrev OptionKinds : Option Tree → List TokenKind → Rewrite → Type 0
  OptionKinds t ks how = Formed Optional bare_option ks (bare_option (to_test l how t))

  -- the own tokens of the condition of a `for`
  record EditedTest (a b : Tokens) (t : Option Tree) : Type 0 where
    own : Tokens
    splits : a ≡ own ++ b
    edited : (lo hi : ℕ) → Rise lo hi own → Edited l (Alone l) (OptionKinds t) (in_test t) own

  -- the condition of a `for`
  optional : {r : ℕ} {a b : Tokens} {t : Option Tree} → Optional r a b t → EditedTest a b t
  optional Optional.absent = record {
    own = [];
    splits = refl;
    edited = λ lo hi r. Edited.kept refl (λ how. form.absent);
  }
  optional (Optional.present d) = let o = test d in record {
    own = o.own;
    splits = o.splits;
    edited = λ lo hi r. carry_last [] refl (λ q h. h) refl (λ ks how x. form.present x)
        (o.edited lo hi r);
  }

  mutual
    -- a statement holds the location, or stays what it is
    statement : {o : Bool} {r : ℕ} {a b : Tokens} {c : Code} → Statement o r a b c → EditedCode o a b c
    statement (Statement.empty {s = s}) = record {
      own = (kind.Punct mark.Semicolon, s) ∷ [];
      splits = refl;
      covers = covers_one (kind.Punct mark.Semicolon) s;
      edited = λ lo hi r. Edited.kept refl (λ how. shape.empty);
    }
    statement (Statement.act {b = b} {e = e} {t = t} d) =
        let w = owned d in
        let o = edited_tree l d in
        let end : Tokens = (kind.Punct mark.Semicolon, e) ∷ [] in
        let own = o.own ++ end in
        let span = over (span_of t) e in
        let covers : Covers own span = covers_join (covers_own l w o)
        (covers_one (kind.Punct mark.Semicolon) e) in
        record {
          own = own;
          splits = prefix_end b o.own (kind.Punct mark.Semicolon) e o.splits;
          covers = covers;
          edited = λ lo hi r.
              let at = rise_split o.own end lo hi r in
              edit_guard own (tree.act t span) (λ how. tree.act (to_tree l how t) span)
              (in_tree t) covers (settled_append o.own end refl)
              (subst (λ q. Formed (Statement false) bare_code q (tree.act (bare t) no_span))
              (sym (kinds_append o.own end)) (shape.act (owned_as l w o).0))
              (carry [] end refl (λ q h. h) refl (λ ks how x. shape.act x) (o.edited lo at.0 at.1));
        }
    statement (Statement.block {b = b} {s = s} {e = e} {body = body} d) =
        let o = items d in
        record {
          own = (kind.Punct mark.OpenBrace, s) ∷ (o.own ++ (kind.Punct mark.CloseBrace, e) ∷ []);
          splits = ap (λ q. (kind.Punct mark.OpenBrace, s) ∷ q)
              (prefix_end b o.own (kind.Punct mark.CloseBrace) e o.splits);
          covers = covers_before (kind.Punct mark.OpenBrace) s
              (covers_tail o.own (covers_one (kind.Punct mark.CloseBrace) e)).1;
          edited = λ lo hi r. carry ((kind.Punct mark.OpenBrace, s) ∷ [])
              ((kind.Punct mark.CloseBrace, e) ∷ []) refl
              (further l ((kind.Punct mark.OpenBrace, s) ∷ [])) refl (λ ks how x. shape.block x)
              (o.edited s.to (rise_split o.own ((kind.Punct mark.CloseBrace, e) ∷ []) s.to hi r.2).0
              (rise_split o.own ((kind.Punct mark.CloseBrace, e) ∷ []) s.to hi r.2).1);
        }
    statement (Statement.if_then {c = c} {s = s} {p = p} {e = e} {t = t} {y = y} d f) =
        let o = test d in
        let g = statement f in
        let own : Tokens = (kind.Word key.If, s) ∷ (kind.Punct mark.OpenParen, p) ∷
        (o.own ++ (kind.Punct mark.CloseParen, e) ∷ g.own) in
        record {
          own = own;
          splits = tested c e (kind.Word key.If) (kind.Punct mark.OpenParen)
              (kind.Punct mark.CloseParen) o.own g.own o.splits g.splits;
          covers = covers_before (kind.Word key.If) s
              (covers_before (kind.Punct mark.OpenParen) p
              (covers_join o.covers (covers_before (kind.Punct mark.CloseParen) e g.covers)));
          edited = λ lo hi r.
              let at = rise_split o.own ((kind.Punct mark.CloseParen, e) ∷ g.own) p.to hi r.2.2 in
              two_last ((kind.Word key.If, s) ∷ (kind.Punct mark.OpenParen, p) ∷ []) o.own
              ((kind.Punct mark.CloseParen, e) ∷ []) g.own own refl
              (begin l ((kind.Word key.If, s) ∷ (kind.Punct mark.OpenParen, p) ∷ []) refl)
              (further l ((kind.Word key.If, s) ∷ (kind.Punct mark.OpenParen, p) ∷
              (o.own ++ (kind.Punct mark.CloseParen, e) ∷ []))) (λ ks js how x z. shape.if_then x z)
              refl lo hi r (o.edited p.to at.0 at.1) (g.edited e.to hi at.2.2);
        }
    statement (Statement.while {c = c} {s = s} {p = p} {e = e} {t = t} {y = y} d f) =
        let o = test d in
        let g = statement f in
        let own : Tokens = (kind.Word key.While, s) ∷ (kind.Punct mark.OpenParen, p) ∷
        (o.own ++ (kind.Punct mark.CloseParen, e) ∷ g.own) in
        record {
          own = own;
          splits = tested c e (kind.Word key.While) (kind.Punct mark.OpenParen)
              (kind.Punct mark.CloseParen) o.own g.own o.splits g.splits;
          covers = covers_before (kind.Word key.While) s
              (covers_before (kind.Punct mark.OpenParen) p
              (covers_join o.covers (covers_before (kind.Punct mark.CloseParen) e g.covers)));
          edited = λ lo hi r.
              let at = rise_split o.own ((kind.Punct mark.CloseParen, e) ∷ g.own) p.to hi r.2.2 in
              two_last ((kind.Word key.While, s) ∷ (kind.Punct mark.OpenParen, p) ∷ []) o.own
              ((kind.Punct mark.CloseParen, e) ∷ []) g.own own refl
              (begin l ((kind.Word key.While, s) ∷ (kind.Punct mark.OpenParen, p) ∷ []) refl)
              (further l ((kind.Word key.While, s) ∷ (kind.Punct mark.OpenParen, p) ∷
              (o.own ++ (kind.Punct mark.CloseParen, e) ∷ []))) (λ ks js how x z. shape.while x z)
              refl lo hi r (o.edited p.to at.0 at.1) (g.edited e.to hi at.2.2);
        }
    statement (Statement.if_else {o = wide} {d = rest} {s = s} {p = p} {e = e} {q = q} {t = t} {y = y}
        {z = z} d f h) =
        let o = test d in
        let g = statement f in
        let w = statement h in
        let arms : Tokens = g.own ++ (kind.Word key.Else, q) ∷ w.own in
        let own : Tokens = (kind.Word key.If, s) ∷ (kind.Punct mark.OpenParen, p) ∷
        (o.own ++ (kind.Punct mark.CloseParen, e) ∷ arms) in
        record {
          own = own;
          splits = tested rest e (kind.Word key.If) (kind.Punct mark.OpenParen)
              (kind.Punct mark.CloseParen) o.own arms o.splits
              (prefix_join rest g.own ((kind.Word key.Else, q) ∷ w.own) g.splits
              (ap (λ x. (kind.Word key.Else, q) ∷ x) w.splits));
          covers = covers_before (kind.Word key.If) s
              (covers_before (kind.Punct mark.OpenParen) p
              (covers_join o.covers (covers_before (kind.Punct mark.CloseParen) e
              (covers_join g.covers (covers_before (kind.Word key.Else) q w.covers)))));
          edited = λ lo hi r.
              let at = rise_split o.own ((kind.Punct mark.CloseParen, e) ∷ arms) p.to hi r.2.2 in
              let in_arms = rise_split g.own ((kind.Word key.Else, q) ∷ w.own) e.to hi at.2.2 in
              let whole : List TokenKind → List TokenKind → Rewrite → Type 0 =
              λ ks is how. Formed (Statement wide) bare_code
              (kind.Word key.If ∷ kind.Punct mark.OpenParen ∷
              (ks ++ kind.Punct mark.CloseParen ∷ is))
              (bare_code (to_code l how (tree.if_else t y z (over s (span_of_code z))))) in
              let both : Edited l (Before l) (λ is how. (ks : List TokenKind) → TestKinds t ks how
              → whole ks is how) (in_code y ++ in_code z) arms =
              two_last [] g.own ((kind.Word key.Else, q) ∷ []) w.own arms refl (λ q h. h)
              (further l (g.own ++ (kind.Word key.Else, q) ∷ []))
              (λ js is how v u. λ ks x. shape.if_else x v u) refl e.to hi at.2.2
              (g.edited e.to in_arms.0 in_arms.1) (w.edited q.to hi in_arms.2.2) in
              two_last ((kind.Word key.If, s) ∷ (kind.Punct mark.OpenParen, p) ∷ []) o.own
              ((kind.Punct mark.CloseParen, e) ∷ []) arms own refl
              (begin l ((kind.Word key.If, s) ∷ (kind.Punct mark.OpenParen, p) ∷ []) refl)
              (further l ((kind.Word key.If, s) ∷ (kind.Punct mark.OpenParen, p) ∷
              (o.own ++ (kind.Punct mark.CloseParen, e) ∷ []))) (λ ks is how x v. v ks x)
              (append_assoc (in_condition t) (in_code y) (in_code z)) lo hi r
              (o.edited p.to at.0 at.1) both;
        }
    statement (Statement.do_while {c = rest} {s = s} {w = w} {p = p} {e = e} {q = q} {t = t} {y = y} d
        f) =
        let g = statement d in
        let o = test f in
        let end : Tokens = (kind.Punct mark.CloseParen, e) ∷ (kind.Punct mark.Semicolon, q) ∷ [] in
        let own : Tokens = (kind.Word key.Do, s) ∷
        (g.own ++ (kind.Word key.While, w) ∷ (kind.Punct mark.OpenParen, p) ∷ (o.own ++ end)) in
        record {
          own = own;
          splits = ap (λ x. (kind.Word key.Do, s) ∷ x)
              (prefix_join rest g.own ((kind.Word key.While, w) ∷ (kind.Punct mark.OpenParen, p) ∷
              (o.own ++ end)) g.splits
              (ap (λ x. (kind.Word key.While, w) ∷ (kind.Punct mark.OpenParen, p) ∷ x)
              (prefix_join rest o.own end o.splits refl)));
          covers = covers_before (kind.Word key.Do) s
              (covers_tail g.own (covers_before (kind.Word key.While) w
              (covers_before (kind.Punct mark.OpenParen) p
              (covers_tail o.own (covers_before (kind.Punct mark.CloseParen) e
              (covers_one (kind.Punct mark.Semicolon) q))).1))).1;
          edited = λ lo hi r.
              let at = rise_split g.own ((kind.Word key.While, w) ∷ (kind.Punct mark.OpenParen, p) ∷
              (o.own ++ end)) s.to hi r.2 in
              let more = rise_split o.own end p.to hi at.2.2.2 in
              two ((kind.Word key.Do, s) ∷ []) g.own ((kind.Word key.While, w) ∷
              (kind.Punct mark.OpenParen, p) ∷ []) o.own end own refl
              (further l ((kind.Word key.Do, s) ∷ []))
              (begin l ((kind.Word key.Do, s) ∷ (g.own ++ (kind.Word key.While, w) ∷
              (kind.Punct mark.OpenParen, p) ∷ [])) (settled_append ((kind.Word key.Do, s) ∷ g.own)
              ((kind.Word key.While, w) ∷ (kind.Punct mark.OpenParen, p) ∷ []) refl))
              (λ js ks how x z. shape.do_while x z)
              refl lo hi r (g.edited s.to at.0 at.1) (o.edited p.to more.0 more.1);
        }
    statement (Statement.for {o = wide} {f = rest} {s = s} {p = p} {e = e} {q = q} {i = i} {t = t}
        {u = u} {y = y} c x v f) =
        let m = first_clause l c in
        let o = optional x in
        let k = step l v in
        let g = statement f in
        let own : Tokens = (kind.Word key.For, s) ∷ (kind.Punct mark.OpenParen, p) ∷
        (m.own ++ (o.own ++ (kind.Punct mark.Semicolon, e) ∷
        (k.own ++ (kind.Punct mark.CloseParen, q) ∷ g.own))) in
        record {
          own = own;
          splits = ap (λ z. (kind.Word key.For, s) ∷ (kind.Punct mark.OpenParen, p) ∷ z)
              (prefix_join rest m.own (o.own ++ (kind.Punct mark.Semicolon, e) ∷
              (k.own ++ (kind.Punct mark.CloseParen, q) ∷ g.own)) m.splits
              (prefix_join rest o.own ((kind.Punct mark.Semicolon, e) ∷
              (k.own ++ (kind.Punct mark.CloseParen, q) ∷ g.own)) o.splits
              (ap (λ z. (kind.Punct mark.Semicolon, e) ∷ z)
              (prefix_join rest k.own ((kind.Punct mark.CloseParen, q) ∷ g.own) k.splits
              (ap (λ z. (kind.Punct mark.CloseParen, q) ∷ z) g.splits)))));
          covers = covers_before (kind.Word key.For) s
              (covers_before (kind.Punct mark.OpenParen) p
              (covers_tail m.own (covers_tail o.own (covers_before (kind.Punct mark.Semicolon) e
              (covers_tail k.own (covers_before (kind.Punct mark.CloseParen) q g.covers)).1)).1).1);
          edited = λ lo hi r.
              let end : Tokens = (kind.Punct mark.CloseParen, q) ∷ g.own in
              let rest : Tokens = k.own ++ end in
              let tail : Tokens = o.own ++ (kind.Punct mark.Semicolon, e) ∷ rest in
              let first = rise_split m.own tail p.to hi r.2.2 in
              let second = rise_split o.own ((kind.Punct mark.Semicolon, e) ∷ rest) first.0 hi first.2
              in
              let third = rise_split k.own end e.to hi second.2.2 in
              let whole : List TokenKind → List TokenKind → List TokenKind → Rewrite → Type 0 =
              λ is ks js how. Formed (Statement wide) bare_code
              (kind.Word key.For ∷ kind.Punct mark.OpenParen ∷
              (is ++ (ks ++ kind.Punct mark.Semicolon ∷ js)))
              (bare_code (to_code l how (tree.for i t u y (over s (span_of_code y))))) in
              let bodies : Edited l (Before l) (λ js how. (is ks : List TokenKind)
              → Formed Clause bare_first is (bare_first (to_first l how i)) → OptionKinds t ks how
              → whole is ks js how) (in_step u ++ in_code y) rest =
              two_last [] k.own ((kind.Punct mark.CloseParen, q) ∷ []) g.own rest refl (λ z h. h)
              (further l (k.own ++ (kind.Punct mark.CloseParen, q) ∷ []))
              (λ js vs how w z. λ is ks v x. shape.for v x w z)
              refl e.to hi second.2.2 (k.edited e.to third.0 third.1) (g.edited q.to hi third.2.2) in
              let tests : Edited l (Alone l) (λ ks how. (is : List TokenKind)
              → Formed Clause bare_first is (bare_first (to_first l how i))
              → Formed (Statement wide) bare_code (kind.Word key.For ∷ kind.Punct mark.OpenParen ∷
              (is ++ ks)) (bare_code (to_code l how (tree.for i t u y (over s (span_of_code y))))))
              (in_test t ++ (in_step u ++ in_code y)) tail =
              two_last [] o.own ((kind.Punct mark.Semicolon, e) ∷ []) rest tail refl (λ z h. h)
              (λ z h. inr (further l (o.own ++ (kind.Punct mark.Semicolon, e) ∷ []) z h))
              (λ ks js how x z. λ is v. z is ks v x)
              refl first.0 hi first.2 (o.edited first.0 second.0 second.1) bodies in
              two_last ((kind.Word key.For, s) ∷ (kind.Punct mark.OpenParen, p) ∷ []) m.own [] tail own
              refl (further l ((kind.Word key.For, s) ∷ (kind.Punct mark.OpenParen, p) ∷ []))
              (begin l ((kind.Word key.For, s) ∷ (kind.Punct mark.OpenParen, p) ∷ (m.own ++ []))
              (settled_append ((kind.Word key.For, s) ∷ (kind.Punct mark.OpenParen, p) ∷ [])
              (m.own ++ []) (ap is_settled (append-nil m.own) ∙ m.settled)))
              (λ is ks how v z. z is v)
              (append_assoc (in_first i ++ in_test t) (in_step u) (in_code y)
              ∙ append_assoc (in_first i) (in_test t) (in_step u ++ in_code y)) lo hi r
              (m.edited p.to first.0 first.1) tests;
        }
    statement (Statement.give {b = b} {s = s} {e = e} {t = t} d) =
        let o = returned l d in
        let end : Tokens = (kind.Punct mark.Semicolon, e) ∷ [] in
        let own : Tokens = (kind.Word key.Return, s) ∷ (o.own ++ end) in
        let span = over s e in
        let covers : Covers own span = covers_before (kind.Word key.Return) s
        (covers_tail o.own (covers_one (kind.Punct mark.Semicolon) e)).1 in
        record {
          own = own;
          splits = ap (λ q. (kind.Word key.Return, s) ∷ q)
              (prefix_end b o.own (kind.Punct mark.Semicolon) e o.splits);
          covers = covers;
          edited = λ lo hi r.
              let at = rise_split o.own end s.to hi r.2 in
              edit_guard own (tree.give t span) (λ how. tree.give (to_value l how t) span)
              (in_value t) covers (settled_append ((kind.Word key.Return, s) ∷ o.own) end refl)
              (subst (λ q. Formed (Statement false) bare_code (kind.Word key.Return ∷ q)
              (tree.give (bare_option t) no_span)) (sym (kinds_append o.own end))
              (shape.give o.formed))
              (carry ((kind.Word key.Return, s) ∷ []) end refl
              (begin l ((kind.Word key.Return, s) ∷ []) refl) refl (λ ks how x. shape.give x)
              (o.edited s.to at.0 at.1));
        }
    statement (Statement.break {s = s} {e = e}) =
        let own : Tokens = (kind.Word key.Break, s) ∷ (kind.Punct mark.Semicolon, e) ∷ [] in
        let covers : Covers own (over s e) = covers_before (kind.Word key.Break) s
        (covers_one (kind.Punct mark.Semicolon) e) in
        record {
          own = own;
          splits = refl;
          covers = covers;
          edited = λ lo hi r. edit_guard own (tree.break (over s e))
              (λ how. tree.break (over s e)) [] covers refl shape.break
              (Edited.kept refl (λ how. shape.break));
        }
    statement (Statement.continue {s = s} {e = e}) =
        let own : Tokens = (kind.Word key.Continue, s) ∷ (kind.Punct mark.Semicolon, e) ∷ [] in
        let covers : Covers own (over s e) = covers_before (kind.Word key.Continue) s
        (covers_one (kind.Punct mark.Semicolon) e) in
        record {
          own = own;
          splits = refl;
          covers = covers;
          edited = λ lo hi r. edit_guard own (tree.continue (over s e))
              (λ how. tree.continue (over s e)) [] covers refl shape.continue
              (Edited.kept refl (λ how. shape.continue));
        }

    -- the same of the items of a block
    items : {r : ℕ} {a b : Tokens} {body : Body} → Items r a b body → EditedBody a b body
    items Items.none = record {
      own = [];
      splits = refl;
      edited = λ lo hi r. Edited.kept refl (λ how. shape.none);
    }
    items (Items.vars {c = c} {ty = ty} {vs = vs} {body = body} d e) =
        let v = declaration l d in
        let g = items e in
        record {
          own = v.own ++ g.own;
          splits = prefix_join c v.own g.own v.splits g.splits;
          edited = λ lo hi r.
              let at = rise_split v.own g.own lo hi r in
              two_last [] v.own [] g.own (v.own ++ g.own) refl (λ q h. h) (further l (v.own ++ []))
              (λ ks js how x y. shape.vars_item x y) refl lo hi r (v.edited lo at.0 at.1)
              (g.edited at.0 hi at.2);
        }
    items (Items.statement {c = c} {x = x} {body = body} d e) =
        let f = statement d in
        let g = items e in
        record {
          own = f.own ++ g.own;
          splits = prefix_join c f.own g.own f.splits g.splits;
          edited = λ lo hi r.
              let at = rise_split f.own g.own lo hi r in
              two_last [] f.own [] g.own (f.own ++ g.own) refl (λ q h. h) (further l (f.own ++ []))
              (λ ks js how v w. shape.statement_item v w) refl lo hi r (f.edited lo at.0 at.1)
              (g.edited at.0 hi at.2);
        }

  -- ---- programs

  -- all tokens of these kinds are what stands at file scope, rewritten
  abbrev OuterKinds : Outer → List TokenKind → Rewrite → Type 0
  OuterKinds x ks how = Formed External bare_outer ks (bare_outer (to_outer l how x))

  -- the own tokens of what stands at file scope
  record EditedOuter (a b : Tokens) (x : Outer) : Type 0 where
    own : Tokens
    splits : a ≡ own ++ b
    edited : (lo hi : ℕ) → Rise lo hi own → Edited l (Inside l) (OuterKinds x) (in_outer x) own

  -- what stands at file scope
  external : {r : ℕ} {a b : Tokens} {x : Outer} → External r a b x → EditedOuter a b x
  external (External.vars d) = let v = owned_vars d in record {
    own = v.own;
    splits = v.splits;
    edited = λ lo hi r. Edited.kept refl (λ how. shape.outer_vars v.formed);
  }
  external (External.prototype {b = b} {k = k} {w = w} {o = o} {s = s} {p = p} {e = e} {q = q}
      {ret = ret} {xs = xs} f d) =
      let g = owned_signature d in
      let end : Tokens = (kind.Punct mark.CloseParen, e) ∷ (kind.Punct mark.Semicolon, q) ∷ [] in
      record {
        own = (kind.Word k, o) ∷ (kind.Name w, s) ∷ (kind.Punct mark.OpenParen, p) ∷ (g.own ++ end);
        splits = ap (λ z. (kind.Word k, o) ∷ (kind.Name w, s) ∷ (kind.Punct mark.OpenParen, p) ∷ z)
            (prefix_join b g.own end g.splits refl);
        edited = λ lo hi r. Edited.kept refl (λ how.
            subst (λ z. Formed External bare_outer (kind.Word k ∷ kind.Name w
            ∷ kind.Punct mark.OpenParen ∷ z) (bare_outer
            (to_outer l how (function w (over s q) ret xs None)))) (sym (kinds_append g.own end))
            (shape.prototype k w ret f g.formed));
      }
  external (External.definition {c = c} {k = k} {w = w} {o = o} {s = s} {p = p} {e = e} {q = q} {z = z}
      {ret = ret} {xs = xs} {body = body} f d h) =
      let g = owned_signature d in
      let m = items h in
      let middle : Tokens = (kind.Punct mark.CloseParen, e) ∷ (kind.Punct mark.OpenBrace, q) ∷ [] in
      let end : Tokens = (kind.Punct mark.CloseBrace, z) ∷ [] in
      let start : Tokens = (kind.Word k, o) ∷ (kind.Name w, s) ∷ (kind.Punct mark.OpenParen, p) ∷
      (g.own ++ middle) in
      record {
        own = start ++ (m.own ++ end);
        splits = ap (λ y. (kind.Word k, o) ∷ (kind.Name w, s) ∷ (kind.Punct mark.OpenParen, p) ∷ y)
            (prefix_join c (g.own ++ middle) (m.own ++ end) (prefix_join _ g.own middle g.splits refl)
            (prefix_join c m.own end m.splits refl));
        edited = λ lo hi r.
            let first = rise_split start (m.own ++ end) lo hi r in
            let second = rise_split m.own end first.0 hi first.2 in
            carry start end refl (λ q h. (further l start q h, omega arith)) refl (λ ks how x.
            let same : kinds (g.own ++ middle) ++ (ks ++ kind.Punct mark.CloseBrace ∷ [])
            ≡ kinds g.own ++ kind.Punct mark.CloseParen ∷ kind.Punct mark.OpenBrace ∷
            (ks ++ kind.Punct mark.CloseBrace ∷ []) =
            ap (λ y. y ++ (ks ++ kind.Punct mark.CloseBrace ∷ [])) (kinds_append g.own middle)
            ∙ append_assoc (kinds g.own) (kinds middle) (ks ++ kind.Punct mark.CloseBrace ∷ []) in
            subst (λ y. Formed External bare_outer (kind.Word k ∷ kind.Name w
            ∷ kind.Punct mark.OpenParen ∷ y) (bare_outer
            (to_outer l how (function w (over s z) ret xs (Some body))))) (sym same)
            (shape.definition k w ret f g.formed x)) (m.edited first.0 second.0 second.1);
      }

  -- all tokens of these kinds are the program, rewritten
  abbrev pub ProgramKinds : List Outer → List TokenKind → Rewrite → Type 0
  ProgramKinds p ks how = ShapedProgram ks (bare_program (rewritten l how p))

  -- a program holds the location, or stays what it is
  pub program : {r : ℕ} {a : Tokens} {p : List Outer} → Derives r a p → (lo hi : ℕ) → Rise lo hi a
      → Edited l (Inside l) (ProgramKinds p) (located p) a
  program (Derives.last {a = a} {x = x} d) lo hi r =
      let g = external d in
      let same : a ≡ g.own = g.splits ∙ append-nil g.own in
      carry_last [] same (λ q h. h) (found_alone l (in_outer x)) (λ ks how v. shape.last v)
      (g.edited lo hi (subst (Rise lo hi) same r))
  program (Derives.more {a = a} {b = b} {x = x} {p = p} d e) lo hi r =
      let g = external d in
      let at = rise_split g.own b lo hi (subst (Rise lo hi) g.splits r) in
      two_last [] g.own [] b a g.splits (λ q h. h)
      (λ q h. (further l (g.own ++ []) q h.0, omega (arith, h.1, length-append (g.own ++ []) q)))
      (λ ks js how v w. shape.more v w) refl lo hi r (g.edited lo at.0 at.1)
      (program e at.0 hi at.2)

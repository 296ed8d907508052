-- An expression and a location: it holds the location, as the right side of an assignment in it, or
-- stays what it is.
use Rattle.std.proofs.Common.{◌≡◌, ◌⊎◌, inl, inr, ℕ, Bool, true, false, cond, if◌then◌else◌, List, [], ◌∷◌, ◌++◌, map, Option, Some, None, refl, sym, ap, ◌∙◌, subst, arith, append_assoc, length, length-append, find}
use Rattle.std.proofs.lemmas.List.{append-nil}
use Rattle.c_lex.specs.declared.token.TokenKind.{TokenKind}
use Rattle.c_lex.specs.declared.token.TokenKind.TheVariants as kind
use Rattle.c_lex.specs.declared.token.Keyword.{Keyword}
use Rattle.c_lex.specs.declared.token.Punct.{Punct}
use Rattle.c_lex.specs.declared.token.Punct.TheVariants as mark
use Rattle.c_lex.specs.Lexemes.{Rise, kinds, Covers, is_other}
use Rattle.c_tree.specs.declared.expr.BinOp.{BinOp}
use Rattle.c_tree.specs.declared.place.Loc.{Loc}
use Rattle.c_tree.specs.declared.place.LocKind.TheVariants.{Right}
use Rattle.c_tree.specs.declared.place.Span.{Span}
use Rattle.c_tree.specs.declared.stmt.Slot.TheVariants.{Unset}
use Rattle.c_tree.specs.declared.stmt.Ty.{Ty}
use Rattle.c_tree.specs.Parts.{span_of}
use Rattle.c_tree.specs.Tree as tree
use Rattle.c_tree.specs.Tree.{Tree, bare, bare_args}
use Rattle.c_location.specs.Locations.{Located, expression, right_side, in_tree, in_args, assigned as assigned_locs, stands, is_at}
use Rattle.c_location.specs.Rewrites.{Rewrite, rewrite, at_assigned, at_tree, to_tree, to_args}
use Rattle.c_grammar.specs.declared.nonterminal.Nonterminal.{Nonterminal}
use Rattle.c_grammar.specs.declared.nonterminal.Nonterminal.TheVariants.{Expression, Assignment, Conditional, Binary, Cast, Unary, Primary}
use Rattle.c_grammar.specs.Operators.{type_word, weakest, assignment_operator}
use Rattle.c_grammar.specs.Grammar.{Tokens, over, wrapped, Given, by_value, by_format, by_address, args, Reads, Argument, Arguments}
use Rattle.c_replace.specs.Shapes.{Shaped, is_settled, Own}
use Rattle.c_replace.specs.Forms.{Formed, bare_given}
use Rattle.c_replace.specs.Replacing.{Fits}
use Rattle.c_replace.proofs.LocationKinds.{stands_is}
use Rattle.c_replace.proofs.Splits.{settled_append}
use Rattle.c_replace.proofs.Owned.{owned}
use Rattle.c_replace.proofs.Shapes as shape
use Rattle.c_replace.proofs.Holes.{Edited, Before, rise_split, found_alone, carry, carry_last, two_last}

-- one prefix alone stands before the same rest
prefix_same : (x y b : Tokens) → x ++ b ≡ y ++ b → x ≡ y
prefix_same x y b e = by x y e (omega (arith, ap length e, length-append x b, length-append y b))
  where
    by : (x y : Tokens) → x ++ b ≡ y ++ b → length x ≡ length y → x ≡ y
    by [] [] e l = refl
    by [] (u ∷ y) e l = absurd (omega arith)
    by (t ∷ x) [] e l = absurd (omega arith)
    by (t ∷ x) (u ∷ y) e l =
        let same : t ≡ u = cc in
        let tail : x ++ b ≡ y ++ b = cc in
        ap (λ q. q ∷ x) same ∙ ap (λ q. u ∷ q) (by x y tail (omega arith))

-- the same expression with another text changes alike
bare_to_wrapped : (l : Loc) (how : Rewrite) (s : Span) (t : Tree)
    → bare (to_tree l how (wrapped s t)) ≡ bare (to_tree l how t)
bare_to_wrapped l how s (tree.constant n w e) = refl
bare_to_wrapped l how s (tree.name w v e) = refl
bare_to_wrapped l how s (tree.index w v t e) = refl
bare_to_wrapped l how s (tree.call w x e) = refl
bare_to_wrapped l how s (tree.unary f t e) = refl
bare_to_wrapped l how s (tree.cast ty t e) = refl
bare_to_wrapped l how s (tree.binary f t u e) = refl
bare_to_wrapped l how s (tree.choice t u v e) = refl
bare_to_wrapped l how s (tree.assign f t u e) = refl
bare_to_wrapped l how s (tree.bump before up t e) = refl
bare_to_wrapped l how s (tree.comma t u e) = refl
bare_to_wrapped l how s tree.hole = refl
bare_to_wrapped l how s (tree.hole_after t) = refl

-- it holds the same locations
wrapped_locs : (s : Span) (t : Tree) → in_tree (wrapped s t) ≡ in_tree t
wrapped_locs s (tree.constant n w e) = refl
wrapped_locs s (tree.name w v e) = refl
wrapped_locs s (tree.index w v t e) = refl
wrapped_locs s (tree.call w x e) = refl
wrapped_locs s (tree.unary f t e) = refl
wrapped_locs s (tree.cast ty t e) = refl
wrapped_locs s (tree.binary f t u e) = refl
wrapped_locs s (tree.choice t u v e) = refl
wrapped_locs s (tree.assign f t u e) = refl
wrapped_locs s (tree.bump before up t e) = refl
wrapped_locs s (tree.comma t u e) = refl
wrapped_locs s tree.hole = refl
wrapped_locs s (tree.hole_after t) = refl

-- an argument with the part at the location rewritten
abbrev pub given_to : Loc → Rewrite → Given → Given
given_to l how (by_value t) = by_value (to_tree l how t)
given_to l how (by_format w s) = by_format w s
given_to l how (by_address t) = by_address (to_tree l how t)

-- the locations in an argument
abbrev pub in_given : Given → List Located
in_given (by_value t) = in_tree t
in_given (by_format w s) = []
in_given (by_address t) = in_tree t

-- arguments with the part at the location rewritten, without spans, slots and the spelling of
-- constants, one by one
args_to : (l : Loc) (how : Rewrite) (gs : List Given)
    → bare_args (to_args l how (args gs)) ≡ args (map bare_given (map (given_to l how) gs))
args_to l how [] = refl
args_to l how (by_value t ∷ gs) = ap (tree.value (bare (to_tree l how t))) (args_to l how gs)
args_to l how (by_format w s ∷ gs) = ap (tree.format w tree.no_span) (args_to l how gs)
args_to l how (by_address t ∷ gs) = ap (tree.address (bare (to_tree l how t))) (args_to l how gs)

-- the locations in arguments are those in the first and those in the others
args_locs : (g : Given) (gs : List Given) → in_args (args (g ∷ gs)) ≡ in_given g ++ in_args (args gs)
args_locs (by_value t) gs = refl
args_locs (by_format w s) gs = refl
args_locs (by_address t) gs = refl

module _ (l : Loc) where
  -- all tokens of these kinds are the expression, rewritten
  abbrev pub TreeKinds : Nonterminal → Tree → List TokenKind → Rewrite → Type 0
  TreeKinds N t ks how = Shaped N ks (bare (to_tree l how t))

  -- the own tokens of an expression: it holds the location, or stays what it is
  pub record EditedTree (N : Nonterminal) (a b : Tokens) (t : Tree) : Type 0 where
    pub own : Tokens
    pub splits : a ≡ own ++ b
    pub edited : (lo hi : ℕ) → Rise lo hi own → Edited l (Before l) (TreeKinds N t) (in_tree t) own

  -- more tokens before
  pub further : (x q : Tokens) → Before l q → Before l (x ++ q)
  further x q h c = settled_append x q (h c)

  -- ---- forms

  -- the same tokens as another kind
  raise : {N M : Nonterminal} {a b : Tokens} {t : Tree} → EditedTree N a b t
      → ((ks : List TokenKind) (u : Tree) → Shaped N ks u → Shaped M ks u) → EditedTree M a b t
  raise {t = t} o f = record {
    own = o.own;
    splits = o.splits;
    edited = λ lo hi r. carry_last [] refl (λ q h. h) refl (λ ks how x. f ks (bare (to_tree l how t)) x)
        (o.edited lo hi r);
  }

  -- a token before
  first : {N M : Nonterminal} {a b : Tokens} {t : Tree} (k : TokenKind) (s : Span) (u : Tree)
      → find (is_at l) (in_tree u) ≡ find (is_at l) (in_tree t) → EditedTree N a b t
      → ((ks : List TokenKind) (how : Rewrite) → TreeKinds N t ks how → TreeKinds M u (k ∷ ks) how)
      → EditedTree M ((k, s) ∷ a) b u
  first k s u i o f = record {
    own = (k, s) ∷ o.own;
    splits = ap (λ q. (k, s) ∷ q) o.splits;
    edited = λ lo hi r. carry_last ((k, s) ∷ []) refl (further ((k, s) ∷ [])) i f
        (o.edited s.to hi r.2);
  }

  -- a token after
  after : {N M : Nonterminal} {a b : Tokens} {t : Tree} (k : TokenKind) (s : Span) (u : Tree)
      → find (is_at l) (in_tree u) ≡ find (is_at l) (in_tree t) → EditedTree N a ((k, s) ∷ b) t
      → ((ks : List TokenKind) (how : Rewrite) → TreeKinds N t ks how
      → TreeKinds M u (ks ++ k ∷ []) how) → EditedTree M a b u
  after {b = b} k s u i o f = record {
    own = o.own ++ (k, s) ∷ [];
    splits = o.splits ∙ sym (append_assoc o.own ((k, s) ∷ []) b);
    edited = λ lo hi r. let at = rise_split o.own ((k, s) ∷ []) lo hi r in
        carry [] ((k, s) ∷ []) refl (λ q h. h) i f (o.edited lo at.0 at.1);
  }

  -- a token between two parts
  pair : {N K M : Nonterminal} {a b c : Tokens} {t u : Tree} (k : TokenKind) (s : Span) (v : Tree)
      → in_tree v ≡ in_tree t ++ in_tree u → EditedTree N a ((k, s) ∷ b) t → EditedTree K b c u
      → ((ks js : List TokenKind) (how : Rewrite) → TreeKinds N t ks how → TreeKinds K u js how
      → TreeKinds M v (ks ++ k ∷ js) how) → EditedTree M a c v
  pair {c = c} k s v i o p f = record {
    own = o.own ++ (k, s) ∷ p.own;
    splits = o.splits ∙ ap (λ q. o.own ++ (k, s) ∷ q) p.splits
        ∙ sym (append_assoc o.own ((k, s) ∷ p.own) c);
    edited = λ lo hi r.
        let at = rise_split o.own ((k, s) ∷ p.own) lo hi r in
        two_last [] o.own ((k, s) ∷ []) p.own (o.own ++ (k, s) ∷ p.own) refl (λ q h. h)
        (further (o.own ++ (k, s) ∷ [])) f i lo hi r (o.edited lo at.0 at.1)
        (p.edited s.to hi at.2.2);
  }

  -- ---- right sides

  -- all tokens of these kinds are the right side, rewritten
  abbrev pub SideKinds : Nonterminal → Tree → List TokenKind → Rewrite → Type 0
  SideKinds N t ks how = Shaped N ks (bare (at_tree l how Right t (to_tree l how t)))

  -- nothing stands before the location in the part, or what may stand before one
  abbrev pub Alone : Tokens → Type 0
  Alone q = (q ≡ []) ⊎ Before l q

  -- the location, or what holds it, with tokens before it of which the last is no `?`
  pub begin : (x : Tokens) → is_settled x ≡ true → (q : Tokens) → Alone q → Before l (x ++ q)
  begin x h q (inl e) c = ap (λ z. is_settled (x ++ z)) e ∙ ap is_settled (append-nil x) ∙ h
  begin x h q (inr b) c = settled_append x q (b c)

  -- the own tokens are those that the text covers
  pub covers_own : {N : Nonterminal} {a b : Tokens} {t : Tree} → Own N a b t → (o : EditedTree N a b t)
      → Covers o.own (span_of t)
  covers_own {b = b} {t = t} w o = subst (λ q. Covers q (span_of t))
      (prefix_same w.own o.own b (sym w.splits ∙ o.splits)) w.covers

  -- the same of an expression by itself
  pub owned_as : {N : Nonterminal} {a b : Tokens} {t : Tree} → Own N a b t → (o : EditedTree N a b t)
      → Shaped N (kinds o.own) (bare t) × (is_settled o.own ≡ true)
  owned_as {N} {b = b} {t = t} w o =
      let same = prefix_same w.own o.own b (sym w.splits ∙ o.splits) in
      let shaped = subst (λ q. Shaped N (kinds q) (bare t)) same w.shaped in
      (shaped, subst (λ q. is_settled q ≡ true) same w.settled)

  -- a right side, by whether it is the location
  side_by : {N : Nonterminal} {a b : Tokens} {t : Tree} (w : Own N a b t) (o : EditedTree N a b t)
      → ((ks : List TokenKind) (u : Tree) → Shaped Assignment ks u → Shaped N ks u)
      → ((ks : List TokenKind) (u : Tree) → Shaped N ks u → Shaped Expression ks u)
      → (x : Bool) → stands l Right (span_of t) ≡ x → (lo hi : ℕ) → Rise lo hi o.own
      → Edited l Alone (SideKinds N t) (right_side t ∷ in_tree t) o.own
  side_by {N} {t = t} w o up down true e lo hi r =
      let p = stands_is l Right (span_of t) e in
      let alike = owned_as w o in
      Edited.holed (record {
        before = [];
        mid = o.own;
        after = [];
        consists = sym (append-nil o.own);
        left = inl refl;
        covers = subst (Covers o.own) p.1 (covers_own w o);
        place = right_side t;
        found = ap (λ q. cond q (Some (right_side t)) (find (is_at l) (in_tree t))) e;
        is_part = down (kinds o.own) (bare t) alike.0;
        settled = alike.1;
        fill = λ ks how fits.
            let here : Shaped Assignment ks (bare (how.tree t)) =
            subst (λ q. Fits q ks (rewrite how (expression t))) p.0 fits in
            subst (λ q. SideKinds N t q how) (sym (append-nil ks))
            (subst (λ q. Shaped N ks (bare (if q then how.tree t else to_tree l how t))) (sym e)
            (up ks (bare (how.tree t)) here));
      })
  side_by {N} {t = t} w o up down false e lo hi r =
      carry_last [] refl (λ q h. inr h)
      (ap (λ q. cond q (Some (right_side t)) (find (is_at l) (in_tree t))) e)
      (λ ks how x. subst (λ q. Shaped N ks (bare (if q then how.tree t else to_tree l how t)))
      (sym e) x) (o.edited lo hi r)

  -- a right side that is the location, or holds it, or stays
  pub side : {N : Nonterminal} {a b : Tokens} {t : Tree} (w : Own N a b t) (o : EditedTree N a b t)
      → ((ks : List TokenKind) (u : Tree) → Shaped Assignment ks u → Shaped N ks u)
      → ((ks : List TokenKind) (u : Tree) → Shaped N ks u → Shaped Expression ks u) → (lo hi : ℕ)
      → Rise lo hi o.own
      → Edited l Alone (SideKinds N t) (right_side t ∷ in_tree t) o.own
  side {t = t} w o up down lo hi r = side_by w o up down (stands l Right (span_of t)) refl lo hi r

  -- ---- arguments

  -- all tokens of these kinds are the argument, rewritten
  abbrev GivenKinds : Given → List TokenKind → Rewrite → Type 0
  GivenKinds g ks how = Formed Argument bare_given ks (bare_given (given_to l how g))

  -- the own tokens of an argument
  record EditedArgument (a b : Tokens) (g : Given) : Type 0 where
    own : Tokens
    splits : a ≡ own ++ b
    edited : (lo hi : ℕ) → Rise lo hi own → Edited l (Before l) (GivenKinds g) (in_given g) own

  -- all tokens of these kinds are the arguments, rewritten
  abbrev ArgsKinds : List Given → List TokenKind → Rewrite → Type 0
  ArgsKinds gs ks how = Formed Arguments (map bare_given) ks (map bare_given (map (given_to l how) gs))

  -- the own tokens of arguments
  record EditedArguments (a b : Tokens) (gs : List Given) : Type 0 where
    own : Tokens
    splits : a ≡ own ++ b
    edited : (lo hi : ℕ) → Rise lo hi own → Edited l (Before l) (ArgsKinds gs) (in_args (args gs)) own

  -- ---- brackets

  -- an element of an array
  edited_index : {a b : Tokens} {w : List ℕ} {s o e : Span} {t : Tree}
      → EditedTree Expression a ((kind.Punct mark.CloseBracket, e) ∷ b) t
      → EditedTree Primary ((kind.Name w, s) ∷ (kind.Punct mark.OpenBracket, o) ∷ a) b
      (tree.index w Unset t (over s e))
  edited_index {a} {b} {w} {s} {o} {e} {t} x = record {
    own = (kind.Name w, s) ∷ (kind.Punct mark.OpenBracket, o) ∷
        (x.own ++ (kind.Punct mark.CloseBracket, e) ∷ []);
    splits = ap (λ q. (kind.Name w, s) ∷ (kind.Punct mark.OpenBracket, o) ∷ q)
        (x.splits ∙ sym (append_assoc x.own ((kind.Punct mark.CloseBracket, e) ∷ []) b));
    edited = λ lo hi r.
        let at = rise_split x.own ((kind.Punct mark.CloseBracket, e) ∷ []) o.to hi r.2.2 in
        carry ((kind.Name w, s) ∷ (kind.Punct mark.OpenBracket, o) ∷ [])
        ((kind.Punct mark.CloseBracket, e) ∷ []) refl
        (further ((kind.Name w, s) ∷ (kind.Punct mark.OpenBracket, o) ∷ [])) refl
        (λ ks how y. shape.index w y) (x.edited o.to at.0 at.1);
  }

  -- a call with arguments
  edited_call : {a b : Tokens} {w : List ℕ} {s o e : Span} {gs : List Given}
      → EditedArguments a ((kind.Punct mark.CloseParen, e) ∷ b) gs
      → EditedTree Primary ((kind.Name w, s) ∷ (kind.Punct mark.OpenParen, o) ∷ a) b
      (tree.call w (args gs) (over s e))
  edited_call {a} {b} {w} {s} {o} {e} {gs} x = record {
    own = (kind.Name w, s) ∷ (kind.Punct mark.OpenParen, o) ∷
        (x.own ++ (kind.Punct mark.CloseParen, e) ∷ []);
    splits = ap (λ q. (kind.Name w, s) ∷ (kind.Punct mark.OpenParen, o) ∷ q)
        (x.splits ∙ sym (append_assoc x.own ((kind.Punct mark.CloseParen, e) ∷ []) b));
    edited = λ lo hi r.
        let at = rise_split x.own ((kind.Punct mark.CloseParen, e) ∷ []) o.to hi r.2.2 in
        carry ((kind.Name w, s) ∷ (kind.Punct mark.OpenParen, o) ∷ [])
        ((kind.Punct mark.CloseParen, e) ∷ []) refl
        (further ((kind.Name w, s) ∷ (kind.Punct mark.OpenParen, o) ∷ [])) refl
        (λ ks how y. subst
        (λ q. Shaped Primary (kind.Name w ∷ kind.Punct mark.OpenParen ∷
        (ks ++ kind.Punct mark.CloseParen ∷ []))
        (tree.call w q tree.no_span)) (sym (args_to l how gs)) (shape.call w y))
        (x.edited o.to at.0 at.1);
  }

  -- an expression in parentheses
  edited_paren : {a b : Tokens} {o e : Span} {t : Tree}
      → EditedTree Expression a ((kind.Punct mark.CloseParen, e) ∷ b) t
      → EditedTree Primary ((kind.Punct mark.OpenParen, o) ∷ a) b (wrapped (over o e) t)
  edited_paren {a} {b} {o} {e} {t} x = record {
    own = (kind.Punct mark.OpenParen, o) ∷ (x.own ++ (kind.Punct mark.CloseParen, e) ∷ []);
    splits = ap (λ q. (kind.Punct mark.OpenParen, o) ∷ q)
        (x.splits ∙ sym (append_assoc x.own ((kind.Punct mark.CloseParen, e) ∷ []) b));
    edited = λ lo hi r.
        let at = rise_split x.own ((kind.Punct mark.CloseParen, e) ∷ []) o.to hi r.2 in
        carry ((kind.Punct mark.OpenParen, o) ∷ []) ((kind.Punct mark.CloseParen, e) ∷ []) refl
        (further ((kind.Punct mark.OpenParen, o) ∷ []))
        (ap (find (is_at l)) (wrapped_locs (over o e) t))
        (λ ks how y. subst
        (Shaped Primary (kind.Punct mark.OpenParen ∷ (ks ++ kind.Punct mark.CloseParen ∷ [])))
        (sym (bare_to_wrapped l how (over o e) t)) (shape.paren y)) (x.edited o.to at.0 at.1);
  }

  -- a cast
  edited_cast : {a b : Tokens} {o s e : Span} {t : Tree} (k : Keyword) (ty : Ty) → type_word k ≡ Some ty
      → EditedTree Cast a b t
      → EditedTree Cast ((kind.Punct mark.OpenParen, o) ∷ (kind.Word k, s) ∷
      (kind.Punct mark.CloseParen, e) ∷ a) b (tree.cast ty t (over o (span_of t)))
  edited_cast {a} {b} {o} {s} {e} {t} k ty f x = record {
    own = (kind.Punct mark.OpenParen, o) ∷ (kind.Word k, s) ∷ (kind.Punct mark.CloseParen, e) ∷ x.own;
    splits = ap (λ q. (kind.Punct mark.OpenParen, o) ∷ (kind.Word k, s) ∷
        (kind.Punct mark.CloseParen, e) ∷ q) x.splits;
    edited = λ lo hi r. carry_last ((kind.Punct mark.OpenParen, o) ∷ (kind.Word k, s) ∷
        (kind.Punct mark.CloseParen, e) ∷ []) refl
        (further ((kind.Punct mark.OpenParen, o) ∷ (kind.Word k, s) ∷
        (kind.Punct mark.CloseParen, e) ∷ [])) refl
        (λ ks how y. shape.cast_to k ty f y) (x.edited e.to hi r.2.2.2);
  }

  -- `test ? yes : no`
  edited_choose : {a b c d : Tokens} {s o : Span} {t u v : Tree}
      → EditedTree (Binary weakest) a ((kind.Punct mark.Question, s) ∷ b) t
      → EditedTree Expression b ((kind.Punct mark.Colon, o) ∷ c) u → EditedTree Conditional c d v
      → EditedTree Conditional a d (tree.choice t u v (over (span_of t) (span_of v)))
  edited_choose {a} {b} {c} {d} {s} {o} {t} {u} {v} x y z =
      let quest : TokenKind × Span = (kind.Punct mark.Question, s) in
      let colon : TokenKind × Span = (kind.Punct mark.Colon, o) in
      let tail = y.own ++ colon ∷ z.own in
      let own = x.own ++ quest ∷ tail in
      record {
        own = own;
        splits = x.splits ∙ ap (λ q. x.own ++ quest ∷ q)
            (y.splits ∙ ap (λ q. y.own ++ colon ∷ q) z.splits
            ∙ sym (append_assoc y.own (colon ∷ z.own) d))
            ∙ sym (append_assoc x.own (quest ∷ tail) d);
        edited = λ lo hi r.
            let at = rise_split x.own (quest ∷ tail) lo hi r in
            let more = rise_split y.own (colon ∷ z.own) s.to hi at.2.2 in
            let both : Edited l (Before l) (λ js how. (ks : List TokenKind)
            → TreeKinds (Binary weakest) t ks how → Shaped Conditional
            (ks ++ kind.Punct mark.Question ∷ js) (bare
            (to_tree l how (tree.choice t u v (over (span_of t) (span_of v))))))
            (in_tree u ++ in_tree v) tail =
            two_last [] y.own (colon ∷ []) z.own tail refl (λ q h. h) (further (y.own ++ colon ∷ []))
            (λ js is how m n. λ ks k. shape.choose k m n) refl s.to hi at.2.2
            (y.edited s.to more.0 more.1) (z.edited o.to hi more.2.2) in
            two_last [] x.own (quest ∷ []) tail own refl (λ q h. h) (further (x.own ++ quest ∷ []))
            (λ ks js how k m. m ks k)
            (append_assoc (in_tree t) (in_tree u) (in_tree v)) lo hi r
            (x.edited lo at.0 at.1) both;
      }

  -- ---- assignments

  -- the value of an assignment
  assign_value : {b c : Tokens} {u : Tree} (f : Option BinOp) (w : Own Assignment b c u)
      (p : EditedTree Assignment b c u) → (lo hi : ℕ) → Rise lo hi p.own
      → Edited l Alone (λ js how. Shaped Assignment js (bare (at_assigned l how f u (to_tree l how u))))
      (assigned_locs f u ++ in_tree u) p.own
  assign_value {u = u} None w p lo hi r = side w p (λ ks v x. x) (λ ks v x. shape.expression x) lo hi r
  assign_value {u = u} (Some op) w p lo hi r =
      carry_last [] refl (λ q h. inr h) refl (λ js how x. x) (p.edited lo hi r)

  -- an assignment
  edited_assign : {a b c : Tokens} {t u : Tree} {s : Span} (p : Punct) (f : Option BinOp)
      → assignment_operator p ≡ Some f → is_other (kind.Punct p) ≡ true
      → EditedTree Unary a ((kind.Punct p, s) ∷ b) t → Own Assignment b c u
      → EditedTree Assignment b c u
      → EditedTree Assignment a c (tree.assign f t u (over (span_of t) (span_of u)))
  edited_assign {c = c} {t = t} {u = u} {s = s} p f e other x z y = record {
    own = x.own ++ (kind.Punct p, s) ∷ y.own;
    splits = x.splits ∙ ap (λ q. x.own ++ (kind.Punct p, s) ∷ q) y.splits
        ∙ sym (append_assoc x.own ((kind.Punct p, s) ∷ y.own) c);
    edited = λ lo hi r.
        let at = rise_split x.own ((kind.Punct p, s) ∷ y.own) lo hi r in
        two_last [] x.own ((kind.Punct p, s) ∷ []) y.own (x.own ++ (kind.Punct p, s) ∷ y.own) refl
        (λ q h. h) (begin (x.own ++ (kind.Punct p, s) ∷ [])
        (settled_append x.own ((kind.Punct p, s) ∷ []) other))
        (λ ks js how v w. shape.assign p f e v w)
        (append_assoc (in_tree t) (assigned_locs f u) (in_tree u)) lo hi r
        (x.edited lo at.0 at.1) (assign_value f z y s.to hi at.2.2);
  }

  -- no assignment operator is a `?`
  assignment_other : (p : Punct) (f : Option BinOp) → assignment_operator p ≡ Some f
      → is_other (kind.Punct p) ≡ true
  assignment_other mark.Question f e = absurd (cc)
  assignment_other _ f e = refl

  mutual
    -- what is read holds the location, or stays what it is
    pub edited_tree : {N : Nonterminal} {r m : ℕ} {a b : Tokens} {t : Tree} → Reads N r a m b t
        → EditedTree N a b t
    edited_tree (Reads.constant {n = n} {w = w} {s = s}) = record {
      own = (kind.Const n w, s) ∷ [];
      splits = refl;
      edited = λ lo hi r. Edited.kept refl (λ how. shape.constant n w);
    }
    edited_tree (Reads.name {w = w} {s = s}) = record {
      own = (kind.Name w, s) ∷ [];
      splits = refl;
      edited = λ lo hi r. Edited.kept refl (λ how. shape.name w);
    }
    edited_tree (Reads.index d) = edited_index (edited_tree d)
    edited_tree (Reads.call_bare {w = w} {s = s} {o = o} {e = e}) = record {
      own = (kind.Name w, s) ∷ (kind.Punct mark.OpenParen, o) ∷ (kind.Punct mark.CloseParen, e) ∷ [];
      splits = refl;
      edited = λ lo hi r. Edited.kept refl (λ how. shape.call_bare w);
    }
    edited_tree (Reads.call d) = edited_call (edited_arguments d)
    edited_tree (Reads.paren d) = edited_paren (edited_tree d)
    edited_tree (Reads.postfix d) = raise (edited_tree d) (λ ks u x. shape.postfix x)
    edited_tree (Reads.bump_after {t = t} {p = p} {s = s} {up = up} e d) =
        after (kind.Punct p) s (tree.bump false up t (over (span_of t) s)) refl (edited_tree d)
        (λ ks how x. shape.bump_after p up e x)
    edited_tree (Reads.unary d) = raise (edited_tree d) (λ ks u x. shape.unary x)
    edited_tree (Reads.bump_before {t = t} {p = p} {s = s} {up = up} e d) =
        first (kind.Punct p) s (tree.bump true up t (over s (span_of t))) refl (edited_tree d)
        (λ ks how x. shape.bump_before p up e x)
    edited_tree (Reads.prefix {t = t} {p = p} {s = s} {f = f} e d) =
        first (kind.Punct p) s (tree.unary f t (over s (span_of t))) refl (edited_tree d)
        (λ ks how x. shape.prefix p f e x)
    edited_tree (Reads.cast d) = raise (edited_tree d) (λ ks u x. shape.cast x)
    edited_tree (Reads.cast_to {t = t} {k = k} {ty = ty} f d) = edited_cast k ty f (edited_tree d)
    edited_tree (Reads.operand d) = raise (edited_tree d) (λ ks u x. shape.operand x)
    edited_tree (Reads.weaker d) = raise (edited_tree d) (λ ks u x. shape.weaker x)
    edited_tree (Reads.binary {t = t} {u = u} {p = p} {s = s} {f = f} e i d1 d2) =
        pair (kind.Punct p) s (tree.binary f t u (over (span_of t) (span_of u))) refl (edited_tree d1)
        (edited_tree d2) (λ ks js how x y. shape.binary p f e i x y)
    edited_tree (Reads.conditional d) = raise (edited_tree d) (λ ks u x. shape.conditional x)
    edited_tree (Reads.choose d1 d2 d3) = edited_choose (edited_tree d1) (edited_tree d2)
        (edited_tree d3)
    edited_tree (Reads.assignment d) = raise (edited_tree d) (λ ks u x. shape.assignment x)
    edited_tree (Reads.assign {p = p} {f = f} e d1 d2) =
        edited_assign p f e (assignment_other p f e) (edited_tree d1) (owned d2) (edited_tree d2)
    edited_tree (Reads.expression d) = raise (edited_tree d) (λ ks u x. shape.expression x)
    edited_tree (Reads.comma {t = t} {u = u} {s = s} d1 d2) =
        pair (kind.Punct mark.Comma) s (tree.comma t u (over (span_of t) (span_of u))) refl
        (edited_tree d1) (edited_tree d2) (λ ks js how x y. shape.comma x y)

    -- the same of an argument
    edited_argument : {r : ℕ} {a b : Tokens} {g : Given} → Argument r a b g → EditedArgument a b g
    edited_argument (Argument.value d) =
        let o = edited_tree d in record {
          own = o.own;
          splits = o.splits;
          edited = λ lo hi r. carry_last [] refl (λ q h. h) refl (λ ks how x. shape.argument_value x)
              (o.edited lo hi r);
        }
    edited_argument (Argument.format {w = w} {s = s}) = record {
      own = (kind.Str w, s) ∷ [];
      splits = refl;
      edited = λ lo hi r. Edited.kept refl (λ how. shape.argument_format w);
    }
    edited_argument (Argument.address {s = s} d) =
        let o = edited_tree d in
        record {
          own = (kind.Punct mark.And, s) ∷ o.own;
          splits = ap (λ q. (kind.Punct mark.And, s) ∷ q) o.splits;
          edited = λ lo hi r. carry_last ((kind.Punct mark.And, s) ∷ []) refl
              (further ((kind.Punct mark.And, s) ∷ [])) refl (λ ks how x. shape.argument_address x)
              (o.edited s.to hi r.2);
        }

    -- the same of arguments
    edited_arguments : {r : ℕ} {a b : Tokens} {gs : List Given} → Arguments r a b gs
        → EditedArguments a b gs
    edited_arguments (Arguments.last {g = g} d) =
        let o = edited_argument d in
        record {
          own = o.own;
          splits = o.splits;
          edited = λ lo hi r. carry_last [] refl (λ q h. h)
              (ap (find (is_at l)) (args_locs g []) ∙ found_alone l (in_given g))
              (λ ks how x. shape.arguments_last x) (o.edited lo hi r);
        }
    edited_arguments (Arguments.more {c = c} {g = g} {gs = gs} {s = s} d e) =
        let o = edited_argument d in
        let p = edited_arguments e in
        record {
          own = o.own ++ (kind.Punct mark.Comma, s) ∷ p.own;
          splits = o.splits ∙ ap (λ q. o.own ++ (kind.Punct mark.Comma, s) ∷ q) p.splits
              ∙ sym (append_assoc o.own ((kind.Punct mark.Comma, s) ∷ p.own) c);
          edited = λ lo hi r.
              let at = rise_split o.own ((kind.Punct mark.Comma, s) ∷ p.own) lo hi r in
              two_last [] o.own ((kind.Punct mark.Comma, s) ∷ []) p.own
              (o.own ++ (kind.Punct mark.Comma, s) ∷ p.own) refl (λ q h. h)
              (further (o.own ++ (kind.Punct mark.Comma, s) ∷ []))
              (λ ks js how x y. shape.arguments_more x y) (args_locs g gs) lo hi r
              (o.edited lo at.0 at.1) (p.edited s.to hi at.2.2);
        }

-- At each location of a program, others can stand in the place of its tokens.
use Rattle.std.proofs.Common.{◌≡◌, ℕ, zero, suc, false, refl, Some, None, List, [], ◌∷◌, ◌++◌, sym, ap, ◌∙◌, subst, append_assoc, option_map, Contains, arith}
use Rattle.std.proofs.lemmas.List.{append-nil}
use Rattle.c_lex.specs.declared.token.TokenKind.{TokenKind}
use Rattle.c_lex.specs.declared.token.TokenKind.TheVariants as kind
use Rattle.c_lex.specs.declared.token.Keyword.TheVariants as key
use Rattle.c_lex.specs.declared.token.Punct.TheVariants as mark
use Rattle.c_lex.specs.Lexemes.{Rise, kinds}
use Rattle.c_tree.specs.declared.expr.BinOp.TheVariants.{Both, Either}
use Rattle.c_tree.specs.declared.place.Loc.{Loc}
use Rattle.c_tree.specs.declared.place.LocKind.{LocKind}
use Rattle.c_tree.specs.declared.place.LocKind.TheVariants.{Guard, Cond, Right}
use Rattle.c_tree.specs.declared.place.Span.{Span}
use Rattle.c_tree.specs.Tree.{Tree, binary, Code, Outer, bare, bare_code, bare_program, no_span}
use Rattle.c_location.specs.Changes.{replaced, combined, guarded}
use Rattle.c_location.specs.Locations.{Part, located, locations}
use Rattle.c_location.specs.Laws.{NothingElsewhere}
use Rattle.c_location.specs.Locations as part
use Rattle.c_location.specs.OnePlace.{IsOf, NamesOnePlace}
use Rattle.c_location.specs.Rewrites.{Rewrite, rewrite}
use Rattle.c_grammar.specs.declared.nonterminal.Nonterminal.TheVariants.{Expression, Assignment, Binary}
use Rattle.c_grammar.specs.Operators.{weakest}
use Rattle.c_grammar.specs.Grammar.{Tokens}
use Rattle.c_grammar.specs.Programs.{Statement, Derives}
use Rattle.c_replace.specs.Shapes.{Shaped}
use Rattle.c_replace.specs.Forms.{Formed, ShapedProgram}
use Rattle.c_replace.specs.Replacing.{IsPart, Fits, Replaceable, enclosed, joined_kinds, guarded_kinds, ReplaceableBy}
use Rattle.c_replace.proofs.Shapes as expression
use Rattle.c_replace.proofs.Statements as shape
use Rattle.c_replace.proofs.Holes.{Edited, hole_within}
use Rattle.c_replace.proofs.EditedPrograms.{Inside, ProgramKinds, program}

-- a program that holds a location, which names one place of it
by_place : (a : Tokens) (p : List Outer) (l : Loc) → NamesOnePlace l p
    → Edited l (Inside l) (ProgramKinds l p) (located p) a
    → Replaceable l p a
by_place a p l n (Edited.kept none k) =
    let nothing : None ≡ Some n.part = sym (ap (option_map (λ x. x.part)) none) ∙ n.found in
    absurd (cc)
by_place a p l n (Edited.holed h) =
    let found = ap (option_map (λ x. x.part)) h.found in
    let both : Some n.part ≡ Some h.place.part = sym n.found ∙ found in
    let same : n.part ≡ h.place.part = cc in
    record {
      before = h.before;
      own = h.mid;
      after = h.after;
      consists = h.consists;
      inside = h.left.1;
      covers = h.covers;
      part = h.place.part;
      found = found;
      is_of = subst (IsOf l.kind l.at) same n.covers;
      is_part = h.is_part;
      settled_before = h.left.0;
      settled = h.settled;
      replaced = h.fill;
    }

-- a program with a location that names one place of it
pub replaceable : (r end : ℕ) (a : Tokens) (p : List Outer) (l : Loc) → Derives r a p → Rise 0 end a
    → NamesOnePlace l p
    → Replaceable l p a
replaceable r end a p l d rise n = by_place a p l n (program l d 0 end rise)

-- ---- programs by the kinds of their tokens

-- no location is the condition with no text
nowhere : Loc
nowhere = record { kind = Cond; at = no_span }

-- every part stays
unchanged : Rewrite
unchanged = record { tree = λ e. e; code = λ c. c }

-- a program in which nothing is replaced
by_kinds : (end : ℕ) (a : Tokens) (p : List Outer) → Rise 0 end a
    → ((l : Loc) → Contains (locations p) l → NamesOnePlace l p)
    → NothingElsewhere → Edited nowhere (Inside nowhere) (ProgramKinds nowhere p) (located p) a
    → ShapedProgram (kinds a) (bare_program p)
unfolding nowhere
by_kinds end a p rise names stays (Edited.kept none k) =
    let absent : Contains (locations p) nowhere → ⊥ = λ among.
    let n = names nowhere among in
    let nothing : None ≡ Some n.part = sym (ap (option_map (λ x. x.part)) none) ∙ n.found in
    absurd (cc) in
    subst (λ q. ShapedProgram (kinds a) (bare_program q)) (stays p nowhere unchanged absent)
    (k unchanged)
by_kinds end a p rise names stays (Edited.holed h) = let w = hole_within 0 end rise h in
    absurd (omega (arith, w.1))

-- all tokens of the kinds of a program's tokens are the program
pub program_by_kinds : (r end : ℕ) (a : Tokens) (p : List Outer) → Derives r a p → Rise 0 end a
    → ((l : Loc) → Contains (locations p) l → NamesOnePlace l p) → NothingElsewhere
    → ShapedProgram (kinds a) (bare_program p)
program_by_kinds r end a p d rise names stays =
    by_kinds end a p rise names stays (program nowhere d 0 end rise)

-- ---- the changes that a patch makes

-- a block that holds an `if` with the test round a statement
guard_formed : {test old : List TokenKind} (new : Tree) (c : Code) → Shaped Expression test (bare new)
    → Formed (Statement false) bare_code old (bare_code c)
    → Formed (Statement false) bare_code (guarded_kinds test old) (bare_code ((guarded new).code c))
guard_formed {test} {old} new c f g =
    let tail = kind.Punct mark.CloseBrace ∷ [] in
    let inner = kind.Word key.If ∷ kind.Punct mark.OpenParen ∷
    (test ++ kind.Punct mark.CloseParen ∷ old) in
    let same : kind.Punct mark.OpenBrace ∷ ((inner ++ []) ++ tail) ≡ guarded_kinds test old =
    ap (λ q. kind.Punct mark.OpenBrace ∷ (q ++ tail)) (append-nil inner)
    ∙ ap (λ q. kind.Punct mark.OpenBrace ∷ kind.Word key.If ∷ kind.Punct mark.OpenParen ∷ q)
    (append_assoc test (kind.Punct mark.CloseParen ∷ old) tail) in
    subst (λ q. Formed (Statement false) bare_code q (bare_code ((guarded new).code c))) same
    (shape.block (shape.statement_item (shape.if_then f g) shape.none))

-- an expression in parentheses, where an operand of operators of some rank is wanted
operand_of : {ks : List TokenKind} {t : Tree} (j : ℕ) → Shaped Expression ks t
    → Shaped (Binary j) (enclosed ks) t
operand_of zero s = expression.operand (expression.cast
    (expression.unary (expression.postfix (expression.paren s))))
operand_of (suc j) s = expression.weaker (operand_of j s)

-- an expression of operators, where any is wanted
any_of : {ks : List TokenKind} {t : Tree} → Shaped (Binary weakest) ks t → Shaped Expression ks t
any_of s = expression.expression (expression.assignment (expression.conditional s))

-- the old condition and a new one
narrowed_shaped : {old ks : List TokenKind} {t u : Tree} → Shaped Expression old t
    → Shaped Expression ks u
    → Shaped Expression (joined_kinds mark.AndAnd old ks) (binary Both t u no_span)
narrowed_shaped s f = any_of (expression.weaker
    (expression.binary mark.AndAnd Both refl refl (operand_of 9 s) (operand_of 8 f)))

-- the old condition or a new one
widened_shaped : {old ks : List TokenKind} {t u : Tree} → Shaped Expression old t
    → Shaped Expression ks u
    → Shaped Expression (joined_kinds mark.OrOr old ks) (binary Either t u no_span)
widened_shaped s f = any_of (expression.binary mark.OrOr Either refl refl (operand_of 10 s)
    (operand_of 9 f))

-- the old condition and a new one fit
narrowed_fits : (k : LocKind) (at : Span) (part : Part) (old ks : List TokenKind) (new : Tree)
    → k ≡ Cond → IsOf k at part → IsPart old part → Shaped Expression ks (bare new)
    → Fits k (joined_kinds mark.AndAnd old ks) (rewrite (combined Both new) part)
narrowed_fits Cond at (part.expression e) old ks new i o g s = narrowed_shaped g s
narrowed_fits Cond at (part.statement c) old ks new i o g s = absurd o
narrowed_fits Guard at part old ks new i o g s = absurd (cc)
narrowed_fits Right at part old ks new i o g s = absurd (cc)

-- the old condition or a new one fits
widened_fits : (k : LocKind) (at : Span) (part : Part) (old ks : List TokenKind) (new : Tree) → k ≡ Cond
    → IsOf k at part → IsPart old part → Shaped Expression ks (bare new)
    → Fits k (joined_kinds mark.OrOr old ks) (rewrite (combined Either new) part)
widened_fits Cond at (part.expression e) old ks new i o g s = widened_shaped g s
widened_fits Cond at (part.statement c) old ks new i o g s = absurd o
widened_fits Guard at part old ks new i o g s = absurd (cc)
widened_fits Right at part old ks new i o g s = absurd (cc)

-- a new condition fits
condition_fits : (k : LocKind) (at : Span) (part : Part) (ks : List TokenKind) (new : Tree) → k ≡ Cond
    → IsOf k at part → Shaped Expression ks (bare new)
    → Fits k ks (rewrite (replaced new) part)
condition_fits Cond at (part.expression e) ks new i o s = s
condition_fits Cond at (part.statement c) ks new i o s = absurd o
condition_fits Guard at part ks new i o s = absurd (cc)
condition_fits Right at part ks new i o s = absurd (cc)

-- a new right side fits
side_fits : (k : LocKind) (at : Span) (part : Part) (ks : List TokenKind) (new : Tree) → k ≡ Right
    → IsOf k at part → Shaped Assignment ks (bare new)
    → Fits k ks (rewrite (replaced new) part)
side_fits Right at (part.expression e) ks new i o s = s
side_fits Right at (part.statement c) ks new i o s = absurd o
side_fits Guard at part ks new i o s = absurd (cc)
side_fits Cond at part ks new i o s = absurd (cc)

-- a statement with an `if` round it fits
guard_fits : (k : LocKind) (at : Span) (part : Part) (test old : List TokenKind) (new : Tree)
    → k ≡ Guard → IsOf k at part → IsPart old part → Shaped Expression test (bare new)
    → Fits k (guarded_kinds test old) (rewrite (guarded new) part)
guard_fits Guard at (part.statement c) test old new i o g f = guard_formed new c f g
guard_fits Guard at (part.expression e) test old new i o g f = absurd o
guard_fits Right at part test old new i o g f = absurd (cc)
guard_fits Cond at part test old new i o g f = absurd (cc)

-- what can be replaced is replaced by the changes that a patch makes
pub replaced_by : (l : Loc) (p : List Outer) (a : Tokens) (x : Replaceable l p a)
    → ReplaceableBy l p (kinds x.before) (kinds x.own) (kinds x.after)
replaced_by l p a x = record {
  condition = λ k ks new s. x.replaced ks (replaced new)
      (condition_fits l.kind l.at x.part ks new k x.is_of s);
  narrowed = λ k ks new s. x.replaced (joined_kinds mark.AndAnd (kinds x.own) ks) (combined Both new)
      (narrowed_fits l.kind l.at x.part (kinds x.own) ks new k x.is_of x.is_part s);
  widened = λ k ks new s. x.replaced (joined_kinds mark.OrOr (kinds x.own) ks) (combined Either new)
      (widened_fits l.kind l.at x.part (kinds x.own) ks new k x.is_of x.is_part s);
  right_side = λ k ks new s. x.replaced ks (replaced new)
      (side_fits l.kind l.at x.part ks new k x.is_of s);
  guard = λ k test new s. x.replaced (guarded_kinds test (kinds x.own)) (guarded new)
      (guard_fits l.kind l.at x.part test (kinds x.own) new k x.is_of x.is_part s);
}

-- The text of a patch is read again as the patched program.
use Rattle.std.proofs.Common.{◌≡◌, ◌⊎◌, inl, inr, true, false, List, [], ◌∷◌, ◌++◌, length, take, drop, codes, Ok, refl, sym, ap, ◌∙◌, subst, append_assoc, arith}
use Rattle.c_lex.specs.declared.token.TokenKind.{TokenKind}
use Rattle.c_lex.specs.Bytes.{Bytes}
use Rattle.c_lex.specs.Places.{IsNowhere, is_refused}
use Rattle.c_lex.specs.Lexemes.{Lexeme, kinds, end_of}
use Rattle.c_lex.specs.Tokens.{Lexes}
use Rattle.c_tree.specs.declared.expr.BinOp.TheVariants.{Both, Either}
use Rattle.c_tree.specs.declared.place.Loc.{Loc}
use Rattle.c_tree.specs.declared.place.LocKind.{LocKind}
use Rattle.c_tree.specs.declared.place.LocKind.TheVariants.{Guard, Cond, Right}
use Rattle.c_tree.specs.Tree.{Tree, Outer, bare}
use Rattle.c_location.specs.Changes.{replaced as with_new, combined, guarded as with_test}
use Rattle.c_location.specs.Rewrites.{Rewrite, rewritten}
use Rattle.c_grammar.specs.declared.nonterminal.Nonterminal.TheVariants.{Expression, Assignment, Primary}
use Rattle.c_grammar.specs.Grammar.{Tokens}
use Rattle.patch_text.specs.Printed.{symbol, printed, parenthesized}
use Rattle.patch_text.specs.Spliced.{spliced, replaced, old_text, joined, guarded}
use Rattle.c_splice.specs.Seams.{IsLoose, IsTight}
use Rattle.c_splice.specs.Edges.{ends_other, ends_query}
use Rattle.c_splice.specs.Words.{AllWorded}
use Rattle.c_splice.specs.Replaced.{between, TokensReplaceable}
use Rattle.c_splice.specs.Replaced as texts
use Rattle.c_replace.specs.Shapes.{Shaped, is_settled}
use Rattle.c_replace.specs.Replacing.{ReplaceableBy, Becomes, ChangesReplace, enclosed, joined_kinds, guarded_kinds}
use Rattle.c_replace.specs.Replacing as programs
use Rattle.c_replace.proofs.Shapes as shape
use Rattle.printed_tokens.specs.Laws.{CutIntoItsTokens, MakesNoTrigraph, TokensDeriveIt}
use Rattle.printed_tokens.specs.PrintedKinds.{printed_kinds, symbol_mark, Printable}
use Rattle.printed_tokens.proofs.Derived.{binary_of, from_binary}
use Rattle.c_reread.specs.ReadAgain.{IsTextOf, ReadAgain}
use Rattle.c_reread.proofs.Texts.{enclosed_loose, enclosed_fits, joined_loose, joined_fits, guarded_loose, guarded_fits}

-- the last of tokens that are settled is no `?`
settled_other : (ts : Tokens) → is_settled ts ≡ true → ends_other ts ≡ true
settled_other [] h = refl
settled_other (t ∷ []) h = h
settled_other (t ∷ u ∷ ts) h = settled_other (u ∷ ts) h

-- a condition or a right side is no guard
no_guard : (k : LocKind) → (k ≡ Cond) ⊎ (k ≡ Right) → k ≡ Guard → ⊥
no_guard k (inl e) g = let f = sym e ∙ g in absurd (cc)
no_guard k (inr e) g = let f = sym e ∙ g in absurd (cc)

-- a part in parentheses is an operand of each operator
primary_expression : {ks : List TokenKind} {t : Tree} → Shaped Primary ks t → Shaped Expression ks t
primary_expression s = from_binary 10 (omega arith) (binary_of 10 s)

-- and can be a right side
primary_assignment : {ks : List TokenKind} {t : Tree} → Shaped Primary ks t → Shaped Assignment ks t
primary_assignment s = shape.assignment (shape.conditional (binary_of 10 s))

-- the tokens of a location of a source, with the first before it and the first of its own, and how
-- each change replaces them
record Placed (p : List Outer) (l : Loc) (tokens : Tokens) : Type 0 where
  lead : Lexeme
  pre : Tokens
  head : Lexeme
  tail : Tokens
  post : Tokens
  is_text : tokens ≡ (lead ∷ pre) ++ (head ∷ (tail ++ post))
  from : head.1.from ≡ l.at.from
  to : end_of head tail ≡ l.at.to
  settled_before : (l.kind ≡ Guard → ⊥) → is_settled (lead ∷ pre) ≡ true
  settled : is_settled (head ∷ tail) ≡ true
  by : ReplaceableBy l p (kinds (lead ∷ pre)) (kinds (head ∷ tail)) (kinds post)

placed_by : (p : List Outer) (l : Loc) (tokens pre : Tokens) (x : programs.Replaceable l p tokens)
    → ReplaceableBy l p (kinds x.before) (kinds x.own) (kinds x.after) → x.before ≡ pre
    → Placed p l tokens
placed_by p l tokens [] x by e = absurd (let i = x.inside in omega (arith, i, ap length e))
placed_by p l tokens (lead ∷ pre) x by e =
    let c = x.covers in
    record {
      lead = lead;
      pre = pre;
      head = c.first;
      tail = c.others;
      post = x.after;
      is_text = x.consists ∙ ap (λ q. q ++ (x.own ++ x.after)) e
          ∙ ap (λ q. (lead ∷ pre) ++ (q ++ x.after)) c.consists;
      from = c.begins;
      to = c.ends;
      settled_before = λ k. ap is_settled (sym e) ∙ x.settled_before k;
      settled = ap is_settled (sym c.consists) ∙ x.settled;
      by = subst (λ q. ReplaceableBy l p (kinds q) (kinds (c.first ∷ c.others)) (kinds x.after)) e
          (subst (λ q. ReplaceableBy l p (kinds x.before) (kinds q) (kinds x.after)) c.consists by);
    }

module _ (cut : CutIntoItsTokens) (safe : MakesNoTrigraph) (derive : TokensDeriveIt)
    (source : Bytes) (p : List Outer) (l : Loc) (tokens : Tokens) (x : Placed p l tokens)
    (y : texts.Replaceable source (x.lead ∷ x.pre) x.head x.tail x.post) where
  -- the text before the location
  abbrev before : Bytes
  before = take x.head.1.from source

  -- a text that fits is read as the program with what it is put in
  reads_as : (text : Bytes) (ks : List TokenKind) (change : Rewrite) → texts.Fits before text
      → IsLoose y.macros text ks
      → Becomes l p (kinds (x.lead ∷ x.pre)) (kinds x.post) ks change
      → IsTextOf (spliced source l.at text) (rewritten l change p)
  reads_as text ks change fits loose becomes =
      let r = y.replaced text ks fits loose in
      let s = becomes.each r.0 (r.2 ∙ append_assoc (kinds (x.lead ∷ x.pre)) ks (kinds x.post)) in
      let same : take x.head.1.from source ++ text ++ drop (end_of x.head x.tail) source
      ≡ spliced source l.at text =
      ap (λ q. take q source ++ text ++ drop (end_of x.head x.tail) source) x.from
      ∙ ap (λ q. take l.at.from source ++ text ++ drop q source) x.to in
      record {
        tokens = r.0;
        room = s.need;
        found = s.found;
        lexes = subst (λ q. Lexes q (Ok r.0)) same r.1;
        derives = s.derives s.need (omega arith);
        is_same = s.is_bare;
      }

  -- the bytes of the location
  old_is : between x.head.1.from (end_of x.head x.tail) source ≡ old_text source l.at
  old_is =
      ap (λ q. between q (end_of x.head x.tail) source) x.from
      ∙ ap (λ q. between l.at.from q source) x.to

  tight_old : IsTight y.macros (old_text source l.at) (kinds (x.head ∷ x.tail))
  tight_old = subst (λ q. IsTight y.macros q (kinds (x.head ∷ x.tail))) old_is y.old

  clean_old : IsNowhere is_refused (old_text source l.at)
  clean_old = subst (IsNowhere is_refused) old_is y.clean

  -- they don't end with `??`
  quiet_old : ends_query (old_text source l.at) ≡ false
  quiet_old = ap ends_query (sym old_is) ∙ y.old_query (settled_other (x.head ∷ x.tail) x.settled)

  -- nor does what stands before a condition or a right side
  quiet : (l.kind ≡ Cond) ⊎ (l.kind ≡ Right) → ends_query before ≡ false
  quiet k =
      y.before_query
      (settled_other (x.lead ∷ x.pre) (x.settled_before (λ g. no_guard l.kind k g)))

  -- the new expression in parentheses, which is an operand
  operand : (e : Tree) → Printable y.macros e
      → Shaped Primary (enclosed (printed_kinds e)) (bare e)
  operand e h = shape.paren (derive y.macros e h)

  at_condition : (k : l.kind ≡ Cond) (e : Tree) → Printable y.macros e
      → IsTextOf (replaced source l.at e) (rewritten l (with_new e) p)
  at_condition k e h =
      reads_as (parenthesized (printed e)) (enclosed (printed_kinds e)) (with_new e)
      (enclosed_fits before (printed e) (quiet (inl k)) (safe y.macros e h))
      (enclosed_loose (cut y.macros e h))
      (x.by.condition k (enclosed (printed_kinds e)) e (primary_expression (operand e h)))

  at_right_side : (k : l.kind ≡ Right) (e : Tree) → Printable y.macros e
      → IsTextOf (replaced source l.at e) (rewritten l (with_new e) p)
  at_right_side k e h =
      reads_as (parenthesized (printed e)) (enclosed (printed_kinds e)) (with_new e)
      (enclosed_fits before (printed e) (quiet (inr k)) (safe y.macros e h))
      (enclosed_loose (cut y.macros e h))
      (x.by.right_side k (enclosed (printed_kinds e)) e (primary_assignment (operand e h)))

  narrowed_at : (k : l.kind ≡ Cond) (e : Tree) → Printable y.macros e
      → IsTextOf (joined source l.at Both e) (rewritten l (combined Both e) p)
  narrowed_at k e h =
      reads_as
      (parenthesized (old_text source l.at) ++ codes " " ++ symbol Both ++ codes " " ++ parenthesized (printed e))
      (joined_kinds (symbol_mark Both) (kinds (x.head ∷ x.tail)) (printed_kinds e)) (combined Both e)
      (joined_fits Both before (old_text source l.at) (printed e) (quiet (inl k)) clean_old quiet_old
      (safe y.macros e h))
      (joined_loose Both tight_old (cut y.macros e h))
      (x.by.narrowed k (printed_kinds e) e (derive y.macros e h))

  widened_at : (k : l.kind ≡ Cond) (e : Tree) → Printable y.macros e
      → IsTextOf (joined source l.at Either e) (rewritten l (combined Either e) p)
  widened_at k e h =
      reads_as
      (parenthesized (old_text source l.at) ++ codes " " ++ symbol Either ++ codes " " ++ parenthesized (printed e))
      (joined_kinds (symbol_mark Either) (kinds (x.head ∷ x.tail)) (printed_kinds e))
      (combined Either e)
      (joined_fits Either before (old_text source l.at) (printed e) (quiet (inl k)) clean_old quiet_old
      (safe y.macros e h))
      (joined_loose Either tight_old (cut y.macros e h))
      (x.by.widened k (printed_kinds e) e (derive y.macros e h))

  guarded_at : (k : l.kind ≡ Guard) (e : Tree) → Printable y.macros e
      → IsTextOf (guarded source l.at e) (rewritten l (with_test e) p)
  guarded_at k e h =
      reads_as (codes "{ if (" ++ printed e ++ codes ") " ++ old_text source l.at ++ codes " }")
      (guarded_kinds (printed_kinds e) (kinds (x.head ∷ x.tail))) (with_test e)
      (guarded_fits before (old_text source l.at) (printed e) clean_old (safe y.macros e h))
      (guarded_loose (cut y.macros e h) tight_old)
      (x.by.guard k (printed_kinds e) e (derive y.macros e h))

  -- each change at the location
  each_change : AllWorded y.macros tokens → ReadAgain source tokens p l
  each_change words = record {
    macros = y.macros;
    words = words;
    condition = at_condition;
    narrowed = narrowed_at;
    widened = widened_at;
    right_side = at_right_side;
    guard = guarded_at;
  }

-- the text of each patch of a source is read as the patched program
pub read_again : CutIntoItsTokens → MakesNoTrigraph → TokensDeriveIt → TokensReplaceable
    → ChangesReplace → (source : Bytes) (tokens : Tokens) (p : List Outer) (l : Loc)
    → Lexes source (Ok tokens) → programs.Replaceable l p tokens → ReadAgain source tokens p l
read_again cut safe derive replaces changes source tokens p l lexes h =
    let x = placed_by p l tokens h.before h (changes l p tokens h) refl in
    let y = replaces source x.lead x.pre x.head x.tail x.post
    (subst (λ q. Lexes source (Ok q)) x.is_text lexes) in
    each_change cut safe derive source p l tokens x y
    (subst (AllWorded y.macros) (sym x.is_text) y.words)

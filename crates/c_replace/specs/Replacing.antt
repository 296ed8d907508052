-- The tokens of a location in those of a program, and what is derived when others stand in their
-- place.
use Rattle.std.specs.Prelude.{◌≡◌, ℕ, ◌≤◌, true, false, List, [], ◌∷◌, ◌++◌, length, Some}
use Rattle.std.specs.List.{Contains}
use Rattle.c_lex.specs.declared.token.TokenKind.{TokenKind}
use Rattle.c_lex.specs.declared.token.TokenKind.TheVariants as kind
use Rattle.c_lex.specs.declared.token.Keyword.TheVariants as key
use Rattle.c_lex.specs.declared.token.Punct.{Punct as Mark}
use Rattle.c_lex.specs.declared.token.Punct.TheVariants as mark
use Rattle.c_lex.specs.Lexemes.{Rise, kinds, Covers}
use Rattle.c_tree.specs.declared.expr.BinOp.TheVariants.{Both, Either}
use Rattle.c_tree.specs.declared.place.Loc.{Loc}
use Rattle.c_tree.specs.declared.place.LocKind.{LocKind}
use Rattle.c_tree.specs.declared.place.LocKind.TheVariants.{Guard, Cond, Right}
use Rattle.c_tree.specs.Tree.{Tree, Outer, bare, bare_code, bare_program}
use Rattle.c_location.specs.Changes.{replaced, combined, guarded}
use Rattle.c_location.specs.Locations.{Part, expression, statement, locations, part_at}
use Rattle.c_location.specs.OnePlace.{IsOf}
use Rattle.c_location.specs.Rewrites.{Rewrite, rewrite, rewritten}
use Rattle.c_grammar.specs.declared.nonterminal.Nonterminal.TheVariants.{Expression, Assignment}
use Rattle.c_grammar.specs.Grammar.{Tokens}
use Rattle.c_grammar.specs.Programs.{Statement, Derives}
use Rattle.c_replace.specs.Shapes.{Shaped, is_settled}
use Rattle.c_replace.specs.Forms.{Formed, ShapedProgram}

-- all tokens of these kinds are the part; no `else` after a statement would belong to it
abbrev pub IsPart : List TokenKind → Part → Type 0
IsPart ks (expression e) = Shaped Expression ks (bare e)
IsPart ks (statement c) = Formed (Statement false) bare_code ks (bare_code c)

-- Tokens of these kinds can stand at a location of that kind, and are the part there. A right side
-- has no comma outside parentheses.
abbrev pub Fits : LocKind → List TokenKind → Part → Type 0
Fits Right ks (expression e) = Shaped Assignment ks (bare e)
Fits _ ks part = IsPart ks part

-- The tokens of a location in those of a program. They cover its text, and are the part that stands
-- there. Where others stand in their place that are what a rewrite makes of the part, the tokens
-- are the program rewritten at the location.
pub record Replaceable (l : Loc) (p : List Outer) (a : Tokens) : Type 0 where
  pub before : Tokens
  pub own : Tokens
  pub after : Tokens
  pub consists : a ≡ before ++ (own ++ after)
  pub inside : 1 ≤ length before
  pub covers : Covers own l.at
  pub part : Part
  pub found : part_at l p ≡ Some part
  pub is_of : IsOf l.kind l.at part
  pub is_part : IsPart (kinds own) part
  -- the last token before a condition or a right side is no `?`
  pub settled_before : (l.kind ≡ Guard → ⊥) → is_settled before ≡ true
  -- and its own last token is none
  pub settled : is_settled own ≡ true
  pub replaced : (ks : List TokenKind) (r : Rewrite) → Fits l.kind ks (rewrite r part)
      → ShapedProgram (kinds before ++ (ks ++ kinds after)) (bare_program (rewritten l r p))

-- All tokens of the kinds of a program's tokens are the same program, but for spans, slots and the
-- spelling of constants.
abbrev pub ProgramsByKinds : Type 0
ProgramsByKinds = (r end : ℕ) (a : Tokens) (p : List Outer) → Derives r a p → Rise 0 end a
    → ShapedProgram (kinds a) (bare_program p)

-- At each location of a program, others can stand in the place of its tokens.
abbrev pub EachReplaceable : Type 0
EachReplaceable = (r end : ℕ) (a : Tokens) (p : List Outer) (l : Loc) → Derives r a p → Rise 0 end a
    → Contains (locations p) l → Replaceable l p a

-- `(` .. `)`
abbrev pub enclosed : List TokenKind → List TokenKind
enclosed ks = kind.Punct mark.OpenParen ∷ (ks ++ kind.Punct mark.CloseParen ∷ [])

-- `(` old `)`, an operator and `(` new `)`
abbrev pub joined_kinds : Mark → List TokenKind → List TokenKind → List TokenKind
joined_kinds operator old new = enclosed old ++ kind.Punct operator ∷ enclosed new

-- `{ if (` test `) ` old ` }`
abbrev pub guarded_kinds : List TokenKind → List TokenKind → List TokenKind
guarded_kinds test old = kind.Punct mark.OpenBrace ∷ kind.Word key.If ∷ kind.Punct mark.OpenParen
    ∷ (test ++ kind.Punct mark.CloseParen ∷ (old ++ kind.Punct mark.CloseBrace ∷ []))

-- Where tokens of the kinds ks stand between those before a location and those after it, they are
-- the program with that change at the location.
abbrev pub Becomes : Loc → List Outer → List TokenKind → List TokenKind → List TokenKind → Rewrite
    → Type 0
Becomes l p before after ks change =
    ShapedProgram (before ++ (ks ++ after)) (bare_program (rewritten l change p))

-- what each change of a patch puts in the place of a location, whose own tokens are of the kinds
-- `own`
pub record ReplaceableBy (l : Loc) (p : List Outer)
    (before own after : List TokenKind) : Type 0 where
  pub condition : l.kind ≡ Cond → (ks : List TokenKind) (new : Tree)
      → Shaped Expression ks (bare new)
      → Becomes l p before after ks (replaced new)
  pub narrowed : l.kind ≡ Cond → (ks : List TokenKind) (new : Tree)
      → Shaped Expression ks (bare new)
      → Becomes l p before after (joined_kinds mark.AndAnd own ks) (combined Both new)
  pub widened : l.kind ≡ Cond → (ks : List TokenKind) (new : Tree) → Shaped Expression ks (bare new)
      → Becomes l p before after (joined_kinds mark.OrOr own ks) (combined Either new)
  pub right_side : l.kind ≡ Right → (ks : List TokenKind) (new : Tree)
      → Shaped Assignment ks (bare new)
      → Becomes l p before after ks (replaced new)
  pub guard : l.kind ≡ Guard → (test : List TokenKind) (new : Tree)
      → Shaped Expression test (bare new)
      → Becomes l p before after (guarded_kinds test own) (guarded new)

-- What can be replaced can be replaced by each change that a patch makes.
abbrev pub ChangesReplace : Type 0
ChangesReplace = (l : Loc) (p : List Outer) (a : Tokens) (x : Replaceable l p a)
    → ReplaceableBy l p (kinds x.before) (kinds x.own) (kinds x.after)

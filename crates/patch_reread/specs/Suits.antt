-- The changes whose texts are read again.
use Rattle.c_lex.specs.Tokens.{Macros}
use Rattle.c_tree.specs.declared.place.LocKind.{LocKind}
use Rattle.c_tree.specs.declared.place.LocKind.TheVariants.{Guard, Cond, Right}
use Rattle.patch_space.specs.Space.{Change, replaced, narrowed, widened, guarded}
use Rattle.printed_tokens.specs.PrintedKinds.{Printable}

-- a change suits a kind of location if it is one that is made there, and each word of the new
-- expression is its token
abbrev pub Suits : Macros → LocKind → Change → Type 0
Suits m Cond (replaced e) = Printable m e
Suits m Cond (narrowed e) = Printable m e
Suits m Cond (widened e) = Printable m e
Suits m Right (replaced e) = Printable m e
Suits m Guard (guarded e) = Printable m e
Suits m _ _ = ⊥

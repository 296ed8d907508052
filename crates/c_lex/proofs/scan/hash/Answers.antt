-- A directive, or one that comes too late.
use Rattle.std.proofs.Common.{Err, sym, subst}
use Rattle.c_lex.specs.declared.fault.LexFault.TheVariants as fault
use Rattle.c_lex.specs.declared.opening.Opening.TheVariants as opening
use Rattle.c_lex.specs.Reading.{Knows}
use Rattle.c_lex.specs.Tokens.{Macros, IsDirective, Stands}
use Rattle.c_lex.proofs.ScanParts.{finds_map}
use Rattle.c_lex.proofs.scan.hash.Goals as goal

pub returns-then-begun : goal.returns-then-begun
returns-then-begun c = λ _ m known. subst (λ b. Stands m c.args.at c.args.text.now b opening.Hash (Err (fault.DirectiveLate c.args.at))) (sym c.if-begun.true) Stands.late

pub returns-else-begun : goal.returns-else-begun
returns-else-begun c =
    finds_map (λ r. (m : Macros) → Knows c.args.macros.now m → IsDirective m c.args.at c.args.text.now r)
    (λ r. (m : Macros) → Knows c.args.macros.now m → Stands m c.args.at c.args.text.now c.args.begun opening.Hash r)
    (λ r h m known. subst (λ b. Stands m c.args.at c.args.text.now b opening.Hash r) (sym c.if-begun.false) (Stands.directive (h m known))) _ c.read_directive.ensures

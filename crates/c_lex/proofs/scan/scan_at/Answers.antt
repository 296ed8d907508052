-- What stands at the start, by what the text begins with.
use Rattle.std.proofs.Common.{Ok, Err, sym, ◌∙◌, subst}
use Rattle.c_lex.specs.declared.fault.LexFault.TheVariants as fault
use Rattle.c_lex.specs.declared.scan.Scanned.TheVariants as scanned
use Rattle.c_lex.specs.Tokens.{Stands}
use Rattle.c_lex.proofs.scan.scan_at.Goals as goal

pub returns-in-Space : goal.returns-in-Space
returns-in-Space c = λ m known. subst (λ o. Stands m c.args.at c.args.text.now c.args.begun o (Ok (scanned.Pass 1))) (sym c.in-Space.is ∙ c.opening_of.ensures) Stands.space

pub returns-in-Digraph : goal.returns-in-Digraph
returns-in-Digraph c = λ _ m known. subst (λ o. Stands m c.args.at c.args.text.now c.args.begun o (Err (fault.Digraph c.args.at))) (sym c.in-Digraph.is ∙ c.opening_of.ensures) Stands.digraph

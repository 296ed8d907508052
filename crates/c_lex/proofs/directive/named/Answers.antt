-- A definition, where its name is one.
use Rattle.std.proofs.Common.{length, sym, subst}
use Rattle.c_lex.specs.Reading.{Knows}
use Rattle.c_lex.specs.DirectiveReading.{definition_of, BeginsName}
use Rattle.c_lex.specs.Tokens.{Macros, Defines, Says}
use Rattle.c_lex.proofs.ScanParts.{finds_map}
use Rattle.c_lex.proofs.Forms.{define_is}
use Rattle.c_lex.proofs.DirectiveParts.{unknown_name, answers_valued}
use Rattle.c_lex.proofs.directive.named.Goals as goal

pub returns-then-begins_name : goal.returns-then-begins_name
returns-then-begins_name c =
    let line = c.args.line.now in
    let d = definition_of line c.args.parts in
    let begun = subst BeginsName c.part.ensures c.if-begins_name.ensures in
    let v = answers_valued d.number c.args.number c.requires.is_number c.requires.good in
    let is = define_is line c.args.parts c.requires.is_parts begun v.0 v.1 in
    finds_map (λ r. (m : Macros) → Knows c.args.macros.now m → Defines m c.args.at (length line) d r) (λ r. (m : Macros) → Knows c.args.macros.now m → Says m c.args.at line r)
    (λ r h m known. Says.define d is (h m known)) _ c.define.ensures

pub returns-else-begins_name : goal.returns-else-begins_name
returns-else-begins_name c = λ _ m known.
    unknown_name m c.args.at c.args.line.now c.args.parts c.requires.no_include c.requires.is_parts (λ b. c.if-begins_name.ensures (subst BeginsName (sym c.part.ensures) b))

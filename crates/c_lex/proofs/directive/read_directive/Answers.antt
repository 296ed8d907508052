-- What the line says, or a comment in it that isn't closed.
use Rattle.std.proofs.Common.{length, Ok, Err, sym, ap, subst, arith}
use Rattle.std.proofs.lemmas.Result.{err_from_is_err_and}
use Rattle.c_lex.specs.Directives.{HasLine}
use Rattle.c_lex.specs.Reading.{Knows}
use Rattle.c_lex.specs.Tokens.{Macros, Says, IsDirective}
use Rattle.c_lex.proofs.ScanParts.{finds_map}
use Rattle.c_lex.proofs.Sizes.{line_size}
use Rattle.c_lex.proofs.directive.read_directive.Goals as goal

pub returns-in_err-line : goal.returns-in_err-line
returns-in_err-line c =
    let p = err_from_is_err_and c.from_residual.result c.from_residual.ensures.1 in
    rw (p.1, p.2) (λ n m known.
    let e = c.in_err-line.ensures.err n in
    subst (λ f. IsDirective m c.args.at c.args.text.now (Err f)) (sym e.2) (IsDirective.unclosed e.0 e.1))

pub says-requires : goal.says-requires
says-requires c = let fits = line_size c.args.text.now c.in_ok-line.line.items c.in_ok-line.ensures.ok in record { places = omega (arith, fits, ap length c.deref.ensures.value) }

pub returns : goal.returns
returns c =
    let here = subst (λ w. HasLine c.args.text.now (Ok w)) (sym c.deref.ensures.value) c.in_ok-line.ensures.ok in
    finds_map (λ r. (m : Macros) → Knows c.args.macros.now m → Says m c.args.at c.deref.result.now r) (λ r. (m : Macros) → Knows c.args.macros.now m → IsDirective m c.args.at c.args.text.now r)
    (λ r h m known. IsDirective.closed c.deref.result.now here (h m known)) _ c.says.ensures

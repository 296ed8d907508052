use Rattle.std.proofs.Common.{◌≡◌, ◌-◌, suc, ap, subst, arith}
use Rattle.c_grammar.specs.Descent.{run, step}
use Rattle.c_parse.specs.Gives.{Gives, marked}
use Rattle.c_parse.proofs.Turns.{deeper}
use Rattle.c_parse.proofs.expression.+parse_part.Goals as goal

pub returns-then-depth-eq0 : goal.returns-then-depth-eq0
unfolding run
returns-then-depth-eq0 t c _ = let none : c.args.depth ≡ 0 = omega arith in ap (λ n. run n c.args.part c.args.cursor.now.room c.args.cursor.now.rest.now) none

pub returns : goal.returns
unfolding run
returns t c =
    let e : c.args.depth ≡ suc (c.args.depth - 1) = omega arith in
    rw (deeper (λ n. run n c.args.part c.args.cursor.now.room c.args.cursor.now.rest.now) c.args.depth (omega arith))
    (subst (λ n. Gives marked (step (run (c.args.depth - 1)) n c.args.part c.args.cursor.now.room c.args.cursor.now.rest.now) c.parse.result
    c.parse.new.cursor.room c.parse.new.cursor.rest.now) e c.parse.ensures)

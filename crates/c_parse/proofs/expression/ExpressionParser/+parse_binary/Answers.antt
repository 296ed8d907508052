use Rattle.std.proofs.Common.{rules, arith}
use Rattle.std.proofs.lemmas.Grind.{common_steps}
use Rattle.c_grammar.specs.Descent as spec
use Rattle.c_parse.proofs.Turns.{deeper}
use Rattle.c_parse.proofs.expression.ExpressionParser.+parse_binary.Goals as goal

pub returns-in_err-left : goal.returns-in_err-left
returns-in_err-left g t c =
    let e = deeper (λ n. spec.binary (spec.run c.args.self.now.depth) c.args.self.now.turns n c.args.cursor.now.room c.args.cursor.now.rest.now) c.args.rank
    (omega arith) in
    first_of (search rules, grind (arith, common_steps))

pub returns : goal.returns
returns g t c =
    let e = deeper (λ n. spec.binary (spec.run c.args.self.now.depth) c.args.self.now.turns n c.args.cursor.now.room c.args.cursor.now.rest.now) c.args.rank
    (omega arith) in
    first_of (search rules, grind (arith, common_steps))

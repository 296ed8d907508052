-- One digit more is counted, or none follows.
use Rattle.std.proofs.Common.{◌≡◌, true, false, get_or, arith}
use Rattle.std.specs.Char.{is_digit}
use Rattle.c_lex.proofs.Characters.{count_more, count_stops, count_ends}
use Rattle.c_lex.proofs.character.digit_count.Goals as goal

pub loop-count-preserved : goal.loop-count-preserved
loop-count-preserved c =
    let d : is_digit (get_or c.args.text.now c.loop-count.count 0) c.args.base ≡ true = cc (c.is_digit.ensures.value, c.from.ensures) in
    let e = count_more c.args.base c.args.most c.loop-count.count c.args.text.now (omega arith) (omega arith) d in
    record { within = omega arith; counts = omega (arith, e) }

pub returns-else-is_digit-clause-count : goal.returns-else-is_digit-clause-count
returns-else-is_digit-clause-count c =
    let d : is_digit (get_or c.args.text.now c.loop-count.count 0) c.args.base ≡ false = cc (c.is_digit.ensures.value, c.from.ensures) in
    let e = count_stops c.args.base c.args.most c.loop-count.count c.args.text.now (omega arith) d in
    omega (arith, e)

pub returns-else-count-text-clause-count : goal.returns-else-count-text-clause-count
returns-else-count-text-clause-count c =
    let e = count_ends c.args.base c.args.most c.loop-count.count c.args.text.now (omega arith) in
    omega (arith, e)

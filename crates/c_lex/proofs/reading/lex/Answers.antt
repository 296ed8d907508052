-- What is refused anywhere, or the outcome of the reading.
use Rattle.std.proofs.Common.{◌≢◌, false, length, drop, Ok, Err, sym, ap, ◌∙◌}
use Rattle.std.proofs.lemmas.List.{take_rest}
use Rattle.std.proofs.lemmas.Result.{IfOk-weaker, IfErr-weaker}
use Rattle.c_lex.specs.declared.fault.LexFault.TheVariants as fault
use Rattle.c_lex.specs.Lexemes.{Rise}
use Rattle.c_lex.specs.Places.{is_splice}
use Rattle.c_lex.specs.Tokens.{first_macros, Cuts, Lexes, IsPlaced}
use Rattle.c_lex.proofs.Sources.{other_is_trigraph, source_rise, answer_placed}
use Rattle.c_lex.proofs.reading.lex.Goals as goal

pub returns-in-Some-clause-err : goal.returns-in-Some-clause-err
returns-in-Some-clause-err c = λ _.
    let left = take_rest c.args.bytes.now c.in-Some.at in
    Lexes.splice c.in-Some.at c.in-Some.ensures (ap is_splice (sym left) ∙ sym c.is_splice.ensures ∙ c.if-is_splice.true)

pub returns-in-Some-2-clause-err : goal.returns-in-Some-2-clause-err
returns-in-Some-2-clause-err c = λ _.
    let left = take_rest c.args.bytes.now c.in-Some.at in
    let none = ap is_splice (sym left) ∙ sym c.is_splice.ensures ∙ c.if-is_splice.false in
    Lexes.trigraph c.in-Some.at c.in-Some.ensures (other_is_trigraph (drop c.in-Some.at c.args.bytes.now) c.in-Some.ensures.holds none)

pub returns-in-None-clause-ok : goal.returns-in-None-clause-ok
returns-in-None-clause-ok c =
    IfOk-weaker c.tokens_of.result (λ tokens. Cuts false first_macros 0 c.args.bytes.now (Ok tokens.items)) (λ tokens. Lexes c.args.bytes.now (Ok tokens.items))
    (λ tokens d. Lexes.cut c.in-None.ensures d) c.tokens_of.ensures.ok

pub returns-in-None-clause-rise : goal.returns-in-None-clause-rise
returns-in-None-clause-rise c =
    IfOk-weaker c.tokens_of.result (λ tokens. Cuts false first_macros 0 c.args.bytes.now (Ok tokens.items)) (λ tokens. Rise 0 (length c.args.bytes.now) tokens.items)
    (λ tokens d. source_rise c.args.bytes.now tokens.items d) c.tokens_of.ensures.ok

pub returns-in-None-clause-err : goal.returns-in-None-clause-err
returns-in-None-clause-err c =
    IfErr-weaker c.tokens_of.result (λ f. f ≢ fault.NoMemory → Cuts false first_macros 0 c.args.bytes.now (Err f)) (λ f. f ≢ fault.NoMemory → Lexes c.args.bytes.now (Err f))
    (λ f d n. Lexes.cut c.in-None.ensures (d n)) c.tokens_of.ensures.err

pub returns-in-None-clause-place : goal.returns-in-None-clause-place
returns-in-None-clause-place c =
    IfErr-weaker c.tokens_of.result (λ f. f ≢ fault.NoMemory → Cuts false first_macros 0 c.args.bytes.now (Err f)) (IsPlaced (length c.args.bytes.now))
    (λ f d. answer_placed c.args.bytes.now f d) c.tokens_of.ensures.err

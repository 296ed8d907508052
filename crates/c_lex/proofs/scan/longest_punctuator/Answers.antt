-- The punctuators are tried from the longest down.
use Rattle.std.proofs.Common.{arith}
use Rattle.c_lex.proofs.Runs.{at_most_three}
use Rattle.c_lex.proofs.ScanParts.{punctuator_is, no_punctuator}
use Rattle.c_lex.proofs.scan.longest_punctuator.Goals as goal

pub returns-in-Some : goal.returns-in-Some
returns-in-Some c =
    punctuator_is c.args.text.now 3 c.in-Some.punct c.requires.no_word c.requires.no_number c.in-Some.ensures.some.0 c.in-Some.ensures.some.1 (λ q rest e. at_most_three q)

pub returns-in-Some-punctuator_of : goal.returns-in-Some-punctuator_of
returns-in-Some-punctuator_of c =
    punctuator_is c.args.text.now 2 c.in-Some-punctuator_of.punct c.requires.no_word c.requires.no_number c.in-Some-punctuator_of.ensures.some.0 c.in-Some-punctuator_of.ensures.some.1
    (λ q rest e. let no_three = c.in_default.ensures.none q rest e in let short = at_most_three q in omega arith)

pub returns-in-Some-punctuator_of-2 : goal.returns-in-Some-punctuator_of-2
returns-in-Some-punctuator_of-2 c =
    punctuator_is c.args.text.now 1 c.in-Some-punctuator_of-2.punct c.requires.no_word c.requires.no_number c.in-Some-punctuator_of-2.ensures.some.0 c.in-Some-punctuator_of-2.ensures.some.1
    (λ q rest e. let no_three = c.in_default.ensures.none q rest e in let no_two = c.in_default-punctuator_of.ensures.none q rest e in let short = at_most_three q in omega arith)

pub returns-in-None : goal.returns-in-None
returns-in-None c =
    no_punctuator c.args.text.now c.requires.no_word c.requires.no_number
    (λ q rest e.
    let no_three = c.in_default.ensures.none q rest e in
    let no_two = c.in_default-punctuator_of.ensures.none q rest e in
    let no_one = c.in-None.ensures.none q rest e in
    let short = at_most_three q in omega arith)

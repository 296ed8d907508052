use Rattle.std.proofs.Common.{◌≡◌, Ok, Err, refl, sym, ap, subst}
use Rattle.c_grammar.specs.Judge.{judge, good, unexpected_at, too_deep_at}
use Rattle.c_parse.specs.declared.fault.ParseFault.TheVariants.{Unexpected, TooDeep}
use Rattle.c_parse.specs.Results.{MatchesVerdict}
use Rattle.c_parse.specs.Gives.{outers}
use Rattle.c_parse.proofs.Answered.{no_memory}
use Rattle.c_parse.proofs.Steps.{judge-found, judge-unexpected, judge-too_deep}
use Rattle.c_parse.proofs.program.parse_program.Goals as goal

pub returns-in-Ok : goal.returns-in-Ok
returns-in-Ok c =
    let e : judge 64 c.args.tokens.now ≡ good (outers c.in-Ok.externals) = judge-found 64 c.args.tokens.now c.in-Ok.ensures in
    subst (λ v. MatchesVerdict c.args.end v (Ok (record { externals = c.in-Ok.externals }))) (sym e) refl

pub returns-in-Err-Unexpected : goal.returns-in-Err-Unexpected
returns-in-Err-Unexpected c =
    let b = c.parse_externals.new.cursor.rest.now in
    let e : judge 64 c.args.tokens.now ≡ unexpected_at b = judge-unexpected 64 c.args.tokens.now
    ((rw c.in-Err-Unexpected.field-0-is at c.in-Err-Unexpected.ensures) (λ h. cc)) in
    subst (λ v. MatchesVerdict c.args.end v (Err (Unexpected c.fault_place.result))) (sym e) (λ h. ap Unexpected c.fault_place.ensures)

pub returns-in-Err-TooDeep : goal.returns-in-Err-TooDeep
returns-in-Err-TooDeep c =
    let b = c.parse_externals.new.cursor.rest.now in
    let e : judge 64 c.args.tokens.now ≡ too_deep_at b = judge-too_deep 64 c.args.tokens.now
    ((rw c.in-Err-TooDeep.field-0-is at c.in-Err-TooDeep.ensures) (λ h. cc)) in
    subst (λ v. MatchesVerdict c.args.end v (Err (TooDeep c.fault_place-in-Err-TooDeep.result))) (sym e) (λ h. ap TooDeep c.fault_place-in-Err-TooDeep.ensures)

pub returns-in-Err-NoMemory : goal.returns-in-Err-NoMemory
returns-in-Err-NoMemory c = no_memory c.args.end (judge 64 c.args.tokens.now)

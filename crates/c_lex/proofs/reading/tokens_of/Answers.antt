-- Each turn passes what stands at the place, or ends with its fault.
use Rattle.std.proofs.Common.{◌+◌, Err, true, ◌∷◌, sym, ◌∙◌, subst, arith, rules}
use mir.Syntax.{w64}
use mir.Val.{SFits}
use Rattle.std.proofs.lemmas.Int.{to_z-of_z}
use Rattle.std.proofs.lemmas.List.{take_rest, drop_all}
use Rattle.std.proofs.lemmas.Result.{err_from_is_err_and}
use Rattle.c_lex.specs.Openings.{opening_of}
use Rattle.c_lex.specs.Reading.{Knows}
use Rattle.c_lex.specs.Tokens.{Macros, Stands}
use Rattle.c_lex.proofs.Progress.{IsReadTo, stood_at, read_none, read_pass, read_define, read_token, read_stop, read_within, read_all}
use Rattle.c_lex.proofs.reading.tokens_of.Goals as goal

pub returns-in_err-macros-clause-err : goal.returns-in_err-macros-clause-err
returns-in_err-macros-clause-err c =
    let p = err_from_is_err_and c.from_residual.result c.from_residual.ensures.1 in
    rw (p.1) (λ n. absurd (n (p.2 ∙ c.in_err-macros.ensures.err)))

pub loop-at-init : goal.loop-at-init
loop-at-init c = record {
  within = omega arith;
  read = subst (IsReadTo c.args.bytes.now c.in_ok-macros.macros _ 0) (sym c.new-tokens.ensures.items) (read_none c.args.bytes.now c.in_ok-macros.macros c.in_ok-macros.ensures.ok);
}

pub returns-in_err-found-clause-err : goal.returns-in_err-found-clause-err
returns-in_err-found-clause-err c =
    let left = take_rest c.args.bytes.now c.loop-at.at in
    let p = err_from_is_err_and c.from_residual-in_err-found.result c.from_residual-in_err-found.ensures.1 in
    let f = c.in_err-found.field-0.0 in
    rw (p.1, p.2) (λ n. read_stop c.args.bytes.now c.loop-at.macros c.loop-at.begun c.loop-at.at c.loop-at.tokens.items f (omega arith) c.loop-at.invariant.read
    (subst (λ z. (m : Macros) → Knows c.loop-at.macros m → Stands m c.loop-at.at z c.loop-at.begun (opening_of z) (Err f)) left (c.in_err-found.ensures n)))

pub overflow_add-at : goal.overflow_add-at
overflow_add-at c =
    let stood = stood_at c.loop-at.macros c.loop-at.begun c.loop-at.at c.args.bytes.now _ _ c.in-Pass.is c.in_ok-found.ensures in
    let w = read_within c.args.bytes.now c.loop-at.macros c.loop-at.begun c.loop-at.at _ _ (omega arith) c.loop-at.invariant.read stood in
    omega (arith, w.0, w.1)

pub loop-at-smaller-in-Pass : goal.loop-at-smaller-in-Pass
loop-at-smaller-in-Pass c =
    let stood = stood_at c.loop-at.macros c.loop-at.begun c.loop-at.at c.args.bytes.now _ _ c.in-Pass.is c.in_ok-found.ensures in
    let w = read_within c.args.bytes.now c.loop-at.macros c.loop-at.begun c.loop-at.at _ _ (omega arith) c.loop-at.invariant.read stood in
    omega (arith, w.0, w.1)

pub loop-at-preserved-in-Pass : goal.loop-at-preserved-in-Pass
loop-at-preserved-in-Pass c =
    let stood = stood_at c.loop-at.macros c.loop-at.begun c.loop-at.at c.args.bytes.now _ _ c.in-Pass.is c.in_ok-found.ensures in
    let w = read_within c.args.bytes.now c.loop-at.macros c.loop-at.begun c.loop-at.at _ _ (omega arith) c.loop-at.invariant.read stood in
    record {
      within = omega (arith, w.0, w.1);
      read = read_pass c.args.bytes.now c.loop-at.macros c.loop-at.begun c.loop-at.at c.loop-at.tokens.items c.in-Pass.len (omega arith) c.loop-at.invariant.read stood;
    }

pub returns-in_err-define-in-Define-clause-err : goal.returns-in_err-define-in-Define-clause-err
returns-in_err-define-in-Define-clause-err c =
    let p = err_from_is_err_and c.from_residual-in_err-define-in-Define.result c.from_residual-in_err-define-in-Define.ensures.1 in
    rw (p.1) (λ n. absurd (n (p.2 ∙ c.in_err-define-in-Define.ensures.err)))

pub overflow_add-at-in-Define : goal.overflow_add-at-in-Define
overflow_add-at-in-Define c =
    let stood = stood_at c.loop-at.macros c.loop-at.begun c.loop-at.at c.args.bytes.now _ _ c.in-Define.is c.in_ok-found.ensures in
    let w = read_within c.args.bytes.now c.loop-at.macros c.loop-at.begun c.loop-at.at _ _ (omega arith) c.loop-at.invariant.read stood in
    omega (arith, w.0, w.1)

pub loop-at-smaller-in-Define : goal.loop-at-smaller-in-Define
loop-at-smaller-in-Define c =
    let stood = stood_at c.loop-at.macros c.loop-at.begun c.loop-at.at c.args.bytes.now _ _ c.in-Define.is c.in_ok-found.ensures in
    let w = read_within c.args.bytes.now c.loop-at.macros c.loop-at.begun c.loop-at.at _ _ (omega arith) c.loop-at.invariant.read stood in
    omega (arith, w.0, w.1)

pub loop-at-preserved-in-Define : goal.loop-at-preserved-in-Define
loop-at-preserved-in-Define c =
    let stood = stood_at c.loop-at.macros c.loop-at.begun c.loop-at.at c.args.bytes.now _ _ c.in-Define.is c.in_ok-found.ensures in
    let w = read_within c.args.bytes.now c.loop-at.macros c.loop-at.begun c.loop-at.at _ _ (omega arith) c.loop-at.invariant.read stood in
    let fits : SFits w64 c.in-Define.value = search rules in
    let kept = to_z-of_z w64 c.in-Define.value fits in
    let known = subst (λ v. (m : Macros) → Knows c.loop-at.macros m → Knows c.define.new.self ((c.in-Define.name, v) ∷ m)) kept c.in_ok-define-in-Define.ensures.ok in
    record {
      within = omega (arith, w.0, w.1);
      read = read_define c.args.bytes.now c.loop-at.macros c.define.new.self c.loop-at.begun c.loop-at.at c.loop-at.tokens.items c.in-Define.name c.in-Define.value c.in-Define.len (omega arith)
          c.loop-at.invariant.read stood known;
    }

pub overflow_add-span : goal.overflow_add-span
overflow_add-span c =
    let stood = stood_at c.loop-at.macros c.loop-at.begun c.loop-at.at c.args.bytes.now _ _ c.in-Take.is c.in_ok-found.ensures in
    let w = read_within c.args.bytes.now c.loop-at.macros c.loop-at.begun c.loop-at.at _ _ (omega arith) c.loop-at.invariant.read stood in
    omega (arith, w.0, w.1)

pub overflow_cast-span-in-Take : goal.overflow_cast-span-in-Take
overflow_cast-span-in-Take c =
    let stood = stood_at c.loop-at.macros c.loop-at.begun c.loop-at.at c.args.bytes.now _ _ c.in-Take.is c.in_ok-found.ensures in
    let w = read_within c.args.bytes.now c.loop-at.macros c.loop-at.begun c.loop-at.at _ _ (omega arith) c.loop-at.invariant.read stood in
    omega (arith, w.0, w.1)

pub overflow_add-at-in-Take : goal.overflow_add-at-in-Take
overflow_add-at-in-Take c =
    let stood = stood_at c.loop-at.macros c.loop-at.begun c.loop-at.at c.args.bytes.now _ _ c.in-Take.is c.in_ok-found.ensures in
    let w = read_within c.args.bytes.now c.loop-at.macros c.loop-at.begun c.loop-at.at _ _ (omega arith) c.loop-at.invariant.read stood in
    omega (arith, w.0, w.1)

pub loop-at-smaller : goal.loop-at-smaller
loop-at-smaller c =
    let stood = stood_at c.loop-at.macros c.loop-at.begun c.loop-at.at c.args.bytes.now _ _ c.in-Take.is c.in_ok-found.ensures in
    let w = read_within c.args.bytes.now c.loop-at.macros c.loop-at.begun c.loop-at.at _ _ (omega arith) c.loop-at.invariant.read stood in
    omega (arith, w.0, w.1)

pub loop-at-preserved : goal.loop-at-preserved
loop-at-preserved c =
    let stood = stood_at c.loop-at.macros c.loop-at.begun c.loop-at.at c.args.bytes.now _ _ c.in-Take.is c.in_ok-found.ensures in
    let w = read_within c.args.bytes.now c.loop-at.macros c.loop-at.begun c.loop-at.at _ _ (omega arith) c.loop-at.invariant.read stood in
    record {
      within = omega (arith, w.0, w.1);
      read = subst (IsReadTo c.args.bytes.now c.loop-at.macros true (c.loop-at.at + c.in-Take.len)) (sym c.in_ok-push-in-Take.ensures.items)
          (read_token c.args.bytes.now c.loop-at.macros c.loop-at.begun c.loop-at.at c.loop-at.tokens.items c.in-Take.kind c.in-Take.len (omega arith) c.loop-at.invariant.read stood);
    }

pub returns-clause-ok : goal.returns-clause-ok
returns-clause-ok c =
    let left = drop_all c.loop-at.at c.args.bytes.now (omega arith) in
    read_all c.args.bytes.now c.loop-at.macros c.loop-at.begun c.loop-at.at c.loop-at.tokens.items left c.loop-at.invariant.read

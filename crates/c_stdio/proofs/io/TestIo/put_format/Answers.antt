-- Where an argument is converted.
use Rattle.std.proofs.Common.{◌≡◌, ◌+◌, pos, true, false, drop, get_or, sym, ap, subst, ◌∙◌, arith, rules, w64, FitsSigned}
use Rattle.std.proofs.lemmas.Int.{to_z-of_z}
use Rattle.c_stdio.specs.Io.{Io}
use Rattle.c_stdio.specs.Output.{is_expected, expected_after}
use Rattle.c_stdio.specs.Formats.{text, converted}
use Rattle.c_stdio.proofs.Writing.{written}
use Rattle.c_stdio.proofs.Directives.{Remains, argument_in, converted_at, converted_ends}
use Rattle.c_stdio.proofs.io.TestIo.put_format.Goals as goal

pub returns-then-not-put_converted-clause-expected : goal.returns-then-not-put_converted-clause-expected
returns-then-not-put_converted-clause-expected c =
    let v = get_or c.args.args.now c.directives.next (pos 0) in
    let fits : FitsSigned w64 v = search rules in
    let same = to_z-of_z w64 v fits in
    let s = get_or c.args.format.now (c.directives.at + 1) 0 in
    let h = subst (λ x. false ≡ is_expected (converted s x) c.directives.self.expected) same c.if-not-put_converted.ensures.expected in
    let ends = converted_ends c.args.format.now c.args.args.now c.directives.at c.directives.next c.directives.invariant.remains c.directives-test.true c.if-byte-ne37.false c.if-specifier-eq37.false (pos 0) (sym h) in
    ends.expected

pub returns-then-not-put_converted-clause-state : goal.returns-then-not-put_converted-clause-state
returns-then-not-put_converted-clause-state c =
    let v = get_or c.args.args.now c.directives.next (pos 0) in
    let fits : FitsSigned w64 v = search rules in
    let same = to_z-of_z w64 v fits in
    let s = get_or c.args.format.now (c.directives.at + 1) 0 in
    let h = subst (λ x. false ≡ is_expected (converted s x) c.directives.self.expected) same c.if-not-put_converted.ensures.expected in
    let ends = converted_ends c.args.format.now c.args.args.now c.directives.at c.directives.next c.directives.invariant.remains c.directives-test.true c.if-byte-ne37.false c.if-specifier-eq37.false (pos 0) (sym h) in
    written c.put_converted.new.self c.directives.self c.args.self.now.input _ _ c.put_converted.ensures.state (ap (λ x. expected_after (converted s x) c.directives.self.expected) same ∙ ends.state) c.directives.invariant.input

pub overflow_add-next : goal.overflow_add-next
overflow_add-next c =
    let here = argument_in c.args.format.now c.args.args.now c.directives.at c.directives.next c.directives.invariant.remains c.directives-test.true c.if-byte-ne37.false c.if-specifier-eq37.false in
    omega arith

pub directives-preserved : goal.directives-preserved
directives-preserved c =
    let format = c.args.format.now in
    let args = c.args.args.now in
    let v = get_or args c.directives.next (pos 0) in
    let fits : FitsSigned w64 v = search rules in
    let same = to_z-of_z w64 v fits in
    let s = get_or format (c.directives.at + 1) 0 in
    let h = subst (λ x. true ≡ is_expected (converted s x) c.directives.self.expected) same c.if-not-put_converted.ensures.expected in
    let on = converted_at format args c.directives.at c.directives.next c.directives.invariant.remains c.directives-test.true c.if-byte-ne37.false c.if-specifier-eq37.false (pos 0) (sym h) in
    let state = ap (λ (io : Io). io.expected) c.put_converted.ensures.state ∙ ap (λ x. expected_after (converted s x) c.directives.self.expected) same in
    record {
      remains = subst (λ e. Remains (text format args) c.args.self.now.expected (drop (c.directives.at + 1 + 1) format) (drop (c.directives.next + 1) args) e) (sym state) on;
      input = ap (λ (io : Io). io.input) c.put_converted.ensures.state ∙ c.directives.invariant.input;
    }

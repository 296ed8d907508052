-- Where the search stops, and what is answered there.
use Rattle.std.proofs.Common.{◌+◌, ◌∙◌, sym, arith}
use Rattle.c_lex.proofs.Literals.{stops_at_line_feed, stops_at_quote, stops_at_end, literal_missing, literal_found, found_literal, none_only}
use Rattle.c_lex.proofs.literal.literal_len.Goals as goal

pub returns-then-byte-eq10-clause-whole : goal.returns-then-byte-eq10-clause-whole
returns-then-byte-eq10-clause-whole c =
    let e = stops_at_line_feed c.args.quote c.loop-at.at c.loop-at.passed c.args.text.now (omega arith) (omega arith) c.loop-at.invariant.finds in
    λ n h. literal_missing c.args.quote n c.args.text.now e h

pub returns-then-byte-eq10-clause-only : goal.returns-then-byte-eq10-clause-only
returns-then-byte-eq10-clause-only c =
    let e = stops_at_line_feed c.args.quote c.loop-at.at c.loop-at.passed c.args.text.now (omega arith) (omega arith) c.loop-at.invariant.finds in
    λ n l h. none_only c.args.quote n c.args.text.now e l h

pub returns-then-byte-quote-clause-whole : goal.returns-then-byte-quote-clause-whole
returns-then-byte-quote-clause-whole c =
    let e = stops_at_quote c.args.quote c.loop-at.at c.loop-at.passed c.args.text.now (omega arith) c.if-passed.false (omega arith) (omega arith) c.loop-at.invariant.finds in
    found_literal c.args.quote (c.loop-at.at + 1) c.args.text.now c.requires.some c.requires.begins e

pub returns-then-byte-quote-clause-only : goal.returns-then-byte-quote-clause-only
returns-then-byte-quote-clause-only c =
    let e = stops_at_quote c.args.quote c.loop-at.at c.loop-at.passed c.args.text.now (omega arith) c.if-passed.false (omega arith) (omega arith) c.loop-at.invariant.finds in
    λ n l h. sym e ∙ literal_found c.args.quote n c.args.text.now l h

pub returns-clause-whole : goal.returns-clause-whole
returns-clause-whole c =
    let e = stops_at_end c.args.quote c.loop-at.at c.loop-at.passed c.args.text.now (omega arith) c.loop-at.invariant.finds in
    λ n h. literal_missing c.args.quote n c.args.text.now e h

pub returns-clause-only : goal.returns-clause-only
returns-clause-only c =
    let e = stops_at_end c.args.quote c.loop-at.at c.loop-at.passed c.args.text.now (omega arith) c.loop-at.invariant.finds in
    λ n l h. none_only c.args.quote n c.args.text.now e l h

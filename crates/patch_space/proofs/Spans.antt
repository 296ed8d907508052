-- The text that a part covers is the span of its tree.
use Rattle.c_location.proofs.SpanLemmas.{span_of_tree, span_of_statement}

pub ruleset spans = (span_of_tree, span_of_statement)

-- What the descent comes to is what the grammar says of the tokens.
use Rattle.std.proofs.lemmas.Result.{IfOk-weaker, IfErr-weaker}
use Rattle.c_tree.specs.Order.{ProgramIn}
use Rattle.c_tree.specs.Views.{program}
use Rattle.c_lex.specs.Lexemes.{Rise}
use Rattle.c_grammar.specs.Judge.{good, unexpected_at, too_deep_at}
use Rattle.c_grammar.specs.Programs.{Derives}
use Rattle.c_grammar.proofs.ProgramOrder.{program_in_order}
use Rattle.c_grammar.proofs.TooDeep.{passes_deep}
use Rattle.c_parse.specs.Results.{IsFirstFault, IsPlaced}
use Rattle.c_parse.proofs.Answered.{derived, refused, answered}
use Rattle.c_parse.proofs.Placed.{causes_placed}
use Rattle.c_parse.proofs.program.parse.Goals as goal

pub returns : goal.returns
returns c = record {
  derived = derived c.args.end c.args.tokens.now c.parse_program.result c.parse_program.ensures;
  ordered =
      IfOk-weaker c.parse_program.result (λ p. Derives 64 c.args.tokens.now (program p)) (λ p. Rise 0 c.args.end c.args.tokens.now → ProgramIn 0 c.args.end (program p))
      (λ p d rise. program_in_order 64 c.args.end c.args.tokens.now (program p) rise d)
      (derived c.args.end c.args.tokens.now c.parse_program.result c.parse_program.ensures);
  refused = refused c.args.end c.args.tokens.now c.parse_program.result c.parse_program.ensures;
  accepts = λ p j. answered c.args.end c.args.tokens.now (good p) c.parse_program.result c.parse_program.ensures j;
  expects = λ b j. answered c.args.end c.args.tokens.now (unexpected_at b) c.parse_program.result c.parse_program.ensures j;
  nests = λ b p. answered c.args.end c.args.tokens.now (too_deep_at b) c.parse_program.result c.parse_program.ensures (passes_deep 64 c.args.tokens.now b p);
  placed = λ rise.
      IfErr-weaker c.parse_program.result (IsFirstFault c.args.end c.args.tokens.now) (IsPlaced c.args.end) (λ e h. causes_placed c.args.end c.args.tokens.now e rise h)
      (refused c.args.end c.args.tokens.now c.parse_program.result c.parse_program.ensures);
}

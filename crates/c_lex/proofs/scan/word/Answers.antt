-- The longest word at the start.
use Rattle.c_lex.proofs.Longest.{word_at_start}
use Rattle.c_lex.proofs.ScanParts.{word_stands}
use Rattle.c_lex.proofs.scan.word.Goals as goal

pub returns : goal.returns
returns c = λ m at begun known.
    let longest = word_at_start c.args.text.now c.run_len-len.result c.requires.some c.requires.letter c.run_len-len.ensures.value in
    word_stands m at c.args.text.now begun c.in_ok-kind.kind c.run_len-len.result c.run_len-len.ensures.within longest.0 (c.in_ok-kind.ensures m known)

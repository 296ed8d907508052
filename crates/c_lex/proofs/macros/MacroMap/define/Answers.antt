-- The new macro has its value, and the others keep theirs.
use Rattle.std.proofs.Common.{if◌then◌else◌, Some, ap, ◌∙◌}
use mir.Syntax.{w64}
use mir.Val.{to_z, of_z}
use Rattle.std.specs.Str.{bytes_eq}
use Rattle.std.proofs.lemmas.Int.{to_z-of_z}
use Rattle.c_lex.specs.Reading.{value_in}
use Rattle.c_lex.proofs.MacroMaps.{value_after}
use Rattle.c_lex.proofs.macros.MacroMap.define.Goals as goal

pub returns-clause-ok : goal.returns-clause-ok
returns-clause-ok c = λ m known word.
    let after = value_after (λ k. k.items) c.args.self.now.values c.insert.new.self c.into_bytes.result.items _ c.in_ok-insert.ensures.updates word in
    let old = value_in c.args.self.now word in
    let kept = to_z-of_z w64 c.args.value c.ranges.value in
    after ∙ ap (λ name. if bytes_eq name word then Some (to_z w64 (of_z w64 c.args.value)) else old) c.into_bytes.ensures ∙ ap (λ v. if bytes_eq c.args.name word then Some v else old) kept
    ∙ ap (λ o. if bytes_eq c.args.name word then Some c.args.value else o) (known word)

use Rattle.std.proofs.Common.{◌≡◌, rules, refl}
use Rattle.interp.proofs.CallSteps.{main_gives, main_lacks, resumes_drops, resumes_gives, resumes_lacks}
use Rattle.interp.proofs.engine.Engine.give_back.Goals as goal

pub returns-in-Some-given : goal.returns-in-Some-given
returns-in-Some-given c = λ start stands. main_gives c.args.code.now start c.args.self.now _ c.args.given _ stands c.unwind.ensures (search rules) (search rules)

pub returns-in-None : goal.returns-in-None
returns-in-None c = λ start stands. main_lacks c.args.code.now start c.args.self.now _ c.args.given stands c.unwind.ensures (search rules) (search rules)

pub returns-then-not-wanted : goal.returns-then-not-wanted
returns-then-not-wanted c = λ start stands.
    let values : c.replace-values.new.dest.items ≡ c.in-Some.caller.values.items = search rules in
    let frames : c.replace-frames.new.dest.items ≡ c.in-Some.caller.frames.items = search rules in
    resumes_drops c.args.code.now start c.args.self.now _ c.args.given c.unwind.new.state c.in-Some.caller c.pop.new.self.items stands c.unwind.ensures (search rules) (search rules) (search rules) values (record { at = refl; room = refl; frames = frames; callers = refl })

pub returns-in_default-given : goal.returns-in_default-given
returns-in_default-given c = λ start stands.
    resumes_lacks c.args.code.now start c.args.self.now _ c.args.given c.unwind.new.state c.in-Some.caller c.pop.new.self.items stands c.unwind.ensures (search rules) (search rules) (search rules) (search rules)

pub returns : goal.returns
returns c = λ start stands.
    let frames : c.replace-frames.new.dest.items ≡ c.in-Some.caller.frames.items = search rules in
    resumes_gives c.args.code.now start c.args.self.now _ c.args.given c.in-Some-given-2.value c.unwind.new.state c.in-Some.caller c.pop.new.self.items stands c.unwind.ensures (search rules) (search rules) (search rules) (search rules) (search rules) (record { at = refl; room = refl; frames = frames; callers = refl })

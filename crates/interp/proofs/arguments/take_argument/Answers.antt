use Rattle.std.proofs.Common.{rules}
use Rattle.interp.proofs.Taking.{number_taken, array_taken, place_taken, number_lacks, array_lacks, place_lacks}
use Rattle.interp.proofs.arguments.take_argument.Goals as goal

pub returns-in-Some : goal.returns-in-Some
returns-in-Some c = λ gs. number_taken c.args.given.now gs c.args.values.now.items c.pop.new.self.items c.in-Some.value (search rules) _ c.in-Number.is (search rules)

pub returns-in-None : goal.returns-in-None
returns-in-None c = λ gs. number_lacks c.args.given.now gs c.args.values.now.items (search rules) c.in-Number.is

pub returns-in-Some-pop : goal.returns-in-Some-pop
returns-in-Some-pop c = λ gs. array_taken c.args.given.now gs c.args.values.now.items c.pop-in-Array.new.self.items c.in-Some-pop.number (search rules) _ c.in-Array.is (search rules)

pub returns-in-None-pop : goal.returns-in-None-pop
returns-in-None-pop c = λ gs. array_lacks c.args.given.now gs c.args.values.now.items (search rules) c.in-Array.is

pub returns-in-Some-pop-2 : goal.returns-in-Some-pop-2
returns-in-Some-pop-2 c = λ gs. place_taken c.args.given.now gs c.args.values.now.items c.pop-in-Place.new.self.items c.in-Some-pop-2.index (search rules) c.in-Place.slot _ c.in-Place.is (search rules)

pub returns-in-None-pop-2 : goal.returns-in-None-pop-2
returns-in-None-pop-2 c = λ gs. place_lacks c.args.given.now gs c.args.values.now.items (search rules) c.in-Place.slot c.in-Place.is

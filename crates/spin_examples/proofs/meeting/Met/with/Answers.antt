-- `search` does not find the list that the other has heard, which lies between what one told and what the other read
use Rattle.spin_barrier.proofs.Gathered.{reads_on}
use Rattle.spin_examples.proofs.meeting.Met.with.Goals as goal

pub returns-clause-there : goal.returns-clause-there
returns-clause-there g c = let one = c.args.self in let other = c.args.other in
    reads_on one.told.entries other.known.told.entries other.heard.entries one.first other.then c.hears.ensures c.requires.heard.1 other.ordered one.last_told other.last_heard

pub returns-clause-back : goal.returns-clause-back
returns-clause-back g c = let one = c.args.self in let other = c.args.other in
    reads_on other.told.entries one.known.told.entries one.heard.entries other.first one.then c.hears-2.ensures c.requires.heard.0 one.ordered other.last_told one.last_heard

use Rattle.spin_text.proofs.Cuts.{cut_none, cut_some}
use Rattle.spin_text.proofs.words.cut.Goals as goal

pub returns-in-None-clause-parts : goal.returns-in-None-clause-parts
returns-in-None-clause-parts c = cut_none c.args.separator c.args.bytes.now c.in-None.ensures

pub returns-in-Some-clause-parts : goal.returns-in-Some-clause-parts
returns-in-Some-clause-parts c = cut_some c.args.separator c.args.bytes.now c.in-Some.at c.in-Some.ensures.0 c.in-Some.ensures.1

use Rattle.spin_seated.specs.Passes.{opening_of}
use Rattle.spin_examples.proofs.Published.{compared}
use Rattle.spin_examples.proofs.publishing.compare.Goals as goal

pub returns-clause-first : goal.returns-clause-first
returns-clause-first c =
    let r = c.requires in
    (compared (opening_of c.args.lock.now) c.args.writer.now.known c.args.first.now.known c.args.second.now.known c.meet.new.a.known c.meet.new.b.known c.meet-2.new.a.known c.meet-2.new.b.known r.three r.first.0.1 r.writer.1 r.first.1
    r.second.1 r.one_writes.0 r.one_writes.1 c.meet.ensures.first c.meet.ensures.second c.meet-2.ensures.first c.meet-2.ensures.second c.a_pass_reads_in_the_order_of_the_writes.ensures.rwlock).0

pub returns-clause-second : goal.returns-clause-second
returns-clause-second c =
    let r = c.requires in
    (compared (opening_of c.args.lock.now) c.args.writer.now.known c.args.first.now.known c.args.second.now.known c.meet.new.a.known c.meet.new.b.known c.meet-2.new.a.known c.meet-2.new.b.known r.three r.first.0.1 r.writer.1 r.first.1
    r.second.1 r.one_writes.0 r.one_writes.1 c.meet.ensures.first c.meet.ensures.second c.meet-2.ensures.first c.meet-2.ensures.second c.a_pass_reads_in_the_order_of_the_writes.ensures.rwlock).1

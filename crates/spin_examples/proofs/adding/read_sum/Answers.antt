use Rattle.std.proofs.Common.{sym, ◌∙◌}
use Rattle.std.proofs.lemmas.Bool.{false≢true}
use Rattle.spin_examples.proofs.Sections.{is_granted, sums}
use Rattle.spin_examples.proofs.adding.read_sum.Goals as goal

pub unreachable-requires : goal.unreachable-requires
unreachable-requires c =
    let r = c.requires in
    false≢true (sym c.if-not-granted.true
    ∙ is_granted _ c.args.a.now.known c.args.b.now.known c.meet.new.a.known c.meet.new.b.known c.try_lock-granted.new.pass.known c.try_lock-granted.result r.two r.own.0.1 r.numbers.0 r.numbers.1 r.turns.0 r.turns.1
    c.meet.ensures.first c.meet.ensures.second c.try_lock-granted.ensures.made c.meet-then-not-granted.new.a.known c.meet-then-not-granted.new.b.known c.meet-then-not-granted.ensures.first c.meet-then-not-granted.ensures.second)

pub returns : goal.returns
returns c =
    let r = c.requires in
    sums _ c.args.a.now.known c.args.b.now.known c.meet.new.a.known c.meet.new.b.known c.try_lock-granted.new.pass.known c.try_lock-granted.result r.two r.own.0.1 r.numbers.0 r.numbers.1 r.turns.0 r.turns.1
    c.meet.ensures.first c.meet.ensures.second c.try_lock-granted.ensures.made c.read-value.result c.read-value.new.pass.known c.meet-2.new.a.known c.meet-2.new.b.known c.if-not-granted.false
    c.read-value.ensures.made c.meet-2.ensures.first c.meet-2.ensures.second

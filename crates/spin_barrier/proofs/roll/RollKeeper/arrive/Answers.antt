use Rattle.std.proofs.Common.{◌≡◌, ◌∙◌, ◌+◌, ℕ, ap, sym, subst, le_trans}
use Rattle.std.specs.Prelude.{length}
use Rattle.spin_barrier.specs.Gathered.{leads, AllWithin}
use Rattle.spin_barrier.proofs.Gathered.{one_more, led_more, as_byte, longer, pushed, within_push}
use Rattle.spin_barrier.proofs.roll.RollKeeper.arrive.Goals as goal

pub invariant_of-self-clause-leaders : goal.invariant_of-self-clause-leaders
invariant_of-self-clause-leaders g c = let me = c.args.self.now in
    led_more g.N.Groups.group me.came.total c.add.new.self.total me.led.total c.add-2.new.self.total c.args.leads c.add.ensures.total me.leaders
    (c.add-2.ensures.total ∙ ap (λ x. me.led.total + x) (as_byte c.args.leads))
    (one_more g.N.Groups.group me.came.total c.args._before c.args.leads c.args._after c.requires.agrees c.requires.arrival).1

pub invariant_of-self-clause-heard : goal.invariant_of-self-clause-heard
invariant_of-self-clause-heard g c = let me = c.args.self.now in let mine = c.args.seen.now.told in let told = c.merge.new.self.entries in
    subst (λ z. AllWithin (λ one. length one.entries) z (length told)) (sym c.append.ensures)
    (within_push (λ one. length one.entries) me.log.entries mine (length me.told.entries) (length told) me.heard (longer me.told.entries told c.merge.ensures.0) (longer mine.entries told c.merge.ensures.1))

pub invariant_of-seen : goal.invariant_of-seen
invariant_of-seen g c = let me = c.args.self.now in let mine = c.args.seen.now.told in let told = c.merge.new.self.entries in let heard = c.merge-2.new.self.entries in
    record {
      heard = subst (λ z. AllWithin (λ one. length one.entries) z (length heard)) (sym (c.observe-2.ensures.1 ∙ c.append.ensures))
          (within_push (λ one. length one.entries) me.log.entries mine (length me.told.entries) (length heard) me.heard
          (le_trans (longer me.told.entries told c.merge.ensures.0) (longer told heard c.merge-2.ensures.1)) (longer mine.entries heard c.merge-2.ensures.0));
    }

pub returns-clause-came : goal.returns-clause-came
returns-clause-came g c = let me = c.args.self.now in
    let seen = c.args.seen.now in let now = c.observe-2.new.snapshot.entries in
    let n : ℕ = g.N.Groups.group in let grown = c.observe-2.ensures.1 ∙ c.append.ensures in
    let long : length now ≡ me.came.total + 1 = pushed now me.log.entries seen.told grown ∙ ap (λ x. x + 1) me.listed in
    let led = (one_more n me.came.total c.args._before c.args.leads c.args._after c.requires.agrees c.requires.arrival).1 in (
      (led ∙ ap (leads n) (sym long), (me.log.entries, (longer seen.arrivals.entries me.log.entries c.observe.ensures.0, grown))),
      c.merge-2.ensures.0,
      (c.add.ensures.amount, c.add-2.ensures.amount ∙ ap (λ x. c.args.own.now.led.amount + x) (as_byte c.args.leads)),
      (c.add.ensures.parts, c.add-2.ensures.parts),
    )

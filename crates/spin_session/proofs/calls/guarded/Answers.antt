use Rattle.std.proofs.Common.{◌≡◌, Some, ap, ◌∙◌}
use Rattle.spin_session.specs.Passes.{guard_spot}
use Rattle.spin_session.specs.Turns.{spot_of}
use Rattle.spin_session.proofs.Granted.{granted}
use Rattle.spin_session.proofs.calls.guarded.Goals as goal

pub returns : goal.returns
returns g c =
    let it = c.args.session in let w = c.into_writer in let new = c.new.ensures in let own = w.ensures in
    let same : guard_spot c.new.result ≡ spot_of it = λ i. ((ap (λ x. x.key) new.0 ∙ own.key) i, (ap (λ x. Some x.view) new.0 ∙ own.same.0) i, new.1 i) in
    record { grants = granted g.P.Runs.tables g.P.Runs.meaning (spot_of it) it.permit.value c.new.result same (ap (λ x. Some x.value) new.0 ∙ own.same.1) c.requires.writes c.requires.last }

pub into_writer-requires : goal.into_writer-requires
into_writer-requires g c = let p = c.args.session.permit in record { writes = c.laws.ensures.uses p.key p.view ∙ c.requires.writes.2 }

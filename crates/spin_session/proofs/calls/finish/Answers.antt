use Rattle.spin_session.proofs.calls.finish.Goals as goal

pub leave-left-requires : goal.leave-left-requires
leave-left-requires g c = let p = c.args.session.permit in record { rests = c.laws.ensures.rests p.key p.view c.requires }

use Rattle.std.proofs.lemmas.Result.{IfErr-weaker}
use Rattle.spin_laws.proofs.uses.try_a_ticket_mutex.Goals as goal

pub returns : goal.returns
returns g c = let law = c.a_refused_try_found_the_ticket_mutex_held_or_used_up.ensures in IfErr-weaker c.try_lock.result _ _ (λ now made. law c.args.pass.0 _ _ _ _ made.0) c.try_lock.ensures.refused

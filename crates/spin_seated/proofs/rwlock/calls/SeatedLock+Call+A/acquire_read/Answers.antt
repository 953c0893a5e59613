use Rattle.std.proofs.Common.{◌∙◌}
use Rattle.spin_step.specs.Plain.{reading}
use Rattle.spin_step_more.specs.Readers.{reader_limit, has_room}
use Rattle.spin_seated.proofs.RwDebts.{acquires_read_owed, held_still}
use Rattle.spin_seated.proofs.rwlock.calls.SeatedLock+Call+A.acquire_read.Goals as goal

pub exchange-found-requires-clause-owes : goal.exchange-found-requires-clause-owes
exchange-found-requires-clause-owes g c =
    acquires_read_owed c.loop.place.known c.loop.found c.in-Some-read.next (λ s p one cap is. c.in-Some-read.ensures.plain s p one cap is)
    (held_still (has_room reading c.loop.found reader_limit) c.args.place.now.known c.loop.place.known c.loop.invariant.told ∙ c.requires.free)

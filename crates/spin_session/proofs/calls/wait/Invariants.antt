use Rattle.std.proofs.Common.{◌≡◌, Option, Some}
use Rattle.spin_core.specs.Own.{what}
use Rattle.spin_step.specs.declared.place.Seat.TheVariants.{Calling}
use Rattle.spin_session.specs.Turns.{Knows, SeesOn, Under, SeatSpot, spot_of}
use Rattle.spin_session.proofs.calls.wait.Given as goal

-- the party is still in the call in which it began to wait
abbrev pub invariant-loop : goal.invariant-loop
invariant-loop g l =
    let t = g.P.Runs.tables in
    (goal.iterator-loop g).can_next l.iterator' × (goal.iterator-loop g).is_finite l.iterator' × Knows g.P.Runs.meaning (spot_of l.party) × (what l.party.permit.view ≡ Some (Calling l.fn.call l.at l.fn.holds))
    × ((p : SeatSpot g.row.T.Denot g.row.P-Call.Denot g.row.P-Point.Denot) → Under t g.P.Runs.meaning l.fn.call p (spot_of l.fn.session) → Under t g.P.Runs.meaning l.fn.call p (spot_of l.party)) × (l.party.permit.key ≡ l.fn.session.permit.key)
    × ((v : Option g.row.T.Denot) → SeesOn g.P.Runs.meaning l.fn.call l.fn.holds v l.fn.session → SeesOn g.P.Runs.meaning l.fn.call l.fn.holds v l.party)

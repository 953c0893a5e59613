use Rattle.std.proofs.Common.{◌≡◌, Some}
use Rattle.spin_core.specs.Own.{what}
use Rattle.spin_session.specs.Meaning.{seat_after}
use Rattle.spin_session.specs.Turns.{Comes, Knows, SeesLast, SeesOn, spot_of}
use Rattle.spin_session_more.proofs.calls.try_for.Given as goal

-- the party is still in the call that it makes, which so goes on or has ended
abbrev pub invariant-loop : goal.invariant-loop
invariant-loop g l =
    let t = g.P.Runs.tables in
    (goal.iterator-loop g).can_next l.iterator' × (goal.iterator-loop g).is_finite l.iterator' × Knows g.P.Runs.meaning (spot_of l.party) × (what l.party.permit.view ≡ Some (seat_after l.fn.call l.fn.holds l.next))
    × Comes t g.P.Runs.meaning l.fn.call l.fn.holds l.next (spot_of l.fn.session) (spot_of l.party) × (l.party.permit.key ≡ l.fn.session.permit.key) × SeesLast l.party × SeesOn g.P.Runs.meaning l.fn.call l.fn.holds l.fn.session.permit.value l.party

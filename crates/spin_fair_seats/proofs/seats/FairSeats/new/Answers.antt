use Rattle.std.proofs.Common.{[], refl, sym}
use denote.Builtin.{unit}
use denote.Param.Send.{IsSync, sendable}
use Rattle.spin_core.proofs.tie.Sends.{entry, sends_word}
use Rattle.spin_core.proofs.tie.Values.{opens_last}
use Rattle.spin_fair_seats.specs.contracts.calls.FairSeatsCall as call
use Rattle.spin_fair_seats.proofs.Seating.{starts}
use Rattle.spin_fair_seats.proofs.seats.FairSeats.new.Goals as goal

pub new-cell-requires-clause-known : goal.new-cell-requires-clause-known
new-cell-requires-clause-known g c = let fine : IsSync unit = search sendable in (λ shared common. fine.shared, (λ v reads common. fine.shared), sends_word (entry call.the_row))

pub new-cell-requires-clause-rule : goal.new-cell-requires-clause-rule
new-cell-requires-clause-rule g c = let o = c.of-opening in let t = c.new-trace in
    ([], refl, starts g.row.N o.result t.result (sym o.ensures.0) t.ensures.0 t.ensures.1, (opens_last o.result t.result.entries tt t.ensures.0 o.ensures.1, tt))

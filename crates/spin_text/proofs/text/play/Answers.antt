use Rattle.std.proofs.Common.{◌∙◌, sym, refl, arith}
use Rattle.spin_step.specs.FlagCalls.{flag_machine}
use Rattle.spin_step_more.specs.FairCalls.{fair_machine}
use Rattle.spin_step_more.specs.RwCalls.{rw_machine}
use Rattle.spin_step.specs.TicketCalls.{ticket_machine}
use Rattle.spin_world.specs.BarrierTable.{barrier_machine}
use Rattle.spin_step.specs.OnceCalls.{once_machine}
use Rattle.spin_text.specs.declared.header.Header.TheVariants.{Flag, Ticket, Rw, Fair, Barrier, Once}
use Rattle.spin_text.proofs.Scripts.{headed, bad_header, plays_so}
use Rattle.spin_text.proofs.text.play.Goals as goal

pub returns-in-None-clause-stops : goal.returns-in-None-clause-stops
returns-in-None-clause-stops g c = (bad_header _ _ _ c.first_line.ensures.lines (sym c.in-None.is ∙ c.header_of.ensures), refl)

pub returns-in-Some-Flag : goal.returns-in-Some-Flag
returns-in-Some-Flag g c =
    let lines = c.play_lines in
    let so = plays_so c.args.bytes.now (Flag c.in-Some-Flag.value c.in-Some-Flag.parties) _ _ _ (headed _ _ _ _ _ _ c.first_line.ensures.lines c.header_of.ensures c.in-Some-Flag.is c.in-Some-Flag.field-0-is) c.new.ensures.fields (λ o. flag_machine o.value) c.in-Some-Flag.parties (λ es. refl) lines.result _ _ _ _ lines.ensures.bytes lines.ensures.stops in
    record { bytes = so.0; ok = lines.ensures.ok; stops = so.1 }

pub returns-in-Some-Ticket : goal.returns-in-Some-Ticket
returns-in-Some-Ticket g c =
    let lines = c.play_lines-in-Some-Ticket in
    let so = plays_so c.args.bytes.now (Ticket c.in-Some-Ticket.value c.in-Some-Ticket.first c.in-Some-Ticket.parties) _ _ _ (headed _ _ _ _ _ _ c.first_line.ensures.lines c.header_of.ensures c.in-Some-Ticket.is c.in-Some-Ticket.field-0-is) c.new-in-Some-Ticket.ensures.fields (λ o. ticket_machine o.value o.first) c.in-Some-Ticket.parties (λ es. refl) lines.result _ _ _ _ lines.ensures.bytes lines.ensures.stops in
    record { bytes = so.0; ok = lines.ensures.ok; stops = so.1 }

pub new-requires-in-Some-Rw : goal.new-requires-in-Some-Rw
new-requires-in-Some-Rw g c = record { some = (headed _ _ _ _ _ _ c.first_line.ensures.lines c.header_of.ensures c.in-Some-Rw.is c.in-Some-Rw.field-0-is).0.1.0 }

pub returns-in-Some-Rw : goal.returns-in-Some-Rw
returns-in-Some-Rw g c =
    let lines = c.play_lines-in-Some-Rw in
    let so = plays_so c.args.bytes.now (Rw c.in-Some-Rw.value c.in-Some-Rw.cap c.in-Some-Rw.parties) _ _ _ (headed _ _ _ _ _ _ c.first_line.ensures.lines c.header_of.ensures c.in-Some-Rw.is c.in-Some-Rw.field-0-is) c.new-in-Some-Rw.ensures.fields (λ o. rw_machine o.value o.cap) c.in-Some-Rw.parties (λ es. refl) lines.result _ _ _ _ lines.ensures.bytes lines.ensures.stops in
    record { bytes = so.0; ok = lines.ensures.ok; stops = so.1 }

pub new-requires-in-Some-Fair-clause-somebody : goal.new-requires-in-Some-Fair-clause-somebody
new-requires-in-Some-Fair-clause-somebody g c none = omega (arith, (headed _ _ _ _ _ _ c.first_line.ensures.lines c.header_of.ensures c.in-Some-Fair.is c.in-Some-Fair.field-0-is).0.1.0, none)

pub new-requires-in-Some-Fair-clause-counted : goal.new-requires-in-Some-Fair-clause-counted
new-requires-in-Some-Fair-clause-counted g c = omega (arith, (headed _ _ _ _ _ _ c.first_line.ensures.lines c.header_of.ensures c.in-Some-Fair.is c.in-Some-Fair.field-0-is).0.2.1)

pub returns-in-Some-Fair : goal.returns-in-Some-Fair
returns-in-Some-Fair g c =
    let lines = c.play_lines-in-Some-Fair in
    let so = plays_so c.args.bytes.now (Fair c.in-Some-Fair.value c.in-Some-Fair.cap c.in-Some-Fair.spins c.in-Some-Fair.parties) _ _ _ (headed _ _ _ _ _ _ c.first_line.ensures.lines c.header_of.ensures c.in-Some-Fair.is c.in-Some-Fair.field-0-is) c.new-in-Some-Fair.ensures.fields (λ o. fair_machine o.value o.cap o.patience) c.in-Some-Fair.parties (λ es. refl) lines.result _ _ _ _ lines.ensures.bytes lines.ensures.stops in
    record { bytes = so.0; ok = lines.ensures.ok; stops = so.1 }

pub returns-in-Some-Barrier : goal.returns-in-Some-Barrier
returns-in-Some-Barrier g c =
    let lines = c.play_lines-in-Some-Barrier in
    let so = plays_so c.args.bytes.now (Barrier c.in-Some-Barrier.n c.in-Some-Barrier.parties) _ _ _ (headed _ _ _ _ _ _ c.first_line.ensures.lines c.header_of.ensures c.in-Some-Barrier.is c.in-Some-Barrier.field-0-is) c.new-in-Some-Barrier.ensures.fields (λ o. barrier_machine o.n) c.in-Some-Barrier.parties (λ es. refl) lines.result _ _ _ _ lines.ensures.bytes lines.ensures.stops in
    record { bytes = so.0; ok = lines.ensures.ok; stops = so.1 }

pub returns-in-Some-Once : goal.returns-in-Some-Once
returns-in-Some-Once g c =
    let lines = c.play_lines-in-Some-Once in
    let so = plays_so c.args.bytes.now (Once c.in-Some-Once.parties) _ _ _ (headed _ _ _ _ _ _ c.first_line.ensures.lines c.header_of.ensures c.in-Some-Once.is c.in-Some-Once.field-0-is) c.new-in-Some-Once.ensures.fields (λ o. once_machine o.value) c.in-Some-Once.parties (λ es. refl) lines.result _ _ _ _ lines.ensures.bytes lines.ensures.stops in
    record { bytes = so.0; ok = lines.ensures.ok; stops = so.1 }

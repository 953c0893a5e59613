-- Four wrong events, and for each a schedule on which it loses a wake-up.
use Rattle.std.specs.Prelude.{true, Option, Some, [], ◌∷◌, ◌+◌, ◌==◌}
use Rattle.spin_step.specs.Plain.{arrives}
use Rattle.spin_step.specs.declared.place.Hold.{Hold}
use Rattle.spin_step.specs.declared.schedule.Move.TheVariants.{Begin, Step}
use Rattle.spin_step.specs.declared.stepped.Next.TheVariants.{Continue, Answers}
use Rattle.spin_step.specs.declared.answer.Answer.TheVariants.{Done}
use Rattle.spin_step.specs.declared.table.Operation.TheVariants as op
use Rattle.spin_step.specs.Acts.{load, load_if, store, exchange, section, machine_of}
use Rattle.spin_event.specs.declared.calls.EventCall.{EventCall}
use Rattle.spin_event.specs.declared.calls.EventCall.TheVariants.{Wait, NotifyAll}
use Rattle.spin_event.specs.declared.calls.EventPoint.{EventPoint}
use Rattle.spin_event.specs.declared.calls.EventPoint.TheVariants.{Count, Park, Asleep, Uncount, Ring, Look, Wake}
use Rattle.spin_event.specs.EventCalls.{EventAct, EventMachine, EventSchedule, act_of, event_table, starts_at, woken_by}

-- The second word is a mark that somebody sleeps: a wait sets it, and the first ring after that clears it and wakes all.
abbrev pub marked_act : EventCall → EventPoint → Option Hold → EventAct
marked_act c (Count g) h = store (λ n. true) (op.Store 1) (λ p. arrives p) (Continue (Park g))
marked_act c Uncount h = load (λ n. Answers Done h)
marked_act c Look h = exchange (op.Exchange 1 0) (λ p. arrives p) (Continue Wake) (λ n. Answers Done h)
marked_act c l h = act_of c l h

abbrev pub marks : EventMachine
marks = machine_of (record event_table { act = marked_act })

-- the kernel does not compare the rings before it lets the party sleep
abbrev pub blind_act : EventCall → EventPoint → Option Hold → EventAct
blind_act c (Park g) h = section (λ w. true) (λ w. Some (record w { parked = w.parked + 1 })) (λ p. arrives p) (λ w. Continue (Asleep g w.parked)) (λ w. Continue Uncount)
blind_act c l h = act_of c l h

abbrev pub sleeps_blindly : EventMachine
sleeps_blindly = machine_of (record event_table { act = blind_act })

-- A notification looks before it adds. It rings and ends if it finds nobody, and rings and wakes at once if it finds somebody.
abbrev pub early_act : EventCall → EventPoint → Option Hold → EventAct
early_act c Look h = load_if (λ n. n == 0) (λ n. Continue Ring) (λ n. Continue Wake)
early_act c Ring h = store (λ n. true) (op.Add 1) (λ p. arrives p) (Answers Done h)
early_act c Wake h = section (λ w. true) (λ w. Some (woken_by c (record w { rings = w.rings + 1 }))) (λ p. arrives p) (λ w. Answers Done h) (λ w. Answers Done h)
early_act c l h = act_of c l h

abbrev pub early_start : EventCall → EventPoint
early_start NotifyAll = Look
early_start c = starts_at c

abbrev pub looks_early : EventMachine
looks_early = machine_of (record event_table { start = λ c h. early_start c; act = early_act })

-- a notification finds somebody counted, and wakes nobody
abbrev pub silent_act : EventCall → EventPoint → Option Hold → EventAct
silent_act c Look h = load (λ n. Answers Done h)
silent_act c l h = act_of c l h

abbrev pub wakes_nobody : EventMachine
wakes_nobody = machine_of (record event_table { act = silent_act })

-- The party 0 has listened after the first ring, and marks. The ring clears the mark, and wakes nobody. The party sleeps, and
-- the second ring finds no mark.
abbrev pub two_rings : EventSchedule
two_rings =
    (1, Begin NotifyAll) ∷ (1, Step) ∷ (0, Begin (Wait 1)) ∷ (0, Step) ∷ (1, Step) ∷ (1, Step) ∷ (0, Step) ∷ (1, Begin NotifyAll) ∷ (1, Step) ∷ (1, Step) ∷ []

-- the party 1 rings and wakes before the party 0 sleeps
abbrev pub ring_before_the_sleep : EventSchedule
ring_before_the_sleep = (0, Begin (Wait 0)) ∷ (0, Step) ∷ (1, Begin NotifyAll) ∷ (1, Step) ∷ (1, Step) ∷ (1, Step) ∷ (0, Step) ∷ []

-- the party 1 looks before the party 0 counts itself, and rings after it sleeps
abbrev pub look_before_the_count : EventSchedule
look_before_the_count = (0, Begin (Wait 0)) ∷ (1, Begin NotifyAll) ∷ (1, Step) ∷ (0, Step) ∷ (0, Step) ∷ (1, Step) ∷ []

-- the party 1 rings while the party 0 sleeps
abbrev pub ring_after_the_sleep : EventSchedule
ring_after_the_sleep = (0, Begin (Wait 0)) ∷ (0, Step) ∷ (0, Step) ∷ (1, Begin NotifyAll) ∷ (1, Step) ∷ (1, Step) ∷ []

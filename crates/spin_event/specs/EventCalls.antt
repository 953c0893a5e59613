-- The calls of an event, step by step. An event has no plain lock: no law reads the plain steps, and `arrives` stands for each.
use Rattle.std.specs.Prelude.{ℕ, zero, suc, ◌+◌, ◌%◌, ◌^◌, ◌==◌, Bool, true, false, Option, Some, None, List, [], ◌∷◌, nat_lt, min}
use Rattle.spin_step.specs.Plain.{arrives}
use Rattle.spin_step.specs.declared.place.Hold.{Hold}
use Rattle.spin_step.specs.declared.schedule.Move.{Move}
use Rattle.spin_step.specs.declared.stepped.Next.TheVariants.{Continue, Answers}
use Rattle.spin_step.specs.declared.answer.Answer.{Answer}
use Rattle.spin_step.specs.declared.answer.Answer.TheVariants.{Done, Count as Counted}
use Rattle.spin_event.specs.declared.calls.EventWords.{EventWords}
use Rattle.spin_event.specs.declared.calls.EventCall.{EventCall}
use Rattle.spin_event.specs.declared.calls.EventCall.TheVariants.{Listen, Wait, NotifyAll, NotifyOne}
use Rattle.spin_event.specs.declared.calls.EventPoint.{EventPoint}
use Rattle.spin_event.specs.declared.calls.EventPoint.TheVariants.{Load, Count, Park, Asleep, Uncount, Ring, Look, Wake}
use Rattle.spin_step.specs.Calls.{LockKind, usual}
use Rattle.spin_step.specs.Asks.{a_call, is_arrival}
use Rattle.spin_step.specs.Machines.{Machine}
use Rattle.spin_step.specs.Acts.{Memory, Act, load, load_if, store, section, passing, Table, machine_of}
use Rattle.spin_step.specs.Tables.{usual_table}
use Rattle.spin_step.specs.declared.table.Operation.TheVariants as op

-- its four words, in the order of their declaration
abbrev pub event_memory : Memory EventWords
event_memory = record {
  numbers = λ w. w.rings ∷ w.sleepers ∷ w.parked ∷ w.woken ∷ [];
  put = λ i k w. elim i [
    | zero ↦ record w { rings = k }
    | suc zero ↦ record w { sleepers = k }
    | suc (suc zero) ↦ record w { parked = k }
    | _ ↦ record w { woken = k }
  ];
}

abbrev pub word_of : EventPoint → ℕ
word_of l = elim l [ Count g ↦ 1 | Uncount ↦ 1 | Look ↦ 1 | Asleep g t ↦ 3 | _ ↦ 0 ]

-- Who heard g rings takes n rings for the same: the kernel compares the low 32 bits.
abbrev pub is_heard : ℕ → ℕ → Bool
is_heard g n = (n % 2 ^ 32) == (g % 2 ^ 32)

-- the kernel begins a sleep, unless there were rings that the party has not heard
abbrev pub parks : ℕ → EventWords → Option EventWords
parks g w = passing (is_heard g w.rings) (record w { parked = w.parked + 1 })

-- the kernel ends the sleeps that this call asks it to end: all, or the first
abbrev pub woken_by : EventCall → EventWords → EventWords
woken_by NotifyOne w = record w { woken = min (w.woken + 1) w.parked }
woken_by _ w = record w { woken = w.parked }

abbrev pub EventAct : Type 0
EventAct = Act EventWords EventPoint (Answer (Unit {0}))

-- The steps of each call. A sleep and a wake are the kernel's own, each on several words at once.
abbrev pub act_of : EventCall → EventPoint → Option Hold → EventAct
act_of c Load h = load (λ n. Answers (Counted n) h)
act_of c (Count g) h = store (λ n. true) (op.Add 1) (λ p. arrives p) (Continue (Park g))
act_of c (Park g) h = section (λ w. true) (parks g) (λ p. arrives p) (λ w. Continue (Asleep g w.parked)) (λ w. Continue Uncount)
act_of c (Asleep g t) h = load_if (nat_lt t) (λ n. Continue Uncount) (λ n. Continue (Asleep g t))
act_of c Uncount h = store (nat_lt 0) (op.Subtract 1) (λ p. arrives p) (Answers Done h)
act_of c Ring h = store (λ n. true) (op.Add 1) (λ p. arrives p) (Continue Look)
act_of c Look h = load_if (λ n. n == 0) (λ n. Answers Done h) (λ n. Continue Wake)
act_of c Wake h = section (λ w. true) (λ w. Some (woken_by c w)) (λ p. arrives p) (λ w. Answers Done h) (λ w. Answers Done h)

abbrev pub starts_at : EventCall → EventPoint
starts_at Listen = Load
starts_at (Wait g) = Count g
starts_at NotifyAll = Ring
starts_at NotifyOne = Ring

-- A move `Weak` ends a sleep for no reason.
abbrev pub event : LockKind
event = record (usual (λ s. s.arrivals) [] is_arrival (λ n h. a_call ∷ [])) { makes_value = true }

abbrev pub EventTable : Type 0
EventTable = Table EventWords (Unit {0}) EventCall EventPoint (Answer (Unit {0}))

abbrev pub event_table : EventTable
event_table = let opening : EventWords = record { rings = 0; sleepers = 0; parked = 0; woken = 0 } in
    record (usual_table None event opening event_memory (λ c h. starts_at c) act_of (λ c h. a_call)) { owned = false; word = word_of }

abbrev pub EventMachine : Type 0
EventMachine = Machine EventWords (Unit {0}) EventCall EventPoint (Answer (Unit {0}))

-- the machine of the table, in which a sleep may also end for no reason: by the move `Weak`
abbrev pub event_machine : EventMachine
event_machine = record (machine_of event_table) { refuse = λ c l h. elim l [ Asleep g t ↦ Some (Continue Uncount) | _ ↦ None ] }

abbrev pub EventSchedule : Type 0
EventSchedule = List (ℕ × Move EventCall (Unit {0}))

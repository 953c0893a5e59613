-- Wrong read-write locks, each with one mistake in its table or machine. A wrong step that changes the word still
-- names a plain step, perhaps one that is not open, or one that fits another word. Only `reads_and_regrets_unseen`
-- names none.
use Rattle.std.specs.Prelude.{ℕ, zero, suc, ◌+◌, ◌-◌, ◌/◌, true, false, Option, Some, None, if◌then◌else◌}
use Rattle.spin_step.specs.Plain.{reading, upgradable, asking, writing, weight, Ask, to_read, to_write, to_upgrade, to_upgrade_asked, to_lock_starving, gets, releases, turns, to_read_upgradable}
use Rattle.spin_step.specs.declared.place.Hold.{Hold}
use Rattle.spin_step.specs.declared.place.Hold.TheVariants as hold
use Rattle.spin_step.specs.declared.stepped.Next.TheVariants.{Continue, Answers}
use Rattle.spin_step.specs.declared.answer.Answer.{Answer}
use Rattle.spin_step.specs.declared.answer.Answer.TheVariants.{Refused, Done, Count, Is}
use Rattle.spin_step_more.specs.declared.rw_calls.RwCall.{RwCall}
use Rattle.spin_step_more.specs.declared.rw_calls.RwCall.TheVariants.{TryRead, Read, TryUpgradeableRead, TryWrite, TryWriteWeak, Write, ReaderCount, WriterCount, IsLocked, TryUpgrade, Upgrade, Downgrade, Release, DowngradeToUpgradeable}
use Rattle.spin_step_more.specs.declared.rw_calls.RwPoint.{RwPoint}
use Rattle.spin_step_more.specs.declared.rw_calls.RwPoint.TheVariants.{First, Exchange, Asking}
use Rattle.spin_step.specs.Machines.{Machine}
use Rattle.spin_step.specs.declared.stepped.Next.{Next}
use Rattle.spin_step.specs.Acts.{Act, load, load_for, exchange, weak_exchange, retry, store, section, swap, machine_of}
use Rattle.spin_step.specs.declared.table.Operation.{Operation}
use Rattle.spin_step.specs.declared.table.Operation.TheVariants as op
use Rattle.spin_step_more.specs.Readers.{tells, read, write, upgrade, upgrade_asked, read_upgradable, writers_in}
use Rattle.spin_step_more.specs.RwCalls.{granted, goes_for, act_of, asks_of, rw_table, rw_machine, comes_by}
use Rattle.spin_step.specs.Asks.{waits}

pub data Mistake : Type 0 where
  reads_and_regrets reads_and_regrets_unseen reads_by_a_mask reads_in_one reads_by_a_guess reads_weakly : Mistake
  reads_anew looks_for_ever looks_twice tries_for_ever refuses_late comes_beyond_the_cap : Mistake
  writes_by_chance writes_strongly waits_strongly looks_first writes_by_reading never_writes : Mistake
  upgrades_at_once upgrades_unasked upgrades_plainly asks_twice upgrades_anew asks_anew upgrades_by_looks : Mistake
  upgrades_strongly upgrades_by_chance upgrades_any_reader : Mistake
  downgrades_asking downgrades_in_two ends_reading never_releases : Mistake
  counts_without_upgradable counts_without_asking counts_asking_as_writing looks_for_a_writer : Mistake
  opens_written forgets_its_value has_no_owner : Mistake

-- the cap of the lock
abbrev cap_of : Mistake → ℕ
cap_of comes_beyond_the_cap = 1
cap_of asks_anew = 1
cap_of _ = 9

module _ {V : Type 0} (v : V) where
  abbrev RwAct : Type 0
  RwAct = Act ℕ RwPoint (Answer V)

  abbrev RwMachine : Type 0
  RwMachine = Machine ℕ V RwCall RwPoint (Answer V)

  abbrev Continues : Type 0
  Continues = Next RwPoint (Answer V)

  -- a party gets to write by an operation, or by a weak exchange
  abbrev strongly : Operation → Ask → Continues → RwAct
  strongly operation ask lost = exchange operation (λ p. gets p ask) (granted hold.Write) (λ w. lost)

  abbrev weakly : ℕ → (ℕ → Option ℕ) → Ask → Continues → RwAct
  weakly n f ask lost = weak_exchange n f (λ p. gets p ask) (granted hold.Write) lost

  -- an upgradable reader asks to upgrade
  abbrev asks_to_upgrade : Continues → RwAct
  asks_to_upgrade = store (λ w. true) (op.Add (weight asking - weight upgradable)) (λ p. turns p upgradable asking)

  -- a step of `downgrade`: the writer adds this much to the word and becomes a reader
  abbrev reads_on : ℕ → RwAct
  reads_on more = store (tells writing) (op.Add more) (λ p. turns p writing reading) (Answers Done (Some hold.Read))

  -- a `try_read` of one step; f says how it changes the word
  abbrev reads_by : Option Hold → (ℕ → Option ℕ) → RwAct
  reads_by h f = section (λ w. true) f (λ p. gets p to_read) (λ w. granted hold.Read) (λ w. Answers Refused h)

  -- a load that counts this of the word
  abbrev counts : Option Hold → (ℕ → ℕ) → RwAct
  counts h count = load (λ w. Answers (Count (count w)) h)

  -- the wrong steps; all other steps are right
  abbrev acts : Mistake → RwCall → RwPoint → Option Hold → RwAct
  -- `try_read` adds a reader to the word, and removes this reader if there was no room
  acts reads_and_regrets TryRead (Exchange n) h =
      store (λ w. true) (op.Subtract (weight reading)) (λ p. releases p reading) (Answers Refused None)
  acts reads_and_regrets TryRead l h =
      store (λ w. true) (op.Add (weight reading)) (λ p. gets p to_read) (Continue (Exchange 0))
  -- `try_read` checks only for an upgradable reader
  acts reads_by_a_mask TryRead l h = reads_by h (λ w. if tells upgradable w then None else Some (w + weight reading))
  -- `try_read` checks for room and acquires in one event
  acts reads_in_one TryRead l h = reads_by h (read 9)
  -- `read` guesses that nobody holds; a wrong guess does not count as a failed exchange
  acts reads_by_a_guess Read First h =
      exchange (op.Exchange 0 (weight reading)) (λ p. gets p to_read) (granted hold.Read) goes_for
  -- the exchange of `read` is weak
  acts reads_weakly Read (Exchange n) h =
      weak_exchange n (read 9) (λ p. gets p to_read) (granted hold.Read) (Continue First)
  -- `read` loads the word again when its exchange has failed
  acts reads_anew Read (Exchange n) h =
      retry n (read 9) (λ p. gets p to_read) (granted hold.Read) (λ w. Continue First) (Continue First)
  -- `read` looks for ever
  acts looks_for_ever Read l h = load (λ w. Continue First)
  -- `read` looks twice before its exchange
  acts looks_twice Read First h = load (λ w. Continue (Exchange 1))
  acts looks_twice Read (Exchange (suc zero)) h = act_of 9 Read First None
  -- `try_read` loads the word for ever
  acts tries_for_ever TryRead l h = load (λ w. Continue First)
  -- a `try_read` that finds the lock closed loads the word once more, and is refused whatever it finds
  acts refuses_late TryRead First h = load_for (read 9) (λ p. gets p to_read) goes_for (Continue Asking)
  acts refuses_late TryRead Asking h = load (λ w. Answers Refused h)
  -- an upgradable reader is admitted although the cap, one here, is reached
  acts comes_beyond_the_cap TryUpgradeableRead l h =
      comes_by (read_upgradable 2) to_read_upgradable hold.Upgradable (Answers Refused None) l
  -- `try_write` only loads the word, and always fails
  acts writes_by_chance TryWrite l h = load (λ w. Answers Refused h)
  -- the exchange of the weak try is strong
  acts writes_strongly TryWriteWeak l h = strongly (swap 0 write) to_write (Answers Refused None)
  -- the exchange of `write` is strong
  acts waits_strongly Write l h = strongly (swap 0 write) to_write (Continue First)
  -- `write` looks before its exchange
  acts looks_first Write l h = load (λ w. Continue (Exchange w))
  -- `write` does what `read` does
  acts writes_by_reading Write l h = act_of 9 Read l h
  -- `write` looks for ever
  acts never_writes Write l h = load (λ w. Continue First)
  -- `try_upgrade` succeeds while there are readers
  acts upgrades_at_once TryUpgrade l h = strongly (op.Store (weight writing)) to_upgrade (Answers Refused h)
  -- `upgrade` asks and succeeds in one event, while there are readers
  acts upgrades_unasked Upgrade l h = strongly (op.Store (weight writing)) to_upgrade_asked (Continue Asking)
  -- `upgrade` tries again and again without asking
  acts upgrades_plainly Upgrade l h = weakly (weight upgradable) upgrade to_upgrade (Continue First)
  -- `upgrade` asks twice
  acts asks_twice Upgrade First h = asks_to_upgrade (Continue (Exchange 0))
  acts asks_twice Upgrade (Exchange n) h = asks_to_upgrade (Continue Asking)
  -- `upgrade` releases, and then begins to write like a new party
  acts upgrades_anew Upgrade (Exchange n) h = weakly 0 write to_write (Continue (Exchange 0))
  acts upgrades_anew Upgrade l h =
      store (tells upgradable) (op.Subtract (weight upgradable)) (λ p. releases p upgradable) (Continue (Exchange 0))
  -- `upgrade` takes back its request by the next step, and then asks again
  acts asks_anew Upgrade Asking h =
      let less = op.Subtract (weight asking - weight upgradable) in
      store (λ w. true) less (λ p. turns p asking upgradable) (Continue First)
  -- after its exchange has failed, `upgrade` looks before it tries again
  acts upgrades_by_looks Upgrade Asking h =
      weakly (weight asking) upgrade_asked to_upgrade_asked (Continue (Exchange 0))
  acts upgrades_by_looks Upgrade (Exchange n) h = load (λ w. Continue Asking)
  -- the exchange of a reader that has asked to upgrade is strong
  acts upgrades_strongly Upgrade Asking h =
      strongly (swap (weight asking) upgrade_asked) to_upgrade_asked (Continue Asking)
  -- `downgrade` leaves the word of a reader with the bit by which an upgradable reader asks
  acts downgrades_asking Downgrade l (Some hold.Write) =
      reads_on (weight reading + weight asking - weight upgradable - weight writing)
  -- `downgrade` releases the writer, and then adds a reader
  acts downgrades_in_two Downgrade (Exchange n) h =
      store (λ w. true) (op.Add (weight reading)) (λ p. gets p to_read) (Answers Done (Some hold.Read))
  acts downgrades_in_two Downgrade l h =
      store (tells writing) (op.Subtract (weight writing)) (λ p. releases p writing) (Continue (Exchange 0))
  -- a downgrade to upgradable leaves its party a plain reader
  acts ends_reading DowngradeToUpgradeable l h = reads_on (weight reading - weight writing)
  -- `reader_count` does not count the upgradable reader
  acts counts_without_upgradable ReaderCount l h = counts h (λ w. w / weight reading)
  -- `reader_count` does not count a reader that asks to upgrade
  acts counts_without_asking ReaderCount l h =
      counts h (λ w. if tells upgradable w then suc (w / weight reading) else w / weight reading)
  -- `writer_count` counts a reader that asks to upgrade
  acts counts_asking_as_writing WriterCount l h = counts h (λ w. if tells asking w then 1 else writers_in w)
  -- `is_locked` does not tell of readers
  acts looks_for_a_writer IsLocked l h = load (λ w. Answers (Is (tells writing w)) h)
  acts m c l h = act_of (cap_of m) c l h

  -- the lock with the wrong steps
  abbrev stepping : Mistake → RwMachine
  stepping m = machine_of (record (rw_table v (cap_of m)) { act = acts m })

  -- the lock with this mistake
  abbrev pub wrong : Mistake → RwMachine
  -- the same `try_read`, but the machine names no plain steps for it
  wrong reads_and_regrets_unseen =
      let m = stepping reads_and_regrets in
      record m { change = λ p w c l h. elim c [ TryRead ↦ None | other ↦ m.change p w other l h ] }
  wrong writes_by_reading =
      record (stepping writes_by_reading) { asks = λ c h. asks_of (elim c [ Write ↦ Read | other ↦ other ]) h }
  -- `write` asks what only a starver may ask, and so may look for ever
  wrong never_writes = record (stepping never_writes) {
    asks = λ c h. elim c [ Write ↦ waits to_lock_starving | other ↦ asks_of other h ];
  }
  -- `try_upgrade` may fail spuriously, though it is no weak try
  wrong upgrades_by_chance =
      record (rw_machine v 9) { refuse = λ c l h. elim c [ TryUpgrade ↦ Some (Answers Refused h) | _ ↦ None ] }
  -- any reader can begin `upgrade`; the call of a reader that is not upgradable never ends
  wrong upgrades_any_reader =
      let m = rw_machine v 9 in
      record m {
        begin = λ c h. elim c [
          | Upgrade ↦ elim h [ Some hold.Read ↦ Some First | held ↦ m.begin Upgrade held ]
          | other ↦ m.begin other h
        ];
      }
  -- nobody may release
  wrong never_releases =
      let m = rw_machine v 9 in record m { begin = λ c h. elim c [ Release ↦ None | other ↦ m.begin other h ] }
  -- the word says at first that somebody writes, but no party does
  wrong opens_written = machine_of (record (rw_table v 9) { words = 1 })
  -- the lock does not have the value given to it
  wrong forgets_its_value = machine_of (record (rw_table v 9) { value = None })
  -- nobody owns the lock
  wrong has_no_owner = machine_of (record (rw_table v 9) { owned = false })
  wrong m = stepping m

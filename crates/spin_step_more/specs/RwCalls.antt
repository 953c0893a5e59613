-- The calls of the read-write lock, step by step, and what each step is in the plain lock.
use Rattle.std.specs.Prelude.{ℕ, ◌-◌, ◌/◌, ◌==◌, ◌&&◌, Option, Some, None, nat_lt, min}
use Rattle.spin_step.specs.Plain.{reading, upgradable, asking, writing, weight, Ask, to_read, to_read_upgradable, to_write, to_upgrade, to_upgrade_asked, gets, releases, turns}
use Rattle.spin_step_more.specs.Readers.{reader_limit, readers_in, writers_in, is_held_word, tells, read, read_upgradable, write, upgrade, upgrade_asked}
use Rattle.spin_step.specs.declared.place.Hold.{Hold}
use Rattle.spin_step.specs.declared.place.Hold.TheVariants as hold
use Rattle.spin_step.specs.declared.stepped.Next.{Next}
use Rattle.spin_step.specs.declared.stepped.Next.TheVariants.{Continue, Answers}
use Rattle.spin_step.specs.declared.answer.Answer.{Answer}
use Rattle.spin_step.specs.declared.answer.Answer.TheVariants.{Granted, Refused, Done, Count, Is}
use Rattle.spin_step_more.specs.declared.rw_calls.RwCall.{RwCall}
use Rattle.spin_step_more.specs.declared.rw_calls.RwCall.TheVariants.{TryRead, Read, TryUpgradeableRead, UpgradeableRead, TryWrite, TryWriteWeak, Write, ReaderCount, WriterCount, IsLocked, TryUpgrade, TryUpgradeWeak, Upgrade, Downgrade, DowngradeToUpgradeable, Release}
use Rattle.spin_step_more.specs.declared.rw_calls.RwPoint.{RwPoint}
use Rattle.spin_step_more.specs.declared.rw_calls.RwPoint.TheVariants.{First, Exchange, Asking}
use Rattle.spin_step.specs.Calls.{Asked}
use Rattle.spin_step.specs.Asks.{is_above_read, is_held_some, is_write, looks_and_tries, spins_to_write, waits_to_upgrade, waits, tries, tries_weakly, counts_readers, counts_writers, looks, turns_to, gives_back}
use Rattle.spin_step_more.specs.RwKind.{rw}
use Rattle.spin_step.specs.Machines.{Machine}
use Rattle.spin_step.specs.Acts.{one_number, either, Act, load, load_for, exchange, weak_exchange, retry, store, swap, Table, machine_of}
use Rattle.spin_step.specs.Tables.{usual_table}
use Rattle.spin_step.specs.declared.table.Operation.TheVariants as op

abbrev pub granted : {V : Type 0} → Hold → Next RwPoint (Answer V)
granted held = Answers Granted (Some held)

-- a call that has looked goes on to an exchange that expects the word found
abbrev pub goes_for : {V : Type 0} → ℕ → Next RwPoint (Answer V)
goes_for w = Continue (Exchange w)

-- how a call that wants to read goes on where the word found admits it
abbrev pub comes : {V : Type 0} → Hold → RwPoint → ℕ → Next RwPoint (Answer V)
comes held (Exchange k) n = either (n == k) (granted held) (goes_for n)
comes held _ n = goes_for n

-- A call that loads first. Then it repeats its exchange as long as the word found has room for it.
abbrev pub comes_by : {V : Type 0} → (ℕ → Option ℕ) → Ask → Hold → Next RwPoint (Answer V) → RwPoint → Act ℕ RwPoint (Answer V)
comes_by f ask held missed (Exchange n) = retry n f (λ p. gets p ask) (granted held) goes_for missed
comes_by f ask held missed _ = load_for f (λ p. gets p ask) goes_for missed

-- The steps of each call. `Write` and `Upgrade` wait by weak exchanges; `Upgrade` first asks to upgrade. A conversion or a release adds or
-- subtracts an amount that depends on what the party holds.
abbrev pub act_of : {V : Type 0} → ℕ → RwCall → RwPoint → Option Hold → Act ℕ RwPoint (Answer V)
act_of cap TryRead l h = comes_by (read cap) to_read hold.Read (Answers Refused h) l
act_of cap Read l h = comes_by (read cap) to_read hold.Read (Continue First) l
act_of cap TryUpgradeableRead l h = comes_by (read_upgradable cap) to_read_upgradable hold.Upgradable (Answers Refused h) l
act_of cap UpgradeableRead l h = comes_by (read_upgradable cap) to_read_upgradable hold.Upgradable (Continue First) l
act_of cap TryWrite l h = exchange (swap 0 write) (λ p. gets p to_write) (granted hold.Write) (λ w. Answers Refused h)
act_of cap TryWriteWeak l h = weak_exchange 0 write (λ p. gets p to_write) (granted hold.Write) (Answers Refused h)
act_of cap Write l h = weak_exchange 0 write (λ p. gets p to_write) (granted hold.Write) (Continue First)
act_of cap ReaderCount l h = load (λ w. Answers (Count (readers_in w)) h)
act_of cap WriterCount l h = load (λ w. Answers (Count (writers_in w)) h)
act_of cap IsLocked l h = load (λ w. Answers (Is (is_held_word w)) h)
act_of cap TryUpgrade l h = exchange (swap (weight upgradable) upgrade) (λ p. gets p to_upgrade) (granted hold.Write) (λ w. Answers Refused h)
act_of cap TryUpgradeWeak l h = weak_exchange (weight upgradable) upgrade (λ p. gets p to_upgrade) (granted hold.Write) (Answers Refused h)
act_of cap Upgrade Asking h = weak_exchange (weight asking) upgrade_asked (λ p. gets p to_upgrade_asked) (granted hold.Write) (Continue Asking)
act_of cap Upgrade l h = store (tells upgradable) (op.Add (weight asking - weight upgradable)) (λ p. turns p upgradable asking) (Continue Asking)
act_of cap Downgrade l (Some hold.Write) = store (tells writing) (op.Add (weight reading - weight writing)) (λ p. turns p writing reading) (Answers Done (Some hold.Read))
act_of cap Downgrade l h = store (λ w. tells upgradable w && nat_lt (w / weight reading) reader_limit) (op.Add (weight reading - weight upgradable)) (λ p. turns p upgradable reading) (Answers Done (Some hold.Read))
act_of cap DowngradeToUpgradeable l h = store (tells writing) (op.Add (weight upgradable - weight writing)) (λ p. turns p writing upgradable) (Answers Done (Some hold.Upgradable))
act_of cap Release l (Some hold.Read) = store (tells reading) (op.Subtract (weight reading)) (λ p. releases p reading) (Answers Done None)
act_of cap Release l (Some hold.Upgradable) = store (tells upgradable) (op.Subtract (weight upgradable)) (λ p. releases p upgradable) (Answers Done None)
act_of cap Release l h = store (tells writing) (op.Subtract (weight writing)) (λ p. releases p writing) (Answers Done None)

abbrev pub asks_of : RwCall → Option Hold → Asked
asks_of TryRead h = looks_and_tries to_read
asks_of Read h = waits to_read
asks_of TryUpgradeableRead h = looks_and_tries to_read_upgradable
asks_of UpgradeableRead h = waits to_read_upgradable
asks_of TryWrite h = tries to_write
asks_of TryWriteWeak h = tries_weakly to_write
asks_of Write h = spins_to_write
asks_of ReaderCount h = counts_readers
asks_of WriterCount h = counts_writers
asks_of IsLocked h = looks
asks_of TryUpgrade h = tries to_upgrade
asks_of TryUpgradeWeak h = tries_weakly to_upgrade
asks_of Upgrade h = waits_to_upgrade
asks_of Downgrade h = turns_to is_above_read h reading
asks_of DowngradeToUpgradeable h = turns_to is_write h upgradable
asks_of Release h = gives_back is_held_some h

abbrev pub rw_table : {V : Type 0} → V → ℕ → Table ℕ V RwCall RwPoint (Answer V)
rw_table v cap = record (usual_table (Some v) rw 0 one_number (λ c h. First) (act_of cap) asks_of) { cap = min cap reader_limit }

abbrev pub rw_machine : {V : Type 0} → V → ℕ → Machine ℕ V RwCall RwPoint (Answer V)
rw_machine v cap = machine_of (rw_table v cap)

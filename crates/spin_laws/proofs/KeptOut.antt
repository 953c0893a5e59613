-- What each lock's row of a waiting point says of what its call asks.
use Rattle.std.proofs.Common.{◌≡◌, ℕ, ◌<◌, ◌≤◌, true, false, Option, Some, None, [], refl, arith}
use Rattle.spin_step.specs.Plain.{Plain, Ask, to_read, to_read_upgradable, to_write, to_upgrade, to_upgrade_asked, to_enter, to_take_and_enter, to_lock_unregistered, to_lock_starving, to_begin, ticket_limit}
use Rattle.spin_step.proofs.Holders.{is_holder-from_entries}
use Rattle.spin_step.specs.declared.place.Hold.{Hold}
use Rattle.spin_step.specs.declared.place.Hold.TheVariants as hold
use Rattle.spin_step.specs.FlagCalls.{flag_machine}
use Rattle.spin_step.specs.declared.flag_calls.FlagCall.{FlagCall}
use Rattle.spin_step.specs.declared.flag_calls.FlagCall.TheVariants as flag
use Rattle.spin_step.specs.declared.flag_calls.FlagPoint.TheVariants as flag_point
use Rattle.spin_step.specs.TicketCalls.{ticket_machine}
use Rattle.spin_step.specs.declared.ticket_calls.TicketCall.{TicketCall}
use Rattle.spin_step.specs.declared.ticket_calls.TicketCall.TheVariants as ticket
use Rattle.spin_step.specs.declared.ticket_calls.TicketPoint.TheVariants as ticket_point
use Rattle.spin_step_more.specs.RwCalls.{rw_machine}
use Rattle.spin_step_more.specs.declared.rw_calls.RwCall.{RwCall}
use Rattle.spin_step_more.specs.declared.rw_calls.RwCall.TheVariants as rw
use Rattle.spin_step_more.specs.declared.rw_calls.RwPoint.TheVariants as rw_point
use Rattle.spin_step_more.specs.FairCalls.{fair_machine}
use Rattle.spin_step_more.specs.declared.fair_calls.FairCall.{FairCall}
use Rattle.spin_step_more.specs.declared.fair_calls.FairCall.TheVariants as fair
use Rattle.spin_step_more.specs.declared.fair_calls.FairPoint.TheVariants as fair_point
use Rattle.spin_world_core.specs.Runs.{Schedule}
use Rattle.spin_world_core.proofs.Reached.{calls}
use Rattle.spin_world.proofs.FlagOwed.{flag_facts}
use Rattle.spin_world.proofs.TicketOwed.{ticket_facts}
use Rattle.spin_world.proofs.RwOwed.{rw_facts}
use Rattle.spin_world.proofs.FairOwed.{fair_facts}
use Rattle.spin_step.specs.OnceCalls.{once_machine, OnceMachine}
use Rattle.spin_step.specs.declared.once_calls.OnceCall.{OnceCall}
use Rattle.spin_step.specs.declared.once_calls.OncePoint.{OncePoint}
use Rattle.spin_step.specs.Plain.{running, once_word, is_running}
use Rattle.spin_world_core.specs.Users.{IsCalling, seen_at}
use Rattle.spin_world_core.specs.Spans.{own}
use Rattle.spin_world_core.specs.Undisturbed.{is_open_now}
use Rattle.spin_world_core.proofs.Reached.{numbers_are}
use Rattle.spin_world.specs.OnceClosures.{RunsClosure}
use Rattle.spin_world_core.specs.Runs.{state_at}
use Rattle.spin_world.proofs.OnceOwed.{once_facts}
use Rattle.spin_laws.proofs.Once.{somebody_runs}
use Rattle.spin_seats.specs.Table.{seats_machine}
use Rattle.spin_seats.specs.declared.calls.SeatsCall.{SeatsCall}
use Rattle.spin_seats.specs.declared.calls.SeatsCall.TheVariants as seats
use Rattle.spin_seats.specs.declared.calls.SeatsPoint.TheVariants as seats_point
use Rattle.spin_world_seats.proofs.Owed.{seats_facts}
use Rattle.std.proofs.Common.{Bool}
use Rattle.spin_laws.specs.KeptOut.{AsksWhatIsClosed, is_wait}
use Rattle.spin_laws.specs.Several.{HasItsOwn}
use Rattle.spin_step.specs.Plain.{is_open_to}

module _ {V : Type 0} (v : V) (n : ℕ) (past : Schedule FlagCall V) where
  pub flag_asks : AsksWhatIsClosed (flag_machine v) (λ s c. Unit {0}) n past
  flag_asks p flag.Lock flag_point.First None there fine waits closed =
      let k = (calls (flag_facts v) n past p there).knows in (to_write, k.0.stand, grind (arith, closed, k.0.made))
  flag_asks p flag.Lock flag_point.Second None there fine waits closed =
      let k = (calls (flag_facts v) n past p there).knows in (to_write, k.0.stand, grind (arith, closed, k.0.made))
  flag_asks p flag.Lock l (Some h) there fine waits closed = absurd (calls (flag_facts v) n past p there).knows
  flag_asks p c l h there fine waits closed = absurd (grind (arith, waits))

module _ {V : Type 0} (v : V) (first n : ℕ) (past : Schedule TicketCall V) where
  -- a ticket is left
  pub ticket_asks : AsksWhatIsClosed (ticket_machine v first) (λ s c. s.next < ticket_limit) n past
  ticket_asks p ticket.Lock ticket_point.LoadNext None there left waits closed =
      let k = (calls (ticket_facts v first) n past p there).knows in (to_take_and_enter, (k.0.stand, left), grind (arith, closed, k.0.made))
  ticket_asks p ticket.Lock (ticket_point.Take i) None there left waits closed =
      let k = (calls (ticket_facts v first) n past p there).knows in (to_take_and_enter, (k.0.stand, left), grind (arith, closed, k.0.made))
  ticket_asks p ticket.Lock (ticket_point.Await t) None there left waits closed =
      let k = (calls (ticket_facts v first) n past p there).knows in (to_enter, (t, k.0.stand), grind (arith, closed, k.0.made))
  ticket_asks p ticket.Lock l h there left waits closed = absurd (grind (arith, (calls (ticket_facts v first) n past p there).knows))
  ticket_asks p c l h there left waits closed = absurd (grind (arith, waits))

module _ {V : Type 0} (v : V) (cap n : ℕ) (past : Schedule RwCall V) where
  pub rw_asks : AsksWhatIsClosed (rw_machine v cap) (λ s c. 1 ≤ s.cap) n past
  rw_asks p rw.Read rw_point.First None there room waits closed =
      let k = (calls (rw_facts v cap) n past p there).knows in (to_read, (k.0.stand, room), grind (arith, closed, k.0.made))
  rw_asks p rw.Read (rw_point.Exchange i) None there room waits closed =
      let k = (calls (rw_facts v cap) n past p there).knows in (to_read, (k.0.stand, room), grind (arith, closed, k.0.made))
  rw_asks p rw.UpgradeableRead rw_point.First None there room waits closed =
      let k = (calls (rw_facts v cap) n past p there).knows in (to_read_upgradable, (k.0.stand, room), grind (arith, closed, k.0.made))
  rw_asks p rw.UpgradeableRead (rw_point.Exchange i) None there room waits closed =
      let k = (calls (rw_facts v cap) n past p there).knows in (to_read_upgradable, (k.0.stand, room), grind (arith, closed, k.0.made))
  rw_asks p rw.Write rw_point.First None there room waits closed =
      let k = (calls (rw_facts v cap) n past p there).knows in (to_write, k.0.stand, grind (arith, closed, k.0.made))
  rw_asks p rw.Upgrade rw_point.First (Some hold.Upgradable) there room waits closed =
      let k = (calls (rw_facts v cap) n past p there).knows in (to_upgrade, k.0.stand, grind (arith, closed, k.0.made))
  rw_asks p rw.Upgrade rw_point.Asking (Some hold.Upgradable) there room waits closed =
      let k = (calls (rw_facts v cap) n past p there).knows in (to_upgrade_asked, k.0.stand, grind (arith, closed, k.0.made))
  rw_asks p c l h there room waits closed = absurd (grind (arith, waits, (calls (rw_facts v cap) n past p there).knows))

module _ {V : Type 0} (v : V) (cap patience n : ℕ) (past : Schedule FairCall V) where
  pub fair_asks : AsksWhatIsClosed (fair_machine v cap patience) (λ s c. Unit {0}) n past
  fair_asks p fair.Lock fair_point.First h there fine waits closed = absurd (calls (fair_facts v cap patience) n past p there).knows
  fair_asks p fair.Lock fair_point.SetFlag None there fine waits closed =
      let k = (calls (fair_facts v cap patience) n past p there).knows in (to_lock_starving, k.0.stand, grind (arith, closed, k.0.made))
  fair_asks p fair.Lock fair_point.Await None there fine waits closed =
      let k = (calls (fair_facts v cap patience) n past p there).knows in (to_lock_starving, k.0.stand, grind (arith, closed, k.0.made))
  fair_asks p fair.Lock fair_point.Unregister None there fine waits closed =
      let k = (calls (fair_facts v cap patience) n past p there).knows in absurd (grind (arith, closed, k.0.made, k.0.stand, is_holder-from_entries))
  fair_asks p fair.Lock (fair_point.Attempt i) None there fine waits closed =
      let k = (calls (fair_facts v cap patience) n past p there).knows in (to_lock_unregistered, k.0.stand, grind (arith, closed, k.0.made))
  fair_asks p fair.Lock (fair_point.Look i) None there fine waits closed =
      let k = (calls (fair_facts v cap patience) n past p there).knows in (to_lock_unregistered, k.0.stand, grind (arith, closed, k.0.made))
  fair_asks p fair.Lock fair_point.Load None there fine waits closed =
      let k = (calls (fair_facts v cap patience) n past p there).knows in (to_lock_unregistered, k.0.stand, grind (arith, closed, k.0.made))
  fair_asks p fair.Lock (fair_point.Register i) None there fine waits closed =
      let k = (calls (fair_facts v cap patience) n past p there).knows in (to_lock_unregistered, k.0.stand, grind (arith, closed, k.0.made))
  fair_asks p fair.StarverLock fair_point.SetFlag (Some hold.Starver) there fine waits closed =
      let k = (calls (fair_facts v cap patience) n past p there).knows in (to_lock_starving, k.0.stand, grind (arith, closed, k.0.made))
  fair_asks p fair.StarverLock fair_point.Await (Some hold.Starver) there fine waits closed =
      let k = (calls (fair_facts v cap patience) n past p there).knows in (to_lock_starving, k.0.stand, grind (arith, closed, k.0.made))
  fair_asks p fair.StarverLock fair_point.Unregister (Some hold.Starver) there fine waits closed =
      let k = (calls (fair_facts v cap patience) n past p there).knows in absurd (grind (arith, closed, k.0.made))
  fair_asks p c l h there fine waits closed = absurd (grind (arith, waits, (calls (fair_facts v cap patience) n past p there).knows))

module _ (many n : ℕ) (past : Schedule SeatsCall (Unit {0})) where
  pub seats_asks : AsksWhatIsClosed (seats_machine many) (λ s c. 1 ≤ s.cap) n past
  seats_asks p seats.Enter seats_point.First None there room waits closed =
      let k = (calls (seats_facts many) n past p there).knows in (to_read, (k.0.stand, room), grind (arith, closed, k.0.made))
  seats_asks p seats.Enter (seats_point.Exchange i) None there room waits closed =
      let k = (calls (seats_facts many) n past p there).knows in (to_read, (k.0.stand, room), grind (arith, closed, k.0.made))
  seats_asks p c l h there room waits closed = absurd (grind (arith, waits, (calls (seats_facts many) n past p there).knows))

module _ {V : Type 0} (value : Option V) (n : ℕ) (past : Schedule (OnceCall V) V) where
  abbrev m : OnceMachine V
  m = once_machine value

  abbrev now : Plain
  now = (seen_at m n past).plain

  pub word_is : (state_at m n past).words ≡ once_word now
  word_is = cc (numbers_are (once_facts value) n past)

  pub phase_of : (q : ℕ) → RunsClosure m n past q → now.phase ≡ running q
  phase_of q runs = grind (arith, runs.begun, (calls (once_facts value) n past q runs.calls).knows)

  -- a party that has made no plain step in its call runs no closure
  runs_none : (p : ℕ) → own p ((seen_at m n past).span p) ≡ [] → now.phase ≡ running p → ⊥
  runs_none p none is =
      let word : (state_at m n past).words ≡ 1 = grind (arith, word_is, is) in
      let who = somebody_runs value n past word in
      let same : who.0 ≡ p = grind (arith, phase_of who.0 who.1, is) in
      grind (arith, none, same, who.1.begun)

  idle : (p : ℕ) (b : Bool) → is_running p now.phase ≡ b → own p ((seen_at m n past).span p) ≡ [] → is_running p now.phase ≡ false
  idle p false is none = is
  idle p true is none = absurd (runs_none p none (grind (arith, is)))

  abbrev Asks : ℕ → Type 0
  Asks p = (ask : Ask) × HasItsOwn now p ask × (is_open_to now p ask ≡ false)

  begins : (p : ℕ) (c : OnceCall V) (l : OncePoint) (h : Option Hold) → IsCalling m n past p c l h → is_wait c ≡ false
      → (m.asks c h).waits ≡ true → is_open_now p (m.asks c h) ((seen_at m n past).span p) now ≡ false → own p ((seen_at m n past).span p) ≡ [] → Asks p
  begins p c l h there fine waits closed none =
      (to_begin, (grind (arith, (calls (once_facts value) n past p there).knows), idle p (is_running p now.phase) refl none, grind (arith, waits, fine, closed, none)), grind (arith, waits, fine, closed, none))

  pub once_asks : AsksWhatIsClosed m (λ s c. is_wait c ≡ false) n past
  once_asks p c l h there fine waits closed =
      begins p c l h there fine waits closed (grind (arith, fine, waits, closed, (calls (once_facts value) n past p there).knows))

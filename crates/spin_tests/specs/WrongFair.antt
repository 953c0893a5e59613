-- Wrong fair locks, each with one mistake in its table or machine.
-- Unless its comment says otherwise, each lock admits two starvers, and its `lock` registers after the second look that
-- finds the flag set.
use Rattle.spin_tests.specs.Schedules.{calls}
use Rattle.std.specs.Prelude.{ℕ, ◌+◌, ◌-◌, ◌*◌, ◌/◌, true, Option, Some, None, not, ◌&&◌, List, ◌++◌, ◌==◌, nat_lt}
use Rattle.spin_step.specs.Plain.{gets, stops_starving, to_lock_unregistered, to_lock_starving, to_lock_starving_alone, to_starve, starver_weight}
use Rattle.spin_step.specs.declared.place.Hold.{Hold}
use Rattle.spin_step.specs.declared.place.Hold.TheVariants.{Starver}
use Rattle.spin_step.specs.declared.stepped.Next.{Next}
use Rattle.spin_step.specs.declared.stepped.Next.TheVariants.{Continue, Answers}
use Rattle.spin_step.specs.declared.answer.Answer.{Answer}
use Rattle.spin_step.specs.declared.answer.Answer.TheVariants.{Granted, Refused, Locked, Starved, Done}
use Rattle.spin_step_more.specs.declared.fair_calls.FairCall.{FairCall}
use Rattle.spin_step_more.specs.declared.fair_calls.FairCall.TheVariants.{Lock, TryLock, TryLockStarver, Starve, StarverTryLock, StarverLock, StarverDrop}
use Rattle.spin_step_more.specs.declared.fair_calls.FairPoint.{FairPoint}
use Rattle.spin_step_more.specs.declared.fair_calls.FairPoint.TheVariants.{First, Attempt, Look, Load, Register, SetFlag, Await, Unregister}
use Rattle.spin_step.specs.declared.schedule.Move.{Move}
use Rattle.spin_step.specs.Machines.{Machine}
use Rattle.spin_step.specs.Acts.{Act, either, load, load_if, exchange, weak_exchange, attempt, retry, section, swap, machine_of}
use Rattle.spin_step.specs.declared.table.Operation.TheVariants as op
use Rattle.spin_step_more.specs.Starvers.{is_held_word, lock, lock_fair, starve}
use Rattle.spin_step_more.specs.FairCalls.{granted, act_of, fair_table, fair_machine}
use Rattle.spin_step.specs.Asks.{tries_in}

pub data Mistake : Type 0 where
  tries_greedily tells_the_other_reason never_registers returns_to_its_exchange registers_at_once never_looks : Mistake
  loads_uncounted counts_each_second_look counts_anew counts_anew_at_the_cap waits_for_starvers : Mistake
  starves_without_cap starves_again waits_at_the_cap opens_with_a_starver drop_frees : Mistake
  stays_a_starver refuses_late sets_the_flag_alone tries_alone waits_for_ever waits_for_quiet : Mistake
  keeps_the_flag leaves_by_exchange sets_by_chance spins_by_setting looks_once_it_starves starves_in_one : Mistake

-- the cap and the patience of the lock
abbrev cap_of : Mistake → ℕ
cap_of starves_without_cap = 1
cap_of counts_anew_at_the_cap = 1
cap_of waits_at_the_cap = 1
cap_of _ = 2

abbrev patience_of : Mistake → ℕ
patience_of counts_anew_at_the_cap = 3
patience_of _ = 1

-- one party holds; the `lock` of the other party makes an exchange and four looks
abbrev pub lock_beside_a_holder : {V : Type 0} → List (ℕ × Move FairCall V)
lock_beside_a_holder = calls 0 TryLock 1 ++ calls 1 Lock 5

module _ {V : Type 0} (v : V) where
  abbrev FairAct : Type 0
  FairAct = Act ℕ FairPoint (Answer V)

  abbrev FairMachine : Type 0
  FairMachine = Machine ℕ V FairCall FairPoint (Answer V)

  abbrev Continues : Type 0
  Continues = Next FairPoint (Answer V)

  abbrev registers : ℕ → Continues
  registers w = Continue (Register w)

  -- a look of `lock` that has found the flag set n times: it looks again, or continues with `late`
  abbrev looks_by : ℕ → Continues → (ℕ → Continues) → FairAct
  looks_by n late clear = load_if is_held_word (λ w. either (nat_lt n 1) (Continue (Look (n + 1))) late) clear

  -- the exchange of `lock`
  abbrev locks : Continues → FairAct
  locks lost = weak_exchange 0 lock (λ p. gets p to_lock_unregistered) granted lost

  -- a starver sets the flag
  abbrev sets_flag : Continues → Continues → FairAct
  sets_flag won lost = exchange op.SetLowestBit (λ p. gets p to_lock_starving) won (λ w. lost)

  -- a load of `starve`; the cap is one here
  abbrev starves_or : Continues → FairAct
  starves_or full = load (λ w. elim (starve 1 w) [ Some k ↦ Continue (Register w) | None ↦ full ])

  -- the wrong steps; all other steps are right
  abbrev acts : Mistake → FairCall → FairPoint → Option Hold → FairAct
  -- `try_lock` sets the flag whenever the flag is clear
  acts tries_greedily TryLock l h =
      exchange op.SetLowestBit (λ p. gets p to_lock_unregistered) granted (λ w. Answers Refused h)
  -- a newcomer that is refused gets the other reason
  acts tells_the_other_reason TryLockStarver l h =
      let refused : ℕ → Continues = λ w. Answers (either (w == 1) Starved Locked) None in
      exchange (swap 0 lock) (λ p. gets p to_lock_unregistered) granted refused
  -- `lock` never registers
  acts never_registers Lock (Look n) h = load_if is_held_word (λ w. Continue (Look (n + 1))) (λ w. Continue (Attempt n))
  -- `lock` returns to its exchange at the look at which it should register
  acts returns_to_its_exchange Lock (Look n) h = looks_by n (Continue (Attempt n)) (λ w. Continue (Attempt n))
  -- `lock` registers before it looks
  acts registers_at_once Lock (Attempt n) h = locks (Continue Load)
  -- `lock` never looks
  acts never_looks Lock (Attempt n) h = locks (Continue (Attempt n))
  -- `lock` loads the word until it is clear, and does not count its looks
  acts loads_uncounted Lock (Look n) h = load (λ w. either (is_held_word w) (Continue (Look n)) (Continue (Attempt n)))
  -- `lock` counts only each second look
  acts counts_each_second_look Lock (Look n) h =
      load_if is_held_word (λ w. either (nat_lt n 1) (Continue First) (Continue Load)) (λ w. Continue (Attempt n))
  acts counts_each_second_look Lock First h = load (λ w. Continue (Look 1))
  -- `lock` starts to count anew when it finds the flag clear
  acts counts_anew Lock (Look n) h = looks_by n (Continue Load) (λ w. Continue (Attempt 0))
  -- a `lock` with a patience of 3 that starts to count its looks anew when it has found the cap reached
  acts counts_anew_at_the_cap Lock Load h = starves_or (Continue (Look 0))
  -- `lock` makes its exchange only if it finds neither the flag nor a starver
  acts waits_for_starvers Lock (Look n) h =
      looks_by n (Continue Load) (λ w. either (w == 0) (Continue (Attempt n)) (Continue (Look n)))
  -- `starve` ignores the cap, which is one here
  acts starves_without_cap Starve Load h = load registers
  acts starves_without_cap Starve (Register n) h =
      let won = Answers Granted (Some Starver) in
      retry n (λ w. Some (w + 2)) (λ p. gets p to_starve) won registers (Answers Refused None)
  -- a `starve` that finds the cap reached, which is one here, loads the word again
  acts waits_at_the_cap Starve Load h = starves_or (Continue Load)
  -- `starver_drop` clears the flag
  acts drop_frees StarverDrop l h =
      let done : ℕ → Continues = λ w. Answers Done None in
      section (λ w. nat_lt 1 w) (λ w. Some ((w - 2) / 2 * 2)) (λ p. stops_starving p) done done
  -- `starver_try_lock` leaves its party a starver
  acts stays_a_starver StarverTryLock SetFlag h = sets_flag granted (Answers Refused h)
  -- a `starver_try_lock` that finds the flag set loads the word once more, and is refused whatever it finds
  acts refuses_late StarverTryLock SetFlag h = sets_flag (Continue Unregister) (Continue First)
  acts refuses_late StarverTryLock First h = load (λ w. Answers Refused (Some Starver))
  -- `starver_try_lock` sets the flag only if its party is the only starver
  acts sets_the_flag_alone StarverTryLock SetFlag h =
      attempt 2 lock_fair (λ p. gets p to_lock_starving) (Continue Unregister) (Answers Refused h)
  -- a starver's `lock` that finds the flag set looks for ever, and never tries again
  acts waits_for_ever StarverLock Await h = load (λ w. Continue Await)
  -- A starver that waits sets the flag only if it finds the same clear word twice. So others that register and leave
  -- keep this starver waiting.
  acts waits_for_quiet StarverLock Await h = load registers
  acts waits_for_quiet StarverLock (Register n) h =
      load_if (λ w. not (is_held_word w) && (w == n)) (λ w. Continue SetFlag) registers
  -- a starver that has set the flag stays a starver until it is the only one
  acts keeps_the_flag StarverLock Unregister h =
      load_if (λ w. w == 3) (λ w. Continue First) (λ w. Continue Unregister)
  acts keeps_the_flag StarverLock First h = act_of 2 1 StarverLock Unregister None
  -- a starver that has set the flag stops starving by an exchange of the word found, and repeats this exchange until it
  -- succeeds
  acts leaves_by_exchange StarverLock Unregister h = load registers
  acts leaves_by_exchange StarverLock (Register n) h =
      retry n (λ w. Some (w - 2)) (λ p. stops_starving p) granted registers (Continue Unregister)
  -- a starver sets the flag by a weak exchange
  acts sets_by_chance StarverLock SetFlag h =
      weak_exchange starver_weight lock_fair (λ p. gets p to_lock_starving) (Continue Unregister) (Continue Await)
  -- a starver that finds the flag set tries to set it again without a look
  acts spins_by_setting StarverLock SetFlag h = sets_flag (Continue Unregister) (Continue SetFlag)
  -- `lock` looks once more after it has registered, before it tries to set the flag
  acts looks_once_it_starves Lock (Register n) h =
      retry n (starve 2) (λ p. gets p to_starve) (Continue Await) registers (Continue (Look 1))
  -- `starve` checks the cap and registers in one event
  acts starves_in_one Starve Load h =
      let won : ℕ → Continues = λ w. Answers Granted (Some Starver) in
      section (λ w. true) (starve 2) (λ p. gets p to_starve) won (λ w. Answers Refused None)
  acts m c l h = act_of (cap_of m) (patience_of m) c l h

  -- the lock with this mistake
  abbrev pub wrong : Mistake → FairMachine
  -- `starve` can begin even if its party starves already
  wrong starves_again =
      let m = fair_machine v 2 1 in record m { begin = λ c h. elim c [ Starve ↦ Some Load | other ↦ m.begin other h ] }
  -- `starver_try_lock` asks to lock as the only starver
  wrong tries_alone =
      let m = fair_machine v 2 1 in
      record m { asks = λ c h. elim c [ StarverTryLock ↦ tries_in 2 to_lock_starving_alone | other ↦ m.asks other h ] }
  -- the word says at first that a starver is registered, but no party is a starver
  wrong opens_with_a_starver = record (fair_machine v 2 1) { words = 2 }
  wrong m = machine_of (record (fair_table v (cap_of m) (patience_of m)) { act = acts m })

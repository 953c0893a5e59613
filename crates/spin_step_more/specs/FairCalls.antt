-- The fair lock's calls, step by step, and what each step is in the plain lock.
use Rattle.std.specs.Prelude.{ℕ, ◌+◌, Option, Some, None, ◌==◌, nat_lt, min}
use Rattle.spin_step.specs.Plain.{writing, to_lock_unregistered, to_lock_starving, to_lock_starving_alone, to_starve, gets, releases, stops_starving, holder_weight, starver_weight}
use Rattle.spin_step_more.specs.Starvers.{most_starvers, is_held_word, lock, starve, lock_fair}
use Rattle.spin_step.specs.declared.place.Hold.{Hold}
use Rattle.spin_step.specs.declared.place.Hold.TheVariants.{Write, Starver}
use Rattle.spin_step.specs.declared.stepped.Next.{Next}
use Rattle.spin_step.specs.declared.stepped.Next.TheVariants.{Continue, Answers}
use Rattle.spin_step.specs.declared.answer.Answer.{Answer}
use Rattle.spin_step.specs.declared.answer.Answer.TheVariants.{Granted, Refused, Locked, Starved, Done, Is}
use Rattle.spin_step_more.specs.declared.fair_calls.FairCall.{FairCall}
use Rattle.spin_step_more.specs.declared.fair_calls.FairCall.TheVariants.{Lock, TryLock, TryLockStarver, IsLocked, Starve, StarverTryLockFair, StarverTryLock, StarverLock, StarverDrop, Release}
use Rattle.spin_step_more.specs.declared.fair_calls.FairPoint.{FairPoint}
use Rattle.spin_step_more.specs.declared.fair_calls.FairPoint.TheVariants.{First, Attempt, Look, Load, Register, SetFlag, Await, Unregister}
use Rattle.spin_step.specs.Calls.{Asked}
use Rattle.spin_step.specs.Asks.{gives_back, is_registered, is_write, looks, looks_and_tries, tries, tries_in, tries_to_know, waits_or_starves, waits_starving}
use Rattle.spin_step_more.specs.FairKind.{fair}
use Rattle.spin_step.specs.Machines.{Machine}
use Rattle.spin_step.specs.Acts.{one_number, Act, either, load, load_if, load_for, exchange, weak_exchange, retry, store, swap, Table, machine_of}
use Rattle.spin_step.specs.Tables.{usual_table}
use Rattle.spin_step.specs.declared.table.Operation.TheVariants as op

-- the point at which a call begins
abbrev pub fair_start : FairCall → FairPoint
fair_start Lock = Attempt 0
fair_start Starve = Load
fair_start StarverTryLock = SetFlag
fair_start StarverLock = SetFlag
fair_start _ = First

-- How a call goes on after a step: its next point or its answer.

abbrev pub granted : {V : Type 0} → Next FairPoint (Answer V)
granted = Answers Granted (Some Write)

-- the answer of a try that fails because it found this word: the reason
abbrev pub rejects : {V : Type 0} → Option Hold → ℕ → Next FairPoint (Answer V)
rejects h w = Answers (either (w == holder_weight) Locked Starved) h

-- `lock` looks once more, or goes on to register if it has looked often enough
abbrev pub looks_on : {V : Type 0} → ℕ → ℕ → Next FairPoint (Answer V)
looks_on patience n = either (nat_lt n patience) (Continue (Look (n + 1))) (Continue Load)

-- if the number of starvers is at the cap, `lock` looks again and `starve` fails
abbrev pub finds_no_room : {V : Type 0} → ℕ → FairCall → Option Hold → Next FairPoint (Answer V)
finds_no_room patience c h = elim c [ Lock ↦ Continue (Look patience) | _ ↦ Answers Refused h ]

abbrev pub registered : {V : Type 0} → FairCall → Next FairPoint (Answer V)
registered c = elim c [ Lock ↦ Continue SetFlag | _ ↦ Answers Granted (Some Starver) ]

-- if the flag is set, a starver waits or its try fails
abbrev pub finds_flag_set : {V : Type 0} → FairCall → Option Hold → Next FairPoint (Answer V)
finds_flag_set c h = elim c [ StarverTryLock ↦ Answers Refused h | _ ↦ Continue Await ]

-- the step of each call that takes one step, and the first step of `StarverTryLockFair`
abbrev pub act_of_first : {V : Type 0} → FairCall → Option Hold → Act ℕ FairPoint (Answer V)
act_of_first TryLock h = exchange (swap 0 lock) (λ p. gets p to_lock_unregistered) granted (λ w. Answers Refused h)
act_of_first TryLockStarver h = exchange (swap 0 lock) (λ p. gets p to_lock_unregistered) granted (rejects h)
act_of_first StarverTryLockFair h = exchange (swap starver_weight lock_fair) (λ p. gets p to_lock_starving_alone) (Continue Unregister) (λ w. Answers Refused h)
act_of_first StarverDrop h = store (λ w. nat_lt 1 w) (op.Subtract starver_weight) (λ p. stops_starving p) (Answers Done None)
act_of_first Release h = store is_held_word (op.Subtract holder_weight) (λ p. releases p writing) (Answers Done None)
act_of_first _ h = load (λ w. Answers (Is (is_held_word w)) h)

abbrev pub act_of : {V : Type 0} → ℕ → ℕ → FairCall → FairPoint → Option Hold → Act ℕ FairPoint (Answer V)
act_of cap patience c First h = act_of_first c h
act_of cap patience c (Attempt n) h = weak_exchange 0 lock (λ p. gets p to_lock_unregistered) granted (Continue (Look n))
act_of cap patience c (Look n) h = load_if is_held_word (λ w. looks_on patience n) (λ w. Continue (Attempt n))
act_of cap patience c Load h = load_for (starve cap) (λ p. gets p to_starve) (λ w. Continue (Register w)) (finds_no_room patience c h)
act_of cap patience c (Register n) h = retry n (starve cap) (λ p. gets p to_starve) (registered c) (λ w. Continue (Register w)) (finds_no_room patience c h)
act_of cap patience c SetFlag h = exchange op.SetLowestBit (λ p. gets p to_lock_starving) (Continue Unregister) (λ w. finds_flag_set c h)
act_of cap patience c Await h = load_if is_held_word (λ w. Continue Await) (λ w. Continue SetFlag)
act_of cap patience c Unregister h = store (λ w. nat_lt 1 w) (op.Subtract starver_weight) (λ p. stops_starving p) granted

abbrev pub asks_of : ℕ → FairCall → Option Hold → Asked
asks_of patience Lock h = waits_or_starves patience
asks_of patience TryLock h = tries to_lock_unregistered
asks_of patience TryLockStarver h = tries_to_know to_lock_unregistered
asks_of patience IsLocked h = looks
asks_of patience Starve h = looks_and_tries to_starve
asks_of patience StarverTryLockFair h = tries_in 2 to_lock_starving_alone
asks_of patience StarverTryLock h = tries_in 2 to_lock_starving
asks_of patience StarverLock h = waits_starving
asks_of patience StarverDrop h = gives_back is_registered (Some Starver)
asks_of patience Release h = gives_back is_write (Some Write)

-- The table of the fair lock that opens with the value v and this cap of starvers. When more than `patience` of its
-- looks have found the flag set, `lock` goes on to register.
abbrev pub fair_table : {V : Type 0} → V → ℕ → ℕ → Table ℕ V FairCall FairPoint (Answer V)
fair_table v cap patience =
    record (usual_table (Some v) fair 0 one_number (λ c h. fair_start c) (act_of cap patience) (asks_of patience)) { cap = min cap most_starvers }

abbrev pub fair_machine : {V : Type 0} → V → ℕ → ℕ → Machine ℕ V FairCall FairPoint (Answer V)
fair_machine v cap patience = machine_of (fair_table v cap patience)

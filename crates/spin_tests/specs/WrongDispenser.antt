-- Wrong dispensers, each wrong in one part of its table, and schedules on which the laws refuse these dispensers.
use Rattle.spin_tests.specs.Schedules.{calls, steps}
use Rattle.std.specs.Prelude.{ℕ, ◌+◌, ◌++◌, Bool, true, Option, Some, List, nat_lt, if◌then◌else◌}
use Rattle.spin_step.specs.Plain.{to_read, gets, reading, Change, releases}
use Rattle.spin_step.specs.declared.place.Hold.{Hold}
use Rattle.spin_step.specs.declared.schedule.Move.{Move}
use Rattle.spin_tests.specs.declared.dispenser.DispenserCall.{DispenserCall}
use Rattle.spin_tests.specs.declared.dispenser.DispenserCall.TheVariants as call
use Rattle.spin_tests.specs.declared.dispenser.DispenserPoint.{DispenserPoint}
use Rattle.spin_tests.specs.declared.dispenser.DispenserPoint.TheVariants.{First, Exchange}
use Rattle.spin_tests.specs.declared.dispenser.DispenserAnswer.{DispenserAnswer}
use Rattle.spin_step.specs.Acts.{Act, load_for, retry, section, machine_of}
use Rattle.spin_tests.specs.Dispenser.{Continues, dispenser, dispenser_plain_steps, after_draw, drawn, goes_for, sold_out, not_next, act_of}
use Rattle.spin_tests.specs.Dispenser.{DispenserTable, dispenser_table, DispenserMachine}

-- A dispenser of the numbers below `cap`. `next` gives the word that a draw stores. `won` and `lost` say how the draw
-- continues after its exchange.
abbrev draws_by : ℕ → (ℕ → Option ℕ) → (ℕ → Continues) → (ℕ → ℕ → Continues) → DispenserMachine
draws_by cap next won lost = let t : DispenserTable = dispenser_table cap in machine_of (record t { act = λ c l h. steps c l h })
  where
    steps : DispenserCall → DispenserPoint → Option Hold → Act ℕ DispenserPoint DispenserAnswer
    steps call.Draw First h = load_for next (λ p. gets p to_read) goes_for (sold_out h)
    steps call.Draw (Exchange k) h = retry k next (λ p. gets p to_read) (won k) (lost k) (sold_out h)
    steps c l h = act_of cap c l h

-- two parties look one after the other, and then exchange
abbrev pub two_draw : List (ℕ × Move DispenserCall (Unit {0}))
two_draw = calls 0 call.Draw 0 ++ calls 1 call.Draw 0 ++ steps 0 1 ++ steps 1 1 ++ steps 0 1 ++ steps 1 2

-- the exchange does not change the number
abbrev pub forgets_to_store : DispenserMachine
forgets_to_store = draws_by 2 (λ k. Some k) drawn (λ k. goes_for)

-- an exchange that fails still answers with the number that it expected
abbrev pub wins_what_it_lost : DispenserMachine
wins_what_it_lost = draws_by 2 (after_draw 2) drawn (λ k found. drawn k)

-- after the last number the dispenser begins again at 0
abbrev pub wraps : DispenserMachine
wraps = draws_by 1 (λ k. Some (if nat_lt k 1 then k + 1 else 0)) drawn (λ k. goes_for)

-- each draw answers 0
abbrev pub says_zero : DispenserMachine
says_zero = draws_by 2 (after_draw 2) (λ k. drawn 0) (λ k. goes_for)

-- the call that should draw the number k draws the next number, whichever it is, and answers k
abbrev pub draws_another : DispenserMachine
draws_another =
    let t : DispenserTable = dispenser_table 2 in
    let any : ℕ → Option Hold → Act ℕ DispenserPoint DispenserAnswer = λ k h. section (λ w. true) (after_draw 2) (λ p. gets p to_read) (λ w. drawn k) (λ w. not_next h) in
    machine_of (record t { act = λ c l h. elim c [ call.DrawThis k ↦ any k h | other ↦ act_of 2 other l h ] })

-- the plain steps of a kind of lock in which a party may also return a number
abbrev with_return : Change → Bool
with_return (releases p reading) = true
with_return c = dispenser_plain_steps c

abbrev pub takes_back : DispenserMachine
takes_back = let t : DispenserTable = dispenser_table 2 in machine_of (record t { lock_kind = record dispenser { plain_steps = with_return } })

-- What each event draws: the number in the word, or no number.
use Rattle.std.proofs.Common.{◌≡◌, ◌⊎◌, ⊎_elim, ℕ, suc, ◌+◌, Option, List, [], ◌∷◌, ◌++◌, slice_get, refl, ap, ◌∙◌, arith}
use Rattle.std.proofs.lemmas.Bool.{eqb-true}
use Rattle.std.specs.List.{range_with_len}
use Rattle.spin_step.specs.declared.place.Seat.{Seat}
use Rattle.spin_step.specs.declared.schedule.Move.{Move}
use Rattle.spin_tests.specs.declared.dispenser.DispenserCall.{DispenserCall}
use Rattle.spin_tests.specs.declared.dispenser.DispenserPoint.{DispenserPoint}
use Rattle.spin_tests.specs.declared.dispenser.DispenserAnswer.{DispenserAnswer}
use Rattle.spin_step.specs.Schedules.{State, Happened, moves_at, happens, after, events_of}
use Rattle.spin_tests.specs.Dispenser.{DispenserMachine, dispenser_machine, number_in, numbers_in}

abbrev Dispensed : Type 0
Dispensed = State ℕ (Unit {0}) DispenserCall DispenserPoint

-- the event draws the number in the word, which then goes up by one; or it draws none, and leaves the word
abbrev DrawsIn : Dispensed → Happened ℕ (Unit {0}) DispenserCall DispenserPoint DispenserAnswer → Type 0
DrawsIn s h = ((number_in h.outcome ≡ []) × (h.next.words ≡ s.words))
    ⊎ ((number_in h.outcome ≡ s.words ∷ []) × (h.next.words ≡ s.words + 1))

module _ (cap : ℕ) where
  abbrev m : DispenserMachine
  m = dispenser_machine cap

  draws-at : (s : Dispensed) (p : ℕ) (move : Move DispenserCall (Unit {0})) (o : Option (Seat DispenserCall DispenserPoint))
      → DrawsIn s (moves_at m s p move o)
  draws-at s p move o = grind (arith, eqb-true)

  -- a whole schedule draws the numbers from the word before it up to the word after it, without the latter
  pub draws : (s : Dispensed) (past : List (ℕ × Move DispenserCall (Unit {0})))
      → (k : ℕ) × (numbers_in (events_of m s past) ≡ range_with_len s.words k) × ((after m s past).words ≡ s.words + k)
  draws s [] = (0, refl, omega arith)
  draws s (e ∷ es) =
      let next = (happens m s e.0 e.1).next in
      let (k, rest, end) = draws next es in
      let more = λ (ns : List ℕ). ns ++ numbers_in (events_of m next es) in
      let from = λ (w : ℕ). range_with_len w k in
      ⊎_elim (λ no. (k, ap more no.0 ∙ rest ∙ ap from no.1, omega (arith, end, no.1)))
      (λ it. (suc k, ap more it.0 ∙ ap (λ ns. s.words ∷ ns) (rest ∙ ap from it.1), omega (arith, end, it.1)))
      (draws-at s e.0 e.1 (slice_get s.seats e.0))

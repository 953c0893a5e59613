-- A starver that has set the flag is at a point whose step answers `Granted`. A starver that waits is at a point whose
-- step sets a clear flag, or looks at the flag.
use Rattle.spin_world.specs.Fair.{FairMachine}
use Rattle.spin_world_core.specs.Users.{seen_at}
use Rattle.spin_world_core.specs.Runs.{state_at}
use Rattle.spin_world_core.specs.Runs.{Schedule}
use Rattle.spin_world.proofs.FairNames.{◌≡◌, ℕ, ◌+◌, ◌%◌, ◌==◌, ◌⊎◌, Bool, true, not, ◌&&◌, Option, Some, refl, ap, sym, ◌∙◌, arith, inl, inr, ⊎_elim, eq-eqb, is_empty, fair_word, Entries, Hold, Continue, FairCall, FairPoint, SetFlag, Await, Unregister, asks_of, fair_machine, IsGrantedNext, SetsAClearFlag, GoesForAClearFlag}
use Rattle.spin_step.specs.declared.place.Seat.TheVariants.{Calling}
use Rattle.spin_step.specs.declared.schedule.Move.TheVariants.{Step}
use Rattle.spin_step.specs.Schedules.{moves_at}
use Rattle.spin_world_core.proofs.Reached.{numbers_are, StandsSo, calls_so}
use Rattle.spin_world.proofs.FairKnowledge.{flag_clear}
use Rattle.spin_world.proofs.FairOwed.{fair_notes, fair_facts}

abbrev holds_starving : Entries → Bool
holds_starving e = not (is_empty e.holders) && not (is_empty e.starvers)

abbrev starves_alone : Entries → Bool
starves_alone e = is_empty e.holders && not (is_empty e.starvers)

module _ {V : Type 0} (v : V) (cap patience : ℕ) where
  abbrev m : FairMachine V
  m = fair_machine v cap patience

  -- a party in a call that holds the lock and is a starver is at the point `Unregister`
  leaves_at : (p : ℕ) (c : FairCall) (l : FairPoint) (h : Option Hold)
      → StandsSo (fair_notes v cap patience) holds_starving p c l h → l ≡ Unregister
  leaves_at p c l h both = grind (arith, both)

  pub granted_next : (n : ℕ) (past : Schedule FairCall V) → IsGrantedNext m n past
  granted_next n past p c l h there is =
      let both = calls_so (fair_facts v cap patience) n past holds_starving p there (ap holds_starving is) in
      ap (λ o. (moves_at m (state_at m n past) p Step o).outcome) (there ∙ ap (λ l. Some (Calling c l h)) (leaves_at p c l h both))

  -- a waiting starver is at a point whose step sets the flag or looks at the flag

  sets : (c : FairCall) (h : Option Hold) → SetsAClearFlag m c SetFlag h
  sets c h w value clear = rw (eq-eqb (w % 2) 0 clear) refl

  abbrev GoesFor : ℕ → FairCall → FairPoint → Option Hold → Type 0
  GoesFor w c l h =
      ((value : Option V) → (m.step w value c l h).words ≡ w + 1) ⊎ ((to : FairPoint) × ((value : Option V) → (m.step w value c l h).next ≡ Continue to) × SetsAClearFlag m c to h)

  goes_for : (p w : ℕ) → w % 2 ≡ 0 → (c : FairCall) (l : FairPoint) (h : Option Hold)
      → StandsSo (fair_notes v cap patience) starves_alone p c l h → (asks_of patience c h).waits ≡ true
      → GoesFor w c l h
  goes_for p w clear c SetFlag = grind arith
  goes_for p w clear c Await = λ h alone waits. inr (SetFlag, (λ value. rw (ap (λ n. n == 1) clear) refl), sets c h)
  goes_for p w clear c l = λ h alone waits. grind (arith, alone, waits)

  pub goes_for_flag : (n : ℕ) (past : Schedule FairCall V) → GoesForAClearFlag m n past
  goes_for_flag n past p c l h there waits is free = let now = state_at m n past in
      let alone = calls_so (fair_facts v cap patience) n past starves_alone p there (ap starves_alone is) in
      let plain = (seen_at m n past).plain in
      let word : now.words ≡ fair_word plain = cc (numbers_are (fair_facts v cap patience) n past) in
      let clear = flag_clear now.words plain (sym word) (ap is_empty free) in
      let goes = goes_for p now.words clear c l h alone waits in
      ⊎_elim (λ set. inl (set now.value)) (λ goes. inr (goes.0, goes.1 now.value, goes.2)) goes

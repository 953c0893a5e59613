-- Proofs of the laws that users rely on.
use Rattle.spin_world_core.proofs.Every.{left_after, state-seen_at}
use Rattle.spin_world_core.specs.Users.{seen_at}
use Rattle.spin_world_core.specs.Runs.{state_at}
use Rattle.spin_world_core.specs.Runs.{Schedule}
use Rattle.spin_world_core.proofs.Names.{arith, ◌≡◌, ℕ, refl, Machine, KeepsPromises, KeepsAll, opening, FindsLastWritten}

module _ {W V C L A : Type 0} (m : Machine W V C L A) where
  pub finds_last_written : (n : ℕ) (past : Schedule C V) → KeepsAll m n past → FindsLastWritten m n past
  finds_last_written n past keeps =
      let s = state_at m n past in
      let last = left_after m (λ seen. seen.state.value ≡ seen.written) (KeepsPromises m) (λ s kept. kept.value_is) in
      let value : s.value ≡ (seen_at m n past).written =
      rw (← state-seen_at m n past) (last (opening m n) past keeps.each refl) in
      grind (arith, value)

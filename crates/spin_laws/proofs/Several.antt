-- Some party goes on: of the parties that are kept out, take one that waits for a lock of the highest rank.
use Rattle.std.proofs.Common.{◌≡◌, ℕ, zero, suc, ◌+◌, ◌<◌, ◌≤◌, Bool, true, false, Option, Some, None, ⊎_elim, refl, subst, arith}
use Rattle.std.proofs.lemmas.Bool.{cases_lt}
use Rattle.spin_step.specs.Plain.{Plain, is_open_to}
use Rattle.spin_step.specs.Parties.{IsExclusive}
use Rattle.spin_laws.specs.Several.{Wait, HasItsOwn, WaitInOrder, HaveTheirOwn, IsKeptOut, SomebodyGoesOn, NoDeadlock}
use Rattle.spin_laws.proofs.Blockers.{Blocks, somebody_blocks}

module _ (n : ℕ) (lock : ℕ → Plain) (waits : ℕ → Option Wait) (orders : WaitInOrder lock waits) (own : HaveTheirOwn lock waits) (exclusive : (k : ℕ) → IsExclusive (lock k)) (below : (p : ℕ) (w : Wait) → waits p ≡ Some w → w.at < n) where
  abbrev GoesOnFrom : ℕ → Type 0
  GoesOnFrom fuel = (p : ℕ) (w : Wait) → IsKeptOut lock waits p w → n ≤ w.at + fuel → SomebodyGoesOn lock waits w.at

  -- q has something in the lock for which w waits, and this lock does not keep out q
  module _ (fuel : ℕ) (later : GoesOnFrom fuel) (w : Wait) (enough : n ≤ w.at + suc fuel) (q : ℕ) (blocks : Blocks (lock w.at) q) where
    here : ((v : Wait) → IsKeptOut lock waits q v → ⊥) → SomebodyGoesOn lock waits w.at
    here free = (q, w.at, omega arith, blocks.0, free)

    higher : (v : Wait) → IsKeptOut lock waits q v → w.at < v.at → SomebodyGoesOn lock waits w.at
    higher v too more =
        let far = later q v too (omega (arith, enough, more)) in
        (far.0, far.1, omega (arith, far.2, more), far.3, far.4)

    same : (v : Wait) → IsKeptOut lock waits q v → v.at ≡ w.at → ⊥
    same v too is =
        blocks.1 v.ask (subst (λ k. HasItsOwn (lock k) q v.ask) is (own q v too.0)) (subst (λ k. is_open_to (lock k) q v.ask ≡ false) is too.1)

    lower : (v : Wait) → IsKeptOut lock waits q v → v.at < w.at → ⊥
    lower v too less = grind (arith, orders q w.at v too.0 less, blocks.0)

    by_open : (v : Wait) → waits q ≡ Some v → (b : Bool) → is_open_to (lock v.at) q v.ask ≡ b → SomebodyGoesOn lock waits w.at
    by_open v is true opens = here (λ u kept. grind (arith, is, opens, kept.0, kept.1))
    by_open v is false closed =
        ⊎_elim (λ (less : w.at < v.at). higher v (is, closed) less)
        (λ (most : v.at ≤ w.at). ⊎_elim (λ (less : v.at < w.at). absurd (lower v (is, closed) less)) (λ (least : w.at ≤ v.at). absurd (same v (is, closed) (omega (arith, most, least)))) (cases_lt v.at w.at))
        (cases_lt w.at v.at)

    by_wait : (o : Option Wait) → waits q ≡ o → SomebodyGoesOn lock waits w.at
    by_wait None is = here (λ v kept. grind (arith, is, kept.0))
    by_wait (Some v) is = by_open v is (is_open_to (lock v.at) q v.ask) refl

  goes_on : (fuel : ℕ) → GoesOnFrom fuel
  goes_on zero p w kept enough = absurd (omega (arith, below p w kept.0, enough))
  goes_on (suc fuel) p w kept enough =
      let found = somebody_blocks (lock w.at) (exclusive w.at) p w.ask (own p w kept.0) kept.1 in
      by_wait fuel (goes_on fuel) w enough found.0 found.1 (waits found.0) refl

pub no_deadlock : (n : ℕ) (lock : ℕ → Plain) (waits : ℕ → Option Wait) → NoDeadlock lock waits n
no_deadlock n lock waits orders own exclusive below p w kept = goes_on n lock waits orders own exclusive below n p w kept (omega arith)

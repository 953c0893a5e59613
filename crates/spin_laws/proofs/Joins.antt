-- Some party goes on, also where parties wait for the ends of others: of all that are kept out, take one at the highest rank; of all that
-- await an end, one that was started last.
use Rattle.std.proofs.Common.{◌≡◌, ℕ, zero, suc, ◌+◌, ◌<◌, ◌≤◌, Bool, true, false, Option, Some, None, List, [], ◌∷◌, inl, inr, ⊎_elim, refl, subst, arith}
use Rattle.std.proofs.lemmas.Bool.{cases_lt}
use Rattle.spin_step.specs.Plain.{Plain, is_open_to}
use Rattle.spin_step.specs.Parties.{IsExclusive}
use Rattle.spin_laws.specs.Several.{Wait, has_something, HasItsOwn, WaitInOrder, HaveTheirOwn, IsKeptOut}
use Rattle.spin_laws.specs.Waits.{Has}
use Rattle.spin_laws.specs.Joins.{AwaitInOrder, GoesOn, IsNear, NoDeadlockOfJoins}
use Rattle.spin_laws.proofs.Blockers.{Blocks, somebody_blocks}

module _ (n : ℕ) (lock : ℕ → Plain) (waits : ℕ → Option Wait) (awaits : ℕ → List ℕ) (floor depth : ℕ → ℕ) (joins : AwaitInOrder lock waits awaits floor depth) (orders : WaitInOrder lock waits) (own : HaveTheirOwn lock waits) (exclusive : (k : ℕ) → IsExclusive (lock k)) (below : (p : ℕ) (w : Wait) → waits p ≡ Some w → w.at < n) where
  abbrev Found : ℕ → Type 0
  Found k = (q : ℕ) × IsNear lock waits awaits floor k q × GoesOn lock waits awaits q

  abbrev From : ℕ → Type 0
  From fuel = (p : ℕ) (w : Wait) → IsKeptOut lock waits p w → n ≤ w.at + fuel → Found w.at

  nearer : (k j q : ℕ) → k ≤ j → IsNear lock waits awaits floor j q → IsNear lock waits awaits floor k q
  nearer k j q less near =
      ⊎_elim (λ (has : (i : ℕ) × (j ≤ i) × (has_something (lock i) q ≡ true)). inl (has.0, omega (arith, less, has.1), has.2)) (λ (over : j ≤ floor q). inr (omega (arith, less, over))) near

  first_of : (q c : ℕ) (cs : List ℕ) → awaits q ≡ c ∷ cs → Has (awaits q) c
  first_of q c cs is = (0, grind (arith, is))

  module _ (fuel : ℕ) (later : From fuel) (k : ℕ) (enough : n ≤ k + suc fuel) where
    higher : (q : ℕ) (v : Wait) → IsKeptOut lock waits q v → k < v.at → Found k
    higher q v too more =
        let far = later q v too (omega (arith, enough, more)) in
        (far.0, nearer k v.at far.0 (omega (arith, more)) far.1, far.2)

    -- c was started by a party that holds this rank or a higher one
    module _ (c : ℕ) (over : k ≤ floor c) (again : (d : ℕ) → Has (awaits c) d → k ≤ floor d → Found k) where
      open_or_not : awaits c ≡ [] → (v : Wait) → waits c ≡ Some v → (b : Bool) → is_open_to (lock v.at) c v.ask ≡ b → Found k
      open_or_not none v is true opens = (c, inr over, (none, λ u kept. grind (arith, is, opens, kept.0, kept.1)))
      open_or_not none v is false closed = higher c v (is, closed) (omega (arith, over, joins.above c v is))

      waits_or_not : awaits c ≡ [] → (o : Option Wait) → waits c ≡ o → Found k
      waits_or_not none None is = (c, inr over, (none, λ v kept. grind (arith, is, kept.0)))
      waits_or_not none (Some v) is = open_or_not none v is (is_open_to (lock v.at) c v.ask) refl

      awaits_or_not : (ds : List ℕ) → awaits c ≡ ds → Found k
      awaits_or_not [] is = waits_or_not is (waits c) refl
      awaits_or_not (d ∷ ds) is = let has = first_of c d ds is in again d has (omega (arith, over, joins.nested c d has))

    started : (steps c : ℕ) → depth c < steps → k ≤ floor c → Found k
    started zero c less over = absurd (omega (arith, less))
    started (suc steps) c less over =
        awaits_or_not c over (λ d has more. started steps d (omega (arith, less, joins.deep c d has)) more) (awaits c) refl

    -- q has something in the lock of this rank, which does not keep out q
    module _ (q : ℕ) (blocks : Blocks (lock k) q) where
      here : awaits q ≡ [] → ((v : Wait) → IsKeptOut lock waits q v → ⊥) → Found k
      here none free = (q, inl (k, omega arith, blocks.0), (none, free))

      same : (v : Wait) → IsKeptOut lock waits q v → v.at ≡ k → ⊥
      same v too is =
          blocks.1 v.ask (subst (λ j. HasItsOwn (lock j) q v.ask) is (own q v too.0)) (subst (λ j. is_open_to (lock j) q v.ask ≡ false) is too.1)

      lower : (v : Wait) → IsKeptOut lock waits q v → v.at < k → ⊥
      lower v too less = grind (arith, orders q k v too.0 less, blocks.0)

      by_open : awaits q ≡ [] → (v : Wait) → waits q ≡ Some v → (b : Bool) → is_open_to (lock v.at) q v.ask ≡ b → Found k
      by_open none v is true opens = here none (λ u kept. grind (arith, is, opens, kept.0, kept.1))
      by_open none v is false closed =
          ⊎_elim (λ (less : k < v.at). higher q v (is, closed) less)
          (λ (most : v.at ≤ k). ⊎_elim (λ (less : v.at < k). absurd (lower v (is, closed) less)) (λ (least : k ≤ v.at). absurd (same v (is, closed) (omega (arith, most, least)))) (cases_lt v.at k))
          (cases_lt k v.at)

      by_wait : awaits q ≡ [] → (o : Option Wait) → waits q ≡ o → Found k
      by_wait none None is = here none (λ v kept. grind (arith, is, kept.0))
      by_wait none (Some v) is = by_open none v is (is_open_to (lock v.at) q v.ask) refl

      by_awaits : (cs : List ℕ) → awaits q ≡ cs → Found k
      by_awaits [] is = by_wait is (waits q) refl
      by_awaits (c ∷ cs) is = started (suc (depth c)) c (omega arith) (joins.under q c k (first_of q c cs is) blocks.0)

  goes_on : (fuel : ℕ) → From fuel
  goes_on zero p w kept enough = absurd (omega (arith, below p w kept.0, enough))
  goes_on (suc fuel) p w kept enough =
      let found = somebody_blocks (lock w.at) (exclusive w.at) p w.ask (own p w kept.0) kept.1 in
      by_awaits fuel (goes_on fuel) w.at enough found.0 found.1 (awaits found.0) refl

  ends : (p c : ℕ) → Has (awaits p) c → Found (floor c)
  ends p c has = started n (goes_on n) (floor c) (omega arith) (suc (depth c)) c (omega arith) (omega arith)

pub no_deadlock_of_joins : (n : ℕ) (lock : ℕ → Plain) (waits : ℕ → Option Wait) (awaits : ℕ → List ℕ) → NoDeadlockOfJoins lock waits awaits n
no_deadlock_of_joins n lock waits awaits floor depth joins orders own exclusive below =
    (λ p w kept. goes_on n lock waits awaits floor depth joins orders own exclusive below n p w kept (omega arith), ends n lock waits awaits floor depth joins orders own exclusive below)

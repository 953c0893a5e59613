-- Several locks at a moment, where a party may also wait for the ends of parties that it has started.
use Rattle.std.specs.Prelude.{◌≡◌, ℕ, ◌<◌, ◌≤◌, ◌⊎◌, true, Option, Some, List, []}
use Rattle.spin_step.specs.Plain.{Plain}
use Rattle.spin_step.specs.Parties.{IsExclusive}
use Rattle.spin_laws.specs.Several.{Wait, has_something, WaitInOrder, HaveTheirOwn, IsKeptOut}
use Rattle.spin_laws.specs.Waits.{Has}

-- the lock of each rank, what each party waits for, and whose ends it awaits
module _ (lock : ℕ → Plain) (waits : ℕ → Option Wait) (awaits : ℕ → List ℕ) where
  -- `floor` is the highest rank that a party's starter held as it started the party, and 0 for others. `depth` says how deeply parties start
  -- parties, at most.
  pub record AwaitInOrder (floor depth : ℕ → ℕ) : Type 0 where
    pub idle : (q c : ℕ) (w : Wait) → Has (awaits q) c → waits q ≡ Some w → ⊥  -- a party that awaits an end waits for no lock
    pub under : (q c j : ℕ) → Has (awaits q) c → has_something (lock j) q ≡ true → j ≤ floor c
    pub nested : (q c : ℕ) → Has (awaits q) c → floor q ≤ floor c
    pub above : (p : ℕ) (w : Wait) → waits p ≡ Some w → floor p < w.at  -- a started party waits above all that its starters hold
    pub deep : (q c : ℕ) → Has (awaits q) c → depth c < depth q

  -- nothing keeps the party out, and it awaits no end
  abbrev pub GoesOn : ℕ → Type 0
  GoesOn q = (awaits q ≡ []) × ((w : Wait) → IsKeptOut lock waits q w → ⊥)

  -- the party has something in a lock of this rank or above, or was started by one that has
  abbrev pub IsNear : (ℕ → ℕ) → ℕ → ℕ → Type 0
  IsNear floor k q = ((j : ℕ) × (k ≤ j) × (has_something (lock j) q ≡ true)) ⊎ (k ≤ floor q)

  -- Freedom from deadlock, for parties that wait for locks in the order of n ranks, and for parties that they have started
  abbrev pub NoDeadlockOfJoins : ℕ → Type 0
  NoDeadlockOfJoins n =
      (floor depth : ℕ → ℕ) → AwaitInOrder floor depth
      → WaitInOrder lock waits → HaveTheirOwn lock waits → ((k : ℕ) → IsExclusive (lock k)) → ((p : ℕ) (w : Wait) → waits p ≡ Some w → w.at < n)
      → ((p : ℕ) (w : Wait) → IsKeptOut lock waits p w → (q : ℕ) × IsNear floor w.at q × GoesOn q)
      × ((p c : ℕ) → Has (awaits p) c → (q : ℕ) × IsNear floor (floor c) q × GoesOn q)

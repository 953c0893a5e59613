-- What a party at a barrier has and knows.
use Rattle.std.specs.Prelude.{◌≡◌, ◌<◌, ◌+◌, ℕ, Bool, List, length}
use Rattle.spin_history.specs.declared.history.Snapshot.{Snapshot}
use Rattle.spin_barrier.specs.declared.roll.Party.{Party}
use Rattle.spin_barrier.specs.declared.roll.Known.{Known}
use Rattle.spin_barrier.specs.Gathered.{Waited, Told}

module _ {N L : Type 0} where
  -- how often the party has arrived, and has led
  abbrev pub came_by : Party N L → ℕ
  came_by p = p.came.amount

  abbrev pub led_by : Party N L → ℕ
  led_by p = p.led.amount

  -- the party has more than n parts of both ledgers
  abbrev pub HasMore : Party N L → ℕ → Type 0
  HasMore p n = (n < p.came.parts) × (n < p.led.parts)

  abbrev pub HasParts : Party N L → ℕ → ℕ → Type 0
  HasParts p came led = (p.came.parts ≡ came) × (p.led.parts ≡ led)

  abbrev pub HasCounts : Party N L → ℕ → ℕ → Type 0
  HasCounts p came led = (came_by p ≡ came) × (led_by p ≡ led)

  abbrev pub KeepsParts : Party N L → Party N L → Type 0
  KeepsParts p q = HasParts q p.came.parts p.led.parts

  -- r has the parts and the counts of p and of q
  abbrev pub AddsUp : (p q r : Party N L) → Type 0
  AddsUp p q r = HasParts r (p.came.parts + q.came.parts) (p.led.parts + q.led.parts) × HasCounts r (came_by p + came_by q) (led_by p + led_by q)

module _ {H V G : Type 0} where
  abbrev pub arrivals_of : Known H V G → List (Snapshot V G)
  arrivals_of known = known.arrivals.entries

  abbrev pub told_of : Known H V G → List V
  told_of known = known.told.entries

  -- one of the arrivals told as much as this
  abbrev pub HasTold : Known H V G → Snapshot V G → Type 0
  HasTold known told = Told (λ one. length one.entries) (length told.entries) (arrivals_of known)

  -- `Waited`, of a party by what it knew and knows
  abbrev pub HasWaited : ℕ → Known H V G → Bool → Known H V G → Type 0
  HasWaited n old led new = Waited n (arrivals_of old) old.told led (arrivals_of new)

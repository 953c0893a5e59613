-- Parties stand in a line for each lock: the first has the lock, or may have it at once, and each other one waits for it.
use Rattle.std.specs.Prelude.{◌≡◌, ℕ, suc, ◌<◌, ◌≤◌, ◌⊎◌, Some, List, slice_get}

abbrev pub RankBelow : {X : Type 0} → ℕ → (X → ℕ) → Type 0
RankBelow {X} ranks rank = (x : X) → rank x < ranks

-- the line for each lock at each time
module _ {X : Type 0} (line : ℕ → X → List ℕ) where
  abbrev pub IsAt : ℕ → X → ℕ → ℕ → Type 0
  IsAt t x i p = slice_get (line t x) i ≡ Some p

  abbrev pub IsFirst : ℕ → X → ℕ → Type 0
  IsFirst t x p = IsAt t x 0 p

  -- from now on, the party is first at some time
  abbrev pub IsFirstLater : ℕ → X → ℕ → Type 0
  IsFirstLater t x p = (u : ℕ) × (t ≤ u) × IsFirst u x p

  -- whoever is first for one lock and waits for another waits for one of a higher rank
  abbrev pub LinesAreInOrder : (X → ℕ) → Type 0
  LinesAreInOrder rank = (t : ℕ) (x y : X) (p i : ℕ) → IsFirst t x p → IsAt t y (suc i) p → rank x < rank y

  -- At each time, all keep their places, or the first leaves and each other one moves up. So whoever comes stands behind them.
  abbrev pub ServeInOrder : Type 0
  ServeInOrder = (t : ℕ) (x : X) → ((i p : ℕ) → IsAt t x i p → IsAt (suc t) x i p) ⊎ ((i p : ℕ) → IsAt t x (suc i) p → IsAt (suc t) x i p)

  -- from now on, each wait of the party while it is first for x ends
  abbrev pub WaitsEnd : ℕ → X → ℕ → Type 0
  WaitsEnd t x p = (u : ℕ) (y : X) (i : ℕ) → t ≤ u → IsFirst u x p → IsAt u y (suc i) p → IsFirstLater u y p

  -- whoever is first leaves at some time, if each of its waits for other locks meanwhile ends
  abbrev pub SectionsEnd : Type 0
  SectionsEnd = (t : ℕ) (x : X) (p : ℕ) → IsFirst t x p → WaitsEnd t x p → (u : ℕ) × (t ≤ u) × (IsFirst u x p → ⊥)

  -- whoever stands in a line is first in it at some time
  abbrev pub NobodyStarves : Type 0
  NobodyStarves = (t : ℕ) (x : X) (i p : ℕ) → IsAt t x i p → IsFirstLater t x p

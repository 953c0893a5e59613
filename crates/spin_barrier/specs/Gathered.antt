-- A barrier whose arrivals are kept: the numbers and lists that its tokens speak of.
use Rattle.std.specs.Prelude.{◌≡◌, ◌≤◌, ℕ, ◌+◌, ◌-◌, ◌*◌, ◌/◌, ◌%◌, ◌==◌, Bool, max, List, [], ◌∷◌, ◌++◌, length, ⊤, if◌then◌else◌}
use mathlib.Core.HLevel.{×_prop, Unit-prop}
use Rattle.std.proofs.Math.Bridge.{le_prop}
use Rattle.spin_step.specs.Plain.{Plain, nothing}

-- the plain barrier with groups of n at which k threads have arrived
abbrev pub gathered : ℕ → ℕ → Plain
gathered n k = record { cap = 0; group = n; holders = []; tickets = []; next = 0; starvers = []; phase = nothing; arrivals = k }

-- how many groups of n are full after k arrivals
abbrev pub groups : ℕ → ℕ → ℕ
groups n k = k / max n 1

-- the k-th arrival leads its group of n, since it fills it
abbrev pub leads : ℕ → ℕ → Bool
leads n k = (k % max n 1) == 0

-- which arrival fills the group of the k-th arrival
abbrev pub fills : ℕ → ℕ → ℕ
fills n k = ((k - 1) / max n 1 + 1) * max n 1

-- one if it is true
abbrev pub one_if : Bool → ℕ
one_if b = if b then 1 else 0

-- each entry's size is at most b
abbrev pub AllWithin : {X : Type 0} → (X → ℕ) → List X → ℕ → Type 0
AllWithin size [] b = ⊤
AllWithin size (x ∷ l) b = (size x ≤ b) × AllWithin size l b

pub AllWithin-prop : {X : Type 0} (size : X → ℕ) (l : List X) (b : ℕ) → IsProp (AllWithin size l b)
AllWithin-prop size [] b = Unit-prop
AllWithin-prop size (x ∷ l) b = ×_prop le_prop (AllWithin-prop size l b)

-- a party that had seen the arrivals `seen` arrived and told `mine`; the arrivals so far are then those of `now`
abbrev pub Arrived : {X : Type 0} → List X → X → List X → Type 0
Arrived {X} seen mine now = (before : List X) × ((length seen ≤ length before) × (now ≡ before ++ mine ∷ []))

-- A party that had seen the arrivals `seen` waited in groups of n and told `mine`. Before its own arrival there were those
-- of `before`. It leads exactly if its arrival fills its group. When it leaves it has seen the arrivals `now`, which fill
-- its group.
abbrev pub Waited : {X : Type 0} → ℕ → List X → X → Bool → List X → Type 0
Waited {X} n seen mine led now = (before after : List X) × ((length seen ≤ length before) × ((now ≡ before ++ mine ∷ after) × ((led ≡ leads n (length before + 1)) × (fills n (length before + 1) ≤ length now))))

-- one of the entries has at least this size
abbrev pub Told : {X : Type 0} → (X → ℕ) → ℕ → List X → Type 0
Told {X} size b l = (before after : List X) × (x : X) × ((l ≡ before ++ x ∷ after) × (b ≤ size x))

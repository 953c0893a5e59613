-- The operations on words: a step of a call is one operation on one word, as a processor makes it.
use Rattle.std.specs.Prelude.{◌≡◌, ℕ, ◌+◌, ◌-◌, ◌%◌, ◌^◌, ◌==◌, Bool, true, false, Option, Some, is_some, if◌then◌else◌, get_or, slice_set}
use Rattle.std.specs.List.{list_all}
use Rattle.spin_step.specs.declared.place.Hold.{Hold}
use Rattle.spin_step.specs.declared.stepped.Next.{Next}
use Rattle.spin_step.specs.declared.table.Operation.{Operation}
use Rattle.spin_step.specs.declared.table.Operation.TheVariants as op
use Rattle.spin_step.specs.StepKinds.{is_look}
use Rattle.spin_step.specs.Plain.{Change}
use Rattle.spin_step.specs.Calls.{AnyOf, Said, is_step_of, own_steps}
use Rattle.spin_step.specs.Machines.{Machine}

-- the number after the operation
abbrev pub performed : Operation → ℕ → ℕ
performed op.Load n = n
performed (op.Exchange from to) n = if n == from then to else n
performed (op.Add k) n = n + k
performed (op.Subtract k) n = n - k
performed op.SetLowestBit n = if n % 2 == 0 then n + 1 else n
performed (op.Store k) n = k

-- the operation as a processor makes it: a number that it stores is taken modulo 2^64
abbrev pub wrapped : Operation → Operation
wrapped (op.Store k) = op.Store (k % 2 ^ 64)
wrapped operation = operation

-- Whenever the step is possible, it makes this operation on the i-th word, and leaves the other words as they are. Its
-- outcome depends only on the number that it finds.
pub record Performs {W V C L A : Type 0} (m : Machine W V C L A) (c : C) (l : L) (h : Option Hold) (i : ℕ) (operation : Operation) : Type 0 where
  pub words : (w : W) (v : Option V) → m.can w c l h ≡ true → m.numbers (m.step w v c l h).words ≡ slice_set (m.numbers w) i (performed operation (get_or (m.numbers w) i 0))
  pub next : (w u : W) (v : Option V) → m.can w c l h ≡ true → m.can u c l h ≡ true → get_or (m.numbers w) i 0 ≡ get_or (m.numbers u) i 0 → (m.step w v c l h).next ≡ (m.step u v c l h).next
  pub placed : (w u : W) (v : Option V) → (m.step w v c l h).placed ≡ (m.step u v c l h).placed

-- a step is one operation, unless each step of this kind of lock is a critical section under a lock of its own
abbrev pub IsOneOperation : {W V C L A : Type 0} → Bool → Machine W V C L A → C → L → Option Hold → Type 0
IsOneOperation true m c l h = Unit {0}
IsOneOperation false m c l h = (i : ℕ) × (operation : Operation) × Performs m c l h i operation

-- Only an exchange fails spuriously. The call then goes on as if the exchange had found another number. An exchange
-- that finds the number that it expects makes a plain step.
abbrev pub RefusesAsLost : {W V C L A : Type 0} → Machine W V C L A → C → L → Option Hold → Next L A → Type 0
RefusesAsLost {W} {V} m c l h next =
    (i from to : ℕ) × Performs m c l h i (op.Exchange from to) × ((w : W) (v : Option V) → (get_or (m.numbers w) i 0 == from) ≡ false → (m.step w v c l h).next ≡ next)
    × ((p : ℕ) (w : W) → (get_or (m.numbers w) i 0 == from) ≡ true → is_some (m.change p w c l h) ≡ true)

-- what holds of an object's calls and steps in every schedule
pub record Stepwise {W V C L A : Type 0} (m : Machine W V C L A) : Type 0 where
  -- what the call asks is in the list `calls` of its kind of lock
  pub calls : (c : C) (h : Option Hold) → (n : ℕ) × AnyOf (λ what. m.asks c h ≡ what) (m.lock_kind.calls n h)
  -- the call begins exactly if its party holds what the call needs
  pub begins : (c : C) (h : Option Hold) → is_some (m.begin c h) ≡ (m.asks c h).begins h
  -- a call that begins makes only plain steps of its kind of lock
  pub fits : (c : C) (h : Option Hold) (said : Said) (p : ℕ) → (m.asks c h).begins h ≡ true
      → list_all (list_all (is_step_of m.lock_kind)) (own_steps ((m.asks c h).answers said) p) ≡ true
  -- if a call gets something by weak exchanges only (`gets_weakly`), each step that gets it may fail spuriously
  pub weak : (p : ℕ) (c : C) (l : L) (h : Option Hold) (w : W) (d : Change) → m.change p w c l h ≡ Some d → (m.asks c h).gets_weakly d ≡ true → is_some (m.refuse c l h) ≡ true
  pub operates : (c : C) (l : L) (h : Option Hold) → IsOneOperation m.lock_kind.steps_in_sections m c l h
  pub refuses : (c : C) (l : L) (h : Option Hold) (next : Next L A) → m.refuse c l h ≡ Some next → RefusesAsLost m c l h next
  -- a look changes no word
  pub looks : (c : C) (l : L) (h : Option Hold) → is_look (m.step_kind c l h) ≡ true → (w : W) (v : Option V) → (m.step w v c l h).words ≡ w

-- A lock over the cell whose word is that of a plain lock. Begin with `Lock`.
use Rattle.std.proofs.Common.{◌≡◌, ℕ, ◌≤◌, List, [], Some, None, refl, ap}
use Rattle.spin_step.specs.Plain.{Plain, fresh, ticket_limit}
use Rattle.spin_step.specs.Parties.{no_entries}
use Rattle.spin_core.specs.Cell.{Use, Way, Ways, no_fact, Limits, Going, MeetsRule, Rests, readers_of, writers_of, off}
use Rattle.spin_core.specs.Views.{Part, idle as nothing, entries_of_part, IsLockOf, Encodes, NamesNobody}
use Rattle.spin_step.specs.Orders.{IsInOrder}
use Rattle.spin_core.proofs.tie.Leaving.{leaves}
use Rattle.spin_step.proofs.InOrder.{in_order-fresh}

-- What each view is in the plain lock, and how it uses the value; which view has nothing; and what the words are. Parties use the value
-- together only within the limits.
pub record Lock (V S : Type 0) : Type 1 where
  pub part : V → Part
  pub uses : V → Use
  pub idle : V
  pub is_idle : (part idle ≡ nothing) × (uses idle ≡ off)
  pub way : Way (Unit {0})  -- of a value of any type: here one of the unit type stands for it
  pub goes : (u v : Use) (readers : ℕ) (A : Type 0) → A → Going way u v None readers A
  pub cap : ℕ
  pub first : Plain → ℕ
  pub second : Plain → S
  pub fits : (vs : List V) (s : Plain) → s.cap ≡ cap → IsInOrder s → IsLockOf part vs s → Limits way (readers_of uses vs) (writers_of uses vs)
  pub names_nobody : NamesNobody first × NamesNobody second

module _ {V S : Type 0} (lock : Lock V S) where
  open lock use {part, uses, idle, way, cap, first, second}

  abbrev pub Holds : ℕ → S → List V → Type 0
  Holds = Encodes part cap first second

  abbrev pub ways : Ways (Unit {0}) V S
  ways = (way, uses, no_fact)

  -- a lock that nobody has used yet
  pub begins : (group ticket n : ℕ) (m : S) → ticket ≤ ticket_limit → n ≡ first (fresh cap group ticket) → m ≡ second (fresh cap group ticket) → MeetsRule Holds ways n m []
  begins group ticket n m within e f =
      let s = fresh cap group ticket in let order = in_order-fresh cap group ticket within in let nobody : IsLockOf part [] s = λ p. (refl, tt) in
      ((s, refl, order, nobody, e, f), lock.fits [] s refl order nobody)

  -- a party that has nothing may leave
  rests : (v : V) → uses v ≡ off → ((p : ℕ) → entries_of_part p (part v) ≡ no_entries) → Rests Holds uses (Some v)
  rests v = leaves part v uses cap first second lock.names_nobody.0 lock.names_nobody.1

  pub idle_rests : (v : V) → v ≡ idle → Rests Holds uses (Some v)
  idle_rests v is = rw is (rests idle lock.is_idle.1 (λ p. ap (entries_of_part p) lock.is_idle.0))

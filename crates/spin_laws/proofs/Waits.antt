-- Along a chain of waits the ranks rise.
use Rattle.std.proofs.Common.{◌≡◌, ℕ, ◌<◌, Option, Some, List, [], ◌∷◌, arith}
use Rattle.spin_laws.specs.Waits.{Leads, HaveNoCycle, AreInOrder}

module _ {X : Type 0} (rank : X → ℕ) (holds : ℕ → List X) (waits : ℕ → Option X) (orders : AreInOrder holds waits rank) where
  abbrev Rises : ℕ → X → Type 0
  Rises p y = (x : X) × (waits p ≡ Some x) × (rank x < rank y)

  rises : (p : ℕ) (rs : List ℕ) (q : ℕ) → Leads holds waits p rs q → (y : X) → waits q ≡ Some y → Rises p y
  rises p [] q leads y is = (leads.0, leads.1, orders q y leads.0 is leads.2)
  rises p (r ∷ rs) q leads y is =
      let w = leads.0 in
      let far : Rises r y = rises r rs q leads.1 y is in
      (w.0, w.1, omega (arith, orders r far.0 w.0 far.1 w.2, far.2))

  waits_at : (p : ℕ) (rs : List ℕ) (q : ℕ) → Leads holds waits p rs q → (x : X) × (waits p ≡ Some x)
  waits_at p [] q leads = (leads.0, leads.1)
  waits_at p (r ∷ rs) q leads = (leads.0.0, leads.0.1)

  pub no_cycle : HaveNoCycle holds waits
  no_cycle p rs leads =
      let at = waits_at p rs p leads in
      let far : Rises p at.0 = rises p rs p leads at.0 at.1 in
      absurd (grind (arith, at.1, far.1, far.2))

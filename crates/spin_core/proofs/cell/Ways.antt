-- What a step must show besides the rule, part by part.
use Rattle.std.proofs.Common.{ℕ, ◌<◌, List, Option, refl, arith}
use Rattle.spin_core.specs.Cell.{Use, Way, fixes, Ways, Going, Frees, Limits, Fixed, Starts, Knowledge, no_fact, knows, IsKnown, Knowing, Freeing, Carries, Owed, Carrying, Learns}
use Rattle.spin_core.specs.Traced.{Learnt}
use Rattle.spin_core.specs.declared.trace.Trace.{Trace}

module _ {X : Type 0} where
  pub going_rest : (way : Way X) (u v : Use) (shown : Option X) (r : ℕ) {A : Type 0} → Going way u v shown r A → A
  going_rest way u v shown r going = grind arith

  pub going_map : (way : Way X) (u v : Use) (shown : Option X) (r : ℕ) {A B : Type 0} → (A → B) → Going way u v shown r A → Going way u v shown r B
  going_map (fixes fact) u v shown r f going = (going.0, going.1, f going.2)
  going_map _ u v shown r f going = f going

  -- ---- the known fact of a value, beside another statement A
  module _ {S : Type 0} where
    pub knowing_at : (k : Knowledge S X) (m : S) (x : X) {A : Type 0} → IsKnown k m x → A → Knowing k m 0 x A
    knowing_at k m x known a = grind arith

    pub knowing_known : (k : Knowledge S X) (m : S) (x : X) (A : Type 0) → Knowing k m 0 x A → IsKnown k m x
    knowing_known k m x A known = grind arith

    pub knowing_rest : (k : Knowledge S X) (m : S) (w : ℕ) (x : X) {A : Type 0} → Knowing k m w x A → A
    knowing_rest k m w x known = grind arith

    -- if somebody writes, A alone is enough
    pub knowing_none : (k : Knowledge S X) (m : S) (w : ℕ) (x : X) {A : Type 0} → 0 < w → A → Knowing k m w x A
    knowing_none k m w x some a = grind arith

    pub carrying_of : (k : Knowledge S X) (m m' : S) (u v : Use) (shown : Option X) {A : Type 0} → Owed k m m' u v shown → A → Carrying k m m' u v shown A
    carrying_of k m m' u v shown owed a = grind arith

    pub carrying_rest : (k : Knowledge S X) (m m' : S) (u v : Use) (shown : Option X) {A : Type 0} → Carrying k m m' u v shown A → A
    carrying_rest k m m' u v shown owed = grind arith

    pub carrying_carries : (k : Knowledge S X) (m m' : S) (u v : Use) (shown : Option X) (A : Type 0) → Carrying k m m' u v shown A → Carries (IsKnown k m) (IsKnown k m') u v shown
    carrying_carries k m m' u v shown A owed = grind arith

  -- what a party learns of a trace t, it learns of the entries of t
  pub learnt_of : {E S : Type 0} (k : Knowledge (Trace E S) X) (t : Trace E S) (u v : Use) (before after : Option X) → Learns (IsKnown k t) u v before after → Learnt k u v before after t.entries
  learnt_of no_fact t u v before after learns = tt
  learnt_of (knows φ) t u v before after learns = (t, refl, learns)

  pub restarts : {V S : Type 0} (holds : ℕ → S → List V → Type 0) (ways : Ways X V S) (n : ℕ) (m : S) (x y : X)
      → Freeing ways.2 (Frees ways.0) → Starts holds ways n m x → Starts holds ways n m y
  restarts holds ways n m x y frees starts = (starts.0, starts.1, grind arith)

  -- while somebody writes, nothing is known of the value
  pub unknown : (way : Way X) (r w : ℕ) (x : X) → Limits way r w → 0 < w → Fixed way r w x
  unknown way r w x lim some = grind arith

-- What has to be shown of the barrier's table.
use Rattle.spin_world.proofs.BarrierNames.{◌≡◌, ℕ, ◌+◌, ◌≤◌, ◌==◌, false, ◌&&◌, is_some, Option, Some, None, List, ◌∷◌, refl, arith, Plain, Change, arrives, count_word, generation_word, IsBarrier, is_leading, generation_at, barrier_arrive-words, barrier_count-below, barrier_may_leave-full, Hold, BarrierWords, BarrierPoint, Arrive, Leave, arrivals_after, mark_of, passes, is_arrival, barrier_table, barrier_machine, []}
use Rattle.std.proofs.Math.Bool.{and-false}
use Rattle.spin_step.specs.Parties.{apply_some}
use Rattle.spin_step.specs.StepKinds.{StepKind, look}
use Rattle.spin_step.specs.Calls.{AnyOf, BelongsTo, Mark, follows}
use Rattle.spin_step.specs.Asks.{arrives_leading, finds_full}
use Rattle.spin_world.specs.BarrierKind.{barrier}
use Rattle.spin_step.specs.Steps.{bit}
use Rattle.spin_world_core.proofs.Steps.{Plays}
use Rattle.spin_world_core.proofs.Stands.{absent}
use Rattle.spin_world_core.proofs.Rows.{Point, nowhere, looked, onward}
use Rattle.spin_world_core.proofs.Shapes.{Notes, OwesAll}
use Rattle.spin_world_core.proofs.Filled.{plays_of}
use Rattle.std.specs.List.{list_any}
use Rattle.std.specs.Prelude.{nat_le}
use Rattle.std.proofs.Common.{true}
use Rattle.spin_step.specs.Barriers.{filled_by}
use Rattle.spin_world_core.proofs.Lists.{eqb_self}

abbrev pub point_of : BarrierPoint → Option Hold → Point
point_of Arrive None = looked 0
point_of (Leave g) None = onward (record { stand = absent; made = λ p. arrives p ∷ []; rest = λ p. []; said = follows; spent = 0 })
point_of l (Some h) = nowhere

-- the step m is the party's own arrival, the k-th of all arrivals
abbrev Arrives : ℕ → ℕ → Mark → Type 0
Arrives p k m = (m.party ≡ p) × (m.change ≡ Some (arrives p)) × (m.after.arrivals ≡ k)

-- if the party has arrived without leading, and its group is full at some step, the answer `Follower` is right
follows_right : (p k : ℕ) (all span : List Mark) → AnyOf (λ m. Arrives p k m × (is_leading m.before k ≡ false)) span
    → list_any (λ m. nat_le (filled_by m.before k) m.before.arrivals) all ≡ true
    → list_any (λ m. arrives_leading p false m && list_any (finds_full m) all) span ≡ true
follows_right p k all [] made full = absurd made
follows_right p k all (m ∷ ms) made full = grind (arith, eqb_self p, follows_right p k all ms)

-- What a party that waits knows. It has arrived, its arrival does not lead, and the generation at its arrival was g.
pub record Waits (g p : ℕ) (s : Plain) (span : List Mark) : Type 0 where
  pub come : arrivals_after p span ≤ s.arrivals
  pub found : generation_at s (arrivals_after p span) ≡ g
  pub follows : is_leading s (arrivals_after p span) ≡ false
  pub made : AnyOf (λ m. Arrives p (arrivals_after p span) m × (is_leading m.before (arrivals_after p span) ≡ false)) span

abbrev pub KnowsAt : BarrierPoint → ℕ → Plain → List Mark → Type 0
KnowsAt Arrive p s span = Unit {0}
KnowsAt (Leave g) p s span = Waits g p s span

-- the shape of a barrier with groups of n: no party holds
pub record IsOf (n : ℕ) (s : Plain) : Type 0 where
  pub no_holders : s.holders ≡ []
  pub group : s.group ≡ n

abbrev pub barrier_notes : (n : ℕ) → Notes (barrier_table n)
barrier_notes n = record { Shape = λ s. IsOf n s; point = λ c l h. point_of l h; Knows = λ c l h p s span. KnowsAt l p s span }

-- a step adds one to the number of arrivals exactly if it is an arrival
pub one_more : (s : Plain) (step : Option Change) → BelongsTo barrier step → (apply_some s step).arrivals ≡ s.arrivals + bit (passes is_arrival step)
one_more s step belongs = grind arith

-- a step other than the party's own arrival does not change what the party knows
waits-on : (g p q : ℕ) (s : Plain) (step : Option Change) (r : StepKind) (span : List Mark) → ((q == p) && is_some step) ≡ false → BelongsTo barrier step → Waits g p s span → Waits g p (apply_some s step) (mark_of q step r s ∷ span)
waits-on g p q s step r span none belongs waits =
    let same : arrivals_after p (mark_of q step r s ∷ span) ≡ arrivals_after p span = grind arith in
    grind (arith, waits, same, (rw (← same) at waits.made))

module _ (n : ℕ) where
  pub is_barrier : (s : Plain) (w : BarrierWords) → w.count ∷ w.generation ∷ [] ≡ count_word s ∷ generation_word s ∷ [] → IsOf n s → IsBarrier s n w.count w.generation
  is_barrier s w encodes of = grind arith

  owes : OwesAll (barrier_notes n)
  owes p c Arrive h s w span =
      grind (arith, is_barrier s w, barrier_count-below s n w.count w.generation, barrier_arrive-words s n w.count w.generation, eqb_self p)
  owes p c (Leave g) None s w span = λ at.
      let full = barrier_may_leave-full s (arrivals_after p span) n w.count w.generation g (is_barrier s w at.encodes at.shape) in
      let waits = waits-on g p p s None look span (and-false (p == p)) tt at.knows.1 in
      grind (arith, full, at.knows.1, waits, follows_right p (arrivals_after p span) (mark_of p None look s ∷ span) span at.knows.1.made)
  owes p c (Leave g) (Some h) s w span = tt

  pub barrier_facts : Plays (barrier_machine n) (barrier_notes n)
  barrier_facts = plays_of (record {
    computes = grind arith;
    calls = λ c h. (0, grind arith);
    promises = record { begins = λ c. grind arith; limited = λ c h words. grind arith; tries = λ c h ask. grind arith; sections = λ d. grind arith };
    others = λ p q c l h s step r span ne of may belongs knows.
        let on = λ (g : ℕ). waits-on g p q s step r span (grind arith) belongs in grind (arith, on);
    owes = owes;
    soon = grind arith;
  }) refl

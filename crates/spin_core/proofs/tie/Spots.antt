-- What a step tells a party that knows the lock's history, and what follows from all steps of a call.
use Rattle.std.proofs.Common.{◌≡◌, ◌≤◌, ℕ, true, false, Some, None, List, [], ◌∷◌, length, refl, ◌∙◌}
use Rattle.spin_core.specs.Cell.{Moved}
use Rattle.spin_core.specs.Own.{Tells, what}
use Rattle.spin_core.specs.Passes.{Course, Says, IsOneStep, IsCall, Begins, Waits, Ends, own_mark}
use Rattle.spin_core.specs.Spots.{Spot, Since, IsIn, HasCalled}
use Rattle.spin_core.specs.Traced.{Watches}
use Rattle.spin_core.proofs.tie.Passes as passes
use Rattle.spin_core.proofs.tie.Passes.{Joins}
use Rattle.spin_step.specs.declared.place.Seat.{Seat}
use Rattle.spin_step.specs.declared.schedule.Move.{Move}
use Rattle.spin_step.specs.declared.schedule.Move.TheVariants.{Step}
use Rattle.spin_step.specs.declared.schedule.Outcome.{Outcome}
use Rattle.spin_step.specs.declared.schedule.Outcome.TheVariants.{Answered, GoingOn}
use Rattle.spin_step.specs.Machines.{Machine}
use Rattle.spin_step.specs.Schedules.{Entry}

module _ {K W V C L A X S : Type 0} (model : K → Machine W V C L A) (seat_of : X → Seat C L) (words_of : W → ℕ × S) (p q : Spot K X (Entry C V))
    (same : q.0 ≡ p.0) (knew : own_mark p.1 ≤ length p.2.entries) where
  -- what a step did, by what its play says of it
  pub took : {named : Type 0} → named → (found : ℕ) (says : Says V C A X) (to : ℕ → X) (course : ℕ → Course V C A)
      → ((own : List (Move C V)) (outs : List (Outcome A V)) (n : ℕ) (v : X) → says own outs n v → (v ≡ to n) × course n own outs)
      → Moved (Watches named p.2 q.2 (Tells (model p.0) seat_of words_of says p.1) found) q.1 → Since model (course found) p q × (what q.1 ≡ Some (to found))
  took {named = named} is_named found says to course means moved =
      let told = passes.learnt (model p.0) seat_of words_of says to course means named is_named p.1 q.1 p.2 q.2 found knew moved in
      ((told.made, told.named, same), told.is)

module _ {K W V C L A X : Type 0} (model : K → Machine W V C L A) (p q : Spot K X (Entry C V)) where
  pub weaker : (P Q : Course V C A) → ((own : List (Move C V)) (outs : List (Outcome A V)) → P own outs → Q own outs) → Since model P p q → Since model Q p q
  weaker P Q so (made, named, same) = (passes.weaker (model p.0) p.1 q.1 p.2.entries q.2.entries P Q so made, named, same)

  -- a course, and then another; the later one is in the same lock, and so runs the same model
  pub both : (r : Spot K X (Entry C V)) (P Q R : Course V C A) → Joins V C A P Q R → Since model P p q → Since model Q q r → Since model R p r
  both r P Q R joins first next = let m = model p.0 in let then = rw first.2 at next.0 in
      let made = passes.made_both m p.1 q.1 r.1 p.2.entries q.2.entries r.2.entries P Q R joins first.0 then in
      (made, next.1 ∙ first.1, next.2 ∙ first.2)

-- The steps of a call, one after another.
module _ {K W V C L A X : Type 0} (model : K → Machine W V C L A) (c : C) (p q : Spot K X (Entry C V)) where
  -- a step that begins the call and answers it at once
  pub in_one : (a : A) → Since model (IsOneStep false c (Answered a None)) p q → HasCalled model c a p q
  in_one a = weaker model p q (IsOneStep false c (Answered a None)) (IsCall c a) (passes.whole c a)

  pub comes_in : Since model (IsOneStep false c GoingOn) p q → IsIn model c p q
  comes_in = weaker model p q (IsOneStep false c GoingOn) (Begins c Waits) (λ own outs s. (Step ∷ [], GoingOn ∷ [], s.0, s.1, (1, refl, refl)))

  module _ (r : Spot K X (Entry C V)) (first : IsIn model c p q) where
    pub stays_in : Since model (IsOneStep true c GoingOn) q r → IsIn model c p r
    stays_in = both model p q r (Begins c Waits) (IsOneStep true c GoingOn) (Begins c Waits)
        (passes.begun c Waits (IsOneStep true c GoingOn) Waits (λ own own' outs outs' w s. passes.waits_on own own' outs outs' w (1, s.0, s.1))) first

    pub is_answered : (a : A) → Since model (IsOneStep true c (Answered a None)) q r → HasCalled model c a p r
    is_answered a = both model p q r (Begins c Waits) (IsOneStep true c (Answered a None)) (IsCall c a)
        (passes.begun c Waits (IsOneStep true c (Answered a None)) (Ends a)
        (λ own own' outs outs' w s. passes.waits_out a own own' outs outs' w (0, s.0, s.1))) first

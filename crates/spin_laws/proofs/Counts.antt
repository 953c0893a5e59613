-- The counts of a call: what the model's laws say of a call's steps holds for the call of a pass.
use Rattle.std.proofs.Common.{◌≡◌, ℕ, ◌≤◌, suc, Option, List, [], ◌∷◌, ◌++◌, refl, sym, ap, ◌∙◌, subst, arith}
use Rattle.spin_core.specs.Own.{Numbered}
use Rattle.spin_core.specs.Passes.{IsCall, Made}
use Rattle.spin_step.specs.Calls.{Mark, limit}
use Rattle.spin_step.specs.declared.place.Hold.{Hold}
use Rattle.spin_step.specs.declared.schedule.Move.TheVariants.{Step}
use Rattle.spin_step.specs.Acts.{Table}
use Rattle.spin_step.specs.Machines.{Machine}
use Rattle.spin_step.specs.Schedules.{Entry}
use Rattle.spin_world_core.specs.Runs.{Seen, opening, own_count, failures, changes, EndsWithin, ContinuesWithin}
use Rattle.spin_world_core.specs.Users.{seen_after}
use Rattle.spin_world_core.proofs.Shapes.{Notes}
use Rattle.spin_world_core.proofs.Steps.{played, Plays}
use Rattle.spin_world_core.proofs.Every.{kept}
use Rattle.spin_laws.specs.Counts.{AfterEachStep, KeepsLimits, StepsOfCall}
use Rattle.spin_laws.proofs.Calls.{span_of, one_more, longer, call_of}

module _ {W V C L A B : Type 0} {t : Table W V C L B} {by : Machine W V C L A} {k : Notes t} (facts : Plays by k) where
  abbrev m : Machine W V C L A
  m = played t by

  -- the party's span after the answering step is its span in the history with this step (`is`)
  pub keeps_limits : {X : Type 0} → KeepsLimits m X
  keeps_limits c a view now old new made =
      let call = call_of facts c a view now old new made in
      let it = call.answered in let p = call.pass.party in let h = call.held in let start = opening m call.pass.parties in let timely = (kept facts it.seen p Step it.fine).in_time in
      let is : span_of facts p it.seen ≡ (seen_after m start (it.past ++ (p, Step) ∷ [])).span p = ap (span_of facts p) it.leads ∙ ap (λ (z : Seen W V C L). z.span p) (sym (one_more facts start it.past (p, Step))) in
      record {
        pass = call.pass;
        last = it.past;
        answered = it.past ++ (p, Step) ∷ [];
        answers = refl;
        behind = longer facts old it.past (p, Step) it.known;
        before = it.before;
        more = call.more;
        grown = call.grown;
        moves = call.moves ∙ ap suc (sym it.count ∙ ap (own_count p) is);
        held = h;
        so_far = subst (AfterEachStep (ContinuesWithin (limit m.lock_kind (m.asks c h)) m.lock_kind) p) (ap (λ (z : Seen W V C L). z.span p) it.leads) it.so_far;
        in_time = subst (EndsWithin (limit m.lock_kind (m.asks c h)) m.lock_kind p) is (grind (arith, it.there, it.comes, timely.in_time));
        retries = subst (λ span. failures p span ≤ changes m.lock_kind p span) is (timely.retries p);
      }

  each_so : (P Q : ℕ → List Mark → Type 0) (p : ℕ) → ((step : Mark) (older : List Mark) → step.party ≡ p → P p (step ∷ older) → Q p (step ∷ older)) → (span : List Mark) → AfterEachStep P p span → AfterEachStep Q p span
  each_so P Q p so [] steps = tt
  each_so P Q p so (step ∷ older) steps = (λ its. so step older its (steps.0 its), each_so P Q p so older steps.1)

  -- what follows from the limit for each step of the call
  pub steps_of_call : {X : Type 0} (c : C) (a : A) (view now : Option (Numbered X)) (old new : List (Entry C V)) (P : ℕ → List Mark → Type 0)
      → ((h : Option Hold) (p : ℕ) (step : Mark) (older : List Mark) → step.party ≡ p → ContinuesWithin (limit m.lock_kind (m.asks c h)) m.lock_kind p (step ∷ older) → P p (step ∷ older))
      → Made m view old now new (IsCall c a) → StepsOfCall m now old new P
  steps_of_call c a view now old new P so made =
      let call = call_of facts c a view now old new made in let it = call.answered in let p = call.pass.party in let h = call.held in
      record {
        pass = call.pass;
        last = it.past;
        behind = it.known;
        before = it.before;
        so = subst (AfterEachStep P p) (ap (λ (z : Seen W V C L). z.span p) it.leads) (each_so (ContinuesWithin (limit m.lock_kind (m.asks c h)) m.lock_kind) P p (so h p) (it.seen.span p) it.so_far);
      }

-- A party whose call was granted has a guard.
use Rattle.std.proofs.Common.{◌≡◌, ℕ, true, Option, Some, sym, ap, ◌∙◌, subst}
use Rattle.std.specs.Option.{IfSome}
use Rattle.spin_core.specs.Cell.{writes, use_of}
use Rattle.spin_core.specs.Guard.{Guard, guard_value}
use Rattle.spin_core.specs.Own.{Numbered, what}
use Rattle.spin_core.specs.Passes.{Course, Nothing, WritesSome, IsCall}
use Rattle.spin_core.specs.Spots.{Since, Releases}
use Rattle.spin_core.specs.Values.{IsLast}
use Rattle.spin_core.proofs.tie.Passes as passes
use Rattle.spin_core.specs.declared.tie.Opening.{Opening}
use Rattle.spin_step.specs.Acts.{Table}
use Rattle.spin_step.specs.Schedules.{Entry}
use Rattle.spin_step.specs.declared.answer.Answer.{Answer}
use Rattle.spin_step.specs.declared.answer.Answer.TheVariants.{Granted, Done}
use Rattle.spin_step.specs.declared.place.Hold.{Hold}
use Rattle.spin_step.specs.declared.place.Seat.{Seat}
use Rattle.spin_step.specs.declared.place.Seat.TheVariants.{Holding}
use Rattle.spin_session.proofs.Course.{holder_sits}
use Rattle.spin_session.specs.Meaning.{Meaning, model_at, use_at}
use Rattle.spin_session.specs.Passes.{Grants, Writes, guard_spot}
use Rattle.spin_session.specs.Turns.{Calls, SeatSpot, StandsAt}

-- a party with a hold by which it writes
pub stands_writes : {V C L : Type 0} (s : Meaning C L) (p : SeatSpot V C L) (h : Hold) → use_at s (Holding h) ≡ writes → StandsAt (Some h) p → Writes s p
stands_writes s p h uses stands = (stands.0, stands.1, ap (use_of (use_at s)) (holder_sits (what p.1) h stands.2) ∙ uses)

module _ {W V C L P R S : Type 0} (t : ℕ → V → Table W V C L (Answer V)) (s : Meaning C L) (now : SeatSpot V C L) (value : Option V) (guard : Guard V (Numbered (Seat C L)) (Entry C V) P R (Opening V) S)
    (same : guard_spot guard ≡ now) (last : Some (guard_value guard) ≡ value) where
  pub granted : Writes s now → IfSome value (IsLast now.0 now.2.entries)
      → (call : C) (before : SeatSpot V C L) → Calls t call Granted before now → Grants t s call before guard
  granted knows sees call before calls = let there = subst (Writes s) (sym same) knows in (
    there.2,
    (there.0, there.1),
    subst (λ z. IsLast z.0 z.2.entries (guard_value guard)) (sym same) (subst (λ o. IfSome o (IsLast now.0 now.2.entries)) (sym last) sees),
    subst (Calls t call Granted before) (sym same) calls,
  )

-- A release from `p`: first a load that is no step, and then the release from `q`.
pub released_behind : {W V C L : Type 0} (t : ℕ → V → Table W V C L (Answer V)) (call : C) (x : V) (p q r : SeatSpot V C L) → Since (model_at t) Nothing p q → Releases (model_at t) (λ o. o) call Done x q r → Releases (model_at t) (λ o. o) call Done x p r
released_behind {V = V} {C = C} {L = L} t call x p q r none so =
    let spots : (k : Opening V) → SeatSpot V C L = λ k. (k, q.1, q.2) in
    let at = subst (λ (k : Opening V). Releases (model_at t) (λ o. o) call Done x (spots k) r) none.2 so in
    let course : Course V C (Answer V) = WritesSome (λ y. p.0.told ≡ true → y ≡ x) (IsCall call Done) in
    let made = passes.made_both (model_at t p.0) p.1 q.1 r.1 p.2.entries q.2.entries r.2.entries Nothing course course
    (λ own own' outs outs' nothing so. rw (nothing.0, nothing.1) so) none.0 at.0.0 in
    ((made, at.0.1 ∙ none.1, at.0.2), at.1)

-- What a step of a table tells its party.
use Rattle.std.proofs.Common.{◌≡◌, ◌≤◌, ℕ, false, Option, Some, None, length, sym, ap, ◌∙◌, subst, le_of_eq}
use Rattle.spin_core.specs.Cell.{Moved}
use Rattle.spin_core.specs.Own.{Numbered, what}
use Rattle.spin_core.specs.Passes.{IsOneStep, Nothing, own_mark}
use Rattle.spin_core.specs.Traced.{Watches}
use Rattle.spin_core.specs.declared.trace.Watch.{Watch}
use Rattle.spin_core.proofs.tie.Passes.{Learnt, learnt}
use Rattle.spin_core.proofs.tie.Spots.{took}
use Rattle.spin_core.specs.Spots.{Since}
use Rattle.spin_step.specs.Acts.{Table, machine_of, next_of}
use Rattle.spin_step.specs.Schedules.{Entry, resting}
use Rattle.spin_step.specs.declared.stepped.Next.{Next}
use Rattle.spin_step.specs.declared.answer.Answer.{Answer}
use Rattle.spin_step.specs.declared.place.Hold.{Hold}
use Rattle.spin_step.specs.declared.place.Seat.{Seat}
use Rattle.spin_session.specs.Meaning.{Meaning, Beside, FindsAt, seat_now, seat_after, words_of, model_at, table_at}
use Rattle.spin_session.specs.Turns.{Says, Told, SeatSpot, turn, turn_by, leap, Lands, next_after, course_of, held_now, peeks, outcome_of, has_begun, IsAtPoint}
use Rattle.spin_session.proofs.Course.{held_resting}
use Rattle.spin_session.proofs.Refining.{by_turn}

module _ {W V C L : Type 0} (t : Table W V C L (Answer V)) (s : Meaning C L) (view view' : Option (Numbered (Seat C L))) (before now : Watch (Entry C V)) (knew : own_mark view ≤ length before.entries)
    (c : C) (l : L) (h : Option Hold) (at : IsAtPoint t c l h (what view)) (named : Type 0) (is_named : named) (found : ℕ)
    (moved : Moved (Watches named before now (Told t s (turn_by t s false (Some c) (what view)) view) found) view') where
  abbrev By : Says t s → Option (Numbered (Seat C L)) → Type 0
  By says to = Moved (Watches named before now (Told t s says view) found) to

  moved' : By (turn t s (has_begun (what view)) c l h) view'
  moved' = by_turn t s (what view) c l h at (λ x. By x view' → By (turn t s (has_begun (what view)) c l h) view') (λ y. y) moved

  pub turned : Learnt (machine_of t) view view' before now (seat_after c h (next_of t c l h found)) (IsOneStep (has_begun (what view)) c (outcome_of (next_of t c l h found)))
  turned =
      learnt (machine_of t) (λ x. x) (words_of t) (turn t s (has_begun (what view)) c l h) (λ n. seat_after c h (next_of t c l h n)) (λ n. IsOneStep (has_begun (what view)) c (outcome_of (next_of t c l h n)))
      (λ own outs n v said. said.0) named is_named view view' before now found knew moved'

  -- what holds of the word that the step found
  pub in_bounds : FindsAt s (t.word l) found
  in_bounds = go view' moved'
    where
      go : (to : Option (Numbered (Seat C L))) → By (turn t s (has_begun (what view)) c l h) to → FindsAt s (t.word l) found
      go None made = absurd made
      go (Some v) (same, (log, es, known, grew, (own, outs, mine, mark, none, alike, said))) = said.1

-- The first steps of a call by one operation, which finds this number.
module _ {W V C L : Type 0} (t : ℕ → V → Table W V C L (Answer V)) (s : Meaning C L) (c : ℕ → C) (h : Option Hold) (last : ℕ → Option (L × ℕ)) (p q : SeatSpot V C L) (same : q.0 ≡ p.0) (knew : own_mark p.1 ≤ length p.2.entries)
    (is : seat_now (what p.1) ≡ resting h) (named : Type 0) (is_named : named) (found : ℕ) where
  abbrev says : Option Hold → Says (table_at t p.0) s
  says x = leap (table_at t p.0) s (λ n. Some (c n)) last x

  abbrev Leapt : Option Hold → Option (Numbered (Seat C L)) → Type 0
  Leapt x to = Moved (Watches named p.2 q.2 (Told (table_at t p.0) s (says x) p.1) found) to

  so : Leapt (held_now (seat_now (what p.1))) q.1 → Leapt h q.1
  so moved = subst (λ x. Leapt x q.1) (ap held_now is ∙ held_resting C L h) moved

  abbrev next : ℕ → Next L (Answer V)
  next n = next_after (table_at t p.0) (c n) h (last n)

  pub leapt : Leapt (held_now (seat_now (what p.1))) q.1 → Since (model_at t) (course_of (c found) (next found)) p q × (what q.1 ≡ Some (seat_after (c found) h (next found)))
  leapt moved = took (model_at t) (λ x. x) (words_of (table_at t p.0)) p q same knew is_named found (says h) (λ n. seat_after (c n) h (next n)) (λ n. course_of (c n) (next n)) (λ own outs n v said. (said.0.0.0, said.1)) (so moved)

  pub landed : Leapt (held_now (seat_now (what p.1))) q.1 → (own_mark q.1 ≤ length q.2.entries) × Lands (table_at t p.0) s (c found) h (last found) (seat_now (what q.1))
  landed moved = go q.1 (so moved)
    where
      go : (to : Option (Numbered (Seat C L))) → Leapt h to → (own_mark to ≤ length q.2.entries) × Lands (table_at t p.0) s (c found) h (last found) (seat_now (what to))
      go None made = absurd made
      go (Some v) (kept, (log, es, known, grew, (own, outs, mine, mark, none, alike, said))) = (le_of_eq (mark ∙ ap length (sym grew)), said.0)

-- a load that is no step
module _ {W V C L S : Type 0} (k : Beside S) (t : Table W V C L (Answer V)) (s : Meaning C L) (view : Option (Numbered (Seat C L))) (before now : Watch (Entry C V)) (named : Type 0) (found : ℕ) where
  abbrev Peeked : Option (Numbered (Seat C L)) → Type 0
  Peeked view' = Moved (Watches named before now (Told t s (peeks t s k (seat_now (what view))) view) found) view'

  pub peeked_since : named → own_mark view ≤ length before.entries → (view' : Option (Numbered (Seat C L))) → Peeked view'
      → Learnt (machine_of t) view view' before now (seat_now (what view)) Nothing
  peeked_since is_named knew view' moved =
      learnt (machine_of t) (λ x. x) (words_of t) (peeks t s k (seat_now (what view))) (λ n. seat_now (what view)) (λ n. Nothing)
      (λ own outs n v said. (said.0.0, (said.1, said.2))) named is_named view view' before now found knew moved

-- What the release of a holder tells its party.
use Rattle.std.proofs.Common.{◌≡◌, ◌≤◌, ℕ, true, false, Option, Some, None, length, sym, ap, ◌∙◌, subst}
use Rattle.spin_core.specs.Cell.{Moved}
use Rattle.spin_core.specs.Own.{Numbered, what}
use Rattle.spin_core.specs.Passes.{IsCall, WritesSome, own_mark}
use Rattle.spin_core.specs.Spots.{Releases}
use Rattle.spin_core.specs.Traced.{Watches}
use Rattle.spin_core.specs.Values.{IsLast}
use Rattle.spin_core.proofs.tie.Passes as passes
use Rattle.spin_core.proofs.tie.Spots as spots
use Rattle.spin_core.proofs.tie.Values.{write_leaves, wrote}
use Rattle.spin_step.specs.Acts.{Table}
use Rattle.spin_step.specs.Schedules.{resting}
use Rattle.spin_step.specs.declared.answer.Answer.{Answer}
use Rattle.spin_step.specs.declared.answer.Answer.TheVariants.{Done}
use Rattle.spin_step.specs.declared.place.Hold.{Hold}
use Rattle.spin_step.specs.declared.place.Seat.{Seat}
use Rattle.spin_step.specs.declared.place.Seat.TheVariants.{Holding}
use Rattle.spin_session.specs.Meaning.{Meaning, model_at, words_of, table_at}
use Rattle.spin_session.specs.Turns.{Says, Told, EndsWith, SeatSpot, gives_up, turn_by}

module _ {W V C L : Type 0} (t : ℕ → V → Table W V C L (Answer V)) (s : Meaning C L) (c : C) (h : Hold) (after : Option Hold) (p q : SeatSpot V C L) (is : what p.1 ≡ Some (Holding h)) (ends : EndsWith t c h after p.0) (named : Type 0) (n : ℕ) where
  abbrev Step : (V → Type 0) → Option (Numbered (Seat C L)) → Type 0
  Step Q w = Moved (Watches named p.2 q.2 (Told (table_at t p.0) s (gives_up (table_at t p.0) s Q c (Some (Holding h))) p.1) n) w

  abbrev Moves : Option (Numbered (Seat C L)) → Type 0
  Moves w = Moved (Watches named p.2 q.2 (Told (table_at t p.0) s (turn_by (table_at t p.0) s true (Some c) (what p.1)) p.1) n) w

  as_step : (w : Option (Numbered (Seat C L))) → Moves w → Step (λ y. Unit {0}) w
  as_step w moved = subst (λ o. Moved (Watches named p.2 q.2 (Told (table_at t p.0) s (turn_by (table_at t p.0) s true (Some c) o) p.1) n) w) is moved

  pub seat : (w : Option (Numbered (Seat C L))) → Moves w → what w ≡ Some (resting after)
  seat None moved = absurd moved
  seat (Some w) moved = let (same, (log, es, known, grew, (own, outs, mine, mark, none, alike, (stays, so)))) = as_step (Some w) moved in ap Some (rw (ends n) at stays)

  pub keeps_name : (w : Option (Numbered (Seat C L))) → Moves w → named → q.2.name ≡ p.2.name
  keeps_name None moved so = absurd moved
  keeps_name (Some w) moved so = moved.0 so

  pub knows : (w : Option (Numbered (Seat C L))) → Moves w → own_mark w ≡ length q.2.entries
  knows None moved = absurd moved
  knows (Some w) moved = let (same, (log, es, known, grew, (own, outs, mine, mark, none, alike, so))) = as_step (Some w) moved in mark ∙ ap length (sym grew)

  -- y is the value x, if the trace tells the value
  abbrev IsIt : V → V → Type 0
  IsIt x y = p.0.told ≡ true → y ≡ x

  pub releases : named → q.0 ≡ p.0 → own_mark p.1 ≤ length p.2.entries → (x : V) → IsLast p.0 q.2.entries x → Moves q.1 → Releases (model_at t) (λ o. o) c Done x p q
  releases is_named same knew x last moved =
      let says : Says (table_at t p.0) s = gives_up (table_at t p.0) s (IsIt x) c (Some (Holding h)) in
      let all = spots.took (model_at t) (λ z. z) (words_of (table_at t p.0)) p q same knew is_named n says (λ k. resting after) (λ k. WritesSome (IsIt x) (IsCall c Done))
      (λ own outs k u (stays, (y, so, (rest, comes, is, are, s))). (rw (ends k) at stays, (y, so, (rest, comes, is, are, passes.whole c Done rest comes (rw (ends k) at s)))))
      (exactly q.1 (as_step q.1 moved)) in (all.0, last)
    where
      exactly : (w : Option (Numbered (Seat C L))) → Step (λ y. Unit {0}) w → Step (IsIt x) w
      exactly None made = absurd made
      exactly (Some w) (named, (log, es, known, grew, (own, outs, mine, mark, none, alike, (stays, (y, any, by))))) =
          let so = wrote p.0 log es q.2.entries w.1 own x y grew mine (write_leaves y false c _ own outs by) last in
          (named, (log, es, known, grew, (own, outs, mine, mark, none, alike, (stays, (y, so, by)))))

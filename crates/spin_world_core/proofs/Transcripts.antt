-- A transcript tells the scenes of its schedule. A place agrees with the party's moves and with its entries.
use Rattle.spin_world_core.proofs.Every.{left_after, state-seen_at}
use Rattle.spin_world_core.specs.Users.{seen_at}
use Rattle.spin_world_core.specs.Runs.{Schedule}
use Rattle.spin_world_core.proofs.Names.{cases_eq, moves_at, seat_of, ne_eqb, ◌≡◌, ℕ, ◌==◌, Option, Some, List, [], ◌∷◌, ◌++◌, length, slice_get, if◌then◌else◌, refl, ap, ◌∙◌, arith, option_map, length-replicate, slice_get-map, slice_get_within, slice_get_cases, Seat, Idle, Calling, Leaked, Gone, Move, Event, Machine, opening_plain, State, happens, seen_by_owner, events_of, with_begins, Seen, Scene, scene, KeepsPromises, KeepsAll, StandsFor, opening, seen_after, scenes, EachTells, TellsAfterAnyPast}
use Rattle.spin_step.specs.declared.place.Place.{Place}
use Rattle.spin_step.specs.Schedules.{place_of}
use Rattle.spin_world_core.specs.Transcripts.{has_leaked, PlaceSays, SaysAfterAnyPast, Stage, at_rest, in_call, is_gone, stage_at, stage_by_own, stage_by_owner}
use Rattle.spin_world_core.proofs.Lists.{eqb_self, get-set_other, get-replicate}
use Rattle.spin_step.proofs.Lists.{get-set_within}
use Rattle.spin_world_core.proofs.Schedules.{length-happens}

-- The transcript

module _ {W V C L A : Type 0} (m : Machine W V C L A) where
  tells_from : (seen : Seen W V C L) (es : Schedule C V) (before : List (Event W V A))
      → EachTells (scenes m seen es) (with_begins before (events_of m seen.state es))
  tells_from seen [] before = tt
  tells_from seen (e ∷ es) before =
      let h = happens m seen.state e.0 e.1 in
      let event : Event W V A = record { party = e.0; outcome = h.outcome; words = h.next.words } in
      grind (arith, tells_from (scene m seen e.0 e.1).after es (before ++ event ∷ []))

  pub tells_after : (s : State W V C L) (schedule : Schedule C V) (events : List (Event W V A)) → events ≡ with_begins [] (events_of m s schedule)
      → TellsAfterAnyPast m s schedule events
  tells_after s schedule events is = grind (arith, state-seen_at, tells_from, seen_at)

-- The place

abbrev stage_of : {C L : Type 0} → Option (Seat C L) → Stage
stage_of o = elim o [ Some (Calling c l h) ↦ in_call | Some (Leaked h) ↦ has_leaked | Some (Gone h) ↦ is_gone | _ ↦ at_rest ]

module _ {W V C L A : Type 0} (m : Machine W V C L A) where
  -- after an event, the stage of p's seat is the stage that the event's outcome gives p
  abbrev Brings : ℕ → Scene W V C L A → Type 0
  Brings p sc = let before = stage_of (seat_of sc.before p) in
      stage_of (seat_of sc.after p) ≡ stage_by_owner sc.outcome sc.move (if sc.party == p then stage_by_own sc.outcome before else before)

  module _ (seen : Seen W V C L) (p q : ℕ) where
    abbrev seats : List (Seat C L)
    seats = seen.state.seats

    brought : (move : Move C V) → Brings p (scene m seen q move)
    brought move =
        let map = slice_get-map seen_by_owner seats p in
        grind (arith, cases_eq q p, eqb_self p, ne_eqb q p, get-set_within seats p, slice_get_within seats p, get-set_other seats q p, map)

  stage-seen_after : (seen : Seen W V C L) (p : ℕ) (es : Schedule C V)
      → stage_of (seat_of (seen_after m seen es) p) ≡ stage_at p (stage_of (seat_of seen p)) (scenes m seen es)
  stage-seen_after seen p [] = refl
  stage-seen_after seen p (e ∷ es) = grind (arith, stage-seen_after (scene m seen e.0 e.1).after p es, brought)

  length-seen_after : (seen : Seen W V C L) (es : Schedule C V) → length (seen_after m seen es).state.seats ≡ length seen.state.seats
  length-seen_after seen [] = refl
  length-seen_after seen (e ∷ es) = length-seen_after (scene m seen e.0 e.1).after es ∙ length-happens m seen.state e.0 e.1

  pub says_after : (s : State W V C L) (p : ℕ) → ((n : ℕ) (past : Schedule C V) → KeepsAll m n past) → (told : Option Place)
      → told ≡ option_map place_of (slice_get s.seats p) → SaysAfterAnyPast m s p told
  says_after s p keeps told is = λ n past reached.
      let seen = seen_at m n past in
      let stage = stage-seen_after (opening m n) p past ∙ ap (λ st. stage_at p st (scenes m (opening m n) past))
      (get-replicate (λ (o : Option (Seat C L)). stage_of o ≡ at_rest) Idle n p refl refl) in
      let count = length-seen_after (opening m n) past ∙ length-replicate n Idle in
      let first = λ (q : ℕ). get-replicate (StandsFor {C = C} {L = L} (opening_plain m) q []) Idle n q refl refl in
      let stands = left_after m (λ t. (q : ℕ) → StandsFor t.plain q (t.span q) (seat_of t q)) (KeepsPromises m)
      (λ s kept. kept.places) (opening m n) past (keeps n past).each first p in
      let says : PlaceSays (stage_of (seat_of seen p)) n seen.plain p (seen.span p)
      (option_map place_of (seat_of seen p)) = grind (arith, count, slice_get_cases seen.state.seats p, stands) in
      rw is (rw (stage, state-seen_at m n past, reached) at says)

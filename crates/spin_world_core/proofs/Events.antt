-- The cases of an event: its move is skipped, or is open and has the result of its kind. What holds in each of these
-- cases holds of every event.
use Rattle.spin_world_core.proofs.Names.{seat_of, ◌≡◌, ℕ, Bool, true, false, Option, Some, None, refl, Hold, Seat, Idle, Calling, Holding, Leaked, Next, Move, Begin, Step, Weak, Read, Write, Leak, OwnerGet, OwnerSet, StepKind, plain, weak, Machine, skipped, begun, goes_on, resting, read_by, written_by, may_read, may_write, is_owners, owner_gets, owner_sets, Seen, Scene, scene, scene_at, scene_of, is_open_move, State, Outcome, Change, moves_at, ComesTo, slice_get, slice_get-map, seen_by_owner, arith}
use Rattle.std.specs.Prelude.{◌↔◌}
use Rattle.spin_step.specs.declared.schedule.Outcome.TheVariants as outcome
use Rattle.spin_world_core.specs.Runs.{StepLeaves, is_in_place}
use Rattle.spin_world_core.proofs.Lists.{get-set_other}

-- the seat of a party that holds this, or has leaked it
abbrev pub seat_with : {C L : Type 0} → Bool → Hold → Seat C L
seat_with true h = Holding h
seat_with false h = Leaked h

-- if the move is a step, it changes the value only where a closure completes
abbrev pub LeavesBy : {V C : Type 0} → Move C V → Option Change → Option V → Option V → Type 0
LeavesBy Step step old new = StepLeaves step old new
LeavesBy move step old new = Unit {0}

module _ {W V C L A : Type 0} (m : Machine W V C L A) (seen : Seen W V C L) (p : ℕ) where
  module _ (move : Move C V) (o : Option (Seat C L)) where
    abbrev result : Outcome A V
    result = (moves_at m seen.state p move o).outcome

    abbrev next : State W V C L
    next = (moves_at m seen.state p move o).next

    -- what every move leads to, whatever the machine
    pub record Moved : Type 0 where
      pub skips : (result ≡ outcome.Skipped) ↔ (is_open_move m seen.state move o ≡ false)
      pub unchanged : result ≡ outcome.Skipped → (scene_at m seen p move o).after ≡ seen
      pub in_place : (result ≡ outcome.Skipped → ⊥) → is_in_place m.owned move o ≡ true
      pub reads : (value : Option V) → seen.state.value ≡ value → (r : Option V) → result ≡ outcome.Value r → r ≡ value
      -- a move has the outcome of its kind
      pub comes : (step : Option Change) → LeavesBy move step seen.state.value next.value
          → (result ≡ outcome.Skipped → ⊥) → ComesTo move step seen.state.value next.value result
      -- another party that is in a call stays at its point
      pub calls : (q : ℕ) (c : C) (l : L) (h : Option Hold) → (p ≡ q → ⊥) → seat_of seen q ≡ Some (Calling c l h)
          → slice_get next.seats q ≡ Some (Calling c l h)

    pub moved : Moved
    moved = grind (arith, get-set_other {X = Seat C L}, slice_get-map (seen_by_owner {C = C} {L = L}))

  abbrev pub SitsAt : Option (Seat C L) → Type 0
  SitsAt o = seat_of seen p ≡ o

  -- what has to be shown of an event of the party p, case by case
  module _ (P : Scene W V C L A → Type 0) where
    abbrev pub OfBegin : Type 0
    OfBegin = (c : C) (l : L) (h : Option Hold) → SitsAt (Some (resting h)) → m.begin c h ≡ Some l
        → P (scene_of seen p (Begin c) (Some (resting h)) (begun seen.state p c h (Some l)) None plain None)

    pub record OfEach : Type 0 where
      pub passes : (move : Move C V) (o : Option (Seat C L)) (r : StepKind) → SitsAt o → is_open_move m seen.state move o ≡ false
          → P (scene_of seen p move o (skipped seen.state) None r None)
      pub begins : OfBegin
      pub steps : (c : C) (l : L) (h : Option Hold) → SitsAt (Some (Calling c l h)) → P (scene_at m seen p Step (Some (Calling c l h)))
      pub refuses : (c : C) (l : L) (h : Option Hold) (next : Next L A) → SitsAt (Some (Calling c l h)) → m.refuse c l h ≡ Some next
          → P (scene_of seen p Weak (Some (Calling c l h)) (goes_on seen.state p c h next) None weak None)
      pub reads : (b : Bool) (h : Hold) → SitsAt (Some (seat_with b h)) → may_read h ≡ true
          → P (scene_of seen p Read (Some (seat_with b h)) (read_by seen.state true) None plain None)
      pub writes : (v : V) (b : Bool) (h : Hold) → SitsAt (Some (seat_with b h)) → may_write h ≡ true
          → P (scene_of seen p (Write v) (Some (seat_with b h)) (written_by seen.state v true) None plain None)
      pub leaks : (h : Hold) → SitsAt (Some (Holding h)) → P (scene_at m seen p Leak (Some (Holding h)))
      pub gets : (y : Seat C L) → SitsAt (Some y) → is_owners m seen.state ≡ true
          → P (scene_of seen p OwnerGet (Some y) (owner_gets seen.state true) None plain None)
      pub sets : (v : V) (y : Seat C L) → SitsAt (Some y) → is_owners m seen.state ≡ true
          → P (scene_of seen p (OwnerSet v) (Some y) (owner_sets seen.state v true) None plain None)

  module _ (P : Scene W V C L A → Type 0) (each : OfEach P) where
    at_seat : (move : Move C V) (o : Option (Seat C L)) → SitsAt o → P (scene_at m seen p move o)
    at_seat (Begin c) (Some Idle) there = grind (arith, λ (l : L). each.begins c l None)
    at_seat (Begin c) (Some (Holding h)) there = grind (arith, λ (l : L). each.begins c l (Some h))
    at_seat Read (Some (Holding h)) there = grind (arith, each.reads true h)
    at_seat Read (Some (Leaked h)) there = grind (arith, each.reads false h)
    at_seat (Write v) (Some (Holding h)) there = grind (arith, each.writes v true h)
    at_seat (Write v) (Some (Leaked h)) there = grind (arith, each.writes v false h)
    at_seat move o there = grind arith

    -- if P holds in each case, it holds of every event
    pub of_event : (move : Move C V) → P (scene m seen p move)
    of_event move = at_seat move (seat_of seen p) refl

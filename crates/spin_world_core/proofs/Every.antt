-- Every event of every schedule keeps all that is promised, for any machine that plays a table (`Plays`).
use Rattle.spin_world_core.proofs.Names.{ap}
use Rattle.spin_world_core.specs.Users.{outcome_after}
use Rattle.spin_step.specs.Schedules.{happens}
use Rattle.spin_world_core.proofs.Names.{happens}
use Rattle.spin_world_core.specs.Users.{seen_at}
use Rattle.spin_world_core.specs.Runs.{state_at}
use Rattle.spin_world_core.specs.Runs.{Schedule}
use Rattle.spin_world_core.proofs.Names.{◌≡◌, ℕ, Option, Some, [], ◌∷◌, refl, false, arith, Seat, Idle, Move, Machine, opening_plain, after, Seen, Scene, scene, is_open_move, StandsFor, MaySkip, Every, KeepsPromises, IsRight, IsInTime, opening, KeepsAll, MomentsAll, CountsAll, CanStep, seen_after, Table, Option, seat_of, is_owners, IsOwners, moves_at, true, Holding, Leaked}
use Rattle.spin_world_core.specs.Runs.{MayTouch}
use Rattle.spin_world_core.proofs.Lists.{get-replicate}
use Rattle.spin_world_core.proofs.Steps.{played, Plays}
use Rattle.spin_world_core.proofs.Shapes.{Notes}
pub use Rattle.spin_world_core.proofs.Preserved.{standing, in_call}
use Rattle.spin_world_core.proofs.Paid.{at_step}
use Rattle.spin_world_core.proofs.Events.{of_event, moved}
use Rattle.spin_world_core.proofs.Preserved.{OfParty, Invariant, Kept, Preserved, step_kept, refusal_kept, begun_kept, good_seated, writes_by, owns, good_let_go, owner_writes_kept}
use Rattle.spin_world_core.proofs.Owners.{none_owns}

module _ {W V C L A : Type 0} (m : Machine W V C L A) where
  -- the state of `seen_after` is the state after the schedule
  pub state-seen_after : (seen : Seen W V C L) (es : Schedule C V) → (seen_after m seen es).state ≡ after m seen.state es
  state-seen_after seen [] = refl
  state-seen_after seen (e ∷ es) = state-seen_after (scene m seen e.0 e.1).after es

  pub state-seen_at : (n : ℕ) (past : Schedule C V) → (seen_at m n past).state ≡ state_at m n past
  state-seen_at n past = state-seen_after (opening m n) past

  pub outcome-seen_at : (n : ℕ) (past : Schedule C V) (p : ℕ) (move : Move C V)
      → (happens m (seen_at m n past).state p move).outcome ≡ outcome_after m n past p move
  outcome-seen_at n past p move = ap (λ s. (happens m s p move).outcome) (state-seen_at n past)

  -- what each event of a schedule leaves true is true after the schedule
  module _ (P : Seen W V C L → Type 0) (R : Scene W V C L A → Type 0)
      (leaves : (s : Scene W V C L A) → R s → P s.after) where
    pub left_after : (seen : Seen W V C L) (es : Schedule C V) → Every R m seen es → P seen → P (seen_after m seen es)
    left_after seen [] all here = here
    left_after seen (e ∷ es) all here = left_after (scene m seen e.0 e.1).after es all.1 (leaves _ all.0)

module _ {W V C L A B : Type 0} {t : Table W V C L A} {by : Machine W V C L B} {n : Notes t} (f : Plays by n) where
  abbrev m : Machine W V C L B
  m = played t by

  -- a move that is not open to its party may be skipped
  may_pass : (seen : Seen W V C L) (p : ℕ) (move : Move C V) (o : Option (Seat C L)) → StandsFor seen.plain p (seen.span p) o
      → is_open_move m seen.state move o ≡ false → MaySkip m seen p move o
  may_pass seen p move o stands closed = grind (arith, f.stepwise.begins, none_owns m seen)

  -- the party may use the value
  touches : (seen : Seen W V C L) (p : ℕ) (move : Move C V) (o : Option (Seat C L)) → StandsFor seen.plain p (seen.span p) o
      → (is_owners m seen.state ≡ true → IsOwners seen) → MayTouch seen p (moves_at m seen.state p move o).outcome move
  touches seen p move o stands owners = grind (arith, owners)

  -- what the invariant gives of one event
  pub kept : (seen : Seen W V C L) (p : ℕ) (move : Move C V) → Invariant f seen → Preserved f (scene m seen p move)
  kept seen p move good =
      let s = seen.state in
      let o = seat_of seen p in
      let moves = moved m seen p move o in
      let is = of_event m seen p (Kept f)
      (record {
        passes = λ move o r there closed. (good, grind arith);
        begins = begun_kept f seen p good;
        steps = step_kept f seen p good;
        refuses = λ c l h next there. refusal_kept f seen p good c l h there next;
        reads = λ b h there may. (good, search);
        writes = λ v b h there may.
            (search (good, f.written seen.plain p v good.shape (writes_by f p b h good there may)), search);
        leaks = λ h there.
            let here : OfParty f s.words seen.plain p (seen.span p) (Some (Leaked h)) =
            search (standing f p good there, good.parties p) in
            (good_seated f seen p good (Leaked h) (Holding h) seen.span there (λ q ne. refl) here, search);
        gets = λ y there may. (good_let_go f seen p good s.value seen.written good.phase good.written, search);
        sets = λ v y there may. owner_writes_kept f seen p good v y s.value refl;
      })
      move in
      let stands = λ (q : ℕ). (is.0.parties q).stands in
      let one_list = f.pays.one_list _ is.0.shape in
      let touched = touches seen p move o (good.parties p).stands (owns f seen p good) in
      let passed = may_pass seen p move o (good.parties p).stands in
      let read = moves.reads _ good.written in
      let came = moves.comes _ is.1.leaves in record {
        keeps = search (is, stands, one_list, touched, passed, moves, moves.skips.0, read, came);
        right = is.1.right;
        in_time = search (is.1, λ (q : ℕ). (is.0.parties q).retries);
        good = is.0;
      }

  -- a property of each event from a state with the invariant holds of every event of a schedule
  pub every : (R : Scene W V C L B → Type 0) → ((seen : Seen W V C L) (p : ℕ) (move : Move C V) → Invariant f seen → R (scene m seen p move))
      → (seen : Seen W V C L) (es : Schedule C V) → Invariant f seen → Every R m seen es
  every R each seen [] good = tt
  every R each seen (e ∷ es) good = (each seen e.0 e.1 good, every R each (scene m seen e.0 e.1).after es (kept seen e.0 e.1 good).good)

  pub good_first : (parties : ℕ) → Invariant f (opening m parties)
  good_first parties =
      let each = λ (q : ℕ). get-replicate (OfParty f m.words (opening_plain m) q []) Idle parties q (grind arith) (grind arith) in
      search (arith, f.pays.first, f.pays.shape_first, each)

  pub good_after : (seen : Seen W V C L) (es : Schedule C V) → Invariant f seen → Invariant f (seen_after m seen es)
  good_after seen [] good = good
  good_after seen (e ∷ es) good = good_after (scene m seen e.0 e.1).after es (kept seen e.0 e.1 good).good

  -- The laws
  module _ (parties : ℕ) (es : Schedule C V) where
    pub can_of : CanStep m (state_at m parties es)
    can_of = rw (← state-seen_at m parties es) (λ p c l h at.
        let good = good_after (opening m parties) es (good_first parties) in
        (at_step f _ (in_call f p good at) good.phase).can)

    pub keeps_of : KeepsAll m parties es
    keeps_of =
        let each = every (KeepsPromises m) (λ seen p move good. (kept seen p move good).keeps) (opening m parties) es (good_first parties) in
        search (f.pays.first, f.pays.numbers_tell, each)

    pub moments_of : MomentsAll m parties es
    moments_of = every (IsRight m) (λ seen p move good. (kept seen p move good).right) (opening m parties) es (good_first parties)

    pub counts_of : CountsAll m parties es
    counts_of = every (IsInTime m) (λ seen p move good. (kept seen p move good).in_time) (opening m parties) es (good_first parties)

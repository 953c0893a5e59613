-- Schedules with one more entry.
use Rattle.spin_world_core.specs.Runs.{Schedule}
use Rattle.spin_world_core.proofs.Names.{Seat, ◌≡◌, ℕ, suc, ◌+◌, ◌≤◌, ◌==◌, ◌&&◌, Option, Some, List, [], ◌∷◌, ◌++◌, length, if◌then◌else◌, refl, ap, arith, append_assoc, length-set, slice_get_past, append-nil, length-map, Move, Event, Machine, State, happens, moves_at, after, events_of, with_begins, last_begin, is_begun, seen_by_owner, Seen, scene, seen_after}
use Rattle.spin_step.specs.declared.schedule.Outcome.TheVariants as outcome

pub with_begins-append : {W V A : Type 0} (before xs ys : List (Event W V A))
    → with_begins before (xs ++ ys) ≡ with_begins before xs ++ with_begins (before ++ xs) ys
with_begins-append before [] ys = grind (arith, append-nil)
with_begins-append before (x ∷ xs) ys = grind (arith, with_begins-append (before ++ x ∷ []) xs ys, append_assoc)

-- the last event that begins a call of the party, in two lists of events one after the other
pub last_begin-append : {W V A : Type 0} (p k : ℕ) (found : Option ℕ) (xs ys : List (Event W V A))
    → last_begin p k found (xs ++ ys) ≡ last_begin p (k + length xs) (last_begin p k found xs) ys
last_begin-append p k found [] ys = grind arith
last_begin-append p k found (x ∷ xs) ys = grind (arith, last_begin-append p (k + 1) (if (x.party == p) && is_begun x.outcome then Some k else found) xs ys)

module _ {W V C L A : Type 0} (m : Machine W V C L A) where
  pub events_of-append : (s : State W V C L) (xs ys : Schedule C V) → events_of m s (xs ++ ys) ≡ events_of m s xs ++ events_of m (after m s xs) ys
  events_of-append s [] ys = refl
  events_of-append s (x ∷ xs) ys = grind (arith, events_of-append (happens m s x.0 x.1).next xs ys)

  pub length-events_of : (s : State W V C L) (xs : Schedule C V) → length (events_of m s xs) ≡ length xs
  length-events_of s [] = refl
  length-events_of s (x ∷ xs) = ap suc (length-events_of (happens m s x.0 x.1).next xs)

  pub seen_after-append : (seen : Seen W V C L) (xs ys : Schedule C V) → seen_after m seen (xs ++ ys) ≡ seen_after m (seen_after m seen xs) ys
  seen_after-append seen [] ys = refl
  seen_after-append seen (x ∷ xs) ys = seen_after-append (scene m seen x.0 x.1).after xs ys

  -- each move of a party that does not exist is skipped
  pub stranger : (s : State W V C L) (p : ℕ) (move : Move C V) → length s.seats ≤ p → (happens m s p move).outcome ≡ outcome.Skipped
  stranger s p move past = ap (λ o. (moves_at m s p move o).outcome) (slice_get_past s.seats p past)

  -- no move changes how many parties there are
  pub length-happens : (s : State W V C L) (p : ℕ) (move : Move C V) → length (happens m s p move).next.seats ≡ length s.seats
  length-happens s p move = grind (arith, length-set {A = Seat C L} s.seats p, length-map s.seats (seen_by_owner {C = C} {L = L}))

-- What holds of a lock between any two steps of the threads that use it.
use Rattle.std.specs.Prelude.{◌≡◌, ◌≢◌, ℕ, Bool, true, false, List, Some, slice_get}
use Rattle.std.specs.List.{All, list_all}
use Rattle.spin_step.specs.Parties.{IsExclusive, entries, no_entries}
use Rattle.spin_core.specs.Own.{Numbered}
use Rattle.spin_step.specs.declared.place.Seat.{Seat}
use Rattle.spin_step.specs.declared.schedule.Move.{Move}
use Rattle.spin_step.specs.declared.schedule.Move.TheVariants.{Weak}
use Rattle.spin_step.specs.Calls.{encoded}
use Rattle.spin_step.specs.Machines.{Machine}
use Rattle.spin_step.specs.Schedules.{Entry}
use Rattle.spin_world_core.specs.Runs.{Seen, opening, StandsFor}
use Rattle.spin_world_core.specs.Users.{seen_after}

-- the move is no spurious failure of an exchange
abbrev pub is_sure : {C V : Type 0} → Move C V → Bool
is_sure move = elim move [ Weak ↦ false | _ ↦ true ]

-- no exchange fails spuriously in this history
abbrev pub NoneFailsSpuriously : {C V : Type 0} → List (Entry C V) → Type 0
NoneFailsSpuriously log = list_all (λ e. is_sure e.1) log ≡ true

-- The threads have made the moves `log` on a lock with the model m. Then the lock has these words and these parties, and
-- the fields of this record hold.
pub record Between {W V C L A X S : Type 0} (m : Machine W V C L A) (seat_of : X → Seat C L) (words_of : W → ℕ × S) (log : List (Entry C V)) (words : ℕ × S) (parties : List (Numbered X)) : Type 0 where
  -- how many parties have ever taken a step
  pub came : ℕ
  -- the world to which the moves of `log` lead, with its plain lock
  pub seen : Seen W V C L
  pub led : seen ≡ seen_after m (opening m came) log
  -- the model's words are those that encode the plain lock; the lock has these words
  pub encodes : m.numbers seen.state.words ≡ encoded m.lock_kind seen.plain
  pub words_are : words ≡ words_of seen.state.words
  -- a writer is the only holder, and at most one ticket has entered
  pub exclusive : IsExclusive seen.plain
  -- each party holds and waits in the plain lock as its view says
  pub stand : All (λ v. StandsFor seen.plain v.1 (seen.span v.1) (Some (seat_of v.0))) parties
  -- no two parties have one number
  pub apart : (i j : ℕ) (v w : Numbered X) → slice_get parties i ≡ Some v → slice_get parties j ≡ Some w → v.1 ≡ w.1 → i ≡ j
  -- no exchange of a thread has failed spuriously
  pub sure : NoneFailsSpuriously log
  -- whoever is none of these parties has nothing in the plain lock
  pub others : (p : ℕ) → All (λ v. v.1 ≢ p) parties → entries p seen.plain ≡ no_entries

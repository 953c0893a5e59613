-- What a pass of a lock knows, and what its calls do. A pass in a contract is its spot: the opening of its lock, its party, and all moves in the
-- lock up to the party's last step.
use Rattle.std.specs.Prelude.{◌≡◌, ◌≢◌, ◌≤◌, ℕ, true, Option, length}
use Rattle.spin_core.specs.Guard.{Guard, IsHolder, guard_key, guard_seen, guard_value}
use Rattle.spin_core.specs.Cell.{writes, use_of}
use Rattle.spin_core.specs.Own.{Numbered, what}
use Rattle.spin_core.specs.Passes.{HasNumber, IsCall, WritesSome, own_mark}
use Rattle.spin_core.specs.Spots.{Since}
use Rattle.spin_core.specs.Values.{IsLast}
use Rattle.spin_core.specs.declared.tie.Opening.{Opening}
use Rattle.spin_step.specs.Acts.{Table}
use Rattle.spin_step.specs.Schedules.{Entry}
use Rattle.spin_step.specs.declared.answer.Answer.{Answer}
use Rattle.spin_step.specs.declared.answer.Answer.TheVariants.{Granted, Done}
use Rattle.spin_step.specs.declared.place.Seat.{Seat}
use Rattle.spin_session.specs.Meaning.{Meaning, model_at, use_at, use_of_party}
use Rattle.spin_session.specs.Turns.{SeatSpot, Calls}
pub use Rattle.spin_core.specs.Guard.{Holds, guard_spot}
pub use Rattle.spin_core.specs.Spots.{Learns}
pub use Rattle.spin_session.specs.Turns.{history, lock_of, new_in}

-- the lock's history begins with this value, and tells each value that the lock has; the lock's words open with this number
abbrev pub OpensAt : {V : Type 0} → V → ℕ → Opening V → Type 0
OpensAt x first opening = (opening.value ≡ x) × (opening.told ≡ true) × (opening.start ≡ first)

-- the same of a lock whose words open with 0
abbrev pub OpensWith : {V : Type 0} → V → Opening V → Type 0
OpensWith x = OpensAt x 0

infixr 20 ◌⨾◌
-- what a pass has done from `before` to `now`: first `P`, and then `Q`
abbrev pub ◌⨾◌ : {S : Type 0} → (S → S → Type 0) → (S → S → Type 0) → S → S → Type 0
◌⨾◌ {S = S} P Q before now = (between : S) × P before between × Q between now

module _ {V C L : Type 0} where
  -- what was fixed when the pass's lock was made: the name of its history, its first value, the number with which its words open
  abbrev pub opening_of : SeatSpot V C L → Opening V
  opening_of pass = pass.0

  -- the party of the pass; there is none before its first call
  abbrev pub party : SeatSpot V C L → Option (Numbered (Seat C L))
  party pass = pass.1

  -- The pass at `now` is the one at `before`. It also knows what the pass at `earlier` knows: the longer of the two histories.
  abbrev pub After : SeatSpot V C L → SeatSpot V C L → SeatSpot V C L → Type 0
  After earlier = Learns (history earlier)

  -- the passes are two parties of their lock
  abbrev pub AreTwo : SeatSpot V C L → SeatSpot V C L → Type 0
  AreTwo one other = (p q : ℕ) → HasNumber p (party one) → HasNumber q (party other) → p ≢ q

-- the party writes the value, and knows its lock's trace, at least up to its last step
abbrev pub Writes : {V C L : Type 0} → Meaning C L → SeatSpot V C L → Type 0
Writes s p = (p.0.name ≡ p.2.name) × (own_mark p.1 ≤ length p.2.entries) × (use_of (use_at s) (what p.1) ≡ writes)

-- For the calls of a lock with these tables:
module _ {W V C L : Type 0} (t : ℕ → V → Table W V C L (Answer V)) where
  -- From `before` to `now` the pass has written a value, and has then made this call. If the lock tells its values, the value is x.
  abbrev pub Wrote : C → V → SeatSpot V C L → SeatSpot V C L → Type 0
  Wrote call x before = Since (model_at t) (WritesSome (λ y. before.0.told ≡ true → y ≡ x) (IsCall call Done)) before

  -- from `before` to `now` the pass has written some value, and has then made this call
  abbrev pub WroteSome : C → SeatSpot V C L → SeatSpot V C L → Type 0
  WroteSome call = Since (model_at t) (WritesSome (λ y. Unit {0}) (IsCall call Done))

  -- From `before` to `now` the pass has acquired the lock by this call, and has found this value: the one written last.
  abbrev pub FoundBy : C → V → SeatSpot V C L → SeatSpot V C L → Type 0
  FoundBy call x before now = Calls t call Granted before now × IsLast (opening_of now) (history now) x

  module _ {P R S : Type 0} where
    -- By this call the party at `before` has acquired the guard, whose value is the one written last.
    abbrev pub Grants : Meaning C L → C → SeatSpot V C L → Guard V (Numbered (Seat C L)) (Entry C V) P R (Opening V) S → Type 0
    Grants s call before guard = IsHolder (use_of_party s) guard × Holds guard × IsLast (guard_key guard) (guard_seen guard).entries (guard_value guard)
        × Calls t call Granted before (guard_spot guard)

    -- The party has written the guard's value, so this is the one written last, and has then made this call.
    abbrev pub Unlocks : C → Guard V (Numbered (Seat C L)) (Entry C V) P R (Opening V) S → SeatSpot V C L → Type 0
    Unlocks call guard now = Wrote call (guard_value guard) (guard_spot guard) now × IsLast (guard_key guard) now.2.entries (guard_value guard)

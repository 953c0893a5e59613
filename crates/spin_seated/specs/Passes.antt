-- A pass as contracts see it, and which passes belong to a lock.
use Rattle.std.specs.Prelude.{◌≡◌, ℕ, List, [], ◌∷◌, Option, Some, None, map}
use Rattle.std.specs.List.{range_with_len}
use Rattle.atomic_table.specs.Seated.{TableId}
use Rattle.atomic_table.specs.declared.shared.Seat.{Seat}
use Rattle.spin_seated.specs.declared.history.Known.{Known}
use Rattle.spin_seated.specs.declared.lock.Opening.{Opening}
use Rattle.spin_seated.specs.declared.lock.Answer.{Answer}
use Rattle.spin_seated.specs.declared.lock.SeatedLock.{SeatedLock}
use Rattle.spin_seated.specs.Histories.{PlainObject, newcomer, holds, Made, Met}

abbrev pub no_table : TableId
no_table = record { words = 0; slots = 0; views_name = 0; atom = 0; block = 0; offset = 0; slot_names = [] }

abbrev pub opening_with : (value passes : ℕ) → Opening
opening_with value passes = record { value = value; passes = passes }

-- what a pass knows, of a lock with these calls
abbrev pub KnownOf : Type 0 → Type 0
KnownOf C = Known Opening C Answer

-- a pass: the table of its lock, and what it knows
pub record Seated (C : Type 0) : Type 0 where
  pub table : TableId
  pub known : KnownOf C

module _ {C : Type 0} where
  abbrev pub nobody : KnownOf C
  nobody = newcomer (opening_with 0 0) 0

  abbrev pub first_of_view : List (KnownOf C) → KnownOf C
  first_of_view [] = nobody
  first_of_view (x ∷ xs) = x

  abbrev pub seated_of : Option (Seat ℕ (List (KnownOf C))) → Seated C
  seated_of None = record { table = no_table; known = nobody }
  seated_of (Some s) = record { table = s.table_id; known = first_of_view s.me.0 }

  -- the seat exists, and has exactly one pass
  abbrev pub IsOneSeat : Option (Seat ℕ (List (KnownOf C))) → Type 0
  IsOneSeat None = ⊥
  IsOneSeat (Some s) = s.me ≡ (first_of_view s.me.0 ∷ [], [])

  -- the pass p of this table, before any call
  abbrev pub new_pass : TableId → Opening → ℕ → Seated C
  new_pass table opening p = record { table = table; known = newcomer opening p }

module _ {S C H : Type 0} (m : PlainObject Opening S C Answer H) where
  -- what the pass holds at the end of the history that it knows
  abbrev pub pass_holds : Seated C → H
  pass_holds p = holds m p.known

  -- the pass x made this call and got this answer, and is then y
  abbrev pub PassMade : Seated C → C → Answer → Seated C → Type 0
  PassMade x c a y = Made m x.known c a y.known

  -- the pass x knows, as y, the history that the pass z knows
  abbrev pub PassMet : (x z y : Seated C) → Type 0
  PassMet x z y = Met m x.known z.known.seen y.known

module _ {C A H : Type 0} where
  -- the arguments that `new` opened the lock with
  abbrev pub opening_of : SeatedLock C A H → Opening
  opening_of lock = lock.table.shared.key

  abbrev pub IsPassOf : SeatedLock C A H → Seated C → Type 0
  IsPassOf lock p = (p.table ≡ lock.table.shared.table_id) × (p.known.opening ≡ opening_of lock)

  -- the pass with this number, as `new` returned it
  abbrev pub pass_of : SeatedLock C A H → ℕ → Seated C
  pass_of lock p = new_pass lock.table.shared.table_id (opening_of lock) p

  -- all passes of the lock: one for each number below the count that `new` was given
  abbrev pub all_passes_of : SeatedLock C A H → List (Seated C)
  all_passes_of lock = map (pass_of lock) (range_with_len 0 (opening_of lock).passes)

-- What holds of the state that a schedule leads to, and what the row of a party's point says of the party there.
use Rattle.std.proofs.Common.{arith}
use Rattle.spin_world_core.proofs.Every.{state-seen_at}
use Rattle.spin_world_core.specs.Users.{seen_at}
use Rattle.spin_world_core.specs.Runs.{state_at}
use Rattle.spin_world_core.specs.Runs.{Schedule}
use Rattle.std.proofs.Common.{◌≡◌, ℕ, Bool, true, false, Option, Some, None, List, slice_get, ap, sym, ◌∙◌}
use Rattle.spin_step.specs.Plain.{Plain}
use Rattle.spin_step.specs.Parties.{Entries, entries}
use Rattle.spin_step.specs.declared.place.Hold.{Hold}
use Rattle.spin_step.specs.declared.place.Seat.{Seat}
use Rattle.spin_step.specs.declared.place.Seat.TheVariants.{Calling}
use Rattle.spin_step.specs.Calls.{Mark, encoded}
use Rattle.spin_step.specs.Machines.{Machine}
use Rattle.spin_step.specs.Schedules.{State}
use Rattle.spin_world_core.specs.Runs.{Seen, StandsFor, opening, own, seat_of}
use Rattle.spin_step.specs.Acts.{Table}
use Rattle.spin_world_core.proofs.Steps.{played, Plays}
use Rattle.spin_world_core.proofs.Shapes.{Notes}
use Rattle.spin_world_core.proofs.Stands.{entries_at}
use Rattle.spin_world_core.proofs.Rows.{Row}
use Rattle.spin_world_core.proofs.Shapes.{InCall, KnowsRow, row_of}
use Rattle.spin_world_core.proofs.Preserved.{Invariant, standing, in_call}
use Rattle.spin_world_core.proofs.Every.{good_first, good_after}

-- The row of a point says what the party has there in the plain lock, and which plain steps its call has made.

-- there is a row and it passes the test; `passes_all`: there is no row, or it passes the test
abbrev pub passes_some : (Row → Bool) → Option Row → Bool
passes_some test o = elim o [ None ↦ false | Some row ↦ test row ]

abbrev pub passes_all : (Row → Bool) → Option Row → Bool
passes_all test o = elim o [ None ↦ true | Some row ↦ test row ]

-- If every row with the party's entries and plain steps passes a test, then the row of the party's point passes it.
module _ {W V C L A : Type 0} {t : Table W V C L A} (n : Notes t) (c : C) (l : L) (h : Option Hold) (p : ℕ) (s : Plain) (span : List Mark) where
  pub row_passes : (test : Row → Bool) → ((row : Row) → entries p s ≡ entries_at p row.stand → own p span ≡ row.made p → test row ≡ true) → (o : Option Row)
      → KnowsRow n c l h p s span o → passes_some test o ≡ true
  row_passes test is o knows = grind (arith, is)

  pub row_tells : (test : Entries → Bool) (o : Option Row) → KnowsRow n c l h p s span o → passes_all (λ row. test (entries_at p row.stand)) o ≡ true
      → test (entries p s) ≡ true
  row_tells test o knows is = grind arith

-- the point has a row, and the entries that the row gives the party pass this test
abbrev pub StandsSo : {W V C L A : Type 0} {t : Table W V C L A} → Notes t → (Entries → Bool) → ℕ → C → L → Option Hold → Type 0
StandsSo n test p c l h = passes_some (λ row. test (entries_at p row.stand)) (row_of n c l h) ≡ true

-- The state after the schedule `past`

module _ {W V C L A B : Type 0} {t : Table W V C L A} {by : Machine W V C L B} {n : Notes t} (f : Plays by n) (parties : ℕ) (past : Schedule C V) where
  abbrev m : Machine W V C L B
  m = played t by

  abbrev now : State W V C L
  now = state_at m parties past

  abbrev pub seen : Seen W V C L
  seen = seen_at m parties past

  pub good : Invariant f seen
  good = good_after f (opening m parties) past (good_first f parties)

  pub state_is : seen.state ≡ now
  state_is = state-seen_at m parties past

  pub numbers_are : m.numbers now.words ≡ encoded m.lock_kind seen.plain
  numbers_are = ap (λ (s : State W V C L). m.numbers s.words) (sym state_is) ∙ good.encodes

  pub seat_is : (p : ℕ) (y : Option (Seat C L)) → slice_get now.seats p ≡ y → seat_of seen p ≡ y
  seat_is p y there = ap (λ (s : State W V C L). slice_get s.seats p) state_is ∙ there

  pub stands : (p : ℕ) {y : Seat C L} → slice_get now.seats p ≡ Some y → StandsFor seen.plain p (seen.span p) (Some y)
  stands p {y} there = standing f p good (seat_is p (Some y) there)

  pub calls : (p : ℕ) {c : C} {l : L} {h : Option Hold} → slice_get now.seats p ≡ Some (Calling c l h)
      → InCall n p c l h seen.plain seen.state.words (seen.span p)
  calls p {c} {l} {h} there = in_call f p good (seat_is p (Some (Calling c l h)) there)

  pub calls_so : (test : Entries → Bool) (p : ℕ) {c : C} {l : L} {h : Option Hold} → slice_get now.seats p ≡ Some (Calling c l h)
      → test (entries p seen.plain) ≡ true → StandsSo n test p c l h
  calls_so test p {c} {l} {h} there is =
      row_passes n c l h p _ _ (λ row. test (entries_at p row.stand)) (λ row stand made. ap test (sym stand) ∙ is) _ (calls p there).knows

-- What the word and the seats of a read-write lock are in the plain lock, and what holds of its cell between any two steps.
use Rattle.std.specs.Prelude.{◌≡◌, ◌≢◌, ℕ, Bool, true, false, Option, Some, None, List, map}
use Rattle.spin_step.specs.Plain.{reading, upgradable, asking, writing, rw_word}
use Rattle.spin_step.specs.Acts.{Table}
use Rattle.spin_step.specs.Machines.{Machine}
use Rattle.spin_step.specs.Schedules.{Entry, resting}
use Rattle.spin_step.specs.declared.answer.Answer.{Answer}
use Rattle.spin_step.specs.declared.place.Hold.{Hold}
use Rattle.spin_step.specs.declared.place.Hold.TheVariants as hold
use Rattle.spin_step.specs.declared.place.Seat.{Seat}
use Rattle.spin_step_more.specs.Readers.{reader_limit}
use Rattle.spin_step_more.specs.RwCalls.{rw_table, rw_machine}
use Rattle.spin_step_more.specs.declared.rw_calls.RwCall.{RwCall}
use Rattle.spin_step_more.specs.declared.rw_calls.RwCall.TheVariants.{TryRead, Read, TryUpgradeableRead, UpgradeableRead, Write, Upgrade, Downgrade, DowngradeToUpgradeable}
use Rattle.spin_step_more.specs.declared.rw_calls.RwPoint.{RwPoint}
use Rattle.spin_step_more.specs.declared.rw_calls.RwPoint.TheVariants.{First, Exchange, Asking}
use Rattle.spin_core.specs.Cell.{writes}
use Rattle.spin_core.specs.Views.{Part, idle, holds, Encodes, no_word}
use Rattle.spin_core.specs.Own.{Numbered}
use Rattle.spin_core.specs.declared.tie.Opening.{Opening}
use Rattle.spin_core.specs.declared.trace.Trace.{Trace}
use Rattle.spin_session.specs.Meaning as session
use Rattle.spin_session.specs.Meaning.{Meaning, RunsTable, table_at, use_at}
use Rattle.spin_session.specs.Turns.{EndsWith, Stands}
use Rattle.spin_session.specs.declared.session.Session.{Session}

-- what a party is while its call rests; a reader that has asked to upgrade still reads
abbrev pub part_at : RwCall → RwPoint → Option Hold → Option Part
part_at TryRead (Exchange n) None = Some idle
part_at Read First None = Some idle
part_at Read (Exchange n) None = Some idle
part_at TryUpgradeableRead (Exchange n) None = Some idle
part_at UpgradeableRead First None = Some idle
part_at UpgradeableRead (Exchange n) None = Some idle
part_at Write First None = Some idle
part_at Upgrade Asking (Some hold.Upgradable) = Some (holds asking)
part_at _ l h = None

abbrev pub held_at : Hold → Part
held_at hold.Read = holds reading
held_at hold.Upgradable = holds upgradable
held_at hold.Write = holds writing
held_at _ = idle

abbrev pub rw_meaning : Meaning RwCall RwPoint
rw_meaning = record { cap = reader_limit; word = rw_word; second = λ s. 0; bounds = λ n. Unit {0}; shares = true; part = part_at; held = held_at }

-- what a party is to the lock: where it is in a call, or what it holds
abbrev pub View : Type 0
View = Seat RwCall RwPoint

abbrev pub part : View → Part
part = session.part_of rw_meaning

-- where a party sits in the model
abbrev pub seat_of : View → Seat RwCall RwPoint
seat_of v = v

-- the lock's two words for this word of the model; the second word is empty
abbrev pub words_of : ℕ → ℕ × Unit {0}
words_of n = (n, tt)

abbrev pub Word : ℕ → Unit {0} → List View → Type 0
Word = Encodes part reader_limit rw_word no_word

-- the views of the parties
abbrev pub views : List (Numbered View) → List View
views vs = map (λ v. v.0) vs

-- The kinds of readers

-- the call by which a party comes to hold so: the one that waits (`true`), or the one that tries
abbrev pub call_of : Hold → Bool → RwCall
call_of hold.Upgradable true = UpgradeableRead
call_of hold.Upgradable false = TryUpgradeableRead
call_of _ true = Read
call_of _ false = TryRead

-- the call by which a writer becomes such a reader
abbrev pub downgrade_to : Hold → RwCall
downgrade_to hold.Upgradable = DowngradeToUpgradeable
downgrade_to _ = Downgrade

-- a reader holds so
abbrev pub Comes : Hold → Type 0
Comes hold.Read = Unit {0}
Comes hold.Upgradable = Unit {0}
Comes _ = ⊥

-- For a lock of values of type T

abbrev pub Done : Type 0 → Type 0
Done T = Entry RwCall T

module _ {T : Type 0} where
  -- the lock's table for each number with which the word opens; it opens with 0
  abbrev pub rw_tables : ℕ → T → Table ℕ T RwCall RwPoint (Answer T)
  rw_tables start v = rw_table v reader_limit

  -- the model of a lock that opens with this value
  abbrev pub model : T → Machine ℕ T RwCall RwPoint (Answer T)
  model v = rw_machine v reader_limit

  -- what holds of the first word, the trace and the parties of a lock with this opening
  abbrev pub IsRw : Opening T → ℕ → Trace (Done T) (Unit {0}) → List (Numbered View) → Type 0
  IsRw = RunsTable rw_tables rw_meaning

  -- the writer may make this call, by which it stops writing, and then holds `after`
  abbrev pub MayLeave : RwCall → Option Hold → Opening T → Type 0
  MayLeave c after key = (((table_at rw_tables key).asks c (Some hold.Write)).begins (Some hold.Write) ≡ true) × EndsWith rw_tables c hold.Write after key × (use_at rw_meaning (resting after) ≢ writes)

  -- the party reads in this way: it holds so, knows the history up to its last step, and sees a value
  abbrev pub IsLent : {P S : Type 0} → Hold → Session T (Numbered View) (Done T) P (Opening T) S → Type 0
  IsLent h it = Stands (Some h) it × (it.permit.value ≢ None)

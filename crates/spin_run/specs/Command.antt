-- What the words of a command line ask for, what the program writes, and why it stops.
use Rattle.std.specs.Prelude.{◌≡◌, ℕ, ◌*◌, ◌≤◌, ◌++◌, ◌⊎◌, List, [], ◌∷◌, Bool, true, false, Option, codes, decimal}
use Rattle.std.specs.Io.KnownBytes.{Appends}
use Rattle.spin_text.specs.Numbers.{IsNumber}
use Rattle.spin_text.specs.Ends.{AppendsBeginning}
use Rattle.spin_text.specs.Texts.{Streams, Plays, Stops as WorldStops}
use Rattle.spin_text.specs.declared.text.RunError.TheVariants as errors
use Rattle.spin_run.specs.declared.faults.Fault.{Fault}
use Rattle.spin_run.specs.declared.faults.Fault.TheVariants.{Usage, Refused, Memory, Read, BadLine, Write}

-- the words are `count WORKERS TIMES`, with numbers within the limits of the program
abbrev pub AsksCount : List (List ℕ) → ℕ → ℕ → Type 0
AsksCount words workers times =
    (first : List ℕ) × (second : List ℕ) × (words ≡ codes "count" ∷ first ∷ second ∷ [])
    × IsNumber first workers × (workers ≤ 64) × IsNumber second times × (times ≤ 1000000)

abbrev pub AsksSomeCount : List (List ℕ) → Type 0
AsksSomeCount words = (workers : ℕ) × (times : ℕ) × AsksCount words workers times

-- the only word is `world`
abbrev pub AsksWorld : List (List ℕ) → Type 0
AsksWorld words = words ≡ codes "world" ∷ []

-- the words are no command
abbrev pub AsksNothing : List (List ℕ) → Type 0
AsksNothing words = ((workers times : ℕ) → ¬ (AsksCount words workers times)) × (¬ (AsksWorld words))

-- what a count writes: the total of `workers` workers that each add `times` times
abbrev pub total_text : ℕ → ℕ → List ℕ
total_text workers times = decimal (workers * times) ++ 10 ∷ []

-- the words ask for a count, its total was written, and no write failed
abbrev pub Counts : List (List ℕ) → Streams → Type 0
Counts words t =
    (t.sink_failed ≡ false) × ((workers : ℕ) × (times : ℕ) × AsksCount words workers times × Appends t.written t.written_after (total_text workers times))

-- the program wrote what the words ask for, and no read or write failed; a count reads nothing
abbrev pub Does : List (List ℕ) → Type 0 → Streams → Type 0
Does words Unread t = (Unread × Counts words t) ⊎ (AsksWorld words × (t.source_failed ≡ false) × (t.sink_failed ≡ false) × Plays t)

-- the words of the line for words that are no command
abbrev pub usage : List ℕ
usage = codes "usage: spin-run count WORKERS TIMES | spin-run world"

-- why the total of a count was not written
abbrev pub StopsCount : ℕ → ℕ → Type 0 → Bool → Option (List ℕ) → Option (List ℕ) → Fault → Type 0
StopsCount workers times Unwritten failed old new Refused = Unwritten
StopsCount workers times Unwritten failed old new Memory = Unwritten
StopsCount workers times Unwritten failed old new Write = (failed ≡ true) × AppendsBeginning old new (total_text workers times)
StopsCount workers times Unwritten failed old new _ = ⊥

-- Why a run stopped at this fault: what the words asked for, what was read, and what was written. Only a failed write leaves a beginning of
-- the text.
abbrev pub StopsCommand : List (List ℕ) → Type 0 → Type 0 → Streams → Fault → Type 0
StopsCommand words Unread Unwritten t Usage = AsksNothing words × Unread × Unwritten
StopsCommand words Unread Unwritten t Refused = AsksSomeCount words × Unread × Unwritten
StopsCommand words Unread Unwritten t Memory = (AsksSomeCount words × Unread × Unwritten) ⊎ (AsksWorld words × WorldStops t Unwritten errors.Memory)
StopsCommand words Unread Unwritten t Read = AsksWorld words × WorldStops t Unwritten errors.Read
StopsCommand words Unread Unwritten t (BadLine n) = AsksWorld words × WorldStops t Unwritten (errors.BadLine n)
StopsCommand words Unread Unwritten t Write =
    (Unread × (t.sink_failed ≡ true) × ((workers : ℕ) × (times : ℕ) × AsksCount words workers times × AppendsBeginning t.written t.written_after (total_text workers times)))
    ⊎ (AsksWorld words × WorldStops t Unwritten errors.Write)
StopsCommand words Unread Unwritten t _ = ⊥

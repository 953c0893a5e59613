-- Which bytes are the text of a schedule, which line of other bytes is the first bad one, and what is written.
use Rattle.std.specs.Prelude.{◌≡◌, ℕ, ◌+◌, ◌-◌, ◌<◌, ◌≤◌, Bool, true, false, List, ◌∷◌, length, map, take, Option, None}
use Rattle.std.specs.Io.KnownBytes.{Appends, Consumes, IsAtEnd}
use Rattle.spin_step.specs.declared.answer.Answer.{Answer}
use Rattle.spin_step.specs.declared.schedule.Move.{Move}
use Rattle.spin_step.specs.Machines.{Machine}
use Rattle.spin_step.specs.FlagCalls.{flag_machine}
use Rattle.spin_step_more.specs.FairCalls.{fair_machine}
use Rattle.spin_step_more.specs.RwCalls.{rw_machine}
use Rattle.spin_step.specs.TicketCalls.{ticket_machine}
use Rattle.spin_world.specs.BarrierTable.{barrier_machine}
use Rattle.spin_step.specs.OnceCalls.{once_machine}
use Rattle.spin_text.specs.declared.header.Header.{Header}
use Rattle.spin_text.specs.declared.header.Header.TheVariants.{Flag, Ticket, Rw, Fair, Barrier, Once}
use Rattle.spin_text.specs.declared.text.RunError.{RunError}
use Rattle.spin_text.specs.declared.text.RunError.TheVariants as errors
use Rattle.spin_text.specs.Ends.{AppendsBeginning}
use Rattle.spin_text.specs.Lines.{words_by_line}
use Rattle.spin_text.specs.Spelling.{Calls, entry_words, EntriesFit}
use Rattle.spin_text.specs.Objects.{CallUnder, calls_of, header_words, HeaderFits}
use Rattle.spin_text.specs.Transcripts.{transcript_text}

-- what a text says: its header and its entries
pub record Script : Type 0 where
  pub header : Header
  pub entries : List (ℕ × Move (CallUnder header) ℕ)

-- the words of a script, line by line
abbrev pub script_words : Script → List (List (List ℕ))
script_words s = header_words s.header ∷ map (entry_words (calls_of s.header)) s.entries

-- the numbers of the script are within their limits
abbrev pub ScriptFits : Script → Type 0
ScriptFits s = HeaderFits s.header × EntriesFit (calls_of s.header) s.entries

-- the bytes are a text of the script
pub record Spells (bytes : List ℕ) (s : Script) : Type 0 where
  pub fits : ScriptFits s
  pub words : words_by_line bytes ≡ script_words s

-- the lines are those of a script
abbrev pub AreOfScript : List (List (List ℕ)) → Type 0
AreOfScript lines = (s : Script) × ScriptFits s × (lines ≡ script_words s)

-- Line n, counted from 1, is the first bad one: the lines before it are a script, and with line n they are not.
pub record IsFirstBad (lines : List (List (List ℕ))) (n : ℕ) : Type 0 where
  pub there : (1 ≤ n) × (n ≤ length lines)
  pub before : 1 < n → AreOfScript (take (n - 1) lines)
  pub bad : ¬ AreOfScript (take n lines)

-- what is written for a script
abbrev pub played : (h : Header) → List (ℕ × Move (CallUnder h) ℕ) → List ℕ
played (Flag value parties) entries = transcript_text (flag_machine value) parties entries
played (Ticket value first parties) entries = transcript_text (ticket_machine value first) parties entries
played (Rw value cap parties) entries = transcript_text (rw_machine value cap) parties entries
-- the patience of a fair lock is one more than its spins
played (Fair value cap spins parties) entries = transcript_text (fair_machine value cap (spins + 1)) parties entries
played (Barrier n parties) entries = transcript_text (barrier_machine n) parties entries
played (Once parties) entries = transcript_text (once_machine None) parties entries

-- these bytes were read, and the source has no more
pub record ReadsAll (old new : Option (List ℕ)) (bytes : List ℕ) : Type 0 where
  pub gave : Consumes old new bytes
  pub whole : IsAtEnd new

-- what is known of the source and the sink, before and after a call
pub record Streams : Type 0 where
  pub left : Option (List ℕ)
  pub left_after : Option (List ℕ)
  pub source_failed : Bool
  pub written : Option (List ℕ)
  pub written_after : Option (List ℕ)
  pub sink_failed : Bool

-- the streams of a call, by what is known of a source and a sink; the source goes from i to j, the sink from o to p
abbrev pub streams : {I O : Type 0} → (I → Option (List ℕ)) → (I → Bool) → (O → Option (List ℕ)) → (O → Bool)
    → I → I → O → O → Streams
streams remaining source_failed written sink_failed i j o p =
    record {
      left = remaining i;
      left_after = remaining j;
      source_failed = source_failed j;
      written = written o;
      written_after = written p;
      sink_failed = sink_failed p;
    }

-- the bytes are a text of some script, and `text` is what is written for this script
abbrev pub PlaysBytes : List ℕ → List ℕ → Type 0
PlaysBytes bytes text = (s : Script) × Spells bytes s × (text ≡ played s.header s.entries)

-- the whole source was read, and the text for it was written
abbrev pub Plays : Streams → Type 0
Plays t =
    (bytes : List ℕ) × (text : List ℕ) × ReadsAll t.left t.left_after bytes × PlaysBytes bytes text × Appends t.written t.written_after text

-- Why a call stopped with an error. A failed read is always reported as `Read`, whatever else is wrong. A bad line is
-- reported before anything is written. A failed write is reported only if all lines are good. After `Write` some first
-- bytes of the text were written; after any other error nothing was.
abbrev pub Stops : Streams → Type 0 → RunError → Type 0
Stops t Unwritten errors.Read = (t.source_failed ≡ true) × Unwritten
Stops t Unwritten errors.Memory = (t.source_failed ≡ false) × Unwritten
Stops t Unwritten (errors.BadLine n) = (t.source_failed ≡ false) × ((bytes : List ℕ) × ReadsAll t.left t.left_after bytes × IsFirstBad (words_by_line bytes) n) × Unwritten
Stops t Unwritten errors.Write =
    (t.source_failed ≡ false) × (t.sink_failed ≡ true)
    × ((bytes : List ℕ) × (text : List ℕ) × ReadsAll t.left t.left_after bytes × PlaysBytes bytes text × AppendsBeginning t.written t.written_after text)

-- Why the reading part of a call stopped, or the playing part.

abbrev pub StopsReading : Bool → Bool → RunError → Type 0
StopsReading failed failed_after errors.Read = failed_after ≡ true
StopsReading failed failed_after errors.Memory = failed_after ≡ failed
StopsReading failed failed_after _ = ⊥

abbrev pub StopsPlaying : List ℕ → RunError → Type 0
StopsPlaying bytes (errors.BadLine n) = IsFirstBad (words_by_line bytes) n
StopsPlaying bytes errors.Memory = Unit {0}
StopsPlaying bytes _ = ⊥

-- the error of a call that writes: the call stopped before its first write, or at a failed write
abbrev pub StopsWriting : (RunError → Type 0) → Type 0 → Type 0 → RunError → Type 0
StopsWriting Before Unwritten AtWrite errors.Read = Before errors.Read × Unwritten
StopsWriting Before Unwritten AtWrite errors.Memory = Before errors.Memory × Unwritten
StopsWriting Before Unwritten AtWrite (errors.BadLine n) = Before (errors.BadLine n) × Unwritten
StopsWriting Before Unwritten AtWrite errors.Write = AtWrite

-- the lines spell entries, and `text` is the transcript of these entries
abbrev pub PlaysLines : {W C L : Type 0} → Calls C → Machine W ℕ C L (Answer ℕ) → ℕ → List (List (List ℕ)) → List ℕ → Type 0
PlaysLines {C = C} calls m parties lines text =
    (es : List (ℕ × Move C ℕ)) × EntriesFit calls es × (lines ≡ map (entry_words calls) es) × (text ≡ transcript_text m parties es)

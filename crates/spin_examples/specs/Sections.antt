-- A pass that adds. Each time it acquires the lock it reads the value. Then it writes this value plus one, or writes
-- nothing. Then it releases the lock.
use Rattle.std.specs.Prelude.{◌≡◌, ℕ, Bool, ◌+◌, ◌==◌, true, false, if◌then◌else◌, List, [], ◌∷◌, Option, Some, None, option_and_then}
use Rattle.spin_seated.specs.declared.history.Entry.{Entry}
use Rattle.spin_seated.specs.declared.mutex.Call.{Call}
use Rattle.spin_seated.specs.declared.mutex.Call.TheVariants.{TryLock, Read, Write, Unlock}
use Rattle.spin_seated.specs.declared.lock.Answer.{Answer}
use Rattle.spin_seated.specs.declared.lock.Answer.TheVariants.{Truth, Value, Done}
use Rattle.spin_seated.specs.Histories.{own_calls, total}
use Rattle.spin_seated.specs.declared.lock.SeatedLock.{SeatedLock}
use Rattle.spin_seated.specs.Passes.{KnownOf, Seated, IsPassOf}

-- how far a pass is in its critical section
pub data Section : Type 0 where
  away : Section
  entered : Section
  has_read : ℕ → Section
  has_written : Section

-- how far the pass is after one more call; none if a pass that adds does not make this call there
abbrev pub next_section : Section → Call → Answer → Option Section
next_section away TryLock (Truth true) = Some entered
next_section away TryLock (Truth false) = Some away
next_section entered Read (Value v) = Some (has_read v)
next_section (has_read v) (Write w) Done = if w == v + 1 then Some has_written else None
next_section (has_read v) Unlock Done = Some away
next_section has_written Unlock Done = Some away
next_section _ _ _ = None

abbrev pub section_from : Section → List (Entry Call Answer) → Option Section
section_from t [] = Some t
section_from t (e ∷ es) = option_and_then (λ u. section_from u es) (next_section t e.call e.answer)

abbrev pub section_of : KnownOf Call → Option Section
section_of x = section_from away (own_calls x)

abbrev pub counts_write : Call → ℕ
counts_write (Write v) = 1
counts_write _ = 0

-- how many of the calls are writes
abbrev pub writes_in : List (Entry Call Answer) → ℕ
writes_in log = total (λ e. counts_write e.call) log

module _ {A : Type 0} where
  -- the pass of this mutex is outside its critical section, has only added, and has written n times
  abbrev pub HasAdded : SeatedLock Call A Bool → Seated Call → ℕ → Type 0
  HasAdded lock p n = IsPassOf lock p × (section_of p.known ≡ Some away) × (writes_in (own_calls p.known) ≡ n)

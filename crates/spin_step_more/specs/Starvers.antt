-- What a fair lock's word tells, and the results of its step functions.
use Rattle.std.specs.Prelude.{◌≡◌, ℕ, ◌+◌, ◌-◌, ◌/◌, ◌%◌, ◌==◌, Bool, true, false, Option, Some, None, List, codes, if◌then◌else◌, nat_lt, min}
use Rattle.spin_step.specs.Plain.{Plain, holder_weight, starver_weight, is_empty}
use Rattle.spin_step_more.specs.declared.fair.LockRejectReason.{LockRejectReason}
use Rattle.spin_step_more.specs.declared.fair.LockRejectReason.TheVariants.{Locked, Starved}

-- the most starvers at a time, isize::MAX / 2
abbrev pub most_starvers : ℕ
most_starvers = 4611686018427387903

-- why a newcomer's try fails: somebody holds and nobody starves, or somebody starves
abbrev pub Tells : Plain → LockRejectReason → Type 0
Tells s Locked = (is_empty s.holders ≡ false) × (is_empty s.starvers ≡ true)
Tells s Starved = is_empty s.starvers ≡ false

-- the word shows a holder
abbrev pub is_held_word : ℕ → Bool
is_held_word word = word % starver_weight == holder_weight

-- The results of the step functions.

abbrev pub lock : ℕ → Option ℕ
lock word = if word == 0 then Some holder_weight else None

abbrev pub reject : ℕ → LockRejectReason
reject word = if word == holder_weight then Locked else Starved

abbrev pub starve : ℕ → ℕ → Option ℕ
starve cap word = if nat_lt (word / starver_weight) (min cap most_starvers) then Some (word + starver_weight) else None

abbrev pub unstarved : ℕ → ℕ
unstarved word = word - starver_weight

abbrev pub lock_fair : ℕ → Option ℕ
lock_fair word = if word == starver_weight then Some (starver_weight + holder_weight) else None

abbrev pub lock_starved : ℕ → Option ℕ
lock_starved word = if word % starver_weight == 0 then Some (word + holder_weight) else None

abbrev pub unlocked : ℕ → ℕ
unlocked word = word - holder_weight

abbrev pub reason_text : LockRejectReason → List ℕ
reason_text reason = elim reason [ Locked ↦ codes "locked" | Starved ↦ codes "starved" ]

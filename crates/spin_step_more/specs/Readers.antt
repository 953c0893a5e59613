-- What a read-write lock's word tells, and the results of its step functions.
use Rattle.std.specs.Prelude.{ℕ, ◌≤◌, ◌+◌, ◌-◌, ◌/◌, ◌%◌, ◌==◌, ◌&&◌, ◌||◌, Bool, false, not, Option, Some, None, if◌then◌else◌, nat_lt, min}
use Rattle.spin_step.specs.Plain.{Plain, Kind, reading, upgradable, asking, writing, same_kind, Change, releases, weight, count_kind, upgraders}

-- the most holders, usize::MAX / 8 / 2
abbrev pub reader_limit : ℕ
reader_limit = 1152921504606846975

-- at most one holder may upgrade, and at most one writes
abbrev pub OneOfEach : Plain → Type 0
OneOfEach s = (upgraders s.holders ≤ 1) × (count_kind writing s.holders ≤ 1)

-- What a word tells.

-- how many parties read, including the upgradable one
abbrev pub readers_in : ℕ → ℕ
readers_in word = word / weight reading + (word % (weight asking - weight upgradable)) / weight upgradable

abbrev pub writers_in : ℕ → ℕ
writers_in word = word % weight upgradable

-- some party holds
abbrev pub is_held_word : ℕ → Bool
is_held_word word = not (word == 0)

-- the word shows a holder of this kind
abbrev pub tells : Kind → ℕ → Bool
tells reading word = not (nat_lt word (weight reading))
tells upgradable word = (word % weight reading) == weight upgradable
tells asking word = (word % weight reading) == weight asking
tells writing word = word == weight writing

-- for the kinds `reading` and `upgradable`: every holder lets another party come to hold with this kind
abbrev pub lets_in : Kind → ℕ → Bool
lets_in reading word = (word % weight reading == 0) || (word % weight reading == weight upgradable)
lets_in _ word = word % weight reading == 0

-- `lets_in` holds of this kind, and fewer parties read than the cap allows
abbrev pub has_room : Kind → ℕ → ℕ → Bool
has_room k word cap = lets_in k word && nat_lt (readers_in word) (min cap reader_limit)

-- The results of the step functions.

abbrev pub read : ℕ → ℕ → Option ℕ
read cap word = if has_room reading word cap then Some (word + weight reading) else None

abbrev pub read_upgradable : ℕ → ℕ → Option ℕ
read_upgradable cap word = if has_room upgradable word cap then Some (word + weight upgradable) else None

abbrev pub write : ℕ → Option ℕ
write word = if word == 0 then Some (weight writing) else None

abbrev pub upgrade : ℕ → Option ℕ
upgrade word = if word == weight upgradable then Some (weight writing) else None

abbrev pub upgrade_asked : ℕ → Option ℕ
upgrade_asked word = if word == weight asking then Some (weight writing) else None

-- the word after a holder of this kind releases
abbrev pub released : Kind → ℕ → ℕ
released k word = word - weight k

-- the word after a holder of the first kind changes to the second
abbrev pub turned : Kind → Kind → ℕ → ℕ
turned j k word = word + (weight k - weight j)

-- the step is a release by a reader
abbrev pub reader_goes : Change → Bool
reader_goes c = elim c [ releases p k ↦ same_kind reading k | _ ↦ false ]

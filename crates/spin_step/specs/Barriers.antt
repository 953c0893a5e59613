-- The barrier, as its step functions see it.
use Rattle.std.specs.Prelude.{◌≡◌, ℕ, ◌+◌, ◌-◌, ◌*◌, ◌/◌, ◌%◌, ◌^◌, ◌==◌, Bool, true, false, not, max, nat_lt, if◌then◌else◌}
use Rattle.spin_step.specs.Plain.{Plain, count_word, generation_word}

-- the two numbers are the words of a plain barrier whose groups have n arrivals
pub record IsBarrier (s : Plain) (n count generation : ℕ) : Type 0 where
  pub group : s.group ≡ n
  pub counts : count_word s ≡ count
  pub generations : generation_word s ≡ generation

-- count and generation after one more arrival, and whether this arrival leads its group
abbrev pub arrived : ℕ → ℕ → ℕ → (ℕ × ℕ) × Bool
arrived n count generation =
    if nat_lt (count + 1) n then ((count + 1, generation), false) else ((0, (generation + 1) % 2 ^ 64), true)

-- the k-th arrival is the last one of its group
abbrev pub is_leading : Plain → ℕ → Bool
is_leading s k = (k % max s.group 1) == 0

-- which arrival fills the group of the k-th arrival
abbrev pub filled_by : Plain → ℕ → ℕ
filled_by s k = ((k - 1) / max s.group 1 + 1) * max s.group 1

-- the generation just after the k-th arrival
abbrev pub generation_at : Plain → ℕ → ℕ
generation_at s k = (k / max s.group 1) % 2 ^ 64

-- Suppose that the k-th arrival does not lead. Its group is full, as far as a generation modulo 2^64 can tell.
abbrev pub may_leave_at : Plain → ℕ → Bool
may_leave_at s k = not (((s.arrivals / max s.group 1 - k / max s.group 1) % 2 ^ 64) == 0)

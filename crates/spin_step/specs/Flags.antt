-- The results of the step functions of a flag, and of a `Once`.
use Rattle.std.specs.Prelude.{ℕ, ◌+◌, ◌-◌, ◌==◌, Bool, true, Option, Some, None, if◌then◌else◌}

abbrev pub lock : Bool → Option Bool
lock flag = if flag then None else Some true

abbrev pub begun : ℕ → Option ℕ
begun state = if state == 0 then Some 1 else None

abbrev pub completed : ℕ → ℕ
completed state = state + 1

abbrev pub failed : ℕ → ℕ
failed state = state - 1

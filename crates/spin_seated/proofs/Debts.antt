-- What the mutex must show for the step of `unlock`: the pass may make the call, the words become those of the next state,
-- and the answer is the machine's. The prover finds this for the other steps.
use Rattle.std.proofs.Common.{◌≡◌, ℕ, true, Some, arith}
use Rattle.spin_step.specs.Plain.{Plain, writing, releases, is_open, apply, flag_word}
use Rattle.spin_seated.specs.declared.mutex.Call.{Call}
use Rattle.spin_seated.specs.declared.mutex.Call.TheVariants.{Unlock}
use Rattle.spin_seated.specs.declared.lock.Answer.TheVariants.{Done}
use Rattle.spin_seated.specs.Histories.{holds, OwesAlways}
use Rattle.spin_seated.specs.Mutex.{mutex}
use Rattle.spin_seated.specs.Passes.{KnownOf}
use Rattle.spin_seated.proofs.Holders.{alone_state, alone_is}

-- what the step function of `unlock` ensures: if the flag is set, `new` is the flag after the holder has released
abbrev pub Leaves : ℕ → Type 0
Leaves new = (s : Plain) (p : ℕ) → flag_word s ≡ 1 → is_open s (releases p writing) ≡ true → new ≡ flag_word (apply s (releases p writing))

pub frees_owed : (x : KnownOf Call) (new : ℕ) → Leaves new → holds mutex x ≡ true → OwesAlways mutex x 0 (λ _. new) (λ _. Some (Unlock, Done))
frees_owed x new leaves held = grind (arith, alone_is, alone_state)

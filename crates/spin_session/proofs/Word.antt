-- A step of a table whose words are one number is its operation, and what follows the number found.
use Rattle.std.proofs.Common.{◌≡◌, ℕ, false, ap, arith}
use Rattle.spin_step.specs.declared.stepped.Next.{Next}
use Rattle.spin_step.specs.Operations.{performed}
use Rattle.spin_step.specs.Acts.{Act, section, is_section, stays, step_at, step_by, operation_by, one_number}

-- how the call goes on after a step that finds the number n
abbrev pub next_at : {L A : Type 0} → Act ℕ L A → ℕ → ℕ → Next L A
next_at act w n = (step_at {V = Unit {0}} one_number 0 n act w).next

module _ (V : Type 0) {L A : Type 0} where
  pub step_is : (act : Act ℕ L A) (w n : ℕ) → is_section act ≡ false → step_by {V = V} one_number 0 act n ≡ stays (performed (operation_by act) n) (next_at act w n)
  step_is (section can f step a b) w n one = absurd (cc (one))
  step_is act w n one = grind arith

  pub word_is : (act : Act ℕ L A) (n : ℕ) → is_section act ≡ false → (step_by {V = V} one_number 0 act n).words ≡ performed (operation_by act) n
  word_is act n one = ap (λ st. st.words) (step_is act 0 n one)

use Rattle.std.proofs.Common.{◌≡◌, ◌⊎◌, ◌<◌, ℕ, length, arith, not, refl, true}
use Rattle.spin_step.specs.Plain.{Plain, reading, asking, count_kind, is_open_to, to_read}
use Rattle.spin_step.proofs.Sums.{against, by_kinds}
use Rattle.spin_step.specs.Calls.{writers}
use Rattle.spin_step_more.specs.Readers.{reader_limit}
use Rattle.spin_world.proofs.RwOwed.{Within, rw_facts}
use Rattle.spin_laws.proofs.Moments.{found}
use Rattle.spin_laws.proofs.answers.a_refused_try_read_was_kept_out_at_a_moment.Goals as goal

kept_out : (s : Plain) (p : ℕ) → Within reader_limit s → not (is_open_to s p to_read) ≡ true → (0 < writers s) ⊎ (0 < count_kind asking s.holders) ⊎ (length s.holders ≡ reader_limit)
kept_out s p shape closed = grind (arith, shape, by_kinds (against reading) s.holders, closed)

pub returns : goal.returns
returns g c = λ opening.
    found (rw_facts opening reader_limit) (λ p s. not (is_open_to s p to_read)) (λ h. refl) (λ p l h seen call closed. kept_out seen.plain p call.shape closed)

use Rattle.std.proofs.Common.{refl, ◌==◌}
use Rattle.std.proofs.lemmas.Bool.{eqb-true}
use Rattle.spin_step.specs.Calls.{readers}
use Rattle.spin_world_seats.proofs.Owed.{seats_facts}
use Rattle.spin_laws.proofs.Moments.{found}
use Rattle.spin_laws.proofs.answers.a_count_of_seats_was_so_at_a_moment.Goals as goal

pub returns : goal.returns
returns g n count =
    found (seats_facts n) (λ p s. readers s == count) (λ h. refl) (λ p l h seen call is. eqb-true (readers seen.plain) count is)

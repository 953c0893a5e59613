use Rattle.std.proofs.Common.{◌≡◌, refl}
use Rattle.spin_step.specs.declared.answer.Answer.TheVariants.{Is}
use Rattle.spin_step.specs.declared.once_calls.OnceCall.TheVariants.{IsCompleted}
use Rattle.spin_laws.specs.Onces.{has_value}
use Rattle.spin_laws.proofs.Onces.{found_in}
use Rattle.spin_step.specs.Asks.{same}
use Rattle.spin_laws.proofs.Moments.{same_is}
use Rattle.spin_step.specs.Plain.{is_complete}
use Rattle.spin_laws.proofs.answers.a_look_at_a_once_was_so_at_a_moment.Goals as goal

pub returns : goal.returns
returns g there = λ given. found_in given IsCompleted (Is there) (λ s. same there (is_complete s.phase)) (λ s. has_value s ≡ there) (λ h. refl) (λ s is. same_is (is_complete s.phase) there is)

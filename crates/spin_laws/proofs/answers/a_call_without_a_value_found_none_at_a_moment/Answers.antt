use Rattle.std.proofs.Common.{◌≡◌, true, false, not, refl, arith}
use Rattle.spin_step.specs.Plain.{is_nothing, is_complete}
use Rattle.spin_step.specs.declared.answer.Answer.TheVariants.{NoValue}
use Rattle.spin_step.specs.declared.once_calls.OnceCall.TheVariants.{Get, Poll}
use Rattle.spin_laws.specs.Onces.{has_value}
use Rattle.spin_laws.proofs.Onces.{found_in}
use Rattle.spin_laws.proofs.answers.a_call_without_a_value_found_none_at_a_moment.Goals as goal

pub returns-clause-get : goal.returns-clause-get
returns-clause-get g = λ given. found_in given Get NoValue (λ s. not (is_complete s.phase)) (λ s. has_value s ≡ false) (λ h. refl) (λ s is. grind (arith, is))

pub returns-clause-poll : goal.returns-clause-poll
returns-clause-poll g = λ given. found_in given Poll NoValue (λ s. is_nothing s.phase) (λ s. is_nothing s.phase ≡ true) (λ h. refl) (λ s is. is)

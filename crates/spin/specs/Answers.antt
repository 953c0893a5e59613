-- How the calls of a lock are answered.
pub use Rattle.spin_step.specs.declared.answer.Answer.TheVariants.{Granted, Refused, Done, Is, Count, Value}

-- Text that is written into a buffer from its end towards its start.
use Rattle.std.specs.Prelude.{◌≡◌, ℕ, ◌+◌, ◌<◌, ◌^◌, List, length, drop, ◌++◌, Option, Some, None}
use Rattle.spin_step.specs.declared.answer.Answer.{Answer}
use Rattle.spin_step.specs.declared.schedule.Outcome.{Outcome}
use Rattle.spin_step.specs.declared.schedule.Outcome.TheVariants as outcome

-- The buffer now has the text from `start` to `end`, and after the text what the buffer had before.
pub record PutBefore (text before : List ℕ) (end : ℕ) (now : List ℕ) (start : ℕ) : Type 0 where
  pub begins : start + length text ≡ end
  pub stands : drop start now ≡ text ++ drop end before

-- if the call began on a line of this transcript, the number of that line fits into 64 bits
abbrev pub HasLine : Option ℕ → Type 0
HasLine None = Unit {0}
HasLine (Some began) = began + 1 < 2 ^ 64

abbrev pub TellsLine : Outcome (Answer ℕ) ℕ → Type 0
TellsLine (outcome.Answered a began) = HasLine began
TellsLine _ = Unit {0}

use Rattle.std.proofs.Common.{◌∙◌, ap, sym}
use Rattle.spin_text.specs.Reading.{has_ended, words_left}
use Rattle.spin_text.proofs.Cuts.{has_word}
use Rattle.spin_text.proofs.words.is_over.Goals as goal

pub returns-in-Some : goal.returns-in-Some
returns-in-Some c = has_word c.in-Some.field-0.now ∙ ap (λ line. has_ended (words_left line)) (sym c.in-Some.is)

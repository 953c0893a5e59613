use Rattle.std.proofs.Common.{None, refl, sym}
use Rattle.std.proofs.lemmas.Bool.{false≢true}
use Rattle.spin_step.specs.Plain.{to_read, gets}
use Rattle.spin_seats.specs.declared.calls.SeatsCall.TheVariants as call
use Rattle.spin_tests.proofs.wrong.seats.promises_leave_little_open.Goals as goal

pub returns : goal.returns
returns g = record {
  limited = λ p. false≢true (p.limited call.Count None 1 refl);
  tries = λ p. false≢true (sym (p.tries call.TryEnter None to_read refl));
  begins = λ p. false≢true (p.begins call.Leave);
  sections = λ p. false≢true (p.sections (gets 0 to_read) refl refl);
}

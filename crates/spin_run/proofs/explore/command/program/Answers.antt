use Rattle.std.proofs.Common.{◌≡◌, Bool, true, false, inl, refl, sym, subst, ◌∙◌, arith}
use Rattle.spin_text.specs.Texts.{streams}
use Rattle.spin_run.specs.declared.faults.Fault.TheVariants.{Usage}
use Rattle.spin_run.specs.Runs.{Does, status_for}
use Rattle.spin_run.proofs.explore.command.program.Goals as goal

is_stuck : (stuck : Bool) → 3 ≡ status_for stuck → true ≡ stuck
is_stuck true is = refl
is_stuck false is = grind (arith, is)

pub returns-in-Ok-true-clause-done : goal.returns-in-Ok-true-clause-done
returns-in-Ok-true-clause-done g c stuck is =
    let o = c.in-Some.options in
    let new = c.run.new in
    let t = streams g.I.Source.remaining g.I.Source.failed g.O.Sink.written g.O.Sink.failed c.args.input.now new.input c.args.output.now new.output in (
      o,
      sym c.options_of.ensures ∙ c.in-Some.is,
      subst (λ b. Does o t b) (c.in-Ok-true.field-0-test ∙ is_stuck stuck is) c.in-Ok-true.ensures.done,
    )

pub returns-in_default-clause-fault : goal.returns-in_default-clause-fault
returns-in_default-clause-fault g c some few =
    (Usage, c.report.ensures.status, inl (refl, sym c.options_of.ensures ∙ c.in_default.is, refl, refl), c.report.ensures.told)

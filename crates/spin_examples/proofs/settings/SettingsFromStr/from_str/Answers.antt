use Rattle.std.proofs.Common.{rules}
use Rattle.spin_examples.proofs.Lines.{begins, goes_on, first_bad, ends}
use Rattle.spin_examples.proofs.settings.SettingsFromStr.from_str.Goals as goal

pub loop-at-init : goal.loop-at-init
loop-at-init c = (search rules, search rules, begins c.args.text.now c.into_iter-at-iterator.result _ (cc) (cc) c.default-settings.ensures)

pub returns-in_default : goal.returns-in_default
returns-in_default c = first_bad _ _ c.next.new.self _ c.loop-at.invariant.2 _ c.in-Some.line c.in-Some.ensures.steps c.in_default.ensures.none

pub loop-at-preserved : goal.loop-at-preserved
loop-at-preserved c = (
  search rules,
  search rules,
  goes_on _ _ _ _ c.loop-at.invariant.2 _ c.in-Some.line _ _ c.in-Some.ensures.steps c.in-Some-of_line.ensures.some (c.set.ensures.port, c.set.ensures.workers, c.set.ensures.verbose),
)

pub returns : goal.returns
returns c = ends _ _ _ _ c.loop-at.invariant.2 c.in-None.ensures.steps

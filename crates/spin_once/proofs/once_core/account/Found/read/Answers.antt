use Rattle.std.proofs.Common.{◌≡◌, rules, Some, sym, ap, ◌∙◌, subst}
use Rattle.spin_core.specs.Cell.{use_of}
use Rattle.spin_core.specs.Stable.{maybe_stable}
use Rattle.spin_core.proofs.tie.Ties as tie
use Rattle.spin_once.specs.Once.{use_of_view}
use Rattle.spin_once.specs.OnceValues.{IsValue, uses}
use Rattle.spin_once.specs.declared.once_core.rule.Stage.TheVariants.{Done}
use Rattle.spin_once.proofs.once_core.account.Found.read.Goals as goal
use Rattle.spin_once.proofs.once_core.account.Found.read.Goals.{in-Done, in_default}

pub returns-clause-has : goal.returns-clause-has
returns-clause-has g c =
    let me = c.args.self.account in let view = me.party.view in let s = c.show-party in
    let there : me.party.value ≡ Some (maybe_stable (Done c.known.result.now)) = elim c.match-slot.branch
    [ in-Done w ↦ search rules | in_default w ↦ search rules ] in
    subst (λ k. IsValue k.opening me.seen.entries c.known.result.now) (sym s.ensures.key)
    ((me.finds (ap uses (sym (tie.same_use use_of_view view) ∙ ap (use_of use_of_view) c.args.self.reads))).1 c.known.result.now there)

use Rattle.std.proofs.Common.{◌∙◌, ◌*◌, ℕ, refl, sym, arith}
use Rattle.std.specs.Prelude.{max}
use Rattle.spin_examples.proofs.Folds.{one_more_round}
use Rattle.spin_examples.proofs.phases.Results.fold.Goals as goal

pub invariant_of-self-clause-rounds : goal.invariant_of-self-clause-rounds
invariant_of-self-clause-rounds g c = let me = c.args.self.now in let each : ℕ = max g.T.Pooled.group 1 * g.T.Pooled.each in
    one_more_round me.folded.rounds each me.folded.total me.folded.smallest _ me.round _ _ me.rounds
    (me.exact ∙ (sym (c.audit.ensures.whole c.requires.whole.0) ∙ c.requires.brought)) (omega (arith, me.adds_up, me.fits)) c.saturating_add-folded.ensures refl c.min-folded.ensures

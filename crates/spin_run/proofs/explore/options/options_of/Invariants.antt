-- the options so far, with those that the remaining words add, are what all words ask for
use Rattle.std.proofs.Common.{◌≡◌, length, map}
use Rattle.spin_run.specs.Options.{no_options, options_from}
use Rattle.spin_run.proofs.explore.options.options_of.Given as goal

abbrev pub invariant-loop-rest : goal.invariant-loop-rest
invariant-loop-rest l = options_from l.options (map (λ word. word.now) l.rest) ≡ options_from no_options (map (λ word. word.now) l.fn.words)

abbrev pub decreases-loop-rest : goal.decreases-loop-rest
decreases-loop-rest l = length l.rest

-- the lines read so far made these settings, and the iterator has the remaining lines
use Rattle.std.specs.Str.Lines.{lines}
use Rattle.spin_examples.proofs.Lines.{Midway}
use Rattle.spin_examples.proofs.settings.SettingsFromStr.from_str.Given as goal

abbrev pub invariant-loop-at : goal.invariant-loop-at
invariant-loop-at l =
    (goal.iterator-loop-at).can_next l.at-iterator
    × (goal.iterator-loop-at).is_finite l.at-iterator
    × Midway (lines l.text) l.at-iterator l.settings

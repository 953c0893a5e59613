-- the lines so far spell entries
use Rattle.std.proofs.Common.{◌≤◌, ◌+◌, length}
use Rattle.spin_text.specs.Reading.{lines_left}
use Rattle.spin_text.proofs.Cuts.{bytes_left}
use Rattle.spin_text.proofs.Scripts.{Checked}
use Rattle.spin_text.proofs.entries.check_entries.Given as goal

abbrev pub invariant-loop-rest : goal.invariant-loop-rest
invariant-loop-rest g l =
    record {
      checked : Checked g.O.Spelled.calls (lines_left l.rest) (lines_left l.fn.lines) l.place;
      counted : l.place + length (lines_left l.rest) ≤ length (lines_left l.fn.lines);
    }

abbrev pub decreases-loop-rest : goal.decreases-loop-rest
decreases-loop-rest g l = bytes_left l.rest

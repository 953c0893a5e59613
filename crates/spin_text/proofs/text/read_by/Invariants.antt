-- the bytes read so far are those that the source gave
use Rattle.std.proofs.Common.{◌≡◌, ◌-◌, ◌^◌, length}
use Rattle.std.specs.Io.KnownBytes.{Consumes}
use Rattle.spin_text.proofs.text.read_by.Given as goal

abbrev pub invariant-loop-n : goal.invariant-loop-n
invariant-loop-n g l =
    record {
      gave : Consumes (g.I.Source.remaining l.fn.input) (g.I.Source.remaining l.input) l.bytes.items;
      failed : g.I.Source.failed l.input ≡ g.I.Source.failed l.fn.input;
    }

abbrev pub decreases-loop-n : goal.decreases-loop-n
decreases-loop-n g l = 2 ^ 64 - length l.bytes.items

-- the bytes of the text before `rest` were written; `rest` is left to write
use Rattle.std.proofs.Common.{◌≡◌, ◌≤◌, length, ℕ, take, drop}
use Rattle.std.specs.Io.KnownBytes.{Appends}
use Rattle.spin_text.proofs.ends.write_whole.Given as goal

abbrev pub invariant-loop-rest : goal.invariant-loop-rest
invariant-loop-rest g l =
    (n : ℕ) × (n ≤ length l.text) × (l.rest ≡ drop n l.text)
    × Appends (g.S.Sink.written l.initial.sink) (g.S.Sink.written l.sink) (take n l.text)
    × (g.S.Sink.failed l.sink ≡ g.S.Sink.failed l.initial.sink)

abbrev pub decreases-loop-rest : goal.decreases-loop-rest
decreases-loop-rest g l = length l.rest

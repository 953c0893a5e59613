-- the moves so far were played; their lines were written, except for the last piece
use Rattle.std.proofs.Common.{◌≡◌, ◌≤◌, ◌+◌, ℕ, List, length, take}
use Rattle.spin_text.specs.declared.piece.TheConstants.{LONGEST_LINE, PIECE}
use Rattle.spin_text.specs.Ends.{AppendsBut}
use Rattle.spin_text.specs.Readable.{AllLinesRead}
use Rattle.spin_text.specs.Reading.{entries_in, lines_left}
use Rattle.spin_text.proofs.Cuts.{bytes_left}
use Rattle.spin_text.proofs.Lines.{SoFar}
use Rattle.spin_text.proofs.transcript.write_events.Given as goal

abbrev pub invariant-loop-rest : goal.invariant-loop-rest
invariant-loop-rest g l =
    let entries = entries_in g.O.Spelled.read in
    record {
      read : AllLinesRead g.O.Spelled.read (lines_left l.rest);
      counted : l.place + length (lines_left l.rest) ≤ length (lines_left l.fn.lines);
      told : (text : List ℕ)
          × SoFar (g.O.Object.machine l.initial.world.object) l.initial.world.state (entries (lines_left l.fn.lines)) l.world.state l.begins (entries (lines_left l.rest)) l.place text
          × AppendsBut (g.K.Sink.written l.initial.output) (g.K.Sink.written l.output) text (take l.used l.piece);
      object : l.world.object ≡ l.initial.world.object;
      line : length l.buffer ≡ LONGEST_LINE;
      piece : length l.piece ≡ PIECE;
      room : l.used + LONGEST_LINE ≤ PIECE;
      failed : g.K.Sink.failed l.output ≡ g.K.Sink.failed l.initial.output;
    }

abbrev pub decreases-loop-rest : goal.decreases-loop-rest
decreases-loop-rest g l = bytes_left l.rest

use Rattle.std.proofs.Common.{List, ℕ, ◌++◌, take, sym, subst}
use Rattle.spin_text.specs.Ends.{AppendsBut}
use Rattle.spin_text.specs.Reading.{entries_in, lines_left, numbers_of}
use Rattle.spin_text.specs.Transcripts.{end_line}
use Rattle.spin_text.proofs.Appended.{but_line, but_beginning}
use Rattle.spin_text.proofs.Lines.{last_line}
use Rattle.std.proofs.lemmas.Result.{on_err_weaker}
use Rattle.spin_text.proofs.transcript.play.Goals as goal

pub returns-clause-beginning : goal.returns-clause-beginning
returns-clause-beginning g c =
    let end = end_line (numbers_of c.numbers.result) c.value.result in
    let P : List ℕ → Type 0 = λ t.
    AppendsBut (g.K.Sink.written c.args.output.now) (g.K.Sink.written c.write_events.new.output) t
    (take c.in_ok-used.used c.write_events.new.piece ++ end) in
    let whole =
    last_line (g.O.Object.machine c.args.world.now.object) c.args.world.now.state c.write_events.new.world.state (entries_in g.O.Spelled.read (lines_left c.args.lines))
    c.words.result _ c.value.result c.in_ok-used.ensures.state c.words.ensures (c.numbers.ensures c.args.world.now.object) c.value.ensures
    in
    on_err_weaker c.write_end.result (but_beginning _ _ _ _ _ (subst P (sym whole) (but_line _ _ _ _ end c.in_ok-used.ensures.bytes)))
    c.write_end.ensures.beginning

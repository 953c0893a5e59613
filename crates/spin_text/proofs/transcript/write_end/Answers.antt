use Rattle.std.proofs.Common.{List, ℕ, ◌++◌, take, subst}
use Rattle.spin_text.specs.Ends.{AppendsBut}
use Rattle.spin_text.proofs.Appended.{but_beginning, rest_is}
use Rattle.std.proofs.lemmas.Result.{on_err_weaker}
use Rattle.spin_text.proofs.transcript.write_end.Goals as goal

pub returns-clause-beginning : goal.returns-clause-beginning
returns-clause-beginning g c =
    let written = g.K.Sink.written in
    let line = rest_is c.put_end-start.new.buffer _ _ c.put_end-start.result c.put_end-start.auto.buffer c.put_end-start.ensures.line in
    let P : List ℕ → Type 0 = λ l.
    AppendsBut (written c.args.output.now) (written c.write_line.new.output) (take c.args.used c.args.piece.now ++ l)
    (take c.in_ok-used.used c.write_line.new.piece) in
    on_err_weaker c.write_whole.result (but_beginning _ _ _ _ _ (subst P line c.in_ok-used.ensures.bytes)) c.write_whole.ensures.beginning

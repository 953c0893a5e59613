use Rattle.std.proofs.Common.{◌≡◌, ◌++◌, ◌+◌, ◌-◌, ◌∙◌, List, [], ℕ, length, take, drop, ap, sym, subst, refl, arith, rules}
use Rattle.spin_step.specs.Schedules.{happens}
use Rattle.spin_text.specs.declared.piece.TheConstants.{LONGEST_LINE}
use Rattle.spin_text.specs.Ends.{AppendsBut}
use Rattle.spin_text.specs.Readable.{AllLinesRead}
use Rattle.spin_text.specs.Reading.{entries_in, lines_left, numbers_of}
use Rattle.spin_text.specs.Transcripts.{event_line}
use Rattle.spin_text.proofs.Appended.{but_all, but_line, but_then, but_beginning, beginning_longer, rest_is}
use Rattle.spin_text.proofs.Lines.{SoFar, none_told, all_told, told_line, told_next}
use Rattle.spin_text.proofs.Options.{at_err}
use Rattle.spin_text.proofs.Scripts.{first_entry}
use Rattle.spin_text.proofs.transcript.write_events.Given.{Over}
use Rattle.spin_text.proofs.transcript.write_events.Goals.{After-write_line}
use Rattle.spin_text.proofs.transcript.write_events.Goals as goal

pub loop-rest-init : goal.loop-rest-init
loop-rest-init g c =
    record {
      read = c.requires.read;
      counted = omega arith;
      told = ([], none_told _ _ _ c.args.begins.now c.requires.none_begun c.requires.parties, but_all _ _ _ refl);
      object = refl;
      line = search rules;
      piece = c.requires.room;
      room = omega arith;
      failed = refl;
    }

pub put_event-start-requires-clause-line : goal.put_event-start-requires-clause-line
put_event-start-requires-clause-line g c =
    let so_far = c.loop-rest.invariant in
    told_line _ _ _ _ _ _ _ _ _ _ _ so_far.told.1 (omega (arith, so_far.counted, c.requires.counted)) c.with_begin-outcome.ensures.outcome

-- one more move was played, and its line is still to be written
next : (g : Over) (c : After-write_line g) → let entries = entries_in g.O.Spelled.read in
    (text : List ℕ) × SoFar (g.O.Object.machine c.args.world.now.object) c.args.world.now.state (entries (lines_left c.args.lines)) c.act.new.self.state c.with_begin-outcome.new.begins
    (entries (lines_left c.first_line.result.1)) (c.loop-rest.place + 1) text × AppendsBut (g.K.Sink.written c.args.output.now) (g.K.Sink.written c.loop-rest.output) text
    (take c.loop-rest.used c.loop-rest.piece ++ take (LONGEST_LINE - c.put_event-start.result) (drop c.put_event-start.result c.put_event-start.new.buffer))
next g c =
    let so_far = c.loop-rest.invariant in
    let e = c.unwrap-party.result in
    let event = event_line (c.loop-rest.place + 1) e.0 c.with_begin-outcome.result (numbers_of c.numbers-numbers.result) in
    let further = ap lines_left c.in-Some.is ∙ c.first_line.ensures.lines in
    let first = first_entry g.O.Spelled.read _ (lines_left c.first_line.result.1) _ e further (sym c.entry.ensures ∙ c.unwrap-party.ensures) in
    let acted = c.act.ensures.happens ∙ ap (λ o. happens (g.O.Object.machine o) c.loop-rest.world.state e.0 e.1) so_far.object in
    let told =
    told_next (g.O.Object.machine c.args.world.now.object) _ _ _ _ c.loop-rest.begins c.with_begin-outcome.new.begins _ _ _ so_far.told.0 e _ _ c.words.result _ so_far.told.1 first acted
    c.words.ensures (c.numbers-numbers.ensures c.args.world.now.object) c.with_begin-outcome.ensures.outcome c.with_begin-outcome.ensures.begins in
    let line = rest_is c.put_event-start.new.buffer event _ c.put_event-start.result (c.put_event-start.auto.buffer ∙ so_far.line) c.put_event-start.ensures.line in
    let front = take c.loop-rest.used c.loop-rest.piece in
    let P : List ℕ → Type 0 = λ l. AppendsBut (g.K.Sink.written c.args.output.now) (g.K.Sink.written c.loop-rest.output) (so_far.told.0 ++ event) (front ++ l) in
    (so_far.told.0 ++ event, told, subst P (sym line) (but_line _ _ _ _ event so_far.told.2))

pub returns-in_err-used-clause-beginning : goal.returns-in_err-used-clause-beginning
returns-in_err-used-clause-beginning g c =
    let now = next g (goal.at.returns-in_err-used-clause-beginning g c).After-write_line in
    at_err _ _ (beginning_longer _ _ _ _ _ (sym now.1.lines) (but_beginning _ _ _ _ _ now.2 c.in_err-used.ensures.beginning))

pub loop-rest-preserved : goal.loop-rest-preserved
loop-rest-preserved g c =
    let so_far = c.loop-rest.invariant in
    let further = ap lines_left c.in-Some.is ∙ c.first_line.ensures.lines in
    let now = next g (goal.at.loop-rest-preserved g c).After-write_line in
    record {
      read = (subst (AllLinesRead g.O.Spelled.read) further so_far.read).1;
      counted = omega (arith, so_far.counted, ap length further);
      told = (now.0, now.1, but_then _ _ _ _ _ now.2 _ c.in_ok-used.ensures.bytes);
      object = c.act.ensures.object ∙ so_far.object;
      line = c.put_event-start.auto.buffer ∙ so_far.line;
      piece = c.write_line.auto.piece ∙ so_far.piece;
      room = c.in_ok-used.ensures.used;
      failed = c.in_ok-used.ensures.ok ∙ so_far.failed;
    }

pub returns-clause-state : goal.returns-clause-state
returns-clause-state g c = grind (arith, c.loop-rest.invariant.told.1.state)

pub returns-clause-bytes : goal.returns-clause-bytes
returns-clause-bytes g c =
    let told = c.loop-rest.invariant.told in
    let P : List ℕ → Type 0 = λ t. AppendsBut (g.K.Sink.written c.args.output.now) (g.K.Sink.written c.loop-rest.output) t (take c.loop-rest.used c.loop-rest.piece) in
    subst P (all_told _ _ _ _ _ _ _ _ (ap (λ rest. entries_in g.O.Spelled.read (lines_left rest)) c.in_default.is) told.1) told.2

use Rattle.std.proofs.Common.{ℕ, List, arith, length, ◌∙◌, ap, sym, subst}
use Rattle.spin_text.specs.Readable.{AllLinesRead}
use Rattle.spin_text.specs.Reading.{lines_left}
use Rattle.spin_text.proofs.Scripts.{checked_next, checked_all, all_read}
use Rattle.spin_text.proofs.entries.check_entries.Goals as goal

pub loop-rest-preserved : goal.loop-rest-preserved
loop-rest-preserved g c =
    let so_far = c.loop-rest.invariant in
    let next = ap lines_left c.in-Some.is ∙ c.first_line.ensures.lines in
    record {
      checked =
          checked_next g.O.Spelled.calls g.O.Spelled.read c.reads_calls.ensures _ c.in-Some-entry._entry _ _ (lines_left c.first_line.result.1) _ so_far.checked next
          (sym c.entry.ensures ∙ c.in-Some-entry.is);
      counted = omega (arith, so_far.counted, ap length next);
    }

pub returns-clause-spelled : goal.returns-clause-spelled
returns-clause-spelled g c =
    checked_all g.O.Spelled.calls g.O.Spelled.read c.reads_calls.ensures _ _ _ c.loop-rest.invariant.checked (ap lines_left c.in_default.is)

pub returns-clause-read : goal.returns-clause-read
returns-clause-read g c =
    let reads = c.reads_calls.ensures in
    let spelled = checked_all g.O.Spelled.calls g.O.Spelled.read reads _ _ _ c.loop-rest.invariant.checked (ap lines_left c.in_default.is) in
    let P : List (List (List ℕ)) → Type 0 = AllLinesRead g.O.Spelled.read in
    subst P (sym spelled.1) (all_read g.O.Spelled.calls g.O.Spelled.read reads _ spelled.0)

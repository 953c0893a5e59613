use Rattle.std.proofs.Common.{true, false, ◌∙◌}
use Rattle.spin_text.proofs.Cuts.{lines_after}
use Rattle.spin_text.proofs.words.first_line.Goals.{then-is_empty, else-is_empty}
use Rattle.spin_text.proofs.words.first_line.Goals as goal

pub returns-after-is_empty-clause-lines : goal.returns-after-is_empty-clause-lines
returns-after-is_empty-clause-lines c =
    let cut = c.cut.ensures.parts in
    elim c.if-is_empty.branch [
      | then-is_empty w ↦ lines_after c.args.bytes.now _ _ c.in-Some.further cut c.in-Some.is _ true (w.if-is_empty.ensures) w.result-is
      | else-is_empty w ↦ lines_after c.args.bytes.now _ _ c.in-Some.further cut c.in-Some.is _ false (w.if-is_empty.ensures) (w.result-is ∙ c.in-Some.is)
    ]

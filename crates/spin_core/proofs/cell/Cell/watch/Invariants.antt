use Rattle.spin_core.proofs.cell.Cell.watch.Given as goal

abbrev pub ghost-start : goal.ghost-start
ghost-start g a = g.name

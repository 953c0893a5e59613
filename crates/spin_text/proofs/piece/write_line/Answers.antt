use Rattle.std.proofs.Common.{arith}
use Rattle.std.proofs.lemmas.Slice.{take-put_mid}
use Rattle.spin_text.proofs.Appended.{but_all}
use Rattle.spin_text.proofs.piece.write_line.Goals as goal

pub returns-then-end-le-FULL-clause-bytes : goal.returns-then-end-le-FULL-clause-bytes
returns-then-end-le-FULL-clause-bytes g c = grind (arith, take-put_mid, but_all)

use Rattle.spin_text.proofs.Calls.{barrier_reads}
use Rattle.spin_text.proofs.objects.BarrierObjectSpelled.reads_calls.Goals as goal

pub returns : goal.returns
returns c = barrier_reads

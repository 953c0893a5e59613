use Rattle.spin_text.proofs.Calls.{fair_reads}
use Rattle.spin_text.proofs.objects.FairU64Spelled.reads_calls.Goals as goal

pub returns : goal.returns
returns c = fair_reads

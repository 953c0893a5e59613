use Rattle.spin_text.proofs.Calls.{rw_reads}
use Rattle.spin_text.proofs.objects.RwU64Spelled.reads_calls.Goals as goal

pub returns : goal.returns
returns c = rw_reads

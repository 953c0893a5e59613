use Rattle.spin_text.proofs.Calls.{once_reads}
use Rattle.spin_text.proofs.objects.OnceObjectU64Spelled.reads_calls.Goals as goal

pub returns : goal.returns
returns c = once_reads

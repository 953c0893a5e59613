use Rattle.spin_text.proofs.Calls.{flag_reads}
use Rattle.spin_text.proofs.objects.FlagU64Spelled.reads_calls.Goals as goal

pub returns : goal.returns
returns c = flag_reads

use Rattle.spin_text.proofs.Calls.{ticket_reads}
use Rattle.spin_text.proofs.objects.TicketU64Spelled.reads_calls.Goals as goal

pub returns : goal.returns
returns c = ticket_reads

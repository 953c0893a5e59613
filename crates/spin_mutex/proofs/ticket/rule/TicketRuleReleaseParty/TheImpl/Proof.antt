-- `TicketRule` meets the contract of `Release`. The lemma `released` proves that.
use Rattle.std.proofs.Common.{[], ◌∷◌, refl}
use mir.Syntax.{a_type, method}
use contract.Running.{within}
use denote.Param.{layouts}
use denote.Triple.Spec.{triple_of}
use denote.Triple.Table.{widened}
use Rattle.spin_core.proofs.guard.Released.{released}
use Rattle.spin_core.proofs.tie.Laws.{numbered, opened, traced_over}
use Rattle.spin_mutex.specs.contracts.ticket.rule.TicketRule as F
use denote.RattleType.{RattleType}
use denote.Builtin.{u64}
use Rattle.spin_step.specs.contracts.ticket_calls.TicketCall as call
use Rattle.spin_step.specs.contracts.ticket_calls.TicketPoint as point
use Rattle.spin_step.specs.contracts.place.Seat as seat
use Rattle.spin_mutex.specs.contracts.ticket.rule.TicketRuleRuleParty.TheImpl as rule
use Rattle.spin_mutex.specs.contracts.ticket.rule.TicketRuleUsesParty.TheImpl as uses
use Rattle.spin_mutex.proofs.ticket.rule.TicketRuleRuleParty.TheImpl.Met as rule_met
use Rattle.spin_mutex.specs.contracts.ticket.rule.TicketRuleReleaseParty.TheImpl as block
use Rattle.spin_mutex.specs.contracts.ticket.rule.TicketRuleReleaseParty.TheImpl.Laws.{same-law}
use Rattle.spin_mutex.specs.contracts.ticket.rule.TicketRuleReleaseParty.release as own
use Rattle.spin_mutex.proofs.ticket.rule.TicketRuleReleaseParty.release.Met.{met}
use Rattle.spin_mutex.proofs.ticket.rule.TicketRuleReleaseParty.release.Symbol.{name, as_method}
use Rattle.spin_mutex.proofs.ticket.rule.TicketRuleReleaseParty.TheImpl.Statement.{statement}

abbrev V : RattleType
V = seat.the_row call.the_row point.the_row

pub bound : statement
bound γ wired T LT M 𝓤 𝓛 𝓜 𝓡 = let at = layouts (a_type ∷ []) (T, tt) in let called = method (block.dict T) 0 (layouts [] tt) in record {
  same = same-law T;
  Self-Key-lives = (rule_met.bound γ T LT M 𝓤 𝓛 𝓜 𝓡).Self-Key-lives;
  Self-Second-lives = (rule_met.bound γ T LT M 𝓤 𝓛 𝓜 𝓡).Self-Second-lives;
  release = released F.the_row (numbered V) (opened T) (traced_over call.the_row T u64) T (rule.ghosts T) 𝓛 𝓜 𝓡 (γ called) (block.ghosts T) uses.ghosts (block.dict T) (rule.dict T) uses.dict
      (widened 𝓤 𝓛.H (triple_of 𝓛 (own.signature T) (own.spec T 𝓛 𝓜.mem 𝓡.returns)) 𝓜 𝓡 γ (γ (name at)) (γ called) (as_method γ wired called refl) (met 𝓤 𝓛 𝓜 (within 𝓤 𝓛.H 𝓜 𝓡 γ) wired T LT));
}

-- `RwRule` meets the contract of `Release`. The lemma `released` proves that.
use Rattle.std.proofs.Common.{[], ◌∷◌, refl}
use mir.Syntax.{a_type, method}
use contract.Running.{within}
use denote.Builtin.{unit}
use Rattle.spin_step_more.specs.contracts.rw_calls.RwCall as call
use denote.Param.{layouts}
use denote.Triple.Spec.{triple_of}
use denote.Triple.Table.{widened}
use Rattle.spin_core.proofs.guard.Released.{released}
use Rattle.spin_core.proofs.tie.Laws.{numbered, opened, traced_over}
use Rattle.spin_step.specs.contracts.place.Seat as seat
use Rattle.spin_step_more.specs.contracts.rw_calls.RwPoint as point
use denote.RattleType.{RattleType}
use Rattle.spin_rwlock.specs.contracts.rwlock.rule.RwRule as F
use Rattle.spin_rwlock.specs.contracts.rwlock.rule.RwRuleRuleParty.TheImpl as rule
use Rattle.spin_rwlock.specs.contracts.rwlock.rule.RwRuleUsesParty.TheImpl as uses
use Rattle.spin_rwlock.proofs.rwlock.rule.RwRuleRuleParty.TheImpl.Met as rule_met
use Rattle.spin_rwlock.specs.contracts.rwlock.rule.RwRuleReleaseParty.TheImpl as block
use Rattle.spin_rwlock.specs.contracts.rwlock.rule.RwRuleReleaseParty.TheImpl.Laws.{same-law}
use Rattle.spin_rwlock.specs.contracts.rwlock.rule.RwRuleReleaseParty.release as own
use Rattle.spin_rwlock.proofs.rwlock.rule.RwRuleReleaseParty.release.Met.{met}
use Rattle.spin_rwlock.proofs.rwlock.rule.RwRuleReleaseParty.release.Symbol.{name, as_method}
use Rattle.spin_rwlock.proofs.rwlock.rule.RwRuleReleaseParty.TheImpl.Statement.{statement}

abbrev V : RattleType
V = seat.the_row call.the_row point.the_row

pub bound : statement
bound γ wired T LT M 𝓤 𝓛 𝓜 𝓡 = let at = layouts (a_type ∷ []) (T, tt) in let called = method (block.dict T) 0 (layouts [] tt) in record {
  same = same-law T;
  Self-Key-lives = (rule_met.bound γ T LT M 𝓤 𝓛 𝓜 𝓡).Self-Key-lives;
  Self-Second-lives = (rule_met.bound γ T LT M 𝓤 𝓛 𝓜 𝓡).Self-Second-lives;
  release = released (F.the_row T) (numbered V) (opened T) (traced_over call.the_row T unit) T (rule.ghosts T) 𝓛 𝓜 𝓡 (γ called) (block.ghosts T) (uses.ghosts T) (block.dict T) (rule.dict T) (uses.dict T)
      (widened 𝓤 𝓛.H (triple_of 𝓛 (own.signature T) (own.spec T 𝓛 𝓜.mem 𝓡.returns)) 𝓜 𝓡 γ (γ (name at)) (γ called) (as_method γ wired called refl) (met 𝓤 𝓛 𝓜 (within 𝓤 𝓛.H 𝓜 𝓡 γ) wired T LT));
}

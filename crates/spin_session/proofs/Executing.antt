-- A cell whose table refines the plain lock gives what sessions use.
use Rattle.std.proofs.Common.{◌≡◌, ◌≢◌, ℕ, sym, ◌∙◌}
use Rattle.spin_core.specs.Cell.{writes, use_of}
use Rattle.spin_core.proofs.tie.Ties as tie
use Rattle.spin_step.specs.Acts.{Table}
use Rattle.spin_step.specs.declared.answer.Answer.{Answer}
use Rattle.spin_session.specs.Meaning.{Meaning, Beside, just_one, table_at, use_at, use_of_party, Refines, RefinesOn, RunsOn, RunsTable, ways_of}
use Rattle.spin_session.specs.Operating.{Executes}
use Rattle.spin_session.proofs.Leaping as leaping
use Rattle.spin_session.proofs.Refining as refining
use Rattle.spin_session.proofs.Seen.{seen_last, left_last, sees_on}

pub executes_on : {W V C L S : Type 0} (k : Beside S) (t : ℕ → V → Table W V C L (Answer V)) (s : Meaning C L) → ((start : ℕ) (value : V) → RefinesOn (t start value) k s)
    → Executes k t s (RunsOn t s k) (ways_of s)
executes_on k t s d = record {
  uses = λ key view. sym (tie.same_use (use_at s) view);
  named = λ key name same n x vs meets. meets.0.0 ∙ same;
  turns = λ key view shown c l h o is at rests quiet. refining.operates k (table_at t key) s (d key.start key.value) key view shown c l h o is at rests quiet;
  gives = λ key view x c h o is at may able held. refining.operates_giving k (table_at t key) s (d key.start key.value) key view x c h at may able held o is;
  leaps = λ key view shown c h last old new fuses is may quiet. leaping.leaps k (table_at t key) s (d key.start key.value) key fuses.0 c h last old new fuses may view shown is quiet;
  peeks = λ second key view shown. refining.keeps_peek k (table_at t key) s (d key.start key.value) key view shown;
  sees = λ key view view' before after kept uses. sees_on (use_of (use_of_party s) view') before after (λ e. uses (tie.same_use (use_at s) view' ∙ e)) kept.0;
  lasts = λ key view view' before after seen kept known stops.
      let u = use_of (use_of_party s) view in let u' = use_of (use_of_party s) view' in
      let not : u ≡ writes → u' ≢ writes = λ e e'. stops (tie.same_use (use_at s) view ∙ e) (tie.same_use (use_at s) view' ∙ e') in
      (seen_last key seen.entries u u' before after known not kept.0, λ uses. left_last key seen.entries u u' before after known not kept.0 (λ e. uses (tie.same_use (use_at s) view ∙ e)));
  goes = λ key view c l h n at rests. refining.rests_on k (table_at t key) s (d key.start key.value) key view c l h n at rests;
  rests = λ key view out. refining.leaves k (table_at t key) s (d key.start key.value) key view out;
}

-- the same for a table of one word
pub executes : {W V C L : Type 0} (t : V → Table W V C L (Answer V)) (s : Meaning C L) → ((v : V) → Refines (t v) s) → Executes just_one (λ start. t) s (RunsTable (λ start. t) s) (ways_of s)
executes t s d = executes_on just_one (λ start. t) s (λ start v. refining.refines_on (t v) s (d v))

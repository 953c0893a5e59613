-- A call without a pass. Assumes `Logic`.
use Rattle.spin_core.proofs.Plain.{RattleType, param, usize, numbers, beside, answers, own, own_laws}
use Rattle.std.specs.Prelude.{◌≤◌}
use Rattle.spin_step.specs.declared.answer.Answer.TheVariants.{Count}
use Rattle.spin_step_more.specs.declared.rw_calls.RwCall.TheVariants.{ReaderCount}
use Rattle.spin_step_more.specs.Readers.{reader_limit}
use Rattle.spin_rwlock.specs.RwPasses.{OneCall, opening}
use Rattle.spin_rwlock.proofs.Looks.{Locked, entry}
use Rattle.spin_rwlock.proofs.rwlock.RwLock+T+R.count_readers.Met as look
use Rattle.spin_rwlock.proofs.rwlock.forget.Met as forget
use Rattle.spin_rwlock.proofs.rwlock.RwLock+T+R.reader_count.Statement.{statement}
use Rattle.spin_rwlock.proofs.rwlock.RwLock+T+R.reader_count.Code as code

pub reader_count_spec : {M : Type 1} → statement M
reader_count_spec 𝓤 𝓛 𝓜 𝓡 wired T S LT LS = let R : RattleType = param 0 T in let Q : RattleType = param 1 S in
    answers 𝓛 𝓜 𝓡 T S (Locked R Q) (λ ℓ. usize) (entry R) (λ κ m a seen. OneCall ReaderCount (Count a) (opening m) seen × (a ≤ reader_limit)) _ _ _ _ _ (code.unfolded 𝓤 𝓛.H 𝓜 𝓡 wired (T, (S, tt))) (λ κ. numbers)
    (λ κ m a seen it. beside 𝓛 (entry R) (OneCall ReaderCount (Count a) (opening m)) seen (a ≤ reader_limit) it.1 it.0)
    (λ κs qs bounds m. look.met 𝓤 𝓛 𝓜 𝓡 (code.calls-spin_rwlock::rwlock::RwLock+T+R::count_readers 𝓡.env wired) (own 0 T) (own 1 S) (own_laws 0 T LT) (own_laws 1 S LS) ((κs, qs, bounds, (m, tt), (_, tt)), tt))
    (λ κ q seen. forget.met 𝓤 𝓛 𝓜 𝓡 (code.calls-spin_rwlock::rwlock::forget 𝓡.env wired) (own 0 T) (own_laws 0 T LT) (((κ, tt), (q, tt), tt, (seen, tt), (_, tt)), tt))

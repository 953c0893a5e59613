-- A call without a pass. Assumes `Logic`.
use Rattle.spin_core.proofs.Plain.{RattleType, param, bool, flags, alone, answers, own, own_laws}
use Rattle.spin_step.specs.declared.answer.Answer.TheVariants.{Is}
use Rattle.spin_step_more.specs.declared.rw_calls.RwCall.TheVariants.{IsLocked}
use Rattle.spin_rwlock.specs.RwPasses.{OneCall, opening}
use Rattle.spin_rwlock.proofs.Looks.{Locked, entry}
use Rattle.spin_rwlock.proofs.rwlock.RwLock+T+R.look.Met as look
use Rattle.spin_rwlock.proofs.rwlock.forget.Met as forget
use Rattle.spin_rwlock.proofs.rwlock.RwLock+T+R.is_locked.Statement.{statement}
use Rattle.spin_rwlock.proofs.rwlock.RwLock+T+R.is_locked.Code as code

pub is_locked_spec : {M : Type 1} → statement M
is_locked_spec 𝓤 𝓛 𝓜 𝓡 wired T S LT LS = let R : RattleType = param 0 T in let Q : RattleType = param 1 S in
    answers 𝓛 𝓜 𝓡 T S (Locked R Q) (λ ℓ. bool) (entry R) (λ κ m a. OneCall IsLocked (Is a) (opening m)) _ _ _ _ _ (code.unfolded 𝓤 𝓛.H 𝓜 𝓡 wired (T, (S, tt))) (λ κ. flags)
    (λ κ m a. alone 𝓛 (entry R) (OneCall IsLocked (Is a) (opening m)))
    (λ κs qs bounds m. look.met 𝓤 𝓛 𝓜 𝓡 (code.calls-spin_rwlock::rwlock::RwLock+T+R::look 𝓡.env wired) (own 0 T) (own 1 S) (own_laws 0 T LT) (own_laws 1 S LS) ((κs, qs, bounds, (m, tt), (_, tt)), tt))
    (λ κ q seen. forget.met 𝓤 𝓛 𝓜 𝓡 (code.calls-spin_rwlock::rwlock::forget 𝓡.env wired) (own 0 T) (own_laws 0 T LT) (((κ, tt), (q, tt), tt, (seen, tt), (_, tt)), tt))

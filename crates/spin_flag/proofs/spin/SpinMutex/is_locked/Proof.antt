-- A call without a pass. Assumes `Logic`.
use Rattle.spin_core.proofs.Plain.{RattleType, param, bool, answers, alone, flags, own, own_laws}
use Rattle.spin_step.specs.contracts.flag_calls.FlagCall as call
use Rattle.spin_session.specs.Ending.{entry}
use Rattle.spin_flag.specs.Passes.{IsLocked, Is, OneCall, opening}
use Rattle.spin_flag.specs.contracts.spin.SpinMutex as lock
use Rattle.spin_flag.proofs.spin.SpinMutex.look.Met as look
use Rattle.spin_flag.proofs.spin.forget.Met as forget
use Rattle.spin_flag.proofs.spin.SpinMutex.is_locked.Statement.{statement}
use Rattle.spin_flag.proofs.spin.SpinMutex.is_locked.Code as code

pub is_locked_spec : {M : Type 1} → statement M
is_locked_spec 𝓤 𝓛 𝓜 𝓡 wired T S LT LS = let R : RattleType = param 0 T in let E : RattleType = entry call.the_row R in
    answers 𝓛 𝓜 𝓡 T S (lock.the_row R (param 1 S)) (λ ℓ. bool) E (λ κ m a. OneCall IsLocked (Is a) (opening m)) _ _ _ _ _ (code.unfolded 𝓤 𝓛.H 𝓜 𝓡 wired (T, (S, tt))) (λ κ. flags) (λ κ m a. alone 𝓛 E (OneCall IsLocked (Is a) (opening m)))
    (λ κs qs bounds m. look.met 𝓤 𝓛 𝓜 𝓡 (code.calls-spin_flag::spin::SpinMutex::look 𝓡.env wired) (own 0 T) (own 1 S) (own_laws 0 T LT) (own_laws 1 S LS) ((κs, qs, bounds, (m, tt), (_, tt)), tt))
    (λ κ q seen. forget.met 𝓤 𝓛 𝓜 𝓡 (code.calls-spin_flag::spin::forget 𝓡.env wired) (own 0 T) (own_laws 0 T LT) (((κ, tt), (q, tt), tt, (seen, tt), (_, tt)), tt))

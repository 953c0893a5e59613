use Rattle.spin_core.proofs.trace.Walk.{ℕ, [], ◌∷◌, refl, ‵, some, later, ◌$◌, !, by, keep, fjoin, pick, use0, await, no_more, and_then, returns, alloc_all, pass_all, free_all, look_at, get, sets, agg, unit, nothing, token, Token, token_made}
use Rattle.spin_core.proofs.Walking.{walks}
use Rattle.spin_history.specs.History.{blank_owns}
use Rattle.spin_history.proofs.Steps as steps
use Rattle.spin_history.specs.contracts.history.BlankLog.new.{ended, clauses}
use Rattle.spin_history.proofs.history.BlankLog.new.Statement.{statement}
use Rattle.spin_history.proofs.history.BlankLog.new.Code as code

pub new_spec : {M : Type 1} → statement M
new_spec 𝓤 𝓛 𝓜 𝓡 wired =
    walks 𝓛 ended (clauses 𝓛 𝓜.mem 𝓡.returns) 𝓜 𝓡 tt _ _ (code.unfolded 𝓤 𝓛.H 𝓜 𝓡 wired)
    (λ κs. tt) (λ κs qs bounds a gh are Post out. keep ! (0 ∷ []) $ alloc_all ! (λ l. pass_all ! refl tt $
    use0 𝓛 (later (some (λ (γ : ℕ). ‵ (blank_owns γ)))) (steps.begins 𝓛) $ await ! tt $ pick ! (λ γ.
    use0 𝓛 (‵ ((Token unit).own_val (record {}, tt) (token ∷ []))) (token_made unit 𝓛) $ fjoin ! $
    sets ! (agg ! (no_more !)) refl (tt, tt) $ sets ! (agg ! (and_then ! (get ! refl) (no_more !))) refl (tt, (tt, tt)) $ nothing ! $
    returns ! (look_at ! 0 refl) $ free_all ! refl $ keep ! (2 ∷ 1 ∷ 0 ∷ []) $ by ! (out token (record { marker = record {}; name = γ })))))

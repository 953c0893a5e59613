use Rattle.spin_core.proofs.trace.Walk.{List, ◌≡◌, [], ◌∷◌, refl, ‵, ◌$◌, !, by, keep, fjoin, use0, no_more, and_then, returns, alloc_all, pass_all, free_all, look_at, get, sets, agg, nothing, param, Tuple, token, Token, token_made}
use Rattle.spin_core.proofs.WalkSteps.{says}
use Rattle.spin_core.proofs.Walking.{walks}
use Rattle.spin_core.specs.Logs.{known_owns}
use Rattle.spin_history.specs.contracts.history.Snapshot.nothing.{ended, clauses}
use Rattle.spin_history.proofs.history.Snapshot.nothing.Statement.{statement}
use Rattle.spin_history.proofs.history.Snapshot.nothing.Code as code

pub nothing_spec : {M : Type 1} → statement M
unfolding known_owns
nothing_spec 𝓤 𝓛 𝓜 𝓡 wired T L _ _ g d _ =
    let T' = param 0 T in let L' = param 1 L in let All = Tuple (T' ∷ L' ∷ []) in
    walks 𝓛 (ended T L g d) (clauses T L g d 𝓛 𝓜.mem 𝓡.returns) 𝓜 𝓡 tt _ _ (code.unfolded 𝓤 𝓛.H 𝓜 𝓡 wired (T, (L, tt)) d)
    (λ κs. tt) (λ κs qs bounds a gh are Post out.
    let none : List T.Denot = [] in keep ! (0 ∷ []) $ alloc_all ! (λ l. pass_all ! refl tt $
    nothing ! $ use0 𝓛 (‵ ((Token All).own_val (record {}, tt) (token ∷ []))) (token_made All 𝓛) $ fjoin ! $
    sets ! (agg ! (no_more !)) refl (tt, tt) $ sets ! (agg ! (and_then ! (get ! refl) (no_more !))) refl (tt, (tt, tt)) $
    says ! (none ≡ none) refl $
    returns ! (look_at ! 0 refl) $ free_all ! refl $ keep ! (2 ∷ 1 ∷ 0 ∷ []) $ by ! (out token (record { marker = record {}; entries = [] }))))

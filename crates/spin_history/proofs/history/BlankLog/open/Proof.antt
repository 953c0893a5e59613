use Rattle.spin_core.proofs.trace.Walk.{List, ◌≡◌, [], ◌∷◌, refl, ‵, given, ftrue, ◌$◌, !, by, move, keep, fsplit, fjoin, learn, use0, use1, no_more, and_then, returns, alloc_all, pass_all, free_all, look_at, get, sets, agg, unit, param, Tuple, token, Token, token_told, token_made}
use Rattle.spin_core.proofs.WalkSteps.{says, last_fact}
use Rattle.spin_core.proofs.Walking.{walks}
use Rattle.spin_core.specs.Logs.{log_owns}
use Rattle.spin_history.proofs.Steps as steps
use Rattle.spin_history.specs.contracts.history.BlankLog.open.{ended, clauses}
use Rattle.spin_history.proofs.history.BlankLog.open.Statement.{statement}
use Rattle.spin_history.proofs.history.BlankLog.open.Code as code

pub open_spec : {M : Type 1} → statement M
open_spec 𝓤 𝓛 𝓜 𝓡 wired T L _ _ g d _ =
    let T' = param 0 T in let All = Tuple (T' ∷ param 1 L ∷ []) in let none : List T.Denot = [] in
    walks 𝓛 (ended T L g d) (clauses T L g d 𝓛 𝓜.mem 𝓡.returns) 𝓜 𝓡 (λ κs x f. refl, tt) _ _ (code.unfolded 𝓤 𝓛.H 𝓜 𝓡 wired (T, (L, tt)) d)
    (λ κs. (((λ x. token ∷ []), (λ x vs is. token_told unit vs is.0)), tt)) (λ κs qs bounds a gh are Post out.
    move ! (2 ∷ []) $ use1 𝓛 (given (a.0.name ≡ g.name) (‵ ftrue)) (last_fact 𝓤 _ 2 (_, (_, tt))) $ learn ! (λ asked.
    move ! (2 ∷ []) $ fsplit ! $ fsplit ! $ keep ! (1 ∷ 4 ∷ []) $
    alloc_all ! (λ l. pass_all ! refl ((tt, (tt, tt)), tt) $ use1 𝓛 (‵ (log_owns T'.coded.code g.name [])) (steps.opens_as 𝓛 T'.coded g.name a.0.name asked) $
    use0 𝓛 (‵ ((Token All).own_val (record {}, tt) (token ∷ []))) (token_made All 𝓛) $ fjoin ! $
    sets ! (agg ! (no_more !)) refl (tt, tt) $ sets ! (agg ! (and_then ! (get ! refl) (no_more !))) refl (tt, (tt, tt)) $
    says ! (none ≡ none) refl $
    returns ! (look_at ! 0 refl) $ free_all ! refl $ keep ! (2 ∷ 1 ∷ 0 ∷ []) $ by ! (out token (record { marker = record {}; entries = [] })))))

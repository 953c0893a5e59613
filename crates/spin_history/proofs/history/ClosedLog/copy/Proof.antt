use Rattle.spin_core.proofs.trace.Walk.{◌≡◌, [], ◌∷◌, refl, named, ‵, ◌$◌, !, by, move, keep, drop, fsplit, fjoin, use0, no_more, and_then, returns, alloc_all, pass_all, free_all, look_at, get, sets, agg, unhide, param, Tuple, token, Token, token_made}
use Rattle.spin_core.proofs.WalkSteps.{says}
use Rattle.spin_core.proofs.Walking.{walks, as_shr}
use Rattle.spin_history.specs.contracts.history.ClosedLog as ClosedLog
use Rattle.spin_history.specs.contracts.history.ClosedLog.copy.{ended, clauses}
use Rattle.spin_history.proofs.history.ClosedLog.copy.Statement.{statement}
use Rattle.spin_history.proofs.history.ClosedLog.copy.Code as code

pub copy_spec : {M : Type 1} → statement M
copy_spec 𝓤 𝓛 𝓜 𝓡 wired T L _ _ g d _ =
    let T' = param 0 T in let L' = param 1 L in let All = Tuple (T' ∷ L' ∷ []) in
    walks 𝓛 (ended T L g d) (clauses T L g d 𝓛 𝓜.mem 𝓡.returns) 𝓜 𝓡 (λ κs x f. refl, tt) _ _ (code.unfolded 𝓤 𝓛.H 𝓜 𝓡 wired (T, (L, tt)) d)
    (λ κs. (as_shr (named 0) κs.0 (ClosedLog.the_row T' L' g), tt)) (λ κs qs bounds a gh are Post out. let es = a.0.now.entries in
    move ! (1 ∷ []) $ fsplit ! $ fsplit ! $ keep ! (1 ∷ 3 ∷ []) $
    alloc_all ! (λ l. pass_all ! refl ((tt, tt), tt) $ unhide ! $ fsplit ! $ drop ! $
    use0 𝓛 (‵ ((Token All).own_val (record {}, tt) (token ∷ []))) (token_made All 𝓛) $ fjoin ! $
    sets ! (agg ! (no_more !)) refl (tt, tt) $ sets ! (agg ! (and_then ! (get ! refl) (no_more !))) refl (tt, (tt, tt)) $
    says ! (es ≡ es) refl $
    returns ! (look_at ! 0 refl) $ free_all ! refl $ keep ! (2 ∷ 1 ∷ 0 ∷ []) $ by ! (out token (record { marker = record {}; entries = es }))))

use Rattle.spin_core.proofs.trace.Walk.{◌≡◌, [], ◌∷◌, refl, named, ‵, ◌$◌, !, by, move, keep, drop, fsplit, fjoin, learn, pick, use0, no_more, and_then, returns, alloc_all, pass_all, free_all, look_at, get, sets, agg, RattleType, unhide, param, token, Token, token_made}
use Rattle.spin_core.proofs.trace.Steps as steps
use Rattle.spin_core.specs.contracts.trace.Watch as Watch
use Rattle.spin_core.specs.contracts.trace.Watch.under.{ended, clauses}
use Rattle.spin_core.proofs.trace.Watch.under.Statement.{statement}
use Rattle.spin_core.proofs.trace.Watch.under.Code as code
use Rattle.spin_core.proofs.WalkSteps.{says}
use Rattle.spin_core.proofs.Walking.{walks, as_shr}
use Rattle.spin_core.proofs.Lemmas.{cite}

pub under_spec : {M : Type 1} → statement M
under_spec 𝓤 𝓛 𝓜 𝓡 wired T L = let T' : RattleType = param 0 T in let Sr : RattleType = Watch.the_row T' in
    walks 𝓛 (ended T) (clauses T 𝓛 𝓜.mem 𝓡.returns) 𝓜 𝓡 (λ κs x f. refl, tt) _ _ (code.unfolded 𝓤 𝓛.H 𝓜 𝓡 wired (T, tt))
    (λ κs. (as_shr (named 0) κs.0 Sr, tt)) (λ κs qs bounds a gh are Post out.
    let me = a.0.now in move ! (1 ∷ []) $ fsplit ! $ fsplit ! $ keep ! (1 ∷ 3 ∷ []) $
    alloc_all ! (λ l. pass_all ! refl ((tt, tt), tt) $ unhide ! $ fsplit ! $ drop ! $
    cite _ (steps.renamed 𝓛 T'.coded me.name gh me.entries) $ pick ! (λ m. learn ! (λ so.
    use0 𝓛 (‵ ((Token T').own_val (record {}, tt) (token ∷ []))) (token_made T' 𝓛) $ fjoin ! $
    sets ! (agg ! (no_more !)) refl (tt, tt) $ sets ! (agg ! (and_then ! (get ! refl) (no_more !))) refl (tt, (tt, tt)) $
    says ! ((gh ≡ gh) × (me.name ≡ gh → m ≡ me.entries)) (refl, so) $
    returns ! (look_at ! 0 refl) $ free_all ! refl $ keep ! (2 ∷ 1 ∷ 0 ∷ []) $ by ! (out token (record { marker = record {}; name = gh; entries = m }))))))

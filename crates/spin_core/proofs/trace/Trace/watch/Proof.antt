use Rattle.spin_core.proofs.trace.Walk.{◌≡◌, [], ◌∷◌, refl, named, ‵, ◌$◌, !, by, move, keep, drop, fsplit, fjoin, use0, no_more, and_then, returns, alloc_all, pass_all, free_all, look_at, get, sets, obor_close, shr_bor-open, agg, RattleType, unhide, param, token, Token, token_made}
use Rattle.spin_core.proofs.trace.Steps as steps
use Rattle.spin_core.specs.contracts.trace.Trace as Trace
use Rattle.spin_core.specs.contracts.trace.Trace.watch.{ended, clauses}
use Rattle.spin_core.proofs.trace.Trace.watch.Statement.{statement}
use Rattle.spin_core.proofs.trace.Trace.watch.Code as code
use Rattle.spin_core.proofs.WalkSteps.{says}
use Rattle.spin_core.proofs.Walking.{walks, as_shr}
use Rattle.spin_core.proofs.Lemmas.{cite}

pub watch_spec : {M : Type 1} → statement M
watch_spec 𝓤 𝓛 𝓜 𝓡 wired T S L N = let T' : RattleType = param 0 T in let S' : RattleType = param 1 S in
    let cv = T'.coded in let Lr : RattleType = Trace.the_row T' S' in
    walks 𝓛 (ended T S) (clauses T S 𝓛 𝓜.mem 𝓡.returns) 𝓜 𝓡 (λ κs x f. refl, tt) _ _ (code.unfolded 𝓤 𝓛.H 𝓜 𝓡 wired (T, (S, tt)))
    (λ κs. (as_shr (named 0) κs.0 Lr, tt)) (λ κs qs bounds a gh are Post out.
    let me = a.0.now in fsplit ! $ move ! (2 ∷ []) $ fsplit ! $ fsplit ! $ keep ! (1 ∷ 3 ∷ 4 ∷ []) $
    alloc_all ! (λ l. pass_all ! refl ((tt, tt), tt) $ unhide ! $ fsplit ! $ drop ! $
    shr_bor-open ! tt (steps.part_halves 𝓛 cv me.name me.entries) (λ q. move ! (1 ∷ []) $
    cite _ (steps.shows 𝓛 cv me.name q me.entries) $ move ! (2 ∷ 0 ∷ []) $ obor_close ! tt $ drop ! $ move ! (1 ∷ []) $
    use0 𝓛 (‵ ((Token T').own_val (record {}, tt) (token ∷ []))) (token_made T' 𝓛) $ fjoin ! $
    sets ! (agg ! (no_more !)) refl (tt, tt) $ sets ! (agg ! (and_then ! (get ! refl) (no_more !))) refl (tt, (tt, tt)) $
    move ! (1 ∷ 2 ∷ []) $ fjoin ! $ move ! (1 ∷ []) $
    says ! ((me.name ≡ me.name) × (me.entries ≡ me.entries)) (refl, refl) $
    returns ! (look_at ! 0 refl) $ free_all ! refl $ keep ! (2 ∷ 1 ∷ 0 ∷ []) $ by ! (out token (record { marker = record {}; name = me.name; entries = me.entries })))))

use Rattle.spin_core.proofs.trace.Walk.{◌≡◌, ℕ, sym, [], ◌∷◌, refl, named, ‵, raw, ◌$◌, !, by, move, keep, drop, fsplit, fjoin, learn, pick, use0, use1, no_more, and_then, returns, alloc_all, pass_all, free_all, look_at, get, sets, agg, fact, rewrite, RattleType, unhide, param, token, Token, token_made}
use denote.Steps.{heard}
use Rattle.spin_core.specs.Logs.{known_owns, KnowsBoth}
use Rattle.spin_core.proofs.trace.Steps as steps
use Rattle.spin_core.specs.contracts.trace.Watch as Watch
use Rattle.spin_core.specs.contracts.trace.Watch.later.{ended, clauses}
use Rattle.spin_core.proofs.trace.Watch.later.Statement.{statement}
use Rattle.spin_core.proofs.trace.Watch.later.Code as code
use Rattle.spin_core.proofs.WalkSteps.{says, last_fact}
use Rattle.spin_core.proofs.Walking.{walks, as_shr}
use Rattle.spin_core.proofs.Lemmas.{cite}

pub later_spec : {M : Type 1} → statement M
later_spec 𝓤 𝓛 𝓜 𝓡 wired T L = let T' : RattleType = param 0 T in
    let cv = T'.coded in let Sr : RattleType = Watch.the_row T' in
    walks 𝓛 (ended T) (clauses T 𝓛 𝓜.mem 𝓡.returns) 𝓜 𝓡 (λ κs x f. refl, (λ κs x f. refl, tt)) _ _ (code.unfolded 𝓤 𝓛.H 𝓜 𝓡 wired (T, tt))
    (λ κs. (as_shr (named 0) κs.0 Sr, (as_shr (named 1) κs.1.0 Sr, tt))) (λ κs qs bounds a gh are Post out.
    let me = a.0.now in let other = a.1.0.now in let Alike : Type 0 = me.name ≡ other.name in
    move ! (2 ∷ []) $ use1 𝓛 (raw (fact 𝓤 Alike)) (last_fact 𝓤 (fact 𝓤 Alike) 1 (_, tt)) $ heard ! Alike (λ asked. move ! (1 ∷ []) $
    fsplit ! $ fsplit ! $ move ! (2 ∷ []) $ fsplit ! $ fsplit ! $ keep ! (1 ∷ 4 ∷ 5 ∷ []) $
    alloc_all ! (λ l. pass_all ! refl ((tt, tt), ((tt, tt), tt)) $ unhide ! $ fsplit ! $ drop ! $
    rewrite ! 0 (λ (z : ℕ). ‵ (known_owns cv.code z other.entries)) (sym asked) refl $ move ! (1 ∷ []) $
    unhide ! $ fsplit ! $ drop ! $
    cite _ (steps.joins 𝓛 cv me.name me.entries other.entries) $ pick ! (λ m. learn ! (λ so.
    use0 𝓛 (‵ ((Token T').own_val (record {}, tt) (token ∷ []))) (token_made T' 𝓛) $ fjoin ! $
    sets ! (agg ! (no_more !)) refl (tt, tt) $ sets ! (agg ! (and_then ! (get ! refl) (no_more !))) refl (tt, (tt, tt)) $
    says ! ((me.name ≡ me.name) × KnowsBoth me.entries other.entries m) (refl, so) $
    returns ! (look_at ! 0 refl) $ free_all ! refl $ keep ! (2 ∷ 1 ∷ 0 ∷ []) $ by ! (out token (record { marker = record {}; name = me.name; entries = m })))))))

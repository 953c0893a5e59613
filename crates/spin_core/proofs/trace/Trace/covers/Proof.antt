use Rattle.spin_core.proofs.trace.Walk.{◌≡◌, ℕ, sym, [], ◌∷◌, refl, IsPrefix, named, vunit, ‵, raw, ◌$◌, !, by, move, keep, drop, split, fsplit, fjoin, learn, use1, feq_i, unit_lit, of_opd, returns, alloc_all, pass_all, free_all, look_at, sets, obor_close, shr_bor-open, fact, rewrite, RattleType, unhide, param}
use denote.Steps.{heard}
use Rattle.spin_core.specs.Logs.{known_owns}
use Rattle.spin_core.proofs.trace.Steps as steps
use Rattle.spin_core.specs.contracts.trace.Trace as Trace
use Rattle.spin_core.specs.contracts.trace.Watch as Watch
use Rattle.spin_core.specs.contracts.trace.Trace.covers.{ended, clauses}
use Rattle.spin_core.proofs.trace.Trace.covers.Statement.{statement}
use Rattle.spin_core.proofs.trace.Trace.covers.Code as code
use Rattle.spin_core.proofs.WalkSteps.{says, last_fact}
use Rattle.spin_core.proofs.Walking.{walks, as_shr}
use Rattle.spin_core.proofs.Lemmas.{cite}

pub covers_spec : {M : Type 1} → statement M
covers_spec 𝓤 𝓛 𝓜 𝓡 wired T S L N = let T' : RattleType = param 0 T in let S' : RattleType = param 1 S in
    let cv = T'.coded in let Lr : RattleType = Trace.the_row T' S' in let Wr : RattleType = Watch.the_row T' in
    walks 𝓛 (ended T S) (clauses T S 𝓛 𝓜.mem 𝓡.returns) 𝓜 𝓡 (λ κs x f. refl, (λ κs x f. refl, tt))
    _ _ (code.unfolded 𝓤 𝓛.H 𝓜 𝓡 wired (T, (S, tt)))
    (λ κs. (as_shr (named 0) κs.0 Lr, (as_shr (named 1) κs.1.0 Wr, tt))) (λ κs qs bounds a gh are Post out.
    let me = a.0.now in let watch = a.1.0.now in let Alike : Type 0 = me.name ≡ watch.name in
    move ! (2 ∷ []) $ use1 𝓛 (raw (fact 𝓤 Alike)) (last_fact 𝓤 (fact 𝓤 Alike) 2 (_, (_, tt))) $
    heard ! Alike (λ asked. move ! (1 ∷ []) $
    fsplit ! $ fsplit ! $ move ! (2 ∷ []) $ fsplit ! $ fsplit ! $ keep ! (1 ∷ 4 ∷ 5 ∷ []) $
    alloc_all ! (λ l. pass_all ! refl ((tt, tt), ((tt, tt), tt)) $ unhide ! $ fsplit ! $ drop ! $
    rewrite ! 0 (λ (z : ℕ). ‵ (known_owns cv.code z watch.entries)) (sym asked) refl $ move ! (1 ∷ []) $
    unhide ! $ fsplit ! $ drop ! $ move ! (2 ∷ []) $ fsplit ! $ move ! (2 ∷ []) $
    shr_bor-open ! tt (steps.part_halves 𝓛 cv me.name me.entries) (λ q. move ! (1 ∷ 3 ∷ []) $
    cite _ (steps.observes 𝓛 cv me.name q me.entries watch.entries) $ learn ! (λ so. split ! $ move ! (2 ∷ 0 ∷ []) $
    obor_close ! tt $ drop ! $ move ! (1 ∷ []) $ drop ! $ fjoin ! $
    sets ! (of_opd ! (unit_lit !)) refl (tt, tt) $ feq_i ! _ (vunit ∷ []) _ refl $
    says ! (IsPrefix watch.entries me.entries) so $
    returns ! (look_at ! 0 refl) $ free_all ! refl $ keep ! (2 ∷ 1 ∷ 0 ∷ []) $ by ! (out vunit tt))))))

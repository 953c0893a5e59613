use Rattle.spin_core.proofs.trace.Walk.{[], ◌∷◌, ◌++◌, refl, named, vunit, emp, ‵, raw, ◌⊛◌, ◌$◌, ◌∵◌, !, qed, by, move, keep, split, fsplit, fsplit3, fjoin, fjoin3, await, feq_i, unit_lit, of_opd, returns, enter, alloc_all, pass_all, free_all, look_at, sets, fact_i, yes, RattleType, owns, types_at, plain, RefOf, mut_vals, mut_Tells, shr_vals, shr_Tells, nothing, opens, closes, param, Stays, stay_dropped, stay_ref, walk_of, Goes-dropped, Goes-ref, proved, ends}
use Rattle.spin_core.proofs.Lemmas.{cite}
use Rattle.spin_core.proofs.Walking.{others}
use Rattle.spin_history.proofs.Steps as steps
use Rattle.spin_history.specs.contracts.history.Log as Log
use Rattle.spin_history.specs.contracts.history.Log.append.{ended, clauses}
use Rattle.spin_history.proofs.history.Log.append.Statement.{statement}
use Rattle.spin_history.proofs.history.Log.append.Code as code

pub append_spec : {M : Type 1} → statement M
append_spec 𝓤 𝓛 𝓜 𝓡 wired T L _ _ g d _ =
    let En = ended T L g d in let c = clauses T L g d 𝓛 𝓜.mem 𝓡.returns in let T' = param 0 T in let Lr : RattleType = Log.the_row T' (param 1 L) g in
    let hs : Stays En.signature.params En.kept = (stay_ref (0 ∷ []) tt (plain (λ _. Lr)), (stay_dropped _ _, tt)) in
    proved 𝓛 En hs c 𝓜 𝓡 (Goes-ref 𝓛 4 0 tt (plain (λ _. Lr)), (Goes-dropped 𝓛 4 (RefOf (1 ∷ []) tt (plain (λ _. T')) (λ _. tt)) yes (λ κs x f. refl), tt)) _ _
    (code.unfolded 𝓤 𝓛.H 𝓜 𝓡 wired (T, (L, tt)) d)
    (λ κs. (mut_vals, (shr_vals, tt))) (λ κs. (mut_Tells (named 0) κs.0 Lr, (shr_Tells (named 1) κs.1.0 T', tt))) (λ κs qs bounds a gh are.
    let r = a.0 in let x = a.1.0.now in
    let y : (walk_of 𝓛 En hs c).Ghost = ((κs, qs, bounds, a, (mut_vals r, (shr_vals a.1.0, tt))), gh) in
    let now' : Lr.Denot = record { marker = record {}; entries = r.now.entries ++ x ∷ [] } in
    qed 𝓛 ((‵ (others 4 κs qs) ⊛ ‵ (owns (types_at En.signature.params κs) a y.0.4)) ∷ raw ((c κs a).requires gh) ∷ []) ∵ keep ! (0 ∷ []) $ split ! $
    fsplit ! $ move ! (1 ∷ []) $ fsplit ! $ move ! (3 ∷ []) $ fsplit ! $ fsplit3 ! $ keep ! (1 ∷ 2 ∷ 6 ∷ 4 ∷ 5 ∷ []) $
    enter ! _ _ _ _ _ $ alloc_all ! (λ l. pass_all ! refl ((tt, tt), ((tt, tt), tt)) $
    opens ! tt Lr r.ref_ptr.0 r.ref_ptr.1 (λ cs. move ! (1 ∷ []) $ fsplit ! $ move ! (1 ∷ []) $
    cite _ (steps.appends 𝓛 T'.coded g.name r.now.entries x) $ await ! tt $ move ! (1 ∷ 0 ∷ []) $ fjoin ! $
    move ! (1 ∷ 0 ∷ 2 ∷ 3 ∷ 4 ∷ []) $ closes ! tt Lr now' cs r.ref_ptr.0 r.ref_ptr.1 $
    sets ! (of_opd ! (unit_lit !)) refl (tt, tt) $ feq_i ! _ (vunit ∷ []) _ refl $
    move ! (4 ∷ 5 ∷ []) $ fjoin ! $ move ! (4 ∷ 0 ∷ []) $ fjoin ! $ nothing ! $ nothing ! $ fjoin ! $ feq_i ! _ (mut_vals r) _ refl $
    move ! (0 ∷ 4 ∷ 5 ∷ []) $ fjoin3 ! $ fjoin ! $ returns ! (look_at ! 0 refl) $ free_all ! refl $ keep ! (1 ∷ 0 ∷ 2 ∷ []) $
    by ! (ends 𝓛 En hs c y vunit tt (now', (tt, tt)) (tt, (tt, tt)) (fact_i 𝓤 _ (emp 𝓤) refl)))))

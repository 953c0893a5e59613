-- `new` begins a log under a name of its own.
use Rattle.spin_core.proofs.cell.PermitFields.{both}
use Rattle.spin_core.proofs.WalkNames.{ℕ, ◌&&◌, T, true, List, [], ◌∷◌, ◌++◌, sym, refl, subst, a_type, Val, vstruct, vcons, vnil, has_ty, WT, inst_fn, SProp, ent, id⊢, emp, ‵, raw, ◌⊛◌, some, later, ◌$◌, ◌∵◌, !, qed, by, keep, move, split, fsplit, fjoin, fpack, pick, use0, await, rewrite, feq_i, suffices, of_opd, no_more, and_then, returns, enter, alloc_all, pass_all, free_all, look_at, get, sets, agg, fact_i, tables, WpFn, RattleType, Valss, owns, types_at, nothing, param, layout, param_laws, within, alive, walk_of, El, one, proved_at}
use denote.Param.{layouts}
use denote.Shadow.{makes_shadow}
use Rattle.core.specs.contracts.marker.PhantomData as marker
use Rattle.spin_core.specs.Logs.{log_owns}
use Rattle.spin_core.proofs.trace.Steps as steps
use Rattle.spin_core.proofs.trace.Tokens.{fields_of, ends}
use Rattle.spin_core.specs.contracts.trace.Trace.new.{ended, clauses}
use Rattle.spin_core.specs.contracts.trace.Trace.new.Key.{name as #self}
use Rattle.spin_core.proofs.trace.Trace.new.Statement.{statement}
use Rattle.spin_core.proofs.trace.Trace.new.Code as code
use Rattle.spin_core.proofs.Walking.{all_dropped, all_go}

pub new_spec : {M : Type 1} → statement M
new_spec 𝓤 𝓛 𝓜 𝓡 wired Ty S L N =
    let H = 𝓛.H in let 𝓣 = tables 𝓤 H 𝓜 𝓡 𝓡.env in let T' : RattleType = param 0 Ty in let S' : RattleType = param 1 S in let En = ended Ty S in
    let inst = layouts (a_type ∷ a_type ∷ []) (Ty, (S, tt)) in let fn = inst_fn inst code.function in let c = clauses Ty S 𝓛 𝓜.mem 𝓡.returns in
    let cv = T'.coded in let E : El = record { row = S; laws = N } in let Mk : RattleType = marker.the_row T' in
    let hs = all_dropped En.signature.params En.kept in
    proved_at 𝓛 En hs c 𝓜 𝓡 (all_go 𝓛 En.signature.params En.kept (λ κs x f. refl, tt)) (#self inst) fn (code.unfolded 𝓤 H 𝓜 𝓡 wired (Ty, (S, tt))) (λ z are.
    let x = z.0.3.0 in let got = one E z.0.4.0 (((param_laws 1 S N).lawful 𝓛).typed x z.0.4.0 are.0) in let vy = got.0 in let fy = got.2 in
    let v = vstruct (vcons vy (vcons (vstruct vnil) vnil)) in let Post : Val → SProp 𝓤 = (walk_of 𝓛 En hs c).post z in let Run : List Val → SProp 𝓤 = λ ws. WpFn 𝓤 H 𝓣.C 𝓣.Λ fn ws Post in
    let typed : T (has_ty (layout S) vy && true) × WT v = (both (has_ty (layout S) vy) true fy.0 tt, (fy.1, (tt, tt))) in
    qed 𝓛 ((raw (alive 𝓛 En.signature z.0.0 z.0.1) ⊛ ‵ (owns (types_at En.signature.params z.0.0) z.0.3 z.0.4)) ∷ raw ((c z.0.0 z.0.3).requires z.1) ∷ []) ∵ keep ! (0 ∷ []) $ split ! $
    move ! (1 ∷ []) $ fsplit ! $ keep ! (0 ∷ 2 ∷ []) $ rewrite ! 0 (λ (ws : List Val). ‵ (S'.own_val x ws)) got.1 refl $
    nothing ! $ use0 𝓛 (‵ (Mk.own_val (record {}) (vstruct vnil ∷ []))) (makes_shadow 𝓛 (Mk.own_val (record {}) (vstruct vnil ∷ [])) (λ uss. (tt, tt)) (tt, (refl, tt))) $ fjoin ! $ move ! (1 ∷ []) $ fjoin ! $
    feq_i ! _ (v ∷ []) _ refl $ fjoin ! $
    fpack ! (Valss (S' ∷ Mk ∷ [])) (within (fields_of T' S') (x, (record {}, tt)) (v ∷ [])) (vy ∷ [], (vstruct vnil ∷ [], tt)) $
    suffices ! (Run (vy ∷ [])) (subst (λ (ws : List Val). ent 𝓤 (Run (vy ∷ [])) (Run ws)) (sym (λ i. got.1 i ++ [])) (id⊢ 𝓤 (Run (vy ∷ [])))) $
    enter ! 𝓣.C 𝓣.Λ fn (vy ∷ []) Post $ alloc_all ! (λ l. pass_all ! refl (fy, tt) $
    use0 𝓛 (later (some (λ (γ : ℕ). ‵ (log_owns cv.code γ [])))) (steps.begins 𝓛 cv).prf $ await ! tt $ pick ! (λ γ.
    sets ! (of_opd ! (get ! refl)) refl fy $ sets ! (agg ! (no_more !)) refl (tt, tt) $ sets ! (agg ! (and_then ! (get ! refl) (and_then ! (get ! refl) (no_more !)))) refl typed $
    move ! (1 ∷ 0 ∷ []) $ fjoin ! $ nothing ! $ nothing ! $ fjoin ! $
    returns ! (look_at ! 0 refl) $ free_all ! refl $ keep ! (2 ∷ 0 ∷ 1 ∷ []) $ by ! (ends 𝓛 En hs c z v (record { word = x; marker = record {}; name = γ; entries = [] }) (tt, tt) (tt, tt) (fact_i 𝓤 _ (emp 𝓤) (refl, refl))))))

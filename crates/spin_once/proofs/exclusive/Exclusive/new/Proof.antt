-- `new` puts the value into the struct.
use Rattle.spin_core.proofs.WalkNames.{List, [], ◌∷◌, ◌++◌, refl, a_type, Val, vstruct, vcons, vnil, has_ty, of_list, inst_fn, emp, fsep, feq, fact_i, tables, WpFn, ‵, raw, ◌⊛◌, ◌$◌, ◌∵◌, !, qed, by, move, keep, split, fsplit, fjoin, fpack, rewrite, feq_i, of_opd, no_more, and_then, returns, enter, alloc_all, pass_all, free_all, look_at, get, sets, agg, Valss, owns, types_at, nothing, param, layout, alive, walk_of, El, lawful, one, proved_at}
use types.Kit.{prop, regoal}
use denote.Param.{layouts}
use Rattle.std.proofs.ResultValues.{and_tt}
use Rattle.spin_core.proofs.trace.Tokens.{ends}
use Rattle.spin_core.proofs.Walking.{all_dropped, all_go}
use Rattle.spin_once.specs.contracts.exclusive.Exclusive.new.{ended, clauses}
use Rattle.spin_once.proofs.exclusive.Exclusive.new.Statement.{statement}
use Rattle.spin_once.proofs.exclusive.Exclusive.new.Code as code

pub new_spec : {M : Type 1} → statement M
new_spec 𝓤 𝓛 𝓜 𝓡 wired X L =
    let R = param 0 X in let En = ended X in let c = clauses X 𝓛 𝓜.mem 𝓡.returns in let 𝓣 = tables 𝓤 𝓛.H 𝓜 𝓡 𝓡.env in
    let fn = inst_fn (layouts (a_type ∷ []) (X, tt)) code.function in let hs = all_dropped En.signature.params En.kept in
    proved_at 𝓛 En hs c 𝓜 𝓡 (all_go 𝓛 En.signature.params En.kept (λ κs x f. refl, tt)) _ fn (code.unfolded 𝓤 𝓛.H 𝓜 𝓡 wired (X, tt)) (λ z are.
    let E : El = record { row = X; laws = L } in let x = z.0.3.0 in let got = one E z.0.4.0 ((lawful E 𝓛).typed x z.0.4.0 are.0) in
    let v = got.0 in let good = got.2 in let u = vstruct (vcons v vnil) in
    qed 𝓛 ((raw (alive 𝓛 En.signature z.0.0 z.0.1) ⊛ ‵ (owns (types_at En.signature.params z.0.0) z.0.3 z.0.4)) ∷ raw ((c z.0.0 z.0.3).requires z.1) ∷ []) ∵
    split ! $ keep ! (1 ∷ 0 ∷ []) $ fsplit ! $ rewrite ! 0 (λ (ws : List Val). ‵ (R.own_val x ws)) got.1 refl $ fjoin ! $ feq_i ! _ (u ∷ []) _ refl $ fjoin ! $
    fpack ! (Valss (R ∷ [])) (λ vss. fsep (feq (List Val) (u ∷ []) (vstruct (of_list (vss.0 ++ [])) ∷ [])) (owns (R ∷ []) (x, tt) vss)) (v ∷ [], tt) $
    nothing ! $ move ! (1 ∷ 0 ∷ []) $ fjoin ! $
    regoal ! (λ (ws : List Val). prop (WpFn 𝓤 𝓛.H 𝓣.C 𝓣.Λ fn ws ((walk_of 𝓛 En hs c).post z))) (λ i. got.1 i ++ []) refl $
    enter ! _ _ _ _ _ $ alloc_all ! (λ l. pass_all ! refl (good, tt) $
    sets ! (of_opd ! (get ! refl)) refl good $ sets ! (agg ! (and_then ! (get ! refl) (no_more !))) refl (and_tt (has_ty (layout X) v) good.0, (good.1, tt)) $
    nothing ! $ nothing ! $ fjoin ! $ returns ! (look_at ! 0 refl) $ free_all ! refl $ keep ! (2 ∷ 0 ∷ 1 ∷ []) $
    by ! (ends 𝓛 En hs c z u (record { inner = x }) (tt, tt) (tt, tt) (fact_i 𝓤 _ (emp 𝓤) refl))))

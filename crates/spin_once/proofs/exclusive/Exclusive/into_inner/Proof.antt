-- `into_inner` takes the value out of the struct.
use Rattle.spin_core.proofs.WalkNames.{List, [], ◌∷◌, ◌++◌, refl, ◌∙◌, a_type, Val, vstruct, vcons, vnil, has_ty, of_list, inst_fn, emp, fact_i, tables, WpFn, ‵, raw, ◌⊛◌, ◌$◌, ◌∵◌, !, qed, by, move, keep, split, fsplit, fsplit3, fjoin, fpick, rewrite, feq_l, of_opd, stop, fld, returns, enter, alloc_all, pass_all, free_all, look_at, get, get_in, sets, sub, whole, no, owns, Is, shows, types_at, plain, nothing, peeks, param, layout, alive, walk_of, El, lawful, one, proved_at}
use types.Kit.{prop, regoal}
use denote.Param.{layouts}
use Rattle.core.proofs.alloc.Calls.{Goes-blank}
use Rattle.std.proofs.ResultValues.{and_tt}
use Rattle.spin_core.proofs.trace.Tokens.{ends}
use Rattle.spin_core.proofs.Walking.{all_dropped}
use Rattle.spin_once.specs.contracts.exclusive.Exclusive as exclusive
use Rattle.spin_once.specs.contracts.exclusive.Exclusive.into_inner.{ended, clauses}
use Rattle.spin_once.proofs.exclusive.Exclusive.into_inner.Statement.{statement}
use Rattle.spin_once.proofs.exclusive.Exclusive.into_inner.Code as code

pub into_inner_spec : {M : Type 1} → statement M
into_inner_spec 𝓤 𝓛 𝓜 𝓡 wired X L =
    let R = param 0 X in let En = ended X in let c = clauses X 𝓛 𝓜.mem 𝓡.returns in let 𝓣 = tables 𝓤 𝓛.H 𝓜 𝓡 𝓡.env in
    let fn = inst_fn (layouts (a_type ∷ []) (X, tt)) code.function in let hs = all_dropped En.signature.params En.kept in
    proved_at 𝓛 En hs c 𝓜 𝓡 (Goes-blank 𝓛 1 (plain (λ _. exclusive.the_row R)) no (λ κs x f. tt), tt) _ fn (code.unfolded 𝓤 𝓛.H 𝓜 𝓡 wired (X, tt)) (λ z are.
    let E : El = record { row = X; laws = L } in let x = z.0.3.0.inner in
    qed 𝓛 ((raw (alive 𝓛 En.signature z.0.0 z.0.1) ⊛ ‵ (owns (types_at En.signature.params z.0.0) z.0.3 z.0.4)) ∷ raw ((c z.0.0 z.0.3).requires z.1) ∷ []) ∵
    split ! $ move ! (1 ∷ []) $ fsplit ! $ fsplit ! $ fpick ! (λ vss. fsplit3 ! $ feq_l ! (λ whole_is. peeks ! R (Is R) (shows 𝓛 R) x vss.0 (λ is_so.
    let got = one E vss.0 ((lawful E 𝓛).typed x vss.0 is_so) in let v = got.0 in let good = got.2 in let u = vstruct (vcons v vnil) in
    let is_u = whole_is ∙ (λ i. vstruct (of_list (got.1 i ++ [])) ∷ []) in
    rewrite ! 0 (λ (ws : List Val). ‵ (R.own_val x ws)) got.1 refl $ keep ! (0 ∷ 4 ∷ []) $
    regoal ! (λ (ws : List Val). prop (WpFn 𝓤 𝓛.H 𝓣.C 𝓣.Λ fn ws ((walk_of 𝓛 En hs c).post z))) (λ i. is_u i ++ []) refl $
    enter ! _ _ _ _ _ $ alloc_all ! (λ l. pass_all ! refl ((and_tt (has_ty (layout X) v) good.0, (good.1, tt)), tt) $
    sets ! (of_opd ! (get_in ! (fld ! refl (stop !)) (sub ! 0 refl (whole !)))) refl good $
    sets ! (of_opd ! (get ! refl)) refl good $ nothing ! $ nothing ! $ fjoin ! $
    returns ! (look_at ! 0 refl) $ free_all ! refl $ keep ! (2 ∷ 0 ∷ 1 ∷ []) $
    by ! (ends 𝓛 En hs c z v x ((tt, tt), tt) (tt, tt) (fact_i 𝓤 _ (emp 𝓤) refl)))))))

-- `at` makes a reference from the pointer `address`. The pointer is that of the reference in `value`, which is known to exist.
use Rattle.spin_core.proofs.WalkNames.{◌≡◌, List, [], ◌∷◌, ◌++◌, sym, refl, subst, ap, ◌∙◌, lit<, Option, Some, None, a_type, named, Val, vptr, of_list, inst_fn, emp, fact, fact_i, tables, WpFn, ‵, raw, ◌⊛◌, at_ret, ◌$◌, ◌∵◌, !, qed, by, move, keep, split, fsplit, fjoin, fpick, feq_i, feq_l, rewrite, of_opd, addr, stop, first, blocks, exec, returns, enter, alloc_all, pass_all, free_all, look_at, get, through, sets, sets_last, env, owns, Ptr, ptr_val, types_at, nothing, heard, param, alive, walk_of, tail, proved_at}
use types.Kit.{prop, regoal}
use types.Match.{live}
use denote.Ref.{Bor, ShrRef}
use denote.Param.{layouts}
use Rattle.spin_core.proofs.trace.Tokens.{ends}
use Rattle.spin_core.proofs.Walking.{all_dropped, all_go}
use Rattle.std.specs.Prelude.{IfSome, IsSomeAnd}
use Rattle.std.specs.Ptr.{as_ptr}
use Rattle.std.specs.contracts.option.Option as option
use Rattle.spin_once.specs.contracts.once_core.known.at.{ended, clauses}
use Rattle.spin_once.proofs.once_core.known.at.Statement.{statement}
use Rattle.spin_once.proofs.once_core.known.at.Code as code

there : {A : Type 0} (o : Option A) (P : A → Type 0) → IsSomeAnd o P → (x : A) × (o ≡ Some x) × P x
there None P so = absurd so
there (Some x) P so = (x, refl, so)

pub at_spec : {M : Type 1} → statement M
at_spec 𝓤 𝓛 𝓜 𝓡 wired X L =
    let R = param 0 X in let En = ended X in let c = clauses X 𝓛 𝓜.mem 𝓡.returns in let 𝓣 = tables 𝓤 𝓛.H 𝓜 𝓡 𝓡.env in
    let fn = inst_fn (layouts (a_type ∷ []) (X, tt)) code.function in let hs = all_dropped En.signature.params En.kept in
    proved_at 𝓛 En hs c 𝓜 𝓡 (all_go 𝓛 En.signature.params En.kept (λ κs x f. refl, (λ κs x f. refl, tt))) _ fn (code.unfolded 𝓤 𝓛.H 𝓜 𝓡 wired (X, tt)) (λ z are.
    let value : Option (Bor X.Denot) = z.0.3.0 in let p : Ptr = z.0.3.1.0 in let Post = (walk_of 𝓛 En hs c).post z in
    let Asked : Type 0 = IsSomeAnd value (λ (v : Bor X.Denot). p ≡ as_ptr v) in
    qed 𝓛 ((raw (alive 𝓛 En.signature z.0.0 z.0.1) ⊛ ‵ (owns (types_at En.signature.params z.0.0) z.0.3 z.0.4)) ∷ raw (fact 𝓤 _) ∷ raw (fact 𝓤 Asked) ∷ []) ∵
    keep ! (2 ∷ 0 ∷ []) $ heard ! Asked (λ asked. let is = there value (λ (v : Bor X.Denot). p ≡ as_ptr v) asked in let r : Bor X.Denot = is.0 in
    let v : Val = vptr r.ref_ptr.0 r.ref_ptr.1 in split ! $ move ! (1 ∷ []) $ fsplit ! $
    rewrite ! 0 (λ (o : Option (Bor X.Denot)). ‵ ((option.the_row (ShrRef (named 0) z.0.0.0 R)).own_val o z.0.4.0)) is.1 refl $
    fpick ! (λ ws. fsplit ! $ feq_l ! (λ whole. fpick ! (λ vss. fsplit ! $ feq_l ! (λ row. fsplit ! $ fsplit ! $ feq_l ! (λ lent.
    let u : Val = live 1 (of_list (v ∷ [])) in let is_u : z.0.4.0 ≡ u ∷ [] = whole ∙ ap (λ (us : List Val). live 1 (of_list us) ∷ [])
    (row ∙ ap (λ (us : List Val). us ++ []) lent) in
    let is_v : z.0.4.1.0 ≡ v ∷ [] = are.1.0 ∙ ap (λ (q : Ptr). ptr_val q ∷ []) is.2 in
    regoal ! (λ (us : List Val). prop (WpFn 𝓤 𝓛.H 𝓣.C 𝓣.Λ fn us Post)) (λ i. is_u i ++ (is_v i ++ [])) refl $
    enter ! _ _ _ _ _ $ alloc_all ! (λ l. pass_all ! refl ((tt, (record { fits = lit< tt }, (tt, tt))), ((tt, tt), tt)) $ let Ev = env fn.locals l in
    first ! $ blocks ! $ sets_last ! (addr ! (through ! refl (stop !))) refl (tt, tt) $ exec ! 𝓣.C 𝓣.Λ Ev (tail fn.body) (at_ret Ev Post) $
    sets ! (of_opd ! (get ! refl)) refl (tt, tt) $ returns ! (look_at ! 0 refl) $ free_all ! refl $
    feq_i ! _ (v ∷ []) _ refl $ fjoin ! $ keep ! (0 ∷ 3 ∷ []) $ nothing ! $ nothing ! $ fjoin ! $ nothing ! $ fjoin ! $ keep ! (2 ∷ 0 ∷ 1 ∷ []) $
    by ! (ends 𝓛 En hs c z v r (tt, (tt, tt)) (tt, (tt, tt))
    (fact_i 𝓤 _ (emp 𝓤) (subst (λ (o : Option (Bor X.Denot)). IfSome o (λ (w : Bor X.Denot). r.now ≡ w.now)) (sym is.1) refl)))))))))))

-- `park` sleeps on the first word.
use Rattle.spin_core.proofs.WalkNames.{[], ◌∷◌, ◌+◌, refl, ap, dcons, dnil, inst_fn, raw, at_ret, ◌$◌, !, by, move, keep, split, fsplit, fjoin, use1, stop, fld, addr, mean, of_opd, no_more, and_then, first, blocks, exec, Calls-last, returns, alloc_all, pass_all, free_all, look_at, get, get_in, through, sets, lands_last, is, env, agg, sub, whole, tables, named, named_lft, block_ptr, ptr_val, vptr, vint, w64, block_of, count_of, at_block, param, bounded, tail, fm, stored, has_stored, lent, parks}
use Rattle.spin_core.specs.contracts.trace.Trace as trace
use Rattle.spin_core.proofs.trace.Tokens.{as_watch}
use Rattle.spin_core.proofs.cell.PermitFields.{as_hand, typed}
use Rattle.spin_core.proofs.WalkSteps.{two, three}
use Rattle.spin_core.proofs.Walking.{walks, as_u64, as_shr}
use Rattle.spin_core.proofs.cell.WatchWalks.{watch_knows, past, begins_two, asks_first, next, knowing}
use Rattle.spin_core.specs.contracts.cell.Permit.park.{ended, clauses}
use Rattle.spin_core.proofs.cell.Permit.park.Statement.{statement}
use Rattle.spin_core.proofs.cell.Permit.park.Code as code

pub park_spec : {M : Type 1} → statement M
park_spec 𝓤 𝓛 𝓜 𝓡 wired T V E S P K Mv Z L _ _ _ _ _ _ LZ g d g' d' g'' d'' _ _ may =
    let H = 𝓛.H in let 𝓣 = tables 𝓤 H 𝓜 𝓡 𝓡.env in let R = param 0 T in let W = param 1 V in let Er = param 2 E in let Ur = param 3 S in
    let Y = param 4 P in let Kr = param 5 K in let Sr = trace.the_row Er Ur in
    let fn = inst_fn (bounded code.function.ty_params (T, (V, (E, (S, (P, (K, (Mv, (Z, tt)))))))) (dcons d (dcons d' (dcons d'' dnil)))) code.function in
    walks 𝓛 (ended T V E S P K Mv Z g d g' d' g'' d'') (clauses T V E S P K Mv Z g d g' d' g'' d'' 𝓛 𝓜.mem 𝓡.returns) 𝓜 𝓡
    (λ κs x f. refl, (λ κs x f. refl, (λ κs x f. refl, (λ κs x f. refl, (λ κs x f. refl, (λ κs x f. refl, tt)))))) _ fn (code.unfolded 𝓤 H 𝓜 𝓡 wired (T, (V, (E, (S, (P, (K, (Mv, (Z, tt)))))))) d d' d'')
    (λ κs. (as_hand (named_lft 10 0 tt κs) R W Y Kr Sr g, (as_shr (named 1) κs.1.0 (param 7 Z), (as_u64, (as_u64, (as_u64, (as_watch Er, tt))))))) (λ κs qs bounds a gh are Post out.
    let ℓ = named_lft 10 0 tt κs in let h = a.0 in let p = h.cell in let b = block_of p in let o = count_of p in
    let rt = a.1.0 in let e = a.1.1.0 in let secs = a.1.1.1.0 in let nanos = a.1.1.1.1.0 in
    let ρ = κs.1.0 in let r = qs.1.0 in let υ = κs.1.1.1.1.1.1.1.1.1.0 in let u' = qs.1.1.1.1.1.1.1.1.1.0 in
    -- the tokens of the handle and of the other types go behind those of the cell and of the value
    fsplit ! $ move ! (1 ∷ []) $ fsplit ! $ move ! (1 ∷ []) $ fsplit ! $ move ! (4 ∷ []) $ fsplit ! $ move ! (1 ∷ []) $ fsplit ! $ fsplit ! $
    keep ! (1 ∷ 2 ∷ 3 ∷ 4 ∷ 5 ∷ 6 ∷ 7 ∷ 8 ∷ []) $
    move ! (5 ∷ 4 ∷ []) $ fjoin ! $ move ! (1 ∷ []) $ fjoin ! $ move ! (3 ∷ []) $ fjoin ! $ move ! (3 ∷ []) $ fjoin ! $ move ! (2 ∷ 1 ∷ []) $ fjoin ! $ move ! (1 ∷ []) $
    begins_two 𝓛 𝓜 𝓡 ℓ T W Y Kr Er Ur L g h _ _ _ a.1.1.1.1.1.0 g'.told (λ _. e) ! (past (past (past watch_knows))) 6 _ _
    asks_first (λ live inb go. alloc_all ! (λ l. let Ev = env fn.locals l in pass_all ! refl
    (typed p inb, ((tt, tt), ((tt, record { fits = are.1.1.0.1 }), ((tt, record { fits = are.1.1.1.0.1 }), ((tt, record { fits = are.1.1.1.1.0.1 }), ((tt, (tt, tt)), tt)))))) $ go.on ! tt (λ left rest closes.
    sets ! (is ! (of_opd ! (get_in ! (fld ! refl (stop !)) (sub ! 0 refl (whole !)))) (ap ptr_val (at_block p inb))) refl (tt, tt) $ first ! $ blocks ! $ sets ! (addr ! (through ! refl (fld ! refl (stop !)))) refl (tt, tt) $
    let out' = lent 𝓛 𝓜 𝓡 Z LZ g'' d'' may ρ υ r u' rt (left e) in
    move ! (2 ∷ []) $ fsplit ! $ move ! (1 ∷ []) $ fsplit ! $ move ! (1 ∷ []) $ fsplit ! $ move ! (1 ∷ []) $ fsplit ! $ move ! (1 ∷ []) $ fsplit ! $ move ! (1 ∷ []) $ fsplit ! $
    move ! (1 ∷ []) $ fsplit ! $ move ! (1 ∷ []) $ fsplit ! $ move ! (1 ∷ []) $ fsplit ! $ move ! (10 ∷ 9 ∷ 8 ∷ 0 ∷ []) $ types.Kit.group ! 4 $
    use1 𝓛 (raw (𝓣.C _ (vptr rt.ref_ptr.0 rt.ref_ptr.1 ∷ vptr b (o + 0) ∷ vint w64 e ∷ vint w64 secs ∷ vint w64 nanos ∷ []) (λ u. mean 𝓛 (stored out' u))))
    (parks 𝓛 𝓜 𝓡 Z LZ g'' d'' may ρ υ r u' rt (code.calls-core::raw_atomic::park 𝓡.env wired) bounds.1.0 live (block_ptr b (o + 0)) e secs nanos are.1.1.0.1 are.1.1.1.0.1 are.1.1.1.1.0.1 (left e)) $
    Calls-last ! (fm 𝓛 𝓜 𝓡) (stored out') (and_then ! (get ! refl) (and_then ! (get ! refl) (three ! refl refl refl))) (λ u. has_stored ! out' (
    lands_last ! refl (tt, tt) $ exec ! 𝓣.C 𝓣.Λ Ev (tail (tail fn.body)) (at_ret Ev Post) $
    sets ! (agg ! (no_more !)) refl (tt, tt) $ sets ! (agg ! (two ! refl refl)) refl (tt, (tt, (tt, tt))) $
    sets ! (of_opd ! (get ! refl)) refl (tt, (tt, tt)) $ sets ! (agg ! (two ! refl refl)) refl (tt, ((tt, (tt, tt)), ((tt, tt), tt))) $
    fsplit ! $ move ! (1 ∷ []) $ fsplit ! $ move ! (1 ∷ 3 ∷ []) $ fjoin ! $ move ! (3 ∷ 0 ∷ []) $ fjoin ! $ move ! (3 ∷ 0 ∷ []) $ fjoin ! $ move ! (3 ∷ 0 ∷ []) $ fjoin ! $
    move ! (3 ∷ 0 ∷ []) $ fjoin ! $ move ! (3 ∷ 0 ∷ []) $ fjoin ! $ move ! (3 ∷ 0 ∷ []) $ fjoin ! $ move ! (1 ∷ 0 ∷ []) $ fjoin ! $ move ! (1 ∷ 2 ∷ 0 ∷ []) $
    closes.stored ! tt e _ (λ s l. split ! $ move ! (1 ∷ []) $ split ! $ move ! (1 ∷ []) $ fsplit ! $ move ! (2 ∷ 1 ∷ []) $ fjoin ! $ move ! (1 ∷ 0 ∷ []) $ fjoin ! $ move ! (1 ∷ 0 ∷ []) $ fjoin ! $
    returns ! (look_at ! 0 refl) $ free_all ! refl $ by ! (out _ (next h b o s, knowing l)))))))))

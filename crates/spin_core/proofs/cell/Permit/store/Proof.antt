-- `store` writes the first word.
use Rattle.spin_core.proofs.WalkNames.{refl, ap, lit<, dcons, dnil, inst_fn, raw, at_ret, ◌$◌, !, by, use1, stop, fld, addr, lit, of_opd, no_more, and_then, first, blocks, exec, Calls-last, returns, alloc_all, pass_all, free_all, look_at, get, get_in, through, sets, lands_last, is, env, agg, sub, whole, tables, named_lft, block_ptr, ptr_val, block_of, count_of, at_block, param, bounded, tail, fm, stored, has_stored, stores}
use Rattle.spin_core.specs.contracts.trace.Trace as trace
use Rattle.spin_core.proofs.trace.Tokens.{as_watch}
use Rattle.spin_core.proofs.cell.PermitFields.{as_hand, typed}
use Rattle.spin_core.proofs.WalkSteps.{two, three}
use Rattle.spin_core.proofs.Walking.{walks, as_u64}
use Rattle.spin_core.proofs.cell.WatchWalks.{watch_knows, past, begins, asks_first, next, knowing}
use Rattle.spin_core.specs.contracts.cell.Permit.store.{ended, clauses}
use Rattle.spin_core.proofs.cell.Permit.store.Statement.{statement}
use Rattle.spin_core.proofs.cell.Permit.store.Code as code

pub store_spec : {M : Type 1} → statement M
store_spec 𝓤 𝓛 𝓜 𝓡 wired T V E S P K Mv L _ _ _ _ _ _ g d g' d' _ _ =
    let H = 𝓛.H in let 𝓣 = tables 𝓤 H 𝓜 𝓡 𝓡.env in let R = param 0 T in let W = param 1 V in let Er = param 2 E in let Ur = param 3 S in
    let Y = param 4 P in let Kr = param 5 K in let Sr = trace.the_row Er Ur in
    let fn = inst_fn (bounded code.function.ty_params (T, (V, (E, (S, (P, (K, (Mv, tt))))))) (dcons d (dcons d' dnil))) code.function in
    walks 𝓛 (ended T V E S P K Mv g d g' d') (clauses T V E S P K Mv g d g' d' 𝓛 𝓜.mem 𝓡.returns) 𝓜 𝓡 (λ κs x f. refl, (λ κs x f. refl, (λ κs x f. refl, tt))) _ fn (code.unfolded 𝓤 H 𝓜 𝓡 wired (T, (V, (E, (S, (P, (K, (Mv, tt))))))) d d')
    (λ κs. (as_hand (named_lft 8 0 tt κs) R W Y Kr Sr g, (as_u64, (as_watch Er, tt)))) (λ κs qs bounds a gh are Post out.
    let ℓ = named_lft 8 0 tt κs in let h = a.0 in let p = h.cell in let b = block_of p in let o = count_of p in
    begins 𝓛 𝓜 𝓡 ℓ T W Y Kr Er Ur L g h _ _ _ a.1.1.0 g'.told (λ _. 0) ! (past watch_knows) 6 _ _
    asks_first (λ inb go. alloc_all ! (λ l. let Ev = env fn.locals l in pass_all ! refl
    (typed p inb, ((tt, record { fits = are.1.0.1 }), ((tt, (tt, tt)), tt))) $ go.on ! tt (λ left rest closes.
    sets ! (is ! (of_opd ! (get_in ! (fld ! refl (stop !)) (sub ! 0 refl (whole !)))) (ap ptr_val (at_block p inb))) refl (tt, tt) $ first ! $ blocks ! $ sets ! (addr ! (through ! refl (fld ! refl (stop !)))) refl (tt, tt) $
    use1 𝓛 (raw _) (stores 𝓛 𝓜 𝓡 (code.calls-core::raw_atomic::store 𝓡.env wired) (block_ptr _ _) _ are.1.0.1
    (left 0)) $ sets ! (agg ! (and_then ! (lit ! tt) (no_more !))) refl (tt, (record { fits = lit< tt }, tt)) $
    Calls-last ! (fm 𝓛 𝓜 𝓡) (stored (left 0)) (three ! refl refl refl) (λ u. has_stored ! (left 0) (
    lands_last ! refl (tt, tt) $ exec ! 𝓣.C 𝓣.Λ Ev (tail (tail fn.body)) (at_ret Ev Post) $
    sets ! (agg ! (no_more !)) refl (tt, tt) $ sets ! (agg ! (two ! refl refl)) refl (tt, (tt, (tt, tt))) $
    sets ! (of_opd ! (get ! refl)) refl (tt, (tt, tt)) $ sets ! (agg ! (two ! refl refl)) refl (tt, ((tt, (tt, tt)), ((tt, tt), tt))) $
    closes.stored ! tt 0 _ (λ s l. returns ! (look_at ! 0 refl) $ free_all ! refl $ by ! (out _ (next h b o s, knowing l)))))))))

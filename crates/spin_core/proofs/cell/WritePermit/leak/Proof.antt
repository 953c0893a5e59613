-- `leak` gives the borrow of the value away, for the rest of the cell's borrow.
use Rattle.spin_core.proofs.WalkNames.{◌≡◌, ◌+◌, [], ◌∷◌, refl, ap, dcons, dnil, named, vptr, inst_fn, Fml, at_ret, ◌$◌, !, by, move, keep, split, fsplit, fjoin, fjoin3, fpick, pick, split3, await, feq_i, stop, fld, addr, of_opd, first, blocks, exec, returns, alloc_all, pass_all, free_all, look_at, get, get_in, through, sets, sets_last, is, env, sub, whole, tables, named_lft, Ptr, ptr_val, block_of, count_of, at_block, param, bounded, tail, says}
use denote.Ref.{MutRef}
use Rattle.spin_core.proofs.WalkSteps.{unasked, takes_at}
use Rattle.spin_core.proofs.Walking.{walks}
use Rattle.spin_core.specs.CellMemory.{offset, named as body, writer_owns}
use Rattle.spin_core.proofs.cell.PermitFields.{as_pen, typed}
use Rattle.spin_core.proofs.cell.Through.{cuts, lasts}
use Rattle.spin_core.specs.contracts.cell.WritePermit.leak.{ended, clauses}
use Rattle.spin_core.proofs.cell.WritePermit.leak.Statement.{statement}
use Rattle.spin_core.proofs.cell.WritePermit.leak.Code as code
use Rattle.spin_core.proofs.Lemmas.{cite}

pub leak_spec : {M : Type 1} → statement M
leak_spec 𝓤 𝓛 𝓜 𝓡 wired T V P K S L _ _ _ LS g d _ =
    let H = 𝓛.H in let 𝓣 = tables 𝓤 H 𝓜 𝓡 𝓡.env in let R = param 0 T in let W = param 1 V in let Y = param 2 P in let Kr = param 3 K in
    let Sr = param 4 S in let cw = W.coded in
    let fn = inst_fn (bounded code.function.ty_params (T, (V, (P, (K, (S, tt))))) (dcons d dnil)) code.function in
    walks 𝓛 (ended T V P K S g d) (clauses T V P K S g d 𝓛 𝓜.mem 𝓡.returns) 𝓜 𝓡 (λ κs x f. refl, tt) _ fn (code.unfolded 𝓤 H 𝓜 𝓡 wired (T, (V, (P, (K, (S, tt))))) d)
    (λ κs. (as_pen (named_lft 6 0 tt κs) R W Y Kr Sr g, tt)) (λ κs qs bounds a gh are Post out.
    let h = a.0 in let p = h.cell in let b = block_of p in let o = count_of p in
    let e = o + offset R in let β = κs.0 in let q = qs.0 in let x = h.value in
    let Owned : Ptr → Fml = λ z. writer_owns Y R cw.code Sr (g.holds h.key) (g.ways h.key) β z h.view x in
    takes_at ! Owned refl p (unasked 𝓤 _) (λ _ inb. let at = at_block p inb in
    alloc_all ! (λ l. pass_all ! refl (typed p inb, tt) $ let Ev = types.ByLocal.env fn.locals l in
    cite _ (cuts 𝓛 Y R cw.code Sr (g.holds h.key) (g.ways h.key) β b o h.view x) $ pick ! (λ t. split3 ! $
    move ! (2 ∷ []) $ split ! $ move ! (4 ∷ []) $ fsplit ! $ move ! (4 ∷ 2 ∷ 0 ∷ []) $
    fpick ! (λ νs. cite _ (lasts 𝓛 νs β t.life q (body R b o t)) $ await ! tt $ split ! $
    sets ! (is ! (of_opd ! (get_in ! (fld ! refl (stop !)) (sub ! 0 refl (whole !)))) (ap ptr_val at)) refl (tt, tt) $ first ! $ blocks ! $ sets ! (addr ! (through ! refl (fld ! refl (stop !)))) refl (tt, tt) $
    sets_last ! (addr ! (through ! refl (stop !))) refl (tt, tt) $ exec ! 𝓣.C 𝓣.Λ Ev (tail (tail fn.body)) (at_ret Ev Post) $ sets ! (of_opd ! (get ! refl)) refl (tt, tt) $
    let m : (MutRef (named 0) β R).Denot = record { ref_ptr = (b, e); ghost_name = t.value; now = x } in
    move ! (4 ∷ 0 ∷ []) $ feq_i ! _ (vptr b e ∷ []) _ refl $ fjoin3 ! $ says ! (x ≡ x) refl $ move ! (2 ∷ 3 ∷ []) $
    fjoin ! $ returns ! (look_at ! 0 refl) $ free_all ! refl $ keep ! (0 ∷ 2 ∷ 1 ∷ []) $ by ! (out (vptr b e) m))))))

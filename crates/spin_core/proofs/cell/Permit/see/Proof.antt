-- `see` gives up a reader's part of the value, and lends the value for the rest of the cell's borrow.
use Rattle.spin_core.proofs.WalkNames.{Some, pick, param_laws, ◌≡◌, sym, ◌+◌, [], ◌∷◌, refl, ap, dcons, dnil, vptr, inst_fn, Fml, at_ret, ◌$◌, !, by, keep, join, fjoin, learn, await, feq_i, stop, fld, addr, of_opd, first, blocks, exec, returns, alloc_all, pass_all, free_all, look_at, get, get_in, through, sets, sets_last, is, env, sub, whole, tables, fact, named_lft, Ptr, ptr_val, block_of, count_of, at_block, param, bounded, tail, says}
use Rattle.spin_core.proofs.WalkSteps.{last_fact, takes_at}
use Rattle.spin_core.proofs.Walking.{walks}
use Rattle.spin_core.specs.CellMemory.{offset, permit_owns}
use Rattle.spin_core.specs.Cell.{Seen}
use Rattle.spin_core.proofs.cell.PermitFields.{as_hand, typed}
use Rattle.spin_core.proofs.cell.Lends.{shown_on}
use Rattle.spin_core.specs.contracts.cell.Permit.see.{ended, clauses}
use Rattle.spin_core.proofs.cell.Permit.see.Statement.{statement}
use Rattle.spin_core.proofs.cell.Permit.see.Code as code
use Rattle.spin_core.proofs.Lemmas.{cite}

pub see_spec : {M : Type 1} → statement M
see_spec 𝓤 𝓛 𝓜 𝓡 wired T V P K S L _ _ _ LS g d _ =
    let H = 𝓛.H in let 𝓣 = tables 𝓤 H 𝓜 𝓡 𝓡.env in let R = param 0 T in let W = param 1 V in let Y = param 2 P in let Kr = param 3 K in
    let Sr = param 4 S in let cw = W.coded in let LR = param_laws 0 T L in
    let fn = inst_fn (bounded code.function.ty_params (T, (V, (P, (K, (S, tt))))) (dcons d dnil)) code.function in
    walks 𝓛 (ended T V P K S g d) (clauses T V P K S g d 𝓛 𝓜.mem 𝓡.returns) 𝓜 𝓡 (λ κs x f. refl, tt) _ fn (code.unfolded 𝓤 H 𝓜 𝓡 wired (T, (V, (P, (K, (S, tt))))) d)
    (λ κs. (as_hand (named_lft 6 0 tt κs) R W Y Kr Sr g, tt)) (λ κs qs bounds a gh are Post out.
    let h = a.0 in let p = h.cell in let b = block_of p in let o = count_of p in
    let e = o + offset R in let β = κs.0 in let ways = g.ways h.key in
    let Owned : Ptr → Fml = λ z. permit_owns Y R cw.code Sr (g.holds h.key) ways β z h.view h.value in
    takes_at ! Owned refl p (last_fact 𝓤 (fact 𝓤 _) 5 (_, (_, (_, (_, (_, tt)))))) (λ asked inb.
    let at = at_block p inb in alloc_all ! (λ l. pass_all ! refl (typed p inb, tt) $ let Ev = env fn.locals l in
    cite _ (shown_on 𝓛 Y R cw.code Sr (g.holds h.key) ways β LR.shr_laws b o h.view h.value asked) $ await ! tt $ pick ! (λ x. learn ! (λ so.
    sets ! (is ! (of_opd ! (get_in ! (fld ! refl (stop !)) (sub ! 0 refl (whole !)))) (ap ptr_val at)) refl (tt, tt) $ first ! $ blocks ! $
    sets_last ! (addr ! (through ! refl (fld ! refl (stop !)))) refl (tt, tt) $ exec ! 𝓣.C 𝓣.Λ Ev (tail (tail fn.body)) (at_ret Ev Post) $ sets ! (of_opd ! (get ! refl)) refl (tt, tt) $
    feq_i ! _ (vptr b e ∷ []) _ refl $ fjoin ! $ says ! (Seen ways.0 x) so.1 $ says ! (Some x ≡ h.value) (sym so.0) $ join ! $
    returns ! (look_at ! 0 refl) $ free_all ! refl $ keep ! (2 ∷ 1 ∷ 0 ∷ []) $ by ! (out (vptr b e) (record { ref_ptr = (b, e); now = x })))))))

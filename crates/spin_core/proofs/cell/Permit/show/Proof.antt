-- `show` splits a reader's part of the value: it gives up one half for the rest of the cell's borrow, and keeps the other.
use Rattle.spin_core.proofs.WalkNames.{Some, some, pick, hidden_shr, param_laws, ◌≡◌, sym, ◌+◌, List, [], ◌∷◌, ◌++◌, refl, ap, dcons, dnil, Val, vptr, inst_fn, Fml, ‵, ◌⊛◌, given, later, at_ret, ◌$◌, !, by, move, keep, split, join, fjoin, learn, use0, use1, await, feq_i, stop, fld, addr, of_opd, no_more, agg, first, blocks, exec, returns, alloc_all, pass_all, free_all, look_at, get, get_in, through, sets, sets_last, is, env, sub, whole, tables, owns, named_lft, Ptr, ptr_val, block_of, count_of, at_block, block_ptr, nothing, named, param, bounded, tail, says}
use base.Fml.{fsep, feq}
use mir.Val.{vstruct, vcons, vnil, of_list}
use types.Kit.{fpack}
use denote.RattleType.{Valss}
use denote.Ref.{ShrRef}
use Rattle.spin_core.proofs.WalkSteps.{last_two, takes_at, two}
use Rattle.spin_core.proofs.Walking.{walks}
use Rattle.spin_core.specs.CellMemory.{offset, permit_owns}
use Rattle.spin_core.specs.Cell.{Seen}
use Rattle.spin_core.specs.contracts.cell.Permit as hand
use Rattle.spin_core.proofs.cell.PermitFields.{as_hand, hand_of, Words, made, typed}
use Rattle.spin_core.proofs.cell.Lends.{shown_to}
use Rattle.spin_core.specs.contracts.cell.Permit.show.{ended, clauses}
use Rattle.spin_core.proofs.cell.Permit.show.Statement.{statement}
use Rattle.spin_core.proofs.cell.Permit.show.Code as code

pub show_spec : {M : Type 1} → statement M
show_spec 𝓤 𝓛 𝓜 𝓡 wired T V P K S L _ _ _ LS g d _ =
    let H = 𝓛.H in let 𝓣 = tables 𝓤 H 𝓜 𝓡 𝓡.env in let R = param 0 T in let W = param 1 V in let Y = param 2 P in let Kr = param 3 K in
    let Sr = param 4 S in let cw = W.coded in let LR = param_laws 0 T L in
    let fn = inst_fn (bounded code.function.ty_params (T, (V, (P, (K, (S, tt))))) (dcons d dnil)) code.function in
    walks 𝓛 (ended T V P K S g d) (clauses T V P K S g d 𝓛 𝓜.mem 𝓡.returns) 𝓜 𝓡 (λ κs x f. refl, tt) _ fn (code.unfolded 𝓤 H 𝓜 𝓡 wired (T, (V, (P, (K, (S, tt))))) d)
    (λ κs. (as_hand (named_lft 6 0 tt κs) R W Y Kr Sr g, tt)) (λ κs qs bounds a gh are Post out.
    let ℓ = named_lft 6 0 tt κs in let Hr = hand.the_row ℓ R W Y Kr Sr g in let h = a.0 in let p = h.cell in let b = block_of p in let o = count_of p in
    let e = o + offset R in let β = κs.0 in let ways = g.ways h.key in
    let Owned : Ptr → Fml = λ z. permit_owns Y R cw.code Sr (g.holds h.key) ways β z h.view h.value in
    takes_at ! Owned refl p (last_two 𝓤 _ _ 5 (_, (_, (_, (_, (_, tt)))))) (λ asked inb. let at = at_block p inb in
    alloc_all ! (λ l. pass_all ! refl (typed p inb, tt) $ let Ev = types.ByLocal.env fn.locals l in
    use1 𝓛 (later (some (λ (x : T.Denot). given ((h.value ≡ Some x) × Seen ways.0 x)
    (‵ (hidden_shr R β x b e) ⊛ ‵ (Owned (block_ptr b o))))))
    (shown_to 𝓛 Y R cw.code Sr (g.holds h.key) ways β LR.shr_laws b o h.view h.value asked.0 asked.1).prf $
    await ! tt $ pick ! (λ x. learn ! (λ so. split ! $
    sets ! (is ! (of_opd ! (get_in ! (fld ! refl (stop !)) (sub ! 0 refl (whole !)))) (ap ptr_val at)) refl (tt, tt) $ first ! $ blocks ! $
    sets_last ! (addr ! (through ! refl (fld ! refl (stop !)))) refl (tt, tt) $ exec ! 𝓣.C 𝓣.Λ Ev (tail (tail fn.body)) (at_ret Ev Post) $
    sets ! (of_opd ! (get ! refl)) refl (tt, tt) $ sets ! (of_opd ! (get ! refl)) refl (tt, tt) $ sets ! (agg ! (no_more !)) refl (tt, tt) $
    sets ! (agg ! (two ! refl refl)) refl (tt, (tt, (tt, tt))) $ sets ! (agg ! (two ! refl refl)) refl (tt, (tt, ((tt, (tt, tt)), tt))) $
    let here : Ptr = block_ptr b o in let h' : Hr.Denot = record { cell = here; marker = record {}; key = h.key; view = h.view; value = h.value } in
    let Lent = ShrRef (named 0) β R in let r : Lent.Denot = record { ref_ptr = (b, e); now = x } in let pair : Val = vstruct (vcons (vptr b e) (vcons (hand_of here) vnil)) in
    let Both : Valss (Lent ∷ Hr ∷ []) → Fml = λ uss. fsep (feq (List Val) (pair ∷ []) (vstruct (of_list (uss.0 ++ (uss.1.0 ++ []))) ∷ [])) (owns (Lent ∷ Hr ∷ []) (r, (h', tt)) uss) in
    move ! (1 ∷ []) $ use0 𝓛 (‵ ((Words ℓ R W Y Kr Sr g).own_val (here, (tt, tt)) (hand_of here ∷ []))) (made ℓ R W Y Kr Sr g 𝓛 here) $ fjoin ! $ nothing ! $ move ! (1 ∷ 0 ∷ []) $ fjoin ! $
    move ! (1 ∷ []) $ feq_i ! _ (vptr b e ∷ []) _ refl $ fjoin ! $ fjoin ! $ feq_i ! _ (pair ∷ []) _ refl $ fjoin ! $
    fpack ! (Valss (Lent ∷ Hr ∷ [])) Both (vptr b e ∷ [], (hand_of here ∷ [], tt)) $
    let Same : Type 0 = (h'.view ≡ h.view) × (h'.value ≡ h.value) in says ! (h.key ≡ h.key) refl $ says ! Same (refl, refl) $ join ! $
    says ! (Seen ways.0 x) so.1 $ join ! $ says ! (Some x ≡ h.value) (sym so.0) $ join ! $
    returns ! (look_at ! 0 refl) $ free_all ! refl $ keep ! (2 ∷ 1 ∷ 0 ∷ []) $ by ! (out pair (r, h')))))))

-- `get` lends the value for as long as the permit is borrowed.
use Rattle.spin_core.proofs.WalkNames.{fpick, ◌≡◌, ◌+◌, List, [], ◌∷◌, ◌++◌, refl, ap, Option, Some, dcons, dnil, named, Val, vptr, inst_fn, guard_i, Incl-refl, sem, ‵, raw, ◌⊛◌, given, at_ret, ◌$◌, !, by, move, keep, split, fsplit, fjoin, learn, use1, rewrite, feq_i, stop, fld, addr, of_opd, first, blocks, exec, returns, alloc_all, pass_all, free_all, look_at, get, through, sets, sets_last, env, sub, whole, tables, fact, fact_use, named_lft, Ptr, InBlock, block_ptr, block_of, count_of, at_block, heard, param, bounded, param_laws, tail, unhide, hop, look_in, lent_out, shortens, ⊑_meet, hidden_shr, cell_at, looks, peeks, shuts, Is, shows, ◌∙◌, sym, fhide, says}
use Rattle.core.specs.contracts.marker.PhantomData as marker
use Rattle.spin_core.proofs.WalkSteps.{last_fact}
use Rattle.spin_core.proofs.Walking.{walks, as_shr}
use Rattle.spin_core.specs.Cell.{Use, reads, use_of}
use Rattle.spin_core.specs.CellMemory.{offset, reader_shares, permit_shares}
use Rattle.spin_core.specs.contracts.cell.Permit as hand
use Rattle.spin_core.proofs.cell.PermitFields.{hand_of, Words, told, opened, sees}
use Rattle.spin_core.specs.contracts.cell.Permit.get.{ended, clauses}
use Rattle.spin_core.proofs.cell.Permit.get.Statement.{statement}
use Rattle.spin_core.proofs.cell.Permit.get.Code as code

pub get_spec : {M : Type 1} → statement M
get_spec 𝓤 𝓛 𝓜 𝓡 wired T V P K S L _ _ _ LS g d _ =
    let H = 𝓛.H in let 𝓣 = tables 𝓤 H 𝓜 𝓡 𝓡.env in let R = param 0 T in let W = param 1 V in let Y = param 2 P in let Kr = param 3 K in
    let Sr = param 4 S in let cw = W.coded in let LR = param_laws 0 T L in
    let fn = inst_fn (bounded code.function.ty_params (T, (V, (P, (K, (S, tt))))) (dcons d dnil)) code.function in
    walks 𝓛 (ended T V P K S g d) (clauses T V P K S g d 𝓛 𝓜.mem 𝓡.returns) 𝓜 𝓡 (λ κs x f. refl, tt) _ fn (code.unfolded 𝓤 H 𝓜 𝓡 wired (T, (V, (P, (K, (S, tt))))) d)
    (λ κs. (as_shr (named 0) κs.0 (hand.the_row (named_lft 7 1 tt κs) R W Y Kr Sr g), tt)) (λ κs qs bounds a gh are Post out.
    let ℓ = named_lft 7 1 tt κs in let D = Words ℓ R W Y Kr Sr g in let b = a.0.ref_ptr.0 in
    let o = a.0.ref_ptr.1 in let κ = κs.0 in let β = κs.1.0 in let h = a.0.now in let p = h.cell in
    let pb = block_of p in let po = count_of p in let e = po + offset R in let Seen : Type 0 = InBlock p × ((x : T.Denot) × (h.value ≡ Some x)) in
    let Lent = permit_shares Y R cw.code Sr (g.holds h.key) (g.ways h.key) β p h.view h.value κ in let Asked : Type 0 = use_of (g.ways h.key).1 h.view ≡ reads in
    move ! (2 ∷ []) $ use1 𝓛 (raw (fact 𝓤 Asked)) (last_fact 𝓤 (fact 𝓤 Asked) 5 (_, (_, (_, (_, (_, tt)))))) $ heard ! Asked (λ asked. move ! (1 ∷ []) $ fsplit ! $ move ! (2 ∷ []) $ fsplit ! $ move ! (2 ∷ []) $ fsplit ! $ keep ! (1 ∷ 2 ∷ 3 ∷ []) $
    alloc_all ! (λ l. pass_all ! refl ((tt, tt), tt) $ let Ev = types.ByLocal.env fn.locals l in
    use1 𝓛 (‵ (hidden_shr D κ (p, (tt, tt)) b o) ⊛ ‵ (fhide Lent))
    (lent_out 𝓛 (hand.struct ℓ R W Y Kr Sr g) (hand.the_codes T.Denot V.Denot P.Denot K.Denot S.Denot R.coded W.coded Y.coded Kr.coded Sr.coded (marker.the_row (denote.Ref.ShrRef ℓ.mir ℓ.lft R)).coded) (hand.the_heap β R W Y Kr Sr g) (hand.the_lent β R W Y Kr Sr g) κ h b o) $
    split ! $ move ! (1 ∷ []) $ unhide ! $ use1 𝓛 (given Seen (‵ Lent)) (fact_use 𝓤 _ (sees 𝓛 Y R cw.code Sr (g.holds h.key) (g.ways h.key) β p h.view h.value κ asked) (guard_i 𝓤 Seen (sem 𝓛 Lent))) $ learn ! (λ so.
    let x = so.1.0 in let at = at_block p so.0 in
    rewrite ! 0 (λ (z : Ptr). ‵ (permit_shares Y R cw.code Sr (g.holds h.key) (g.ways h.key) β z h.view h.value κ)) at refl $
    rewrite ! 0 (λ (z : Use × Option T.Denot). ‵ (reader_shares Y R cw.code Sr (g.holds h.key) (g.ways h.key) β pb po z.0 z.1 κ)) (λ i. (asked i, so.1.1 i)) refl $ fpick ! (λ known.
    use1 𝓛 (‵ (hidden_shr R κ x pb e)) (shortens 𝓛 (denote.Memory.shared_of R x pb e) (LR.shr_laws x pb e) (κ ++ β) κ (⊑_meet κ κ β (Incl-refl κ) bounds.0)) $ move ! (1 ∷ 2 ∷ []) $
    looks ! tt D (opened ℓ R W Y Kr Sr g 𝓛) (p, (tt, tt)) b o (λ q vs. move ! (1 ∷ []) $ peeks ! D (Is D) (shows 𝓛 D) (p, (tt, tt)) vs (λ is_so.
    let ev : vs ≡ hand_of (block_ptr pb po) ∷ [] = told ℓ R W Y Kr Sr g p vs is_so ∙ ap (λ (r : Ptr). hand_of r ∷ []) at in
    rewrite ! 1 (λ (ws : List Val). ‵ (cell_at q D.mir ws b o)) ev refl $ first ! $ blocks ! $
    sets_last ! (addr ! (through ! refl (fld ! refl (hop ! (look_in ! 1 (sub ! 0 refl (whole !))) (fld ! refl (stop !)))))) refl (tt, tt) $ exec ! 𝓣.C 𝓣.Λ Ev (tail fn.body) (at_ret Ev Post) $
    sets ! (of_opd ! (get ! refl)) refl (tt, tt) $ rewrite ! 1 (λ (ws : List Val). ‵ (cell_at q D.mir ws b o)) (sym ev) refl $ move ! (1 ∷ 0 ∷ 2 ∷ []) $ shuts ! tt D q (p, (tt, tt)) vs b o $
    move ! (0 ∷ 3 ∷ []) $ fjoin ! $ move ! (2 ∷ []) $ feq_i ! _ (vptr pb e ∷ []) _ refl $ fjoin ! $ says ! (Some x ≡ h.value) (sym so.1.1) $
    returns ! (look_at ! 0 refl) $ free_all ! refl $ keep ! (2 ∷ 1 ∷ 0 ∷ []) $ by ! (out (vptr pb e) (record { ref_ptr = (pb, e); now = x })))))))))

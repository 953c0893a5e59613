-- `into_writer` keeps what the permit owns, at a view that writes.
use Rattle.spin_core.proofs.WalkNames.{◌≡◌, [], ◌∷◌, refl, sym, Some, dcons, dnil, Val, inst_fn, Fml, ‵, ◌$◌, !, by, keep, join, fjoin, pick, learn, use0, stop, fld, of_opd, no_more, returns, alloc_all, pass_all, free_all, look_at, get_in, sets, agg, sub, whole, fact, named_lft, Ptr, param, bounded, says}
use Rattle.spin_core.proofs.WalkSteps.{last_fact, takes, two}
use Rattle.spin_core.proofs.Walking.{walks}
use Rattle.spin_core.specs.CellMemory.{permit_owns}
use Rattle.spin_core.specs.contracts.cell.WritePermit as pen
use Rattle.spin_core.proofs.cell.PermitFields.{as_hand, as_pen, hand_of, typed, Words, made}
use Rattle.spin_core.proofs.cell.Walks.{to_writer}
use Rattle.spin_core.specs.contracts.cell.Permit.into_writer.{ended, clauses}
use Rattle.spin_core.proofs.cell.Permit.into_writer.Statement.{statement}
use Rattle.spin_core.proofs.cell.Permit.into_writer.Code as code
use Rattle.spin_core.proofs.Lemmas.{cite}

pub into_writer_spec : {M : Type 1} → statement M
into_writer_spec 𝓤 𝓛 𝓜 𝓡 wired T V P K S L _ _ _ LS g d _ =
    let R = param 0 T in let W = param 1 V in let Y = param 2 P in let Kr = param 3 K in let Sr = param 4 S in let cw = W.coded in
    let fn = inst_fn (bounded code.function.ty_params (T, (V, (P, (K, (S, tt))))) (dcons d dnil)) code.function in
    walks 𝓛 (ended T V P K S g d) (clauses T V P K S g d 𝓛 𝓜.mem 𝓡.returns) 𝓜 𝓡 (λ κs x f. refl, tt) _ fn (code.unfolded 𝓤 𝓛.H 𝓜 𝓡 wired (T, (V, (P, (K, (S, tt))))) d)
    (λ κs. (as_hand (named_lft 6 0 tt κs) R W Y Kr Sr g, tt)) (λ κs qs bounds a gh are Post out.
    let ℓ = named_lft 6 0 tt κs in let Pr = pen.the_row ℓ R W Y Kr Sr g in let h = a.0 in let p = h.cell in
    let β = κs.0 in let Owned : Ptr → Fml = λ z. permit_owns Y R cw.code Sr (g.holds h.key) (g.ways h.key) β z h.view h.value in
    takes ! Owned refl p (last_fact 𝓤 (fact 𝓤 _) 5 (_, (_, (_, (_, (_, tt)))))) (λ asked inb.
    cite _ (to_writer 𝓛 Y R cw.code Sr (g.holds h.key) (g.ways h.key) β p h.view h.value asked) $
    pick ! (λ s. learn ! (λ so. alloc_all ! (λ l. pass_all ! refl (typed p inb, tt) $
    let good = Rattle.spin_core.proofs.cell.PermitFields.pointer p inb in sets ! (of_opd ! (get_in ! (fld ! refl (stop !)) (sub ! 0 refl (whole !)))) refl good $ sets ! (agg ! (no_more !)) refl (tt, tt) $
    sets ! (agg ! (two ! refl refl)) refl (typed p inb) $
    let h' : Pr.Denot = record { cell = p; marker = record {}; key = h.key; view = s.0; value = s.1 } in let v : Val = hand_of p in
    use0 𝓛 (‵ ((Words ℓ R W Y Kr Sr g).own_val (p, (tt, tt)) (v ∷ []))) (made ℓ R W Y Kr Sr g 𝓛 p) $ fjoin ! $
    let Told : Type 0 = (Some s.0 ≡ h.view) × (Some s.1 ≡ h.value) in says ! (h.key ≡ h.key) refl $ says ! Told (sym so.0, sym so.1) $ join ! $
    returns ! (look_at ! 0 refl) $ free_all ! refl $ keep ! (2 ∷ 1 ∷ 0 ∷ []) $ by ! (out v h'))))))

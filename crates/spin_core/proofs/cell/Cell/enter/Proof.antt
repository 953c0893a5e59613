-- `enter` makes a permit that has taken no step.
use Rattle.spin_core.proofs.WalkNames.{◌≡◌, [], ◌∷◌, refl, None, dcons, dnil, named, Val, inst_fn, ‵, ◌$◌, !, by, move, keep, join, fsplit, fjoin, fpick, use0, stop, addr, no_more, returns, alloc_all, pass_all, free_all, look_at, through, sets, agg, named_lft, block_ptr, nothing, param, bounded, unhide, says}
use Rattle.spin_core.proofs.WalkSteps.{two}
use Rattle.spin_core.proofs.Walking.{walks, as_shr}
use Rattle.spin_core.specs.Cell.{off}
use Rattle.spin_core.proofs.cell.Walks.{permit_in}
use Rattle.spin_core.specs.contracts.cell.Cell as cell
use Rattle.spin_core.specs.contracts.cell.Permit as hand
use Rattle.spin_core.proofs.cell.PermitFields.{hand_of, Words, made}
use Rattle.spin_core.specs.contracts.cell.Cell.enter.{ended, clauses}
use Rattle.spin_core.proofs.cell.Cell.enter.Statement.{statement}
use Rattle.spin_core.proofs.cell.Cell.enter.Code as code
use Rattle.spin_core.proofs.Lemmas.{cite}

pub enter_spec : {M : Type 1} → statement M
enter_spec 𝓤 𝓛 𝓜 𝓡 wired T V P K S L _ _ _ LS g d _ =
    let R = param 0 T in let W = param 1 V in let Y = param 2 P in let Kr = param 3 K in let Sr = param 4 S in let cw = W.coded in
    let fn = inst_fn (bounded code.function.ty_params (T, (V, (P, (K, (S, tt))))) (dcons d dnil)) code.function in
    walks 𝓛 (ended T V P K S g d) (clauses T V P K S g d 𝓛 𝓜.mem 𝓡.returns) 𝓜 𝓡 (λ κs x f. refl, tt) _ fn (code.unfolded 𝓤 𝓛.H 𝓜 𝓡 wired (T, (V, (P, (K, (S, tt))))) d)
    (λ κs. (as_shr (named 0) κs.0 (cell.the_row R W Y Kr Sr g), tt)) (λ κs qs bounds a gh are Post out.
    let b = a.0.ref_ptr.0 in let o = a.0.ref_ptr.1 in let κ = κs.0 in let ℓ = named_lft 6 0 tt κs in let Hr = hand.the_row ℓ R W Y Kr Sr g in
    let p = block_ptr b o in
    move ! (1 ∷ []) $ fsplit ! $ fsplit ! $ keep ! (1 ∷ 3 ∷ []) $ alloc_all ! (λ l. pass_all ! refl ((tt, tt), tt) $
    sets ! (addr ! (through ! refl (stop !))) refl (tt, tt) $ sets ! (agg ! (no_more !)) refl (tt, tt) $ sets ! (agg ! (two ! refl refl)) refl (tt, (tt, (tt, tt))) $
    unhide ! $ fpick ! (λ known. fpick ! (λ t. nothing ! $ nothing ! $ move ! (2 ∷ []) $
    cite _ (permit_in 𝓛 Y R cw.code Sr (g.holds a.0.now) (g.ways a.0.now) κ b o None off None known t) $
    let h' : Hr.Denot = record { cell = p; marker = record {}; key = a.0.now; view = None; value = None } in let v : Val = hand_of p in
    use0 𝓛 (‵ ((Words ℓ R W Y Kr Sr g).own_val (p, (tt, tt)) (v ∷ []))) (made ℓ R W Y Kr Sr g 𝓛 p) $ fjoin ! $
    let Told : Type 0 = (h'.view ≡ None) × (h'.value ≡ None) in says ! Told (refl, refl) $ says ! (h'.key ≡ a.0.now) refl $ join ! $
    returns ! (look_at ! 0 refl) $ free_all ! refl $ keep ! (2 ∷ 1 ∷ 0 ∷ []) $ by ! (out v h')))))

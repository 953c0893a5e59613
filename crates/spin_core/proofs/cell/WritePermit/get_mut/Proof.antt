-- `get_mut` lends the value, and the permit then has the value that was written. Assumes `Logic`.
use Rattle.spin_core.proofs.WalkNames.{◌≡◌, ℕ, ◌+◌, List, [], ◌∷◌, refl, sym, ap, ◌∙◌, named, dcons, dnil, Val, vptr, inst_fn, full_share, Fml, fsep, Logic, split3, ‵, ◌⊛◌, at_ret, ◌$◌, ◌∵◌, !, by, move, keep, split, join, fsplit, fsplit3, fjoin, use1, use2, some, await, pick, fpick, fpack, rewrite, stop, addr, of_opd, first, blocks, exec, returns, fld, hop, alloc_all, pass_all, free_all, look_at, get, through, sets, sets_last, env, sub, whole, look_in, tables, RattleType, Is, shows, named_lft, peeks, param, bounded, cell_at, part_at, Ptr, block_ptr, block_of, count_of, at_block, tail, says, lies}
use seplogic.Ra.Ura.{Ura}
use denote.Ref.{NamedLft}
use Rattle.spin_core.proofs.Walking.{walks, as_mut}
use Rattle.spin_core.specs.declared.cell.Rule.{Ghosts}
use types.Kit.{each, frame, assume}
use types.Mut.{open_ref, close_ref}
use denote.Memory.{part_of, mem as in_memory}
use denote.Struct.OwningLaws.{part_out, part_in}
use Rattle.spin_core.specs.CellMemory.{offset, tracked, writer_owns}
use Rattle.spin_core.specs.Writer.{writer_of}
use Rattle.spin_core.specs.contracts.cell.WritePermit.{the_type, the_row}
use Rattle.spin_core.proofs.cell.PermitFields.{hand_of, Words, told}
use Rattle.spin_core.proofs.cell.Through.{Back, Cut, again, cuts, through as goes_through}
use Rattle.spin_core.specs.contracts.cell.WritePermit.get_mut.{ended, clauses}
use Rattle.spin_core.proofs.cell.WritePermit.get_mut.Statement.{statement}
use Rattle.spin_core.proofs.cell.WritePermit.get_mut.Code as code
use Rattle.spin_core.proofs.Lemmas.{cite, Lemma, script, having}

-- what is in the write permit h at this place, as the borrow of its value
module _ {M : Type 1} {𝓤 : Ura M} (𝓛 : Logic 𝓤) (ℓ : NamedLft) (R W Y Kr Sr : RattleType)
    (g : Ghosts Y.Denot R.Denot W.Denot Kr.Denot Sr.Denot) (h : (the_row ℓ R W Y Kr Sr g).Denot) (b o c e : ℕ)
    (at : h.cell ≡ block_ptr c e) where
  abbrev It : R.Denot → Fml
  It x = part_at (the_row ℓ R W Y Kr Sr g) full_share (writer_of h x) b o

  abbrev Pen : R.Denot → Ptr → Fml
  Pen x p = writer_owns Y R W.coded.code Sr (g.holds h.key) (g.ways h.key) ℓ.lft p h.view x

  cut : Lemma 𝓛 (‵ (It h.value)) (some (Cut 𝓛 R ℓ.lft c e It h.value))
  cut = let t = the_type ℓ R W Y Kr Sr g in script ∵
      use1 𝓛 (‵ (part_at (Words ℓ R W Y Kr Sr g) full_share (h.cell, (tt, tt)) b o) ⊛ ‵ (Pen h.value h.cell))
      (part_out 𝓛 t full_share h b o) $ split ! $ move ! (1 ∷ []) $
      rewrite ! 0 (λ (p : Ptr). ‵ (Pen h.value p)) at refl $
      cite _ (cuts 𝓛 Y R W.coded.code Sr (g.holds h.key) (g.ways h.key) ℓ.lft c e h.view h.value) $ pick ! (λ i.
      split3 ! $ move ! (2 ∷ []) $ split ! $ move ! (2 ∷ 3 ∷ 0 ∷ []) $ having ! (Cut 𝓛 R ℓ.lft c e It h.value) i $
      frame ! $ frame ! $ frame ! $ each ! (Back 𝓛 R ℓ.lft c e It i) (λ z. assume ! (‵ (tracked R c e i z)) $
      move ! (1 ∷ 0 ∷ []) $ cite _ (again 𝓛 R ℓ.lft c e (λ x. Pen x (block_ptr c e)) i z) $
      rewrite ! 0 (λ (p : Ptr). ‵ (Pen z p)) (sym at) refl $ move ! (1 ∷ 0 ∷ []) $
      by ! (part_in 𝓛 t full_share (writer_of h z) b o)))

pub get_mut_spec : {M : Type 1} → statement M
unfolding part_of
get_mut_spec 𝓤 𝓛 𝓜 𝓡 wired T V P K S L _ _ _ LS g d _ =
    let H = 𝓛.H in let 𝓣 = tables 𝓤 H 𝓜 𝓡 𝓡.env in let R = param 0 T in let W = param 1 V in let Y = param 2 P in let Kr = param 3 K in
    let Sr = param 4 S in let cw = W.coded in let En = ended T V P K S g d in let c = clauses T V P K S g d 𝓛 𝓜.mem 𝓡.returns in
    let fn = inst_fn (bounded code.function.ty_params (T, (V, (P, (K, (S, tt))))) (dcons d dnil)) code.function in
    walks 𝓛 En c 𝓜 𝓡 (λ κs x f. refl, tt) _ fn (code.unfolded 𝓤 H 𝓜 𝓡 wired (T, (V, (P, (K, (S, tt))))) d)
    (λ κs. (as_mut (named 0) κs.0 (the_row (named_lft 7 1 tt κs) R W Y Kr Sr g), tt)) (λ κs qs bounds a gh are Post out.
    let ℓ = named_lft 7 1 tt κs in let G = the_row ℓ R W Y Kr Sr g in let D = Words ℓ R W Y Kr Sr g in let m = a.0 in let b = m.ref_ptr.0 in
    let o = m.ref_ptr.1 in let h = m.now in let x = h.value in let Ws = part_at D full_share (h.cell, (tt, tt)) b o in
    let κ = κs.0 in let q = qs.0 in let β = κs.1.0 in let p = h.cell in let pb = block_of p in let po = count_of p in let e = po + offset R in
    let Had : Ptr → T.Denot → Fml = λ z w. writer_owns Y R cw.code Sr (g.holds h.key) (g.ways h.key) β z h.view w in
    fsplit ! $ move ! (2 ∷ []) $ fsplit ! $ fsplit3 ! $ keep ! (1 ∷ 2 ∷ 4 ∷ 5 ∷ []) $
    alloc_all ! (λ l. pass_all ! refl ((tt, tt), tt) $ let Ev = env fn.locals l in
    open_ref ! tt (in_memory G) $ use1 𝓛 (‵ Ws ⊛ ‵ (Had p x)) (part_out 𝓛 (the_type ℓ R W Y Kr Sr g) full_share h b o) $ split ! $ move ! (1 ∷ []) $
    lies ! (λ z. Had z x) refl p (λ inb. let at : p ≡ block_ptr pb po = at_block p inb in
    move ! (1 ∷ []) $ fpick ! (λ vs. fsplit ! $ move ! (1 ∷ []) $ peeks ! D (Is D) (shows 𝓛 D) (p, (tt, tt)) vs (λ is_so.
    let ev : vs ≡ hand_of (block_ptr pb po) ∷ [] = told ℓ R W Y Kr Sr g p vs is_so ∙ ap (λ (r : Ptr). hand_of r ∷ []) at in
    rewrite ! 1 (λ (us : List Val). ‵ (cell_at full_share D.mir us b o)) ev refl $ first ! $ blocks ! $
    sets ! (addr ! (through ! refl (fld ! refl (hop ! (look_in ! 1 (sub ! 0 refl (whole !))) (fld ! refl (stop !)))))) refl (tt, tt) $
    sets_last ! (addr ! (through ! refl (stop !))) refl (tt, tt) $ exec ! 𝓣.C 𝓣.Λ Ev (tail fn.body) (at_ret Ev Post) $ sets ! (of_opd ! (get ! refl)) refl (tt, tt) $
    rewrite ! 1 (λ (us : List Val). ‵ (cell_at full_share D.mir us b o)) (sym ev) refl $ move ! (1 ∷ 0 ∷ []) $ fjoin ! $
    fpack ! (List Val) (λ us. fsep (cell_at full_share D.mir us b o) (D.own_val (p, (tt, tt)) us)) vs $
    use2 𝓛 (‵ (part_at G full_share h b o)) (part_in 𝓛 (the_type ℓ R W Y Kr Sr g) full_share h b o) $ close_ref ! tt (in_memory G) h $
    cite _ (goes_through 𝓛 R G β pb po (writer_of h) (λ y z. ap (λ (it : G.Denot). it.value)) (named 0) κ bounds.0 q m
    x (cut 𝓛 ℓ R W Y Kr Sr g h b o pb po at)) $ await ! tt $ pick ! (λ δ. split3 ! $ move ! (1 ∷ 3 ∷ []) $ fjoin ! $
    says ! (x ≡ x) refl $ move ! (3 ∷ 0 ∷ []) $ join ! $
    returns ! (look_at ! 0 refl) $ free_all ! refl $ keep ! (1 ∷ 2 ∷ 0 ∷ []) $ by ! (out (vptr pb e) (record { ref_ptr = (pb, e); ghost_name = δ; now = x }))))))))

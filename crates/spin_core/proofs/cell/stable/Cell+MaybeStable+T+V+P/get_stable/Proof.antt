-- `get_stable` loads the first word, and lends the value if the load finds the number asked for. Assumes `Logic`.
use Rattle.spin_core.proofs.WalkNames.{◌≡◌, ℕ, ◌+◌, [], ◌∷◌, sym, refl, subst, lit<, dcons, dnil, named, vptr, vcons, vnil, inst_fn, full_share, SProp, ent, sep, Fml, flft, sem, ‵, raw, ◌⊛◌, some, later, at_ret, ◌$◌, !, by, move, keep, drop, use0, use1, use2, split, split3, join, pick, await, rewrite, fsplit, fsplit3, fjoin, fpick, stop, fld, addr, load, lit, of_opd, and_then, no_more, first, blocks, exec, returns, agg, alloc_all, pass_all, free_all, look_at, get, through, sets, sets_last, env, tables, fact, RattleType, part_at, param, layout, bounded, param_laws, nothing, heard}
use Rattle.std.proofs.Common.{eqb→eq, w8}
use mir.Syntax.{Body, seq, assign, place, rv_opd, copy, aggregate, int}
use base.Fml.{GName}
use prog.Wp.{Wp, after_seq, at_return}
use types.Kit.{any_q, group}
use types.Run.{look, bin, well_typed, branches}
use types.Match.{live}
use types.Mut.{open_ref, close_ref}
use denote.Ref.{MutRef, MutBor}
use denote.Follow.{follows, lends_Part}
use denote.Memory.{part_of, lone, mem as in_memory}
use denote.Struct.Members.{Member}
use Rattle.core.specs.contracts.option.Option as option
use Rattle.core.specs.declared.option.Option.TheVariants.{None, Some}
use Rattle.core.proofs.option.Made.{Some-of, none_of}
use Rattle.core.proofs.alloc.Shapes.{after}
use Rattle.spin_core.proofs.WalkSteps.{last_two}
use Rattle.spin_core.proofs.Walking.{walks, as_u64, as_mut}
use Rattle.spin_core.specs.Cell.{Starts, MayLend}
use Rattle.spin_core.specs.Stable.{StableAt}
use Rattle.spin_core.specs.CellMemory.{offset}
use Rattle.spin_core.specs.declared.cell.stable.Stabilizes.{Ghosts}
use Rattle.spin_core.specs.contracts.cell.Cell as cell
use Rattle.spin_core.specs.contracts.cell.stable.MaybeStable as maybe_stable
use Rattle.spin_core.specs.contracts.cell.stable.Stable as stable
use Rattle.spin_core.proofs.cell.stable.MaybeStable.TheLaws as maybe_stable_laws
use Rattle.spin_core.proofs.cell.Fields.{Row, row_out, row_in, standing_words, Joins, fields_out, rejoined, rekeyed}
use Rattle.spin_core.specs.contracts.cell.stable.Cell+MaybeStable+T+V+P.get_stable.{ended, clauses}
use Rattle.spin_core.proofs.cell.stable.Cell+MaybeStable+T+V+P.get_stable.Statement.{statement}
use Rattle.spin_core.proofs.cell.stable.Cell+MaybeStable+T+V+P.get_stable.Code as code
use Rattle.spin_core.proofs.Lemmas.{cite}

-- the rest of the branch that lends
abbrev wraps : Body
wraps = seq (assign (place 7 []) (rv_opd (copy (place 8 [])))) (assign (place 6 []) (aggregate (int w8 1 ∷ copy (place 7 []) ∷ [])))

-- a `Stable` value has the same layout as a `MaybeStable` one
lies : (X : RattleType) (g : Ghosts X.Denot) (w : (stable.the_row X g).Denot) (b e : ℕ) → part_at (stable.the_row X g) full_share w b e ≡ part_at (maybe_stable.the_row X) full_share (record { value = w.value }) b e
unfolding part_of
lies X g w b e = refl

pub get_stable_spec : {M : Type 1} → statement M
get_stable_spec 𝓤 𝓛 𝓜 𝓡 wired X U P K N L _ _ _ LN s d' g d _ _ =
    let H = 𝓛.H in let 𝓣 = tables 𝓤 H 𝓜 𝓡 𝓡.env in let X₀ = param 0 X in let R = maybe_stable.the_row X₀ in let S = stable.the_row X₀ s in let V = param 1 U in
    let Y = param 2 P in let Kr = param 3 K in let Nr = param 4 N in
    let fn = inst_fn (bounded code.function.ty_params (X, (U, (P, (K, (N, tt))))) (dcons d' (dcons d dnil))) code.function in
    let Ty = cell.the_row R V Y Kr Nr g in let m : Member = record { row = R; ty = lone R.mir } in let ms : Member = record { row = Nr; ty = layout N } in
    let Ls = (param_laws 4 N LN).lawful 𝓛 in let Lw = (maybe_stable_laws.the_row_laws X₀ (param_laws 0 X L)).lawful 𝓛 in
    walks 𝓛 (ended X U P K N s d' g d) (clauses X U P K N s d' g d 𝓛 𝓜.mem 𝓡.returns) 𝓜 𝓡 (λ κs x f. refl, (λ κs x f. refl, tt)) _ fn (code.unfolded 𝓤 H 𝓜 𝓡 wired (X, (U, (P, (K, (N, tt))))) d' d)
    (λ κs. (as_mut (named 0) κs.0 Ty, (as_u64, tt))) (λ κs qs bounds a gh are Post out.
    let b = a.0.ref_ptr.0 in let o = a.0.ref_ptr.1 in let old = a.0.now in let key = g.lent old in let γ = a.0.ghost_name in let wanted = a.1.0 in let κ = κs.0 in let q = qs.0 in
    let e = o + offset R in let at = vptr b e in let Lent = MutRef (named 0) κ S in let Out = option.the_row Lent in
    let Ok = StableAt (g.holds key) (g.ways key) s.stable wanted in let Same = MayLend (g.holds old) (g.ways old) (g.holds key) (g.ways key) in let Q = sem 𝓛 (Row 𝓛 m ms V Y Kr g key b o) in
    let Joined = Joins 𝓛 m ms V Y Kr g key b o Lw Ls (Row 𝓛 m ms V Y Kr g key b o) (row_out 𝓛 m ms V Y Kr g key b o) (row_in 𝓛 m ms V Y Kr g key b o) in
    let Rest : ℕ × N.Denot → SProp 𝓤 = λ ns. sep 𝓤 (sem 𝓛 (standing_words 𝓛 m ms V Y Kr g key b o ns)) Joined in
    let shuts = rejoined 𝓛 m ms V Y Kr g key b o Lw Ls (Row 𝓛 m ms V Y Kr g key b o) (row_out 𝓛 m ms V Y Kr g key b o) (row_in 𝓛 m ms V Y Kr g key b o) in
    move ! (2 ∷ []) $ use1 𝓛 (raw (fact 𝓤 (Ok × Same))) (last_two 𝓤 Ok Same 5 (_, (_, (_, (_, (_, tt)))))) $ heard ! (Ok × Same) (λ asked. fsplit ! $ move ! (2 ∷ []) $ fsplit ! $ fsplit3 ! $ keep ! (1 ∷ 2 ∷ 4 ∷ 5 ∷ []) $
    alloc_all ! (λ l. pass_all ! refl ((tt, tt), ((tt, record { fits = are.1.0.1 }), tt)) $ let Ev = env fn.locals l in
    open_ref ! tt (in_memory Ty) $ cite _ (rekeyed 𝓛 m ms V Y Kr g old key b o asked.1) $
    cite _ (fields_out 𝓛 m ms V Y Kr g key b o Lw Ls (Row 𝓛 m ms V Y Kr g key b o) (row_out 𝓛 m ms V Y Kr g key b o) (row_in 𝓛 m ms V Y Kr g key b o)) $
    pick ! (λ z. let n = z.1.0 in let k = z.1.1 in let x = z.1.2 in
    split ! $ fsplit ! $ move ! (2 ∷ []) $ split3 ! $ move ! (1 ∷ []) $ fpick ! (λ rule. drop ! $ move ! (2 ∷ []) $
    -- context: [the first word; the value; the way back; the second word; the open borrow; two entries for its ghost
    -- name; the tokens]
    well_typed ! (λ good. sets ! (of_opd ! (load ! (through ! refl (fld ! refl (stop !))) (look ! 0 refl))) refl (tt, record { fits = good.1.fits }) $ sets ! (of_opd ! (get ! refl)) refl (tt, record { fits = are.1.0.1 }) $
    sets ! (bin ! (get ! refl) (get ! refl) tt) refl (tt, tt) $ first ! $ branches ! (get ! refl)
    (λ same. let is = eqb→eq n wanted same in let may = asked.0 k x.value (subst (λ (j : ℕ). Starts (g.holds key) (g.ways key) j k x) is rule) in
    let Then = any_q (after_seq 𝓤 H (Wp 𝓤 H 𝓣.C 𝓣.Λ Ev (after 4 fn.body) (at_return 𝓤 H Ev Post)) (at_return 𝓤 H Ev Post)) in
    let w : S.Denot = record { value = x.value; stable = may.0 } in
    first ! $ blocks ! $ sets ! (addr ! (through ! refl (fld ! refl (stop !)))) refl (tt, tt) $ sets_last ! (addr ! (through ! refl (stop !))) refl (tt, tt) $ exec ! 𝓣.C 𝓣.Λ Ev wraps Then $ sets ! (of_opd ! (get ! refl)) refl (tt, tt) $
    sets_last ! (agg ! (and_then ! (lit ! tt) (and_then ! (get ! refl) (no_more !)))) refl (tt, (record { fits = lit< tt }, (tt, tt))) $ exec ! 𝓣.C 𝓣.Λ Ev (after 4 fn.body) (at_ret Ev Post) $ sets ! (of_opd ! (get ! refl)) refl (tt, (record { fits = lit< tt }, (tt, tt))) $
    move ! (0 ∷ 3 ∷ []) $ fjoin ! $ move ! (0 ∷ 2 ∷ []) $ join ! $ move ! (1 ∷ []) $ rewrite ! 0 (λ (F : Fml). ‵ F) (sym (lies X₀ s w b e)) refl $ move ! (2 ∷ 3 ∷ 4 ∷ 0 ∷ 1 ∷ []) $ group ! 5 $
    use1 𝓛 (later (some (λ (δ : GName). ‵ (Lent.own_val (record { ref_ptr = (b, e); ghost_name = δ; now = w }) (at ∷ [])) ⊛ ‵ (flft κ q) ⊛ ‵ (follows Ty S γ δ (λ _. key)))))
    (lends_Part 𝓛 Ty S (λ _. key) (named 0) κ q b o b e γ (Rest (n, k))
    (λ v. subst (λ (F : Fml). ent 𝓤 (sep 𝓤 (sem 𝓛 F) (Rest (n, k))) Q) (sym (lies X₀ s v b e))
    (shuts (n, k, record { value = v.value })
    (subst (λ (j : ℕ). Starts (g.holds key) (g.ways key) j k (record { value = v.value })) (sym is)
    (may.1 v.value v.stable))).prf) (K.coded.code old) (K.coded.code old) w) $ await ! tt $
    pick ! (λ δ. let r : MutBor S.Denot = record { ref_ptr = (b, e); ghost_name = δ; now = w } in
    split3 ! $ use1 𝓛 (‵ (Out.own_val (Some r) (live 1 (vcons at vnil) ∷ []))) (Some-of 𝓛 Lent r at) $ move ! (2 ∷ []) $ drop ! $ move ! (1 ∷ 2 ∷ []) $ fjoin ! $ move ! (1 ∷ []) $ nothing ! $
    returns ! (look_at ! 0 refl) $ free_all ! refl $ keep ! (2 ∷ 1 ∷ 0 ∷ []) $ by ! (out (live 1 (vcons at vnil)) (Some r))))
    (λ other. sets_last ! (agg ! (and_then ! (lit ! tt) (no_more !))) refl (tt, (record { fits = lit< tt }, tt)) $ exec ! 𝓣.C 𝓣.Λ Ev (after 4 fn.body) (at_ret Ev Post) $ sets ! (of_opd ! (get ! refl)) refl (tt, (record { fits = lit< tt }, tt)) $
    move ! (0 ∷ 3 ∷ []) $ fjoin ! $ move ! (0 ∷ 2 ∷ []) $ join ! $ move ! (1 ∷ 0 ∷ []) $
    use2 𝓛 (‵ (Row 𝓛 m ms V Y Kr g key b o)) (shuts z.1 rule).prf $ close_ref ! tt (in_memory Ty) key $ drop ! $
    drop ! $ fjoin ! $ use0 𝓛 (‵ (Out.own_val None (live 0 vnil ∷ []))) (none_of 𝓛 Lent) $ nothing ! $
    returns ! (look_at ! 0 refl) $ free_all ! refl $ keep ! (2 ∷ 1 ∷ 0 ∷ []) $ by ! (out (live 0 vnil) None))))))))

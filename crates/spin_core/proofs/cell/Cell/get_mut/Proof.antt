-- `get_mut` lends the value under a new ghost name, and gives the cell the key that the rule names (`lent`).
use Rattle.spin_core.proofs.WalkNames.{◌+◌, [], ◌∷◌, refl, dcons, dnil, named, vptr, inst_fn, sep, Fml, flft, sem, ‵, raw, ◌⊛◌, some, later, ◌$◌, !, by, move, keep, split, split3, join, fsplit, fsplit3, fjoin, pick, fpick, drop, use1, await, stop, fld, addr, returns, alloc_all, pass_all, free_all, look_at, through, sets, param, layout, bounded, param_laws, fact, heard}
use base.Fml.{GName}
use types.Kit.{group}
use denote.Memory.{mem as in_memory}
use denote.Follow.{follows, lends_Part}
use types.Mut.{open_ref}
use denote.Ref.{MutRef}
use denote.Struct.Members.{Member}
use Rattle.spin_core.proofs.cell.Ways.{restarts}
use Rattle.spin_core.proofs.WalkSteps.{last_two}
use Rattle.spin_core.proofs.Walking.{walks, as_mut}
use Rattle.spin_core.specs.Cell.{Frees, Freeing, MayLend}
use Rattle.spin_core.specs.CellMemory.{offset}
use Rattle.spin_core.proofs.cell.Fields.{Row, row_out, row_in, standing_words, Joins, fields_out, rejoined, rekeyed}
use Rattle.spin_core.specs.contracts.cell.Cell as cell
use Rattle.spin_core.specs.contracts.cell.Cell.get_mut.{ended, clauses}
use Rattle.spin_core.proofs.cell.Cell.get_mut.Statement.{statement}
use Rattle.spin_core.proofs.cell.Cell.get_mut.Code as code
use Rattle.spin_core.proofs.Lemmas.{cite}

pub get_mut_spec : {M : Type 1} → statement M
get_mut_spec 𝓤 𝓛 𝓜 𝓡 wired X U P K S L _ _ _ LS g d _ =
    let R = param 0 X in let V = param 1 U in let Y = param 2 P in let Kr = param 3 K in let Sr = param 4 S in
    let fn = inst_fn (bounded code.function.ty_params (X, (U, (P, (K, (S, tt))))) (dcons d dnil)) code.function in
    let Ty = cell.the_row R V Y Kr Sr g in let m : Member = record { row = R; ty = layout X } in let ms : Member = record { row = Sr; ty = layout S } in
    let Lw = (param_laws 0 X L).lawful 𝓛 in let Ls = (param_laws 4 S LS).lawful 𝓛 in
    walks 𝓛 (ended X U P K S g d) (clauses X U P K S g d 𝓛 𝓜.mem 𝓡.returns) 𝓜 𝓡 (λ κs x f. refl, tt) _ fn (code.unfolded 𝓤 𝓛.H 𝓜 𝓡 wired (X, (U, (P, (K, (S, tt))))) d)
    (λ κs. (as_mut (named 0) κs.0 Ty, tt)) (λ κs qs bounds a gh are Post out.
    let b = a.0.ref_ptr.0 in let o = a.0.ref_ptr.1 in let κ = κs.0 in let q = qs.0 in let e = o + offset R in
    let old = a.0.now in let key = g.lent old in let γ = a.0.ghost_name in let at = vptr b e in let Free = Freeing (g.ways key).2 (Frees (g.ways key).0) in let Same = MayLend (g.holds old) (g.ways old) (g.holds key) (g.ways key) in let Lent = MutRef (named 0) κ R in
    let Cell : Fml = Row 𝓛 m ms V Y Kr g key b o in let words = standing_words 𝓛 m ms V Y Kr g key b o in
    let takes_out = row_out 𝓛 m ms V Y Kr g key b o in let back = row_in 𝓛 m ms V Y Kr g key b o in
    let Joined = Joins 𝓛 m ms V Y Kr g key b o Lw Ls Cell takes_out back in
    move ! (2 ∷ []) $ use1 𝓛 (raw (fact 𝓤 (Free × Same))) (last_two 𝓤 Free Same 5 (_, (_, (_, (_, (_, tt)))))) $
    heard ! (Free × Same) (λ asked. fsplit ! $ move ! (2 ∷ []) $ fsplit ! $ fsplit3 ! $ keep ! (1 ∷ 2 ∷ 4 ∷ 5 ∷ []) $
    alloc_all ! (λ l. pass_all ! refl ((tt, tt), tt) $ open_ref ! tt (in_memory Ty) $ cite _ (rekeyed 𝓛 m ms V Y Kr g old key b o asked.1) $
    cite _ (fields_out 𝓛 m ms V Y Kr g key b o Lw Ls Cell takes_out back) $
    pick ! (λ z. let n = z.1.0 in let k = z.1.1 in let x = z.1.2 in split ! $ move ! (1 ∷ []) $ split3 ! $ move ! (1 ∷ []) $ fpick ! (λ rule. drop ! $
    -- context: [the value; the way back; the words; the open borrow; two entries for its ghost name; the tokens]
    move ! (2 ∷ 1 ∷ []) $ join ! $ move ! (2 ∷ 3 ∷ 4 ∷ 1 ∷ 0 ∷ []) $ group ! 5 $
    use1 𝓛 (later (some (λ (δ : GName). ‵ (Lent.own_val (record { ref_ptr = (b, e); ghost_name = δ; now = x }) (at ∷ [])) ⊛ ‵ (flft κ q) ⊛ ‵ (follows Ty R γ δ (λ _. key)))))
    (lends_Part 𝓛 Ty R (λ _. key) (named 0) κ q b o b e γ (sep 𝓤 (sem 𝓛 (words (n, k))) Joined)
    (λ v. (rejoined 𝓛 m ms V Y Kr g key b o Lw Ls Cell takes_out back (n, k, v)
    (restarts (g.holds key) (g.ways key) n k x v asked.0 rule)).prf) (K.coded.code old) (K.coded.code old) x) $
    await ! tt $ pick ! (λ δ. split3 ! $
    sets ! (addr ! (through ! refl (fld ! refl (stop !)))) refl (tt, tt) $ move ! (1 ∷ 3 ∷ []) $ fjoin ! $
    returns ! (look_at ! 0 refl) $ free_all ! refl $ keep ! (0 ∷ 1 ∷ 2 ∷ []) $ by ! (out at (record { ref_ptr = (b, e); ghost_name = δ; now = x }))))))))

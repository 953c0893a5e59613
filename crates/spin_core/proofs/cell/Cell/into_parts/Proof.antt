-- `into_parts` moves the words and the value out of the cell, and what the rule says of them.
use Rattle.spin_core.proofs.cell.PermitFields.{both}
use Rattle.spin_core.proofs.WalkSteps.{says, three}
use Rattle.spin_core.proofs.WalkNames.{◌≡◌, ◌^◌, List, [], ◌∷◌, ◌++◌, sym, refl, ◌∙◌, subst, w64, dcons, dnil, Val, vint, vstruct, vcons, vnil, of_list, inst_fn, SProp, ent, id⊢, Fml, fsep, feq, ftrue, flft, tables, WpFn, fact, param_laws, ‵, raw, ◌⊛◌, ◌$◌, ◌∵◌, !, qed, by, move, keep, drop, split, fsplit, fsplit3, fjoin, fpick, fpack, rewrite, feq_i, feq_l, flt_i, flt_l, suffices, stop, fld, of_opd, returns, enter, alloc_all, pass_all, free_all, look_at, get, get_in, sets, agg, sub, whole, nothing, peeks, Is, shows, u64, Valss, owns, param, bounded, walk_of, El, lawful, Good, one, proved_at, leaves}
use Rattle.spin_core.specs.Cell.{Starts}
use Rattle.spin_core.specs.contracts.cell.Cell as cell
use Rattle.spin_core.specs.contracts.cell.Cell.into_parts.{ended, clauses}
use Rattle.spin_core.specs.contracts.cell.Cell.into_parts.Key.{name as #self}
use Rattle.spin_core.proofs.cell.Cell.into_parts.Statement.{statement}
use Rattle.spin_core.proofs.cell.Cell.into_parts.Code as code
use Rattle.spin_core.proofs.Walking.{all_dropped, all_go}

pub into_parts_spec : {M : Type 1} → statement M
into_parts_spec 𝓤 𝓛 𝓜 𝓡 wired X U P K S L _ _ _ LS g d _ =
    let H = 𝓛.H in let 𝓣 = tables 𝓤 H 𝓜 𝓡 𝓡.env in let R = param 0 X in let V = param 1 U in let Y = param 2 P in
    let Kr = param 3 K in
    let Sr = param 4 S in let En = ended X U P K S g d in let c = clauses X U P K S g d 𝓛 𝓜.mem 𝓡.returns in
    let E : El = record { row = X; laws = L } in
    let N : El = record { row = S; laws = LS } in
    let inst = bounded code.function.ty_params (X, (U, (P, (K, (S, tt))))) (dcons d dnil) in
    let fn = inst_fn inst code.function in
    let Row = cell.the_row R V Y Kr Sr g in let hs = all_dropped En.signature.params En.kept in
    proved_at 𝓛 En hs c 𝓜 𝓡 (all_go 𝓛 En.signature.params En.kept (λ κs x f. refl, tt))
    (#self inst) fn (code.unfolded 𝓤 H 𝓜 𝓡 wired (X, (U, (P, (K, (S, tt))))) d) (λ z are.
    let key = z.0.3.0 in
    let Post = (walk_of 𝓛 En hs c).post z in let Run : List Val → SProp 𝓤 = λ ws. WpFn 𝓤 H 𝓣.C 𝓣.Λ fn ws Post in
    let κs = z.0.0 in let qs = z.0.1 in let α = flft κs.0 qs.0 in let β = flft κs.1.0 qs.1.0 in
    let π = flft κs.1.1.0 qs.1.1.0 in
    let ι = flft κs.1.1.1.0 qs.1.1.1.0 in let σ = flft κs.1.1.1.1.0 qs.1.1.1.1.0 in
    qed 𝓛 (((‵ α ⊛ (‵ β ⊛ (‵ π ⊛ (‵ ι ⊛ (‵ σ ⊛ ‵ ftrue))))) ⊛ ‵ (fsep (Row.own_val key z.0.4.0) ftrue))
    ∷ raw (fact 𝓤 _) ∷ raw (fact 𝓤 _) ∷ raw (fact 𝓤 _) ∷ raw (fact 𝓤 _) ∷ raw (fact 𝓤 _) ∷ ‵ ftrue ∷ []) ∵
    keep ! (0 ∷ []) $ split ! $ move ! (1 ∷ []) $ fsplit ! $ fsplit ! $ drop ! $
    fpick ! (λ known. fpick ! (λ s. fsplit ! $ move ! (1 ∷ []) $ fpick ! (λ start. drop ! $ fpick ! (λ vss. fsplit ! $
    feq_l ! (λ ev. fsplit3 ! $ fpick ! (λ uss. fsplit ! $ feq_l ! (λ em. drop ! $ fsplit ! $
    feq_l ! (λ en. flt_l ! (λ fits. fsplit ! $
    -- context: [the value; the `Second`; nothing; the tokens]
    peeks ! R (Is R) (shows 𝓛 R) s.2 vss.1.1.0 (λ is_so. move ! (1 ∷ []) $ fsplit ! $
    peeks ! Sr (Is Sr) (shows 𝓛 Sr) s.1 vss.1.1.1.0 (λ is_second.
    let got = one E vss.1.1.0 ((lawful E 𝓛).typed s.2 vss.1.1.0 is_so) in let vy = got.0 in let fy = got.2 in
    let got_second = one N vss.1.1.1.0 (((param_laws 4 S LS).lawful 𝓛).typed s.1 vss.1.1.1.0 is_second) in
    let vz = got_second.0 in
    let fz : Good N vz = got_second.2 in
    let v : Val = vstruct (vcons (vstruct vnil) (vcons (vint w64 s.0) (vcons vy (vcons vz vnil)))) in
    let whole_is : z.0.4.0 ≡ v ∷ [] = ev
    ∙ (λ i. vstruct (of_list (em i ++ (en i ++ (got.1 i ++ (got_second.1 i ++ []))))) ∷ []) in
    rewrite ! 0 (λ (ws : List Val). ‵ (Sr.own_val s.1 ws)) got_second.1 refl $
    rewrite ! 2 (λ (ws : List Val). ‵ (R.own_val s.2 ws)) got.1 refl $ keep ! (0 ∷ 2 ∷ 4 ∷ []) $
    suffices ! (Run (v ∷ []))
    (subst (λ (ws : List Val). ent 𝓤 (Run (v ∷ [])) (Run ws)) (sym (λ i. whole_is i ++ [])) (id⊢ 𝓤 (Run (v ∷ [])))) $
    enter ! _ _ _ _ _ $ alloc_all ! (λ l. pass_all ! refl
    ((both _ _ fy.0 (both _ _ fz.0 tt), (tt, (record { fits = fits }, (fy.1, (fz.1, tt))))), tt) $
    sets ! (of_opd ! (get_in ! (fld ! refl (stop !)) (sub ! 1 refl (whole !)))) refl (tt, record { fits = fits }) $
    sets ! (of_opd ! (get_in ! (fld ! refl (stop !)) (sub ! 2 refl (whole !)))) refl fy $
    sets ! (of_opd ! (get_in ! (fld ! refl (stop !)) (sub ! 3 refl (whole !)))) refl fz $
    sets ! (of_opd ! (get ! refl)) refl fy $ sets ! (of_opd ! (get ! refl)) refl fz $
    sets ! (agg ! (three ! refl refl refl)) refl
    (both _ _ fy.0 (both _ _ fz.0 tt), (record { fits = fits }, (fy.1, (fz.1, tt)))) $
    let all : Val = vstruct (vcons (vint w64 s.0) (vcons vy (vcons vz vnil))) in
    let All : Valss (u64 ∷ R ∷ Sr ∷ []) → Fml = λ wss.
    fsep (feq (List Val) (all ∷ []) (vstruct (of_list (wss.0 ++ (wss.1.0 ++ (wss.1.1.0 ++ [])))) ∷ []))
    (owns (u64 ∷ R ∷ Sr ∷ []) (s.0, (s.2, (s.1, tt))) wss) in
    -- context: [the `Second`; the value; the tokens]
    nothing ! $ move ! (1 ∷ 0 ∷ []) $ fjoin ! $ move ! (1 ∷ 0 ∷ []) $ fjoin ! $
    flt_i ! s.0 (2 ^ 64) fits $ feq_i ! _ (vint w64 s.0 ∷ []) _ refl $ fjoin ! $ fjoin ! $
    feq_i ! _ (all ∷ []) _ refl $ fjoin ! $
    fpack ! (Valss (u64 ∷ R ∷ Sr ∷ [])) All (vint w64 s.0 ∷ [], (vy ∷ [], (vz ∷ [], tt))) $
    says ! (Starts (g.holds key) (g.ways key) s.0 s.1 s.2) start $ nothing ! $ nothing ! $ fjoin ! $
    returns ! (look_at ! 0 refl) $ free_all ! refl $ keep ! (3 ∷ 0 ∷ 2 ∷ 1 ∷ []) $
    by ! (leaves 𝓛 En hs c z all (s.0, s.2, s.1) (tt, tt) (tt, tt)))))))))))))))

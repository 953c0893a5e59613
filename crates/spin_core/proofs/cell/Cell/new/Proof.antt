-- `new` writes the words and the value into memory, one after another.
use Rattle.spin_core.proofs.cell.PermitFields.{both}
use Rattle.spin_core.proofs.WalkSteps.{knows}
use Rattle.spin_core.proofs.WalkNames.{◌≡◌, ℕ, ◌^◌, ◌&&◌, T, true, List, [], ◌∷◌, ◌++◌, sym, refl, subst, w64, dcons, dnil, Val, vint, vptr, vstruct, vcons, vnil, has_ty, WT, inst_fn, SProp, ent, id⊢, Fml, fsep, fex, fact, tables, WpFn, ‵, raw, ◌⊛◌, ◌$◌, ◌∵◌, !, qed, by, move, keep, split, fsplit, fsplit3, fjoin, fpack, use0, rewrite, feq_i, flt_i, suffices, of_opd, no_more, and_then, returns, enter, alloc_all, pass_all, free_all, look_at, get, sets, agg, Valss, owns, types_at, nothing, heard, Typed, param, layout, bounded, param_laws, u64, within, alive, walk_of, El, lawful, one, proved_at, leaves, says}
use denote.Shadow.{makes_shadow}
use denote.Struct.Tuple.{Tuple}
use Rattle.core.specs.contracts.marker.PhantomData as marker
use Rattle.atomic_table.specs.Seated.{fact as said}
use Rattle.spin_core.specs.Cell.{Starts, Opens}
use Rattle.spin_core.specs.CellMemory.{Known}
use Rattle.spin_core.specs.contracts.cell.Cell.TheInside as inside
use Rattle.spin_core.specs.contracts.cell.Cell.new.{ended, clauses}
use Rattle.spin_core.specs.contracts.cell.Cell.new.Key.{name as #self}
use Rattle.spin_core.proofs.cell.Cell.new.Statement.{statement}
use Rattle.spin_core.proofs.cell.Cell.new.Code as code
use Rattle.spin_core.proofs.Walking.{all_dropped, all_go}

pub new_spec : {M : Type 1} → statement M
new_spec 𝓤 𝓛 𝓜 𝓡 wired X U P K S L _ _ _ LS g d _ =
    let H = 𝓛.H in let 𝓣 = tables 𝓤 H 𝓜 𝓡 𝓡.env in let R = param 0 X in let V = param 1 U in let Y = param 2 P in let Kr = param 3 K in
    let Sr = param 4 S in let En = ended X U P K S g d in let c = clauses X U P K S g d 𝓛 𝓜.mem 𝓡.returns in let E : El = record { row = X; laws = L } in
    let N : El = record { row = S; laws = LS } in
    let inst = bounded code.function.ty_params (X, (U, (P, (K, (S, tt))))) (dcons d dnil) in let fn = inst_fn inst code.function in
    let hs = all_dropped En.signature.params En.kept in let Mk = (marker.the_field (Tuple (V ∷ Y ∷ []))).row in
    let F = inside.the_row R V Y Kr Sr g in let D = denote.Struct.Declared.shape (inside.the_type R V Y Kr Sr g) in
    proved_at 𝓛 En hs c 𝓜 𝓡 (all_go 𝓛 En.signature.params En.kept (λ κs x f. refl, (λ κs x f. refl, (λ κs x f. refl, (λ κs x f. refl, tt)))))
    (#self inst) fn (code.unfolded 𝓤 H 𝓜 𝓡 wired (X, (U, (P, (K, (S, tt))))) d) (λ z are.
    let x = z.0.3.0 in let n = z.0.3.1.0 in let k = z.0.3.1.1.0 in let key = z.0.3.1.1.1.0.now in
    let at = vptr z.0.3.1.1.1.0.ref_ptr.0 z.0.3.1.1.1.0.ref_ptr.1 in let ways = g.ways key in let fits = are.1.0.1 in
    let got = one E z.0.4.0 ((lawful E 𝓛).typed x z.0.4.0 are.0) in let vy = got.0 in let fy = got.2 in
    let got_second = one N z.0.4.1.1.0 (((param_laws 4 S LS).lawful 𝓛).typed k z.0.4.1.1.0 are.1.1.0) in let vz = got_second.0 in let fz = got_second.2 in
    let v = vstruct (vcons (vstruct vnil) (vcons (vint w64 n) (vcons vy (vcons vz vnil)))) in
    let Post = (walk_of 𝓛 En hs c).post z in let Run : List Val → SProp 𝓤 = λ ws. WpFn 𝓤 H 𝓣.C 𝓣.Λ fn ws Post in
    let typed : T (has_ty (layout X) vy && (has_ty (layout S) vz && true)) × WT v =
    (both _ _ fy.0 (both _ _ fz.0 tt), (tt, (record { fits = fits }, (fy.1, (fz.1, tt))))) in
    let Rule : ℕ × S.Denot × X.Denot → Type 0 = λ s. Starts (g.holds key) ways s.0 s.1 s.2 in let Opened = Opens (g.holds key) ways n k x in
    let Knows : Type 0 = Known ways Y Sr R in
    let owned : (ℕ × S.Denot × X.Denot) → Fml = λ s. fsep (F.own_val (record { marker = record {}; first = s.0; value = s.2; second = s.1 }) (v ∷ [])) (said (Rule s)) in
    qed 𝓛 ((raw (alive 𝓛 En.signature z.0.0 z.0.1) ⊛ ‵ (owns (types_at En.signature.params z.0.0) z.0.3 z.0.4)) ∷ raw (fact 𝓤 _) ∷ raw (fact 𝓤 _) ∷ raw (fact 𝓤 _) ∷ raw (fact 𝓤 _) ∷ raw (fact 𝓤 _) ∷ raw (fact 𝓤 Knows) ∷ raw (fact 𝓤 Opened) ∷ []) ∵
    keep ! (6 ∷ 7 ∷ 0 ∷ []) $ heard ! Knows (λ known. heard ! Opened (λ opened. split ! $ move ! (1 ∷ []) $ fsplit ! $ move ! (1 ∷ []) $ fsplit3 ! $ keep ! (1 ∷ 3 ∷ 4 ∷ []) $
    rewrite ! 0 (λ (ws : List Val). ‵ (Sr.own_val k ws)) got_second.1 refl $ nothing ! $ move ! (1 ∷ []) $ fjoin ! $ move ! (1 ∷ []) $
    rewrite ! 0 (λ (ws : List Val). ‵ (R.own_val x ws)) got.1 refl $ fjoin ! $
    flt_i ! n (2 ^ 64) fits $ feq_i ! _ (vint w64 n ∷ []) _ refl $ fjoin ! $ fjoin ! $
    use0 𝓛 (‵ (Mk.own_val (record {}) (vstruct vnil ∷ []))) (makes_shadow 𝓛 (Mk.own_val (record {}) (vstruct vnil ∷ [])) (λ uss. (tt, tt)) (tt, (refl, tt))) $ fjoin ! $
    feq_i ! _ (v ∷ []) _ refl $ fjoin ! $
    fpack ! (Valss (Mk ∷ u64 ∷ R ∷ Sr ∷ [])) (within D (tt, (n, (x, (k, tt)))) (v ∷ [])) (vstruct vnil ∷ [], (vint w64 n ∷ [], (vy ∷ [], (vz ∷ [], tt)))) $
    knows ! (Rule (n, k, x)) (opened.0, opened.2, opened.3) $ move ! (1 ∷ 0 ∷ []) $ fjoin ! $
    fpack ! (ℕ × S.Denot × X.Denot) owned (n, k, x) $ fpack ! Knows (λ _. fex (ℕ × S.Denot × X.Denot) owned) known $ knows ! (Typed F.mir (v ∷ [])) (typed, tt) $ fjoin ! $
    suffices ! (Run (vy ∷ vint w64 n ∷ vz ∷ at ∷ [])) (subst (λ (ws : List Val). ent 𝓤 (Run (vy ∷ vint w64 n ∷ vz ∷ at ∷ [])) (Run ws)) (sym (λ i. got.1 i ++ (are.1.0.0 i ++ (got_second.1 i ++ (are.1.1.1.0.0 i ++ []))))) (id⊢ 𝓤 (Run (vy ∷ vint w64 n ∷ vz ∷ at ∷ [])))) $
    enter ! _ _ _ _ _ $ alloc_all ! (λ l. pass_all ! refl (fy, ((tt, record { fits = fits }), (fz, ((tt, tt), tt)))) $
    sets ! (agg ! (no_more !)) refl (tt, tt) $ sets ! (of_opd ! (get ! refl)) refl fy $ sets ! (of_opd ! (get ! refl)) refl fz $
    sets ! (agg ! (and_then ! (get ! refl) (and_then ! (get ! refl) (and_then ! (get ! refl) (and_then ! (get ! refl) (no_more !)))))) refl typed $
    says ! (key ≡ key) refl $ nothing ! $ nothing ! $ fjoin ! $ nothing ! $ fjoin ! $ nothing ! $ fjoin ! $ nothing ! $ fjoin ! $
    returns ! (look_at ! 0 refl) $ free_all ! refl $ keep ! (3 ∷ 0 ∷ 2 ∷ 1 ∷ []) $ by ! (leaves 𝓛 En hs c z v key (tt, (tt, (tt, (tt, tt)))) (tt, (tt, (tt, (tt, tt)))))))))

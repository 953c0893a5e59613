-- `told` copies the word out of a trace.
use Rattle.std.proofs.Common.{◌∙◌, w64}
use mir.Val.{vint, vstruct, vcons, vnil, of_list}
use base.Fml.{feq, fsep}
use types.Kit.{fpack, flt_i}
use types.ByLocal.{get_in}
use denote.Plain.{uint_Tells}
use denote.Builtin.{u64}
use denote.RattleType.{Valss}
use Rattle.spin_core.proofs.WalkNames.{◌^◌, stop, fld, sub, whole, nothing}
use Rattle.spin_core.proofs.trace.Walk.{◌≡◌, List, Val, [], ◌∷◌, ◌++◌, refl, ◌$◌, !, by, move, keep, fsplit, fjoin, feq_i, no_more, and_then, of_opd, returns, alloc_all, pass_all, free_all, look_at, get, sets, agg, Fml, ftrue, RattleType, param}
use Rattle.spin_core.specs.contracts.trace.Trace as Trace
use Rattle.spin_core.specs.contracts.trace.Trace+E+u64.told.{ended, clauses}
use Rattle.spin_core.proofs.trace.Trace+E+u64.told.Statement.{statement}
use Rattle.spin_core.proofs.trace.Trace+E+u64.told.Code as code
use Rattle.spin_core.proofs.WalkSteps.{says}
use Rattle.spin_core.proofs.Walking.{Spelled, walks}

abbrev as_trace : (T : RattleType) → Spelled (Trace.the_row T u64)
as_trace T = (
  (λ m. vstruct (vcons (vint w64 m.word) (vcons (vstruct vnil) vnil)) ∷ []),
  (λ m vs is. let s = is.0 in
      s.1.0 ∙ (λ i. vstruct (of_list (uint_Tells w64 m.word s.0.0 s.1.1.0 i ++ (s.1.1.1.0.1.0 i ++ []))) ∷ [])),
)

pub told_spec : {M : Type 1} → statement M
told_spec 𝓤 𝓛 𝓜 𝓡 wired T L = let T' : RattleType = param 0 T in let Row : RattleType = Trace.the_row T' u64 in
    walks 𝓛 (ended T) (clauses T 𝓛 𝓜.mem 𝓡.returns) 𝓜 𝓡 (λ κs x f. refl, tt) _ _ (code.unfolded 𝓤 𝓛.H 𝓜 𝓡 wired (T, tt))
    (λ κs. (as_trace T', tt)) (λ κs qs bounds a gh are Post out.
    let me = a.0 in let fits = are.0.0.1.1.0.1 in let word : Val = vint w64 me.word in let trace : Val = vstruct (vcons word (vcons (vstruct vnil) vnil)) in
    let both : Val = vstruct (vcons word (vcons trace vnil)) in
    let All : Valss (u64 ∷ Row ∷ []) → Fml = λ wss. fsep (feq (List Val) (both ∷ []) (vstruct (of_list (wss.0 ++ (wss.1.0 ++ []))) ∷ [])) (fsep (u64.own_val me.word wss.0) (fsep (Row.own_val me wss.1.0) ftrue)) in
    move ! (1 ∷ []) $ fsplit ! $ keep ! (0 ∷ 2 ∷ []) $
    alloc_all ! (λ l. pass_all ! refl ((tt, (record { fits = fits }, (tt, tt))), tt) $
    sets ! (of_opd ! (get_in ! (fld ! refl (stop !)) (sub ! 0 refl (whole !)))) refl (tt, record { fits = fits }) $
    sets ! (of_opd ! (get ! refl)) refl (tt, (record { fits = fits }, (tt, tt))) $
    sets ! (agg ! (and_then ! (get ! refl) (and_then ! (get ! refl) (no_more !)))) refl (tt, (record { fits = fits }, ((record { fits = fits }, (tt, tt)), tt))) $
    -- context: [the trace; the tokens]
    nothing ! $ move ! (1 ∷ 0 ∷ []) $ fjoin ! $ flt_i ! me.word (2 ^ 64) fits $ feq_i ! _ (word ∷ []) _ refl $ fjoin ! $ fjoin ! $
    feq_i ! _ (both ∷ []) _ refl $ fjoin ! $ fpack ! (Valss (u64 ∷ Row ∷ [])) All (word ∷ [], (trace ∷ [], tt)) $
    says ! ((me.word ≡ me.word) × (me ≡ me)) (refl, refl) $
    returns ! (look_at ! 0 refl) $ free_all ! refl $ keep ! (2 ∷ 1 ∷ 0 ∷ []) $ by ! (out both (me.word, me))))

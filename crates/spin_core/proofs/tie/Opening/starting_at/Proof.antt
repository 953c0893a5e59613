use Rattle.spin_core.proofs.trace.Walk.{◌≡◌, [], ◌∷◌, refl, a_type, named, inst_fn, ‵, ◌$◌, !, by, keep, fjoin, use0, no_more, and_then, returns, alloc_all, pass_all, free_all, look_at, get, sets, agg, tables, RattleType, nothing, param, layouts, token, Token, token_made}
use Rattle.std.proofs.Common.{true}
use denote.Builtin.{u64}
use Rattle.spin_core.specs.contracts.trace.Trace as trace
use Rattle.spin_core.specs.contracts.tie.Opening.starting_at.{ended, clauses}
use Rattle.spin_core.proofs.tie.Opening.starting_at.Statement.{statement}
use Rattle.spin_core.proofs.tie.Opening.starting_at.Code as code
use Rattle.spin_core.proofs.WalkSteps.{says}
use Rattle.spin_core.proofs.Walking.{walks, as_shr}

pub starting_at_spec : {M : Type 1} → statement M
starting_at_spec 𝓤 𝓛 𝓜 𝓡 wired T E S L LE LS =
    let H = 𝓛.H in let 𝓣 = tables 𝓤 H 𝓜 𝓡 𝓡.env in let T' : RattleType = param 0 T in let Sr : RattleType = trace.the_row (param 1 E) (param 2 S) in
    let fn = inst_fn (layouts (a_type ∷ a_type ∷ a_type ∷ []) (T, (E, (S, tt)))) code.function in
    walks 𝓛 (ended T E S) (clauses T E S 𝓛 𝓜.mem 𝓡.returns) 𝓜 𝓡 (λ κs x f. refl, (λ κs x f. refl, (λ κs x f. refl, tt))) _ fn (code.unfolded 𝓤 H 𝓜 𝓡 wired (T, (E, (S, tt))))
    (λ κs. (as_shr (named 0) κs.0 Sr, (as_shr (named 1) κs.1.0 T', (as_shr (named 2) κs.1.1.0 u64, tt)))) (λ κs qs bounds a gh are Post out.
    keep ! (0 ∷ []) $ alloc_all ! (λ l. pass_all ! refl ((tt, tt), ((tt, tt), ((tt, tt), tt))) $
    nothing ! $ use0 𝓛 (‵ ((Token T').own_val (record {}, tt) (token ∷ []))) (token_made T' 𝓛) $ fjoin ! $
    sets ! (agg ! (no_more !)) refl (tt, tt) $ sets ! (agg ! (and_then ! (get ! refl) (no_more !))) refl (tt, (tt, tt)) $
    says ! ((a.0.now.name ≡ a.0.now.name) × (a.1.0.now ≡ a.1.0.now) × (true ≡ true) × (a.1.1.0.now ≡ a.1.1.0.now)) (refl, refl, refl, refl) $
    returns ! (look_at ! 0 refl) $ free_all ! refl $ keep ! (2 ∷ 1 ∷ 0 ∷ []) $ by ! (out token (record { marker = record {}; name = a.0.now.name; value = a.1.0.now; told = true; start = a.1.1.0.now }))))

use Rattle.spin_core.proofs.trace.Walk.{List, ◌≡◌, [], ◌∷◌, refl, a_type, inst_fn, ‵, ◌$◌, !, by, keep, fjoin, use0, no_more, and_then, returns, alloc_all, pass_all, free_all, look_at, get, sets, agg, tables, RattleType, nothing, param, layouts, token, Token, token_made}
use Rattle.spin_core.proofs.WalkSteps.{says}
use Rattle.spin_core.proofs.Walking.{walks}
use Rattle.spin_core.specs.Logs.{known_owns}
use Rattle.spin_core.specs.contracts.trace.Watch.start.{ended, clauses}
use Rattle.spin_core.proofs.trace.Watch.start.Statement.{statement}
use Rattle.spin_core.proofs.trace.Watch.start.Code as code

pub start_spec : {M : Type 1} → statement M
unfolding known_owns
start_spec 𝓤 𝓛 𝓜 𝓡 wired T L = let H = 𝓛.H in let 𝓣 = tables 𝓤 H 𝓜 𝓡 𝓡.env in let T' : RattleType = param 0 T in
    let fn = inst_fn (layouts (a_type ∷ []) (T, tt)) code.function in
    walks 𝓛 (ended T) (clauses T 𝓛 𝓜.mem 𝓡.returns) 𝓜 𝓡 tt _ fn (code.unfolded 𝓤 H 𝓜 𝓡 wired (T, tt))
    (λ κs. tt) (λ κs qs bounds a gh are Post out.
    let none : List T.Denot = [] in keep ! (0 ∷ []) $ alloc_all ! (λ l. pass_all ! refl tt $
    nothing ! $ use0 𝓛 (‵ ((Token T').own_val (record {}, tt) (token ∷ []))) (token_made T' 𝓛) $ fjoin ! $
    sets ! (agg ! (no_more !)) refl (tt, tt) $ sets ! (agg ! (and_then ! (get ! refl) (no_more !))) refl (tt, (tt, tt)) $
    says ! ((gh ≡ gh) × (none ≡ [])) (refl, refl) $
    returns ! (look_at ! 0 refl) $ free_all ! refl $ keep ! (2 ∷ 1 ∷ 0 ∷ []) $ by ! (out token (record { marker = record {}; name = gh; entries = [] }))))

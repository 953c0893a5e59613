-- What a step that makes moves of the model appends to the history with the values. In this history the last step of a
-- call whose closure gave a value is a write of that value. Each step keeps what is known of the value.
use Rattle.std.proofs.Common.{◌≡◌, ◌≢◌, ℕ, ◌≤◌, true, false, Option, Some, None, List, [], ◌∷◌, ◌++◌, map, length, drop, refl, sym, ap, ◌∙◌, subst, arith}
use Rattle.std.proofs.lemmas.List.{append_assoc, append-nil, map-append, drop-append-le}
use Rattle.std.specs.List.{flat_map}
use Rattle.std.proofs.lemmas.Grind.{flat_map-append}
use Rattle.std.proofs.lemmas.List.{length-map}
use Rattle.std.proofs.lemmas.List.Folds.{flat_map-map}
use Rattle.std.proofs.lemmas.List.Elements.{filter-append}
use Rattle.std.proofs.lemmas.Simd.{map-map}
use mathlib.Core.List.{IsPrefix}
use mathlib.Core.Logic.{◌⊎◌, inl, inr}
use Rattle.spin_core.specs.Cell.{Use, writes, use_of, no_fact, Carries, Carrying, MeetsRule, Moved, Shows, readers_of, after as views_after}
use Rattle.spin_core.specs.Own.{Numbered, what, own_mark, RunsByRule, IsRun, Tells, by_party, entries_by}
use Rattle.spin_core.specs.Passes.{Ending}
use Rattle.spin_core.specs.Traced.{Traces, Watches, Learnt, grown}
use Rattle.spin_core.specs.declared.tie.Opening.{Opening}
use Rattle.spin_core.specs.declared.trace.Trace.{Trace}
use Rattle.spin_core.specs.declared.trace.Watch.{Watch}
use Rattle.spin_core.proofs.cell.Ways.{going_map}
use Rattle.spin_step.specs.declared.once_calls.OnceCall.{OnceCall}
use Rattle.spin_step.specs.declared.schedule.Move.{Move}
use Rattle.spin_step.specs.declared.schedule.Move.TheVariants.{Begin, Step, Weak}
use Rattle.spin_once.specs.Accounts.{WroteNone}
use Rattle.spin_once.specs.Model.{model}
use Rattle.spin_once.specs.Once.{OneMove, View, Says, Word, use_of_view, use_of_party, once_ways, seat_of, words_of, IsOnce, Told, runs_closure}
use Rattle.spin_once.specs.OnceValues.{Content, Valued, Made, bare_move, bare, bare_trace, bare_watch, value_of, values, values_by, given_of, made, AtMostOne, IsMade, IsValue, Sees}
use Rattle.spin_once.proofs.Steps.{way}
use Rattle.spin_once.specs.declared.once_core.rule.Key.{Key}
use Rattle.spin_once.specs.declared.once_core.rule.Stage.{Stage}

abbrev pub ValueMove : Type 0 → Type 0
ValueMove T = Move (OnceCall (Unit {0})) T

module _ {T : Type 0} where
  abbrev pub bare_moves : List (ValueMove T) → List OneMove
  bare_moves own = map bare_move own

  pub bare_append : (xs ys : List (Valued T)) → bare (xs ++ ys) ≡ bare xs ++ bare ys
  bare_append xs ys = map-append (λ (e : Valued T). (e.0, bare_move e.1)) xs ys

  pub as_long : (es : List (Valued T)) → length (bare es) ≡ length es
  as_long es = simp length-map

  abbrev pub values_of : List (ValueMove T) → List T
  values_of own = flat_map value_of own

  -- a party that makes none of the model's entries `xs ++ bare ys` writes nothing by `ys`
  behind : (p : ℕ) (xs : List Made) (ys : List (Valued T)) → entries_by p (xs ++ bare ys) ≡ [] → values_by p ys ≡ []
  behind p [] [] none = refl
  behind p [] (y ∷ ys) none = grind (arith, none, behind p [] ys)
  behind p (x ∷ xs) ys none = grind (arith, none, behind p xs ys)

  by_none : (p : ℕ) (es : List (Valued T)) → values es ≡ [] → values_by p es ≡ []
  by_none p [] none = refl
  by_none p (e ∷ es) none = grind (arith, none, by_none p es)

  pub both_none : (p : ℕ) (xs ys : List (Valued T)) → values_by p xs ≡ [] → values_by p ys ≡ [] → values_by p (xs ++ ys) ≡ []
  both_none p xs ys first next = rw (filter-append, flat_map-append, first, next) refl

  -- the moves of the history for moves of the model that write nothing
  abbrev plain_move : OneMove → ValueMove T
  plain_move (Begin c) = Begin c
  plain_move Weak = Weak
  plain_move _ = Step

  abbrev pub plainly : List OneMove → List (ValueMove T)
  plainly own = map plain_move own

  pub none_written : (own : List OneMove) → values_of (plainly own) ≡ []
  none_written [] = refl
  none_written (move ∷ own) = grind (arith, none_written own)

  module _ {S : Type 0} (first : Stage T S) where
    made-append : (xs ys : List (Valued T)) → made first (xs ++ ys) ≡ made first xs ++ values ys
    made-append xs ys = rw (flat_map-append, append_assoc) refl

    made_by : (log : List (Valued T)) (p : ℕ) (own : List (ValueMove T)) → made first (log ++ by_party p own) ≡ made first log ++ values_of own
    made_by log p own = made-append log (by_party p own) ∙ rw flat_map-map refl

  -- a list with at most one value, which begins with `v`, has only `v`
  only : (v : T) (more : List T) → length (v ∷ more) ≤ 1 → v ∷ more ≡ v ∷ []
  only v [] few = refl
  only v (x ∷ xs) few = absurd (omega (arith, few))

-- a history that extends one with a value begins with that value
begins : {T S : Type 0} (opening : Opening (Stage T S)) (old new : List (Valued T)) → IsPrefix old new → (v : T) → IsValue opening old v → opening.told ≡ true
    → (rest : List T) × (made opening.value new ≡ v ∷ rest)
begins opening old new more v is told = (values more.0, ap (made opening.value) (sym more.1) ∙ made-append opening.value old more.0 ∙ ap (λ l. l ++ values more.0) (is told))

-- if one history extends another, both have the same value
pub agree : {T S : Type 0} (opening : Opening (Stage T S)) (old new : List (Valued T)) (x y : T)
    → opening.told ≡ true → IsPrefix old new → IsValue opening old x → IsValue opening new y → x ≡ y
agree opening old new x y told more is is' = let (rest, longer) = begins opening old new more x is told in cc (sym longer ∙ is' told)

-- of two histories of one lock the shorter begins the other
pub agrees : {T S : Type 0} (opening : Opening (Stage T S)) (mine theirs : List (Valued T)) (x y : T)
    → opening.told ≡ true → IsPrefix mine theirs ⊎ IsPrefix theirs mine → IsValue opening mine x → IsValue opening theirs y → x ≡ y
agrees opening mine theirs x y told (inl more) is is' = agree opening mine theirs x y told more is is'
agrees opening mine theirs x y told (inr more) is is' = sym (agree opening theirs mine y x told more is' is)

-- a value that was the only one is still the only one, as long as there is no second one
pub stays : {T S : Type 0} (opening : Opening (Stage T S)) (old new : List (Valued T)) → IsPrefix old new → length (made opening.value new) ≤ 1
    → (v : T) → IsValue opening old v → IsValue opening new v
stays opening old new more few v is told = let (rest, longer) = begins opening old new more v is told in longer ∙ only v rest (subst (λ l. length l ≤ 1) longer few)

module _ {T S : Type 0} (makes : S → T → Type 0) (key : Key T S) where
  abbrev Is : List T → Content T S → Type 0
  Is vs x = IsMade key.opening.told vs x.value

  abbrev Bare : ℕ → Trace Made (Unit {0}) → List (Numbered View) → Type 0
  Bare = RunsByRule (model (given_of key.opening.value)) seat_of words_of Word key.opening.name

  module _ (view : Option (Numbered View)) (shown : Option (Content T S)) (f : ℕ → ℕ) (exact says : Says) (put : List OneMove → List (ValueMove T)) where
    abbrev pub Each : (List OneMove → ℕ → View → Type 0) → Type 0
    Each P = (own : List OneMove) (outs : List (Ending (Unit {0}))) (n : ℕ) (u : View) → exact own outs n u → P own n u

    -- the condition on these moves: there is still at most one value, and what is known of the value carries over
    abbrev pub Leaving : Type 0
    Leaving = Each (λ own n u. (vs : List T) → AtMostOne n vs
        → AtMostOne (f n) (vs ++ values_of (put own)) × Carries (Is vs) (Is (vs ++ values_of (put own))) (use_of use_of_party view) (use_of_view u) shown)

    pub valued : ((own : List OneMove) (outs : List (Ending (Unit {0}))) (n : ℕ) (u : View) → exact own outs n u → says own outs n u)
        → Each (λ own n u. bare_moves (put own) ≡ own) → Leaving → (runs_closure (what view) ≡ false → (own : List OneMove) → values_of (put own) ≡ [])
        → Traces Bare (way makes key, use_of_party, no_fact) view shown f (Tells (model (given_of key.opening.value)) seat_of words_of exact view)
        → Traces (IsOnce key.opening) (once_ways makes key) view shown f (Told key.opening says view)
    unfolding IsOnce Told
    valued less lifts leaves hushes traces id n t vs meets at small =
        let (w, es, going, (own, outs, is, mark, none, mine, said)) = traces id n (bare_trace t) vs (meets.0.0, meets.1) at small in
        let es' : List (Valued T) = by_party w.1 (put own) in let had : List T = made key.opening.value t.entries in let m = model (given_of key.opening.value) in
        let bare_by : bare es' ≡ by_party w.1 (bare_moves (put own)) = simp map-map in
        let same : bare es' ≡ es = bare_by ∙ ap (by_party w.1) (lifts own outs n w.0 said) ∙ sym is in
        let whole : bare (t.entries ++ es') ≡ bare t.entries ++ es = bare_append t.entries es' ∙ ap (λ l. bare t.entries ++ l) same in
        let now : made key.opening.value (t.entries ++ es') ≡ had ++ values_of (put own) = made_by key.opening.value t.entries w.1 (put own) in
        let left = leaves own outs n w.0 said had meets.0.1 in let us : List (Numbered View) = views_after id view vs w in
        let few : AtMostOne (f n) (made key.opening.value (t.entries ++ es')) = subst (AtMostOne (f n)) (sym now) left.0 in
        let owed = subst (λ l. Carries (Is had) (Is l) (use_of use_of_party view) (use_of_party w) shown) (sym now) left.1 in
        let Kept : Type 0 =
        Carrying (once_ways makes key).2 t (grown t es') (use_of use_of_party view) (use_of_party w) shown
        (MeetsRule (IsOnce key.opening) (once_ways makes key) (f n) (grown t es') us) in
        let keeps : MeetsRule Bare (way makes key, use_of_party, no_fact) (f n) (grown (bare_trace t) es) us → Kept = λ met.
        (owed, (((met.0.0, met.0.1, subst (λ l. IsRun m seat_of words_of l (f n, t.word) us) (sym whole) met.0.2), few), met.1)) in (
          w,
          es',
          going_map (way makes key) (use_of use_of_party view) (use_of_party w) shown (readers_of use_of_party vs) keeps going,
          (subst (λ l. Tells m seat_of words_of says view (bare t.entries) l n w) (sym same) (own, outs, is, mark, none, mine, less own outs n w.0 said), few.1, λ quiet. flat_map-map (λ (e : Valued T). value_of e.1) (λ (move : ValueMove T). (w.1, move)) (put own) ∙ hushes quiet own),
        )

  -- the condition holds for moves that write nothing, of a party that does not write
  pub writes_none : (view : Option (Numbered View)) (shown : Option (Content T S)) (f : ℕ → ℕ) (says : Says)
      → use_of use_of_party view ≢ writes → ((n : ℕ) → n ≡ 2 → f n ≡ 2) → Leaving view shown f says says plainly
  writes_none view shown f says ne two own outs n u said vs few =
      let none : vs ++ values_of (plainly own) ≡ vs = ap (λ l. vs ++ l) (none_written own) ∙ append-nil vs in
      subst (λ l. AtMostOne (f n) l × Carries (Is vs) (Is l) (use_of use_of_party view) (use_of_view u) shown) (sym none)
      (((λ other. few.0 (λ e. other (two n e))), few.1), grind (arith, ne))

  -- ---- what a step tells
  module _ (says : Says) (named : Type 0) (view : Option (Numbered View)) (before now : Watch (Valued T)) (n : ℕ) where
    -- the step in the model, and the history after it; only a party that runs its closure writes a value
    pub learns : (view' : Option (Numbered View)) → own_mark view ≤ length before.entries → Moved (Watches named before now (Told key.opening says view) n) view'
        → Moved (Watches named (bare_watch before) (bare_watch now) (Tells (model (given_of key.opening.value)) seat_of words_of says view) n) view'
        × (IsPrefix before.entries now.entries × (length (made key.opening.value now.entries) ≤ 1)) × (runs_closure (what view) ≡ false → WroteNone (key, view, before) (key, view', now))
    unfolding Told WroteNone
    learns None knew moved = absurd moved
    learns (Some v) knew (same, (log, es, (between, here), is, (tells, few, hush))) =
        let old : List Made = bare before.entries in let long = subst (λ k. own_mark view ≤ k) (sym (as_long before.entries)) knew in let none = tells.4 in
        let whole : bare log ≡ old ++ bare between = ap bare (sym here) ∙ bare_append before.entries between in
        let apart : entries_by v.1 (drop (own_mark view) old ++ bare between) ≡ [] = rw (← drop-append-le (own_mark view) old (bare between) long, ← whole) none.1 in
        let longer : now.entries ≡ before.entries ++ (between ++ es) = is ∙ ap (λ l. l ++ es) (sym here) ∙ append_assoc before.entries between es in (
          (same, (bare log, bare es, (bare between, sym whole), ap bare is ∙ bare_append log es, tells)),
          ((between ++ es, sym longer), subst (λ l. length (made key.opening.value l) ≤ 1) (sym is) few),
          λ quiet. (v.1, none.0, refl, between ++ es, longer, both_none v.1 between es (behind v.1 (drop (own_mark view) old) between apart) (by_none v.1 es (hush quiet))),
        )

  -- What a party that uses the content sees after a step. If it had the same use before, it sees what it saw before. If not, it sees what
  -- it finds.
  module _ (old new : List (Valued T)) (stays_on : (v : T) → IsValue key.opening old v → IsValue key.opening new v) where
    pub sees_on : (u u' : Use) (before after : Option (Content T S)) → (u ≡ u' → Sees key.opening old u before) → Shows u' before after
        → Learnt {S = Unit {0}} (once_ways makes key).2 u u' before after new → Sees key.opening new u' after
    sees_on u u' before after had shows learnt used = (grind (arith, had, shows, learnt, used), λ v is tells. grind (arith, had, shows, learnt, used, stays_on v, is, tells))

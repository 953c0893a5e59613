-- A party appends its moves under its own number, and makes no entry between its steps.
use Rattle.std.proofs.Common.{◌≡◌, ℕ, suc, ◌+◌, ◌<◌, ◌≤◌, ◌==◌, cond, Option, Some, None, List, [], ◌∷◌, ◌++◌, length, map, drop, le_refl, refl, sym, ap, ◌∙◌, subst, arith, zero-add, ne_eqb}
use Rattle.std.specs.Prelude.{◌≢◌}
use Rattle.std.proofs.lemmas.Option.{IfSome_then}
use Rattle.std.proofs.lemmas.List.{length-append, length-map, map-append, drop-append-le}
use Rattle.std.proofs.lemmas.List.Elements.{filter-append}
use Rattle.std.proofs.Math.Seq.{drop-length, set-append_seam}
use Rattle.spin_core.specs.Cell.{HasView, after as views_after}
use Rattle.spin_step.specs.declared.place.Seat.{Seat}
use Rattle.spin_step.specs.declared.place.Seat.TheVariants.{Idle}
use Rattle.spin_step.specs.declared.schedule.Move.{Move}
use Rattle.spin_step.specs.declared.schedule.Outcome.{Outcome}
use Rattle.spin_step.specs.Machines.{Machine}
use Rattle.spin_step.specs.Schedules.{Entry, at_first}
use Rattle.spin_core.specs.Run.{IsPlayed, OnWord}
use Rattle.spin_core.specs.Run as run
use Rattle.spin_core.specs.Passes.{Says}
use Rattle.spin_core.specs.Own.{Numbered, by_party, present_from, kind, entries_by, Rested, IsRun, MadeNone, what}
use Rattle.spin_core.proofs.cell.Counts.{around}
use Rattle.spin_core.proofs.tie.Runs as runs

-- Lists of numbered parties.

-- what each party that ever came is, with its mark, if it has not left
abbrev Came : Type 0 → Type 0
Came X = List (Option (X × ℕ))

present_from-append : {X : Type 0} (k j : ℕ) (us ws : Came X) → j ≡ k + length us → present_from k (us ++ ws) ≡ present_from k us ++ present_from j ws
present_from-append k j [] ws is = let e : k ≡ j = omega arith in rw e
present_from-append k j (None ∷ us) ws is = present_from-append (suc k) j us ws (omega arith)
present_from-append k j (Some u ∷ us) ws is = ap (λ vs. (u.0, k, u.1) ∷ vs) (present_from-append (suc k) j us ws (omega arith))

-- the present party v is among those who came
split : {X : Type 0} (k : ℕ) (came : Came X) (before : List (Numbered X)) (v : Numbered X) (behind : List (Numbered X))
    → before ++ v ∷ behind ≡ present_from k came
    → (front back : Came X) × (came ≡ front ++ Some (v.0, v.2) ∷ back) × (v.1 ≡ k + length front)
    × (before ≡ present_from k front) × (behind ≡ present_from (suc v.1) back)
split k [] [] v behind e = cc (e)
split k [] (y ∷ before) v behind e = cc (e)
split k (None ∷ us) before v behind e = let (front, back, is, place, are, after) = split (suc k) us before v behind e in
    (None ∷ front, back, cc, omega arith, are, after)
split {X} k (Some u ∷ us) [] v behind e =
    let same : v ≡ (u.0, k, u.1) = cc (e) in let place : v.1 ≡ k = ap (λ (w : Numbered X). w.1) same in
    ([], us, ap (λ (w : Numbered X). Some (w.0, w.2) ∷ us) (sym same), omega arith, refl, rw place (cc (e)))
split k (Some u ∷ us) (y ∷ before) v behind e =
    let (front, back, is, place, are, after) = split (suc k) us before v behind (cc (e)) in
    (Some u ∷ front, back, cc, omega arith, cc (e), after)

-- The entries of one party.

module _ {C V : Type 0} where
  pub by_of : (q p : ℕ) (own : List (Move C V)) → entries_by q (by_party p own) ≡ cond (p == q) (by_party p own) []
  by_of q p [] = grind arith
  by_of q p (move ∷ own) = grind (arith, by_of q p own)

  module _ (log : List (Entry C V)) where
    -- a party that is present has made no entry since its mark
    rested_at : {X : Type 0} (k p : ℕ) (front : Came X) (u : X × ℕ) (back : Came X) → p ≡ k + length front → Rested log k (front ++ Some u ∷ back) → entries_by p (drop u.1 log) ≡ []
    rested_at k p [] u back is r = let e : p ≡ k = omega arith in rw e r.0.1
    rested_at k p (x ∷ us) u back is r = rested_at (suc k) p us u back (omega arith) r.1

    nobody : {X : Type 0} (k p : ℕ) (came : Came X) → k + length came ≤ p → Rested log k came → entries_by p log ≡ []
    nobody k p [] is r = r p (omega arith)
    nobody k p (x ∷ us) is r = nobody (suc k) p us (omega arith) r.1

    joins : {X : Type 0} (k : ℕ) (came : Came X) → Rested log k came → Rested log k (came ++ None ∷ [])
    joins k [] r = (tt, λ q le. r q (omega arith))
    joins k (x ∷ us) r = (r.0, joins (suc k) us r.1)

    goes : {X : Type 0} (k : ℕ) (front : Came X) (u : X × ℕ) (back : Came X) → Rested log k (front ++ Some u ∷ back) → Rested log k (front ++ None ∷ back)
    goes k [] u back r = (tt, r.1)
    goes k (x ∷ us) u back r = (r.0, goes (suc k) us u back r.1)

    module _ (p : ℕ) (own : List (Move C V)) where
      abbrev es : List (Entry C V)
      es = by_party p own

      none : (q : ℕ) (xs : List (Entry C V)) → p ≢ q → entries_by q xs ≡ [] → entries_by q (xs ++ es) ≡ []
      none q xs other is = rw (filter-append, is, by_of q p own, ne_eqb p q other)

      on : (k mark : ℕ) → p ≢ k → (mark ≤ length log) × (entries_by k (drop mark log) ≡ []) → (mark ≤ length (log ++ es)) × (entries_by k (drop mark (log ++ es)) ≡ [])
      on k mark other r = (omega (arith, length-append log es, r.0), rw (drop-append-le mark log es r.0) (none k (drop mark log) other r.1))

      later : {X : Type 0} (k : ℕ) (us : Came X) → p < k → Rested log k us → Rested (log ++ es) k us
      later k [] under r = λ q le. none q log (omega arith) (r q le)
      later k (o ∷ us) under r = (IfSome_then o r.0 (λ u. on k u.1 (omega arith)), later (suc k) us (omega arith) r.1)

      -- after the entries es the party that made them has a mark behind them
      made : {X : Type 0} (k : ℕ) (front : Came X) (o : Option (X × ℕ)) (v : X) (back : Came X) → p ≡ k + length front → Rested log k (front ++ o ∷ back) → Rested (log ++ es) k (front ++ Some (v, length (log ++ es)) ∷ back)
      made k [] o v back is r =
          ((le_refl _, ap (entries_by k) (drop-length (log ++ es))), later (suc k) back (omega arith) r.1)
      made k (x ∷ us) o v back is r =
          (IfSome_then x r.0 (λ u. on k u.1 (omega arith)), made (suc k) us o v back (omega arith) r.1)

-- A step of one party.

module _ {W V C L A X S : Type 0} (m : Machine W V C L A) (seat_of : X → Seat C L) (words_of : W → ℕ × S) where
  abbrev Schedule : Type 0
  Schedule = List (Entry C V)

  abbrev Run : Schedule → ℕ × S → List (Numbered X) → Type 0
  Run = IsRun m seat_of words_of

  abbrev sits : Option X → Seat C L
  sits = run.sits m seat_of words_of

  abbrev seats : Came X → List (Seat C L)
  seats came = map sits (map kind came)

  seats-seam : (front : Came X) (o : Option (X × ℕ)) (back : Came X) → seats (front ++ o ∷ back) ≡ seats front ++ sits (kind o) ∷ seats back
  seats-seam front o back = rw (map-append kind front (o ∷ back)) (map-append sits (map kind front) (map kind (o ∷ back)))

  -- a run that leads to these words, and to all who came
  abbrev Ran : Schedule → ℕ × S → Came X → Type 0
  Ran log s came = (w : W) × (value : Option V) × (s ≡ words_of w) × runs.Leads m log w value (seats came) × Rested log 0 came × run.AreOfCalls m log

  module _ (log : Schedule) (s : ℕ × S) (vs : List (Numbered X)) where
    as_ran : Run log s vs → (came : Came X) × (vs ≡ present_from 0 came) × Ran log s came
    as_ran (came, w, value, is, s_is, leads, played, rested, so) =
        (came, is, (w, value, s_is, (λ more. rw (length-map (map kind came) sits) (leads more, played more)), rested, so))

    as_run : (came : Came X) → vs ≡ present_from 0 came → Ran log s came → Run log s vs
    as_run came is (w, value, s_is, leads, rested, so) =
        let e = length-map (map kind came) sits in (came, w, value, is, s_is, (λ more. rw (← e) (leads more).0), (λ more. rw (← e) (leads more).1), rested, so)

    -- the party with this view has its old place among all who came, or a new place behind them
    placed : (id : ℕ) (view : Option (Numbered X)) → Run log s vs → HasView id view vs
        → (front : Came X) × (o : Option (X × ℕ)) × (back : Came X) × Ran log s (front ++ o ∷ back)
        × (kind o ≡ what view) × MadeNone log (length front) view
        × ((u : X) (mark : ℕ) → views_after id view vs (u, length front, mark) ≡ present_from 0 (front ++ Some (u, mark) ∷ back))
    placed id None is at = let (came, vs_are, (w, value, s_is, leads, rested, so)) = as_ran is in let p : ℕ = length came in
        let none = nobody log 0 p came (omega arith) rested in
        let there : runs.Leads m log w value (seats (came ++ None ∷ [])) = rw (seats-seam came None []) (runs.joins m log w value (seats came) leads) in
        let becomes : (u : X) (mark : ℕ) → vs ++ (u, p, mark) ∷ [] ≡ present_from 0 (came ++ Some (u, mark) ∷ []) =
        λ u mark. rw (present_from-append 0 p came (Some (u, mark) ∷ []) (omega arith)) (ap (λ xs. xs ++ (u, p, mark) ∷ []) vs_are) in
        (came, None, [], (w, value, s_is, there, joins log 0 came rested, so), refl, (tt, none), becomes)
    placed id (Some v) is at =
        let (came, vs_are, ran) = as_ran is in let (before, after, vs_is, id_is) = around vs id v at in
        let (front, back, came_is, place, are, rest) = split 0 came before v after (sym vs_is ∙ vs_are) in
        let p : v.1 ≡ length front = omega arith in let ran' = rw came_is at ran in
        let quiet = rested_at log 0 v.1 front (v.0, v.2) back place ran'.4 in
        let becomes : (u : X) (mark : ℕ) → views_after id (Some v) vs (u, length front, mark) ≡ present_from 0 (front ++ Some (u, mark) ∷ back) =
        λ u mark. let now : Numbered X = (u, length front, mark) in
        cc (set-append_seam before v after now, present_from-append 0 (length front) front (Some (u, mark) ∷ back) (omega arith)) in
        (front, Some (v.0, v.2), back, ran', refl, (sym p, rw (← p) quiet), becomes)

  pub opens : (s : ℕ × S) → s ≡ words_of m.words → Run [] s []
  opens s is = ([], m.words, m.value, refl, is, (λ more. ap (at_first m) (zero-add more)), (λ more. refl), (λ q le. refl), refl)

  -- the result of a step that turns the view `view` of a party into u
  pub step : (view : Option (Numbered X)) (g : OnWord S) (tells : ℕ → X → Type 0) (says : Says V C A X)
      → run.AreMoves m seat_of words_of (what view) g tells says
      → (id : ℕ) (s : ℕ × S) (log : Schedule) (vs : List (Numbered X)) → Run log s vs → HasView id view vs → (u : X) → tells (g.1 s) u
      → (p : ℕ) × (own : List (Move C V)) × (outs : List (Outcome A V)) × (let es = by_party p own in
      Run (log ++ es) (g.0 s) (views_after id view vs (u, p, length (log ++ es)))
      × MadeNone log p view × run.AreOwn m own outs log es × says own outs (g.1 s) u)
  step view g tells says moves id s log vs is at u so =
      let (front, o, back, (w, value, s_is, leads, rested, fits), o_is, none, becomes) = placed log s vs id view is at in
      let (own, outs, said, all, fine, w', now, alone, are, become) = moves w value u (rw (← s_is) so) in
      let p : ℕ = length front in let log' : Schedule = log ++ by_party p own in let came : Came X = front ++ Some (u, length log') ∷ back in
      let (leads', mine) = runs.goes m log (w, value, sits (what view)) (w', now, seat_of u) (seats front) (seats back)
      (rw (seats-seam front o back, o_is) at leads) own outs all fine alone are p
      (sym (length-map (map kind front) sits ∙ length-map front kind)) in
      let there : runs.Leads m log' w' now (seats came) = rw (seats-seam front (Some (u, length log')) back) leads' in
      let rests = made log p own 0 front o u back (omega arith) rested in
      let run = as_run log' (g.0 s) (views_after id view vs (u, p, length log')) came (becomes u (length log'))
      (w', now, ap g.0 s_is ∙ sym become, there, rests, runs.of_calls m log p own fits all) in
      (p, own, outs, (run, none, mine, subst (λ y. says own outs (g.1 y) u) (sym s_is) said))

  -- The result of a step whose next view may depend on all words of the model: here of its kernel's, too.
  pub step_to : (view : Option (Numbered X)) (g : OnWord S) (to : X → Type 0) (says : Says V C A X)
      → (id : ℕ) (s : ℕ × S) (log : Schedule) (vs : List (Numbered X)) → Run log s vs → HasView id view vs
      → ((w : W) (value : Option V) → s ≡ words_of w → (u : X) × to u × run.Goes m seat_of words_of (what view) u w value (g.0 (words_of w)) (λ own outs. says own outs (g.1 (words_of w)) u))
      → (u : X) × to u × (p : ℕ) × (own : List (Move C V)) × (outs : List (Outcome A V)) × (let es = by_party p own in
      Run (log ++ es) (g.0 s) (views_after id view vs (u, p, length (log ++ es)))
      × MadeNone log p view × run.AreOwn m own outs log es × says own outs (g.1 s) u)
  step_to view g to says id s log vs is at moves =
      let (front, o, back, (w, value, s_is, leads, rested, fits), o_is, none, becomes) = placed log s vs id view is at in
      let (u, is_to, (own, outs, said, all, fine, w', now, alone, are, become)) = moves w value s_is in
      let p : ℕ = length front in let log' : Schedule = log ++ by_party p own in let came : Came X = front ++ Some (u, length log') ∷ back in
      let (leads', mine) = runs.goes m log (w, value, sits (what view)) (w', now, seat_of u) (seats front) (seats back)
      (rw (seats-seam front o back, o_is) at leads) own outs all fine alone are p
      (sym (length-map (map kind front) sits ∙ length-map front kind)) in
      let there : runs.Leads m log' w' now (seats came) = rw (seats-seam front (Some (u, length log')) back) leads' in
      let rests = made log p own 0 front o u back (omega arith) rested in
      let run = as_run log' (g.0 s) (views_after id view vs (u, p, length log')) came (becomes u (length log'))
      (w', now, ap g.0 s_is ∙ sym become, there, rests, runs.of_calls m log p own fits all) in
      (u, is_to, p, own, outs, (run, none, mine, subst (λ y. says own outs (g.1 y) u) (sym s_is) said))

  -- an idle party may leave
  pub leave : (v : Numbered X) → seat_of v.0 ≡ Idle → (s : ℕ × S) (log : Schedule) (before after : List (Numbered X))
      → Run log s (before ++ v ∷ after) → Run log s (before ++ after)
  leave v idle s log before after is = let (came, vs_are, ran) = as_ran log s (before ++ v ∷ after) is in
      let (front, back, came_is, place, are, rest) = split 0 came before v after vs_are in
      let (w, value, s_is, leads, rested, so) = rw came_is at ran in
      as_run log s (before ++ after) (front ++ None ∷ back) (cc (present_from-append 0 v.1 front (None ∷ back) place))
      (w, value, s_is, rw (seats-seam front None back) (rw (seats-seam front (Some (v.0, v.2)) back, idle) at leads), goes log 0 front (v.0, v.2) back rested, so)

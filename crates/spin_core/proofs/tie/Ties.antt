-- A lock's rule together with its trace of numbered parties. A step keeps both if it keeps the rule and consists of
-- moves of the model.
use Rattle.std.proofs.Common.{arith, ◌≡◌, ℕ, ◌+◌, ◌++◌, ◌∷◌, map, length, Option, Some, List, [], refl}
use Rattle.atomic_table.proofs.Lists.{at_map}
use Rattle.std.proofs.lemmas.List.{map-append, map-set}
use Rattle.std.proofs.lemmas.List.Folds.{fold-map}
use Rattle.spin_core.specs.declared.trace.Trace.{Trace}
use Rattle.spin_core.specs.Cell.{Way, Ways, no_fact, Use, use_of, Rests, reading, writing, Limits, Knowledge, Owed, MeetsRule, HasView, readers_of, writers_of, after, OnWord, AllowsTo}
use Rattle.spin_core.specs.Traced.{grown_at, TracesTo}
use Rattle.spin_step.specs.declared.place.Seat.{Seat}
use Rattle.spin_step.specs.declared.place.Seat.TheVariants.{Idle}
use Rattle.spin_step.specs.declared.schedule.Move.{Move}
use Rattle.spin_step.specs.declared.schedule.Outcome.{Outcome}
use Rattle.spin_step.specs.Machines.{Machine}
use Rattle.spin_step.specs.Schedules.{Entry}
use Rattle.spin_core.specs.Run.{AreMoves}
use Rattle.spin_core.specs.Passes.{Says}
use Rattle.spin_core.specs.Own.{Numbered, by_party, what, Tells, RunsByRule}
use Rattle.spin_core.proofs.cell.Ways.{going_map, carrying_of}
use Rattle.spin_core.proofs.tie.Owns as owns

module _ {X : Type 0} where
  -- the parties without their numbers
  abbrev all : List (Numbered X) → List X
  all vs = map (λ v. v.0) vs

  stands : (id : ℕ) (view : Option (Numbered X)) (vs : List (Numbered X)) → HasView id view vs → HasView id (what view) (all vs)
  stands id view vs at = grind (arith, at_map (λ (v : Numbered X). v.0) vs id)

  same_after : (id : ℕ) (view : Option (Numbered X)) (vs : List (Numbered X)) (w : Numbered X) → all (after id view vs w) ≡ after id (what view) (all vs) w.0
  same_after id view vs w = grind (arith, map-append (λ (v : Numbered X). v.0), map-set (λ (v : Numbered X). v.0))

  pub same_use : (f : X → Use) (view : Option (Numbered X)) → use_of f (what view) ≡ use_of (λ v. f v.0) view
  same_use f view = grind arith

  module _ (f : X → Use) (vs : List (Numbered X)) where
    pub as_many_read : readers_of f (all vs) ≡ readers_of (λ v. f v.0) vs
    as_many_read = fold-map (λ s x. s + reading (f x)) (λ v. v.0) 0 vs

    same_limits : {Y : Type 0} (way : Way Y)
        → Limits way (readers_of f (all vs)) (writers_of f (all vs)) ≡ Limits way (readers_of (λ v. f v.0) vs) (writers_of (λ v. f v.0) vs)
    same_limits way = rw (as_many_read, fold-map (λ s x. s + writing (f x)) (λ (v : Numbered X). v.0) 0 vs)

module _ {W V C L A X S : Type 0} (m : Machine W V C L A) (seat_of : X → Seat C L) (words_of : W → ℕ × S) (holds : ℕ → S → List X → Type 0) (name : ℕ) (Y : Type 0) (way : Way Y) (f : X → Use) (know : Knowledge (Trace (Entry C V) S) Y) where
  abbrev Of : ℕ → Trace (Entry C V) S → List (Numbered X) → Type 0
  Of = RunsByRule m seat_of words_of holds name

  abbrev ways : Ways Y X S
  ways = (way, f, no_fact)

  abbrev own_ways : Ways Y (Numbered X) (Trace (Entry C V) S)
  own_ways = (way, λ v. f v.0, know)

  -- what the moves must show of the value, whatever the trace is
  abbrev Owing : Use → Use → Option Y → List (Move C V) → Type 0
  Owing u u' shown own = (t : Trace (Entry C V) S) (word : S) (p : ℕ) → Owed know t (grown_at t word (by_party p own)) u u' shown

  pub opens : (n : ℕ) (t : Trace (Entry C V) S) → t.name ≡ name → t.entries ≡ [] → (n, t.word) ≡ words_of m.words → MeetsRule holds ways n t.word [] → MeetsRule Of own_ways n t []
  opens n t named empty is meets = ((named, meets.0, rw empty (owns.opens m seat_of words_of (n, t.word) is)), meets.1)

  -- if the rule gives the party a next view, its moves lead to that view
  pub traces : (view : Option (Numbered X)) (shown : Option Y) (g : OnWord S) (then : ℕ → X → Type 0) (says : Says V C A X)
      → AreMoves m seat_of words_of (what view) g then says
      → ((own : List (Move C V)) (outs : List (Outcome A V)) (n : ℕ) (u : X) → says own outs n u → Owing (use_of f (what view)) (f u) shown own)
      → AllowsTo holds ways (what view) shown g then
      → TracesTo Of own_ways view shown g (Tells m seat_of words_of says view)
  traces view shown g then says moves owes allows id n t vs meets at small =
      let (u, going, so) = allows id n t.word (all vs) (meets.0.1, rw (same_limits f vs way) meets.1) (stands id view vs at) small in
      let (p, own, outs, (run, none, mine, said)) = owns.step m seat_of words_of view g then says moves id (n, t.word) t.entries vs meets.0.2 at u so in
      let es = by_party p own in let w : Numbered X = (u, p, length (t.entries ++ es)) in let s = g.0 (n, t.word) in let u₀ = use_of f (what view) in
      let keeps = λ (met : MeetsRule holds ways s.0 s.1 (after id (what view) (all vs) u)). let (held, few) = rw (← same_after id view vs w) at met in
      carrying_of know t (grown_at t s.1 es) u₀ (f u) shown (owes own outs (g.1 (n, t.word)) u said t s.1 p)
      ((meets.0.0, held, run), rw (← same_limits f (after id view vs w) way) few) in
      let going' = going_map way u₀ (f u) shown (readers_of f (all vs)) keeps going in
      (w, es, rw (← same_use f view, ← as_many_read f vs) going', (own, outs, refl, refl, none, mine, said))

  pub rests : (v : Numbered X) → seat_of v.0 ≡ Idle → Rests holds f (Some v.0) → Rests Of (λ w. f w.0) (Some v)
  rests v idle rest = (
    rest.0,
    λ n t before behind is. let bare : Numbered X → X = λ w. w.0 in
        let gone = rest.1 n t.word (all before) (all behind) (rw (map-append bare before (v ∷ behind)) at is.1) in
        (is.0, rw (map-append bare before behind) gone, owns.leave m seat_of words_of v idle (n, t.word) t.entries before behind is.2),
  )

-- a step that says something of its moves may say instead what follows from that
module _ {W V C L A X S : Type 0} (m : Machine W V C L A) (seat_of : X → Seat C L) (words_of : W → ℕ × S) (view : Option (Numbered X)) (says says' : Says V C A X)
    (less : (own : List (Move C V)) (outs : List (Outcome A V)) (n : ℕ) (u : X) → says own outs n u → says' own outs n u) where
  pub tells_less : {Y : Type 0} (holds : ℕ → Trace (Entry C V) S → List (Numbered X) → Type 0)
      (used : Ways Y (Numbered X) (Trace (Entry C V) S)) (shown : Option Y) (g : OnWord S)
      → TracesTo holds used view shown g (Tells m seat_of words_of says view)
      → TracesTo holds used view shown g (Tells m seat_of words_of says' view)
  tells_less holds used shown g tells id n t vs meets at small =
      let (w, es, going, (own, outs, is, mark, none, mine, said)) = tells id n t vs meets at small in
      (w, es, going, (own, outs, is, mark, none, mine, less own outs (g.1 (n, t.word)) w.0 said))

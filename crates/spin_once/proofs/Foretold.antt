-- A run of a `Once` on threads is a schedule of its object. The schedule leads to the words, the value and the seats
-- of the run. In the seats of the object the name of each call says whether its closure will fail.
use Rattle.std.proofs.Common.{◌≡◌, ℕ, zero, suc, ◌+◌, ◌≤◌, ◌==◌, if◌then◌else◌, Bool, true, false, Option, Some, None, List, [], ◌∷◌, ◌++◌, length, map, take, drop, replicate, slice_get, slice_set, refl, sym, ap, ◌∙◌, subst, arith}
use Rattle.std.specs.Option.{option_map}
use Rattle.std.specs.List.{list_all}
use Rattle.std.proofs.Math.Seq.{take-length}
use Rattle.std.proofs.lemmas.Bool.{and_parts}
use Rattle.std.proofs.lemmas.List.{append-nil}
use Rattle.spin_step.specs.declared.once_calls.OnceCall.TheVariants.{TryCallOnceOk}
use Rattle.spin_step.specs.declared.once_calls.OncePoint.{OncePoint}
use Rattle.spin_step.specs.declared.once_calls.OncePoint.TheVariants.{Run}
use Rattle.spin_step.specs.declared.place.Seat.{Seat}
use Rattle.spin_step.specs.declared.place.Seat.TheVariants.{Idle, Calling}
use Rattle.spin_step.specs.declared.schedule.Move.TheVariants.{Weak}
use Rattle.spin_step.specs.Schedules.{after, happens, moves_at, at_first}
use Rattle.spin_step.proofs.Lists.{get-set_same}
use Rattle.spin_core.specs.Own.{Numbered, IsRun, Rested, present_from, kind, entries_by}
use Rattle.spin_core.specs.Run.{is_played, outcomes_of, AreOfCalls, IsPlayed, LeadsTo, sits}
use Rattle.spin_once.specs.Foretold.{fails_by, will_fail, named, foretold, place_of, counted}
use Rattle.spin_once.specs.Model.{Point, at, failed}
use Rattle.spin_once.specs.OnceValues.{Made}
use Rattle.spin_once.specs.Once.{OneMove, View, seat_of, words_of}
use Rattle.spin_once.proofs.Resting.{Call, World, is_step, rests, rests_after}
use Rattle.spin_once.proofs.Named.{Object, seat_named, seats_named, object, Alike, renamed, t, m, named_get, named_alike, named_idle, get-set_other, moves_alike}

-- the part of the object's schedule for the moves `es`, if the moves `later` follow them
abbrev before : List Made → List Made → List Made
before es later = take (length (foretold es)) (foretold (es ++ later))

-- so the object's schedule is the part for the moves `es`, followed by the part for the moves `later`
pub split : (es later : List Made) → foretold (es ++ later) ≡ before es later ++ foretold later
split [] later = refl
split (e ∷ es) later = grind (arith, split es later)

module _ (given : Option (Unit {0})) where
  -- A party that is in no call makes no step before it begins a call. Until then no closure of this party fails.
  pub quiet : (es : List Made) (s : World) (p : ℕ) → list_all is_played (outcomes_of (m given) s es) ≡ true → rests (slice_get s.seats p) ≡ true → will_fail es p ≡ false
  quiet [] s p played is = refl
  quiet ((q, move) ∷ es) s p played is =
      let now = happens (m given) s q move in
      let each = and_parts (is_played now.outcome) (list_all is_played (outcomes_of (m given) now.next es)) played in
      grind (arith, is, each.0, λ (ne : is_step move ≡ true → q ≡ p → ⊥). quiet es now.next p each.1 (rests_after given s q p is move (slice_get s.seats q) ne))

  -- from the state `o` these entries lead the object to the state `end`, and none of them is skipped
  abbrev Leads : Object → List Made → Object → Type 0
  Leads o es end = (after (t given) o es ≡ end) × (list_all is_played (outcomes_of (t given) o es) ≡ true)

  pub happens_alike : (f : ℕ → Bool) (s : World) (p : ℕ) (move : OneMove) → (rests (slice_get (happens (m given) s p move).next.seats p) ≡ true → f p ≡ false) → (move ≡ Weak → ⊥)
      → Alike f (happens (m given) s p move) (happens (t given) (object f s) p (renamed move (f p)))
  happens_alike f s p move still ne = rw (named_get f s.seats p) (moves_alike given f s p move (slice_get s.seats p) refl still ne)

  abbrev at_seats : World → List (Seat Call OncePoint) → Object
  at_seats s xs = record { words = s.words; value = s.value; seats = xs }

  -- When a closure fails, the object's seats stay as they are. In the object the call with this closure has the name
  -- of a failing call from the beginning.
  pub weak_alike : (s : World) (p : ℕ) (es : List Made) (o : Option (Seat Call Point)) → slice_get s.seats p ≡ o → is_played (moves_at (m given) s p Weak o).outcome ≡ true
      → object (will_fail ((p, Weak) ∷ es)) s ≡ object (will_fail es) (moves_at (m given) s p Weak o).next
  weak_alike s p es (Some (Calling (TryCallOnceOk v) (at Run) h)) there played =
      let y : Seat Call Point = Calling (TryCallOnceOk v) failed h in ap (at_seats s) (named_alike (will_fail ((p, Weak) ∷ es)) (will_fail es) s.seats (slice_set s.seats p y) (λ q. by_place q (p == q) refl))
    where
      by_place : (q : ℕ) (b : Bool) → (p == q) ≡ b → option_map (λ x. seat_named x (if b then true else will_fail es q)) (slice_get s.seats q)
          ≡ option_map (λ x. seat_named x (will_fail es q)) (slice_get (slice_set s.seats p (Calling (TryCallOnceOk v) failed h)) q)
      by_place q b same = grind (arith, same, there, get-set_other s.seats p q, get-set_same s.seats p (Calling (TryCallOnceOk v) failed h) (Calling (TryCallOnceOk v) (at Run) h) there)
  weak_alike s p es _ there played = absurd (let d : false ≡ true = played in cc)

  -- Later moves decide how the object names the present calls. If the next move is not `Weak`, the moves after it give the same names.
  pub named_later : (s : World) (p : ℕ) (move : OneMove) (es : List Made) → is_played (happens (m given) s p move).outcome ≡ true → (move ≡ Weak → ⊥)
      → object (will_fail ((p, move) ∷ es)) s ≡ object (will_fail es) s
  named_later s p move es played ne = ap (at_seats s) (named_alike (will_fail ((p, move) ∷ es)) (will_fail es) s.seats s.seats (λ q. by_place q (p == q) refl))
    where
      by_place : (q : ℕ) (b : Bool) → (p == q) ≡ b → option_map (λ x. seat_named x (if b then fails_by move (will_fail es q) else will_fail es q)) (slice_get s.seats q)
          ≡ option_map (λ x. seat_named x (will_fail es q)) (slice_get s.seats q)
      by_place q b same = grind (arith, played, ne, same)

  -- if the moves `later` follow the moves `es`, the part of the schedule for `es` leads the object where `es` lead the model
  pub leads_on : (es later : List Made) (s : World) → list_all is_played (outcomes_of (m given) s (es ++ later)) ≡ true
      → Leads (object (will_fail (es ++ later)) s) (before es later) (object (will_fail later) (after (m given) s es))
  leads_on [] later s played = (refl, refl)
  leads_on ((p, Weak) ∷ es) later s played =
      let now = happens (m given) s p Weak in
      let each = and_parts (is_played now.outcome) (list_all is_played (outcomes_of (m given) now.next (es ++ later))) played in
      rw (weak_alike s p (es ++ later) (slice_get s.seats p) refl each.0) (leads_on es later now.next each.1)
  leads_on ((p, move) ∷ es) later s played =
      let now = happens (m given) s p move in let f = will_fail (es ++ later) in
      let each = and_parts (is_played now.outcome) (list_all is_played (outcomes_of (m given) now.next (es ++ later))) played in
      let alike = happens_alike f s p move (λ still. quiet (es ++ later) now.next p each.1 still) (λ e. absurd (cc e)) in
      let end : Object = object (will_fail later) (after (m given) s ((p, move) ∷ es)) in
      subst (λ o. Leads o ((p, renamed move (f p)) ∷ before es later) end)
      (sym (named_later s p move (es ++ later) each.0 (λ e. absurd (cc e))))
      (rw (alike.0, alike.1, each.0, after) (leads_on es later now.next each.1))

  -- the whole schedule leads the object where all moves lead the model
  pub all_alike : (es : List Made) (s : World) → list_all is_played (outcomes_of (m given) s es) ≡ true → Leads (object (will_fail es) s) (foretold es) (object (λ p. false) (after (m given) s es))
  all_alike es s played = rw (append-nil es, take-length (foretold es)) at (leads_on es [] s (rw (append-nil es) played))

-- ---- a run from the beginning leads to the seats of all parties
pub named_kept : (c : Call) → named c false ≡ c
named_kept (TryCallOnceOk v) = refl
named_kept c = refl

module _ (given : Option (Unit {0})) where
  places : (came : List (Option View)) (more : ℕ)
      → seats_named (λ p. false) (map (sits (m given) seat_of words_of) came ++ replicate more Idle) ≡ map (sits (t given) place_of words_of) came ++ replicate more Idle
  places [] more = named_idle (λ p. false) more
  places (v ∷ came) more = grind (arith, named_kept, places came more)

  pub first_named : (f : ℕ → Bool) (n : ℕ) → object f (at_first (m given) n) ≡ at_first (t given) n
  first_named f n = ap (λ xs. let o : Object = record { words = (t given).words; value = (t given).value; seats = xs } in o) (named_idle f n)

  leads : (log : List Made) (w : ℕ) (value : Option (Unit {0})) (came : List (Option View)) → LeadsTo (m given) seat_of words_of log w value came → IsPlayed (m given) (length came) log
      → LeadsTo (t given) place_of words_of (foretold log) w value came × IsPlayed (t given) (length came) (foretold log)
  leads log w value came led played = (
    λ more. ap (λ o. after (t given) o (foretold log)) (sym (first_named (will_fail log) (length came + more))) ∙ (all_alike given log (at_first (m given) (length came + more)) (played more)).0 ∙ ap (object (λ p. false)) (led more)
        ∙ ap (λ xs. let o : Object = record { words = w; value = value; seats = xs } in o) (places came more),
    λ more. ap (λ o. list_all is_played (outcomes_of (t given) o (foretold log))) (sym (first_named (will_fail log) (length came + more))) ∙ (all_alike given log (at_first (m given) (length came + more)) (played more)).1,
  )

-- ---- the marks of the parties
abbrev Came : Type 0
Came = Option (View × ℕ)

abbrev marked : List Made → Came → Came
marked log came = option_map (λ u. (u.0, length (foretold (take u.1 log)))) came

kinds_marked : (log : List Made) (came : List Came) → map kind (map (marked log) came) ≡ map kind came
kinds_marked log [] = refl
kinds_marked log (v ∷ came) = grind (arith, kinds_marked log came)

present_marked : (log : List Made) (k : ℕ) (came : List Came) → map (counted log) (present_from k came) ≡ present_from k (map (marked log) came)
present_marked log k [] = refl
present_marked log k (v ∷ came) = grind (arith, present_marked log (suc k) came)

-- the rest of the object's schedule, after its part for the first `n` moves
cut : (n : ℕ) (es : List Made) → (length (foretold (take n es)) ≤ length (foretold es)) × (drop (length (foretold (take n es))) (foretold es) ≡ foretold (drop n es))
cut zero es = (omega arith, refl)
cut (suc n) [] = (omega arith, refl)
cut (suc n) (e ∷ es) = grind (arith, cut n es)

none_told : (q : ℕ) (es : List Made) → entries_by q es ≡ [] → entries_by q (foretold es) ≡ []
none_told q [] is = refl
none_told q (e ∷ es) is = grind (arith, is, none_told q es)

rested_marked : (log : List Made) (k : ℕ) (came : List Came) → Rested log k came → Rested (foretold log) k (map (marked log) came)
rested_marked log k [] is = λ q ge. none_told q log (is q ge)
rested_marked log k (None ∷ came) is = (tt, rested_marked log (suc k) came is.1)
rested_marked log k (Some u ∷ came) is = (((cut u.1 log).0, ap (entries_by k) (cut u.1 log).1 ∙ none_told k (drop u.1 log) is.0.1), rested_marked log (suc k) came is.1)

-- ---- the moves of the parties
module _ (given : Option (Unit {0})) where
  fits : (log : List Made) → AreOfCalls (m given) log → AreOfCalls (t given) (foretold log)
  fits [] so = refl
  fits (e ∷ es) so = grind (arith, so, fits es)

pub is_run : (given : Option (Unit {0})) (log : List Made) (s : ℕ × Unit {0}) (parties : List (Numbered View)) → IsRun (m given) seat_of words_of log s parties → IsRun (t given) place_of words_of (foretold log) s (map (counted log) parties)
is_run given log s parties (came, w, value, is, words_is, led, played, rested, so) =
    let both = leads given log w value (map kind came) led played in let kinds = sym (kinds_marked log came) in
    let leads_so = subst (λ us. LeadsTo (t given) place_of words_of (foretold log) w value us) kinds both.0 in
    let played_so = subst (λ us. IsPlayed (t given) (length us) (foretold log)) kinds both.1 in
    (map (marked log) came, w, value, ap (map (counted log)) is ∙ present_marked log 0 came, words_is, leads_so, played_so, rested_marked log 0 came rested, fits given log so)

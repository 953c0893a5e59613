-- If the trace of a lock on threads is a schedule of its model, then all that the model's laws say of this schedule
-- holds of the lock.
use Rattle.std.proofs.Common.{◌≡◌, ◌≢◌, ◌⊎◌, inr, ⊎_elim, ℕ, suc, ◌+◌, ◌≤◌, false, Option, Some, None, List, [], ◌∷◌, ◌++◌, length, map, slice_get, refl, sym, ap, ◌∙◌, subst, arith}
use Rattle.std.specs.List.{All}
use Rattle.std.specs.Option.{option_map}
use Rattle.std.proofs.lemmas.List.{append-nil, map-id}
use Rattle.std.proofs.lemmas.Option.{slice_get_past, slice_get_within, slice_get-map, get_or_from_slice_get}
use Rattle.std.proofs.lemmas.List.Elements.{All-nil, All-cons, All-head, All-tail, All-same, All-map}
use Rattle.spin_core.specs.Own.{Numbered, IsRun, present_from, kind}
use Rattle.spin_core.specs.Run.{AreOfCalls, sits}
use Rattle.spin_step.specs.declared.place.Seat.{Seat}
use Rattle.spin_step.specs.declared.place.Seat.TheVariants.{Idle}
use Rattle.spin_step.specs.Acts.{Table}
use Rattle.spin_step.specs.Machines.{Machine}
use Rattle.spin_step.specs.Schedules.{State, Entry, after, at_first}
use Rattle.spin_world_core.specs.Runs.{Seen, opening, StandsFor, state_at}
use Rattle.spin_world_core.specs.Users.{seen_after}
use Rattle.spin_world_core.proofs.Shapes.{Notes}
use Rattle.spin_world_core.proofs.Steps.{played, Plays}
use Rattle.spin_world_core.proofs.Reached as reached
use Rattle.spin_laws.specs.Between.{Between, NoneFailsSpuriously}

module _ {W V C L A X S : Type 0} (m : Machine W V C L A) (seat_of : X → Seat C L) (words_of : W → ℕ × S) where
  abbrev seats : List (Option (X × ℕ)) → List (Seat C L)
  seats us = map (sits m seat_of words_of) (map kind us)

  -- P holds of each party that is present, if it holds of each party whose seat is the one of its view
  sit : (P : Numbered X → Type 0) (k : ℕ) (came : List (Option (X × ℕ))) → ((v : Numbered X) (i : ℕ) → v.1 ≡ k + i → slice_get (seats came) i ≡ Some (seat_of v.0) → P v) → All P (present_from k came)
  sit P k [] each = All-nil P
  sit P k (None ∷ us) each = sit P (suc k) us (λ v i is at. each v (suc i) (omega (arith, is)) at)
  sit P k (Some u ∷ us) each = All-cons P (u.0, k, u.1) (present_from (suc k) us) (each (u.0, k, u.1) 0 (omega arith) refl) (sit P (suc k) us (λ v i is at. each v (suc i) (omega (arith, is)) at))

  -- a number that is none of a party that is present has an idle seat, or none
  abbrev IsFree : List (Seat C L) → ℕ → Type 0
  IsFree seats i = (slice_get seats i ≡ Some Idle) ⊎ (length seats ≤ i)

  free : (came : List (Option (X × ℕ))) (k i q : ℕ) → q ≡ k + i → All (λ v. v.1 ≢ q) (present_from k came) → IsFree (seats came) i
  free [] k i q is all = inr (omega arith)
  free (None ∷ us) k i q is all = grind (arith, free us (suc k), is, all)
  free (Some u ∷ us) k i q is all =
      grind (arith, free us (suc k), is, All-tail (λ v. v.1 ≢ q) (u.0, k, u.1) (present_from (suc k) us) all, All-head (λ v. v.1 ≢ q) (u.0, k, u.1) (present_from (suc k) us) all)

  -- the numbers of those present grow
  from_on : (came : List (Option (X × ℕ))) (k j : ℕ) (w : Numbered X) → slice_get (present_from k came) j ≡ Some w → k ≤ w.1
  from_on came k j w at =
      subst (λ v. k ≤ v.1) (get_or_from_slice_get (present_from k came) j w w at) (sit (λ v. k ≤ v.1) k came (λ v i is at. omega (arith, is)) j w (slice_get_within _ j w at))

  abbrev AreApart : List (Numbered X) → Type 0
  AreApart parties = (i j : ℕ) (v w : Numbered X) → slice_get parties i ≡ Some v → slice_get parties j ≡ Some w → v.1 ≡ w.1 → i ≡ j

  present_apart : (came : List (Option (X × ℕ))) (k : ℕ) → AreApart (present_from k came)
  present_apart [] k i j v w here there same = absurd (grind (arith, here))
  present_apart (None ∷ us) k i j v w here there same = present_apart us (suc k) i j v w here there same
  present_apart (Some u ∷ us) k i j v w here there same = grind (arith, here, there, same, from_on us (suc k), present_apart us (suc k))

-- the parties with other marks
abbrev pub with_mark : {X : Type 0} → (Numbered X → ℕ) → Numbered X → Numbered X
with_mark marks u = (u.0, u.1, marks u)

marked : {X : Type 0} (marks : Numbered X → ℕ) (us : List (Numbered X)) (i : ℕ) (v : Numbered X) → slice_get us i ≡ Some v → slice_get (map (with_mark marks) us) i ≡ Some (with_mark marks v)
marked marks us i v at = slice_get-map (with_mark marks) us i ∙ ap (option_map (with_mark marks)) at

unmarked : {X : Type 0} (marks : Numbered X → ℕ) (P : Numbered X → Type 0) (us : List (Numbered X)) → All P (map (with_mark marks) us) → All (λ v. P (with_mark marks v)) us
unmarked marks P [] all = All-nil (λ v. P (with_mark marks v))
unmarked marks P (v ∷ vs) all =
    All-cons (λ v. P (with_mark marks v)) v vs (All-head P (with_mark marks v) (map (with_mark marks) vs) all) (unmarked marks P vs (All-tail P (with_mark marks v) (map (with_mark marks) vs) all))

module _ {W V C L A B X S : Type 0} {t : Table W V C L B} {by : Machine W V C L A} {k : Notes t} (seat_of : X → Seat C L) (words_of : W → ℕ × S) (f : Plays by k) where
  abbrev m : Machine W V C L A
  m = played t by

  -- threads make a move `Weak` only where closures make the value
  pub none_fails : m.lock_kind.makes_value ≡ false → (log : List (Entry C V)) → AreOfCalls m log → NoneFailsSpuriously log
  none_fails strong [] fits = refl
  none_fails strong (e ∷ es) fits = grind (arith, strong, fits, none_fails strong es)

  -- the schedule may mark the parties otherwise than the threads
  pub between : (log : List (Entry C V)) (words : ℕ × S) (marks : Numbered X → ℕ) (parties : List (Numbered X)) → NoneFailsSpuriously log → IsRun m seat_of words_of log words (map (with_mark marks) parties)
      → Between m seat_of words_of log words parties
  between log words marks parties sure (came, w, value, is, words_is, led, played, rested, fits) =
      let n : ℕ = length (map kind came) in let seen : Seen W V C L = seen_after m (opening m n) log in
      let good = reached.good f n log in let Stand : Numbered X → Type 0 = λ v. StandsFor seen.plain v.1 (seen.span v.1) (Some (seat_of v.0)) in
      let state : seen.state ≡ record { words = w; value = value; seats = seats m seat_of words_of came ++ [] } = reached.state_is f n log ∙ ap (λ j. after m (at_first m j) log) (let e : n ≡ n + 0 = omega arith in e) ∙ led 0 in
      let seated : (p : ℕ) → slice_get (state_at m n log).seats p ≡ slice_get (seats m seat_of words_of came) p =
      λ p. ap (λ (s : State W V C L). slice_get s.seats p) (sym (reached.state_is f n log) ∙ state) ∙ ap (λ l. slice_get l p) (append-nil (seats m seat_of words_of came)) in
      record {
        came = n;
        seen = seen;
        led = refl;
        encodes = good.encodes;
        words_are = words_is ∙ ap (λ (s : State W V C L). words_of s.words) (sym state);
        exclusive = good.exclusive;
        stand = unmarked marks Stand parties (All-same Stand (map (with_mark marks) parties) (present_from 0 came) is (sit m seat_of words_of Stand 0 came (λ v i is at. reached.stands f n log v.1 (seated v.1 ∙ ap (slice_get (seats m seat_of words_of came)) (omega (arith, is)) ∙ at))));
        apart = λ i j v w here there. subst (AreApart m seat_of words_of) (sym is) (present_apart m seat_of words_of came 0) i j (with_mark marks v) (with_mark marks w) (marked marks parties i v here) (marked marks parties j w there);
        sure = sure;
        others = λ p all.
            let there : (o : Option (Seat C L)) → slice_get (seats m seat_of words_of came) p ≡ o → StandsFor seen.plain p (seen.span p) o =
            λ o at. subst (StandsFor seen.plain p (seen.span p)) (reached.seat_is f n log p o (seated p ∙ at)) (good.parties p).stands in
            ⊎_elim (λ idle. there (Some Idle) idle) (λ past. there None (slice_get_past (seats m seat_of words_of came) p past))
            (free m seat_of words_of came 0 p p (omega arith) (All-same (λ v. v.1 ≢ p) (present_from 0 came) (map (with_mark marks) parties) (sym is) (All-map (λ v. v.1 ≢ p) (with_mark marks) parties all)));
      }

  -- of a lock whose closures do not make its value
  pub between_strong : m.lock_kind.makes_value ≡ false → (log : List (Entry C V)) (words : ℕ × S) (parties : List (Numbered X)) → IsRun m seat_of words_of log words parties → Between m seat_of words_of log words parties
  between_strong strong log words parties run = between log words (λ v. v.2) parties (none_fails strong log run.8) (subst (IsRun m seat_of words_of log words) (sym (map-id parties)) run)

-- Several runs, one after another, are one run of their joined schedules.
use Rattle.spin_world_core.specs.Users.{seen_at}
use Rattle.spin_world_core.specs.Runs.{Schedule}
use Rattle.spin_world_core.proofs.Names.{◌≡◌, ℕ, suc, ◌+◌, ◌≤◌, ◌==◌, ◌&&◌, Option, Some, None, List, [], ◌∷◌, ◌++◌, length, map, take, drop, if◌then◌else◌, refl, ap, sym, ◌∙◌, arith, append_assoc, append-nil, take-append-drop, Event, Machine, State, after, at_first, events_of, with_begins, last_begin, is_begun, Seen, Scene, scene, opening, AfterAnyPast, seen_after, Lawful, scenes, EachTells, TellsAfterAnyPast, joined}
use Rattle.std.proofs.Math.Seq.{drop-append_seam, take-append_seam}
use Rattle.spin_world_core.specs.Joined.{IsCut, Promised, RunsAreOne, after_runs, began_from, event_from, transcripts_of}
use Rattle.spin_step.proofs.Schedules.{after-append}
use Rattle.spin_world_core.proofs.Schedules.{events_of-append, seen_after-append, length-events_of, with_begins-append, last_begin-append}
use Rattle.spin_world_core.proofs.Transcripts.{tells_after}

-- What two runs tell

tells-append : {W V C L A : Type 0} (ss ts : List (Scene W V C L A)) (es fs : List (Event W V A)) → EachTells ss es → EachTells ts fs
    → EachTells (ss ++ ts) (es ++ fs)
tells-append [] ts [] fs front back = back
tells-append (s ∷ ss) ts (e ∷ es) fs front back = (front.0, tells-append ss ts es fs front.1 back)
tells-append _ ts _ fs front back = absurd front

module _ {W V C L A : Type 0} (m : Machine W V C L A) where
  scenes-append : (seen : Seen W V C L) (xs ys : Schedule C V) → scenes m seen (xs ++ ys) ≡ scenes m seen xs ++ scenes m (seen_after m seen xs) ys
  scenes-append seen [] ys = refl
  scenes-append seen (x ∷ xs) ys = ap (λ ss. scene m seen x.0 x.1 ∷ ss) (scenes-append (scene m seen x.0 x.1).after xs ys)

  -- the events of two runs together tell the scenes of one
  tells_both : (s : State W V C L) (first second : Schedule C V) (es fs : List (Event W V A)) → TellsAfterAnyPast m s first es
      → TellsAfterAnyPast m (after m s first) second fs → TellsAfterAnyPast m s (first ++ second) (es ++ fs)
  tells_both s first second es fs front back = λ n past reached.
      let there = after-append m (at_first m n) past first ∙ ap (λ t. after m t first) reached in
      rw (scenes-append (seen_at m n past) first second)
      (tells-append _ _ es fs (front n past reached) (rw (seen_after-append m (opening m n) past first) at (back n (past ++ first) there)))

-- Where calls began

-- a run that starts later tells no place of a call that began before its start
none_from : {W V A : Type 0} (start p k : ℕ) (found : Option ℕ) (xs : List (Event W V A)) → k + length xs ≤ start → began_from start found ≡ None
    → began_from start (last_begin p k found xs) ≡ None
none_from start p k found [] le none = none
none_from start p k found (x ∷ xs) le none = grind (arith, none_from start p (k + 1) (if (x.party == p) && is_begun x.outcome then Some k else found) xs)

-- a run tells the place where a call began as counted from the run's own start
last_from : {W V A : Type 0} (start p k : ℕ) (found here : Option ℕ) (xs : List (Event W V A)) → began_from start found ≡ here
    → began_from start (last_begin p (start + k) found xs) ≡ last_begin p k here xs
last_from start p k found here [] is = is
last_from start p k found here (x ∷ xs) is = let b = (x.party == p) && is_begun x.outcome in
    grind (arith, last_from start p (k + 1) (if b then Some (start + k) else found) (if b then Some k else here) xs)

length-with_begins : {W V A : Type 0} (before xs : List (Event W V A)) → length (with_begins before xs) ≡ length xs
length-with_begins before [] = refl
length-with_begins before (x ∷ xs) = ap suc (length-with_begins (before ++ x ∷ []) xs)

-- a run that starts after the events xs has the events of the longer run, with places counted from its own start
with_begins_from : {W V A : Type 0} (xs before ys : List (Event W V A)) → with_begins before ys ≡ map (event_from (length xs)) (with_begins (xs ++ before) ys)
with_begins_from xs before [] = refl
with_begins_from xs before (y ∷ ys) = let n = length xs in let p = y.party in
    grind (arith, last_begin-append p 0 None xs before, last_from n p 0 (last_begin p 0 None xs) None before, none_from n p 0 None xs, with_begins_from xs (before ++ y ∷ []) ys, append_assoc)

-- Two runs of one world: the second run starts in the state in which the first has stopped, on the same object. They
-- end as one run does, their transcripts are its transcript, cut in two, and both together tell its scenes.
pub two_in_one : {O W V C L A : Type 0} (machine : O → Machine W V C L A) (old now : O) (s between end : State W V C L)
    (first second schedule : Schedule C V) (place : ℕ) (es fs : List (Event W V A)) → now ≡ old
    → first ≡ take place schedule → second ≡ drop place schedule → length first ≡ place
    → let m = machine old in between ≡ after m s first → end ≡ after (machine now) between second
    → es ≡ with_begins [] (events_of m s first) → fs ≡ with_begins [] (events_of (machine now) between second)
    → (end ≡ after m s schedule) × IsCut place (with_begins [] (events_of m s schedule)) es fs
    × TellsAfterAnyPast m s schedule (es ++ fs)
two_in_one machine old now s between end first second schedule place es fs same front back at is ends heads tails =
    let m = machine old in
    let more = rw (same, is) at tails in
    let xs = events_of m s first in
    let ys = events_of m (after m s first) second in
    let parts = ap (with_begins []) (events_of-append m s first second) ∙ with_begins-append [] xs ys in
    let here = length-events_of m s first ∙ at in
    let seam = take-append_seam (with_begins [] xs) (with_begins xs ys) in
    let seam_back = drop-append_seam (with_begins [] xs) (with_begins xs ys) in
    let from = with_begins_from xs [] ys in
    let whole : first ++ second ≡ schedule = rw (front, back) (take-append-drop place schedule) in
    let one = (rw (same, is) at ends) ∙ sym (after-append m s first second) in
    let told = tells_after m (after m s first) second fs more in
    let all = tells_both m s first second es fs (tells_after m s first es heads) told in
    let long = length-with_begins [] xs in
    rw (← whole) (one, grind (arith, heads, more, seam, seam_back, from, here, append-nil xs, long, parts), all)

-- Any number of runs
module _ {W V C L A : Type 0} (m : Machine W V C L A) where
  pub promised_after : (s : State W V C L) (schedule : Schedule C V) → Lawful m → AfterAnyPast m s schedule (Promised m)
  promised_after s schedule lawful = λ n past reached.
      search (lawful.keeps n, lawful.moments n, lawful.counts n, lawful.values n)

  after-joined : (s : State W V C L) (runs : List (Schedule C V)) → after_runs m s runs ≡ after m s (joined runs)
  after-joined s [] = refl
  after-joined s (run ∷ runs) = after-joined (after m s run) runs ∙ sym (after-append m s run (joined runs))

  tells-joined : (s : State W V C L) (runs : List (Schedule C V)) → TellsAfterAnyPast m s (joined runs) (joined (transcripts_of m s runs))
  tells-joined s [] = λ n past reached. tt
  tells-joined s (run ∷ runs) = grind (arith, tells_both, tells_after, tells-joined (after m s run) runs)

  pub runs_are_one : (s : State W V C L) (runs : List (Schedule C V)) → Lawful m → RunsAreOne m s runs
  runs_are_one s runs lawful = record { state = after-joined s runs; tells = tells-joined s runs; promised = promised_after s (joined runs) lawful }

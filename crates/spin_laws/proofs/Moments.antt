-- The moment of an answer. What the model's laws say of a state before a step of the call holds of a state of the
-- history during the call.
use Rattle.std.proofs.Common.{◌≡◌, ℕ, Bool, true, Option, List, subst, arith}
use Rattle.std.specs.List.{All, list_any}
use Rattle.std.proofs.lemmas.List.Folds.{Any-from_list_any}
use Rattle.spin_step.specs.Plain.{Plain}
use Rattle.spin_step.specs.Calls.{HasMoment, Mark, moment}
use Rattle.spin_step.specs.Calls as meaning
use Rattle.spin_step.specs.Asks.{same}
use Rattle.spin_core.specs.Own.{Numbered}
use Rattle.spin_core.specs.Passes.{IsCall, Made}
use Rattle.spin_step.specs.declared.place.Hold.{Hold}
use Rattle.spin_step.specs.declared.schedule.Move.TheVariants.{Step}
use Rattle.spin_step.specs.Acts.{Table}
use Rattle.spin_step.specs.Machines.{Machine}
use Rattle.spin_step.specs.Schedules.{Entry}
use Rattle.spin_world_core.specs.Runs.{Seen, opening}
use Rattle.spin_world_core.specs.Users.{seen_after}
use Rattle.spin_world_core.proofs.Shapes.{Notes}
use Rattle.spin_world_core.proofs.Steps.{played, Plays}
use Rattle.spin_world_core.proofs.Shapes.{InCall}
use Rattle.spin_world_core.proofs.Preserved.{in_call}
use Rattle.spin_world_core.proofs.Every.{kept}
use Rattle.spin_world_core.proofs.Reached.{good}
use Rattle.spin_laws.specs.Moments.{AtAMoment, Found}
use Rattle.spin_laws.proofs.Calls.{span_of, IsBetween, IsAnswered, call_in}

pub same_is : (there said : Bool) → same said there ≡ true → there ≡ said
same_is there said is = grind (arith, is)

-- some mark passes the test, and Q holds of this mark
pick : (test : Mark → Bool) (Q : Mark → Type 0) (span : List Mark) → All Q span → list_any test span ≡ true → (mark : Mark) × (test mark ≡ true) × Q mark
pick test Q span all some = let found = Any-from_list_any test span some in (found.1, found.4, subst Q found.3 (all found.0 found.1 found.2))

module _ {W V C L A B : Type 0} {t : Table W V C L B} {by : Machine W V C L A} {k : Notes t} (facts : Plays by k) where
  abbrev m : Machine W V C L A
  m = played t by

  module _ {c : C} {a : A} where
    right : (p : ℕ) (start : Seen W V C L) (old new : List (Entry C V)) (h : Option Hold) (n : ℕ) (it : IsAnswered facts p start old new c h a n) → HasMoment (m.asks c h) (m.says a) p (span_of facts p it.seen)
    right p start old new h n it = grind (arith, it.there, it.comes, (kept facts it.seen p Step it.fine).right)

    -- By `says` the answer means that some state of the call passed this test. If Q follows from the test for a party
    -- in this call, that state satisfied Q too.
    module _ (test : ℕ → Plain → Bool) (says : (h : Option Hold) → (m.asks c h).answers (m.says a) ≡ meaning.found test) {Q : Plain → Type 0}
        (so : (p : ℕ) (l : L) (h : Option Hold) (seen : Seen W V C L) → InCall k p c l h seen.plain seen.state.words (seen.span p)
        → test p seen.plain ≡ true → Q seen.plain) where
      -- also in a world of as many parties as `made` says
      pub found_in : {X : Type 0} (view now : Option (Numbered X)) (old new : List (Entry C V)) (made : Made m view old now new (IsCall c a)) → (so : AtAMoment m c now old new Q) × (so.pass.parties ≡ made.5.1)
      found_in view now old new made =
          let (call, in_so_many) = call_in facts c a view now old new made in
          let it = call.answered in let p = call.pass.party in let h = call.held in let start = opening m call.pass.parties in
          let (mark, tested, (past, from, to, before, (l, there))) = pick (λ mark. test p mark.before) (IsBetween facts p start old new c h) (span_of facts p it.seen) it.span (subst (λ what. moment what p (span_of facts p it.seen) ≡ true) (says h) (right p start old new h call.steps it)) in (
            record {
              pass = call.pass;
              moment = past;
              behind = from;
              before = to;
              in_call = (l, h, there);
              so = so p l h (seen_after m start past) (in_call facts p (good facts call.pass.parties past) there) (subst (λ s. test p s ≡ true) before tested);
            },
            in_so_many,
          )

      pub found : {X : Type 0} → Found m X c a Q
      found view now old new made = (found_in view now old new made).0

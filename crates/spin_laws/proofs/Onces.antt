-- A call that a pass of a `Once` makes is a call of the object `Once`, unless the call's closure fails. The object's
-- schedule has the same moves of the pass, with the same outcomes.
use Rattle.std.proofs.Common.{◌≡◌, ℕ, zero, suc, ◌+◌, ◌==◌, if◌then◌else◌, Bool, true, false, Option, Some, None, List, [], ◌∷◌, ◌++◌, length, replicate, slice_get, refl, sym, ap, ◌∙◌, subst, eqb-true, is_some, arith}
use lib.Seq.{drop-length}
use Rattle.std.specs.Option.{option_map}
use Rattle.std.specs.List.{list_all}
use Rattle.std.proofs.lemmas.Bool.{and_parts}
use Rattle.std.proofs.lemmas.List.{append_assoc}
use Rattle.spin_step.specs.Plain.{Plain, is_complete, once_word}
use Rattle.spin_core.specs.Own.{Numbered, by_party, entries_by}
use Rattle.spin_core.specs.Passes.{IsCall, outcomes_by}
use Rattle.spin_core.specs.Passes as passes
use Rattle.spin_core.specs.Run.{is_played, outcomes_of}
use Rattle.spin_step.specs.Calls as meaning
use Rattle.spin_step.specs.declared.answer.Answer.{Answer}
use Rattle.spin_step.specs.declared.answer.Answer.TheVariants.{Value}
use Rattle.spin_step.specs.declared.once_calls.OnceCall.{OnceCall}
use Rattle.spin_step.specs.declared.once_calls.OncePoint.{OncePoint}
use Rattle.spin_step.specs.declared.place.Hold.{Hold}
use Rattle.spin_step.specs.declared.place.Seat.{Seat}
use Rattle.spin_step.specs.declared.place.Seat.TheVariants.{Idle, Calling}
use Rattle.spin_step.specs.declared.schedule.Move.TheVariants.{Begin, Step, Weak}
use Rattle.spin_step.specs.declared.schedule.Outcome.TheVariants.{Answered}
use Rattle.spin_step.specs.Schedules.{Happened, after, at_first, happens, moves_at}
use Rattle.spin_step.proofs.Schedules.{after-append}
use Rattle.spin_once.specs.Foretold.{will_fail, foretold}
use Rattle.spin_once.specs.Model.{Point}
use Rattle.spin_once.specs.Once.{OneMove, View}
use Rattle.spin_once.specs.OnceValues.{Made}
use Rattle.spin_once.proofs.Foretold.{split, quiet, leads_on, all_alike, happens_alike, weak_alike, named_later, first_named, named_kept}
use Rattle.spin_once.proofs.Named.{Object, seat_named, object, renamed, t, m, named_get}
use Rattle.spin_once.proofs.Resting.{World}
use Rattle.spin_world.proofs.OneClosure.{a_value_stays}
use Rattle.spin_world.proofs.Unread.{looks_where_complete}
use Rattle.spin_world_core.specs.Runs.{seat_of, Seen, opening}
use Rattle.spin_world_core.specs.Users.{seen_after}
use Rattle.spin_world_core.specs.Values.{GivesAt}
use Rattle.spin_world_core.proofs.Preserved.{Invariant}
use Rattle.spin_world_core.proofs.Reached.{numbers_are}
use Rattle.spin_world_core.proofs.Values.{keeps_value}
use Rattle.spin_world.proofs.OnceOwed.{once_facts}
use Rattle.spin_laws.specs.Moments.{AtAMoment, AsAnswered}
use Rattle.spin_laws.specs.Onces.{foretold_till, Called, has_value}
use Rattle.spin_laws.proofs.Calls.{event, one_more, call_of}
use Rattle.spin_laws.proofs.Moments.{found}

-- a move of a call whose closure does not fail
abbrev is_plain : OneMove → Bool
is_plain (Begin c) = true
is_plain Step = true
is_plain _ = false

abbrev are_plain : List Made → Bool
are_plain es = list_all (λ e. is_plain e.1) es

-- If a party's closure does not fail, the object's schedule has the party's moves unchanged.
none_fails : (p : ℕ) (es : List Made) → are_plain (entries_by p es) ≡ true → will_fail es p ≡ false
none_fails p [] is = refl
none_fails p (e ∷ es) is = grind (arith, is, none_fails p es)

later_plain : (p : ℕ) (e : Made) (es : List Made) → are_plain (entries_by p (e ∷ es)) ≡ true → are_plain (entries_by p es) ≡ true
later_plain p e es is = grind (arith, is)

own_kept : (p : ℕ) (es : List Made) → are_plain (entries_by p es) ≡ true → entries_by p (foretold es) ≡ entries_by p es
own_kept p [] is = refl
own_kept p (e ∷ es) is = grind (arith, is, own_kept p es, none_fails p es, named_kept, eqb-true e.0 p)

made_plain : (p : ℕ) (c : OnceCall (Unit {0})) (i : ℕ) → are_plain (by_party p (Begin c ∷ (replicate i Step ++ Step ∷ []))) ≡ true
made_plain p c zero = refl
made_plain p c (suc i) = made_plain p c i

module _ (given : Option (Unit {0})) where
  -- if the word says that there is a value, there is one
  abbrev HasIt : World → Type 0
  HasIt s = s.words ≡ 2 → s.value ≡ Some tt

  -- so a step has the same outcome with the present value as with the value `tt`
  step_same : (s : World) → HasIt s → (c : OnceCall (Unit {0})) (l : OncePoint) (h : Option Hold) → (t given).step s.words (Some tt) c l h ≡ (t given).step s.words s.value c l h
  step_same s has c l h = grind (arith, has, looks_where_complete given s.words (Some tt) s.value c l h)

  -- a move of a party whose closure does not fail has the same outcome in the object's schedule
  own_same : (f : ℕ → Bool) (s : World) (p : ℕ) (move : OneMove) (o : Option (Seat (OnceCall (Unit {0})) Point)) → HasIt s → is_plain move ≡ true
      → (moves_at (t given) (object f s) p (renamed move false) (option_map (λ y. seat_named y false) o)).outcome ≡ (moves_at (m given) s p move o).outcome
  own_same f s p Step (Some (Calling c l h)) has plain = grind (arith, step_same s has, named_kept c)
  own_same f s p move o has plain = grind (arith, plain, named_kept)

  happens_same : (f : ℕ → Bool) (s : World) (p : ℕ) (move : OneMove) → f p ≡ false → HasIt s → is_plain move ≡ true → (happens (t given) (object f s) p (renamed move (f p))).outcome ≡ (happens (m given) s p move).outcome
  happens_same f s p move fine has plain = rw (named_get f s.seats p, fine) (own_same f s p move (slice_get s.seats p) has plain)

  -- after each beginning of these entries, if the word says that there is a value, there is one
  abbrev HasAlways : World → List Made → Type 0
  HasAlways s es = (ys zs : List Made) → es ≡ ys ++ zs → HasIt (after (m given) s ys)

  -- the party's moves have the same outcomes in the object's schedule as in the history
  outs_same : (p : ℕ) (es : List Made) (s : World) → list_all is_played (outcomes_of (m given) s es) ≡ true → HasAlways s es → are_plain (entries_by p es) ≡ true
      → outcomes_by (t given) p (object (will_fail es) s) (foretold es) ≡ outcomes_by (m given) p s es
  outs_same p [] s played has plain = refl
  outs_same p (e ∷ es) s played has plain =
      let s' : World = (happens (m given) s e.0 e.1).next in
      let each = and_parts (is_played (happens (m given) s e.0 e.1).outcome) (list_all is_played (outcomes_of (m given) s' es)) played in
      one_more e.0 e.1 (has [] (e ∷ es) refl) each.0 each.1 plain (outs_same p es s' each.1 (λ ys zs is. has (e ∷ ys) zs (ap (λ l. e ∷ l) is)) (later_plain p e es plain))
    where
      by_turn : (b : Bool) (h : Happened ℕ (Unit {0}) (OnceCall (Unit {0})) OncePoint (Answer (Unit {0}))) (k : Happened ℕ (Unit {0}) (OnceCall (Unit {0})) Point (Answer (Unit {0}))) → h.next ≡ object (will_fail es) k.next → (b ≡ true → h.outcome ≡ k.outcome) → outcomes_by (t given) p (object (will_fail es) k.next) (foretold es) ≡ outcomes_by (m given) p k.next es
          → (if b then h.outcome ∷ outcomes_by (t given) p h.next (foretold es) else outcomes_by (t given) p h.next (foretold es)) ≡ (if b then k.outcome ∷ outcomes_by (m given) p k.next es else outcomes_by (m given) p k.next es)
      by_turn true h k next own later = rw (own refl, next, later) refl
      by_turn false h k next own later = rw (next, later) refl

      one_more : (q : ℕ) (move : OneMove) → HasIt s → is_played (happens (m given) s q move).outcome ≡ true → list_all is_played (outcomes_of (m given) (happens (m given) s q move).next es) ≡ true
          → are_plain (entries_by p ((q, move) ∷ es)) ≡ true → outcomes_by (t given) p (object (will_fail es) (happens (m given) s q move).next) (foretold es) ≡ outcomes_by (m given) p (happens (m given) s q move).next es
          → outcomes_by (t given) p (object (will_fail ((q, move) ∷ es)) s) (foretold ((q, move) ∷ es)) ≡ outcomes_by (m given) p s ((q, move) ∷ es)
      one_more q Weak has head tail plain later = rw (weak_alike given s q es (slice_get s.seats q) refl head) (grind (arith, plain, later))
      one_more q move has head tail plain later =
          let h = happens (t given) (object (will_fail es) s) q (renamed move (will_fail es q)) in let k = happens (m given) s q move in
          let next = (happens_alike given (will_fail es) s q move (λ still. quiet given es k.next q tail still) (λ e. absurd (cc e))).0 in
          let own : (q == p) ≡ true → h.outcome ≡ k.outcome = λ e. let parts = and_parts (is_plain move) (are_plain (entries_by p es)) (rw e at plain) in
          happens_same (will_fail es) s q move (ap (will_fail es) (eqb-true q p e) ∙ none_fails p es parts.1) has parts.0 in
          subst (λ o. outcomes_by (t given) p o ((q, renamed move (will_fail es q)) ∷ foretold es) ≡ outcomes_by (m given) p s ((q, move) ∷ es)) (sym (named_later given s q move es head (λ e. absurd (cc e))))
          (by_turn (q == p) h k next own later)

  -- the world of n parties before any move
  abbrev From : ℕ → World
  From n = at_first (m given) n

  as_object : (n : ℕ) (es : List Made) → list_all is_played (outcomes_of (m given) (From n) es) ≡ true → after (t given) (at_first (t given) n) (foretold es) ≡ object (λ p. false) (after (m given) (From n) es)
  as_object n es played = ap (λ o. after (t given) o (foretold es)) (sym (first_named given (will_fail es) n)) ∙ (all_alike given es (From n) played).0

  lies : (o : Option (Unit {0})) → is_some o ≡ true → o ≡ Some tt
  lies o is = grind (arith, is)

  complete_by : (s : Plain) → once_word s ≡ 2 → is_complete s.phase ≡ true
  complete_by s is = grind (arith, is)

  told_there : (n : ℕ) (past : List Made) → (after (t given) (at_first (t given) n) past).words ≡ 2 → (after (t given) (at_first (t given) n) past).value ≡ Some tt
  told_there n past is =
      let plain : Plain = (seen_after (t given) (opening (t given) n) past).plain in
      let word : (after (t given) (at_first (t given) n) past).words ≡ once_word plain = cc (numbers_are (once_facts given) n past) in
      lies (after (t given) (at_first (t given) n) past).value (sym (a_value_stays given n past []).complete ∙ complete_by plain (sym word ∙ is))

  -- after a schedule without skipped moves, if the word says that there is a value, there is one
  has_it : (n : ℕ) (es : List Made) → list_all is_played (outcomes_of (m given) (From n) es) ≡ true → HasIt (after (m given) (From n) es)
  has_it n es played is =
      let there = as_object n es played in
      ap (λ (o : Object). o.value) (sym there) ∙ told_there n (foretold es) (ap (λ (o : Object). o.words) there ∙ is)

  -- each part of a schedule without skipped moves has none
  played_parts : (es later : List Made) (s : World) → list_all is_played (outcomes_of (m given) s (es ++ later)) ≡ true
      → (list_all is_played (outcomes_of (m given) s es) ≡ true) × (list_all is_played (outcomes_of (m given) (after (m given) s es) later) ≡ true)
  played_parts [] later s is = (refl, is)
  played_parts (e ∷ es) later s is = grind (arith, is, played_parts es later (happens (m given) s e.0 e.1).next)

  has_always : (n : ℕ) (old more : List Made) → list_all is_played (outcomes_of (m given) (From n) (old ++ more)) ≡ true → HasAlways (after (m given) (From n) old) more
  has_always n old more played ys zs is =
      subst HasIt (after-append (m given) (From n) old ys)
      (has_it n (old ++ ys) (played_parts (old ++ ys) zs (From n) (subst (λ l. list_all is_played (outcomes_of (m given) (From n) l) ≡ true) (ap (λ l. old ++ l) is ∙ sym (append_assoc old ys zs)) played)).0)

  -- a party that has made its last step at the end of this schedule
  abbrev at_end : ℕ → List Made → Option (Numbered View)
  at_end p es = Some (Idle, p, length es)

  -- A call of a pass is a call of the object, of a party with some number.
  pub called : (c : OnceCall (Unit {0})) (a : Answer (Unit {0})) (before now : Option (Numbered View)) (old new : List Made) → Called given c a before old now new
      → (p : ℕ) × passes.Made (t given) (at_end p (foretold_till old new)) (foretold_till old new) now (foretold new) (IsCall c a)
  called c a before now old new (p, may, is, own, outs, (more, least, new_is, mine, played, came), (rest, comes, own_is, outs_is, (i, rest_is, comes_are))) =
      let own_are : own ≡ Begin c ∷ (replicate i Step ++ Step ∷ []) = own_is ∙ ap (λ l. Begin c ∷ l) rest_is in
      let plain : are_plain (entries_by p more) ≡ true = ap are_plain (mine ∙ ap (by_party p) own_are) ∙ made_plain p c i in
      let all : (k : ℕ) → list_all is_played (outcomes_of (m given) (From (least + k)) (old ++ more)) ≡ true = λ k. subst (λ l. list_all is_played (outcomes_of (m given) (From (least + k)) l) ≡ true) new_is (played k) in (
        p,
        (
          p,
          (refl, ap (entries_by p) (drop-length (foretold_till old new))),
          is,
          own,
          outs,
          (
            foretold more,
            least,
            subst (λ l. foretold l ≡ foretold_till old l ++ foretold more) (sym new_is) (split old more),
            own_kept p more plain ∙ mine,
            λ k. ap (λ o. list_all is_played (outcomes_of (t given) o (foretold new))) (sym (first_named given (will_fail new) (least + k))) ∙ (all_alike given new (From (least + k)) (played k)).1,
            λ k.
                ap (λ o. outcomes_by (t given) p o (foretold more))
                (ap (λ l. after (t given) (at_first (t given) (least + k)) (foretold_till old l)) new_is ∙ ap (λ o. after (t given) o (foretold_till old (old ++ more))) (sym (first_named given (will_fail (old ++ more)) (least + k))) ∙ (leads_on given old more (From (least + k)) (all k)).0)
                ∙ outs_same p more (after (m given) (From (least + k)) old) (played_parts old more (From (least + k)) (all k)).1 (has_always (least + k) old more (all k)) plain ∙ came k,
          ),
          (rest, comes, own_is, outs_is, (i, rest_is, comes_are)),
        ),
      )

  -- so what the object's laws say of a moment of the call holds for the pass
  pub found_in : (c : OnceCall (Unit {0})) (a : Answer (Unit {0})) (test : Plain → Bool) (P : Plain → Type 0) → ((h : Option Hold) → ((t given).asks c h).answers ((t given).says a) ≡ meaning.found (λ p s. test s)) → ((s : Plain) → test s ≡ true → P s)
      → (before now : Option (Numbered View)) (old new : List Made) → Called given c a before old now new → AtAMoment (t given) c now (foretold_till old new) (foretold new) P
  found_in c a test P says so before now old new made =
      let (p, call) = called c a before now old new made in
      found (once_facts given) (λ p s. test s) says (λ p l h seen call is. so seen.plain is) (at_end p (foretold_till old new)) now (foretold_till old new) (foretold new) call

  -- after a step that answers with a value, there is a value
  given_there : (seen : Seen ℕ (Unit {0}) (OnceCall (Unit {0})) OncePoint) (p : ℕ) → Invariant (once_facts given) seen → (event (once_facts given) seen (p, Step)).outcome ≡ Answered (Value tt) None
      → is_complete (event (once_facts given) seen (p, Step)).after.plain.phase ≡ true
  given_there seen p good comes =
      let s = event (once_facts given) seen (p, Step) in let keeps = keeps_value (once_facts given) seen p Step good in
      let lies : s.after.state.value ≡ Some tt = subst (λ o. GivesAt (t given) Step o s.after.state.value) comes keeps.gives in
      keeps.phase ∙ ap is_some lies

  pub gave_in : (c : OnceCall (Unit {0})) (before now : Option (Numbered View)) (old new : List Made) → Called given c (Value tt) before old now new → AsAnswered (t given) c (Value tt) now (foretold_till old new) (foretold new) (λ s. has_value s ≡ true)
  gave_in c before now old new made =
      let (q, it_is) = called c (Value tt) before now old new made in
      let call = call_of (once_facts given) c (Value tt) (at_end q (foretold_till old new)) now (foretold_till old new) (foretold new) it_is in
      let it = call.answered in let p = call.pass.party in let start = opening (t given) call.pass.parties in
      record {
        pass = call.pass;
        last = it.past;
        behind = it.known;
        before = it.before;
        in_call = (it.point, call.held, subst (λ (z : Seen ℕ (Unit {0}) (OnceCall (Unit {0})) OncePoint). seat_of z p ≡ Some (Calling c it.point call.held)) it.leads it.there);
        answers = subst (λ (z : Seen ℕ (Unit {0}) (OnceCall (Unit {0})) OncePoint). (happens (t given) z.state p Step).outcome ≡ Answered (Value tt) None) it.leads it.comes;
        so = subst (λ (z : Seen ℕ (Unit {0}) (OnceCall (Unit {0})) OncePoint). is_complete z.plain.phase ≡ true)
            (ap (λ z. (event (once_facts given) z (p, Step)).after) it.leads ∙ sym (one_more (once_facts given) start it.past (p, Step)))
            (given_there it.seen p it.fine it.comes);
      }

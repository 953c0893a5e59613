-- The steps of a call of a session, one after another.
use Rattle.std.specs.Option.{IfSome}
use Rattle.std.proofs.Common.{◌≡◌, ℕ, zero, suc, Bool, true, false, Option, Some, None, refl, sym, ap, ◌∙◌, subst, inl, inr, arith}
use Rattle.spin_core.specs.Cell.{writes, use_of}
use Rattle.spin_core.specs.Own.{Numbered, what}
use Rattle.spin_core.specs.Spots.{IsIn, HasCalled, Since, Stepped}
use Rattle.spin_core.proofs.tie.Spots.{in_one, comes_in, stays_in, is_answered}
use Rattle.spin_step.specs.Acts.{Table, next_of, filled, with_value, begin_of}
use Rattle.spin_step.specs.Schedules.{Entry, resting}
use Rattle.spin_step.specs.declared.answer.Answer.{Answer}
use Rattle.spin_step.specs.declared.answer.Answer.TheVariants.{Granted, Refused}
use Rattle.spin_core.specs.declared.tie.Opening.{Opening}
use Rattle.spin_step.specs.declared.place.Hold.{Hold}
use Rattle.spin_step.specs.declared.place.Seat.{Seat}
use Rattle.spin_step.specs.declared.place.Seat.TheVariants.{Calling, Holding}
use Rattle.spin_step.specs.declared.stepped.Next.{Next}
use Rattle.spin_step.specs.declared.stepped.Next.TheVariants.{Continue, Answers}
use Rattle.spin_session.specs.Meaning.{Meaning, model_at, seat_after, seat_now, use_at, rests_at, table_at}
use Rattle.spin_session.specs.declared.session.Session.{Session}
use Rattle.spin_session.specs.Passes.{Writes}
use Rattle.spin_session.specs.Turns.{Follows, IsMade, MayFind, RestsAt, IsLed, IsLedTo, Lands, SeesOn, course_of, next_after, outcome_of, has_begun, held_now, SeatSpot, Comes, GoesBy, GoesOn, Under, Ended, Quiet, StaysQuiet, IsAtPoint, Knows, StandsAt, EachAnswer, Tries, IsAnsweredBy, IsAnswered, Acquires, TriesToAcquire, IsTry, IsLook, Tells, AnswersWith, is_granted}

-- the seat of a party does not depend on what its answer says
pub same_seat : {C L : Type 0} (V : Type 0) (c : C) (h : Option Hold) (next : Next L (Answer (Unit {0}))) → seat_after c h (filled {V = V} None next) ≡ seat_after c h next
same_seat V c h (Continue l) = refl
same_seat V c h (Answers a after) = refl

pub held_resting : (C L : Type 0) (h : Option Hold) → held_now (resting {C = C} {L = L} h) ≡ h
held_resting C L None = refl
held_resting C L (Some x) = refl

-- a call that may begin begins at its point
pub starts_at : {W V C L A : Type 0} (t : Table W V C L A) (c : C) (h : Option Hold) (l : L) → (t.asks c h).begins h ≡ true → Some l ≡ begin_of t c h → l ≡ t.start c h
starts_at t c h l may is = let so : begin_of t c h ≡ Some (t.start c h) = rw may refl in cc (is, so)

pub begins_so : {W V C L A : Type 0} (t : Table W V C L A) (c : C) (h : Option Hold) → (t.asks c h).begins h ≡ true → None ≡ begin_of t c h → ⊥
begins_so t c h may is = let so : begin_of t c h ≡ Some (t.start c h) = rw may refl in absurd (cc (is, so))

module _ {W V C L : Type 0} (t : Table W V C L (Answer V)) (s : Meaning C L) (c : C) (l : L) (h : Option Hold) where
  pub quiet_at : (view : Option (Seat C L)) → IsAtPoint t c l h view → StaysQuiet s c h → Quiet s view
  quiet_at None at quiet used = absurd (cc (used))
  quiet_at (Some v) (inl is) quiet used = quiet.1 l (subst (λ o. use_of (use_at s) o ≡ writes) is used)
  quiet_at (Some v) (inr (point, is, may)) quiet used = quiet.0 (subst (λ x. use_at s x ≡ writes) is used)

module _ {W V C L : Type 0} (t : ℕ → V → Table W V C L (Answer V)) (s : Meaning C L) (c : C) (l : L) (h : Option Hold) (p q r : SeatSpot V C L) where
  -- from q to r the party made one step of the call, which found this number
  abbrev pub Made : Next L (Answer V) → Type 0
  Made next = (n : ℕ) × (next ≡ next_of (table_at t q.0) c l h n) × MayFind t s c l h n q.0 × Stepped (model_at t) (has_begun (what q.1)) c (outcome_of next) (seat_after c h next) q r

  pub comes : Under t s c p q → (next : Next L (Answer (Unit {0}))) → Made (filled None next) → Comes t s c h next p r
  comes (inl (is_in, begun)) (Continue k) (n, which, fine, (since, sits)) =
      (stays_in (model_at t) c p q r is_in (rw begun at since), sits)
  comes (inl (is_in, begun)) (Answers a after) (n, which, fine, (since, sits)) = (
    is_answered (model_at t) c p q r is_in (with_value a None) (rw begun at since),
    ap seat_now sits,
    (l, n, ap (λ k. next_of (table_at t k) c l h n) (sym is_in.2) ∙ sym which, subst (λ k. MayFind t s c l h n k) is_in.2 fine),
  )
  comes (inr (same, not)) (Continue k) (n, which, fine, (since, sits)) =
      (subst (λ x. IsIn (model_at t) c x r) same (comes_in (model_at t) c q r (rw not at since)), sits)
  comes (inr (same, not)) (Answers a after) (n, which, fine, (since, sits)) = (
    subst (λ x. HasCalled (model_at t) c (with_value a None) x r) same (in_one (model_at t) c q r (with_value a None) (rw not at since)),
    ap seat_now sits,
    (l, n, ap (λ x. next_of (table_at t x.0) c l h n) (sym same) ∙ sym which, subst (λ x. MayFind t s c l h n x.0) same fine),
  )

-- how a party uses the value
pub uses_now : {C L : Type 0} (s : Meaning C L) (view : Option (Seat C L)) → use_of (use_at s) view ≡ use_at s (seat_now view)
uses_now s None = refl
uses_now s (Some x) = refl

module _ {W V C L : Type 0} (t : ℕ → V → Table W V C L (Answer V)) (s : Meaning C L) (c : C) (h : Option Hold) where
  module _ (p q : SeatSpot V C L) (next : Next L (Answer (Unit {0}))) (came : Comes t s c h next p q) where
    pub goes_on : (l : L) → next ≡ Continue l → IsIn (model_at t) c p q × (what q.1 ≡ Some (Calling c l h))
    goes_on l is = subst (λ x. Comes t s c h x p q) is came

    pub under : (l : L) → next ≡ Continue l → Under t s c p q
    under l is = let on = goes_on l is in inl (on.0, ap has_begun on.1)

    pub ended : (a : Answer (Unit {0})) (after : Option Hold) → next ≡ Answers a after → Ended t s c h a after p q
    ended a after is = subst (λ x. Comes t s c h x p q) is came

    -- if the step gives this answer, the party has made the call
    pub at_once : Knows s q → (a : Answer (Unit {0})) (after : Option Hold) → filled {V = V} None next ≡ Answers (with_value a None) after → StandsAt after q × HasCalled (model_at t) c (with_value a None) p q
    at_once knows a after is = answered next came is
      where
        answered : (x : Next L (Answer (Unit {0}))) → Comes t s c h x p q → filled {V = V} None x ≡ Answers (with_value a None) after → StandsAt after q × HasCalled (model_at t) c (with_value a None) p q
        answered (Continue l) came is = absurd (cc (is))
        answered (Answers b k) (called, sits, may) is =
            let same : with_value {V = V} b None ≡ with_value a None = cc (is) in let then : k ≡ after = cc (is) in
            ((knows.0, knows.1, rw then at sits), rw same at called)

  granted_as : (a : Answer (Unit {0})) → is_granted (with_value {V = V} a None) ≡ is_granted a
  granted_as a = grind arith

  -- What holds of each answer of the call holds of the one that the party has.
  module _ (p q : SeatSpot V C L) (knows : Knows s q) (a : Answer (Unit {0})) (k : Option Hold) (end : Ended t s c h a k p q) where
    told : (Q : Answer V → Option Hold → Type 0) → EachAnswer t s c h Q p.0 → Q (with_value a None) k
    told Q each = let (l, n, is, fine) = end.2 in each l n (with_value a None) k fine is

    stands : (b : Answer V) (after : Option Hold) → (with_value a None ≡ b) × (k ≡ after) → StandsAt after q × HasCalled (model_at t) c b p q
    stands b after (same, then) = ((knows.0, knows.1, rw then at end.1), rw same at end.0)

    writes_now : (b : Answer V) → (with_value a None ≡ b) × (use_at s (resting k) ≡ writes) → Writes s q × HasCalled (model_at t) c b p q
    writes_now b (same, uses) = ((knows.0, knows.1, uses_now s (what q.1) ∙ (ap (use_at s) end.1 ∙ uses)), rw same at end.0)

    pub settled : (answer : Answer (Unit {0})) (after : Option Hold) → IsAnsweredBy t s c h answer after p.0 → StandsAt after q × HasCalled (model_at t) c (with_value answer None) p q
    settled answer after only = stands _ after (told (λ b k. (b ≡ with_value answer None) × (k ≡ after)) only)

    pub granted : (after : Option Hold) → IsTry t s c h after p.0 → is_granted a ≡ true → StandsAt after q × HasCalled (model_at t) c Granted p q
    granted after tries so = stands _ after ((told (Tries h (λ k. k ≡ after)) tries).0 (granted_as a ∙ so))

    pub refused : (Q : Option Hold → Type 0) → EachAnswer t s c h (Tries h Q) p.0 → is_granted a ≡ false → StandsAt h q × HasCalled (model_at t) c Refused p q
    refused Q tries so = stands _ h ((told (Tries h Q) tries).1 (granted_as a ∙ so))

    pub acquired : Acquires t s c h p.0 → Writes s q × HasCalled (model_at t) c Granted p q
    acquired only = writes_now _ (told (λ b k. (b ≡ Granted) × (use_at s (resting k) ≡ writes)) only)

    pub acquired_at_once : TriesToAcquire t s c h p.0 → is_granted a ≡ true → Writes s q × HasCalled (model_at t) c Granted p q
    acquired_at_once tries so = writes_now _ ((told (Tries h (λ k. use_at s (resting k) ≡ writes)) tries).0 (granted_as a ∙ so))

  -- A call that has only this answer has it, whether its first steps gave the answer, or the party waited for it.
  module _ (p q : SeatSpot V C L) (next : Next L (Answer (Unit {0}))) (came : Comes t s c h next p q) (answer : Answer (Unit {0})) (after : Option Hold) (only : IsAnsweredBy t s c h answer after p.0) where
    pub settled_at_once : Knows s q → (a : Answer (Unit {0})) (k : Option Hold) → next ≡ Answers a k → StandsAt after q × HasCalled (model_at t) c (with_value answer None) p q
    settled_at_once knows a k is = settled p q knows a k (ended p q next came a k is) answer after only

    pub settled_in_time : {b : Bool} (r : SeatSpot V C L) (l : L) → next ≡ Continue l → Knows s r
        → ((x : SeatSpot V C L) → Under t s c x q → (a : Answer (Unit {0})) × (k : Option Hold) × Ended t s c h a k x r × (is_granted a ≡ b)) → StandsAt after r × HasCalled (model_at t) c (with_value answer None) p r
    settled_in_time r l is knows waited = let (a, k, end, same) = waited p (under p q next came l is) in settled p r knows a k end answer after only

  -- the first step of a call that leaves what the party holds
  pub looked : (key : Opening V) → IsLook t c h key → (n : ℕ) (next : Next L (Answer (Unit {0}))) → GoesBy t s c ((table_at t key).start c h) h n next key → (a : Answer (Unit {0})) (k : Option Hold) → next ≡ Answers a k → (k ≡ h) × Tells t s c h a key
  looked key looks n next (which, fine) a k is =
      let so : filled {V = V} None (Answers a k) ≡ next_of (table_at t key) c ((table_at t key).start c h) h n = rw is at which in
      let same : k ≡ h = subst (AnswersWith h) (sym so) (looks n) in (same, (n, sym (rw same at so), fine))

  pub looked_on : (key : Opening V) → IsLook t c h key → (n : ℕ) (next : Next L (Answer (Unit {0}))) → GoesBy t s c ((table_at t key).start c h) h n next key → (l : L) → next ≡ Continue l → ⊥
  looked_on key looks n next (which, fine) l is =
      let so : filled {V = V} None (Continue l) ≡ next_of (table_at t key) c ((table_at t key).start c h) h n = rw is at which in subst (AnswersWith h) (sym so) (looks n)

  -- A call that is answered by its third step does not go on after it. The first of these steps may be a later one of the call.
  pub answered_on : (key : Opening V) → IsAnswered t c h key → (i : L) (o : ℕ) → IsLedTo t s c h i o key → (m j : ℕ) (l k : L) (x y z : Next L (Answer (Unit {0}))) → GoesBy t s c i h o x key → x ≡ Continue l → GoesBy t s c l h m y key → y ≡ Continue k
      → GoesBy t s c k h j z key → (u : L) → z ≡ Continue u → ⊥
  answered_on key once i o (zero, n, led) m j l k x y z first is second is' third u is'' =
      once o m j l k u (ap (λ a. next_of (table_at t key) c a h o) (sym led.0) ∙ sym (rw is at first.0)) (sym (rw is' at second.0)) (sym (rw is'' at third.0))
  answered_on key once i o (suc zero, n, (e, to, led)) m j l k x y z first is second is' third u is'' =
      once n o m e l k (to) (ap (λ a. next_of (table_at t key) c a h o) (sym led.0) ∙ sym (rw is at first.0)) (sym (rw is' at second.0))
  answered_on key once i o (suc (suc zero), n, (e, to, (e', to', led))) m j l k x y z first is second is' third u is'' =
      once n _ o e e' l to to' (ap (λ a. next_of (table_at t key) c a h o) (sym led.0) ∙ sym (rw is at first.0))
  answered_on key once i o (suc (suc (suc b)), n, (e, to, (e', to', (e'', to'', led)))) m j l k x y z first is second is' third u is'' = once n _ _ e e' e'' to to' to''

  -- so does a call of which two further steps were made
  abbrev Steps : Type 0 → Type 0 → Type 0
  Steps P S = Next L (Answer (Unit {0})) × L × ℕ × Session V (Numbered (Seat C L)) (Entry C V) P (Opening V) S

  module _ {P S : Type 0} where
    by_key : (key : Opening V) (x : Steps P S) → x.3.permit.key ≡ key → IsMade t s c h x → GoesBy t s c x.1 h x.2 x.0 key
    by_key key x same made = subst (λ k. GoesBy t s c x.1 h x.2 x.0 k) same made.goes

    pub three_steps : (key : Opening V) → IsAnswered t c h key → (x y z : Steps P S) → x.3.permit.key ≡ key → y.3.permit.key ≡ x.3.permit.key → z.3.permit.key ≡ y.3.permit.key
        → IsLedTo t s c h x.1 x.2 key → IsMade t s c h x → IsMade t s c h y → IsMade t s c h z → Follows x.0 y.1 y.0 → Follows y.0 z.1 z.0 → (u : L) → z.0 ≡ Continue u → ⊥
    three_steps key once (Answers b k, i, m, it) (next, j, n, now) z e e' e'' led first second third to to' u is = absurd (cc (subst (λ o. Follows o z.1 z.0) to to', is))
    three_steps key once (Continue l, i, m, it) (Answers b k, j, n, now) z e e' e'' led first second third to to' u is = absurd (cc (to', is))
    three_steps key once (Continue l, i, m, it) (Continue k, j, n, now) z e e' e'' led first second third to to' u is =
        answered_on key once i m led n z.2 l k (Continue l) (Continue k) z.0 (by_key key (Continue l, i, m, it) e first) refl
        (subst (λ o. GoesBy t s c o h n (Continue k) key) to (by_key key (Continue k, j, n, now) (e' ∙ e) second)) refl
        (subst (λ o. GoesBy t s c o h z.2 z.0 key) to' (by_key key z (e'' ∙ (e' ∙ e)) third)) u is

-- a party whose call was answered, and which then holds this, sits so
pub rests_held : {C L A : Type 0} (c : C) (h : Option Hold) (next : Next L A) → AnswersWith h next → seat_after c h next ≡ resting h
rests_held c h (Continue l) is = absurd is
rests_held c h (Answers a after) is = ap resting is

-- what a party sees after a further step of its call
pub sees_then : {V P Q C L S R : Type 0} (s : Meaning C L) (c : C) (l : L) (h : Option Hold) (v : Option V) (it : Session V (Numbered (Seat C L)) (Entry C V) P (Opening V) S) (now : Session V (Numbered (Seat C L)) (Entry C V) Q (Opening V) R)
    → what it.permit.view ≡ Some (Calling c l h) → rests_at s (seat_now (what it.permit.view)) ≡ true → SeesOn s c h v it → SeesOn s c h it.permit.value now → SeesOn s c h v now
sees_then s c l h v it now sits rests first next uses =
    let then = next uses in (
      then.0,
      λ on saw. let rest : rests_at s (Calling c l h) ≡ true = subst (λ o. rests_at s (seat_now o) ≡ true) sits rests in
          let saw' = first (λ e. on l rest (ap (λ o. use_at s (seat_now o)) (sym sits) ∙ e)) in then.1 on saw'.0 ∙ saw'.1 on saw,
    )

-- The first steps of a call by one operation, of which the last is `last`.
module _ {W V C L : Type 0} (t : ℕ → V → Table W V C L (Answer V)) (s : Meaning C L) (c : C) (h : Option Hold) (p q : SeatSpot V C L) (last : Option (L × ℕ)) (lands : Lands (table_at t p.0) s c h last (seat_now (what q.1)))
    (sits : what q.1 ≡ Some (seat_after c h (next_after (table_at t p.0) c h last))) (since : Since (model_at t) (course_of c (next_after (table_at t p.0) c h last)) p q) where
  -- the call so goes on from the last of these steps
  pub record Leapt (l : L) (m : ℕ) (next : Next L (Answer (Unit {0}))) : Type 0 where
    pub seat : what q.1 ≡ Some (seat_after c h next)
    pub comes : Comes t s c h next p q
    pub goes : GoesBy t s c l h m next q.0
    pub reached : IsLedTo t s c h l m p.0

  comes_so : (next : Next L (Answer (Unit {0}))) (l : L) (m : ℕ) → filled None next ≡ next_of (table_at t p.0) c l h m → MayFind t s c l h m p.0
      → Since (model_at t) (course_of c (filled None next)) p q → what q.1 ≡ Some (seat_after c h next) → Comes t s c h next p q
  comes_so (Continue k) l m which fine since' sits' = (since', sits')
  comes_so (Answers a after) l m which fine since' sits' = (since', ap seat_now sits', (l, m, sym which, fine))

  pub leapt : (l : L) (m n n' : ℕ) → last ≡ Some (l, m) → IsLed (table_at t p.0) s c h last n n' → (next : Next L (Answer (Unit {0}))) → filled None next ≡ next_of (table_at t p.0) c l h m → Leapt l m next
  leapt l m n n' is led next which =
      let fine : MayFind t s c l h m p.0 = subst (λ o. IfSome o (λ z. MayFind t s c z.0 h z.1 p.0)) is lands.1 in
      let goes : next_after (table_at t p.0) c h last ≡ filled None next = ap (next_after (table_at t p.0) c h) is ∙ sym which in
      let sits' : what q.1 ≡ Some (seat_after c h next) = sits ∙ ap (λ x. Some (seat_after c h x)) goes ∙ ap Some (same_seat V c h next) in
      let led' : IsLed (table_at t p.0) s c h (Some (l, m)) n n' = subst (λ o. IsLed (table_at t p.0) s c h o n n') is led in
      record {
        seat = sits';
        comes = comes_so next l m which fine (subst (λ x. Since (model_at t) (course_of c x) p q) goes since) sits';
        goes = subst (λ k. GoesBy t s c l h m next k) (sym since.2) (which, fine.0);
        reached = (led'.0, n, led'.1);
      }

  -- the call has only begun
  pub begun : last ≡ None → (what q.1 ≡ Some (Calling c ((table_at t p.0).start c h) h)) × Under t s c p q
  begun is =
      let goes : next_after (table_at t p.0) c h last ≡ Continue ((table_at t p.0).start c h) = ap (next_after (table_at t p.0) c h) is in
      let now : what q.1 ≡ Some (Calling c ((table_at t p.0).start c h) h) = sits ∙ ap (λ x. Some (seat_after c h x)) goes in
      (now, inl (subst (λ x. Since (model_at t) (course_of c x) p q) goes since, ap has_begun now))

-- the point at which a party makes a step of its call
pub reached : {W V C L : Type 0} (t : ℕ → V → Table W V C L (Answer V)) (s : Meaning C L) (c : C) (l : L) (h : Option Hold) (key : Opening V) (view : Option (Seat C L)) → IsAtPoint (table_at t key) c l h view → rests_at s (seat_now view) ≡ true → RestsAt t s c l h key
reached t s c l h key view (inl is) rests = inl (subst (λ o. rests_at s (seat_now o) ≡ true) is rests)
reached t s c l h key view (inr (point, is, may)) rests = inr point

-- a party that holds has a seat
pub holder_sits : {C L : Type 0} (view : Option (Seat C L)) (h : Hold) → seat_now view ≡ resting (Some h) → view ≡ Some (Holding h)
holder_sits None h is = absurd (cc (is))
holder_sits (Some v) h is = ap Some is

-- a call that went on by this step is at its next point
pub went_on : {W V C L : Type 0} (t : ℕ → V → Table W V C L (Answer V)) (s : Meaning C L) (c : C) (l : L) (h : Option Hold) (n : ℕ) (next : Next L (Answer (Unit {0}))) (key key' : Opening V) → key' ≡ key
    → (k : L) → next ≡ Continue k → GoesBy t s c l h n next key → (view : Option (Seat C L)) → view ≡ Some (seat_after c h next) → GoesOn t c l h n key' view
went_on t s c l h n next key key' same k is (which, fine) view seat =
    (k, ap (λ x. next_of (table_at t x) c l h n) same ∙ sym which ∙ ap (filled None) is, seat ∙ ap (λ x. Some (seat_after c h x)) is)

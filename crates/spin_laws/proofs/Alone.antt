-- Suppose that what a waiting call asks is open. In as many rounds as an undisturbed call takes steps, the call is
-- answered, or another party changes a word, or the call's own exchange fails spuriously.
use Rattle.spin_laws.proofs.Names.{seat_of, ◌≡◌, ℕ, ◌+◌, ◌-◌, ◌<◌, ◌≤◌, ◌⊎◌, ◌==◌, ◌&&◌, ◌||◌, Bool, true, false, not, Option, Some, List, [], ◌∷◌, ◌++◌, length, slice_get, if◌then◌else◌, refl, ap, sym, ◌∙◌, subst, arith, inl, inr, ⊎_elim, cases_eq, eqb-true, ne_eqb, false≢true, Plain, Change, Hold, Calling, Next, Continue, Answers, Move, Step, Outcome, Mark, joined, Machine, Seen, Scene, scene, opening, State, happens, after, at_first, goes_on, seen_after, eqb_self, get-set_same, state-seen_after, Test, occurs, MovesOn, is_call_step, max}
use Rattle.spin_world_core.proofs.Names.{StepKind, by_step, AllOf, LeavesAlone, UndisturbedTakes, is_open_now, steps_alone, Lawful, Every, IsInTime, KeepsPromises, and_from, encoded, mark_of, scene_of}
use Rattle.spin_world_core.proofs.Every.{left_after}
use Rattle.spin_world_core.specs.Spans.{own_count}
use Rattle.spin_laws.specs.Alone.{same_numbers, disturbs, ends_or_fails, AnsweredOrDisturbed, StepsInEach}
use Rattle.spin_laws.proofs.Waiting.{of_call, same_beside, or_left, or_right}

same_is : (xs ys : List ℕ) → same_numbers xs ys ≡ true → xs ≡ ys
same_is [] [] same = refl
same_is (x ∷ xs) (y ∷ ys) same = grind (arith, same, eqb-true, same_is xs ys)
same_is xs ys same = absurd (grind (arith, same))

module _ {W V C L A : Type 0} (m : Machine W V C L A) (R : Scene W V C L A → Type 0) where
  pub every_later : (xs ys : List (ℕ × Move C V)) (seen : Seen W V C L) → Every R m seen (xs ++ ys) → Every R m (seen_after m seen xs) ys
  every_later [] ys seen all = all
  every_later (x ∷ xs) ys seen all = every_later xs ys (scene m seen x.0 x.1).after all.1

module _ {W V C L A : Type 0} (m : Machine W V C L A) (p : ℕ) (c : C) (h : Option Hold) where
  abbrev stop : Test V C L A
  stop = ends_or_fails p

  abbrev disturbs_at : ℕ → State W V C L → State W V C L → Bool
  disturbs_at r s next = not (r == p) && not (same_numbers (m.numbers next.words) (m.numbers s.words))

  abbrev steps_own : Test V C L A
  steps_own r move o x = (r == p) && is_call_step o

  -- the call is answered, or its exchange fails spuriously, or another party disturbs the call
  abbrev Stops : State W V C L → List (ℕ × Move C V) → Type 0
  Stops s es = (occurs m stop s es ≡ true) ⊎ (disturbs m p s es ≡ true)

  stops_later : (s : State W V C L) (e : ℕ × Move C V) (es : List (ℕ × Move C V)) → Stops (happens m s e.0 e.1).next es → Stops s (e ∷ es)
  stops_later s e es h3 = grind (arith, or_right)

  module _ (start : Plain) (older : List Mark) (opens : is_open_now p (m.asks c h) older start ≡ true) where
    abbrev most : ℕ
    most = steps_alone (m.asks c h)

    -- the marks of the span from the state `start` on: the first was made in that state, and none of them disturbs
    -- the call
    abbrev Since : List Mark → ℕ → Type 0
    Since span taken = (recent : List Mark) × (first : Mark) × (span ≡ recent ++ first ∷ older) × (first.before ≡ start) × AllOf (LeavesAlone m.lock_kind p) (recent ++ first ∷ []) × (own_count p (recent ++ first ∷ []) ≡ taken)

    abbrev Marks : Plain → List Mark → ℕ → Type 0
    Marks now span taken = ((span ≡ older) × (now ≡ start) × (taken ≡ 0)) ⊎ Since span taken

    one_more : (now : Plain) (span : List Mark) (taken : ℕ) (mark : Mark) → mark.before ≡ now → LeavesAlone m.lock_kind p mark → Marks now span taken → Since (mark ∷ span) (taken + (if mark.party == p then 1 else 0))
    one_more now span taken mark before leaves (inl none) = ([], mark, ap (λ xs. mark ∷ xs) none.0, before ∙ none.1, (leaves, tt), omega (arith, none.2))
    one_more now span taken mark before leaves (inr y) = (mark ∷ y.0, y.1, ap (λ xs. mark ∷ xs) y.2, y.3, (leaves, y.4), ap (λ n. n + (if mark.party == p then 1 else 0)) y.5)

    -- the call still continues, and nobody has disturbed it from the state `start` on
    record Quiet (seen : Seen W V C L) (taken : ℕ) : Type 0 where
      point : L
      at : seat_of seen p ≡ Some (Calling c point h)
      marks : Marks seen.plain (seen.span p) taken
      few : taken ≤ most - 1
      encodes : m.numbers seen.state.words ≡ encoded m.lock_kind seen.plain

    module _ (seen : Seen W V C L) (taken : ℕ) (q : Quiet seen taken) where
      abbrev now : ℕ → Outcome A V → ℕ
      now r o = if (r == p) && is_call_step o then taken + 1 else taken

      abbrev Comes : Scene W V C L A → Type 0
      Comes sc = (stop sc.party sc.move sc.outcome (seat_of sc.after sc.party) ≡ true) ⊎ ((disturbs_at sc.party seen.state sc.after.state ≡ true) ⊎ Quiet sc.after (now sc.party sc.outcome))

      module _ (r : ℕ) (ne : r ≡ p → ⊥) where
        beside : (move : Move C V) → KeepsPromises m (scene m seen r move) → Comes (scene m seen r move)
        beside move keeps = by (same_numbers (m.numbers sc.after.state.words) (m.numbers seen.state.words)) refl
          where
            sc : Scene W V C L A
            sc = scene m seen r move

            quiet : Marks sc.after.plain (sc.after.span p) taken → Quiet sc.after (now r sc.outcome)
            quiet marks =
                rw (ne_eqb r p ne) (record { point = q.point; at = same_beside m seen r p p c q.point h q.at move ne ∙ q.at; marks = marks; few = q.few; encodes = keeps.encodes })

            by : (b : Bool) → same_numbers (m.numbers sc.after.state.words) (m.numbers seen.state.words) ≡ b → Comes sc
            by false is = inr (inl (and_from (not (r == p)) _ (ap not (ne_eqb r p ne)) (ap not is)))
            by true is =
                ⊎_elim (λ (same : (sc.after.plain ≡ seen.plain) × (sc.after.span p ≡ seen.span p)). inr (inr (quiet (subst (λ s. Marks s (sc.after.span p) taken) (sym same.0) (subst (λ xs. Marks seen.plain xs taken) (sym same.1) q.marks)))))
                (λ (y : (mark : Mark) × (mark.party ≡ r) × (mark.before ≡ seen.plain) × (mark.after ≡ sc.after.plain) × (sc.after.span p ≡ mark ∷ seen.span p)).
                let still : encoded m.lock_kind y.0.after ≡ encoded m.lock_kind y.0.before = ap (encoded m.lock_kind) y.3 ∙ (sym keeps.encodes ∙ (same_is _ _ is ∙ (q.encodes ∙ ap (encoded m.lock_kind) (sym y.2)))) in
                let since = one_more seen.plain (seen.span p) taken y.0 y.2 (record { strong = λ e. absurd (ne (sym y.1 ∙ e)); still = λ e. still }) q.marks in
                let count : taken + (if y.0.party == p then 1 else 0) ≡ taken = omega (arith, ap {B = ℕ} (λ b. if b then 1 else 0) (ne_eqb y.0.party p (λ e. ne (sym y.1 ∙ e)))) in
                inr (inr (quiet (inr (subst (λ xs. Since xs taken) (sym y.4) (subst (Since (y.0 ∷ seen.span p)) count since))))))
                (grind (arith, ne_eqb r p ne))

      -- a step of the call's own
      own_went : (step : Option Change) (kind : StepKind) (value : Option V) (s : State W V C L) (next : Next L A) → s.seats ≡ seen.state.seats
          → let sc = scene_of seen p Step (Some (Calling c q.point h)) (goes_on s p c h next) step (by_step kind) value in KeepsPromises m sc → IsInTime m sc → Comes sc
      own_went step kind value s (Answers a rest) same keeps time = inl (eqb_self p)
      own_went step kind value s (Continue i) same keeps time =
          let mark = mark_of p step (by_step kind) seen.plain in
          let leaves : LeavesAlone m.lock_kind p mark = record { strong = λ e. grind arith; still = λ ne. absurd (ne refl) } in
          let since : Since (mark ∷ seen.span p) (taken + 1) = subst (Since (mark ∷ seen.span p)) (ap {B = ℕ} (λ b. taken + (if b then 1 else 0)) (eqb_self p)) (one_more seen.plain (seen.span p) taken mark refl leaves q.marks) in
          let soon : UndisturbedTakes (λ n. n < most) m.lock_kind p (m.asks c h) (mark ∷ seen.span p) = time.undisturbed in
          let less : taken + 1 < most = subst (λ n. n < most) since.5 (soon since.0 since.1 older since.2 (rw since.3 opens) since.4) in
          inr (inr (rw (eqb_self p) (record { point = i; at = rw same (get-set_same seen.state.seats p (Calling c i h) _ q.at); marks = inr since; few = omega (arith, less); encodes = keeps.encodes })))

      own : (move : Move C V) → KeepsPromises m (scene m seen p move) → IsInTime m (scene m seen p move) → Comes (scene m seen p move)
      own =
          of_call m seen p c q.point h q.at (λ sc. KeepsPromises m sc → IsInTime m sc → Comes sc) (λ move kind keeps time. inr (inr (rw (eqb_self p) q)))
          (own_went _ _ _ _ (m.step seen.state.words seen.state.value c q.point h).next refl) (λ next may keeps time. inl (grind (arith, eqb_self)))

      event : (r : ℕ) (move : Move C V) → KeepsPromises m (scene m seen r move) → IsInTime m (scene m seen r move) → Comes (scene m seen r move)
      event r move keeps time = grind (arith, own, beside, cases_eq)

    -- The entries `es` come, and then `rest`. If nothing stops the call in `es`, what holds after them decides.
    through : (es rest : List (ℕ × Move C V)) (seen : Seen W V C L) (taken : ℕ) → Every (KeepsPromises m) m seen (es ++ rest) → Every (IsInTime m) m seen (es ++ rest) → Quiet seen taken
        → (let end = seen_after m seen es in (later : ℕ) → taken ≤ later → (occurs m steps_own seen.state es ≡ true → taken < later)
        → Every (KeepsPromises m) m end rest → Every (IsInTime m) m end rest → Quiet end later → Stops end.state rest)
        → Stops seen.state (es ++ rest)
    through [] rest seen taken keeps time q next = next taken (omega arith) (λ e. absurd (false≢true e)) keeps time q
    through (e ∷ es) rest seen taken keeps time q next =
        let sc = scene m seen e.0 e.1 in let b = (e.0 == p) && is_call_step sc.outcome in let done = if b then taken + 1 else taken in
        ⊎_elim (λ (stops : stop e.0 e.1 sc.outcome (seat_of sc.after e.0) ≡ true). inl (or_left _ _ stops))
        (⊎_elim (λ (d : disturbs_at e.0 seen.state sc.after.state ≡ true). inr (or_left _ _ d))
        (λ (quiet : Quiet sc.after done). stops_later seen.state e (es ++ rest) (through es rest sc.after done keeps.1 time.1 quiet (λ later more stepped.
        next later (grind (arith, more)) (λ found. grind (arith, more, stepped, found))))))
        (event seen taken q e.0 e.1 keeps.0 time.0)

    rounds_through : (rounds : List (List (ℕ × Move C V))) (seen : Seen W V C L) (taken : ℕ) → Every (KeepsPromises m) m seen (joined rounds) → Every (IsInTime m) m seen (joined rounds) → Quiet seen taken
        → StepsInEach m p seen.state rounds → max 1 most ≤ taken + length rounds → Stops seen.state (joined rounds)
    rounds_through [] seen taken keeps time q are enough = absurd (omega (arith, enough, q.few))
    rounds_through (es ∷ rounds) seen taken keeps time q are enough =
        through es (joined rounds) seen taken keeps time q (λ later more stepped keeps time q'.
        let less = stepped (subst (MovesOn m seen.state es p) q.at are.0) in
        rounds_through rounds (seen_after m seen es) later keeps time q' (subst (λ s. StepsInEach m p s rounds) (sym (state-seen_after m seen es)) are.1) (omega (arith, enough, less)))

module _ {W V C L A : Type 0} (m : Machine W V C L A) where
  pub answered_or_disturbed : Lawful m → (n : ℕ) (past : List (ℕ × Move C V)) (rounds : List (List (ℕ × Move C V))) → AnsweredOrDisturbed m n past rounds
  answered_or_disturbed lawful n past rounds p c l h there opens are some enough =
      let seen = seen_after m (opening m n) past in
      let same : seen.state ≡ after m (at_first m n) past = state-seen_after m (opening m n) past in
      let all = past ++ joined rounds in
      let here = lawful.keeps n past in
      subst (λ s. (occurs m (ends_or_fails p) s (joined rounds) ≡ true) ⊎ (disturbs m p s (joined rounds) ≡ true)) same
      (rounds_through m p c h seen.plain (seen.span p) opens rounds seen 0 (every_later m (KeepsPromises m) past (joined rounds) (opening m n) (lawful.keeps n all).each)
      (every_later m (IsInTime m) past (joined rounds) (opening m n) (lawful.counts n all))
      (record {
        point = l;
        at = ap (λ (s : State W V C L). slice_get s.seats p) same ∙ there;
        marks = inl (refl, refl, refl);
        few = omega arith;
        encodes = left_after m (λ s. m.numbers s.state.words ≡ encoded m.lock_kind s.plain) (KeepsPromises m) (λ s keeps. keeps.encodes) (opening m n) past here.each here.first;
      })
      (subst (λ s. StepsInEach m p s rounds) (sym same) are) (omega (arith, some, enough)))

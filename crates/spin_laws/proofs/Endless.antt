-- In an endless fair schedule there are as many rounds as needed.
use Rattle.spin_laws.proofs.Names.{◌≡◌, ℕ, zero, suc, ◌+◌, ◌<◌, ◌≤◌, Option, List, [], ◌∷◌, ◌++◌, length, slice_get, refl, ap, sym, ◌∙◌, subst, arith, cases_lt, slice_get_past, Machine, State, after, joined, max, ◌-◌, Move, cases_eq, Test, MovesOn, IsRound, AreRounds, stretch, IsFairSchedule, Seen, Hold, Entry, InRounds, AtLast, at_first}
use Rattle.spin_step.proofs.Schedules.{after-append}
use Rattle.spin_laws.proofs.Waiting.{or_left, occurs-append}

stretch-append : {X : Type 0} (schedule : ℕ → X) (start a b : ℕ) → stretch schedule start (a + b) ≡ stretch schedule start a ++ stretch schedule (start + a) b
stretch-append schedule start zero b = grind arith
stretch-append schedule start (suc a) b =
    let same : (suc a + b ≡ suc (a + b)) × (suc start + a ≡ start + suc a) = (omega arith, omega arith) in grind (arith, same, stretch-append schedule (suc start) a b)

module _ {W V C L A : Type 0} (m : Machine W V C L A) where
  module _ (s : State W V C L) (schedule : ℕ → ℕ × Move C V) (fair : IsFairSchedule m s schedule) where
    abbrev there : ℕ → State W V C L
    there place = after m s (stretch schedule 0 place)

    farther : (place p a b : ℕ) → a ≤ b → MovesOn m (there place) (stretch schedule place a) p (slice_get (there place).seats p)
        → MovesOn m (there place) (stretch schedule place b) p (slice_get (there place).seats p)
    farther place p a b le moves = grind (arith, stretch-append schedule place a (b - a), occurs-append, or_left)

    -- some stretch from this place on moves the first i parties on
    first_move : (place i : ℕ) → (n : ℕ) × ((p : ℕ) → p < i → MovesOn m (there place) (stretch schedule place n) p (slice_get (there place).seats p))
    first_move place zero = (0, λ p lt. absurd (omega (arith, lt)))
    first_move place (suc i) =
        let (before, moves) = first_move place i in let (last, moved) = fair place i in let both = max before last in
        (both, λ p lt. grind (arith, cases_eq p i, farther place p last both, farther place p before both, moves p, moved, lt))

    -- from each place on there is a round
    round_at : (place : ℕ) → (n : ℕ) × IsRound m (there place) (stretch schedule place n)
    round_at place =
        let (n, moves) = first_move place (length (there place).seats) in
        (n, λ p. grind (arith, cases_lt p (length (there place).seats), moves p, slice_get_past (there place).seats p))

    rounds_from : (rounds place : ℕ) → (n : ℕ) × (list : List (List (ℕ × Move C V))) × AreRounds m (there place) list × (length list ≡ rounds) × (joined list ≡ stretch schedule place n)
    rounds_from zero place = (0, [], tt, refl, refl)
    rounds_from (suc r) place =
        let (n, one) = round_at place in
        let (k, list, are, many, joined_is) = rounds_from r (place + n) in
        let at : 0 + place ≡ place = omega arith in
        let split : stretch schedule 0 (place + n) ≡ stretch schedule 0 place ++ stretch schedule place n =
        stretch-append schedule 0 place n ∙ ap (λ i. stretch schedule 0 place ++ stretch schedule i n) at in
        let next : after m (there place) (stretch schedule place n) ≡ there (place + n) =
        sym (after-append m s (stretch schedule 0 place) (stretch schedule place n)) ∙ ap (after m s) (sym split) in (
          n + k,
          stretch schedule place n ∷ list,
          (one, subst (λ z. AreRounds m z list) (sym next) are),
          ap suc many,
          ap (λ es. stretch schedule place n ++ es) joined_is ∙ sym (stretch-append schedule place n k),
        )

  -- what is promised of rounds happens at last in each endless fair schedule
  pub at_last : (Q : Seen W V C L → ℕ → C → Option Hold → Type 0) (bound : ℕ) (test : ℕ → Test V C L A) (n : ℕ) (past : List (Entry C V))
      → ((rounds : List (List (Entry C V))) → InRounds m Q bound test n past rounds)
      → (schedule : ℕ → Entry C V) → AtLast m Q test n past schedule
  at_last Q bound test n past comes schedule p c l h there so fair =
      let (k, list, are, many, joined_is) = rounds_from (after m (at_first m n) past) schedule fair bound 0 in
      (k, rw joined_is at (comes list p c l h there so are (omega (arith, many))))

-- A turn is a stretch of entries that leads back to the state in which it began. Its endless repetition is fair if, from
-- each place of the turn, the rest of the turn and one more turn are a round.
use Rattle.spin_laws.specs.Starving.{MayWaitWhere}
use Rattle.spin_laws.proofs.Names.{◌≡◌, ℕ, zero, suc, ◌+◌, ◌==◌, ◌&&◌, ◌||◌, Bool, true, false, Option, Some, List, [], ◌∷◌, ◌++◌, slice_get, refl, ap, sym, ◌∙◌, subst, arith, and_parts, Hold, Seat, Idle, Calling, Holding, Leaked, Gone, Move, Machine, State, happens, after, at_first, may_read, not, Test, occurs, is_awaited, MovesOn, IsRound, AreRounds, stretch, ends_or_weak, MayStarve, Seen, opening, seen_after}

-- the endless schedule of an entry x and the rest xs of a turn, followed by the turn `e ∷ es` again and again
abbrev pub around : {X : Type 0} → X → List X → X → List X → ℕ → X
around e es x xs zero = x
around e es x [] (suc i) = around e es e es i
around e es x (y ∷ ys) (suc i) = around e es y ys i

later : {X : Type 0} (f : ℕ → X) (a n : ℕ) → stretch f (suc a) n ≡ stretch (λ i. f (suc i)) a n
later f a zero = refl
later f a (suc n) = ap (λ xs. f (suc a) ∷ xs) (later f (suc a) n)

-- the length of the list, plus n
abbrev beyond : {X : Type 0} → List X → ℕ → ℕ
beyond [] n = n
beyond (x ∷ xs) n = suc (beyond xs n)

-- a stretch of this length begins with the rest of the turn
rest_first : {X : Type 0} (e : X) (es : List X) (x : X) (xs : List X) (n : ℕ) → stretch (around e es x xs) 0 (beyond (x ∷ xs) n) ≡ x ∷ xs ++ stretch (around e es e es) 0 n
rest_first e es x [] n = ap (λ ys. x ∷ ys) (later (around e es x []) 0 n)
rest_first e es x (y ∷ ys) n = ap (λ zs. x ∷ zs) (later (around e es x (y ∷ ys)) 0 (beyond (y ∷ ys) n) ∙ rest_first e es y ys n)

module _ {W V C L A : Type 0} (m : Machine W V C L A) where
  abbrev Turn : Type 0
  Turn = List (ℕ × Move C V)

  -- `MovesOn` as a test
  abbrev moves_on : State W V C L → Turn → ℕ → Seat C L → Bool
  moves_on s es p (Calling c l h) = occurs m (λ q move o x. (q == p) && is_awaited m (Some (Calling c l h)) move o) s es
  moves_on s es p (Holding h) = not (may_read h) || occurs m (λ q move o x. (q == p) && is_awaited m (Some (Holding h)) move o) s es
  moves_on s es p Idle = true
  moves_on s es p (Leaked h) = not (may_read h)
  moves_on s es p (Gone h) = not (may_read h)

  -- whether the entries are a round for these seats; the first seat is that of the party p
  abbrev all_move : State W V C L → Turn → ℕ → List (Seat C L) → Bool
  all_move s es p [] = true
  all_move s es p (x ∷ xs) = moves_on s es p x && all_move s es (suc p) xs

  all_is : (s : State W V C L) (es : Turn) (p i : ℕ) (xs : List (Seat C L)) → all_move s es p xs ≡ true → MovesOn m s es (p + i) (slice_get xs i)
  all_is s es p i [] is = tt
  all_is s es p zero (x ∷ xs) is =
      let here : MovesOn m s es p (Some x) = grind (arith, and_parts (moves_on s es p x) (all_move s es (suc p) xs) is) in
      subst (λ q. MovesOn m s es q (Some x)) (omega arith) here
  all_is s es p (suc i) (x ∷ xs) is = subst (λ q. MovesOn m s es q (slice_get xs i)) (omega arith) (all_is s es (suc p) i xs (and_parts (moves_on s es p x) (all_move s es (suc p) xs) is).1)

  -- from each place of the rest of the turn, what is left of the rest and a whole turn are a round
  abbrev pub is_fair_turn : Turn → State W V C L → Turn → Bool
  is_fair_turn whole s [] = true
  is_fair_turn whole s (x ∷ xs) = all_move s (x ∷ xs ++ whole) 0 s.seats && is_fair_turn whole (happens m s x.0 x.1).next xs

  module _ (test : Test V C L A) (start : State W V C L) (e : ℕ × Move C V) (es : Turn) where
    abbrev turn : Turn
    turn = e ∷ es ++ []

    -- the rest of a turn is fair, leads back, and has no event that passes the test
    abbrev pub Within : State W V C L → Turn → Type 0
    Within s rest = (is_fair_turn turn s rest ≡ true) × (after m s rest ≡ start) × (occurs m test s rest ≡ false)

    module _ (s : State W V C L) (x : ℕ × Move C V) (xs : Turn) (w : Within s (x ∷ xs)) where
      abbrev next : State W V C L
      next = (happens m s x.0 x.1).next

      fairly : (all_move s (x ∷ xs ++ turn) 0 s.seats ≡ true) × (is_fair_turn turn next xs ≡ true)
      fairly = and_parts (all_move s (x ∷ xs ++ turn) 0 s.seats) (is_fair_turn turn next xs) w.0

      next_is : Within next xs
      next_is = (fairly.1, w.1, grind (arith, w.2))

      not_here : test x.0 x.1 (happens m s x.0 x.1).outcome (slice_get next.seats x.0) ≡ false
      not_here = grind (arith, w.2)

      a_round : IsRound m s (stretch (around e es x xs) 0 (beyond (x ∷ xs) (beyond (e ∷ es) 0)))
      a_round p =
          subst (λ ys. MovesOn m s ys p (slice_get s.seats p)) (sym (rest_first e es x xs (beyond (e ∷ es) 0) ∙ ap (λ ys. x ∷ xs ++ ys) (rest_first e es e es 0)))
          (subst (λ q. MovesOn m s (x ∷ xs ++ turn) q (slice_get s.seats p)) (omega arith) (all_is s (x ∷ xs ++ turn) 0 p s.seats fairly.0))

    module _ (first : Within start (e ∷ es)) where
      abbrev MovesFrom : State W V C L → (ℕ → ℕ × Move C V) → ℕ → ℕ → Type 0
      MovesFrom s schedule place p = let there = after m s (stretch schedule 0 place) in (n : ℕ) × MovesOn m there (stretch schedule place n) p (slice_get there.seats p)

      -- a party that moves on from a place in the rest of the schedule moves on from the next place in the whole
      -- schedule
      place_later : (s : State W V C L) (schedule : ℕ → ℕ × Move C V) (place p : ℕ) → MovesFrom (happens m s (schedule 0).0 (schedule 0).1).next (λ i. schedule (suc i)) place p → MovesFrom s schedule (suc place) p
      place_later s schedule place p moves = grind (arith, after, later)

      fair_from : (place : ℕ) (s : State W V C L) (x : ℕ × Move C V) (xs : Turn) → Within s (x ∷ xs) → (p : ℕ) → MovesFrom s (around e es x xs) place p
      fair_from zero s x xs w p = (beyond (x ∷ xs) (beyond (e ∷ es) 0), a_round s x xs w p)
      fair_from (suc place) s x (y ∷ ys) w p = place_later s (around e es x (y ∷ ys)) place p (fair_from place (happens m s x.0 x.1).next y ys (next_is s x (y ∷ ys) w) p)
      fair_from (suc place) s x [] w p = place_later s (around e es x []) place p (subst (λ t. MovesFrom t (around e es e es) place p) (sym w.1) (fair_from place start e es first p))

      never : (place : ℕ) (s : State W V C L) (x : ℕ × Move C V) (xs : Turn) → Within s (x ∷ xs) → occurs m test s (stretch (around e es x xs) 0 place) ≡ false
      never zero s x xs w = refl
      never (suc place) s x (y ∷ ys) w = grind (arith, later, not_here, never place (happens m s x.0 x.1).next y ys (next_is s x (y ∷ ys) w))
      never (suc place) s x [] w = rw (later (around e es x []) 0 place, not_here s x [] w, w.1) (never place start e es first)

  -- if the repeated turn has no event that passes the test, party 0 may wait in this call for ever
  pub forever_where : (P : Seen W V C L → ℕ → Type 0) (test : ℕ → Test V C L A) (n : ℕ) (past : Turn) (s : State W V C L)
      → after m (at_first m n) past ≡ s → (e : ℕ × Move C V) (es : Turn) (c : C) (l : L) (h : Option Hold)
      → slice_get s.seats 0 ≡ Some (Calling c l h) → Within (test 0) s e es s (e ∷ es) → P (seen_after m (opening m n) past) 0
      → MayWaitWhere P test m n (m.asks c h)
  forever_where P test n past s is e es c l h there turn so =
      let fair = λ (place p : ℕ). fair_from (test 0) s e es turn place s e es turn p in
      (past, around e es e es, 0, c, l, h, so, rw is (there, refl, fair, λ place. never (test 0) s e es turn place s e es turn))

  -- if no event of the repeated turn ends the call or fails spuriously, a call with this promise may starve
  pub starves : (n : ℕ) (past : Turn) (s : State W V C L) → after m (at_first m n) past ≡ s → (e : ℕ × Move C V) (es : Turn)
      (c : C) (l : L) (h : Option Hold) → slice_get s.seats 0 ≡ Some (Calling c l h) → Within (ends_or_weak 0) s e es s (e ∷ es)
      → MayStarve m n (m.asks c h)
  starves n past s is e es c l h there turn = forever_where (λ seen q. Unit {0}) ends_or_weak n past s is e es c l h there turn tt

  -- whether the stretches are rounds, as a test
  abbrev pub are_rounds : State W V C L → List Turn → Bool
  are_rounds s [] = true
  are_rounds s (es ∷ rounds) = all_move s es 0 s.seats && are_rounds (after m s es) rounds

  pub rounds_are : (s : State W V C L) (rounds : List Turn) → are_rounds s rounds ≡ true → AreRounds m s rounds
  rounds_are s [] is = tt
  rounds_are s (es ∷ rounds) is = grind (arith, and_parts, all_is, rounds_are (after m s es) rounds (and_parts (all_move s es 0 s.seats) (are_rounds (after m s es) rounds) is).1)

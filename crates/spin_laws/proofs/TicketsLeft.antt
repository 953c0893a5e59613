-- A text takes no more tickets of a lock than it has lines.
use Rattle.std.proofs.Common.{◌≡◌, ◌≢◌, ℕ, zero, suc, ◌+◌, ◌<◌, ◌≤◌, ◌⊎◌, ◌==◌, Bool, true, false, cond, Option, Some, None, List, [], ◌∷◌, ◌++◌, inl, inr, ⊎_elim, is_some, map, length, slice_get, slice_set, refl, ap, sym, ◌∙◌, subst, arith}
use Rattle.std.proofs.lemmas.Bool.{cases_eq, cases_lt, ne_eqb}
use Rattle.spin_step.specs.declared.answer.Answer.{Answer}
use Rattle.spin_step.specs.declared.place.Hold.{Hold}
use Rattle.spin_step.specs.declared.place.Seat.{Seat}
use Rattle.spin_step.specs.declared.place.Seat.TheVariants.{Idle, Calling, Holding, Leaked, Gone}
use Rattle.spin_step.specs.declared.schedule.Move.{Move}
use Rattle.spin_step.specs.declared.schedule.Move.TheVariants.{Begin, Step, Weak, Read, Write, Leak, OwnerGet, OwnerSet}
use Rattle.spin_step.specs.declared.ticket_calls.TicketCall.{TicketCall}
use Rattle.spin_step.specs.declared.ticket_calls.TicketPoint.{TicketPoint}
use Rattle.spin_step.specs.declared.ticket_calls.TicketPoint.TheVariants.{LoadNext, Take, Await, TryLoadNext, TryLoadServing, TryTake, LookServing, LookNext, Serve}
use Rattle.spin_step.specs.declared.schedule.Outcome.TheVariants as outcome
use Rattle.spin_step.specs.declared.stepped.Next.{Next}
use Rattle.spin_step.specs.declared.stepped.Next.TheVariants.{Continue, Answers}
use Rattle.spin_step.specs.Machines.{Machine}
use Rattle.spin_step.specs.Schedules.{State, Shown, Happened, moves_at, goes_on}
use Rattle.spin_step.specs.TicketCalls.{ticket_machine}
use Rattle.spin_step.proofs.Lists.{get-set_same}
use Rattle.spin_world.specs.declared.ticket.Ticket.{Ticket}
use Rattle.spin_world.proofs.TicketOwed.{ticket_facts}
use Rattle.spin_world_core.specs.Runs.{Schedule, state_at}
use Rattle.spin_world_core.specs.Users.{seen_at}
use Rattle.spin_world_core.proofs.Reached.{numbers_are}
use Rattle.spin_explore.specs.declared.kinds.AnyCall.{AnyCall}
use Rattle.spin_explore.specs.declared.kinds.AnyCall.TheVariants as call
use Rattle.spin_explore.specs.declared.kinds.AnyLock.{AnyLock}
use Rattle.spin_explore.specs.declared.kinds.AnyLock.TheVariants as any
use Rattle.spin_explore.specs.Kinds.{narrow, narrowed, act_if, ticket_call, ticket_rules, any_rules, any_act, any_in_call, any_after}
use Rattle.spin_explore.specs.Orders.{HasNoEndless}
use Rattle.spin_explore.proofs.Alone.{set_at}
use Rattle.spin_explore.proofs.Halts.{to_joined, follows_joined}
use Rattle.spin_explore.proofs.Settle.{set_beside}
use Rattle.spin_explore.specs.Programs.{Reached, Stage, turn, is_weak, is_over, noted, in_call_of, acted_on, moved_on, made, made_for, leads, stage_after, Follows, part}
use Rattle.spin_explore.specs.Halts.{lines_left}
use Rattle.spin_explore.specs.Worlds.{is_calling}
use Rattle.spin_laws.specs.Texts.{unused, IsText}
use Rattle.spin_laws.proofs.AnyKinds.{call_of, LeavesRoom}
use Rattle.spin_laws.proofs.Lines.{Line, Gots, next_of}
use Rattle.spin_laws.proofs.Seated.{seat_as, any_seat, any_fits, is_unleaked, beside}
use Rattle.spin_laws.proofs.Texts.{Covered, covered_unleaked, Sound, first, may, next_line, line_at, there_after, sound_after}

abbrev one_if : Bool → ℕ
one_if b = cond b 1 0

-- Sums over the parties below n

sum_to : ℕ → (ℕ → ℕ) → ℕ
sum_to zero f = 0
sum_to (suc n) f = sum_to n f + f n

sum_less : (n : ℕ) (f g : ℕ → ℕ) → ((q : ℕ) → q < n → f q ≤ g q) → sum_to n f ≤ sum_to n g
unfolding sum_to
sum_less zero f g less = omega arith
sum_less (suc n) f g less = let most = sum_less n f g (λ q small. less q (omega (arith, small))) in let last = less n (omega arith) in omega (arith, most, last)

-- one summand changes by what is told
sum_moved : (n p : ℕ) (f g : ℕ → ℕ) (a b : ℕ) → p < n → ((q : ℕ) → q ≢ p → f q ≤ g q) → f p + a ≤ g p + b → sum_to n f + a ≤ sum_to n g + b
unfolding sum_to
sum_moved zero p f g a b small others mine = absurd (omega (arith, small))
sum_moved (suc n) p f g a b small others mine =
    ⊎_elim (λ (last : n ≡ p).
    let before = sum_less n f g (λ q few. others q (λ same. omega (arith, same, few, last))) in
    let here : f n + a ≤ g n + b = subst (λ q. f q + a ≤ g q + b) (sym last) mine in omega (arith, before, here))
    (λ (other : n ≡ p → ⊥).
    let before = sum_moved n p f g a b (omega (arith, small, other)) others mine in let last = others n other in omega (arith, before, last))
    (cases_eq n p)

-- One move on a ticket lock

-- the party has taken its ticket and waits with it
abbrev awaits_turn : {C : Type 0} → Option (Seat C TicketPoint) → ℕ
awaits_turn (Some (Calling c (Await t) h)) = 1
awaits_turn _ = 0

abbrev next_number : AnyLock → ℕ
next_number (any.Ticket x) = x.state.words.next
next_number _ = 0

abbrev has_taken : AnyLock → ℕ → ℕ
has_taken (any.Ticket x) p = awaits_turn (slice_get x.state.seats p)
has_taken _ p = 0

abbrev words_of : {W V C L A : Type 0} → Machine W V C L A → Type 0
words_of {W} m = W

abbrev Words : Type 0
Words = words_of (ticket_machine {V = ℕ} 0 0)

abbrev Ticketed : Type 0
Ticketed = Option (Seat TicketCall TicketPoint)

-- what a step leaves: a turn that is awaited, or an answer
abbrev counts : Next TicketPoint (Answer ℕ) → ℕ
counts (Continue (Await t)) = 1
counts (Continue l) = 0
counts (Answers a after) = 1

-- a step takes a number only where the call then waits with it, or is answered
fine : (v first : ℕ) (w : Words) (value : Option ℕ) (c : TicketCall) (l : TicketPoint) (h : Option Hold)
    → let st = (ticket_machine v first).step w value c l h in st.words.next + awaits_turn (Some (Calling c l h)) ≤ w.next + counts st.next
fine v first w value c LoadNext h = omega arith
fine v first w value c (Take n) h = grind arith
fine v first w value c (Await t) h = grind arith
fine v first w value c TryLoadNext h = omega arith
fine v first w value c (TryLoadServing n) h = omega arith
fine v first w value c (TryTake n) h = grind arith
fine v first w value c LookServing h = omega arith
fine v first w value c (LookNext k) h = omega arith
fine v first w value c (Serve t) h = grind arith

module _ (v first p : ℕ) (s : State Words ℕ TicketCall TicketPoint) where
  abbrev m : Machine Words ℕ TicketCall TicketPoint (Answer ℕ)
  m = ticket_machine v first

  abbrev Pays : Ticketed → Happened Words ℕ TicketCall TicketPoint (Answer ℕ) → Type 0
  Pays o h = h.next.words.next + awaits_turn o ≤ s.words.next + awaits_turn (slice_get h.next.seats p) + one_if (is_over (is_calling o) h.outcome)

  goes : (c : TicketCall) (l : TicketPoint) (h : Option Hold) (t : State Words ℕ TicketCall TicketPoint) (next : Next TicketPoint (Answer ℕ)) → slice_get t.seats p ≡ Some (Calling c l h)
      → t.words.next + awaits_turn (Some (Calling c l h)) ≤ s.words.next + counts next → Pays (Some (Calling c l h)) (goes_on t p c h next)
  goes c l h t (Continue i) at less =
      let here = get-set_same t.seats p (Calling c i h) _ at in grind (arith, here, less)
  goes c l h t (Answers a after) at less = omega (arith, less)

  pays : (o : Ticketed) → slice_get s.seats p ≡ o → (move : Move TicketCall ℕ) → Pays o (moves_at m s p move o)
  pays None at move = grind (arith, at)
  pays (Some (Calling c l h)) at Step = goes c l h _ (m.step s.words s.value c l h).next at (fine v first s.words s.value c l h)
  pays (Some (Calling c l h)) at Weak = grind (arith, at)
  pays (Some (Calling c l h)) at move = grind (arith, at)
  pays (Some y) at move = grind (arith, at)

-- One move on a lock of any kind

ticket_pays : (x : Shown (Ticket ℕ) Words ℕ TicketCall TicketPoint) (p : ℕ) (z : Option (Move TicketCall ℕ)) → let did = act_if ticket_rules x p z in
    did.1.state.words.next + awaits_turn (slice_get x.state.seats p) ≤ x.state.words.next + awaits_turn (slice_get did.1.state.seats p) + one_if (is_over (is_calling (slice_get x.state.seats p)) did.0)
ticket_pays x p None = omega arith
ticket_pays x p (Some move) = pays x.object.value x.object.first p x.state (slice_get x.state.seats p) refl move

any_pays : (lock : AnyLock) (p : ℕ) (action : Move AnyCall ℕ) → let did = any_act lock p action in
    next_number did.1 + has_taken lock p ≤ next_number lock + has_taken did.1 p + one_if (is_over (any_in_call lock p) did.0)
any_pays (any.Ticket x) p action = ticket_pays x p (narrow ticket_call action)
any_pays (any.Flag x) p action = omega arith
any_pays (any.Fair x) p action = omega arith
any_pays (any.Rw x) p action = omega arith
any_pays (any.Once x) p action = omega arith
any_pays (any.Barrier x) p action = omega arith

unleaked_seat : (o : Ticketed) → is_unleaked (seat_as call.Ticket o) ≡ true → is_unleaked o ≡ true
unleaked_seat None is = refl
unleaked_seat (Some Idle) is = refl
unleaked_seat (Some (Calling c l h)) is = refl
unleaked_seat (Some (Holding h)) is = refl
unleaked_seat (Some (Leaked h)) is = absurd (grind (arith, is))
unleaked_seat (Some (Gone h)) is = absurd (grind (arith, is))

others_by : (x : Shown (Ticket ℕ) Words ℕ TicketCall TicketPoint) (p q : ℕ) (z : Option (Move TicketCall ℕ)) → q ≢ p → is_unleaked (slice_get x.state.seats q) ≡ true
    → awaits_turn (slice_get (act_if ticket_rules x p z).1.state.seats q) ≡ awaits_turn (slice_get x.state.seats q)
others_by x p q None other is = refl
others_by x p q (Some move) other is =
    ap awaits_turn (beside (ticket_machine x.object.value x.object.first) x.state p q other is move (slice_get x.state.seats p))

any_others : (lock : AnyLock) (p q : ℕ) (action : Move AnyCall ℕ) → q ≢ p → is_unleaked (any_seat lock q) ≡ true → has_taken (any_act lock p action).1 q ≡ has_taken lock q
any_others (any.Ticket x) p q action other is = others_by x p q (narrow ticket_call action) other (unleaked_seat (slice_get x.state.seats q) is)
any_others (any.Flag x) p q action other is = refl
any_others (any.Fair x) p q action other is = refl
any_others (any.Rw x) p q action other is = refl
any_others (any.Once x) p q action other is = refl
any_others (any.Barrier x) p q action other is = refl

-- a party that awaits its turn is in a call
taken_in_call : (lock : AnyLock) (p : ℕ) → is_calling (any_seat lock p) ≡ false → has_taken lock p ≡ 0
taken_in_call (any.Ticket x) p out = by (slice_get x.state.seats p) out
  where
    by : (o : Ticketed) → is_calling (seat_as call.Ticket o) ≡ false → awaits_turn o ≡ 0
    by None is = refl
    by (Some Idle) is = refl
    by (Some (Calling c l h)) is = absurd (grind (arith, is))
    by (Some (Holding h)) is = refl
    by (Some (Leaked h)) is = refl
    by (Some (Gone h)) is = refl
taken_in_call (any.Flag x) p out = refl
taken_in_call (any.Fair x) p out = refl
taken_in_call (any.Rw x) p out = refl
taken_in_call (any.Once x) p out = refl
taken_in_call (any.Barrier x) p out = refl

taken_once : (lock : AnyLock) (p : ℕ) → has_taken lock p ≤ 1
taken_once (any.Ticket x) p = grind arith
taken_once (any.Flag x) p = omega arith
taken_once (any.Fair x) p = omega arith
taken_once (any.Rw x) p = omega arith
taken_once (any.Once x) p = omega arith
taken_once (any.Barrier x) p = omega arith

-- Lines that are over

closed : Gots → ℕ
closed [] = 0
closed (None ∷ gs) = closed gs
closed (Some g ∷ gs) = suc (closed gs)

closed_or_left : (gs : Gots) → closed gs + lines_left gs ≡ length gs
unfolding closed
closed_or_left [] = refl
closed_or_left (None ∷ gs) = let far = closed_or_left gs in omega (arith, far)
closed_or_left (Some g ∷ gs) = let far = closed_or_left gs in omega (arith, far)

closed_one : (gs : Gots) (i : ℕ) (o : Reached ℕ) → slice_get gs i ≡ Some None → closed (slice_set gs i (Some o)) ≡ closed gs + 1
unfolding closed
closed_one [] i o is = absurd (grind (arith, is))
closed_one (None ∷ gs) zero o is = omega arith
closed_one (Some g ∷ gs) zero o is = absurd (grind (arith, is))
closed_one (None ∷ gs) (suc i) o is = closed_one gs i o is
closed_one (Some g ∷ gs) (suc i) o is = let far = closed_one gs i o is in omega (arith, far)

closed_noted : (gs : Gots) (i : ℕ) (b : Bool) (o : Reached ℕ) → slice_get gs i ≡ Some None → closed (noted gs i b o) ≡ closed gs + one_if (is_over b o)
closed_noted gs i b o is = by (is_over b o)
  where
    by : (c : Bool) → closed (cond c (slice_set gs i (Some o)) gs) ≡ closed gs + one_if c
    by true = closed_one gs i o is
    by false = omega arith

abbrev has_line : List Line → Gots → ℕ → ℕ → ℕ
has_line es gs j q = one_if (is_some (turn q j es gs))

sum_none : (n : ℕ) → sum_to n (λ q. 0) ≡ 0
unfolding sum_to
sum_none zero = refl
sum_none (suc n) = let far = sum_none n in omega (arith, far)

-- as many parties have a line as lines are left, or fewer
turns_few : (n j : ℕ) (es : List Line) (gs : Gots) → sum_to n (has_line es gs j) ≤ lines_left gs
turns_few n j [] gs = let none = sum_none n in let same = sum_less n (has_line [] gs j) (λ q. 0) (λ q small. omega arith) in omega (arith, none, same)
turns_few n j (e ∷ es) [] = let none = sum_none n in let same = sum_less n (has_line (e ∷ es) [] j) (λ q. 0) (λ q small. omega arith) in omega (arith, none, same)
turns_few n j (e ∷ es) (Some g ∷ gs) = turns_few n (j + 1) es gs
turns_few n j (e ∷ es) (None ∷ gs) =
    let far = turns_few n (j + 1) es gs in
    let others : (q : ℕ) → q ≢ e.party → has_line (e ∷ es) (None ∷ gs) j q ≤ has_line es gs (j + 1) q = λ q other. (let no = ne_eqb e.party q (λ same. other (sym same)) in grind (arith, no)) in
    ⊎_elim (λ (less : e.party < n).
    let mine : has_line (e ∷ es) (None ∷ gs) j e.party + 0 ≤ has_line es gs (j + 1) e.party + 1 = (let one = at_most (is_some (turn e.party j (e ∷ es) (None ∷ gs))) in omega (arith, one)) in
    let moved = sum_moved n e.party (has_line (e ∷ es) (None ∷ gs) j) (has_line es gs (j + 1)) 0 1 less others mine in omega (arith, far, moved))
    (λ (most : n ≤ e.party).
    let same = sum_less n (has_line (e ∷ es) (None ∷ gs) j) (has_line es gs (j + 1)) (λ q small. others q (λ is. omega (arith, is, small, most))) in omega (arith, far, same))
    (cases_lt e.party n)
  where
    at_most : (b : Bool) → one_if b ≤ 1
    at_most true = omega arith
    at_most false = omega arith

module _ (n : ℕ) (locks : List AnyLock) (lines : List Line) (text : IsText n locks lines) (endless : HasNoEndless lines (length lines)) where
  abbrev Paid : Stage AnyLock ℕ → Type 0
  Paid x = (k : ℕ) (lock one : AnyLock) → slice_get x.locks k ≡ Some lock → slice_get locks k ≡ Some one → next_number lock ≤ next_number (unused n one) + closed x.got + sum_to n (has_taken lock)

  module _ (x : Stage AnyLock ℕ) (sound : Sound n locks lines text endless x) (paid : Paid x) (e : Line) (i : ℕ) (small : e.party < n) (left : slice_get x.got i ≡ Some None) where
    abbrev y : Stage AnyLock ℕ
    y = made any_rules x i e

    none_moved : slice_get x.locks e.lock ≡ None → Paid y
    none_moved none k lock one at opens =
        let same : y.locks ≡ x.locks = ap (moved_on any_rules x.locks e) none in
        let got : y.got ≡ slice_set x.got i (Some outcome.Skipped) = ap (λ z. noted x.got i (in_call_of any_rules z e.party) (acted_on any_rules e z)) none in
        let more : closed y.got ≡ closed x.got + 1 = ap closed got ∙ closed_one x.got i outcome.Skipped left in
        let was = paid k lock one (ap (λ ls. slice_get ls k) (sym same) ∙ at) opens in omega (arith, was, more)

    module _ (lock : AnyLock) (here : slice_get x.locks e.lock ≡ Some lock) where
      abbrev did : Reached ℕ × AnyLock
      did = any_act lock e.party e.action

      more : closed y.got ≡ closed x.got + one_if (is_over (any_in_call lock e.party) did.0)
      more = ap (λ z. closed (noted x.got i (in_call_of any_rules z e.party) (acted_on any_rules e z))) here ∙ closed_noted x.got i (any_in_call lock e.party) did.0 left

      locks_are : y.locks ≡ slice_set x.locks e.lock did.1
      locks_are = ap (moved_on any_rules x.locks e) here

      unleaked : (q : ℕ) → is_unleaked (any_seat lock q) ≡ true
      unleaked q = covered_unleaked (any_fits lock) (may n locks lines text endless x q e.lock) e.lock (next_line n locks lines text endless x q) (any_seat lock q) (sound.seats q e.lock lock here)

      at_it : (one : AnyLock) → slice_get locks e.lock ≡ Some one → next_number did.1 ≤ next_number (unused n one) + closed y.got + sum_to n (has_taken did.1)
      at_it one opens =
          let was = paid e.lock lock one here opens in
          let step = any_pays lock e.party e.action in
          let moved = sum_moved n e.party (has_taken lock) (has_taken did.1) (has_taken did.1 e.party) (has_taken lock e.party) small
          (λ q other. let same = any_others lock e.party q e.action other (unleaked q) in omega (arith, same)) (omega arith) in
          omega (arith, was, step, moved, more)

      some_moved : Paid y
      some_moved k l one at opens =
          ⊎_elim (λ (same : k ≡ e.lock).
          let it : did.1 ≡ l = (let both = sym (ap (λ ls. slice_get ls e.lock) locks_are ∙ set_at x.locks e.lock lock did.1 here) ∙ (ap (slice_get y.locks) (sym same) ∙ at) in grind (arith, both)) in
          subst (λ z. next_number z ≤ next_number (unused n one) + closed y.got + sum_to n (has_taken z)) it (at_it one (ap (slice_get locks) (sym same) ∙ opens)))
          (λ (far : k ≡ e.lock → ⊥).
          let was = paid k l one (sym (ap (λ ls. slice_get ls k) locks_are ∙ set_beside x.locks e.lock k did.1 far) ∙ at) opens in omega (arith, was, more))
          (cases_eq k e.lock)

    paid_made : Paid y
    paid_made = by (slice_get x.locks e.lock) refl
      where
        by : (z : Option AnyLock) → slice_get x.locks e.lock ≡ z → Paid y
        by None none = none_moved none
        by (Some lock) here = some_moved lock here

  paid_on : (past : List Line) → Follows any_rules lines n (first n locks lines text endless) past → (x : Stage AnyLock ℕ) → x ≡ stage_after any_rules lines (first n locks lines text endless) past → Paid x
      → (es : List Line) → Follows any_rules lines n x es → Paid (stage_after any_rules lines x es)
  paid_on past before x is paid [] follows = paid
  paid_on past before x is paid (e ∷ es) follows =
      let i = follows.1.0 in let due_now = follows.1.1 in
      let of = line_at n locks lines text endless x e i (turn e.party 0 lines x.got) refl due_now in
      let to : leads any_rules lines x e.party (is_weak e.action) ≡ made any_rules x i e = ap (made_for any_rules x) due_now in
      let sound = subst (Sound n locks lines text endless) (sym is) (sound_after n locks lines text endless past before) in
      let at = next_of e.party 0 lines x.got i of.0 of.1 in
      let left : slice_get x.got i ≡ Some None = (let same : at.past ≡ i = omega (arith, at.is) in subst (λ j. slice_get x.got j ≡ Some None) same at.open_there) in
      let more : Paid (leads any_rules lines x e.party (is_weak e.action)) = subst Paid (sym to) (paid_made x sound paid e i follows.0 left) in
      let one : Follows any_rules lines n x (e ∷ []) = (follows.0, follows.1, tt) in
      let longer = follows_joined any_rules lines n (first n locks lines text endless) past (e ∷ []) before (subst (λ z. Follows any_rules lines n z (e ∷ [])) is one) in
      let there : leads any_rules lines x e.party (is_weak e.action) ≡ stage_after any_rules lines (first n locks lines text endless) (past ++ e ∷ []) =
      sym (to_joined any_rules lines n (first n locks lines text endless) past (e ∷ []) ∙ ap (λ z. stage_after any_rules lines z (e ∷ [])) (sym is)) in
      paid_on (past ++ e ∷ []) longer (leads any_rules lines x e.party (is_weak e.action)) there more es follows.2

  paid_first : Paid (first n locks lines text endless)
  paid_first k lock one at opens =
      let same : lock ≡ one = (let both = sym at ∙ opens in grind (arith, both)) in
      let unused_one : one ≡ unused n one = text.unused k one opens in
      let number : next_number lock ≡ next_number (unused n one) = ap next_number (same ∙ unused_one) in omega (arith, number)

  -- the next number of a lock after a schedule is at most its first one and as many more as there are lines
  pub numbers_left : (es : List Line) (follows : Follows any_rules lines n (first n locks lines text endless) es) (k : ℕ) (one : AnyLock) → slice_get locks k ≡ Some one
      → next_number (any_after (unused n one) (part k es)) ≤ next_number (unused n one) + length lines
  numbers_left es follows k one opens =
      let x = stage_after any_rules lines (first n locks lines text endless) es in
      let sound = sound_after n locks lines text endless es follows in
      let lock = any_after (unused n one) (part k es) in
      let here = there_after n locks lines text endless es follows k one opens in
      let paid = paid_on [] tt (first n locks lines text endless) refl paid_first es follows k lock one here opens in
      let some = sum_less n (has_taken lock) (has_line lines x.got 0) (λ q small. in_line x lock k sound here q (is_calling (any_seat lock q)) refl) in
      let few = turns_few n 0 lines x.got in let all = closed_or_left x.got in let long = sound.long in
      omega (arith, paid, some, few, all, long)
    where
      in_line : (x : Stage AnyLock ℕ) (lock : AnyLock) (k : ℕ) → Sound n locks lines text endless x → slice_get x.locks k ≡ Some lock → (q : ℕ) (b : Bool) → is_calling (any_seat lock q) ≡ b → has_taken lock q ≤ has_line lines x.got 0 q
      in_line x lock k sound here q false out = let none = taken_in_call lock q out in omega (arith, none)
      in_line x lock k sound here q true is =
          let c = call_of (any_seat lock q) is in
          let was = subst (λ z. Covered (any_fits lock) (may n locks lines text endless x q k) k (next_line n locks lines text endless x q) z) c.3 (sound.seats q k lock here) in
          let line : has_line lines x.got 0 q ≡ 1 = ap (λ o. one_if (is_some o)) was.2 in let one = taken_once lock q in omega (arith, line, one)

  word_next : (v start : ℕ) (past : Schedule TicketCall ℕ) → (seen_at (ticket_machine v start) n past).plain.next ≡ (state_at (ticket_machine v start) n past).words.next
  word_next v start past = let numbers = numbers_are (ticket_facts v start) n past in grind (arith, numbers)

  pub leaves_room : (es : List Line) → Follows any_rules lines n (first n locks lines text endless) es → (k : ℕ) (one : AnyLock) → slice_get locks k ≡ Some one → LeavesRoom n one (part k es)
  leaves_room es follows k (any.Ticket x) opens =
      let few = numbers_left es follows k (any.Ticket x) opens in let room = text.room k (any.Ticket x) opens in
      let same = word_next x.object.value x.object.first (narrowed ticket_call (part k es)) in omega (arith, few, room, same)
  leaves_room es follows k (any.Rw x) opens = text.room k (any.Rw x) opens
  leaves_room es follows k (any.Flag x) opens = tt
  leaves_room es follows k (any.Fair x) opens = tt
  leaves_room es follows k (any.Once x) opens = tt
  leaves_room es follows k (any.Barrier x) opens = tt

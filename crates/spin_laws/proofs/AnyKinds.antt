-- Locks of any kind after a schedule of n parties: their parties' seats, and what keeps a party out or lets it go on.
use Rattle.std.proofs.Common.{◌≡◌, ◌≢◌, ℕ, zero, suc, ◌<◌, ◌≤◌, ◌⊎◌, ◌||◌, Bool, true, false, not, Option, Some, None, List, [], ◌∷◌, inl, inr, ⊎_elim, is_some, slice_get, refl, ap, sym, ◌∙◌, subst, arith}
use Rattle.std.proofs.lemmas.Bool.{eqb-true}
use Rattle.std.specs.Prelude.{replicate}
use Rattle.spin_step.specs.Plain.{Plain, Effect, runs, effect, given, to_begin, Change, gets, completes, fails, running, apply, is_running, ticket_limit, once_word}
use Rattle.spin_step.specs.Parties.{apply_some, entries, no_entries}
use Rattle.spin_step.specs.Calls.{LockKind, Mark, BelongsTo, is_step_of}
use Rattle.spin_step.specs.declared.answer.Answer.{Answer}
use Rattle.spin_step.specs.declared.place.Hold.{Hold}
use Rattle.spin_step.specs.declared.place.Seat.{Seat}
use Rattle.spin_step.specs.declared.place.Seat.TheVariants.{Idle, Calling, Holding, Leaked, Gone}
use Rattle.spin_step.specs.declared.schedule.Move.{Move}
use Rattle.spin_step.specs.declared.schedule.Move.TheVariants.{Begin, Step}
use Rattle.spin_step.specs.declared.schedule.Outcome.TheVariants as outcome
use Rattle.spin_step.specs.declared.stepped.Next.{Next}
use Rattle.spin_step.specs.declared.stepped.Next.TheVariants.{Continue, Answers}
use Rattle.spin_step.specs.Acts.{Table}
use Rattle.spin_step.specs.Machines.{Machine}
use Rattle.spin_step.specs.Schedules.{Entry, State, Shown, Happened, happens, moves_at, goes_on, resting}
use Rattle.spin_step.specs.Asks.{is_write, is_ticket, is_held_some}
use Rattle.spin_step.proofs.Lists.{get-set_same}
use Rattle.spin_step.specs.FlagCalls.{flag_machine, flag_table}
use Rattle.spin_step.specs.TicketCalls.{ticket_machine, ticket_table}
use Rattle.spin_step.specs.OnceCalls.{once_machine}
use Rattle.spin_step_more.specs.FairCalls.{fair_machine, fair_table}
use Rattle.spin_step_more.specs.RwCalls.{rw_machine, rw_table}
use Rattle.spin_world.specs.BarrierTable.{barrier_machine, barrier_table}
use Rattle.spin_step.specs.FlagKind.{flag}
use Rattle.spin_step.specs.TicketKind.{ticket}
use Rattle.spin_step_more.specs.FairKind.{fair}
use Rattle.spin_step_more.specs.RwKind.{rw}
use Rattle.spin_step.specs.declared.flag_calls.FlagCall.{FlagCall}
use Rattle.spin_step.specs.declared.ticket_calls.TicketCall.{TicketCall}
use Rattle.spin_step.specs.declared.once_calls.OnceCall.{OnceCall}
use Rattle.spin_step_more.specs.declared.fair_calls.FairCall.{FairCall}
use Rattle.spin_step_more.specs.declared.rw_calls.RwCall.{RwCall}
use Rattle.spin_world.specs.declared.barrier.BarrierCall.{BarrierCall}
use Rattle.spin_world.specs.declared.flag.Flag.{Flag}
use Rattle.spin_world.specs.declared.ticket.Ticket.{Ticket}
use Rattle.spin_world.specs.declared.fair.Fair.{Fair}
use Rattle.spin_world.specs.declared.rw.Rw.{Rw}
use Rattle.spin_world.specs.declared.once.OnceObject.{OnceObject}
use Rattle.spin_world.specs.declared.barrier.BarrierObject.{BarrierObject}
use Rattle.spin_world_core.specs.Lawful.{Lawful}
use Rattle.spin_world_core.specs.Runs.{Schedule, Seen, Every, KeepsPromises, StandsFor, scene, opening, state_at, seat_of}
use Rattle.spin_world_core.specs.Undisturbed.{is_open_now}
use Rattle.spin_world_core.specs.Users.{seen_at, seen_after, IsCalling}
use Rattle.spin_world_core.proofs.Lawful.{laws_of}
use Rattle.spin_world_core.proofs.Reached.{good, calls, numbers_are, seat_is}
use Rattle.spin_world_core.proofs.Rows.{Row}
use Rattle.spin_world_core.proofs.Shapes.{Notes, KnowsRow, row_of}
use Rattle.spin_world_core.proofs.Steps.{played, Plays}
use Rattle.spin_world.proofs.FlagOwed.{flag_facts}
use Rattle.spin_world.proofs.TicketOwed.{ticket_facts, ticket_notes}
use Rattle.spin_world.proofs.RwOwed.{rw_facts, rw_notes}
use Rattle.spin_world.proofs.FairOwed.{fair_facts, fair_notes}
use Rattle.spin_world.proofs.OnceOwed.{once_facts}
use Rattle.spin_world.specs.OnceClosures.{RunsClosure}
use Rattle.spin_explore.specs.declared.kinds.AnyCall.{AnyCall}
use Rattle.spin_explore.specs.declared.kinds.AnyCall.TheVariants as call
use Rattle.spin_explore.specs.declared.kinds.AnyLock.{AnyLock}
use Rattle.spin_explore.specs.declared.kinds.AnyLock.TheVariants as any
use Rattle.spin_explore.specs.Kinds.{narrow, narrowed, act_if, any_rules, any_act, any_in_call, any_after, flag_call, ticket_call, fair_call, rw_call, once_call, barrier_call}
use Rattle.spin_explore.specs.Halts.{AnswersAlone}
use Rattle.spin_explore.specs.Orders.{gives, is_part, leaks, awaits, waits, promised}
use Rattle.spin_explore.specs.Programs.{is_over}
use Rattle.spin_explore.specs.Worlds.{is_calling, world_rules}
use Rattle.spin_laws.specs.AnyLocks.{Moves, WaitsInVain, plain_after, IsKeptOutOf}
use Rattle.spin_laws.specs.KeptOut.{is_wait}
use Rattle.spin_laws.specs.Once.{answers}
use Rattle.spin_laws.specs.Rounds.{occurs}
use Rattle.spin_laws.specs.Several.{has_something}
use Rattle.spin_laws.proofs.KeptOut.{word_is, phase_of}
use Rattle.spin_laws.proofs.Once.{somebody_runs}
use Rattle.spin_laws.specs.Texts.{unused, is_of_kind}
use Rattle.spin_laws.proofs.Solo.{answered_alone}
use Rattle.spin_laws.proofs.Seated.{Sat, seat_as, any_seat, any_fits, part_of, fits_held, fit_seat, covers_next, covers_some, Acts, is_due, is_unleaked, acted, beside}
use Rattle.spin_laws.proofs.Rows.{table_step, once_step, flag_rows, flag_begins, flag_waits, ticket_rows, ticket_begins, ticket_waits, fair_fits, fair_rows, fair_begins, fair_waits, rw_rows, rw_begins, rw_waits, none_fits, once_waits, barrier_rows}

-- A lock of one kind

seat_calls : {C L : Type 0} (wrap : C → AnyCall) (o : Option (Seat C L)) → is_calling (seat_as wrap o) ≡ is_calling o
seat_calls wrap None = refl
seat_calls wrap (Some Idle) = refl
seat_calls wrap (Some (Calling c l h)) = refl
seat_calls wrap (Some (Holding h)) = refl
seat_calls wrap (Some (Leaked h)) = refl
seat_calls wrap (Some (Gone h)) = refl

pub call_of : {C L : Type 0} (o : Option (Seat C L)) → is_calling o ≡ true → (c : C) × (l : L) × (h : Option Hold) × (o ≡ Some (Calling c l h))
call_of None is = absurd (grind (arith, is))
call_of (Some Idle) is = absurd (grind (arith, is))
call_of (Some (Calling c l h)) is = (c, l, h, refl)
call_of (Some (Holding h)) is = absurd (grind (arith, is))
call_of (Some (Leaked h)) is = absurd (grind (arith, is))
call_of (Some (Gone h)) is = absurd (grind (arith, is))

some_row : {W V C L A : Type 0} {t : Table W V C L A} (n : Notes t) (c : C) (l : L) (h : Option Hold) (p : ℕ) (s : Plain) (span : List Mark) (o : Option Row) → KnowsRow n c l h p s span o → is_some o ≡ true
some_row n c l h p s span None knows = absurd knows
some_row n c l h p s span (Some row) knows = refl

module _ {O W C L : Type 0} (machine : O → Machine W ℕ C L (Answer ℕ)) (w : Shown O W ℕ C L) (p : ℕ) where
  abbrev m : Machine W ℕ C L (Answer ℕ)
  m = machine w.object

  abbrev s : State W ℕ C L
  s = w.state

  module _ (fits : Hold → Bool) (of : AnyCall → Option C) (wrap : C → AnyCall) (inverse : (a : AnyCall) (c : C) → of a ≡ Some c → wrap c ≡ a)
      (begins : (c : C) (h : Hold) → fits h ≡ true → m.begin c (Some h) ≡ None → is_part (gives (Begin (wrap c))) (part_of h) ≡ false)
      (rows : (c : C) (l : L) (h : Option Hold) → slice_get s.seats p ≡ Some (Calling c l h) → fits_held fits h ≡ true
      → (covers_next fits (wrap c) h (m.step s.words s.value c l h).next ≡ true) × (covers_some fits (wrap c) h (m.refuse c l h) ≡ true))
    where
      acted_if : (action : Move AnyCall ℕ) (z : Option (Move C ℕ)) → narrow of action ≡ z → is_some z ≡ true → leaks action ≡ false → is_due (is_calling (slice_get s.seats p)) action ≡ true
          → fit_seat fits (seat_as wrap (slice_get s.seats p)) ≡ true
          → Acts fits (seat_as wrap (slice_get s.seats p)) action (act_if (world_rules machine) w p z).0 (seat_as wrap (slice_get (act_if (world_rules machine) w p z).1.state.seats p))
      acted_if action None is some k due fit = absurd (grind (arith, some))
      acted_if action (Some move) is some k due fit = acted m s p fits of wrap inverse begins rows action move is k due fit

  module _ (wrap : C → AnyCall) (q : ℕ) (other : q ≢ p) where
    unleaked_as : (o : Option (Seat C L)) → is_unleaked (seat_as wrap o) ≡ true → is_unleaked o ≡ true
    unleaked_as None is = refl
    unleaked_as (Some Idle) is = refl
    unleaked_as (Some (Calling c l h)) is = refl
    unleaked_as (Some (Holding h)) is = refl
    unleaked_as (Some (Leaked h)) is = absurd (grind (arith, is))
    unleaked_as (Some (Gone h)) is = absurd (grind (arith, is))

    beside_if : (z : Option (Move C ℕ)) → is_unleaked (seat_as wrap (slice_get s.seats q)) ≡ true
        → seat_as wrap (slice_get (act_if (world_rules machine) w p z).1.state.seats q) ≡ seat_as wrap (slice_get s.seats q)
    beside_if None is = refl
    beside_if (Some move) is = ap (seat_as wrap) (beside m s p q other (unleaked_as (slice_get s.seats q) is) move (slice_get s.seats p))

-- a party's call that steps of its own answer
module _ {O W C L : Type 0} (machine : O → Machine W ℕ C L (Answer ℕ)) (kind : Shown O W ℕ C L → AnyLock)
    (acts : (w : Shown O W ℕ C L) (p : ℕ) → any_act (kind w) p Step ≡ (let h = happens (machine w.object) w.state p Step in (h.outcome, kind (record { object = w.object; state = h.next }))))
    (in_call : (w : Shown O W ℕ C L) (p : ℕ) → any_in_call (kind w) p ≡ is_calling (slice_get w.state.seats p))
    (o : O) (p : ℕ)
  where
    abbrev m' : Machine W ℕ C L (Answer ℕ)
    m' = machine o

    abbrev lock_at : State W ℕ C L → AnyLock
    lock_at t = kind (record { object = o; state = t })

    -- what is to be shown of the first of so many steps
    abbrev First : ℕ → Happened W ℕ C L (Answer ℕ) → Type 0
    First k h = (is_over true h.outcome ≡ true) ⊎ ((is_over true h.outcome ≡ false) × (any_in_call (lock_at h.next) p ≡ true) × AnswersAlone any_rules (lock_at h.next) p k)

    abbrev Found : ℕ → Happened W ℕ C L (Answer ℕ) → Type 0
    Found k h = (answers {V = ℕ} {C = C} {L = L} {A = Answer ℕ} p p Step h.outcome (slice_get h.next.seats p) || occurs m' (answers p) h.next (replicate k (p, Step))) ≡ true

    alone : (k : ℕ) (t : State W ℕ C L) (c : C) (l : L) (h : Option Hold) → slice_get t.seats p ≡ Some (Calling c l h) → occurs m' (answers p) t (replicate k (p, Step)) ≡ true → AnswersAlone any_rules (lock_at t) p k
    alone zero t c l h at found = absurd (grind (arith, found))
    alone (suc k) t c l h at found =
        subst (λ to. (is_over true to.0 ≡ true) ⊎ ((is_over true to.0 ≡ false) × (any_in_call to.1 p ≡ true) × AnswersAlone any_rules to.1 p k)) (sym (acts (record { object = o; state = t }) p))
        (subst (First k) (sym is) (by (λ u i there so. alone k u c i h there so) _ (m'.step t.words t.value c l h).next at (subst (Found k) is found)))
      where
        is : happens m' t p Step ≡ moves_at m' t p Step (Some (Calling c l h))
        is = ap (moves_at m' t p Step) at

        by : ((u : State W ℕ C L) (i : L) → slice_get u.seats p ≡ Some (Calling c i h) → occurs m' (answers p) u (replicate k (p, Step)) ≡ true → AnswersAlone any_rules (lock_at u) p k)
            → (u : State W ℕ C L) (next : Next L (Answer ℕ)) → slice_get u.seats p ≡ Some (Calling c l h) → Found k (goes_on u p c h next) → First k (goes_on u p c h next)
        by on u (Answers a rest) there so = inl refl
        by on u (Continue i) there so =
            let here : slice_get (goes_on {A = Answer ℕ} u p c h (Continue i)).next.seats p ≡ Some (Calling c i h) = get-set_same u.seats p (Calling c i h) _ there in
            inr (refl, in_call _ p ∙ ap is_calling here, on (goes_on {A = Answer ℕ} u p c h (Continue i)).next i here so)

-- A lock of any kind

flag_inverse : (a : AnyCall) (c : FlagCall) → flag_call a ≡ Some c → call.Flag c ≡ a
flag_inverse (call.Flag d) c is = let same : c ≡ d = cc (is) in ap call.Flag same
flag_inverse a c is = absurd (grind (arith, is))

ticket_inverse : (a : AnyCall) (c : TicketCall) → ticket_call a ≡ Some c → call.Ticket c ≡ a
ticket_inverse (call.Ticket d) c is = let same : c ≡ d = cc (is) in ap call.Ticket same
ticket_inverse a c is = absurd (grind (arith, is))

fair_inverse : (a : AnyCall) (c : FairCall) → fair_call a ≡ Some c → call.Fair c ≡ a
fair_inverse (call.Fair d) c is = let same : c ≡ d = cc (is) in ap call.Fair same
fair_inverse a c is = absurd (grind (arith, is))

rw_inverse : (a : AnyCall) (c : RwCall) → rw_call a ≡ Some c → call.Rw c ≡ a
rw_inverse (call.Rw d) c is = let same : c ≡ d = cc (is) in ap call.Rw same
rw_inverse a c is = absurd (grind (arith, is))

once_inverse : (a : AnyCall) (c : OnceCall ℕ) → once_call a ≡ Some c → call.Once c ≡ a
once_inverse (call.Once d) c is = let same : c ≡ d = cc (is) in ap call.Once same
once_inverse a c is = absurd (grind (arith, is))

barrier_inverse : (a : AnyCall) (c : BarrierCall) → barrier_call a ≡ Some c → call.Barrier c ≡ a
barrier_inverse (call.Barrier d) c is = let same : c ≡ d = cc (is) in ap call.Barrier same
barrier_inverse a c is = absurd (grind (arith, is))

module _ (n : ℕ) where
  -- the lock after these moves of n parties
  abbrev pub lock_after : AnyLock → Moves → AnyLock
  lock_after first past = any_after (unused n first) past

  none_held : (h : Option Hold) → fits_held none_fits h ≡ true → h ≡ None
  none_held None fit = refl
  none_held (Some h) fit = absurd (grind (arith, fit))

  pub any_acted : (first : AnyLock) (past : Moves) (p : ℕ) (action : Move AnyCall ℕ) → is_of_kind first action ≡ true → leaks action ≡ false
      → is_due (any_in_call (lock_after first past) p) action ≡ true → fit_seat (any_fits first) (any_seat (lock_after first past) p) ≡ true
      → let did = any_act (lock_after first past) p action in Acts (any_fits first) (any_seat (lock_after first past) p) action did.0 (any_seat did.1 p)
  any_acted (any.Flag x) past p action kind k due fit =
      let v = x.object.value in let es = narrowed flag_call past in let s = state_at (flag_machine v) n es in
      acted_if (λ (f : Flag ℕ). flag_machine f.value) (record { object = x.object; state = s }) p is_write flag_call call.Flag flag_inverse (flag_begins v)
      (λ c l h there held. table_step (flag_table v) (covers_next is_write (call.Flag c) h) s.words s.value c l h (flag_rows c l h held)) action (narrow flag_call action) refl kind k due fit
  any_acted (any.Ticket x) past p action kind k due fit =
      let v = x.object.value in let first = x.object.first in let es = narrowed ticket_call past in let s = state_at (ticket_machine v first) n es in
      acted_if (λ (t : Ticket ℕ). ticket_machine t.value t.first) (record { object = x.object; state = s }) p is_ticket ticket_call call.Ticket ticket_inverse (ticket_begins v first)
      (λ c l h there held.
      table_step (ticket_table v first) (covers_next is_ticket (call.Ticket c) h) s.words s.value c l h
      (ticket_rows v first c l h held
      (some_row (ticket_notes v first) c l h p (seen_at (ticket_machine v first) n es).plain ((seen_at (ticket_machine v first) n es).span p) (row_of (ticket_notes v first) c l h) (calls (ticket_facts v first) n es p there).knows))) action (narrow ticket_call action) refl kind k due fit
  any_acted (any.Fair x) past p action kind k due fit =
      let v = x.object.value in let cap = x.object.cap in let patience = x.object.patience in let es = narrowed fair_call past in let s = state_at (fair_machine v cap patience) n es in
      acted_if (λ (f : Fair ℕ). fair_machine f.value f.cap f.patience) (record { object = x.object; state = s }) p fair_fits fair_call call.Fair fair_inverse (fair_begins v cap patience)
      (λ c l h there held.
      table_step (fair_table v cap patience) (covers_next fair_fits (call.Fair c) h) s.words s.value c l h
      (fair_rows v cap patience c l h held
      (some_row (fair_notes v cap patience) c l h p (seen_at (fair_machine v cap patience) n es).plain ((seen_at (fair_machine v cap patience) n es).span p) (row_of (fair_notes v cap patience) c l h) (calls (fair_facts v cap patience) n es p there).knows))) action (narrow fair_call action) refl kind k due fit
  any_acted (any.Rw x) past p action kind k due fit =
      let v = x.object.value in let cap = x.object.cap in let es = narrowed rw_call past in let s = state_at (rw_machine v cap) n es in
      acted_if (λ (r : Rw ℕ). rw_machine r.value r.cap) (record { object = x.object; state = s }) p is_held_some rw_call call.Rw rw_inverse (rw_begins v cap)
      (λ c l h there held.
      table_step (rw_table v cap) (covers_next is_held_some (call.Rw c) h) s.words s.value c l h
      (rw_rows v cap c l h held
      (some_row (rw_notes v cap) c l h p (seen_at (rw_machine v cap) n es).plain ((seen_at (rw_machine v cap) n es).span p) (row_of (rw_notes v cap) c l h) (calls (rw_facts v cap) n es p there).knows))) action (narrow rw_call action) refl kind k due fit
  any_acted (any.Once x) past p action kind k due fit =
      let v = x.object.value in let s = state_at (once_machine v) n (narrowed once_call past) in
      acted_if (λ (o : OnceObject ℕ). once_machine o.value) (record { object = x.object; state = s }) p none_fits once_call call.Once once_inverse (λ c h fit none. absurd (grind (arith, fit)))
      (λ c l h there held.
      subst (λ g. (covers_next none_fits (call.Once c) g ((once_machine v).step s.words s.value c l g).next ≡ true) × (covers_some none_fits (call.Once c) g ((once_machine v).refuse c l g) ≡ true)) (sym (none_held h held))
      (once_step v s.words s.value c l, refl)) action (narrow once_call action) refl kind k due fit
  any_acted (any.Barrier x) past p action kind k due fit =
      let g = x.object.n in let s = state_at (barrier_machine g) n (narrowed barrier_call past) in
      acted_if (λ (b : BarrierObject). barrier_machine b.n) (record { object = x.object; state = s }) p none_fits barrier_call call.Barrier barrier_inverse (λ c h fit none. absurd (grind (arith, fit)))
      (λ c l h there held.
      subst (λ f. (covers_next none_fits (call.Barrier c) f ((barrier_machine g).step s.words s.value c l f).next ≡ true) × (covers_some none_fits (call.Barrier c) f ((barrier_machine g).refuse c l f) ≡ true)) (sym (none_held h held))
      (table_step (barrier_table g) (covers_next none_fits (call.Barrier c) None) s.words s.value c l None (barrier_rows g c l))) action (narrow barrier_call action) refl kind k due fit

-- a move changes no other party's seat
pub any_beside : (lock : AnyLock) (p q : ℕ) (action : Move AnyCall ℕ) → q ≢ p → is_unleaked (any_seat lock q) ≡ true → any_seat (any_act lock p action).1 q ≡ any_seat lock q
any_beside (any.Flag x) p q action other is = beside_if (λ (f : Flag ℕ). flag_machine f.value) x p call.Flag q other (narrow flag_call action) is
any_beside (any.Ticket x) p q action other is = beside_if (λ (t : Ticket ℕ). ticket_machine t.value t.first) x p call.Ticket q other (narrow ticket_call action) is
any_beside (any.Fair x) p q action other is = beside_if (λ (f : Fair ℕ). fair_machine f.value f.cap f.patience) x p call.Fair q other (narrow fair_call action) is
any_beside (any.Rw x) p q action other is = beside_if (λ (r : Rw ℕ). rw_machine r.value r.cap) x p call.Rw q other (narrow rw_call action) is
any_beside (any.Once x) p q action other is = beside_if (λ (o : OnceObject ℕ). once_machine o.value) x p call.Once q other (narrow once_call action) is
any_beside (any.Barrier x) p q action other is = beside_if (λ (b : BarrierObject). barrier_machine b.n) x p call.Barrier q other (narrow barrier_call action) is

-- a move leaves the kind of the lock
pub same_fits : (lock : AnyLock) (p : ℕ) (action : Move AnyCall ℕ) (h : Hold) → any_fits (any_act lock p action).1 h ≡ any_fits lock h
same_fits (any.Flag x) p action h = refl
same_fits (any.Ticket x) p action h = refl
same_fits (any.Fair x) p action h = refl
same_fits (any.Rw x) p action h = refl
same_fits (any.Once x) p action h = refl
same_fits (any.Barrier x) p action h = refl

pub fits_after : (n : ℕ) (first : AnyLock) (past : Moves) (h : Hold) → any_fits (any_after (unused n first) past) h ≡ any_fits first h
fits_after n (any.Flag x) past h = refl
fits_after n (any.Ticket x) past h = refl
fits_after n (any.Fair x) past h = refl
fits_after n (any.Rw x) past h = refl
fits_after n (any.Once x) past h = refl
fits_after n (any.Barrier x) past h = refl

pub any_calls : (lock : AnyLock) (p : ℕ) → is_calling (any_seat lock p) ≡ any_in_call lock p
any_calls (any.Flag x) p = seat_calls call.Flag (slice_get x.state.seats p)
any_calls (any.Ticket x) p = seat_calls call.Ticket (slice_get x.state.seats p)
any_calls (any.Fair x) p = seat_calls call.Fair (slice_get x.state.seats p)
any_calls (any.Rw x) p = seat_calls call.Rw (slice_get x.state.seats p)
any_calls (any.Once x) p = seat_calls call.Once (slice_get x.state.seats p)
any_calls (any.Barrier x) p = seat_calls call.Barrier (slice_get x.state.seats p)

-- What keeps a party out

-- a party that a lock keeps out is in a call that waits
pub kept_out_calls : (n : ℕ) (first : AnyLock) (past : Moves) (p : ℕ) → IsKeptOutOf n first past p
    → (c : AnyCall) × (h : Option Hold) × (any_seat (any_after (unused n first) past) p ≡ Some (Calling c tt h)) × (waits (Begin c) ≡ true)
kept_out_calls n (any.Flag x) past p k = (call.Flag k.0, k.2, ap (seat_as call.Flag) k.3, sym (flag_waits x.object.value k.0 k.2) ∙ k.5)
kept_out_calls n (any.Ticket x) past p k = (call.Ticket k.0, k.2, ap (seat_as call.Ticket) k.3, sym (ticket_waits x.object.value x.object.first k.0 k.2) ∙ k.5)
kept_out_calls n (any.Fair x) past p k = (call.Fair k.0, k.2, ap (seat_as call.Fair) k.3, sym (fair_waits x.object.value x.object.cap x.object.patience k.0 k.2) ∙ k.5)
kept_out_calls n (any.Rw x) past p k = (call.Rw k.0, k.2, ap (seat_as call.Rw) k.3, sym (rw_waits x.object.value x.object.cap k.0 k.2) ∙ k.5)
kept_out_calls n (any.Once x) past p k = (call.Once k.0, k.2, ap (seat_as call.Once) k.3, sym (once_waits x.object.value k.0 k.2) ∙ k.5)
kept_out_calls n (any.Barrier x) past p k = absurd k

-- a party in a call is kept out, or steps of its own answer the call
module _ {W C L : Type 0} (m : Machine W ℕ C L (Answer ℕ)) (lawful : Lawful m) (Fine : Plain → C → Type 0) (n : ℕ) (past : Schedule C ℕ) (p : ℕ) where
  abbrev Goes : Type 0
  Goes = (c : C) × (l : L) × (h : Option Hold) × IsCalling m n past p c l h × (k : ℕ) × (occurs m (answers p) (state_at m n past) (replicate k (p, Step)) ≡ true)

  module _ (c : C) (l : L) (h : Option Hold) (there : IsCalling m n past p c l h) (fine : Fine (seen_at m n past).plain c) where
    by_open : (b : Bool) → is_open_now p (m.asks c h) ((seen_at m n past).span p) (seen_at m n past).plain ≡ b → (m.asks c h).waits ≡ true → WaitsInVain m Fine n past p ⊎ Goes
    by_open true opens must = let a = answered_alone m lawful n past p c l h there (inr opens) in inr (c, l, h, there, a.0, a.1)
    by_open false closed must = inl (c, l, h, there, fine, must, closed)

    by_wait : (b : Bool) → (m.asks c h).waits ≡ b → WaitsInVain m Fine n past p ⊎ Goes
    by_wait true must = by_open (is_open_now p (m.asks c h) ((seen_at m n past).span p) (seen_at m n past).plain) refl must
    by_wait false free = let a = answered_alone m lawful n past p c l h there (inl free) in inr (c, l, h, there, a.0, a.1)

  waits_or_goes : is_calling (slice_get (state_at m n past).seats p) ≡ true → ((c : C) (l : L) (h : Option Hold) → IsCalling m n past p c l h → Fine (seen_at m n past).plain c) → WaitsInVain m Fine n past p ⊎ Goes
  waits_or_goes is fine =
      let at = call_of (slice_get (state_at m n past).seats p) is in by_wait at.0 at.1 at.2 at.3 (fine at.0 at.1 at.2 at.3) (m.asks at.0 at.2).waits refl

module _ (n : ℕ) where
  abbrev Answered : AnyLock → ℕ → Type 0
  Answered lock p = (k : ℕ) × AnswersAlone any_rules lock p k

  -- the party's call is none that waits for what no party has to do
  abbrev HasToEnd : AnyLock → ℕ → Type 0
  HasToEnd lock p = (c : AnyCall) (h : Option Hold) → any_seat lock p ≡ Some (Calling c tt h) → awaits (Begin c) ≡ false

  ends_wait : (c : OnceCall ℕ) → awaits (Begin (call.Once c)) ≡ false → is_wait c ≡ false
  ends_wait c is = grind (arith, is)

  has_cap : (v cap : ℕ) (past : Schedule RwCall ℕ) → 1 ≤ cap → 1 ≤ (seen_at (rw_machine v cap) n past).plain.cap
  has_cap v cap past some = let shape = (good (rw_facts v cap) n past).shape in grind (arith, shape, some)

  -- a ticket of the lock is left after these moves; the cap of the lock allows a reader
  abbrev pub LeavesRoom : AnyLock → Moves → Type 0
  LeavesRoom (any.Ticket x) past = (seen_at (ticket_machine x.object.value x.object.first) n (narrowed ticket_call past)).plain.next < ticket_limit
  LeavesRoom (any.Rw x) past = 1 ≤ x.object.cap
  LeavesRoom _ past = Unit {0}

  pub kept_out_or_answered : (first : AnyLock) (past : Moves) (p : ℕ) → LeavesRoom first past → any_in_call (any_after (unused n first) past) p ≡ true → HasToEnd (any_after (unused n first) past) p
      → IsKeptOutOf n first past p ⊎ Answered (any_after (unused n first) past) p
  kept_out_or_answered (any.Flag x) past p room is ends =
      let v = x.object.value in
      ⊎_elim inl (λ (g : Goes (flag_machine v) (laws_of (flag_facts v)) (λ s c. Unit {0}) n (narrowed flag_call past) p).
      inr (g.4, alone (λ (f : Flag ℕ). flag_machine f.value) any.Flag (λ w q. refl) (λ w q. refl) x.object p g.4 _ g.0 g.1 g.2 g.3 g.5))
      (waits_or_goes (flag_machine v) (laws_of (flag_facts v)) (λ s c. Unit {0}) n (narrowed flag_call past) p is (λ c l h at. tt))
  kept_out_or_answered (any.Ticket x) past p room is ends =
      let v = x.object.value in let start = x.object.first in
      ⊎_elim inl (λ (g : Goes (ticket_machine v start) (laws_of (ticket_facts v start)) (λ s c. s.next < ticket_limit) n (narrowed ticket_call past) p).
      inr (g.4, alone (λ (t : Ticket ℕ). ticket_machine t.value t.first) any.Ticket (λ w q. refl) (λ w q. refl) x.object p g.4 _ g.0 g.1 g.2 g.3 g.5))
      (waits_or_goes (ticket_machine v start) (laws_of (ticket_facts v start)) (λ s c. s.next < ticket_limit) n (narrowed ticket_call past) p is (λ c l h at. room))
  kept_out_or_answered (any.Fair x) past p room is ends =
      let v = x.object.value in let cap = x.object.cap in let patience = x.object.patience in
      ⊎_elim inl (λ (g : Goes (fair_machine v cap patience) (laws_of (fair_facts v cap patience)) (λ s c. Unit {0}) n (narrowed fair_call past) p).
      inr (g.4, alone (λ (f : Fair ℕ). fair_machine f.value f.cap f.patience) any.Fair (λ w q. refl) (λ w q. refl) x.object p g.4 _ g.0 g.1 g.2 g.3 g.5))
      (waits_or_goes (fair_machine v cap patience) (laws_of (fair_facts v cap patience)) (λ s c. Unit {0}) n (narrowed fair_call past) p is (λ c l h at. tt))
  kept_out_or_answered (any.Rw x) past p room is ends =
      let v = x.object.value in let cap = x.object.cap in
      ⊎_elim inl (λ (g : Goes (rw_machine v cap) (laws_of (rw_facts v cap)) (λ s c. 1 ≤ s.cap) n (narrowed rw_call past) p).
      inr (g.4, alone (λ (r : Rw ℕ). rw_machine r.value r.cap) any.Rw (λ w q. refl) (λ w q. refl) x.object p g.4 _ g.0 g.1 g.2 g.3 g.5))
      (waits_or_goes (rw_machine v cap) (laws_of (rw_facts v cap)) (λ s c. 1 ≤ s.cap) n (narrowed rw_call past) p is (λ c l h at. has_cap v cap (narrowed rw_call past) room))
  kept_out_or_answered (any.Once x) past p room is ends =
      let v = x.object.value in
      ⊎_elim inl (λ (g : Goes (once_machine v) (laws_of (once_facts v)) (λ s c. is_wait c ≡ false) n (narrowed once_call past) p).
      inr (g.4, alone (λ (o : OnceObject ℕ). once_machine o.value) any.Once (λ w q. refl) (λ w q. refl) x.object p g.4 _ g.0 g.1 g.2 g.3 g.5))
      (waits_or_goes (once_machine v) (laws_of (once_facts v)) (λ s c. is_wait c ≡ false) n (narrowed once_call past) p is
      (λ c l h at. ends_wait c (ends (call.Once c) h (ap (seat_as call.Once) at))))
  kept_out_or_answered (any.Barrier x) past p room is ends =
      let at = call_of (slice_get (state_at (barrier_machine x.object.n) n (narrowed barrier_call past)).seats p) is in
      absurd (grind (arith, ends (call.Barrier at.0) at.2 (ap (seat_as call.Barrier) at.3)))

-- What a party has

-- a plain step that begins or ends no closure
abbrev is_runs : Effect → Bool
is_runs e = elim e [ runs ↦ true | _ ↦ false ]

abbrev leaves_phase : Change → Bool
leaves_phase (gets p ask) = not (is_runs (effect ask))
leaves_phase (completes p) = false
leaves_phase (fails p) = false
leaves_phase _ = true

given_phase : (s : Plain) (p : ℕ) (e : Effect) → not (is_runs e) ≡ true → (given s p e).phase ≡ s.phase
given_phase s p runs is = absurd (grind (arith, is))
given_phase s p e is = refl

same_phase : (s : Plain) (c : Change) → leaves_phase c ≡ true → (apply s c).phase ≡ s.phase
same_phase s (gets p ask) is = given_phase s p (effect ask) is
same_phase s (completes p) is = absurd (grind (arith, is))
same_phase s (fails p) is = absurd (grind (arith, is))
same_phase s c is = refl

leaves_by : (kind : LockKind) → ((p : ℕ) → is_step_of kind (gets p to_begin) ≡ false) → ((p : ℕ) → is_step_of kind (completes p) ≡ false) → ((p : ℕ) → is_step_of kind (fails p) ≡ false)
    → (c : Change) → is_step_of kind c ≡ true → leaves_phase c ≡ true
leaves_by kind begins ends stops (gets p to_begin) is = absurd (grind (arith, is, begins p))
leaves_by kind begins ends stops (completes p) is = absurd (grind (arith, is, ends p))
leaves_by kind begins ends stops (fails p) is = absurd (grind (arith, is, stops p))
leaves_by kind begins ends stops c is = refl

module _ {W V C L A : Type 0} (m : Machine W V C L A) (leaves : (c : Change) → is_step_of m.lock_kind c ≡ true → leaves_phase c ≡ true) where
  kept_phase : (s : Plain) (c : Option Change) → BelongsTo m.lock_kind c → (apply_some s c).phase ≡ s.phase
  kept_phase s None belongs = refl
  kept_phase s (Some c) belongs = same_phase s c (leaves c belongs)

  phase_after : (seen : Seen W V C L) (es : Schedule C V) → Every (KeepsPromises m) m seen es → (seen_after m seen es).plain.phase ≡ seen.plain.phase
  phase_after seen [] all = refl
  phase_after seen (e ∷ es) all = phase_after (scene m seen e.0 e.1).after es all.1 ∙ kept_phase seen.plain (scene m seen e.0 e.1).change all.0.belongs

-- the party is in no call, and holds nothing
abbrev pub is_resting : Option Sat → Bool
is_resting None = true
is_resting (Some Idle) = true
is_resting _ = false

has_nothing : (s : Plain) (p : ℕ) → entries p s ≡ no_entries → is_running p s.phase ≡ false → has_something s p ≡ false
has_nothing s p none quiet = grind (arith, none, quiet)

module _ {W C L A B : Type 0} {t : Table W ℕ C L A} {by : Machine W ℕ C L B} {notes : Notes t} (f : Plays by notes) (n : ℕ) (past : Schedule C ℕ) (p : ℕ) (wrap : C → AnyCall) where
  empty_at : (o : Option (Seat C L)) → slice_get (state_at (played t by) n past).seats p ≡ o → is_resting (seat_as wrap o) ≡ true → entries p (seen_at (played t by) n past).plain ≡ no_entries
  empty_at None at is =
      let seen = seen_at (played t by) n past in
      subst (λ o. StandsFor seen.plain p (seen.span p) o) (seat_is f n past p None at) ((good f n past).parties p).stands
  empty_at (Some Idle) at is =
      let seen = seen_at (played t by) n past in
      subst (λ o. StandsFor seen.plain p (seen.span p) o) (seat_is f n past p (Some Idle) at) ((good f n past).parties p).stands
  empty_at (Some (Calling c l h)) at is = absurd (grind (arith, is))
  empty_at (Some (Holding h)) at is = absurd (grind (arith, is))
  empty_at (Some (Leaked h)) at is = absurd (grind (arith, is))
  empty_at (Some (Gone h)) at is = absurd (grind (arith, is))

  empty : is_resting (seat_as wrap (slice_get (state_at (played t by) n past).seats p)) ≡ true → entries p (seen_at (played t by) n past).plain ≡ no_entries
  empty is = empty_at (slice_get (state_at (played t by) n past).seats p) refl is

module _ (value : Option ℕ) (n : ℕ) (past : Schedule (OnceCall ℕ) ℕ) (p : ℕ) (rests : is_resting (seat_as call.Once (slice_get (state_at (once_machine value) n past).seats p)) ≡ true) where
  abbrev now : Plain
  now = (seen_at (once_machine value) n past).plain

  runs_none : now.phase ≡ running p → ⊥
  runs_none is =
      let word : (state_at (once_machine value) n past).words ≡ 1 = grind (arith, word_is value n past, is) in
      let who = somebody_runs value n past word in
      let same : who.0 ≡ p = grind (arith, phase_of value n past who.0 who.1, is) in
      grind (arith, rests, same, who.1.calls)

  quiet_once : (b : Bool) → is_running p now.phase ≡ b → is_running p now.phase ≡ false
  quiet_once false is = is
  quiet_once true is = absurd (runs_none (grind (arith, is)))

-- a party that rests has nothing in the lock
pub rests_without : (n : ℕ) (first : AnyLock) (past : Moves) (p : ℕ) → is_resting (any_seat (any_after (unused n first) past) p) ≡ true → has_something (plain_after n first past) p ≡ false
rests_without n (any.Flag x) past p is =
    let v = x.object.value in let es = narrowed flag_call past in
    has_nothing (seen_at (flag_machine v) n es).plain p (empty (flag_facts v) n es p call.Flag is)
    (ap (is_running p) (phase_after (flag_machine v) (leaves_by flag (λ q. refl) (λ q. refl) (λ q. refl)) (opening (flag_machine v) n) es ((laws_of (flag_facts v)).keeps n es).each))
rests_without n (any.Ticket x) past p is =
    let v = x.object.value in let first = x.object.first in let es = narrowed ticket_call past in
    has_nothing (seen_at (ticket_machine v first) n es).plain p (empty (ticket_facts v first) n es p call.Ticket is)
    (ap (is_running p) (phase_after (ticket_machine v first) (leaves_by ticket (λ q. refl) (λ q. refl) (λ q. refl)) (opening (ticket_machine v first) n) es ((laws_of (ticket_facts v first)).keeps n es).each))
rests_without n (any.Fair x) past p is =
    let v = x.object.value in let cap = x.object.cap in let patience = x.object.patience in let es = narrowed fair_call past in
    has_nothing (seen_at (fair_machine v cap patience) n es).plain p (empty (fair_facts v cap patience) n es p call.Fair is)
    (ap (is_running p) (phase_after (fair_machine v cap patience) (leaves_by fair (λ q. refl) (λ q. refl) (λ q. refl)) (opening (fair_machine v cap patience) n) es ((laws_of (fair_facts v cap patience)).keeps n es).each))
rests_without n (any.Rw x) past p is =
    let v = x.object.value in let cap = x.object.cap in let es = narrowed rw_call past in
    has_nothing (seen_at (rw_machine v cap) n es).plain p (empty (rw_facts v cap) n es p call.Rw is)
    (ap (is_running p) (phase_after (rw_machine v cap) (leaves_by rw (λ q. refl) (λ q. refl) (λ q. refl)) (opening (rw_machine v cap) n) es ((laws_of (rw_facts v cap)).keeps n es).each))
rests_without n (any.Once x) past p is =
    let v = x.object.value in let es = narrowed once_call past in
    has_nothing (seen_at (once_machine v) n es).plain p (empty (once_facts v) n es p call.Once is) (quiet_once v n es p is (is_running p (seen_at (once_machine v) n es).plain.phase) refl)
rests_without n (any.Barrier x) past p is = grind arith

-- What a party holds after a call, as the tables of the objects say.
use Rattle.std.proofs.Common.{◌≡◌, ℕ, ◌+◌, ◌==◌, ◌||◌, nat_lt, Bool, true, false, Option, Some, None, is_some, refl, arith}
use Rattle.spin_step.specs.declared.answer.Answer.{Answer}
use Rattle.spin_step.specs.declared.answer.Answer.TheVariants.{NoValue, Leader}
use Rattle.spin_step.specs.declared.place.Hold.{Hold}
use Rattle.spin_step.specs.declared.place.Hold.TheVariants as hold
use Rattle.spin_step.specs.declared.schedule.Move.TheVariants.{Begin}
use Rattle.spin_step.specs.declared.stepped.Next.{Next}
use Rattle.spin_step.specs.declared.stepped.Next.TheVariants.{Continue, Answers}
use Rattle.spin_step.specs.Acts.{Memory, Act, load, load_if, load_for, enter, exchange, weak_exchange, attempt, retry, store, section, becomes, either, retried, step_by, refusal_by, filled, one_number, Table, machine_of}
use Rattle.spin_step.specs.Asks.{is_write, is_ticket, is_registered, is_held_some}
use Rattle.spin_step.specs.FlagCalls as flags
use Rattle.spin_step.specs.FlagCalls.{flag_machine}
use Rattle.spin_step.specs.TicketCalls as tickets
use Rattle.spin_step.specs.TicketCalls.{ticket_machine}
use Rattle.spin_step.specs.OnceCalls as onces
use Rattle.spin_step.specs.OnceCalls.{once_machine}
use Rattle.spin_step_more.specs.FairCalls as fairs
use Rattle.spin_step_more.specs.FairCalls.{fair_machine}
use Rattle.spin_step_more.specs.RwCalls as rws
use Rattle.spin_step_more.specs.RwCalls.{rw_machine}
use Rattle.spin_world.specs.BarrierTable as barriers
use Rattle.spin_world.specs.BarrierTable.{barrier_machine}
use Rattle.spin_step.specs.declared.flag_calls.FlagCall.{FlagCall}
use Rattle.spin_step.specs.declared.flag_calls.FlagCall.TheVariants as flag
use Rattle.spin_step.specs.declared.flag_calls.FlagPoint.{FlagPoint}
use Rattle.spin_step.specs.declared.flag_calls.FlagPoint.TheVariants as flag_point
use Rattle.spin_step.specs.declared.ticket_calls.TicketCall.{TicketCall}
use Rattle.spin_step.specs.declared.ticket_calls.TicketCall.TheVariants as ticket
use Rattle.spin_step.specs.declared.ticket_calls.TicketPoint.{TicketPoint}
use Rattle.spin_step.specs.declared.ticket_calls.TicketPoint.TheVariants as ticket_point
use Rattle.spin_step.specs.declared.once_calls.OnceCall.{OnceCall}
use Rattle.spin_step.specs.declared.once_calls.OnceCall.TheVariants as once
use Rattle.spin_step.specs.declared.once_calls.OncePoint.{OncePoint}
use Rattle.spin_step.specs.declared.once_calls.OncePoint.TheVariants as once_point
use Rattle.spin_step_more.specs.declared.fair_calls.FairCall.{FairCall}
use Rattle.spin_step_more.specs.declared.fair_calls.FairCall.TheVariants as fair
use Rattle.spin_step_more.specs.declared.fair_calls.FairPoint.{FairPoint}
use Rattle.spin_step_more.specs.declared.fair_calls.FairPoint.TheVariants as fair_point
use Rattle.spin_step_more.specs.declared.rw_calls.RwCall.{RwCall}
use Rattle.spin_step_more.specs.declared.rw_calls.RwCall.TheVariants as rw
use Rattle.spin_step_more.specs.declared.rw_calls.RwPoint.{RwPoint}
use Rattle.spin_step_more.specs.declared.rw_calls.RwPoint.TheVariants as rw_point
use Rattle.spin_world.specs.declared.barrier.BarrierCall.{BarrierCall}
use Rattle.spin_world.specs.declared.barrier.BarrierPoint.{BarrierPoint}
use Rattle.spin_world.specs.declared.barrier.BarrierPoint.TheVariants as barrier_point
use Rattle.spin_world_core.proofs.Shapes.{row_of}
use Rattle.spin_world.proofs.TicketOwed.{ticket_notes}
use Rattle.spin_world.proofs.FairOwed.{fair_notes}
use Rattle.spin_world.proofs.RwOwed.{rw_notes}
use Rattle.spin_explore.specs.declared.kinds.AnyCall.{AnyCall}
use Rattle.spin_explore.specs.declared.kinds.AnyCall.TheVariants as call
use Rattle.spin_explore.specs.Orders.{gives, is_part, promised}
use Rattle.spin_laws.proofs.Seated.{part_of, pass_some, fits_held, covers, covers_next, covers_some}

module _ {L A : Type 0} (test : Next L A → Bool) where
  either_passes : (b : Bool) (x y : Next L A) → test x ≡ true → test y ≡ true → test (either b x y) ≡ true
  either_passes true x y one other = one
  either_passes false x y one other = other

  becomes_passes : {X W : Type 0} (V : Type 0) (put : X → W) (w : W) (o : Option X) (won lost : Next L A) → test won ≡ true → test lost ≡ true → test (becomes {V = V} put w o won lost).next ≡ true
  becomes_passes V put w None won lost one other = other
  becomes_passes V put w (Some x) won lost one other = one

  retried_passes : {W : Type 0} (V : Type 0) (put : ℕ → W) (b : Bool) (w : W) (o : Option ℕ) (won found missed : Next L A) → test won ≡ true → test found ≡ true → test missed ≡ true
      → test (retried {V = V} put b w o won found missed).next ≡ true
  retried_passes V put true w o won found missed one two three = becomes_passes V put w o won missed one three
  retried_passes V put false w o won found missed one two three = either_passes (is_some o) found missed two three

module _ {W L A : Type 0} (test : Next L A → Bool) where
  -- however the step goes, how the call goes on passes the test
  abbrev pub AllPass : Act W L A → Type 0
  AllPass (load next) = (n : ℕ) → test (next n) ≡ true
  AllPass (load_if is a b) = ((n : ℕ) → test (a n) ≡ true) × ((n : ℕ) → test (b n) ≡ true)
  AllPass (load_for f step found missed) = ((n : ℕ) → test (found n) ≡ true) × (test missed ≡ true)
  AllPass (enter is step won lost) = (test won ≡ true) × (test lost ≡ true)
  AllPass (exchange operation step won lost) = (test won ≡ true) × ((n : ℕ) → test (lost n) ≡ true)
  AllPass (weak_exchange k f step won lost) = (test won ≡ true) × (test lost ≡ true)
  AllPass (attempt k f step won lost) = (test won ≡ true) × (test lost ≡ true)
  AllPass (retry k f step won found missed) = (test won ≡ true) × ((n : ℕ) → test (found n) ≡ true) × (test missed ≡ true)
  AllPass (store can operation step next) = test next ≡ true
  AllPass (section can f step won lost) = ((w : W) → test (won w) ≡ true) × ((w : W) → test (lost w) ≡ true)

  pub passes : (V : Type 0) (m : Memory W) (i : ℕ) (act : Act W L A) (w : W) → AllPass act → test (step_by {V = V} m i act w).next ≡ true
  passes V m i (load next) w all = all _
  passes V m i (load_if is a b) w all = either_passes test _ _ _ (all.0 _) (all.1 _)
  passes V m i (load_for f step found missed) w all = either_passes test _ _ _ (all.0 _) all.1
  passes V m i (enter is step won lost) w all = becomes_passes test V _ _ _ won lost all.0 all.1
  passes V m i (exchange operation step won lost) w all = becomes_passes test V _ _ _ won _ all.0 (all.1 _)
  passes V m i (weak_exchange k f step won lost) w all = becomes_passes test V _ _ _ won lost all.0 all.1
  passes V m i (attempt k f step won lost) w all = becomes_passes test V _ _ _ won lost all.0 all.1
  passes V m i (retry k f step won found missed) w all = retried_passes test V _ _ _ _ won _ missed all.0 (all.1 _) all.2
  passes V m i (store can operation step next) w all = all
  passes V m i (section can f step won lost) w all = becomes_passes test V _ _ _ _ _ (all.0 w) (all.1 w)

  pub refusal_passes : (act : Act W L A) → AllPass act → pass_some test (refusal_by act) ≡ true
  refusal_passes (weak_exchange k f step won lost) all = all.1
  refusal_passes act all = refl

-- the step and the refusal of a table's machine
pub table_step : {W V C L A : Type 0} (t : Table W V C L A) (test : Next L A → Bool) (w : W) (value : Option V) (c : C) (l : L) (h : Option Hold) → AllPass test (t.act c l h)
    → (test ((machine_of t).step w value c l h).next ≡ true) × (pass_some test ((machine_of t).refuse c l h) ≡ true)
table_step {V = V} t test w value c l h all = (passes test V t.memory (t.word l) (t.act c l h) w all, refusal_passes test (t.act c l h) all)

-- what a party still holds after a call that gives nothing back
still : (c : AnyCall) (fits : Hold → Bool) (h : Option Hold) → fits_held fits h ≡ true → ((g : Hold) → is_part (gives (Begin c)) (part_of g) ≡ false) → covers fits c h h ≡ true
still c fits None fit none = refl
still c fits (Some g) fit none = grind (arith, fit, none g)

either_covers : (L A : Type 0) (fits : Hold → Bool) (c : AnyCall) (h : Option Hold) (b : Bool) (x y : Next L A) → covers_next fits c h x ≡ true → covers_next fits c h y ≡ true → covers_next fits c h (either b x y) ≡ true
either_covers L A fits c h b x y one other = either_passes (covers_next fits c h) b x y one other

-- The flag

abbrev FlagRow : FlagCall → FlagPoint → Option Hold → Type 0
FlagRow c l h = AllPass {L = FlagPoint} {A = Answer ℕ} (covers_next is_write (call.Flag c) h) (flags.act_of c l h)

pub flag_rows : (c : FlagCall) (l : FlagPoint) (h : Option Hold) → fits_held is_write h ≡ true → FlagRow c l h
flag_rows flag.Lock flag_point.First h fit = (refl, refl)
flag_rows flag.Lock flag_point.Second h fit = (λ n. refl, λ n. refl)
flag_rows flag.TryLock l h fit = (refl, λ n. still (call.Flag flag.TryLock) is_write h fit (λ g. refl))
flag_rows flag.TryLockWeak l h fit = (refl, still (call.Flag flag.TryLockWeak) is_write h fit (λ g. refl))
flag_rows flag.IsLocked l h fit = λ n. still (call.Flag flag.IsLocked) is_write h fit (λ g. refl)
flag_rows flag.Release l h fit = refl

pub flag_begins : (v : ℕ) (c : FlagCall) (h : Hold) → is_write h ≡ true → (flag_machine v).begin c (Some h) ≡ None → is_part (gives (Begin (call.Flag c))) (part_of h) ≡ false
flag_begins v flag.Release h fit none = absurd (grind (arith, fit, none))
flag_begins v c h fit none = refl

pub flag_waits : (v : ℕ) (c : FlagCall) (h : Option Hold) → ((flag_machine v).asks c h).waits ≡ (promised (call.Flag c)).waits
flag_waits v flag.Lock h = refl
flag_waits v flag.TryLock h = refl
flag_waits v flag.TryLockWeak h = refl
flag_waits v flag.IsLocked h = refl
flag_waits v flag.Release h = refl

-- The ticket lock

abbrev TicketRow : TicketCall → TicketPoint → Option Hold → Type 0
TicketRow c l h = AllPass {L = TicketPoint} {A = Answer ℕ} (covers_next is_ticket (call.Ticket c) h) (tickets.act_of l h)

pub ticket_rows : (v first : ℕ) (c : TicketCall) (l : TicketPoint) (h : Option Hold) → fits_held is_ticket h ≡ true → is_some (row_of (ticket_notes v first) c l h) ≡ true → TicketRow c l h
ticket_rows v first ticket.Lock ticket_point.LoadNext h fit row = (λ n. refl, refl)
ticket_rows v first ticket.Lock (ticket_point.Take n) h fit row = (refl, λ k. refl, refl)
ticket_rows v first ticket.Lock (ticket_point.Await t) h fit row = (refl, refl)
ticket_rows v first ticket.TryLock ticket_point.TryLoadNext h fit row = λ n. refl
ticket_rows v first ticket.TryLock (ticket_point.TryLoadServing n) h fit row = (λ k. refl, λ k. still (call.Ticket ticket.TryLock) is_ticket h fit (λ g. refl))
ticket_rows v first ticket.TryLock (ticket_point.TryTake n) h fit row = (refl, still (call.Ticket ticket.TryLock) is_ticket h fit (λ g. refl))
ticket_rows v first ticket.IsLocked ticket_point.LookServing h fit row = λ k. refl
ticket_rows v first ticket.IsLocked (ticket_point.LookNext k) h fit row = λ n. still (call.Ticket ticket.IsLocked) is_ticket h fit (λ g. refl)
ticket_rows v first c (ticket_point.Serve t) h fit row = refl
ticket_rows v first c l h fit row = absurd (grind (arith, row))

pub ticket_begins : (v first : ℕ) (c : TicketCall) (h : Hold) → is_ticket h ≡ true → (ticket_machine v first).begin c (Some h) ≡ None → is_part (gives (Begin (call.Ticket c))) (part_of h) ≡ false
ticket_begins v first ticket.Release h fit none = absurd (grind (arith, fit, none))
ticket_begins v first c h fit none = refl

pub ticket_waits : (v first : ℕ) (c : TicketCall) (h : Option Hold) → ((ticket_machine v first).asks c h).waits ≡ (promised (call.Ticket c)).waits
ticket_waits v first ticket.Lock h = refl
ticket_waits v first ticket.TryLock h = refl
ticket_waits v first ticket.IsLocked h = refl
ticket_waits v first ticket.Release h = refl

-- The fair lock

abbrev pub fair_fits : Hold → Bool
fair_fits h = is_write h || is_registered h

abbrev FairRow : ℕ → ℕ → FairCall → FairPoint → Option Hold → Type 0
FairRow cap patience c l h = AllPass {L = FairPoint} {A = Answer ℕ} (covers_next fair_fits (call.Fair c) h) (fairs.act_of cap patience c l h)

module _ (v cap patience : ℕ) where
  pub fair_rows : (c : FairCall) (l : FairPoint) (h : Option Hold) → fits_held fair_fits h ≡ true → is_some (row_of (fair_notes v cap patience) c l h) ≡ true → FairRow cap patience c l h
  fair_rows fair.Lock (fair_point.Attempt n) h fit row = (refl, refl)
  fair_rows fair.Lock (fair_point.Look n) h fit row = (λ w. either_covers FairPoint (Answer ℕ) fair_fits (call.Fair fair.Lock) h (nat_lt n patience) (Continue (fair_point.Look (n + 1))) (Continue fair_point.Load) refl refl, λ w. refl)
  fair_rows fair.Lock fair_point.Load h fit row = (λ n. refl, refl)
  fair_rows fair.Lock (fair_point.Register n) h fit row = (refl, λ w. refl, refl)
  fair_rows fair.Lock fair_point.SetFlag h fit row = (refl, λ w. refl)
  fair_rows fair.Lock fair_point.Await h fit row = (λ w. refl, λ w. refl)
  fair_rows fair.Lock fair_point.Unregister h fit row = refl
  fair_rows fair.TryLock fair_point.First h fit row = (refl, λ w. still (call.Fair fair.TryLock) fair_fits h fit (λ g. refl))
  fair_rows fair.TryLockStarver fair_point.First h fit row = (refl, λ w. still (call.Fair fair.TryLockStarver) fair_fits h fit (λ g. refl))
  fair_rows fair.IsLocked fair_point.First h fit row = λ w. still (call.Fair fair.IsLocked) fair_fits h fit (λ g. refl)
  fair_rows fair.Starve fair_point.Load h fit row = (λ n. refl, still (call.Fair fair.Starve) fair_fits h fit (λ g. refl))
  fair_rows fair.Starve (fair_point.Register n) h fit row = (refl, λ w. refl, still (call.Fair fair.Starve) fair_fits h fit (λ g. refl))
  fair_rows fair.StarverTryLockFair fair_point.First h fit row = (refl, λ w. still (call.Fair fair.StarverTryLockFair) fair_fits h fit (λ g. refl))
  fair_rows fair.StarverTryLockFair fair_point.Unregister h fit row = refl
  fair_rows fair.StarverTryLock fair_point.SetFlag h fit row = (refl, λ w. still (call.Fair fair.StarverTryLock) fair_fits h fit (λ g. refl))
  fair_rows fair.StarverTryLock fair_point.Unregister h fit row = refl
  fair_rows fair.StarverLock fair_point.SetFlag h fit row = (refl, λ w. refl)
  fair_rows fair.StarverLock fair_point.Await h fit row = (λ w. refl, λ w. refl)
  fair_rows fair.StarverLock fair_point.Unregister h fit row = refl
  fair_rows fair.StarverDrop fair_point.First h fit row = refl
  fair_rows fair.Release fair_point.First h fit row = refl
  fair_rows c l h fit row = absurd (grind (arith, row))

  pub fair_begins : (c : FairCall) (h : Hold) → fair_fits h ≡ true → (fair_machine v cap patience).begin c (Some h) ≡ None → is_part (gives (Begin (call.Fair c))) (part_of h) ≡ false
  fair_begins fair.Release h fit none = grind (arith, fit, none)
  fair_begins fair.StarverLock h fit none = grind (arith, fit, none)
  fair_begins fair.StarverDrop h fit none = grind (arith, fit, none)
  fair_begins c h fit none = refl

  pub fair_waits : (c : FairCall) (h : Option Hold) → ((fair_machine v cap patience).asks c h).waits ≡ (promised (call.Fair c)).waits
  fair_waits fair.Lock h = refl
  fair_waits fair.TryLock h = refl
  fair_waits fair.TryLockStarver h = refl
  fair_waits fair.IsLocked h = refl
  fair_waits fair.Starve h = refl
  fair_waits fair.StarverTryLockFair h = refl
  fair_waits fair.StarverTryLock h = refl
  fair_waits fair.StarverLock h = refl
  fair_waits fair.StarverDrop h = refl
  fair_waits fair.Release h = refl

-- The read-write lock

abbrev RwRow : ℕ → RwCall → RwPoint → Option Hold → Type 0
RwRow cap c l h = AllPass {L = RwPoint} {A = Answer ℕ} (covers_next is_held_some (call.Rw c) h) (rws.act_of cap c l h)

module _ (v cap : ℕ) where
  -- a call that turns what a party holds into something else that it holds
  turned : (c : AnyCall) (h : Option Hold) (g : Hold) → is_some h ≡ true → fits_held is_held_some h ≡ true → is_held_some g ≡ true → ((f : Hold) → is_part (gives (Begin c)) (part_of f) ≡ false)
      → covers is_held_some c h (Some g) ≡ true
  turned c None g some fit to none = absurd (grind (arith, some))
  turned c (Some f) g some fit to none = grind (arith, fit, to, none g)

  pub rw_rows : (c : RwCall) (l : RwPoint) (h : Option Hold) → fits_held is_held_some h ≡ true → is_some (row_of (rw_notes v cap) c l h) ≡ true → RwRow cap c l h
  rw_rows rw.TryRead (rw_point.Exchange n) h fit row = (refl, λ w. refl, still (call.Rw rw.TryRead) is_held_some h fit (λ g. refl))
  rw_rows rw.TryRead rw_point.First h fit row = (λ n. refl, still (call.Rw rw.TryRead) is_held_some h fit (λ g. refl))
  rw_rows rw.TryRead rw_point.Asking h fit row = (λ n. refl, still (call.Rw rw.TryRead) is_held_some h fit (λ g. refl))
  rw_rows rw.Read (rw_point.Exchange n) h fit row = (refl, λ w. refl, refl)
  rw_rows rw.Read rw_point.First h fit row = (λ n. refl, refl)
  rw_rows rw.Read rw_point.Asking h fit row = (λ n. refl, refl)
  rw_rows rw.TryUpgradeableRead (rw_point.Exchange n) h fit row = (refl, λ w. refl, still (call.Rw rw.TryUpgradeableRead) is_held_some h fit (λ g. refl))
  rw_rows rw.TryUpgradeableRead rw_point.First h fit row = (λ n. refl, still (call.Rw rw.TryUpgradeableRead) is_held_some h fit (λ g. refl))
  rw_rows rw.TryUpgradeableRead rw_point.Asking h fit row = (λ n. refl, still (call.Rw rw.TryUpgradeableRead) is_held_some h fit (λ g. refl))
  rw_rows rw.UpgradeableRead (rw_point.Exchange n) h fit row = (refl, λ w. refl, refl)
  rw_rows rw.UpgradeableRead rw_point.First h fit row = (λ n. refl, refl)
  rw_rows rw.UpgradeableRead rw_point.Asking h fit row = (λ n. refl, refl)
  rw_rows rw.TryWrite l h fit row = (refl, λ w. still (call.Rw rw.TryWrite) is_held_some h fit (λ g. refl))
  rw_rows rw.TryWriteWeak l h fit row = (refl, still (call.Rw rw.TryWriteWeak) is_held_some h fit (λ g. refl))
  rw_rows rw.Write l h fit row = (refl, refl)
  rw_rows rw.ReaderCount l h fit row = λ w. still (call.Rw rw.ReaderCount) is_held_some h fit (λ g. refl)
  rw_rows rw.WriterCount l h fit row = λ w. still (call.Rw rw.WriterCount) is_held_some h fit (λ g. refl)
  rw_rows rw.IsLocked l h fit row = λ w. still (call.Rw rw.IsLocked) is_held_some h fit (λ g. refl)
  rw_rows rw.TryUpgrade l h fit row =
      (turned (call.Rw rw.TryUpgrade) h hold.Write (grind (arith, row)) fit refl (λ g. refl), λ w. still (call.Rw rw.TryUpgrade) is_held_some h fit (λ g. refl))
  rw_rows rw.TryUpgradeWeak l h fit row =
      (turned (call.Rw rw.TryUpgradeWeak) h hold.Write (grind (arith, row)) fit refl (λ g. refl), still (call.Rw rw.TryUpgradeWeak) is_held_some h fit (λ g. refl))
  rw_rows rw.Upgrade rw_point.Asking h fit row = (turned (call.Rw rw.Upgrade) h hold.Write (grind (arith, row)) fit refl (λ g. refl), refl)
  rw_rows rw.Upgrade rw_point.First h fit row = refl
  rw_rows rw.Upgrade (rw_point.Exchange n) h fit row = refl
  rw_rows rw.Downgrade l (Some hold.Write) fit row = refl
  rw_rows rw.Downgrade l (Some hold.Read) fit row = refl
  rw_rows rw.Downgrade l (Some hold.Upgradable) fit row = refl
  rw_rows rw.Downgrade l (Some (hold.Ticket t)) fit row = absurd (grind (arith, fit))
  rw_rows rw.Downgrade l (Some hold.Starver) fit row = absurd (grind (arith, fit))
  rw_rows rw.Downgrade l None fit row = absurd (grind (arith, row))
  rw_rows rw.DowngradeToUpgradeable l h fit row = turned (call.Rw rw.DowngradeToUpgradeable) h hold.Upgradable (grind (arith, row)) fit refl (λ g. refl)
  rw_rows rw.Release l (Some hold.Read) fit row = refl
  rw_rows rw.Release l (Some hold.Upgradable) fit row = refl
  rw_rows rw.Release l (Some hold.Write) fit row = refl
  rw_rows rw.Release l (Some (hold.Ticket t)) fit row = refl
  rw_rows rw.Release l (Some hold.Starver) fit row = refl
  rw_rows rw.Release l None fit row = refl

  pub rw_begins : (c : RwCall) (h : Hold) → is_held_some h ≡ true → (rw_machine v cap).begin c (Some h) ≡ None → is_part (gives (Begin (call.Rw c))) (part_of h) ≡ false
  rw_begins rw.Release h fit none = absurd (grind (arith, fit, none))
  rw_begins c h fit none = refl

  pub rw_waits : (c : RwCall) (h : Option Hold) → ((rw_machine v cap).asks c h).waits ≡ (promised (call.Rw c)).waits
  rw_waits rw.TryRead h = refl
  rw_waits rw.Read h = refl
  rw_waits rw.TryUpgradeableRead h = refl
  rw_waits rw.UpgradeableRead h = refl
  rw_waits rw.TryWrite h = refl
  rw_waits rw.TryWriteWeak h = refl
  rw_waits rw.Write h = refl
  rw_waits rw.ReaderCount h = refl
  rw_waits rw.WriterCount h = refl
  rw_waits rw.IsLocked h = refl
  rw_waits rw.TryUpgrade h = refl
  rw_waits rw.TryUpgradeWeak h = refl
  rw_waits rw.Upgrade h = refl
  rw_waits rw.Downgrade h = refl
  rw_waits rw.DowngradeToUpgradeable h = refl
  rw_waits rw.Release h = refl

-- A `Once` and a barrier, of which a party holds nothing

abbrev pub none_fits : Hold → Bool
none_fits h = false

abbrev OnceRow : OnceCall ℕ → OncePoint → Type 0
OnceRow c l = AllPass {L = OncePoint} {A = Answer (Unit {0})} (covers_next none_fits (call.Once c) None) (onces.act_of c l None)

runs_row : (c : OnceCall ℕ) (end : onces.OnceAct) (l : OncePoint) → AllPass (covers_next none_fits (call.Once c) None) end → AllPass (covers_next none_fits (call.Once c) None) (onces.runs end l None)
runs_row c end once_point.Look last = (λ w. refl, λ w. refl)
runs_row c end once_point.TryBegin last = (refl, λ w. either_covers OncePoint (Answer (Unit {0})) none_fits (call.Once c) None (onces.is_there w) (onces.tells_value None) (Continue once_point.Await) refl refl)
runs_row c end once_point.Await last = (λ w. refl, λ w. either_covers OncePoint (Answer (Unit {0})) none_fits (call.Once c) None (w == 0) (Continue once_point.TryBegin) (Continue once_point.Await) refl refl)
runs_row c end once_point.Run last = last

pub once_rows : (c : OnceCall ℕ) (l : OncePoint) → OnceRow c l
once_rows once.Wait l = (λ w. refl, λ w. refl)
once_rows once.Poll l = (λ w. refl, λ w. either_covers OncePoint (Answer (Unit {0})) none_fits (call.Once once.Poll) None (w == 0) (Answers NoValue None) (Continue once_point.Look) refl refl)
once_rows once.Get l = (λ w. refl, λ w. refl)
once_rows once.IsCompleted l = λ w. refl
once_rows (once.CallOnce v) l = runs_row (once.CallOnce v) _ l refl
once_rows (once.TryCallOnceOk v) l = runs_row (once.TryCallOnceOk v) _ l refl
once_rows once.TryCallOnceErr l = runs_row once.TryCallOnceErr _ l refl
once_rows (once.InitFromRef v) l = runs_row (once.InitFromRef v) _ l refl

-- an answer that is given its value leaves the party what it did without
pub filled_covers : (fits : Hold → Bool) (c : AnyCall) (h : Option Hold) (value : Option ℕ) (next : Next OncePoint (Answer (Unit {0}))) → covers_next fits c h next ≡ true → covers_next fits c h (filled value next) ≡ true
filled_covers fits c h value (Continue l) is = is
filled_covers fits c h value (Answers a after) is = is

pub once_step : (opening : Option ℕ) (w : ℕ) (value : Option ℕ) (c : OnceCall ℕ) (l : OncePoint) → covers_next none_fits (call.Once c) None ((once_machine opening).step w value c l None).next ≡ true
once_step opening w value c l =
    filled_covers none_fits (call.Once c) None _ (step_by {V = ℕ} one_number 0 (onces.act_of c l None) w).next
    (passes (covers_next none_fits (call.Once c) None) ℕ one_number 0 (onces.act_of c l None) w (once_rows c l))

pub once_waits : (value : Option ℕ) (c : OnceCall ℕ) (h : Option Hold) → ((once_machine value).asks c h).waits ≡ (promised (call.Once c)).waits
once_waits value c h = refl

abbrev BarrierRow : ℕ → BarrierCall → BarrierPoint → Type 0
BarrierRow n c l = AllPass {L = BarrierPoint} {A = Answer ℕ} (covers_next none_fits (call.Barrier c) None) (barriers.act_of n l None)

pub barrier_rows : (n : ℕ) (c : BarrierCall) (l : BarrierPoint) → BarrierRow n c l
barrier_rows n c barrier_point.Arrive = (λ w. either_covers BarrierPoint (Answer ℕ) none_fits (call.Barrier c) None (barriers.leads_group n w) (Answers Leader None) (Continue (barrier_point.Leave w.generation)) refl refl, λ w. refl)
barrier_rows n c (barrier_point.Leave g) = (λ k. refl, λ k. refl)

-- The law of several locks, for locks of the explorer's kinds.
use Rattle.std.proofs.Common.{◌≡◌, ℕ, ◌≤◌, false, Option, Some, None, unwrap_or, refl, ap, subst, arith}
use Rattle.spin_step.specs.Plain.{Plain, Ask, is_open_to}
use Rattle.spin_step.specs.Parties.{IsExclusive}
use Rattle.spin_world_core.proofs.Reached.{good}
use Rattle.spin_world.proofs.FlagOwed.{flag_facts}
use Rattle.spin_world.proofs.TicketOwed.{ticket_facts}
use Rattle.spin_world.proofs.RwOwed.{rw_facts}
use Rattle.spin_world.proofs.FairOwed.{fair_facts}
use Rattle.spin_world.proofs.OnceOwed.{once_facts}
use Rattle.spin_explore.specs.declared.kinds.AnyLock.{AnyLock}
use Rattle.spin_explore.specs.declared.kinds.AnyLock.TheVariants as any
use Rattle.spin_explore.specs.Kinds.{narrowed, flag_call, ticket_call, fair_call, rw_call, once_call}
use Rattle.spin_laws.specs.Several.{Wait, HasItsOwn, IsKeptOut}
use Rattle.spin_laws.specs.AnyLocks.{Moves, plain_after, IsKeptOutOf, TellsWho, UseInOrder, IsFreeOfDeadlock}
use Rattle.spin_laws.proofs.KeptOut.{flag_asks, ticket_asks, fair_asks, rw_asks, once_asks}
use Rattle.spin_laws.proofs.Several.{no_deadlock}

-- what the party asks of the plain lock, and that this is closed
abbrev Asks : Plain → ℕ → Type 0
Asks s p = (ask : Ask) × HasItsOwn s p ask × (is_open_to s p ask ≡ false)

asks_of : (n : ℕ) (lock : AnyLock) (past : Moves) (p : ℕ) → IsKeptOutOf n lock past p → Asks (plain_after n lock past) p
asks_of n (any.Flag x) past p k = flag_asks x.object.value n (narrowed flag_call past) p k.0 k.1 k.2 k.3 k.4 k.5 k.6
asks_of n (any.Ticket x) past p k = ticket_asks x.object.value x.object.first n (narrowed ticket_call past) p k.0 k.1 k.2 k.3 k.4 k.5 k.6
asks_of n (any.Fair x) past p k = fair_asks x.object.value x.object.cap x.object.patience n (narrowed fair_call past) p k.0 k.1 k.2 k.3 k.4 k.5 k.6
asks_of n (any.Rw x) past p k = rw_asks x.object.value x.object.cap n (narrowed rw_call past) p k.0 k.1 k.2 k.3 k.4 k.5 k.6
asks_of n (any.Once x) past p k = once_asks x.object.value n (narrowed once_call past) p k.0 k.1 k.2 k.3 k.4 k.5 k.6
asks_of n (any.Barrier x) past p k = absurd k

exclusive_of : (n : ℕ) (lock : AnyLock) (past : Moves) → IsExclusive (plain_after n lock past)
exclusive_of n (any.Flag x) past = (good (flag_facts x.object.value) n (narrowed flag_call past)).exclusive
exclusive_of n (any.Ticket x) past = (good (ticket_facts x.object.value x.object.first) n (narrowed ticket_call past)).exclusive
exclusive_of n (any.Fair x) past = (good (fair_facts x.object.value x.object.cap x.object.patience) n (narrowed fair_call past)).exclusive
exclusive_of n (any.Rw x) past = (good (rw_facts x.object.value x.object.cap) n (narrowed rw_call past)).exclusive
exclusive_of n (any.Once x) past = (good (once_facts x.object.value) n (narrowed once_call past)).exclusive
exclusive_of n (any.Barrier x) past = grind arith

module _ (n ranks : ℕ) (lock : ℕ → AnyLock) (past : ℕ → Moves) (at : ℕ → Option ℕ) (tells : TellsWho n lock past ranks at) (orders : UseInOrder n lock past at) where
  abbrev plain : ℕ → Plain
  plain k = plain_after n (lock k) (past k)

  asks : (p k : ℕ) → at p ≡ Some k → Asks (plain k) p
  asks p k is = asks_of n (lock k) (past k) p (tells.0 p k is).1

  wait_by : (p : ℕ) (o : Option ℕ) → at p ≡ o → Option Wait
  wait_by p None is = None
  wait_by p (Some k) is = Some (record { at = k; ask = (asks p k is).0 })

  abbrev waits : ℕ → Option Wait
  waits p = wait_by p (at p) refl

  abbrev Told : ℕ → Wait → Type 0
  Told p w = (at p ≡ Some w.at) × HasItsOwn (plain w.at) p w.ask × (is_open_to (plain w.at) p w.ask ≡ false)

  told_by : (p : ℕ) (o : Option ℕ) (is : at p ≡ o) (w : Wait) → wait_by p o is ≡ Some w → Told p w
  unfolding wait_by
  told_by p None is w e = absurd (grind (arith, e))
  told_by p (Some k) is w e =
      let v : Wait = record { at = k; ask = (asks p k is).0 } in
      subst (Told p) (ap (λ o. unwrap_or o v) e) (is, (asks p k is).1, (asks p k is).2)

  told : (p : ℕ) (w : Wait) → waits p ≡ Some w → Told p w
  told p w e = told_by p (at p) refl w e

  some_by : (p : ℕ) (o : Option ℕ) (is : at p ≡ o) (k : ℕ) → o ≡ Some k → (w : Wait) × (wait_by p o is ≡ Some w)
  unfolding wait_by
  some_by p None is k e = absurd (grind (arith, e))
  some_by p (Some j) is k e = (record { at = j; ask = (asks p j is).0 }, refl)

  kept : (p k : ℕ) → at p ≡ Some k → (w : Wait) × IsKeptOut plain waits p w
  kept p k is =
      let w = some_by p (at p) refl k is in (w.0, (w.1, (told p w.0 w.1).2))

  pub free : IsFreeOfDeadlock n lock past at
  free p k is =
      let w = kept p k is in
      let here : w.0.at ≡ k = grind (arith, (told p w.0 w.1.0).0, is) in
      let far = no_deadlock ranks plain waits (λ q j v e more. orders q v.at j (told q v e).0 more) (λ q v e. (told q v e).1) (λ j. exclusive_of n (lock j) (past j)) (λ q v e. (tells.0 q v.at (told q v e).0).0) p w.0 w.1 in
      (far.0, far.1, subst (λ i. i ≤ far.1) here far.2, far.3, λ i too. let v = kept far.0 i (tells.1 far.0 i too) in far.4 v.0 v.1)

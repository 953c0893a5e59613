-- Texts whose lines use several locks in an order.
use Rattle.std.specs.Prelude.{◌≡◌, ℕ, ◌+◌, ◌<◌, ◌≤◌, Bool, true, Some, List, length, is_some, slice_get}
use Rattle.std.specs.Global.{Vec}
use Rattle.spin_step.specs.Plain.{ticket_limit}
use Rattle.spin_step.specs.declared.schedule.Move.{Move}
use Rattle.spin_step.specs.Schedules.{at_first}
use Rattle.spin_step.specs.FlagCalls.{flag_machine}
use Rattle.spin_step.specs.TicketCalls.{ticket_machine}
use Rattle.spin_step_more.specs.FairCalls.{fair_machine}
use Rattle.spin_step_more.specs.RwCalls.{rw_machine}
use Rattle.spin_step.specs.OnceCalls.{once_machine}
use Rattle.spin_world.specs.BarrierTable.{barrier_machine}
use Rattle.spin_explore.specs.declared.entries.Entry.{Entry}
use Rattle.spin_explore.specs.declared.kinds.AnyCall.{AnyCall}
use Rattle.spin_explore.specs.declared.kinds.AnyLock.{AnyLock}
use Rattle.spin_explore.specs.declared.kinds.AnyLock.TheVariants as any
use Rattle.spin_explore.specs.declared.lock_order.LockOrder.TheVariants.{In}
use Rattle.spin_explore.specs.Kinds.{narrow, any_rules, flag_call, ticket_call, fair_call, rw_call, once_call, barrier_call}
use Rattle.spin_explore.specs.Programs.{Stage, first_stage}
use Rattle.spin_explore.specs.Halts.{IsNeverStuck}
use Rattle.spin_explore.specs.Orders.{IsOrderOf}

-- the lock as n parties find it before any move
abbrev pub unused : ℕ → AnyLock → AnyLock
unused n (any.Flag x) = any.Flag (record { object = x.object; state = at_first (flag_machine x.object.value) n })
unused n (any.Ticket x) = any.Ticket (record { object = x.object; state = at_first (ticket_machine x.object.value x.object.first) n })
unused n (any.Fair x) = any.Fair (record { object = x.object; state = at_first (fair_machine x.object.value x.object.cap x.object.patience) n })
unused n (any.Rw x) = any.Rw (record { object = x.object; state = at_first (rw_machine x.object.value x.object.cap) n })
unused n (any.Once x) = any.Once (record { object = x.object; state = at_first (once_machine x.object.value) n })
unused n (any.Barrier x) = any.Barrier (record { object = x.object; state = at_first (barrier_machine x.object.n) n })

-- the move is one on this kind of lock
abbrev pub is_of_kind : AnyLock → Move AnyCall ℕ → Bool
is_of_kind (any.Flag x) move = is_some (narrow flag_call move)
is_of_kind (any.Ticket x) move = is_some (narrow ticket_call move)
is_of_kind (any.Fair x) move = is_some (narrow fair_call move)
is_of_kind (any.Rw x) move = is_some (narrow rw_call move)
is_of_kind (any.Once x) move = is_some (narrow once_call move)
is_of_kind (any.Barrier x) move = is_some (narrow barrier_call move)

-- the lock has tickets for so many lines; its cap allows a reader
abbrev pub HasRoom : ℕ → AnyLock → Type 0
HasRoom lines (any.Ticket x) = x.object.first + lines < ticket_limit
HasRoom lines (any.Rw x) = 1 ≤ x.object.cap
HasRoom lines _ = Unit {0}

-- The lines are a text of n parties for these locks, which nobody has used.
pub record IsText (n : ℕ) (locks : List AnyLock) (lines : List (Entry AnyCall ℕ)) : Type 0 where
  pub parties : (i : ℕ) (e : Entry AnyCall ℕ) → slice_get lines i ≡ Some e → e.party < n
  -- each line is a move on the kind of its lock
  pub kinds : (i : ℕ) (e : Entry AnyCall ℕ) (lock : AnyLock) → slice_get lines i ≡ Some e → slice_get locks e.lock ≡ Some lock → is_of_kind lock e.action ≡ true
  pub unused : (k : ℕ) (lock : AnyLock) → slice_get locks k ≡ Some lock → lock ≡ unused n lock
  pub room : (k : ℕ) (lock : AnyLock) → slice_get locks k ≡ Some lock → HasRoom (length lines) lock

module _ (n : ℕ) (locks : List AnyLock) (lines : List (Entry AnyCall ℕ)) where
  abbrev pub start : Stage AnyLock ℕ
  start = first_stage locks (length lines)

  -- if the lines use their locks in an order, no schedule gets stuck
  abbrev pub IsNeverStuckInOrder : Type 0
  IsNeverStuckInOrder = (order : Vec ℕ) → IsOrderOf lines (length locks) (In order) → IsNeverStuck any_rules lines n start

-- What users of a read-write lock may rely on: who may hold together, and when an upgrade is open.
use Rattle.spin_world.specs.Rw.{RwMachine}
use Rattle.spin_world_core.specs.Runs.{state_at}
use Rattle.spin_world_core.specs.Users.{IsCalling}
use Rattle.spin_world_core.specs.Users.{seen_at}
use Rattle.spin_world_core.specs.Runs.{Schedule}
use Rattle.std.specs.Prelude.{◌≡◌, ℕ, ◌+◌, ◌<◌, ◌≤◌, ◌↔◌, Bool, true, false, Option, Some, None, [], ◌∷◌, ◌++◌, length, slice_get, min, max}
use Rattle.spin_step.specs.Plain.{Plain, reading, asking, writing, to_write, to_upgrade, to_upgrade_asked, is_open_to, is_holder, count_kind, upgraders, rw_word}
use Rattle.spin_step_more.specs.Readers.{reader_limit, reader_goes}
use Rattle.spin_step.specs.declared.answer.Answer.TheVariants.{Granted, Done}
use Rattle.spin_step.specs.declared.place.Hold.{Hold}
use Rattle.spin_step.specs.declared.place.Hold.TheVariants as hold
use Rattle.spin_step.specs.declared.place.Seat.TheVariants.{Holding}
use Rattle.spin_step.specs.declared.schedule.Move.TheVariants.{Step}
use Rattle.spin_step.specs.declared.schedule.Outcome.TheVariants.{Answered}
use Rattle.spin_step_more.specs.declared.rw_calls.RwCall.{RwCall}
use Rattle.spin_step_more.specs.declared.rw_calls.RwCall.TheVariants.{TryUpgrade, TryUpgradeWeak, Upgrade, Downgrade, DowngradeToUpgradeable}
use Rattle.spin_step_more.specs.declared.rw_calls.RwPoint.{RwPoint}
use Rattle.spin_step.specs.Machines.{Machine}
use Rattle.spin_world_core.specs.Runs.{Seen, scene}
use Rattle.spin_world_core.specs.Users.{outcome_after, steps_made}

-- The word w is that of the plain lock s. A writer holds alone, and at most one holder may upgrade. No more parties
-- hold than the cap and the reader limit allow, but one party may always hold.
pub record StandTogether (cap w : ℕ) (s : Plain) : Type 0 where
  pub word : w ≡ rw_word s
  pub writer : 0 < count_kind writing s.holders → length s.holders ≡ 1
  pub one_upgradable : upgraders s.holders ≤ 1
  pub within : length s.holders ≤ max (min cap reader_limit) 1

-- no other party may become the writer, neither by a new call nor by an upgrade
abbrev pub KeepsWritersOut : ℕ → Plain → Type 0
KeepsWritersOut p s = (q : ℕ) → (q ≡ p → ⊥) → (is_open_to s q to_write ≡ false) × (is_open_to s q to_upgrade ≡ false) × (is_open_to s q to_upgrade_asked ≡ false)

-- what a party holds after its downgrade
abbrev pub less : RwCall → Option Hold
less c = elim c [ Downgrade ↦ Some hold.Read | DowngradeToUpgradeable ↦ Some hold.Upgradable | _ ↦ None ]

-- a downgrade is one step; in the states before it and after it no other party may become the writer
pub record DowngradesAtOnce {V : Type 0} (m : RwMachine V) (n : ℕ) (past : Schedule RwCall V) (p : ℕ) (held : Hold) : Type 0 where
  pub before : KeepsWritersOut p (seen_at m n past).plain
  pub done : outcome_after m n past p Step ≡ Answered Done None
  pub holds : slice_get (state_at m n (past ++ (p, Step) ∷ [])).seats p ≡ Some (Holding held)
  pub later : KeepsWritersOut p (seen_at m n (past ++ (p, Step) ∷ [])).plain

abbrev pub Downgrades : {V : Type 0} → RwMachine V → ℕ → Schedule RwCall V → Type 0
Downgrades m n past = (p : ℕ) (c : RwCall) (l : RwPoint) (h : Option Hold) (held : Hold) → less c ≡ Some held
    → IsCalling m n past p c l h → DowngradesAtOnce m n past p held

-- how many readers release in the events of these entries
abbrev pub readers_gone : {W V C L A : Type 0} → Machine W V C L A → Seen W V C L → Schedule C V → ℕ
readers_gone m seen es = steps_made reader_goes m seen es

-- the party is the holder that asks to upgrade, before and after each of these entries
abbrev pub KeepsAsking : {W V C L A : Type 0} → ℕ → Machine W V C L A → Seen W V C L → Schedule C V → Type 0
KeepsAsking p m seen [] = is_holder p asking seen.plain.holders ≡ true
KeepsAsking p m seen (e ∷ es) = (is_holder p asking seen.plain.holders ≡ true) × KeepsAsking p m (scene m seen e.0 e.1).after es

-- all readers that held after `past` have released in `further`
abbrev pub AllGone : {V : Type 0} → RwMachine V → ℕ → Schedule RwCall V → Schedule RwCall V → Type 0
AllGone m n past further =
    readers_gone m (seen_at m n past) further ≡ count_kind reading (seen_at m n past).plain.holders

-- The party p asks to upgrade after `past` and all through `further`. Then no reader acquires the lock in `further`. The
-- upgrade is open exactly if all readers that held after `past` have released.
pub record OpensByReleases {V : Type 0} (m : RwMachine V) (n : ℕ) (past further : Schedule RwCall V) (p : ℕ) : Type 0 where
  -- the number of readers never grows, and each release reduces it by one
  pub readers : count_kind reading (seen_at m n (past ++ further)).plain.holders
      + readers_gone m (seen_at m n past) further ≡ count_kind reading (seen_at m n past).plain.holders
  pub opens : (is_open_to (seen_at m n (past ++ further)).plain p to_upgrade_asked ≡ true) ↔ AllGone m n past further
  -- exactly if all those readers have released, the next step of the party's upgrade answers `Granted`
  pub granted : (c : RwCall) (l : RwPoint) (h : Option Hold) → IsCalling m n (past ++ further) p c l h
      → (outcome_after m n (past ++ further) p Step ≡ Answered Granted None) ↔ AllGone m n past further

abbrev pub OpensForAll : {V : Type 0} → RwMachine V → ℕ → Schedule RwCall V → Schedule RwCall V → Type 0
OpensForAll m n past further = (p : ℕ) → KeepsAsking p m (seen_at m n past) further → OpensByReleases m n past further p

-- the calls that change what a party holds, but keep its guard
abbrev pub converts : RwCall → Bool
converts TryUpgrade = true
converts TryUpgradeWeak = true
converts Upgrade = true
converts Downgrade = true
converts DowngradeToUpgradeable = true
converts _ = false

-- The table of a flag refines the plain lock, of which one party at a time holds.
use Rattle.std.proofs.Common.{◌≡◌, [], ℕ, true, false, Option, Some, List, refl, arith}
use Rattle.spin_step.specs.Plain.{Plain, writing}
use Rattle.spin_step.proofs.Exclusive.{writes_alone}
use Rattle.spin_step.proofs.Flags.{flag_lock-grants, flag_unlock-gives}
use Rattle.spin_step.proofs.Holders.{is_holder-from_entries}
use Rattle.spin_step.specs.Orders.{IsInOrder}
use Rattle.spin_step.specs.FlagCalls.{flag_table}
use Rattle.spin_step.specs.declared.flag_calls.FlagCall.{FlagCall}
use Rattle.spin_step.specs.declared.flag_calls.FlagCall.TheVariants.{Release}
use Rattle.spin_step.specs.declared.flag_calls.FlagPoint.{FlagPoint}
use Rattle.spin_step.specs.declared.place.Hold.{Hold}
use Rattle.spin_step.specs.declared.place.Hold.TheVariants.{Write}
use Rattle.spin_step.specs.declared.place.Seat.{Seat}
use Rattle.spin_core.specs.Cell.{reads, MeetsRule, writers_of}
use Rattle.spin_core.specs.Views.{Part, HasPart, IsLockOf}
use Rattle.spin_core.specs.declared.tie.Opening.{Opening}
use Rattle.spin_core.specs.declared.trace.Trace.{Trace}
use Rattle.spin_core.proofs.tie.Leaving.{flag_word-up}
use Rattle.spin_core.proofs.tie.Owners.{OfHolders, one_holder, writers_among}
use Rattle.spin_core.proofs.tie.Views.{release-own}
use Rattle.spin_session.specs.Meaning.{AreWords, just_one, part_of, use_at, Sound, ComesFrom, Refines, ways_of}
use Rattle.spin_session.proofs.Refining as session
use Rattle.spin_flag.specs.Flag.{flag_meaning, Done, IsFlag, View}

kind : (v : Seat FlagCall FlagPoint) → OfHolders (part_of flag_meaning) v
kind v = grind arith

module _ {T : Type 0} (value : T) where
  sound : (c : FlagCall) (l : FlagPoint) (h : Option Hold) (p : ℕ) (plain : Plain) (vs : List View) (from : Part) → ComesFrom (flag_table value) flag_meaning c l h from → plain.cap ≡ 0 → IsInOrder plain → IsLockOf (part_of flag_meaning) vs plain → Unit {0} → HasPart plain p from
      → Sound (flag_table value) flag_meaning c l h p plain from
  sound Release l (Some Write) p s vs from comes room order is fine has =
      grind (arith, comes, has.0, is_holder-from_entries p writing s.holders, release-own s p writing, flag_unlock-gives s p writing true, writes_alone s p order.exclusive)
  sound c l h p plain vs from comes room order is fine has = grind (arith, comes, flag_lock-grants plain p false)

  pub flag_refines : Refines (flag_table value) flag_meaning
  flag_refines = record {
    one_word = λ l. refl;
    operates = grind arith;
    writes_word = grind arith;
    opens_at = (refl, refl);
    bounds_opening = tt;
    nobody = flag_word-up;
    fits = one_holder (part_of flag_meaning) kind 0;
    goes = grind arith;
    sound = sound;
  }

pub starts : {T : Type 0} (opening : Opening T) (trace : Trace (Done T) (Unit {0})) → trace.name ≡ opening.name → trace.entries ≡ [] → MeetsRule (IsFlag opening) (ways_of flag_meaning opening) 0 trace []
starts opening trace named empty = session.starts (flag_table opening.value) flag_meaning (flag_refines opening.value) opening trace named empty

pub never_reads : (v : View) → use_at flag_meaning v ≡ reads → ⊥
never_reads v e = grind (arith, e)

-- nobody writes while the flag is clear
pub quiet : {m : Unit {0}} (n : ℕ) → n ≡ 0 → (seats : List View) → AreWords just_one flag_meaning n m seats → writers_of (use_at flag_meaning) seats ≡ 0
quiet n clear seats is = let words = is.0 in omega (arith, clear, words.4, writers_among (part_of flag_meaning) (λ v. grind arith) seats words.0 words.3)

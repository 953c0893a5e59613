-- The table of a read-write lock refines the plain lock.
use Rattle.std.proofs.Common.{◌≡◌, ℕ, ◌+◌, ◌-◌, ◌<◌, ◌≤◌, ◌^◌, [], true, false, length, Option, Some, None, List, refl, sym, ap, arith}
use Rattle.spin_step.specs.Plain.{Plain, Kind, reading, upgradable, asking, writing, weight, Holder, with_kind, gets, turns, releases, is_holder, rw_word, to_read, to_read_upgradable}
use Rattle.spin_step.specs.Orders.{IsInOrder}
use Rattle.spin_step.proofs.Holders.{is_holder-from_entries}
use Rattle.spin_step.proofs.Sums.{by_kinds, all_kinds, sum-turned, sum-less, length-with_kind}
use Rattle.spin_step.specs.declared.place.Hold.{Hold}
use Rattle.spin_step.specs.declared.place.Hold.TheVariants as hold
use Rattle.spin_step.specs.declared.place.Seat.{Seat}
use Rattle.spin_step.specs.declared.place.Seat.TheVariants.{Holding}
use Rattle.spin_step_more.specs.Readers.{reader_limit, OneOfEach, read, read_upgradable, writers_in}
use Rattle.spin_step_more.specs.RwCalls.{rw_table}
use Rattle.spin_step_more.specs.declared.rw_calls.RwCall.{RwCall}
use Rattle.spin_step_more.specs.declared.rw_calls.RwCall.TheVariants.{TryRead, Read, TryUpgradeableRead, UpgradeableRead, Upgrade, Downgrade}
use Rattle.spin_step_more.specs.declared.rw_calls.RwPoint.{RwPoint}
use Rattle.spin_step_more.specs.declared.rw_calls.RwPoint.TheVariants.{First, Exchange, Asking}
use Rattle.spin_step_more.proofs.Readers.{one_of_each, word_of, writers-word}
use Rattle.spin_step_more.proofs.ReaderSteps.{rw_read-grants, rw_upgradable-grants, rw_write-grants, rw_upgrade-grants, rw_upgrade_asked-grants}
use Rattle.spin_core.specs.Views.{Part, idle, holds, HasPart, entries_of_part}
use Rattle.spin_core.proofs.tie.Leaving.{sum-up}
use Rattle.spin_core.specs.Cell.{MeetsRule, writers_of}
use Rattle.spin_core.specs.declared.tie.Opening.{Opening}
use Rattle.spin_core.specs.declared.trace.Trace.{Trace}
use Rattle.spin_core.proofs.tie.Owners.{OfReaders, readers_or_writer, writers_hold}
use Rattle.spin_core.proofs.tie.Views.{release-own, turn-own}
use Rattle.spin_step.specs.Acts.{retry, one_number, is_section}
use Rattle.spin_step.specs.declared.table.Operation.TheVariants as op
use Rattle.spin_step.specs.Steps.{Decides}
use Rattle.spin_step.specs.Parties.{entries_after}
use Rattle.spin_step.specs.Plain.{Ask, apply}
use Rattle.spin_step.specs.declared.answer.Answer.{Answer}
use Rattle.spin_step.specs.declared.stepped.Next.{Next}
use Rattle.spin_step_more.specs.RwCalls.{act_of, goes_for}
use Rattle.spin_session.specs.Meaning.{AreWords, just_one, part_of, use_at, worked, SoundAct, Sound, ComesFrom, Refines, ways_of}
use Rattle.spin_session.proofs.Refining as session
use Rattle.spin_session.proofs.Word.{word_is}
use Rattle.spin_rwlock.specs.Rw.{View, rw_meaning, Done as Entries, IsRw}

kind : (v : Seat RwCall RwPoint) → OfReaders (part_of rw_meaning) v
kind (Holding hold.Write) = (λ p. refl, λ p. refl)
kind v = grind arith

-- the sum of the holders' weights does not wrap, while their number is at most `reader_limit`
pub bounded : (hs : List Holder) → length hs ≤ reader_limit → word_of hs < 2 ^ 63
bounded hs within = omega (arith, by_kinds weight hs, all_kinds hs, within)

pub few : (s : Plain) → s.cap ≡ reader_limit → IsInOrder s → length s.holders ≤ reader_limit
few s room order = omega (arith, order.holders_fit, room)

no_section : (V : Type 0) (c : RwCall) (l : RwPoint) (h : Option Hold) → is_section (act_of {V = V} reader_limit c l h) ≡ false
no_section V c l h = grind arith

-- nobody writes while the word shows no writer
pub quiet : {m : Unit {0}} (n : ℕ) → writers_in n ≡ 0 → (vs : List View) → AreWords just_one rw_meaning n m vs → writers_of (use_at rw_meaning) vs ≡ 0
quiet n none vs is = let words = is.0 in
    omega (arith, none, writers-word words.0 n (one_of_each words.0 words.2.exclusive) (sym words.4), writers_hold (part_of rw_meaning) (λ v. (kind v).1) vs words.0 words.3)

module _ {T : Type 0} (value : T) where
  module _ (p : ℕ) (s : Plain) (from : Part) (room : s.cap ≡ reader_limit) (order : IsInOrder s) (has : HasPart s p from) where
    one : OneOfEach s
    one = one_of_each s order.exclusive

    abbrev w : ℕ
    w = rw_word s

    small : w < 2 ^ 63
    small = bounded s.holders (few s room order)

    stands : (k : Kind) → from ≡ holds k → is_holder p k s.holders ≡ true
    stands k is = is_holder-from_entries p k s.holders (ap (λ e. e.holders) (rw is at has).0)

    -- a holder of the kind k leaves
    frees : (k : Kind) → from ≡ holds k → (worked (op.Subtract (weight k)) w ≡ w - weight k) × (rw_word (apply s (releases p k)) ≡ w - weight k)
    frees k is = let less = sum-less weight p k s.holders (stands k is) in (omega (arith, less, small), omega (arith, less))

    -- a holder of the kind j becomes one of the kind k
    turns_to : (j k : Kind) (by : ℕ) → from ≡ holds j → weight j + by ≡ weight k → (worked (op.Add by) w ≡ w + by) × (rw_word (apply s (turns p j k)) ≡ w + by)
    turns_to j k by is more =
        let turned = sum-turned weight p j k s.holders (stands j is) in
        let most = bounded (with_kind p j k s.holders) (omega (arith, length-with_kind p j k s.holders, few s room order)) in
        (omega (arith, turned, most, more), omega (arith, turned, more))

    reads : Decides s (gets p to_read) rw_word (read reader_limit w)
    reads = rw_read-grants s p w reader_limit one room refl

    upgradables : Decides s (gets p to_read_upgradable) rw_word (read_upgradable reader_limit w)
    upgradables = rw_upgradable-grants s p w reader_limit one room refl

    -- an exchange of a call that asks to hold so, where the word may be another one by now
    exchanges : (to : Next RwPoint (Answer T) → Part) (f : ℕ → Option ℕ) (ask : Ask) (k : Kind) (won missed : Next RwPoint (Answer T)) (n : ℕ) → from ≡ idle → Decides s (gets p ask) rw_word (f w)
        → (to won ≡ holds k) × ((j : ℕ) → to (goes_for j) ≡ idle) × (to missed ≡ idle) → entries_after s (Some (gets p ask)) (entries_of_part p idle) ≡ entries_of_part p (holds k)
        → SoundAct one_number 0 rw_word (λ j. Unit {0}) (retry n f (λ q. gets q ask) won goes_for missed) to p s from
    exchanges to f ask k won missed n is grants parts comes = grind (arith, is, grants, parts, comes)

    sound : (c : RwCall) (l : RwPoint) (h : Option Hold) → ComesFrom (rw_table value reader_limit) rw_meaning c l h from → Sound (rw_table value reader_limit) rw_meaning c l h p s from
    sound c l (Some hold.Write) comes = grind (arith, comes, stands writing, release-own s p writing, frees writing, turn-own s p writing, turns_to writing reading 7, turns_to writing upgradable 1)
    sound c Asking (Some hold.Upgradable) comes = grind (arith, comes, stands asking, rw_upgrade_asked-grants s p w one)
    sound Upgrade First (Some hold.Upgradable) comes = grind (arith, comes, stands upgradable, turn-own s p upgradable asking, turns_to upgradable asking 4)
    sound Downgrade l (Some hold.Upgradable) comes = grind (arith, comes, stands upgradable, turn-own s p upgradable reading, turns_to upgradable reading 6)
    sound c l (Some hold.Upgradable) comes = grind (arith, comes, stands upgradable, rw_upgrade-grants s p w one, release-own s p upgradable, frees upgradable)
    sound c l (Some hold.Read) comes = grind (arith, comes, stands reading, release-own s p reading, frees reading)
    sound Read (Exchange n) None comes = exchanges _ _ to_read reading _ _ n (grind (arith, comes)) reads (refl, (λ j. refl), refl) refl
    sound TryRead (Exchange n) None comes = exchanges _ _ to_read reading _ _ n (grind (arith, comes)) reads (refl, (λ j. refl), refl) refl
    sound UpgradeableRead (Exchange n) None comes = exchanges _ _ to_read_upgradable upgradable _ _ n (grind (arith, comes)) upgradables (refl, (λ j. refl), refl) refl
    sound TryUpgradeableRead (Exchange n) None comes = exchanges _ _ to_read_upgradable upgradable _ _ n (grind (arith, comes)) upgradables (refl, (λ j. refl), refl) refl
    sound c l None comes = grind (arith, comes, reads, upgradables, rw_write-grants s p w refl)
    sound c l h comes = grind (arith, comes, rw_write-grants s p w refl)

  pub rw_refines : Refines (rw_table value reader_limit) rw_meaning
  rw_refines = record {
    one_word = λ l. refl;
    operates = no_section T;
    writes_word = λ c l h w. word_is T (act_of reader_limit c l h) w (no_section T c l h);
    opens_at = (refl, refl);
    bounds_opening = tt;
    nobody = λ k s. sum-up k weight s.holders;
    fits = readers_or_writer (part_of rw_meaning) kind reader_limit (omega arith) (omega arith);
    goes = grind arith;
    sound = λ c l h p plain vs from comes room order is fine has. sound p plain from room order has c l h comes;
  }

pub starts : {T : Type 0} (opening : Opening T) (trace : Trace (Entries T) (Unit {0})) → trace.name ≡ opening.name → trace.entries ≡ [] → MeetsRule (IsRw opening) (ways_of rw_meaning opening) 0 trace []
starts opening trace named empty = session.starts (rw_table opening.value reader_limit) rw_meaning (rw_refines opening.value) opening trace named empty

-- What has to be shown of the table of the read-write lock.
use Rattle.spin_world.proofs.RwNames.{◌≡◌, ℕ, ◌≤◌, true, Option, Some, None, ◌∷◌, length, refl, ap, sym, ◌∙◌, arith, eq-eqb, length-append, Plain, Kind, upgradable, asking, weight, to_read, to_read_upgradable, to_write, to_upgrade, to_upgrade_asked, Change, gets, releases, turns, is_holder, may_turn, rw_word, entries, IsExclusive, reader_limit, tells, read, read_upgradable, write, upgrade, upgrade_asked, released, is_holder-from_entries, is_holder-own, length-without_holder, empty_is, room_to_come, one_of_each, read-word, upgradable_read-word, upgradable-word, tells-holder, readers-word, writers-word, only_upgradable-word, only_asking-word, empty-word, Hold, RwCall, TryRead, Read, TryUpgradeableRead, UpgradeableRead, ReaderCount, WriterCount, IsLocked, Upgrade, Downgrade, DowngradeToUpgradeable, Release, RwPoint, First, Exchange, Asking, holds, entries_at, Notes, Means, OwesAll, SoonAll, [], turned_to}
use Rattle.std.specs.Prelude.{min, max}
use Rattle.spin_step.proofs.Sums.{length-with_kind}
use Rattle.spin_step_more.proofs.ReaderSteps.{rw_read-grants, rw_upgradable-grants, rw_write-grants, rw_upgrade-grants, rw_upgrade_asked-grants, rw_release-gives, rw_turn-gives}
use Rattle.spin_step.specs.declared.place.Hold.TheVariants as hold
use Rattle.spin_step.specs.Calls as calls
use Rattle.spin_step_more.specs.RwCalls.{asks_of, rw_table, rw_machine}
use Rattle.spin_world_core.proofs.Rows.{starts}
use Rattle.spin_step.specs.Acts.{passing}
use Rattle.spin_world_core.proofs.Steps.{Plays}
use Rattle.spin_world_core.proofs.Rows.{Row, Point, nowhere, looked, onward}
use Rattle.spin_world_core.proofs.Filled.{plays_of}
use Rattle.spin_world_core.proofs.Operating.{operates_one}

-- the row of a reader that has asked to upgrade, and waits to become the writer
abbrev pub asking_row : Row
asking_row = record { stand = holds asking; made = λ p. turns p upgradable asking ∷ []; rest = λ p. gets p to_upgrade_asked ∷ []; said = calls.granted; spent = 0 }

-- the points of each call; a call that has looked has spent one step of its limit
abbrev pub point_of : RwCall → RwPoint → Option Hold → Point
point_of c First h = starts (passing ((asks_of c h).begins h) First)
point_of TryRead (Exchange n) None = looked 1
point_of Read (Exchange n) None = looked 1
point_of TryUpgradeableRead (Exchange n) None = looked 1
point_of UpgradeableRead (Exchange n) None = looked 1
point_of Upgrade Asking (Some hold.Upgradable) = onward asking_row
point_of _ _ _ = nowhere

-- the shape of the lock: nobody queues, and at most as many hold as a word can count
pub record Within (cap : ℕ) (s : Plain) : Type 0 where
  pub no_queue : s.tickets ≡ []
  pub room : s.cap ≡ min cap reader_limit
  pub few : length s.holders ≤ max s.cap 1

abbrev pub rw_notes : {V : Type 0} (v : V) (cap : ℕ) → Notes (rw_table v cap)
rw_notes v cap = record { Shape = λ s. Within cap s; point = point_of; Knows = λ c l h p s span. Unit {0} }

-- a party with the entries of a holder is a holder
pub holder_by : (p : ℕ) (k : Kind) (s : Plain) → entries p s ≡ entries_at p (holds k) → is_holder p k s.holders ≡ true
holder_by p k s mine = grind (arith, is_holder-from_entries)

module _ {V : Type 0} (v : V) (cap : ℕ) where
  abbrev IsMeant : ℕ → Plain → Change → Option ℕ → Type 0
  IsMeant p s c o = Means (rw_notes v cap) p s c (λ k. k) o

  -- What the step functions mean in a state of this shape

  module _ (p : ℕ) (s : Plain) (w : ℕ) (word : rw_word s ≡ w) (exclusive : IsExclusive s) (shape : Within cap s) where
    read_means : IsMeant p s (gets p to_read) (read cap w)
    read_means = grind (arith, rw_read-grants s p w cap (one_of_each s exclusive), shape, room_to_come, length-append)

    upgradable_means : IsMeant p s (gets p to_read_upgradable) (read_upgradable cap w)
    upgradable_means =
        grind (arith, rw_upgradable-grants s p w cap (one_of_each s exclusive), shape, room_to_come, length-append)

    write_means : IsMeant p s (gets p to_write) (write w)
    write_means = grind (arith, rw_write-grants s p w word, shape, empty_is s.holders, length-append)

    upgrade_means : entries p s ≡ entries_at p (holds upgradable) → IsMeant p s (gets p to_upgrade) (upgrade w)
    upgrade_means mine =
        grind (arith, rw_upgrade-grants s p w (one_of_each s exclusive), holder_by p, shape, length-with_kind)

    upgrade_asked_means : entries p s ≡ entries_at p (holds asking) → IsMeant p s (gets p to_upgrade_asked) (upgrade_asked w)
    upgrade_asked_means mine =
        grind (arith, rw_upgrade_asked-grants s p w (one_of_each s exclusive), holder_by p, shape, length-with_kind)

    -- What a holder finds in the word

    finds : (k : Kind) → is_holder p k s.holders ≡ true → tells k w ≡ true
    finds k found = ap (tells k) (sym word) ∙ tells-holder s p k exclusive (omega (arith, shape.few, shape.room)) found

  -- What a conversion and a release mean

  module _ (p : ℕ) (s : Plain) (w : ℕ) where
    turn_means : (j k : Kind) → rw_word s ≡ w → IsExclusive s → Within cap s → entries p s ≡ entries_at p (holds j) → may_turn j k ≡ true
        → weight j ≤ weight k → (tells j w ≡ true) × IsMeant p s (turns p j k) (Some (turned_to j k w))
    turn_means j k word exclusive shape mine down more =
        grind (arith, holder_by p, finds p s w, rw_turn-gives s p j k w, shape, length-with_kind)

    release_means : (k : Kind) → rw_word s ≡ w → IsExclusive s → Within cap s → entries p s ≡ entries_at p (holds k)
        → (tells k w ≡ true) × IsMeant p s (releases p k) (Some (released k w))
    release_means k word exclusive shape mine =
        grind (arith, holder_by p, finds p s w, rw_release-gives s p k w, shape, length-without_holder)

  owes : OwesAll (rw_notes v cap)
  owes p ReaderCount l h s w span = grind (arith, readers-word s w, one_of_each s)
  owes p WriterCount l h s w span = grind (arith, writers-word s w, one_of_each s)
  owes p IsLocked l h s w span = grind (arith, empty-word s.holders w)
  owes p Upgrade l h s w span = grind (arith, turn_means p s w, upgrade_asked_means p s w)
  owes p Downgrade l h s w span = grind (arith, turn_means p s w, upgradable-word s p, holder_by p)
  owes p DowngradeToUpgradeable l h s w span = grind (arith, turn_means p s w)
  owes p Release l h s w span = grind (arith, release_means p s w)
  owes p _ l h s w span = grind (arith, read_means p s w, upgradable_means p s w, write_means p s w, upgrade_means p s w)

  pub rw_facts : Plays (rw_machine v cap) (rw_notes v cap)
  rw_facts = plays_of (record {
    computes = grind (arith, operates_one (rw_table v cap) refl);
    calls = λ c h. (0, grind arith);
    promises = record { begins = λ c. grind arith; limited = λ c h words. grind arith; tries = λ c h ask. grind arith; sections = λ d. grind arith };
    others = λ p q c l h s step r span ne shape may belongs knows. tt;
    owes = owes;
    -- if nobody disturbs the call, its exchange succeeds on a word that admits the party, at once or after a look
    soon = grind (arith, read-word, one_of_each, eq-eqb, upgradable_read-word, empty-word, is_holder-own, only_asking-word, only_upgradable-word, holder_by);
  }) refl

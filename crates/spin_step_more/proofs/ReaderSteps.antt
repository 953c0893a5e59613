-- The step functions of a read-write lock decide as the plain lock does.
use Rattle.std.proofs.Common.{◌≡◌, ℕ, List, [], ◌∷◌, ◌++◌, ◌+◌, ◌≤◌, true, arith}
use Rattle.std.specs.Prelude.{min}
use Rattle.spin_step.specs.Plain.{Plain, Kind, upgradable, asking, weight, to_read, to_read_upgradable, to_write, to_upgrade, to_upgrade_asked, Holder, holder, with_kind, gets, releases, turns, is_holder, rw_word}
use Rattle.spin_step.specs.Steps.{Decides, GivesWord}
use Rattle.spin_step_more.specs.Readers.{reader_limit, OneOfEach, read, read_upgradable, write, upgrade, upgrade_asked, released, turned}
use Rattle.spin_step.proofs.Exclusive.{empty_is}
use Rattle.spin_step.proofs.Sums.{sum-more, sum-less, sum-turned}
use Rattle.spin_step_more.proofs.Readers.{readers-word, writers-word, word_of, read-word, upgradable_read-word, empty-word, only_upgradable-word, only_asking-word}

pub word-more : (hs : List Holder) (p : ℕ) (k : Kind) → word_of (hs ++ holder p k ∷ []) ≡ word_of hs + weight k
word-more hs p k = sum-more weight hs p k

pub word-turned : (p : ℕ) (j k : Kind) (hs : List Holder) → is_holder p j hs ≡ true → word_of (with_kind p j k hs) + weight j ≡ word_of hs + weight k
word-turned p j k hs found = sum-turned weight p j k hs found

pub rw_read-grants : (s : Plain) (p word cap : ℕ) → OneOfEach s → s.cap ≡ min cap reader_limit → rw_word s ≡ word → Decides s (gets p to_read) rw_word (read cap word)
rw_read-grants s p word cap one room is = grind (arith, read-word s word cap one room is, word-more)

pub rw_upgradable-grants : (s : Plain) (p word cap : ℕ) → OneOfEach s → s.cap ≡ min cap reader_limit → rw_word s ≡ word → Decides s (gets p to_read_upgradable) rw_word (read_upgradable cap word)
rw_upgradable-grants s p word cap one room is = grind (arith, upgradable_read-word s word cap one room is, word-more)

pub rw_write-grants : (s : Plain) (p word : ℕ) → rw_word s ≡ word → Decides s (gets p to_write) rw_word (write word)
rw_write-grants s p word is = grind (arith, empty-word s.holders word is, empty_is s.holders, word-more)

pub rw_upgrade-grants : (s : Plain) (p word : ℕ) → OneOfEach s → is_holder p upgradable s.holders ≡ true → rw_word s ≡ word → Decides s (gets p to_upgrade) rw_word (upgrade word)
rw_upgrade-grants s p word one found is = grind (arith, only_upgradable-word s p word one found is, word-turned)

pub rw_upgrade_asked-grants : (s : Plain) (p word : ℕ) → OneOfEach s → is_holder p asking s.holders ≡ true → rw_word s ≡ word → Decides s (gets p to_upgrade_asked) rw_word (upgrade_asked word)
rw_upgrade_asked-grants s p word one found is = grind (arith, only_asking-word s p word one found is, word-turned)

pub rw_release-gives : (s : Plain) (p : ℕ) (k : Kind) (word : ℕ) → rw_word s ≡ word → GivesWord s (releases p k) rw_word (released k word)
rw_release-gives s p k word is = λ found. omega (arith, sum-less weight p k s.holders found)

pub rw_turn-gives : (s : Plain) (p : ℕ) (j k : Kind) (word : ℕ) → weight j ≤ weight k → rw_word s ≡ word → GivesWord s (turns p j k) rw_word (turned j k word)
rw_turn-gives s p j k word more is = λ may. grind (arith, word-turned p j k s.holders)

-- The rules for the contracts of `rw`: for functions that may fail, for those that never fail, and for the counts.

pub ruleset grants = (read-word, upgradable_read-word, only_upgradable-word, only_asking-word, word-more, word-turned)

pub ruleset gives = (rw_release-gives, rw_turn-gives)

pub ruleset counts = (readers-word, writers-word, empty-word)

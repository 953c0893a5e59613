-- What the word of the read-write lock tells of its holders.
use Rattle.std.proofs.Common.{◌≡◌, ℕ, ◌+◌, ◌*◌, ◌/◌, ◌%◌, ◌<◌, ◌≤◌, ◌==◌, true, List, length, refl, arith, cond}
use Rattle.std.specs.Prelude.{min}
use Rattle.spin_step.specs.Plain.{Plain, Kind, reading, upgradable, asking, writing, Holder, weight, count_against, count_kind, is_reader, reader_count, is_empty, is_holder, is_only, may_come, rw_word}
use Rattle.spin_step.specs.Parties.{IsExclusive}
use Rattle.spin_step_more.specs.Readers.{reader_limit, OneOfEach, readers_in, writers_in, tells, has_room}
use Rattle.spin_step.proofs.Sums.{upgrader, against, sum_kinds, over_kinds, one_of, by_kinds, all_kinds, sum-less}

abbrev pub word_of : List Holder → ℕ
word_of hs = sum_kinds weight hs

pub one_of_each : (s : Plain) → IsExclusive s → OneOfEach s
one_of_each s alone = grind (arith, alone.writer, all_kinds s.holders)

-- a lock's word, as the sum of the weights of its holders of each kind
record Counts (s : Plain) (w : ℕ) : Type 0 where
  all : length s.holders ≡ over_kinds (λ k. count_kind k s.holders)
  word : w ≡ over_kinds (λ k. weight k * count_kind k s.holders)
  upgraders : count_kind upgradable s.holders + count_kind asking s.holders ≤ 1
  writers : count_kind writing s.holders ≤ 1

counts : (s : Plain) (word : ℕ) → OneOfEach s → rw_word s ≡ word → Counts s word
counts s word one is =
    record { all = all_kinds s.holders; word = omega (arith, by_kinds weight s.holders, is); upgraders = omega (arith, by_kinds upgrader s.holders, one.0); writers = one.1 }

-- the word tells whether the lock has room for a reader: it shows whether a holder lets none in, and how many read
pub read-word : (s : Plain) (word cap : ℕ) → OneOfEach s → s.cap ≡ min cap reader_limit → rw_word s ≡ word → may_come reading s ≡ has_room reading word cap
read-word s word cap one room is = grind (arith, counts s word one is, by_kinds (against reading) s.holders)

pub upgradable_read-word : (s : Plain) (word cap : ℕ) → OneOfEach s → s.cap ≡ min cap reader_limit → rw_word s ≡ word → may_come upgradable s ≡ has_room upgradable word cap
upgradable_read-word s word cap one room is =
    let c = counts s word one is in let others = by_kinds (against upgradable) s.holders in grind arith

-- the word is zero exactly if nobody holds
pub empty-word : (hs : List Holder) (word : ℕ) → word_of hs ≡ word → is_empty hs ≡ (word == 0)
empty-word hs word is = grind (arith, all_kinds hs, by_kinds weight hs)

-- Whether a holder is alone.

-- a holder of this kind is alone exactly if there is one holder
pub only-length : (p : ℕ) (k : Kind) (hs : List Holder) → is_holder p k hs ≡ true → is_only p k hs ≡ (length hs == 1)
only-length p k hs found = grind arith

-- an upgradable reader is alone exactly if the word is its weight
pub only_upgradable-word : (s : Plain) (p word : ℕ) → OneOfEach s → is_holder p upgradable s.holders ≡ true → rw_word s ≡ word → is_only p upgradable s.holders ≡ (word == weight upgradable)
only_upgradable-word s p word one found is =
    let c = counts s word one is in grind (arith, only-length p upgradable s.holders found, sum-less (one_of upgradable) p upgradable s.holders found)

pub only_asking-word : (s : Plain) (p word : ℕ) → OneOfEach s → is_holder p asking s.holders ≡ true → rw_word s ≡ word → is_only p asking s.holders ≡ (word == weight asking)
only_asking-word s p word one found is =
    let c = counts s word one is in grind (arith, only-length p asking s.holders found, sum-less (one_of asking) p asking s.holders found)

-- What a holder finds in the word.

pub reader-word : (s : Plain) (p : ℕ) → is_holder p reading s.holders ≡ true → weight reading ≤ rw_word s
reader-word s p found = omega (arith, sum-less weight p reading s.holders found)

pub upgradable-word : (s : Plain) (p : ℕ) → IsExclusive s → length s.holders ≤ reader_limit → is_holder p upgradable s.holders ≡ true → (rw_word s % weight reading ≡ weight upgradable) × (rw_word s / weight reading < reader_limit)
upgradable-word s p alone few found =
    let c = counts s (rw_word s) (one_of_each s alone) refl in grind (arith, alone.writer, sum-less (one_of upgradable) p upgradable s.holders found)

-- beside a holder that asks, only readers hold
pub beside_asking : (s : Plain) (p : ℕ) → IsExclusive s → is_holder p asking s.holders ≡ true → (count_kind asking s.holders ≡ 1) × (count_kind upgradable s.holders ≡ 0) × (count_kind writing s.holders ≡ 0)
beside_asking s p alone found =
    let c = counts s (rw_word s) (one_of_each s alone) refl in grind (arith, alone.writer, sum-less (one_of asking) p asking s.holders found)

pub writer-word : (s : Plain) (p : ℕ) → IsExclusive s → is_holder p writing s.holders ≡ true → rw_word s ≡ 1
writer-word s p alone found =
    let c = counts s (rw_word s) (one_of_each s alone) refl in grind (arith, alone.writer, sum-less (one_of writing) p writing s.holders found)

-- so the word shows each holder
pub tells-holder : (s : Plain) (p : ℕ) (k : Kind) → IsExclusive s → length s.holders ≤ reader_limit → is_holder p k s.holders ≡ true → tells k (rw_word s) ≡ true
tells-holder s p k alone few found =
    let asks = beside_asking s p alone in let weighs = by_kinds weight s.holders in
    grind (arith, reader-word s p, upgradable-word s p alone few, asks, weighs, writer-word s p alone)

-- If all holders read:

pub nobody_against : (hs : List Holder) → count_kind reading hs ≡ length hs → count_against reading hs ≡ 0
nobody_against hs all = omega (arith, all, all_kinds hs, by_kinds (against reading) hs)

pub each_reads : (hs : List Holder) → count_kind reading hs ≡ length hs → reader_count hs ≡ length hs
each_reads hs all = omega (arith, all, all_kinds hs, by_kinds (λ k. cond (is_reader k) 1 0) hs)

-- What a count of the word tells.

pub readers-word : (s : Plain) (word : ℕ) → OneOfEach s → rw_word s ≡ word → reader_count s.holders ≡ readers_in word
readers-word s word one is = let c = counts s word one is in omega (arith, by_kinds (λ k. cond (is_reader k) 1 0) s.holders, c.word, c.upgraders, c.writers)

pub writers-word : (s : Plain) (word : ℕ) → OneOfEach s → rw_word s ≡ word → count_kind writing s.holders ≡ writers_in word
writers-word s word one is = let c = counts s word one is in omega (arith, c.word, c.upgraders, c.writers)

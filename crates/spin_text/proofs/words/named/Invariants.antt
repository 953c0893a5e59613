-- the rest of the table has the same entry for the word as the whole table
use Rattle.std.proofs.Common.{◌≡◌, length, map}
use Rattle.spin_text.specs.Reading.{named}
use Rattle.spin_text.proofs.words.named.Given as goal

abbrev pub invariant-loop-table : goal.invariant-loop-table
invariant-loop-table g l = named (map (λ row. (row.0.now, row.1)) l.table) l.word ≡ named (map (λ row. (row.0.now, row.1)) l.initial.table) l.word

abbrev pub decreases-loop-table : goal.decreases-loop-table
decreases-loop-table g l = length l.table

use Rattle.std.proofs.Common.{◌≡◌, ◌-◌, [], map}
use Rattle.std.specs.List.{range_with_len}
use Rattle.spin_seated.specs.Histories.{newcomer}
use Rattle.spin_seated.specs.Passes.{new_pass}
use Rattle.spin_seated.proofs.lock.SeatedLock.new.Given as goal

-- the passes with numbers below the counter were given out; the seat has the others
abbrev pub invariant-loop : goal.invariant-loop
invariant-loop g l =
    record {
      opening : l.table.shared.key ≡ record { value = l.value; passes = l.passes };
      words : l.table.shared.table_id.words ≡ 2;
      own : l.seat.table_id ≡ l.table.shared.table_id;
      rest : l.seat.me ≡ (map (newcomer l.table.shared.key) (range_with_len l.counter (l.passes - l.counter)), []);
      given : l.all.items ≡ map (new_pass l.table.shared.table_id l.table.shared.key) (range_with_len 0 l.counter);
    }

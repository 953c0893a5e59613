use Rattle.std.proofs.Common.{sym, subst, ◌≤◌}
use Rattle.std.specs.Prelude.{length}
use mathlib.Core.List.{IsPrefix}
use base.Growing.{prefix_trans}
use Rattle.spin_barrier.proofs.Gathered.{hears, shorter}
use Rattle.spin_barrier.proofs.roll.Known.hears.Goals as goal

pub returns : goal.returns
returns g c = let mine = c.args.self.now in let told = c.args.told.now.entries in let all = c.observe.new.snapshot.entries in let theirs = c.args.other.now.arrivals.entries in
    let known = subst (λ z. IsPrefix theirs z) (sym c.observe.ensures.1) (subst (λ z. IsPrefix z c.args.all.now.entries) c.copy-theirs.ensures c.observe.ensures.0) in
    let found = shorter all mine.arrivals.entries c.compare.ensures (subst (λ z. length z ≤ length mine.arrivals.entries) (sym c.observe.ensures.1) c.requires.all) in
    shorter told mine.told.entries c.compare-2.ensures
    (hears (λ one. length one.entries) theirs mine.arrivals.entries (length told) (length mine.told.entries) (prefix_trans theirs all mine.arrivals.entries known found) c.requires.told mine.heard)

-- How a barrier opens.
use Rattle.std.specs.Prelude.{◌≡◌, ℕ}
use Rattle.spin_step.specs.Barriers.{IsBarrier}
use Rattle.spin_mutex.specs.Mutex.{OpensWith, opening}
use Rattle.spin_barrier.specs.Gathered.{gathered}
use Rattle.spin_barrier.specs.declared.barrier.Barrier.{Barrier}
use Rattle.spin_barrier.specs.declared.keep.Keeper.{Ghosts}
use Rattle.spin_barrier.specs.declared.keep.Kept.{Kept}

-- the barrier opens with groups of n, and nobody has arrived
abbrev pub Gathers : {R K Own Seen : Type 0} {keeper : Ghosts K Own Seen} → ℕ → Barrier R K Own Seen keeper → Type 0
Gathers {K = K} {Own = Own} {Seen = Seen} {keeper = keeper} n barrier =
    (kept : Kept K Own Seen keeper) × OpensWith kept (opening barrier.state) × (kept.state.n ≡ n) × IsBarrier (gathered n 0) n kept.state.count kept.state.generation

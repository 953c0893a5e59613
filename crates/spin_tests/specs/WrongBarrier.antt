-- Wrong barriers, each wrong in one part of its machine.
use Rattle.std.specs.Prelude.{ℕ, ◌==◌, ◌&&◌, Some, None, ◌+◌}
use Rattle.spin_step.specs.declared.stepped.Next.TheVariants.{Continue, Answers}
use Rattle.spin_step.specs.declared.stepped.Next.{Next}
use Rattle.spin_step.specs.declared.answer.Answer.{Answer}
use Rattle.spin_step.specs.declared.answer.Answer.TheVariants.{Leader, Follower}
use Rattle.spin_world.specs.declared.barrier.BarrierWords.{BarrierWords}
use Rattle.spin_world.specs.declared.barrier.BarrierPoint.{BarrierPoint}
use Rattle.spin_world.specs.declared.barrier.BarrierPoint.TheVariants.{Arrive, Leave}
use Rattle.spin_step.specs.Acts.{either, stays}
use Rattle.spin_world.specs.BarrierTable.{BarrierMachine, arrive, leads_group, is_past, barrier_machine}
use Rattle.spin_step.specs.Asks.{waits_for_value}

-- how a call continues after an arrival, or after a look of a follower, by the words found
abbrev Goes : Type 0
Goes = BarrierWords → Next BarrierPoint (Answer ℕ)

-- correct groups of two
abbrev pairs : BarrierMachine
pairs = barrier_machine 2

abbrev arrived : Goes
arrived w = either (leads_group 2 w) (Answers Leader None) (Continue (Leave w.generation))

abbrev looked : ℕ → Goes
looked g w = either (is_past g w.generation) (Answers Follower None) (Continue (Leave g))

-- groups of n: a call continues after its arrival as `arrives` says, and after its looks as `looks` says
abbrev going : ℕ → Goes → (ℕ → Goes) → BarrierMachine
going n arrives looks =
    record (barrier_machine n) { step = λ w value c l h. elim l [ Arrive ↦ stays (arrive n w) (arrives w) | Leave g ↦ stays w (looks g w) ] }

-- the first arrival of a group leads
abbrev pub first_leads : BarrierMachine
first_leads = going 2 (λ w. either (w.count == 0) (Answers Leader None) (Continue (Leave w.generation))) looked

-- a follower leaves by its next step
abbrev pub leaves_early : BarrierMachine
leaves_early = going 2 arrived (λ g w. Answers Follower None)

-- the arrival that fills a group is told that it follows
abbrev pub nobody_leads : BarrierMachine
nobody_leads = going 2 (λ w. either (w.count == 1) (Answers Follower None) (Continue (Leave w.generation))) looked

-- the arrival that fills a group waits until the next group is full
abbrev pub leads_late : BarrierMachine
leads_late = going 1 (λ w. Continue (Leave (arrive 1 w).generation)) (λ g w. either (is_past g w.generation) (Answers Leader None) (Continue (Leave g)))

-- the arrival that fills a group gets its answer one step later
abbrev pub told_late : BarrierMachine
told_late = going 1 (λ w. Continue (Leave w.generation)) (λ g w. Answers Leader None)

-- a follower leaves only while nobody has arrived for the next group
abbrev pub leaves_in_quiet : BarrierMachine
leaves_in_quiet = going 2 arrived (λ g w. either (is_past g w.generation && (w.count == 0)) (Answers Follower None) (Continue (Leave g)))

abbrev pub never_begins : BarrierMachine
never_begins = record pairs { begin = λ c h. None }

-- `wait` asks for a value, which no barrier gives
abbrev pub asks_for_a_value : BarrierMachine
asks_for_a_value = record pairs { asks = λ c h. waits_for_value }

-- each step may fail spuriously, and then its party leaves
abbrev pub leaves_by_chance : BarrierMachine
leaves_by_chance = record pairs { refuse = λ c l h. Some (Answers Follower h) }

-- one arrival is counted before anybody arrives
abbrev pub opens_with_one : BarrierMachine
opens_with_one = record pairs { words = record { count = 1; generation = 0 } }

-- the barrier should have groups of two, and has groups of three
abbrev pub gathers_three : BarrierMachine
gathers_three = barrier_machine 3

-- a follower leaves only while the group after its own gathers
abbrev pub leaves_in_the_next : BarrierMachine
leaves_in_the_next = going 2 arrived (λ g w. either (w.generation == g + 1) (Answers Follower None) (Continue (Leave g)))

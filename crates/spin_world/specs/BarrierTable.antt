-- The barrier's call, step by step, and what each step is in the plain lock.
use Rattle.std.specs.Prelude.{ℕ, Bool, false, not, Option, Some, None, ◌==◌, nat_lt, max}
use Rattle.spin_step.specs.Plain.{arrives}
use Rattle.spin_step.specs.Barriers.{arrived}
use Rattle.spin_step.specs.declared.place.Hold.{Hold}
use Rattle.spin_step.specs.declared.stepped.Next.TheVariants.{Continue, Answers}
use Rattle.spin_step.specs.declared.answer.Answer.{Answer}
use Rattle.spin_step.specs.declared.answer.Answer.TheVariants.{Leader, Follower}
use Rattle.spin_world.specs.declared.barrier.BarrierWords.{BarrierWords}
use Rattle.spin_world.specs.declared.barrier.BarrierCall.{BarrierCall}
use Rattle.spin_world.specs.declared.barrier.BarrierPoint.{BarrierPoint}
use Rattle.spin_world.specs.declared.barrier.BarrierPoint.TheVariants.{Arrive, Leave}
use Rattle.spin_world.specs.BarrierKind.{barrier}
use Rattle.spin_step.specs.Machines.{Machine}
use Rattle.spin_step.specs.Acts.{Memory, two_numbers, Act, load_if, section, either, Table, machine_of}
use Rattle.spin_step.specs.Tables.{usual_table}
use Rattle.spin_step.specs.Asks.{meets}

-- the words after one more arrival at a barrier with groups of n; `leads_group` says whether this arrival leads its group
abbrev pub arrive : ℕ → BarrierWords → BarrierWords
arrive n w = let a = arrived n w.count w.generation in record { count = a.0.0; generation = a.0.1 }

abbrev pub leads_group : ℕ → BarrierWords → Bool
leads_group n w = (arrived n w.count w.generation).1

-- the count is below the group's size
abbrev pub is_below : ℕ → BarrierWords → Bool
is_below n w = nat_lt w.count (max n 1)

-- the generation that was loaded is no longer g
abbrev pub is_past : ℕ → ℕ → Bool
is_past g generation = not (generation == g)

-- the barrier's two words: how many parties of the present group have arrived, and the generation
abbrev pub barrier_memory : Memory BarrierWords
barrier_memory = two_numbers (λ w. w.count) (λ w. w.generation) (λ k w. record w { count = k }) (λ k w. record w { generation = k })

abbrev pub barrier_word : BarrierPoint → ℕ
barrier_word l = elim l [ Arrive ↦ 0 | Leave g ↦ 1 ]

-- what the call does at each point; no arrival is refused
abbrev pub act_of : ℕ → BarrierPoint → Option Hold → Act BarrierWords BarrierPoint (Answer ℕ)
act_of n Arrive h = section (is_below n) (λ w. Some (arrive n w)) (λ p. arrives p) (λ w. either (leads_group n w) (Answers Leader h) (Continue (Leave w.generation))) (λ w. Continue Arrive)
act_of n (Leave g) h = load_if (is_past g) (λ k. Answers Follower h) (λ k. Continue (Leave g))

abbrev pub BarrierMachine : Type 0
BarrierMachine = Machine BarrierWords ℕ BarrierCall BarrierPoint (Answer ℕ)

abbrev pub barrier_table : ℕ → Table BarrierWords ℕ BarrierCall BarrierPoint (Answer ℕ)
barrier_table n = let opening : BarrierWords = record { count = 0; generation = 0 } in
    record (usual_table None barrier opening barrier_memory (λ c h. Arrive) (λ c l h. act_of n l h) (λ c h. meets)) {
      owned = false;
      group = n;
      word = barrier_word;
    }

abbrev pub barrier_machine : ℕ → BarrierMachine
barrier_machine n = machine_of (barrier_table n)

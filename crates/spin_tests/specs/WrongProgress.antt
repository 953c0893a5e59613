-- Wrong locks, and schedules in rounds that show what is wrong with each.
use Rattle.std.specs.Prelude.{ℕ, true, Option, None, List, [], ◌∷◌}
use Rattle.spin_step.specs.Plain.{serves}
use Rattle.spin_step_more.specs.declared.rw_calls.RwCall.{RwCall}
use Rattle.spin_step.specs.Acts.{Act, store, machine_of}
use Rattle.spin_step.specs.declared.answer.Answer.{Answer}
use Rattle.spin_step.specs.declared.flag_calls.FlagCall.{FlagCall}
use Rattle.spin_step.specs.declared.place.Hold.{Hold}
use Rattle.spin_step.specs.declared.schedule.Move.{Move}
use Rattle.spin_step.specs.declared.schedule.Move.TheVariants.{Begin, Step}
use Rattle.spin_step.specs.declared.ticket_calls.TicketCall.{TicketCall}
use Rattle.spin_step.specs.declared.ticket_calls.TicketPoint.{TicketPoint}
use Rattle.spin_step.specs.declared.ticket_calls.TicketWords.{TicketWords}
use Rattle.spin_step.specs.declared.answer.Answer.TheVariants.{Done}
use Rattle.spin_step.specs.declared.stepped.Next.TheVariants.{Answers}
use Rattle.spin_step.specs.declared.table.Operation.TheVariants as op
use Rattle.spin_world.specs.Ticket.{TicketMachine}
use Rattle.spin_step.specs.declared.flag_calls.FlagCall.TheVariants as flag
use Rattle.spin_step.specs.declared.ticket_calls.TicketCall.TheVariants as ticket
use Rattle.spin_step.specs.declared.ticket_calls.TicketPoint.TheVariants as ticket_point
use Rattle.spin_step.specs.TicketCalls as tickets
use Rattle.spin_step_more.specs.declared.rw_calls.RwCall.TheVariants as rw

-- A flag whose waiting party looks for ever after its exchange has failed, and never tries again (`looks_for_ever`)

abbrev pub set_before_it : {V : Type 0} → List (ℕ × Move FlagCall V)
set_before_it = (1, Begin flag.Lock) ∷ (1, Step) ∷ (0, Begin flag.Lock) ∷ []

abbrev pub four_looks : {V : Type 0} → List (List (ℕ × Move FlagCall V))
four_looks = ((0, Step) ∷ (1, Begin flag.Release) ∷ []) ∷ ((0, Step) ∷ (1, Step) ∷ []) ∷ ((0, Step) ∷ []) ∷ ((0, Step) ∷ []) ∷ []

-- A ticket lock whose holder serves its own number again at its release

abbrev serves_twice_act : {V : Type 0} → TicketPoint → Option Hold → Act TicketWords TicketPoint (Answer V)
serves_twice_act (ticket_point.Serve t) h = store (λ k. true) (op.Store t) (λ p. serves p) (Answers Done None)
serves_twice_act l h = tickets.act_of l h

abbrev pub serves_twice : {V : Type 0} → V → TicketMachine V
serves_twice v = machine_of (record (tickets.ticket_table v 0) { act = λ c l h. serves_twice_act l h })

abbrev pub one_before_it : {V : Type 0} → List (ℕ × Move TicketCall V)
one_before_it = (1, Begin ticket.Lock) ∷ (1, Step) ∷ (1, Step) ∷ (0, Begin ticket.Lock) ∷ (0, Step) ∷ (0, Step) ∷ []

abbrev pub four_turns : {V : Type 0} → List (List (ℕ × Move TicketCall V))
four_turns = ((0, Step) ∷ (1, Step) ∷ []) ∷ ((0, Step) ∷ (1, Begin ticket.Release) ∷ []) ∷ ((0, Step) ∷ (1, Step) ∷ []) ∷ ((0, Step) ∷ []) ∷ []

-- A read-write lock whose upgrade takes back its request by the next step, and then asks again (`asks_anew`)

abbrev pub asked : {V : Type 0} → List (ℕ × Move RwCall V)
asked = (0, Begin rw.UpgradeableRead) ∷ (0, Step) ∷ (0, Step) ∷ (0, Begin rw.Upgrade) ∷ (0, Step) ∷ []

abbrev pub three_steps : {V : Type 0} → List (List (ℕ × Move RwCall V))
three_steps = ((0, Step) ∷ []) ∷ ((0, Step) ∷ []) ∷ ((0, Step) ∷ []) ∷ []

use Rattle.std.proofs.Common.{◌≡◌, ◌↔◌, Bool, false, List, [], ◌∷◌, length, arith}
use Rattle.spin_step.specs.Plain.{Holder}
use Rattle.spin_step.specs.Steps.{bit}
use Rattle.spin_step.proofs.Exclusive.{empty_is}
use Rattle.spin_step.proofs.Holders.{is_empty-none}
use Rattle.spin_world_core.proofs.Reached.{numbers_are}
use Rattle.spin_world.proofs.FlagOwed.{flag_facts}
use Rattle.spin_world.proofs.flag.laws.a_flag_is_clear_when_nobody_holds.Goals as goal

clear_when_empty : (w : Bool) (hs : List Holder) → bit w ∷ [] ≡ length hs ∷ [] → (w ≡ false) ↔ (hs ≡ [])
clear_when_empty w hs e = grind (arith, e, empty_is hs, is_empty-none hs)

pub returns : goal.returns
returns g c = λ f n past. clear_when_empty _ _ (numbers_are (flag_facts f.value) n past)

-- What has to be shown of the flag's table.
use Rattle.std.proofs.Common.{◌≡◌, [], refl, arith}
use Rattle.spin_step.specs.Plain.{writing}
use Rattle.spin_step.proofs.Holders.{is_holder-from_entries, length-held}
use Rattle.spin_step.proofs.Flags.{flag_lock-grants, flag_unlock-gives}
use Rattle.spin_step.specs.Acts.{begin_of}
use Rattle.spin_step.specs.FlagCalls.{flag_table, flag_machine}
use Rattle.spin_world_core.proofs.Steps.{Plays}
use Rattle.spin_world_core.proofs.Rows.{starts}
use Rattle.spin_world_core.proofs.Shapes.{Notes}
use Rattle.spin_world_core.proofs.Filled.{plays_of}

-- At each point the row is that of the beginning, since the call has made no plain step. Only `Lock` makes more than one
-- step, and it has no limit.
abbrev pub flag_notes : {V : Type 0} (v : V) → Notes (flag_table v)
flag_notes v = record { Shape = λ s. s.tickets ≡ []; point = λ c l h. starts (begin_of (flag_table v) c h); Knows = λ c l h p s span. Unit {0} }

module _ {V : Type 0} (v : V) where
  pub flag_facts : Plays (flag_machine v) (flag_notes v)
  flag_facts = plays_of (record {
    computes = grind arith;
    -- an exchange that fails finds the flag set, and leaves it set
    calls = λ c h. (0, grind arith);
    promises = record { begins = λ c. grind arith; limited = λ c h words. grind arith; tries = λ c h ask. grind arith; sections = λ d. grind arith };
    others = λ p q c l h s step r span ne shape may belongs knows. tt;
    owes = λ p c l h s w span.
        let found = is_holder-from_entries p writing s.holders in
        grind (arith, flag_lock-grants s p w, flag_unlock-gives s p writing w, found, length-held p writing s.holders);
    soon = λ p c l h s w span. grind (arith, flag_lock-grants s p w);
  }) refl

-- What a lock must show when it makes its cell: the trace is `Send`, with or without a second word, and the value is
-- `Sync` where the rule is.
use Rattle.std.proofs.Common.{◌≡◌, ℕ, ◌+◌, ◌-◌, ◌%◌, [], ◌∷◌, ap, ◌∙◌, arith, subst}
use Rattle.std.proofs.Math.Nat.{mod_self, zero-mod}
use base.Fml.{Lft}
use base.Shift.{Keyless}
use prog.Memory.{align, up}
use denote.Memory.{lone, shared_of}
use denote.Builtin.{unit, u64, usize}
use denote.Param.Send.{IsSend, sendable}
use denote.RattleType.{RattleType}
use denote.Struct.Owning.{shape, to}
use denote.Struct.Struct.{Struct}
use denote.Struct.Tuple.{Tuple}
use Rattle.spin_core.specs.CellMemory.{Common, Sends}
use Rattle.spin_core.specs.contracts.trace.Trace.{the_row, the_type}
use Rattle.spin_core.proofs.trace.Steps.{log_keyless}
use Rattle.spin_step.specs.contracts.schedule.Move as move

-- the row of an entry, made from the row of the calls and the row of the values; `entry` has no values
abbrev pub entry_over : RattleType → RattleType → RattleType
entry_over C V = Tuple (usize ∷ move.the_row C V ∷ [])

abbrev pub entry : RattleType → RattleType
entry C = entry_over C unit

-- the fields of a trace are `Send`, if its second word is
pub fields_send : (E S : RattleType) → IsSend S → IsSend (Struct (shape (the_type E S)))
fields_send E S s = search sendable depth 20

pub sends : (E S : RattleType) → IsSend S → Sends (the_row E S)
sends E S s = λ y vs. ((fields_send E S s).owned (to (the_type E S) y) vs, log_keyless E.coded.code y.name y.entries)

pub sends_word : (E : RattleType) → Sends (the_row E u64)
sends_word E = sends E u64 (search sendable depth 20)

pub sends_word_less : (E : RattleType) → Sends (the_row E unit)
sends_word_less E = sends E unit (search sendable depth 20)

-- a first field is at the beginning of its struct
pub at_first : (k : ℕ) → up k 0 ≡ 0
at_first k = let all : k - 0 ≡ k = omega arith in
    let none = ap (λ j. (k - j) % k) (zero-mod k) ∙ (ap (λ j. j % k) all ∙ mod_self k) in omega (arith, none)

-- so a shared struct shares its first field; the type of a rule may be a struct whose first field is a value
pub first_field : (T : RattleType) → ((x : T.Denot) (b o : ℕ) (κ : Lft) → Keyless (shared_of T x b (o + up (align (lone T.mir)) 0) κ)) → Common T
first_field T may x b o κ = let same : o + up (align (lone T.mir)) 0 ≡ o = omega (arith, at_first (align (lone T.mir))) in subst (λ e. Keyless (shared_of T x b e κ)) same (may x b o κ)

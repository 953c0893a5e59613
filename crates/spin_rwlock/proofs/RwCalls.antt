-- How the calls of a read-write lock begin, go on and are answered.
use Rattle.std.proofs.Common.{◌≡◌, ◌≢◌, ◌≤◌, cond, ℕ, Bool, true, false, Some, None, if◌then◌else◌, refl, sym, subst, arith, eq-eqb, ne_eqb}
use mathlib.Core.Logic.{dite}
use native.Mathlib.Decide.{ℕ_discrete}
use Rattle.spin_step.specs.Plain.{Plain, is_reader, rw_word}
use Rattle.spin_step.specs.Orders.{IsInOrder}
use Rattle.spin_step.proofs.Sums.{by_kinds, all_kinds}
use Rattle.spin_step_more.proofs.Readers.{one_of_each, readers-word}
use Rattle.spin_step.specs.Schedules.{resting}
use Rattle.spin_step.specs.declared.answer.Answer.TheVariants.{Granted}
use Rattle.spin_step.specs.declared.place.Hold.{Hold}
use Rattle.spin_step.specs.declared.place.Hold.TheVariants as hold
use Rattle.spin_step_more.specs.Readers.{reader_limit, readers_in, read}
use Rattle.spin_session.specs.declared.table.Ahead.{Ahead}
use Rattle.spin_step_more.specs.RwCalls.{rw_table}
use Rattle.spin_step_more.specs.declared.rw_calls.RwCall.TheVariants.{TryRead, Write, ReaderCount}
use Rattle.spin_step_more.specs.declared.rw_calls.RwPoint.{RwPoint}
use Rattle.spin_step_more.specs.declared.rw_calls.RwPoint.TheVariants.{First, Exchange}
use Rattle.spin_core.specs.Cell.{off}
use Rattle.spin_core.specs.declared.tie.Opening.{Opening}
use Rattle.spin_session.specs.Meaning.{use_at}
use Rattle.spin_session.specs.Turns.{IsLed, IsAnsweredBy, IsTry, FusesBy, either_call, either_step}
use Rattle.spin_rwlock.specs.Rw.{rw_meaning, rw_tables, Comes, call_of}

module _ {T : Type 0} (key : Opening T) where
  pub reads : (h : Hold) → Comes h → IsAnsweredBy rw_tables rw_meaning (call_of h true) None Granted (Some h) key
  reads hold.Read comes l n b k may is = grind (arith, is)
  reads h comes l n b k may is = grind (arith, comes, is)

  pub writes : IsAnsweredBy rw_tables rw_meaning Write None Granted (Some hold.Write) key
  writes l n b k may is = grind (arith, is)

  pub tries : (h : Hold) → Comes h → IsTry rw_tables rw_meaning (call_of h false) None (Some h) key
  tries hold.Read comes l n b k may is = grind (arith, is)
  tries h comes l n b k may is = grind (arith, comes, is)

-- One exchange of a word that admits a reader is a whole `TryRead` if it finds this word, and otherwise a whole `ReaderCount`.
module _ {T : Type 0} (value : T) (old new : ℕ) (is : read reader_limit old ≡ Some new) where
  abbrev ahead : Ahead RwPoint
  ahead = record { old = old; new = new; point = Exchange old; number = old; looks = true }

  abbrev Peeked : Bool → ℕ → Type 0
  Peeked b n = IsLed (rw_table value reader_limit) rw_meaning (if b then TryRead else ReaderCount) None (if b then Some (Exchange old, old) else Some (First, n)) n (if b then new else n)

  found : (n : ℕ) → n ≡ old → Peeked true n
  found n e = (1, (Exchange n, rw (e, is) refl, (rw e refl, sym e)), rw (is, eq-eqb old old refl) refl)

  pub peeks : FusesBy (rw_table value reader_limit) rw_meaning (either_call TryRead ReaderCount ahead) None (either_step First ahead) old new
  peeks = (λ l. refl, λ n. dite (ℕ_discrete n old) (λ e. subst (λ b. Peeked b n) (sym (eq-eqb n old e)) (found n e)) (λ ne. subst (λ b. Peeked b n) (sym (ne_eqb n old ne)) (0, (refl, refl), refl)))

-- a reader uses the value
pub lent_uses : (h : Hold) → Comes h → use_at rw_meaning (resting (Some h)) ≢ off
lent_uses h comes e = grind (arith, comes, e)

-- the readers are within the limit
pub few_readers : (plain : Plain) (n : ℕ) → plain.cap ≡ reader_limit → IsInOrder plain → n ≡ rw_word plain → readers_in n ≤ reader_limit
few_readers plain n room order is = let one = one_of_each plain order.exclusive in
    omega (arith, readers-word plain n one (sym is), by_kinds (λ k. cond (is_reader k) 1 0) plain.holders, all_kinds plain.holders, order.holders_fit, room)

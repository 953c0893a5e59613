-- What a step tells its party of the value: which value the party sees, and that it is the one written last.
use Rattle.std.proofs.Common.{◌≡◌, ◌≢◌, List, Option, Some, None, refl, sym, ◌∙◌, subst}
use Rattle.std.specs.Option.{IfSome}
use Rattle.spin_core.specs.Cell.{Use, off, reads, writes, Shows}
use Rattle.spin_core.specs.Traced.{Learnt}
use Rattle.spin_core.specs.Values.{IsLast, last_value}
use Rattle.spin_core.specs.declared.tie.Opening.{Opening}
use Rattle.spin_core.proofs.tie.Values.{shows_last, read_last, gave}
use Rattle.spin_step.specs.Schedules.{Entry}

-- a party that uses the value after a step then sees a value; if it saw one before the step, it still sees that one
pub sees_on : {X : Type 0} (u : Use) (before after : Option X) → u ≢ off → Shows u before after → (after ≢ None) × (before ≢ None → after ≡ before)
sees_on off before after uses shows = absurd (uses refl)
sees_on u None after uses (x, is) = (λ e. absurd (let no : Some x ≡ None = sym is ∙ e in cc), λ some. absurd (some refl))
sees_on u (Some x) after uses is = (λ e. absurd (let no : Some x ≡ None = sym is ∙ e in cc), λ some. is)

-- For a step of a party that did not write before the step, or does not write after it.
module _ {C V : Type 0} (opening : Opening V) (es : List (Entry C V)) where
  abbrev IsLastNow : Option V → Type 0
  IsLastNow shown = IfSome shown (λ x. IsLast opening es x)

  pub seen_last : {S : Type 0} (u u' : Use) (before after : Option V) → Learnt {S = S} (last_value opening) u u' before after es → (u ≡ writes → u' ≢ writes)
      → Shows u' before after → IsLastNow after
  seen_last u off before after learnt not shows = subst IsLastNow (sym shows) tt
  seen_last u reads before after learnt not shows = shows_last opening u reads before after es learnt (λ e. refl) shows
  seen_last u writes before after learnt not shows = shows_last opening u writes before after es learnt (λ e. absurd (not e refl)) shows

  pub left_last : {S : Type 0} (u u' : Use) (before after : Option V) → Learnt {S = S} (last_value opening) u u' before after es → (u ≡ writes → u' ≢ writes)
      → Shows u' before after → u ≢ off → IsLastNow before
  left_last u u' None after learnt not shows uses = tt
  left_last off u' (Some x) after learnt not shows uses = absurd (uses refl)
  left_last reads off (Some x) after learnt not shows uses = read_last opening reads off (Some x) after es learnt refl refl
  left_last writes off (Some x) after learnt not shows uses = gave opening writes off (Some x) after es x learnt refl refl refl
  left_last u u' (Some x) after learnt not shows uses = subst IsLastNow shows (seen_last u u' (Some x) after learnt not shows)

-- A lock with one number: the plain lock, and the number.
use Rattle.std.specs.Prelude.{◌≡◌, ℕ, List, [], ◌∷◌, Option}
use Rattle.std.specs.List.{flat_map}
use Rattle.std.specs.Option.{unwrap_or, option_to_list}
use Rattle.spin_step.specs.Plain.{Plain}
use Rattle.spin_seated.specs.declared.history.Entry.{Entry}
use Rattle.spin_seated.specs.declared.lock.Opening.{Opening}
use Rattle.spin_seated.specs.declared.lock.Answer.{Answer}
use Rattle.spin_seated.specs.Histories.{PlainObject, IsTracked}

pub record Locked : Type 0 where
  pub lock : Plain
  pub value : ℕ

-- the value after these calls, if it was v before; `written` says which value a call writes, if any
abbrev pub value_after : {C A : Type 0} → (C → Option ℕ) → ℕ → List (Entry C A) → ℕ
value_after written v [] = v
value_after written v (e ∷ es) = value_after written (unwrap_or (written e.call) v) es

-- what a pass holds after these calls, which are its own; `turn` says how each call changes it
abbrev pub hold_after : {C H : Type 0} → (C → Answer → H → H) → H → List (Entry C Answer) → H
hold_after turn h [] = h
hold_after turn h (e ∷ es) = hold_after turn (turn e.call e.answer h) es

-- all values that these calls wrote, in order
abbrev pub all_written : {C A : Type 0} → (C → Option ℕ) → List (Entry C A) → List ℕ
all_written written log = flat_map (λ e. option_to_list (written e.call)) log

-- all values that these calls read, in order
abbrev pub all_read : {C A : Type 0} → (C → A → Option ℕ) → List (Entry C A) → List ℕ
all_read read log = flat_map (λ e. option_to_list (read e.call e.answer)) log

-- A value becomes each of `values` in turn, and a reader looks now and then. The reader may see the values `seen`: none is older than one
-- seen before.
pub data InOrderOf : List ℕ → List ℕ → Type 0 where
  done : {values : List ℕ} → InOrderOf values []
  looks : {value : ℕ} {values seen : List ℕ} → InOrderOf (value ∷ values) seen → InOrderOf (value ∷ values) (value ∷ seen)
  goes_on : {value : ℕ} {values seen : List ℕ} → InOrderOf values seen → InOrderOf (value ∷ values) seen

-- what a lock shows of its machine: its number of passes, its first words, and that a pass's own calls decide what it holds
pub record IsLockObject {C H : Type 0} (m : PlainObject Opening Locked C Answer H) : Type 0 where
  pub passes : (k : Opening) → m.passes k ≡ k.passes
  pub words : (k : Opening) → m.words (m.start k) ≡ 0 ∷ k.value ∷ []
  pub tracked : IsTracked m

-- What the steps of a table need, so that they can be made on words as code.
use Rattle.std.specs.Prelude.{◌≡◌, ℕ, ◌<◌, Bool, true, false, Option}
use Rattle.spin_step.specs.Operations.{performed}
use Rattle.spin_step.specs.Acts.{Memory, Act, store, Table, is_section, operation_by, place_of}
use Rattle.spin_step.specs.declared.place.Hold.{Hold}

-- the step is possible where it finds the number n
abbrev pub can_at : {W L A : Type 0} → Act W L A → ℕ → Bool
can_at (store can operation step next) n = can n
can_at _ n = true

-- The call's next step is one operation, on one of these words. Where the step is possible, the number in the word stays below the limit.
pub record WorksOn {W V C L A : Type 0} (m : Memory W) (places limit : ℕ) (t : Table W V C L A) (c : C) (l : L) (h : Option Hold) : Type 0 where
  pub memory : t.memory ≡ m
  pub place : place_of (t.word l) (t.act c l h) ≡ t.word l
  pub there : t.word l < places
  pub operates : is_section (t.act c l h) ≡ false
  pub stays : (n : ℕ) → n < limit → can_at (t.act c l h) n ≡ true → performed (operation_by (t.act c l h)) n < limit

-- Registering in time: what a `lock` knows of the looks in its span, how steps of other parties keep this knowledge, and
-- what each step of the call changes.
use Rattle.spin_world.proofs.FairNames.{Bool, ◌≡◌, ℕ, ◌+◌, ◌<◌, ◌≤◌, ◌⊎◌, ◌==◌, true, false, not, ◌&&◌, ◌||◌, Option, Some, None, List, ◌∷◌, ◌++◌, length, length-append, refl, ap, arith, ne_eqb, Plain, Change, gets, to_starve, is_open, apply_some, is_held, bit, StepKind, plain, again, look, is_look, Mark, AnyOf, Registers, TriesToStarve, first_word, fair, mark_of, own, own_count, changes, held_looks, IsLateLook, RegistersInTime, moved, is_open_to, []}
use Rattle.spin_world_core.specs.Spans.{is_blind, may_be_blind}
use Rattle.spin_world_core.proofs.Lists.{eqb_self}

-- what a step has to show so that the party still registers in time
pub record Extends (Few Fewer : List Mark → Type 0) (p n : ℕ) (now : Mark) (span : List Mark) : Type 0 where
  pub keeps : (recent : List Mark) → Few recent → TriesToStarve p now ⊎ Fewer (now ∷ recent)
  pub first : IsLateLook p n now span → Fewer []
  pub registers : Registers p now → n < held_looks p span
  pub sees : (not ((now.party == p) && is_blind now) || may_be_blind p n span) ≡ true

module _ {Few Fewer : List Mark → Type 0} {p n : ℕ} {now : Mark} {span : List Mark} (goes : Extends Few Fewer p n now span)
    (old : RegistersInTime Few p n span) where
  soon_later : (recent : List Mark) (m : Mark) (older : List Mark) → now ∷ span ≡ recent ++ m ∷ older → IsLateLook p n m older → AnyOf (TriesToStarve p) recent ⊎ Fewer recent
  soon_later [] m older is late = grind (arith, is, late, goes.first)
  soon_later (x ∷ recent) m older is late = grind (arith, is, late, goes.keeps recent, old.soon recent m older)

  patient_later : (recent : List Mark) (m : Mark) (older : List Mark) → now ∷ span ≡ recent ++ m ∷ older → Registers p m → n < held_looks p older
  patient_later [] m older is register = grind (arith, is, register, goes.registers)
  patient_later (x ∷ recent) m older is register = grind (arith, is, register, old.patient recent m older)

  later : RegistersInTime Fewer p n (now ∷ span)
  later = record { looking = grind (arith, old.looking, goes.sees); soon = soon_later; patient = patient_later }

-- the party's next step may be blind
abbrev pub MayBeBlind : ℕ → ℕ → List Mark → Type 0
MayBeBlind n p span = may_be_blind p n span ≡ true

-- with this `IsFew`, `RegistersInTime` says that after each late look the party has tried to register
abbrev pub none_left : List Mark → Type 0
none_left recent = ⊥

-- How many steps `lock` may have made since the late look. `few_to_load`: it is about to load the word.
-- `few_to_register`: it is about to exchange the word w.
abbrev pub few_to_load : ℕ → List Mark → Type 0
few_to_load p recent = own_count p recent ≤ changes fair p recent

abbrev pub few_to_register : ℕ → Plain → ℕ → List Mark → Type 0
few_to_register p s w recent = own_count p recent + bit (not (first_word fair s == w)) ≤ 1 + changes fair p recent

-- `lock` is not about to register. Its looks have found the lock held k times, or at least k times if k is the
-- patience.
pub record Looking (patience k p : ℕ) (span : List Mark) : Type 0 where
  pub counted : k < patience → held_looks p span ≤ k
  pub many : k ≤ held_looks p span
  pub in_time : RegistersInTime none_left p patience span

-- `lock` is about to register, after a late look
pub record Going (Few : List Mark → Type 0) (patience p : ℕ) (span : List Mark) : Type 0 where
  pub past : patience < held_looks p span
  pub in_time : RegistersInTime Few p patience span

abbrev pub Loading : ℕ → ℕ → List Mark → Type 0
Loading patience p span = Going (few_to_load p) patience p span

abbrev pub Registering : ℕ → ℕ → ℕ → Plain → List Mark → Type 0
Registering patience w p s span = Going (few_to_register p s w) patience p span

-- a span without steps has no late look
pub no_split : (recent : List Mark) (m : Mark) (older : List Mark) → [] ≡ recent ++ m ∷ older → ⊥
no_split recent m older e = omega (arith, ap length e, length-append recent (m ∷ older))

-- a step of another party
module _ (patience p q : ℕ) (s : Plain) (step : Option Change) (r : StepKind) (span : List Mark) (ne : q ≡ p → ⊥) where
  pub starving-other : RegistersInTime none_left p patience span → RegistersInTime none_left p patience (mark_of q step r s ∷ span)
  starving-other old = later (grind (arith, ne_eqb q p ne)) old

  pub looking-other : (k : ℕ) → Looking patience k p span → Looking patience k p (mark_of q step r s ∷ span)
  looking-other k old = grind (arith, ne_eqb q p ne, old.counted, old.many, starving-other old.in_time)

  pub loading-other : Loading patience p span → Loading patience p (mark_of q step r s ∷ span)
  loading-other old = record { past = grind (arith, ne_eqb q p ne, old.past); in_time = later (grind (arith, ne_eqb q p ne)) old.in_time }

  pub registering-other : (w : ℕ) → Registering patience w p s span → Registering patience w p (apply_some s step) (mark_of q step r s ∷ span)
  registering-other w old = record { past = grind (arith, ne_eqb q p ne, old.past); in_time = later (grind (arith, ne_eqb q p ne, moved)) old.in_time }

-- a step of the party's own

-- the step is no look, and does not register
abbrev is_quiet : Option Change → StepKind → Bool
is_quiet (Some (gets p to_starve)) r = false
is_quiet step r = not (is_look r)

module _ (patience p : ℕ) (s : Plain) (span : List Mark) where
  -- the step is not blind, or is blind when it may be
  abbrev pub IsAllowed : Option Change → StepKind → Type 0
  IsAllowed step r = (not (is_blind (mark_of p step r s)) || may_be_blind p patience span) ≡ true

  pub goes_on : (step : Option Change) (r : StepKind) → is_quiet step r ≡ true → IsAllowed step r
      → RegistersInTime none_left p patience span → RegistersInTime none_left p patience (mark_of p step r s ∷ span)
  goes_on step r quiet may old = later (grind (arith, eqb_self p)) old

  pub missed : (k : ℕ) (r : StepKind) → is_look r ≡ false → MayBeBlind patience p span → Looking patience k p span → Looking patience k p (mark_of p None r s ∷ span)
  missed k r no_look may old = grind (arith, eqb_self p, old.counted, old.many, goes_on None r, old.in_time)

  -- a look that finds the lock free
  pub looked_free : (k : ℕ) → is_held s ≡ false → Looking patience k p span → Looking patience k p (mark_of p None look s ∷ span)
  looked_free k free old =
      let in_time : RegistersInTime none_left p patience (mark_of p None look s ∷ span) = later (grind (arith, eqb_self p)) old.in_time in
      grind (arith, eqb_self p, old.counted, old.many, in_time)

  -- a look that finds the lock held, while k is less than the patience
  pub looked_held : (k : ℕ) → is_held s ≡ true → k < patience → Looking patience k p span → Looking patience (k + 1) p (mark_of p None look s ∷ span)
  looked_held k held lt old =
      let in_time : RegistersInTime none_left p patience (mark_of p None look s ∷ span) = later (grind (arith, eqb_self p, old.counted)) old.in_time in
      grind (arith, eqb_self p, old.counted, old.many, in_time)

  -- a look that finds the lock held, past the patience
  pub looked_late : (k : ℕ) → is_held s ≡ true → patience ≤ k → Looking patience k p span → Loading patience p (mark_of p None look s ∷ span)
  looked_late k held le old = record { past = grind (arith, eqb_self p, old.many); in_time = later (grind (arith, eqb_self p)) old.in_time }

  pub loaded : (w : ℕ) → w ≡ first_word fair s → MayBeBlind patience p span → Loading patience p span → Registering patience w p s (mark_of p None plain s ∷ span)
  loaded w is may old = record { past = grind (arith, eqb_self p, old.past); in_time = later (grind (arith, eqb_self p, is)) old.in_time }

  -- the exchange fails, since the word is no longer n
  pub retried : (n w : ℕ) → w ≡ first_word fair s → (w == n) ≡ false → Registering patience n p s span → Registering patience w p s (mark_of p None again s ∷ span)
  retried n w is other old = record { past = grind (arith, eqb_self p, old.past); in_time = later (grind (arith, eqb_self p, is, other)) old.in_time }

  -- a step that finds the cap reached
  pub full : (Few : List Mark → Type 0) (r : StepKind) → is_look r ≡ false → IsAllowed None r → is_open s (gets p to_starve) ≡ false → Going Few patience p span → Looking patience patience p (mark_of p None r s ∷ span)
  full Few r no_look may closed old =
      let in_time : RegistersInTime none_left p patience (mark_of p None r s ∷ span) = later (grind (arith, eqb_self p)) old.in_time in
      grind (arith, eqb_self p, old.past, in_time)

  pub registered : (n : ℕ) → Registering patience n p s span → RegistersInTime none_left p patience (mark_of p (Some (gets p to_starve)) again s ∷ span)
  registered n old = later (grind (arith, eqb_self p, old.past)) old.in_time

  -- a look of a starver
  pub looked_starving : own p span ≡ gets p to_starve ∷ [] → RegistersInTime none_left p patience span → RegistersInTime none_left p patience (mark_of p None look s ∷ span)
  looked_starving made old = later (grind (arith, eqb_self p, made)) old

-- A way to show that a lock is wrong: two steps after a late look do not try to register.
pub two_in_vain : (p n : ℕ) {Few : List Mark → Type 0} {a b m : Mark} {older : List Mark} → RegistersInTime Few p n (a ∷ b ∷ m ∷ older)
    → IsLateLook p n m older → (Registers p a → ⊥) × (is_open_to a.before p to_starve ≡ true) → (Registers p b → ⊥) × (is_open_to b.before p to_starve ≡ true)
    → (Few (a ∷ b ∷ []) → ⊥) → ⊥
two_in_vain p n {a = a} {b = b} {m = m} {older = older} law late last first few =
    grind (arith, law.soon (a ∷ b ∷ []) m older refl late, last, first, few)

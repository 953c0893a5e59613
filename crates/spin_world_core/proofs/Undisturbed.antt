-- An undisturbed call is answered within as many own steps as it promises.
use Rattle.spin_world_core.proofs.Names.{◌≡◌, ℕ, zero, suc, ◌+◌, ◌≤◌, true, false, Option, Some, List, [], ◌∷◌, refl, arith, Plain, Change, apply_some, Hold, Seat, Calling, Next, Continue, Answers, State, goes_on, AnsweredSoon, StepKind, is_weak, encoded, LockKind, Asked, Mark, Machine, mark_of, is_open_now, LeavesAlone, UndisturbedTakes, steps_alone, if◌then◌else◌, ◌==◌}
use Rattle.spin_world_core.proofs.Steps.{AnswersWithin}
use Rattle.spin_world_core.proofs.Lists.{eqb_self}

-- The span gets one more mark, m. A stretch is the part of the span since some mark. If m is the party's own, each
-- stretch that began before m gets one more own step. A new stretch begins with m.
module _ (kind : LockKind) (p : ℕ) (what : Asked) (m : Mark) (span : List Mark) (P Q : ℕ → Type 0) (begins : is_open_now p what span m.before ≡ true → P 0)
    (step : (n : ℕ) → LeavesAlone kind p m → P n → Q (n + (if m.party == p then 1 else 0))) where
  takes_on : UndisturbedTakes P kind p what span → UndisturbedTakes Q kind p what (m ∷ span)
  takes_on runs [] first older is may leaves = grind arith
  takes_on runs (mark ∷ recent) first older is may leaves = grind arith

module _ {W V C L A : Type 0} (m : Machine W V C L A) where
  -- at each point to which the step may lead, the call is answered within k steps
  abbrev pub GoesWithin : ℕ → W → C → Option Hold → Next L A → Type 0
  GoesWithin k w c h next = (l : L) → next ≡ Continue l → AnswersWithin m k w c l h

  -- How many steps an undisturbed call has left at most, if it goes on as `next` says. With the `taken` steps that it
  -- has made undisturbed they are no more than `steps_alone`.
  pub record Left (w : W) (c : C) (h : Option Hold) (next : Next L A) (taken : ℕ) : Type 0 where
    pub steps : ℕ
    pub few : taken + steps ≤ steps_alone (m.asks c h)
    pub goes : GoesWithin steps w c h next

  abbrev pub RunsOn : W → ℕ → List Mark → Option (Seat C L) → Type 0
  RunsOn w p span (Some (Calling c l h)) = UndisturbedTakes (Left w c h (Continue l)) m.lock_kind p (m.asks c h) span
  RunsOn w p span _ = Unit {0}

  module _ (w w' : W) (p : ℕ) (c : C) (l : L) (h : Option Hold) where
    -- no step has been taken yet
    begun_by : AnswersWithin m (steps_alone (m.asks c h)) w c l h → Left w c h (Continue l) 0
    begun_by answers = record { steps = steps_alone (m.asks c h); few = omega arith; goes = λ j e. grind (arith, answers, e) }

    -- after a step of the call's own, one step fewer is left
    one_taken : (next : Next L A) (taken now k : ℕ) → taken + k ≤ steps_alone (m.asks c h) → now ≡ taken + 1 → AnswersWithin m k w c l h
        → ((j : ℕ) → AnswersWithin m (suc j) w c l h → GoesWithin j w' c h next) → Left w' c h next now
    one_taken next taken now zero few is answers steps = absurd answers
    one_taken next taken now (suc j) few is answers steps = record { steps = j; few = omega (arith, few, is); goes = steps j answers }

    pub stepped : (s : Plain) (step : Option Change) (r : StepKind) (span : List Mark) (next : Next L A) → RunsOn w p span (Some (Calling c l h))
        → (is_open_now p (m.asks c h) span s ≡ true → AnswersWithin m (steps_alone (m.asks c h)) w c l h)
        → (is_weak r ≡ false → (j : ℕ) → AnswersWithin m (suc j) w c l h → GoesWithin j w' c h next)
        → UndisturbedTakes (Left w' c h next) m.lock_kind p (m.asks c h) (mark_of p step r s ∷ span)
    stepped s step r span next runs begins steps =
        takes_on m.lock_kind p (m.asks c h) (mark_of p step r s) span (Left w c h (Continue l)) (Left w' c h next) (λ may. begun_by (begins may))
        (λ n leaves left. one_taken next n _ left.steps left.few (rw (eqb_self p)) (left.goes l refl) (steps (leaves.strong refl))) runs

  -- A step of another party keeps what is left of a call. It either disturbs the call, or leaves the words unchanged.
  pub beside : (w w' : W) (p q : ℕ) (s : Plain) (step : Option Change) (r : StepKind) (span : List Mark) (o : Option (Seat C L)) → (p ≡ q → ⊥)
      → (encoded m.lock_kind (apply_some s step) ≡ encoded m.lock_kind s → w' ≡ w)
      → ((c : C) (l : L) (h : Option Hold) → o ≡ Some (Calling c l h) → is_open_now q (m.asks c h) span s ≡ true
      → AnswersWithin m (steps_alone (m.asks c h)) w c l h)
      → RunsOn w q span o → RunsOn w' q (mark_of p step r s ∷ span) o
  beside w w' p q s step r span (Some (Calling c l h)) ne same begins runs =
      takes_on m.lock_kind q (m.asks c h) (mark_of p step r s) span (Left w c h (Continue l)) (Left w' c h (Continue l))
      (λ may. begun_by w w q c l h (begins c l h refl may))
      (λ n leaves left. record { steps = left.steps; few = grind arith; goes = grind arith }) runs
  beside w w' p q s step r span _ ne same begins runs = tt

  -- when a call begins, no step has been taken
  pub runs_fresh : (w : W) (p : ℕ) (c : C) (l : L) (h : Option Hold) → RunsOn w p [] (Some (Calling c l h))
  runs_fresh w p c l h [] first older is may leaves = cc (is)
  runs_fresh w p c l h (mark ∷ recent) first older is may leaves = cc (is)

  pub soon_by : (s : State W V C L) (w : W) (p : ℕ) (c : C) (h : Option Hold) (span : List Mark) (next : Next L A)
      → UndisturbedTakes (Left w c h next) m.lock_kind p (m.asks c h) span → AnsweredSoon m.lock_kind p span (goes_on s p c h next).outcome (Some (m.asks c h))
  soon_by s w p c h span (Continue l) runs = λ recent first older is may leaves.
      let left = runs recent first older is may leaves in grind (arith, left.few, left.goes l refl)
  soon_by s w p c h span (Answers a rest) runs = λ recent first older is may leaves. omega (arith, (runs recent first older is may leaves).few)

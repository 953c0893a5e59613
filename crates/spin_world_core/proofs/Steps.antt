-- What holds when a party in a call is about to step, and what its step then leads to. Also what has to be shown of a machine that plays a table.
use Rattle.spin_world_core.proofs.Names.{◌≡◌, ℕ, zero, suc, ◌<◌, true, false, Option, Some, None, List, [], ◌∷◌, Plain, Ask, Change, completes, is_open, apply_some, IsOpenStep, entries, is_held, Hold, Seat, Calling, Next, Continue, Answers, Stepped, Move, Step, Weak, StepKind, is_again, by_step, encoded, BelongsTo, Said, own_steps, Mark, AnyOf, GetsByWay, MayTryOn, is_open_now, steps_alone, Machine, placed, HasPhase, GivesIfSaid, mark_of, if_completed, entries_held, writes_value, own, failures, changes, IsBeginning, RightBy, EndsWithin, ContinuesWithin, tries_of, limit, Stepwise, Table, machine_by, step_by, change_by, refusal_by, step_kind_by, LockKind, Asked}
use Rattle.spin_step.specs.StepKinds as step_kind
use Rattle.spin_world_core.proofs.Shapes.{Notes, is_answer, Knows, KnowsRow, row_of, Pays}
use Rattle.spin_world_core.proofs.Rows.{Row}

-- the machine of a table, with the steps of m
abbrev pub played : {W V C L A B : Type 0} → Table W V C L A → Machine W V C L B → Machine W V C L B
played t m = machine_by t m.refuse m.step m.says m.brings m.gives

-- how the call continues after a step, with each answer replaced by what the answer says (`Said`)
abbrev pub told : {L A : Type 0} → (A → Said) → Next L A → Next L Said
told says next = elim next [ Continue l ↦ Continue l | Answers a after ↦ Answers (says a) after ]

-- a try that continues without a plain step does so as `MayTryOn` allows
abbrev pub GoesOnOpen : {L A : Type 0} → Ask → ℕ → List Mark → Plain → Next L A → Option Change → Type 0
GoesOnOpen ask p span s (Continue l) None = MayTryOn ask p span s
GoesOnOpen ask p span s _ _ = Unit {0}

-- if a step makes no plain step and its call continues, though its plain step is open, then the step is a retry
abbrev pub ContinuesCounted : {W L A : Type 0} → (W → Option Change) → Plain → Next L A → Option Change → StepKind → Type 0
ContinuesCounted {W} change s next step step_kind = (w : W) (d : Change) → change w ≡ Some d → is_open s d ≡ true
    → step ≡ None → is_answer next ≡ false → is_again step_kind ≡ true

-- what holds at the end of a call
pub record Ends {C V : Type 0} (kind : LockKind) (what : Asked) (move : Move C V) (p : ℕ) (s : Plain) (span : List Mark) (said : Said) (after : Option Hold) : Type 0 where
  pub stands : entries p s ≡ entries_held p after
  pub own_steps_are : AnyOf (λ steps. own p span ≡ steps) (own_steps (what.answers said) p)
  pub right : RightBy move what said p span
  pub in_time : EndsWithin (limit kind what) kind p span

module _ {W V C L A : Type 0} {t : Table W V C L A} (n : Notes t) where
  abbrev pub KnowsAt : Plain → ℕ → List Mark → Option (Seat C L) → Type 0
  KnowsAt s p span (Some (Calling c l h)) = Knows n c l h p s span
  KnowsAt s p span _ = Unit {0}

  -- what holds when a call continues with this span, at a point with this row
  pub record Continues (o : Option Row) (p : ℕ) (c : C) (l : L) (h : Option Hold)
      (s : Plain) (span : List Mark) : Type 0 where
    pub knows : KnowsRow n c l h p s span o
    pub own_so_far : (said : Said) × AnyOf (λ steps. IsBeginning (own p span) steps) (own_steps ((t.asks c h).answers said) p)
    pub in_time : ContinuesWithin (limit t.lock_kind (t.asks c h)) t.lock_kind p span

  abbrev pub NextIs : Move C V → ℕ → C → Option Hold → Plain → List Mark → Next L Said → Type 0
  NextIs move p c h s span (Continue l) = Continues (row_of n c l h) p c l h s span
  NextIs move p c h s span (Answers said after) = Ends t.lock_kind (t.asks c h) move p s span said after

  -- what holds of a step or a spurious failure that makes this plain step, if any, and leaves the words w
  pub record Makes (p : ℕ) (s : Plain) (span : List Mark) (step : Option Change) (r : StepKind) (w : W) : Type 0 where
    pub opens : IsOpenStep s p step
    pub belongs : BelongsTo t.lock_kind step
    pub encodes : t.memory.numbers w ≡ encoded t.lock_kind (apply_some s step)
    pub shape : n.Shape (apply_some s step)
    -- a repeated exchange fails only if another party has made a change for which no exchange has failed yet
    pub fails : is_again r ≡ true → step ≡ None → failures p span < changes t.lock_kind p span

  -- the same, and the call continues as `next` says
  pub record Moves (move : Move C V) (p : ℕ) (c : C) (h : Option Hold) (s : Plain) (span : List Mark)
      (step : Option Change) (r : StepKind) (w : W) (next : Next L Said) : Type 0 where
    pub makes : Makes p s span step r w
    pub open makes use *
    pub goes_on : NextIs move p c h (apply_some s step) (mark_of p step r s ∷ span) next

module _ {W V C L B : Type 0} (m : Machine W V C L B) where
  -- from these words, at this point, the call is answered by its k-th step, if no other party steps in between
  abbrev pub AnswersWithin : ℕ → W → C → L → Option Hold → Type 0
  AnswersWithin zero w c l h = ⊥
  AnswersWithin (suc k) w c l h = (v : Option V) (l' : L) → (m.step w v c l h).next ≡ Continue l' → AnswersWithin k (m.step w v c l h).words c l' h

  -- what is promised of the value that an answer gives, if `value` is the present value
  abbrev pub NextGives : Option V → Next L B → Type 0
  NextGives value (Continue l) = Unit {0}
  NextGives value (Answers b after) = GivesIfSaid m.lock_kind.makes_value (m.says b) (m.gives b) value

module _ {W V C L A B : Type 0} {t : Table W V C L A} (m : Machine W V C L B) (n : Notes t) where
  module _ (p : ℕ) (c : C) (l : L) (h : Option Hold) (s : Plain) (v : Option V) (w : W) where
    abbrev stepped : Stepped W V L B
    stepped = m.step w v c l h

    abbrev made : Option Change
    made = change_by t.memory (t.word l) (t.act c l h) p w

    abbrev kind : StepKind
    kind = by_step (step_kind_by (t.asks c h) (t.act c l h))

    -- what holds of the value that a step leaves, and of the value that its answer gives
    pub record Values : Type 0 where
      pub tells : told m.says stepped.next ≡ told t.says (step_by {V = V} t.memory (t.word l) (t.act c l h) w).next
      pub phase : HasPhase t.lock_kind.makes_value (apply_some s made).phase (placed stepped.placed v)
      pub places : placed stepped.placed v ≡ if_completed v stepped.placed made
      -- a closure completes only while nobody holds the lock
      pub completes_alone : (q : ℕ) → made ≡ Some (completes q) → is_held s ≡ false
      pub brings : (q : ℕ) → made ≡ Some (completes q) → placed stepped.placed v ≡ m.brings c
      pub gives : NextGives (played t m) (placed stepped.placed v) stepped.next

    -- what holds at a step of a call
    pub record AtStep (span : List Mark) : Type 0 where
      pub can : (played t m).can w c l h ≡ true
      pub steps : Moves n Step p c h s span made kind stepped.words (told m.says stepped.next)
      pub counted : ContinuesCounted (λ u. (played t m).change p u c l h) s (told m.says stepped.next) made kind
      -- a call whose next step is due gets what it tries for, if that is open
      pub due : GetsByWay t.lock_kind p (t.asks c h) span s made kind
      -- a try continues only as `MayTryOn` allows
      pub tries_on : (ask : Ask) → tries_of (t.asks c h) ≡ Some ask → own p span ≡ [] → GoesOnOpen ask p span s (told m.says stepped.next) made
      -- if what a waiting call asks is open, the call is answered within `steps_alone` steps if no other party steps in between
      pub undisturbed : is_open_now p (t.asks c h) span s ≡ true → AnswersWithin (played t m) (steps_alone (t.asks c h)) w c l h
      -- a weak exchange that fails spuriously makes no plain step; `weakly`: only a call that may fail spuriously makes such an exchange
      pub refuses : (next : Next L B) → m.refuse c l h ≡ Some next → Moves n Weak p c h s span None step_kind.weak w (told m.says next)
      pub weakly : (next : Next L B) → m.refuse c l h ≡ Some next → ((t.asks c h).is_weak ≡ true) × (own p span ≡ (t.asks c h).before_weakly p)
      pub values : Values

  -- The machine m plays the table t, of which the object shows `Pays`. It adds only the values that closures make.
  pub record Plays : Type 0 where
    pub pays : Pays n
    pub stepwise : Stepwise (played t m)
    pub words : (w : W) (v : Option V) (c : C) (l : L) (h : Option Hold) → (m.step w v c l h).words ≡ (step_by {V = V} t.memory (t.word l) (t.act c l h) w).words
    pub continues : (w : W) (v : Option V) (c : C) (l : L) (h : Option Hold) (k : L) → (m.step w v c l h).next ≡ Continue k
        → (step_by {V = V} t.memory (t.word l) (t.act c l h) w).next ≡ Continue k
    pub refuses : (c : C) (l : L) (h : Option Hold) (next : Next L B) → m.refuse c l h ≡ Some next
        → (other : Next L A) × (refusal_by (t.act c l h) ≡ Some other) × (told m.says next ≡ told t.says other)
    pub refusal_gives : (c : C) (l : L) (h : Option Hold) (v : Option V) (next : Next L B) → m.refuse c l h ≡ Some next → NextGives (played t m) v next
    pub values : (p : ℕ) (c : C) (l : L) (h : Option Hold) (s : Plain) (v : Option V) (w : W) → t.memory.numbers w ≡ encoded t.lock_kind s → n.Shape s
        → HasPhase t.lock_kind.makes_value s.phase v → IsOpenStep s p (change_by t.memory (t.word l) (t.act c l h) p w) → Values p c l h s v w
    -- `HasPhase` stays true when a holder writes
    pub written : (s : Plain) (p : ℕ) (v : V) → n.Shape s → writes_value (entries p s) ≡ true → HasPhase t.lock_kind.makes_value s.phase (Some v)

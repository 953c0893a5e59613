-- What an object has to show of its table, point by point. All promises of its machine then follow.
use Rattle.spin_world_core.proofs.Names.{own_steps, tries_of, goes_of, ◌≡◌, ℕ, zero, suc, ◌≤◌, Bool, true, false, ◌||◌, ◌==◌, is_some, Option, Some, None, List, [], ◌∷◌, ◌++◌, option_to_list, Plain, Ask, Change, gets, apply, is_open, is_empty, apply_some, IsOpenStep, IsExclusive, Hold, Next, Continue, Answers, StepKind, plain, again, weak, by_step, Asked, encoded, BelongsTo, Mark, AnyOf, Limit, registers_after, arrivals_after, steps_alone, opening_plain, mark_of, failures, changes, word_number, Act, load, load_if, load_for, enter, exchange, weak_exchange, attempt, retry, store, section, swap, tried, guessed, passing, place_of, step_by, makes_by, look_kind, Table, begin_of, machine_of, performed, limit}
use Rattle.spin_step.specs.Parties.{none_entered}
use Rattle.spin_world_core.specs.Lawful.{Promises}
use Rattle.spin_world_core.proofs.Operating.{fits_act, CallsFit, OwnFits, Operates}
use Rattle.spin_world_core.proofs.Stands.{stand_of, stand_after}
use Rattle.spin_world_core.proofs.Rows.{sure_by, Branch, goes, finds_open, loses, misses, MaySpend, MayContinue, OwesRight, OwesEnd, Row, Point, row_at, IsSound, RetryOwes, need_of, FoundBy, NoRetry, BeginsBy, Known}

-- the call ends here
abbrev pub is_answer : {L A : Type 0} → Next L A → Bool
is_answer next = elim next [ Continue l ↦ false | Answers a after ↦ true ]

-- the plain step at which a step aims: for a try, also the plain step that a load only looks for
abbrev pub aim_by : {W L A : Type 0} → Option Ask → Act W L A → ℕ → Option Change
aim_by (Some ask) (load_for f step found missed) p = Some (step p)
aim_by (Some ask) act p = makes_by act p
aim_by None act p = sure_by act p

-- the request that the call's next plain step gets, if the call is a try or begins without a look
abbrev pub aim_of : Option Ask → Option Ask → List Change → Option Ask
aim_of (Some ask) due [] = Some ask
aim_of (Some ask) due (c ∷ cs) = None
aim_of None due made = due

abbrev pub aimed : ℕ → Option Ask → Option Change → Option Change
aimed p (Some ask) (Some c) = Some (gets p ask)
aimed p _ step = step

abbrev pub Aimed : {W L A : Type 0} → Option Ask → Option Ask → Act W L A → List Change → ℕ → Type 0
Aimed tries due act made p = aim_by tries act p ≡ aimed p (aim_of tries due made) (aim_by tries act p)

module _ {W V C L A : Type 0} (t : Table W V C L A) where
  -- What an object notes beside its table: the shape of its plain lock, the row of each point, and what else a party
  -- knows at a point.
  pub record Notes : Type 1 where
    pub Shape : Plain → Type 0
    pub point : C → L → Option Hold → Point
    pub Knows : C → L → Option Hold → ℕ → Plain → List Mark → Type 0

  -- whether the call is answered by its k-th step from this point, if no other party steps in between
  abbrev pub answers_by : ℕ → W → C → L → Option Hold → Bool
  answers_by zero w c l h = false
  answers_by (suc k) w c l h = let st = step_by {V = V} t.memory (t.word l) (t.act c l h) w in
      elim st.next [ Continue j ↦ answers_by k st.words c j h | Answers a after ↦ true ]

module _ {W V C L A : Type 0} {t : Table W V C L A} (n : Notes t) where
  abbrev pub row_of : C → L → Option Hold → Option Row
  row_of c l h = row_at (t.asks c h) h (n.point c l h)

  -- what a party in a call knows at a point with this row
  abbrev pub KnowsRow : C → L → Option Hold → ℕ → Plain → List Mark → Option Row → Type 0
  KnowsRow c l h p s span None = ⊥
  KnowsRow c l h p s span (Some row) = Known t.lock_kind (t.asks c h) (t.act c l h) row p s span × n.Knows c l h p s span

  abbrev pub Knows : C → L → Option Hold → ℕ → Plain → List Mark → Type 0
  Knows c l h p s span = KnowsRow c l h p s span (row_of c l h)

  -- what holds when a party is about to step
  pub record AtPoint (p : ℕ) (c : C) (l : L) (h : Option Hold) (s : Plain) (w : W) (span : List Mark) (o : Option Row) : Type 0 where
    pub encodes : t.memory.numbers w ≡ encoded t.lock_kind s
    pub shape : n.Shape s
    pub exclusive : IsExclusive s
    pub knows : KnowsRow c l h p s span o
    pub retries : failures p span ≤ changes t.lock_kind p span

  abbrev pub InCall : ℕ → C → L → Option Hold → Plain → W → List Mark → Type 0
  InCall p c l h s w span = AtPoint p c l h s w span (row_of c l h)

  -- What has to be shown

  -- If the step function gives a number, the plain step is open and is the party's own, and the words with this number are
  -- those after the plain step. If the step function refuses, the plain step is closed.
  abbrev pub Means : {X : Type 0} → ℕ → Plain → Change → (X → W) → Option X → Type 0
  Means p s c put None = is_open s c ≡ false
  Means p s c put (Some x) = IsOpenStep s p (Some c) × (t.memory.numbers (put x) ≡ encoded t.lock_kind (apply s c)) × n.Shape (apply s c)

  -- What has to be shown of a step of a call that has made these plain steps. `Comes` says that the call continues or is
  -- answered correctly.
  module _ (p : ℕ) (what : Asked) (s : Plain) (w : W) (made : List Change) (Comes : Bool → Option Change → StepKind → Branch → Next L A → Type 0) where
    -- the step makes this plain step and goes on as `won`, or finds it closed and goes on as `lost`
    abbrev pub Tries : {X : Type 0} → (X → W) → Option X → Change → StepKind → Next L A → Next L A → Type 0
    Tries put o c r won lost = Means p s c put o × Comes false (Some c) r goes won × (is_open s c ≡ false → Comes false None r (misses c) lost)

    -- what has to be shown of an act on the i-th word, if this word is the number n
    abbrev pub OwesOn : ℕ → ℕ → Act W L A → Type 0
    OwesOn i n (load next) = Comes false None plain goes (next n)
    OwesOn i n (load_if test a b) = let looking = by_step (look_kind what) in
        (test n ≡ true → Comes false None looking goes (a n)) × (test n ≡ false → Comes false None looking goes (b n))
    OwesOn i n (load_for f step found missed) =
        Means p s (step p) (λ j. t.memory.put i j w) (f n) × (is_some (f n) ≡ true → Comes false None plain finds_open (found n))
        × (is_open s (step p) ≡ false → Comes false None plain (misses (step p)) missed)
    OwesOn i n (enter test step won lost) = Tries (λ j. w) (passing (test n) n) (step p) (by_step (look_kind what)) won lost
    OwesOn i n (exchange operation step won lost) = Tries (λ j. t.memory.put i j w) (tried operation n) (step p) plain won (lost n)
    OwesOn i n (weak_exchange j f step won lost) =
        Tries (λ j. t.memory.put i j w) (tried (swap j f) n) (step p) plain won lost × Comes true None weak goes lost
        × (what.is_weak ≡ true) × (made ≡ what.before_weakly p)
    OwesOn i n (attempt j f step won lost) =
        (is_some (guessed j f n) ≡ true → Means p s (step p) (λ j. t.memory.put i j w) (guessed j f n) × Comes false (Some (step p)) plain goes won)
        × (guessed j f n ≡ None → Comes false None plain goes lost) × (is_answer lost ≡ true)
    OwesOn i n (retry j f step won found missed) =
        Means p s (step p) (λ j. t.memory.put i j w) (f n) × (n ≡ j → Comes false (Some (step p)) again goes won)
        × (is_some (f n) ≡ true → (n == j) ≡ false → Comes false None again loses (found n))
        × (is_open s (step p) ≡ false → Comes false None again (misses (step p)) missed)
    OwesOn i n (store can operation step next) =
        (can n ≡ true) × Means p s (step p) (λ j. t.memory.put i j w) (Some (performed operation n)) × Comes false (Some (step p)) plain goes next
    OwesOn i n (section can f step won lost) = (can w ≡ true) × Tries (λ u. u) (f w) (step p) plain (won w) (lost w)

    abbrev pub OwesBy : ℕ → Act W L A → Type 0
    OwesBy i act = OwesOn (place_of i act) (word_number t.memory (place_of i act) w) act

  module _ (p : ℕ) (c : C) (h : Option Hold) (s : Plain) (w : W) (span : List Mark) (row : Row) where
    -- The call continues correctly: the step turns this row into the row `to` of the next point.
    pub record LeadsTo (step : Option Change) (r : StepKind) (branch : Branch) (l : L) (to : Row) : Type 0 where
      pub stands : stand_after s.next step row.stand ≡ Some to.stand
      pub made : row.made p ++ option_to_list step ≡ to.made p
      pub spends : MaySpend (limit t.lock_kind (t.asks c h)) branch (to.made p) row.spent to.spent p t.lock_kind (mark_of p step r s ∷ span)
      pub goes_on : MayContinue (tries_of (t.asks c h)) branch step p s span
      pub finds : FoundBy (need_of t.lock_kind (t.asks c h) (to.made p) (t.act c l h)) (RetryOwes (t.act c l h) (word_number t.memory 0 w) step) step r s
      pub knows : n.Knows c l h p (apply_some s step) (mark_of p step r s ∷ span)

    -- The call is answered correctly.
    pub record EndsBy (weakly : Bool) (step : Option Change) (r : StepKind) (a : A) (after : Option Hold) : Type 0 where
      pub stands : stand_after s.next step row.stand ≡ Some (stand_of after)
      pub made : AnyOf (λ steps. row.made p ++ option_to_list step ≡ steps) (own_steps ((t.asks c h).answers (t.says a)) p)
      pub right : OwesRight weakly (t.asks c h) (t.says a) p (mark_of p step r s ∷ span)
      pub in_time : OwesEnd (limit t.lock_kind (t.asks c h)) t.lock_kind p (mark_of p step r s ∷ span)

    abbrev pub FollowsRow : Option Change → StepKind → Branch → L → Option Row → Type 0
    FollowsRow step r branch l o = elim o [ None ↦ ⊥ | Some to ↦ LeadsTo step r branch l to ]

    -- the call continues or is answered correctly, after this step with this result
    abbrev pub Follows : Bool → Option Change → StepKind → Branch → Next L A → Type 0
    Follows weakly step r branch (Continue l) = FollowsRow step r branch l (row_at (t.asks c h) h (n.point c l h))
    Follows weakly step r branch (Answers a after) = EndsBy weakly step r a after

    abbrev pub Owes : ℕ → Act W L A → Type 0
    Owes = OwesBy p (t.asks c h) s w (row.made p) Follows

  abbrev pub OwesRow : ℕ → C → L → Option Hold → Plain → W → List Mark → Option Row → Type 0
  OwesRow p c l h s w span None = Unit {0}
  OwesRow p c l h s w span (Some row) = AtPoint p c l h s w span (Some row) → Owes p c h s w span row (t.word l) (t.act c l h)

  -- if what a waiting call asks is open, the call is answered in time if no other party steps in between
  abbrev pub SoonRow : ℕ → C → L → Option Hold → Plain → W → List Mark → Option Row → Type 0
  SoonRow p c l h s w span None = Unit {0}
  SoonRow p c l h s w span (Some row) = let what = t.asks c h in what.waits ≡ true → AtPoint p c l h s w span (Some row)
      → what.is_open_next (is_empty (row.made p)) (arrivals_after p span) p s ≡ true → answers_by t (steps_alone what) w c l h ≡ true

  -- what has to be shown of the row at which a call begins
  abbrev pub BeginsRow : C → L → Option Hold → ℕ → Plain → Option Row → Type 0
  BeginsRow c l h p s None = ⊥
  BeginsRow c l h p s (Some row) =
      (row.stand ≡ stand_of h) × (row.made p ≡ []) × BeginsBy (need_of t.lock_kind (t.asks c h) (row.made p) (t.act c l h)) (NoRetry (t.act c l h))
      × n.Knows c l h p s []

  abbrev pub BeginsAt : C → Option Hold → ℕ → Plain → Option L → Type 0
  BeginsAt c h p s o = elim o [ None ↦ Unit {0} | Some l ↦ BeginsRow c l h p s (row_of c l h) ]

  abbrev pub AimsRow : ℕ → C → L → Option Hold → Option Row → Type 0
  AimsRow p c l h None = Unit {0}
  AimsRow p c l h (Some row) =
      let what = t.asks c h in Aimed (tries_of what) (goes_of what (row.made p)) (t.act c l h) (row.made p) p

  -- what has to be shown at every point of every call
  abbrev pub OwesAll : Type 0
  OwesAll = (p : ℕ) (c : C) (l : L) (h : Option Hold) (s : Plain) (w : W) (span : List Mark) → OwesRow p c l h s w span (row_of c l h)

  abbrev pub SoonAll : Type 0
  SoonAll = (p : ℕ) (c : C) (l : L) (h : Option Hold) (s : Plain) (w : W) (span : List Mark) → SoonRow p c l h s w span (row_of c l h)

  -- what an object shows of its table by computing alone
  pub record Computes : Type 0 where
    pub fits : (p : ℕ) (c : C) (l : L) (h : Option Hold) → fits_act t.lock_kind (t.asks c h) (t.act c l h) p ≡ true
    pub own : OwnFits t
    pub sound : (p : ℕ) (c : C) (l : L) (h : Option Hold) → IsSound t.lock_kind (t.asks c h) p (row_of c l h)
    pub aims : (p : ℕ) (c : C) (l : L) (h : Option Hold) → AimsRow p c l h (row_of c l h)
    pub first : t.memory.numbers t.words ≡ encoded t.lock_kind (opening_plain (machine_of t))
    pub numbers_tell : (v w : W) → t.memory.numbers v ≡ t.memory.numbers w → v ≡ w
    pub operates : Operates t
    pub begins : (p : ℕ) (c : C) (h : Option Hold) (s : Plain) → BeginsAt c h p s (begin_of t c h)
    pub shape_first : n.Shape (opening_plain (machine_of t))
    pub one_list : (s : Plain) → n.Shape s → (is_empty s.holders || none_entered s.tickets) ≡ true

  -- all that an object has to show of its table
  pub record Pays : Type 0 where
    pub computes : Computes
    pub open computes use *
    pub calls : CallsFit t
    pub promises : Promises t.lock_kind t.asks
    pub others : (p q : ℕ) (c : C) (l : L) (h : Option Hold) (s : Plain) (step : Option Change) (r : StepKind) (span : List Mark) → (q ≡ p → ⊥) → n.Shape s
        → IsOpenStep s q step → BelongsTo t.lock_kind step
        → n.Knows c l h p s span → n.Knows c l h p (apply_some s step) (mark_of q step r s ∷ span)
    pub owes : OwesAll
    pub soon : SoonAll

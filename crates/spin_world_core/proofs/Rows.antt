-- What a party in a call knows of its entries and of its span, and how each step of any party keeps this knowledge.
use Rattle.spin_world_core.proofs.Names.{get_or, ◌≡◌, ℕ, suc, ◌+◌, ◌≤◌, ◌⊎◌, ◌==◌, Bool, true, false, not, ◌&&◌, ◌||◌, is_some, Option, Some, None, List, [], ◌∷◌, ◌++◌, option_to_list, nat_lt, if◌then◌else◌, refl, arith, inr, ⊎_elim, Plain, Ask, Change, gets, is_open, apply_some, IsOpenStep, entries, is_held, bit, entries-other, Hold, StepKind, is_again, is_look, LockKind, Asked, Said, Mark, AnyOf, first_word, Limit, registers_after, mark_of, own, own_count, failures, changes, EndsWithin, ContinuesWithin, is_due, TryingWay, by_looks, past_looks, way_of, MayTryOn, Act, makes_by, load, load_if, load_for, attempt, retry, ap, list_any, goes_of}
use Rattle.spin_world_core.proofs.Lists.{eqb_self}
use Rattle.spin_world_core.proofs.Stands.{Stand, entries_at, stand_of}
use Rattle.spin_world_core.proofs.Names.{ne_eqb, append-nil}
use Rattle.std.proofs.lemmas.Bool.{or_right}
use Rattle.spin_step.specs.Calls.{got_or_starved, moment, own_steps, limit, FindsClosed, changes_within, gets_within, within, within_changes, Sense, got, grants}

-- The count of the call's steps

-- The result of a party's own step. The call just goes on, or has found a plain step open, or has lost a retry, or has
-- found a plain step closed.
pub data Branch : Type 0 where
  goes : Branch
  finds_open : Branch
  loses : Branch
  misses : Change → Branch

abbrev pub Branched : Branch → Plain → Option Change → StepKind → Type 0
Branched loses s step r = (is_again r ≡ true) × (step ≡ None)
Branched (misses c) s step r = is_open s c ≡ false
Branched _ s step r = Unit {0}

-- at most k of the steps that the limit counts have been spent
abbrev pub Spends : Limit → ℕ → ℕ → List Mark → Type 0
Spends (within n) k p span = own_count p span ≤ k
Spends (within_changes n) k p span = own_count p span ≤ failures p span + k
Spends (gets_within ask n) k p span = own p span ≡ [] → (own_count p span ≤ failures p span + k) ⊎ AnyOf (FindsClosed p ask) span
Spends (changes_within n) k p span = own p span ≡ [] → own_count p span ≤ k
Spends _ k p span = Unit {0}

-- A step with this result may raise the number of spent steps from j to k. The list has the plain steps made by then,
-- and the span includes this step. If the limit is `registers_after`, the object itself shows that the call keeps it.
abbrev pub MaySpend : Limit → Branch → List Change → ℕ → ℕ → ℕ → LockKind → List Mark → Type 0
MaySpend (within n) t cs j k p kind span = nat_lt j k ≡ true
MaySpend (within_changes n) loses cs j k p kind span = nat_lt j (suc k) ≡ true
MaySpend (within_changes n) t cs j k p kind span = nat_lt j k ≡ true
MaySpend (gets_within ask n) t (c ∷ cs) j k p kind span = Unit {0}
MaySpend (gets_within ask n) loses [] j k p kind span = nat_lt j (suc k) ≡ true
MaySpend (gets_within ask n) (misses c) [] j k p kind span = c ≡ gets p ask
MaySpend (gets_within ask n) t [] j k p kind span = nat_lt j k ≡ true
MaySpend (changes_within n) t [] j k p kind span = nat_lt j k ≡ true
MaySpend (registers_after n i) t cs j k p kind span = ContinuesWithin (registers_after n i) kind p span
MaySpend _ t cs j k p kind span = Unit {0}

-- A try that has found its plain step closed does not continue. By a step with the result `goes` a try continues only as
-- `MayTryOn` allows.
abbrev pub MayContinue : Option Ask → Branch → Option Change → ℕ → Plain → List Mark → Type 0
MayContinue (Some ask) (misses c) step p s span = ⊥
MayContinue (Some ask) goes None p s span = MayTryOn ask p span s
MayContinue tries branch step p s span = Unit {0}

-- a call that has spent k steps has a step left
abbrev pub is_timely : Limit → List Change → ℕ → Bool
is_timely (within n) cs k = nat_lt k n
is_timely (within_changes n) cs k = nat_lt k n
is_timely (gets_within ask n) [] k = nat_lt k n
is_timely (changes_within n) [] k = nat_lt k n
is_timely _ cs k = true

nil_left : {X : Type 0} (xs ys : List X) → xs ++ ys ≡ [] → xs ≡ []
nil_left [] ys e = refl
nil_left (x ∷ xs) ys e = absurd (cc (e))

-- the span with a step of the party p
abbrev pub now : ℕ → Plain → Option Change → StepKind → List Mark → List Mark
now p s step r span = mark_of p step r s ∷ span

-- a call that has a step left after a step of its own may continue within its limit
module _ (p : ℕ) (s : Plain) (step : Option Change) (r : StepKind) (span : List Mark) (what : Limit) (kind : LockKind) (t : Branch) (cs : List Change)
    (j k : ℕ) (made : own p (now p s step r span) ≡ cs) (may : MaySpend what t cs j k p kind (now p s step r span)) where
  spent-mine : Branched t s step r → Spends what j p span → Spends what k p (now p s step r span)
  spent-mine how spent = grind (arith, nil_left (own p span), eqb_self p, spent)

  pub goes_within : Branched t s step r → Spends what j p span → is_timely what cs k ≡ true
      → failures p (now p s step r span) ≤ changes kind p (now p s step r span)
      → Spends what k p (now p s step r span) × ContinuesWithin what kind p (now p s step r span)
  goes_within how spent timely retries = let more = spent-mine how spent in (more, grind (arith, more))

-- what the object has to show of the limit of a call that is answered: nothing, unless the limit is `registers_after`
abbrev pub OwesEnd : Limit → LockKind → ℕ → List Mark → Type 0
OwesEnd (registers_after n i) kind p span = EndsWithin (registers_after n i) kind p span
OwesEnd _ kind p span = Unit {0}

pub ends_within : (what : Limit) (kind : LockKind) (cs : List Change) (k p : ℕ) (s : Plain) (step : Option Change) (r : StepKind) (span : List Mark) → is_timely what cs k ≡ true → failures p span ≤ changes kind p span → Spends what k p span
    → OwesEnd what kind p (now p s step r span) → EndsWithin what kind p (now p s step r span)
ends_within what kind cs k p s step r span timely retries spent owed = grind (arith, eqb_self p)

-- The call's plain steps, and the moment of a grant

-- every plain step of the span was open, and was a step of the party that made it
abbrev pub Opened : List Mark → Type 0
Opened [] = Unit {0}
Opened (m ∷ ms) = IsOpenStep m.before m.party m.change × Opened ms

any_split : {X : Type 0} (P : X → Type 0) (xs ys : List X) → AnyOf P (xs ++ ys) → AnyOf P xs ⊎ AnyOf P ys
any_split P [] ys any = inr any
any_split P (x ∷ xs) ys any = grind (arith, any_split P xs ys)

pub any_map : {X : Type 0} (P Q : X → Type 0) (xs : List X) → ((x : X) → P x → Q x) → AnyOf P xs → AnyOf Q xs
any_map P Q [] f any = any
any_map P Q (x ∷ xs) f any = grind (arith, f, any_map P Q xs f)

pub any_passes : {X : Type 0} (P : X → Type 0) (test : X → Bool) (xs : List X) → ((x : X) → P x → test x ≡ true) → AnyOf P xs → list_any test xs ≡ true
any_passes P test [] f any = absurd any
any_passes P test (x ∷ xs) f any = grind (arith, f, any_passes P test xs f)

granted_here : (p : ℕ) (ask : Ask) (m : Mark) (b : Bool) → (m.party == p) ≡ b → IsOpenStep m.before m.party m.change
    → AnyOf (λ c. c ≡ gets p ask) (if b then option_to_list m.change else []) → grants p ask m ≡ true
granted_here p ask m b mine may any = grind arith

-- if the call has made the plain step that gets `ask`, its grant has a moment
pub granted_at : (p : ℕ) (ask : Ask) (span : List Mark) → Opened span → AnyOf (λ c. c ≡ gets p ask) (own p span) → list_any (grants p ask) span ≡ true
granted_at p ask [] opened any = absurd any
granted_at p ask (m ∷ ms) opened any =
    ⊎_elim
    (λ (earlier : AnyOf (λ c. c ≡ gets p ask) (own p ms)). or_right (grants p ask m) _ (granted_at p ask ms opened.1 earlier))
    (λ here. ap (λ b. b || list_any (grants p ask) ms) (granted_here p ask m (m.party == p) refl opened.0 here))
    (any_split (λ c. c ≡ gets p ask) (own p ms) (if m.party == p then option_to_list m.change else []) any)

-- what has to be shown of an answer's moment: nothing of a grant, whose moment follows from the call's plain steps
abbrev pub OwesMoment : Sense → ℕ → List Mark → Type 0
OwesMoment (got ask) p span = Unit {0}
OwesMoment (got_or_starved a b) p span = Unit {0}
OwesMoment meaning p span = moment meaning p span ≡ true

pub moment_of : (meaning : Sense) (p : ℕ) (span : List Mark) → Opened span → AnyOf (λ steps. own p span ≡ steps) (own_steps meaning p) → OwesMoment meaning p span → moment meaning p span ≡ true
moment_of meaning p span opened is owed = grind (arith, λ (ask : Ask). granted_at p ask span opened)

-- nothing has to be shown of a moment if the answer may be a spurious failure
abbrev pub OwesRight : Bool → Asked → Said → ℕ → List Mark → Type 0
OwesRight weakly what said p span =
    elim (weakly && what.needs_no_cause said) [ true ↦ Unit {0} | false ↦ OwesMoment (what.answers said) p span ]

-- What a row says of a point

pub record Row : Type 0 where
  pub stand : Stand
  pub made : ℕ → List Change  -- the plain steps of the call so far
  pub rest : ℕ → List Change  -- the plain steps left before an answer that says `said`
  pub said : Said
  pub spent : ℕ  -- how many steps of the call's limit are spent

-- A point of a call. At `looked k` the party holds what it held when the call began. The call has made no plain step,
-- and has spent k steps of its limit. A point `onward` has a row of its own, and `nowhere` has no row.
pub data Point : Type 0 where
  nowhere : Point
  looked : ℕ → Point
  onward : Row → Point

-- the point at which a call begins, if it may begin
abbrev pub starts : {L : Type 0} → Option L → Point
starts o = elim o [ None ↦ nowhere | Some l ↦ looked 0 ]

abbrev pub row_at : Asked → Option Hold → Point → Option Row
row_at what h nowhere = None
row_at what h (onward row) = Some row
row_at what h (looked k) = let rest : ℕ → List Change = λ p. get_or (own_steps (what.answers what.most) p) 0 [] in
    Some (record { stand = stand_of h; made = λ p. []; rest = rest; said = what.most; spent = k })

-- At this row the call has a step left. Its plain steps so far, followed by those that are left, are the plain steps of
-- an answer.
abbrev pub IsSound : LockKind → Asked → ℕ → Option Row → Type 0
IsSound kind what p None = Unit {0}
IsSound kind what p (Some row) = (is_timely (limit kind what) (row.made p) row.spent ≡ true) × AnyOf (λ steps. row.made p ++ row.rest p ≡ steps) (own_steps (what.answers row.said) p)

-- If the next step is a retry that expects k, then others have changed the first word at least as often as retries have
-- failed, and once more if the word is no longer k. Also, the step function does not refuse k.
abbrev pub Expects : {W L A : Type 0} → LockKind → Act W L A → ℕ → Plain → List Mark → Type 0
Expects kind (retry k f step won found missed) p s span = (failures p span + bit (not (first_word kind s == k)) ≤ changes kind p span) × (is_some (f k) ≡ true)
Expects kind _ p s span = Unit {0}

-- What a step has to show if a retry follows. The step makes no plain step, and finds n in the first word. The retry
-- expects n, which the step function does not refuse.
abbrev pub RetryOwes : {W L A : Type 0} → Act W L A → ℕ → Option Change → Type 0
RetryOwes (retry k f step won found missed) n made = (made ≡ None) × (n ≡ k) × (is_some (f k) ≡ true)
RetryOwes _ n made = Unit {0}

-- whether a try is due at a point (`free`: it may be due or not; `never`: an object may have no such point)
pub data Need : Type 0 where
  free : Need
  due : Bool → Need
  never : Need

-- the plain step that a step makes whenever this plain step is open
abbrev pub sure_by : {W L A : Type 0} → Act W L A → ℕ → Option Change
sure_by (attempt k f step won lost) p = None
sure_by (retry k f step won found missed) p = None
sure_by act p = makes_by act p

abbrev pub peeks : {W L A : Type 0} → Act W L A → Bool
peeks act = elim act [ load_if test a b ↦ true | _ ↦ false ]

-- the need of a point, by whether its next step is sure to make its plain step (`sure_by`), and whether it is a look
abbrev pub need : Option Ask → TryingWay → Bool → Bool → Need
need None way sure peeking = free
need (Some ask) by_looks true peeking = due true
need (Some ask) by_looks false true = due false
need (Some ask) past_looks false peeking = due false
need (Some ask) way sure peeking = if sure then free else never

abbrev pub need_of : {W L A : Type 0} → LockKind → Asked → List Change → Act W L A → Need
need_of kind what made act = need (goes_of what made) (way_of kind what made) (is_some (sure_by act 0)) (peeks act)

abbrev pub Needs : Need → ℕ → List Mark → Type 0
Needs needed p span = elim needed [ free ↦ Unit {0} | due b ↦ is_due p span ≡ b | never ↦ ⊥ ]

-- after such a step a try is due: the step makes a plain step, or is a look that finds the lock free
abbrev pub makes_due : Option Change → StepKind → Plain → Bool
makes_due step r s = is_some step || (is_look r && not (is_held s))

abbrev pub FoundBy : Need → Type 0 → Option Change → StepKind → Plain → Type 0
FoundBy needed Finds step r s = elim needed [ free ↦ Finds | due b ↦ Finds × (makes_due step r s ≡ b) | never ↦ ⊥ ]

-- a call does not begin with a retry
abbrev pub NoRetry : {W L A : Type 0} → Act W L A → Type 0
NoRetry act = elim act [ retry k f step won found missed ↦ ⊥ | _ ↦ Unit {0} ]

abbrev pub BeginsBy : Need → Type 0 → Type 0
BeginsBy needed Begins = elim needed [ free ↦ Begins | due b ↦ (b ≡ true) × Begins | never ↦ ⊥ ]

pub record Known {W L A : Type 0} (kind : LockKind) (what : Asked) (act : Act W L A) (row : Row) (p : ℕ) (s : Plain) (span : List Mark) : Type 0 where
  pub stand : entries p s ≡ entries_at p row.stand
  pub made : own p span ≡ row.made p
  pub spent : Spends (limit kind what) row.spent p span
  pub expects : Expects kind act p s span
  pub needs : Needs (need_of kind what (row.made p) act) p span
  pub opened : Opened span

-- after a step of the party's own

module _ (p : ℕ) (s : Plain) (step : Option Change) (r : StepKind) (span : List Mark) where
  pub needs-mine : (needed : Need) (Finds : Type 0) → FoundBy needed Finds step r s → Needs needed p (now p s step r span) × Finds
  needs-mine needed Finds found = grind (arith, eqb_self p, found)

-- after another party's step

-- the bound of `Expects` still holds after another party changes the first word from x to y
pub moved : (a b n x y : ℕ) → a + bit (not (x == n)) ≤ b → a + bit (not (y == n)) ≤ b + bit (not (y == x))
moved a b n x y le = grind arith

module _ (p q : ℕ) (s : Plain) (step : Option Change) (r : StepKind) (span : List Mark) (ne : q ≡ p → ⊥) where
  needs-other : (needed : Need) → Needs needed p span → Needs needed p (now q s step r span)
  needs-other needed needs = grind (arith, ne_eqb q p ne)

  pub known-other : {W L A : Type 0} (kind : LockKind) (what : Asked) (act : Act W L A) (row : Row) → IsOpenStep s q step → Known kind what act row p s span
      → Known kind what act row p (apply_some s step) (now q s step r span)
  known-other kind what act row may known =
      let needs = needs-other (need_of kind what (row.made p) act) known.needs in
      grind (arith, entries-other s q p step ne may, ne_eqb q p ne, append-nil (own p span), moved, known, needs)

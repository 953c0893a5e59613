-- The steps of a table as operations on one word, and what follows from the constructor (`Act`) of a step alone.
use Rattle.spin_world_core.proofs.Names.{AnyOf, own_steps, list_all, Said, ◌≡◌, ℕ, Bool, true, false, not, ◌&&◌, ◌||◌, Option, Some, None, is_some, slice_set, unwrap_or, refl, ap, subst, arith, and_parts, Change, Hold, Answer, Next, LockKind, is_step_of, Asked, performed, Performs, IsOneOperation, RefusesAsLost, Stepwise, one_number, word_number, Act, weak_exchange, place_of, change_at, refusal_by, makes_by, operation_by, is_section, step_by, Table, machine_of, machine_with}

-- What has to be shown

-- The plain step, if any, is one that this kind of lock makes. If the call gets it weakly, the act is a weak exchange.
abbrev pub fits_step : LockKind → Asked → Bool → Option Change → Bool
fits_step kind what weakly None = true
fits_step kind what weakly (Some c) = is_step_of kind c && (weakly || not (what.gets_weakly c))

-- each call of the table asks one of the things that `calls` of the kind of lock lists
abbrev pub CallsFit : {W V C L A : Type 0} → Table W V C L A → Type 0
CallsFit {C = C} t = (c : C) (h : Option Hold) → (n : ℕ) × AnyOf (λ what. t.asks c h ≡ what) (t.lock_kind.calls n h)

-- a call that may begin makes only plain steps that its kind of lock makes
abbrev pub OwnFits : {W V C L A : Type 0} → Table W V C L A → Type 0
OwnFits {C = C} t =
    (c : C) (h : Option Hold) (said : Said) (p : ℕ) → (t.asks c h).begins h ≡ true → list_all (list_all (is_step_of t.lock_kind)) (own_steps ((t.asks c h).answers said) p) ≡ true

-- `fits_step`, and the act is no section unless the steps of this kind of lock are sections
abbrev pub fits_act : {W L A : Type 0} → LockKind → Asked → Act W L A → ℕ → Bool
fits_act kind what act p =
    fits_step kind what (is_some (refusal_by act)) (makes_by act p) && (kind.steps_in_sections || not (is_section act))

-- a step that is no section makes its operation on its word, and does not change the other words
abbrev pub Operates : {W V C L A : Type 0} → Table W V C L A → Type 0
Operates {W} {V} {C} {L} t =
    (c : C) (l : L) (h : Option Hold) (w : W) → is_section (t.act c l h) ≡ false
    → (let i = place_of (t.word l) (t.act c l h) in t.memory.numbers (step_by {V = V} t.memory (t.word l) (t.act c l h) w).words ≡ slice_set (t.memory.numbers w) i (performed (operation_by (t.act c l h)) (word_number t.memory i w)))

-- a table whose memory is one number fulfils `Operates`
pub operates_one : {V C L A : Type 0} (t : Table ℕ V C L A) → t.memory ≡ one_number → Operates t
operates_one t is c l h w one = grind (arith, is, one)

-- The plain step that a step makes is the one that the table names for it

pub change_is : {W L A : Type 0} (n : ℕ) (act : Act W L A) (p : ℕ) (w : W) (d : Change) → change_at n act p w ≡ Some d → makes_by act p ≡ Some d
change_is n act p w d is = grind arith

-- So the kind of lock makes this plain step. If the call gets this plain step weakly, it does so by a weak exchange.
pub fits_made : (kind : LockKind) (what : Asked) (weakly : Bool) (o : Option Change) (d : Change) → fits_step kind what weakly o ≡ true → o ≡ Some d → (is_step_of kind d ≡ true) × (what.gets_weakly d ≡ true → weakly ≡ true)
fits_made kind what weakly o d fit is = grind arith

-- The operations

module _ {W V C L A : Type 0} (t : Table W V C L A) (fit : (p : ℕ) (c : C) (l : L) (h : Option Hold) → fits_act t.lock_kind (t.asks c h) (t.act c l h) p ≡ true) (operates : Operates t) where
  pub fits_change : (p : ℕ) (c : C) (l : L) (h : Option Hold) (n : ℕ) (w : W) (d : Change) → change_at n (t.act c l h) p w ≡ Some d → (is_step_of t.lock_kind d ≡ true) × ((t.asks c h).gets_weakly d ≡ true → is_some (refusal_by (t.act c l h)) ≡ true)
  fits_change p c l h n w d is = fits_made t.lock_kind (t.asks c h) _ (makes_by (t.act c l h) p) d (and_parts _ _ (fit p c l h)).0 (change_is n (t.act c l h) p w d is)

  performs_of : (c : C) (l : L) (h : Option Hold) → is_section (t.act c l h) ≡ false → Performs (machine_of t) c l h (place_of (t.word l) (t.act c l h)) (operation_by (t.act c l h))
  performs_of c l h one = grind arith

  lost_of : (c : C) (l : L) (h : Option Hold) (act : Act W L A) (next : Next L A) → t.act c l h ≡ act → refusal_by act ≡ Some next → RefusesAsLost (machine_of t) c l h next
  lost_of c l h (weak_exchange k f step won lost) next same is =
      let i = t.word l in
      let performs = subst (λ act. Performs (machine_of t) c l h (place_of i act) (operation_by act)) same (performs_of c l h (ap is_section same)) in
      (i, k, unwrap_or (f k) k, performs, λ w v other. grind (arith, same, is), λ p w found. grind (arith, same))
  lost_of c l h _ next same is = absurd (cc (is))

  pub stepwise_of : CallsFit t → OwnFits t → Stepwise (machine_of t)
  stepwise_of calls own = record {
    calls = calls;
    begins = grind arith;
    fits = own;
    refuses = λ c l h next is. lost_of c l h (t.act c l h) next refl is;
    weak = λ p c l h w d is. (fits_change p c l h (word_number t.memory (place_of (t.word l) (t.act c l h)) w) w d is).1;
    operates = λ c l h. grind (arith, performs_of c l h, fit 0 c l h);
    looks = grind arith;
  }

module _ {W V C L : Type 0} (t : Table W V C L (Answer (Unit {0}))) (brings : C → Option V) (fit : (p : ℕ) (c : C) (l : L) (h : Option Hold) → fits_act t.lock_kind (t.asks c h) (t.act c l h) p ≡ true) (operates : Operates t) where
  operation_with : (sections : Bool) (c : C) (l : L) (h : Option Hold) → IsOneOperation sections (machine_of t) c l h → IsOneOperation sections (machine_with t brings) c l h
  operation_with true c l h o = tt
  operation_with false c l h o =
      (o.0, o.1, record { words = o.2.words; next = λ w u v can may same. grind (arith, o.2.next w u v can may same); placed = λ w u v. refl })

  pub stepwise_with : CallsFit t → OwnFits t → ((c : C) (h : Option Hold) (d : Change) → (t.asks c h).gets_weakly d ≡ false) → Stepwise (machine_with t brings)
  stepwise_with calls own strong =
      let is = stepwise_of t fit operates calls own in
      let one = λ (c : C) (l : L) (h : Option Hold).
      operation_with t.lock_kind.steps_in_sections c l h (is.operates c l h) in grind (arith, calls, is, one, strong)

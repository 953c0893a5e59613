-- Who holds the mutex: nobody, or one of its passes.
use Rattle.std.proofs.Common.{arith, ◌≡◌, ℕ, ◌<◌, ◌≢◌, ◌==◌, ◌&&◌, ◌||◌, Bool, true, false, if◌then◌else◌, List, [], ◌∷◌, refl, ap, ◌∙◌, eq-eqb, ne_eqb, eqb-true}
use Rattle.std.proofs.Math.Bool.{or-false}
use Rattle.spin_step.specs.Plain.{Holder, holder, writing, same_kind, is_holder, is_empty, without_holder, apply, gets, to_write}
use Rattle.spin_seated.specs.declared.history.Entry.{Entry}
use Rattle.spin_seated.specs.declared.lock.Opening.{Opening}
use Rattle.spin_seated.specs.declared.mutex.Call.{Call}
use Rattle.spin_seated.specs.declared.mutex.Call.TheVariants.{TryLock}
use Rattle.spin_seated.specs.declared.lock.Answer.{Answer}
use Rattle.spin_seated.specs.declared.lock.Answer.TheVariants.{Truth}
use Rattle.spin_seated.specs.Histories.{state, IsLegal, IsTracked}
use Rattle.spin_seated.specs.Locked.{Locked}
use Rattle.spin_seated.specs.Mutex.{may_call, plain_answer, after_call, held_after, mutex}
use Rattle.spin_seated.proofs.Histories.{always}

-- the state with these holders
abbrev pub held_by : Locked → List Holder → Locked
held_by s hs = record s { lock = record s.lock { holders = hs } }

-- nobody holds, or one of n passes does, to write
abbrev pub Alone : ℕ → List Holder → Type 0
Alone n [] = Unit {0}
Alone n (h ∷ []) = (h.party < n) × (h.kind ≡ writing)
Alone n (h ∷ g ∷ hs) = ⊥

its_party : (b : Bool) (h : Holder) (p : ℕ) → (h.party == p) ≡ b → ((b && same_kind writing h.kind) || false) ≡ true → h.party ≡ p
its_party b h p is found = grind (arith, eqb-true)

pub alone_is : (n p : ℕ) (hs : List Holder) → Alone n hs → is_holder p writing hs ≡ true → hs ≡ holder p writing ∷ []
alone_is n p hs alone found = grind (arith, its_party)

pub freed : (n p : ℕ) (hs : List Holder) → Alone n hs → is_holder p writing hs ≡ true → without_holder p writing hs ≡ []
freed n p hs alone found = ap (without_holder p writing) (alone_is n p hs alone found) ∙ ap (λ (b : Bool). if b && true then [] else holder p writing ∷ []) (eq-eqb p p refl)

tries_alone : (n p : ℕ) (s : Locked) (hs : List Holder) → p < n → Alone n hs → Alone n (after_call p TryLock (held_by s hs)).lock.holders
tries_alone n p s hs given alone = grind arith

pub alone_after : (n p : ℕ) (c : Call) (s : Locked) → p < n → may_call p c s ≡ true → Alone n s.lock.holders → Alone n (after_call p c s).lock.holders
alone_after n p c s given may alone = grind (arith, tries_alone, freed)

pub alone_state : (k : Opening) (log : List (Entry Call Answer)) → IsLegal mutex k log → Alone k.passes (state mutex k log).lock.holders
alone_state k log legal = always mutex (λ s. Alone k.passes s.lock.holders) k.passes (λ p c s. alone_after k.passes p c s) (mutex.start k) log tt legal

other_tries : (p q : ℕ) (s : Locked) (hs : List Holder) → q ≢ p → is_holder p writing (after_call q TryLock (held_by s hs)).lock.holders ≡ is_holder p writing hs
other_tries p q s hs apart = grind (arith, ne_eqb)

goes_by : (p q : ℕ) (h : Holder) (hs : List Holder) (b : Bool) → q ≢ p → (h.party == q) ≡ b → is_holder p writing (without_holder q writing hs) ≡ is_holder p writing hs
    → is_holder p writing (if b && same_kind writing h.kind then hs else h ∷ without_holder q writing hs) ≡ ((h.party == p) && same_kind writing h.kind) || is_holder p writing hs
goes_by p q h hs b apart is rest = grind (arith, ne_eqb, eqb-true)

other_goes : (p q : ℕ) (hs : List Holder) → q ≢ p → is_holder p writing (without_holder q writing hs) ≡ is_holder p writing hs
other_goes p q [] apart = refl
other_goes p q (h ∷ hs) apart = goes_by p q h hs (h.party == q) apart refl (other_goes p q hs apart)

-- whether a pass holds
abbrev pub is_held_by : ℕ → Locked → Bool
is_held_by p s = is_holder p writing s.lock.holders

-- calls of other passes do not change whether a pass holds
pub steady : (p q : ℕ) (c : Call) (s : Locked) → q ≢ p → is_held_by p (after_call q c s) ≡ is_held_by p s
steady p q c s apart = grind (arith, other_tries, other_goes)

pub value_tried : (p : ℕ) (s : Locked) (b : Bool) → (if b then record s { lock = apply s.lock (gets p to_write) } else s).value ≡ s.value
value_tried p s b = grind arith

pub truth_is : (b t : Bool) → Truth b ≡ Truth t → b ≡ t
truth_is b t same = cc same

pub tried : (p : ℕ) (s : Locked) (hs : List Holder) (b : Bool) → Truth b ≡ Truth (is_empty hs) → is_held_by p (after_call p TryLock (held_by s hs)) ≡ (is_holder p writing hs || b)
tried p s hs b is = grind (arith, eq-eqb, truth_is, or-false)

own_after : (n p : ℕ) (c : Call) (s : Locked) → Alone n s.lock.holders → may_call p c s ≡ true → is_held_by p (after_call p c s) ≡ held_after c (plain_answer p c s) (is_held_by p s)
own_after n p c s alone may = grind (arith, tried, freed)

pub tracked : IsTracked mutex
tracked = record { own = λ k log p c legal may. own_after k.passes p c (state mutex k log) (alone_state k log legal) may; steady = steady }

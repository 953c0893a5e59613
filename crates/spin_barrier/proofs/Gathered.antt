-- One more arrival at a barrier whose arrivals are kept.
use Rattle.std.proofs.Common.{◌≡◌, ◌∙◌, ◌⊎◌, Option, Some, IfSome, le_refl, le_trans, List, [], ◌∷◌, ◌++◌, ℕ, ◌+◌, ◌-◌, ◌*◌, ◌/◌, ◌%◌, ◌<◌, ◌≤◌, ◌==◌, Bool, true, false, not, sym, subst, ap, MatchBool, arith}
use Rattle.std.specs.Prelude.{max, length}
use mathlib.Core.List.{IsPrefix}
use mathlib.Core.Logic.{inl, inr}
use base.Growing.{prefix_trans}
use mir.Val.{bool_byte}
use Rattle.std.proofs.lemmas.List.{append-nil, append_assoc}
use Rattle.std.proofs.lemmas.Nat.{div-add-mod', div-mul-add}
use Rattle.std.proofs.Math.ListN.{length-append}
use Rattle.std.proofs.Math.Nat.{mod-lt, mod-eq_of_lt, mul-add-mod_self_right, suc-mul, le-max_left, le-max_right}
use Rattle.spin_step.specs.Plain.{fresh}
use Rattle.spin_step.specs.Barriers.{IsBarrier, arrived, generation_at}
use Rattle.spin_step_more.proofs.Barriers.{barrier_arrive-words, barrier_may_leave-full}
use Rattle.spin_step_more.specs.declared.barrier.State.{State}
use Rattle.spin_barrier.specs.Gathered.{gathered, groups, leads, fills, one_if, AllWithin, Arrived, Waited, Told}
use Rattle.spin_barrier.specs.Keeping.{IsArrival}
use Rattle.spin_history.specs.Entries.{last, InOrder}
use Rattle.spin_history.proofs.Entries.{later}

parts : (n q g r : ℕ) → n ≡ q * g + r → r < g → (n / g ≡ q) × (n % g ≡ r)
parts n q g r sum less = (ap (λ j. j / g) sum ∙ div-mul-add q g r less, ap (λ j. j % g) sum ∙ (mul-add-mod_self_right q g r ∙ mod-eq_of_lt less))

within : (k g : ℕ) → k % g + 1 < g → ((k + 1) / g ≡ k / g) × ((k + 1) % g ≡ k % g + 1)
within k g less = parts (k + 1) (k / g) g (k % g + 1) (omega (arith, div-add-mod' k g)) less

at_end : (k g : ℕ) → k % g + 1 ≡ g → ((k + 1) / g ≡ k / g + 1) × ((k + 1) % g ≡ 0)
at_end k g last = parts (k + 1) (k / g + 1) g 0 (omega (arith, div-add-mod' k g, suc-mul (k / g) g, last)) (omega (arith, last))

by_parts : (k g : ℕ) → 0 < g → (k + 1) / g ≡ k / g + one_if (((k + 1) % g) == 0)
by_parts k g some = grind (arith, mod-lt k some, within k g, at_end k g)

-- one more group is full after an arrival that leads, and else as many as before
groups-grow : (n k : ℕ) → groups n (k + 1) ≡ groups n k + one_if (leads n (k + 1))
groups-grow n k = by_parts k (max n 1) (le-max_right n 1)

-- the words after one more arrival, and whether it leads
pub one_more : (g k : ℕ) (before : State) (b : Bool) (after : State) → IsBarrier (gathered g k) before.n before.count before.generation → IsArrival before b after
    → IsBarrier (gathered g (k + 1)) after.n after.count after.generation × (b ≡ leads g (k + 1))
one_more g k before b after is a =
    grind (arith, barrier_arrive-words (gathered g k) before.n before.count before.generation is, a)

-- the leaders after one more arrival
pub led_more : (n k k' l l' : ℕ) (b : Bool) → k' ≡ k + 1 → l ≡ groups n k → l' ≡ l + one_if b → b ≡ leads n (k + 1) → l' ≡ groups n k'
led_more n k k' l l' b grown before counted led = grind (arith, groups-grow n k)

pub as_byte : (b : Bool) → bool_byte b ≡ one_if b
as_byte b = grind arith

pub longer : {T : Type 0} (k l : List T) → IsPrefix k l → length k ≤ length l
longer k l p = omega (arith, length-append k p.0, ap length p.1)

-- the words before any arrival
pub at_first : (g n n' k count generation : ℕ) → g ≡ n → n' ≡ n → k ≡ 0 → IsBarrier (fresh 0 n 0) n count generation → IsBarrier (gathered g k) n' count generation
at_first g n n' k count generation sized same none is = grind (arith, sized, same, none, is)

-- no thread has arrived, and nothing is held
pub none_held : (n count generation each held amount : ℕ) → IsBarrier (fresh 0 n 0) n count generation → held ≡ 0 → amount ≡ 0 → (held ≡ count) × (amount ≡ count * each)
none_held n count generation each held amount is no_parts nothing = let none : count ≡ 0 = sym is.counts ∙ mod-eq_of_lt (le-max_right n 1) in
    (no_parts ∙ sym none, grind (arith, none, nothing))

-- the last arrival of a group finds its group full
own_group : (n k : ℕ) → 0 < k → leads n k ≡ true → fills n k ≤ k
own_group n k some last = let g : ℕ = max n 1 in
    let last' : k % g ≡ 0 = grind (arith, last) in
    let whole : k ≡ (k / g) * g = omega (arith, div-add-mod' k g, last') in
    let positive : 0 < k / g = grind (arith, some, whole) in
    let before : k - 1 ≡ (k / g - 1) * g + (g - 1) = omega (arith, whole, suc-mul (k / g - 1) g, positive, ap (λ q. q * g) (one_less (k / g) positive), le-max_right n 1) in
    let same : (k - 1) / g ≡ k / g - 1 = (parts (k - 1) (k / g - 1) g (g - 1) before (omega (arith, le-max_right n 1))).0 in
    omega (arith, whole, ap (λ q. (q + 1) * g) same, ap (λ q. q * g) (one_less (k / g) positive))
  where
    one_less : (q : ℕ) → 0 < q → q - 1 + 1 ≡ q
    one_less q some = omega arith

-- an arrival that does not lead and finds another generation finds its group full
pub leaves : (g t n k l count generation own : ℕ) → IsBarrier (gathered g t) n count generation → l ≡ t → k ≤ l → generation_at (gathered g 0) k ≡ own → leads g k ≡ false → not (generation == own) ≡ true → fills g k ≤ l
leaves g t n k l count generation own is listed known at follows leave = grind (arith, listed, barrier_may_leave-full (gathered g t) k n count generation own is)

module _ {X : Type 0} (size : X → ℕ) where
  pub within_more : (l : List X) (a b : ℕ) → AllWithin size l a → a ≤ b → AllWithin size l b
  within_more [] a b all more = tt
  within_more (y ∷ l) a b all more = (omega (arith, all.0, more), within_more l a b all.1 more)

  pub within_push : (l : List X) (x : X) (a b : ℕ) → AllWithin size l a → a ≤ b → size x ≤ b → AllWithin size (l ++ x ∷ []) b
  within_push [] x a b all more new = (new, tt)
  within_push (y ∷ l) x a b all more new = (omega (arith, all.0, more), within_push l x a b all.1 more new)

pub pushed : {X : Type 0} (now l : List X) (x : X) → now ≡ l ++ x ∷ [] → length now ≡ length l + 1
pushed now l x e = ap length e ∙ length-append l (x ∷ [])

-- a party that leads, and one that does not
pub by_leads : {A B C : Type 0} (b : Bool) → (b ≡ true → A → C) → (b ≡ false → B → C) → MatchBool b A B → C
by_leads b led followed m = grind (arith, led, followed)

module _ {X : Type 0} (n : ℕ) (seen : List X) (mine : X) (b : Bool) (there now : List X) where
  place : b ≡ leads n (length there) → (a : Arrived seen mine there) → b ≡ leads n (length a.0 + 1)
  place tells a = tells ∙ ap (leads n) (pushed there a.0 mine a.1.1)

  pub waited_leading : b ≡ leads n (length there) → Arrived seen mine there → b ≡ true → now ≡ there → Waited n seen mine b now
  waited_leading tells a led same = let k : ℕ = length a.0 + 1 in
      let long : length now ≡ k = ap length same ∙ pushed there a.0 mine a.1.1 in
      (a.0, [], (a.1.0, (same ∙ a.1.1, (place tells a, subst (λ (z : ℕ). fills n k ≤ z) (sym long) (own_group n k (omega arith) (sym (place tells a) ∙ led))))))

  pub waited_following : b ≡ leads n (length there) → Arrived seen mine there → fills n (length there) ≤ length now → IsPrefix there now → Waited n seen mine b now
  waited_following tells a full p =
      (a.0, p.0, (a.1.0, (sym p.1 ∙ (ap (λ (z : List X). z ++ p.0) a.1.1 ∙ append_assoc a.0 (mine ∷ []) p.0), (place tells a, subst (λ (z : ℕ). fills n z ≤ length now) (pushed there a.0 mine a.1.1) full))))

-- a group has arrived once the group of some arrival is full
pub a_group : (n k m : ℕ) → fills n k ≤ m → n ≤ m
a_group n k m full = omega (arith, full, suc-mul ((k - 1) / max n 1) (max n 1), le-max_left n 1)

module _ {X : Type 0} where
  whole : (k t l : List X) → k ++ t ≡ l → length l ≤ length k → k ≡ l
  whole k [] l e short = sym (append-nil k) ∙ e
  whole k (x ∷ t) l e short = absurd (omega (arith, short, ap length e, length-append k (x ∷ t)))

  -- of two lists of which one is a prefix of the other, the shorter one is the prefix
  pub shorter : (k l : List X) → IsPrefix k l ⊎ IsPrefix l k → length k ≤ length l → IsPrefix k l
  shorter k l (inl p) short = p
  shorter k l (inr p) short = ([], append-nil k ∙ sym (whole l p.0 k p.1 short))

  module _ (size : X → ℕ) where
    within_at : (k l : List X) (x : X) (b : ℕ) → AllWithin size (k ++ x ∷ l) b → size x ≤ b
    within_at [] l x b all = all.0
    within_at (y ∷ k) l x b all = within_at k l x b all.1

    -- who knows of an arrival has heard what it told
    pub hears : (theirs mine : List X) (told heard : ℕ) → IsPrefix theirs mine → Told size told theirs → AllWithin size mine heard → told ≤ heard
    hears theirs mine told heard p t all =
        let found : mine ≡ t.0 ++ t.2 ∷ (t.1 ++ p.0) = sym p.1 ∙ (ap (λ (z : List X). z ++ p.0) t.3.0 ∙ append_assoc t.0 (t.2 ∷ t.1) p.0) in
        le_trans t.3.1 (within_at t.0 (t.1 ++ p.0) t.2 heard (subst (λ (z : List X). AllWithin size z heard) found all))

-- A reading of a number that never falls, by a party that has heard what another told, is at least what that one had read.
pub reads_on : (told known now : List ℕ) (x y : ℕ) → IsPrefix told known → IsPrefix known now → InOrder (λ a b. a ≤ b) now → last told ≡ Some x → last now ≡ Some y → x ≤ y
reads_on told known now x y heard later_on order x_last y_last =
    subst (λ (o : Option ℕ). IfSome o (λ before. before ≤ y)) x_last
    (later (λ a b. a ≤ b) (λ a. le_refl a) (λ a b c h g. le_trans h g) told now y (prefix_trans told known now heard later_on) order y_last)

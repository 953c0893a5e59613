-- Sums over holders, by their kinds.
use Rattle.std.proofs.Common.{◌≡◌, ℕ, ◌+◌, ◌*◌, true, not, cond, List, [], ◌∷◌, ◌++◌, length, refl, arith}
use Rattle.std.specs.Prelude.{sum_by}
use Rattle.std.proofs.lemmas.List.Sums.{sum_by-cons, sum_by_push}
use Rattle.std.proofs.Math.Nat.{mul-suc}
use Rattle.spin_step.specs.Plain.{Kind, reading, upgradable, asking, writing, Holder, holder, same_kind, may_upgrade, admits, count_kind, is_holder, without_holder, with_kind}

abbrev pub sum_kinds : (Kind → ℕ) → List Holder → ℕ
sum_kinds f hs = sum_by (λ h. f h.kind) hs

-- 1 if k is the kind j, else 0
abbrev pub one_of : Kind → Kind → ℕ
one_of j k = cond (same_kind j k) 1 0

-- 1 for a holder that may upgrade, else 0
abbrev pub upgrader : Kind → ℕ
upgrader k = cond (may_upgrade k) 1 0

-- 1 for a holder of kind j that does not admit one of kind k, else 0
abbrev pub against : Kind → Kind → ℕ
against k j = cond (not (admits j k)) 1 0

-- the sum over all kinds
abbrev pub over_kinds : (Kind → ℕ) → ℕ
over_kinds f = ((f reading + f upgradable) + f asking) + f writing

cons : (f : Kind → ℕ) (h : Holder) (hs : List Holder) → sum_kinds f (h ∷ hs) ≡ f h.kind + sum_kinds f hs
cons f h hs = sum_by-cons (λ (h : Holder). f h.kind) h hs

one_more : (f : Kind → ℕ) (k : Kind) (n : Kind → ℕ) → f k + over_kinds (λ j. f j * n j) ≡ over_kinds (λ j. f j * (one_of j k + n j))
one_more f k n = grind (arith, mul-suc (f k) (n k))

-- a sum over holders is a sum over the kinds
pub by_kinds : (f : Kind → ℕ) (hs : List Holder) → sum_kinds f hs ≡ over_kinds (λ k. f k * count_kind k hs)
by_kinds f [] = omega arith
by_kinds f (h ∷ hs) =
    rw (cons f h hs, cons (one_of reading) h hs, cons (one_of upgradable) h hs, cons (one_of asking) h hs, cons (one_of writing) h hs, by_kinds f hs)
    (one_more f h.kind (λ k. count_kind k hs))

pub length_by : (hs : List Holder) → length hs ≡ sum_kinds (λ k. 1) hs
length_by [] = refl
length_by (h ∷ hs) = omega (arith, length_by hs, cons (λ k. 1) h hs)

pub all_kinds : (hs : List Holder) → length hs ≡ over_kinds (λ k. count_kind k hs)
all_kinds hs = omega (arith, by_kinds (λ k. 1) hs, length_by hs)

-- The sum after a holder is added, is removed, or changes its kind.

pub sum-more : (f : Kind → ℕ) (hs : List Holder) (p : ℕ) (k : Kind) → sum_kinds f (hs ++ holder p k ∷ []) ≡ sum_kinds f hs + f k
sum-more f hs p k = sum_by_push (λ (h : Holder). f h.kind) hs (holder p k)

pub sum-less : (f : Kind → ℕ) (p : ℕ) (k : Kind) (hs : List Holder) → is_holder p k hs ≡ true → sum_kinds f (without_holder p k hs) + f k ≡ sum_kinds f hs
sum-less f p k [] found = absurd cc
sum-less f p k (h ∷ hs) found = grind (arith, cons f h hs, cons f h (without_holder p k hs), sum-less f p k hs)

pub sum-turned : (f : Kind → ℕ) (p : ℕ) (k l : Kind) (hs : List Holder) → is_holder p k hs ≡ true → sum_kinds f (with_kind p k l hs) + f k ≡ sum_kinds f hs + f l
sum-turned f p k l [] found = absurd cc
sum-turned f p k l (h ∷ hs) found =
    grind (arith, cons f h hs, cons f h (with_kind p k l hs), cons f (holder p l) hs, sum-turned f p k l hs)

pub length-with_kind : (p : ℕ) (k l : Kind) (hs : List Holder) → length (with_kind p k l hs) ≡ length hs
length-with_kind p k l [] = refl
length-with_kind p k l (h ∷ hs) = grind (arith, length-with_kind p k l hs)

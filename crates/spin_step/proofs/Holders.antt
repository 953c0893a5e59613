-- Lists of holders, where a holder is added, changed or removed.
use Rattle.std.proofs.lemmas.List.Sums.{length-filter, count_by-le-length}
use Rattle.std.proofs.Common.{ap, filter, ◌≤◌, ◌≡◌, ℕ, ◌+◌, true, List, [], ◌∷◌, length, ◌==◌, arith, refl}
use Rattle.spin_step.specs.Plain.{Kind, Holder, holder, same_kind, is_holder, is_empty, without_holder}

pub length-without_holder : (p : ℕ) (k : Kind) (hs : List Holder) → is_holder p k hs ≡ true → length hs ≡ length (without_holder p k hs) + 1
length-without_holder p k [] found = absurd cc
length-without_holder p k (h ∷ hs) found = grind (arith, length-without_holder p k hs)

pub same_kind-self : (k : Kind) → same_kind k k ≡ true
same_kind-self k = grind arith

-- a party whose only hold has the kind k is a holder of this kind
pub is_holder-from_entries : (p : ℕ) (k : Kind) (hs : List Holder) → filter (λ h. h.party == p) hs ≡ holder p k ∷ [] → is_holder p k hs ≡ true
is_holder-from_entries p k [] e = absurd (cc (e))
is_holder-from_entries p k (h ∷ hs) e = grind (arith, is_holder-from_entries p k hs)

pub length-held : (p : ℕ) (k : Kind) (hs : List Holder) → filter (λ h. h.party == p) hs ≡ holder p k ∷ [] → 1 ≤ length hs
length-held p k hs e = omega (arith, ap length e, length-filter (λ (h : Holder). h.party == p) hs, count_by-le-length (λ (h : Holder). h.party == p) hs)

-- a list of length 0 is empty
pub is_empty-none : {X : Type 0} (xs : List X) → 0 ≡ length xs → is_empty xs ≡ true
is_empty-none xs e = grind arith

-- whether a party holds in this way depends only on its own holds
pub is_holder-own : (p : ℕ) (k : Kind) (hs : List Holder) → is_holder p k hs ≡ is_holder p k (filter (λ h. h.party == p) hs)
is_holder-own p k [] = refl
is_holder-own p k (h ∷ hs) = grind (arith, is_holder-own p k hs)

-- A party's step changes the party's entries as if it were alone, and changes nobody else's.
use Rattle.std.proofs.Common.{◌≡◌, ℕ, ◌==◌, ◌&&◌, Bool, true, cond, if◌then◌else◌, Option, Some, List, [], ◌∷◌, ◌++◌, filter, arith, refl, ne_eqb, eq-eqb}
use Rattle.std.proofs.lemmas.List.{append-nil}
use Rattle.std.proofs.lemmas.List.Elements.{filter-append}
use Rattle.spin_step.specs.Plain.{Plain, Kind, Holder, Ticket, holder, same_kind, Change, apply, is_open, without_holder, with_kind, without_starver, without_ticket}
use Rattle.spin_step.specs.Parties.{party_of, apply_some, IsOpenStep, entries, entries_after}

-- one more element at the end of a list
filter-more : {X : Type 0} (test : X → Bool) (xs : List X) (x : X) → filter test (xs ++ x ∷ []) ≡ cond (test x) (filter test xs ++ x ∷ []) (filter test xs)
filter-more test xs x = grind (arith, filter-append test xs (x ∷ []), append-nil (filter test xs))

-- Nobody else's entries change.

abbrev of : ℕ → List Holder → List Holder
of q hs = filter (λ h. h.party == q) hs

-- where the first hold of the party p of some kind gives way to these
others-step : (b : Bool) (h : Holder) (p q : ℕ) (ys hs ws : List Holder) → (p ≡ q → ⊥) → of q ys ≡ [] → of q ws ≡ of q hs → of q (if (h.party == p) && b then ys ++ hs else h ∷ ws) ≡ of q (h ∷ hs)
others-step b h p q ys hs ws ne none rest = grind (arith, filter-append (λ h. h.party == q) ys hs)

others-without_holder : (p q : ℕ) (k : Kind) (hs : List Holder) → (p ≡ q → ⊥) → of q (without_holder p k hs) ≡ of q hs
others-without_holder p q k [] ne = refl
others-without_holder p q k (h ∷ hs) ne = others-step (same_kind k h.kind) h p q [] hs (without_holder p k hs) ne refl (others-without_holder p q k hs ne)

others-with_kind : (p q : ℕ) (k l : Kind) (hs : List Holder) → (p ≡ q → ⊥) → of q (with_kind p k l hs) ≡ of q hs
others-with_kind p q k l [] ne = refl
others-with_kind p q k l (h ∷ hs) ne = others-step (same_kind k h.kind) h p q (holder p l ∷ []) hs (with_kind p k l hs) ne (rw (ne_eqb p q ne) refl) (others-with_kind p q k l hs ne)

others-without_starver : (p q : ℕ) (rs : List ℕ) → (p ≡ q → ⊥) → filter (λ r. r == q) (without_starver p rs) ≡ filter (λ r. r == q) rs
others-without_starver p q [] ne = refl
others-without_starver p q (r ∷ rs) ne = grind (arith, others-without_starver p q rs)

others-without_ticket : (p q : ℕ) (ts : List Ticket) → (p ≡ q → ⊥) → filter (λ t. t.party == q) (without_ticket p ts) ≡ filter (λ t. t.party == q) ts
others-without_ticket p q [] ne = refl
others-without_ticket p q (t ∷ ts) ne = grind (arith, others-without_ticket p q ts ne)

-- an open step of another party does not change the entries of q
pub entries-others : (s : Plain) (c : Change) (q : ℕ) → (party_of c ≡ q → ⊥) → is_open s c ≡ true → entries q (apply s c) ≡ entries q s
entries-others s c q ne may =
    grind (arith, filter-more, others-without_holder, others-with_kind, others-without_starver, others-without_ticket)

pub entries-other : (s : Plain) (p q : ℕ) (step : Option Change) → (p ≡ q → ⊥) → IsOpenStep s p step → entries q (apply_some s step) ≡ entries q s
entries-other s p q step ne may = grind (arith, entries-others)

-- The party's own entries change as if it were alone.

own-step : (W : List Holder → List Holder) (b : Bool) (h : Holder) (p : ℕ) (ys hs ws : List Holder) → W (h ∷ of p hs) ≡ (if (h.party == p) && b then ys ++ of p hs else h ∷ W (of p hs)) → of p ys ≡ ys → of p ws ≡ W (of p hs)
    → of p (if (h.party == p) && b then ys ++ hs else h ∷ ws) ≡ W (of p (h ∷ hs))
own-step W b h p ys hs ws is all rest = grind (arith, filter-append (λ h. h.party == p) ys hs, is, all, rest)

own-without_holder : (p : ℕ) (k : Kind) (hs : List Holder) → of p (without_holder p k hs) ≡ without_holder p k (of p hs)
own-without_holder p k [] = refl
own-without_holder p k (h ∷ hs) = own-step (without_holder p k) (same_kind k h.kind) h p [] hs (without_holder p k hs) refl refl (own-without_holder p k hs)

own-with_kind : (p : ℕ) (k l : Kind) (hs : List Holder) → of p (with_kind p k l hs) ≡ with_kind p k l (of p hs)
own-with_kind p k l [] = refl
own-with_kind p k l (h ∷ hs) = own-step (with_kind p k l) (same_kind k h.kind) h p (holder p l ∷ []) hs (with_kind p k l hs) refl (rw (eq-eqb p p refl) refl) (own-with_kind p k l hs)

own-without_starver : (p : ℕ) (rs : List ℕ) → filter (λ r. r == p) (without_starver p rs) ≡ without_starver p (filter (λ r. r == p) rs)
own-without_starver p [] = refl
own-without_starver p (r ∷ rs) = grind (arith, own-without_starver p rs)

own-without_ticket : (p : ℕ) (ts : List Ticket) → filter (λ t. t.party == p) (without_ticket p ts) ≡ without_ticket p (filter (λ t. t.party == p) ts)
own-without_ticket p [] = refl
own-without_ticket p (t ∷ ts) = grind (arith, own-without_ticket p ts)

entries-owns : (s : Plain) (c : Change) → is_open s c ≡ true → entries (party_of c) (apply s c) ≡ entries_after s (Some c) (entries (party_of c) s)
entries-owns s c may = grind (arith, filter-more, own-without_holder, own-with_kind, own-without_starver, own-without_ticket)

-- an open step of the party p, or none, changes its entries as if it were alone
pub entries-own : (s : Plain) (p : ℕ) (step : Option Change) → IsOpenStep s p step → entries p (apply_some s step) ≡ entries_after s step (entries p s)
entries-own s p step may = grind (arith, entries-owns)

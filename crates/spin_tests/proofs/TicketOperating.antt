-- Results that no single operation on one word can have.
use Rattle.spin_world.proofs.TicketNames.{◌≡◌, ℕ, zero, get_or, ◌∷◌, refl, TicketWords, []}

-- a result that depends on both numbers is not decided by one of them alone
pub both_matter : {X : Type 0} (of : TicketWords → X) (i : ℕ) → ((u w : TicketWords) → get_or (u.next ∷ u.serving ∷ []) i 0 ≡ get_or (w.next ∷ w.serving ∷ []) i 0 → of u ≡ of w)
    → (of (record { next = 0; serving = 0 }) ≡ of (record { next = 0; serving = 1 }) → ⊥) → (of (record { next = 0; serving = 0 }) ≡ of (record { next = 1; serving = 0 }) → ⊥) → ⊥
both_matter of zero alone serving next = serving (alone _ _ refl)
both_matter of _ alone serving next = next (alone _ _ refl)

-- Proofs of what users of a fair lock may rely on, from what each event keeps.
use Rattle.spin_world.proofs.FairNames.{◌≡◌, ◌↔◌, ℕ, true, false, Option, List, ◌∷◌, arith, Plain, Kind, writing, Holder, Change, is_holder, is_starver, without_holder, fair_word, apply_some, IsOpenStep, empty_is, is_empty-none, BelongsTo, fair, IsFree, []}

pub zero_when_free : (w : ℕ) (s : Plain) → w ∷ [] ≡ fair_word s ∷ [] → (w ≡ 0) ↔ IsFree s
zero_when_free w s encodes =
    grind (arith, encodes, empty_is s.holders, empty_is s.starvers, is_empty-none s.holders, is_empty-none s.starvers)

held_before : (p q : ℕ) (k : Kind) (hs : List Holder) → is_holder p writing (without_holder q k hs) ≡ true
    → is_holder p writing hs ≡ true
held_before p q k [] held = held
held_before p q k (h ∷ hs) held = grind (arith, held_before p q k hs)

pub comes_after_starvers : (s : Plain) (p : ℕ) (step : Option Change) → IsOpenStep s p step → BelongsTo fair step → is_holder p writing s.holders ≡ false → is_starver p s.starvers ≡ false → is_holder p writing (apply_some s step).holders ≡ true → s.starvers ≡ []
comes_after_starvers s p step may belongs idle newcomer holds = grind (arith, empty_is, held_before)

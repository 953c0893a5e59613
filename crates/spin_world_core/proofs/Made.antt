-- A step of a table on words: its operation on one number, and what follows the number found.
use Rattle.std.proofs.Common.{◌≡◌, ℕ, ◌<◌, ◌≤◌, ◌^◌, true, false, Option, sym, ap, ◌∙◌, subst, arith}
use Rattle.spin_step.specs.declared.place.Hold.{Hold}
use Rattle.spin_step.specs.declared.stepped.Next.{Next}
use Rattle.spin_step.specs.declared.table.Operation.{Operation}
use Rattle.spin_step.specs.Operations.{performed, wrapped}
use Rattle.spin_step.specs.Words.{WorksOn, can_at}
use Rattle.spin_step.specs.Acts.{Memory, Table, word_number, Act, is_section, stays, step_at, step_by, can_by, next_of, operation_by}

module _ {W L A : Type 0} (V : Type 0) (m : Memory W) (i : ℕ) (w opening : W) where
  step_is : (act : Act W L A) (n : ℕ) → is_section act ≡ false → m.put i n w ≡ w
      → step_at {V = V} m i n act w ≡ stays (m.put i (performed (operation_by act) n) w) (step_at {V = Unit {0}} m 0 n act opening).next
  step_is act n one kept = grind (arith, kept)

can_is : {W L A : Type 0} (m : Memory W) (i : ℕ) (act : Act W L A) (w : W) → is_section act ≡ false → can_by m i act w ≡ true → can_at act (word_number m i w) ≡ true
can_is m i act w one can-it = grind arith

same : (o : Operation) (limit n : ℕ) → limit ≤ 2 ^ 64 → performed o n < limit → performed (wrapped o) n ≡ performed o n
same o limit n fits small = grind (arith, fits, small)

module _ {W T C L A : Type 0} (V : Type 0) (m : Memory W) (places limit : ℕ) (t : Table W T C L A) (c : C) (l : L) (h : Option Hold) (w : W) (works : WorksOn m places limit t c l h) (can : can_by t.memory (t.word l) (t.act c l h) w ≡ true)
    (i n : ℕ) (at : i ≡ t.word l) (found : i < places → (n ≡ word_number m i w) × (m.put i n w ≡ w)) (small : (n < limit) × (limit ≤ 2 ^ 64)) (o : Operation) (is : o ≡ wrapped (operation_by (t.act c l h)))
    (next : Next L A) (goes : next ≡ next_of t c l h n) where
  there : i < places
  there = subst (λ k. k < places) (sym at) works.there

  n_is : n ≡ word_number m i w
  n_is = (found there).0

  stays_below : performed (operation_by (t.act c l h)) n < limit
  stays_below = works.stays n small.0 (grind (arith, can_is t.memory (t.word l) (t.act c l h) w works.operates can, n_is, works.memory, at))

  performs : performed o n ≡ performed (operation_by (t.act c l h)) n
  performs = ap (λ x. performed x n) is ∙ same (operation_by (t.act c l h)) limit n small.1 stays_below

  pub after_small : performed o n < 2 ^ 64
  after_small = grind (arith, performs, stays_below, small.1)

  all : step_by {V = V} t.memory (t.word l) (t.act c l h) w ≡ stays (m.put i (performed o n) w) next
  all = grind (arith, step_is V m i w t.words (t.act c l h) n works.operates (found there).1, performs, n_is, at, works.memory, works.place, goes)

  -- the step puts this number
  pub puts : (number : ℕ) (after : W) → number ≡ performed o n → (i < places → number < limit → after ≡ m.put i number w) → step_by {V = V} t.memory (t.word l) (t.act c l h) w ≡ stays after next
  puts number after is-it so = all ∙ ap (λ u. stays u next) (sym (so there (subst (λ k. k < limit) (sym (is-it ∙ performs)) stays_below) ∙ ap (λ k. m.put i k w) is-it))

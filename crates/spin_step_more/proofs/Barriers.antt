-- One more arrival at a barrier, as its two numbers show it.
use Rattle.std.proofs.Common.{◌≡◌, ℕ, ◌+◌, ◌-◌, ◌*◌, ◌/◌, ◌%◌, ◌<◌, ◌≤◌, ◌==◌, Bool, true, false, not, ap, ◌∙◌, arith}
use Rattle.std.specs.Prelude.{max, nat_lt}
use Rattle.std.proofs.lemmas.Bool.{lt-ltb}
use Rattle.std.proofs.lemmas.Nat.{div-add-mod', div-mul-add, le-div}
use Rattle.std.proofs.Math.Nat.{mod-lt, mod-eq_of_lt, mul-add-mod_self_right, suc-mul, le-max_right, div-mul-le_self, mul-le-mul_right}
use Rattle.spin_step.specs.Plain.{Plain, arrives, apply}
use Rattle.spin_step.specs.Barriers.{IsBarrier, arrived, is_leading, filled_by, generation_at, may_leave_at}

-- if n is q * g + r, and r is below g, then q is the quotient of n by g, and r the remainder
parts : (n q g r : ℕ) → n ≡ q * g + r → r < g → (n / g ≡ q) × (n % g ≡ r)
parts n q g r sum less = (ap (λ j. j / g) sum ∙ div-mul-add q g r less, ap (λ j. j % g) sum ∙ (mul-add-mod_self_right q g r ∙ mod-eq_of_lt less))

-- an arrival that does not fill its group
within : (k g : ℕ) → k % g + 1 < g → ((k + 1) / g ≡ k / g) × ((k + 1) % g ≡ k % g + 1)
within k g less = parts (k + 1) (k / g) g (k % g + 1) (omega (arith, div-add-mod' k g)) less

-- an arrival that fills its group
fills : (k g : ℕ) → k % g + 1 ≡ g → ((k + 1) / g ≡ k / g + 1) × ((k + 1) % g ≡ 0)
fills k g last = parts (k + 1) (k / g + 1) g 0 (omega (arith, div-add-mod' k g, suc-mul (k / g) g, last)) (omega (arith, last))

some-group : (s : Plain) → 0 < max s.group 1
some-group s = le-max_right s.group 1

-- One more arrival: the words after it, and whether it leads. If it does not lead, the generation stays the same.
pub record Arrival (s : Plain) (n : ℕ) (a : (ℕ × ℕ) × Bool) (generation : ℕ) : Type 0 where
  pub words : IsBarrier (apply s (arrives 0)) n a.0.0 a.0.1
  pub leads : a.1 ≡ is_leading s (s.arrivals + 1)
  pub stays : a.1 ≡ false → generation_at s (s.arrivals + 1) ≡ generation

pub barrier_arrive-words : (s : Plain) (n count generation : ℕ) → IsBarrier s n count generation → Arrival s n (arrived n count generation) generation
barrier_arrive-words s n count generation is = let g : ℕ = max s.group 1 in
    grind (arith, is, mod-lt s.arrivals (some-group s), within s.arrivals g, fills s.arrivals g)

quotients-grow : (j k g : ℕ) → 0 < g → j ≤ k → j / g ≤ k / g
quotients-grow j k g some le = le-div (j / g) k g some (omega (arith, div-mul-le_self j g, le))

-- two generations are equal exactly if a multiple of 2^64 groups lies between them
pub barrier_may_leave-tells : (s : Plain) (k n count generation own : ℕ) → IsBarrier s n count generation → k ≤ s.arrivals → generation_at s k ≡ own → not (generation == own) ≡ may_leave_at s k
barrier_may_leave-tells s k n count generation own is le at =
    grind (arith, quotients-grow k s.arrivals (max s.group 1) (some-group s) le, at, is.generations)

-- if a party that does not lead finds another generation, its group is full
pub barrier_may_leave-full : (s : Plain) (k n count generation own : ℕ) → IsBarrier s n count generation → k ≤ s.arrivals → generation_at s k ≡ own → is_leading s k ≡ false → not (generation == own) ≡ true → filled_by s k ≤ s.arrivals
barrier_may_leave-full s k n count generation own is le at follows leave = let g : ℕ = max s.group 1 in
    let some : 0 < k % g = grind (arith, follows) in
    let before : k - 1 ≡ (k / g) * g + (k % g - 1) = omega (arith, div-add-mod' k g, some) in
    let same : (k - 1) / g ≡ k / g = (parts (k - 1) (k / g) g (k % g - 1) before (omega (arith, mod-lt k (some-group s), some))).0 in
    let grown : k / g + 1 ≤ s.arrivals / g = grind (arith, leave, at, is.generations, quotients-grow k s.arrivals g (some-group s) le) in
    omega (arith, ap (λ q. (q + 1) * g) same, mul-le-mul_right g grown, div-mul-le_self s.arrivals g)

pub barrier_count-below : (s : Plain) (n count generation : ℕ) → IsBarrier s n count generation → nat_lt count (max n 1) ≡ true
barrier_count-below s n count generation is = lt-ltb count (max n 1) (omega (arith, mod-lt s.arrivals (some-group s), is.counts, ap (λ k. max k 1) is.group))

-- the rules that the contract of `may_leave_at` uses
pub ruleset leaving = (barrier_may_leave-tells, barrier_may_leave-full)

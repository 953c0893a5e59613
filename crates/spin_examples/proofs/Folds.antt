-- One more round that is folded.
use Rattle.std.proofs.Common.{◌≡◌, ◌∙◌, ℕ, ◌+◌, ◌-◌, ◌*◌, ◌^◌, ◌<◌, ◌==◌, subst, ap, arith}
use Rattle.std.specs.Prelude.{min, if◌then◌else◌}
use Rattle.spin_examples.specs.Phases.{Rounds}
use Rattle.std.proofs.Math.Nat.{suc-mul, le-mul_of_pos_right}

sum_of : (r each total r' total' : ℕ) → total ≡ r * each → total + each < 2 ^ 64 → r' ≡ min (r + 1) (2 ^ 64 - 1) → total' ≡ total + each → total' ≡ r' * each
sum_of r each total r' total' is fits folds sums = grind (arith, le-mul_of_pos_right {m = each} r, suc-mul r each)

smallest_of : (r each smallest r' smallest' : ℕ) → smallest ≡ (if r == 0 then 2 ^ 64 - 1 else each) → each < 2 ^ 64 → r' ≡ min (r + 1) (2 ^ 64 - 1) → smallest' ≡ min smallest each → smallest' ≡ (if r' == 0 then 2 ^ 64 - 1 else each)
smallest_of r each smallest r' smallest' is word folds least = grind arith

-- one more round with the same result
pub one_more_round : (r each total smallest r' result total' smallest' : ℕ) → Rounds r each total smallest → result ≡ each → total + result < 2 ^ 64 → r' ≡ min (r + 1) (2 ^ 64 - 1) → total' ≡ total + result → smallest' ≡ min smallest result → Rounds r' each total' smallest'
one_more_round r each total smallest r' result total' smallest' before exact fits folds sums least = (
  sum_of r each total r' total' before.0 (subst (λ (z : ℕ). total + z < 2 ^ 64) exact fits) folds (sums ∙ ap (λ z. total + z) exact),
  smallest_of r each smallest r' smallest' before.1 (omega (arith, fits, exact)) folds (least ∙ ap (λ z. min smallest z) exact),
)

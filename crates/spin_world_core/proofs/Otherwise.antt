-- Ways to show that a lock is wrong: a party takes four undisturbed steps without an answer, or a step is no single
-- operation.
use Rattle.std.proofs.Common.{◌≡◌, ℕ, ◌+◌, ◌<◌, true, false, List, [], ◌∷◌, ◌++◌, slice_set, get_or, arith}
use Rattle.spin_step.specs.StepKinds.{is_weak}
use Rattle.spin_step.specs.Calls.{LockKind, Asked, Mark}
use Rattle.spin_world_core.specs.Spans.{own_count}
use Rattle.spin_world_core.specs.Undisturbed.{is_open_now, LeavesAlone, AllOf, UndisturbedTakes}
use Rattle.spin_step.specs.Operations.{performed}
use Rattle.spin_step.specs.declared.table.Operation.{Operation}

-- the step m is the party's own, and is no spurious failure
pub record IsOwn (p : ℕ) (m : Mark) : Type 0 where
  pub party : m.party ≡ p
  pub strong : is_weak m.step_kind ≡ false

owns : (kind : LockKind) (p : ℕ) (ms : List Mark) → AllOf (IsOwn p) ms → AllOf (LeavesAlone kind p) ms
owns kind p [] are = tt
owns kind p (m ∷ ms) are = grind (arith, owns kind p ms are.1)

-- a call that continues after k such steps breaks the law that allows fewer
pub too_many : (kind : LockKind) (p : ℕ) (what : Asked) (k : ℕ) (recent : List Mark) (first : Mark) (older : List Mark) → UndisturbedTakes (λ n. n < k) kind p what (recent ++ first ∷ older)
    → is_open_now p what older first.before ≡ true → AllOf (IsOwn p) (recent ++ first ∷ []) → own_count p (recent ++ first ∷ []) ≡ k → ⊥
too_many kind p what k recent first older law may own count = grind (arith, owns)

-- a call that continues after four steps breaks the law
pub four_steps : (kind : LockKind) (p : ℕ) (what : Asked) {a b c d : Mark} {older : List Mark} → UndisturbedTakes (λ n. n < 4) kind p what (a ∷ b ∷ c ∷ d ∷ older)
    → is_open_now p what older d.before ≡ true → IsOwn p a → IsOwn p b → IsOwn p c → IsOwn p d → own_count p (a ∷ b ∷ c ∷ d ∷ []) ≡ 4 → ⊥
four_steps kind p what {a} {b} {c} {d} {older} law may own_a own_b own_c own_d count = too_many kind p what 4 (a ∷ b ∷ c ∷ []) d older law may (own_a, (own_b, (own_c, (own_d, tt)))) count

-- the operation on the i-th word of a lock with one word turns the word w into `to`

abbrev Becomes : ℕ → Operation → ℕ → ℕ → Type 0
Becomes i operation w to = to ∷ [] ≡ slice_set (w ∷ []) i (performed operation (get_or (w ∷ []) i 0))

-- no single operation adds d twice, and then leaves a full word unchanged
pub no_operation : (i : ℕ) (operation : Operation) (d full : ℕ) → 0 < d → Becomes i operation 0 d → Becomes i operation d (d + d) → Becomes i operation full full → ⊥
no_operation i operation d full some once twice left = grind arith

-- A lock that is closed with all its passes had no other call than those that they know.
use Rattle.std.proofs.Common.{◌≡◌, ℕ, zero, suc, ◌<◌, List, [], ◌∷◌, ◌++◌, refl, sym, ap, ◌∙◌, subst, append-nil, eq-eqb, arith}
use Rattle.spin_seated.specs.declared.history.Entry.{Entry}
use Rattle.spin_seated.specs.declared.lock.Opening.{Opening}
use Rattle.spin_seated.specs.declared.mutex.Call.{Call}
use Rattle.spin_seated.specs.Histories.{PlainObject, BeginsWith, calls_by, after, state, IsLegalFrom, IsLegal, Closes}
use Rattle.spin_seated.specs.Locked.{value_after}
use Rattle.spin_seated.specs.Lawful.{History, written}
use Rattle.spin_seated.specs.Mutex.{mutex}
use Rattle.spin_seated.specs.Passes.{KnownOf}
use Rattle.spin_seated.proofs.Histories.{calls_by-append, legal-split, nothing_more}
use Rattle.spin_seated.proofs.Lawful.{value_is, written_by}

module _ {K S C A H : Type 0} (m : PlainObject K S C A H) where
  -- if none of the passes has called, nobody has
  no_call : (n : ℕ) (s : S) (rest : List (Entry C A)) → IsLegalFrom m n s rest → ((p : ℕ) → p < n → calls_by p rest ≡ []) → rest ≡ []
  no_call n s [] legal none = refl
  no_call n s (e ∷ es) legal none = absurd (grind (arith, none e.pass legal.0, eq-eqb e.pass e.pass refl))

  -- a history that has all calls of all passes is the whole history
  pub knows_all : (k : K) (log seen : List (Entry C A)) → IsLegal m k log → BeginsWith log seen → ((p : ℕ) → p < m.passes k → calls_by p log ≡ calls_by p seen) → log ≡ seen
  knows_all k log seen legal begins own =
      let two = legal-split m (m.passes k) (m.start k) seen begins.rest (subst (IsLegal m k) begins.is legal) in
      let none = λ (p : ℕ) (less : p < m.passes k). nothing_more (calls_by p seen) (calls_by p begins.rest) (sym (calls_by-append p seen begins.rest) ∙ (ap (calls_by p) (sym begins.is) ∙ own p less)) in
      begins.is ∙ (ap (λ (l : List (Entry C A)). seen ++ l) (no_call (m.passes k) (after m (m.start k) seen) begins.rest two.1 none) ∙ append-nil seen)

-- the value of a mutex after a history
value_at : (k : Opening) (log seen : History) (v : ℕ) → log ≡ seen → (state mutex k log).value ≡ v → v ≡ value_after written k.value seen
value_at k log seen v same is = sym is ∙ (value_is mutex written written_by (mutex.start k) log ∙ ap (value_after written k.value) same)

pub alone : (k : Opening) (x : KnownOf Call) (v : ℕ) → k.passes ≡ 1 → Closes mutex k (x ∷ []) v → v ≡ value_after written k.value x.seen
alone k x v one closes = let log = closes.0 in let fit = closes.2.0 in
    let own = λ (p : ℕ) (less : p < k.passes). let is : x.pass ≡ p = omega (arith, less, fit.given, one) in subst (λ (q : ℕ). calls_by q log ≡ calls_by q x.seen) is fit.own in
    value_at k log x.seen v (knows_all mutex k log x.seen closes.1 fit.begins own) closes.3

module _ (log seen : History) (a b : ℕ) (first : a ≡ 0) (second : b ≡ 1) (own_a : calls_by a log ≡ calls_by a seen) (own_b : calls_by b log ≡ calls_by b seen) where
  of_two : (p : ℕ) → p < 2 → calls_by p log ≡ calls_by p seen
  of_two zero less = subst (λ (q : ℕ). calls_by q log ≡ calls_by q seen) first own_a
  of_two (suc zero) less = subst (λ (q : ℕ). calls_by q log ≡ calls_by q seen) second own_b
  of_two (suc (suc p)) less = absurd (omega (arith, less))

pub both : (k : Opening) (x y : KnownOf Call) (v : ℕ) → k.passes ≡ 2 → x.pass ≡ 0 → y.pass ≡ 1 → y.seen ≡ x.seen → Closes mutex k (x ∷ y ∷ []) v → v ≡ value_after written k.value x.seen
both k x y v two first second same closes = let log = closes.0 in let fit = closes.2 in
    let own_y = subst (λ (l : History). calls_by y.pass log ≡ calls_by y.pass l) same fit.1.0.own in
    let own = λ (p : ℕ) (less : p < k.passes). of_two log x.seen x.pass y.pass first second fit.0.own own_y p (omega (arith, less, two)) in
    value_at k log x.seen v (knows_all mutex k log x.seen closes.1 fit.0.begins own) closes.3

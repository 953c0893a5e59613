-- Look-ups in a log that grows.
use Rattle.std.proofs.Common.{◌≡◌, Bool, true, false, cond, List, [], ◌∷◌, ◌++◌, Option, Some, None, refl, sym, ap, subst, ◌∙◌}
use mathlib.Core.List.{IsPrefix}
use Rattle.std.specs.Cmp.{IsEquivalence}
use Rattle.std.specs.Map.{lookup}

by_answer : {P : Type 0} (b : Bool) → (b ≡ true → P) → (b ≡ false → P) → P
by_answer true p q = p refl
by_answer false p q = q refl

module _ {K V : Type 0} where
  longer : (test : K → Bool) (es fs : List (K × V)) (v : V) → lookup test es ≡ Some v → lookup test (es ++ fs) ≡ Some v
  longer test [] fs v e = cc
  longer test (p ∷ es) fs v e =
      elim (test p.0) as (λ b. cond b (Some p.1) (lookup test es) ≡ Some v → cond b (Some p.1) (lookup test (es ++ fs)) ≡ Some v) [
        | true ↦ λ f. f
        | false ↦ λ f. longer test es fs v f
      ] e

  -- an answer in a log stays the answer when the log grows
  pub stays : (test : K → Bool) (seen log : List (K × V)) (v : V) → IsPrefix seen log → lookup test seen ≡ Some v → lookup test log ≡ Some v
  stays test seen log v p e = subst (λ (l : List (K × V)). lookup test l ≡ Some v) p.1 (longer test seen p.0 v e)

  first_for : (test : K → Bool) (es : List (K × V)) (k : K) (v : V) → lookup test es ≡ None → lookup test (es ++ (k, v) ∷ []) ≡ cond (test k) (Some v) None
  first_for test [] k v e = refl
  first_for test (p ∷ es) k v e =
      elim (test p.0) as (λ b. cond b (Some p.1) (lookup test es) ≡ None → cond b (Some p.1) (lookup test (es ++ (k, v) ∷ [])) ≡ cond (test k) (Some v) None) [
        | true ↦ λ f. cc
        | false ↦ λ f. first_for test es k v f
      ] e

  for_another : (test : K → Bool) (es : List (K × V)) (k : K) (v : V) → test k ≡ false → lookup test (es ++ (k, v) ∷ []) ≡ lookup test es
  for_another test [] k v n = ap (λ b. cond b (Some v) None) n
  for_another test (p ∷ es) k v n = ap (cond (test p.0) (Some p.1)) (for_another test es k v n)

  module _ {eq : K → K → Bool} (laws : IsEquivalence eq) where
    for_equal : (k q : K) → eq k q ≡ true → (es : List (K × V)) → lookup (eq k) es ≡ lookup (eq q) es
    for_equal k q y [] = refl
    for_equal k q y (p ∷ es) = λ i. cond (laws.congr k q p.0 y i) (Some p.1) (for_equal k q y es i)

    -- an entry added for a key without an answer is what a look-up of this key finds
    pub found : (es : List (K × V)) (k : K) (v : V) → lookup (eq k) es ≡ None → lookup (eq k) (es ++ (k, v) ∷ []) ≡ Some v
    found es k v e = first_for (eq k) es k v e ∙ ap (λ b. cond b (Some v) None) (laws.refl k)

    -- if a map agrees with a log, so do the map with one more key and the log with its entry
    pub tells_more : (m n : K → Option V) (es : List (K × V)) (k : K) (v : V) → ((q : K) → m q ≡ lookup (eq q) es) → lookup (eq k) es ≡ None
        → ((q : K) → n q ≡ cond (eq k q) (Some v) (m q)) → (q : K) → n q ≡ lookup (eq q) (es ++ (k, v) ∷ [])
    tells_more m n es k v told fresh added q = by_answer (eq k q)
        (λ y. added q ∙ ap (λ b. cond b (Some v) (m q)) y ∙ sym (first_for (eq q) es k v (sym (for_equal k q y es) ∙ fresh) ∙ ap (λ b. cond b (Some v) None) (laws.symm q k ∙ y)))
        (λ y. added q ∙ ap (λ b. cond b (Some v) (m q)) y ∙ told q ∙ sym (for_another (eq q) es k v (laws.symm q k ∙ y)))

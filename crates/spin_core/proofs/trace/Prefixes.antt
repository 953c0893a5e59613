-- Prefixes of lists, by their codes.
use Rattle.std.proofs.Common.{◌≡◌, ◌⊎◌, List, [], ◌∷◌, ◌++◌, map, refl}
use mathlib.Core.Logic.{inl, inr}
use mathlib.Core.List.{IsPrefix}
use base.Stored.{Coded, Gv}

module _ {T : Type 0} (cv : Coded T) where
  pub prefix_uncoded : (k l : List T) → IsPrefix (map cv.code k) (map cv.code l) → IsPrefix k l
  prefix_uncoded [] l p = (l, refl)
  prefix_uncoded (x ∷ k) [] p = absurd (cc (p.1))
  prefix_uncoded (x ∷ k) (y ∷ l) p =
      let same : x ≡ y = cv.inj x y (cc (p.1)) in let rest = prefix_uncoded k l (p.0, cc (p.1)) in (rest.0, cc (rest.1))

  -- if the codes of two lists are prefixes of one list, one of the two lists is a prefix of the other
  pub one_in_other : (k l : List T) (m : List Gv) → IsPrefix (map cv.code k) m → IsPrefix (map cv.code l) m
      → IsPrefix k l ⊎ IsPrefix l k
  one_in_other [] l m p q = inl (l, refl)
  one_in_other (x ∷ k) [] m p q = inr (x ∷ k, refl)
  one_in_other (x ∷ k) (y ∷ l) m p q = let same : x ≡ y = cv.inj x y (cc (p.1, q.1)) in
      let rest = one_in_other k l (map cv.code k ++ p.0) (p.0, refl) (q.0, cc (p.1, q.1)) in
      elim rest [ inl t ↦ inl (t.0, cc (t.1)) | inr t ↦ inr (t.0, cc (t.1)) ]

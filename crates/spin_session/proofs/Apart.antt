-- A pass whose first call comes after a call of another pass is another party.
use Rattle.std.proofs.Common.{◌≡◌, ℕ, Bool, Option, Some, None, List, [], ◌∷◌, ◌++◌, refl, sym, ap, ◌∙◌, subst, ◌==◌}
use Rattle.std.proofs.lemmas.List.Elements.{filter-append}
use mathlib.Core.List.{IsPrefix}
use Rattle.spin_step.specs.Machines.{Machine}
use Rattle.spin_step.specs.Schedules.{Entry}
use Rattle.spin_core.specs.Own.{Numbered, entries_by, by_party}
use Rattle.spin_core.specs.Passes.{HasNumber, IsCall, Made}
use Rattle.spin_step.specs.Acts.{Table, with_value}
use Rattle.spin_step.specs.declared.answer.Answer.{Answer}
use Rattle.spin_session.specs.Meaning.{model_at}
use Rattle.spin_session.specs.Passes.{AreTwo, history, party}
use Rattle.spin_session.specs.Turns.{SeatSpot, Calls}
use Rattle.spin_step.specs.declared.place.Seat.{Seat}
use Rattle.spin_step.specs.declared.schedule.Move.TheVariants.{Begin}

both_empty : {X : Type 0} (xs ys : List X) → xs ++ ys ≡ [] → (xs ≡ []) × (ys ≡ [])
both_empty [] ys none = (refl, none)
both_empty (x ∷ xs) ys none = absurd (cc none)

module _ {W V C L A X : Type 0} (m m' : Machine W V C L A) (c d : C) (a b : A) (v0 v1 w1 : Option (Numbered X)) (h0 h1 k0 k1 : List (Entry C V)) where
  same_number : (p q : ℕ) (view : Option (Numbered X)) → HasNumber p view → HasNumber q view → p ≡ q
  same_number p q None is has = absurd is
  same_number p q (Some u) is has = is ∙ sym has

  -- a party that has made no move of k0 is not the one that has made this call in it
  not_by : (p : ℕ) → HasNumber p v1 → Made m v0 h0 v1 h1 (IsCall c a) → IsPrefix h1 k0 → entries_by p k0 ≡ [] → ⊥
  not_by p is made begins none =
      let same : made.0 ≡ p = same_number made.0 p v1 made.2 is in
      let own = made.3 in let did = made.5 in let more = did.0 in
      let here : entries_by p more ≡ by_party p own = subst (λ (q : ℕ). entries_by q more ≡ by_party q own) same did.3 in
      let whole : (h0 ++ more) ++ begins.0 ≡ k0 = ap (λ (l : List (Entry C V)). l ++ begins.0) (sym did.2) ∙ begins.1 in
      let mine : Entry C V → Bool = λ e. e.0 == p in
      let parts : entries_by p (h0 ++ more) ++ entries_by p begins.0 ≡ [] = sym (filter-append mine (h0 ++ more) begins.0) ∙ (ap (entries_by p) whole ∙ none) in
      let first : entries_by p h0 ++ entries_by p more ≡ [] = sym (filter-append mine h0 more) ∙ (both_empty (entries_by p (h0 ++ more)) (entries_by p begins.0) parts).0 in
      let gone : by_party p own ≡ [] = sym here ∙ (both_empty (entries_by p h0) (entries_by p more) first).1 in
      let no : by_party p (Begin c ∷ made.6.0) ≡ [] = ap (by_party p) (sym made.6.2) ∙ gone in absurd (cc no)

  apart : Made m v0 h0 v1 h1 (IsCall c a) → IsPrefix h1 k0 → Made m' None k0 w1 k1 (IsCall d b) → (p q : ℕ) → HasNumber p v1 → HasNumber q w1 → p ≡ q → ⊥
  apart made begins later p q is has same =
      let one : later.0 ≡ p = same_number later.0 q w1 later.2 has ∙ sym same in
      not_by p is made begins (subst (λ (r : ℕ). entries_by r k0 ≡ []) one later.1.1)

module _ {W V C L : Type 0} (t : ℕ → V → Table W V C L (Answer V)) (c d : C) (a b : Answer (Unit {0})) (one one' other other' : SeatSpot V C L) where
  pub are_two : Calls t c a one one' → IsPrefix (history one') (history other) → party other ≡ None → Calls t d b other other' → AreTwo one' other'
  are_two calls begins new next p q is has same =
      let later = subst (λ (v : Option (Numbered (Seat C L))). Made (model_at t other.0) v other.2.entries other'.1 other'.2.entries (IsCall d (with_value b None))) new next.0 in
      apart (model_at t one.0) (model_at t other.0) c d (with_value a None) (with_value b None) one.1 one'.1 other'.1 one.2.entries one'.2.entries other.2.entries other'.2.entries calls.0 begins later p q is has same

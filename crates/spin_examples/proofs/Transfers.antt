-- What a transfer does not change, and how a journal grows.
use Rattle.std.proofs.Common.{◌≡◌, ◌<◌, ◌≤◌, ◌+◌, ◌-◌, ℕ, List, [], ◌∷◌, ◌++◌, Some, None, true, false, cond, if◌then◌else◌, ◌==◌, eq-eqb, length, sum, slice_index, ap, sym, subst, refl, arith}
use Rattle.std.proofs.lemmas.Grind.{common_steps}
use Rattle.std.proofs.lemmas.List.{length-set, get_or-set_same, get_or-set_other}
use Rattle.std.proofs.lemmas.Bool.{ne_eqb}
use mathlib.Core.Logic.{dite}
use native.Mathlib.Decide.{ℕ_discrete}
use Rattle.std.proofs.lemmas.List.Sums.{sum_by-cons, sum_by-set, get_or-le-sum_by}
use Rattle.spin_examples.specs.declared.ledger.Transfer.{Transfer}
use Rattle.spin_examples.specs.Ledger.{after, can_make, takes, gives, paid_in, paid_out, replayed}

-- if a transfer can be made, its accounts exist, and the paying one has the amount
pub possible : (t : Transfer) (xs : List ℕ) → can_make t xs ≡ true → (t.from < length xs) × (t.to < length xs) × (t.amount ≤ slice_index xs t.from)
possible t xs h = (grind (arith, common_steps), grind (arith, common_steps), grind (arith, common_steps))

takes_sum : (t : Transfer) (xs : List ℕ) → can_make t xs ≡ true → sum (takes t.from t.amount xs) + t.amount ≡ sum xs
takes_sum t xs h =
    let p = possible t xs h in
    let s = sum_by-set (λ x. x) xs t.from (slice_index xs t.from - t.amount) 0 p.0 in
    let enough = p.2 in
    omega arith

-- the account that is paid has room for the amount
pub fits : (t : Transfer) (xs : List ℕ) → can_make t xs ≡ true → slice_index (takes t.from t.amount xs) t.to + t.amount ≤ sum xs
fits t xs h =
    let p = possible t xs h in
    let same = length-set xs t.from (slice_index xs t.from - t.amount) in
    let there : t.to < length (takes t.from t.amount xs) = grind (arith) in
    let least = get_or-le-sum_by (λ x. x) (takes t.from t.amount xs) t.to 0 there in
    omega (arith, takes_sum t xs h)

-- a transfer does not change the total
pub keeps_total : (t : Transfer) (xs : List ℕ) → can_make t xs ≡ true → sum (after t xs) ≡ sum xs
keeps_total t xs h =
    let p = possible t xs h in
    let same = length-set xs t.from (slice_index xs t.from - t.amount) in
    let ys = takes t.from t.amount xs in
    let there : t.to < length ys = grind (arith) in
    let s = sum_by-set (λ x. x) ys t.to (slice_index ys t.to + t.amount) 0 there in
    omega (arith, takes_sum t xs h)

-- if one more transfer can be made, the journal with it is replayed to the balances after it
pub replays_more : (t : Transfer) (ts : List Transfer) (xs ys : List ℕ) → replayed xs ts ≡ Some ys → can_make t ys ≡ true → replayed xs (ts ++ t ∷ []) ≡ Some (after t ys)
replays_more t [] xs ys e h = grind (arith, common_steps)
replays_more t (u ∷ ts) xs ys e h =
    elim (can_make u xs) as (λ b. cond b (replayed (after u xs) ts) None ≡ Some ys → cond b (replayed (after u xs) (ts ++ t ∷ [])) None ≡ Some (after t ys)) [
      | true ↦ λ f. replays_more t ts (after u xs) ys f h
      | false ↦ λ f. cc
    ] e

-- The balance of one account.

takes_from : (account amount : ℕ) (xs : List ℕ) (i : ℕ) → account < length xs → amount ≤ slice_index xs account → slice_index (takes account amount xs) i + (if account == i then amount else 0) ≡ slice_index xs i
takes_from account amount xs i there enough = dite (ℕ_discrete account i)
    (λ e. let P : ℕ → Type 0 = λ j. slice_index (takes account amount xs) j + (if account == j then amount else 0) ≡ slice_index xs j in
    subst P e (omega (arith, get_or-set_same xs account (slice_index xs account - amount) 0 there, ap (λ b. if b then amount else 0) (eq-eqb account account refl), enough)))
    (λ ne. omega (arith, get_or-set_other xs account i (slice_index xs account - amount) 0 (λ e. ne (sym e)), ap (λ b. if b then amount else 0) (ne_eqb account i ne)))

gives_to : (account amount : ℕ) (xs : List ℕ) (i : ℕ) → account < length xs → slice_index (gives account amount xs) i ≡ slice_index xs i + (if account == i then amount else 0)
gives_to account amount xs i there = dite (ℕ_discrete account i)
    (λ e. let P : ℕ → Type 0 = λ j. slice_index (gives account amount xs) j ≡ slice_index xs j + (if account == j then amount else 0) in
    subst P e (omega (arith, get_or-set_same xs account (slice_index xs account + amount) 0 there, ap (λ b. if b then amount else 0) (eq-eqb account account refl))))
    (λ ne. omega (arith, get_or-set_other xs account i (slice_index xs account + amount) 0 (λ e. ne (sym e)), ap (λ b. if b then amount else 0) (ne_eqb account i ne)))

moves : (t : Transfer) (xs : List ℕ) (i : ℕ) → can_make t xs ≡ true → slice_index (after t xs) i + (if t.from == i then t.amount else 0) ≡ slice_index xs i + (if t.to == i then t.amount else 0)
moves t xs i h =
    let p = possible t xs h in
    let same = length-set xs t.from (slice_index xs t.from - t.amount) in
    let there : t.to < length (takes t.from t.amount xs) = grind (arith) in
    omega (arith, takes_from t.from t.amount xs i p.0 p.2, gives_to t.to t.amount (takes t.from t.amount xs) i there)

pub came_less_went : (xs ys : List ℕ) (ts : List Transfer) (i : ℕ) → replayed xs ts ≡ Some ys → slice_index ys i + paid_out i ts ≡ slice_index xs i + paid_in i ts
came_less_went xs ys [] i e = let same : xs ≡ ys = cc (e) in omega (arith, ap (λ zs. slice_index zs i) same)
came_less_went xs ys (t ∷ ts) i e =
    elim (can_make t xs) as (λ b. can_make t xs ≡ b → cond b (replayed (after t xs) ts) None ≡ Some ys → slice_index ys i + paid_out i (t ∷ ts) ≡ slice_index xs i + paid_in i (t ∷ ts)) [
      | true ↦ λ h f. omega (
        arith,
        moves t xs i h,
        came_less_went (after t xs) ys ts i f,
        sum_by-cons (λ (u : Transfer). if u.from == i then u.amount else 0) t ts,
        sum_by-cons (λ (u : Transfer). if u.to == i then u.amount else 0) t ts,
      )
      | false ↦ λ h f. absurd (cc (f))
    ] refl e

-- What a party may have in a lock by its lines that are over.
use Rattle.std.proofs.Common.{◌≡◌, ℕ, zero, suc, ◌+◌, ◌<◌, ◌≤◌, ◌==◌, ◌&&◌, ◌||◌, Bool, true, false, not, cond, Option, Some, None, List, [], ◌∷◌, ◌++◌, ⊎_elim, length, take, slice_get, slice_set, refl, ap, sym, ◌∙◌, subst, arith}
use Rattle.std.proofs.lemmas.Bool.{eqb-true, eq-eqb, ne_eqb, cases_eq}
use Rattle.std.specs.Prelude.{replicate}
use Rattle.std.specs.List.{list_any}
use Rattle.spin_explore.specs.declared.entries.Entry.{Entry}
use Rattle.spin_explore.specs.declared.kinds.AnyCall.{AnyCall}
use Rattle.spin_explore.specs.declared.lock_order.Part.{Part}
use Rattle.spin_explore.specs.Walks.{HasNode}
use Rattle.spin_explore.specs.Programs.{Reached, turn}
use Rattle.spin_explore.specs.Orders.{takes, gives, is_part, gives_back, kept_by, taken_by, held_by, held_after}

abbrev pub Line : Type 0
Line = Entry AnyCall ℕ

-- what a party may have in a lock, as the explorer says it
abbrev element_of : {X : Type 0} → List X → Type 0
element_of {X} xs = X

abbrev pub Held : Type 0
Held = element_of (held_after [] [])

abbrev pub Gots : Type 0
Gots = List (Option (Reached ℕ))

-- whether a party may have this in the lock k after a line of its own, if b says whether it may before it
abbrev pub next_has : Line → ℕ → Part → Bool → Bool
next_has e k part b = (b && not ((e.lock == k) && is_part (gives e.action) part)) || ((e.lock == k) && is_part (takes e.action) part)

-- the same after its lines that are over
abbrev pub has_by : ℕ → ℕ → Part → Bool → List Line → Gots → Bool
has_by p k part b (e ∷ es) (Some g ∷ gs) = has_by p k part (cond (e.party == p) (next_has e k part b) b) es gs
has_by p k part b (e ∷ es) (None ∷ gs) = cond (e.party == p) b (has_by p k part b es gs)
has_by p k part b _ _ = b

-- none of the party's lines is over
abbrev pub all_open : ℕ → List Line → Gots → Bool
all_open p (e ∷ es) (Some g ∷ gs) = not (e.party == p) && all_open p es gs
all_open p (e ∷ es) (None ∷ gs) = all_open p es gs
all_open p _ _ = true

-- none of the party's lines behind its first that is left is over
abbrev pub in_turn : ℕ → List Line → Gots → Bool
in_turn p (e ∷ es) (Some g ∷ gs) = in_turn p es gs
in_turn p (e ∷ es) (None ∷ gs) = cond (e.party == p) (all_open p es gs) (in_turn p es gs)
in_turn p _ _ = true

with_it : (of here it may kept back : Bool) → it ≡ true → back ≡ (of && here) → kept ≡ cond of (may && not here) may → cond back kept (it || kept) ≡ cond of ((it || may) && not here) (it || may)
with_it true true it may kept back is given rest = grind (arith, is, given, rest)
with_it true false it may kept back is given rest = grind (arith, is, given, rest)
with_it false here it may kept back is given rest = grind (arith, is, given, rest)

without_it : (of here it may kept back : Bool) → it ≡ false → kept ≡ cond of (may && not here) may → cond back kept (it || kept) ≡ cond of ((it || may) && not here) (it || may)
without_it true here it may kept back is rest = grind (arith, is, rest)
without_it false here it may kept back is rest = grind (arith, is, rest)

eqb_sym : (a b : ℕ) → (a == b) ≡ (b == a)
eqb_sym a b =
    ⊎_elim (λ (same : a ≡ b). eq-eqb a b same ∙ sym (eq-eqb b a (sym same))) (λ (ne : a ≡ b → ⊥). ne_eqb a b ne ∙ sym (ne_eqb b a (λ same. ne (sym same)))) (cases_eq a b)

module _ (p : ℕ) where
  turn_if_open : (es : List Line) (gs : Gots) → all_open p es gs ≡ true → in_turn p es gs ≡ true
  turn_if_open [] gs all = refl
  turn_if_open (e ∷ es) [] all = refl
  turn_if_open (e ∷ es) (Some g ∷ gs) all = grind (arith, all, turn_if_open es gs)
  turn_if_open (e ∷ es) (None ∷ gs) all = grind (arith, all, turn_if_open es gs)

  skips : (k : ℕ) (part : Part) (b : Bool) (es : List Line) (gs : Gots) → all_open p es gs ≡ true → has_by p k part b es gs ≡ b
  skips k part b [] gs all = refl
  skips k part b (e ∷ es) [] all = refl
  skips k part b (e ∷ es) (Some g ∷ gs) all = grind (arith, all, skips k part b es gs)
  skips k part b (e ∷ es) (None ∷ gs) all = grind (arith, all, skips k part b es gs)

  first_open : (lines : List Line) (n : ℕ) → all_open p lines (replicate n None) ≡ true
  first_open [] n = refl
  first_open (e ∷ es) zero = refl
  first_open (e ∷ es) (suc n) = first_open es n

  pub first_in_turn : (lines : List Line) (n : ℕ) → in_turn p lines (replicate n None) ≡ true
  first_in_turn lines n = turn_if_open lines (replicate n None) (first_open lines n)

  -- the next line is at its place, and is the party's
  pub record IsNext (j : ℕ) (es : List Line) (gs : Gots) (n : ℕ) (e : Line) : Type 0 where
    pub past : ℕ
    pub is : n ≡ j + past
    pub there : slice_get es past ≡ Some e
    pub open_there : slice_get gs past ≡ Some None
    pub mine : e.party ≡ p

  later : (j : ℕ) (f : Line) (g : Option (Reached ℕ)) (es : List Line) (gs : Gots) (n : ℕ) (e : Line) → IsNext (j + 1) es gs n e → IsNext j (f ∷ es) (g ∷ gs) n e
  later j f g es gs n e next = record { past = suc next.past; is = omega (arith, next.is); there = next.there; open_there = next.open_there; mine = next.mine }

  here_or_later : (j : ℕ) (f : Line) (es : List Line) (gs : Gots) (n : ℕ) (e : Line) → (turn p (j + 1) es gs ≡ Some (n, e) → IsNext (j + 1) es gs n e)
      → turn p j (f ∷ es) (None ∷ gs) ≡ Some (n, e) → (b : Bool) → (f.party == p) ≡ b → IsNext j (f ∷ es) (None ∷ gs) n e
  here_or_later j f es gs n e far is true same =
      let at : j ≡ n = grind (arith, is, same) in let it : f ≡ e = grind (arith, is, same) in
      record { past = 0; is = omega (arith, at); there = ap Some it; open_there = refl; mine = grind (arith, same, it, eqb-true f.party p) }
  here_or_later j f es gs n e far is false other = later j f None es gs n e (far (grind (arith, is, other)))

  pub next_of : (j : ℕ) (es : List Line) (gs : Gots) (n : ℕ) (e : Line) → turn p j es gs ≡ Some (n, e) → IsNext j es gs n e
  next_of j [] gs n e is = absurd (grind (arith, is))
  next_of j (f ∷ es) [] n e is = absurd (grind (arith, is))
  next_of j (f ∷ es) (None ∷ gs) n e is = here_or_later j f es gs n e (λ there. next_of (j + 1) es gs n e there) is (f.party == p) refl
  next_of j (f ∷ es) (Some g ∷ gs) n e is = later j f (Some g) es gs n e (next_of (j + 1) es gs n e is)

  -- The party's next line is over now
  abbrev pub Noted : ℕ → List Line → Gots → ℕ → Line → Reached ℕ → Type 0
  Noted j es gs d e o =
      (in_turn p es (slice_set gs d (Some o)) ≡ true)
      × ((k : ℕ) (part : Part) (b : Bool) → has_by p k part b es (slice_set gs d (Some o)) ≡ next_has e k part (has_by p k part b es gs))

  noted_by : (j : ℕ) (f : Line) (es : List Line) (gs : Gots) (n : ℕ) (e : Line) (o : Reached ℕ) (d : ℕ)
      → ((d : ℕ) → turn p (j + 1) es gs ≡ Some (n, e) → n ≡ (j + 1) + d → in_turn p es gs ≡ true → Noted (j + 1) es gs d e o)
      → turn p j (f ∷ es) (None ∷ gs) ≡ Some (n, e) → n ≡ j + d → in_turn p (f ∷ es) (None ∷ gs) ≡ true → (b : Bool) → (f.party == p) ≡ b → Noted j (f ∷ es) (None ∷ gs) d e o
  noted_by j f es gs n e o zero far is at right true same =
      let all : all_open p es gs ≡ true = grind (arith, right, same) in let it : f ≡ e = grind (arith, is, same) in
      (turn_if_open es gs all, λ k part b. grind (arith, same, it, skips k part (next_has e k part b) es gs all))
  noted_by j f es gs n e o (suc d) far is at right true same = absurd (let i : j ≡ n = grind (arith, is, same) in omega (arith, i, at))
  noted_by j f es gs n e o zero far is at right false other =
      let next = next_of (j + 1) es gs n e (grind (arith, is, other)) in absurd (omega (arith, next.is, at))
  noted_by j f es gs n e o (suc d) far is at right false other =
      let rest = far d (grind (arith, is, other)) (omega (arith, at)) (grind (arith, right, other)) in
      (grind (arith, rest.0, other), λ k part b. grind (arith, other, rest.1 k part b))

  noted : (j : ℕ) (es : List Line) (gs : Gots) (n : ℕ) (e : Line) (o : Reached ℕ) (d : ℕ) → turn p j es gs ≡ Some (n, e) → n ≡ j + d → in_turn p es gs ≡ true → Noted j es gs d e o
  noted j [] gs n e o d is at right = absurd (grind (arith, is))
  noted j (f ∷ es) [] n e o d is at right = absurd (grind (arith, is))
  noted j (f ∷ es) (None ∷ gs) n e o d is at right = noted_by j f es gs n e o d (λ i there. noted (j + 1) es gs n e o i there) is at right (f.party == p) refl
  noted j (f ∷ es) (Some g ∷ gs) n e o zero is at right = let next = next_of (j + 1) es gs n e is in absurd (omega (arith, next.is, at))
  noted j (f ∷ es) (Some g ∷ gs) n e o (suc d) is at right =
      let rest = noted (j + 1) es gs n e o d is (omega (arith, at)) right in
      (rest.0, λ k part b. rest.1 k part (cond (f.party == p) (next_has f k part b) b))

  pub noted_here : (es : List Line) (gs : Gots) (n : ℕ) (e : Line) (o : Reached ℕ) → turn p 0 es gs ≡ Some (n, e) → in_turn p es gs ≡ true → Noted 0 es gs n e o
  noted_here es gs n e o is right = noted 0 es gs n e o n is (omega arith) right

  -- Another party's line is over now

  open_beside : (es : List Line) (gs : Gots) (d : ℕ) (e : Line) (o : Reached ℕ) → slice_get es d ≡ Some e → (e.party == p) ≡ false → all_open p es (slice_set gs d (Some o)) ≡ all_open p es gs
  open_beside [] gs d e o there other = refl
  open_beside (f ∷ es) [] d e o there other = refl
  open_beside (f ∷ es) (None ∷ gs) zero e o there other = grind (arith, there, other)
  open_beside (f ∷ es) (Some g ∷ gs) zero e o there other = refl
  open_beside (f ∷ es) (None ∷ gs) (suc d) e o there other = open_beside es gs d e o there other
  open_beside (f ∷ es) (Some g ∷ gs) (suc d) e o there other = grind (arith, open_beside es gs d e o there other)

  pub turn_beside : (es : List Line) (gs : Gots) (d : ℕ) (e : Line) (o : Reached ℕ) → slice_get es d ≡ Some e → (e.party == p) ≡ false → in_turn p es (slice_set gs d (Some o)) ≡ in_turn p es gs
  turn_beside [] gs d e o there other = refl
  turn_beside (f ∷ es) [] d e o there other = refl
  turn_beside (f ∷ es) (None ∷ gs) zero e o there other = grind (arith, there, other)
  turn_beside (f ∷ es) (Some g ∷ gs) zero e o there other = refl
  turn_beside (f ∷ es) (None ∷ gs) (suc d) e o there other = grind (arith, open_beside es gs d e o there other, turn_beside es gs d e o there other)
  turn_beside (f ∷ es) (Some g ∷ gs) (suc d) e o there other = turn_beside es gs d e o there other

  pub has_beside : (k : ℕ) (part : Part) (b : Bool) (es : List Line) (gs : Gots) (d : ℕ) (e : Line) (o : Reached ℕ) → slice_get es d ≡ Some e → (e.party == p) ≡ false
      → has_by p k part b es (slice_set gs d (Some o)) ≡ has_by p k part b es gs
  has_beside k part b [] gs d e o there other = refl
  has_beside k part b (f ∷ es) [] d e o there other = refl
  has_beside k part b (f ∷ es) (None ∷ gs) zero e o there other = grind (arith, there, other)
  has_beside k part b (f ∷ es) (Some g ∷ gs) zero e o there other = refl
  has_beside k part b (f ∷ es) (None ∷ gs) (suc d) e o there other = grind (arith, has_beside k part b es gs d e o there other)
  has_beside k part b (f ∷ es) (Some g ∷ gs) (suc d) e o there other = has_beside k part (cond (f.party == p) (next_has f k part b) b) es gs d e o there other

  pub next_beside : (j : ℕ) (es : List Line) (gs : Gots) (d : ℕ) (e : Line) (o : Reached ℕ) → slice_get es d ≡ Some e → (e.party == p) ≡ false → turn p j es (slice_set gs d (Some o)) ≡ turn p j es gs
  next_beside j [] gs d e o there other = refl
  next_beside j (f ∷ es) [] d e o there other = refl
  next_beside j (f ∷ es) (None ∷ gs) zero e o there other = grind (arith, there, other)
  next_beside j (f ∷ es) (Some g ∷ gs) zero e o there other = refl
  next_beside j (f ∷ es) (None ∷ gs) (suc d) e o there other = grind (arith, next_beside (j + 1) es gs d e o there other)
  next_beside j (f ∷ es) (Some g ∷ gs) (suc d) e o there other = next_beside (j + 1) es gs d e o there other

  -- In the list of what parties may have

  module _ (k : ℕ) (part : Part) where
    abbrev pub is_it : Held → Bool
    is_it had = (had.party == p) && ((had.lock == k) && is_part (Some had.part) part)

    abbrev pub may_have : List Held → Bool
    may_have held = list_any is_it held

    it_is : (had : Held) → is_it had ≡ true → (had.party ≡ p) × (had.lock ≡ k)
    it_is had is = (grind (arith, is, eqb-true had.party p), grind (arith, is, eqb-true had.lock k))

    abbrev Found : List Held → Type 0
    Found held = (had : Held) × HasNode held had × (had.party ≡ p) × (had.lock ≡ k)

    had_by : (had : Held) (held : List Held) → (may_have held ≡ true → Found held) → may_have (had ∷ held) ≡ true → (b : Bool) → is_it had ≡ b → Found (had ∷ held)
    had_by had held far may true is = (had, (0, refl), (it_is had is).0, (it_is had is).1)
    had_by had held far may false is = let it = far (grind (arith, may, is)) in (it.0, (suc it.1.0, it.1.1), it.2, it.3)

    pub had_there : (held : List Held) → may_have held ≡ true → Found held
    had_there [] may = absurd (grind (arith, may))
    had_there (had ∷ held) may = had_by had held (λ so. had_there held so) may (is_it had) refl

    joined : (xs ys : List Held) → may_have (xs ++ ys) ≡ (may_have xs || may_have ys)
    joined [] ys = refl
    joined (x ∷ xs) ys = grind (arith, joined xs ys)

    same_part : (g : Option Part) (q : Part) → is_part (Some q) part ≡ true → is_part g q ≡ is_part g part
    same_part g q is = grind (arith, is)

    -- a line gives back what it gives back of its party and its lock
    given_back : (e : Line) (had : Held) → is_it had ≡ true → gives_back e had ≡ ((e.party == p) && ((e.lock == k) && is_part (gives e.action) part))
    given_back e had is =
        let party : (had.party == e.party) ≡ (e.party == p) = ap (λ q. q == e.party) (it_is had is).0 ∙ eqb_sym p e.party in
        let lock : (had.lock == e.lock) ≡ (e.lock == k) = ap (λ q. q == e.lock) (it_is had is).1 ∙ eqb_sym k e.lock in
        let parts = same_part (gives e.action) had.part (grind (arith, is)) in
        grind (arith, party, lock, parts)

    picked : (g : Bool) (had : Held) (held : List Held) → may_have (cond g held (had ∷ held)) ≡ cond g (may_have held) (is_it had || may_have held)
    picked true had held = refl
    picked false had held = refl

    kept_by_it : (e : Line) (had : Held) (held : List Held) (b : Bool) → is_it had ≡ b
        → may_have (kept_by e held) ≡ cond (e.party == p) (may_have held && not ((e.lock == k) && is_part (gives e.action) part)) (may_have held)
        → may_have (kept_by e (had ∷ held)) ≡ cond (e.party == p) (may_have (had ∷ held) && not ((e.lock == k) && is_part (gives e.action) part)) (may_have (had ∷ held))
    kept_by_it e had held true is rest =
        picked (gives_back e had) had (kept_by e held)
        ∙ with_it (e.party == p) ((e.lock == k) && is_part (gives e.action) part) (is_it had) (may_have held) (may_have (kept_by e held)) (gives_back e had) is (given_back e had is) rest
    kept_by_it e had held false is rest =
        picked (gives_back e had) had (kept_by e held)
        ∙ without_it (e.party == p) ((e.lock == k) && is_part (gives e.action) part) (is_it had) (may_have held) (may_have (kept_by e held)) (gives_back e had) is rest

    kept_of : (e : Line) (held : List Held) → may_have (kept_by e held) ≡ cond (e.party == p) (may_have held && not ((e.lock == k) && is_part (gives e.action) part)) (may_have held)
    kept_of e [] = grind arith
    kept_of e (had ∷ held) = kept_by_it e had held (is_it had) refl (kept_of e held)

    taken_at : (e : Line) (o : Option Part) → may_have (elim o [ None ↦ [] | Some q ↦ record { party = e.party; lock = e.lock; part = q } ∷ [] ]) ≡ cond (e.party == p) ((e.lock == k) && is_part o part) false
    taken_at e None = grind arith
    taken_at e (Some q) = grind arith

    taken_of : (e : Line) → may_have (taken_by e) ≡ cond (e.party == p) ((e.lock == k) && is_part (takes e.action) part) false
    taken_of e = taken_at e (takes e.action)

    held_of : (e : Line) (held : List Held) → may_have (held_by e held) ≡ cond (e.party == p) (next_has e k part (may_have held)) (may_have held)
    held_of e held = joined (kept_by e held) (taken_by e) ∙ grind (arith, kept_of e held, taken_of e)

    have_by : (j : ℕ) (f : Line) (es : List Line) (gs : Gots) (n : ℕ) (e : Line) (d : ℕ) (held : List Held)
        → ((d : ℕ) (held : List Held) → turn p (j + 1) es gs ≡ Some (n, e) → n ≡ (j + 1) + d → may_have (held_after held (take d es)) ≡ has_by p k part (may_have held) es gs)
        → turn p j (f ∷ es) (None ∷ gs) ≡ Some (n, e) → n ≡ j + d → (b : Bool) → (f.party == p) ≡ b
        → may_have (held_after held (take d (f ∷ es))) ≡ has_by p k part (may_have held) (f ∷ es) (None ∷ gs)
    have_by j f es gs n e zero held far is at true same = grind (arith, same)
    have_by j f es gs n e (suc d) held far is at true same = absurd (let i : j ≡ n = grind (arith, is, same) in omega (arith, i, at))
    have_by j f es gs n e zero held far is at false other = let next = next_of (j + 1) es gs n e (grind (arith, is, other)) in absurd (omega (arith, next.is, at))
    have_by j f es gs n e (suc d) held far is at false other =
        let rest = far d (held_by f held) (grind (arith, is, other)) (omega (arith, at)) in
        let same : may_have (held_by f held) ≡ may_have held = grind (arith, held_of f held, other) in
        rest ∙ (ap (λ b. has_by p k part b es gs) same ∙ grind (arith, other))

    -- before the party's next line, and once it has none, it may have what its lines that are over leave to it
    have_at : (j : ℕ) (es : List Line) (gs : Gots) (n : ℕ) (e : Line) (d : ℕ) (held : List Held) → turn p j es gs ≡ Some (n, e) → n ≡ j + d
        → may_have (held_after held (take d es)) ≡ has_by p k part (may_have held) es gs
    have_at j [] gs n e d held is at = absurd (grind (arith, is))
    have_at j (f ∷ es) [] n e d held is at = absurd (grind (arith, is))
    have_at j (f ∷ es) (None ∷ gs) n e d held is at = have_by j f es gs n e d held (λ i more there. have_at (j + 1) es gs n e i more there) is at (f.party == p) refl
    have_at j (f ∷ es) (Some g ∷ gs) n e zero held is at = let next = next_of (j + 1) es gs n e is in absurd (omega (arith, next.is, at))
    have_at j (f ∷ es) (Some g ∷ gs) n e (suc d) held is at =
        have_at (j + 1) es gs n e d (held_by f held) is (omega (arith, at)) ∙ ap (λ b. has_by p k part b es gs) (held_of f held)

    pub have_before : (es : List Line) (gs : Gots) (n : ℕ) (e : Line) → turn p 0 es gs ≡ Some (n, e) → may_have (held_after [] (take n es)) ≡ has_by p k part false es gs
    have_before es gs n e is = have_at 0 es gs n e n [] is (omega arith)

    have_in_the_end : (j : ℕ) (es : List Line) (gs : Gots) (held : List Held) → turn p j es gs ≡ None → length gs ≡ length es
        → may_have (held_after held es) ≡ has_by p k part (may_have held) es gs
    have_in_the_end j [] gs held none long = refl
    have_in_the_end j (f ∷ es) [] held none long = absurd (omega (arith, long))
    have_in_the_end j (f ∷ es) (None ∷ gs) held none long =
        let other : (f.party == p) ≡ false = grind (arith, none) in
        let same : may_have (held_by f held) ≡ may_have held = grind (arith, held_of f held, other) in
        have_in_the_end (j + 1) es gs (held_by f held) (grind (arith, none, other)) (omega (arith, long)) ∙ (ap (λ b. has_by p k part b es gs) same ∙ grind (arith, other))
    have_in_the_end j (f ∷ es) (Some g ∷ gs) held none long =
        have_in_the_end (j + 1) es gs (held_by f held) none (omega (arith, long)) ∙ ap (λ b. has_by p k part b es gs) (held_of f held)

    pub have_after : (es : List Line) (gs : Gots) → turn p 0 es gs ≡ None → length gs ≡ length es → may_have (held_after [] es) ≡ has_by p k part false es gs
    have_after es gs none long = have_in_the_end 0 es gs [] none long

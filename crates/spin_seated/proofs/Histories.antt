-- Histories that grow.
use Rattle.std.proofs.Common.{◌≡◌, ℕ, ◌<◌, ◌≢◌, ◌==◌, Bool, true, if◌then◌else◌, List, [], ◌∷◌, ◌++◌, Option, refl, sym, ap, ◌∙◌, append_assoc, append-nil, length, length-append, eq-eqb, ne_eqb, subst, arith}
use Rattle.std.proofs.lemmas.Bool.{false≢true}
use Rattle.std.proofs.lemmas.List.{append_cancel_right}
use Rattle.spin_seated.specs.declared.history.Entry.{Entry}
use Rattle.spin_seated.specs.declared.history.Known.{Known}
use Rattle.spin_seated.specs.Histories.{PlainObject, BeginsWith, entry, calls_by, after, state, IsLegalFrom, IsLegal, holds, IsTracked, Made, Met, Turned, held_then}
use Rattle.std.proofs.lemmas.List.{append_cancel_left, nil_from_length}
use Rattle.std.proofs.lemmas.List.Elements.{filter-append}

module _ {X : Type 0} where
  pub begins_here : (xs : List X) → BeginsWith xs xs
  begins_here xs = record { rest = []; is = sym (append-nil xs) }

  pub begins_longer : (xs ys zs : List X) → BeginsWith xs ys → BeginsWith (xs ++ zs) ys
  begins_longer xs ys zs b = record { rest = b.rest ++ zs; is = ap (λ (l : List X). l ++ zs) b.is ∙ append_assoc ys b.rest zs }

  pub nothing_more : (xs ys : List X) → xs ++ ys ≡ xs → ys ≡ []
  nothing_more xs ys same = append_cancel_left xs ys [] (same ∙ sym (append-nil xs))

module _ {C A : Type 0} where
  pub calls_by-append : (p : ℕ) (xs ys : List (Entry C A)) → calls_by p (xs ++ ys) ≡ calls_by p xs ++ calls_by p ys
  calls_by-append p xs ys = rw filter-append refl

  pub calls_by-own : (p : ℕ) (c : C) (a : A) → calls_by p (entry p c a ∷ []) ≡ entry p c a ∷ []
  calls_by-own p c a = ap (λ (b : Bool). if b then entry p c a ∷ [] else []) (eq-eqb p p refl)

  pub calls_by-other : (p q : ℕ) (c : C) (a : A) → q ≢ p → calls_by p (entry q c a ∷ []) ≡ []
  calls_by-other p q c a apart = ap (λ (b : Bool). if b then entry q c a ∷ [] else []) (ne_eqb q p apart)

  -- if two histories have the same calls of a pass, so has each history between them
  pub none_between : (p : ℕ) (all mid first : List (Entry C A)) → BeginsWith all mid → BeginsWith mid first → calls_by p all ≡ calls_by p first → calls_by p mid ≡ calls_by p first
  none_between p all mid first more some same =
      let one : calls_by p mid ≡ calls_by p first ++ calls_by p some.rest = ap (calls_by p) some.is ∙ calls_by-append p first some.rest in
      let two : calls_by p all ≡ calls_by p mid ++ calls_by p more.rest = ap (calls_by p) more.is ∙ calls_by-append p mid more.rest in
      let none_left : calls_by p some.rest ≡ [] = nil_from_length (calls_by p some.rest)
      (omega (arith, ap length one, ap length two, ap length same, length-append (calls_by p first) (calls_by p some.rest), length-append (calls_by p mid) (calls_by p more.rest))) in
      one ∙ (ap (λ (l : List (Entry C A)). calls_by p first ++ l) none_left ∙ append-nil (calls_by p first))

module _ {K S C A H : Type 0} (m : PlainObject K S C A H) where
  pub after-append : (s : S) (xs ys : List (Entry C A)) → after m s (xs ++ ys) ≡ after m (after m s xs) ys
  after-append s [] ys = refl
  after-append s (e ∷ es) ys = after-append (m.next e.pass e.call s) es ys

  pub legal-append : (n : ℕ) (s : S) (xs ys : List (Entry C A)) → IsLegalFrom m n s xs → IsLegalFrom m n (after m s xs) ys → IsLegalFrom m n s (xs ++ ys)
  legal-append n s [] ys first rest = rest
  legal-append n s (e ∷ es) ys first rest = (first.0, first.1, first.2, legal-append n (m.next e.pass e.call s) es ys first.3 rest)

  -- both parts of a legal history are legal
  pub legal-split : (n : ℕ) (s : S) (xs ys : List (Entry C A)) → IsLegalFrom m n s (xs ++ ys) → IsLegalFrom m n s xs × IsLegalFrom m n (after m s xs) ys
  legal-split n s [] ys legal = (tt, legal)
  legal-split n s (e ∷ es) ys legal = let two = legal-split n (m.next e.pass e.call s) es ys legal.3 in ((legal.0, legal.1, legal.2, two.0), two.1)

  -- A property of the first state holds after each legal history, if each allowed call keeps the property.
  module _ (P : S → Type 0) (n : ℕ) (kept : (p : ℕ) (c : C) (s : S) → p < n → m.may p c s ≡ true → P s → P (m.next p c s)) where
    pub always : (s : S) (log : List (Entry C A)) → P s → IsLegalFrom m n s log → P (after m s log)
    always s [] first legal = first
    always s (e ∷ es) first legal = always (m.next e.pass e.call s) es (kept e.pass e.call s legal.0 legal.1 first) legal.3

  -- for a call in a legal history: the history before it is legal, and the answer is the machine's
  pub answered : (k : K) (before rest : List (Entry C A)) (p : ℕ) (c : C) (a : A) → IsLegal m k (before ++ entry p c a ∷ rest) → IsLegal m k before × (a ≡ m.answer p c (state m k before))
  answered k before rest p c a legal = let two = legal-split (m.passes k) (m.start k) before (entry p c a ∷ rest) legal in (two.0, two.1.2)

  -- If no call of another pass changes what a pass holds, a list of such calls does not either.
  module _ (p : ℕ) (steady : (q : ℕ) (d : C) (s : S) → q ≢ p → m.holds p (m.next q d s) ≡ m.holds p s) where
    passed_by : (s : S) (e : Entry C A) (es : List (Entry C A)) (b : Bool) → (e.pass == p) ≡ b → (if b then e ∷ calls_by p es else calls_by p es) ≡ []
        → (calls_by p es ≡ [] → m.holds p (after m (m.next e.pass e.call s) es) ≡ m.holds p (m.next e.pass e.call s)) → m.holds p (after m (m.next e.pass e.call s) es) ≡ m.holds p s
    passed_by s e es b own alone rest = grind (arith, false≢true, eq-eqb)

    stands : (s : S) (log : List (Entry C A)) → calls_by p log ≡ [] → m.holds p (after m s log) ≡ m.holds p s
    stands s [] alone = refl
    stands s (e ∷ es) alone = passed_by s e es (e.pass == p) refl alone (stands (m.next e.pass e.call s) es)

  -- the place of a call in the history: the calls before it, and what it found and left
  pub record MadeAt (x : Known K C A) (c : C) (a : A) (y : Known K C A) : Type 0 where
    pub before : List (Entry C A)
    pub history : y.seen ≡ before ++ entry x.pass c a ∷ []
    pub begins : BeginsWith before x.seen
    pub own : calls_by x.pass before ≡ calls_by x.pass x.seen
    pub legal : IsLegal m x.opening before
    pub given : x.pass < m.passes x.opening
    pub may : m.may x.pass c (state m x.opening before) ≡ true
    pub answer : a ≡ m.answer x.pass c (state m x.opening before)
    pub left : state m y.opening y.seen ≡ m.next x.pass c (state m x.opening before)

  pub made_at : (x : Known K C A) (c : C) (a : A) (y : Known K C A) → Made m x c a y → MadeAt x c a y
  made_at x c a y made =
      let before : List (Entry C A) = x.seen ++ made.between in
      let last : List (Entry C A) = entry x.pass c a ∷ [] in
      let two = legal-split (m.passes x.opening) (m.start x.opening) before last (subst (IsLegal m x.opening) made.history made.legal) in
      record {
        before = before;
        history = made.history;
        begins = record { rest = made.between; is = refl };
        own = append_cancel_right (calls_by x.pass before) (calls_by x.pass x.seen) last (grind (arith, calls_by-append, calls_by-own));
        legal = two.0;
        given = two.1.0;
        may = two.1.1;
        answer = two.1.2;
        left = grind (arith, after-append);
      }

  -- What a pass knows of its hold is true in the history of all calls, and changes only by its own calls.
  module _ (tracked : IsTracked m) (x : Known K C A) where
    pub still : (log : List (Entry C A)) → BeginsWith log x.seen → calls_by x.pass log ≡ calls_by x.pass x.seen → m.holds x.pass (state m x.opening log) ≡ holds m x
    still log begins own = grind (arith, nothing_more, calls_by-append, after-append, stands x.pass (λ q c s apart. tracked.steady x.pass q c s apart))

    pub after_meet : (log : List (Entry C A)) (y : Known K C A) → Met m x log y → holds m y ≡ holds m x
    after_meet log y met = grind (arith, still)

    pub after_own : (c : C) (a : A) (y : Known K C A) → Made m x c a y → holds m y ≡ m.held_after c a (holds m x)
    after_own c a y made = grind (arith, made_at x c a y made, still (made_at x c a y made).before (made_at x c a y made).begins (made_at x c a y made).own)

    pub after_step : (t : Option (C × A)) (y : Known K C A) → Turned m t x y → holds m y ≡ held_then m t (holds m x)
    after_step t y same = grind (arith, after_own)

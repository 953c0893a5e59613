-- How each step keeps the table's rule: a call, a load by two passes that meet, and the splitting and joining of seats.
use Rattle.std.proofs.Common.{◌≡◌, ℕ, zero, suc, ◌+◌, ◌≤◌, ◌<◌, ◌≢◌, ◌==◌, ⊎_elim, Bool, true, cond, List, [], ◌∷◌, ◌++◌, map, take, drop, slice_index, slice_set, set, Option, Some, None, refl, sym, ap, subst, ◌∙◌, append-nil, eq-eqb, eqb-true, arith}
use Rattle.std.specs.List.{range_with_len}
use Rattle.std.proofs.lemmas.List.{set-get_or}
use mathlib.Core.Option.{some}
use lib.ListN.{get_elem?}
use Rattle.atomic_table.specs.Table.{State, Step, Me, Act, keeps, Valid, Allows, Splits, Joins, opening, stepped, carried_after}
use Rattle.atomic_table.proofs.Lists.{at_set, at_snoc, set_else}
use Rattle.spin_seated.specs.declared.history.Entry.{Entry}
use Rattle.spin_seated.specs.declared.history.Known.{Known}
use Rattle.spin_seated.specs.Histories.{PlainObject, entry, newcomer, names, total, One, state, IsLegal, Made, Met, Fits, AllFit, OneHistory, all_passes, IsTracked, Turned, Tells, Shows, IsOwedAt, OwesAlways}
use Rattle.spin_seated.proofs.Totals.{total-append, total-set, at_most}
use Rattle.spin_seated.proofs.Histories.{begins_here, begins_longer, calls_by-append, calls_by-own, calls_by-other, after-append, legal-append, still}

module _ {K C A : Type 0} where
  -- the same pass, which now knows this history
  abbrev pub knowing : Known K C A → List (Entry C A) → Known K C A
  knowing x log = record x { seen = log }

  names-self : (x : Known K C A) → names x.pass (x ∷ []) ≡ 1
  names-self x = let e = ap {B = ℕ} (λ (b : Bool). cond b 1 0) (eq-eqb x.pass x.pass refl) in omega arith

  not_named : (x : Known K C A) (xs : List (Known K C A)) (p : ℕ) → names p (x ∷ xs) ≡ 0 → (p ≢ x.pass) × (names p xs ≡ 0)
  not_named x xs p zero_times = ((λ same. let e = ap {B = ℕ} (λ (b : Bool). cond b 1 0) (eq-eqb x.pass p (sym same)) in omega arith), omega arith)

  names-cut : (p : ℕ) (v : List (Known K C A)) → names p (drop 1 v) + names p (take 1 v) ≡ names p v
  names-cut p v = grind arith

module _ {K S C A H : Type 0} (m : PlainObject K S C A H) where
  -- The history of all calls, and what each seat knows, when one call is added.
  module _ (k : K) (log : List (Entry C A)) where
    stays : (x : Known K C A) (p : ℕ) (c : C) (a : A) → p ≢ x.pass → Fits m k log x → Fits m k (log ++ entry p c a ∷ []) x
    stays x p c a apart fits = grind (arith, begins_longer, calls_by-append, calls_by-other, append-nil)

    all_stay : (p : ℕ) (c : C) (a : A) (v : List (Known K C A)) → names p v ≡ 0 → AllFit m k log v → AllFit m k (log ++ entry p c a ∷ []) v
    all_stay p c a [] absent fits = tt
    all_stay p c a (x ∷ xs) absent fits = let apart = not_named x xs p absent in (stays x p c a apart.0 fits.0, all_stay p c a xs apart.1 fits.1)

    knows : (x : Known K C A) → Fits m k log x → Fits m k log (knowing x log)
    knows x fits = record { opening = fits.opening; given = fits.given; begins = begins_here log; own = refl }

    meets : (x : Known K C A) → x.opening ≡ k → IsLegal m k log → Fits m k log x → Met m x log (knowing x log)
    meets x is legal fits = grind arith

    fit-append : (v w : List (Known K C A)) → AllFit m k log v → AllFit m k log w → AllFit m k log (v ++ w)
    fit-append [] w fv fw = fw
    fit-append (x ∷ xs) w fv fw = (fv.0, fit-append xs w fv.1 fw)

    fit-cut : (v : List (Known K C A)) → AllFit m k log v → AllFit m k log (drop 1 v) × AllFit m k log (take 1 v)
    fit-cut v fits = grind arith

  -- The rule after a step that leaves other words, and another view in one seat.
  module _ {X : Type 0} (k : K) (s : State X (List (Known K C A))) (kept : OneHistory m k s) (log : List (Entry C A)) (words : List ℕ) (id : ℕ) (v w : List (Known K C A)) (at : get_elem? s.views id ≡ some v) where
    sets : words ≡ m.words (state m k log) → IsLegal m k log → ((j : ℕ) (u : List (Known K C A)) → j ≢ id → get_elem? s.views j ≡ some u → AllFit m k log u) → AllFit m k log w → ((p : ℕ) → names p w ≡ names p v)
        → OneHistory m k (record { words = words; homes = s.homes; views = slice_set s.views id w })
    sets now legal others own same =
        record {
          log = log;
          words = now;
          legal = legal;
          fit = λ j u there. ⊎_elim (λ h. subst (AllFit m k log) h.1 own) (λ h. others j u h.0 h.1) (at_set s.views id j w u there);
          once = λ p. omega (arith, total-set (names p) s.views id v w at, same p, kept.once p);
        }

  -- A step of a seat with one pass, while the rule holds.
  module _ {X : Type 0} (x : Known K C A) (id i : ℕ) (f : ℕ → ℕ) (s : State X (List (Known K C A))) (kept : OneHistory m x.opening s) (at : get_elem? s.views id ≡ some (x ∷ [])) where
    own_fits : Fits m x.opening kept.log x
    own_fits = (kept.fit id (x ∷ []) at).0

    abbrev now : S
    now = state m x.opening kept.log

    abbrev written : List ℕ
    written = slice_set (m.words now) i (f (slice_index (m.words now) i))

    abbrev moved : List (Known K C A) → State X (List (Known K C A))
    moved w = record { words = written; homes = s.homes; views = slice_set s.views id w }

    idles : written ≡ m.words now → OneHistory m x.opening (moved (x ∷ []))
    idles same = sets x.opening s kept kept.log written id (x ∷ []) (x ∷ []) at same kept.legal (λ j u apart. kept.fit j u) (kept.fit id (x ∷ []) at) (λ p. refl)

    module _ (c : C) (a : A) (may : m.may x.pass c now ≡ true) (words : written ≡ m.words (m.next x.pass c now)) (answer : a ≡ m.answer x.pass c now) where
      abbrev longer : List (Entry C A)
      longer = kept.log ++ entry x.pass c a ∷ []

      grown : IsLegal m x.opening longer
      grown = legal-append m (m.passes x.opening) (m.start x.opening) kept.log (entry x.pass c a ∷ []) kept.legal (own_fits.given, may, answer, tt)

      others : (j : ℕ) (v : List (Known K C A)) → j ≢ id → get_elem? s.views j ≡ some v → AllFit m x.opening longer v
      others j v apart there =
          let none = at_most (names x.pass) (set s.views id []) j v (set_else s.views id j [] apart ∙ there) in
          all_stay x.opening kept.log x.pass c a v (omega (arith, none, total-set (names x.pass) s.views id (x ∷ []) [] at, names-self x, kept.once x.pass)) (kept.fit j v there)

      makes : OneHistory m x.opening (moved (knowing x longer ∷ []))
      makes = sets x.opening s kept longer written id (x ∷ []) (knowing x longer ∷ []) at (words ∙ ap m.words (sym (after-append m (m.start x.opening) kept.log (entry x.pass c a ∷ [])))) grown others
          (record { opening = refl; given = own_fits.given; begins = begins_here longer; own = refl }, tt) (λ p. refl)

      made : Made m x c a (knowing x longer)
      made = grind (arith, own_fits, calls_by-append, calls_by-own, grown)

    -- the result of the step on these words
    abbrev Steps : List ℕ → Option (C × A) → Type 0
    Steps words t =
        (w : List (Known K C A)) × (act : Act X) × Valid s.homes [] act × OneHistory m x.opening (stepped (record s { words = words }) i (f (slice_index words i)) id [] w act)
        × (One (λ y. Turned m t x y) w × (carried_after [] act ≡ []))

    steps : (t : Option (C × A)) → IsOwedAt m x.pass i f now t → Steps (m.words now) t
    steps None owed = (x ∷ [], keeps, tt, idles owed, (refl, refl))
    steps (Some t) owed =
        (knowing x (longer t.0 t.1 owed.0 owed.1 owed.2) ∷ [], keeps, tt, makes t.0 t.1 owed.0 owed.1 owed.2, (made t.0 t.1 owed.0 owed.1 owed.2, refl))

    steps_here : IsTracked m → (told : ℕ → Option (C × A)) → OwesAlways m x i f told → slice_index s.words i < 18446744073709551616 → Steps s.words (told (slice_index s.words i))
    steps_here tracked told owes small =
        subst (λ (words : List ℕ). Steps words (told (slice_index words i))) (sym kept.words)
        (steps (told (slice_index (m.words now) i)) (owes kept.log kept.legal (still m tracked x kept.log own_fits.begins own_fits.own) (subst (λ (words : List ℕ). slice_index words i < 18446744073709551616) kept.words small)))

  -- a step of a pass keeps the rule, if the lock shows what `OwesAlways` asks of that step
  pub allows : {X : Type 0} → IsTracked m → (k : K) (slots id : ℕ) (me : Me X (List (Known K C A))) (x : Known K C A) (i : ℕ) (f : ℕ → ℕ) (st : Step X) (told : ℕ → ℕ → Option (C × A))
      → me ≡ (x ∷ [], []) → x.opening ≡ k → OwesAlways m x i f (told st.first) → Allows (OneHistory m k) slots id me i f (Tells m told st me)
  allows {X} tracked k slots id me x i f st told is opening owes =
      subst (λ (o : K). Allows (OneHistory m o) slots id me i f (Tells m told st me)) opening
      (subst (λ (u : Me X (List (Known K C A))). Allows (OneHistory m x.opening) slots id u i f (Tells m told st u)) (sym is)
      (λ s kept size at small. steps_here x id i f s kept at tracked (told st.first) owes small))

  -- a load by a seat of two passes keeps the rule; both then know the history of all calls
  pub shows : {X : Type 0} (k : K) (slots id : ℕ) (me : Me X (List (Known K C A))) (x y : Known K C A) (i : ℕ) (st : Step X)
      → me ≡ (x ∷ y ∷ [], []) → x.opening ≡ k → y.opening ≡ k → Allows (OneHistory m k) slots id me i (λ n. n) (Shows m st me)
  shows {X} k slots id me x y i st is of_x of_y =
      subst (λ (u : Me X (List (Known K C A))). Allows (OneHistory m k) slots id u i (λ n. n) (Shows m st u)) (sym is)
      (λ s kept size at small.
      let fits = kept.fit id (x ∷ y ∷ []) at in
      let w : List (Known K C A) = knowing x kept.log ∷ knowing y kept.log ∷ [] in (
        w,
        keeps,
        tt,
        sets k s kept kept.log _ id (x ∷ y ∷ []) w at (set-get_or s.words i 0 ∙ kept.words) kept.legal (λ j u apart. kept.fit j u) (knows k kept.log x fits.0, (knows k kept.log y fits.1.0, tt)) (λ p. refl),
        ((kept.log, meets k kept.log x of_x kept.legal fits.0, meets k kept.log y of_y kept.legal fits.1.0), refl),
      ))

  -- the rule holds when the first pass of a seat moves to a seat of its own
  pub splits : {X : Type 0} (k : K) (id : ℕ) (v : List (Known K C A)) → Splits {S = X} (OneHistory m k) id v (drop 1 v) (take 1 v)
  splits k id v s kept at =
      record {
        log = kept.log;
        words = kept.words;
        legal = kept.legal;
        fit = grind (arith, fit-cut k kept.log v (kept.fit id v at), kept.fit, at_set, at_snoc);
        once = λ p. omega (arith, total-set (names p) s.views id v (drop 1 v) at, total-append (names p) (set s.views id (drop 1 v)) (take 1 v ∷ []), names-cut p v, kept.once p);
      }

  -- the rule holds when one seat gets the passes of another
  pub joins : {X : Type 0} (k : K) (id : ℕ) (v : List (Known K C A)) (other : ℕ) (w : List (Known K C A)) → Joins {S = X} (OneHistory m k) id v other w (w ++ v) []
  joins k id v other w s kept at apart there =
      record {
        log = kept.log;
        words = kept.words;
        legal = kept.legal;
        fit = grind (arith, fit-append k kept.log w v (kept.fit other w (sym (set_else s.views id other (w ++ v) apart) ∙ there)) (kept.fit id v at), kept.fit, at_set);
        once = λ p. omega (arith, total-set (names p) s.views id v (w ++ v) at, total-set (names p) (set s.views id (w ++ v)) other w [] there, total-append (λ (x : Known K C A). cond {A = ℕ} (x.pass == p) 1 0) w v, kept.once p);
      }

  fit-newcomers : (k : K) (a n : ℕ) → a + n ≤ m.passes k → AllFit m k [] (map (newcomer k) (range_with_len a n))
  fit-newcomers k a zero room = tt
  fit-newcomers k a (suc n) room = (record { opening = refl; given = omega arith; begins = begins_here []; own = refl }, fit-newcomers k (a + 1) n (omega arith))

  -- in a list of passes numbered from a on, each pass occurs at most once, and none below a
  abbrev NamedOnce : ℕ → ℕ → ℕ → Type 0
  NamedOnce p a times = (times ≤ 1) × (p < a → times ≡ 0)

  named : (p a rest : ℕ) (b : Bool) → (a == p) ≡ b → NamedOnce p (a + 1) rest → NamedOnce p a (cond b 1 0 + rest)
  named p a rest b same once = grind (arith, eqb-true)

  names-newcomers : (k : K) (p a n : ℕ) → NamedOnce p a (names p (map (newcomer {C = C} {A = A} k) (range_with_len a n)))
  names-newcomers k p a zero = (omega arith, (λ h. refl))
  names-newcomers k p a (suc n) = named p a (names p (map (newcomer {C = C} {A = A} k) (range_with_len (a + 1) n))) (a == p) refl (names-newcomers k p (a + 1) n)

  -- the rule holds of the table as it opens
  pub opens : {X : Type 0} (k : K) (words : List ℕ) → words ≡ m.words (m.start k) → OneHistory m {X = X} k (opening words [] (all_passes m k))
  opens k words is = grind (arith, names-newcomers, some, fit-newcomers)

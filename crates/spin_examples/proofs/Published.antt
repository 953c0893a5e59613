-- What each pass read and wrote, as its calls say, and what follows in one history of all calls.
use Rattle.std.proofs.Common.{◌≡◌, ℕ, ◌<◌, ◌≢◌, ◌==◌, Bool, false, if◌then◌else◌, List, [], ◌∷◌, ◌++◌, refl, sym, ap, subst, ◌∙◌, eq-eqb, arith}
use Rattle.std.proofs.lemmas.Grind.{flat_map-append}
use Rattle.std.specs.Option.{option_to_list}
use Rattle.std.proofs.lemmas.Bool.{false≢true}
use Rattle.spin_seated.specs.declared.history.Entry.{Entry}
use Rattle.spin_seated.specs.declared.lock.Opening.{Opening}
use Rattle.spin_seated.specs.declared.lock.Answer.{Answer}
use Rattle.spin_seated.specs.declared.rwlock.Call.{Call}
use Rattle.spin_seated.specs.Histories.{calls_by, own_calls, IsLegalFrom, IsLegal, Met}
use Rattle.spin_seated.specs.Locked.{Locked, InOrderOf, done, looks, goes_on}
use Rattle.spin_seated.specs.Rw.{rw, after_call, written}
use Rattle.spin_seated.specs.RwLawful.{History, values_written, values_read}
use Rattle.spin_seated.specs.Passes.{KnownOf}
use Rattle.spin_seated.proofs.Histories.{calls_by-append}

values_written-append : (xs ys : History) → values_written (xs ++ ys) ≡ values_written xs ++ values_written ys
values_written-append xs ys = flat_map-append (λ (e : Entry Call Answer). option_to_list (written e.call)) xs ys

-- If only one pass writes, all that is written is that pass's own.
none_after : (xs ys : List ℕ) → xs ++ ys ≡ [] → (xs ≡ []) × (ys ≡ [])
none_after [] ys none = (refl, none)
none_after (x ∷ xs) ys none = absurd (cc none)

silent_after : (e : Entry Call Answer) (es : History) (b : Bool) → values_written (if b then e ∷ es else es) ≡ [] → values_written es ≡ []
silent_after e es b silent = grind (arith, none_after, written)

silent_now : (e : Entry Call Answer) (es : History) → values_written (calls_by e.pass (e ∷ es)) ≡ [] → option_to_list (written e.call) ≡ []
silent_now e es silent = grind (arith, none_after, written, eq-eqb)

one_more : (p : ℕ) (e : Entry Call Answer) (es : History) (b : Bool) → (b ≡ false → option_to_list (written e.call) ≡ []) → values_written es ≡ values_written (calls_by p es)
    → values_written (e ∷ es) ≡ values_written (if b then e ∷ calls_by p es else calls_by p es)
one_more p e es b silent rest = grind (arith, written)

one_writes : (n p : ℕ) (s : Locked) (log : History) → IsLegalFrom rw n s log → ((q : ℕ) → q < n → q ≢ p → values_written (calls_by q log) ≡ []) → values_written log ≡ values_written (calls_by p log)
one_writes n p s [] legal silent = refl
one_writes n p s (e ∷ es) legal silent =
    one_more p e es (e.pass == p)
    (λ other. silent_now e es (silent e.pass legal.0 (λ same. false≢true (sym other ∙ eq-eqb e.pass p same))))
    (one_writes n p (after_call e.pass e.call s) es legal.3 (λ q below apart. silent_after e (calls_by q es) (e.pass == q) (silent q below apart)))

-- if `seen` is in the order of some values, it is also in the order of these and further ones
longer : (values more seen : List ℕ) → InOrderOf values seen → InOrderOf (values ++ more) seen
longer _ more _ done = done
longer _ more _ (looks rest) = looks (longer _ more _ rest)
longer _ more _ (goes_on rest) = goes_on (longer _ more _ rest)

others : (log : History) → values_written (calls_by 1 log) ≡ [] → values_written (calls_by 2 log) ≡ [] → (q : ℕ) → q < 3 → q ≢ 0 → values_written (calls_by q log) ≡ []
others log one two q below apart = grind arith

-- Two readers meet, and then the writer meets one of them.
module _ (k : Opening) (w x y met_x met_y met_w met_z : KnownOf Call) (three : k.passes ≡ 3) (of_x : x.opening ≡ k) (number_w : w.pass ≡ 0) (number_x : x.pass ≡ 1) (number_y : y.pass ≡ 2)
    (silent_x : values_written (own_calls x) ≡ []) (silent_y : values_written (own_calls y) ≡ [])
    (first : Met rw x met_x.seen met_x) (second : Met rw y met_x.seen met_y) (third : Met rw w met_w.seen met_w) (fourth : Met rw met_x met_w.seen met_z) where
  own : (p : ℕ) (z : KnownOf Call) (log : History) → z.pass ≡ p → calls_by z.pass log ≡ own_calls z → calls_by p log ≡ own_calls z
  own p z log number same = ap (λ (q : ℕ). calls_by q log) (sym number) ∙ same

  abbrev before : History
  before = met_x.seen

  legal : IsLegal rw k before
  legal = subst (λ (o : Opening). IsLegal rw o before) of_x first.legal

  silent : (p : ℕ) (z : KnownOf Call) → calls_by p before ≡ own_calls z → values_written (own_calls z) ≡ [] → values_written (calls_by p before) ≡ []
  silent p z same none = ap values_written same ∙ none

  mine : values_written before ≡ values_written (calls_by 0 before)
  mine = grind (arith, one_writes, before, legal, others, silent, own)

  whole : values_written (own_calls w) ≡ values_written before ++ values_written (calls_by 0 fourth.begins.rest)
  whole = grind (arith, own, calls_by-append, before, values_written-append, mine)

  seen_by : (p : ℕ) (z : KnownOf Call) → calls_by p before ≡ own_calls z → InOrderOf (k.value ∷ values_written before) (values_read (calls_by p before)) → InOrderOf (k.value ∷ values_written (own_calls w)) (values_read (own_calls z))
  seen_by p z same ordered =
      subst (λ (l : List ℕ). InOrderOf (k.value ∷ l) (values_read (own_calls z))) (sym whole)
      (longer (k.value ∷ values_written before) (values_written (calls_by 0 fourth.begins.rest)) (values_read (own_calls z))
      (subst (λ (l : History). InOrderOf (k.value ∷ values_written before) (values_read l)) same ordered))

  pub compared : ((o : Opening) (log : History) (p : ℕ) → IsLegal rw o log → InOrderOf (o.value ∷ values_written log) (values_read (calls_by p log)))
      → InOrderOf (k.value ∷ values_written (own_calls w)) (values_read (own_calls x)) × InOrderOf (k.value ∷ values_written (own_calls w)) (values_read (own_calls y))
  compared law = (seen_by 1 x (own 1 x before number_x first.own) (law k before 1 legal), seen_by 2 y (own 2 y before number_y second.own) (law k before 2 legal))

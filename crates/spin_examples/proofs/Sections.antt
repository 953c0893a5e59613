-- Passes that add: the value is the opening value plus the number of writes.
use Rattle.std.proofs.Common.{◌≡◌, ℕ, zero, suc, ◌+◌, ◌<◌, ◌≢◌, ◌==◌, Bool, true, false, if◌then◌else◌, List, [], ◌∷◌, ◌++◌, Option, Some, None, option_and_then, append_assoc, refl, sym, ap, subst, ◌∙◌, eqb-true, eq-eqb, arith}
use Rattle.std.proofs.lemmas.Bool.{false≢true}
use Rattle.spin_step.specs.Plain.{Holder, writing, is_holder, is_empty}
use Rattle.spin_seated.specs.declared.history.Entry.{Entry}
use Rattle.spin_seated.specs.declared.lock.Opening.{Opening}
use Rattle.spin_seated.specs.declared.mutex.Call.{Call}
use Rattle.spin_seated.specs.declared.mutex.Call.TheVariants.{TryLock, Read, Write, Unlock}
use Rattle.spin_seated.specs.declared.lock.Answer.{Answer}
use Rattle.spin_seated.specs.declared.lock.Answer.TheVariants.{Truth, Value}
use Rattle.spin_seated.specs.Histories.{BeginsWith, entry, calls_by, own_calls, after, state, IsLegalFrom, IsLegal, Made, Met}
use Rattle.spin_seated.specs.Locked.{Locked}
use Rattle.spin_seated.specs.Mutex.{may_call, plain_answer, after_call, mutex}
use Rattle.spin_examples.specs.Sections.{Section, away, entered, has_read, has_written, next_section, section_from, section_of, counts_write, writes_in}
use Rattle.spin_seated.proofs.Totals.{total-append}
use Rattle.spin_seated.proofs.Holders.{Alone, alone_is, alone_after, alone_state, freed, tried, truth_is, is_held_by, steady, value_tried}
use Rattle.spin_seated.specs.Passes.{KnownOf}
use Rattle.spin_seated.proofs.Histories.{made_at, none_between}

-- how far a pass is after one more call
then_one : (o : Option Section) (w : Section) → o ≡ Some w → option_and_then (λ u. section_from u []) o ≡ Some w
then_one o w is = grind arith

then_more : (o : Option Section) (xs ys : List (Entry Call Answer)) (u w : Section) → option_and_then (λ v. section_from v xs) o ≡ Some u
    → ((v : Section) → section_from v xs ≡ Some u → section_from v ys ≡ Some w) → option_and_then (λ v. section_from v ys) o ≡ Some w
then_more o xs ys u w is more = grind arith

section-append : (t u w : Section) (xs : List (Entry Call Answer)) (e : Entry Call Answer) → section_from t xs ≡ Some u → next_section u e.call e.answer ≡ Some w → section_from t (xs ++ e ∷ []) ≡ Some w
section-append t u w [] e at next = let same : t ≡ u = cc at in then_one (next_section t e.call e.answer) w (ap (λ (v : Section). next_section v e.call e.answer) same ∙ next)
section-append t u w (x ∷ xs) e at next = then_more (next_section t x.call x.answer) xs (xs ++ e ∷ []) u w at (λ v is. section-append v u w xs e is next)

module _ (x : KnownOf Call) (c : Call) (a : Answer) (y : KnownOf Call) (made : Made mutex x c a y) where
  own_grows : own_calls y ≡ own_calls x ++ entry x.pass c a ∷ []
  own_grows = ap (λ (p : ℕ). calls_by p y.seen) made.pass ∙ made.own

  pub section_continues : (u w : Section) → section_of x ≡ Some u → next_section u c a ≡ Some w → section_of y ≡ Some w
  section_continues u w at next = ap (section_from away) own_grows ∙ section-append away u w (own_calls x) (entry x.pass c a) at next

  pub writes_grow : writes_in (own_calls y) ≡ writes_in (own_calls x) + counts_write c
  writes_grow = let e = ap writes_in own_grows in let t = total-append (λ (e : Entry Call Answer). counts_write e.call) (own_calls x) (entry x.pass c a ∷ []) in omega arith

-- what holds of the lock while a pass is this far in its section
abbrev pub Matches : ℕ → Section → Locked → Type 0
Matches p away s = is_held_by p s ≡ false
Matches p entered s = is_held_by p s ≡ true
Matches p (has_read v) s = (is_held_by p s ≡ true) × (s.value ≡ v)
Matches p has_written s = is_held_by p s ≡ true

-- One call: how it changes the value, and each pass's section.
module _ (n : ℕ) (s : Locked) (alone : Alone n s.lock.holders) where
  only_one : (p q : ℕ) → is_held_by p s ≡ true → is_held_by q s ≡ true → q ≡ p
  only_one p q held too = grind (arith, alone_is)

  -- only the holder writes; so a call of another pass does not change the value while q holds
  value_stays : (p q : ℕ) (c : Call) → may_call p c s ≡ true → q ≢ p → is_held_by q s ≡ true → (after_call p c s).value ≡ s.value
  value_stays p q c may apart held = grind (arith, value_tried, only_one)

  others_match : (p q : ℕ) (c : Call) (t : Section) → may_call p c s ≡ true → q ≢ p → Matches q t s → Matches q t (after_call p c s)
  others_match p q c t may apart m = grind (arith, steady, value_stays)

  module _ (p : ℕ) where
    abbrev Leads : Call → Section → Type 0
    Leads c u = Matches p u (after_call p c s) × ((after_call p c s).value ≡ s.value + counts_write c)

    goes_to : (c : Call) (t u : Section) → Some t ≡ Some u → Leads c t → Leads c u
    goes_to c t u is leads = let same : t ≡ u = cc is in subst (Leads c) same leads

    wrote : (v w : ℕ) (u : Section) (b : Bool) → (w == v + 1) ≡ b → (if b then Some has_written else None) ≡ Some u → Matches p (has_read v) s → Leads (Write w) u
    wrote v w u b same is m = grind (arith, goes_to, eqb-true)

    let_go : (u : Section) → may_call p Unlock s ≡ true → Some away ≡ Some u → Leads Unlock u
    let_go u may is = goes_to Unlock away u is (ap (is_holder p writing) (freed n p s.lock.holders alone may), omega arith)

    own_goes : (t : Section) (c : Call) (a : Answer) (u : Section) → may_call p c s ≡ true → a ≡ plain_answer p c s → Matches p t s → next_section t c a ≡ Some u → Leads c u
    own_goes t c a u may is m next = grind (arith, goes_to, tried, value_tried, wrote, let_go)

-- Over a whole history: the value counts the writes, and each pass is as far in its section as its own calls say.
abbrev or_away : Option Section → Section
or_away None = away
or_away (Some t) = t

first_goes : (o : Option Section) (es : List (Entry Call Answer)) (t : Section) → option_and_then (λ u. section_from u es) o ≡ Some t → (o ≡ Some (or_away o)) × (section_from (or_away o) es ≡ Some t)
first_goes o es t is = grind arith

-- how far the pass q is after a call of the pass p
abbrev section_next : ℕ → Call → Answer → ℕ → Section → Section
section_next p c a q t = if p == q then or_away (next_section t c a) else t

passes_on : (p : ℕ) (c : Call) (a : Answer) (q : ℕ) (t w : Section) (es : List (Entry Call Answer)) (b : Bool)
    → section_from t (if b then entry p c a ∷ es else es) ≡ Some w → section_from (if b then or_away (next_section t c a) else t) es ≡ Some w
passes_on p c a q t w es b is = grind (arith, first_goes)

abbrev Ends : ℕ → (ℕ → Section) → (ℕ → Section) → List (Entry Call Answer) → Type 0
Ends n begin end log = (q : ℕ) → q < n → section_from (begin q) (calls_by q log) ≡ Some (end q)

abbrev AllMatch : ℕ → (ℕ → Section) → Locked → Type 0
AllMatch n section s = (q : ℕ) → q < n → Matches q (section q) s

-- One call, for all passes.
module _ (n : ℕ) (s : Locked) (alone : Alone n s.lock.holders) (begin end : ℕ → Section) (e : Entry Call Answer) (es : List (Entry Call Answer))
    (given : e.pass < n) (may : may_call e.pass e.call s ≡ true) (is : e.answer ≡ plain_answer e.pass e.call s) (ends : Ends n begin end (e ∷ es)) (match : AllMatch n begin s) where
  abbrev here : Section
  here = or_away (next_section (begin e.pass) e.call e.answer)

  own_next : next_section (begin e.pass) e.call e.answer ≡ Some here
  own_next = grind (arith, first_goes, eq-eqb)

  own_step : Matches e.pass here (after_call e.pass e.call s) × ((after_call e.pass e.call s).value ≡ s.value + counts_write e.call)
  own_step = own_goes n s alone e.pass (begin e.pass) e.call e.answer here may is (match e.pass given) own_next

  match_at : (q : ℕ) (b : Bool) → q < n → (e.pass == q) ≡ b → Matches q (if b then or_away (next_section (begin q) e.call e.answer) else begin q) (after_call e.pass e.call s)
  match_at q b below same = grind (arith, eqb-true, own_step, others_match, false≢true, eq-eqb)

  abbrev begin_next : ℕ → Section
  begin_next q = section_next e.pass e.call e.answer q (begin q)

  match_next : AllMatch n begin_next (after_call e.pass e.call s)
  match_next q below = match_at q (e.pass == q) below refl

  ends_next : Ends n begin_next end es
  ends_next q below = passes_on e.pass e.call e.answer q (begin q) (end q) (calls_by q es) (e.pass == q) (ends q below)

pub counts : (n : ℕ) (s : Locked) (begin end : ℕ → Section) (log : List (Entry Call Answer)) → Alone n s.lock.holders → IsLegalFrom mutex n s log → Ends n begin end log → AllMatch n begin s
    → ((after mutex s log).value ≡ s.value + writes_in log) × AllMatch n end (after mutex s log)
counts n s begin end [] alone legal ends match = (omega arith, (λ q below. let same : begin q ≡ end q = cc (ends q below) in subst (λ (t : Section). Matches q t s) same (match q below)))
counts n s begin end (e ∷ es) alone legal ends match = grind (arith, own_step, counts n (after_call e.pass e.call s) (begin_next n s alone begin end e es legal.0 legal.1 legal.2 ends match) end es (alone_after n e.pass e.call s legal.0 legal.1 alone) legal.3 (ends_next n s alone begin end e es legal.0 legal.1 legal.2 ends match) (match_next n s alone begin end e es legal.0 legal.1 legal.2 ends match))

-- each call is one of the first pass or of the second
two_parts : (e : Entry Call Answer) (w x y : ℕ) (b d : Bool) → e.pass < 2 → (e.pass == 0) ≡ b → (e.pass == 1) ≡ d → (xs ys : List (Entry Call Answer)) → x ≡ writes_in xs → y ≡ writes_in ys → w ≡ x + y
    → counts_write e.call + w ≡ writes_in (if b then e ∷ xs else xs) + writes_in (if d then e ∷ ys else ys)
two_parts e w x y b d below zero_is one_is xs ys ex ey sum = grind (arith, eqb-true, false≢true, eq-eqb)

writes_of_two : (s : Locked) (log : List (Entry Call Answer)) → IsLegalFrom mutex 2 s log → writes_in log ≡ writes_in (calls_by 0 log) + writes_in (calls_by 1 log)
writes_of_two s [] legal = refl
writes_of_two s (e ∷ es) legal = grind (arith, two_parts e (writes_in es) (writes_in (calls_by 0 es)) (writes_in (calls_by 1 es)) (e.pass == 0) (e.pass == 1) legal.0 refl refl (calls_by 0 es) (calls_by 1 es) refl refl (writes_of_two (after_call e.pass e.call s) es legal.3))

-- two passes add: the first is this far in its section, and the second is outside
abbrev first_at : Section → ℕ → Section
first_at t zero = t
first_at t (suc q) = away

ends_of_two : (t : Section) (log : List (Entry Call Answer)) → section_from away (calls_by 0 log) ≡ Some t → section_from away (calls_by 1 log) ≡ Some away → Ends 2 (λ q. away) (first_at t) log
ends_of_two t log first second = grind arith

pub counts_two : (k : Opening) (log : List (Entry Call Answer)) (t : Section) → k.passes ≡ 2 → IsLegal mutex k log → section_from away (calls_by 0 log) ≡ Some t → section_from away (calls_by 1 log) ≡ Some away
    → ((state mutex k log).value ≡ k.value + (writes_in (calls_by 0 log) + writes_in (calls_by 1 log))) × Matches 0 t (state mutex k log) × Matches 1 away (state mutex k log)
counts_two k log t two legal first second =
    let legal2 : IsLegalFrom mutex 2 (mutex.start k) log = subst (λ (n : ℕ). IsLegalFrom mutex n (mutex.start k) log) two legal in
    let all = counts 2 (mutex.start k) (λ q. away) (first_at t) log tt legal2 (ends_of_two t log first second) (λ q below. refl) in
    let sum = writes_of_two (mutex.start k) log legal2 in let value = all.0 in
    (omega arith, all.1 0 (omega arith), all.1 1 (omega arith))

-- a pass that meets another has made no new calls of its own
own_stays : (x : KnownOf Call) (log : List (Entry Call Answer)) (y : KnownOf Call) → Met mutex x log y → own_calls y ≡ own_calls x
own_stays x log y met = ap (λ (p : ℕ). calls_by p y.seen) met.pass ∙ (ap (calls_by x.pass) met.history ∙ met.own)

nobody : (hs : List Holder) → Alone 2 hs → is_holder 0 writing hs ≡ false → is_holder 1 writing hs ≡ false → hs ≡ []
nobody hs alone first second = grind (arith, false≢true, eq-eqb)

-- Two passes that have added meet. Then the first one, whose number is 0, tries to acquire the lock.
module _ (k : Opening) (a b met_a met_b tried_a : KnownOf Call) (granted : Bool) (two : k.passes ≡ 2) (of_a : a.opening ≡ k) (number_a : a.pass ≡ 0) (number_b : b.pass ≡ 1)
    (turn_a : section_of a ≡ Some away) (turn_b : section_of b ≡ Some away)
    (first : Met mutex a met_a.seen met_a) (second : Met mutex b met_a.seen met_b) (tries : Made mutex met_a TryLock (Truth granted) tried_a) where
  turn_met_a : section_of met_a ≡ Some away
  turn_met_a = ap (section_from away) (own_stays a met_a.seen met_a first) ∙ turn_a

  turn_met_b : section_of met_b ≡ Some away
  turn_met_b = ap (section_from away) (own_stays b met_a.seen met_b second) ∙ turn_b

  opening_met_a : met_a.opening ≡ k
  opening_met_a = first.opening ∙ of_a

  number_met_a : met_a.pass ≡ 0
  number_met_a = first.pass ∙ number_a

  number_met_b : met_b.pass ≡ 1
  number_met_b = second.pass ∙ number_b

  -- the passes meet again, and the history that both then know shows that the try succeeded
  pub is_granted : (end_a end_b : KnownOf Call) → Met mutex tried_a end_a.seen end_a → Met mutex met_b end_a.seen end_b → granted ≡ true
  is_granted end_a end_b third fourth =
      let at = made_at mutex met_a TryLock (Truth granted) tried_a tries in
      let e : Entry Call Answer = entry met_a.pass TryLock (Truth granted) in
      let goes_on : BeginsWith end_a.seen at.before =
      record { rest = e ∷ third.begins.rest; is = third.begins.is ∙ (ap (λ (l : List (Entry Call Answer)). l ++ third.begins.rest) at.history ∙ append_assoc at.before (e ∷ []) third.begins.rest) } in
      let own_b : calls_by met_b.pass at.before ≡ own_calls met_b =
      none_between met_b.pass end_a.seen at.before met_b.seen goes_on (record { rest = at.begins.rest; is = at.begins.is ∙ ap (λ (l : List (Entry Call Answer)). l ++ at.begins.rest) (sym second.history) }) fourth.own in
      let turn_0 : section_from away (calls_by 0 at.before) ≡ Some away = subst (λ (p : ℕ). section_from away (calls_by p at.before) ≡ Some away) number_met_a (ap (section_from away) at.own ∙ turn_met_a) in
      let turn_1 : section_from away (calls_by 1 at.before) ≡ Some away = subst (λ (p : ℕ). section_from away (calls_by p at.before) ≡ Some away) number_met_b (ap (section_from away) own_b ∙ turn_met_b) in
      let legal : IsLegal mutex k at.before = subst (λ (o : Opening). IsLegal mutex o at.before) opening_met_a at.legal in
      let all = counts_two k at.before away two legal turn_0 turn_1 in
      let alone : Alone 2 (state mutex k at.before).lock.holders = subst (λ (n : ℕ). Alone n (state mutex k at.before).lock.holders) two (alone_state k at.before legal) in
      let free : is_empty (state mutex met_a.opening at.before).lock.holders ≡ true =
      ap (λ (o : Opening). is_empty (state mutex o at.before).lock.holders) opening_met_a ∙ ap is_empty (nobody (state mutex k at.before).lock.holders alone all.1 all.2) in
      truth_is granted (is_empty (state mutex met_a.opening at.before).lock.holders) at.answer ∙ free

  -- the first pass reads, and the passes meet again
  pub sums : (v : ℕ) (read_a end_a end_b : KnownOf Call) → granted ≡ true → Made mutex tried_a Read (Value v) read_a → Met mutex read_a end_a.seen end_a → Met mutex met_b end_a.seen end_b
      → v ≡ k.value + (writes_in (own_calls a) + writes_in (own_calls b))
  sums v read_a end_a end_b won reads third fourth =
      let turn_1 : section_of tried_a ≡ Some entered = section_continues met_a TryLock (Truth granted) tried_a tries away entered turn_met_a (ap (λ (g : Bool). next_section away TryLock (Truth g)) won) in
      let turn_2 : section_of read_a ≡ Some (has_read v) = section_continues tried_a Read (Value v) read_a reads entered (has_read v) turn_1 refl in
      let number : read_a.pass ≡ 0 = reads.pass ∙ (tries.pass ∙ number_met_a) in
      let opening : read_a.opening ≡ k = reads.opening ∙ (tries.opening ∙ opening_met_a) in
      let own_a : calls_by 0 end_a.seen ≡ own_calls read_a = ap (λ (p : ℕ). calls_by p end_a.seen) (sym number) ∙ third.own in
      let own_b : calls_by 1 end_a.seen ≡ own_calls met_b = ap (λ (p : ℕ). calls_by p end_a.seen) (sym number_met_b) ∙ fourth.own in
      let all = counts_two k end_a.seen (has_read v) two (subst (λ (o : Opening). IsLegal mutex o end_a.seen) opening third.legal) (ap (section_from away) own_a ∙ turn_2) (ap (section_from away) own_b ∙ turn_met_b) in
      let value = all.0 in let found = all.1.1 in
      let wrote_a = ap writes_in own_a in let wrote_b = ap writes_in own_b in
      let same_a = ap writes_in (own_stays a met_a.seen met_a first) in let same_b = ap writes_in (own_stays b met_a.seen met_b second) in
      let tried_none = writes_grow met_a TryLock (Truth granted) tried_a tries in let read_none = writes_grow tried_a Read (Value v) read_a reads in
      omega arith

-- What follows from a legal history.
use Rattle.std.proofs.Common.{◌≡◌, ℕ, zero, suc, ◌≤◌, true, false, List, [], ◌∷◌, ◌++◌, map, length, Option, Some, None, slice_get, Bool, not, if◌then◌else◌, ◌==◌, refl, sym, ap, subst, ◌∙◌, arith}
use Rattle.std.specs.Option.{unwrap_or, option_to_list}
use Rattle.spin_step.specs.Plain.{Holder, is_empty}
use Rattle.spin_seated.specs.declared.history.Entry.{Entry}
use Rattle.spin_seated.specs.declared.history.Known.{Known}
use Rattle.spin_seated.specs.declared.lock.Opening.{Opening}
use Rattle.spin_seated.specs.declared.mutex.Call.{Call}
use Rattle.spin_seated.specs.declared.mutex.Call.TheVariants.{TryLock, IsLocked, Read}
use Rattle.spin_seated.specs.declared.lock.Answer.{Answer}
use Rattle.spin_seated.specs.declared.lock.Answer.TheVariants.{Truth, Value}
use Rattle.spin_seated.specs.Histories.{PlainObject, BeginsWith, entry, calls_by, after, state, IsLegalFrom, IsLegal, Met}
use Rattle.spin_seated.specs.Locked.{Locked, value_after, all_written, all_read, InOrderOf, done, looks, goes_on}
use Rattle.spin_seated.specs.Mutex.{plain_answer, after_call, mutex}
use Rattle.spin_seated.specs.Lawful.{History, holders_after, written, read_by}
use Rattle.spin_seated.proofs.Histories.{after-append, answered, calls_by-append}
use Rattle.spin_seated.proofs.Holders.{Alone, alone_state, held_by, truth_is, value_tried}

-- For any lock:
module _ {K S C A H : Type 0} (m : PlainObject K S C A H) where
  pub in_order : (log seen : List (Entry C A)) (p : ℕ) → BeginsWith log seen → BeginsWith (calls_by p log) (calls_by p seen)
  in_order log seen p begins = record { rest = calls_by p begins.rest; is = ap (calls_by p) begins.is ∙ calls_by-append p seen begins.rest }

  get-append : (xs ys : List (Entry C A)) (n : ℕ) (e : Entry C A) → slice_get xs n ≡ Some e → slice_get (xs ++ ys) n ≡ Some e
  get-append [] ys n e is = absurd (cc is)
  get-append (x ∷ xs) ys zero e is = is
  get-append (x ∷ xs) ys (suc n) e is = get-append xs ys n e is

  still_there : (log seen : List (Entry C A)) → BeginsWith log seen → (n : ℕ) (e : Entry C A) → slice_get seen n ≡ Some e → slice_get log n ≡ Some e
  still_there log seen begins n e is = ap (λ (l : List (Entry C A)). slice_get l n) begins.is ∙ get-append seen begins.rest n e is

  pub agree : (a b met_a met_b : Known K C A) → Met m a met_a.seen met_a → Met m b met_a.seen met_b
      → (met_b.seen ≡ met_a.seen) × ((n : ℕ) (e : Entry C A) → slice_get a.seen n ≡ Some e → slice_get met_b.seen n ≡ Some e)
      × ((n : ℕ) (e : Entry C A) → slice_get b.seen n ≡ Some e → slice_get met_a.seen n ≡ Some e)
  agree a b met_a met_b first second = grind (arith, still_there)

-- a call that reads the value v and does not write, or one that does not read
abbrev pub ReadsValue : Option ℕ → Option ℕ → ℕ → Type 0
ReadsValue None w v = Unit {0}
ReadsValue (Some x) None v = x ≡ v
ReadsValue (Some x) (Some w) v = ⊥

next : (r w : Option ℕ) (v : ℕ) (more seen : List ℕ) → ReadsValue r w v → InOrderOf (unwrap_or w v ∷ more) seen → InOrderOf (v ∷ (option_to_list w ++ more)) (option_to_list r ++ seen)
next r w v more seen is rest = grind (arith, goes_on, looks)

module _ {C H : Type 0} (m : PlainObject Opening Locked C Answer H) (written : C → Option ℕ) (writes : (p : ℕ) (c : C) (s : Locked) → (m.next p c s).value ≡ unwrap_or (written c) s.value) where
  pub value_is : (s : Locked) (log : List (Entry C Answer)) → (after m s log).value ≡ value_after written s.value log
  value_is s [] = refl
  value_is s (e ∷ es) = value_is (m.next e.pass e.call s) es ∙ ap (λ (v : ℕ). value_after written v es) (writes e.pass e.call s)

  -- the answer of a call that reads the value
  pub read_is : (k : Opening) (before rest : List (Entry C Answer)) (p v : ℕ) (c : C) → ((s : Locked) → m.answer p c s ≡ Value s.value) → IsLegal m k (before ++ entry p c (Value v) ∷ rest)
      → v ≡ value_after written (m.start k).value before
  read_is k before rest p v c reads legal = grind (arith, answered, value_is)

  module _ (read : C → Answer → Option ℕ) (reads : (p : ℕ) (c : C) (s : Locked) → ReadsValue (read c (m.answer p c s)) (written c) s.value) where
    one_call : (e : Entry C Answer) (v : ℕ) (more : List ℕ) (own : List (Entry C Answer)) (b : Bool) → ReadsValue (read e.call e.answer) (written e.call) v
        → InOrderOf (unwrap_or (written e.call) v ∷ more) (all_read read own) → InOrderOf (v ∷ (option_to_list (written e.call) ++ more)) (all_read read (if b then e ∷ own else own))
    one_call e v more own b is rest = grind (arith, next, read, written, all_read)

    pub reads_in_order : (n : ℕ) (s : Locked) (log : List (Entry C Answer)) (p : ℕ) → IsLegalFrom m n s log → InOrderOf (s.value ∷ all_written written log) (all_read read (calls_by p log))
    reads_in_order n s [] p legal = done
    reads_in_order n s (e ∷ es) p legal =
        one_call e s.value (all_written written es) (calls_by p es) (e.pass == p) (subst (λ (a : Answer). ReadsValue (read e.call a) (written e.call) s.value) (sym legal.2) (reads e.pass e.call s))
        (subst (λ (v : ℕ). InOrderOf (v ∷ all_written written es) (all_read read (calls_by p es))) (writes e.pass e.call s) (reads_in_order n (m.next e.pass e.call s) es p legal.3))

-- For the mutex:
one_at_most : (n : ℕ) (hs : List Holder) → Alone n hs → length (map (λ h. h.party) hs) ≤ 1
one_at_most n hs alone = grind arith

pub one_holder : (k : Opening) (log : History) → IsLegal mutex k log → length (holders_after k log) ≤ 1
one_holder k log legal = one_at_most k.passes (state mutex k log).lock.holders (alone_state k log legal)

-- before a try that succeeds nobody holds, and after it the try's pass holds
won : (p : ℕ) (s : Locked) (hs : List Holder) → Truth true ≡ Truth (is_empty hs) → (map (λ h. h.party) hs ≡ []) × (map (λ h. h.party) (after_call p TryLock (held_by s hs)).lock.holders ≡ p ∷ [])
won p s hs is = grind (arith, truth_is)

-- at a try that fails, one pass holds
lost : (n : ℕ) (hs : List Holder) → Alone n hs → Truth false ≡ Truth (is_empty hs) → (q : ℕ) × (map (λ h. h.party) hs ≡ q ∷ [])
lost n [] alone is = absurd (cc (truth_is false true is))
lost n (h ∷ []) alone is = (h.party, refl)
lost n (h ∷ g ∷ hs) alone is = absurd alone

pub granted : (k : Opening) (before rest : History) (p : ℕ) → IsLegal mutex k (before ++ entry p TryLock (Truth true) ∷ rest)
    → (holders_after k before ≡ []) × (holders_after k (before ++ entry p TryLock (Truth true) ∷ []) ≡ p ∷ [])
granted k before rest p legal =
    let s : Locked = state mutex k before in
    let both = won p s s.lock.holders (answered mutex k before rest p TryLock (Truth true) legal).1 in
    (both.0, ap (λ (s : Locked). map (λ h. h.party) s.lock.holders) (after-append mutex (mutex.start k) before (entry p TryLock (Truth true) ∷ [])) ∙ both.1)

pub refused : (k : Opening) (before rest : History) (p : ℕ) → IsLegal mutex k (before ++ entry p TryLock (Truth false) ∷ rest) → (q : ℕ) × (holders_after k before ≡ q ∷ [])
refused k before rest p legal =
    let two = answered mutex k before rest p TryLock (Truth false) legal in lost k.passes (state mutex k before).lock.holders (alone_state k before two.0) two.1

pub written_by : (p : ℕ) (c : Call) (s : Locked) → (after_call p c s).value ≡ unwrap_or (written c) s.value
written_by p c s = grind (arith, value_tried)

pub read : (k : Opening) (before rest : History) (p v : ℕ) → IsLegal mutex k (before ++ entry p Read (Value v) ∷ rest) → v ≡ value_after written k.value before
read k before rest p v = read_is mutex written written_by k before rest p v Read (λ s. refl)

pub read_then : (p : ℕ) (c : Call) (s : Locked) → ReadsValue (read_by c (plain_answer p c s)) (written c) s.value
read_then p c s = grind arith

same_emptiness : (hs : List Holder) → is_empty hs ≡ is_empty (map (λ h. h.party) hs)
same_emptiness hs = grind arith

pub looked : (k : Opening) (before rest : History) (p : ℕ) (held : Bool) → IsLegal mutex k (before ++ entry p IsLocked (Truth held) ∷ rest) → held ≡ not (is_empty (holders_after k before))
looked k before rest p held legal = grind (arith, truth_is held (not (is_empty (state mutex k before).lock.holders)) (answered mutex k before rest p IsLocked (Truth held) legal).1, same_emptiness (state mutex k before).lock.holders)

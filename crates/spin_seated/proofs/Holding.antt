-- What a pass holds, as its own calls tell.
use Rattle.std.proofs.Common.{arith, ◌≡◌, ℕ, ◌==◌, ◌&&◌, ◌||◌, cond, Bool, true, false, if◌then◌else◌, filter, map, List, [], ◌∷◌, ◌++◌, Option, sym, ap, subst, ◌∙◌, append_assoc, append-nil, eqb-true}
use Rattle.std.proofs.Math.Bool.{or-true, or-false}
use Rattle.spin_step.specs.Plain.{Holder, writing, same_kind, is_holder}
use Rattle.spin_seated.specs.declared.history.Entry.{Entry}
use Rattle.spin_seated.specs.declared.lock.Opening.{Opening}
use Rattle.spin_seated.specs.declared.lock.Answer.{Answer}
use Rattle.spin_seated.specs.declared.rwlock.SeatedHold.{SeatedHold}
use Rattle.spin_seated.specs.Histories.{PlainObject, entry, calls_by, state, IsLegal, IsTracked}
use Rattle.spin_seated.specs.Locked.{Locked, hold_after}
use Rattle.spin_seated.specs.Mutex as plain
use Rattle.spin_seated.specs.Mutex.{mutex}
use Rattle.spin_seated.specs.declared.mutex.Call.{Call}
use Rattle.spin_seated.specs.Lawful.{History, holders_after, holds_then, holds_by, MayCall}
use Rattle.spin_seated.specs.Rw as rwlock
use Rattle.spin_seated.specs.Rw.{rw, may_with}
use Rattle.spin_seated.specs.RwLawful as rw_lawful
use Rattle.spin_seated.proofs.Histories.{legal-split, after-append}
use Rattle.spin_seated.proofs.Holders as mutexes
use Rattle.spin_seated.proofs.Holders.{Alone, alone_state}
use Rattle.spin_seated.proofs.RwSteps as readers
use Rattle.spin_seated.proofs.RwSteps.{places, standing}

module _ {C H : Type 0} (m : PlainObject Opening Locked C Answer H) (tracked : IsTracked m) (turn : C → Answer → H → H) (same : (c : C) (a : Answer) (h : H) → m.held_after c a h ≡ turn c a h) where
  one_more : (b : Bool) (e : Entry C Answer) (es : List (Entry C Answer)) (p : ℕ) (old new : H) → (e.pass == p) ≡ b → (b ≡ true → new ≡ turn e.call e.answer old) → (b ≡ false → new ≡ old)
      → hold_after turn new (calls_by p es) ≡ hold_after turn old (if b then e ∷ calls_by p es else calls_by p es)
  one_more b e es p old new is own other = grind arith

  held_on : (k : Opening) (front rest : List (Entry C Answer)) (p : ℕ) → IsLegal m k (front ++ rest) → m.holds p (state m k (front ++ rest)) ≡ hold_after turn (m.holds p (state m k front)) (calls_by p rest)
  held_on k front [] p legal = ap (λ (l : List (Entry C Answer)). m.holds p (state m k l)) (append-nil front)
  held_on k front (e ∷ es) p legal = grind (arith, append_assoc front (e ∷ []) es, after-append m (m.start k) front (e ∷ []), legal-split m (m.passes k) (m.start k) front (e ∷ es) legal, held_on k (front ++ e ∷ []) es p (subst (IsLegal m k) (sym (append_assoc front (e ∷ []) es)) legal), one_more)

  pub held_by_own : (k : Opening) (log : List (Entry C Answer)) (p : ℕ) → IsLegal m k log → m.holds p (state m k log) ≡ hold_after turn (m.holds p (m.start k)) (calls_by p log)
  held_by_own k log p legal = held_on k [] log p legal

  -- if a pass made a call, it held what the call needs
  pub may_by_own : (May : H → Type 0) (k : Opening) (before rest : List (Entry C Answer)) (p : ℕ) (c : C) (a : Answer) → IsLegal m k (before ++ entry p c a ∷ rest)
      → (m.may p c (state m k before) ≡ true → May (m.holds p (state m k before))) → May (hold_after turn (m.holds p (m.start k)) (calls_by p before))
  may_by_own May k before rest p c a legal may = grind (arith, legal-split, held_by_own)

-- For the mutex:

then_is : (c : Call) (a : Answer) (held : Bool) → plain.held_after c a held ≡ holds_then c a held
then_is c a held = grind (arith, or-true, or-false)

pub holds_own : (k : Opening) (log : History) (p : ℕ) → IsLegal mutex k log → is_holder p writing (state mutex k log).lock.holders ≡ holds_by (calls_by p log)
holds_own k log p legal = held_by_own mutex mutexes.tracked holds_then then_is k log p legal

its_place : (b : Bool) (h : Holder) (p : ℕ) → (h.party == p) ≡ b → h.kind ≡ writing → cond b (h.party ∷ []) [] ≡ (if (b && same_kind writing h.kind) || false then p ∷ [] else [])
its_place b h p is kind = grind (arith, eqb-true)

in_place : (n p : ℕ) (hs : List Holder) → Alone n hs → filter (λ q. q == p) (map (λ h. h.party) hs) ≡ (if is_holder p writing hs then p ∷ [] else [])
in_place n p hs alone = grind (arith, its_place)

pub stands_own : (k : Opening) (log : History) (p : ℕ) → IsLegal mutex k log → filter (λ q. q == p) (holders_after k log) ≡ (if holds_by (calls_by p log) then p ∷ [] else [])
stands_own k log p legal = in_place k.passes p (state mutex k log).lock.holders (alone_state k log legal) ∙ ap (λ b. if b then p ∷ [] else []) (holds_own k log p legal)

may_hold : (p : ℕ) (c : Call) (s : Locked) → plain.may_call p c s ≡ true → MayCall c (is_holder p writing s.lock.holders)
may_hold p c s may = grind arith

pub calls_own : (k : Opening) (before rest : History) (p : ℕ) (c : Call) (a : Answer) → IsLegal mutex k (before ++ entry p c a ∷ rest) → MayCall c (holds_by (calls_by p before))
calls_own k before rest p c a legal = may_by_own mutex mutexes.tracked holds_then then_is (MayCall c) k before rest p c a legal (may_hold p c (state mutex k before))

-- For the read-write lock:

rw_then_is : (c : rwlock.Call) (a : Answer) (held : Option SeatedHold) → rwlock.held_after c a held ≡ rw_lawful.holds_then c a held
rw_then_is c a held = grind arith

pub rw_holds_own : (k : Opening) (log : rw_lawful.History) (p : ℕ) → IsLegal rw k log → rw.holds p (state rw k log) ≡ rw_lawful.holds_by (calls_by p log)
rw_holds_own k log p legal = held_by_own rw readers.tracked rw_lawful.holds_then rw_then_is k log p legal

same_place : (p : ℕ) (h : Option SeatedHold) → places p h ≡ rw_lawful.place_of p h
same_place p h = grind arith

pub rw_stands_own : (k : Opening) (log : rw_lawful.History) (p : ℕ) → IsLegal rw k log → filter (λ h. h.party == p) (rw_lawful.holders_after k log) ≡ rw_lawful.place_of p (rw_lawful.holds_by (calls_by p log))
rw_stands_own k log p legal = grind (arith, standing, places, rw_holds_own, same_place)

rw_may_hold : (c : rwlock.Call) (h : Option SeatedHold) → may_with c h ≡ true → rw_lawful.MayCall c h
rw_may_hold c h may = grind arith

pub rw_calls_own : (k : Opening) (before rest : rw_lawful.History) (p : ℕ) (c : rwlock.Call) (a : Answer) → IsLegal rw k (before ++ entry p c a ∷ rest) → rw_lawful.MayCall c (rw_lawful.holds_by (calls_by p before))
rw_calls_own k before rest p c a legal = may_by_own rw readers.tracked rw_lawful.holds_then rw_then_is (rw_lawful.MayCall c) k before rest p c a legal (rw_may_hold c (rw.holds p (state rw k before)))

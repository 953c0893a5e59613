-- What a call does to the plain read-write lock, and what holds after a legal history.
use Rattle.std.proofs.Common.{arith, ◌≡◌, ℕ, ◌≢◌, ◌==◌, Bool, true, if◌then◌else◌, List, [], ◌∷◌, Option, Some, None, filter, refl, sym, ap, subst, ◌∙◌, eq-eqb}
use Rattle.std.specs.Option.{unwrap_or}
use mathlib.Core.Logic.{dite}
use native.Mathlib.Decide.{ℕ_discrete}
use Rattle.spin_step.specs.Plain.{Plain, Holder, holder, Change, releases, turns, is_open, is_holder}
use Rattle.spin_step.specs.Parties.{party_of, IsOpenStep, IsExclusive, Entries, entries, entries_after}
use Rattle.spin_step_more.specs.Readers.{reader_limit}
use Rattle.spin_step.proofs.Holders.{is_holder-from_entries, same_kind-self}
use Rattle.spin_step.proofs.Exclusive.{exclusive-free, exclusive-kept}
use Rattle.spin_step.proofs.InOrder.{cap-kept}
use Rattle.spin_step.proofs.Entries.{entries-other, entries-own}
use Rattle.spin_seated.specs.declared.history.Entry.{Entry}
use Rattle.spin_seated.specs.Histories.{state, IsLegal, IsTracked}
use Rattle.spin_seated.specs.RwLawful.{written}
use Rattle.spin_seated.specs.Rw.{Opening, Locked, Answer, Call, SeatedHold, kind_of, first_hold, hold_in, may_with, asked_change, where_open, after_call, plain_answer, held_after, rw}
use Rattle.spin_seated.proofs.Histories.{always}

-- a step that is made only if it is open is an open step of its party
opens : (c : Change) (s : Plain) (b : Bool) → is_open s c ≡ b → IsOpenStep s (party_of c) (if b then Some c else None)
opens c s b is = grind arith

step_opens : (p : ℕ) (c : Call) (s : Plain) → IsOpenStep s p (where_open s (asked_change p c))
step_opens p c s = grind (arith, opens, releases, turns)

abbrev pub own : ℕ → Locked → List Holder
own p s = filter (λ h. h.party == p) s.lock.holders

-- calls of others do not change what a pass holds
others : (p q : ℕ) (c : Call) (s : Locked) → q ≢ p → own p (after_call q c s) ≡ own p s
others p q c s apart = ap (λ (e : Entries). e.holders) (entries-other s.lock q p (where_open s.lock (asked_change q c)) apart (step_opens q c s.lock))

pub steady : (p q : ℕ) (c : Call) (s : Locked) → q ≢ p → hold_in p (after_call q c s) ≡ hold_in p s
steady p q c s apart = ap first_hold (others p q c s apart)

-- the pass's entries among the holders, if it holds this
abbrev pub places : ℕ → Option SeatedHold → List Holder
places p None = []
places p (Some k) = holder p (kind_of k) ∷ []

held-places : (p : ℕ) (h : Option SeatedHold) → first_hold (places p h) ≡ h
held-places p h = grind arith

-- after each legal history a writer holds alone, each pass is at most one holder, and the cap is `reader_limit`
pub record Standing (s : Locked) : Type 0 where
  pub exclusive : IsExclusive s.lock
  pub cap : s.lock.cap ≡ reader_limit
  pub one_place : (p : ℕ) → own p s ≡ places p (hold_in p s)

module _ (p : ℕ) (s : Locked) where
  -- the pass's entries among the holders, after a step of its own or none
  abbrev places_after : Option Change → List Holder
  places_after step = (entries_after s.lock step (entries p s.lock)).holders

  moved : (c : Call) → own p (after_call p c s) ≡ places_after (where_open s.lock (asked_change p c))
  moved c = ap (λ (e : Entries). e.holders) (entries-own s.lock p (where_open s.lock (asked_change p c)) (step_opens p c s.lock))

  tried : (c : Change) (k : SeatedHold) (b : Bool) → own p s ≡ [] → places_after (Some c) ≡ places p (Some k) → places_after (if b then Some c else None) ≡ places p (if b then Some k else None)
  tried c k b none is = grind arith

  pub there : (k : SeatedHold) → own p s ≡ places p (Some k) → is_holder p (kind_of k) s.lock.holders ≡ true
  there k is = is_holder-from_entries p (kind_of k) s.lock.holders is

  gone : (k : SeatedHold) → own p s ≡ places p (Some k) → places_after (where_open s.lock (Some (releases p (kind_of k)))) ≡ []
  gone k is = grind (arith, releases, there, eq-eqb, same_kind-self)

  own_after : (c : Call) (h : Option SeatedHold) → own p s ≡ places p h → may_with c h ≡ true → own p (after_call p c s) ≡ places p (held_after c (plain_answer p c s) h)
  own_after c h is may = grind (arith, moved, tried, gone, turns, there, eq-eqb)

  placed : (q : ℕ) (t : Locked) (h : Option SeatedHold) → own q t ≡ places q h → own q t ≡ places q (hold_in q t)
  placed q t h is = is ∙ ap (places q) (sym (held-places q h) ∙ ap first_hold (sym is))

  pub standing_after : (c : Call) → may_with c (hold_in p s) ≡ true → Standing s → Standing (after_call p c s)
  standing_after c may st =
      let t : Locked = after_call p c s in
      record {
        exclusive = exclusive-kept s.lock p (where_open s.lock (asked_change p c)) st.exclusive (step_opens p c s.lock);
        cap = cap-kept s.lock (where_open s.lock (asked_change p c)) ∙ st.cap;
        one_place = λ q. dite (ℕ_discrete p q)
            (λ same. subst (λ (r : ℕ). own r t ≡ places r (hold_in r t)) same (placed p t (held_after c (plain_answer p c s) (hold_in p s)) (own_after c (hold_in p s) (st.one_place p) may)))
            (λ apart. placed q t (hold_in q s) (others q p c s apart ∙ st.one_place q));
      }

pub standing : (k : Opening) (log : List (Entry Call Answer)) → IsLegal rw k log → Standing (state rw k log)
standing k log =
    always rw Standing k.passes (λ p c s given may. standing_after p s c may) (rw.start k) log
    (record { exclusive = exclusive-free (rw.start k).lock refl refl; cap = refl; one_place = λ p. refl })

pub tracked : IsTracked rw
tracked = record {
  own = λ k log p c legal may. let s : Locked = state rw k log in ap first_hold (own_after p s c (hold_in p s) ((standing k log legal).one_place p) may) ∙ held-places p (held_after c (plain_answer p c s) (hold_in p s));
  steady = steady;
}

-- only `Write` writes the value
pub writes_by : (p : ℕ) (c : Call) (s : Locked) → (after_call p c s).value ≡ unwrap_or (written c) s.value
writes_by p c s = grind arith

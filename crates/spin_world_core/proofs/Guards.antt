-- What a party finds under one guard does not change.
use Rattle.spin_world_core.proofs.Every.{outcome-seen_at}
use Rattle.spin_world_core.specs.Runs.{Schedule}
use Rattle.spin_world_core.proofs.Names.{seat_of, slice_get_within, ◌≡◌, ℕ, ◌==◌, ◌||◌, Bool, true, false, not, Option, Some, None, List, [], ◌∷◌, ◌++◌, map, slice_get, slice_set, refl, arith, ap, sym, ◌∙◌, list_all, option_map, and_parts, true≢false, slice_get-map, Plain, Change, completes, entries, is_held, Hold, Seat, Calling, Holding, Leaked, Gone, Next, Continue, Answers, Move, Step, Weak, Read, OwnerSet, StepKind, plain, weak, by_step, Mark, Machine, State, moves_at, goes_on, placed, resting, may_read, may_write, yields_to_owner, seen_by_owner, owner_writes, Seen, Scene, scene, scene_at, scene_of, if_completed, reads_value, opening, seen_after, Table}
use Rattle.spin_world_core.specs.Users.{ReadsAgree, ReadsAgreeAcross, is_quiet, is_quiet_move}
use Rattle.spin_step.specs.declared.schedule.Outcome.TheVariants as outcome
use Rattle.spin_world_core.proofs.Lists.{eqb_self, get-set}
use Rattle.spin_world_core.proofs.Steps.{played, Plays}
use Rattle.spin_world_core.proofs.Paid.{at_step}
use Rattle.spin_world_core.proofs.Shapes.{Notes, Knows}
use Rattle.spin_world_core.proofs.Events.{seat_with, of_event}
use Rattle.spin_world_core.proofs.Preserved.{Invariant, in_call, writes_by}
use Rattle.spin_world_core.proofs.Owners.{all-get}
use Rattle.spin_world_core.proofs.Every.{kept}
use Rattle.spin_world_core.proofs.Reached as reached
use Rattle.spin_world_core.proofs.Writers.{one_toucher}
pub use Rattle.spin_world_core.proofs.Schedules.{seen_after-append}

-- what a party found under its guard, and the calls that keep this guard
pub record GuardedRead (C V : Type 0) : Type 0 where
  pub keeps : C → Bool
  pub value : Option V

-- after such a step the party is still in its call, or holds and may read
abbrev pub ReadsOn : {L A : Type 0} → Next L A → Type 0
ReadsOn (Continue l) = Unit {0}
ReadsOn (Answers a None) = ⊥
ReadsOn (Answers a (Some h)) = may_read h ≡ true

-- A party that reads and is in a call that keeps its guard is a reader in the plain lock. It still reads after each step
-- of the call.
pub record KeepsGuard {W V C L A B : Type 0} {t : Table W V C L A} {m : Machine W V C L B} {n : Notes t} (f : Plays m n) (keeps : C → Bool) : Type 0 where
  pub reads : (p : ℕ) (c : C) (l : L) (h : Hold) (s : Plain) (span : List Mark) → keeps c ≡ true → may_read h ≡ true → Knows n c l (Some h) p s span
      → reads_value (entries p s) ≡ true
  pub steps : (c : C) (l : L) (h : Hold) (w : W) (v : Option V) → keeps c ≡ true → may_read h ≡ true → ReadsOn (m.step w v c l (Some h)).next
  pub refuses : (c : C) (l : L) (h : Hold) (next : Next L B) → keeps c ≡ true → may_read h ≡ true → m.refuse c l (Some h) ≡ Some next → ReadsOn next

-- the party is gone, or it has a guard and the value last written is still the one that it found under this guard
abbrev Guard : {V C L : Type 0} → GuardedRead C V → Option V → Option (Seat C L) → Type 0
Guard r w (Some (Calling c l (Some h))) = (r.keeps c ≡ true) × (may_read h ≡ true) × (w ≡ r.value)
Guard r w (Some (Holding h)) = (may_read h ≡ true) × (w ≡ r.value)
Guard r w (Some (Leaked h)) = (may_read h ≡ true) × (w ≡ r.value)
Guard r w (Some (Gone h)) = Unit {0}
Guard r w _ = ⊥

-- the party is a reader in the plain lock, or is gone
abbrev ReaderOrGone : {C L : Type 0} → Plain → ℕ → Option (Seat C L) → Type 0
ReaderOrGone s p o = elim o [ Some (Gone h) ↦ Unit {0} | _ ↦ reads_value (entries p s) ≡ true ]

module _ {V C L : Type 0} (r : GuardedRead C V) (w v : Option V) where
  -- if a party with a guard is no reader in the plain lock, the party is gone
  no_reader : (s : Plain) (p : ℕ) (o : Option (Seat C L)) → ReaderOrGone s p o → (reads_value (entries p s) ≡ true → ⊥) → Guard r w o → Guard r v o
  no_reader s p o reads none guard = grind (arith, none)

  -- a closure completes only while nobody has a guard, so a party's guard stays right
  completed : (s : Plain) (p : ℕ) (o : Option (Seat C L)) (step : Option Change) → ReaderOrGone s p o → ((q : ℕ) → step ≡ Some (completes q) → is_held s ≡ false)
      → Guard r w o → Guard r (if_completed w v step) o
  completed s p o step reads alone guard = grind (arith, no_reader s p o reads, alone)

  -- the owner's use of the value leaves `Guard` true: a leaked party is then gone, and no other party has a guard
  gone_for : (o : Option (Seat C L)) → ((x : Seat C L) → o ≡ Some x → yields_to_owner x ≡ true) → Guard r w o → Guard r v (option_map seen_by_owner o)
  gone_for None away guard = guard
  gone_for (Some x) away guard = grind (arith, away x refl)

module _ {W V C L A B : Type 0} {t : Table W V C L A} {by : Machine W V C L B} {n : Notes t} (f : Plays by n) where
  abbrev m : Machine W V C L B
  m = played t by

  module _ (r : GuardedRead C V) (g : KeepsGuard f r.keeps) where
    -- `Guard` holds of the party p, and q moves
    module _ (seen : Seen W V C L) (p q : ℕ) (good : Invariant f seen) (guard : Guard r seen.written (seat_of seen p)) where
      reads : ReaderOrGone seen.plain p (seat_of seen p)
      reads =
          grind (arith, good.parties p, guard, λ (c : C) (l : L) (h : Hold). g.reads p c l h seen.plain (seen.span p))

      -- `Guard` still holds of p after q moves from the seat y to the seat x; if q is p, x has to keep `Guard`
      sits : (w : Option V) (x y : Seat C L) → seat_of seen q ≡ Some y → (q ≡ p → Guard r w (Some y) → Guard r w (Some x))
          → Guard r w (seat_of seen p) → Guard r w (slice_get (slice_set seen.state.seats q x) p)
      sits w x y there own held =
          get-set (Guard r w) seen.state.seats q p x (slice_get_within seen.state.seats q y there)
          (λ e. own e (rw (← e, there) at held)) (λ ne. held)

      -- `Guard` of the party p after an event
      abbrev After : Scene W V C L B → Type 0
      After sc = Guard r sc.after.written (seat_of sc.after p)

      went : (move : Move C V) (step : Option Change) (step_kind : StepKind) (value v : Option V) (u : W) (c : C) (l : L) (h : Option Hold) (next : Next L B)
          → seat_of seen q ≡ Some (Calling c l h) → ((j : Hold) → h ≡ Some j → r.keeps c ≡ true → may_read j ≡ true → ReadsOn next)
          → Guard r (if_completed seen.written value step) (seat_of seen p)
          → After (scene_of seen q move (Some (Calling c l h)) (goes_on (record seen.state { words = u; value = v }) q c h next) step step_kind value)
      went move step step_kind value v u c l h (Continue i) there on held =
          sits (if_completed seen.written value step) (Calling c i h) (Calling c l h) there (λ e is. is) held
      went move step step_kind value v u c l h (Answers a rest) there on held =
          sits (if_completed seen.written value step) (resting rest) (Calling c l h) there
          (λ e is. grind (arith, on)) held

      let_go_all : Guard r seen.written (slice_get (map seen_by_owner seen.state.seats) p)
      let_go_all = grind (arith, slice_get-map seen_by_owner seen.state.seats p, guard)

      owner_wrote : (v : V) (y : Seat C L) (o : Option V) → list_all yields_to_owner seen.state.seats ≡ true
          → After (scene_of seen q (OwnerSet v) (Some y) (owner_writes seen.state v o) None plain None)
      owner_wrote v y o away =
          let gone = λ (x : Seat C L). all-get yields_to_owner seen.state.seats p x away in
          let held = gone_for r seen.written (Some v) (seat_of seen p) gone guard in
          grind (arith, let_go_all, slice_get-map seen_by_owner seen.state.seats p, held)

      stepped : (c : C) (l : L) (h : Option Hold) → seat_of seen q ≡ Some (Calling c l h) → After (scene_at m seen q Step (Some (Calling c l h)))
      stepped c l h there =
          let st = m.step seen.state.words seen.state.value c l h in
          let step = m.change q seen.state.words c l h in
          went Step step (by_step (m.step_kind c l h)) st.placed (placed st.placed seen.state.value) st.words c l h st.next there
          (λ j e keeps may. rw e (g.steps c l j seen.state.words seen.state.value keeps may))
          (completed r seen.written st.placed seen.plain p (seat_of seen p) step reads
          (at_step f _ (in_call f q good there) good.phase).values.completes_alone guard)

      -- nobody else writes while the party has the guard
      written : (v : V) (b : Bool) (h : Hold) → seat_of seen q ≡ Some (seat_with b h) → may_write h ≡ true → (q ≡ p → ⊥)
          → Guard r (Some v) (seat_of seen p)
      written v b h there may ne = no_reader r seen.written (Some v) seen.plain p (seat_of seen p) reads
          (λ reads. ne (one_toucher seen.plain p q good.exclusive (f.pays.one_list seen.plain good.shape) reads
          (writes_by f q b h good there may))) guard

      guard_kept : (move : Move C V) → (q ≡ p → is_quiet_move r.keeps move ≡ true) → After (scene m seen q move)
      guard_kept move quiet = of_event m seen q (λ sc. (q ≡ p → is_quiet_move r.keeps sc.move ≡ true) → After sc)
          (record {
            passes = λ move o r there closed quiet. guard;
            begins = λ c l h there is quiet. sits seen.written (Calling c l h) (resting h) there (λ e. grind (arith, quiet e)) guard;
            steps = λ c l h there quiet. stepped c l h there;
            refuses =
                λ c l h next there is quiet. went Weak None weak None seen.state.value seen.state.words c l h next there
                (λ j e keeps may. g.refuses c l j next keeps may (ap (m.refuse c l) (sym e) ∙ is)) guard;
            reads = λ b h there may quiet. guard;
            writes = λ v b h there may quiet. written v b h there may (λ e. true≢false (sym (quiet e)));
            leaks = λ h there quiet. sits seen.written (Leaked h) (Holding h) there (λ e is. is) guard;
            gets = λ y there may quiet. let_go_all;
            sets = λ v y there may quiet. owner_wrote v y seen.state.value (and_parts _ _ may).1;
          })
          move quiet

    guard_through : (seen : Seen W V C L) (p : ℕ) (es : Schedule C V) → Invariant f seen → is_quiet r.keeps p es ≡ true
        → Guard r seen.written (seat_of seen p)
        → Guard r (seen_after m seen es).written (seat_of (seen_after m seen es) p)
    guard_through seen p [] good quiet guard = guard
    guard_through seen p (e ∷ es) good quiet guard =
        guard_through (scene m seen e.0 e.1).after p es (kept f seen e.0 e.1 good).good
        (and_parts (not (e.0 == p) || is_quiet_move r.keeps e.1) (is_quiet r.keeps p es) quiet).1
        (guard_kept seen p e.0 good guard e.1 (λ is. grind arith))

  -- a party whose read finds this value has a guard, and a party with a guard finds its value
  guarded : (s : State W V C L) (p : ℕ) (r : GuardedRead C V) (w t : Option V) (o : Option (Seat C L)) → s.value ≡ w
      → (moves_at m s p Read o).outcome ≡ outcome.Value t
      → (t ≡ r.value → Guard r w o) × (Guard r w o → t ≡ r.value)
  guarded s p r w t o same e = grind arith

  pub reads_agree_across : (keeps : C → Bool) → KeepsGuard f keeps → (parties : ℕ) (past : Schedule C V) → ReadsAgreeAcross keeps m parties past
  reads_agree_across keeps g parties past p between found t quiet first second =
      let r : GuardedRead C V = record { keeps = keeps; value = found } in
      let es = (p, Read) ∷ between in
      let before = reached.seen f parties past in
      let later = reached.seen f parties (past ++ es) in
      let good = reached.good f parties past in
      let guard = (guarded before.state p r before.written found (seat_of before p) good.written (outcome-seen_at m parties past p Read ∙ first)).0 refl in
      let guard_later = guard_through r g before p es good (rw (eqb_self p) quiet) guard in
      (guarded later.state p r later.written t (seat_of later p) (reached.good f parties (past ++ es)).written
      (outcome-seen_at m parties (past ++ es) p Read ∙ second)).1 (rw (seen_after-append m (opening m parties) past es) guard_later)

  -- here no call counts as one that keeps the guard
  pub reads_agree : (parties : ℕ) (past : Schedule C V) → ReadsAgree m parties past
  reads_agree parties past = reads_agree_across (λ c. false) (grind arith) parties past

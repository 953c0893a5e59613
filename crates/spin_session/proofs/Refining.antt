-- A step of a table keeps the rule of its cell, and is the step of the model.
use Rattle.std.proofs.Common.{◌≡◌, ◌≤◌, ℕ, zero, suc, [], ◌∷◌, Bool, true, false, List, Option, Some, None, is_some, unwrap_or, refl, sym, ap, ◌∙◌, subst, arith, inl, inr}
use mathlib.Core.Logic.{◌⊎◌}
use Rattle.std.specs.List.{list_all}
use Rattle.spin_step.specs.Plain.{Plain, fresh, ticket_limit}
use Rattle.spin_step.specs.Orders.{IsInOrder}
use Rattle.spin_step.specs.Acts.{Table, Act, step_at, step_by, change_at, operation_by, next_of, word_number, is_section, place_of, machine_of, begin_of}
use Rattle.spin_step.specs.Operations.{performed, wrapped}
use Rattle.spin_step.specs.Schedules.{State, Entry, after, resting, goes_on, placed, begun, happens, may_write, written_by}
use Rattle.spin_step.specs.declared.answer.Answer.{Answer}
use Rattle.spin_step.specs.declared.place.Hold.{Hold}
use Rattle.spin_step.specs.declared.place.Seat.{Seat}
use Rattle.spin_step.specs.declared.place.Seat.TheVariants.{Idle, Calling, Holding}
use Rattle.spin_step.specs.declared.schedule.Move.TheVariants.{Begin, Step, Write}
use Rattle.spin_step.specs.declared.schedule.Outcome.TheVariants.{Begun, Written}
use Rattle.spin_step.specs.declared.stepped.Next.{Next}
use Rattle.spin_step.specs.declared.stepped.Next.TheVariants.{Continue, Answers}
use Rattle.spin_step.specs.declared.stepped.Stepped.{Stepped}
use Rattle.spin_core.specs.Cell.{Use, writes, no_fact, Ways, Going, use_of, readers_of, OnWord, AllowsTo, MeetsRule, HasView, Rests, after as after_views}
use Rattle.spin_core.specs.Own.{Numbered, RunsByRule, what}
use Rattle.spin_core.specs.Run.{AreMoves, is_played, outcomes_of}
use Rattle.spin_core.specs.Own.{by_party}
use Rattle.spin_core.specs.Views.{Part, idle, entries_of_part, HasPart}
use Rattle.spin_core.specs.Passes.{Ending, IsOut}
use Rattle.spin_core.specs.declared.tie.Opening.{Opening}
use Rattle.spin_core.specs.declared.trace.Trace.{Trace}
use Rattle.spin_core.specs.Traced.{TracesTo}
use Rattle.spin_core.proofs.tie.Leaving.{no_word-up}
use Rattle.spin_core.proofs.tie.Plays as plays
use Rattle.spin_core.proofs.tie.Plays.{Lock, ways, idle_rests}
use Rattle.spin_core.proofs.tie.Ties.{traces, tells_less, rests, opens}
use Rattle.spin_core.proofs.tie.Values.{step_leaves, write_leaves, owed}
use Rattle.spin_core.proofs.tie.Views.{part_before, number, own_part, lock_after}
use Rattle.spin_step.proofs.InOrder.{in_order-kept, in_order-fresh, cap-kept}
use Rattle.spin_step.specs.Parties.{apply_some}
use Rattle.spin_core.specs.Values.{left, last_value, Leaves}
use Rattle.spin_step.specs.declared.schedule.Move.{Move}
use Rattle.spin_session.specs.Meaning.{Meaning, Beside, just_one, HasSecond, number_in, put_in, on_place, IsAccess, lends_if, part_of, seat_now, rests_at, seat_after, use_at, words_in, worked, AreWords, Peeks, FindsAt, ComesFrom, Refines, RefinesOn}
use Rattle.spin_session.specs.Turns.{outcome_of, Says, turn, Quiet, Told, turn_by, gives_up, has_begun, IsAtPoint, peeks}
use Rattle.spin_session.specs.Operating.{Operates}
use Rattle.spin_session.proofs.Course.{uses_now}
use Rattle.spin_step.specs.declared.table.Operation.{Operation}
use Rattle.spin_step.specs.declared.table.Operation.TheVariants as op

module _ {W V C L A : Type 0} (t : Table W V C L A) where
  -- how a call goes on depends only on the number found
  next-is : (i : ℕ) (act : Act W L A) → is_section act ≡ false → (w : W) → (step_by {V = V} t.memory i act w).next ≡ (step_at {V = Unit {0}} t.memory 0 (word_number t.memory (place_of i act) w) act t.words).next
  next-is i act one w = grind (arith, one)

  -- after a store the call goes on in the same way, whatever the store finds
  store-any : (act : Act W L A) (k : ℕ) → operation_by act ≡ op.Store k → (n : ℕ) → (step_at {V = Unit {0}} t.memory 0 n act t.words).next ≡ (step_at {V = Unit {0}} t.memory 0 0 act t.words).next
  store-any act k is n = grind (arith, is)

module _ {W V C L : Type 0} (t : Table W V C L (Answer V)) where
  abbrev World : Type 0
  World = State W V C L

  abbrev pub with_seat : W → Option V → Seat C L → World
  with_seat w value seat = record { words = w; value = value; seats = seat ∷ [] }

  -- where the step of a call leads the model
  leads : (c : C) (h : Option Hold) (w : W) (value : Option V) (l : L) (next : Next L (Answer V))
      → goes_on (with_seat w value (Calling c l h)) 0 c h next ≡ record { outcome = outcome_of next; next = with_seat w value (seat_after c h next) }
  leads c h w value l (Continue k) = refl
  leads c h w value l (Answers a after) = refl

pub is_played-next : {L V : Type 0} (next : Next L (Answer V)) → list_all is_played (outcome_of next ∷ []) ≡ true
is_played-next (Continue k) = refl
is_played-next (Answers a after) = refl

-- The play of a step, as the step of its point.

module _ {W V C L : Type 0} (t : Table W V C L (Answer V)) where
  pub not_begun : (view : Option (Seat C L)) (h : Option Hold) → seat_now view ≡ resting h → has_begun view ≡ false
  not_begun None h is = refl
  not_begun (Some (Calling c l k)) None is = absurd (cc (is))
  not_begun (Some (Calling c l k)) (Some x) is = absurd (cc (is))
  not_begun (Some _) h is = refl

  module _ (s : Meaning C L) where
    by_first_turn : (view : Option (Seat C L)) (c : C) (h : Option Hold) → seat_now view ≡ resting h → (P : Says t s → Type 0) → P (turn t s false c (t.start c h) h) → P (turn_by t s false (Some c) view)
    by_first_turn view c None is P so = rw is so
    by_first_turn view c (Some x) is P so = rw is so

    pub by_turn : (view : Option (Seat C L)) (c : C) (l : L) (h : Option Hold) → IsAtPoint t c l h view → (P : Says t s → Type 0) → P (turn t s (has_begun view) c l h) → P (turn_by t s false (Some c) view)
    by_turn view c l h (inl is) P so = rw is (rw is at so)
    by_turn view c l h (inr (point, is, may)) P so = by_first_turn view c h is P (rw (point, not_begun view h is) at so)

-- The way in which parties share the value

pub going_of : (b : Bool) (u v : Use) (readers : ℕ) (A : Type 0) → A → Going {X = Unit {0}} (lends_if b) u v None readers A
going_of true u v readers A a = a
going_of false u v readers A a = a

-- what a step may do does not depend on the values
as_value : {X Y S : Type 0} (b : Bool) (f : X → Use) (holds : ℕ → S → List X → Type 0) (view : Option X) (shown : Option Y) (g : OnWord S) (comes : ℕ → X → Type 0)
    → AllowsTo {X = Unit {0}} holds (lends_if b, f, no_fact) view None g comes → AllowsTo holds (lends_if b, f, no_fact) view shown g comes
as_value true f holds view shown g comes all = all
as_value false f holds view shown g comes all = all

as_meets : {X S : Type 0} (Y : Type 0) (b : Bool) (f : X → Use) (holds : ℕ → S → List X → Type 0) (n : ℕ) (m : S) → MeetsRule {X = Unit {0}} holds (lends_if b, f, no_fact) n m [] → MeetsRule {X = Y} holds (lends_if b, f, no_fact) n m []
as_meets Y true f holds n m meets = meets
as_meets Y false f holds n m meets = meets

pub leaves_quiet : {C V : Type 0} (u v : Use) (shown : Option V) (own : List (Move C V)) → (u ≡ writes → ⊥) → ((x : V) → left own x ≡ x) → Leaves u v shown own
leaves_quiet writes v shown own quiet none = absurd (quiet refl)
leaves_quiet u v shown own quiet none = none

-- a party that goes on as it was may make no move
leaves_none : (C : Type 0) {V : Type 0} (u : Use) (shown : Option V) → Leaves {C = C} u u shown []
leaves_none C writes shown = tt
leaves_none C u shown = λ v. refl

-- The numbers in a cell's words.

module _ {S : Type 0} (k : Beside S) where
  abbrev IsPlace : ℕ → Type 0
  IsPlace i = (i ≡ 0) ⊎ ((i ≡ 1) × HasSecond k)

  number_is : {W V C L A : Type 0} (t : Table W V C L A) (i : ℕ) → IsPlace i → (w : W) → word_number t.memory i w ≡ number_in k i (words_in t k w)
  number_is t i (inl e) w = rw e refl
  number_is t i (inr (e, keeps)) w = rw e (sym (keeps (word_number t.memory 0 w) (word_number t.memory 1 w)))

  finds_now : {C L : Type 0} (s : Meaning C L) (i : ℕ) → IsPlace i → (plain : Plain) → s.bounds (s.word plain) → plain.cap ≡ s.cap → IsInOrder plain → FindsAt s i (number_in k i (s.word plain, k.of (s.second plain)))
  finds_now s i (inl e) plain bounded room order = rw e (bounded, (plain, room, order, refl))
  finds_now s i (inr (e, keeps)) plain bounded room order = rw e (plain, room, order, keeps (s.word plain) (s.second plain))

  -- a step that keeps the rule, as an operation of the processor on the word at place i
  module _ {X V E : Type 0} (holds : ℕ → Trace E S → List V → Type 0) (ways : Ways X V (Trace E S)) (view : Option V) (shown : Option X) (told : List E → List E → ℕ → V → Type 0) where
    abbrev Keeping : OnWord S → (List E → List E → ℕ → V → Type 0) → Type 0
    Keeping = TracesTo holds ways view shown

    operated : (i : ℕ) (o : Operation) → IsPlace i → IsAccess i o → Keeping (on_place k i (worked o)) told → ((to : ℕ) → o ≡ op.Store to → Keeping (on_place k i (worked o)) (λ log es n. told log es 0))
        → Operates k holds ways view shown i (wrapped o) told
    operated zero (op.Store to) there may so stored = stored to refl
    operated zero o there may so stored = so
    operated (suc j) o (inl first) may so stored = absurd (cc (first))
    operated (suc j) op.Load (inr (e, keeps)) may so stored = (keeps, so)
    operated (suc j) (op.Store to) (inr (e, keeps)) may so stored = (keeps, stored to refl)
    operated (suc j) (op.Add by) (inr (e, keeps)) may so stored = (keeps, so)
    operated (suc j) o there may so stored = absurd may

-- a cell of one word makes no operation at place 1
pub no_second : {X V E : Type 0} (holds : ℕ → Trace E (Unit {0}) → List V → Type 0) (all_ways : Ways X V (Trace E (Unit {0}))) (view : Option V) (shown : Option X) (told : List E → List E → ℕ → V → Type 0) (o : Operation)
    → Operates just_one holds all_ways view shown 1 o told → ⊥
no_second holds all_ways view shown told op.Load so = absurd (let at : 0 ≡ 1 = so.0 0 1 in cc)
no_second holds all_ways view shown told (op.Store to) so = absurd (let at : 0 ≡ 1 = so.0 0 1 in cc)
no_second holds all_ways view shown told (op.Add by) so = absurd (let at : 0 ≡ 1 = so.0 0 1 in cc)
no_second holds all_ways view shown told o so = so

-- The moves of a step.

module _ {W V C L S : Type 0} (k : Beside S) (t : Table W V C L (Answer V)) (s : Meaning C L) (d : RefinesOn t k s) (opening : Opening V) where
  abbrev pub lock : Lock (Seat C L) S
  lock = record {
    part = part_of s;
    uses = use_at s;
    idle = Idle;
    is_idle = (refl, refl);
    way = lends_if s.shares;
    goes = going_of s.shares;
    cap = s.cap;
    first = s.word;
    second = λ plain. k.of (s.second plain);
    fits = d.fits;
    names_nobody = d.nobody;
  }

  abbrev pub Rule : ℕ → Trace (Entry C V) S → List (Numbered (Seat C L)) → Type 0
  Rule = RunsByRule (machine_of t) (λ x. x) (words_in t k) (AreWords k s) opening.name

  abbrev pub own_ways : Ways V (Numbered (Seat C L)) (Trace (Entry C V) S)
  own_ways = (lends_if s.shares, λ v. use_at s v.0, last_value opening)

  abbrev pub Moving : Option (Seat C L) → OnWord S → (ℕ → Seat C L → Type 0) → Says t s → Type 0
  Moving view g = AreMoves (machine_of t) (λ x. x) (words_in t k) view g

  -- these moves write nothing, or what a writer leaves
  abbrev pub Leaving : Option (Seat C L) → Option V → Says t s → Type 0
  Leaving view shown says = (own : List (Move C V)) (outs : List (Ending V)) (n : ℕ) (u : Seat C L) → says own outs n u → Leaves (use_of (use_at s) view) (use_at s u) shown own

  -- the word after the step at this point
  abbrev pub after_word : C → L → Option Hold → ℕ → ℕ
  after_word c l h = worked (operation_by (t.act c l h))

  abbrev pub on_step : C → L → Option Hold → OnWord S
  on_step c l h = on_place k (t.word l) (after_word c l h)

  abbrev pub ends : C → L → Option Hold → ℕ → Ending V
  ends c l h n = outcome_of (next_of t c l h n)

  abbrev pub to : C → L → Option Hold → ℕ → Seat C L
  to c l h n = seat_after c h (next_of t c l h n)

  -- the party's next seat, that the operation of the processor is that of the table, and what holds of the word found
  abbrev pub Comes : C → L → Option Hold → ℕ → Seat C L → Type 0
  Comes c l h n u = (u ≡ to c l h n) × (after_word c l h n ≡ performed (operation_by (t.act c l h)) n) × FindsAt s (t.word l) n

  module _ (c : C) (l : L) (h : Option Hold) where
    abbrev pub st : W → Option V → Stepped W V L (Answer V)
    st w value = (machine_of t).step w value c l h

    -- the number that the step finds
    abbrev pub found : W → ℕ
    found w = number_in k (t.word l) (words_in t k w)

    pub step_is : (w : W) (value : Option V) → (st w value).next ≡ next_of t c l h (found w)
    step_is w value =
        next-is t (t.word l) (t.act c l h) (d.operates c l h) w
        ∙ ap (next_of t c l h) (ap (λ i. word_number t.memory i w) (d.places c l h) ∙ number_is k t (t.word l) (d.within l) w)

    -- the step of a party that is alone
    pub steps_to : (w : W) (value : Option V) → let z = st w value in let next = next_of t c l h (found w) in
        happens (machine_of t) (with_seat t w value (Calling c l h)) 0 Step ≡ record { outcome = outcome_of next; next = with_seat t z.words (placed z.placed value) (seat_after c h next) }
    steps_to w value = let z = st w value in let now = placed z.placed value in
        ap (goes_on (with_seat t z.words now (Calling c l h)) 0 c h) (step_is w value) ∙ leads t c h z.words now l (next_of t c l h (found w))

    -- the next step of a call
    pub next_moves : Moving (Some (Calling c l h)) (on_step c l h) (Comes c l h) (turn t s true c l h)
    next_moves w value u is =
        let z = st w value in let n = found w in let now = placed z.placed value in (
          Step ∷ [],
          ends c l h n ∷ [],
          ((is.0, (refl, refl)), is.2),
          refl,
          is_played-next (next_of t c l h n),
          z.words,
          now,
          ap (λ x. x.next) (steps_to w value) ∙ ap (with_seat t z.words now) (sym is.0),
          ap (λ x. x.outcome ∷ []) (steps_to w value),
          d.writes_words c l h w ∙ ap (λ x. put_in k (t.word l) x (words_in t k w)) (sym is.1),
        )

  -- the first step of a call, by a party that holds h and may begin it
  module _ (c : C) (h : Option Hold) (may : (t.asks c h).begins h ≡ true) where
    abbrev l : L
    l = t.start c h

    -- from a seat in which the call begins, the party makes its first step
    module _ (from : Seat C L) (alike : (w : W) (value : Option V) → happens (machine_of t) (with_seat t w value from) 0 (Begin c) ≡ begun {A = Answer V} (with_seat t w value from) 0 c h (begin_of t c h)) where
      pub begun_is : (w : W) (value : Option V) → happens (machine_of t) (with_seat t w value from) 0 (Begin c) ≡ record { outcome = Begun; next = with_seat t w value (Calling c l h) }
      begun_is w value = alike w value ∙ ap (begun {A = Answer V} (with_seat t w value from) 0 c h) (let at : begin_of t c h ≡ Some l = rw may refl in at)

      pub first_from : Moving (Some from) (on_step c l h) (Comes c l h) (turn t s false c l h)
      first_from w value u is =
          let z = st c l h w value in let n = found c l h w in let now = placed z.placed value in let so = steps_to c l h w value in (
            Begin c ∷ Step ∷ [],
            Begun ∷ ends c l h n ∷ [],
            ((is.0, (refl, refl)), is.2),
            refl,
            is_played-next (next_of t c l h n),
            z.words,
            now,
            ap (λ x. (happens (machine_of t) x.next 0 Step).next) (begun_is w value) ∙ ap (λ x. x.next) so ∙ ap (with_seat t z.words now) (sym is.0),
            ap (λ x. x.outcome ∷ (happens (machine_of t) x.next 0 Step).outcome ∷ []) (begun_is w value) ∙ ap (λ x. Begun ∷ x.outcome ∷ []) so,
            d.writes_words c l h w ∙ ap (λ x. put_in k (t.word l) x (words_in t k w)) (sym is.1),
          )

  pub first_moves : (c : C) (h : Option Hold) → (t.asks c h).begins h ≡ true → let l = t.start c h in Moving (Some (resting h)) (on_step c l h) (Comes c l h) (turn t s false c l h)
  first_moves c None may = first_from c None may Idle (λ w value. refl)
  first_moves c (Some x) may = first_from c (Some x) may (Holding x) (λ w value. refl)

  -- the same by a holder that writes, and first writes the value x
  pub release_moves : (x : V) (c : C) (h : Hold) → (t.asks c (Some h)).begins (Some h) ≡ true → may_write h ≡ true → let l = t.start c (Some h) in
      Moving (Some (Holding h)) (on_step c l (Some h)) (Comes c l (Some h)) (gives_up t s (λ y. y ≡ x) c (Some (Holding h)))
  release_moves x c h may able w value u is =
      let (own, outs, said, all, fine, w', now, leads, are, become) = first_from c (Some h) may (Holding h) (λ w value. refl) w (Some x) u is in
      let wrote : happens (machine_of t) (with_seat t w value (Holding h)) 0 (Write x) ≡ record { outcome = Written; next = with_seat t w (Some x) (Holding h) } = ap (written_by {A = Answer V} (with_seat t w value (Holding h)) x) able in (
        Write x ∷ own,
        Written ∷ outs,
        (said.0.0, (x, refl, (own, outs, refl, refl, said.0.1))),
        all,
        fine,
        w',
        now,
        ap (λ y. after (machine_of t) y.next (by_party 0 own)) wrote ∙ leads,
        ap (λ y. y.outcome ∷ outcomes_of (machine_of t) y.next (by_party 0 own)) wrote ∙ ap (λ o. Written ∷ o) are,
        become,
      )

  -- Each step keeps the rule.

  abbrev pub Keeps : Option (Numbered (Seat C L)) → Option V → OnWord S → Says t s → Type 0
  Keeps view shown g says = TracesTo Rule own_ways view shown g (Told t s says view)

  -- a step keeps the rule if the plain lock allows it and the model has moves for it
  pub keeps : (view : Option (Numbered (Seat C L))) (shown : Option V) (g : OnWord S) (comes : ℕ → Seat C L → Type 0) (says : Says t s) → Leaving (what view) shown says
      → Moving (what view) g comes says → AllowsTo (AreWords k s) (ways lock) (what view) None g comes → TracesTo Rule own_ways view shown g (Told t s says view)
  keeps view shown g comes says leaves moves allows =
      traces (machine_of t) (λ x. x) (words_in t k) (AreWords k s) opening.name V (lends_if s.shares) (use_at s) (last_value opening) view shown g comes says moves
      (λ own outs n u said x word p. owed opening own x word p (use_of (use_at s) (what view)) (use_at s u) shown (leaves own outs n u said))
      (as_value s.shares (use_at s) (AreWords k s) (what view) shown g comes allows)

  -- a step of a call writes nothing
  quietly : (view : Option (Seat C L)) (shown : Option V) → Quiet s view → (goes_on : Bool) (c : C) (l : L) (h : Option Hold) → Leaving view shown (turn t s goes_on c l h)
  quietly view shown quiet goes_on c l h own outs n u said = leaves_quiet (use_of (use_at s) view) (use_at s u) shown own quiet (step_leaves goes_on c _ own outs said.0.1)

  -- the step keeps the word that of a plain lock
  pub allows_step : (view : Option (Seat C L)) (c : C) (l : L) (h : Option Hold) → ComesFrom t s c l h (part_before (part_of s) view)
      → (id n : ℕ) (m : S) (vs : List (Seat C L)) → MeetsRule (AreWords k s) (ways lock) n m vs → HasView id view vs → let g = on_step c l h in
      (w : Seat C L) × Going (ways lock).0 (use_of (ways lock).1 view) ((ways lock).1 w) None (readers_of (ways lock).1 vs) (MeetsRule (AreWords k s) (ways lock) (g.0 (n, m)).0 (g.0 (n, m)).1 (after_views id view vs w)) × Comes c l h (g.1 (n, m)) w
  allows_step view c l h comes id n m vs meets at =
      let (plain, room, order, is, n_is, m_is) = meets.0.0 in let p : ℕ = number (part_of s) id view vs in let bounded : s.bounds (s.word plain) = rw n_is at meets.0.1 in rw (n_is, m_is) (
      let z = d.sound c l h p plain vs (part_before (part_of s) view) comes room order is bounded (own_part (part_of s) id view vs plain at is) in
      let n : ℕ = number_in k (t.word l) (s.word plain, k.of (s.second plain)) in
      let step = change_at n (t.act c l h) p t.words in let next = apply_some plain step in let w = to c l h n in
      let room' = cap-kept plain step ∙ room in let order' = in_order-kept plain p step order z.opens in
      let is' = lock_after (part_of s) id view vs w plain step at order is z.opens z.entries z.knows in (
        w,
        going_of s.shares _ (use_at s w) _ _ (((next, room', order', is', ap (λ x. x.0) z.counts, ap (λ x. x.1) z.counts), z.bounded), d.fits (after_views id view vs w) next room' order' is'),
        (refl, z.same, finds_now k s (t.word l) (d.within l) plain bounded room order),
      ))

  allowed : (view : Option (Seat C L)) (c : C) (l : L) (h : Option Hold) → ComesFrom t s c l h (part_before (part_of s) view)
      → AllowsTo (AreWords k s) (ways lock) view None (on_step c l h) (Comes c l h)
  allowed view c l h comes id n m vs meets at small = allows_step view c l h comes id n m vs meets at

  pub some_part : (o : Option Part) → is_some o ≡ true → o ≡ Some (unwrap_or o idle)
  some_part (Some x) is = refl
  some_part None is = absurd (cc (is))

  pub part_now : (view : Option (Seat C L)) → part_before (part_of s) view ≡ part_of s (seat_now view)
  part_now None = refl
  part_now (Some x) = refl

  -- a new party makes the moves of an idle one
  pub moves_now : (view : Option (Seat C L)) (g : OnWord S) (comes : ℕ → Seat C L → Type 0) (says : Says t s) → Moving (Some (seat_now view)) g comes says → Moving view g comes says
  moves_now None g comes says moves = moves
  moves_now (Some x) g comes says moves = moves

  module _ (view : Option (Numbered (Seat C L))) (shown : Option V) (c : C) (l : L) (h : Option Hold) where
    abbrev says_it : Says t s
    says_it = turn t s (has_begun (what view)) c l h

    keeps_by : (goes_on : Bool) → has_begun (what view) ≡ goes_on → ComesFrom t s c l h (part_before (part_of s) (what view)) → Moving (what view) (on_step c l h) (Comes c l h) (turn t s goes_on c l h) → Quiet s (what view)
        → Keeps view shown (on_step c l h) says_it
    keeps_by goes_on is comes moves quiet = subst (λ b. Keeps view shown (on_step c l h) (turn t s b c l h)) (sym is)
        (keeps view shown (on_step c l h) (Comes c l h) (turn t s goes_on c l h) (quietly (what view) shown quiet goes_on c l h) moves (allowed (what view) c l h comes))

    keeps_at : IsAtPoint t c l h (what view) → rests_at s (seat_now (what view)) ≡ true → Quiet s (what view) → Keeps view shown (on_step c l h) says_it
    keeps_at (inl is) rests quiet = keeps_by true (ap has_begun is) (rw is (inl (some_part (s.part c l h) (subst (λ o. rests_at s (seat_now o) ≡ true) is rests)))) (rw is (next_moves c l h)) quiet
    keeps_at (inr (point, is, may)) rests quiet = keeps_by false (not_begun t (what view) h is) (inr (may, point, part_now (what view) ∙ ap (part_of s) is))
        (rw point (moves_now (what view) (on_step c (t.start c h) h) (Comes c (t.start c h) h) (turn t s false c (t.start c h) h) (rw is (first_moves c h may)))) quiet

    -- a store goes on in the same way, whatever it finds
    stores_alike : Keeps view shown (on_step c l h) says_it → Operates k Rule own_ways view shown (t.word l) (wrapped (operation_by (t.act c l h))) (Told t s says_it view)
    stores_alike so =
        operated k Rule own_ways view shown (Told t s says_it view) (t.word l) (operation_by (t.act c l h)) (d.within l) (d.accesses c l h) so (λ to is.
        tells_less (machine_of t) (λ z. z) (words_in t k) view says_it (λ own outs n v. says_it own outs 0 v)
        (λ own outs n v said. (rw (store-any t (t.act c l h) to is n) at said.0, d.empty l)) Rule own_ways shown (on_step c l h) so)

    pub operates : (o : Operation) → o ≡ wrapped (operation_by (t.act c l h)) → IsAtPoint t c l h (what view) → rests_at s (seat_now (what view)) ≡ true → Quiet s (what view)
        → Operates k Rule own_ways view shown (t.word l) o (Told t s (turn_by t s false (Some c) (what view)) view)
    operates o is at rests quiet =
        by_turn t s (what view) c l h at (λ x. Operates k Rule own_ways view shown (t.word l) o (Told t s x view))
        (subst (λ x. Operates k Rule own_ways view shown (t.word l) x (Told t s says_it view)) (sym is) (stores_alike (keeps_at at rests quiet)))

  -- A holder that writes begins a call. It first writes its value.

  leaves_any : (u : Use) (x : V) (own : List (Move C V)) → ((v : V) → left own v ≡ x) → Leaves writes u (Some x) own
  leaves_any writes x own so = tt
  leaves_any _ x own so = so

  module _ (view : Option (Numbered (Seat C L))) (x : V) (c : C) (h : Hold) (is : what view ≡ Some (Holding h)) (may : (t.asks c (Some h)).begins (Some h) ≡ true) (able : may_write h ≡ true) (held : use_at s (Holding h) ≡ writes) where
    abbrev exact : Says t s
    exact = gives_up t s (λ y. y ≡ x) c (Some (Holding h))

    leaving : Leaving (Some (Holding h)) (Some x) exact
    leaving own outs n u (stays, (y, same, by)) =
        rw held (leaves_any (use_at s u) x own (λ v. write_leaves y false c _ own outs by v ∙ same))

    abbrev first_point : L
    first_point = t.start c (Some h)

    abbrev says_all : Says t s
    says_all = turn_by t s true (Some c) (Some (Holding h))

    keeps_gives : Keeps view (Some x) (on_step c first_point (Some h)) says_all
    keeps_gives =
        let l = first_point in let g = on_step c l (Some h) in
        let comes : ComesFrom t s c l (Some h) (part_before (part_of s) (Some (Holding h))) = inr (may, refl, refl) in
        let all = keeps view (Some x) g (Comes c l (Some h)) exact (rw is leaving) (rw is (release_moves x c h may able)) (rw is (allowed (Some (Holding h)) c l (Some h) comes)) in
        tells_less (machine_of t) (λ z. z) (words_in t k) view exact says_all (λ own outs n u (stays, (y, same, by)). (stays, (y, tt, by))) Rule own_ways (Some x) g all

    pub operates_giving : (o : Operation) → o ≡ wrapped (operation_by (t.act c first_point (Some h))) → Operates k Rule own_ways view (Some x) (t.word first_point) o (Told t s (turn_by t s true (Some c) (what view)) view)
    operates_giving o same =
        let l = first_point in let act = t.act c l (Some h) in
        let all = operated k Rule own_ways view (Some x) (Told t s says_all view) (t.word l) (operation_by act) (d.within l) (d.accesses c l (Some h)) keeps_gives (λ to now.
        tells_less (machine_of t) (λ z. z) (words_in t k) view says_all (λ own outs n v. says_all own outs 0 v) (λ own outs n v said. rw (store-any t act to now n) at said)
        Rule own_ways (Some x) (on_step c l (Some h)) keeps_gives) in
        subst (λ (z : Operation × Option (Seat C L)). Operates k Rule own_ways view (Some x) (t.word l) z.0 (Told t s (turn_by t s true (Some c) z.1) view)) (λ i. (sym same i, sym is i)) all

  -- A load at place 1 by which the party makes no step.

  abbrev peeks_at : OnWord S
  peeks_at = on_place k 1 (λ n. n)

  abbrev Peeked : Seat C L → ℕ → Seat C L → Type 0
  Peeked seat n u = (u ≡ seat) × Peeks k s seat n

  peek_moves : (seat : Seat C L) → Moving (Some seat) peeks_at (Peeked seat) (peeks t s k seat)
  peek_moves seat w value u is = ([], [], (is, refl, refl), refl, refl, w, value, ap (with_seat t w value) (sym is.0), refl, sym (k.kept (words_in t k w)))

  allows_peek : (view : Option (Seat C L)) → AllowsTo (AreWords k s) (ways lock) view None peeks_at (Peeked (seat_now view))
  allows_peek view id n m vs meets at small =
      let (plain, room, order, is, n_is, m_is) = meets.0.0 in let p : ℕ = number (part_of s) id view vs in let seat = seat_now view in
      let has : HasPart plain p (part_of s seat) = subst (HasPart plain p) (part_now view) (own_part (part_of s) id view vs plain at is) in
      let is' = lock_after (part_of s) id view vs seat plain None at order is tt (ap (entries_of_part p) (part_now view)) has.1 in
      rw (k.kept (n, m))
      (seat, going_of s.shares _ (use_at s seat) _ _ (((plain, room, order, is', n_is, m_is), meets.0.1), d.fits (after_views id view vs seat) plain room order is'), (refl, (plain, p, room, order, has, λ i. k.number (n_is i, m_is i))))

  pub keeps_peek : (view : Option (Numbered (Seat C L))) (shown : Option V) → Keeps view shown peeks_at (peeks t s k (seat_now (what view)))
  keeps_peek view shown =
      let v : Option (Seat C L) = what view in let seat = seat_now v in
      keeps view shown peeks_at (Peeked seat) (peeks t s k seat)
      (λ own outs n u (stays, none, nobody). rw none (subst (λ z. Leaves {C = C} (use_of (use_at s) v) z shown []) (uses_now s v ∙ sym (ap (use_at s) stays.0)) (leaves_none C (use_of (use_at s) v) shown)))
      (moves_now v peeks_at (Peeked seat) (peeks t s k seat) (peek_moves seat)) (allows_peek v)

  -- a party rests at each point to which its call goes on
  pub rests_on : (view : Option (Seat C L)) (c : C) (l : L) (h : Option Hold) (n : ℕ) → IsAtPoint t c l h view → rests_at s (seat_now view) ≡ true → rests_at s (to c l h n) ≡ true
  rests_on view c l h n (inl is) rests = d.goes c l h (unwrap_or (s.part c l h) idle) n (inl (some_part (s.part c l h) (rw is at rests)))
  rests_on view c l h n (inr (point, is, may)) rests = d.goes c l h (part_of s (resting h)) n (inr (may, point, refl))

  -- a party that is out may leave
  pub leaves : (view : Option (Numbered (Seat C L))) → IsOut Idle (what view) → Rests Rule (λ v. use_at s v.0) view
  leaves None out = tt
  leaves (Some v) out = rests (machine_of t) (λ x. x) (words_in t k) (AreWords k s) opening.name V (lends_if s.shares) (use_at s) (last_value opening) v out
      (let rest = idle_rests lock v.0 out in (rest.0, λ n m before behind is. (rest.1 n m before behind is.0, is.1)))

  -- a new cell
  pub starts_on : d.first ≤ ticket_limit → (x : Trace (Entry C V) S) → x.name ≡ opening.name → x.entries ≡ [] → x.word ≡ k.of (s.second (fresh s.cap 0 d.first)) → MeetsRule Rule own_ways (s.word (fresh s.cap 0 d.first)) x []
  starts_on small x named empty word =
      let n = s.word (fresh s.cap 0 d.first) in let begun = plays.begins lock 0 d.first n x.word small refl word in
      opens (machine_of t) (λ z. z) (words_in t k) (AreWords k s) opening.name V (lends_if s.shares) (use_at s) (last_value opening) n x named empty (ap (λ m. (n, m)) word ∙ sym d.opens_at.0)
      (as_meets V s.shares (use_at s) (AreWords k s) n x.word ((begun.0, d.opens_at.1), begun.1))

-- A table of one word.
module _ {W V C L : Type 0} (t : Table W V C L (Answer V)) (s : Meaning C L) (d : Refines t s) where
  pub refines_on : RefinesOn t just_one s
  refines_on = record {
    places = λ c l h. rw (d.one_word l) (grind arith);
    within = λ l. inl (d.one_word l);
    accesses = λ c l h. rw (d.one_word l) tt;
    operates = d.operates;
    writes_words = λ c l h w. rw (d.one_word l) (ap (λ n. (n, tt)) (d.writes_word c l h w));
    first = 0;
    opens_at = (ap (λ n. (n, tt)) (d.opens_at.0 ∙ sym d.opens_at.1), rw (d.opens_at.1) d.bounds_opening);
    empty = λ l. rw (d.one_word l) (d.bounds_opening, (fresh s.cap 0 0, refl, in_order-fresh s.cap 0 0 (omega arith), sym d.opens_at.1));
    nobody = (d.nobody, no_word-up);
    fits = d.fits;
    goes = d.goes;
    sound = λ c l h p plain vs from comes room order is bounded has. let z = d.sound c l h p plain vs from comes room order is bounded has in
        rw (d.one_word l) record { opens = z.opens; entries = z.entries; knows = z.knows; counts = ap (λ n. (n, tt)) z.counts; same = z.same; bounded = z.bounded };
  }

  pub starts : (opening : Opening V) (x : Trace (Entry C V) (Unit {0})) → x.name ≡ opening.name → x.entries ≡ [] → MeetsRule (Rule just_one t s refines_on opening) (own_ways just_one t s refines_on opening) 0 x []
  unfolding refines_on
  starts opening x named empty =
      subst (λ n. MeetsRule (Rule just_one t s refines_on opening) (own_ways just_one t s refines_on opening) n x []) d.opens_at.1 (starts_on just_one t s refines_on opening (omega arith) x named empty refl)

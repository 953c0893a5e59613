-- A read-write lock is free of deadlock. All readers leave within the first two rounds. A holder that does more than
-- read is then alone, and makes one of its moves in each round.
use Rattle.spin_laws.proofs.Names.{seat_of, good, cases_eq, scene, eqb-true, empty_is, ◌<◌, one_of, eq-eqb, row_tells, in_call, StandsFor, ne_eqb, entries-other, max, suc, not, resting, ◌≡◌, ℕ, ◌+◌, ◌≤◌, ◌==◌, Bool, true, false, Option, Some, None, List, [], ◌∷◌, length, refl, ap, sym, ◌∙◌, arith, Plain, Kind, reading, upgradable, asking, writing, Holder, Change, releases, turns, count_kind, weight, rw_word, apply_some, IsOpenStep, IsExclusive, ◌-◌, ◌⊎◌, ◌||◌, ◌&&◌, subst, inl, inr, ⊎_elim, nat_lt, min, if◌then◌else◌, lt-ltb, sum_by-cons, same_kind, upgrader, all_kinds, by_kinds, reader_limit, Answer, Hold, Seat, Idle, Calling, Move, Step, Machine, after, get-set_same, Seen, Scene, scene_at, opening, seen_after, eqb_self, Plays, Invariant, calls, RwCall, RwPoint, rw_machine, rw_notes, rw_facts, Test, grants_any, without_holder, with_kind, filter, list_any, list_all, entries, is_empty, either}
use Rattle.spin_laws.specs.Rw.{rounds_by, GrantsSomebody, refuses_any, leading}
use Rattle.spin_world.proofs.RwNames.{Write, Exchange, Release, Entries, Read, UpgradeableRead, may_turn, read, read_upgradable}
use Rattle.spin_step_more.specs.declared.rw_calls.RwPoint.TheVariants.{First}
use Rattle.std.proofs.Common.{sum_by, true≢false}
use Rattle.spin_laws.proofs.Waiting.{is_busy}
use Rattle.spin_laws.proofs.Loads.{Wait}
use Rattle.spin_laws.proofs.Loads as walk

abbrev RwSeat : Type 0
RwSeat = Seat RwCall RwPoint

abbrev at_come : RwCall → Type 0
at_come c = elim c [ Read ↦ Unit {0} | UpgradeableRead ↦ Unit {0} | Write ↦ Unit {0} | _ ↦ ⊥ ]

-- Who holds: the party u, which may do more than read, and others, which read

abbrev its : ℕ → List Holder → List Holder
its u hs = filter (λ h. h.party == u) hs

abbrev kind_in : List Holder → Option Kind
kind_in holders = elim holders [ [] ↦ None | h ∷ hs ↦ Some h.kind ]

abbrev kind_of : ℕ → List Holder → Option Kind
kind_of u hs = kind_in (its u hs)

abbrev beside : ℕ → List Holder → Bool
beside u hs = list_any (λ h. not (h.party == u)) hs

abbrev reads : List Holder → Bool
reads hs = list_any (λ h. same_kind reading h.kind) hs

abbrev only_read : List Holder → Bool
only_read hs = list_all (λ h. same_kind reading h.kind) hs

beside_gone : (u q : ℕ) (k : Kind) (hs : List Holder) → beside u hs ≡ false → beside u (without_holder q k hs) ≡ false
beside_gone u q k [] none = none
beside_gone u q k (h ∷ hs) none = grind (arith, none, beside_gone u q k hs)

beside_own : (u : ℕ) (k : Kind) (hs : List Holder) → beside u (without_holder u k hs) ≡ beside u hs
beside_own u k [] = refl
beside_own u k (h ∷ hs) = grind (arith, beside_own u k hs)

beside_turned : (u q : ℕ) (j k : Kind) (hs : List Holder) → beside u (with_kind q j k hs) ≡ beside u hs
beside_turned u q j k [] = refl
beside_turned u q j k (h ∷ hs) = grind (arith, beside_turned u q j k hs)

kind_turned : (u : ℕ) (j k : Kind) (hs : List Holder) → kind_of u hs ≡ Some j → kind_of u (with_kind u j k hs) ≡ Some k
kind_turned u j k [] is = absurd (cc (is))
kind_turned u j k (h ∷ hs) is = grind (arith, is, kind_turned u j k hs)

-- all holders are those of u if no other party holds
all_its : (u : ℕ) (hs : List Holder) → beside u hs ≡ false → its u hs ≡ hs
all_its u [] none = refl
all_its u (h ∷ hs) none = grind (arith, none, all_its u hs)

-- if somebody holds and all holders only read, somebody reads
reads_some : (hs : List Holder) → is_empty hs ≡ false → only_read hs ≡ true → reads hs ≡ true
reads_some hs some all = grind arith

-- if all holders of a party only read, they pass the test `reads_so` (below) of a reader, or of a party without
-- holders
reads_or_not : (hs : List Holder) → only_read hs ≡ true → (only_read hs && (if reads hs then reads hs else not (reads hs))) ≡ true
reads_or_not hs all = rw all (grind arith)

-- some party other than u holds
witness : (u : ℕ) (hs : List Holder) → beside u hs ≡ true → (q : ℕ) × (q ≡ u → ⊥) × (is_empty (its q hs) ≡ false)
witness u [] some = absurd (cc (some))
witness u (h ∷ hs) some = by (h.party == u) refl (witness u hs)
  where
    by : (b : Bool) → (h.party == u) ≡ b → (beside u hs ≡ true → (q : ℕ) × (q ≡ u → ⊥) × (is_empty (its q hs) ≡ false)) → (q : ℕ) × (q ≡ u → ⊥) × (is_empty (its q (h ∷ hs)) ≡ false)
    by true is rest = let w = rest (grind (arith, is, some)) in (w.0, w.1, grind (arith, w.2))
    by false is rest = (h.party, λ e. absurd (grind (arith, is, e, eqb_self u)), rw (eqb_self h.party) refl)

two_its : (u q : ℕ) (hs : List Holder) → (q ≡ u → ⊥) → length (its q hs) + length (its u hs) ≤ length hs
two_its u q [] ne = omega arith
two_its u q (h ∷ hs) ne = grind (arith, ne, two_its u q hs ne)

read_on : (q r : ℕ) (k : Kind) (hs : List Holder) → only_read (its q hs) ≡ true → only_read (its q (without_holder r k hs)) ≡ true
read_on q r k [] all = all
read_on q r k (h ∷ hs) all = grind (arith, all, read_on q r k hs)

kind_counts : (u : ℕ) (k : Kind) (hs : List Holder) → kind_of u hs ≡ Some k → 1 ≤ count_kind k hs
kind_counts u k [] is = absurd (cc (is))
kind_counts u k (h ∷ hs) is = grind (arith, is, kind_counts u k hs, sum_by-cons (λ (g : Holder). one_of k g.kind) h hs)

writes_alone : (k : Kind) (hs : List Holder) → same_kind writing k ≡ true → 1 ≤ count_kind k hs → (0 < count_kind writing hs → length hs ≡ 1) → 2 ≤ length hs → ⊥
writes_alone k hs writes some alone many = grind arith

some_read : (hs : List Holder) → reads hs ≡ true → 1 ≤ length hs
some_read [] is = absurd (cc (is))
some_read (h ∷ hs) is = omega arith

kind_holds : (u : ℕ) (k : Kind) (hs : List Holder) → kind_of u hs ≡ Some k → 1 ≤ length (its u hs)
kind_holds u k hs is = grind arith

one_word : (k : Kind) (hs : List Holder) → length hs ≤ 1 → kind_in hs ≡ Some k → sum_by (λ (h : Holder). weight h.kind) hs ≡ weight k
one_word k [] few is = absurd (cc (is))
one_word k (h ∷ []) few is = grind (arith, is, sum_by-cons (λ (g : Holder). weight g.kind) h [])
one_word k (h ∷ i ∷ hs) few is = absurd (omega (arith, few))

-- At the start the party u is the holder that does more than read. Without such a holder u is p, which holds nothing.

abbrev lead : ℕ → List Holder → ℕ
lead p [] = p
lead p (h ∷ hs) = if same_kind reading h.kind then lead p hs else h.party

abbrev more : List Holder → ℕ
more [] = 0
more (h ∷ hs) = (if same_kind reading h.kind then 0 else 1) + more hs

more_is : (hs : List Holder) → more hs + count_kind reading hs ≡ length hs
more_is [] = omega arith
more_is (h ∷ hs) = grind (arith, more_is hs, sum_by-cons (λ (g : Holder). one_of reading g.kind) h hs)

one_leads : (s : Plain) → IsExclusive s → more s.holders ≤ 1
one_leads s alone = grind (arith, alone.writer, alone.one_upgradable, more_is s.holders, all_kinds s.holders, by_kinds upgrader s.holders)

all_read : (q : ℕ) (hs : List Holder) → more hs ≤ 0 → only_read (its q hs) ≡ true
all_read q [] none = refl
all_read q (h ∷ hs) none = grind (arith, none, all_read q hs)

others_read : (p q : ℕ) (hs : List Holder) → more hs ≤ 1 → (q ≡ lead p hs → ⊥) → only_read (its q hs) ≡ true
others_read p q [] one ne = refl
others_read p q (h ∷ hs) one ne = grind (arith, one, ne, all_read q hs, others_read p q hs)

lead_none : (p : ℕ) (hs : List Holder) → same_kind reading (leading hs) ≡ true → lead p hs ≡ p
lead_none p [] none = refl
lead_none p (h ∷ hs) none = grind (arith, none, lead_none p hs)

kind_later : (u : ℕ) (a : Kind) (h : Holder) (hs : List Holder) → length (its u (h ∷ hs)) ≤ 1 → kind_of u hs ≡ Some a → kind_of u (h ∷ hs) ≡ Some a
kind_later u a h hs one is = grind (arith, one, is, kind_holds u a hs is)

lead_kind : (p : ℕ) (hs : List Holder) → same_kind reading (leading hs) ≡ false → length (its (lead p hs) hs) ≤ 1 → kind_of (lead p hs) hs ≡ Some (leading hs)
lead_kind p [] leads one = absurd (true≢false leads)
lead_kind p (h ∷ hs) leads one = grind (arith, lead_kind p hs, kind_later, eqb_self h.party)

reads_in : (q : ℕ) (hs : List Holder) → reads (its q hs) ≡ true → reads hs ≡ true
reads_in q [] is = is
reads_in q (h ∷ hs) is = grind (arith, is, reads_in q hs)

-- The loads: numbers of rounds (see Loads.antt)

abbrev same_kinds : Option Kind → Option Kind → Bool
same_kinds None None = true
same_kinds (Some j) (Some k) = same_kind j k
same_kinds _ _ = false

same_self : (k : Option Kind) → same_kinds k k ≡ true
same_self k = grind arith

same_is : (j k : Option Kind) → same_kinds j k ≡ true → j ≡ k
same_is j k is = grind (arith, is)

abbrev leaves : Option RwSeat → Bool
leaves seat = elim seat [ Some (Calling Release l h) ↦ true | _ ↦ false ]

-- after the readers beside u have left, at most this many rounds remain; the kind of u's hold decides
abbrev base : Option Kind → ℕ
base kind = elim kind [ None ↦ 2 | Some reading ↦ 3 | Some upgradable ↦ 4 | Some asking ↦ 1 | Some writing ↦ 4 ]

-- the load of u if no other party holds. `w`: the waiting call is a `write`. `room`: two parties may hold. `out`: u is releasing.
abbrev alone : Bool → Bool → Kind → Bool → ℕ
alone w room reading out = if w then (if out then 2 else 3) else if room then 0 else (if out then 3 else 4)
alone w room upgradable out = if out then 3 else if w || room then 4 else 5
alone w room asking out = 1
alone w room writing out = if out then 3 else 6

abbrev its_load : Bool → Bool → Option Kind → Bool → ℕ
its_load w room kind out = elim kind [ None ↦ 0 | Some k ↦ alone w room k out ]

abbrev is_asking : Option Kind → Bool
is_asking kind = elim kind [ Some asking ↦ true | _ ↦ false ]

-- The load of a party. `b`: somebody holds beside u. `own`: the party is u. `reader`: the party reads. `out`: the
-- party is releasing.
abbrev theirs_of : Bool → Bool → Option Kind → Bool → Bool → Bool → Bool → ℕ
theirs_of w room k b own reader out =
    if own then (if b then (if is_asking k then 1 else 0) else its_load w room k out) else if reader then base k + (if out then 1 else 2) else 0

abbrev theirs_by : Bool → Bool → ℕ → List Holder → ℕ → Option RwSeat → ℕ
theirs_by w room u hs q his = theirs_of w room (kind_of u hs) (beside u hs) (q == u) (reads (its q hs)) (leaves his)

abbrev is_write : RwCall → Bool
is_write c = elim c [ Write ↦ true | _ ↦ false ]

-- how many more steps the waiting call takes if nobody holds
abbrev own_rank : RwCall → RwPoint → ℕ
own_rank c l = if is_write c then 1 else elim l [ Exchange k ↦ if k == 0 then 1 else 2 | _ ↦ 2 ]

-- how many more steps the waiting call takes if one reader holds and leaves room for the call, plus one
abbrev reading_rank : RwPoint → ℕ
reading_rank l = elim l [ Exchange k ↦ if k == weight reading then 2 else 3 | _ ↦ 3 ]

abbrev mine_alone : RwCall → Bool → RwPoint → Option Kind → ℕ
mine_alone c room l kind =
    elim kind [ None ↦ own_rank c l | Some reading ↦ if not (is_write c) && room then reading_rank l else 0 | _ ↦ 0 ]

abbrev mine_of : RwCall → Bool → RwPoint → Option Kind → Bool → ℕ
mine_of c room l k b = if b then 0 else mine_alone c room l k

abbrev mine_by : RwCall → Bool → ℕ → List Holder → RwPoint → ℕ
mine_by c room u hs l = mine_of c room l (kind_of u hs) (beside u hs)

-- if a reader beside u has a load of at most n + 1, `base` is at most n
reader_long : (w room : Bool) (k : Option Kind) (b out : Bool) (n : ℕ) → theirs_of w room k b false true out ≤ suc n → base k ≤ n
reader_long w room k b out n few = grind (arith, few)

-- at the start no load exceeds `rounds_by`
theirs_start : (w room : Bool) (a : Kind) (k : Option Kind) (b own reader out some : Bool) → (same_kind reading a ≡ true → k ≡ None) → (same_kind reading a ≡ false → k ≡ Some a) → (reader ≡ true → some ≡ true) → theirs_of w room k b own reader out ≤ rounds_by a some
theirs_start w room a k b own reader out some none leads reads = grind arith

mine_start : (c : RwCall) (room : Bool) (l : RwPoint) (a : Kind) (k : Option Kind) (b some : Bool) → (same_kind reading a ≡ true → k ≡ None) → (same_kind reading a ≡ false → k ≡ Some a) → mine_of c room l k b ≤ rounds_by a some
mine_start c room l a k b some none leads = grind arith

-- when a reader leaves, no load rises above n
theirs_gone : (w room : Bool) (k : Option Kind) (b later own reader out : Bool) (n : ℕ) → base k ≤ n → ((j : Kind) → k ≡ Some j → (room ≡ true) × (same_kind writing j ≡ false)) → (b ≡ false → later ≡ false)
    → theirs_of w room k later own reader out ≤ max (theirs_of w room k b own reader out) n
theirs_gone w room None b later own reader out n few two less = grind (arith, few, less)
theirs_gone w room (Some j) b later own reader out n few two less = let is = two j refl in grind (arith, few, is.0, is.1, less)

mine_gone : (c : RwCall) (room : Bool) (l : RwPoint) (k : Option Kind) (b later : Bool) (n : ℕ) → base k ≤ n → (b ≡ false → later ≡ false) → mine_of c room l k later ≤ max (mine_of c room l k b) n
mine_gone c room l k b later n few less = grind (arith, few, less)

-- when the party u leaves, the load of the waiting party does not rise above n
mine_left : (c : RwCall) (room : Bool) (l : RwPoint) (k : Kind) (b reader : Bool) (n : ℕ) → theirs_of (is_write c) room (Some k) b true reader true ≤ suc n → at_come c → is_asking (Some k) ≡ false → mine_of c room l None b ≤ max (mine_of c room l (Some k) b) n
mine_left c room l k b reader n few comes asks = grind (arith, few, comes, asks)

base_some : (k : Option Kind) → 1 ≤ base k
base_some k = grind arith

-- when the hold of u turns into another kind, the load of u is at most n afterwards
its_turned : (w room : Bool) (j k : Kind) (b reader : Bool) (n : ℕ) → may_turn j k ≡ true → theirs_of w room (Some j) b true reader false ≤ suc n → (b ≡ true → 1 ≤ n) → theirs_of w room (Some k) b true reader false ≤ n
its_turned w room j k b reader n may few beside = grind (arith, may, few, beside)

-- no other load then rises above n
theirs_turned : (w room : Bool) (j k : Kind) (b reader out : Bool) (n : ℕ) → may_turn j k ≡ true → theirs_of w room (Some k) b false reader out ≤ max (theirs_of w room (Some j) b false reader out) n
theirs_turned w room j k b reader out n may = grind (arith, may)

mine_turned : (c : RwCall) (room : Bool) (l : RwPoint) (j k : Kind) (b reader : Bool) (n : ℕ) → may_turn j k ≡ true → theirs_of (is_write c) room (Some j) b true reader false ≤ suc n → mine_of c room l (Some k) b ≤ max (mine_of c room l (Some j) b) n
mine_turned c room l j k b reader n may few = grind (arith, may, few)

-- what the step function of `read` or `upgradeable_read` returns; `None` for the other calls
abbrev lets : ℕ → RwCall → ℕ → Option ℕ
lets cap c w = elim c [ Read ↦ read cap w | UpgradeableRead ↦ read_upgradable cap w | _ ↦ None ]

-- which kind of holder a step removes
abbrev from : Option Change → Option Kind
from step = elim step [ Some (releases q k) ↦ Some k | Some (turns q j k) ↦ Some j | _ ↦ None ]

-- whether a holder leaves by this plain step
abbrev is_out : Option Change → Bool
is_out step = elim step [ Some (releases q k) ↦ true | _ ↦ false ]

-- whether a holder turns to a kind to which it may turn
abbrev is_turn : Option Change → Bool
is_turn step = elim step [ Some (turns q j k) ↦ may_turn j k | _ ↦ false ]

module _ {V : Type 0} (v : V) (cap : ℕ) (some : 1 ≤ cap) where
  abbrev m : Machine ℕ V RwCall RwPoint (Answer V)
  m = rw_machine v cap

  abbrev f : Plays m (rw_notes v cap)
  f = rw_facts v cap

  abbrev World : Type 0
  World = Seen ℕ V RwCall RwPoint

  abbrev room : Bool
  room = nat_lt 1 cap

  abbrev goal : Test V RwCall RwPoint (Answer V)
  goal = either (grants_any m) refuses_any

  abbrev sc : World → ℕ → RwCall → RwPoint → Option Hold → Scene ℕ V RwCall RwPoint (Answer V)
  sc seen q c l h = scene_at m seen q Step (Some (Calling c l h))

  abbrev Grants : World → ℕ → RwCall → RwPoint → Option Hold → Type 0
  Grants seen q c l h = let y = sc seen q c l h in goal q Step y.outcome (seat_of y.after q) ≡ true

  abbrev Sits : (Entries → Bool) → ℕ → Option RwSeat → Type 0
  Sits = walk.SitsSo (rw_notes v cap)

  -- if `reader`, the party reads and does no more; otherwise the party holds nothing
  abbrev reads_so : Bool → Entries → Bool
  reads_so reader e = only_read e.holders && (if reader then reads e.holders else not (reads e.holders))

  -- a reader's step is a release; a step of a party that holds nothing is a grant, or does not change the holders
  others_step : (seen : World) (q : ℕ) (c : RwCall) (l : RwPoint) (h : Option Hold) (reader : Bool) → seat_of seen q ≡ Some (Calling c l h) → Sits (reads_so reader) q (Some (Calling c l h)) → let y = sc seen q c l h in
      Grants seen q c l h ⊎ (((y.change ≡ None) × (reader ≡ false)) ⊎ ((y.change ≡ Some (releases q reading)) × (reader ≡ true) × (leaves (Some (Calling c l h)) ≡ true) × (seat_of y.after q ≡ Some Idle)))
  others_step seen q c l h reader there so = grind (arith, so, get-set_same seen.state.seats q Idle _ there)

  -- a step of the party u, which is a holder of this kind, or no holder (`None`)
  its_step : (seen : World) (u : ℕ) (c : RwCall) (l : RwPoint) (h : Option Hold) (kind : Option Kind) → seat_of seen u ≡ Some (Calling c l h) → Sits (λ e. same_kinds kind (kind_in e.holders)) u (Some (Calling c l h)) → let y = sc seen u c l h in
      Grants seen u c l h ⊎ ((y.change ≡ None) ⊎ ((same_kinds kind (from y.change) ≡ true) × ((is_out y.change ≡ true) × (is_asking kind ≡ false) × (leaves (Some (Calling c l h)) ≡ true) × (seat_of y.after u ≡ Some Idle) ⊎ (is_turn y.change ≡ true) × (leaves (Some (Calling c l h)) ≡ false) × (leaves (seat_of y.after u) ≡ false))))
  its_step seen u c l h kind there so = grind (arith, get-set_same)

  -- if u holds alone, its step makes a plain step or is a grant
  its_step_alone : (seen : World) (u : ℕ) (c : RwCall) (l : RwPoint) (h : Option Hold) (kind : Kind) → seen.state.words ≡ weight kind → Sits (λ e. same_kinds (Some kind) (kind_in e.holders)) u (Some (Calling c l h)) → (sc seen u c l h).change ≡ None → Grants seen u c l h
  its_step_alone seen u c l h kind word so none = grind (arith, word, so, none)

  module _ (p u : ℕ) (c : RwCall) (comes : at_come c) where
    abbrev Known : World → Type 0
    Known seen = (q : ℕ) → (q ≡ u → ⊥) → only_read (its q seen.plain.holders) ≡ true

    abbrev x : Wait ℕ V RwCall RwPoint (Answer V)
    x = record { goal = goal; party = p; call = c; hold = None; At = λ l. Unit {0}; Known = Known; Fine = λ seen. Unit {0}; mine = λ s. mine_by c room u s.holders; theirs = λ s l. theirs_by (is_write c) room u s.holders }

    module _ (seen : World) (good : Invariant f seen) where
      abbrev s : Plain
      s = seen.plain

      abbrev kind : Option Kind
      kind = kind_of u s.holders

      abbrev b : Bool
      b = beside u s.holders

      sits : (test : Entries → Bool) (q : ℕ) → test (entries q s) ≡ true → walk.SitsSo (rw_notes v cap) test q (seat_of seen q)
      sits test q is = walk.sits_so (rw_notes v cap) test seen good q is

      -- the party u is one holder at most
      one : length (its u s.holders) ≤ 1
      one = grind (arith, sits (λ e. nat_lt 1 (length e.holders)) u)

      word_is : b ≡ false → seen.state.words ≡ sum_by (λ (h : Holder). weight h.kind) (its u s.holders)
      word_is none = let word : seen.state.words ≡ rw_word s = cc (good.encodes) in word ∙ ap (λ hs. sum_by (λ (h : Holder). weight h.kind) hs) (sym (all_its u s.holders none))

      -- The waiting party p holds nothing. `reader_beside`: if any party holds beside u, some reader is neither u nor
      -- p.
      nothing_mine : (l : RwPoint) → seat_of seen p ≡ Some (Calling c l None) → is_empty (its p s.holders) ≡ true
      nothing_mine l mine_at = row_tells (rw_notes v cap) c l None p s (seen.span p) (λ e. is_empty e.holders) _ (in_call f p good mine_at).knows (grind (arith, comes))

      reader_beside : {l : RwPoint} → Known seen → seat_of seen p ≡ Some (Calling c l None) → b ≡ true → (q : ℕ) × (q ≡ u → ⊥) × (q ≡ p → ⊥) × (reads (its q s.holders) ≡ true)
      reader_beside {l} known mine_at some = grind (arith, witness, true≢false, nothing_mine, reads_some)

      -- a step of a reader, or of a party that holds nothing

      module _ (l : RwPoint) (n : ℕ) (within : walk.Within f x seen l (suc n)) (known : Known seen) (q : ℕ) (d : RwCall) (i : RwPoint) (j : Option Hold) (ne : q ≡ p → ⊥) (at : seat_of seen q ≡ Some (Calling d i j)) (made : walk.After f x seen q (sc seen q d i j)) (mine_at : seat_of seen p ≡ Some (Calling c l None)) where
        abbrev y : Scene ℕ V RwCall RwPoint (Answer V)
        y = sc seen q d i j

        -- the load of q before its step
        before : theirs_by (is_write c) room u s.holders q (Some (Calling d i j)) ≤ suc n
        before = subst (λ o. theirs_by (is_write c) room u s.holders q o ≤ suc n) at (within.theirs q ne)

        -- a step that does not change the plain lock changes no other party's load
        unchanged : y.change ≡ None → theirs_by (is_write c) room u s.holders q (seat_of y.after q) ≤ n → walk.Falls f x seen l q y n
        unchanged none his = grind (arith, after, room)

        its_same : (o : ℕ) → (q ≡ o → ⊥) → its o y.after.plain.holders ≡ its o s.holders
        its_same o not_his = ap (λ (e : Entries). e.holders) (entries-other s q o y.change not_his made.opens)

        module _ (other : q ≡ u → ⊥) where
          reader_gone : y.change ≡ Some (releases q reading) → reads (its q s.holders) ≡ true → leaves (Some (Calling d i j)) ≡ true → seat_of y.after q ≡ Some Idle → walk.Falls f x seen l q y n
          reader_gone gone reader out idle =
              let after : y.after.plain.holders ≡ without_holder q reading s.holders = ap (λ c. (apply_some s c).holders) gone in
              let none : its q y.after.plain.holders ≡ [] = ap (λ (e : Entries). e.holders) (subst (StandsFor y.after.plain q (y.after.span q)) idle (made.good.parties q).stands) in
              let few : base kind ≤ n = grind (arith, before, ne_eqb q u (λ e. absurd (other e)), reader, out) in
              let less : b ≡ false → beside u y.after.plain.holders ≡ false = λ none. ap (beside u) after ∙ beside_gone u q reading s.holders none in
              let same : kind_of u y.after.plain.holders ≡ kind = ap kind_in (its_same u other) in
              record {
                his = rw (ne_eqb q u (λ e. absurd (other e)), ap reads none) (omega arith);
                mine = rw same (mine_gone c room l kind b (beside u y.after.plain.holders) n few less);
                others = λ o not_its not_his. rw (same, its_same o not_his) (theirs_gone (is_write c) room kind b (beside u y.after.plain.holders) (o == u) (reads (its o s.holders)) (leaves (seat_of seen o)) n few two less);
              }
            where
              two : (a : Kind) → kind ≡ Some a → (room ≡ true) × (same_kind writing a ≡ false)
              two a is =
                  grind (arith, two_its u q s.holders other, some_read (its q s.holders) reader, kind_holds u a s.holders is, good.shape.few, good.shape.room, writes_alone a s.holders, kind_counts u a s.holders is, good.exclusive.writer, lt-ltb 1 cap)

          reader_steps : walk.Reaches f x y ⊎ walk.Falls f x seen l q y n
          reader_steps =
              grind (arith, others_step seen q d i j (reads (its q s.holders)) at, sits (reads_so (reads (its q s.holders))) q, reads_or_not, known q other, at, unchanged, reader_gone, ne_eqb q u (λ e. absurd (other e)))

        module _ (is : q ≡ u) where
          -- if somebody holds beside u, at most n rounds remain after the readers beside u have left
          beside_long : b ≡ true → base kind ≤ n
          beside_long some =
              let z = reader_beside known mine_at some in
              reader_long (is_write c) room kind b (leaves (seat_of seen z.0)) n
              (subst (λ r. theirs_of (is_write c) room kind b false r (leaves (seat_of seen z.0)) ≤ suc n) z.3 (subst (λ o. theirs_of (is_write c) room kind b o (reads (its z.0 s.holders)) (leaves (seat_of seen z.0)) ≤ suc n) (ne_eqb z.0 u (λ e. absurd (z.1 e))) (within.theirs z.0 z.2)))

          own_before : theirs_of (is_write c) room kind b true (reads (its q s.holders)) (leaves (Some (Calling d i j))) ≤ suc n
          own_before = rw (eq-eqb q u is) at before

          so : Sits (λ e. same_kinds kind (kind_in e.holders)) q (Some (Calling d i j))
          so = subst (Sits (λ e. same_kinds kind (kind_in e.holders)) q) at (sits (λ e. same_kinds kind (kind_in e.holders)) q (subst (λ z. same_kinds kind (kind_of z s.holders) ≡ true) (sym is) (same_self kind)))

          its_idles : y.change ≡ None → (ko : Option Kind) → kind ≡ ko → (z : Bool) → b ≡ z → walk.Reaches f x y ⊎ walk.Falls f x seen l q y n
          its_idles none None kind_is z b_is = inr (unchanged none (rw (eq-eqb q u is, kind_is) (grind arith)))
          its_idles none (Some k0) kind_is false b_is = inl (its_step_alone seen q d i j k0 (word_is b_is ∙ one_word k0 (its u s.holders) one kind_is) (subst (λ o. Sits (λ e. same_kinds o (kind_in e.holders)) q (Some (Calling d i j))) kind_is so) none)
          its_idles none (Some k0) kind_is true b_is = inr (unchanged none (rw (eq-eqb q u is, b_is) (grind (arith, kind_is, beside_long b_is))))

          out_falls : (ch : Option Change) → y.change ≡ ch → same_kinds kind (from ch) ≡ true → is_out ch ≡ true → is_asking kind ≡ false → leaves (Some (Calling d i j)) ≡ true → seat_of y.after q ≡ Some Idle → walk.Falls f x seen l q y n
          out_falls (Some (releases r k0)) ch kind_is out asks leaving idle =
              let after : y.after.plain.holders ≡ without_holder r k0 s.holders = ap (λ c. (apply_some s c).holders) ch in
              let his : r ≡ u = (subst (IsOpenStep s q) ch made.opens).0 ∙ is in
              let none : its u y.after.plain.holders ≡ [] = ap (λ i. its i y.after.plain.holders) (sym is) ∙ ap (λ (e : Entries). e.holders) (subst (StandsFor y.after.plain q (y.after.span q)) idle (made.good.parties q).stands) in
              let still : beside u y.after.plain.holders ≡ b = ap (beside u) after ∙ (ap (λ i. beside u (without_holder i k0 s.holders)) his ∙ beside_own u k0 s.holders) in
              let was : kind ≡ Some k0 = same_is kind (Some k0) kind_is in
              record {
                his = rw (eq-eqb q u is, ap kind_in none) (grind arith);
                mine = rw (ap kind_in none, still, was) (mine_left c room l k0 b (reads (its q s.holders)) n (subst (λ o. theirs_of (is_write c) room o b true (reads (its q s.holders)) true ≤ suc n) was (subst (λ z. theirs_of (is_write c) room kind b true (reads (its q s.holders)) z ≤ suc n) leaving own_before)) comes (ap is_asking (sym was) ∙ asks));
                others = λ o not_its not_his. rw (ap kind_in none, still, its_same o not_his, ne_eqb o u (λ e. absurd (not_his (is ∙ sym e)))) (grind (arith, asks));
              }
          out_falls ch is_ch kind_is out asks leaving idle = absurd (grind (arith, out))

          turn_falls : (ch : Option Change) → y.change ≡ ch → same_kinds kind (from ch) ≡ true → is_turn ch ≡ true → leaves (Some (Calling d i j)) ≡ false → leaves (seat_of y.after q) ≡ false → walk.Falls f x seen l q y n
          turn_falls (Some (turns r j0 k0)) ch kind_is may before_out after_out =
              let after : y.after.plain.holders ≡ with_kind r j0 k0 s.holders = ap (λ c. (apply_some s c).holders) ch in
              let his : r ≡ u = (subst (IsOpenStep s q) ch made.opens).0 ∙ is in
              let was : kind ≡ Some j0 = same_is kind (Some j0) kind_is in
              let now : kind_of u y.after.plain.holders ≡ Some k0 = ap (kind_of u) after ∙ (ap (λ i. kind_of u (with_kind i j0 k0 s.holders)) his ∙ kind_turned u j0 k0 s.holders was) in
              let still : beside u y.after.plain.holders ≡ b = ap (beside u) after ∙ beside_turned u r j0 k0 s.holders in
              let own_was : theirs_of (is_write c) room (Some j0) b true (reads (its q s.holders)) false ≤ suc n = subst (λ o. theirs_of (is_write c) room o b true (reads (its q s.holders)) false ≤ suc n) was (subst (λ z. theirs_of (is_write c) room kind b true (reads (its q s.holders)) z ≤ suc n) before_out own_before) in
              record {
                his = rw (eq-eqb q u is, now, still, after_out) (its_turned (is_write c) room j0 k0 b (reads (its q y.after.plain.holders)) n may own_was (λ some. omega (arith, beside_long some, base_some kind)));
                mine = rw (now, still, was) (mine_turned c room l j0 k0 b (reads (its q s.holders)) n may own_was);
                others = λ o not_its not_his. rw (now, still, its_same o not_his, ne_eqb o u (λ e. absurd (not_his (is ∙ sym e))), was) (theirs_turned (is_write c) room j0 k0 b (reads (its o s.holders)) (leaves (seat_of seen o)) n may);
              }
          turn_falls ch is_ch kind_is may before_out after_out = absurd (grind (arith, may))

          its_steps : walk.Reaches f x y ⊎ walk.Falls f x seen l q y n
          its_steps =
              ⊎_elim inl
              (⊎_elim (λ none. its_idles none kind refl b refl)
              (λ g. inr (⊎_elim (λ out. out_falls y.change refl g.0 out.0 out.1 out.2 out.3) (λ turn. turn_falls y.change refl g.0 turn.0 turn.1 turn.2) g.1)))
              (its_step seen q d i j kind at so)

      -- the waiting party's own step

      module _ (l : RwPoint) (n : ℕ) (within : walk.Within f x seen l (suc n)) (there : seat_of seen p ≡ Some (Calling c l None)) where
        abbrev mine_sc : Scene ℕ V RwCall RwPoint (Answer V)
        mine_sc = sc seen p c l None

        abbrev onward : Option ℕ → RwPoint
        onward o = elim o [ Some to ↦ Exchange seen.state.words | None ↦ First ]

        abbrev GoesTo : RwPoint → Type 0
        GoesTo e = (seat_of mine_sc.after p ≡ Some (Calling c e None)) × (mine_sc.after.plain ≡ s)

        goes : (o : Option ℕ) → lets cap c seen.state.words ≡ o → Grants seen p c l None ⊎ GoesTo (onward o)
        goes o is = grind (arith, comes, is, get-set_same seen.state.seats p (Calling c (onward o) None) _ there)

        -- the step if nobody holds
        goes_free : seen.state.words ≡ 0 → Grants seen p c l None ⊎ (GoesTo (Exchange 0) × (own_rank c (Exchange 0) ≤ own_rank c l - 1))
        goes_free zero = grind (arith, comes, zero, lt-ltb 0 (min cap reader_limit) (omega (arith, some)), get-set_same seen.state.seats p (Calling c (Exchange 0) None) _ there)

        -- the step if one reader holds and leaves room for the call
        goes_beside : seen.state.words ≡ weight reading → is_write c ≡ false → room ≡ true → Grants seen p c l None ⊎ (GoesTo (Exchange (weight reading)) × (reading_rank (Exchange (weight reading)) ≤ reading_rank l - 1))
        goes_beside alone not_write more = let big : nat_lt 1 (min cap reader_limit) ≡ true = grind (arith, more) in grind (arith, comes, alone, not_write, big, get-set_same seen.state.seats p (Calling c (Exchange (weight reading)) None) _ there)

        on : (e : RwPoint) → GoesTo e → mine_by c room u s.holders e ≤ n → walk.Own f x seen l n mine_sc
        on e goes low = inr (e, goes.0, tt, rw goes.1 low, rw goes.1 (λ o not_its other. omega arith))

        -- a step to a point with a low load, or a grant
        idles : ((e : RwPoint) → mine_by c room u s.holders e ≤ n) → walk.Own f x seen l n mine_sc
        idles low = let o = lets cap c seen.state.words in ⊎_elim inl (λ g. on (onward o) g (low (onward o))) (goes o refl)

        own : (ko : Option Kind) → kind ≡ ko → (z : Bool) → b ≡ z → walk.Own f x seen l n mine_sc
        own ko kind_is true b_is = idles (λ e. rw b_is (omega arith))
        own None kind_is false b_is = grind (arith, on, goes_free (word_is b_is ∙ grind (arith, kind_is)))
        own (Some reading) kind_is false b_is = by (is_write c) refl room refl
          where
            by : (w : Bool) → is_write c ≡ w → (two : Bool) → room ≡ two → walk.Own f x seen l n mine_sc
            by true writes two two_is = idles (λ e. rw (b_is, kind_is, writes) (omega arith))
            by false writes false two_is = idles (λ e. rw (b_is, kind_is, writes, two_is) (omega arith))
            by false writes true two_is =
                let before : mine_of c room l (Some reading) false ≤ suc n = subst (λ z. mine_of c room l (Some reading) z ≤ suc n) b_is (subst (λ o. mine_of c room l o b ≤ suc n) kind_is within.mine) in
                grind (arith, goes_beside (word_is b_is ∙ one_word reading (its u s.holders) one kind_is) writes two_is, on, b_is, kind_is, writes, two_is, before)
        own (Some a) kind_is false b_is = idles (λ e. rw (b_is, kind_is) (grind arith))

    -- Other moves

    its_none : (hs : List Holder) (q : ℕ) (his : Option RwSeat) → its q hs ≡ [] → theirs_by (is_write c) room u hs q his ≡ 0
    its_none hs q his none = grind (arith, room, eqb-true, reads)

    busy_by : (seen : World) → Invariant f seen → (l : RwPoint) (q : ℕ) → 1 ≤ walk.theirs f x seen l q → is_busy (seat_of seen q) ≡ true
    busy_by seen good l q long = grind (arith, its_none, empty_is)

    -- a party that is in no call has not asked to upgrade
    asks_not : (seen : World) → Invariant f seen → (q : ℕ) (j : Option Hold) → seat_of seen q ≡ Some (resting j) → (q == u) ≡ true → is_asking (kind_of u seen.plain.holders) ≡ false
    asks_not seen good q j at is = grind (arith, eqb-true)

    known_after : (seen : World) (q : ℕ) (move : Move RwCall V) (l : RwPoint) → walk.Waits f x seen l → walk.Reaches f x (scene m seen q move) ⊎ Known (scene m seen q move).after
    known_after seen q move l w =
        walk.plain_kept f x (λ s. (o : ℕ) → (o ≡ u → ⊥) → only_read (its o s.holders) ≡ true) seen l w q w.2
        (λ d i j at opens. ⊎_elim (λ is. inr (λ o other. ap only_read (same d i j opens o (λ e. other (sym e ∙ is))) ∙ w.2 o other))
        (λ ne. ⊎_elim inl (λ z. inr (λ o other. grind (arith, z, w.2 o other, read_on o q reading seen.plain.holders)))
        (others_step seen q d i j (reads (its q seen.plain.holders)) at (subst (Sits (reads_so (reads (its q seen.plain.holders))) q) at (sits seen w.3 (reads_so (reads (its q seen.plain.holders))) q (reads_or_not (its q seen.plain.holders) (w.2 q ne))))))
        (cases_eq q u))
        move
      where
        same : (d : RwCall) (i : RwPoint) (j : Option Hold) → IsOpenStep seen.plain q (sc seen q d i j).change → (o : ℕ) → (q ≡ o → ⊥) → its o (sc seen q d i j).after.plain.holders ≡ its o seen.plain.holders
        same d i j opens o ne = ap (λ (e : Entries). e.holders) (entries-other seen.plain q o (sc seen q d i j).change ne opens)

    -- some party's load is not 0
    some_load : (seen : World) (l : RwPoint) → walk.Waits f x seen l → walk.Within f x seen l 0 → ⊥
    some_load seen l w none = by (beside u hs) refl (kind_of u hs) refl
      where
        hs : List Holder
        hs = seen.plain.holders

        by : (z : Bool) → beside u hs ≡ z → (o : Option Kind) → kind_of u hs ≡ o → ⊥
        by true is o kind_is = grind (arith, reader_beside seen w.3 w.2 w.0 is, ne_eqb)
        by false is None kind_is = grind (arith, none.mine, is, kind_is)
        by false is (Some a) kind_is =
            let his = none.theirs u (λ e. grind (arith, true≢false, ap (λ i. is_empty (its i hs)) e ∙ nothing_mine seen w.3 l w.0, kind_is)) in
            grind (arith, none.mine, his, is, kind_is, eqb_self u)

    walks : walk.Walks f x
    walks =
        record {
          fine = λ seen q move good fine. tt;
          keeps = known_after;
          own = λ seen l n w within made. own seen w.3 l n within w.0 (kind_of u seen.plain.holders) refl (beside u seen.plain.holders) refl;
          steps = λ seen l n w within q d i j ne at made.
              ⊎_elim (λ (is : q ≡ u). its_steps seen w.3 l n within w.2 q d i j ne at made w.0 is) (λ (other : q ≡ u → ⊥). reader_steps seen w.3 l n within w.2 q d i j ne at made w.0 other) (cases_eq q u);
          weak = λ seen l next at may. grind arith;
          refuses = λ seen l w q d i j next ne at may. inl (grind arith);
          begins = λ seen l w q d i j ne at may. (grind (arith, room, beside, reads, w.3, at), λ is. grind (arith, leaves, room, beside, reads, asks_not, w.3, at, is));
          leaks = λ s l q h. omega arith;
          busy = λ seen l q w ne long. busy_by seen w.3 l q long;
          some = some_load;
        }

  pub grants_somebody : (n : ℕ) (past : List (ℕ × Move RwCall V)) (rounds : List (List (ℕ × Move RwCall V))) → GrantsSomebody m n past rounds
  grants_somebody n past rounds p c l h here (holds, asks) are few =
      let seen = seen_after m (opening m n) past in
      let hs = seen.plain.holders in
      let u = lead p hs in
      let there = here ∙ ap (λ z. Some (Calling c l z)) holds in
      let at : at_come c = grind (arith, holds, asks, (calls f n past p there).knows) in
      let known : Known p u c at seen = λ q ne. others_read p q hs (one_leads seen.plain (good f n past).exclusive) ne in
      walk.ends f (x p u c at) (walks p u c at) n past rounds l there tt known tt are
      (λ w.
      let none : same_kind reading (leading hs) ≡ true → kind_of u hs ≡ None = λ is. ap kind_in (ap (λ i. its i hs) (lead_none p hs is) ∙ empty_is (its p hs) (nothing_mine p u c at seen w.3 l w.0)) in
      let leads : same_kind reading (leading hs) ≡ false → kind_of u hs ≡ Some (leading hs) = λ is. lead_kind p hs is (one p u c at seen w.3) in
      record {
        mine = omega (arith, few, mine_start c room l (leading hs) (kind_of u hs) (beside u hs) (reads hs) none leads);
        theirs = λ q ne. omega (arith, few, theirs_start (is_write c) room (leading hs) (kind_of u hs) (beside u hs) (q == u) (reads (its q hs)) (leaves (seat_of seen q)) (reads hs) none leads (reads_in q hs));
      })

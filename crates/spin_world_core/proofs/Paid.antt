-- What holds at a step of a party, by what the object shows of its table (`Pays`).
use Rattle.spin_world_core.proofs.Names.{◌≤◌, if◌then◌else◌, LockKind, ◌≡◌, ℕ, zero, suc, Bool, true, false, is_some, Option, Some, None, List, [], ◌∷◌, ◌++◌, option_to_list, ap, sym, ◌∙◌, subst, arith, and_parts, false≢true, Plain, Ask, Change, gets, is_open, is_open_to, apply_some, IsOpenStep, entries, Hold, Next, Continue, Answers, Stepped, Move, Step, Weak, StepKind, weak, is_again, by_step, Asked, place_of, encoded, is_step_of, BelongsTo, Said, own_steps, AnyOf, Mark, first_word, steps_alone, way_of, is_due_by, LooksElse, GetsByWay, mark_of, Machine, entries_held, own, failures, changes, IsBeginning, RightBy, word_number, Act, load_for, retry, either, stays, step_by, change_by, can_by, refusal_by, makes_by, step_kind_by, Table, begin_of, HasPhase, tries_of, goes_of, limit}
use Rattle.spin_world_core.proofs.Steps.{Makes, told, played, GoesOnOpen, Continues, Moves, NextIs, AnswersWithin, AtStep, Plays}
use Rattle.spin_world_core.proofs.Operating.{change_is, fits_made}
use Rattle.spin_world_core.proofs.Stands.{stand_of, held_at, stand-mine}
use Rattle.spin_world_core.proofs.Rows.{sure_by, Known, Opened, OwesRight, Branch, goes, finds_open, loses, misses, Branched, need_of, Needs, needs-mine, goes_within, ends_within, any_map, moment_of, Row, IsSound, Expects, known-other}
use Rattle.spin_world_core.proofs.Shapes.{AimsRow, SoonRow, Notes, OwesBy, is_answer, row_of, KnowsRow, Knows, AtPoint, InCall, FollowsRow, Follows, Owes, OwesRow, answers_by, BeginsRow, aim_by, aimed, Aimed}

aims_try : {W L A : Type 0} (tries due : Option Ask) (act : Act W L A) (made : List Change) (ask : Ask) (p : ℕ) → tries ≡ Some ask → made ≡ [] → Aimed tries due act made p → aim_by (Some ask) act p ≡ aimed p (Some ask) (aim_by (Some ask) act p)
aims_try tries due act made ask p is none aims = grind arith

-- If a try is due and what it asks is open, the call gets it by this step. If no try is due, the step is a look.
gets_by : {W L A : Type 0} (kind : LockKind) (what : Asked) (act : Act W L A) (p : ℕ) (s : Plain) (span : List Mark) (step : Option Change) (made : List Change)
    → own p span ≡ made → Needs (need_of kind what made act) p span → Aimed (tries_of what) (goes_of what made) act made p
    → ((e : Change) → sure_by act p ≡ Some e → is_open s e ≡ true → step ≡ Some e) → GetsByWay kind p what span s step (by_step (step_kind_by what act))
gets_by kind what act p s span step made is needs aims got = λ ask aim.
    subst (λ cs. let way = way_of kind what cs in (is_due_by way p span ≡ true → is_open_to s p ask ≡ true → step ≡ Some (gets p ask)) × LooksElse way p span (by_step (step_kind_by what act)))
    (sym is) (grind (arith, got (gets p ask), subst (λ cs. goes_of what cs ≡ Some ask) is aim))

abbrev move_of : {C V : Type 0} → Bool → Move C V
move_of weakly = if weakly then Weak else Step

-- `Open` holds if the result is `finds_open` or `loses`
abbrev Aims : Branch → Type 0 → Type 0
Aims finds_open Open = Open
Aims loses Open = Open
Aims branch Open = Unit {0}

-- the result of a step that makes no plain step, if it finds the number n in its word
abbrev found_by : {W L A : Type 0} → ℕ → Act W L A → ℕ → Branch
found_by n (load_for f step found missed) p = either (is_some (f n)) finds_open (misses (step p))
found_by n (retry k f step won found missed) p = either (is_some (f n)) loses (misses (step p))
found_by n act p = elim (sure_by act p) [ None ↦ goes | Some c ↦ misses c ]

-- the result of a step, by whether it makes its plain step
abbrev branch_by : Option Change → Branch → Branch
branch_by step branch = elim step [ None ↦ branch | Some c ↦ goes ]

-- What the form of a step shows
module _ {W V C L A : Type 0} {t : Table W V C L A} (n : Notes t) (p : ℕ) (what : Asked) (s : Plain) (w : W) (span : List Mark) (made : List Change)
    (Comes : Bool → Option Change → StepKind → Branch → Next L A → Type 0) where
  -- what is shown of a step or of a spurious failure
  record Shown (weakly : Bool) (step : Option Change) (r : StepKind) (branch : Branch) (u : W) (next : Next L A) : Type 0 where
    makes : Makes n p s span step r u
    open makes use *
    branched : Branched branch s step r
    comes : Comes weakly step r branch next

  module _ (i : ℕ) (act : Act W L A) where
    abbrev change : Option Change
    change = change_by t.memory i act p w

    abbrev found : Branch
    found = found_by (word_number t.memory (place_of i act) w) act p

    abbrev moved : Stepped W V L A
    moved = step_by t.memory i act w

    abbrev kind_of : StepKind
    kind_of = by_step (step_kind_by what act)

    record Formed : Type 0 where
      can : can_by t.memory i act w ≡ true
      step : Shown false change kind_of (branch_by change found) moved.words moved.next
      -- a step makes the plain step of `sure_by` whenever this plain step is open
      gets : (e : Change) → sure_by act p ≡ Some e → is_open s e ≡ true → change ≡ Some e
      -- a step that makes no plain step, though its plain step is open, answers its call or is a retry
      counts : (d : Change) → makes_by act p ≡ Some d → is_open s d ≡ true → change ≡ None
          → is_answer (told t.says moved.next) ≡ false → is_again kind_of ≡ true
      -- a step with the result `finds_open` or `loses` shows that what a try asks is open
      aims : (ask : Ask) → aim_by (Some ask) act p ≡ aimed p (Some ask) (aim_by (Some ask) act p) → change ≡ None → Aims (branch_by change found) (is_open_to s p ask ≡ true)
      -- a spurious failure of a weak exchange: the call may fail so, and has made exactly the plain steps before this exchange
      refuses : (next : Next L A) → refusal_by act ≡ Some next → Comes true None weak goes next × (what.is_weak ≡ true) × (made ≡ what.before_weakly p)

    formed : OwesBy n p what s w made Comes i act → ((d : Change) → makes_by act p ≡ Some d → is_step_of t.lock_kind d ≡ true) → Expects t.lock_kind act p s span
        → t.memory.numbers w ≡ encoded t.lock_kind s → n.Shape s → Formed
    formed owes own expects encodes shape =
        let first : word_number t.memory 0 w ≡ first_word t.lock_kind s = grind arith in record {
          can = grind arith;
          step = record { makes = grind (arith, own, expects, first); branched = grind arith; comes = grind arith };
          gets = grind arith;
          counts = grind arith;
          aims = grind arith;
          refuses = grind arith;
        }

module _ {W V C L A B : Type 0} {t : Table W V C L A} {m : Machine W V C L B} {n : Notes t} (f : Plays m n) where
  abbrev kind : LockKind
  kind = t.lock_kind

  right_by : (weakly : Bool) (what : Asked) (said : Said) (p : ℕ) (span : List Mark) → Opened span
      → AnyOf (λ steps. own p span ≡ steps) (own_steps (what.answers said) p) → OwesRight weakly what said p span
      → RightBy (move_of {C = C} {V = V} weakly) what said p span
  right_by weakly what said p span opened is owed = grind (arith, moment_of (what.answers said) p span opened is)

  answers_within : (k : ℕ) (w : W) (c : C) (l : L) (h : Option Hold) → answers_by t k w c l h ≡ true → AnswersWithin (played t m) k w c l h
  answers_within zero w c l h soon = absurd (false≢true soon)
  answers_within (suc k) w c l h soon = λ v j is. grind (arith, f.words w v c l h, f.continues w v c l h j is, answers_within k, soon)

  -- a step of the call, at the row of its point
  module _ (p : ℕ) (c : C) (l : L) (h : Option Hold) (s : Plain) (w : W) (span : List Mark) (row : Row)
      (at : AtPoint n p c l h s w span (Some row)) (sound : IsSound kind (t.asks c h) p (Some row)) where
    abbrev what : Asked
    what = t.asks c h

    abbrev known : Known kind what (t.act c l h) row p s span
    known = at.knows.0

    abbrev Comes : Bool → Option Change → StepKind → Branch → Next L A → Type 0
    Comes = Follows n p c h s w span row

    abbrev spanned : Option Change → StepKind → List Mark
    spanned step r = mark_of p step r s ∷ span

    made_now : (step : Option Change) (r : StepKind) (cs : List Change) → row.made p ++ option_to_list step ≡ cs → own p (spanned step r) ≡ cs
    made_now step r cs is = grind arith

    -- a step with this result, and how the call continues
    module _ {weakly : Bool} {step : Option Change} {r : StepKind} {branch : Branch} {u : W} {next : Next L A}
        (is : Shown n p what s w span (row.made p) Comes weakly step r branch u next) where
      goes_to : (j : L) (o : Option Row) → IsSound kind what p o → FollowsRow n p c h s w span row step r branch j o
          → Continues n o p c j h (apply_some s step) (spanned step r)
      goes_to j None sound follows = absurd follows
      goes_to j (Some to) sound follows =
          let retries : failures p (spanned step r) ≤ changes kind p (spanned step r) = grind (arith, at.retries, is.fails) in
          let found = needs-mine p s step r span (need_of kind what (to.made p) (t.act c j h)) _ follows.finds in
          let made = made_now step r (to.made p) follows.made in
          let expects : Expects kind (t.act c j h) p (apply_some s step) (spanned step r) = grind arith in
          let within = goes_within p s step r span (limit kind what) kind branch (to.made p) row.spent to.spent made
          follows.spends is.branched known.spent sound.0 retries in
          let stands = stand-mine s p step row.stand to.stand is.opens known.stand follows.stands in
          let so_far = any_map (λ steps. to.made p ++ to.rest p ≡ steps)
          (λ steps. IsBeginning (own p (spanned step r)) steps) (own_steps (what.answers to.said) p)
          (λ steps e. (to.rest p, ap (λ cs. cs ++ to.rest p) made ∙ e)) sound.1 in
          record {
            knows = (search (stands, made, within.0, expects, found, is, known.opened), follows.knows);
            own_so_far = (to.said, so_far);
            in_time = within.1;
          }

      followed : (next : Next L A) → Comes weakly step r branch next → NextIs n (move_of weakly) p c h (apply_some s step) (spanned step r) (told t.says next)
      followed (Continue j) follows = goes_to j (row_of n c j h) (f.pays.sound p c j h) follows
      followed (Answers a after) follows =
          let made = any_map (λ steps. row.made p ++ option_to_list step ≡ steps) (λ steps. own p (spanned step r) ≡ steps)
          (own_steps (what.answers (t.says a)) p) (λ steps e. made_now step r steps e) follows.made in
          let stands = stand-mine s p step row.stand (stand_of after) is.opens known.stand follows.stands in
          let right = right_by weakly what (t.says a) p (spanned step r) (is.opens, known.opened) made follows.right in
          let ends = ends_within (limit kind what) kind (row.made p) row.spent p s step r span sound.0 at.retries
          known.spent follows.in_time in search (stands ∙ sym (held_at p after), made, right, ends)

      -- a try continues only as `MayTryOn` allows
      tried_on : (ask : Ask) → tries_of what ≡ Some ask → (step ≡ None → Aims branch (is_open_to s p ask ≡ true))
          → GoesOnOpen ask p span s (told t.says next) step
      tried_on ask asks shows = grind (arith, is.comes, asks, shows)

      moves_by : Moves n (move_of weakly) p c h s span step r u (told t.says next)
      moves_by = record { makes = is.makes; goes_on = followed next is.comes }

    -- a spurious failure changes no word
    refused : (next : Next L A) → Comes true None weak goes next
        → Shown n p what s w span (row.made p) Comes true None weak goes w next
    refused next comes = grind arith

    at_row : Owes n p c h s w span row (t.word l) (t.act c l h)
        → Aimed (tries_of what) (goes_of what (row.made p)) (t.act c l h) (row.made p) p → SoonRow n p c l h s w span (Some row)
        → (v : Option V) → HasPhase kind.makes_value s.phase v → AtStep m n p c l h s v w span
    at_row owes aims soon v phase =
        let act = t.act c l h in
        let is = formed n p what s w span (row.made p) Comes (t.word l) act owes
        (λ d made. (fits_made kind what _ _ d (and_parts _ _ (f.pays.fits p c l h)).0 made).0)
        known.expects at.encodes at.shape in
        let values = f.values p c l h s v w at.encodes at.shape phase is.step.opens in record {
          can = is.can;
          steps = rw (f.words w v c l h, values.tells) (moves_by is.step);
          counted = rw values.tells (λ u d names. is.counts d (change_is _ act p u d names));
          due = gets_by kind what act p s span _ (row.made p) known.made known.needs aims is.gets;
          tries_on = λ ask asks none.
              let aims = is.aims ask (aims_try (tries_of what) _ act (row.made p) ask p asks (sym known.made ∙ none) aims) in
              rw values.tells (tried_on is.step ask asks aims);
          undisturbed = λ may. answers_within (steps_alone what) w c l h (grind arith);
          refuses = λ next refuses.
              let other = f.refuses c l h next refuses in rw other.2 (moves_by (refused other.0 (is.refuses other.0 other.1).0));
          weakly = λ next refuses.
              let may = is.refuses _ (f.refuses c l h next refuses).1 in (may.1, known.made ∙ may.2);
          values = values;
        }

  -- a party in a call takes its next step
  pub at_step : {p : ℕ} {c : C} {l : L} {h : Option Hold} {s : Plain} {w : W} {span : List Mark} (v : Option V) → InCall n p c l h s w span
      → HasPhase kind.makes_value s.phase v → AtStep m n p c l h s v w span
  at_step {p} {c} {l} {h} {s} {w} {span} v here phase = by (row_of n c l h) here (f.pays.sound p c l h)
      (f.pays.owes p c l h s w span) (f.pays.aims p c l h) (f.pays.soon p c l h s w span)
    where
      by : (o : Option Row) → AtPoint n p c l h s w span o → IsSound kind (t.asks c h) p o → OwesRow n p c l h s w span o
          → AimsRow n p c l h o → SoonRow n p c l h s w span o → AtStep m n p c l h s v w span
      by None at sound owes aims soon = absurd at.knows
      by (Some row) at sound owes aims soon = at_row p c l h s w span row at sound (owes at) aims soon v phase

  module _ (p : ℕ) (c : C) (l : L) (h : Option Hold) (s : Plain) where
    -- another party's step keeps what the party knows
    others_at : (q : ℕ) (step : Option Change) (r : StepKind) (span : List Mark) (o : Option Row) → (q ≡ p → ⊥) → IsOpenStep s q step
        → (n.Knows c l h p s span → n.Knows c l h p (apply_some s step) (mark_of q step r s ∷ span)) → KnowsRow n c l h p s span o
        → KnowsRow n c l h p (apply_some s step) (mark_of q step r s ∷ span) o
    others_at q step r span o ne may stays knows = grind (arith, stays, λ (row : Row). known-other p q s step r span ne kind (t.asks c h) (t.act c l h) row may)

    pub knows_beside : (span : List Mark) (q : ℕ) (step : Option Change) (r : StepKind) → (q ≡ p → ⊥) → n.Shape s → IsOpenStep s q step
        → BelongsTo kind step → Knows n c l h p s span → Knows n c l h p (apply_some s step) (mark_of q step r s ∷ span)
    knows_beside span q step r ne shape may belongs knows = grind (arith, others_at)

    -- what a party knows when its call begins
    begins_at : (o : Option Row) → entries p s ≡ entries_held p h → BeginsRow n c l h p s o → KnowsRow n c l h p s [] o
    begins_at None mine begins = absurd begins
    begins_at (Some row) mine begins = grind arith

    pub knows_first : begin_of t c h ≡ Some l → entries p s ≡ entries_held p h → Knows n c l h p s []
    knows_first e mine = begins_at (row_of n c l h) mine (rw e at (f.pays.begins p c h s))

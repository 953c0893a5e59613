-- Proofs of what users of a read-write lock may rely on.
use Rattle.spin_world.specs.Rw.{RwMachine}
use Rattle.spin_world_core.specs.Runs.{state_at}
use Rattle.spin_world_core.specs.Users.{seen_at}
use Rattle.spin_world_core.specs.Runs.{Schedule}
use Rattle.spin_world.proofs.RwNames.{◌≡◌, ℕ, ◌+◌, ◌==◌, ◌↔◌, true, Option, Some, None, List, ◌∷◌, ◌++◌, slice_get, ap, sym, ◌∙◌, arith, Plain, Kind, reading, asking, Change, is_holder, is_only, count_kind, rw_word, weight, apply_some, IsOpenStep, entries, IsExclusive, bit, empty_is, is_holder-own, reader_goes, one_of_each, only_asking-word, empty-word, word_of, Hold, RwCall, RwPoint, Mark, []}
use Rattle.spin_step_more.proofs.Upgrading.{readers_only_go, alone_when_gone}
use Rattle.spin_step.specs.declared.answer.Answer.TheVariants.{Granted, Done}
use Rattle.spin_step.specs.declared.place.Seat.TheVariants.{Calling, Holding}
use Rattle.spin_step.specs.declared.schedule.Move.TheVariants.{Step}
use Rattle.spin_step.specs.declared.schedule.Outcome.TheVariants.{Answered}
use Rattle.spin_step.specs.Schedules.{State, moves_at, at_first}
use Rattle.spin_world_core.proofs.Shapes.{Knows}
use Rattle.spin_world_core.proofs.Steps.{Plays}
use Rattle.spin_world_core.specs.Runs.{Seen, scene, opening, entries_of}
use Rattle.spin_world_core.specs.Users.{seen_after, passes, ReadsAgreeAcross}
use Rattle.spin_step_more.specs.RwCalls.{rw_machine}
use Rattle.spin_world.specs.Standing.{StandTogether, KeepsWritersOut, less, Downgrades, readers_gone, KeepsAsking, AllGone, OpensForAll, converts}
use Rattle.spin_world.proofs.RwOwed.{holder_by, rw_notes, rw_facts}
use Rattle.spin_world_core.proofs.Reached.{good, numbers_are, stands, calls, calls_so, StandsSo}
use Rattle.spin_step.proofs.Lists.{get-set_same}
use Rattle.spin_world_core.proofs.Preserved.{Invariant}
use Rattle.spin_world_core.proofs.Every.{kept}
use Rattle.spin_step.proofs.Schedules.{after-append}
use Rattle.spin_world_core.proofs.Guards.{reads_agree_across, seen_after-append}

-- Which parties hold together with a reader that asks to upgrade

goes_some : (s : Plain) (p q : ℕ) (step : Option Change) → IsExclusive s → is_holder p asking s.holders ≡ true → IsOpenStep s q step → is_holder p asking (apply_some s step).holders ≡ true
    → count_kind reading (apply_some s step).holders + bit (passes reader_goes step) ≡ count_kind reading s.holders
goes_some s p q step alone found may stays = grind (arith, readers_only_go s p, alone)

module _ {V : Type 0} (v : V) (cap : ℕ) where
  -- the next step of a call answers `Granted` exactly if the word is that of one reader that asks to upgrade
  upgraded : (s : State ℕ V RwCall RwPoint) (p : ℕ) (c : RwCall) (l : RwPoint) (h : Option Hold)
      → StandsSo (rw_notes v cap) (λ e. is_holder p asking e.holders) p c l h
      → ((moves_at (rw_machine v cap) s p Step (Some (Calling c l h))).outcome ≡ Answered Granted None) ↔ ((s.words == weight asking) ≡ true)
  upgraded s p c l h asks = grind (arith, asks)

  -- Over a whole schedule

  abbrev m : RwMachine V
  m = rw_machine v cap

  abbrev f : Plays m (rw_notes v cap)
  f = rw_facts v cap

  words_are : (n : ℕ) (past : Schedule RwCall V) → (state_at m n past).words ≡ rw_word (seen_at m n past).plain
  words_are n past = cc (numbers_are f n past)

  pub stand_together : (n : ℕ) (past : Schedule RwCall V)
      → StandTogether cap (state_at m n past).words (seen_at m n past).plain
  stand_together n past = grind (arith, good f n past, words_are n past)

  pub zero_when_free : (n : ℕ) (past : Schedule RwCall V)
      → ((state_at m n past).words ≡ 0) ↔ ((seen_at m n past).plain.holders ≡ [])
  zero_when_free n past = (λ zero. empty_is _ (empty-word _ 0 (sym (words_are n past) ∙ zero)), λ none. words_are n past ∙ ap word_of none)

  -- An upgrade is opened by releases

  stays_now : (p : ℕ) (seen : Seen ℕ V RwCall RwPoint) (es : Schedule RwCall V) → KeepsAsking p m seen es → is_holder p asking seen.plain.holders ≡ true
  stays_now p seen [] stays = stays
  stays_now p seen (e ∷ es) stays = stays.0

  gone_through : (p : ℕ) (seen : Seen ℕ V RwCall RwPoint) (es : Schedule RwCall V) → Invariant f seen → KeepsAsking p m seen es
      → (count_kind reading (seen_after m seen es).plain.holders + readers_gone m seen es ≡ count_kind reading seen.plain.holders)
      × (is_holder p asking (seen_after m seen es).plain.holders ≡ true)
  gone_through p seen [] here stays = (omega arith, stays)
  gone_through p seen (e ∷ es) here stays = let sc = scene m seen e.0 e.1 in let is = kept f seen e.0 e.1 here in
      let rest = gone_through p sc.after es is.good stays.1 in
      let one = goes_some seen.plain p e.0 sc.change here.exclusive stays.0 is.keeps.opens (stays_now p sc.after es stays.1) in
      (omega (arith, rest.0, one), rest.1)

  pub opens_by_releases : (n : ℕ) (past further : Schedule RwCall V) → OpensForAll m n past further
  opens_by_releases n past further p stays = let all = past ++ further in let before = seen_at m n past in
      let later = seen_at m n all in
      let gone = gone_through p before further (good f n past) stays in
      let joined = seen_after-append m (opening m n) past further in
      let readers : count_kind reading later.plain.holders + readers_gone m before further ≡ count_kind reading before.plain.holders = rw joined gone.0 in
      let found : is_holder p asking later.plain.holders ≡ true = rw joined gone.1 in
      let here = good f n all in
      let alone = alone_when_gone later.plain p here.exclusive found in
      let left : (is_only p asking later.plain.holders ≡ true) ↔ AllGone m n past further =
      grind (arith, readers, alone) in
      let now = state_at m n all in
      let told : is_only p asking later.plain.holders ≡ (now.words == weight asking) = only_asking-word later.plain p now.words (one_of_each later.plain here.exclusive) found (sym (words_are n all)) in
      record {
        readers = readers;
        opens = left;
        granted = λ c l h there. let asks = sym (is_holder-own p asking later.plain.holders) ∙ found in
            let step = upgraded now p c l h (calls_so f n all (λ e. is_holder p asking e.holders) p there asks) in
            let at = ap (λ o. (moves_at m now p Step o).outcome) there in
            (λ e. left.0 (told ∙ step.0 (sym at ∙ e)), λ e. at ∙ step.1 (sym told ∙ left.1 e));
      }

  -- A downgrade is one step

  downgraded : (s : State ℕ V RwCall RwPoint) (p : ℕ) (c : RwCall) (l : RwPoint) (h : Option Hold) (held : Hold) → less c ≡ Some held → slice_get s.seats p ≡ Some (Calling c l h)
      → ((moves_at m s p Step (Some (Calling c l h))).outcome ≡ Answered Done None)
      × (slice_get (moves_at m s p Step (Some (Calling c l h))).next.seats p ≡ Some (Holding held))
  downgraded s p c l h held is there = grind (arith, λ (now : Hold). get-set_same s.seats p (Holding now) (Calling c l h) there)

  -- a party in a call that downgrades is a holder
  holds_there : (p : ℕ) (c : RwCall) (l : RwPoint) (h : Option Hold) (held : Hold) (s : Plain) (span : List Mark) → less c ≡ Some held → Knows (rw_notes v cap) c l h p s span → KeepsWritersOut p s
  holds_there p c l h held s span is knows = grind (arith, knows, λ (k : Kind). holder_by p k s)

  -- after the downgrade the party is still a holder
  holds_after : (p : ℕ) (held : Hold) (c : RwCall) (s : Plain) → less c ≡ Some held → entries p s ≡ entries_of p held → KeepsWritersOut p s
  holds_after p held c s is mine = grind (arith, λ (k : Kind). holder_by p k s)

  pub downgrades : (n : ℕ) (past : Schedule RwCall V) → Downgrades m n past
  downgrades n past p c l h held is there = let all = past ++ (p, Step) ∷ [] in let before = seen_at m n past in
      let later = seen_at m n all in
      let now = state_at m n past in
      let step = downgraded now p c l h held is there in
      let at = ap (λ o. (moves_at m now p Step o).outcome) there in
      let seat : slice_get (state_at m n all).seats p ≡ Some (Holding held) =
      rw (after-append m (at_first m n) past ((p, Step) ∷ [])) (ap (λ o. slice_get (moves_at m now p Step o).next.seats p) there ∙ step.1) in
      search (
        holds_there p c l h held before.plain (before.span p) is (calls f n past p there).knows,
        at ∙ step.0,
        seat,
        holds_after p held c later.plain is (stands f n all p seat),
      )

  -- Reads across conversions

  pub looks_agree : (n : ℕ) (past : Schedule RwCall V) → ReadsAgreeAcross converts m n past
  looks_agree n past = reads_agree_across f converts (grind arith) n past

-- Steps keep what is known of the value. Moves that write nothing keep it. A holder that releases writes the value that it leaves.
use Rattle.std.proofs.Common.{arith, ◌≡◌, ℕ, Bool, true, Option, Some, List, [], ◌++◌, sym, ap, ◌∙◌}
use Rattle.std.specs.Option.{IfSome}
use Rattle.std.proofs.lemmas.List.Sums.{fold-append}
use Rattle.std.proofs.lemmas.List.Folds.{fold-map}
use Rattle.spin_step.specs.declared.schedule.Move.{Move}
use Rattle.spin_step.specs.declared.schedule.Outcome.{Outcome}
use Rattle.spin_step.specs.Schedules.{Entry}
use Rattle.spin_core.specs.Cell.{Use, off, reads, writes, Owed, Learns, Shows}
use Rattle.spin_core.specs.Own.{by_party}
use Rattle.spin_core.specs.Passes.{IsOneStep, Writes}
use Rattle.spin_core.specs.Traced.{Learnt, grown_at}
use Rattle.spin_core.specs.Values.{written, left, latest, IsLast, last_value, Leaves}
use Rattle.spin_core.specs.declared.tie.Opening.{Opening}
use Rattle.spin_core.specs.declared.trace.Trace.{Trace}

module _ {C V : Type 0} where
  pub latest_left : (v : V) (log : List (Entry C V)) (p : ℕ) (own : List (Move C V)) → latest v (log ++ by_party p own) ≡ left own (latest v log)
  latest_left v log p own = let by : V → Entry C V → V = λ v e. written e.1 v in
      fold-append by v log (by_party p own) ∙ fold-map by (λ move. (p, move)) (latest v log) own

  -- a step of a call writes nothing; after a write the moves leave the written value
  pub step_leaves : {A : Type 0} (goes_on : Bool) (c : C) (end : Outcome A V) (own : List (Move C V)) (outs : List (Outcome A V)) → IsOneStep goes_on c end own outs → (v : V) → left own v ≡ v
  step_leaves goes_on c end own outs is v = grind arith

  pub write_leaves : {A : Type 0} (x : V) (goes_on : Bool) (c : C) (end : Outcome A V) (own : List (Move C V)) (outs : List (Outcome A V)) → Writes x (IsOneStep goes_on c end) own outs → (v : V) → left own v ≡ x
  write_leaves x goes_on c end own outs (rest, comes, is, came, step) v = rw is (step_leaves goes_on c end rest comes step x)

  module _ (opening : Opening V) where
    module _ {S : Type 0} (own : List (Move C V)) (t : Trace (Entry C V) S) (word : S) (p : ℕ) where
      -- what moves must show, if they write as `Leaves` says
      pub owed : (u u' : Use) (shown : Option V) → Leaves u u' shown own → Owed (last_value opening) t (grown_at t word (by_party p own)) u u' shown
      owed u u' shown l = grind (arith, latest_left opening.value t.entries p own)

    -- a lock opens with the value that is in it
    pub opens_last : (es : List (Entry C V)) (x : V) → es ≡ [] → opening.value ≡ x → IsLast opening es x
    opens_last es x none is told = ap (latest opening.value) none ∙ is

    -- What a step tells its party of the value written last.
    module _ (u u' : Use) (before after : Option V) (es : List (Entry C V)) where
      abbrev Tells : Type 0 → Type 0
      Tells S = Learnt {S = S} (last_value opening) u u' before after es

      abbrev Last : V → Type 0
      Last = IsLast opening es

      learns : {S : Type 0} → Tells S → Learns Last u u' before after
      learns learnt = rw (← learnt.1) learnt.2

      -- a party that begins to use the value, or reads on, is shown the value written last
      pub shows_last : {S : Type 0} → Tells S → (u ≡ writes → u' ≡ reads) → Shows u' before after → IfSome after Last
      shows_last learnt so shows = grind (arith, learns learnt)

      -- a party that stops reading has read the value written last
      pub read_last : {S : Type 0} → Tells S → u ≡ reads → u' ≡ off → IfSome before Last
      read_last learnt is is' = rw (is, is') at (learns learnt)

      -- when a party stops writing, the value that it leaves is the value written last
      pub gave : {S : Type 0} (x : V) → Tells S → u ≡ writes → u' ≡ off → before ≡ Some x → Last x
      gave x learnt is is' some = rw (is, is', some) at (learns learnt)

    -- the value that a party wrote last is the one that it left
    pub wrote : (log es now : List (Entry C V)) (p : ℕ) (own : List (Move C V)) (x y : V) → now ≡ log ++ es → es ≡ by_party p own → ((v : V) → left own v ≡ y) → IsLast opening now x → opening.told ≡ true → y ≡ x
    wrote log es now p own x y is mine all so told =
        let here : latest opening.value now ≡ y = rw (is, mine, latest_left opening.value log p own) (all (latest opening.value log)) in
        sym here ∙ so told

    -- Let x be the last value of a history, and y that of a longer one. Then y is the last value that the new moves
    -- write, or x if they write nothing.
    pub read_on : (old new more : List (Entry C V)) (x y : V) → opening.told ≡ true → new ≡ old ++ more → IsLast opening old x → IsLast opening new y → latest x more ≡ y
    read_on old new more x y told grew is is' = rw (← is told, ← fold-append, ← grew) (is' told)

-- A party that has asked to upgrade gets its upgrade in three rounds. All other readers leave within the first two
-- rounds.
use Rattle.spin_step.specs.Plain.{comes}
use Rattle.spin_laws.proofs.Names.{Plays, seat_of, ◌≡◌, ℕ, ◌≤◌, ◌==◌, Bool, true, false, Option, Some, List, [], ◌∷◌, refl, sym, ◌∙◌, arith, Plain, Kind, reading, upgradable, asking, writing, Holder, Change, gets, releases, turns, is_holder, with_kind, count_kind, weight, rw_word, entries, IsOpenStep, IsExclusive, ◌-◌, ◌⊎◌, ◌||◌, filter, sum_by-cons, list_any, same_kind, without_holder, apply, is_open, entries_after, entries-own, against, one_of, by_kinds, all_kinds, sum-less, Answer, Done, Seat, Calling, Move, Step, Machine, after, Seen, Scene, scene_at, opening, seen_after, get-set_same, eqb_self, Invariant, in_call, calls_so, RwCall, Upgrade, RwPoint, Asking, rw_machine, rw_notes, rw_facts, holder_by, Test, grants_party, refuses_weakly, UpgradesInThree, either}
use Rattle.spin_step.proofs.Exclusive.{Lets, lets}
use Rattle.spin_world.proofs.RwNames.{Entries, one_of_each, only_asking-word}
use Rattle.spin_step_more.proofs.Readers.{beside_asking}
use Rattle.spin_step_more.proofs.Upgrading.{alone_when_gone}
use Rattle.std.proofs.Common.{true≢false}
use Rattle.spin_step.specs.declared.place.Hold.TheVariants as hold
use Rattle.spin_laws.proofs.Leaving as leaving

-- While a party asks to upgrade, no other party begins to read.

without_other : (q r : ℕ) (k : Kind) (hs : List Holder) → is_holder q reading hs ≡ false → is_holder q reading (without_holder r k hs) ≡ false
without_other q r k [] none = none
without_other q r k (h ∷ hs) none = grind (arith, none, without_other q r k hs)

with_other : (q r : ℕ) (j k : Kind) (hs : List Holder) → same_kind reading k ≡ false → is_holder q reading hs ≡ false → is_holder q reading (with_kind r j k hs) ≡ false
with_other q r j k [] other none = none
with_other q r j k (h ∷ hs) other none = grind (arith, other, none, with_other q r j k hs)

nobody_comes : (s : Plain) (p q : ℕ) (k : Kind) → IsExclusive s → is_holder p asking s.holders ≡ true → Lets s q (comes k) → ⊥
nobody_comes s p q k alone found let_in = grind (arith, beside_asking s p alone found, all_kinds s.holders, by_kinds (against k) s.holders)

not_reading : (s : Plain) (p q : ℕ) (c : Change) → IsExclusive s → is_holder p asking s.holders ≡ true → is_holder q reading s.holders ≡ false → is_open s c ≡ true → is_holder q reading (apply s c).holders ≡ false
not_reading s p q (gets r ask) alone asks none may =
    grind (arith, none, lets s r ask may, nobody_comes s p r reading alone asks, nobody_comes s p r upgradable alone asks, nobody_comes s p r writing alone asks, with_other q r upgradable writing s.holders refl none, with_other q r asking writing s.holders refl none)
not_reading s p q (releases r k) alone asks none may = without_other q r k s.holders none
not_reading s p q (turns r j k) alone asks none may =
    absurd (grind (arith, beside_asking s p alone asks, sum-less (one_of writing) r writing s.holders, sum-less (one_of upgradable) r upgradable s.holders, may))
not_reading s p q _ alone asks none may = none

no_readers : (hs : List Holder) → ((q : ℕ) → is_holder q reading hs ≡ false) → count_kind reading hs ≡ 0
no_readers [] none = refl
no_readers (h ∷ hs) none =
    grind (arith, none h.party, eqb_self h.party, sum_by-cons (λ (g : Holder). one_of reading g.kind) h hs, no_readers hs (λ q. grind (arith, none q)))

abbrev pub any_of : Kind → Entries → Bool
any_of kind e = list_any (λ h. same_kind kind h.kind) e.holders

pub any_own : (kind : Kind) (q : ℕ) (hs : List Holder) → list_any (λ h. same_kind kind h.kind) (filter (λ h. h.party == q) hs) ≡ is_holder q kind hs
any_own kind q [] = refl
any_own kind q (h ∷ hs) = grind (arith, any_own kind q hs)

abbrev at_upgrade : RwPoint → Type 0
at_upgrade l = elim l [ Asking ↦ Unit {0} | _ ↦ ⊥ ]

module _ {V : Type 0} (v : V) (cap : ℕ) where
  abbrev m : Machine ℕ V RwCall RwPoint (Answer V)
  m = rw_machine v cap

  abbrev f : Plays m (rw_notes v cap)
  f = rw_facts v cap

  abbrev World : Type 0
  World = Seen ℕ V RwCall RwPoint

  module _ (p : ℕ) where
    abbrev goal : Test V RwCall RwPoint (Answer V)
    goal = either (grants_party m p) (refuses_weakly p)

    abbrev its : Option (Seat RwCall RwPoint)
    its = Some (Calling Upgrade Asking (Some hold.Upgradable))

    module _ (seen : World) (good : Invariant f seen) (there : seat_of seen p ≡ its) where
      abbrev x : Scene ℕ V RwCall RwPoint (Answer V)
      x = scene_at m seen p Step its

      own : (b : Bool) → (seen.state.words == weight asking) ≡ b → (goal p Step x.outcome (seat_of x.after p) ≡ true) ⊎ ((seat_of x.after p ≡ its) × (b ≡ false))
      own b is = grind (arith, eqb_self, get-set_same, there)

      asks : is_holder p asking seen.plain.holders ≡ true
      asks = holder_by p asking seen.plain (in_call f p good there).knows.0.stand

      -- a step makes nobody a reader
      no_reader : (q : ℕ) (step : Option Change) → any_of reading (entries q seen.plain) ≡ false → IsOpenStep seen.plain q step → any_of reading (entries_after seen.plain step (entries q seen.plain)) ≡ false
      no_reader q step none opens = grind (arith, entries-own, any_own, not_reading, good, asks)

      -- if nobody reads, the word is that of one reader that asks to upgrade
      open_now : ((q : ℕ) → any_of reading (entries q seen.plain) ≡ false) → (seen.state.words == weight asking) ≡ true
      open_now none =
          let word : rw_word seen.plain ≡ seen.state.words = cc (good.encodes) in
          let nobody : (q : ℕ) → is_holder q reading seen.plain.holders ≡ false = λ q. sym (any_own reading q seen.plain.holders) ∙ none q in
          sym (only_asking-word seen.plain p seen.state.words (one_of_each seen.plain good.exclusive) asks word) ∙ (alone_when_gone seen.plain p good.exclusive asks).1 (no_readers seen.plain.holders nobody)

    leaves : leaving.Leaves f goal p Upgrade (Some hold.Upgradable) at_upgrade (any_of reading) (λ l. 1) 1
    leaves =
        record {
          none = refl;
          not_its = λ l at so. grind (arith, at, so);
          reads = λ q h is. grind (arith, is);
          own = λ seen l good there at. grind (arith, true≢false, open_now, own);
          weak = λ seen l next at may. grind (arith, eqb_self);
          comes = λ seen l q d i j w there none opens. grind (arith, no_reader, w, there, none, opens);
          releases = λ q d i j w u so. (Done, grind (arith, so));
          strong = λ q d i j next so may. grind (arith, so, may);
          few = λ l. omega arith;
          some = λ l. omega arith;
        }

  pub upgrades_in_three : (n : ℕ) (past : List (ℕ × Move RwCall V)) (rounds : List (List (ℕ × Move RwCall V))) → UpgradesInThree m n past rounds
  upgrades_in_three n past rounds p c l h there found are long =
      let seen = seen_after m (opening m n) past in
      let at : Some (Calling c l h) ≡ Some (Calling Upgrade Asking (Some hold.Upgradable)) = grind (arith, calls_so f n past (any_of asking) p there (any_own asking p seen.plain.holders ∙ found)) in
      leaving.two_rounds f (goal p) p Upgrade (Some hold.Upgradable) at_upgrade (any_of reading) (λ l. 1) 1 (leaves p) n past rounds Asking (there ∙ at) tt are long

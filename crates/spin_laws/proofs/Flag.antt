-- A flag is granted within four rounds. Its holder leaves within two rounds, and a waiting party takes two rounds to make
-- its exchange.
use Rattle.spin_laws.proofs.Names.{◌≡◌, ℕ, ◌≤◌, ◌⊎◌, ◌||◌, Bool, false, Option, List, [], ◌∷◌, refl, arith, ◌==◌, Holder, is_empty, entries, Hold, Answer, Move, Machine, Seen, empty_is, ◌-◌, filter, not, Done, flag_machine, get-set_same, eqb_self, Test, grants_any, refuses_weakly, either}
use Rattle.spin_step.specs.declared.flag_calls.FlagCall.{FlagCall}
use Rattle.spin_step.specs.declared.flag_calls.FlagCall.TheVariants.{Lock}
use Rattle.spin_step.specs.declared.flag_calls.FlagPoint.{FlagPoint}
use Rattle.spin_step.specs.declared.flag_calls.FlagPoint.TheVariants.{Second}
use Rattle.spin_world.proofs.FlagOwed.{flag_facts}
use Rattle.spin_laws.specs.Flag.{LocksInFour}
use Rattle.spin_laws.proofs.Waiting.{holds_lock}
use Rattle.spin_laws.proofs.Leaving as leaving

-- how many steps the waiting party makes if the flag is clear
abbrev rank_by : FlagPoint → ℕ
rank_by l = elim l [ Second ↦ 2 | _ ↦ 1 ]

pub nobody_holds : (hs : List Holder) → ((q : ℕ) → not (is_empty (filter (λ h. h.party == q) hs)) ≡ false) → hs ≡ []
nobody_holds [] none = refl
nobody_holds (h ∷ hs) none = absurd (grind (arith, none h.party, eqb_self h.party))

module _ {V : Type 0} (v : V) where
  abbrev m : Machine Bool V FlagCall FlagPoint (Answer V)
  m = flag_machine v

  abbrev World : Type 0
  World = Seen Bool V FlagCall FlagPoint

  module _ (p : ℕ) (h : Option Hold) where
    abbrev goal : Test V FlagCall FlagPoint (Answer V)
    goal = either (grants_any m) (refuses_weakly p)

    leaves : leaving.Leaves (flag_facts v) goal p Lock h (λ l. Unit {0}) holds_lock rank_by 2
    leaves =
        record {
          none = refl;
          not_its = λ l at so. grind (arith, so);
          reads = λ q h is. grind (arith, is);
          own = λ seen l good there at. grind (arith, there, good.encodes, get-set_same, nobody_holds);
          weak = λ seen l next at may. grind (arith, eqb_self);
          comes = λ seen l q d i j w there none opens. grind (arith, none, empty_is (entries q seen.plain).holders);
          releases = λ q d i j w u so. (Done, grind (arith, so));
          strong = λ q d i j next so may. grind (arith, so, may);
          few = λ l. grind arith;
          some = λ l. grind arith;
        }

  pub locks_in_four : (n : ℕ) (past : List (ℕ × Move FlagCall V)) (rounds : List (List (ℕ × Move FlagCall V))) → LocksInFour m n past rounds
  locks_in_four n past rounds p Lock l h there asks are few = leaving.two_rounds (flag_facts v) (goal p h) p Lock h (λ l. Unit {0}) holds_lock rank_by 2 (leaves p h) n past rounds l there tt are few
  locks_in_four n past rounds p c l h there asks are few = absurd (grind (arith, asks))

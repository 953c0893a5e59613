-- Two machines that play a table. In one no closure makes the value; in the other the object's closures make it.
use Rattle.spin_world_core.proofs.Names.{◌≡◌, ℕ, true, false, is_some, Option, Some, None, refl, sym, ◌∙◌, subst, arith, true≢false, Plain, Phase, Change, completes, is_complete, apply_some, IsOpenStep, entries, is_held, Answer, Hold, Next, Answers, encoded, says_of, placed, HasPhase, if_completed, writes_value, Act, store, step_by, change_at, change_by, makes_by, Table, machine_of, completes_by, filled, machine_with}
use Rattle.std.specs.Prelude.{if◌then◌else◌}
use Rattle.spin_step.specs.Asks.{is_completion}
use Rattle.spin_world_core.specs.Users.{passes}
use Rattle.spin_step.specs.declared.answer.Answer.TheVariants.{Value}
use Rattle.spin_world_core.proofs.Operating.{change_is, fits_change, stepwise_of, stepwise_with}
use Rattle.spin_world_core.proofs.Shapes.{Notes, Pays}
use Rattle.spin_world_core.proofs.Steps.{told, NextGives, Plays}

-- a step that completes no closure does not change the value last written
pub uncompleted : {V : Type 0} (old put : Option V) (step : Option Change) → ((q : ℕ) → step ≡ Some (completes q) → ⊥) → old ≡ if_completed old put step
uncompleted old put step none = grind (arith, none)

-- The machine in which no closure makes the value

module _ {W V C L A : Type 0} {t : Table W V C L A} {n : Notes t} (pays : Pays n) (no_value : t.lock_kind.makes_value ≡ false) where
  no_completion : (p : ℕ) (c : C) (l : L) (h : Option Hold) (w : W) (q : ℕ) → change_by t.memory (t.word l) (t.act c l h) p w ≡ Some (completes q) → ⊥
  no_completion p c l h w q is = true≢false (sym (fits_change t pays.fits pays.operates p c l h _ w (completes q) is).0 ∙ no_value)

  pub plays_of : Plays (machine_of t) n
  plays_of = record {
    pays = pays;
    stepwise = stepwise_of t pays.fits pays.operates pays.calls pays.own;
    words = grind arith;
    continues = grind arith;
    refuses = λ c l h next is. (next, is, refl);
    refusal_gives = grind (arith, no_value);
    values = λ p c l h s v w encodes shape phase opens.
        grind (arith, no_value, uncompleted v, no_completion p c l h w);
    written = grind (arith, no_value);
  }

-- The machine in which closures make the value

-- Only a store completes a closure, and only if the call brings a value. Whether a store completes a closure does not
-- depend on the party.
abbrev pub CompletesRight : {W V L A : Type 0} → Act W L A → ℕ → Option V → Type 0
CompletesRight (store can operation step next) p value = (is_completion (step p) ≡ is_completion (step 0)) × (is_completion (step p) ≡ true → is_some value ≡ true)
CompletesRight act p value = passes is_completion (makes_by act p) ≡ false

-- a call answers with a value only if there is one
abbrev pub TellsOf : {L : Type 0} → Phase → Next L (Answer (Unit {0})) → Type 0
TellsOf phase next = elim next [ Answers (Value u) after ↦ is_complete phase ≡ true | _ ↦ Unit {0} ]

-- what an object whose closures make its value shows of its table
pub record PaysWith {W V C L : Type 0} {t : Table W V C L (Answer (Unit {0}))} (n : Notes t) (brings : C → Option V) : Type 0 where
  pub pays : Pays n
  pub makes : t.lock_kind.makes_value ≡ true
  pub strong : (c : C) (h : Option Hold) (d : Change) → (t.asks c h).gets_weakly d ≡ false
  pub says : (a : Answer (Unit {0})) → t.says a ≡ says_of a
  -- no party may write, and no party holds the lock
  pub none_writes : (s : Plain) (p : ℕ) → n.Shape s → writes_value (entries p s) ≡ false
  pub none_holds : (s : Plain) → n.Shape s → is_held s ≡ false
  pub completes_right : (p : ℕ) (c : C) (l : L) (h : Option Hold) → CompletesRight (t.act c l h) p (brings c)
  pub tells : (p : ℕ) (c : C) (l : L) (h : Option Hold) (s : Plain) (w : W) → t.memory.numbers w ≡ encoded t.lock_kind s
      → TellsOf (apply_some s (change_by t.memory (t.word l) (t.act c l h) p w)).phase (step_by {V = V} t.memory (t.word l) (t.act c l h) w).next

-- a step that stores a value agrees with its plain step
record Puts {V : Type 0} (s : Plain) (v value put : Option V) (step : Option Change) : Type 0 where
  phase : is_complete (apply_some s step).phase ≡ is_some (placed put v)
  places : placed put v ≡ if_completed v put step
  brings : (q : ℕ) → step ≡ Some (completes q) → placed put v ≡ value

puts_by : {W V L A : Type 0} (n : ℕ) (act : Act W L A) (s : Plain) (p : ℕ) (v value : Option V) (w : W) → CompletesRight act p value → IsOpenStep s p (change_at n act p w) → is_complete s.phase ≡ is_some v
    → Puts s v value (if completes_by act then value else None) (change_at n act p w)
puts_by n act s p v value w right may e = grind (arith, change_is n act p w, uncompleted v)

module _ {W V C L : Type 0} {t : Table W V C L (Answer (Unit {0}))} {n : Notes t} {brings : C → Option V} (pays : PaysWith n brings) where
  tells_with : (s : Plain) (v : Option V) (next : Next L (Answer (Unit {0}))) → is_complete s.phase ≡ is_some v → TellsOf s.phase next
      → told says_of (filled v next) ≡ told t.says next
  tells_with s v next e tells = grind (arith, pays.says)

  gives_at : (v : Option V) (next : Next L (Answer (Unit {0}))) → NextGives (machine_with t brings) v (filled v next)
  gives_at v next = grind (arith, pays.makes)

  pub plays_with : Plays (machine_with t brings) n
  plays_with = record {
    pays = pays.pays;
    stepwise = stepwise_with t brings pays.pays.fits pays.pays.operates pays.pays.calls pays.pays.own pays.strong;
    words = λ w v c l h. refl;
    continues = grind arith;
    refuses = λ c l h next is. absurd (cc (is));
    refusal_gives = λ c l h v next is. absurd (cc (is));
    values = λ p c l h s v w encodes shape phase opens.
        let complete = subst (λ made. HasPhase made s.phase v) pays.makes phase in
        let puts = puts_by _ (t.act c l h) s p v (brings c) w (pays.completes_right p c l h) opens complete in
        let made = change_by t.memory (t.word l) (t.act c l h) p w in
        let tells = tells_with (apply_some s made) _ _ puts.phase (pays.tells p c l h s w encodes) in
        grind (arith, pays.makes, puts, tells, pays.none_holds s shape, gives_at);
    written = grind arith;
  }

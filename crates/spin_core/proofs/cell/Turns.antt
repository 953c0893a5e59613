-- A party changes its use of a cell's value: it gives back what it had of the value, and takes what it may use. Assumes
-- `Logic`.
use Rattle.std.proofs.Common.{◌≡◌, ◌≢◌, ℕ, suc, ◌+◌, ◌-◌, ◌^◌, ◌<◌, zero, [], ◌∷◌, refl, subst, arith, Option, Some, None}
use seplogic.Ra.Ura.{Ura}
use base.Fraction.{full_share}
use base.FractionLaws.{Counts}
use base.Stored.{Gv}
use base.Logic.{via, id⊢, never_e, snd∗}
use base.Fml.{Lft, Fml, ftrue, ffalse, fsep, fex}
use types.Logic.{Logic}
use types.Kit.{‵, ◌⊛◌, given, ◌$◌, ◌∵◌, !, by, move, keep, drop, split, fsplit, fsplit3, fjoin, fjoin3, fpick, fpack, learn, check, rewrite, done, Item}
use denote.RattleType.{RattleType, RowLaws}
use denote.SharingLaws.{contraction}
use denote.Steps.{nothing}
use Rattle.atomic_table.specs.Seated.{fact}
use Rattle.spin_core.specs.Cell.{Going, Preserves, Finds, Carries, Learns, Use, off, reads, writes, Way, alone, lends, fixes, reading, writing, Limits}
use Rattle.spin_core.specs.CellMemory.{Id, Round, round_code, tag, parts, Part, piece, remains, idle, offset, shown, shared, resting_value, value_state, reader_owns}
use Rattle.spin_core.proofs.cell.Ways.{going_rest}
use Rattle.spin_core.proofs.cell.Parts.{parts_cut, parts_glue, parts_whole, some_agree, piece_cut}
use Rattle.spin_core.proofs.cell.Rounds.{begun, held, whole, renewed, lies, rests_lent, rests_fixed}
use Rattle.spin_core.proofs.Signs.{signs}
use Rattle.spin_core.proofs.WalkSteps.{knows}
use Rattle.spin_core.proofs.Lemmas.{script, lemma, update, cite, twice, updates, renew, settled}

-- the number of readers, if a party with this use joins r readers
abbrev pub with_reader : Use → ℕ → ℕ
with_reader u r = elim u [ reads ↦ suc r | _ ↦ r ]

-- the number of writers, if a party with this use joins w writers
abbrev pub with_writer : Use → ℕ → ℕ
with_writer u w = elim u [ writes ↦ suc w | _ ↦ w ]

pub one_reader : (u : Use) (r : ℕ) → r + reading u ≡ with_reader u r
one_reader u r = grind arith

pub one_writer : (u : Use) (w : ℕ) → w + writing u ≡ with_writer u w
one_writer u w = grind arith

module _ {X : Type 0} where
  -- what a party is shown of the value x
  abbrev shown_to : Use → X → Option X
  shown_to u x = elim u [ off ↦ None | _ ↦ Some x ]

  abbrev Lim : Way X → ℕ → ℕ → Use → Type 0
  Lim way r w u = Limits way (with_reader u r) (with_writer u w)

  -- while a party uses the value, nobody else writes it
  none_else : (u : Use) (way : Way X) (r w : ℕ) → u ≢ off → Lim way r (suc w) u → ⊥
  none_else u way r w on lim = grind arith

  -- How many readers the state has when a party with the use u takes its part. In the way `fixes` a new reader is
  -- counted already: it cuts its part from the part in the state.
  abbrev room : Way X → Use → ℕ → ℕ
  room (fixes facts) reads r = suc r
  room _ u r = r

  -- what is known of a value that a party gives back, if φ holds of a value that nobody writes
  abbrev Had : (X → Type 0) → Use → X → Type 0
  Had φ u x = elim u [ writes ↦ Unit {0} | _ ↦ φ x ]

  module _ (φ ψ : X → Type 0) where
    -- a party that already uses the value learns no more than one that begins to use it
    shows : (way : Way X) (u u' : Use) (x : X) → Finds way off u' (shown_to u' x) → ψ x
        → Preserves way u u' (shown_to u x) (shown_to u' x) × Learns ψ u u' (shown_to u x) (shown_to u' x)
    shows way u u' x finds known = grind arith

    -- after a step ψ holds of the value, unless the party writes on
    known_after : (u u' : Use) (x : X) → (u ≡ writes → u' ≢ writes) → Carries φ ψ u u' (shown_to u x) → Had φ u x → ψ x
    known_after u u' x turned owed had = grind arith

module _ {M : Type 1} {𝓤 : Ura M} (𝓛 : Logic 𝓤) (R : RattleType) (L : RowLaws R) (b o : ℕ) (t : Id) where
  open (signs 𝓛) use {◌⊩◌, ◌⊫◌, ◌⊢◌, ◌∗◌, ⟦◌⟧}

  abbrev X : Type 0
  X = R.Denot

  abbrev γ : ℕ
  γ = t.round

  abbrev Held : Use → Way X → Option X → Fml
  Held = held 𝓛 R b o t

  abbrev St : Way X → (X → Type 0) → ℕ → ℕ → Fml
  St = value_state R b o t

  abbrev Rest : Way X → ℕ → X → Fml
  Rest = resting_value R b o t

  -- a party that uses the value is shown a value: it never has `ffalse`
  never : (P : Fml) (k : Item 𝓤) → ‵ P ⊛ ‵ ffalse ⊫ k
  never P k = update (via 𝓤 _ (snd∗ 𝓤 ⟦ P ⟧ ⟦ ffalse ⟧) (never_e 𝓤 _))

  nobody : (u : Use) (way : Way X) (P : Fml) (k : Item 𝓤) → u ≢ off → ‵ P ⊛ ‵ (Held u way None) ⊫ k
  nobody off way P k on = absurd (on refl)
  nobody writes alone P k on = never P k
  nobody _ _ P k on = never P k

  -- ---- a party gives back what it had
  module _ (φ : X → Type 0) (r : ℕ) where
    abbrev given_at : Way X → Use → Use → Option X → X → Fml
    given_at way u u' v x = fex ((v ≡ shown_to u x) × Had φ u x) (λ _. Rest way (room way u' r) x)

    abbrev Given : Way X → Use → Use → Option X → Fml
    Given way u u' v = fex X (given_at way u u' v)

    gave : (way : Way X) (u u' : Use) (v : Option X) (x : X) → v ≡ shown_to u x → Had φ u x
        → ‵ (Rest way (room way u' r) x) ⊩ ‵ (Given way u u' v)
    gave way u u' v x is had = script ∵
        fpack ! ((v ≡ shown_to u x) × Had φ u x) (λ _. Rest way (room way u' r) x) (is, had) $ fpack ! X (given_at way u u' v) x $ done !

    -- a writer gives back a whole round
    gave_whole : (way : Way X) (u' : Use) (x : X) → ‵ (whole 𝓛 R b o t x) ⊩ ‵ (Rest way (room way u' r) x)
        → ‵ (idle γ) ⊛ ‵ (fex ℕ (begun 𝓛 R b o t x)) ⊫ ‵ (Given way writes u' (Some x))
    gave_whole way u' x to =
        renewed 𝓛 R b o t x (Given way writes u' (Some x)) (script ∵ cite _ to $ cite _ (gave way writes u' (Some x) x refl tt) $ done !)

  has_room : (way : Way X) (u' : Use) (v : Option X) (r : ℕ) (x : X) (A : Type 0) → Going way off u' v r A → ‵ (Rest way r x) ⊩ ‵ (Rest way (room way u' r) x)
  has_room (fixes facts) reads v zero x A going = absurd (omega (arith, going.1))
  has_room (fixes facts) reads v (suc r) x A going = lemma (id⊢ 𝓤 _)
  has_room _ u' v r x A going = lemma (id⊢ 𝓤 _)

  gives : (φ : X → Type 0) (way : Way X) (r : ℕ) (u u' : Use) (v : Option X) (A : Type 0) → (u ≡ writes → u' ≢ writes) → Lim way r 0 u
      → Going way u u' v (with_reader u r) A
      → ‵ (St way φ (with_reader u r) (with_writer u 0)) ⊛ ‵ (Held u way v) ⊫ ‵ (Given φ r way u u' v)
  gives φ way r off u' (Some x) A turned lim going = never _ _
  gives φ way r off u' None A turned lim going = updates ∵ settled ! _ $ fpick ! (λ x. fpick ! (λ known.
      cite _ (has_room way u' None r x A going) $ keep ! (0 ∷ []) $ by ! (gave φ r way off u' None x refl known).prf))
  gives φ way r u u' None A turned lim going = nobody u way _ _ (λ e. absurd cc)
  gives φ alone r reads u' (Some x) A turned lim going = absurd (omega arith)
  gives φ alone r writes u' (Some x) A turned lim going = updates ∵ settled ! _ $ drop ! $ by ! (gave φ r alone writes u' (Some x) x refl tt).prf
  -- a reader gives back one part; the part is of the round in the state
  gives φ lends r reads u' (Some x) A turned lim going = let small : r < 2 ^ 63 = omega arith in
      let more : (2 ^ 63 - suc r) + 1 ≡ 2 ^ 63 - r = omega arith in updates ∵ settled ! _ $
      fpick ! (λ y. fpick ! (λ known. fpick ! (λ a. fsplit ! $ move ! (2 ∷ []) $ fpick ! (λ c.
      let s : Round R = (a, y) in let u : Round R = (c, x) in fsplit ! $ move ! (2 ∷ 0 ∷ []) $
      cite _ (some_agree 𝓛 R γ (λ e. Counts 63 e (2 ^ 63 - suc r)) (λ e. Counts 63 e 1) s u) $
      learn ! (λ same. split ! $ rewrite ! 0 (λ (z : Round R). ‵ (parts R γ z (2 ^ 63 - suc r))) same refl $
      cite _ (parts_glue 𝓛 R γ u (2 ^ 63 - suc r) 1 (omega arith) (omega arith)) $
      rewrite ! 0 (λ (k : ℕ). ‵ (parts R γ u k)) more refl $ move ! (2 ∷ []) $
      rewrite ! 0 (λ (z : Round R). ‵ (shared R b o t z)) same refl $ move ! (1 ∷ 0 ∷ []) $ fjoin ! $
      fpack ! ℕ (λ e. fsep (parts R γ (e, x) (2 ^ 63 - r)) (shared R b o t (e, x))) c $ keep ! (0 ∷ []) $
      by ! (gave φ r lends reads u' (Some x) x refl (subst (λ (z : Round R). φ z.1) same known)).prf)))))
  gives φ lends r writes u' (Some x) A turned lim going = gave_whole φ r lends u' x (rests_lent 𝓛 R b o t r x (omega arith))
  -- in the way `fixes` a reader drops its part
  gives φ (fixes facts) r reads reads (Some x) A turned lim going = let way : Way X = fixes facts in
      let Seen : Round R → Fml = λ z. fsep (remains R facts γ z (suc r)) (shared R b o t z) in updates ∵ settled ! _ $
      fpick ! (λ y. fpick ! (λ known. fpick ! (λ a. fsplit ! $ move ! (2 ∷ []) $ fpick ! (λ c.
      let s : Round R = (a, y) in let u : Round R = (c, x) in fsplit ! $ move ! (2 ∷ 0 ∷ []) $
      cite _ (some_agree 𝓛 R γ (Part way y) (Part way x) s u) $ learn ! (λ same. split ! $ move ! (0 ∷ 3 ∷ []) $
      fjoin ! $ rewrite ! 0 (λ (z : Round R). ‵ (Seen z)) same refl $ fpack ! ℕ (λ e. Seen (e, x)) c $ keep ! (0 ∷ []) $
      by ! (gave φ r way reads reads (Some x) x refl (subst (λ (z : Round R). φ z.1) same known)).prf)))))
  gives φ (fixes facts) r reads u' (Some x) A turned lim going = absurd (let e : u' ≡ reads = going.0 refl in cc)
  gives φ (fixes facts) r writes off (Some x) A turned lim going = let none : r ≡ 0 = lim.1 (omega arith) in
      gave_whole φ r (fixes facts) off x (rests_fixed 𝓛 R b o t facts r x (rw none going.1))
  gives φ (fixes facts) r writes reads (Some x) A turned lim going = gave_whole φ r (fixes facts) reads x (rests_fixed 𝓛 R b o t facts (suc r) x going.1)
  gives φ (fixes facts) r writes writes (Some x) A turned lim going = absurd (turned refl refl)

  -- ---- a party takes what it may use
  module _ (ψ : X → Type 0) where
    takes_nothing : (way : Way X) (r : ℕ) (x : X) → ψ x → (A : Type 0) → A → ‵ (Rest way r x) ⊩ given A (‵ (St way ψ r 0) ⊛ ‵ ftrue)
    takes_nothing way r x known A a =
        script ∵ check ! a $ cite _ (lies 𝓛 R b o t way ψ r x known) $ nothing ! $ move ! (1 ∷ 0 ∷ []) $ done !

    -- a reader takes its piece of a round, and the state keeps the rest
    taken : (way : Way X) (r : ℕ) (Rem : Round R → Fml) (x : X) (a : ℕ) → ψ x
        → ‵ (fex ℕ (λ e. fsep (Rem (e, x)) (shared R b o t (e, x)))) ⊩ ‵ (Rest way (suc r) x)
        → ‵ (piece R way γ (a, x)) ⊛ ‵ (Rem (a, x)) ⊛ ‵ (shared R b o t (a, x)) ⊩ ‵ (St way ψ (suc r) 0) ⊛ ‵ (reader_owns R b o t way x)
    taken way r Rem x a known rests = let Lent : ℕ → Fml = λ e. fsep (Rem (e, x)) (shared R b o t (e, x)) in
        let V : Lft → Fml = shown R b o x in script ∵ move ! (2 ∷ []) $ fsplit3 ! $ move ! (1 ∷ []) $
        twice ! (contraction 𝓛 V (L x b (o + offset R)) (a ∷ t.life)) $ move ! (4 ∷ 0 ∷ []) $ fjoin ! $
        fpack ! ℕ (λ e. fsep (piece R way γ (e, x)) (V (e ∷ t.life))) a $ move ! (2 ∷ 1 ∷ 3 ∷ []) $ fjoin3 ! $
        move ! (2 ∷ 0 ∷ []) $ fjoin ! $ fpack ! ℕ Lent a $ cite _ rests $
        cite _ (lies 𝓛 R b o t way ψ (suc r) x known) $ done !

    -- Each party takes what it may use. A reader takes one part, or half of what the earlier readers left. A writer
    -- takes the whole round.
    takes : (way : Way X) (r : ℕ) (u : Use) (x : X) → ψ x → Lim way r 0 u
        → ‵ (Rest way (room way u r) x) ⊩ given (Finds way off u (shown_to u x))
        (‵ (St way ψ (with_reader u r) (with_writer u 0)) ⊛ ‵ (Held u way (shown_to u x)))
    takes alone r off x known lim = takes_nothing alone r x known (Unit {0}) tt
    takes way r off x known lim = takes_nothing way r x known (Unit {0}) tt
    takes alone r reads x known lim = absurd (omega arith)
    takes lends r reads x known lim = let small : suc r < 2 ^ 63 = omega arith in script ∵ check ! tt $
        fpick ! (λ a. fsplit ! $ cite _ (parts_cut 𝓛 R γ (a, x) (2 ^ 63 - r) 1 (2 ^ 63 - suc r) (omega arith)
        (omega arith) (omega arith) (omega arith)) $
        by ! (taken lends r (λ s. parts R γ s (2 ^ 63 - suc r)) x a known (lemma (id⊢ 𝓤 _))).prf)
    takes (fixes facts) r reads x known lim = let way : Way X = fixes facts in
        script ∵ fpick ! (λ a. fsplit ! $ cite _ (piece_cut 𝓛 R γ facts (a, x)) $ learn ! (λ so. check ! so $
        split ! $ by ! (taken way r (λ s. piece R way γ s) x a known (lemma (id⊢ 𝓤 _))).prf))
    takes alone r writes x known lim = script ∵ check ! tt $ nothing ! $ done !
    takes lends (suc r) writes x known lim = absurd (omega arith)
    takes lends zero writes x known lim = script ∵ check ! tt $ fpick ! (λ a. fsplit ! $
        cite _ (parts_whole 𝓛 R γ (a, x)) $ fsplit ! $ move ! (0 ∷ 2 ∷ []) $ fjoin ! $
        fpack ! ℕ (begun 𝓛 R b o t x) a $ move ! (1 ∷ []) $ fpack ! Gv (tag γ full_share) (round_code R (a, x)) $ done !)
    takes (fixes facts) (suc r) writes x known lim = absurd (let e : suc r ≡ 0 = lim.1 (omega arith) in omega (arith, e))
    takes (fixes facts) zero writes x known lim = script ∵ fpick ! (λ a. fsplit ! $ fpick ! (λ so. check ! so $
        fsplit ! $ move ! (0 ∷ 2 ∷ []) $ fjoin ! $ fpack ! ℕ (begun 𝓛 R b o t x) a $ move ! (1 ∷ []) $
        fpack ! Gv (tag γ full_share) (round_code R (a, x)) $ done !))

  -- ---- what a party has after its use changed from u to u'
  abbrev pub got : Way X → (X → Type 0) → Use → Use → Option X → Option X → Fml
  got way ψ u u' v v' = fsep (fact (Preserves way u u' v v' × Learns ψ u u' v v')) (Held u' way v')

  abbrev pub Got : Way X → (X → Type 0) → Use → Use → Option X → Fml
  Got way ψ u u' v = fex (Option X) (got way ψ u u' v)

  got_in : (way : Way X) (ψ : X → Type 0) (u u' : Use) (v v' : Option X) → Preserves way u u' v v' × Learns ψ u u' v v'
      → ‵ (Held u' way v') ⊩ ‵ (Got way ψ u u' v)
  got_in way ψ u u' v v' so = script ∵ knows ! (Preserves way u u' v v' × Learns ψ u u' v v') so $ fjoin ! $
      fpack ! (Option X) (got way ψ u u' v) v' $ done !

  -- Before the step φ holds of a value that nobody writes; after it ψ does.
  module _ (φ ψ : X → Type 0) (way : Way X) (r : ℕ) where
    abbrev Turns : ℕ → Use → Use → Option X → Type 1
    Turns w u u' v = Lim way r w u → Going way u u' v (with_reader u r) (Lim way r w u') → Carries φ ψ u u' v
        → ‵ (St way φ (with_reader u r) (with_writer u w)) ⊛ ‵ (Held u way v) ⊫ ‵ (St way ψ (with_reader u' r) (with_writer u' w)) ⊛ ‵ (Got way ψ u u' v)

    -- if nobody else writes, the party gives back what it had, and takes what it may use next
    passes : (u u' : Use) (v : Option X) → (u ≡ writes → u' ≢ writes) → Turns 0 u u' v
    passes u u' v turned lim going owed = updates ∵
        renew (‵ (St way ψ (with_reader u' r) (with_writer u' 0)) ⊛ ‵ (Got way ψ u u' v)) _
        (gives φ way r u u' v (Lim way r 0 u') turned lim going) $ settled ! _ $ fpick ! (λ x. fpick ! (λ had.
        let known : ψ x = known_after φ ψ u u' x turned (subst (Carries φ ψ u u') had.0 owed) had.1 in
        cite _ (takes ψ way r u' x known (going_rest way u u' v (with_reader u r) going)) $
        learn ! (λ finds. split ! $ move ! (1 ∷ []) $ cite _ (got_in way ψ u u' v (shown_to u' x)
        (rw had.0 (shows φ ψ way u u' x finds known))) $ move ! (1 ∷ 0 ∷ []) $ done !)))

    -- a party that keeps its use keeps what it has
    stays : (u : Use) (P : Fml) (v : Option X) → Preserves way u u v v × Learns ψ u u v v → ‵ P ⊛ ‵ (Held u way v) ⊫ ‵ P ⊛ ‵ (Got way ψ u u v)
    stays u P v so = updates ∵ settled ! _ $ move ! (1 ∷ []) $ cite _ (got_in way ψ u u v v so) $ move ! (1 ∷ 0 ∷ []) $ done !

    pub turns : (w : ℕ) (u u' : Use) (v : Option X) → Turns w u u' v
    turns w writes writes None lim going owed = nobody writes way _ _ (λ e. absurd cc)
    turns w writes writes (Some x) lim going owed = stays writes _ (Some x) (grind arith, tt)
    turns (suc w) off off (Some x) lim going owed = never _ _
    turns (suc w) off off None lim going owed = stays off _ None (grind arith, tt)
    turns (suc w) off u' v _ going _ = absurd (none_else u' way r w (λ e. absurd cc) (going_rest way off u' v r going))
    turns (suc w) u u' v lim going owed = absurd (none_else u way r w (λ e. absurd cc) lim)
    turns zero u u' v lim going owed = passes u u' v (λ is e. absurd cc) lim going owed

-- The steps of a value that is made once keep its rule. What a step has to show depends on the use of the content before and after it.
use Rattle.std.proofs.Common.{◌≡◌, ℕ, ◌+◌, ◌≤◌, List, ◌++◌, ◌∷◌, Option, Some, refl, ap, arith}
use Rattle.std.specs.Prelude.{sum_by}
use Rattle.spin_core.specs.Cell.{Use, off, reads, writes, reading, writing, use_of, Way, Ways, no_fact, MeetsRule, Limits, Owes, HasView, after, AllowsAt, Rests}
use Rattle.spin_core.proofs.cell.Counts.{moves, without}
use Rattle.spin_step.specs.declared.place.Seat.TheVariants.{Idle}
use Rattle.spin_once.specs.OnceValues.{Content}
use Rattle.spin_once.specs.Once.{View, use_of_view, readers, running, IsPhase, Word, IsMadeFrom, once_ways}
use Rattle.spin_once.specs.declared.once_core.rule.Key.{Key}

-- which word a party with this use may find
abbrev pub May : Use → ℕ → Type 0
May off n = n ≤ 2
May reads n = n ≡ 2
May writes n = n ≡ 1

-- A step finds the word n and leaves the word k. The two uses are those of its party before and after it.
abbrev pub Fits : Use → Use → ℕ → ℕ → Type 0
Fits off off n k = k ≡ n
Fits off reads n k = (n ≡ 2) × (k ≡ 2)
Fits off writes n k = (n ≡ 0) × (k ≡ 1)
Fits reads reads n k = k ≡ 2
Fits writes reads n k = k ≡ 2
Fits writes off n k = k ≡ 0
Fits _ _ n k = ⊥

-- the number found has the property `Q`, and the party gets the view that `to` gives for it
abbrev pub ComesTo : (ℕ → View) → (ℕ → Type 0) → ℕ → View → Type 0
ComesTo to Q n v = (v ≡ to n) × Q n

module _ (id : ℕ) (view : Option View) (vs : List View) (w : View) (at : HasView id view vs) where
  -- how many parties have a use, after a party has got another view
  use_after : (g : Use → ℕ) → g off ≡ 0
      → sum_by (λ v. g (use_of_view v)) (after id view vs w) + g (use_of use_of_view view) ≡ sum_by (λ v. g (use_of_view v)) vs + g (use_of_view w)
  use_after g none = grind (arith, none, moves (λ v. g (use_of_view v)) id view vs w at)

module _ (n r w : ℕ) (is : IsPhase n r w) where
  may : (u : Use) → reading u ≤ r → writing u ≤ w → May u n
  may u reader writer = grind (arith, is, reader, writer)

  -- a step that fits keeps the rule
  phase_after : (u v : Use) (k r' w' : ℕ) → May u n → Fits u v n k → r' + reading u ≡ r + reading v → w' + writing u ≡ w + writing v → IsPhase k r' w'
  phase_after u v k r' w' may fit see run = grind (arith, is, may, fit, see, run)

  -- if the party begins to read, some party reads already; if it ends its closure, it shows what it leaves
  owes : {X : Type 0} (fact : _ → X → Type 0) (u v : Use) (k : ℕ) (shown : Option X) → Fits u v n k → (u ≡ writes → Owes fact u v shown r) → Owes fact u v shown r
  owes fact u v k shown fit ends = grind (arith, is, fit, ends)

reads_on : (u v : Use) (n k : ℕ) → Fits u v n k → u ≡ reads → v ≡ reads
reads_on u v n k fit is = grind (arith, fit, is)

module _ {T S : Type 0} (makes : S → T → Type 0) (key : Key T S) where
  abbrev pub way : Way (Content T S)
  way = (once_ways makes key).0

  abbrev plain_ways : Ways (Content T S) View (Unit {0})
  plain_ways = (way, use_of_view, no_fact)

  abbrev pub Allowed : Option View → Option (Content T S) → (ℕ → ℕ) → (ℕ → View → Type 0) → Type 0
  Allowed = AllowsAt Word plain_ways

  pub meets : (n : ℕ) (m : Unit {0}) (vs : List View) → Word n m vs → MeetsRule Word plain_ways n m vs
  meets n m vs has = (has, limits n (readers vs) (running vs) has)
    where
      limits : (n r w : ℕ) → IsPhase n r w → Limits way r w
      limits n r w has = grind (arith, has)

  pub steps : (view : Option View) (shown : Option (Content T S)) (to : ℕ → View) (f : ℕ → ℕ) → let u = use_of use_of_view view in ((n : ℕ) → May u n → Fits u (use_of_view (to n)) n (f n))
      → ((n r : ℕ) → u ≡ writes → Owes (λ read x. IsMadeFrom makes key.seed read x.value) u (use_of_view (to n)) shown r) → Allowed view shown f (ComesTo to (May u))
  steps view shown to f fits ends id n m vs has at small =
      let u = use_of use_of_view view in let v = use_of_view (to n) in let r = readers vs in let w = running vs in
      let see = use_after id view vs Idle at reading refl in let run = use_after id view vs Idle at writing refl in
      let found = may n r w has.0 u (omega (arith, see)) (omega (arith, run)) in let fit = fits n found in
      let kept = phase_after n r w has.0 u v (f n) _ _ found fit (use_after id view vs (to n) at reading refl) (use_after id view vs (to n) at writing refl) in
      (to n, (reads_on u v n (f n) fit, owes n r w has.0 (λ read x. IsMadeFrom makes key.seed read x.value) u v (f n) shown fit (ends n r), meets (f n) m (after id view vs (to n)) kept), (refl, found))

-- which parties may leave
pub leaves : (v : View) → use_of_view v ≡ off → Rests Word use_of_view (Some v)
leaves v none = (
  none,
  λ n m before behind has.
      let see : readers (before ++ behind) ≡ readers (before ++ v ∷ behind) = omega (arith, without (λ v. reading (use_of_view v)) before behind v, ap reading none) in
      let run : running (before ++ behind) ≡ running (before ++ v ∷ behind) = omega (arith, without (λ v. writing (use_of_view v)) before behind v, ap writing none) in rw (see, run) has,
)

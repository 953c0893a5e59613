-- What a `&` to a cell owns, and what a permit owns, does not depend on the thread, if the value is `Send` and the
-- rule is `Sync`. The argument `sees` says that a value which parties share is `Sync`.
use Rattle.std.proofs.Common.{arith, ◌≡◌, Bool, ℕ, zero, suc, ◌+◌, List, [], ◌∷◌, refl, Option, Some, None}
use base.Fraction.{full_share}
use base.Stored.{Gv}
use base.Fml.{Lft}
use base.Shift.{Keyless}
use types.Keyed.{entry_keyless, entries_keyless}
use denote.RattleType.{RattleType}
use denote.Memory.{raw_all}
use denote.RawPtr.{Ptr, block_ptr, null_ptr}
use denote.Param.Send.{IsSend, IsSync, part_keyless, whole-keyless}
use Rattle.core.proofs.atomic.Sent.{chain-Keyless}
use Rattle.atomic_table.specs.Seated.{halved}
use Rattle.spin_core.specs.Cell.{Use, off, reads, writes, Way, alone, lends, fixes, Ways, use_of, IsShared}
use Rattle.spin_core.specs.CellMemory.{offset, second_at, Common, Sends, Known, Id, Round, roster, remains, named, resting_value, value_state, right, stand, core, kept, cell_shares, permit_owns, permit_shares, reader_shares, writer_owns, writer_shares}

roster_keyless : {V : Type 0} (c : V → Gv) (ρ k : ℕ) (vs : List V) → Keyless (roster c ρ k vs)
roster_keyless c ρ k [] = λ g. entries_keyless halved ρ k (λ _. (full_share, g))
roster_keyless c ρ k (v ∷ vs) = (entry_keyless halved ρ k _, roster_keyless c ρ (suc k) vs)

stand_keyless : {V : Type 0} (c : V → Gv) (ρ : ℕ) (view : Option V) → Keyless (stand c ρ view)
stand_keyless c ρ None = tt
stand_keyless c ρ (Some v) = λ id. entry_keyless halved ρ id _

module _ (R : RattleType) (s : IsSend R) (b o : ℕ) (t : Id) where
  named_keyless : Keyless (named R b o t)
  named_keyless = λ x. (part_keyless R s full_share x b (o + offset R), tt)

  remains_keyless : (fact : Bool → R.Denot → Type 0) (s : Round R) (r : ℕ) → Keyless (remains R fact t.round s r)
  remains_keyless fact s zero = λ known. (tt, tt)
  remains_keyless fact s (suc r) = λ e known. (tt, tt)

  resting_keyless : (way : Way R.Denot) → (IsShared way → Common R) → (r : ℕ) (x : R.Denot) → Keyless (resting_value R b o t way r x)
  resting_keyless alone sees r x = (tt, named_keyless)
  resting_keyless lends sees r x = λ a. ((λ e n. (tt, tt)), (tt, (sees tt x b (o + offset R) (a ∷ t.life), named_keyless)))
  resting_keyless (fixes fact) sees r x = λ a. (remains_keyless fact (a, x) r, (tt, (sees tt x b (o + offset R) (a ∷ t.life), named_keyless)))

  state_keyless : (way : Way R.Denot) (φ : R.Denot → Type 0) → (IsShared way → Common R) → (r w : ℕ) → Keyless (value_state R b o t way φ r w)
  state_keyless way φ sees r zero = λ x known. resting_keyless way sees r x
  state_keyless alone φ sees r (suc w) = tt
  state_keyless _ φ sees r (suc w) = λ g. tt

  right_keyless : (way : Way R.Denot) (u : Use) → (u ≡ reads → Common R) → (x : Option R.Denot) → Keyless (right R b o t way u x)
  right_keyless way reads sees (Some x) = λ a. ((λ e n. (tt, tt)), sees refl x b (o + offset R) (a ∷ t.life))
  right_keyless way writes sees (Some x) = (tt, named_keyless)
  right_keyless way off sees None = tt
  right_keyless way _ sees _ = tt

  module _ {V : Type 0} (c : V → Gv) (S : RattleType) (holds : ℕ → S.Denot → List V → Type 0) (ways : Ways R.Denot V S.Denot) where
    core_keyless : (IsShared ways.0 → Common R) → (z : ℕ × S.Denot) → Keyless (core R b o t c S holds ways z)
    core_keyless sees z = λ vs. (roster_keyless c t.views 0 vs, ((λ _. tt), state_keyless ways.0 _ sees _ _))

    kept_keyless : (IsShared ways.0 → Common R) → Sends S → (κ : Lft) → Keyless (kept R b o t c S holds ways κ)
    kept_keyless sees sent κ = let second = whole-keyless (raw_all S.mir) S.own_val sent full_share in
        ((λ νs. chain-Keyless νs κ t.life), λ z. (tt, (second z.1 b (o + second_at S R), core_keyless sees z)))

module _ (Y R : RattleType) {V : Type 0} (c : V → Gv) (S : RattleType) (holds : ℕ → S.Denot → List V → Type 0) (ways : Ways R.Denot V S.Denot) where
  pub cell_keyless : IsSend R → IsSync Y → (p : Ptr) (κ : Lft) → Keyless (cell_shares Y R c S holds ways p κ)
  cell_keyless s y (block_ptr b o) κ = λ known t. kept_keyless R s b o t c S holds ways (λ e. known.0 e y.shared) known.2 κ
  cell_keyless s y null_ptr κ = tt

  some_reads : (view : Option V) → Known ways Y S R → use_of ways.1 view ≡ reads → Common Y → Common R
  some_reads view known e = grind arith

  pub permit_keyless : IsSend R → IsSync Y → (β : Lft) (p : Ptr) (view : Option V) (x : Option R.Denot) → Keyless (permit_owns Y R c S holds ways β p view x)
  permit_keyless s y β (block_ptr b o) view x = λ known t.
      let right = right_keyless R s b o t ways.0 (use_of ways.1 view) (λ e. some_reads view known e y.shared) x in
      (kept_keyless R s b o t c S holds ways (λ e. known.0 e y.shared) known.2 β, (stand_keyless c t.views view, right))
  permit_keyless s y β null_ptr view x = tt

  pub writer_keyless : IsSend R → IsSync Y → (β : Lft) (p : Ptr) (view : V) (x : R.Denot)
      → Keyless (writer_owns Y R c S holds ways β p view x)
  writer_keyless s y β (block_ptr b o) view x = λ writes. permit_keyless s y β (block_ptr b o) (Some view) (Some x)
  writer_keyless s y β null_ptr view x = tt

  reader_sees : IsSync Y → (β : Lft) (b o : ℕ) (u : Use) → (Known ways Y S R → u ≡ reads → Common Y → Common R) → (x : Option R.Denot) (κ : Lft) → Keyless (reader_shares Y R c S holds ways β b o u x κ)
  reader_sees y β b o reads sees (Some x) κ = λ known. sees known refl y.shared x b (o + offset R) _
  reader_sees y β b o _ sees _ κ = tt

  pub permit_sees : IsSync Y → (β : Lft) (p : Ptr) (view : Option V) (x : Option R.Denot) (κ : Lft) → Keyless (permit_shares Y R c S holds ways β p view x κ)
  permit_sees y β (block_ptr b o) view x κ = reader_sees y β b o (use_of ways.1 view) (some_reads view) x κ
  permit_sees y β null_ptr view x κ = tt

  pub writer_sees : IsSync R → (β : Lft) (p : Ptr) (view : V) (x : R.Denot) (κ : Lft) → Keyless (writer_shares Y R c S holds ways β p view x κ)
  writer_sees y β (block_ptr b o) view x κ = y.shared x b (o + offset R) _
  writer_sees y β null_ptr view x κ = tt

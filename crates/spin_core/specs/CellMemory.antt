-- What a `&` to a `Cell` owns, and what the cell's permits own.
-- The cell is shared for a lifetime α. One invariant has the cell's words, a quarter of each party's view, and the
-- state of the value.
-- In the way `alone` the state is the borrow of the value, or nothing while a writer has this borrow.
-- In the way `lends` a value that nobody writes is shared for a lifetime `a` of its own. This lifetime and the value
-- are a *round* (not one of a schedule). A reader has one of the 2^63 parts of the token of `a`. A writer ends the
-- lifetime `a`. When it stops writing, it begins the next round.
-- In the way `fixes` there are rounds too. A reader has some part of the token of `a`, never gives this part back, and
-- knows the fact.
-- Ghost names: ρ has the views. γ has the round, split like the token of `a`. ν tracks the value while the cell is
-- shared.
use Rattle.std.specs.Prelude.{◌≡◌, Bool, true, false, ℕ, zero, suc, ◌+◌, ◌-◌, ◌^◌, [], ◌∷◌, List, Option, Some, None}
use base.Fraction.{full_share}
use base.FractionLaws.{Counts}
use base.Share.{three_quarters}
use base.Stored.{Gv, coded×, coded_ℕ}
use base.Shift.{Keyless}
use base.Fml.{Lft, GName, Share, Fml, ftrue, ffalse, fsep, fex, flft, fbor, flent, fobs, fown}
use mir.Val.{Val}
use prog.Memory.{up, align, size}
use types.SemTy.{Body}
use denote.RattleType.{RattleType}
use denote.Memory.{shared_of, part_at, lone, mem}
use denote.RawPtr.{Ptr, block_ptr, null_ptr}
use denote.Sharing.{said, beside, some, ends, always, within, nothing}
use Rattle.core.specs.Sync.RawAtomic.{word}
use Rattle.atomic_table.specs.Seated.{fact, halved, seen}
use types.Keyed.{entries_from}
use base.Share.{quarter}
use Rattle.spin_core.specs.Cell.{Use, off, reads, writes, Way, alone, lends, fixes, Ways, IsShared, IsKnown, use_of, readers_of, writers_of, MeetsRule, Starts}

-- the place of the value, after the first word
abbrev pub offset : RattleType → ℕ
offset R = up (align (lone R.mir)) 8

-- the place of the `Second`, after the value
abbrev pub second_at : RattleType → RattleType → ℕ
second_at S R = up (align (lone S.mir)) (offset R + size (lone R.mir))

-- the type is `Sync`: any thread may read a shared value of it
abbrev pub Common : RattleType → Type 0
Common R = (x : R.Denot) (b e : ℕ) (κ : Lft) → Keyless (shared_of R x b e κ)

-- the type is `Send`: any thread may own a value of it
abbrev pub Sends : RattleType → Type 0
Sends S = (y : S.Denot) (vs : List Val) → Keyless (S.own_val y vs)

-- If parties share the value, or some view reads it, then the value's type is `Sync` wherever the rule's own type is.
-- The cell's `Second` is `Send`.
abbrev pub Known : {X V S : Type 0} → Ways X V S → RattleType → RattleType → RattleType → Type 0
Known {V = V} ways Y S R = (IsShared ways.0 → Common Y → Common R) × ((v : V) → ways.1 v ≡ reads → Common Y → Common R) × Sends S

-- the cell's lifetime α (`life`), and its ghost names γ (`round`), ρ (`views`) and ν (`value`)
pub record Id : Type 0 where
  pub life : Lft
  pub round : GName
  pub views : GName
  pub value : GName

-- the entries of ρ from k on, which belong to no party yet
abbrev pub unused : GName → ℕ → Gv → Fml
unused ρ k g = entries_from halved ρ k (λ _. (full_share, g))

-- the invariant's quarter of each party's view
abbrev pub roster : {V : Type 0} → (V → Gv) → GName → ℕ → List V → Fml
roster c ρ k [] = fex Gv (unused ρ k)
roster c ρ k (v ∷ vs) = fsep (seen c ρ k quarter v) (roster c ρ (suc k) vs)

-- what a party owns of its view
abbrev pub stand : {V : Type 0} → (V → Gv) → GName → Option V → Fml
stand c ρ view = elim view [ None ↦ ftrue | Some v ↦ fex ℕ (λ id. seen c ρ id three_quarters v) ]

-- a round: a lifetime, and the value that is shared for it
abbrev pub Round : RattleType → Type 0
Round R = ℕ × R.Denot

abbrev pub round_code : (R : RattleType) → Round R → Gv
round_code R = (coded× coded_ℕ R.coded).code

abbrev pub tag : GName → Share → Gv → Fml
tag γ e g = fown halved γ (e, g)

abbrev pub share : (R : RattleType) → GName → Round R → Share → Fml
share R γ s e = fsep (flft (s.0 ∷ []) e) (tag γ e (round_code R s))

abbrev pub parts : (R : RattleType) → GName → Round R → ℕ → Fml
parts R γ s k = fex Share (λ e. fex (Counts 63 e k) (λ _. share R γ s e))

-- What a reader knows of its share of the round. In the way `lends` the share is one of 2^63 parts. In the way
-- `fixes` the value satisfies the fact.
abbrev pub Part : {X : Type 0} → Way X → X → Share → Type 0
Part alone x e = ⊥
Part lends x e = Counts 63 e 1
Part (fixes fact) x e = fact true x

abbrev pub piece : (R : RattleType) → Way R.Denot → GName → Round R → Fml
piece R way γ s = fex Share (λ e. fex (Part way s.1 e) (λ _. share R γ s e))

-- what the cell still has of a round after r parties have each taken a part, to read for ever
abbrev pub remains : (R : RattleType) → (Bool → R.Denot → Type 0) → GName → Round R → ℕ → Fml
remains R fact γ s zero = fex (fact false s.1) (λ _. share R γ s full_share)
remains R fact γ s (suc r) = piece R (fixes fact) γ s

abbrev pub idle : GName → Fml
idle γ = fex Gv (tag γ full_share)

module _ (R : RattleType) (b o : ℕ) where
  abbrev pub shown : R.Denot → Lft → Fml
  shown x = shared_of R x b (o + offset R)

  module _ (t : Id) where
    -- the value in memory, under the ghost name ν
    abbrev pub named : Fml
    named = Body (mem R) b (o + offset R) t.value

    -- what a `&mut` to the value x owns
    abbrev pub tracked : R.Denot → Fml
    tracked x = fsep (fobs t.value (R.coded.code x)) (fbor t.life named)

    abbrev pub waits_for : ℕ → Fml
    waits_for a = flent (a ∷ t.life) (fbor t.life named)

    abbrev pub shared : Round R → Fml
    shared s = fsep (fobs t.value (R.coded.code s.1)) (fsep (shown s.1 (s.0 ∷ t.life)) (waits_for s.0))

    -- the value, with r readers and no writer
    abbrev pub resting_value : Way R.Denot → ℕ → R.Denot → Fml
    resting_value alone r x = tracked x
    resting_value lends r x = fex ℕ (λ a. fsep (parts R t.round (a, x) (2 ^ 63 - r)) (shared (a, x)))
    resting_value (fixes fact) r x = fex ℕ (λ a. fsep (remains R fact t.round (a, x) r) (shared (a, x)))

    -- what is in the cell while a writer has the value
    abbrev pub missing : Way R.Denot → Fml
    missing way = elim way [ alone ↦ ftrue | _ ↦ idle t.round ]

    -- the value has r readers, and satisfies φ
    abbrev pub lying : Way R.Denot → (R.Denot → Type 0) → ℕ → R.Denot → Fml
    lying way φ r x = fex (φ x) (λ _. resting_value way r x)

    -- the state of a value with r readers and w writers; φ holds of it if nobody writes
    abbrev pub value_state : Way R.Denot → (R.Denot → Type 0) → ℕ → ℕ → Fml
    value_state way φ r zero = fex R.Denot (lying way φ r)
    value_state way φ r (suc w) = missing way

    abbrev pub reader_owns : Way R.Denot → R.Denot → Fml
    reader_owns way x = fex ℕ (λ a. fsep (piece R way t.round (a, x)) (shown x (a ∷ t.life)))

    -- what a party owns of the value
    abbrev pub right : Way R.Denot → Use → Option R.Denot → Fml
    right way off None = ftrue
    right way reads (Some x) = reader_owns way x
    right way writes (Some x) = tracked x
    right way _ _ = ffalse

    module _ {V : Type 0} (c : V → Gv) (S : RattleType) (holds : ℕ → S.Denot → List V → Type 0)
        (ways : Ways R.Denot V S.Denot) where
      abbrev pub core_at : ℕ → S.Denot → List V → Fml
      core_at n m vs = fsep (roster c t.views 0 vs) (fsep (fact (MeetsRule holds ways n m vs))
          (value_state ways.0 (IsKnown ways.2 m) (readers_of ways.1 vs) (writers_of ways.1 vs)))

      abbrev pub core : ℕ × S.Denot → Fml
      core s = fex (List V) (core_at s.0 s.1)

      abbrev pub standing : ℕ × S.Denot → Fml
      standing s = fsep (word b (o + 0) s.0) (fsep (part_at S full_share s.1 b (o + second_at S R)) (core s))

      abbrev pub inner : Fml
      inner = fex (ℕ × S.Denot) standing

      abbrev pub kept : Lft → Fml
      kept = beside (ends t.life) (always (fbor t.life inner))

module _ (Y R : RattleType) {V : Type 0} (c : V → Gv) (S : RattleType) (holds : ℕ → S.Denot → List V → Type 0) (ways : Ways R.Denot V S.Denot) where
  -- what the owner of the cell has: the cell's fields, such that the rule holds of them and of some views
  abbrev pub cell_owns : (ℕ → S.Denot → R.Denot → Fml) → Fml
  cell_owns fields = fex (Known ways Y S R) (λ _. fex (ℕ × S.Denot × R.Denot) (λ s. fsep (fields s.0 s.1 s.2) (fact (Starts holds ways s.0 s.1 s.2))))

  abbrev pub cell_shares : Ptr → Lft → Fml
  cell_shares (block_ptr b o) = some (Known ways Y S R) (λ _. some Id (λ t. kept R b o t c S holds ways))
  cell_shares null_ptr = said ffalse

  module _ (β : Lft) where
    abbrev pub permit_at : ℕ → ℕ → Option V → Use → Option R.Denot → Id → Fml
    permit_at b o view u x t =
        fsep (kept R b o t c S holds ways β) (fsep (stand c t.views view) (right R b o t ways.0 u x))

    abbrev pub permit_owns : Ptr → Option V → Option R.Denot → Fml
    permit_owns (block_ptr b o) view x =
        fex (Known ways Y S R) (λ _. fex Id (permit_at b o view (use_of ways.1 view) x))
    permit_owns null_ptr view x = ffalse

    -- a write permit is a permit whose view writes
    abbrev pub writer_owns : Ptr → V → R.Denot → Fml
    writer_owns null_ptr view x = ffalse
    writer_owns p view x = fex (ways.1 view ≡ writes) (λ _. permit_owns p (Some view) (Some x))

  -- what a `&` to a permit owns: a `&` to the value if the party reads, else nothing
  abbrev pub reader_shares : Lft → ℕ → ℕ → Use → Option R.Denot → Lft → Fml
  reader_shares β b o reads (Some x) = some (Known ways Y S R) (λ _. within β (shown R b o x))
  reader_shares β b o reads None = said ffalse
  reader_shares β b o _ x = nothing

  abbrev pub permit_shares : Lft → Ptr → Option V → Option R.Denot → Lft → Fml
  permit_shares β (block_ptr b o) view x = reader_shares β b o (use_of ways.1 view) x
  permit_shares β null_ptr view x = said ffalse

  abbrev pub writer_shares : Lft → Ptr → V → R.Denot → Lft → Fml
  writer_shares β (block_ptr b o) view x = within β (shown R b o x)
  writer_shares β null_ptr view x = said ffalse

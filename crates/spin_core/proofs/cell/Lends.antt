-- What a `&` to a permit owns: the value, as far as the permit's party may lend it. Assumes `Logic`.
--     Lends-tracked     if P owns the value as a writer does, a borrow of P lends the value
--     permit_laws, Lends-permit     the laws of a `&` to a permit
--     writer_laws, Lends-writer     the laws of a `&` to a write permit
use Rattle.std.proofs.Common.{arith, ◌≡◌, ℕ, ◌+◌, List, [], ◌∷◌, ◌++◌, refl, sym, Option, Some, None}
use seplogic.Ra.Ura.{Ura}
use base.Share
use base.Fraction.{full_share}
use base.Stored.{Gv}
use base.Logic.{all, never_e, id⊢}
use base.Fml.{Lft, Share, Incl, Incl-refl, Incl-trans, Fml, ftrue, ffalse, fsep, fseps, fex, fwand, fupd, fdead, fobs, fbor, flft, finv}
use base.Before.{before}
use contract.BorrowLft.{meet_⊑_left, meet_⊑_right, ⊑_meet}
use ghost.Rules.{span}
use types.Logic.{Logic, lfts}
use types.Kit.{‵, raw, ◌⊛◌, some, later, given, ◌$◌, ◌∵◌, !, qed, by, move, keep, drop, use1, use2, use3, split, split3, fsplit, fsplit3, fjoin, fjoin3, fpick, fpack, pick, check, rewrite, assume, learn, await, updating, now, done, Item}
use types.Tokens.{bor_new, bor_open, obor_close, obor_alter, bor_fracture}
use types.Na.{before_dup, before_shorten}
use denote.RattleType.{RattleType, RowLaws}
use denote.Memory.{part_at, mem}
use denote.Moves.{moves, moves_before}
use types.Within.{within as inside}
use denote.RawPtr.{Ptr, block_ptr, null_ptr}
use denote.Sharing.{ShrLaws, within}
use denote.SharingLaws.{contraction, shortens, nothing_shr_laws, said_shr_laws, some_shr_laws, within_shr_laws}
use denote.Shares.{Shares, settles}
use denote.Steps.{nothing}
use denote.Struct.Lending.{Lends, Lends-false, Lends-nothing}
use Rattle.core.proofs.cell.Borrows.{by_one, unnest_before}
use Rattle.spin_core.specs.Cell.{Use, off, reads, writes, Way, fixes, Fixes, Seen, Ways, use_of}
use Rattle.spin_core.specs.CellMemory.{offset, Known, Id, round_code, tag, Part, piece, reader_owns, shown, named, right, stand, inner, permit_at, permit_owns, permit_shares, reader_shares, writer_owns, writer_shares}
use Rattle.spin_core.proofs.cell.Parts.{piece_in, piece_cut}
use Rattle.spin_core.proofs.cell.Through.{Back, Cut, again, cuts}
use Rattle.spin_core.proofs.cell.Walks.{permit_in, has_value}
use Rattle.spin_core.proofs.Signs.{signs}
use Rattle.spin_core.proofs.Lemmas.{script, cite, twice, settled, having}

-- ---- what is shared may be copied, and may be shared for less time
module _ (Y R : RattleType) {V : Type 0} (c : V → Gv) (S : RattleType) (holds : ℕ → S.Denot → List V → Type 0) (ways : Ways R.Denot V S.Denot)
    (L : RowLaws R) (β : Lft) where
  reader_laws : (b o : ℕ) (u : Use) (x : Option R.Denot) → ShrLaws (reader_shares Y R c S holds ways β b o u x)
  reader_laws b o reads (Some x) =
      some_shr_laws (Known ways Y S R) (λ _. within β (shown R b o x)) (λ _. within_shr_laws β (shown R b o x) (L x b (o + offset R)))
  reader_laws b o reads None = said_shr_laws ffalse tt
  reader_laws b o _ x = nothing_shr_laws

  pub permit_laws : (p : Ptr) (view : Option V) (x : Option R.Denot) → ShrLaws (permit_shares Y R c S holds ways β p view x)
  permit_laws (block_ptr b o) view x = reader_laws b o (use_of ways.1 view) x
  permit_laws null_ptr view x = said_shr_laws ffalse tt

  pub writer_laws : (p : Ptr) (view : V) (x : R.Denot) → ShrLaws (writer_shares Y R c S holds ways β p view x)
  writer_laws (block_ptr b o) view x = within_shr_laws β (shown R b o x) (L x b (o + offset R))
  writer_laws null_ptr view x = said_shr_laws ffalse tt

module _ {M : Type 1} {𝓤 : Ura M} (𝓛 : Logic 𝓤) where
  open 𝓛 use {H, A}
  open (signs 𝓛) use {◌⊩◌, ◌⊢◌, ◌∗◌, ◌-∗◌, ⟦◌⟧}

  -- ---- a party that owns the value as `tracked`, like a writer
  module _ (R : RattleType) (b o : ℕ) (β : Lft) (x : R.Denot) (Pen : R.Denot → Fml) where
    abbrev P : Fml
    P = Pen x

    abbrev At : Fml
    At = part_at R full_share x b (o + offset R)

    abbrev Ob : Id → Fml
    Ob t = fobs t.value (R.coded.code x)

    abbrev N : Id → Fml
    N t = named R b o t

    closes : (ν : Lft) (t : Id) → raw (all 𝓤 (Back 𝓛 R β b o Pen t))
        ⊩ ‵ (fwand (fsep (fdead ν) (fseps (Ob t ∷ fbor t.life (N t) ∷ []))) (fupd P))
    unfolding fseps
    closes ν t = script ∵ assume ! (‵ (fsep (fdead ν) (fsep (Ob t) (fsep (fbor t.life (N t)) ftrue)))) $
        settled ! ⟦ P ⟧ $ fsplit ! $ drop ! $ fsplit3 ! $ fjoin ! $ keep ! (2 ∷ 0 ∷ []) $
        by ! (again 𝓛 R β b o Pen t x).prf

    Lends-at : ‵ P ⊩ some (Cut 𝓛 R β b o Pen x) → (ν : Lft) → Incl ν β → (q : Share)
        → ‵ (fbor ν P) ⊛ ‵ (flft ν q) ⊩ later (‵ (fbor ν At) ⊛ ‵ (flft ν q))
    unfolding fseps
    Lends-at opens ν inc q = script ∵ updating ! $ bor_open ! tt $ move ! (1 ∷ []) $
        cite _ opens $ pick ! (λ t. split3 ! $ move ! (2 ∷ []) $ split ! $ move ! (1 ∷ 3 ∷ 0 ∷ []) $
        cite _ (closes ν t) $ nothing ! $ move ! (2 ∷ 3 ∷ 0 ∷ []) $ fjoin3 ! $
        move ! (3 ∷ 0 ∷ 1 ∷ []) $ obor_alter ! tt (Ob t ∷ fbor t.life (N t) ∷ []) $ use1 𝓛 (‵ (fbor ν (Ob t)) ⊛ ‵ (fbor ν (fbor t.life (N t))) ⊛ ‵ ftrue) (id⊢ 𝓤 _) $ split3 ! $
        move ! (4 ∷ []) $ use1 𝓛 (‵ (before ν t.life)) (before_shorten 𝓛 β ν t.life inc) $ keep ! (0 ∷ 2 ∷ 4 ∷ 1 ∷ []) $
        use3 𝓛 (later (‵ (fbor ν (N t)) ⊛ ‵ (flft ν q))) (unnest_before 𝓛 ν t.life q (N t)) $ await ! tt $ split ! $ move ! (1 ∷ []) $
        use1 𝓛 (‵ (flft ν (Share.left q)) ⊛ ‵ (flft ν (Share.right q))) (𝓛.lfts.lft_split ν q) $ split ! $ move ! (3 ∷ 0 ∷ []) $ bor_open ! tt $ move ! (1 ∷ 3 ∷ 2 ∷ []) $
        use3 𝓛 (later (‵ (Ob t) ⊛ ‵ (fbor ν At) ⊛ ‵ (flft ν (Share.right q)))) (settles 𝓛 (mem R) ν ((ν, Share.right q) ∷ []) (Incl-refl ν) t.value x b (o + offset R)) $ await ! tt $ split3 ! $
        move ! (3 ∷ 0 ∷ []) $ obor_close ! tt $ drop ! $ move ! (0 ∷ 2 ∷ []) $ use2 𝓛 (‵ (flft ν q)) (𝓛.lfts.lft_join ν q) $ now ! $ move ! (1 ∷ 0 ∷ []) $ done !)

    Lends-tracked : (l : Lft) → Incl l β → Shares 𝓛 R l → ‵ P ⊩ some (Cut 𝓛 R β b o Pen x)
        → Lends 𝓛 P (within β (shown R b o x)) l
    Lends-tracked l le s opens κ ts inc sp =
        let ν : Lft = κ ++ β in let sm : Incl (span ts) ν = ⊑_meet (span ts) κ β sp (Incl-trans inc le) in
        qed 𝓛 (‵ (fbor κ P) ∷ raw (lfts 𝓛 ts) ∷ []) ∵ updating ! $ use1 𝓛 (‵ (fbor ν P)) (𝓛.bors.bor_shorten κ ν P (meet_⊑_left κ β)) $
        use2 𝓛 (later (‵ (fbor ν At) ⊛ raw (lfts 𝓛 ts))) (by_one 𝓛 ν ts sm (A.bor ν P) (A.bor ν At) (λ q. (Lends-at opens ν (meet_⊑_right κ β) q).prf)) $
        await ! tt $
        use1 𝓛 (later (‵ (shown R b o x ν) ⊛ raw (lfts 𝓛 ts))) (s x ν ts b (o + offset R) inc sm) $ await ! tt $ now ! $ done !

  module _ (Y R : RattleType) {V : Type 0} (c : V → Gv) (S : RattleType) (holds : ℕ → S.Denot → List V → Type 0) (ways : Ways R.Denot V S.Denot) (β : Lft) where
    abbrev Knows : Type 0
    Knows = Known ways Y S R

    -- ---- a writer
    pub Lends-writer : (l : Lft) → Incl l β → Shares 𝓛 R l → (p : Ptr) (view : V) (x : R.Denot) → Lends 𝓛 (writer_owns Y R c S holds ways β p view x) (writer_shares Y R c S holds ways β p view x) l
    Lends-writer l le s (block_ptr b o) view x = Lends-tracked R b o β x
        (writer_owns Y R c S holds ways β (block_ptr b o) view) l le s (cuts 𝓛 Y R c S holds ways β b o view x)
    Lends-writer l le s null_ptr view x = Lends-false 𝓛 (writer_shares Y R c S holds ways β null_ptr view x) l

    -- A value that is shown for the lifetimes n and `t.life` is shown for ν too, if ν lies within n and within the
    -- cell's borrow β, which ends before `t.life`.
    shows_for : RowLaws R → (b o : ℕ) (t : Id) (x : R.Denot) (ν : Lft) → Incl ν β → (n : ℕ)
        → ‵ (shown R b o x (n ∷ t.life)) ⊛ ‵ (before β t.life) ⊛ ‵ (inside ν (n ∷ [])) ⊩ ‵ (shown R b o x ν)
    shows_for L b o t x ν inc n =
        let a : Lft = n ∷ [] in let μ : Lft = a ++ ν in let V' : Lft → Fml = shown R b o x in let K = L x b (o + offset R) in
        script ∵ use1 𝓛 (‵ (V' (μ ++ t.life))) (shortens 𝓛 V' K (a ++ t.life) (μ ++ t.life)
        (⊑_meet _ a t.life (Incl-trans (meet_⊑_left μ _) (meet_⊑_left a ν)) (meet_⊑_right μ _))) $ move ! (1 ∷ []) $
        use1 𝓛 (‵ (before μ t.life)) (before_shorten 𝓛 β μ t.life (Incl-trans (meet_⊑_right a ν) inc)) $
        use2 𝓛 (‵ (V' μ)) (moves_before 𝓛 V' K μ t.life) $ move ! (1 ∷ 0 ∷ []) $ use2 𝓛 (‵ (V' ν)) (moves 𝓛 V' K ν a) $ done !

    -- ---- a permit whose party is off, reads or writes
    module _ (b o : ℕ) (view : Option V) where
      abbrev Owned : Use → Option R.Denot → Fml
      Owned u x = fex Knows (λ _. fex Id (permit_at Y R c S holds ways β b o view u x))

      module _ (L : RowLaws R) (x : R.Denot) (ν : Lft) (inc : Incl ν β) where
        abbrev Own : Fml
        Own = Owned reads (Some x)

        abbrev V' : Lft → Fml
        V' = shown R b o x

        reads_again : (k : Knows) (t : Id) (a : ℕ) (e : Share) → Part ways.0 x e
            → ‵ (before β t.life) ⊛ ‵ (finv (fbor t.life (inner R b o t c S holds ways))) ⊛ ‵ (stand c t.views view)
            ⊛ ‵ (tag t.round e (round_code R (a, x))) ⊛ ‵ (V' (a ∷ t.life))
            ⊩ ‵ (fwand (fsep (fdead ν) (fseps (flft (a ∷ []) e ∷ []))) (fupd Own))
        unfolding fseps
        reads_again k t a e n = script ∵ assume ! (‵ (fsep (fdead ν) (fsep (flft (a ∷ []) e) ftrue))) $
            settled ! ⟦ Own ⟧ $ fsplit3 ! $ move ! (1 ∷ 6 ∷ []) $ fjoin ! $
            cite _ (piece_in 𝓛 R t.round ways.0 (a, x) e n) $ move ! (0 ∷ 6 ∷ []) $ fjoin ! $
            fpack ! ℕ (λ u. fsep (piece R ways.0 t.round (u, x)) (V' (u ∷ t.life))) a $ move ! (3 ∷ 4 ∷ []) $ fjoin ! $
            keep ! (0 ∷ 4 ∷ 1 ∷ []) $ by ! (permit_in 𝓛 Y R c S holds ways β b o view reads (Some x) k t).prf

        pub lends_shown : (q : Share) → ‵ (fbor ν Own) ⊛ ‵ (flft ν q) ⊩ later (‵ (fex Knows (λ _. V' ν)) ⊛ ‵ (flft ν q))
        unfolding fseps
        lends_shown q = script ∵ updating ! $ bor_open ! tt $ move ! (1 ∷ []) $ fpick ! (λ k. fpick ! (λ t. fsplit3 ! $
            fsplit ! $ move ! (3 ∷ []) $ fpick ! (λ u. fsplit ! $ fpick ! (λ e. fpick ! (λ n. fsplit ! $
            let a : Lft = u ∷ [] in let K = L x b (o + offset R) in
            -- context: [the token of u; the tag; what is shown; `before β t.life`; the invariant; the view; the open
            -- borrow]
            move ! (2 ∷ []) $ twice ! (contraction 𝓛 V' K (a ++ t.life)) $ move ! (4 ∷ []) $
            twice ! (before_dup 𝓛 β t.life) $ move ! (0 ∷ 6 ∷ 7 ∷ 5 ∷ 2 ∷ []) $
            cite _ (reads_again k t u e n) $ nothing ! $ move ! (4 ∷ 0 ∷ []) $ fjoin ! $ move ! (4 ∷ 0 ∷ 1 ∷ []) $ obor_alter ! tt (flft a e ∷ []) $
            use1 𝓛 (‵ (fbor ν (flft a e)) ⊛ ‵ ftrue) (id⊢ 𝓤 _) $ split ! $ bor_fracture ! tt (λ r. flft a r) e $ move ! (4 ∷ 3 ∷ 0 ∷ []) $
            cite _ (shows_for L b o t x ν inc u) $ fpack ! Knows (λ _. V' ν) k $ now ! $ keep ! (0 ∷ 2 ∷ []) $ done !)))))

      no_reader : (l : Lft) → Lends 𝓛 (Owned reads None) (λ _. ffalse) l
      no_reader l κ ts inc sp = let P : Fml = Owned reads None in qed 𝓛 (‵ (fbor κ P) ∷ raw (lfts 𝓛 ts) ∷ []) ∵ updating ! $
          use2 𝓛 (later (‵ P ⊛ raw (⟦ P ⟧ -∗ H.⇛ (A.bor κ P ∗ lfts 𝓛 ts)))) (𝓛.more.bor_acc_by κ ts P sp) $ await ! tt $ split ! $ fpick ! (λ k. fpick ! (λ t. fsplit3 ! $ keep ! (2 ∷ []) $ by ! (never_e 𝓤 _)))

      Lends-owned : RowLaws R → (l : Lft) → Incl l β → (u : Use) (x : Option R.Denot) → Lends 𝓛 (Owned u x) (reader_shares Y R c S holds ways β b o u x) l
      Lends-owned L l le off x = Lends-nothing 𝓛 (Owned off x) l
      Lends-owned L l le writes x = Lends-nothing 𝓛 (Owned writes x) l
      Lends-owned L l le reads None = no_reader l
      Lends-owned L l le reads (Some x) = λ κ ts inc sp. let ν : Lft = κ ++ β in let P : Fml = Owned reads (Some x) in
          qed 𝓛 (‵ (fbor κ P) ∷ raw (lfts 𝓛 ts) ∷ []) ∵ use1 𝓛 (‵ (fbor ν P)) (𝓛.bors.bor_shorten κ ν P (meet_⊑_left κ β)) $
          by ! (by_one 𝓛 ν ts (⊑_meet (span ts) κ β sp (Incl-trans inc le)) (A.bor ν P)
          ⟦ fex Knows (λ _. shown R b o x ν) ⟧ (λ q. (lends_shown L x ν (meet_⊑_right κ β) q).prf))

    pub Lends-permit : RowLaws R → (l : Lft) → Incl l β → (p : Ptr) (view : Option V) (x : Option R.Denot) → Lends 𝓛 (permit_owns Y R c S holds ways β p view x) (permit_shares Y R c S holds ways β p view x) l
    Lends-permit L l le (block_ptr b o) view x = Lends-owned b o view L l le (use_of ways.1 view) x
    Lends-permit L l le null_ptr view x = Lends-false 𝓛 (permit_shares Y R c S holds ways β null_ptr view x) l

    -- ---- a reader may show the value for the rest of the cell's borrow: it never gives back its token of the round
    abbrev pub IsShown : ℕ → ℕ → Option R.Denot → R.Denot → Item 𝓤
    IsShown b o v x = given ((v ≡ Some x) × Seen ways.0 x) (‵ (shown R b o x β))

    shown_by : RowLaws R → (b o : ℕ) (t : Id) (x : R.Denot)
        → ‵ (before β t.life) ⊛ ‵ (reader_owns R b o t ways.0 x) ⊩ later (given (Seen ways.0 x) (‵ (shown R b o x β)))
    shown_by L b o t x = script ∵ updating ! $ move ! (1 ∷ []) $ fpick ! (λ n. fsplit ! $ fpick ! (λ e. fpick ! (λ known. fsplit ! $
        -- context: [the token of n; the tag; what is shown; `before β t.life`]
        bor_new ! tt β $ bor_fracture ! tt (λ r. flft (n ∷ []) r) e $ move ! (3 ∷ 4 ∷ 0 ∷ []) $
        cite _ (shows_for L b o t x β (Incl-refl β) n) $ now ! $ check ! (grind arith) $ keep ! (0 ∷ []) $ done !)))

    pub shown_on : RowLaws R → (b o : ℕ) (view : Option V) (v : Option R.Denot) → use_of ways.1 view ≡ reads
        → ‵ (permit_owns Y R c S holds ways β (block_ptr b o) view v) ⊩ later (some (IsShown b o v))
    shown_on L b o view None is = has_value 𝓛 Y R c S holds ways β b o view is (λ t. refl) _
    shown_on L b o view (Some x) is = script ∵ updating ! $ fpick ! (λ k. fpick ! (λ t. fsplit3 ! $ fsplit ! $ move ! (3 ∷ []) $
        rewrite ! 0 (λ (u : Use). ‵ (right R b o t ways.0 u (Some x))) is refl $ move ! (1 ∷ 0 ∷ []) $
        cite _ (shown_by L b o t x) $ await ! tt $ learn ! (λ known.
        now ! $ having ! (IsShown b o (Some x)) x $ check ! (refl, known) $ keep ! (0 ∷ []) $ done !)))

    -- ---- in the way `fixes` a reader that shows the value also keeps its permit
    reader_cut : RowLaws R → (b o : ℕ) (t : Id) (way : Way R.Denot) → Fixes way → (x : R.Denot)
        → ‵ (reader_owns R b o t way x) ⊩ ‵ (reader_owns R b o t way x) ⊛ ‵ (reader_owns R b o t way x)
    reader_cut L b o t (fixes fact) fixed x =
        let way : Way R.Denot = fixes fact in let V' : Lft → Fml = shown R b o x in let Rd : ℕ → Fml = λ n. fsep (piece R way t.round (n, x)) (V' (n ∷ t.life)) in
        script ∵ fpick ! (λ n. fsplit ! $
        cite _ (piece_cut 𝓛 R t.round fact (n, x)) $ learn ! (λ known. split ! $ move ! (2 ∷ []) $
        use1 𝓛 (‵ (V' (n ∷ t.life)) ⊛ ‵ (V' (n ∷ t.life))) (contraction 𝓛 V' (L x b (o + offset R)) (n ∷ t.life)) $ split ! $ move ! (2 ∷ 0 ∷ []) $ fjoin ! $ fpack ! ℕ Rd n $ move ! (2 ∷ 1 ∷ []) $ fjoin ! $ fpack ! ℕ Rd n $ done !))
    reader_cut L b o t _ fixed x = absurd fixed

    abbrev pub IsShownTo : ℕ → ℕ → Option V → Option R.Denot → R.Denot → Item 𝓤
    IsShownTo b o view v x = given ((v ≡ Some x) × Seen ways.0 x) (‵ (shown R b o x β) ⊛ ‵ (permit_owns Y R c S holds ways β (block_ptr b o) view v))

    pub shown_to : RowLaws R → (b o : ℕ) (view : Option V) (v : Option R.Denot) → use_of ways.1 view ≡ reads
        → Fixes ways.0 → ‵ (permit_owns Y R c S holds ways β (block_ptr b o) view v) ⊩ later (some (IsShownTo b o view v))
    shown_to L b o view None is fixed = has_value 𝓛 Y R c S holds ways β b o view is (λ t. refl) _
    shown_to L b o view (Some x) is fixed = script ∵ updating ! $ fpick ! (λ k. fpick ! (λ t.
        let Right : Use → Item 𝓤 = λ u. ‵ (right R b o t ways.0 u (Some x)) in fsplit3 ! $ fsplit ! $ move ! (3 ∷ []) $
        rewrite ! 0 Right is refl $ cite _ (reader_cut L b o t ways.0 fixed x) $ move ! (2 ∷ []) $
        twice ! (before_dup 𝓛 β t.life) $ move ! (0 ∷ 2 ∷ []) $
        cite _ (shown_by L b o t x) $ await ! tt $ learn ! (λ known.
        -- context: [what is shown; `before β t.life`; the reader; the invariant; the view]
        move ! (2 ∷ []) $ rewrite ! 0 Right (sym is) refl $ move ! (2 ∷ 3 ∷ []) $ fjoin ! $ move ! (0 ∷ 3 ∷ 1 ∷ []) $
        cite _ (permit_in 𝓛 Y R c S holds ways β b o view (use_of ways.1 view) (Some x) k t) $ move ! (1 ∷ []) $ now ! $
        having ! (IsShownTo b o view (Some x)) x $ check ! (refl, known) $ done !)))

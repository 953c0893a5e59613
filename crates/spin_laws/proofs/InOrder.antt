-- A text in order is never stuck: if all calls that are left were kept out, those of the highest lock could not be.
use Rattle.std.proofs.Common.{◌≡◌, ◌≢◌, ℕ, zero, suc, ◌+◌, ◌<◌, ◌≤◌, ◌⊎◌, ◌==◌, ◌&&◌, Bool, true, false, not, cond, Option, Some, None, unwrap_or, List, [], ◌∷◌, inl, inr, ⊎_elim, length, take, nat_lt, slice_get, refl, ap, sym, ◌∙◌, subst, arith}
use Rattle.std.specs.List.{count_by}
use Rattle.std.proofs.lemmas.Bool.{eqb-true, eq-eqb, cases_eq, cases_lt, ne_eqb}
use Rattle.std.proofs.lemmas.List.Sums.{sum_by-cons}
use Rattle.std.proofs.lemmas.Option.{slice_get_within}
use Rattle.spin_step.specs.declared.place.Hold.{Hold}
use Rattle.spin_step.specs.declared.place.Seat.TheVariants.{Idle, Calling, Holding, Leaked, Gone}
use Rattle.spin_step.specs.declared.schedule.Move.TheVariants.{Begin}
use Rattle.spin_explore.specs.declared.kinds.AnyCall.{AnyCall}
use Rattle.spin_explore.specs.declared.kinds.AnyLock.{AnyLock}
use Rattle.spin_explore.specs.declared.kinds.AnyLock.TheVariants as any
use Rattle.spin_explore.specs.declared.lock_order.LockOrder.TheVariants.{In}
use Rattle.spin_explore.specs.declared.lock_order.Part.{Part}
use Rattle.spin_explore.specs.Kinds.{any_rules, any_in_call, any_after}
use Rattle.spin_explore.specs.Halts.{lines_left, IsAnswered, AreInCalls, AnswersAlone, IsNeverStuck}
use Rattle.spin_explore.specs.Orders.{leaks, awaits, waits, waits_beside, held_after, HasEachOnce, HasNoEndless, IsOrder, IsOrderOf, WaitsWith}
use Rattle.spin_explore.specs.OrderSearch.{place_from}
use Rattle.spin_explore.specs.Programs.{Stage, turn, is_in_call, in_call_of, stage_after, Follows, part}
use Rattle.spin_explore.specs.Walks.{HasNode}
use Rattle.spin_explore.proofs.Halts.{never_stuck}
use Rattle.spin_explore.proofs.Places.{within_get}
use Rattle.spin_explore.proofs.KeptCalls.{any_keep}
use Rattle.spin_explore.proofs.Settle.{never_halts}
use Rattle.spin_laws.specs.AnyLocks.{Moves, plain_after, IsKeptOutOf, TellsWho, UseInOrder}
use Rattle.spin_laws.specs.Several.{has_something}
use Rattle.spin_laws.proofs.AnyLocks.{free}
use Rattle.spin_laws.specs.Texts.{unused, IsText, IsNeverStuckInOrder}
use Rattle.spin_laws.proofs.TicketsLeft.{leaves_room}
use Rattle.spin_laws.proofs.AnyKinds.{kept_out_calls, kept_out_or_answered, is_resting, rests_without}
use Rattle.spin_laws.proofs.Lines.{Line, Gots, IsNext, next_of, may_have, had_there, have_before, have_after}
use Rattle.spin_laws.proofs.Seated.{Sat, any_seat, any_fits, part_of}
use Rattle.spin_laws.proofs.Texts.{Covered, Sound, first, may, next_line, played_after, there_after, sound_after}

-- Places in a list

abbrev count : ℕ → List ℕ → ℕ
count l ls = count_by (λ m. m == l) ls

count-cons : (l m : ℕ) (ls : List ℕ) → count l (m ∷ ls) ≡ cond (m == l) 1 0 + count l ls
count-cons l m ls = sum_by-cons (λ n. cond (n == l) 1 0) m ls

counts_it : (l m : ℕ) (ls : List ℕ) → m ≡ l → count l (m ∷ ls) ≡ 1 + count l ls
counts_it l m ls same = grind (arith, same, count-cons l m ls)

counts_other : (l m : ℕ) (ls : List ℕ) → (m ≡ l → ⊥) → count l (m ∷ ls) ≡ count l ls
counts_other l m ls other = grind (arith, other, count-cons l m ls)

counted : (l : ℕ) (ls : List ℕ) (i : ℕ) → slice_get ls i ≡ Some l → 1 ≤ count l ls
counted l [] i is = absurd (grind (arith, is))
counted l (m ∷ ls) zero is = omega (arith, counts_it l m ls (cc (is)))
counted l (m ∷ ls) (suc i) is = omega (arith, count-cons l m ls, counted l ls i is)

one_place : (l : ℕ) (ls : List ℕ) (i j : ℕ) → count l ls ≤ 1 → slice_get ls i ≡ Some l → slice_get ls j ≡ Some l → i ≡ j
one_place l [] i j few at too = absurd (grind (arith, at))
one_place l (m ∷ ls) zero zero few at too = refl
one_place l (m ∷ ls) zero (suc j) few at too = absurd (omega (arith, few, counts_it l m ls (cc (at)), counted l ls j too))
one_place l (m ∷ ls) (suc i) zero few at too = absurd (omega (arith, few, counts_it l m ls (cc (too)), counted l ls i at))
one_place l (m ∷ ls) (suc i) (suc j) few at too = ap suc (one_place l ls i j (omega (arith, few, count-cons l m ls)) at too)

place_by : (start l : ℕ) (ls : List ℕ) → 1 ≤ count l ls → (d : ℕ) × (place_from start l ls ≡ start + d) × (slice_get ls d ≡ Some l)
place_by start l [] some = absurd (omega (arith, some))
place_by start l (m ∷ ls) some =
    ⊎_elim (λ (same : m ≡ l). (0, grind (arith, eq-eqb m l same), ap Some same))
    (λ (other : m ≡ l → ⊥).
    let no = ne_eqb m l other in let far = place_by (start + 1) l ls (subst (λ n. 1 ≤ n) (counts_other l m ls other) some) in
    let here : place_from start l (m ∷ ls) ≡ place_from (start + 1) l ls = grind (arith, no) in
    (suc far.0, omega (arith, here, far.1), far.2))
    (cases_eq m l)

-- Lines that are left

left_place : (gs : Gots) → 0 < lines_left gs → (d : ℕ) × (slice_get gs d ≡ Some None)
left_place [] some = absurd (omega (arith, some))
left_place (None ∷ gs) some = (0, refl)
left_place (Some g ∷ gs) some = let far = left_place gs some in (suc far.0, far.1)

has_turn : (p j : ℕ) (es : List Line) (gs : Gots) (d : ℕ) (e : Line) → slice_get es d ≡ Some e → slice_get gs d ≡ Some None → (e.party == p) ≡ true → turn p j es gs ≡ None → ⊥
has_turn p j [] gs d e there opened mine none = grind (arith, there)
has_turn p j (f ∷ es) [] d e there opened mine none = grind (arith, opened)
has_turn p j (f ∷ es) (None ∷ gs) zero e there opened mine none = grind (arith, there, mine, none)
has_turn p j (f ∷ es) (Some g ∷ gs) zero e there opened mine none = grind (arith, opened)
has_turn p j (f ∷ es) (None ∷ gs) (suc d) e there opened mine none =
    has_turn p (j + 1) es gs d e there opened mine (by (f.party == p) refl)
  where
    by : (b : Bool) → (f.party == p) ≡ b → turn p (j + 1) es gs ≡ None
    by true is = absurd (grind (arith, none, is))
    by false is = grind (arith, none, is)
has_turn p j (f ∷ es) (Some g ∷ gs) (suc d) e there opened mine none = has_turn p (j + 1) es gs d e there opened mine none

-- A party that does not rest is in the call of its next line, or holds what it may have.
busy : (fits : Hold → Bool) (has : Part → Bool) (k : ℕ) (next : Option (ℕ × Line)) (seat : Option Sat) → is_resting seat ≡ false → Covered fits has k next seat
    → ((i : ℕ) × (e : Line) × (next ≡ Some (i, e)) × (e.lock ≡ k)) ⊎ ((h : Hold) × (has (part_of h) ≡ true))
busy fits has k next None rests was = absurd (grind (arith, rests))
busy fits has k next (Some Idle) rests was = absurd (grind (arith, rests))
busy fits has k next (Some (Calling c l h)) rests was = inl (was.0, was.1, was.2, was.3)
busy fits has k next (Some (Holding h)) rests was = inr (h, grind (arith, was))
busy fits has k next (Some (Leaked h)) rests was = absurd was
busy fits has k next (Some (Gone h)) rests was = absurd was

-- a lock that nobody uses
abbrev spare : AnyLock
spare = any.Barrier (record { object = record { n = 0 }; state = record { words = record { count = 0; generation = 0 }; value = None; seats = [] } })

module _ (n : ℕ) (locks : List AnyLock) (lines : List Line) (text : IsText n locks lines) (endless : HasNoEndless lines (length lines)) (order : List ℕ) (in_order : IsOrder lines (length locks) (length lines) order)
    (in_the_end : held_after [] lines ≡ []) (es : List Line) (follows : Follows any_rules lines n (first n locks lines text endless) es)
  where
    abbrev x : Stage AnyLock ℕ
    x = stage_after any_rules lines (first n locks lines text endless) es

    abbrev next : ℕ → Option (ℕ × Line)
    next p = turn p 0 lines x.got

    abbrev lock_now : ℕ → AnyLock → AnyLock
    lock_now k one = any_after (unused n one) (part k es)

    abbrev sound : Sound n locks lines text endless x
    sound = sound_after n locks lines text endless es follows

    line_there : (p i : ℕ) (line : Line) → next p ≡ Some (i, line) → (slice_get lines i ≡ Some line) × (line.party ≡ p)
    line_there p i line is =
        let at : IsNext p 0 lines x.got i line = next_of p 0 lines x.got i line is in
        (let same : at.past ≡ i = omega (arith, at.is) in subst (λ j. slice_get lines j ≡ Some line) same at.there, at.mine)

    seated : (p k : ℕ) (one : AnyLock) → slice_get locks k ≡ Some one
        → Covered (any_fits (lock_now k one)) (may n locks lines text endless x p k) k (next p) (any_seat (lock_now k one) p)
    seated p k one at = sound.seats p k (lock_now k one) (there_after n locks lines text endless es follows k one at)

    -- the call of a party in this seat is that of its next line
    line_of_call : (p k : ℕ) (one : AnyLock) (c : AnyCall) (h : Option Hold) → slice_get locks k ≡ Some one → any_seat (lock_now k one) p ≡ Some (Calling c tt h)
        → (i : ℕ) × (e : Line) × (next p ≡ Some (i, e)) × (e.lock ≡ k) × (e.action ≡ Begin c)
    line_of_call p k one c h at seat =
        let was = subst (λ z. Covered (any_fits (lock_now k one)) (may n locks lines text endless x p k) k (next p) z) seat (seated p k one at) in
        (was.0, was.1, was.2, was.3, was.4)

    abbrev KeptOut : ℕ → Line → Type 0
    KeptOut p line = (one : AnyLock) × (slice_get locks line.lock ≡ Some one) × IsKeptOutOf n one (part line.lock es) p

    -- Each party in its call is kept out, or its call is answered
    module _ (calls : AreInCalls any_rules lines n n x) where
      abbrev Stands : ℕ → Type 0
      Stands p = (i : ℕ) (line : Line) → next p ≡ Some (i, line) → KeptOut p line

      module _ (p i : ℕ) (line : Line) (less : p < n) (is : next p ≡ Some (i, line)) where
        ends_by : (one : AnyLock) → slice_get locks line.lock ≡ Some one → slice_get lines i ≡ Some line → (c : AnyCall) (h : Option Hold) → any_seat (lock_now line.lock one) p ≡ Some (Calling c tt h) → awaits (Begin c) ≡ false
        ends_by one at there c h seat =
            let it = line_of_call p line.lock one c h at seat in
            let same : line ≡ it.1 = (let both : Some (i, line) ≡ Some (it.0, it.1) = sym is ∙ it.2 in grind (arith, both)) in
            let begun : line.action ≡ Begin c = ap (λ (f : Line). f.action) same ∙ it.4 in
            let never = endless i line (slice_get_within lines i line there) there in
            let no : awaits line.action ≡ false = grind (arith, never) in
            ap awaits (sym begun) ∙ no

        by_lock : (z : Option AnyLock) → slice_get x.locks line.lock ≡ z → IsAnswered any_rules lines n x ⊎ KeptOut p line
        by_lock None none = absurd (let in_call = ap (λ z. in_call_of any_rules z p) (sym none) ∙ calls p i line less is in grind (arith, in_call))
        by_lock (Some lock) here =
            let (one, at, lock_is) = played_after n locks lines text endless es follows line.lock lock here in
            let there = line_there p i line is in
            let in_call : any_in_call lock p ≡ true = ap (λ z. in_call_of any_rules z p) (sym here) ∙ calls p i line less is in
            let ends : (c : AnyCall) (h : Option Hold) → any_seat (lock_now line.lock one) p ≡ Some (Calling c tt h) → awaits (Begin c) ≡ false = ends_by one at there.0 in
            ⊎_elim (λ (kept : IsKeptOutOf n one (part line.lock es) p). inr (one, at, kept))
            (λ (answered : (k : ℕ) × AnswersAlone any_rules (lock_now line.lock one) p k).
            inl (record {
              place = i;
              line = line;
              lock = lock;
              steps = answered.0;
              small = subst (λ q. q < n) (sym there.1) less;
              next = subst (λ q. next q ≡ Some (i, line)) (sym there.1) is;
              there = here;
              calls = ap (any_in_call lock) there.1 ∙ in_call;
              answers = subst (λ q. AnswersAlone any_rules lock q answered.0) (sym there.1) (subst (λ l. AnswersAlone any_rules l p answered.0) (sym lock_is) answered.1);
            }))
            (kept_out_or_answered n one (part line.lock es) p (leaves_room n locks lines text endless es follows line.lock one at) (subst (λ l. any_in_call l p ≡ true) lock_is in_call) ends)

      by_turn : (p : ℕ) → p < n → (o : Option (ℕ × Line)) → next p ≡ o → IsAnswered any_rules lines n x ⊎ Stands p
      by_turn p less None is = inr (λ i line more. absurd (grind (arith, is, more)))
      by_turn p less (Some (i, line)) is =
          ⊎_elim inl (λ (kept : KeptOut p line). inr (λ j other more. let both : Some (i, line) ≡ Some (j, other) = sym is ∙ more in let same : line ≡ other = grind (arith, both) in subst (KeptOut p) same kept)) (by_lock p i line less is (slice_get x.locks line.lock) refl)

      scan : (k : ℕ) → k ≤ n → IsAnswered any_rules lines n x ⊎ ((p : ℕ) → p < k → Stands p)
      scan zero few = inr (λ p less. absurd (omega (arith, less)))
      scan (suc k) few =
          ⊎_elim inl (λ (before : (p : ℕ) → p < k → Stands p).
          ⊎_elim inl (λ (last : Stands k). inr (λ p less.
          ⊎_elim (λ (far : p < k). before p far) (λ (near : k ≤ p). subst Stands (let same : k ≡ p = omega (arith, near, less) in same) last) (cases_lt p k)))
          (by_turn k (omega (arith, few)) (next k) refl))
          (scan k (omega (arith, few)))

    -- If each of them is kept out, they are in a deadlock, and there is none
    module _ (all : (p : ℕ) → p < n → (i : ℕ) (line : Line) → next p ≡ Some (i, line) → KeptOut p line) where
      kept : (p i : ℕ) (line : Line) → next p ≡ Some (i, line) → KeptOut p line
      kept p i line is =
          let there = line_there p i line is in all p (subst (λ q. q < n) there.1 (text.parties i line there.0)) i line is

      abbrev lock_in : Option AnyLock → AnyLock
      lock_in o = unwrap_or o spare

      abbrev lock_by : Option ℕ → AnyLock
      lock_by None = spare
      lock_by (Some l) = lock_in (slice_get locks l)

      abbrev past_by : Option ℕ → Moves
      past_by None = []
      past_by (Some l) = part l es

      abbrev ranked : ℕ → AnyLock
      ranked k = lock_by (slice_get order k)

      abbrev past : ℕ → Moves
      past k = past_by (slice_get order k)

      abbrev rank_of : Option (ℕ × Line) → Option ℕ
      rank_of None = None
      rank_of (Some line) = Some (place_from 0 line.1.lock order)

      abbrev at : ℕ → Option ℕ
      at p = rank_of (next p)

      few_of : (l : ℕ) → count l order ≤ 1
      few_of l = grind (arith, in_order.0 l)

      placed : (l : ℕ) (one : AnyLock) → slice_get locks l ≡ Some one → slice_get order (place_from 0 l order) ≡ Some l
      placed l one is =
          let within = slice_get_within locks l one is in
          let d = place_by 0 l order (grind (arith, in_order.0 l, within)) in
          subst (λ k. slice_get order k ≡ Some l) (let same : d.0 ≡ place_from 0 l order = omega (arith, d.1) in same) d.2

      same_rank : (l j k : ℕ) → slice_get order j ≡ Some l → slice_get order k ≡ Some l → j ≡ k
      same_rank l j k at_j at_k = one_place l order j k (few_of l) at_j at_k

      -- the lock of a rank
      module _ (k l : ℕ) (one : AnyLock) (at_k : slice_get order k ≡ Some l) (there : slice_get locks l ≡ Some one) where
        lock_is : ranked k ≡ one
        lock_is = ap lock_by at_k ∙ ap lock_in there

        past_is : past k ≡ part l es
        past_is = ap past_by at_k

        to_rank : (P : AnyLock → Moves → Type 0) → P one (part l es) → P (ranked k) (past k)
        to_rank P so = subst (λ z. P z (past k)) (sym lock_is) (subst (P one) (sym past_is) so)

        from_rank : (P : AnyLock → Moves → Type 0) → P (ranked k) (past k) → P one (part l es)
        from_rank P so = subst (P one) past_is (subst (λ z. P z (past k)) lock_is so)

      -- a rank has a lock, or the spare one
      by_rank : (k : ℕ) (G : Type 0) → (ranked k ≡ spare → G) → ((l : ℕ) (one : AnyLock) → slice_get order k ≡ Some l → slice_get locks l ≡ Some one → G) → G
      by_rank k G none some = by (slice_get order k) refl
        where
          in_lock : (l : ℕ) → slice_get order k ≡ Some l → (z : Option AnyLock) → slice_get locks l ≡ z → G
          in_lock l is None gone = none (ap lock_by is ∙ ap lock_in gone)
          in_lock l is (Some one) there = some l one is there

          by : (o : Option ℕ) → slice_get order k ≡ o → G
          by None is = none (ap lock_by is)
          by (Some l) is = in_lock l is (slice_get locks l) refl

      rank_tells : (p k : ℕ) (o : Option (ℕ × Line)) → next p ≡ o → rank_of o ≡ Some k → (k < length order) × IsKeptOutOf n (ranked k) (past k) p
      rank_tells p k None is ranks = absurd (grind (arith, ranks))
      rank_tells p k (Some (i, line)) is ranks =
          let it = kept p i line is in
          let at_place = placed line.lock it.0 it.1 in
          let at_k : slice_get order k ≡ Some line.lock = subst (λ j. slice_get order j ≡ Some line.lock) (let same : place_from 0 line.lock order ≡ k = cc (ranks) in same) at_place in
          (slice_get_within order k line.lock at_k, to_rank k line.lock it.0 at_k it.1 (λ l q. IsKeptOutOf n l q p) it.2)

      who_waits : (p k : ℕ) → at p ≡ Some k → (k < length order) × IsKeptOutOf n (ranked k) (past k) p
      who_waits p k is = rank_tells p k (next p) refl is

      waits_where : (p k : ℕ) → IsKeptOutOf n (ranked k) (past k) p → at p ≡ Some k
      waits_where p k out =
          by_rank k (at p ≡ Some k) (λ gone. absurd (subst (λ l. IsKeptOutOf n l (past k) p) gone out))
          (λ l one at_k there.
          let c = kept_out_calls n one (part l es) p (from_rank k l one at_k there (λ z q. IsKeptOutOf n z q p) out) in
          let it = line_of_call p l one c.0 c.1 there c.2 in
          let same : place_from 0 it.1.lock order ≡ k = ap (λ m. place_from 0 m order) it.3 ∙ same_rank l (place_from 0 l order) k (placed l one there) at_k in
          ap rank_of it.2 ∙ ap Some same)

      tells : TellsWho n ranked past (length order) at
      tells = (who_waits, waits_where)

      has_none : (p k : ℕ) → ranked k ≡ spare → has_something (plain_after n (ranked k) (past k)) p ≡ false
      has_none p k gone = subst (λ l. has_something (plain_after n l (past k)) p ≡ false) (sym gone) (grind arith)

      -- a party that has something in the lock of a rank is in a call there, or holds what its lines leave to it
      module _ (p j l : ℕ) (one : AnyLock) (at_j : slice_get order j ≡ Some l) (there : slice_get locks l ≡ Some one) where
        abbrev Has : Type 0
        Has =
            ((i : ℕ) × (e : Line) × (next p ≡ Some (i, e)) × (e.lock ≡ l))
            ⊎ ((h : Hold) × (may n locks lines text endless x p l (part_of h) ≡ true))

        has_by_rest : (b : Bool) → is_resting (any_seat (lock_now l one) p) ≡ b → (has_something (plain_after n (ranked j) (past j)) p ≡ false) ⊎ Has
        has_by_rest true rests = inl (to_rank j l one at_j there (λ z q. has_something (plain_after n z q) p ≡ false) (rests_without n one (part l es) p rests))
        has_by_rest false busies = inr (busy (any_fits (lock_now l one)) (may n locks lines text endless x p l) l (next p) (any_seat (lock_now l one) p) busies (seated p l one there))

        has_or_not : (has_something (plain_after n (ranked j) (past j)) p ≡ false) ⊎ Has
        has_or_not = has_by_rest (is_resting (any_seat (lock_now l one) p)) refl

      -- a line that waits for the lock of rank k, while its party may have something in the lock of rank j
      module _ (p i k j l : ℕ) (line : Line) (h : Hold) (is : next p ≡ Some (i, line)) (at_k : slice_get order k ≡ Some line.lock) (at_j : slice_get order j ≡ Some l) (more : k < j)
          (has : may n locks lines text endless x p l (part_of h) ≡ true)
        where
          against : waits line.action ≡ true → ⊥
          against must =
              let at_line = line_there p i line is in
              let held : may_have p l (part_of h) (held_after [] (take i lines)) ≡ true = have_before p l (part_of h) lines x.got i line is ∙ has in
              let had = had_there p l (part_of h) (held_after [] (take i lines)) held in
              let apart : (had.0.lock == line.lock) ≡ false = ne_eqb had.0.lock line.lock (λ same. let e = same_rank line.lock j k (at_j ∙ ap Some (sym had.3 ∙ same)) at_k in omega (arith, e, more)) in
              let mine : (had.0.party == line.party) ≡ true = eq-eqb had.0.party line.party (had.2 ∙ sym at_line.1) in
              let waits_so : waits_beside line had.0 ≡ true = grind (arith, apart, mine, must) in
              let less = in_order.1 i p line.lock l j k (slice_get_within lines i line at_line.0) (record {
                line = line;
                there = at_line.0;
                had = had.0;
                held = had.1;
                waits = waits_so;
                party_is = at_line.1;
                wants_is = refl;
                has_is = had.3;
              }) at_j at_k in
              omega (arith, less, more)

      in_order_by : (p k j : ℕ) → k < j → (o : Option (ℕ × Line)) → next p ≡ o → rank_of o ≡ Some k → has_something (plain_after n (ranked j) (past j)) p ≡ false
      in_order_by p k j more None is ranks = absurd (grind (arith, ranks))
      in_order_by p k j more (Some (i, line)) is ranks =
          let it = kept p i line is in
          let at_k : slice_get order k ≡ Some line.lock = subst (λ m. slice_get order m ≡ Some line.lock) (let same : place_from 0 line.lock order ≡ k = cc (ranks) in same) (placed line.lock it.0 it.1) in
          let c = kept_out_calls n it.0 (part line.lock es) p it.2 in
          let of = line_of_call p line.lock it.0 c.0 c.1 it.1 c.2 in
          let same_line : line ≡ of.1 = (let both : Some (i, line) ≡ Some (of.0, of.1) = sym is ∙ of.2 in grind (arith, both)) in
          let begun : line.action ≡ Begin c.0 = ap (λ (f : Line). f.action) same_line ∙ of.4 in
          by_rank j (has_something (plain_after n (ranked j) (past j)) p ≡ false) (has_none p j)
          (λ l one at_j there.
          ⊎_elim (λ no. no)
          (λ (has : Has p j l one at_j there).
          absurd (⊎_elim (λ (calls : (i : ℕ) × (e : Line) × (next p ≡ Some (i, e)) × (e.lock ≡ l)).
          let same : line ≡ calls.1 = (let both : Some (i, line) ≡ Some (calls.0, calls.1) = sym is ∙ calls.2 in grind (arith, both)) in
          let lock_same : line.lock ≡ l = ap (λ (f : Line). f.lock) same ∙ calls.3 in
          let e = same_rank l j k at_j (at_k ∙ ap Some lock_same) in omega (arith, e, more))
          (λ (held : (h : Hold) × (may n locks lines text endless x p l (part_of h) ≡ true)).
          against p i k j l line held.0 is at_k at_j more held.1 (ap waits begun ∙ c.3))
          has))
          (has_or_not p j l one at_j there))

      use_in_order : UseInOrder n ranked past at
      use_in_order p k j is more = in_order_by p k j more (next p) refl is

      -- a party without a line that is left has nothing
      free_in_the_end : (q j : ℕ) → next q ≡ None → has_something (plain_after n (ranked j) (past j)) q ≡ false
      free_in_the_end q j none =
          by_rank j (has_something (plain_after n (ranked j) (past j)) q ≡ false) (has_none q j)
          (λ l one at_j there.
          ⊎_elim (λ no. no)
          (λ (has : Has q j l one at_j there).
          absurd (⊎_elim (λ (calls : (i : ℕ) × (e : Line) × (next q ≡ Some (i, e)) × (e.lock ≡ l)). let gone = sym none ∙ calls.2 in grind (arith, gone))
          (λ (held : (h : Hold) × (may n locks lines text endless x q l (part_of h) ≡ true)).
          let so : may_have q l (part_of held.0) (held_after [] lines) ≡ true = have_after q l (part_of held.0) lines x.got none sound.long ∙ held.1 in
          let no : may_have q l (part_of held.0) [] ≡ true = subst (λ hs. may_have q l (part_of held.0) hs ≡ true) in_the_end so in
          grind (arith, no))
          has))
          (has_or_not q j l one at_j there))

      no_one : (q j : ℕ) → has_something (plain_after n (ranked j) (past j)) q ≡ true → ((i : ℕ) → IsKeptOutOf n (ranked i) (past i) q → ⊥) → (o : Option (ℕ × Line)) → next q ≡ o → ⊥
      no_one q j has goes None is = let none = free_in_the_end q j is in grind (arith, has, none)
      no_one q j has goes (Some (i, line)) is =
          let k = place_from 0 line.lock order in goes k (who_waits q k (ap rank_of is)).1

      deadlock : (p i : ℕ) (line : Line) → next p ≡ Some (i, line) → ⊥
      deadlock p i line is =
          let far = free n (length order) ranked past at tells use_in_order p (place_from 0 line.lock order) (ap rank_of is) in
          no_one far.0 far.1 far.3 far.4 (next far.0) refl

      no_line_left : 0 < lines_left x.got → ⊥
      no_line_left some =
          let d = left_place x.got some in
          let within = slice_get_within x.got d.0 None d.1 in
          let (e, there) = line_at d.0 (omega (arith, within, sound.long)) in
          by e (next e.party) refl (has_turn e.party 0 lines x.got d.0 e there d.1 (eq-eqb e.party e.party refl))
        where
          line_at : (d : ℕ) → d < length lines → (e : Line) × (slice_get lines d ≡ Some e)
          line_at d less = within_get lines d less

          by : (e : Line) (o : Option (ℕ × Line)) → next e.party ≡ o → (next e.party ≡ None → ⊥) → ⊥
          by e None is some = some is
          by e (Some (i, line)) is some = deadlock e.party i line is

    pub answers : 0 < lines_left x.got → AreInCalls any_rules lines n n x → IsAnswered any_rules lines n x
    answers some calls =
        ⊎_elim (λ done. done) (λ (all : (p : ℕ) → p < n → Stands calls p). absurd (no_line_left all some)) (scan calls n (omega arith))

pub never_stuck_in_order : (n : ℕ) (locks : List AnyLock) (lines : List Line) → IsText n locks lines → IsNeverStuckInOrder n locks lines
never_stuck_in_order n locks lines text order is =
    let start = first n locks lines text is.1 in
    never_stuck any_rules lines n start (never_halts any_rules any_keep lines n start
    (λ es follows some calls. answers n locks lines text is.1 order.items is.0 is.2 es follows some calls))

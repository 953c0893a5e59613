-- If one party may write and one may read the value, they are the same party.
use Rattle.std.proofs.Common.{◌≡◌, ℕ, ◌<◌, ◌==◌, true, false, not, ◌||◌, List, [], ◌∷◌, length, filter, refl, arith}
use Rattle.std.specs.List.{list_any}
use Rattle.spin_step.specs.Plain.{Plain, writing, Holder, Ticket, same_kind, count_kind, is_empty}
use Rattle.spin_step.specs.Parties.{entries, IsExclusive, none_entered, first_alone_entered}
use Rattle.std.proofs.lemmas.List.Sums.{sum_by-cons}
use Rattle.spin_step.proofs.Sums.{one_of}
use Rattle.spin_world_core.specs.Runs.{reads_value, writes_value}

writer_counts : (q : ℕ) (hs : List Holder) → list_any (λ h. same_kind writing h.kind) (filter (λ h. h.party == q) hs) ≡ true → 0 < count_kind writing hs
writer_counts q [] any = absurd cc
writer_counts q (h ∷ hs) any = grind (arith, sum_by-cons (λ (g : Holder). one_of writing g.kind) h hs, writer_counts q hs)

one_party : (p q : ℕ) (hs : List Holder) → length hs ≡ 1 → not (is_empty (filter (λ h. h.party == p) hs)) ≡ true → not (is_empty (filter (λ h. h.party == q) hs)) ≡ true → q ≡ p
one_party p q (h ∷ []) one here there = grind arith
one_party p q _ one here there = absurd (omega (arith, one))

none_any : (q : ℕ) (ts : List Ticket) → none_entered ts ≡ true → list_any (λ t. t.entered) (filter (λ t. t.party == q) ts) ≡ false
none_any q [] none = refl
none_any q (t ∷ ts) none = grind (arith, none_any q ts)

entered_party : (p q : ℕ) (ts : List Ticket) → first_alone_entered ts ≡ true → list_any (λ t. t.entered) (filter (λ t. t.party == p) ts) ≡ true → list_any (λ t. t.entered) (filter (λ t. t.party == q) ts) ≡ true → q ≡ p
entered_party p q ts alone here there = grind (arith, none_any p, none_any q)

pub one_toucher : (s : Plain) (p q : ℕ) → IsExclusive s → (is_empty s.holders || none_entered s.tickets) ≡ true → reads_value (entries p s) ≡ true
    → writes_value (entries q s) ≡ true → q ≡ p
one_toucher s p q alone lists reads writes =
    grind (arith, alone.writer, alone.one_entered, writer_counts q s.holders, one_party p q s.holders, entered_party p q s.tickets, none_any p s.tickets, none_any q s.tickets)

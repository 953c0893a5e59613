-- What the rule of a read-write lock says of its parties.
use Rattle.std.proofs.Common.{◌≡◌, ℕ, ◌+◌, ◌-◌, ◌*◌, ◌%◌, ◌^◌, ◌≤◌, Bool, true, cond, List, refl, ap, ◌∙◌, arith}
use Rattle.std.proofs.lemmas.List.Sums.{sum_by-cons}
use Rattle.spin_step.specs.Plain.{Kind, Holder, reading, upgradable, asking, writing, weight, may_turn, is_holder, same_kind, count_kind, with_kind}
use Rattle.spin_step_more.specs.Readers.{tells, released, turned}
use Rattle.spin_step.proofs.Holders.{is_holder-from_entries}
use Rattle.spin_step_more.proofs.Readers.{tells-holder}
use Rattle.spin_step.proofs.Sums.{upgrader, one_of, by_kinds, all_kinds, sum-less, sum-turned, length-with_kind}
use Rattle.spin_core.specs.Views.{Part, entries_of_part}
use Rattle.spin_core.proofs.tie.Owners.{exactly}
use Rattle.spin_rwlock.specs.Rw.{part, Word, View}
use Rattle.spin_rwlock.specs.Standing.{is_of_kind, has_kind, held, readers, upgradables, askers, writers, holders, ReadersOrWriter, HoldsAt}
use Rattle.spin_rwlock.proofs.RwRefines.{few, bounded}

abbrev one_if : Bool → ℕ
one_if b = cond b 1 0

-- a party whose part is of the kind `k` is one holder of this kind in the plain lock, and any other party is none
one_holder : (k : Kind) (p : ℕ) (x : Part) → one_if (is_of_kind k x) ≡ count_kind k (entries_of_part p x).holders
one_holder k p x = grind (arith, sum_by-cons (λ (h : Holder). one_of k h.kind))

-- as many parties are of the kind `k` as the plain lock has holders of this kind
as_many : (k : Kind) (word : ℕ) (vs : List View) (rule : Word word tt vs) → held k vs ≡ count_kind k rule.0.holders
as_many k word vs rule =
    exactly (λ h. h.party) (λ h. one_if (same_kind k h.kind)) part (λ v. one_if (has_kind k v)) (λ p x. count_kind k (entries_of_part p x).holders) (λ p v. one_holder k p (part v)) vs rule.0.holders
    (λ p. ap (λ e. count_kind k e.holders) (rule.3 p).0) (λ p. refl)

pub counts_parties : (word : ℕ) (vs : List View) → Word word tt vs → word ≡ ((weight reading * readers vs + weight upgradable * upgradables vs) + weight asking * askers vs) + weight writing * writers vs
counts_parties word vs rule = omega (arith, rule.4, by_kinds weight rule.0.holders, as_many reading word vs rule, as_many upgradable word vs rule, as_many asking word vs rule, as_many writing word vs rule)

pub readers_or_one_writer : (word : ℕ) (vs : List View) → Word word tt vs → ReadersOrWriter vs
readers_or_one_writer word vs rule = let s = rule.0 in
    let r = as_many reading word vs rule in let u = as_many upgradable word vs rule in let a = as_many asking word vs rule in let w = as_many writing word vs rule in
    record {
      one_upgradable = omega (arith, u, a, by_kinds upgrader s.holders, rule.2.exclusive.one_upgradable);
      writer_alone = λ some. omega (arith, r, u, a, w, all_kinds s.holders, rule.2.exclusive.writer (omega (arith, w, some)));
      within_limit = omega (arith, r, u, a, w, all_kinds s.holders, few s rule.1 rule.2);
    }

pub zero_when_free : (word : ℕ) (vs : List View) → Word word tt vs → (word ≡ 0 → holders vs ≡ 0) × (holders vs ≡ 0 → word ≡ 0)
zero_when_free word vs rule = let e = counts_parties word vs rule in ((λ z. omega (arith, e, z)), (λ z. omega (arith, e, z)))

-- An addition without an earlier load gives the same word as the step function

stands : (vs : List View) (p : ℕ) (k : Kind) (word : ℕ) (rule : Word word tt vs) → HoldsAt vs p k → is_holder p k rule.0.holders ≡ true
stands vs p k word rule at = is_holder-from_entries p k rule.0.holders (ap (λ e. e.holders) (rule.3 p).0 ∙ ap (λ x. (entries_of_part p x).holders) at)

told : (vs : List View) (p : ℕ) (k : Kind) (word : ℕ) (rule : Word word tt vs) → HoldsAt vs p k → tells k word ≡ true
told vs p k word rule at = ap (tells k) rule.4 ∙ tells-holder rule.0 p k rule.2.exclusive (few rule.0 rule.1 rule.2) (stands vs p k word rule at)

pub goes_as_step : (word : ℕ) (vs : List View) (p : ℕ) (k : Kind) → Word word tt vs → HoldsAt vs p k → (tells k word ≡ true) × ((word + (2 ^ 64 - weight k)) % 2 ^ 64 ≡ released k word)
goes_as_step word vs p k rule at =
    let s = rule.0 in
    (told vs p k word rule at, omega (arith, rule.4, bounded s.holders (few s rule.1 rule.2), sum-less weight p k s.holders (stands vs p k word rule at)))

heavier : (j k : Kind) → may_turn j k ≡ true → weight j ≤ weight k
heavier j k may = grind (arith, may)

pub turns_as_step : (word : ℕ) (vs : List View) (p : ℕ) (j k : Kind) → Word word tt vs → HoldsAt vs p j → may_turn j k ≡ true → (tells j word ≡ true) × ((word + (weight k - weight j)) % 2 ^ 64 ≡ turned j k word)
turns_as_step word vs p j k rule at may =
    let s = rule.0 in
    let some = sum-turned weight p j k s.holders (stands vs p j word rule at) in
    let within = bounded (with_kind p j k s.holders) (omega (arith, length-with_kind p j k s.holders, few s rule.1 rule.2)) in
    (told vs p j word rule at, omega (arith, rule.4, heavier j k may, some, within))

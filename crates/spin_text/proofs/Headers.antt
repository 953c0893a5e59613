-- Reading the first line inverts its spelling.
use Rattle.std.proofs.Common.{◌≡◌, ℕ, ◌^◌, ◌<◌, true, Option, Some, IfSome, List, [], ◌∷◌, ◌++◌, codes, decimal, arith, refl, sym, ◌∙◌, ap, subst}
use Rattle.std.proofs.lemmas.Slice.Eq.{bytes_eq-Decides}
use Rattle.std.proofs.lemmas.Bool.{leb-true}
use Rattle.spin_text.specs.declared.header.Header.{Header}
use Rattle.spin_text.specs.declared.header.Header.TheVariants.{Flag, Ticket, Rw, Fair, Barrier, Once}
use Rattle.spin_text.specs.Objects.{CallUnder, calls_of, header_words, HeaderFits, IsWithin, PartiesFit}
use Rattle.spin_text.specs.Reading.{number_at, number_within, if_last, last_parties, read_flag_header, read_ticket_header, read_rw_header, read_fair_header, read_barrier_header, read_once_header, read_header, read_once_call, only_named, by_word}
use Rattle.spin_text.specs.declared.objects.TheConstants.{FLAG_CALLS, TICKET_CALLS, RW_CALLS, FAIR_CALLS, BARRIER_CALLS}
use Rattle.spin_text.specs.Readable.{ReadsCalls}
use Rattle.spin_text.proofs.Options.{found_is, some_is, and_true, last_takes}
use Rattle.spin_text.proofs.Numerals.{number_at_takes, number_at_again}
use Rattle.spin_text.proofs.Calls.{flag_reads, ticket_reads, rw_reads, fair_reads, barrier_reads, once_reads}

within_takes : (least most : ℕ) (ws : List (List ℕ)) (x : ℕ × List (List ℕ)) → number_within least most ws ≡ Some x → IsWithin least most x.0 × (ws ≡ decimal x.0 ∷ x.1)
unfolding number_within
within_takes least most ws x = found_is (number_within least most ws) (λ y. IsWithin least most y.0 × (ws ≡ decimal y.0 ∷ y.1)) x (grind (arith, and_true, leb-true, number_at_takes))

within_again : (least most n : ℕ) (ws : List (List ℕ)) → most < 2 ^ 64 → IsWithin least most n → number_within least most (decimal n ∷ ws) ≡ Some (n, ws)
unfolding number_within
within_again least most n ws small fits = grind (arith, number_at_again)

parties_take : (ws : List (List ℕ)) (n : ℕ) → last_parties ws ≡ Some n → PartiesFit n × (ws ≡ decimal n ∷ [])
unfolding last_parties
parties_take ws n is = within_takes 1 1000 ws (n, []) (last_takes (number_within 1 1000 ws) n is)

parties_again : (n : ℕ) → PartiesFit n → last_parties (decimal n ∷ []) ≡ Some n
unfolding last_parties
parties_again n fits = ap if_last (within_again 1 1000 n [] (omega arith) fits)

abbrev IsHeader : List ℕ → List (List ℕ) → Header → Type 0
IsHeader w ws h = HeaderFits h × (w ∷ ws ≡ header_words h)

-- `read` finds only a header that the words after the object's name spell
abbrev Finds : List ℕ → (List (List ℕ) → Option Header) → Type 0
Finds name read = (w : List ℕ) (ws : List (List ℕ)) → w ≡ name → IfSome (read ws) (IsHeader w ws)

flag_found : Finds (codes "flag") read_flag_header
unfolding read_flag_header
flag_found w ws name = grind (arith, number_at_takes, within_takes, parties_take)

ticket_found : Finds (codes "ticket") read_ticket_header
unfolding read_ticket_header
ticket_found w ws name = grind (arith, number_at_takes, within_takes, parties_take)

rw_found : Finds (codes "rw") read_rw_header
unfolding read_rw_header
rw_found w ws name = grind (arith, number_at_takes, within_takes, parties_take)

fair_found : Finds (codes "fair") read_fair_header
unfolding read_fair_header
fair_found w ws name = grind (arith, number_at_takes, within_takes, parties_take)

barrier_found : Finds (codes "barrier") read_barrier_header
unfolding read_barrier_header
barrier_found w ws name = grind (arith, number_at_takes, within_takes, parties_take)

once_found : Finds (codes "once") read_once_header
unfolding read_once_header
once_found w ws name = grind (arith, number_at_takes, within_takes, parties_take)

header_found : (w : List ℕ) (ws : List (List ℕ)) → IfSome (read_header (w ∷ ws)) (IsHeader w ws)
unfolding read_header
header_found w ws = grind (arith, bytes_eq-Decides, flag_found, ticket_found, rw_found, fair_found, barrier_found, once_found)

pub header_takes : (ws : List (List ℕ)) (h : Header) → read_header ws ≡ Some h → HeaderFits h × (ws ≡ header_words h)
unfolding read_header
header_takes [] h is = absurd (cc)
header_takes (w ∷ ws) h is = found_is _ _ h (header_found w ws) is

pub header_again : (h : Header) → HeaderFits h → read_header (header_words h) ≡ Some h
unfolding read_header read_flag_header read_ticket_header read_rw_header read_fair_header read_barrier_header read_once_header
header_again h fits = grind (arith, number_at_again, within_again, parties_again)

-- How the calls in the lines after a header are read.

abbrev pub read_of : (h : Header) → List (List ℕ) → Option (CallUnder h)
read_of (Flag value parties) = only_named (by_word FLAG_CALLS)
read_of (Ticket value first parties) = only_named (by_word TICKET_CALLS)
read_of (Rw value cap parties) = only_named (by_word RW_CALLS)
read_of (Fair value cap spins parties) = only_named (by_word FAIR_CALLS)
read_of (Barrier n parties) = only_named (by_word BARRIER_CALLS)
read_of (Once parties) = read_once_call

pub reads_of : (h : Header) → ReadsCalls (calls_of h) (read_of h)
reads_of (Flag value parties) = flag_reads
reads_of (Ticket value first parties) = ticket_reads
reads_of (Rw value cap parties) = rw_reads
reads_of (Fair value cap spins parties) = fair_reads
reads_of (Barrier n parties) = barrier_reads
reads_of (Once parties) = once_reads

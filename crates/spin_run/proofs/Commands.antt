-- The words of a command, and how the program ends for each fault.
use Rattle.std.proofs.Common.{◌≡◌, ℕ, ◌≤◌, Bool, true, false, not, Option, Result, IfErr, List, [], ◌∷◌, length, get_or, arith, ap, inl, inr, Bor, codes}
use Rattle.std.specs.Str.{bytes_eq}
use Rattle.std.proofs.lemmas.Slice.Eq.{bytes_eq-Decides}
use Rattle.spin_text.specs.Failures.{Told}
use Rattle.spin_text.specs.Lines.{texts_of}
use Rattle.spin_text.specs.Numbers.{IsNumber}
use Rattle.spin_run.specs.Command.{AsksCount, AsksWorld, AsksNothing, StopsCommand, StopsCount, usage}
use Rattle.spin_text.specs.Texts.{Streams}
use Rattle.spin_run.specs.declared.faults.Fault.{Fault}
use Rattle.spin_run.specs.declared.faults.Fault.TheVariants.{Usage, Refused, Memory, Write}
use Rattle.spin_run.specs.Faults.{status_of, line_of}

-- two texts are equal if the test `other` finds no difference
is_text : (xs ys : List ℕ) (other : Bool) → other ≡ not (bytes_eq xs ys) → other ≡ false → xs ≡ ys
is_text xs ys other is same = (bytes_eq-Decides xs ys).0 (grind (arith, is, same))

-- three words ask for a count if the first is `count` and the others are numbers within the limits
pub asks_count : (words : List (Bor (List ℕ))) (d e f : Bor (List ℕ)) (workers times : ℕ) → length words ≡ 3 → (other : Bool) → other ≡ not (bytes_eq (get_or words 0 d).now (codes "count")) → other ≡ false → IsNumber (get_or words 1 e).now workers → workers ≤ 64 → IsNumber (get_or words 2 f).now times → times ≤ 1000000 → AsksCount (texts_of words) workers times
asks_count [] d e f workers times three other is same first few second small = absurd (omega arith)
asks_count (a ∷ []) d e f workers times three other is same first few second small = absurd (omega arith)
asks_count (a ∷ b ∷ []) d e f workers times three other is same first few second small = absurd (omega arith)
asks_count (a ∷ b ∷ c ∷ []) d e f workers times three other is same first few second small =
    (b.now, c.now, ap (λ w. w ∷ b.now ∷ c.now ∷ []) (is_text a.now (codes "count") other is same), first, few, second, small)
asks_count (a ∷ b ∷ c ∷ x ∷ xs) d e f workers times three other is same first few second small = absurd (omega arith)

-- the one word `world` asks for a world; other words do not
pub asks_world : (words : List (Bor (List ℕ))) (d : Bor (List ℕ)) → length words ≡ 1 → bytes_eq (get_or words 0 d).now (codes "world") ≡ true → AsksWorld (texts_of words)
asks_world [] d one same = absurd (omega (arith, one))
asks_world (a ∷ []) d one same = ap (λ w. w ∷ []) ((bytes_eq-Decides a.now (codes "world")).0 same)
asks_world (a ∷ b ∷ words) d one same = absurd (omega (arith, one))

-- a fault of a count is a fault of the program
pub count_stops : (words : List (List ℕ)) (workers times : ℕ) (Unread Unwritten : Type 0) (t : Streams) (r : Result (Unit {0}) Fault) → AsksCount words workers times → Unread
    → IfErr r (StopsCount workers times Unwritten t.sink_failed t.written t.written_after) → IfErr r (StopsCommand words Unread Unwritten t)
count_stops words workers times Unread Unwritten t r asks unread stops = grind arith

-- a command line that is no command gets the usage line and the status 2
pub told_usage : (words : List (List ℕ)) (Unread Unwritten : Type 0) (t : Streams) (failed : Bool) (old new : Option (List ℕ)) (f : Fault) (status : ℕ) → StopsCommand words Unread Unwritten t f → status ≡ status_of f → Told failed old new (line_of usage f)
    → AsksNothing words → (status ≡ 2) × Told failed old new (line_of usage Usage)
told_usage words Unread Unwritten t failed old new Usage status stops is told none = (is, told)
told_usage words Unread Unwritten t failed old new Refused status stops is told none = absurd (none.0 stops.0.0 stops.0.1 stops.0.2)
told_usage words Unread Unwritten t failed old new Memory status stops is told none =
    absurd (elim stops [ inl count ↦ none.0 count.0.0 count.0.1 count.0.2 | inr world ↦ none.1 world.0 ])
told_usage words Unread Unwritten t failed old new Write status stops is told none =
    absurd (elim stops [ inl count ↦ none.0 count.2.0 count.2.1 count.2.2 | inr world ↦ none.1 world.0 ])
told_usage words Unread Unwritten t failed old new f status stops is told none = grind (arith, none.1)

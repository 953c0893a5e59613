-- The seats of the object. There the name of each call says whether its closure will fail. A party's move has the same outcome in the
-- object as in the model.
use Rattle.std.proofs.Common.{◌≡◌, ◌==◌, ℕ, zero, suc, Bool, true, false, Option, Some, List, [], ◌∷◌, map, replicate, slice_get, slice_set, refl, ap, arith}
use Rattle.std.specs.Option.{option_map}
use Rattle.std.specs.List.{list_all}
use Rattle.spin_step.specs.declared.answer.Answer.{Answer}
use Rattle.spin_step.specs.declared.once_calls.OnceCall.TheVariants.{TryCallOnceErr}
use Rattle.spin_step.specs.declared.once_calls.OncePoint.{OncePoint}
use Rattle.spin_step.specs.declared.once_calls.OncePoint.TheVariants.{Run}
use Rattle.spin_step.specs.declared.place.Hold.{Hold}
use Rattle.spin_step.specs.declared.place.Seat.{Seat}
use Rattle.spin_step.specs.declared.place.Seat.TheVariants.{Idle, Calling, Holding, Leaked, Gone}
use Rattle.spin_step.specs.declared.schedule.Move.TheVariants.{Begin, Step, Weak}
use Rattle.spin_step.specs.Machines.{Machine}
use Rattle.spin_step.specs.OnceCalls.{OnceMachine, once_machine}
use Rattle.spin_step.specs.Schedules.{State, Happened, moves_at, stepped, yields_to_owner, seen_by_owner}
use Rattle.spin_step.proofs.Lists.{get-set_same}
use Rattle.spin_core.specs.Run.{is_played}
use Rattle.spin_once.specs.Foretold.{named}
use Rattle.spin_once.specs.Model.{Point, at, failed, model}
use Rattle.spin_once.specs.Once.{OneMove}
use Rattle.spin_once.proofs.Resting.{Call, World, rests}

abbrev pub Object : Type 0
Object = State ℕ (Unit {0}) Call OncePoint

abbrev pub seat_named : Seat Call Point → Bool → Seat Call OncePoint
seat_named Idle fails = Idle
seat_named (Calling c (at l) h) fails = Calling (named c fails) l h
seat_named (Calling c failed h) fails = Calling TryCallOnceErr Run h
seat_named (Holding h) fails = Holding h
seat_named (Leaked h) fails = Leaked h
seat_named (Gone h) fails = Gone h

abbrev pub seats_named : (ℕ → Bool) → List (Seat Call Point) → List (Seat Call OncePoint)
seats_named f [] = []
seats_named f (x ∷ xs) = seat_named x (f 0) ∷ seats_named (λ p. f (suc p)) xs

abbrev pub object : (ℕ → Bool) → World → Object
object f s = record { words = s.words; value = s.value; seats = seats_named f s.seats }

pub named_get : (f : ℕ → Bool) (xs : List (Seat Call Point)) (p : ℕ) → slice_get (seats_named f xs) p ≡ option_map (λ x. seat_named x (f p)) (slice_get xs p)
named_get f [] p = refl
named_get f (x ∷ xs) p = grind (arith, named_get (λ q. f (suc q)) xs)

pub named_set : (f : ℕ → Bool) (xs : List (Seat Call Point)) (p : ℕ) (y : Seat Call Point) → seats_named f (slice_set xs p y) ≡ slice_set (seats_named f xs) p (seat_named y (f p))
named_set f [] p y = refl
named_set f (x ∷ xs) p y = grind (arith, named_set (λ q. f (suc q)) xs)

pub named_alike : (f g : ℕ → Bool) (xs ys : List (Seat Call Point)) → ((p : ℕ) → option_map (λ x. seat_named x (f p)) (slice_get xs p) ≡ option_map (λ x. seat_named x (g p)) (slice_get ys p)) → seats_named f xs ≡ seats_named g ys
named_alike f g [] [] each = refl
named_alike f g (x ∷ xs) (y ∷ ys) each = grind (arith, each 0, named_alike (λ q. f (suc q)) (λ q. g (suc q)) xs ys (λ p. each (suc p)))
named_alike f g _ _ each = absurd (let none = each 0 in cc)

pub named_idle : (f : ℕ → Bool) (n : ℕ) → seats_named f (replicate n Idle) ≡ replicate n Idle
named_idle f zero = refl
named_idle f (suc n) = ap (λ ys. Idle ∷ ys) (named_idle (λ q. f (suc q)) n)

pub get-set_other : {X : Type 0} (xs : List X) (p q : ℕ) (x : X) → (p == q) ≡ false → slice_get (slice_set xs p x) q ≡ slice_get xs q
get-set_other [] p q x ne = refl
get-set_other (y ∷ xs) p q x ne = grind (arith, get-set_other xs, ne)

named_yields : (f : ℕ → Bool) (xs : List (Seat Call Point)) → list_all yields_to_owner (seats_named f xs) ≡ list_all yields_to_owner xs
named_yields f [] = refl
named_yields f (x ∷ xs) = grind (arith, named_yields (λ q. f (suc q)) xs)

named_seen : (f : ℕ → Bool) (xs : List (Seat Call Point)) → map seen_by_owner (seats_named f xs) ≡ seats_named f (map seen_by_owner xs)
named_seen f [] = refl
named_seen f (x ∷ xs) = grind (arith, named_seen (λ q. f (suc q)) xs)

-- ---- a party's move has the same outcome in the object
abbrev pub Alike : (ℕ → Bool) → Happened ℕ (Unit {0}) Call Point (Answer (Unit {0})) → Happened ℕ (Unit {0}) Call OncePoint (Answer (Unit {0})) → Type 0
Alike f a b = (b.next ≡ object f a.next) × (is_played b.outcome ≡ is_played a.outcome)

abbrev pub renamed : OneMove → Bool → OneMove
renamed (Begin c) fails = Begin (named c fails)
renamed move fails = move

module _ (given : Option (Unit {0})) where
  abbrev pub t : OnceMachine (Unit {0})
  t = once_machine given

  abbrev pub m : Machine ℕ (Unit {0}) Call Point (Answer (Unit {0}))
  m = model given

  module _ (f : ℕ → Bool) (s : World) (p : ℕ) where
    steps_alike : (c : Call) (l : OncePoint) (h : Option Hold) (b : Bool) → f p ≡ b → (rests (slice_get (stepped s p c h (m.step s.words s.value c (at l) h)).next.seats p) ≡ true → b ≡ false)
        → (slice_get s.seats p ≡ Some (Calling c (at l) h))
        → Alike f (stepped s p c h (m.step s.words s.value c (at l) h)) (stepped (object f s) p (named c b) h (t.step s.words s.value (named c b) l h))
    steps_alike c l h b e quiet there = grind (arith, e, quiet, λ (y : Seat Call Point). get-set_same s.seats p y (Calling c (at l) h) there, named_set f s.seats p)

    pub moves_alike : (move : OneMove) (o : Option (Seat Call Point)) → slice_get s.seats p ≡ o → (rests (slice_get (moves_at m s p move o).next.seats p) ≡ true → f p ≡ false) → (move ≡ Weak → ⊥)
        → Alike f (moves_at m s p move o) (moves_at t (object f s) p (renamed move (f p)) (option_map (λ x. seat_named x (f p)) o))
    moves_alike Step (Some (Calling c (at l) h)) there quiet ne = steps_alike c l h (f p) refl quiet there
    moves_alike move o there quiet ne = grind (arith, ne, named_set f s.seats p, named_yields f s.seats, named_seen f s.seats)

-- What readers and writers learn of a log's entries, and when entries are in an order.
use Rattle.std.specs.Prelude.{◌≡◌, List, [], ◌∷◌, ◌++◌, Option, None, Some, IfSome, ⊤}
use mathlib.Core.List.{IsPrefix}
use mathlib.Core.HLevel.{×_prop, Unit-prop}

abbrev pub last : {T : Type 0} → List T → Option T
last [] = None
last (x ∷ []) = Some x
last (x ∷ y ∷ l) = last (y ∷ l)

-- a caller that knew the entries `old` reads x, and then knows `new`
abbrev pub Reads : {T : Type 0} → List T → T → List T → Type 0
Reads old x new = IsPrefix old new × (last new ≡ Some x)

-- a caller that knew the entries `old` writes x, and then knows `new`
abbrev pub WritesOne : {T : Type 0} → List T → T → List T → Type 0
WritesOne {T} old x new = (between : List T) × (new ≡ (old ++ between) ++ x ∷ [])

-- a caller that knew the entries `old` finds x and writes y, with no entry in between, and then knows `new`
abbrev pub Updates : {T : Type 0} → List T → T → T → List T → Type 0
Updates {T} old x y new = (found : List T) × (Reads old x found × (new ≡ found ++ y ∷ []))

-- the entries are in order: each may follow the one before it
abbrev pub InOrder : {T : Type 0} → (T → T → Type 0) → List T → Type 0
InOrder le [] = ⊤
InOrder le (x ∷ []) = ⊤
InOrder le (x ∷ y ∷ l) = le x y × InOrder le (y ∷ l)

pub InOrder-prop : {T : Type 0} (le : T → T → Type 0) → ((x y : T) → IsProp (le x y)) → (l : List T) → IsProp (InOrder le l)
InOrder-prop le p [] = Unit-prop
InOrder-prop le p (x ∷ []) = Unit-prop
InOrder-prop le p (x ∷ y ∷ l) = ×_prop (p x y) (InOrder-prop le p (y ∷ l))

-- x may follow the last of the entries `seen`, if there is one
abbrev pub IsAtOrAfter : {T : Type 0} → (T → T → Type 0) → List T → T → Type 0
IsAtOrAfter le seen x = IfSome (last seen) (λ before. le before x)

-- `Reads` for values in an order. The value may follow the last one that the caller saw, and all entries that the
-- caller then knows are in order.
abbrev pub ReadsIn : {T : Type 0} → (T → T → Type 0) → List T → T → List T → Type 0
ReadsIn le old x new = IsAtOrAfter le old x × (InOrder le new × Reads old x new)

-- `WritesOne` for values in an order. The value may follow the last one that the caller saw. It is the last entry that
-- the caller then knows, and all these entries are in order.
abbrev pub WritesIn : {T : Type 0} → (T → T → Type 0) → List T → T → List T → Type 0
WritesIn le old x new = IsAtOrAfter le old x × (InOrder le new × ((last new ≡ Some x) × WritesOne old x new))

abbrev pub UpdatesIn : {T : Type 0} → (T → T → Type 0) → List T → T → T → List T → Type 0
UpdatesIn le old x y new = IsAtOrAfter le old y × (InOrder le new × ((last new ≡ Some y) × Updates old x y new))

-- A line read from left to right. Laws say that reading a line inverts its spelling.
use Rattle.std.specs.Prelude.{ℕ, ◌^◌, Bool, true, false, ◌&&◌, nat_lt, nat_le, ◌==◌, List, [], ◌∷◌, Option, Some, None, codes, decimal, map, if◌then◌else◌}
use Rattle.std.specs.Borrow.{Bor}
use Rattle.std.specs.List.{slice_split, filter_map}
use Rattle.std.specs.Str.{bytes_eq}
use Rattle.std.specs.Str.Parse.{digits_value}
use Rattle.spin_step.specs.declared.schedule.Move.{Move}
use Rattle.spin_step.specs.declared.schedule.Move.TheVariants.{Begin, Step, Weak, Read, Write, Leak, OwnerGet, OwnerSet}
use Rattle.spin_step_more.specs.Readers.{reader_limit}
use Rattle.spin_step_more.specs.Starvers.{most_starvers}
use Rattle.spin_step.specs.declared.once_calls.OnceCall.{OnceCall}
use Rattle.spin_step.specs.declared.once_calls.OnceCall.TheVariants as once
use Rattle.spin_text.specs.declared.header.Header.{Header}
use Rattle.spin_text.specs.declared.header.Header.TheVariants.{Flag, Ticket, Rw, Fair, Barrier, Once}
use Rattle.spin_text.specs.declared.objects.TheConstants.{PLAIN_ONCE_CALLS}
use Rattle.spin_text.specs.Lines.{words_of, words_by_line}

infixl 10 ◌>>=◌
abbrev pub ◌>>=◌ : {A B : Type 0} → Option A → (A → Option B) → Option B
None >>= f = None
(Some x) >>= f = f x

-- the words of the rest of a line; without a rest there are none
abbrev pub words_left : Option (Bor (List ℕ)) → List (List ℕ)
words_left None = []
words_left (Some bytes) = words_of bytes.now

-- the lines of the rest of all lines; without a rest there are none
abbrev pub lines_left : Option (Bor (List ℕ)) → List (List (List ℕ))
lines_left None = []
lines_left (Some bytes) = words_by_line bytes.now

abbrev pub has_ended : List (List ℕ) → Bool
has_ended [] = true
has_ended (w ∷ ws) = false

-- the number below 2^64 whose decimal text is this word, if there is one
unfoldable pub read_number : List ℕ → Option ℕ
read_number w =
    let n = digits_value 10 w in
    if bytes_eq w (decimal n) && nat_lt n (2 ^ 64) then Some n else None

-- the first word, and the words after it
abbrev pub word_at : List (List ℕ) → Option (List ℕ × List (List ℕ))
word_at [] = None
word_at (w ∷ ws) = Some (w, ws)

unfoldable pub number_at : List (List ℕ) → Option (ℕ × List (List ℕ))
number_at ws = do
  w ← word_at ws
  n ← read_number w.0
  Some (n, w.1)

-- the number that the first word spells, if it is between `least` and `most`, and the words after it
unfoldable pub number_within : ℕ → ℕ → List (List ℕ) → Option (ℕ × List (List ℕ))
number_within least most ws = do
  n ← number_at ws
  if nat_le least n.0 && nat_le n.0 most then Some n else None

-- what was read, if no word is left
abbrev pub if_last : {A : Type 0} → Option (A × List (List ℕ)) → Option A
if_last read = read >>= λ x. if has_ended x.1 then Some x.0 else None

unfoldable pub last_word : List (List ℕ) → Option (List ℕ)
last_word ws = if_last (word_at ws)

unfoldable pub last_number : List (List ℕ) → Option ℕ
last_number ws = if_last (number_at ws)

unfoldable pub last_parties : List (List ℕ) → Option ℕ
last_parties ws = if_last (number_within 1 1000 ws)

unfoldable pub owner_move : {C : Type 0} → List (List ℕ) → Option (Move C ℕ)
owner_move ws = do
  w ← word_at ws
  if bytes_eq w.0 (codes "set") then (last_number w.1 >>= λ v. Some (OwnerSet v))
      else if bytes_eq w.0 (codes "get") && has_ended w.1 then Some OwnerGet else None

unfoldable pub plain_move : {C : Type 0} → List ℕ → Option (Move C ℕ)
plain_move w =
    if bytes_eq w (codes "step") then Some Step
    else if bytes_eq w (codes "weak") then Some Weak
    else if bytes_eq w (codes "read") then Some Read
    else if bytes_eq w (codes "leak") then Some Leak else None

unfoldable pub read_move : {C : Type 0} → (List (List ℕ) → Option C) → List (List ℕ) → Option (Move C ℕ)
read_move call ws = do
  w ← word_at ws
  if bytes_eq w.0 (codes "begin") then (call w.1 >>= λ c. Some (Begin c))
      else if bytes_eq w.0 (codes "write") then (last_number w.1 >>= λ v. Some (Write v))
      else if bytes_eq w.0 (codes "owner") then owner_move w.1
      else if has_ended w.1 then plain_move w.0 else None

unfoldable pub read_entry : {C : Type 0} → (List (List ℕ) → Option C) → List (List ℕ) → Option (ℕ × Move C ℕ)
read_entry call ws = do
  party ← number_at ws
  move ← read_move call party.1
  Some (party.0, move)

-- the entries that the lines spell; lines that spell none are left out
abbrev pub entries_in : {C : Type 0} → (List (List ℕ) → Option C) → List (List (List ℕ)) → List (ℕ × Move C ℕ)
entries_in call lines = filter_map (read_entry call) lines

-- a constant table of the code, as a list of words and entries
abbrev pub by_word : {C : Type 0} → List (record { now : List ℕ } × C) → List (List ℕ × C)
by_word table = map (λ row. (row.0.now, row.1)) table

-- the entry that a table has for a word
unfoldable pub named : {C : Type 0} → List (List ℕ × C) → List ℕ → Option C
named [] w = None
named (row ∷ rows) w = if bytes_eq w row.0 then Some row.1 else named rows w

-- the entry that a table has for the only word of a line
unfoldable pub only_named : {C : Type 0} → List (List ℕ × C) → List (List ℕ) → Option C
only_named rows ws = last_word ws >>= named rows

-- a `try_call_once`, read from the words after its name
unfoldable pub read_try_call_once : List (List ℕ) → Option (OnceCall ℕ)
read_try_call_once ws = do
  w ← word_at ws
  if bytes_eq w.0 (codes "ok") then (last_number w.1 >>= λ v. Some (once.TryCallOnceOk v))
      else if bytes_eq w.0 (codes "err") && has_ended w.1 then Some once.TryCallOnceErr else None

unfoldable pub read_once_call : List (List ℕ) → Option (OnceCall ℕ)
read_once_call ws = do
  w ← word_at ws
  if bytes_eq w.0 (codes "call_once") then (last_number w.1 >>= λ v. Some (once.CallOnce v))
      else if bytes_eq w.0 (codes "try_call_once") then read_try_call_once w.1
      else if bytes_eq w.0 (codes "init_from_ref") then (last_number w.1 >>= λ v. Some (once.InitFromRef v))
      else if has_ended w.1 then named (by_word PLAIN_ONCE_CALLS) w.0 else None

unfoldable pub read_flag_header : List (List ℕ) → Option Header
read_flag_header ws = do
  value ← number_at ws
  parties ← last_parties value.1
  Some (Flag value.0 parties)

unfoldable pub read_ticket_header : List (List ℕ) → Option Header
read_ticket_header ws = do
  value ← number_at ws
  first ← number_at value.1
  parties ← last_parties first.1
  Some (Ticket value.0 first.0 parties)

unfoldable pub read_rw_header : List (List ℕ) → Option Header
read_rw_header ws = do
  value ← number_at ws
  cap ← number_within 1 reader_limit value.1
  parties ← last_parties cap.1
  Some (Rw value.0 cap.0 parties)

unfoldable pub read_fair_header : List (List ℕ) → Option Header
read_fair_header ws = do
  value ← number_at ws
  cap ← number_within 1 most_starvers value.1
  spins ← number_within 0 1024 cap.1
  parties ← last_parties spins.1
  Some (Fair value.0 cap.0 spins.0 parties)

unfoldable pub read_barrier_header : List (List ℕ) → Option Header
read_barrier_header ws = do
  n ← number_at ws
  parties ← last_parties n.1
  Some (Barrier n.0 parties)

unfoldable pub read_once_header : List (List ℕ) → Option Header
read_once_header ws = do
  parties ← last_parties ws
  Some (Once parties)

unfoldable pub read_header : List (List ℕ) → Option Header
read_header ws = do
  w ← word_at ws
  if bytes_eq w.0 (codes "flag") then read_flag_header w.1
      else if bytes_eq w.0 (codes "ticket") then read_ticket_header w.1
      else if bytes_eq w.0 (codes "rw") then read_rw_header w.1
      else if bytes_eq w.0 (codes "fair") then read_fair_header w.1
      else if bytes_eq w.0 (codes "barrier") then read_barrier_header w.1
      else if bytes_eq w.0 (codes "once") then read_once_header w.1 else None

-- the parts of the rest after a separator; without a rest there are none
abbrev pub parts_left : ℕ → Option (Bor (List ℕ)) → List (List ℕ)
parts_left separator None = []
parts_left separator (Some bytes) = slice_split (λ b. b == separator) bytes.now

-- one number, or two, as a list
abbrev pub numbers_of : ℕ × Option ℕ → List ℕ
numbers_of (n, None) = n ∷ []
numbers_of (n, Some m) = n ∷ m ∷ []

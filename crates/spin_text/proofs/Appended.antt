-- Known bytes that grow in several writes.
use Rattle.std.proofs.Common.{◌≡◌, ℕ, ◌+◌, ◌-◌, subst, append-nil, length-append, [], List, ◌++◌, length, take, drop, Option}
use Rattle.std.proofs.Common.{sym, ◌∙◌, ap, arith, append_assoc, length-drop}
use Rattle.std.proofs.Math.Seq.{take-append-add}
use Rattle.std.proofs.lemmas.List.{drop-drop, drop-take, take-append-drop, take-append-le}
use Rattle.std.proofs.lemmas.Grind.{common_steps}
use Rattle.std.specs.Io.KnownBytes.{Appends}
use Rattle.spin_text.specs.Ends.{AppendsBeginning, AppendsBut}

-- bytes that grow by one text and then by another grow by both
pub Appends-append : (a b c : Option (List ℕ)) (xs ys : List ℕ) → Appends a b xs → Appends b c ys → Appends a c (xs ++ ys)
Appends-append a b c xs ys p q = grind (arith, append_assoc)

-- the first n bytes of the first n + k bytes of a text are its first n bytes
take-take : (text : List ℕ) (n k : ℕ) → take n (take (n + k) text) ≡ take n text
take-take text n k = grind (arith, common_steps)

-- the first n bytes of a text, followed by the first k bytes of its rest, are its first n + k bytes
take_more : (text rest : List ℕ) (n k : ℕ) → rest ≡ drop n text → take n text ++ take k rest ≡ take (n + k) text
take_more text rest n k is =
    ap (λ w. w ++ take k rest) (sym (take-take text n k)) ∙ (ap (λ w. take n (take (n + k) text) ++ w) (ap (take k) is ∙ sym (drop-take n k text)) ∙ take-append-drop n (take (n + k) text))

-- if the first n bytes of a text were written, and then the next k, then its first n + k bytes were written
pub Appends-take : (a b c : Option (List ℕ)) (text rest : List ℕ) (n k : ℕ) → rest ≡ drop n text → Appends a b (take n text) → Appends b c (take k rest) → Appends a c (take (n + k) text)
Appends-take a b c text rest n k is p q = grind (arith, take_more, Appends-append)

-- dropping n bytes of a text, and then k more, drops n + k bytes
pub drop_more : (text rest : List ℕ) (n k : ℕ) → rest ≡ drop n text → take (length rest - k) (drop k rest) ≡ drop (n + k) text
drop_more text rest n k is = grind (arith, common_steps, is, drop-drop, length-drop)

-- known bytes that do not change grow by the empty text
Appends-none : (a : Option (List ℕ)) → Appends a a []
Appends-none a = grind (arith, append-nil)

pub but_all : (a : Option (List ℕ)) (text piece : List ℕ) → text ≡ piece → AppendsBut a a text piece
but_all a text piece is = ([], Appends-none a, is)

-- a line added to the text is added to the piece that is left to write
pub but_line : (a b : Option (List ℕ)) (text piece line : List ℕ) → AppendsBut a b text piece → AppendsBut a b (text ++ line) (piece ++ line)
but_line a b text piece line so_far = (so_far.0, so_far.1, ap (λ t. t ++ line) so_far.2 ∙ append_assoc so_far.0 piece line)

-- What follows for the text when the piece is written: up to a rest that is left, as a whole, or only its first bytes.
module _ (a b c : Option (List ℕ)) (text piece : List ℕ) (so_far : AppendsBut a b text piece) where
  pub but_then : (rest : List ℕ) → AppendsBut b c piece rest → AppendsBut a c text rest
  but_then rest next = grind (arith, Appends-append, append_assoc)

  pub but_beginning : AppendsBeginning b c piece → AppendsBeginning a c text
  but_beginning part =
      let P : List ℕ → Type 0 = λ t. AppendsBeginning a c t in
      let Q : List ℕ → Type 0 = λ t. Appends a c t in
      subst P (sym so_far.2) (
        length so_far.0 + part.0,
        omega (arith, part.1, length-append so_far.0 piece),
        subst Q (sym (take-append-add so_far.0 piece part.0)) (Appends-append a b c so_far.0 (take part.0 piece) so_far.1 part.2),
      )

-- first bytes of a text are first bytes of a longer text that begins with it
pub beginning_longer : (a b : Option (List ℕ)) (text more all : List ℕ) → all ≡ text ++ more → AppendsBeginning a b text → AppendsBeginning a b all
beginning_longer a b text more all is part = grind (arith, length-append, take-append-le)

-- the bytes of a list from place i up to its end
pub rest_is : (xs line : List ℕ) (n i : ℕ) → length xs ≡ n → drop i xs ≡ line → take (n - i) (drop i xs) ≡ line
rest_is xs line n i count is = grind (arith, common_steps, length-drop)

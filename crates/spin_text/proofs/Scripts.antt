-- Reading a whole text inverts its spelling. So a text has one reading, and its first bad line is where reading stops.
use Rattle.std.proofs.Common.{◌≡◌, ℕ, suc, Result, OnOk, IfErr, ◌+◌, ◌-◌, Option, Some, None, IsSome, List, [], ◌∷◌, ◌++◌, length, map, take, arith, refl, sym, ◌∙◌, ap, subst, length-append, append_assoc, append-nil}
use Rattle.std.specs.List.{cons_option}
use Rattle.std.proofs.lemmas.List.{length-map, map-append}
use Rattle.spin_step.specs.declared.answer.Answer.{Answer}
use Rattle.spin_step.specs.declared.schedule.Move.{Move}
use Rattle.spin_step.specs.Machines.{Machine}
use Rattle.spin_text.specs.declared.header.Header.{Header}
use Rattle.spin_text.specs.declared.text.RunError.{RunError}
use Rattle.spin_text.specs.Ends.{AppendsSome, AppendsSomeBeginning}
use Rattle.spin_text.specs.Lines.{words_by_line}
use Rattle.spin_text.specs.Spelling.{Calls, entry_words, EntryFits, EntriesFit}
use Rattle.spin_text.specs.Objects.{CallUnder, calls_of, header_words, HeaderFits}
use Rattle.spin_text.specs.Reading.{◌>>=◌, read_entry, entries_in, read_header}
use Rattle.spin_text.specs.Readable.{ReadsCalls, AllSpell, AllLinesRead, StopsEntries}
use Rattle.spin_text.specs.Transcripts.{transcript_text}
use Rattle.spin_text.specs.Texts.{Script, script_words, ScriptFits, Spells, AreOfScript, IsFirstBad, played, PlaysBytes, PlaysLines, StopsPlaying, StopsWriting}
use Rattle.spin_text.proofs.Options.{some_is}
use Rattle.std.proofs.lemmas.Result.{on_ok_weaker, IfErr-weaker}
use Rattle.spin_text.proofs.Moves.{entry_takes, entry_again}
use Rattle.spin_text.proofs.Headers.{header_takes, header_again, read_of, reads_of}

-- the entries of the lines, if each line spells one
abbrev pub read_entries : {C : Type 0} → (List (List ℕ) → Option C) → List (List (List ℕ)) → Option (List (ℕ × Move C ℕ))
read_entries read [] = Some []
read_entries read (line ∷ lines) = read_entry read line >>= λ e. (read_entries read lines >>= λ es. Some (e ∷ es))

module _ {C : Type 0} (calls : Calls C) (read : List (List ℕ) → Option C) (reads : ReadsCalls calls read) where
  pub entries_again : (es : List (ℕ × Move C ℕ)) → EntriesFit calls es → read_entries read (map (entry_words calls) es) ≡ Some es
  entries_again [] fits = refl
  entries_again (e ∷ es) fits = rw (entry_again calls read reads e fits.0, entries_again es fits.1)

  -- lines are no entries if a line among them spells none
  pub entries_stop : (es : List (ℕ × Move C ℕ)) (line : List (List ℕ)) → EntriesFit calls es → read_entry read line ≡ None → read_entries read (map (entry_words calls) es ++ (line ∷ [])) ≡ None
  entries_stop [] line fits is = ap (λ o. o >>= λ x. Some (x ∷ [])) is
  entries_stop (e ∷ es) line fits is = rw (entry_again calls read reads e fits.0, entries_stop es line fits.1 is)

  -- if some entries fit and one more entry fits, then all of them fit
  pub entries_more : (es : List (ℕ × Move C ℕ)) (e : ℕ × Move C ℕ) → EntriesFit calls es → EntryFits calls e → EntriesFit calls (es ++ (e ∷ []))
  entries_more [] e fits fit = (fit, tt)
  entries_more (x ∷ xs) e fits fit = (fits.0, entries_more xs e fits.1 fit)

  -- if the next line spells an entry, the entries read so far grow by it
  pub entries_step : (es all_entries : List (ℕ × Move C ℕ)) (e : ℕ × Move C ℕ) (line : List (List ℕ)) (left further all : List (List (List ℕ))) → EntriesFit calls es → map (entry_words calls) es ++ left ≡ all → left ≡ line ∷ further
      → read_entry read line ≡ Some e → all_entries ≡ es ++ (e ∷ []) → EntriesFit calls all_entries × (map (entry_words calls) all_entries ++ further ≡ all)
  entries_step es all_entries e line left further all fits spelled next found is = grind (arith, entry_takes calls read reads line e found, entries_more es e fits (entry_takes calls read reads line e found).0, map-append (entry_words calls) es (e ∷ []), append_assoc (map (entry_words calls) es) ((entry_words calls) e ∷ []) further)

-- if the first line spells an entry, it is the first entry of the lines
pub first_entry : {C : Type 0} (read : List (List ℕ) → Option C) (left further : List (List (List ℕ))) (line : List (List ℕ)) (e : ℕ × Move C ℕ) → left ≡ line ∷ further
    → read_entry read line ≡ Some e → entries_in read left ≡ e ∷ entries_in read further
first_entry read left further line e next found = ap (entries_in read) next ∙ ap (λ o. cons_option o (entries_in read further)) found

-- the lines before those in `left` spell n entries
abbrev pub Checked : {C : Type 0} → Calls C → List (List (List ℕ)) → List (List (List ℕ)) → ℕ → Type 0
Checked {C} calls left all n = (es : List (ℕ × Move C ℕ)) × EntriesFit calls es × (map (entry_words calls) es ++ left ≡ all) × (n ≡ length es)

module _ {C : Type 0} (calls : Calls C) (read : List (List ℕ) → Option C) (reads : ReadsCalls calls read) where
  -- reading the lines of some entries finds these entries
  entries_found : (es : List (ℕ × Move C ℕ)) → EntriesFit calls es → entries_in read (map (entry_words calls) es) ≡ es
  entries_found [] fits = refl
  entries_found (e ∷ es) fits = rw (entry_again calls read reads e fits.0, entries_found es fits.1)

  -- each line that spells an entry is read
  pub all_read : (es : List (ℕ × Move C ℕ)) → EntriesFit calls es → AllLinesRead read (map (entry_words calls) es)
  all_read [] fits = tt
  all_read (e ∷ es) fits = (subst IsSome (sym (entry_again calls read reads e fits.0)) refl, all_read es fits.1)

  pub checked_next : (n : ℕ) (e : ℕ × Move C ℕ) (line : List (List ℕ)) (left further all : List (List (List ℕ))) → Checked calls left all n
      → left ≡ line ∷ further → read_entry read line ≡ Some e → Checked calls further all (n + 1)
  checked_next n e line left further all so_far next found =
      let es = so_far.0 in
      let more = entries_step calls read reads es (es ++ (e ∷ [])) e line left further all so_far.1 so_far.2 next found refl in
      (es ++ (e ∷ []), more.0, more.1, omega (arith, so_far.3, length-append es (e ∷ [])))

  pub checked_all : (n : ℕ) (left all : List (List (List ℕ))) → Checked calls left all n → left ≡ [] → AllSpell calls read all
  checked_all n left all so_far over = grind (arith, append-nil, entries_found)

pub read_script : List (List (List ℕ)) → Option Script
read_script [] = None
read_script (line ∷ lines) = read_header line >>= λ h. (read_entries (read_of h) lines >>= λ es. Some (record { header = h; entries = es }))

pub script_again : (s : Script) → ScriptFits s → read_script (script_words s) ≡ Some s
unfolding read_script
script_again s fits =
    let rest = map (entry_words (calls_of s.header)) s.entries in
    ap (λ o. o >>= λ h. (read_entries (read_of h) rest >>= λ es. Some (record { header = h; entries = es }))) (header_again s.header fits.0)
    ∙ ap (λ o. o >>= λ es. Some (record { header = s.header; entries = es })) (entries_again (calls_of s.header) (read_of s.header) (reads_of s.header) s.entries fits.1)

-- two scripts of one text are equal
pub one_script : (bytes : List ℕ) (s t : Script) → Spells bytes s → Spells bytes t → s ≡ t
one_script bytes s t first second = rw (some_is (sym (script_again s first.fits) ∙ ap read_script (sym first.words ∙ second.words) ∙ script_again t second.fits))

-- lines that cannot be read are not the lines of a script
no_script : (lines : List (List (List ℕ))) → read_script lines ≡ None → ¬ AreOfScript lines
no_script lines none = grind (arith, script_again, read_script)

header_stops : (line : List (List ℕ)) → read_header line ≡ None → read_script (line ∷ []) ≡ None
unfolding read_script
header_stops line none = ap (λ o. o >>= λ h. (read_entries (read_of h) [] >>= λ es. Some (record { header = h; entries = es }))) none

pub bad_header : (line : List (List ℕ)) (all more : List (List (List ℕ))) → all ≡ line ∷ more → None ≡ read_header line → IsFirstBad all 1
bad_header line all more is none = grind (arith, no_script (line ∷ []) (header_stops line (sym none)))

entry_stops : (h : Header) (es : List (ℕ × Move (CallUnder h) ℕ)) (line : List (List ℕ)) → HeaderFits h → EntriesFit (calls_of h) es → read_entry (read_of h) line ≡ None
    → read_script (header_words h ∷ (map (entry_words (calls_of h)) es ++ (line ∷ []))) ≡ None
unfolding read_script
entry_stops h es line fits each none = grind (arith, header_again, entries_stop, reads_of)

-- The first elements of a list that is given in two parts.

take_all_before : {X : Type 0} → (xs : List X) (y : X) (ys : List X) → take (length xs) (xs ++ (y ∷ ys)) ≡ xs
take_all_before [] y ys = refl
take_all_before (x ∷ xs) y ys = ap (λ l. x ∷ l) (take_all_before xs y ys)

take_one_more : {X : Type 0} → (xs : List X) (y : X) (ys : List X) → take (suc (length xs)) (xs ++ (y ∷ ys)) ≡ xs ++ (y ∷ [])
take_one_more [] y ys = refl
take_one_more (x ∷ xs) y ys = ap (λ l. x ∷ l) (take_one_more xs y ys)

first_bad : (h : Header) (es : List (ℕ × Move (CallUnder h) ℕ)) (line : List (List ℕ)) (more : List (List (List ℕ))) → HeaderFits h → EntriesFit (calls_of h) es → read_entry (read_of h) line ≡ None
    → IsFirstBad (header_words h ∷ (map (entry_words (calls_of h)) es ++ (line ∷ more))) (length es + 2)
first_bad h es line more fits each none =
    let rest = map (entry_words (calls_of h)) es in
    let long : length rest ≡ length es = length-map es (entry_words (calls_of h)) in
    let all = header_words h ∷ (rest ++ (line ∷ more)) in
    let before : length es + 2 - 1 ≡ suc (length rest) = omega (arith, long) in
    let with_line : length es + 2 ≡ suc (suc (length rest)) = omega (arith, long) in
    record {
      there = (omega arith, omega (arith, long, length-append rest (line ∷ more)));
      before = λ _. (record { header = h; entries = es }, (fits, each), ap (λ n. take n all) before ∙ ap (λ l. header_words h ∷ l) (take_all_before rest line more));
      bad = λ script. no_script _ (entry_stops h es line fits each none) (let P : List (List (List ℕ)) → Type 0 = AreOfScript in subst P (ap (λ n. take n all) with_line ∙ ap (λ l. header_words h ∷ l) (take_one_more rest line more)) script);
    }

-- if a header is read from the first line, that line spells the header
pub headed : (line : List (List ℕ)) (all more : List (List (List ℕ))) (read : Option Header) (found h : Header) → all ≡ line ∷ more → read ≡ read_header line → read ≡ Some found → found ≡ h
    → HeaderFits h × (all ≡ header_words h ∷ more)
headed line all more read found h is reads some same =
    let header = header_takes line h (sym reads ∙ some ∙ ap Some same) in (header.0, is ∙ ap (λ w. w ∷ more) header.1)

-- an error in the lines after the header is an error of the whole text
pub bad_entry : (bytes : List ℕ) (h : Header) (rest : List (List (List ℕ))) (e : RunError) → HeaderFits h → words_by_line bytes ≡ header_words h ∷ rest → StopsEntries (calls_of h) (read_of h) rest e → StopsPlaying bytes e
bad_entry bytes h rest e fits is stops = grind (arith, first_bad)

-- the text for the entries after the header is the text for the whole script
pub whole_text : {W L : Type 0} → (bytes : List ℕ) (h : Header) (rest : List (List (List ℕ))) (m : Machine W ℕ (CallUnder h) L (Answer ℕ)) (parties : ℕ) (text : List ℕ) → HeaderFits h → words_by_line bytes ≡ header_words h ∷ rest
    → ((es : List (ℕ × Move (CallUnder h) ℕ)) → transcript_text m parties es ≡ played h es) → PlaysLines (calls_of h) m parties rest text → PlaysBytes bytes text
whole_text bytes h rest m parties text fits is same plays =
    (record { header = h; entries = plays.0 }, record { fits = (fits, plays.1); words = is ∙ ap (λ r. header_words h ∷ r) plays.2 }, plays.3 ∙ same plays.0)

-- If B implies C and P implies Q, an error of a call that writes may be described by C and Q in place of B and P.

stops_so : (B C : RunError → Type 0) (U P Q : Type 0) → ((e : RunError) → B e → C e) → (P → Q) → (e : RunError) → StopsWriting B U P e → StopsWriting C U Q e
stops_so B C U P Q before at_write e stops = grind arith

module _ {X : Type 0} (r : Result X RunError) (P Q : List ℕ → Type 0) (each : (text : List ℕ) → P text → Q text) (a b : Option (List ℕ)) where
  -- if P implies Q, and some text with P was written, then some text with Q was written
  pub some_so : OnOk r (AppendsSome P a b) → OnOk r (AppendsSome Q a b)
  some_so = on_ok_weaker r (λ t. (t.0, each t.0 t.1, t.2))

  pub beginning_so : (B C : RunError → Type 0) (U F : Type 0) → ((e : RunError) → B e → C e)
      → IfErr r (StopsWriting B U (F × AppendsSomeBeginning P a b)) → IfErr r (StopsWriting C U (F × AppendsSomeBeginning Q a b))
  beginning_so B C U F before = IfErr-weaker r _ _ (stops_so B C U _ _ before (λ t. (t.0, (t.1.0, each t.1.0 t.1.1, t.1.2))))

-- What holds of the lines after the header holds of all bytes. The machine is that of an object as it is made.
pub plays_so : {X W L O : Type 0} (bytes : List ℕ) (h : Header) (rest : List (List (List ℕ))) (made new : O) → HeaderFits h × (words_by_line bytes ≡ header_words h ∷ rest) → new ≡ made
    → (machine : O → Machine W ℕ (CallUnder h) L (Answer ℕ)) (parties : ℕ) → ((es : List (ℕ × Move (CallUnder h) ℕ)) → transcript_text (machine made) parties es ≡ played h es)
    → (r : Result X RunError) (a b : Option (List ℕ)) (U F : Type 0) → OnOk r (AppendsSome (PlaysLines (calls_of h) (machine new) parties rest) a b)
    → IfErr r (StopsWriting (StopsEntries (calls_of h) (read_of h) rest) U (F × AppendsSomeBeginning (PlaysLines (calls_of h) (machine new) parties rest) a b))
    → OnOk r (AppendsSome (PlaysBytes bytes) a b) × IfErr r (StopsWriting (StopsPlaying bytes) U (F × AppendsSomeBeginning (PlaysBytes bytes) a b))
plays_so bytes h rest made new first fields machine parties same r a b U F plays stops =
    let each = λ (text : List ℕ). whole_text bytes h rest (machine new) parties text first.0 first.1 (λ es. ap (λ o. transcript_text (machine o) parties es) fields ∙ same es) in
    (some_so r _ _ each a b plays, beginning_so r _ _ each a b _ _ U F (λ e. bad_entry bytes h rest e first.0 first.1) stops)

-- The lines of a text while they are read one by one: what the lines read so far set, and which lines are left.
use Rattle.std.proofs.Common.{◌≡◌, ◌∙◌, ℕ, ◌+◌, ap, sym, subst, refl, arith, List, [], ◌∷◌, ◌++◌, Option, Some, None, unwrap_or, length, Bor, false}
use Rattle.std.specs.Iterator.{AlwaysYields}
use Rattle.std.specs.Str.Iter.{lines_steps, lines_rest}
use Rattle.std.specs.Str.Lines.{lines}
use Rattle.std.specs.Iterator.Adapters.{enumerate_source, enumerate_count, enumerate_steps}
use Rattle.std.specs.declared.iter.Enumerate.{Enumerate}
use Rattle.std.proofs.lemmas.List.{append-nil, length-append}
use Rattle.std.proofs.lemmas.Iterator.Splits.{YieldsList-from_lines}
use Rattle.std.specs.declared.str.Lines.{Lines}
use Rattle.spin_examples.specs.declared.settings.Setting.{Setting}
use Rattle.spin_examples.specs.declared.settings.Settings.{Settings}
use Rattle.spin_examples.specs.Settings.{Sets, SetsNothing, SetInOrder, last_set, AreAfter, AreSettingsOf, IsFirstBadLine, port_of, workers_of, verbose_of}

-- the lines that the iterator still has
abbrev LeftAt : Lines → List (List ℕ) → Type 0
LeftAt s ls = AlwaysYields lines_steps (λ x. x.now) s ls

next_line : (s t : Lines) (x : Bor (List ℕ)) (ls : List (List ℕ)) → LeftAt s ls → lines_steps s (Some x) t → (more : List (List ℕ)) × (ls ≡ x.now ∷ more) × LeftAt t more
next_line s t x [] left step = absurd (left x t step)
next_line s t x (l ∷ more) left step = let h = left.1 x t step in (more, ap (λ y. y ∷ more) (sym h.0), h.1)

no_line : (s t : Lines) (ls : List (List ℕ)) → LeftAt s ls → lines_steps s None t → ls ≡ []
no_line s t [] left step = refl
no_line s t (l ∷ more) left step = absurd (left.0 t step)

behind : (before : List (List ℕ)) (line : List ℕ) (after : List (List ℕ)) → before ++ line ∷ after ≡ (before ++ line ∷ []) ++ after
behind [] line after = refl
behind (l ∷ before) line after = ap (λ ls. l ∷ ls) (behind before line after)

one_more : (ls : List (List ℕ)) (ss : List Setting) (line : List ℕ) (s : Setting) → SetInOrder ls ss → Sets line s → SetInOrder (ls ++ line ∷ []) (ss ++ s ∷ [])
one_more [] [] line s set is = (is, tt)
one_more [] (u ∷ ss) line s set is = absurd set
one_more (l ∷ ls) [] line s set is = absurd set
one_more (l ∷ ls) (u ∷ ss) line s set is = (set.0, one_more ls ss line s set.1 is)

last_of_more : {V : Type 0} (value_of : Setting → Option V) (d : V) (ss : List Setting) (s : Setting) → last_set value_of d (ss ++ s ∷ []) ≡ unwrap_or (value_of s) (last_set value_of d ss)
last_of_more value_of d [] s = refl
last_of_more value_of d (u ∷ ss) s = last_of_more value_of (unwrap_or (value_of u) d) ss s

-- `new` are the settings `old` after one more line, which sets s
abbrev IsWith : Setting → Settings → Settings → Type 0
IsWith s old new = (new.port ≡ unwrap_or (port_of s) old.port) × (new.workers ≡ unwrap_or (workers_of s) old.workers) × (new.verbose ≡ unwrap_or (verbose_of s) old.verbose)

with_line : (ls : List (List ℕ)) (line : List ℕ) (s : Setting) (old new : Settings) → AreSettingsOf ls old → Sets line s → IsWith s old new → AreSettingsOf (ls ++ line ∷ []) new
with_line ls line s old new are sets is =
    let ss = are.0 in
    let after = are.2 in (
      ss ++ s ∷ [],
      one_more ls ss line s are.1 sets,
      (
        is.0 ∙ ap (unwrap_or (port_of s)) after.0 ∙ sym (last_of_more port_of 8080 ss s),
        is.1 ∙ ap (unwrap_or (workers_of s)) after.1 ∙ sym (last_of_more workers_of 1 ss s),
        is.2 ∙ ap (unwrap_or (verbose_of s)) after.2 ∙ sym (last_of_more verbose_of false ss s),
      ),
    )

-- The lines read so far made these settings, and the iterator has the remaining lines.
pub record Midway (ls : List (List ℕ)) (it : Enumerate Lines) (settings : Settings) : Type 0 where
  pub read : List (List ℕ)
  pub left : List (List ℕ)
  pub whole : ls ≡ read ++ left
  pub stands : LeftAt (enumerate_source it) left
  pub counted : enumerate_count it ≡ length read
  pub so_far : AreSettingsOf read settings

pub begins : (text : List ℕ) (it : Enumerate Lines) (settings : Settings) → lines_rest (enumerate_source it) ≡ text → enumerate_count it ≡ 0 → AreAfter [] settings → Midway (lines text) it settings
begins text it settings rest none are = record {
  read = [];
  left = lines text;
  whole = refl;
  stands = (YieldsList-from_lines text rest).runs;
  counted = none;
  so_far = ([], tt, are);
}

module _ (ls : List (List ℕ)) (it next : Enumerate Lines) (old : Settings) (m : Midway ls it old) where
  pub goes_on : (n : ℕ) (x : Bor (List ℕ)) (u : Setting) (new : Settings) → enumerate_steps lines_steps it (Some (n, x)) next → Sets x.now u → IsWith u old new → Midway ls next new
  goes_on n x u new step sets is =
      let more = next_line (enumerate_source it) (enumerate_source next) x m.left m.stands step.0 in
      record {
        read = m.read ++ x.now ∷ [];
        left = more.0;
        whole = m.whole ∙ ap (λ left. m.read ++ left) more.1 ∙ behind m.read x.now more.0;
        stands = more.2;
        counted = omega (arith, step.2, m.counted, length-append m.read (x.now ∷ []));
        so_far = with_line m.read x.now u old new m.so_far sets is;
      }

  pub first_bad : (n : ℕ) (x : Bor (List ℕ)) → enumerate_steps lines_steps it (Some (n, x)) next → SetsNothing x.now → IsFirstBadLine ls (n + 1)
  first_bad n x step nothing =
      let more = next_line (enumerate_source it) (enumerate_source next) x m.left m.stands step.0 in
      (m.read, x.now, more.0, m.whole ∙ ap (λ left. m.read ++ left) more.1, ap (λ k. k + 1) (step.1 ∙ m.counted), (m.so_far.0, m.so_far.1), nothing)

  pub ends : enumerate_steps lines_steps it None next → AreSettingsOf ls old
  ends step =
      let all = m.whole ∙ ap (λ left. m.read ++ left) (no_line _ _ m.left m.stands step.0) ∙ append-nil m.read in
      subst (λ l. AreSettingsOf l old) (sym all) m.so_far

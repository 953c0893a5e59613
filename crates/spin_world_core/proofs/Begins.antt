-- Each answer tells where its call began.
use Rattle.std.proofs.Common.{◌≡◌, ℕ, suc, ◌+◌, ◌⊎◌, Bool, true, false, Option, Some, None, List, [], ◌∷◌, ◌++◌, length, if◌then◌else◌, refl, ap, sym, ◌∙◌, arith, append_assoc, inl, inr}
use Rattle.std.specs.List.{list_any}
use Rattle.std.proofs.lemmas.List.{append-nil, length-append}
use Rattle.spin_step.specs.declared.schedule.Outcome.TheVariants as outcome
use Rattle.spin_step.specs.declared.schedule.Event.{Event}
use Rattle.spin_step.specs.Schedules.{with_begins, with_begin, last_begin}
use Rattle.spin_world_core.specs.Transcripts.{begins_of, IsLastOf, TellsBegins}
use Rattle.spin_world_core.proofs.Schedules.{last_begin-append}

module _ {W V A : Type 0} where
  -- r is what `last_begin` finds: the place of the last event that begins a call, or what was found before
  abbrev Finds : ℕ → ℕ → Option ℕ → List (Event W V A) → Option ℕ → Type 0
  Finds p k found xs r =
      ((list_any (begins_of p) xs ≡ false) × (r ≡ found)) ⊎ ((place : ℕ) × (r ≡ Some (k + place)) × IsLastOf p xs place)

  later : (p k : ℕ) (found : Option ℕ) (e : Event W V A) (es : List (Event W V A)) (r : Option ℕ) (b : Bool) → begins_of p e ≡ b
      → Finds p (k + 1) (if b then Some k else found) es r → Finds p k found (e ∷ es) r
  later p k found e es r true is (inl t) =
      inr (0, grind arith, record { front = []; event = e; back = es; is = refl; place_is = refl; begins = is; none_later = t.0 })
  later p k found e es r false is (inl t) = grind arith
  later p k found e es r b is (inr t) =
      inr (suc t.0, t.1 ∙ ap Some (omega arith), record { front = e ∷ t.2.front; event = t.2.event; back = t.2.back; is = ap (λ xs. e ∷ xs) t.2.is; place_is = ap suc t.2.place_is; begins = t.2.begins; none_later = t.2.none_later })

  finds : (p k : ℕ) (found : Option ℕ) (xs : List (Event W V A)) → Finds p k found xs (last_begin p k found xs)
  finds p k found [] = inl (refl, refl)
  finds p k found (e ∷ es) = later p k found e es (last_begin p k found (e ∷ es)) (begins_of p e) refl (finds p (k + 1) (if begins_of p e then Some k else found) es)

  tells : (before told es front : List (Event W V A)) (e : Event W V A) (back : List (Event W V A)) (a : A) (b : Option ℕ)
      → ((p : ℕ) → last_begin p 0 None told ≡ last_begin p 0 None before) → length told ≡ length before
      → with_begins before es ≡ front ++ e ∷ back → e.outcome ≡ outcome.Answered a b → b ≡ last_begin e.party 0 None (told ++ front)
  tells before told [] [] e back a b same long is answers = absurd (cc (is))
  tells before told [] (f ∷ fs) e back a b same long is answers = absurd (cc (is))
  tells before told (y ∷ ys) [] e back a b same long is answers = grind (arith, same y.party, append-nil told)
  tells before told (y ∷ ys) (f ∷ fs) e back a b same long is answers =
      let r = last_begin y.party 0 None before in
      let here : record y { outcome = with_begin r y.outcome } ≡ f = cc (is) in
      let rest : with_begins (before ++ y ∷ []) ys ≡ fs ++ e ∷ back = cc (is) in
      let more : (p : ℕ) → last_begin p 0 None (told ++ f ∷ []) ≡ last_begin p 0 None (before ++ y ∷ []) =
      λ p. grind (arith, last_begin-append p 0 None told (f ∷ []), last_begin-append p 0 None before (y ∷ []), same p) in
      tells (before ++ y ∷ []) (told ++ f ∷ []) ys fs e back a b more (omega (arith, long, length-append told (f ∷ []), length-append before (y ∷ []))) rest answers
      ∙ ap (last_begin e.party 0 None) (append_assoc told (f ∷ []) fs)

  pub begins_told : (es told : List (Event W V A)) → told ≡ with_begins [] es → TellsBegins told
  begins_told es told is = λ front e back a b split answers.
      let found = tells [] [] es front e back a b (λ p. refl) refl (sym is ∙ split) answers in
      grind (arith, found, finds e.party 0 None front)

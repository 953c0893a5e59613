-- The walk of a call without a pass. It makes its call by one function, `look`, whose contract says what a new party has done and what
-- the party then knew. It ends that watch, by `forget`, and returns the answer; what the party knew stays known. Assumes `Logic`.
use Rattle.spin_core.proofs.WalkNames.{◌≡◌, ◌⊑◌, ℕ, w64, vint, param_laws, List, [], ◌∷◌, ◌++◌, T, refl, ap, ◌∙◌, named, has_ty, WT, vstruct, of_list, emp, SProp, ent, ftrue, fsep, flft, id⊢, Lft, Share, Fml, Val, Logic, sem, ‵, raw, mean, ◌⊛◌, some, later, ◌$◌, ◌∵◌, !, qed, by, move, keep, drop, split, join, fsplit, fsplit3, fjoin, fpick, pick, use1, await, rewrite, feq_l, of_opd, no_more, and_then, returns, alloc_all, pass_all, free_all, look_at, get, get_in, sets, fld, stop, sub, whole, tables, yes, no, fact, nothing, only, heard, peeks, says, shows, Is, Typed, fm, plain}
pub use Rattle.spin_core.proofs.WalkNames.{RattleType, param, layout, refl}
pub use denote.Builtin.{bool, usize}
use seplogic.Ra.Ura.{Ura}
use base.Logic.{ex_i, sep}
use mir.Raw.{raw as raw_type}
use mir.Syntax.{erased, Callee, Fn, Lifetime, Mutability, Sym, Ty, ty_bool, ty_int, tnil, tcons, ty_ref, ty_struct, ty_unit, local, value_local, place, field, copy, rv_opd, call, assign, seq, return}
use mir.Val.{vbool}
use types.ByLocal.{lands_as}
use types.Kit.{Item, done}
use contract.Lifetimes.{Lfts, Shares, AllOutlive}
use contract.Running.{Running, MachineTables}
use prog.Model.{Model}
use prog.Wp.{Closed}
use denote.Builtin.{unit}
use denote.Param.{arg}
use denote.Param.Laws.{Laws, arg_laws, arg_typed}
use denote.Ref.{NamedLft, ShrRef, shr_vals}
use denote.Signature.{shr_ref_to}
use denote.Struct.Struct.{as_fields}
use denote.Struct.Tuple.{Tuple}
use denote.Triple.Call.{calls_from}
use denote.Triple.Clauses.{Ended, Clauses, closing}
use denote.Triple.Spec.{Meets, exits}
use Rattle.spin_core.specs.Logs.{known_owns}
use Rattle.spin_core.specs.Known.{known}
use Rattle.spin_core.specs.contracts.trace.Watch as watch
use Rattle.spin_core.proofs.Lemmas.{twice}
use Rattle.spin_core.proofs.Walking.{walks, as_shr, others}
use Rattle.spin_core.proofs.trace.Steps as steps
use Rattle.spin_core.proofs.trace.Tokens.{token, token_told}

-- a value of the type is one value of the machine, of both these types
abbrev OneOf : Ty → Ty → List Val → Type 0
OneOf α β vs = (w : Val) × (vs ≡ w ∷ []) × (T (has_ty α w) × T (has_ty β w)) × WT w

abbrev pub IsOne : RattleType → Ty → Ty → Type 0
IsOne A α β = (x : A.Denot) (vs : List Val) → Is A x vs → OneOf α β vs

abbrev pub flags : IsOne bool ty_bool ty_bool
flags x vs is = (vbool x, is, (tt, tt), tt)

abbrev pub numbers : IsOne usize (ty_int w64) (ty_int w64)
numbers x vs is = (vint w64 x, is.0, (tt, tt), record { fits = is.1 })

one_of : (α β : Ty) (vs : List Val) → Typed (α ∷ []) vs → Typed (β ∷ []) vs → OneOf α β vs
one_of α β [] t u = absurd t
one_of α β (w ∷ []) t u = (w, refl, (t.0.0, u.0.0), t.0.1)
one_of α β (w ∷ v ∷ vs) t u = absurd t.1

-- the lifetime of the lock's borrow, and its name in the code of a local
abbrev pub here : Lft → NamedLft
here κ = record { mir = named 0; lft = κ }

abbrev pub nowhere : NamedLft
nowhere = record { mir = erased; lft = [] }

-- each answer is one value of the machine, in the result's local and in another
abbrev pub AreOne : (NamedLft → RattleType) → Type 0
AreOne A = (κ : Lft) → IsOne (A (here κ)) (layout (A (here []))) (layout (A nowhere))

pub lawful : {M : Type 1} {𝓤 : Ura M} (𝓛 : Logic 𝓤) (A : NamedLft → RattleType) → ((κ : Lft) → Laws (A (here κ)))
    → ((κ : Lft) → raw_type (layout (A (here []))) ≡ raw_type (layout (A (here κ)))) → ((κ : Lft) → raw_type (layout (A nowhere)) ≡ raw_type (layout (A (here κ)))) → AreOne A
lawful 𝓛 A L d e κ x vs is = let typed = ((L κ).lawful 𝓛).typed x vs is in
    one_of _ _ vs (arg_typed (layout (A (here []))) (A (here κ)) (L κ).one (d κ) vs typed) (arg_typed (layout (A nowhere)) (A (here κ)) (L κ).one (e κ) vs typed)

-- the caller's i-th type parameter, as an argument of a call
abbrev pub own : ℕ → RattleType → RattleType
own i A = arg (layout A) yes (param i A)

abbrev pub own_laws : (i : ℕ) (A : RattleType) → Laws A → Laws (own i A)
own_laws i A L = arg_laws (layout A) yes (param i A) (param_laws i A L) refl

-- the code
abbrev pub body : (look forget : Callee) → Lifetime → Mutability → (self α β : Ty) → Sym → (W : Ty) → Fn
body look forget ℓ μ self α β ν W = record {
  lifetimes = 1;
  outlives = (1, 0) ∷ (2, 0) ∷ [];
  ty_params = [];
  givens = 0;
  params = 1;
  locals = local α value_local ∷ local (ty_ref ℓ μ self) value_local ∷ local β value_local ∷ local W value_local ∷ local (ty_struct ν (tcons β (tcons W tnil))) value_local ∷ local ty_unit value_local ∷ local W value_local ∷ [];
  body = seq (call look (copy (place 1 []) ∷ []) (place 4 [])) (seq (assign (place 2 []) (rv_opd (copy (place 4 (field 0 ∷ [])))))
      (seq (assign (place 3 []) (rv_opd (copy (place 4 (field 1 ∷ []))))) (seq (assign (place 6 []) (rv_opd (copy (place 3 []))))
      (seq (call forget (copy (place 6 []) ∷ []) (place 5 [])) (seq (assign (place 0 []) (rv_opd (copy (place 2 [])))) return)))));
}

module _ (Lock : RattleType) (A : NamedLft → RattleType) (E : RattleType) where
  abbrev pub W : RattleType
  W = watch.the_row E

  abbrev pub Pair : Lft → RattleType
  Pair κ = Tuple (A (here κ) ∷ W ∷ [])

  abbrev pub ended : Ended
  ended = record {
    signature = record {
      lifetimes = 3;
      outlives = record { long = 1; long_ok = tt; short = named 0; short_ok = tt } ∷ record { long = 2; long_ok = tt; short = named 0; short_ok = tt } ∷ [];
      params = shr_ref_to (0 ∷ []) tt (plain (λ κs. Lock)) ∷ [];
      result = plain (λ κs. A (here κs.0));
    };
    kept = (yes, tt);
  }

module _ {M : Type 1} {𝓤 : Ura M} (𝓛 : Logic 𝓤) (𝓜 : Model 𝓤 𝓛.H) (𝓡 : Running 𝓤 𝓛.H 𝓜) (P Q Lock : RattleType) (A : NamedLft → RattleType) (E : RattleType)
    (Did : (κ : Lft) → Lock.Denot → (A (here κ)).Denot → (W Lock A E).Denot → Type 0) (Ends : (κ : Lft) → Lock.Denot → (A (here κ)).Denot → SProp 𝓤) where
  open 𝓛 use {H}

  abbrev 𝓣 : MachineTables 𝓤 H 𝓜
  𝓣 = tables 𝓤 H 𝓜 𝓡 𝓡.env

  abbrev Bounds : Lfts 3 → Type 0
  Bounds κs = AllOutlive 3 (ended Lock A E).signature.outlives κs

  -- the type parameters' lifetimes
  abbrev Lives : Lfts 3 → Item 𝓤
  Lives κs = raw (fact 𝓤 (κs.1.0 ⊑ P.lives)) ⊛ (raw (fact 𝓤 (κs.1.1.0 ⊑ Q.lives)) ⊛ ‵ ftrue)

  abbrev pub Known : (W Lock A E).Denot → Fml
  Known seen = known_owns E.coded.code seen.name seen.entries

  abbrev pub Says : Clauses 𝓤 (ended Lock A E)
  Says κs a = record { ghost = Unit {0}; requires = λ g. mean 𝓛 (Lives κs); ensures = λ g r e. Ends κs.0 e.0.now r }

  abbrev pub Looks : Callee → Type 1
  Looks look = (κs : Lfts 3) (qs : Shares 3) → Bounds κs → (m : (ShrRef (named 0) κs.0 Lock).Denot)
      → ent 𝓤 (mean 𝓛 ((‵ (others 3 κs qs) ⊛ ‵ (fsep ((ShrRef (named 0) κs.0 Lock).own_val m (shr_vals m)) ftrue)) ⊛ Lives κs))
      (𝓣.C look (shr_vals m) (λ v. mean 𝓛 (later (some (λ (r : (Pair Lock A E κs.0).Denot). (‵ (others 3 κs qs) ⊛ ‵ ((Pair Lock A E κs.0).own_val r (v ∷ []))) ⊛
      some (λ (ws : Unit {0} × Unit {0}). ‵ (fsep ftrue ftrue) ⊛ raw (fact 𝓤 (Did κs.0 m.now r.0 r.1))))))))

  -- what the contract of `forget` says: nothing
  abbrev Nothing : Lft → (W Lock A E).Denot → SProp 𝓤
  Nothing κ seen = exits 𝓛 (record { lifetimes = 1; outlives = []; params = plain (λ κs. W Lock A E) ∷ []; result = plain (λ κs. unit) }) (no, tt) (κ, tt) (seen, tt) (λ e. emp 𝓤)

  abbrev pub Forgets : Callee → Type 1
  Forgets forget = (κ : Lft) (q : Share) (seen : (W Lock A E).Denot)
      → ent 𝓤 (mean 𝓛 ((‵ (fsep (flft κ q) ftrue) ⊛ ‵ (fsep ((W Lock A E).own_val seen (token ∷ [])) ftrue)) ⊛ (raw (fact 𝓤 (κ ⊑ P.lives)) ⊛ ‵ ftrue)))
      (𝓣.C forget (token ∷ []) (λ u. mean 𝓛 (later (some (λ (s : Unit {0}). (‵ (fsep (flft κ q) ftrue) ⊛ ‵ (unit.own_val s (u ∷ []))) ⊛ raw (Nothing κ seen))))))

  pub answers : {k look forget : Callee} (ℓ : Lifetime) (μ : Mutability) (self : Ty) (ν : Sym) → Closed 𝓤 H 𝓣.C 𝓣.Λ k (body look forget ℓ μ self (layout (A (here []))) (layout (A nowhere)) ν (layout (W Lock A E)))
      → AreOne A → ((κ : Lft) (m : Lock.Denot) (a : (A (here κ)).Denot) (seen : (W Lock A E).Denot) → Did κ m a seen → ent 𝓤 (sem 𝓛 (Known seen)) (Ends κ m a)) → Looks look → Forgets forget
      → Meets 𝓛 (ended Lock A E).signature (𝓣.C k) (closing 𝓛 (ended Lock A E) Says)
  answers {k} {look} {forget} ℓ μ self ν closed one ends looks forgets =
      walks 𝓛 (ended Lock A E) Says 𝓜 𝓡 (λ κs x f. refl, tt) k (body look forget ℓ μ self (layout (A (here []))) (layout (A nowhere)) ν (layout (W Lock A E))) closed
      (λ κs. (as_shr (named 0) κs.0 Lock, tt)) (λ κs qs bounds a gh are Post out.
      let m = a.0 in let κ = κs.1.0 in let q = qs.1.0 in let R = Pair Lock A E κs.0 in let S = W Lock A E in
      -- context: [the tokens; the argument; what the types outlive]
      move ! (2 ∷ []) $ use1 𝓛 (Lives κs) (id⊢ 𝓤 _) $ split ! $ heard ! (κ ⊑ P.lives) (λ le. split ! $ heard ! (κs.1.1.0 ⊑ Q.lives) (λ le'. drop ! $
      join ! $ nothing ! $ says ! (κs.1.1.0 ⊑ Q.lives) le' $ join ! $ says ! (κ ⊑ P.lives) le $ join ! $ move ! (1 ∷ 0 ∷ []) $ join ! $
      alloc_all ! (λ l. pass_all ! refl ((tt, tt), tt) $
      calls_from ! (fm 𝓛 𝓜 𝓡) ((‵ (others 3 κs qs) ⊛ ‵ (fsep ((ShrRef (named 0) κs.0 Lock).own_val m (shr_vals m)) ftrue)) ⊛ Lives κs) (shr_vals m) _ (looks κs qs bounds m) (and_then ! (get ! refl) (no_more !)) (λ v.
      use1 𝓛 (later (some (λ (r : R.Denot). (‵ (others 3 κs qs) ⊛ ‵ (R.own_val r (v ∷ []))) ⊛ some (λ (ws : Unit {0} × Unit {0}). ‵ (fsep ftrue ftrue) ⊛ raw (fact 𝓤 (Did κs.0 m.now r.0 r.1)))))) (id⊢ 𝓤 _) $
      await ! tt $ pick ! (λ r. split ! $ split ! $ move ! (2 ∷ []) $ pick ! (λ ws. split ! $ drop ! $ heard ! (Did κs.0 m.now r.0 r.1) (λ did.
      move ! (1 ∷ []) $ fpick ! (λ vss. fsplit ! $ feq_l ! (λ e. fsplit3 ! $ peeks ! (A (here κs.0)) (Is (A (here κs.0))) (shows 𝓛 (A (here κs.0))) r.0 vss.0 (λ is. move ! (1 ∷ []) $ peeks ! S (Is S) (shows 𝓛 S) r.1 vss.1.0 (λ seen.
      let told = token_told E vss.1.0 seen.0 in let spelled = one κs.0 r.0 vss.0 is in let w = spelled.0 in
      fsplit ! $ move ! (1 ∷ []) $ twice ! ((steps.known_twice 𝓛 E.coded r.1.name r.1.entries).prf) $ move ! (2 ∷ 1 ∷ []) $ fjoin ! $ rewrite ! 0 (λ (ws : List Val). ‵ (S.own_val r.1 ws)) told refl $
      -- context: [the watch; what it knows; the answer; nothing; the tokens]
      move ! (4 ∷ []) $ fsplit ! $ move ! (1 ∷ []) $ fsplit ! $ nothing ! $ move ! (1 ∷ 0 ∷ []) $ fjoin ! $ nothing ! $ move ! (4 ∷ 0 ∷ []) $ fjoin ! $ move ! (1 ∷ 0 ∷ []) $ join ! $
      nothing ! $ says ! (κ ⊑ P.lives) le $ join ! $ move ! (1 ∷ 0 ∷ []) $ join ! $
      lands_as ! (ap only (e ∙ (λ i. vstruct (of_list (spelled.1 i ++ (told i ++ []))) ∷ []))) refl (as_fields (layout (A nowhere) ∷ layout S ∷ []) (w ∷ token ∷ []) ((spelled.2.1, spelled.3), ((tt, (tt, tt)), tt))) $
      sets ! (of_opd ! (get_in ! (fld ! refl (stop !)) (sub ! 0 refl (whole !)))) refl (spelled.2.1, spelled.3) $
      sets ! (of_opd ! (get_in ! (fld ! refl (stop !)) (sub ! 1 refl (whole !)))) refl (tt, (tt, tt)) $
      sets ! (of_opd ! (get ! refl)) refl (tt, (tt, tt)) $
      calls_from ! (fm 𝓛 𝓜 𝓡) ((‵ (fsep (flft κ q) ftrue) ⊛ ‵ (fsep (S.own_val r.1 (token ∷ [])) ftrue)) ⊛ (raw (fact 𝓤 (κ ⊑ P.lives)) ⊛ ‵ ftrue)) (token ∷ []) _ (forgets κ q r.1) (and_then ! (get ! refl) (no_more !)) (λ u.
      use1 𝓛 (later (some (λ (s : Unit {0}). (‵ (fsep (flft κ q) ftrue) ⊛ ‵ (unit.own_val s (u ∷ []))) ⊛ raw (Nothing κ r.1)))) (id⊢ 𝓤 _) $
      await ! tt $ pick ! (λ s. split ! $ split ! $ move ! (2 ∷ []) $ drop ! $ move ! (1 ∷ []) $ peeks ! unit (Is unit) (shows 𝓛 unit) s (u ∷ []) (λ none. drop ! $
      lands_as ! (ap only none) refl (tt, tt) $ sets ! (of_opd ! (get ! refl)) refl (spelled.2.0, spelled.3) $ returns ! (look_at ! 0 refl) $ free_all ! refl $
      -- context: [a token; the others; the first; what the watch knew; the answer]
      fsplit ! $ move ! (0 ∷ 2 ∷ []) $ fjoin ! $ move ! (2 ∷ 0 ∷ []) $ fjoin ! $ move ! (2 ∷ []) $ use1 𝓛 (raw (Ends κs.0 m.now r.0)) (ends κs.0 m.now r.0 r.1 did) $
      rewrite ! 3 (λ (ws : List Val). ‵ ((A (here κs.0)).own_val r.0 ws)) spelled.1 refl $ keep ! (1 ∷ 3 ∷ 0 ∷ []) $ by ! (out w r.0))))))))))))))))

-- The clause of such a call: it is known that the party did this; with a fact beside.
module _ {M : Type 1} {𝓤 : Ura M} (𝓛 : Logic 𝓤) (E : RattleType) (Did : (watch.the_row E).Denot → Type 0) (seen : (watch.the_row E).Denot) where
  abbrev Knows : SProp 𝓤
  Knows = sem 𝓛 (known_owns E.coded.code seen.name seen.entries)

  pub alone : Did seen → ent 𝓤 Knows (sem 𝓛 (known E Did))
  alone did = ex_i 𝓤 (λ (it : (s : (watch.the_row E).Denot) × Did s). sem 𝓛 (known_owns E.coded.code it.0.name it.0.entries)) (seen, did)

  pub beside : (φ : Type 0) → φ → Did seen → ent 𝓤 Knows (sep 𝓤 (fact 𝓤 φ) (sem 𝓛 (known E Did)))
  beside φ holds did = qed 𝓛 (‵ (known_owns E.coded.code seen.name seen.entries) ∷ []) ∵ use1 𝓛 (‵ (known E Did)) (alone did) $ says ! φ holds $ done !

-- What the laws of an object say of it by name: how it opens, when a call may begin, and how soon an undisturbed call is
-- answered.
use Rattle.std.specs.Prelude.{◌≡◌, ℕ, Bool, true, is_some, Option, List, [], ◌∷◌, ⊤}
use Rattle.spin_step.specs.declared.place.Hold.{Hold}
use Rattle.spin_step.specs.Machines.{Machine}
use Rattle.spin_step.specs.Calls.{Asked, LockKind, says_of}
use Rattle.spin_step.specs.declared.answer.Answer.{Answer}

-- `m` is the machine of a lock of this kind. It opens with these words and this value, which its owner, if any, may use.
pub record IsLock {W V C L : Type 0} (kind : LockKind) (words : W) (numbers_of : W → List ℕ) (given : Option V) (has_owner : Bool) (m : Machine W V C L (Answer V)) : Type 0 where
  pub lock_kind : m.lock_kind ≡ kind
  pub opens : m.words ≡ words
  pub numbers : (w : W) → m.numbers w ≡ numbers_of w
  pub value : m.value ≡ given
  pub owned : m.owned ≡ has_owner
  pub says : (a : Answer V) → m.says a ≡ says_of a

-- the call promises this, whatever its party holds
abbrev pub Asks : {W V C L A : Type 0} → Machine W V C L A → C → Asked → Type 0
Asks m c what = (h : Option Hold) → m.asks c h ≡ what

-- each call of the list may begin when its party holds what the list has beside the call
abbrev pub BeginAt : {W V C L A : Type 0} → Machine W V C L A → List (C × Option Hold) → Type 0
BeginAt m [] = ⊤
BeginAt m (call ∷ more) = (is_some (m.begin call.0 call.1) ≡ true) × BeginAt m more

-- once what this call asks is open, the call promises its answer within n own steps if nobody disturbs it
abbrev pub AnswersIn : {W V C L A : Type 0} → Machine W V C L A → ℕ → C → Type 0
AnswersIn m n c = (h : Option Hold) → (m.asks c h).undisturbed_steps ≡ n

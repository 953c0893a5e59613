use Rattle.std.proofs.Common.{◌≡◌, ◌+◌, Bool, if◌then◌else◌, Some, None, refl, ap, eq-eqb, arith}
use Rattle.spin_seated.specs.declared.mutex.Call.TheVariants.{TryLock, Read, Write, Unlock}
use Rattle.spin_seated.specs.declared.lock.Answer.TheVariants.{Truth}
use Rattle.spin_examples.specs.Sections.{away, entered, has_read, has_written, next_section, section_of}
use Rattle.spin_examples.proofs.Sections.{section_continues, writes_grow}
use Rattle.spin_examples.proofs.adding.add.Goals as goal

pub returns-then-not-try_lock-clause-section : goal.returns-then-not-try_lock-clause-section
returns-then-not-try_lock-clause-section c =
    section_continues c.args.pass.now.known TryLock _ c.try_lock.new.pass.known c.try_lock.ensures.made away away c.requires.section (ap (λ (b : Bool). next_section away TryLock (Truth b)) c.if-not-try_lock.true)

pub returns-then-not-try_lock-clause-added : goal.returns-then-not-try_lock-clause-added
returns-then-not-try_lock-clause-added c = writes_grow c.args.pass.now.known TryLock _ c.try_lock.new.pass.known c.try_lock.ensures.made

pub returns-then-value-clause-section : goal.returns-then-value-clause-section
returns-then-value-clause-section c =
    let x₀ = c.args.pass.now.known in let x₁ = c.try_lock.new.pass.known in let x₂ = c.read-value.new.pass.known in
    let t₁ : section_of x₁ ≡ Some entered = section_continues x₀ TryLock _ x₁ c.try_lock.ensures.made away entered c.requires.section (ap (λ (b : Bool). next_section away TryLock (Truth b)) c.if-not-try_lock.false) in
    let t₂ : section_of x₂ ≡ Some (has_read c.read-value.result) = section_continues x₁ Read _ x₂ c.read-value.ensures.made entered (has_read c.read-value.result) t₁ refl in
    section_continues x₂ Unlock _ c.unlock.new.pass.known c.unlock.ensures.made (has_read c.read-value.result) away t₂ refl

pub returns-then-value-clause-added : goal.returns-then-value-clause-added
returns-then-value-clause-added c =
    let x₀ = c.args.pass.now.known in let x₁ = c.try_lock.new.pass.known in let x₂ = c.read-value.new.pass.known in
    let w₁ = writes_grow x₀ TryLock _ x₁ c.try_lock.ensures.made in let w₂ = writes_grow x₁ Read _ x₂ c.read-value.ensures.made in
    let w₃ = writes_grow x₂ Unlock _ c.unlock.new.pass.known c.unlock.ensures.made in
    omega arith

pub returns-clause-section : goal.returns-clause-section
returns-clause-section c =
    let x₀ = c.args.pass.now.known in let x₁ = c.try_lock.new.pass.known in let x₂ = c.read-value.new.pass.known in let x₃ = c.write.new.pass.known in
    let t₁ : section_of x₁ ≡ Some entered = section_continues x₀ TryLock _ x₁ c.try_lock.ensures.made away entered c.requires.section (ap (λ (b : Bool). next_section away TryLock (Truth b)) c.if-not-try_lock.false) in
    let t₂ : section_of x₂ ≡ Some (has_read c.read-value.result) = section_continues x₁ Read _ x₂ c.read-value.ensures.made entered (has_read c.read-value.result) t₁ refl in
    let t₃ : section_of x₃ ≡ Some has_written = section_continues x₂ (Write (c.read-value.result + 1)) _ x₃ c.write.ensures.made (has_read c.read-value.result) has_written t₂
    (ap (λ (b : Bool). if b then Some has_written else None) (eq-eqb (c.read-value.result + 1) (c.read-value.result + 1) refl)) in
    section_continues x₃ Unlock _ c.unlock-2.new.pass.known c.unlock-2.ensures.made has_written away t₃ refl

pub returns-clause-added : goal.returns-clause-added
returns-clause-added c =
    let x₀ = c.args.pass.now.known in let x₁ = c.try_lock.new.pass.known in let x₂ = c.read-value.new.pass.known in let x₃ = c.write.new.pass.known in
    let w₁ = writes_grow x₀ TryLock _ x₁ c.try_lock.ensures.made in let w₂ = writes_grow x₁ Read _ x₂ c.read-value.ensures.made in
    let w₃ = writes_grow x₂ (Write (c.read-value.result + 1)) _ x₃ c.write.ensures.made in let w₄ = writes_grow x₃ Unlock _ c.unlock-2.new.pass.known c.unlock-2.ensures.made in
    omega arith

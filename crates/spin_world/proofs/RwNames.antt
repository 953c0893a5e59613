-- The names that these proofs share, in one place.
pub use Rattle.std.proofs.Common.{Some, [], ◌∷◌, ◌≡◌, ℕ, ◌+◌, ◌/◌, ◌≤◌, ◌==◌, true, false, Option, None, List, ◌++◌, length, nat_lt, refl, ap, sym, ◌∙◌, arith, eq-eqb, length-append, ◌↔◌, Bool, slice_get}
pub use Rattle.spin_step.specs.Plain.{reading, upgradable, writing, to_upgrade_asked, releases, Plain, Kind, asking, weight, Holder, holder, to_read, to_read_upgradable, to_write, to_upgrade, Change, gets, turns, may_come, is_empty, is_holder, is_only, may_turn, with_kind, rw_word, count_kind}
pub use Rattle.spin_step.specs.Calls.{AnyOf, Mark, Said, own_steps}
pub use Rattle.spin_step.specs.Parties.{Entries, entries, apply_some, IsOpenStep, IsExclusive}
pub use Rattle.spin_step.specs.Steps.{bit}
pub use Rattle.spin_step_more.specs.Readers.{reader_limit, tells, read, read_upgradable, write, upgrade, upgrade_asked, released, reader_goes, turned as turned_to}
pub use Rattle.spin_step.proofs.Holders.{is_holder-from_entries, is_holder-own, length-without_holder}
pub use Rattle.spin_step.proofs.Exclusive.{empty_is, room_to_come}
pub use Rattle.spin_step_more.proofs.Readers.{one_of_each, read-word, upgradable_read-word, upgradable-word, tells-holder, readers-word, writers-word, only_upgradable-word, only_asking-word, empty-word, word_of}
pub use Rattle.spin_step.specs.declared.answer.Answer.{Answer}
pub use Rattle.spin_step.specs.declared.place.Hold.{Hold}
pub use Rattle.spin_step_more.specs.declared.rw_calls.RwCall.{RwCall}
pub use Rattle.spin_step_more.specs.declared.rw_calls.RwCall.TheVariants.{TryRead, Read, TryUpgradeableRead, UpgradeableRead, TryWrite, TryWriteWeak, Write, ReaderCount, WriterCount, IsLocked, TryUpgrade, TryUpgradeWeak, Upgrade, Downgrade, DowngradeToUpgradeable, Release}
pub use Rattle.spin_step_more.specs.declared.rw_calls.RwPoint.{RwPoint}
pub use Rattle.spin_step_more.specs.declared.rw_calls.RwPoint.TheVariants.{First, Exchange, Asking}
pub use Rattle.spin_step.specs.Acts.{begin_of}
pub use Rattle.spin_world_core.proofs.Stands.{holds, entries_at, Stand, holds_and_starves}
pub use Rattle.spin_world_core.proofs.Shapes.{Notes, Means, OwesAll, SoonAll, Pays, row_of}

-- The names that walks use, collected in one place.
pub use Rattle.std.proofs.Common.{◌≡◌, ℕ, List, [], ◌∷◌, ◌++◌, refl, sym, ◌⊎◌}
pub use mathlib.Core.List.{IsPrefix}
pub use mir.Syntax.{a_type, dcons, dnil, named}
pub use mir.Val.{Val, vunit, vptr}
pub use mir.MapTy.{inst_fn}
pub use base.Logic.{SProp, emp, id⊢}
pub use base.Fml.{Fml, ftrue, fsep, flft, fhide}
pub use types.Kit.{‵, raw, ◌⊛◌, some, given, later, ◌$◌, ◌∵◌, !, qed, by, move, keep, drop, split, fsplit, fsplit3, fjoin, fjoin3, pick, learn, use0, use1, use2, await, rewrite, feq_i}
pub use types.Run.{unit_lit, of_opd, no_more, and_then, returns, enter}
pub use types.ByLocal.{alloc_all, pass_all, free_all, look_at, get, sets}
pub use types.Tokens.{obor_close, shr_bor-open}
pub use types.Part.{agg}
pub use contract.Monad.{fact, fact_i}
pub use contract.Running.{tables}
pub use denote.Exit.{yes, no}
pub use denote.RattleType.{RattleType, owns}
pub use denote.Signature.{types_at, plain}
pub use denote.Builtin.{RefOf, unit}
pub use denote.Ref.{mut_vals, mut_Tells, shr_vals, shr_Tells}
pub use denote.Memory.{hidden_shr}
pub use denote.Opens.{unhide}
pub use denote.Steps.{nothing, opens, closes}
pub use denote.Param.{param, layouts, bounded}
pub use denote.Struct.Tuple.{Tuple}
pub use denote.Struct.Lending.{lent_out}
pub use denote.Triple.Walked.{Stays, stay_dropped, stay_ref, walk_of, Goes-dropped, Goes-ref}
pub use Rattle.atomic_table.proofs.Walks.{proved}
pub use Rattle.spin_core.proofs.trace.Tokens.{token, Token, token_told, token_made, ends}

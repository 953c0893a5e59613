-- The names of the logic that the hand-written walks use, in one place.
pub use Rattle.std.proofs.Common.{◌≡◌, ℕ, ◌+◌, ◌-◌, ◌%◌, ◌^◌, ◌&&◌, T, true, List, [], ◌∷◌, ◌++◌, sym, refl, ap, ◌∙◌, subst, lit<, w64, Option, Some, None}
pub use mir.Syntax.{dcons, dnil, a_type, named}
pub use mir.Val.{Val, vunit, vint, vptr, vstruct, vcons, vnil, of_list, has_ty, WT}
pub use mir.MapTy.{inst_fn}
pub use base.Fraction.{full_share}
pub use base.Logic.{emp, SProp, ent, sep, wand, id⊢, apply∗, guard_i}
pub use base.Fml.{fex, Lft, Share, Fml, ftrue, fsep, feq, flft, fhide, fbor, Incl-refl}
pub use base.Before.{before}
pub use prog.Wp.{WpFn}
pub use types.Logic.{sem, Logic}
pub use types.Kit.{‵, raw, ◌⊛◌, some, given, later, mean, at_ret, ◌$◌, ◌∵◌, !, qed, by, move, keep, drop, split, split3, join, fsplit, fsplit3, fjoin, fjoin3, fpick, fpack, pick, learn, use0, use1, use2, use3, await, rewrite, feq_i, feq_l, flt_i, flt_l, suffices}
pub use types.Run.{stop, fld, hop, load, addr, lit, of_opd, no_more, and_then, first, blocks, exec, Calls-last, returns, enter}
pub use types.ByLocal.{alloc_all, pass_all, free_all, look_at, get, get_in, through, sets, sets_last, lands_last, is, env}
pub use types.Part.{agg, sub, whole, look_in}
pub use contract.Running.{tables}
pub use contract.Monad.{fact, fact_i, fact_use}
pub use contract.BorrowLft.{◌⊑◌, ⊑_meet}
pub use denote.Exit.{yes, no}
pub use denote.RattleType.{RattleType, Valss, owns}
pub use denote.Signature.{types_at, plain, named_lft}
pub use denote.RawPtr.{Ptr, InBlock, block_ptr, ptr_val, block_of, count_of, at_block}
pub use denote.Steps.{nothing, only, peeks, heard, looks, shuts}
pub use denote.Opens.{unhide}
pub use denote.Laws.{Is, shows, Typed}
pub use denote.Memory.{part_at, cell_at, hidden_shr}
pub use denote.Param.{param, layout, bounded}
pub use denote.Param.Laws.{param_laws}
pub use denote.Builtin.{RefOf, RefMutOf, u64}
pub use denote.Ref.{shr_vals, shr_Tells}
pub use denote.Plain.{uint_vals, uint_Tells}
pub use denote.SharingLaws.{shortens}
pub use denote.Struct.Lending.{lent_out}
pub use denote.Struct.Struct.{within}
pub use denote.Triple.Entry.{alive}
pub use denote.Triple.Walked.{Stays, stay_dropped, walk_of, Goes-dropped}
pub use Rattle.core.proofs.atomic.Steps.{tail}
pub use Rattle.core.proofs.mem.Param.{El, lawful, Good, one}
pub use Rattle.atomic_table.proofs.Walks.{proved, proved_at, leaves}
pub use Rattle.atomic_table.proofs.Calls.{fm, seq_cst, found, finds, stored, has_stored, loads, stores, adds, subs, exchanges, lent, parks}
pub use Rattle.spin_core.proofs.WalkSteps.{says, lies, lies_at}

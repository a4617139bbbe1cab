-- The same items: the clause names what the struct shows.
use mathlib.Core.Path.{refl}
use mathlib.Core.List.{[], ◌∷◌, ◌++◌}
use seplogic.Ra.Ura.{Ura}
use mir.Syntax.{Fn, Args, a_type, named}
use mir.MapTy.{inst_fn}
use mir.Val.{Val, vptr, vstruct, vcons, vnil}
use base.Logic.{SProp, ent, via, fst∗}
use base.Fml.{Fml}
use prog.Memory.{Memory}
use prog.Routine.{Routine}
use prog.Wp.{Calls, Loops, WpFn, Tables}
use types.Logic.{Logic}
use contract.Lifetimes.{Lfts, Shares}
use contract.Monad.{Fun}
use contract.Running.{tables, tables_of}
use sound.WpLaws.{WpFn-mono}
use types.Kit.{‵, raw, ◌$◌, ◌∵◌, !, qed, move, suffices, done}
use types.Run.{no_more, and_then, returns, enter}
use types.Part.{agg}
use types.ByLocal.{alloc_all, pass_all, free_all, look_at, get, sets}
use denote.Exit.{yes}
use denote.RattleType.{RattleType, owns}
use denote.Param.{param, layouts}
use denote.Ref.{shr_vals, shr_Tells}
use denote.Shadow.{pure_i}
use denote.Signature.{plain, types_at}
use denote.Triple.Clauses.{Clauses, Ended}
use denote.Triple.Entry.{on_entry, alive, Args as Given}
use denote.Triple.Spec.{Meets, triple_of}
use denote.Triple.Table.{entered}
use denote.Triple.Walked.{says, stay_none_ref, Stays, walk_of, Walks, ends_at, walked, Goes-none_ref, walk_Meets}
use Rattle.yaml_base.proofs.history.History.copy.Code as code
use Rattle.yaml_base.proofs.history.History.copy.Statement as stated
use Rattle.yaml_base.specs.contracts.history.History as made
use Rattle.yaml_base.specs.contracts.history.History.copy as f
use Rattle.yaml_base.specs.contracts.history.History.copy.Key.{name as key}

module _ (T : RattleType) where
  abbrev layout : Args
  layout = layouts (a_type ∷ []) (T, tt)

  abbrev function : Fn
  function = inst_fn layout code.function

  abbrev ended : Ended
  ended = f.ended T

  abbrev stayed : Stays ended.signature.params ended.kept
  stayed = (stay_none_ref (0 ∷ []) tt (plain (λ _. made.the_row (param 0 T))) yes, tt)

  -- a struct of one field that has none
  abbrev value : Val
  value = vstruct (vcons (vstruct vnil) vnil)

  module _ {M : Type 1} {𝓤 : Ura M} (𝓛 : Logic 𝓤) (mem : Memory → SProp 𝓤) (run : Routine → Fun 𝓤) (C : Calls 𝓤 𝓛.H)
      (Λ : Loops 𝓤 𝓛.H) where
    open 𝓛 use {H}

    abbrev held : Clauses 𝓤 ended
    held = f.clauses T 𝓛 mem run

    module _ (κs : Lfts ended.signature.lifetimes) (qs : Shares ended.signature.lifetimes)
        (a : Given ended.signature κs) where
      abbrev before : Val
      before = vptr a.0.ref_ptr.0 a.0.ref_ptr.1

      abbrev passed : Fml
      passed = owns (types_at ended.signature.params κs) a (before ∷ [], tt)

      abbrev shown : (made.the_row (param 0 T)).Denot
      shown = record { of = record {}; items = a.0.now.items }

      walk : (bounds : _) (g : _) → ent 𝓤 (on_entry 𝓛 ended.signature κs qs a (before ∷ [], tt))
          (WpFn 𝓤 H C Λ function (before ∷ [])
          ((walk_of 𝓛 ended stayed held).post ((κs, qs, bounds, a, (before ∷ [], tt)), g)))
      walk bounds g =
          qed 𝓛 (raw (alive 𝓛 ended.signature κs qs) ∷ ‵ passed ∷ []) ∵ enter ! C Λ function (before ∷ []) _ $
          alloc_all ! (λ l. pass_all ! refl ((tt, tt), tt) $ sets ! (agg ! (no_more !)) refl (tt, tt) $
          sets ! (agg ! (and_then ! (get ! refl) (no_more !))) refl (tt, (tt, tt)) $
          returns ! (look_at ! 0 refl) $ free_all ! refl $
          suffices ! _ (ends_at 𝓛 ended stayed held ((κs, qs, bounds, a, (before ∷ [], tt)), g) value shown
          (tt, tt) (tt, tt)) $ says ! refl $
          pure_i ! ((made.the_row (param 0 T)).own_val shown (value ∷ [])) ((λ vs. (tt, ((λ us. (tt, tt)), tt))), tt)
          (((vstruct vnil ∷ [], tt), (refl, ((tt, (refl, tt)), tt))), tt) $ move ! (1 ∷ 2 ∷ 0 ∷ []) $ done !)

    walks : Walks 𝓛 ended stayed (WpFn 𝓤 H C Λ function) held
    walks =
        walked 𝓛 ended stayed held (WpFn 𝓤 H C Λ function) (λ κs. (shr_vals, tt))
        (λ κs. (shr_Tells (named 0) κs.0 (made.the_row (param 0 T)), tt))
        (λ κs qs bounds a g are. via 𝓤 _ (fst∗ 𝓤 _ ((held κs a).requires g)) (walk κs qs a bounds g))

  meets : {M : Type 1} {𝓤 : Ura M} (𝓛 : Logic 𝓤) (mem : Memory → SProp 𝓤) (run : Routine → Fun 𝓤) (𝓣 : Tables 𝓤 𝓛.H)
      → Meets 𝓛 ended.signature (WpFn 𝓤 𝓛.H 𝓣.C 𝓣.Λ function) (f.spec T 𝓛 mem run)
  meets {𝓤 = 𝓤} 𝓛 mem run 𝓣 =
      walk_Meets 𝓛 ended stayed (Goes-none_ref 𝓛 2 (0 ∷ []) tt (plain (λ _. made.the_row (param 0 T))) yes, tt) (f.clauses T 𝓛 mem run) (WpFn 𝓤 𝓛.H 𝓣.C 𝓣.Λ function)
      (WpFn-mono 𝓤 𝓛.H 𝓛.laws 𝓣 function) (walks 𝓛 mem run 𝓣.C 𝓣.Λ)

pub copy_spec : {M : Type 1} → stated.statement M
unfolding tables_of
copy_spec 𝓤 𝓛 𝓜 𝓡 wired T laws =
    entered 𝓤 𝓛.H (triple_of 𝓛 (ended T).signature (f.spec T 𝓛 𝓜.mem 𝓡.returns))
    (tables 𝓤 𝓛.H 𝓜 𝓡 𝓡.env).C (tables 𝓤 𝓛.H 𝓜 𝓡 𝓡.env).Λ (key (layout T)) (function T)
    (code.unfolded 𝓤 𝓛.H 𝓜 𝓡 wired (T, tt)) (meets T 𝓛 𝓜.mem 𝓡.returns (tables_of 𝓤 𝓛.H 𝓜 (tables 𝓤 𝓛.H 𝓜 𝓡 𝓡.env)))

-- No item: the clause names what the struct shows.
use mathlib.Core.Path.{refl}
use mathlib.Core.List.{[], ◌∷◌}
use seplogic.Ra.Ura.{Ura}
use mir.Syntax.{Fn, Args, a_type}
use mir.MapTy.{inst_fn}
use mir.Val.{Val, vstruct, vcons, vnil}
use base.Logic.{SProp, ent}
use prog.Memory.{Memory}
use prog.Routine.{Routine}
use prog.Wp.{Calls, Loops, WpFn, Tables}
use types.Logic.{Logic}
use contract.Monad.{Fun}
use contract.Running.{tables, tables_of}
use sound.WpLaws.{WpFn-mono}
use types.Kit.{‵, raw, ◌⊛◌, ◌$◌, ◌∵◌, !, qed, keep, split, move, suffices, done}
use types.Run.{no_more, and_then, returns, enter}
use types.Part.{agg}
use types.ByLocal.{alloc_all, pass_all, free_all, look_at, get, sets}
use denote.RattleType.{RattleType, owns}
use denote.Param.{param, layouts}
use denote.Shadow.{pure_i}
use denote.Signature.{types_at}
use denote.Triple.Clauses.{Clauses, Ended, closing}
use denote.Triple.Entry.{alive}
use denote.Triple.Spec.{Meets, triple_of}
use denote.Triple.Table.{entered}
use denote.Triple.Walked.{says, Stays, walk_of, ends_at, walk_Meets}
use Rattle.yaml_base.proofs.history.History.new.Code as code
use Rattle.yaml_base.proofs.history.History.new.Statement as stated
use Rattle.yaml_base.specs.contracts.history.History as made
use Rattle.yaml_base.specs.contracts.history.History.new as f
use Rattle.yaml_base.specs.contracts.history.History.new.Key.{name as key}

module _ (T : RattleType) where
  abbrev layout : Args
  layout = layouts (a_type ∷ []) (T, tt)

  abbrev function : Fn
  function = inst_fn layout code.function

  abbrev ended : Ended
  ended = f.ended T

  abbrev stayed : Stays ended.signature.params ended.kept
  stayed = tt

  abbrev shown : (made.the_row (param 0 T)).Denot
  shown = record { of = record {}; items = [] }

  -- a struct of one field that has none
  abbrev value : Val
  value = vstruct (vcons (vstruct vnil) vnil)

  module _ {M : Type 1} {𝓤 : Ura M} (𝓛 : Logic 𝓤) (mem : Memory → SProp 𝓤) (run : Routine → Fun 𝓤) where
    open 𝓛 use {H}

    abbrev held : Clauses 𝓤 ended
    held = f.clauses T 𝓛 mem run

    walk : (C : Calls 𝓤 H) (Λ : Loops 𝓤 H) (z : (walk_of 𝓛 ended stayed held).Ghost)
        → ent 𝓤 ((walk_of 𝓛 ended stayed held).pre z)
        (WpFn 𝓤 H C Λ function ((walk_of 𝓛 ended stayed held).args z) ((walk_of 𝓛 ended stayed held).post z))
    walk C Λ z =
        qed 𝓛 ((raw (alive 𝓛 ended.signature z.0.0 z.0.1) ⊛ ‵
        (owns (types_at ended.signature.params z.0.0) z.0.3 z.0.4))
        ∷ raw ((held z.0.0 z.0.3).requires z.1) ∷ []) ∵
        keep ! (0 ∷ []) $ split ! $ keep ! (0 ∷ []) $ enter ! C Λ function [] ((walk_of 𝓛 ended stayed held).post z) $
        alloc_all ! (λ l. pass_all ! refl tt $ sets ! (agg ! (no_more !)) refl (tt, tt) $
        sets ! (agg ! (and_then ! (get ! refl) (no_more !))) refl (tt, (tt, tt)) $
        returns ! (look_at ! 0 refl) $ free_all ! refl $
        suffices ! _ (ends_at 𝓛 ended stayed held z value shown tt tt) $ says ! refl $
        pure_i ! ((made.the_row (param 0 T)).own_val shown (value ∷ [])) ((λ vs. (tt, ((λ us. (tt, tt)), tt))), tt)
        (((vstruct vnil ∷ [], tt), (refl, ((tt, (refl, tt)), tt))), tt) $
        move ! (1 ∷ 2 ∷ 0 ∷ []) $ done !)

  meets : {M : Type 1} {𝓤 : Ura M} (𝓛 : Logic 𝓤) (mem : Memory → SProp 𝓤) (run : Routine → Fun 𝓤) (𝓣 : Tables 𝓤 𝓛.H)
      → Meets 𝓛 ended.signature (WpFn 𝓤 𝓛.H 𝓣.C 𝓣.Λ function) (closing 𝓛 ended (held 𝓛 mem run))
  meets {𝓤 = 𝓤} 𝓛 mem run 𝓣 =
      walk_Meets 𝓛 ended stayed tt (held 𝓛 mem run) (WpFn 𝓤 𝓛.H 𝓣.C 𝓣.Λ function)
      (WpFn-mono 𝓤 𝓛.H 𝓛.laws 𝓣 function) (walk 𝓛 mem run 𝓣.C 𝓣.Λ)

pub new_spec : {M : Type 1} → stated.statement M
unfolding tables_of
new_spec 𝓤 𝓛 𝓜 𝓡 wired T laws =
    let 𝓣 : Tables 𝓤 𝓛.H = tables_of 𝓤 𝓛.H 𝓜 (tables 𝓤 𝓛.H 𝓜 𝓡 𝓡.env) in
    entered 𝓤 𝓛.H (triple_of 𝓛 (ended T).signature (closing 𝓛 (ended T) (held T 𝓛 𝓜.mem 𝓡.returns))) 𝓣.C 𝓣.Λ
    (key (layout T)) (function T) (code.unfolded 𝓤 𝓛.H 𝓜 𝓡 wired (T, tt)) (meets T 𝓛 𝓜.mem 𝓡.returns 𝓣)

-- A fault has a kind, an offset and a problem, and nothing else is one.
use Rattle.std.proofs.Common.{refl, sym, ap, ◌∙◌, ◌++◌, ◌∷◌}
use Rattle.yaml_lines.proofs.Exits.{absent, present, refused, passed}
use Rattle.yaml_lines.proofs.FaultLaws.{no_space, no_kind, no_offset, no_problem}
use Rattle.yaml_lines.proofs.line.fault.parse.Goals as goal

pub returns-in_err-name-clause-says : goal.returns-in_err-name-clause-says
returns-in_err-name-clause-says c =
    refused _ _ c.from_residual.ensures.0 (no_space _
    (absent _ _ _ _ _ c.cut.ensures c.ok_or.ensures.ok_part c.in_err-name.was))

pub returns-in_err-kind-clause-says : goal.returns-in_err-kind-clause-says
returns-in_err-kind-clause-says c =
    let name = present _ _ _ _ _ c.cut.ensures c.ok_or.ensures.ok_part c.in_ok-name.was in
    refused _ _ c.from_residual-in_err-kind.ensures.0
    (no_kind _ _ _ name.0 name.1 (absent _ _ _ _ _ c.kind_named.ensures c.ok_or-2.ensures.ok_part c.in_err-kind.was))

pub returns-in_err-offset-clause-says : goal.returns-in_err-offset-clause-says
returns-in_err-offset-clause-says c =
    let name = present _ _ _ _ _ c.cut.ensures c.ok_or.ensures.ok_part c.in_ok-name.was in
    refused _ _ c.from_residual-in_err-offset.ensures.0
    (no_offset _ _ _ name.0 name.1 (absent _ _ _ _ _ c.number_before.ensures c.ok_or-3.ensures.ok_part
    c.in_err-offset.was))

pub returns-in_err-problem-clause-says : goal.returns-in_err-problem-clause-says
returns-in_err-problem-clause-says c =
    let name = present _ _ _ _ _ c.cut.ensures c.ok_or.ensures.ok_part c.in_ok-name.was in
    let offset = present _ _ _ _ _ c.number_before.ensures c.ok_or-3.ensures.ok_part c.in_ok-offset.was in
    passed _ _ _ c.from_residual-in_err-problem.ensures.1 (λ bad.
    no_problem _ _ _ _ _ name.0 name.1 offset (λ bytes s u. c.in_err-problem.ensures bad bytes (s, u)))

pub returns-clause-says : goal.returns-clause-says
returns-clause-says c =
    let name = present _ _ _ _ _ c.cut.ensures c.ok_or.ensures.ok_part c.in_ok-name.was in
    let kind = present _ _ _ _ _ c.kind_named.ensures c.ok_or-2.ensures.ok_part c.in_ok-kind.was in
    let offset = present _ _ _ _ _ c.number_before.ensures c.ok_or-3.ensures.ok_part c.in_ok-offset.was in
    rw c.new.ensures (record {
      behind_kind = c.in_ok-name.text.now;
      behind_offset = c.in_ok-offset.text.now;
      split = name.0 ∙ ap (λ n. n ++ 32 ∷ c.in_ok-name.text.now) (sym kind);
      has_offset = offset;
      spelled = c.in_ok-problem.ensures.0;
      is_text = c.in_ok-problem.ensures.1;
      no_context = refl;
      same_mark = refl;
    })

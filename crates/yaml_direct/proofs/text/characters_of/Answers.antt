-- A text of the grammar's characters has no others.
use Rattle.std.proofs.Common.{sym, ◌∙◌}
use Rattle.std.proofs.lemmas.Bool.{false≢true, and_parts}
use Rattle.std.proofs.lemmas.Str.{IsUtf8-from_is_utf8}
use Rattle.yaml_direct.proofs.CharacterLaws.{always_ok}
use Rattle.yaml_direct.proofs.text.characters_of.Goals as goal
use Rattle.yaml_direct.proofs.text.characters_of.Goals.{
  else-has_allowed_ascii-via-then-has_allowed_ascii+then-is_ok+else-not-has_forbidden,
  else-has_allowed_ascii-via-then-has_allowed_ascii+else-is_ok,
  else-has_allowed_ascii-via-else-has_allowed_ascii,
}

pub returns-else-has_allowed_ascii : goal.returns-else-has_allowed_ascii
returns-else-has_allowed_ascii c = record {
  other = λ h _. elim c.else-has_allowed_ascii.branch [
    | else-has_allowed_ascii-via-then-has_allowed_ascii+then-is_ok+else-not-has_forbidden w ↦
        false≢true (sym (w.has_forbidden.ensures h) ∙ w.if-not-has_forbidden.false)
    | else-has_allowed_ascii-via-then-has_allowed_ascii+else-is_ok w ↦
        let utf8 = IsUtf8-from_is_utf8 c.args.text.now (and_parts _ _ h).0 in
        let read = always_ok _ _ _ w.from_utf8.result w.from_utf8.ensures.cases utf8 in
        false≢true (sym w.if-is_ok.false ∙ (w.is_ok.ensures.value ∙ read))
    | else-has_allowed_ascii-via-else-has_allowed_ascii w ↦
        false≢true (sym w.if-has_allowed_ascii.false ∙ c.has_allowed_ascii.ensures h)
  ];
}

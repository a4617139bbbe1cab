-- The part that is UTF-8 is searched.
use Rattle.std.proofs.Common.{◌≡◌, ℕ, Option, MatchOption, sym, subst, take, ◌∙◌}
use Rattle.std.specs.Str.{IsValidUpTo}
use Rattle.yaml_scan.specs.AllowedText.{IsAllowed, IsAllowedUpTo}
use Rattle.yaml_scan.proofs.Characters.{in_front}
use Rattle.yaml_scan.proofs.reader.allowed_len.Goals as goal

pub returns : goal.returns
returns c =
    let text = c.args.text.now in
    let valid = c.valid_up_to-valid.result in
    let part = c.first_forbidden-in-Ok-from_utf8.result in
    let v = subst (IsValidUpTo text) (sym c.valid_up_to-valid.ensures) c.in-Err.ensures.cases.1 in
    let found = subst (λ front. MatchOption part (IsAllowed front) (IsAllowedUpTo front))
    c.in-Ok-from_utf8.ensures.cases.0 c.first_forbidden-in-Ok-from_utf8.ensures in
    subst (IsAllowedUpTo text) (sym c.unwrap_or.ensures) (in_front text valid v part found)

-- What a serializer holds behind a refused call.
use Rattle.std.proofs.Common.{◌≡◌, [], ap, ◌∙◌}
use Rattle.yaml_write.specs.Writing.{Writing}

-- what is as it was has the same collections open
pub same_opened : (old new : Writing) → new ≡ old → old.opened ≡ [] → new.opened ≡ []
same_opened old new same none = ap (λ w. w.opened) same ∙ none

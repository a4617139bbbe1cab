-- A tag begins with a text where the text is the tag's first bytes.
use Rattle.std.proofs.lemmas.Bool.Decides.{Decides-eqb}
use Rattle.std.proofs.lemmas.Slice.Eq.{starts_is}
use Rattle.yaml_base.proofs.tag.Tag.starts_with.Goals as goal

pub returns : goal.returns
returns c =
    let prefix = starts_is Decides-eqb c.deref.result.now c.as_bytes.result.now _ c.starts_with.ensures.value in
    let told = rw c.deref.ensures.value at rw c.as_bytes.ensures.value at prefix in
    rw (← c.self.view_is) (λ begins. (_, told.0 begins), λ split. told.1 split.0 split.1)

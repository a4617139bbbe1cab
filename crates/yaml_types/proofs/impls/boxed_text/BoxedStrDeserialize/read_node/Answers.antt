use Rattle.std.proofs.Common.{◌+◌, ◌≡◌, refl, rules}
use Rattle.std.specs.Box.{boxed_str_bytes}
use Rattle.yaml_shape.specs.PlainData.{text_data}
use Rattle.yaml_shape.specs.PlainShape.{str_shape}
use Rattle.yaml_types.specs.Texts.{BuiltText}
use Rattle.yaml_types.proofs.LeafReads.{leaf_means}
use Rattle.yaml_types.proofs.impls.boxed_text.BoxedStrDeserialize.read_node.Goals as goal

pub returns : goal.returns
returns c =
    let (lent, gives) = c.in_ok-text.ensures.gives in
    let same : boxed_str_bytes c.in_ok-found.found ≡ c.in_ok-text.text.now = search rules in
    record {
      read = leaf_means (λ d s. BuiltText d (boxed_str_bytes s)) c.args.tape.now c.args.place.now
          (c.args.place.now + 1) c.args._depth c.in_ok-found.found str_shape (text_data lent c.in_ok-text.text.now) tt
          refl (λ w. refl) gives refl same;
    }

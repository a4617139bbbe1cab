-- What is allowed as a text is so of a reader's, where it is known what that gives.
use Rattle.yaml_scan.specs.AllowedText.{IsAllowed}
use Rattle.yaml.proofs.ReaderTexts.{of_reader}
use Rattle.yaml.proofs.merging.from_reader_merging.Goals as goal

pub returns-in-Ok-from_slice_owned_merging-clause-allowed : goal.returns-in-Ok-from_slice_owned_merging-clause-allowed
returns-in-Ok-from_slice_owned_merging-clause-allowed g c =
    let allowed : (IsAllowed c.in-Ok.text.items → ⊥) → ⊥ =
    rw c.as_slice.ensures.value at c.in-Ok-from_slice_owned_merging.ensures.allowed in
    of_reader (g.R.Read.remaining c.args.reader.now) c.in-Ok.text.items (λ text. (IsAllowed text → ⊥) → ⊥)
    c.in-Ok.ensures.bytes allowed

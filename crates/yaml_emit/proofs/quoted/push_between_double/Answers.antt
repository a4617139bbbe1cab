-- Each turn prints the next letter, and the last leaves none.
use Rattle.std.proofs.Common.{◌∙◌, arith, false, refl, sym}
use Rattle.std.proofs.lemmas.List.{append-nil}
use Rattle.std.proofs.lemmas.Iterator.{YieldsList-from_chars}
use Rattle.std.proofs.lemmas.Iterator.Consumers.{YieldsList-turn, YieldsList-end}
use Rattle.std.specs.Str.{chars}
use Rattle.std.specs.List.{flat_map}
use Rattle.yaml_emit.specs.PrintedTexts.{escaped_character}
use Rattle.yaml_emit.proofs.Letters.{piece_kept, piece_end}
use Rattle.yaml_emit.proofs.quoted.push_between_double.Goals as goal

pub loop-letter-preserved : goal.loop-letter-preserved
loop-letter-preserved c =
    let t = YieldsList-turn (YieldsList-from_chars c.args.text.now c.utf8.text cc) c.loop-letter.yielded _
    c.loop-letter.yielded_by _ _ c.in-Some.letter c.in-Some.is c.next.ensures.steps in
    piece_kept (λ _. flat_map escaped_character) (λ _. escaped_character) (λ _ _ _. refl) (chars c.args.text.now)
    c.loop-letter.yielded c.in-Some.letter false _ _ _ c.in_ok-push_escaped.ensures c.loop-letter.invariant t

pub returns : goal.returns
returns c =
    let t = YieldsList-end (YieldsList-from_chars c.args.text.now c.utf8.text cc) c.loop-letter.yielded _
    c.loop-letter.yielded_by _ _ c.in-None.is c.next.ensures.steps in
    sym (append-nil _)
    ∙ piece_end (λ _. flat_map escaped_character) (chars c.args.text.now) _ false _ _ c.loop-letter.invariant
    (omega (arith, t.1))

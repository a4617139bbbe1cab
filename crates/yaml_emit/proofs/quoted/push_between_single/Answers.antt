-- Each turn prints the next letter, and the last leaves none.
use Rattle.std.proofs.Common.{◌∙◌, arith, refl}
use Rattle.std.proofs.lemmas.Iterator.{YieldsList-from_chars}
use Rattle.std.proofs.lemmas.Iterator.Consumers.{YieldsList-turn, YieldsList-end}
use Rattle.std.specs.Str.{chars}
use Rattle.yaml_emit.specs.PrintedTexts.{single_piece, single_rest}
use Rattle.yaml_emit.proofs.Letters.{piece_kept, piece_end}
use Rattle.yaml_emit.proofs.quoted.push_between_single.Goals as goal

pub loop-letter-preserved : goal.loop-letter-preserved
loop-letter-preserved c =
    let t = YieldsList-turn (YieldsList-from_chars c.args.text.now c.utf8.text cc) c.loop-letter.yielded _
    c.loop-letter.yielded_by _ _ c.in-Some.letter c.in-Some.is c.next.ensures.steps in
    piece_kept (single_rest c.args.indent) (single_piece c.args.indent) (λ _ _ _. refl) (chars c.args.text.now)
    c.loop-letter.yielded c.in-Some.letter c.loop-letter.broken _ _ _ c.in_ok-push_single_piece.ensures
    c.loop-letter.invariant t

pub returns : goal.returns
returns c =
    let t = YieldsList-end (YieldsList-from_chars c.args.text.now c.utf8.text cc) c.loop-letter.yielded _
    c.loop-letter.yielded_by _ _ c.in-None.is c.next.ensures.steps in
    c.in_ok-push_blanks_if.ensures
    ∙ piece_end (single_rest c.args.indent) (chars c.args.text.now) _ c.loop-letter.broken _ _ c.loop-letter.invariant
    (omega (arith, t.1))

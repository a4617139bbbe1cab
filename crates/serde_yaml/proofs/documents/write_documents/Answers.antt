-- Each document stands behind those before it, and the first refusal ends the loop.
use Rattle.std.proofs.Common.{◌≡◌, ◌++◌, ◌∷◌, ◌∙◌, [], ap, arith, false, rules, subst, sym, take, take_all}
use Rattle.std.proofs.lemmas.List.{take_more}
use Rattle.yaml_base.specs.Answer.{is_memory}
use Rattle.serde_yaml.specs.WrittenDocuments.{IsFirstRefusal}
use Rattle.serde_yaml.proofs.WrittenDocuments.{AreTaken, none_taken, one_taken, first_refused}
use Rattle.serde_yaml.proofs.documents.write_documents.Goals as goal

pub loop-value-init : goal.loop-value-init
loop-value-init g c = none_taken g.T.Serialize.start g.T.Serialize.written g.T.Serialize.kept c.args.out.now

pub loop-value-preserved : goal.loop-value-preserved
loop-value-preserved g c =
    let xs = c.args.values.now in
    let i = c.loop-value.value-index in
    let x = c.value-item.result in
    subst (λ ys. AreTaken g.T.Serialize.start g.T.Serialize.written g.T.Serialize.kept c.args.out.now ys
    c.write_document.new.out)
    (sym (take_more xs i x c.loop-value-test.true ∙ ap (λ y. take i xs ++ y ∷ []) (sym c.value-item.is)))
    (one_taken g.T.Serialize.start g.T.Serialize.written g.T.Serialize.kept c.args.out.now c.args.schema.now
    c.args.id.0 (take i xs) c.loop-value.out c.write_document.new.out x c.requires.table c.requires.number
    c.loop-value.invariant c.in_ok-write_document.ensures.taken c.in_ok-write_document.ensures.kept
    c.in_ok-write_document.ensures.held)

pub returns-in_err-write_document-clause-refused : goal.returns-in_err-write_document-clause-refused
returns-in_err-write_document-clause-refused g c =
    let told : is_memory c.in_err-write_document.field-0.0 ≡ false
    → IsFirstRefusal g.T.Serialize.start g.T.Serialize.written g.T.Serialize.unwritten c.args.values.now
    c.in_err-write_document.field-0.0 =
    first_refused g.T.Serialize.start g.T.Serialize.written g.T.Serialize.unwritten c.args.schema.now c.args.id.0
    c.args.values.now c.loop-value.value-index c.value-item.result c.in_err-write_document.field-0.0
    c.requires.table c.requires.number c.requires.valid c.loop-value-test.true c.value-item.is
    c.loop-value.invariant c.in_err-write_document.ensures.refused in
    search (rules, told)

pub returns : goal.returns
returns g c =
    let all : AreTaken g.T.Serialize.start g.T.Serialize.written g.T.Serialize.kept c.args.out.now
    c.args.values.now c.loop-value.out =
    subst (λ ys. AreTaken g.T.Serialize.start g.T.Serialize.written g.T.Serialize.kept c.args.out.now ys
    c.loop-value.out)
    (take_all c.loop-value.value-index c.args.values.now c.loop-value-test.false) c.loop-value.invariant in
    record {
      taken = (all.roots, all.all_written, all.taken);
      kept = all.kept;
      held = all.held;
      refused = tt;
    }

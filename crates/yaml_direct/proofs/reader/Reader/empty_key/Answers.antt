-- Names alone are a key.
use Rattle.std.proofs.Common.{◌<◌, ◌≡◌, ◌∙◌, ap, arith, false, subst, sym, true}
use Rattle.yaml_direct.specs.Held.{names_of}
use Rattle.yaml_direct.proofs.KeyMisses.{ends_far, key_none, names_no_key}
use Rattle.yaml_direct.proofs.KeyReads.{key_at, names_key_read}
use Rattle.yaml_direct.proofs.reader.Reader.empty_key.Goals as goal
use Rattle.yaml_grammar.specs.Bytes.{is_mark}
use Rattle.yaml_grammar.specs.Names.{names_at}

pub returns-clause-found : goal.returns-clause-found
returns-clause-found c = λ text depth of begins names some_name early ends some.
    let old = c.args.self.now in
    let new = c.push_text.new.self in
    key_at text old new depth c.args.from c.args.colon c.push_text.result begins (c.push_text.ensures.there some)
    (names_key_read text old new depth c.args.end c.args.colon of (ap (names_at text false) begins ∙ names)
    (subst (λ i. i < c.args.end) (sym begins) some_name) early (c.push_text.ensures.added some) ends
    (omega (arith, begins, c.if-colon-from.false)))

pub returns-then-colon-from-clause-missed : goal.returns-then-colon-from-clause-missed
returns-then-colon-from-clause-missed c = λ text depth of begins names ends failed fed.
    let from = c.args.from in
    key_none text depth from
    (names_no_key text depth from c.args.end (names_of c.args.self.now) names
    (subst (λ q. is_mark text 58 q ≡ true) ends.there ends.mark)
    (ends_far text from c.args.end c.args.colon ends.there (omega (arith, c.if-colon-from.true))))

-- By the kind of the leaf.
use Rattle.std.proofs.Common.{◌≡◌, ◌∙◌, None, arith, refl, subst, sym}
use Rattle.std.proofs.lemmas.Bool.{false≢true}
use Rattle.yaml_direct.specs.Held.{names_of}
use Rattle.yaml_direct.specs.Quoted.{quoted_from}
use Rattle.yaml_direct.proofs.AddedLeaves.{alias_leaf, named_alias, none_leaf, quoted_none}
use Rattle.yaml_direct.proofs.LeafKinds.{escaped_is, leaf_alias, leaf_in_quotes, leaf_open, leaf_plain, leaf_quoted}
use Rattle.yaml_direct.proofs.LeafKinds.{quoted_no_alias, quoted_no_plain, whole_quoted}
use Rattle.yaml_direct.proofs.ReaderLaws.{no_such_place}
use Rattle.yaml_direct.proofs.reader.Reader.push_leaf.Goals as goal

pub returns-in-Plain-clause-found : goal.returns-in-Plain-clause-found
returns-in-Plain-clause-found c =
    λ context i l late some. leaf_plain c.args.self.now c.push_text.new.self context i c.args.leaf c.in-Plain.is l late
    (c.push_text.ensures.added some)

pub returns-in-Plain-clause-missed : goal.returns-in-Plain-clause-missed
returns-in-Plain-clause-missed c =
    λ context i l none fed. absurd (false≢true (sym fed ∙ c.push_text.ensures.starved none
    (λ z. no_such_place c.args.self.now c.args.leaf.end c.requires.within z)))

pub returns-in-Quoted-clause-found : goal.returns-in-Quoted-clause-found
returns-in-Quoted-clause-found c =
    let self = c.args.self.now in
    let new = c.push_text-in-Quoted.new.self in
    let leaf = c.args.leaf in
    let part = c.requires.part in
    λ context i l late some.
    let q = leaf_in_quotes self.text.now context i leaf (quoted_no_plain leaf.kind c.in-Quoted.quote c.in-Quoted.is)
    (quoted_no_alias leaf.kind c.in-Quoted.quote c.in-Quoted.is) l in
    leaf_quoted self new context q.quote i leaf q.here q.leaf_is.begins (omega (arith, part.0, part.1)) late
    (whole_quoted self new q.quote c.in-Quoted.quote leaf c.style.result c.in-Quoted.is q.leaf_is.kind c.style.ensures
    (c.push_text-in-Quoted.ensures.added some))

pub returns-in-Quoted-clause-missed : goal.returns-in-Quoted-clause-missed
returns-in-Quoted-clause-missed c =
    λ context i l none fed. absurd (false≢true (sym fed ∙ c.push_text-in-Quoted.ensures.starved none
    (λ z. no_such_place c.args.self.now c.args.leaf.end c.requires.within z)))

pub returns-in-Escaped-clause-found : goal.returns-in-Escaped-clause-found
returns-in-Escaped-clause-found c =
    let self = c.args.self.now in
    let leaf = c.args.leaf in
    let part = c.requires.part in
    let q = c.in-Escaped.quote in
    λ context i l late some.
    let e = escaped_is self.text.now context i leaf q c.in-Escaped.is l in
    leaf_quoted self c.push_escaped.new.self context q i leaf e.here e.begins (omega (arith, part.0, part.1)) late
    (c.push_escaped.ensures.found e.closes e.ends some)

pub returns-in-Escaped-clause-missed : goal.returns-in-Escaped-clause-missed
returns-in-Escaped-clause-missed c =
    let self = c.args.self.now in
    let leaf = c.args.leaf in
    let q = c.in-Escaped.quote in
    λ context i l none fed.
    let e = escaped_is self.text.now context i leaf q c.in-Escaped.is l in
    none_leaf self.text.now context (names_of self) i (quoted_none self.text.now context q i e.here
    (subst (λ b. quoted_from self.text.now q b ≡ None) e.begins
    (c.push_escaped.ensures.missed e.closes (λ z. no_such_place self leaf.end c.requires.within z) none fed)))

pub returns-in-Alias-clause-found : goal.returns-in-Alias-clause-found
returns-in-Alias-clause-found c =
    let self = c.args.self.now in
    let alias = c.push_alias.ensures in
    λ context i l late some. alias_leaf self c.push_alias.new.self context i c.args.leaf.end _
    (leaf_alias self.text.now context i c.args.leaf c.in-Alias.is l) late (alias.unnamed some).0
    (alias.unnamed some).1 (alias.added some)

pub returns-in-Alias-clause-missed : goal.returns-in-Alias-clause-missed
returns-in-Alias-clause-missed c =
    let self = c.args.self.now in
    λ context i l none fed. named_alias self.text.now context (names_of self) i c.args.leaf.end _
    (leaf_alias self.text.now context i c.args.leaf c.in-Alias.is l) (c.push_alias.ensures.missed none fed)

pub returns-in-Open-clause-found : goal.returns-in-Open-clause-found
returns-in-Open-clause-found c = λ context i l late some. absurd (some refl)

pub returns-in-Open-clause-missed : goal.returns-in-Open-clause-missed
returns-in-Open-clause-missed c =
    λ context i l none fed. absurd (leaf_open c.args.self.now.text.now context i c.args.leaf _ c.in-Open.is l)

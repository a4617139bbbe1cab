use Rattle.std.proofs.Common.{◌≡◌, to_z, of_z, rules, arith}
use Rattle.std.proofs.lemmas.Grind.{common_steps}
use Rattle.std.specs.Int.{w128}
use Rattle.yaml_base.proofs.FirstLookLaws.{begins-string}
use Rattle.yaml_base.proofs.KindLaws.{has-at, only-at}
use Rattle.yaml_base.specs.Kinds.{kind_of}
use Rattle.yaml_base.specs.declared.resolver.kind.Kind.TheVariants.{Unsigned, Signed, Float, Str}
use Rattle.yaml_base.proofs.resolver.kind.resolve.Goals as goal

pub returns-then-begins_as_string : goal.returns-then-begins_as_string
returns-then-begins_as_string c =
    let e : Str ≡ kind_of c.args.scalar.now = begins-string c.args.scalar.now (search rules) in
    record { value = e; kind = has-at c.args.scalar.now _ e; only = only-at c.args.scalar.now _ e }

pub returns-in-Some-unsigned : goal.returns-in-Some-unsigned
returns-in-Some-unsigned c =
    let e : Unsigned c.in-Some-unsigned.value ≡ kind_of c.args.scalar.now =
    first_of (search rules, grind (arith, common_steps)) in
    record { value = e; kind = has-at c.args.scalar.now _ e; only = only-at c.args.scalar.now _ e }

pub returns-in-Some-integer : goal.returns-in-Some-integer
returns-in-Some-integer c =
    let e : Signed (to_z w128 (of_z w128 c.in-Some-integer.value)) ≡ kind_of c.args.scalar.now =
    first_of (search rules, grind (arith, common_steps)) in
    record { value = e; kind = has-at c.args.scalar.now _ e; only = only-at c.args.scalar.now _ e }

pub returns-then-not-digits_but_not_number : goal.returns-then-not-digits_but_not_number
returns-then-not-digits_but_not_number c =
    let e : Float ≡ kind_of c.args.scalar.now = first_of (search rules, grind (arith, common_steps)) in
    record { value = e; kind = has-at c.args.scalar.now _ e; only = only-at c.args.scalar.now _ e }

pub returns : goal.returns
returns c =
    let e : Str ≡ kind_of c.args.scalar.now = first_of (search rules, grind (arith, common_steps)) in
    record { value = e; kind = has-at c.args.scalar.now _ e; only = only-at c.args.scalar.now _ e }

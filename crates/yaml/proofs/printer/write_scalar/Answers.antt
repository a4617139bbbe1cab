-- No document begins in a scalar.
use Rattle.std.proofs.Common.{decimal, rules}
use Rattle.std.specs.Char.{encode_utf8}
use Rattle.yaml.proofs.DocumentCounts.{node_uncounted}
use Rattle.yaml_base.specs.EmitEvents.{tag_bytes}
use Rattle.yaml_base.specs.EmitTree.{emit_scalar_node}
use Rattle.yaml_base.specs.declared.emitter.AskedStyle.TheVariants.{SingleQuoted}
use Rattle.yaml_write.specs.Outcomes.{null_node, number_node, plain_node, string_node}
use Rattle.yaml_write.specs.WrittenValue.{truth_text}
use Rattle.yaml.proofs.printer.write_scalar.Goals as goal

pub returns-in-Null : goal.returns-in-Null
returns-in-Null c =
    node_uncounted (null_node (tag_bytes c.args.tag)) c.args.out.now
    c.null.new.self c.null.result c.null.ensures.added c.null.ensures.err

pub returns-in-Bool : goal.returns-in-Bool
returns-in-Bool c =
    node_uncounted (plain_node (tag_bytes c.args.tag) (truth_text c.in-Bool.v)) c.args.out.now
    c.boolean.new.self c.boolean.result c.boolean.ensures.added c.boolean.ensures.err

pub returns-in-Signed : goal.returns-in-Signed
returns-in-Signed c = search (rules, node_uncounted)

pub returns-in-Unsigned : goal.returns-in-Unsigned
returns-in-Unsigned c =
    node_uncounted (plain_node (tag_bytes c.args.tag) (decimal c.in-Unsigned.v)) c.args.out.now
    c.integer-in-Unsigned.new.self c.integer-in-Unsigned.result c.integer-in-Unsigned.ensures.added
    c.integer-in-Unsigned.ensures.err

pub returns-in-LongSigned : goal.returns-in-LongSigned
returns-in-LongSigned c = search (rules, node_uncounted)

pub returns-in-LongUnsigned : goal.returns-in-LongUnsigned
returns-in-LongUnsigned c =
    node_uncounted (plain_node (tag_bytes c.args.tag) (decimal c.in-LongUnsigned.v)) c.args.out.now
    c.integer-in-LongUnsigned.new.self c.integer-in-LongUnsigned.result c.integer-in-LongUnsigned.ensures.added
    c.integer-in-LongUnsigned.ensures.err

pub returns-in-Char : goal.returns-in-Char
returns-in-Char c =
    node_uncounted (emit_scalar_node (tag_bytes c.args.tag) (encode_utf8 c.in-Char.v) SingleQuoted) c.args.out.now
    c.character.new.self c.character.result c.character.ensures.added c.character.ensures.err

pub returns-in-Str : goal.returns-in-Str
returns-in-Str c =
    node_uncounted (string_node (tag_bytes c.args.tag) c.in-Str.v.now) c.args.out.now
    c.string.new.self c.string.result c.string.ensures.added c.string.ensures.err

pub returns-in-Number : goal.returns-in-Number
returns-in-Number c =
    node_uncounted (number_node (tag_bytes c.args.tag) c.in-Number.v.now) c.args.out.now
    c.number.new.self c.number.result c.number.ensures.added c.number.ensures.err

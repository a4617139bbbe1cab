-- Three documents: their text is computed, and they may be printed.
use Rattle.std.proofs.Common.{◌≡◌, ◌≢◌, ℕ, zero, suc, ◌<◌, ◌==◌, Bool, false, true, refl, ap, arith, List, [], ◌∷◌}
use Rattle.std.proofs.Common.{codes}
use Rattle.std.proofs.Common.{get_or, nat_eq, nat_lt, None, Some}
use Rattle.std.proofs.lemmas.Bool.{and_parts, false≢true, ltb-true}
use Rattle.std.proofs.lemmas.Str.{IsUtf8-from_ascii}
use Rattle.std.specs.List.{list_all, list_any}
use Rattle.std.specs.Str.{IsUtf8, chars}
use lib.Utf8.{encode}
use Rattle.yaml_base.specs.EmitTree.{emit_scalar_node}
use Rattle.yaml_base.specs.declared.emitter.AskedStyle.{AskedStyle}
use Rattle.yaml_base.specs.declared.emitter.AskedStyle.TheVariants as asked
use Rattle.yaml_emit.specs.Places.{root_place}
use Rattle.yaml_emit.specs.StreamTexts.{node_text, stream_text}
use Rattle.yaml_emit.specs.declared.open.Lead.TheVariants.{Fresh}
use Rattle.yaml_grammar.specs.Bytes.{at}
use Rattle.yaml_printed.specs.Examples.{ThreeArePrinted, collections, nothing_at_all, printed_three, scalars}
use Rattle.yaml_printed.specs.Printable.{IsPrintable, IsTag, a_mapping, a_pair, a_root, a_scalar, a_sequence}
use Rattle.yaml_printed.specs.Printable.{a_tag, an_item, may_ask, no_items, no_pairs, no_roots, no_tag}

text_is : stream_text (scalars ∷ collections ∷ nothing_at_all ∷ []) ≡ printed_three
unfolding chars encode
text_is = refl

-- a text of ASCII
abbrev is_low : ℕ → Bool
is_low c = nat_lt c 128

low_at : (t : List ℕ) → list_all is_low t ≡ true → (i : ℕ) → get_or t i 0 < 128
low_at [] h i = omega arith
low_at (c ∷ cs) h zero = ltb-true c 128 (and_parts (is_low c) (list_all is_low cs) h).0
low_at (c ∷ cs) h (suc i) = low_at cs (and_parts (is_low c) (list_all is_low cs) h).1 i

ascii : (t : List ℕ) → list_all is_low t ≡ true → IsUtf8 t
ascii t h = IsUtf8-from_ascii t (low_at t h)

leaf : {d : ℕ} {key : Bool} (style : AskedStyle) (t : List ℕ) → list_all is_low t ≡ true → may_ask style key t ≡ true
    → IsPrintable d key (emit_scalar_node None t style)
leaf style t h may = a_scalar no_tag (ascii t h) may

tagged : (c : ℕ) (cs : List ℕ) → list_all is_low (c ∷ cs) ≡ true → list_any (nat_eq 0) (c ∷ cs) ≡ false
    → IsTag (Some (c ∷ cs))
tagged c cs h z = a_tag (ascii (c ∷ cs) h) z

plain_may : may_ask asked.Plain false (codes "web 2") ≡ true
unfolding chars
plain_may = refl

scalars_may : IsPrintable 128 false scalars
scalars_may =
    a_mapping {d = 127} no_tag (a_pair (leaf asked.Any (codes "name") refl refl)
    (leaf asked.Plain (codes "web 2") refl plain_may)
    (a_pair (leaf asked.Any (codes "on") refl refl) (leaf asked.SingleQuoted (codes "yes") refl refl)
    (a_pair (leaf asked.Any (codes "it's") refl refl) (leaf asked.SingleQuoted (codes "it's\n\nso") refl refl)
    (a_pair (leaf asked.Any (codes "a: b") refl refl) (leaf asked.Any (codes "\tx\\") refl refl)
    (a_pair (leaf asked.Any (codes "") refl refl) (leaf asked.Any (codes "") refl refl)
    (a_pair (leaf asked.Any (codes "clip") refl refl) (leaf asked.Literal (codes "one\n\n  two\n") refl refl)
    (a_pair (leaf asked.Any (codes "strip") refl refl) (leaf asked.Literal (codes " in") refl refl)
    (a_pair (leaf asked.Any (codes "keep") refl refl) (leaf asked.Literal (codes "end\n\n") refl refl) no_pairs))))))))

collections_may : IsPrintable 128 false collections
collections_may =
    a_sequence {d = 127} no_tag (an_item (a_sequence {d = 126} no_tag (an_item (leaf asked.Any (codes "x") refl refl)
    (an_item (a_sequence {d = 125} no_tag no_items) no_items)))
    (an_item (a_mapping {d = 126} no_tag (a_pair (a_sequence {d = 125} no_tag
    (an_item (leaf asked.Any (codes "k") refl refl) no_items))
    (a_sequence {d = 125} no_tag (an_item (leaf asked.Any (codes "v") refl refl) no_items))
    (a_pair (leaf asked.Any (codes "own") refl refl) (a_sequence {d = 125} no_tag
    (an_item (leaf asked.Any (codes "w") refl refl)
    no_items)) no_pairs)))
    (an_item (a_mapping {d = 126} (tagged 33 (codes "m") refl refl) (a_pair (a_mapping {d = 125} no_tag no_pairs)
    (a_scalar (tagged 116 (codes "ag:yaml.org,2002:int") refl refl) (ascii (codes "7") refl) refl)
    (a_pair (leaf asked.Any (codes "s") refl refl) (a_sequence {d = 125} (tagged 120 (codes " y") refl refl)
    (an_item (leaf asked.Any (codes "z") refl refl) no_items)) no_pairs))) no_items)))

first_is_some : node_text (root_place Fresh) scalars ≢ 10 ∷ []
unfolding chars encode
first_is_some e = false≢true (ap (λ l. at l 0 == 10) e)

pub three_are_printed : ThreeArePrinted
three_are_printed = record {
  text = text_is;
  may = record {
    roots = scalars ∷ collections ∷ nothing_at_all ∷ [];
    stream = refl;
    each = a_root scalars_may (a_root collections_may (a_root (leaf asked.Any (codes "") refl refl) no_roots));
    first = first_is_some;
  };
}

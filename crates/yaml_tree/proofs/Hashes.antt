-- Equal keys have one hash.
use Rattle.std.specs.Prelude.{◌≡◌, true, false, refl}
use Rattle.std.proofs.Common.{ap}
use Rattle.std.proofs.lemmas.Bool.Decides.{Decides-int_eq}
use Rattle.std.proofs.lemmas.Slice.Eq.{bytes_eq-Decides}
use Rattle.yaml_tree.specs.Equal.{tree_eq}
use Rattle.yaml_tree.specs.Hash.{hash_of, integer_hash, text_hash, tagged_hash}
use Rattle.yaml_tree.specs.Tag.{tag_name, tag_eq}
use Rattle.yaml_tree.specs.TakeOut.{from_false, and_left, and_right}
use Rattle.yaml_tree.specs.Tree.{Tree, null, boolean, number, string, sequence, mapping, tagged}

-- equal keys have one hash
pub hash_of-equal : (a b : Tree) → tree_eq a b ≡ true → hash_of a ≡ hash_of b
hash_of-equal null null e = refl
hash_of-equal (boolean true) (boolean true) e = refl
hash_of-equal (boolean false) (boolean false) e = refl
hash_of-equal (number a) (number b) e = ap integer_hash ((Decides-int_eq a b).0 e)
hash_of-equal (string a) (string b) e = ap text_hash ((bytes_eq-Decides a b).0 e)
hash_of-equal (sequence a) (sequence b) e = refl
hash_of-equal (mapping a) (mapping b) e = refl
hash_of-equal (tagged s a) (tagged t b) e =
    let name = (bytes_eq-Decides (tag_name s) (tag_name t)).0 (and_left _ _ e) in
    let content = hash_of-equal a b (and_right (tag_eq s t) _ e) in
    λ i. tagged_hash (name i) (content i)
hash_of-equal _ _ e = from_false e

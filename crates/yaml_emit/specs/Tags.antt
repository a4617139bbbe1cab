-- What a tag is printed as.
use Rattle.std.specs.Prelude.{ℕ, ◌+◌, Bool, ◌==◌, ◌&&◌, ◌||◌, if◌then◌else◌, List, [], ◌∷◌, ◌++◌, codes, drop, length}
use Rattle.std.specs.Prelude.{nat_eq, nat_lt}
use Rattle.std.specs.List.{flat_map, starts_with}
use Rattle.yaml_emit.specs.Characters.{is_from}
use Rattle.yaml_emit.specs.PrintedTexts.{hex_digits}
use Rattle.yaml_emit.specs.declared.tag.Handle.{Handle}
use Rattle.yaml_emit.specs.declared.tag.Handle.TheVariants.{Local, Core, Verbatim}

-- the byte stands in a tag as it is: a letter or digit of ASCII, or one of `- _ . ~ * ' ( ) ; / ? : @ & = + $`
abbrev pub is_tag_byte : ℕ → Bool
is_tag_byte c = is_from 97 122 c || is_from 65 90 c || is_from 48 57 c || c == 45 || c == 95 || c == 46 || c == 126
    || c == 42 || c == 39 || c == 40 || c == 41 || c == 59 || c == 47 || c == 63 || c == 58 || c == 64 || c == 38
    || c == 61 || c == 43 || c == 36

-- a byte of a tag: as it is, or behind `%` by its digits
abbrev pub tag_byte : ℕ → List ℕ
tag_byte c = if is_tag_byte c then c ∷ [] else 37 ∷ hex_digits c

-- the tag begins with the prefix, and has more
abbrev pub goes_on : List ℕ → List ℕ → Bool
goes_on prefix tag = nat_lt (length prefix) (length tag) && starts_with nat_eq tag prefix

-- a local tag begins with `!`, one of YAML's own with their prefix; any other stands whole
abbrev pub handle_of : List ℕ → Handle
handle_of tag =
    if goes_on (codes "!") tag then Local else if goes_on (codes "tag:yaml.org,2002:") tag then Core else Verbatim

-- what stands for the beginning of the tag
abbrev pub opening : Handle → List ℕ
opening Local = codes "!"
opening Core = codes "!!"
opening Verbatim = codes "!<"

-- what follows that beginning in the tag
abbrev pub suffix_of : Handle → List ℕ → List ℕ
suffix_of Local tag = drop 1 tag
suffix_of Core tag = drop 18 tag
suffix_of Verbatim tag = tag

-- what ends the tag
abbrev pub closing : Handle → List ℕ
closing Verbatim = codes ">"
closing _ = []

-- the tag
abbrev pub printed_tag : List ℕ → List ℕ
printed_tag tag =
    opening (handle_of tag) ++ (flat_map tag_byte (suffix_of (handle_of tag) tag) ++ closing (handle_of tag))

-- how many bytes stand for the prefix of a tag that is a handle's
abbrev pub handle_len : Handle → ℕ
handle_len Local = 1
handle_len Core = 2
handle_len Verbatim = 0

-- how many bytes a tag has, where what stands for its prefix counts as that
abbrev pub tag_len : List ℕ → ℕ
tag_len tag = handle_len (handle_of tag) + length (suffix_of (handle_of tag) tag)

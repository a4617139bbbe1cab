-- What stands before a node: an anchor and a tag.
use Rattle.std.specs.Prelude.{ℕ, suc, ◌+◌, ◌-◌, ◌*◌, Bool, true, false, not, ◌==◌, ◌&&◌, ◌||◌, if◌then◌else◌, nat_eq}
use Rattle.std.specs.Prelude.{nat_lt, List, [], ◌∷◌, ◌++◌, Option, Some, None, codes, drop, slice_range}
use Rattle.std.specs.Char.{digit_value, is_ascii_alphanumeric}
use Rattle.std.specs.List.{list_any}
use Rattle.std.specs.Option.{is_none, option_and_then, option_map}
use Rattle.std.specs.Str.{is_utf8}
use Rattle.yaml_base.specs.QuotedLines.{Escape, none, backslash, digits, before}
use Rattle.yaml_grammar.specs.Bytes.{at, is_gap, is_mark, is_one_of}

-- how many of the first bytes pass a test
abbrev pub count_while : (ℕ → Bool) → List ℕ → ℕ
count_while test [] = 0
count_while test (c ∷ cs) =
    let more = suc (count_while test cs) in
    if test c then more else 0

-- a byte of an anchor: a letter or a digit of ASCII, `-` or `_`
abbrev pub is_name_byte : ℕ → Bool
is_name_byte c = is_ascii_alphanumeric c || (c == 45 || c == 95)

-- what may stand behind an anchor: a gap, and in brackets `,`, `]` and `}`
abbrev pub ends_name : (flow : Bool) → ℕ → Bool
ends_name flow c = is_gap c || (flow && is_one_of (codes ",]}") c)

-- the place behind the name that begins here; `:` as an indicator may stand behind it too
abbrev pub name_end : List ℕ → (flow : Bool) → ℕ → Option ℕ
name_end text flow i =
    let size = count_while is_name_byte (drop i text) in
    let ends = ends_name flow (at text (i + size)) || is_mark text 58 (i + size) in
    if nat_lt 0 size && ends then Some (i + size) else None

-- a byte of a tag; between angle brackets there are more
abbrev pub is_tag_byte : (whole : Bool) → ℕ → Bool
is_tag_byte whole c =
    is_name_byte c || (is_one_of (codes ";/?:@&=+$.~*'()%") c || (whole && is_one_of (codes ",[]!") c))

-- the bytes of a tag's text behind a part of an escape: `%` and two digits stand for a byte
abbrev pub decoded : Escape → List ℕ → Option (List ℕ)
decoded none [] = Some []
decoded none (c ∷ cs) =
    let behind_percent = decoded (digits 2 0) cs in
    let with_byte = before (c ∷ []) (decoded none cs) in
    if c == 37 then behind_percent else with_byte
decoded backslash bytes = None
decoded (digits left code) [] = None
decoded (digits left code) (c ∷ cs) =
    let now = 16 * code + digit_value c in
    let last = before (now ∷ []) (decoded none cs) in
    let more = decoded (digits (left - 1) now) cs in
    if not (nat_lt (digit_value c) 16) then None else if left == 1 then last else more

-- the bytes, if they are UTF-8 and none is 0
abbrev pub checked : List ℕ → Option (List ℕ)
checked bytes = if is_utf8 bytes && not (list_any (nat_eq 0) bytes) then Some bytes else None

-- the tag that a prefix and these bytes say
abbrev pub tag_of : (prefix bytes : List ℕ) → Option (List ℕ)
tag_of prefix bytes = option_map (λ t. prefix ++ t) (option_and_then checked (decoded none bytes))

-- How a tag is written: `!<x>` is x itself, `!!x` one of YAML's own, and `!x` a local one.
pub data Handle : Type 0 where
  verbatim core local : Handle

-- by the byte behind its `!`
abbrev pub handle_of : ℕ → Handle
handle_of c = if c == 60 then verbatim else if c == 33 then core else local

-- what stands for its beginning
abbrev pub prefix_of : Handle → List ℕ
prefix_of verbatim = []
prefix_of core = codes "tag:yaml.org,2002:"
prefix_of local = codes "!"

-- how many bytes come before its text
abbrev pub opening_size : Handle → ℕ
opening_size verbatim = 2
opening_size core = 2
opening_size local = 1

-- between angle brackets
abbrev pub is_whole : Handle → Bool
is_whole verbatim = true
is_whole core = false
is_whole local = false

-- a text may be missing
abbrev pub is_local : Handle → Bool
is_local verbatim = false
is_local core = false
is_local local = true

-- the place behind a tag whose text ends here
abbrev pub tag_end : Handle → (stop : ℕ) → ℕ
tag_end verbatim stop = suc stop
tag_end core stop = stop
tag_end local stop = stop

-- what may stand behind a tag: a gap, and in brackets `,`
abbrev pub ends_tag : (flow : Bool) → ℕ → Bool
ends_tag flow c = is_gap c || (flow && c == 44)

-- the tag whose `!` stands here, and the place behind it
abbrev pub tag_at : List ℕ → (flow : Bool) → ℕ → Option (List ℕ × ℕ)
tag_at text flow i =
    let handle = handle_of (at text (suc i)) in
    let start = i + opening_size handle in
    let stop = start + count_while (is_tag_byte (is_whole handle)) (drop start text) in
    let end = tag_end handle stop in
    if (is_local handle || nat_lt start stop) && ((not (is_whole handle) || at text stop == 62)
    && ends_tag flow (at text end))
    then option_map (λ t. (t, end)) (tag_of (prefix_of handle) (slice_range text start stop)) else None

-- an anchor and a tag, each of which may be missing
pub record Names : Type 0 where
  pub anchor : Option (List ℕ)
  pub tag : Option (List ℕ)

-- both are missing
abbrev pub unnamed : Names
unnamed = record { anchor = None; tag = None }

-- both are missing
abbrev pub is_unnamed : Names → Bool
is_unnamed names = is_none names.anchor && is_none names.tag

-- an anchor or a tag that is missing yet, if one stands here behind spaces, and the place behind it
abbrev pub one_name : List ℕ → (flow : Bool) → Names × ℕ → Option (Names × ℕ)
one_name text flow (names, i) =
    let place = i + count_while (nat_eq 32) (drop i text) in
    if at text place == 38 && is_none names.anchor then
    option_map (λ end. (record { anchor = Some (slice_range text (suc place) end); tag = names.tag }, end))
    (name_end text flow (suc place))
    else if at text place == 33 && is_none names.tag then
    option_map (λ t. (record { anchor = names.anchor; tag = Some t.0 }, t.1)) (tag_at text flow place)
    else Some (names, i)

-- the anchor and the tag that stand here, in either order, and the place behind them
abbrev pub names_at : List ℕ → (flow : Bool) → ℕ → Option (Names × ℕ)
names_at text flow i = option_and_then (one_name text flow) (one_name text flow (unnamed, i))

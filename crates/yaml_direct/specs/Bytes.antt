-- The bytes of a text by what they may begin or end. A place is an index; behind the text every byte is 0.
use Rattle.std.specs.Prelude.{ℕ, ◌+◌, ◌-◌, ◌≤◌, ◌<◌, ◌≡◌, Bool, ◌&&◌, ◌||◌, ◌==◌, List, slice_index, nat_le}

-- the byte in a place
abbrev pub at : List ℕ → ℕ → ℕ
at text i = slice_index text i

-- The line, or the text, ends here: with a line feed or a carriage return. Texts that have a carriage return before
-- anything else than a line feed are not read.
abbrev pub ends_line : List ℕ → ℕ → Bool
ends_line text i = at text i == 10 || (at text i == 13 || at text i == 0)

-- a blank stands here, or the line ends
abbrev pub is_gap : List ℕ → ℕ → Bool
is_gap text i = nat_le (at text i) 32

-- a byte that begins or ends a collection between brackets, or parts its entries
abbrev pub is_bracket : ℕ → Bool
is_bracket c = c == 44 || (c == 91 || (c == 93 || (c == 123 || c == 125)))

-- only spaces stand between two places
abbrev pub AreBlanks : List ℕ → (i j : ℕ) → Type 0
AreBlanks text i j = (k : ℕ) → i ≤ k → k < j → at text k ≡ 32

-- plain text may stop before this byte
abbrev pub may_stop : (flow : Bool) → ℕ → Bool
may_stop flow c = c == 0 || (c == 9 || (c == 10 || (c == 13 || (c == 32 || (c == 58 || (flow && is_bracket c))))))

-- plain text stops before the `:` that stands here
abbrev pub stops_at_colon : List ℕ → (flow : Bool) → ℕ → Bool
stops_at_colon text flow i = is_gap text (i + 1) || (flow && (at text (i + 1) == 63 || is_bracket (at text (i + 1))))

-- plain text stops here: the line ends, a tab, `:` before a blank or an end, `#` behind a space, or a bracket within
-- brackets
abbrev pub stops_plain : List ℕ → (flow : Bool) → ℕ → Bool
stops_plain text flow i =
    ends_line text i || (at text i == 9 || ((at text i == 58 && stops_at_colon text flow i)
    || ((at text i == 35 && at text (i - 1) == 32) || (flow && is_bracket (at text i)))))

-- a character begins with these bytes that is not allowed, ends a line, or is the mark of the order of bytes
abbrev pub is_forbidden : (first second third : ℕ) → Bool
is_forbidden a b c =
    (a == 0xC2 && (nat_le 0x80 b && nat_le b 0x9F)) || ((a == 0xE2 && (b == 0x80 && (c == 0xA8 || c == 0xA9)))
    || (a == 0xEF && ((b == 0xBB && c == 0xBF) || (b == 0xBF && (c == 0xBE || c == 0xBF)))))

-- such a character begins the bytes
abbrev pub begins_forbidden : List ℕ → Bool
begins_forbidden bytes = is_forbidden (at bytes 0) (at bytes 1) (at bytes 2)

-- What stands between two tokens: spaces, comments and line feeds.
use Rattle.std.specs.Prelude.{ℕ, ◌+◌, ◌-◌, ◌<◌, ◌≤◌, ◌≡◌, ◌≢◌, ◌⊎◌, Bool, true, false, not, ◌&&◌, ◌||◌, ◌==◌}
use Rattle.std.specs.Prelude.{List, length}
use Rattle.yaml_base.specs.Places.{has_order_mark}
use Rattle.yaml_direct.specs.Bytes.{at}

-- no line feed stands between two places
abbrev pub InLine : List ℕ → (i j : ℕ) → Type 0
InLine text i j = (k : ℕ) → i ≤ k → k < j → at text k ≢ 10

-- the line ends here, or the text
abbrev pub IsLineEnd : List ℕ → ℕ → Type 0
IsLineEnd text i = (at text i ≡ 10) ⊎ (length text ≤ i)

-- a comment may begin here: behind a space, or at the beginning of a line
abbrev pub is_apart : List ℕ → ℕ → Bool
is_apart text i =
    i == 0 || ((at text (i - 1) == 32 || at text (i - 1) == 10) || (i == 3 && has_order_mark text))

-- a comment: `#` and the rest of the line
pub record IsComment (text : List ℕ) (i j : ℕ) : Type 0 where
  pub begins : at text i ≡ 35
  pub apart : is_apart text i ≡ true
  pub forward : i < j
  pub inside : InLine text (i + 1) j
  pub ends : IsLineEnd text j

-- spaces, comments and line feeds, each after a carriage return or not, in which a line ends or not
pub data Gap (text : List ℕ) : (broken : Bool) → (i j : ℕ) → Type 0 where
  no_gap : {i : ℕ} → Gap text false i i
  a_blank : {b : Bool} {i j : ℕ} → at text i ≡ 32 → Gap text b (i + 1) j → Gap text b i j
  a_return : {b : Bool} {i j : ℕ} → at text i ≡ 13 → at text (i + 1) ≡ 10 → Gap text b (i + 1) j → Gap text b i j
  a_comment : {b : Bool} {i k j : ℕ} → IsComment text i k → Gap text b k j → Gap text b i j
  a_line_feed : {b : Bool} {i j : ℕ} → at text i ≡ 10 → Gap text b (i + 1) j → Gap text true i j

-- a token may begin here
abbrev pub begins_token : List ℕ → ℕ → Bool
begins_token text i = not (at text i == 32 || (at text i == 10 || (at text i == 13 || at text i == 35)))

-- all that stands before the next token, or before the end of the text
pub record Between (text : List ℕ) (broken : Bool) (i j : ℕ) : Type 0 where
  pub gap : Gap text broken i j
  pub next : begins_token text j ≡ true

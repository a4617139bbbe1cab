-- What is written of a JSON text.
use Rattle.std.specs.Prelude.{ℕ, ◌≡◌, ◌++◌, List, []}
use Rattle.json.specs.Json.{Json, Items, Members}
use Rattle.json.specs.Token.{Token}
use Rattle.json.specs.Tree.{HasNumbers, ItemsHaveNumbers, items_tokens, json_tokens, MembersHaveNumbers, members_tokens}
use Rattle.yaml_query.specs.JsonOf.{AreItemsOf, AreMembersOf, IsJsonOf}
use Rattle.yaml_query.specs.declared.out.Layout.{Layout}
use Rattle.yaml_query.specs.declared.out.Layout.TheVariants as layout
use Rattle.yaml_query.specs.declared.out.Out.{Out}
use Rattle.yaml_query.specs.declared.out.Out.TheVariants as out
use Rattle.yaml_value.specs.PlainValue.{PlainItems, PlainPairs, PlainValue}

-- the tokens so far
abbrev pub tokens_in : Out → List Token
tokens_in (out.Line w) = w.tokens
tokens_in (out.Lines ts) = ts

-- how they are laid out, and what stands before them
abbrev pub frame_in : Out → Layout × List ℕ
frame_in (out.Line w) = (layout.Line, w.before)
frame_in (out.Lines ts) = (layout.Lines, [])

-- the JSON of a value, of values, or of pairs, is written, with the bracket that ends it
pub record WritesJson (v : PlainValue) (old new : List Token) : Type 0 where
  pub json : Json
  pub of_value : IsJsonOf v json
  pub numbers : HasNumbers json
  pub more : new ≡ old ++ json_tokens json

pub record WritesItems (vs : PlainItems) (old new : List Token) : Type 0 where
  pub items : Items
  pub of_values : AreItemsOf vs items
  pub numbers : ItemsHaveNumbers items
  pub more : new ≡ old ++ items_tokens items

pub record WritesMembers (ps : PlainPairs) (old new : List Token) : Type 0 where
  pub members : Members
  pub of_pairs : AreMembersOf ps members
  pub numbers : MembersHaveNumbers members
  pub more : new ≡ old ++ members_tokens members

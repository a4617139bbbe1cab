-- The JSON text of a value.
use Rattle.std.specs.Prelude.{ℕ, ◌≡◌, ◌≤◌, List, Some}
use Rattle.json.specs.Json.{Json, document, max_depth}
use Rattle.json.specs.Layout.{pretty}
use Rattle.json.specs.Print.{print}
use Rattle.json.specs.Token.{Token}
use Rattle.json.specs.Tree.{depth, json_tokens}
use Rattle.yaml_query.specs.JsonOf.{IsJsonOf}
use Rattle.yaml_query.specs.declared.out.Layout.{Layout}
use Rattle.yaml_query.specs.declared.out.Layout.TheVariants as layout
use Rattle.yaml_value.specs.PlainValue.{PlainValue}

-- tokens as a text: without a space, or with a line for each item and member
abbrev pub printed : Layout → List Token → List ℕ
printed layout.Line ts = print ts
printed layout.Lines ts = pretty ts

-- The text is the printed JSON of the value; and where that is nested no deeper than 128, it is read as this JSON.
pub record IsJsonText (layout : Layout) (v : PlainValue) (text : List ℕ) : Type 0 where
  pub json : Json
  pub of_value : IsJsonOf v json
  pub prints : text ≡ printed layout (json_tokens json)
  pub reads_back : depth json ≤ max_depth → document text ≡ Some json

-- What is printed is the JSON text.
use Rattle.std.proofs.Common.{◌≡◌, ℕ, List, [], ◌++◌, ap, ◌∙◌, sym}
use Rattle.std.specs.Prelude.{option_and_then}
use Rattle.json.proofs.Printed.Tokens.{tokens-print}
use Rattle.json.proofs.Printed.Trees.{ArePrintable-json_tokens, document-print}
use Rattle.json.specs.Json.{if_last, max_depth, value}
use Rattle.json.specs.Lex.{tokens}
use Rattle.json.specs.Token.{Token}
use Rattle.json.specs.Tree.{json_tokens}
use Rattle.yaml_query.specs.JsonText.{IsJsonText, printed}
use Rattle.yaml_query.specs.Out.{WritesJson}
use Rattle.yaml_query.specs.declared.out.Layout.{Layout}
use Rattle.yaml_value.specs.PlainValue.{PlainValue}

pub text_of_json : (layout : Layout) (v : PlainValue) (s : List ℕ) (first now : List Token) (frame : Layout × List ℕ)
    → first ≡ [] → frame ≡ (layout, []) → WritesJson v first now → s ≡ printed frame.0 now → tokens s ≡ now
    → IsJsonText layout v s
text_of_json layout v s first now frame none is w text read =
    let all : now ≡ json_tokens w.json = w.more ∙ ap (λ ts. ts ++ json_tokens w.json) none in
    record {
      json = w.json;
      of_value = w.of_value;
      prints = text ∙ (λ i. printed (is i).0 (all i));
      reads_back = λ shallow.
          ap (λ ts. option_and_then (λ p. if_last p.0 p.1) (value max_depth ts))
          (read ∙ (all ∙ sym (tokens-print (json_tokens w.json) (ArePrintable-json_tokens w.json w.numbers))))
          ∙ document-print w.json w.numbers shallow;
    }

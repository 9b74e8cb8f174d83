-- A compact text's tokens, written pretty, are a text of the same value, and none of them is `bad`.
use Rattle.std.proofs.Common.{◌≡◌, ℕ, ◌+◌, List, [], ◌∷◌, ◌++◌, false, true, ap, ◌∙◌, refl, arith}
use Rattle.json.specs.Token.{Token, begin_object, end_object, begin_array, end_array, key, string, number, boolean, null, bad}
use Rattle.json.specs.Lex.{tokens}
use Rattle.json.specs.Layout.{pretty}
use Rattle.json.specs.Json as json
use Rattle.json.specs.Tree.{json_tokens, items_tokens, members_tokens}
use Rattle.serde_json.specs.Data.{Data}
use Rattle.documents.specs.Text.{IsJsonOf, IsTextOf}
use Rattle.documents.proofs.NewLine.{tokens-line}
use Rattle.documents.proofs.TextLaws.{same_read}

-- ---- no token of a value is `bad`

abbrev fault : Token → ℕ
fault begin_object = 0
fault end_object = 0
fault begin_array = 0
fault end_array = 0
fault (key s) = 0
fault (string s) = 0
fault (number s) = 0
fault (boolean b) = 0
fault null = 0
fault bad = 1

-- how many of the tokens are `bad`
abbrev faults : List Token → ℕ
faults [] = 0
faults (t ∷ ts) = fault t + faults ts

faults-append : (ts us : List Token) → faults (ts ++ us) ≡ faults ts + faults us
faults-append [] us = omega arith
faults-append (t ∷ ts) us = omega (arith, faults-append ts us)

mutual
  no_faults : (j : json.Json) → faults (json_tokens j) ≡ 0
  no_faults json.null = refl
  no_faults (json.boolean b) = refl
  no_faults (json.number s) = refl
  no_faults (json.string s) = refl
  no_faults (json.array js) = omega (arith, no_item_faults js)
  no_faults (json.object ms) = omega (arith, no_member_faults ms)

  no_item_faults : (js : json.Items) → faults (items_tokens js) ≡ 0
  no_item_faults json.no_items = refl
  no_item_faults (json.item j js) = omega (arith, faults-append (json_tokens j) (items_tokens js), no_faults j, no_item_faults js)

  no_member_faults : (ms : json.Members) → faults (members_tokens ms) ≡ 0
  no_member_faults json.no_members = refl
  no_member_faults (json.member k j ms) = omega (arith, faults-append (json_tokens j) (members_tokens ms), no_faults j, no_member_faults ms)

-- ---- the text

-- JSON with a token `bad` is none of a value
pub never_bad_in : (value : Data) (json : List ℕ) (ts us : List Token) → IsJsonOf false value json → ts ++ bad ∷ us ≡ tokens json → ⊥
never_bad_in value json ts us h e =
    let j = h.order.0 in
    let is : ts ++ bad ∷ us ≡ json_tokens j = e ∙ h.order.1 in
    omega (arith, faults-append ts (bad ∷ us), no_faults j, ap faults is)

-- a text with a token `bad` is none of a value
pub never_bad : (value : Data) (text : List ℕ) (ts us : List Token) → IsTextOf false value text → ts ++ bad ∷ us ≡ tokens text → ⊥
never_bad value text ts us h e = never_bad_in value h.0 ts us h.2 (e ∙ ap tokens h.1 ∙ tokens-line h.0)

-- the tokens of a compact text, written pretty, and a new line
pub made_pretty : (value : Data) (text bytes : List ℕ) → IsTextOf false value text → tokens bytes ≡ tokens text → bytes ≡ pretty (tokens bytes) → IsTextOf true value (bytes ++ 10 ∷ [])
made_pretty value text bytes h same layout =
    let e : tokens bytes ≡ tokens h.0 = same ∙ ap tokens h.1 ∙ tokens-line h.0 in
    let is : IsJsonOf true value bytes = record {
      reads = λ shallow. same_read bytes h.0 e ∙ h.2.reads shallow;
      order = (h.2.order.0, e ∙ h.2.order.1, h.2.order.2);
      layout = layout;
    } in
    (bytes, refl, is)

use Rattle.std.proofs.Common.{◌≡◌, option_map, false, codes, refl, sym, ap, ◌∙◌, subst}
use Rattle.serde_json.specs.Data.{object, put}
use Rattle.serde_json.specs.View.{view, members_view}
use Rattle.serde_json.proofs.Views.{view-Object}
use Rattle.documents.specs.Components.{schemas_in}
use Rattle.documents.specs.Merge.{OpenApi, with_each, with_schemas}
use Rattle.documents.specs.Text.{IsJsonOf}
use Rattle.documents.specs.Written.{AreTextsOf}
use Rattle.documents.proofs.MergeLaws.{opened, merged_is, schemas_there}
use Rattle.documents.proofs.merging.merge.Goals as goal

pub returns-in-Some-3 : goal.returns-in-Some-3
returns-in-Some-3 c = λ new texts.
    let api = members_view c.in-Object.api.entries in
    let components = members_view c.in-Some.components.entries in
    let schemas = members_view c.in-Some-2.schemas.entries in
    let is : view c.args.api ≡ _ = ap view c.in-Object.is ∙ view-Object c.in-Object.api in
    let first = sym (ap (option_map (λ m. members_view m.entries)) c.in-Some.is) ∙ c.in_ok-components.ensures.own in
    let second = sym (ap (option_map (λ m. members_view m.entries)) c.in-Some-2.is) ∙ c.in_ok-schemas.ensures.own in
    (record { api = api; components = components; schemas = schemas }, opened (view c.args.api) api components schemas is first second, sym (c.in_ok-name.ensures new texts) ∙ c.in-Some-3.is)

pub returns : goal.returns
returns c = λ new texts.
    let api = members_view c.in-Object.api.entries in
    let components = members_view c.in-Some.components.entries in
    let schemas = members_view c.in-Some-2.schemas.entries in
    let is : view c.args.api ≡ _ = ap view c.in-Object.is ∙ view-Object c.in-Object.api in
    let first = sym (ap (option_map (λ m. members_view m.entries)) c.in-Some.is) ∙ c.in_ok-components.ensures.own in
    let second = sym (ap (option_map (λ m. members_view m.entries)) c.in-Some-2.is) ∙ c.in_ok-schemas.ensures.own in
    let o : OpenApi = record { api = api; components = components; schemas = schemas } in
    let all = with_each schemas new in
    let entries = c.put_each.new.texts.entries in
    let listed : AreTextsOf all entries = c.in_ok-put_each.ensures schemas new c.in_ok-texts.ensures texts in
    let after_components = members_view c.take_members-2.new.members.entries in
    let inside = put (codes "schemas") (object all) after_components in
    let inner : IsJsonOf false (object inside) c.in_ok-inner.inner = c.in_ok-inner.ensures (object all) (c.in_ok-all.ensures all listed) in
    let after_api = members_view c.take_members.new.members.entries in
    let outside = put (codes "components") (object inside) after_api in
    let json : IsJsonOf false (object outside) c.in_ok-json.json = c.in_ok-json.ensures (object inside) inner in
    let merged = merged_is api components schemas new after_api outside after_components inside all c.in_ok-components.ensures.others c.in_ok-schemas.ensures.others refl refl refl in (
      o,
      opened (view c.args.api) api components schemas is first second,
      (
        sym (c.in_ok-name.ensures new texts) ∙ c.in_default-4.is,
        record {
          json = subst (λ d. IsJsonOf false d c.in_ok-json.json) merged json;
          schemas = subst (AreTextsOf (schemas_in (with_schemas o new))) (sym c.in_ok-schemas-2.ensures.items) (subst (λ ms. AreTextsOf ms entries) (sym (schemas_there o new)) listed);
          order = c.in_ok-schemas-2.ensures.order;
        },
      ),
    )

use Rattle.std.proofs.Common.{◌≡◌, [], Option, Some, None, IfSome, MatchOption, codes, rules, sym, subst, lit≤}
use Rattle.serde_json.specs.Data.{Data}
use Rattle.serde_json.specs.Find.{get}
use Rattle.serde_json.specs.View.{view}
use Rattle.configuration.specs.Configuration.{Configuration}
use Rattle.configuration_json.specs.Form.{SaysOrDefault, IsRenames, HoldsTexts, SaysOthers, HasForm}
use Rattle.configuration_json.proofs.FormLaws.{whole_within, only_whole}
use Rattle.configuration_json.proofs.from_json.others_of.Goals as goal

-- the parts, of which the numbers are within their bounds, are those of a configuration that the value says
said : (value : Data) (parts : Configuration) (found : Option Configuration) (In : Type 0) → In → SaysOthers value parts → IfSome (get (codes "aliases") value) HoldsTexts →
    MatchOption found (In → ⊥) (λ c. c ≡ parts) → MatchOption found (HasForm value → ⊥) (λ c. SaysOthers value c × IfSome (get (codes "aliases") value) HoldsTexts)
said value parts None In inside says texts out = absurd (out inside)
said value parts (Some c) In inside says texts is = (subst (SaysOthers value) (sym is) says, texts)

pub returns : goal.returns
returns c =
    let value = view c.args.value.now in
    let limit = whole_within 1 4096 1000 (get (codes "limit") value) c.in-Some-whole_at.limit (lit≤ tt) (lit≤ tt) c.in-Some-whole_at.ensures in
    let copies = whole_within 1 100000 10000 (get (codes "copies") value) c.in-Some-whole_at-2.copies (lit≤ tt) (lit≤ tt) c.in-Some-whole_at-2.ensures in
    let parts : Configuration = record { limit = c.in-Some-whole_at.limit; copies = c.in-Some-whole_at-2.copies; collect = c.in-Some-collect_at.collect; renames = c.in-Some-2.renames; aliases = [] } in
    let renames : SaysOrDefault IsRenames [] (get (codes "renames") value) c.in-Some-2.renames = rw c.in-Some-2.is at c.in_ok-renames.ensures in
    let says : SaysOthers value parts = record {
      members = search rules;
      version = only_whole 1 c.in-Some._version (get (codes "version") value) c.in-Some.ensures;
      limit = c.in-Some-whole_at.ensures;
      copies = c.in-Some-whole_at-2.ensures;
      collect = c.in-Some-collect_at.ensures;
      renames = renames;
      empty = search rules;
    } in
    said value parts c.of_parts.result _ (limit.0, limit.1, copies.0, copies.1) says (search rules) c.of_parts.ensures

use Rattle.std.proofs.Common.{◌≡◌, ◌∙◌, List, map, ap, subst, IfOk}
use Rattle.std.specs.Borrow.{Bor}
use Rattle.std.specs.BTreeMap.{get_by_text}
use Rattle.std.specs.List.{filter}
use Rattle.prepare.specs.declared.file_items.FileAlias.{FileAlias}
use Rattle.scopes.specs.Names.{declared_names}
use Rattle.syntax.specs.Items.{declarations_view}
use Rattle.telling.specs.declared.told.Told.{Told}
use Rattle.texts.specs.Names.{place_in}
use Rattle.selecting.specs.Clashes.{parameter_names, clashes_by, told_clash}
use Rattle.selecting.specs.Standing.{alias_names}
use Rattle.selecting.proofs.clashes.clash_lines.Goals as goal

pub returns : goal.returns
returns c =
    let paths = c.args.paths.now in
    let ds = declarations_view c.args.declarations.now in
    let shown = map (λ (a : Bor FileAlias). a.now) c.args.aliases.now in
    let names = c.in_ok-names.names in
    let declared : get_by_text names.declared ≡ (λ name. place_in name (declared_names ds)) = λ i name. c.in_ok-names.ensures.declared name i in
    let parameters : get_by_text names.parameters ≡ (λ name. place_in name (parameter_names ds)) = λ i name. c.in_ok-names.ensures.parameters name i in
    let aliases : get_by_text names.aliases ≡ (λ name. place_in name (alias_names shown)) = λ i name. c.in_ok-names.ensures.aliases name i in
    let found =
    ap (map (λ (a : Bor FileAlias). a.now)) c.as_slice.ensures ∙ c.in_ok-found.ensures
    ∙ (λ i. filter (clashes_by (declared i) (parameters i) (aliases i) shown) shown) in
    subst (λ (v : List FileAlias). IfOk c.told_clashes.result (λ (lines : List Told). lines ≡ map (told_clash paths) v)) found c.told_clashes.ensures

use Rattle.std.proofs.Common.{◌∙◌, ◌<◌, ap, sym, subst, length, get_or, List}
use Rattle.std.specs.BTreeMap.{get}
use Rattle.open_types.specs.Instances.{type_size}
use Rattle.type_table.specs.declared.types.Entry.{Entry}
use Rattle.type_table.specs.Keys.{key_cmp}
use Rattle.type_table.specs.Nodes.{entry_types}
use Rattle.type_table.specs.Types.{type_at, in_word}
use Rattle.type_table.proofs.Sizes.{size-at}
use Rattle.type_table.proofs.types.Types.size.Goals as goal

pub returns : goal.returns
returns c =
    let es : List Entry = c.self.inside.entries.items in
    let entry : Entry = c.index.result.now in
    let within : c.args.id < length (entry_types es) = subst (λ ts. c.args.id < length ts) (sym c.self.view_is) c.requires in
    ap (λ e. e.size) (c.index.ensures ∙ ap (λ n. get_or es n entry) c.id.view_is)
    ∙ size-at (get key_cmp c.self.inside.index) es c.args.id entry c.self.invariant within
    ∙ ap (λ ts. in_word (type_size (type_at ts c.args.id))) c.self.view_is

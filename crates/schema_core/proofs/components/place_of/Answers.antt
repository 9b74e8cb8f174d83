use Rattle.std.proofs.Common.{rules}
use Rattle.std.proofs.lemmas.Fn.{always_returns_same}
use Rattle.schema_core.proofs.EntryLaws.{compare, search-found, search-before, search-after}
use Rattle.schema_core.proofs.components.place_of.Goals as goal

pub returns-clause-found : goal.returns-clause-found
returns-clause-found c =
    search-found c.args.names.now c.args.name.now c.requires _ (c.binary_search_by.ensures.position (λ y. compare y c.args.name.now) (always_returns_same _ _ _ (λ a r g h. (search rules, search rules))))

pub returns-clause-before : goal.returns-clause-before
returns-clause-before c =
    search-before c.args.names.now c.args.name.now c.requires _ (c.binary_search_by.ensures.position (λ y. compare y c.args.name.now) (always_returns_same _ _ _ (λ a r g h. (search rules, search rules))))

pub returns-clause-after : goal.returns-clause-after
returns-clause-after c =
    search-after c.args.names.now c.args.name.now c.requires _ (c.binary_search_by.ensures.position (λ y. compare y c.args.name.now) (always_returns_same _ _ _ (λ a r g h. (search rules, search rules))))

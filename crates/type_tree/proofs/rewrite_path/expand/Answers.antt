use Rattle.std.proofs.Common.{◌≡◌, ◌<◌, ◌⊎◌, IfOk, IfErr, subst}
use Rattle.std.specs.BTreeMap.{get_by_text}
use Rattle.diag.specs.declared.error.DeriveError.TheVariants.{Memory}
use Rattle.written_types.specs.Written.{written_view}
use Rattle.resolving.specs.Names.{size, span_of}
use Rattle.resolving.specs.Aliases.{expanded_type}
use Rattle.resolving.specs.Resolved.{most_names, too_large, IsRefusedFor}
use Rattle.type_tree.proofs.AliasKnown.{known_here}
use Rattle.type_tree.proofs.rewrite_path.expand.Goals as goal

pub returns-clause-expanded : goal.returns-clause-expanded
returns-clause-expanded c =
    let is = known_here c.args.config.now.aliases c.alias_types.result.now (get_by_text c.alias_places.result.now) c.alias_types.ensures c.alias_places.ensures (get_by_text c.no_places-nowhere.result) c.no_places-nowhere.ensures in
    subst (λ known. IfOk c.expand_type.result (λ t. written_view t ≡ expanded_type known (written_view c.args.ty.now))) is c.expand_type.ensures.expanded

pub returns-clause-refused : goal.returns-clause-refused
returns-clause-refused c =
    let is = known_here c.args.config.now.aliases c.alias_types.result.now (get_by_text c.alias_places.result.now) c.alias_types.ensures c.alias_places.ensures (get_by_text c.no_places-nowhere.result) c.no_places-nowhere.ensures in
    subst (λ known. IfErr c.expand_type.result (λ e. (e ≡ Memory) ⊎ ((most_names < size known (expanded_type known (written_view c.args.ty.now))) × IsRefusedFor (too_large (span_of (expanded_type known (written_view c.args.ty.now)))) e))) is c.expand_type.ensures.refused

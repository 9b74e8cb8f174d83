use Rattle.derive_decl.proofs.Texts.{told_distinct}
use Rattle.derive_decl.proofs.variant_names.told_apart.Goals as goal

pub returns-in_ok-places_of-in-External-clause-told : goal.returns-in_ok-places_of-in-External-clause-told
returns-in_ok-places_of-in-External-clause-told g c = told_distinct c.args.tagging.now _ c.in_ok-places_of-in-External.ensures.distinct

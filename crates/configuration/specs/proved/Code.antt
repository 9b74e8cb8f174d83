-- How the logic stores a configuration, so that a model may be one.
use Rattle.std.proofs.Common.{ℕ, List, refl}
use Rattle.std.specs.Coded.{Coded, code_by, coded×, coded_ℕ, coded_list}
use Rattle.diag.specs.contracts.rename_row.RenameRow as rows
use Rattle.diag.specs.declared.rename_row.RenameRow.{RenameRow}
use Rattle.written_types.specs.Written.{Written}
use Rattle.configuration.specs.contracts.collect.SchemaCollect as collects
use Rattle.configuration.specs.declared.collect.SchemaCollect.{SchemaCollect}
use Rattle.configuration.specs.Configuration.{Alias, Configuration}
use Rattle.configuration.specs.proved.WrittenCode.{coded_written}

abbrev pub coded_alias : Coded Alias
coded_alias = code_by (List ℕ × Written) (coded× (coded_list coded_ℕ) coded_written) (λ a. (a.name, a.of)) (λ p. record { name = p.0; of = p.1 }) (λ _. refl)

abbrev pub coded_configuration : Coded Configuration
coded_configuration = code_by (ℕ × (ℕ × (SchemaCollect × (List RenameRow × List Alias))))
    (coded× coded_ℕ (coded× coded_ℕ (coded× collects.the_row.coded (coded× (coded_list rows.the_row.coded) (coded_list coded_alias)))))
    (λ c. (c.limit, (c.copies, (c.collect, (c.renames, c.aliases)))))
    (λ p. record { limit = p.0; copies = p.1.0; collect = p.1.1.0; renames = p.1.1.1.0; aliases = p.1.1.1.1 }) (λ _. refl)

pub mod Derived
pub mod Given
pub mod Owed
pub mod Refusals
pub mod Sampled
pub mod Words
pub use Rattle.acceptance.specs.Acceptance
pub use Rattle.acceptance.specs.Json
pub use Rattle.acceptance.specs.References
pub use Rattle.closing.specs.Closed
pub use Rattle.closing.specs.Described
pub use Rattle.compose.specs.Faults
pub use Rattle.configuration.specs.Aliases
pub use Rattle.configuration.specs.Configuration
pub use Rattle.configuration_json.specs.Form
pub use Rattle.shapes.specs.Declarations
pub use Rattle.shapes.specs.InstanceShape
pub use Rattle.shapes.specs.Plain
pub use Rattle.shapes.specs.Shape
pub use Rattle.derive_decl.specs.Resolved as ResolvedDeclarations
pub use Rattle.diag.specs.Diagnostics
pub use Rattle.diag.specs.Kind
pub use Rattle.diag.specs.Refusal
pub use Rattle.texts.specs.Span
pub use Rattle.files.specs.Faults as FileFaults
pub use Rattle.files.specs.Held
pub use Rattle.files.specs.Memory as FileMemory
pub use Rattle.closing.specs.Copies
pub use Rattle.closing.specs.Links
pub use Rattle.instances.specs.Lists as Instances
pub use Rattle.instances.specs.Names as InstanceNames
pub use Rattle.instances.specs.Walk
pub use Rattle.inlining.specs.Inlining
pub use Rattle.compose.specs.Bounds
pub use Rattle.reporting.specs.Beginning
pub use Rattle.reporting.specs.Bytes
pub use Rattle.reporting.specs.Endings
pub use Rattle.reporting.specs.Numbers
pub use Rattle.reporting.specs.Owed as RunsOwed
pub use Rattle.reporting.specs.Program
pub use Rattle.reporting.specs.Report
pub use Rattle.samples.specs.Rings
pub use Rattle.samples.specs.Samples
pub use Rattle.schema_core.specs.Document
pub use Rattle.schema_trees.specs.Held as HeldValues
pub use Rattle.streams.specs.Faults as StreamFaults
pub use Rattle.streams.specs.Memory
pub use Rattle.streams.specs.Told
pub use Rattle.resolving.specs.Names as Resolving
pub use Rattle.resolving.specs.Resolved
pub use Rattle.syntax.specs.Items
pub use Rattle.syntax.specs.Source

-- The laws: what is resolved to something has no fault, and what has no fault is; in what is resolved names are apart; what is refused for a missing row is a name that has none.
use Rattle.std.specs.Prelude.{◌≡◌, ◌↔◌, ℕ, List, Option, Some, None, IsSome}
use Rattle.std.specs.List.{AllByRecursion}
use Rattle.diag.specs.Refusal.{IsRefusal, RefusesNone}
use Rattle.diag.specs.declared.error.DeriveError.{DeriveError}
use Rattle.diag.specs.declared.kind.Kind.TheVariants.{MissingRow}
use Rattle.diag.specs.declared.rename_rule.RenameRule.{RenameRule}
use Rattle.diag.specs.declared.rename_row.RenameRow.{RenameRow}
use Rattle.texts.specs.Lists.{Somewhere}
use Rattle.texts.specs.Names.{IsDistinct}
use Rattle.texts.specs.declared.span.Span.{Span}
use Rattle.written_types.specs.declared.written.Ident.{Ident}
use Rattle.attributes.specs.Attributes.{AttributeItem}
use Rattle.attributes.specs.declared.serde_item.SerdeItem.{SerdeItem}
use Rattle.configuration.specs.Configuration.{Configuration}
use Rattle.syntax.specs.Items.{FieldItems, VariantItem, BodyItem, DeclaredItem}
use Rattle.syntax.specs.Named.{HaveNames, IsNamedBody, AreNamed}
use Rattle.shapes.specs.declared.tagging.Tagging.{Tagging}
use Rattle.shapes.specs.Declarations.{FormOf, BodyOf, DeclarationOf, form_names, IsApartBody, AreApartBodies}
use Rattle.serde_names.specs.Asked.{IsRowlessItem}
use Rattle.derive_decl.specs.Attributed.{first_other, attributes_in}
use Rattle.derive_decl.specs.Resolved.{Around, form_of, units_of, mixed_of, plain_body, mixed_body, body_of, derived_body, resolved_of}
use Rattle.derive_decl.specs.Faults.{AreFaultyFields, AreUnnamed, AreFaultyVariants, IsFaultyPlain, IsFaultyEnum, IsFaultyBody, IsFaultyDeclaration, IsFaultyItem, AreFaultyItems}
use Rattle.derive_decl.specs.Whole.{resolved_declarations, meant_declarations}

-- there is a value exactly where no error refuses
abbrev pub IsExact : {A : Type 0} → Option A → (DeriveError → Type 0) → Type 0
IsExact value refuses = IsSome value ↔ RefusesNone refuses

abbrev pub FormsAreExact : Type 0
FormsAreExact = (around : Around) (items : List SerdeItem) (x : Ident) (fs : FieldItems) → HaveNames fs → IsExact (form_of around items fs) (AreFaultyFields around items x fs)

-- ---- enums

abbrev pub UnitsAreExact : Type 0
UnitsAreExact = (around : Around) (rule : Option RenameRule) (vs : List VariantItem) (tagging : Tagging) → IsExact (units_of around rule vs tagging) (AreUnnamed around.rows rule tagging vs)

abbrev pub VariantsAreExact : Type 0
VariantsAreExact =
    (around : Around) (rule : Option RenameRule) (vs : List VariantItem) (tagging : Tagging) → AllByRecursion (λ v. HaveNames v.fields) vs → IsExact (mixed_of around rule vs tagging) (AreFaultyVariants around rule tagging vs)

-- with serde's items before it
abbrev pub PlainAreExact : Type 0
PlainAreExact = (around : Around) (items : List SerdeItem) (x : Ident) (vs : List VariantItem) → IsExact (plain_body around items vs) (IsFaultyPlain around items x vs)

abbrev pub MixedAreExact : Type 0
MixedAreExact =
    (around : Around) (items : List SerdeItem) (x : Ident) (vs : List VariantItem) → AllByRecursion (λ v. HaveNames v.fields) vs → IsExact (mixed_body around items vs) (IsFaultyEnum around items x vs)

-- ---- declarations

abbrev pub BodiesAreExact : Type 0
BodiesAreExact = (around : Around) (items : List SerdeItem) (x : Ident) (body : BodyItem) → IsNamedBody body → IsExact (body_of around items body) (IsFaultyBody around items x body)

-- with the attributes before it
abbrev pub DerivedAreExact : Type 0
DerivedAreExact =
    (around : Around) (attributes : List AttributeItem) (x : Ident) (body : BodyItem) → IsNamedBody body → IsExact (derived_body around attributes body) (IsFaultyDeclaration around attributes x body)

-- with its generic parameters
abbrev pub ItemsAreExact : Type 0
ItemsAreExact = (around : Around) (d : DeclaredItem) → IsNamedBody d.body → IsExact (resolved_of around d) (IsFaultyItem around d)

abbrev pub DeclarationsAreExact : Type 0
DeclarationsAreExact = (c : Configuration) (ds : List DeclaredItem) → AreNamed ds → IsExact (resolved_declarations c ds) (AreFaultyItems c ds)

-- ---- names

abbrev pub FormsAreApart : Type 0
FormsAreApart = (around : Around) (items : List SerdeItem) (fs : FieldItems) (form : FormOf) → form_of around items fs ≡ Some form → IsDistinct (form_names form)

abbrev pub UnitsAreApart : Type 0
UnitsAreApart = (around : Around) (rule : Option RenameRule) (vs : List VariantItem) (tagging : Tagging) (of : BodyOf) → units_of around rule vs tagging ≡ Some of → IsApartBody of

abbrev pub VariantsAreApart : Type 0
VariantsAreApart = (around : Around) (rule : Option RenameRule) (vs : List VariantItem) (tagging : Tagging) (of : BodyOf) → mixed_of around rule vs tagging ≡ Some of → IsApartBody of

abbrev pub PlainAreApart : Type 0
PlainAreApart = (around : Around) (items : List SerdeItem) (vs : List VariantItem) (of : BodyOf) → plain_body around items vs ≡ Some of → IsApartBody of

abbrev pub MixedAreApart : Type 0
MixedAreApart = (around : Around) (items : List SerdeItem) (vs : List VariantItem) (of : BodyOf) → mixed_body around items vs ≡ Some of → IsApartBody of

abbrev pub BodiesAreApart : Type 0
BodiesAreApart = (around : Around) (items : List SerdeItem) (body : BodyItem) (of : BodyOf) → body_of around items body ≡ Some of → IsApartBody of

abbrev pub ItemsAreApart : Type 0
ItemsAreApart = (around : Around) (d : DeclaredItem) (s : DeclarationOf) → resolved_of around d ≡ Some s → IsApartBody s.body

abbrev pub DeclarationsAreApart : Type 0
DeclarationsAreApart = (c : Configuration) (ds : List DeclaredItem) (ss : List DeclarationOf) → resolved_declarations c ds ≡ Some ss → AreApartBodies ss

-- ---- rows

-- the error is a refusal for a missing row
abbrev pub IsMissingRow : DeriveError → Type 0
IsMissingRow e = (span : Span) × (message : List ℕ) × IsRefusal MissingRow span message e

-- something is derived from each attribute of the declaration, and the error refuses one of its names, which has no row
abbrev pub IsRowlessDerived : List RenameRow → DeclaredItem → DeriveError → Type 0
IsRowlessDerived rows d e = (first_other (attributes_in d) ≡ None) × IsRowlessItem rows d e

-- A declaration is refused for a missing row exactly so.
abbrev pub ItemsLookUpRows : Type 0
ItemsLookUpRows = (around : Around) (d : DeclaredItem) (e : DeriveError) → (IsFaultyItem around d e × IsMissingRow e) ↔ IsRowlessDerived around.rows d e

abbrev pub DeclarationsLookUpRows : Type 0
DeclarationsLookUpRows = (c : Configuration) (ds : List DeclaredItem) (e : DeriveError) → (AreFaultyItems c ds e × IsMissingRow e) ↔ Somewhere (λ d. IsRowlessDerived c.renames d e) ds

-- ---- what is meant

-- What declarations are resolved to is what they mean.
abbrev pub ResolvedIsMeant : Type 0
ResolvedIsMeant = (c : Configuration) (ds : List DeclaredItem) (ss : List DeclarationOf) → resolved_declarations c ds ≡ Some ss → meant_declarations c ds ≡ Some ss

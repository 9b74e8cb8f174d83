-- What stands of a file, each by its own text and its place.
use Rattle.std.specs.Prelude.{◌≡◌, ℕ, List, [], ◌∷◌, slice_range, IsCharBoundary}
use Rattle.std.specs.List.{AllByRecursion, flat_map}
use Rattle.texts.specs.declared.span.Span.{Span}
use Rattle.telling.specs.Places.{place_between}
use Rattle.telling.specs.Positions.{line_of}
use Rattle.prepare.specs.declared.file_items.FileItem.{FileItem}
use Rattle.prepare.specs.declared.file_items.FileImpl.{FileImpl}
use Rattle.prepare.specs.declared.file_items.FileAlias.{FileAlias}
use Rattle.prepare.specs.declared.item.Standing.{Standing}
use Rattle.prepare.specs.declared.item.Stands.{Stands}
use Rattle.prepare.specs.declared.item.Stands.TheVariants.{Declared, Written, Alias}
use Rattle.prepare.specs.Prepared.{IsFile}

-- a span begins and ends between two characters of the source
abbrev pub IsSlice : List ℕ → Span → Type 0
IsSlice source span = IsCharBoundary source span.start × IsCharBoundary source span.end

-- so does that of the type of an alias
abbrev pub HasOwnSlice : List ℕ → Stands → Type 0
HasOwnSlice source (Declared node at unread) = Unit {0}
HasOwnSlice source (Written k name) = Unit {0}
HasOwnSlice source (Alias node of is_import) = IsSlice source of

abbrev pub HasSlices : List ℕ → Standing → Type 0
HasSlices source s = IsSlice source s.span × HasOwnSlice source s.what

abbrev pub AreSlices : List ℕ → List Standing → Type 0
AreSlices source standing = AllByRecursion (HasSlices source) standing

-- the declaration with the bytes of its span, in the file of this number; nothing else is one
abbrev pub item_of_span : ℕ → List ℕ → Span → Stands → List FileItem
item_of_span file source span (Declared node at unread) =
    record {
      file = file;
      declared = node;
      text = slice_range source span.start span.end;
      place = place_between source span.start span.end;
      line = line_of source at.start;
      end = span.end;
      unread = unread;
    } ∷ []
item_of_span file source span (Written k name) = []
item_of_span file source span (Alias node of is_import) = []

abbrev pub items_in : ℕ → List ℕ → List Standing → List FileItem
items_in file source standing = flat_map (λ s. item_of_span file source s.span s.what) standing

-- the source is that of the file of this number, of which these are the declarations
abbrev pub AreItemsOf : ℕ → List ℕ → List FileItem → Type 0
AreItemsOf file source items = (standing : List Standing) × IsFile source standing × (items ≡ items_in file source standing)

-- the impl by hand with the bytes of its span; nothing else is one
abbrev pub impl_of_span : ℕ → List ℕ → Span → Stands → List FileImpl
impl_of_span file source span (Declared node at unread) = []
impl_of_span file source span (Written k name) =
    record { file = file; of = k; name = name; text = slice_range source span.start span.end; place = place_between source span.start span.end } ∷ []
impl_of_span file source span (Alias node of is_import) = []

abbrev pub impls_in : ℕ → List ℕ → List Standing → List FileImpl
impls_in file source standing = flat_map (λ s. impl_of_span file source s.span s.what) standing

-- and of which these are the impls by hand
abbrev pub AreImplsOf : ℕ → List ℕ → List FileImpl → Type 0
AreImplsOf file source impls = (standing : List Standing) × IsFile source standing × (impls ≡ impls_in file source standing)

-- the alias with the bytes of its span and of its type; nothing else is one
abbrev pub alias_of_span : ℕ → List ℕ → Span → Stands → List FileAlias
alias_of_span file source span (Declared node at unread) = []
alias_of_span file source span (Written k name) = []
alias_of_span file source span (Alias node of is_import) =
    record {
      file = file;
      declared = node;
      is_import = is_import;
      of = slice_range source of.start of.end;
      text = slice_range source span.start span.end;
      place = place_between source span.start span.end;
    } ∷ []

abbrev pub aliases_in : ℕ → List ℕ → List Standing → List FileAlias
aliases_in file source standing = flat_map (λ s. alias_of_span file source s.span s.what) standing

-- and of which these are the aliases
abbrev pub AreAliasesOf : ℕ → List ℕ → List FileAlias → Type 0
AreAliasesOf file source aliases = (standing : List Standing) × IsFile source standing × (aliases ≡ aliases_in file source standing)

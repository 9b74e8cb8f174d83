-- The name of a kind, as reports print it.
use Rattle.std.specs.Prelude.{ℕ, List, codes}
use Rattle.diag.specs.declared.kind.Kind.{Kind}
use Rattle.diag.specs.declared.kind.Kind.TheVariants.{BadConfig, BadRow, AliasDepth, TooLong, TooDeep, Syntax, UnknownAttribute, DuplicateFeature, BadValue, SerdeTag, MissingRow, DuplicateName, UnknownType, Arity, BadArgument, TypeSize, FlattenedMaps, Discriminator, TupleBound, TaggedTuple, NotSupported, TooManyInstances, NameClash, InlineDepth, TooManyCopies, Warning}

abbrev pub name_of : Kind → List ℕ
name_of BadConfig = codes "BadConfig"
name_of BadRow = codes "BadRow"
name_of AliasDepth = codes "AliasDepth"
name_of TooLong = codes "TooLong"
name_of TooDeep = codes "TooDeep"
name_of Syntax = codes "Syntax"
name_of UnknownAttribute = codes "UnknownAttribute"
name_of DuplicateFeature = codes "DuplicateFeature"
name_of BadValue = codes "BadValue"
name_of SerdeTag = codes "SerdeTag"
name_of MissingRow = codes "MissingRow"
name_of DuplicateName = codes "DuplicateName"
name_of UnknownType = codes "UnknownType"
name_of Arity = codes "Arity"
name_of BadArgument = codes "BadArgument"
name_of TypeSize = codes "TypeSize"
name_of FlattenedMaps = codes "FlattenedMaps"
name_of Discriminator = codes "Discriminator"
name_of TupleBound = codes "TupleBound"
name_of TaggedTuple = codes "TaggedTuple"
name_of NotSupported = codes "NotSupported"
name_of TooManyInstances = codes "TooManyInstances"
name_of NameClash = codes "NameClash"
name_of InlineDepth = codes "InlineDepth"
name_of TooManyCopies = codes "TooManyCopies"
name_of Warning = codes "Warning"

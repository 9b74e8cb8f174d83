-- What the resolver of a type says of each name in it.
use Rattle.std.specs.Prelude.{◌≡◌, ◌⊎◌, List, Option, Some, IsTrue}
use Rattle.diag.specs.declared.error.DeriveError.{DeriveError}
use Rattle.written_types.specs.Written.{Segment, plain, applied}
use Rattle.open_types.specs.Open.{Opens, no_types}
use Rattle.resolving.specs.declared.meaning.Meaning.TheVariants as meanings
use Rattle.resolving.specs.Known.{Known}
use Rattle.resolving.specs.Names.{types_of, ident_of, arguments_of, meaning}
use Rattle.resolving.specs.Resolved.{argument_types, are_wrong, unknown_type, wrong_arity, IsRefusedFor, bad_argument}
use Rattle.texts.specs.Lists.{Somewhere}
use Rattle.resolving.specs.Bad.{are_bad}

-- the types among a segment's arguments
abbrev pub segment_arguments : Known → Segment → Option Opens
segment_arguments known (plain x) = Some no_types
segment_arguments known (applied x args) = argument_types known args

-- the error refuses the segment's name, which is not known, has other type arguments than it takes, or is a declaration's and has one that cannot be its argument
abbrev pub IsAtFault : Known → Segment → DeriveError → Type 0
IsAtFault known s e =
    ((meaning known s ≡ meanings.Unknown) × IsRefusedFor (unknown_type (ident_of s)) e)
    ⊎ (IsTrue (are_wrong known (meaning known s) (types_of known (arguments_of s))) × IsRefusedFor (wrong_arity (ident_of s)) e)
    ⊎ (IsTrue (are_bad known s) × IsRefusedFor (bad_argument (ident_of s)) e)

abbrev pub AreAtFault : Known → List Segment → DeriveError → Type 0
AreAtFault known ss e = Somewhere (λ s. IsAtFault known s e) ss

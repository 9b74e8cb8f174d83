-- The names that are known where a type is written.
use Rattle.std.specs.Prelude.{ℕ, List, Option, slice_index, Bool, option_and_then, option_map}
use Rattle.std.specs.List.{slice_get}
use Rattle.std.specs.BTreeMap.{get_by_text}
use Rattle.resolving.specs.declared.known.KnownNames.{KnownNames}
use Rattle.std.specs.Option.{is_some}
use Rattle.written_types.specs.declared.written.WrittenType.{WrittenType}
use Rattle.written_types.specs.Written.{Written, written_view}

-- what aliases stand for; the places of the declarations, and how many type parameters each has; where the type is written: the declaration that
-- is `Self`, how many type parameters it has, the first of a name, and whether a name is that of a constant parameter
pub record Known : Type 0 where
  pub alias_of : List ℕ → Option Written
  pub place_of : List ℕ → Option ℕ
  pub parameters_at : ℕ → ℕ
  pub own : Option ℕ
  pub parameters : ℕ
  pub parameter_of : List ℕ → Option ℕ
  pub is_constant : List ℕ → Bool

-- the type at the place
abbrev pub type_at : List WrittenType → ℕ → Option Written
type_at ts place = option_map written_view (slice_get ts place)

-- what the program knows
abbrev pub known : KnownNames → Known
known names = record {
  alias_of = λ name. option_and_then (type_at names.alias_types.now) (get_by_text names.aliases.now name);
  place_of = get_by_text names.places.now;
  parameters_at = slice_index names.counts.now;
  own = names.own;
  parameters = names.count;
  parameter_of = get_by_text names.parameters.now;
  is_constant = λ name. is_some (get_by_text names.constants.now name);
}

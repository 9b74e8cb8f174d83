-- Reading generic parameters and where clauses from left to right, as functions.
use Rattle.std.specs.Prelude.{List, [], ◌∷◌, Result, Ok, Err}
use Rattle.texts.specs.declared.span.Span.{Span}
use Rattle.written_types.specs.declared.written.Ident.{Ident}
use Rattle.written_types.specs.Written.{Written}
use Rattle.words.specs.declared.vocabulary.Keyword.TheVariants.{Const, Where}
use Rattle.words.specs.declared.vocabulary.Sign.TheVariants.{Less, Greater, Colon, Plus}
use Rattle.words.specs.Words.{Word, lifetime, sign}
use Rattle.words.specs.Reading.{Fault, wrong, Read, ◌>>=◌, name_at, keyword_at, sign_at, lifetime_at}
use Rattle.type_grammar.specs.Reading.{ends_list, ends_clause, list_until}
use Rattle.attributes.specs.AttributeReading.{attributes_at}
use Rattle.syntax.specs.Items.{ParameterItem, lifetime_parameter, type_parameter, const_parameter}

-- how types are read, and what follows bounds
pub record Readers : Type 0 where
  pub ty : List Word → Read Written
  pub after_bounds : List Word → Result (List Word) Fault

-- lifetime ("+" lifetime)*; what follows
abbrev pub after_lifetimes : List Word → Result (List Word) Fault
after_lifetimes (lifetime x ∷ sign Plus s ∷ ws) = after_lifetimes ws
after_lifetimes (lifetime x ∷ ws) = Ok ws
after_lifetimes _ = Err wrong

-- behind a colon, the lifetimes, or nothing where none stands
abbrev pub lifetimes_or_none : List Word → Read Ident → Result (List Word) Fault
lifetimes_or_none ws (Ok x) = after_lifetimes ws
lifetimes_or_none ws (Err e) = Ok ws

abbrev pub outlived_or_not : List Word → Read Span → Result (List Word) Fault
outlived_or_not ws (Ok c) = lifetimes_or_none c.1 (lifetime_at c.1)
outlived_or_not ws (Err e) = Ok ws

unfoldable pub after_outlived : List Word → Result (List Word) Fault
after_outlived ws = outlived_or_not ws (sign_at Colon ws)

abbrev pub bounded_or_not : Readers → List Word → Read Span → Result (List Word) Fault
bounded_or_not r ws (Ok c) = r.after_bounds c.1
bounded_or_not r ws (Err e) = Ok ws

unfoldable pub after_bounded : Readers → List Word → Result (List Word) Fault
after_bounded r ws = bounded_or_not r ws (sign_at Colon ws)

-- a parameter behind its attributes: a lifetime, or behind `const` a constant, or else a type
abbrev pub type_at : Readers → List Word → Read ParameterItem
type_at r ws = name_at ws >>= λ x. after_bounded r x.1 >>= λ rest. Ok (type_parameter x.0, rest)

abbrev pub const_at : Readers → List Word → Read ParameterItem
const_at r ws = name_at ws >>= λ x. sign_at Colon x.1 >>= λ c. r.ty c.1 >>= λ t. Ok (const_parameter x.0, t.1)

abbrev pub const_or_type : Readers → List Word → Read Span → Read ParameterItem
const_or_type r ws (Ok k) = const_at r k.1
const_or_type r ws (Err e) = type_at r ws

abbrev pub lifetime_or_other : Readers → List Word → Read Ident → Read ParameterItem
lifetime_or_other r ws (Ok x) = after_outlived x.1 >>= λ rest. Ok (lifetime_parameter x.0, rest)
lifetime_or_other r ws (Err e) = const_or_type r ws (keyword_at Const ws)

unfoldable pub bare_parameter_at : Readers → List Word → Read ParameterItem
bare_parameter_at r ws = lifetime_or_other r ws (lifetime_at ws)

unfoldable pub parameter_at : Readers → List Word → Read ParameterItem
parameter_at r ws = attributes_at ws >>= λ d. bare_parameter_at r d.1

-- behind `<`, the parameters and `>`
abbrev pub parameters_at : Readers → List Word → Read (List ParameterItem)
parameters_at r ws = list_until ends_list (parameter_at r) ws >>= λ ps. sign_at Greater ps.1 >>= λ close. Ok (ps.0, close.1)

abbrev pub generics_or_none : Readers → List Word → Read Span → Read (List ParameterItem)
generics_or_none r ws (Ok o) = parameters_at r o.1
generics_or_none r ws (Err e) = Ok ([], ws)

unfoldable pub generics_at : Readers → List Word → Read (List ParameterItem)
generics_at r ws = generics_or_none r ws (sign_at Less ws)

-- what a predicate bounds: a lifetime, or else a type; what follows
abbrev pub after_bounded_type : Readers → List Word → Read Ident → Result (List Word) Fault
after_bounded_type r ws (Ok x) = Ok x.1
after_bounded_type r ws (Err e) = r.ty ws >>= λ t. Ok t.1

unfoldable pub predicate_at : Readers → List Word → Read (Unit {0})
predicate_at r ws = after_bounded_type r ws (lifetime_at ws) >>= λ us. sign_at Colon us >>= λ c. r.after_bounds c.1 >>= λ rest. Ok (tt, rest)

-- the predicates behind `where`, where it stands; what follows
abbrev pub predicates_or_none : Readers → List Word → Read Span → Result (List Word) Fault
predicates_or_none r ws (Ok w) = list_until ends_clause (predicate_at r) w.1 >>= λ ps. Ok ps.1
predicates_or_none r ws (Err e) = Ok ws

unfoldable pub after_where : Readers → List Word → Result (List Word) Fault
after_where r ws = predicates_or_none r ws (keyword_at Where ws)

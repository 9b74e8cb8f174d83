-- The grammar of generic parameters and where clauses (The Rust Reference, "Generic parameters"). In `IsX before x rest` the words before begin with an x, and rest is what follows it.
use Rattle.std.specs.Prelude.{List, [], ◌∷◌}
use Rattle.texts.specs.declared.span.Span.{Span}
use Rattle.written_types.specs.declared.written.Ident.{Ident}
use Rattle.written_types.specs.Written.{Written}
use Rattle.words.specs.declared.vocabulary.Keyword.TheVariants.{Const, Where}
use Rattle.words.specs.declared.vocabulary.Sign.TheVariants.{Less, Greater, Colon, Plus}
use Rattle.words.specs.Words.{Word, name, keyword, sign, lifetime}
use Rattle.type_grammar.specs.Grammar.{IsType, IsBounds, IsListOf}
use Rattle.attributes.specs.Attributes.{AttributeItem}
use Rattle.attributes.specs.AttributeGrammar.{IsAttributes}
use Rattle.syntax.specs.Items.{ParameterItem, lifetime_parameter, type_parameter, const_parameter}

-- lifetime ("+" lifetime)*
pub data AreLifetimes : List Word → List Word → Type 0 where
  the_last_lifetime : {x : Ident} {rest : List Word} → AreLifetimes (lifetime x ∷ rest) rest
  one_more_lifetime : {x : Ident} {at : Span} {ws rest : List Word} → AreLifetimes ws rest → AreLifetimes (lifetime x ∷ sign Plus at ∷ ws) rest

-- (":" (lifetime ("+" lifetime)*)?)?
pub data MayBeOutlived : List Word → List Word → Type 0 where
  not_outlived : {rest : List Word} → MayBeOutlived rest rest
  outlived_by_none : {at : Span} {rest : List Word} → MayBeOutlived (sign Colon at ∷ rest) rest
  outlived : {at : Span} {ws rest : List Word} → AreLifetimes ws rest → MayBeOutlived (sign Colon at ∷ ws) rest

-- (":" bounds)?
pub data MayBeBounded : List Word → List Word → Type 0 where
  not_bounded : {rest : List Word} → MayBeBounded rest rest
  bounded : {at : Span} {ws rest : List Word} → IsBounds ws rest → MayBeBounded (sign Colon at ∷ ws) rest

-- attribute* ( lifetime (":" (lifetime ("+" lifetime)*)?)? | name (":" bounds)? | "const" name ":" type ), of whose attributes nothing is kept
pub data IsParameter : List Word → ParameterItem → List Word → Type 0 where
  of_lifetime : {x : Ident} {attrs : List AttributeItem} {ws us rest : List Word} → IsAttributes ws attrs (lifetime x ∷ us) → MayBeOutlived us rest → IsParameter ws (lifetime_parameter x) rest
  of_type : {x : Ident} {attrs : List AttributeItem} {ws us rest : List Word} → IsAttributes ws attrs (name x ∷ us) → MayBeBounded us rest → IsParameter ws (type_parameter x) rest
  of_const : {k x : Ident} {at : Span} {t : Written} {attrs : List AttributeItem} {ws us rest : List Word} → IsAttributes ws attrs (keyword Const k ∷ name x ∷ sign Colon at ∷ us) → IsType us t rest → IsParameter ws (const_parameter x) rest

-- ("<" list of parameter ">")?
pub data IsGenerics : List Word → List ParameterItem → List Word → Type 0 where
  no_generics : {rest : List Word} → IsGenerics rest [] rest
  in_angles : {open_at close_at : Span} {ws rest : List Word} {ps : List ParameterItem} → IsListOf IsParameter ws ps (sign Greater close_at ∷ rest) → IsGenerics (sign Less open_at ∷ ws) ps rest

-- (lifetime | type) ":" bounds, of which nothing is kept
pub data IsPredicate : List Word → Unit {0} → List Word → Type 0 where
  on_lifetime : {x : Ident} {at : Span} {ws rest : List Word} → IsBounds ws rest → IsPredicate (lifetime x ∷ sign Colon at ∷ ws) tt rest
  on_type : {at : Span} {t : Written} {ws us rest : List Word} → IsType ws t (sign Colon at ∷ us) → IsBounds us rest → IsPredicate ws tt rest

-- ("where" list of predicate)?
pub data IsWhere : List Word → List Word → Type 0 where
  no_where : {rest : List Word} → IsWhere rest rest
  where_clause : {x : Ident} {ws rest : List Word} {ps : List (Unit {0})} → IsListOf IsPredicate ws ps rest → IsWhere (keyword Where x ∷ ws) rest

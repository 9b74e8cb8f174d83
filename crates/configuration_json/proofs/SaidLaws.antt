-- What a text of a configuration says, and why a text is refused.
use Rattle.std.proofs.Common.{◌≡◌, ◌∙◌, ℕ, List, [], ◌∷◌, Option, Some, None, inl, inr, sym, subst}
use Rattle.std.proofs.lemmas.Option.{same_Some}
use Rattle.serde_json.specs.Data.{Data, null, boolean, number, string, array, object, Members, no_members, member}
use Rattle.diag.specs.Diagnostics.{HasFirst}
use Rattle.diag.specs.Refusal.{IsRefusal}
use Rattle.diag.specs.declared.diagnostics.DiangosticsInner.{DiangosticsInner}
use Rattle.diag.specs.declared.error.DeriveError.TheVariants.{Refused}
use Rattle.diag.specs.declared.kind.Kind.{Kind}
use Rattle.diag.specs.declared.kind.Kind.TheVariants.{BadConfig, BadRow, AliasDepth}
use Rattle.texts.specs.declared.span.Span.{Span}
use Rattle.written_types.specs.Written.{Written}
use Rattle.type_grammar.specs.Source.{ReadsType}
use Rattle.configuration.specs.Configuration.{Alias, Configuration}
use Rattle.configuration_json.specs.Form.{SaysOrDefault, SaysType, SaysTypeBy, AreMembers, AreMembersBy, AreAliases, AreAliasesBy, HasForm, IsJson, IsConfigurationText, IsRefusedText, SaysInText}
use Rattle.configuration_json.specs.Said.{HaveFault}

-- ---- what is said is what was read
type_said : (value : Data) (t : Written) → SaysType value t → SaysTypeBy ReadsType value t
type_said null t says = absurd says
type_said (boolean b) t says = absurd says
type_said (number n) t says = absurd says
type_said (string s) t says = says.0
type_said (array items) t says = absurd says
type_said (object ms) t says = absurd says

members_said : (ms : Members) (xs : List Alias) → AreMembers ms xs → AreMembersBy ReadsType ms xs
members_said no_members [] says = says
members_said no_members (a ∷ xs) says = absurd says
members_said (member name value ms) [] says = absurd says
members_said (member name value ms) (a ∷ xs) says = (says.0, type_said value a.of says.1, members_said ms xs says.2)

aliases_said : (value : Data) (xs : List Alias) → AreAliases value xs → AreAliasesBy ReadsType value xs
aliases_said null xs says = absurd says
aliases_said (boolean b) xs says = absurd says
aliases_said (number n) xs says = absurd says
aliases_said (string s) xs says = absurd says
aliases_said (array items) xs says = absurd says
aliases_said (object ms) xs says = members_said ms xs says

given_said : (o : Option Data) (xs : List Alias) → SaysOrDefault AreAliases [] o xs → SaysOrDefault (AreAliasesBy ReadsType) [] o xs
given_said None xs says = says
given_said (Some value) xs says = aliases_said value xs says

pub said_in_text : (bytes : List ℕ) (c : Configuration) → IsConfigurationText bytes c → SaysInText bytes c
said_in_text bytes c is = record { value = is.value; json = is.json; says = record { others = is.says.others; aliases = given_said _ c.aliases is.says.aliases } }

-- ---- refusals
-- bytes are one value
one_value : (bytes : List ℕ) (v w : Data) → IsJson bytes v → IsJson bytes w → v ≡ w
one_value bytes v w of_v of_w = same_Some v w (sym of_v.reads ∙ of_w.reads)

module _ (kind : Kind) (ds : List DiangosticsInner) (bytes : List ℕ) (first : HasFirst ds (λ d. d.kind ≡ kind)) where
  -- a refusal has its own kind
  own_kind : (own : Kind) (span : Span) (message : List ℕ) → IsRefusal own span message (Refused ds) → own ≡ kind
  own_kind own span message is = subst (λ es. HasFirst es (λ d. d.kind ≡ kind)) is first

  pub text_fault : IsRefusedText bytes (Refused ds) → HaveFault kind bytes
  text_fault (inl (none, bad)) = subst (λ k. HaveFault k bytes) (own_kind BadConfig _ _ bad) (λ value json. absurd (none value json))
  text_fault (inr (value, json, inl (formless, bad))) =
      subst (λ k. HaveFault k bytes) (own_kind BadConfig _ _ bad) (λ other read. subst (λ v. ¬ (HasForm v)) (one_value bytes value other json read) formless)
  text_fault (inr (value, json, inr (inl (row, bad)))) = subst (λ k. HaveFault k bytes) (own_kind BadRow _ _ bad) (value, json, row)
  text_fault (inr (value, json, inr (inr (deep, bad)))) = subst (λ k. HaveFault k bytes) (own_kind AliasDepth _ _ bad) (value, json, deep)

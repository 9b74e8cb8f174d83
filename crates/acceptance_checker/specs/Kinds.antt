-- The keyword that a member of a schema is, by what the program calls it (JSON Schema 2020-12: Core, 10; Validation, 6), and how numbers compare under it.
use Rattle.std.specs.Prelude.{ℕ, ℤ, pos, Bool, int_le}
use Rattle.acceptance.specs.Acceptance.{int_below, is_multiple}
use Rattle.acceptance.specs.Keyword.{Keyword, other, types, enumeration, minimum, maximum, exclusive_minimum, exclusive_maximum, multiple_of, min_length, max_length, properties, required, additional_properties, property_names, min_properties, max_properties, prefix_items, items, unique_items, min_items, max_items, all_of, any_of, one_of, reference}
use Rattle.acceptance_checker.specs.declared.keyword.Keyword.{Keyword as Word}
use Rattle.acceptance_checker.specs.declared.keyword.Keyword.TheVariants as word
use Rattle.acceptance_checker.specs.declared.keyword.Assertion.{Assertion}
use Rattle.acceptance_checker.specs.declared.keyword.Assertion.TheVariants as assertion
use Rattle.acceptance_checker.specs.declared.keyword.Comparison.{Comparison}
use Rattle.acceptance_checker.specs.declared.keyword.Comparison.TheVariants as comparison
use Rattle.acceptance_checker.specs.declared.keyword.Limit.{Limit}
use Rattle.acceptance_checker.specs.declared.keyword.Limit.TheVariants as limit
use Rattle.acceptance_checker.specs.declared.keyword.Applicator.{Applicator}
use Rattle.acceptance_checker.specs.declared.keyword.Applicator.TheVariants as applicator

abbrev pub comparison_meant : Comparison → Keyword
comparison_meant comparison.Minimum = minimum
comparison_meant comparison.Maximum = maximum
comparison_meant comparison.ExclusiveMinimum = exclusive_minimum
comparison_meant comparison.ExclusiveMaximum = exclusive_maximum
comparison_meant comparison.MultipleOf = multiple_of

-- the one of the two that asks for at least as many, or the one that asks for at most as many
abbrev pub limit_meant : Limit → Keyword → Keyword → Keyword
limit_meant limit.AtLeast least most = least
limit_meant limit.AtMost least most = most

-- how two numbers compare, and a number and a count
abbrev pub comparison_holds : Comparison → ℤ → ℤ → Bool
comparison_holds comparison.Minimum n m = int_le n m
comparison_holds comparison.Maximum n m = int_le m n
comparison_holds comparison.ExclusiveMinimum n m = int_below n m
comparison_holds comparison.ExclusiveMaximum n m = int_below m n
comparison_holds comparison.MultipleOf n m = is_multiple n m

abbrev pub limit_holds : Limit → ℤ → ℕ → Bool
limit_holds limit.AtLeast n count = int_le n (pos count)
limit_holds limit.AtMost n count = int_le (pos count) n

abbrev pub assertion_meant : Assertion → Keyword
assertion_meant assertion.Types = types
assertion_meant assertion.Enumeration = enumeration
assertion_meant (assertion.Number c) = comparison_meant c
assertion_meant (assertion.Length l) = limit_meant l min_length max_length
assertion_meant assertion.Required = required
assertion_meant (assertion.Properties l) = limit_meant l min_properties max_properties
assertion_meant assertion.UniqueItems = unique_items
assertion_meant (assertion.Items l) = limit_meant l min_items max_items

abbrev pub applicator_meant : Applicator → Keyword
applicator_meant applicator.Properties = properties
applicator_meant applicator.AdditionalProperties = additional_properties
applicator_meant applicator.PropertyNames = property_names
applicator_meant applicator.PrefixItems = prefix_items
applicator_meant applicator.Items = items
applicator_meant applicator.AllOf = all_of
applicator_meant applicator.AnyOf = any_of
applicator_meant applicator.OneOf = one_of
applicator_meant applicator.Reference = reference

abbrev pub keyword_meant : Word → Keyword
keyword_meant (word.Assertion a) = assertion_meant a
keyword_meant (word.Applicator a) = applicator_meant a
keyword_meant word.Other = other

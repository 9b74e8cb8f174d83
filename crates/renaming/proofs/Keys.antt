-- What rows are for is told apart by its order.
use Rattle.std.proofs.Common.{ℕ, List, true, cond, ◌≡◌, refl, ap, sym, ◌∙◌, bytes_eq, codes}
use Rattle.std.specs.Cmp.{Equal-is, eq_by_cmp_equiv}
use Rattle.std.specs.Cmp.Lexicographic.{slice_cmp, texts_ties, bytes_decides}
use Rattle.std.specs.Ordering.{nat_cmp, is_eq, ordering_then}
use Rattle.std.specs.declared.cmp.Ordering.{Ordering}
use Rattle.std.specs.declared.cmp.Ordering.TheVariants.{Less, Equal, Greater}
use Rattle.std.proofs.lemmas.Cmp.{tied_itself}
use Rattle.diag.specs.declared.rename_rule.RenameRule.{RenameRule}
use Rattle.diag.specs.declared.rename_row.RenamePlace.{RenamePlace}
use Rattle.diag.specs.declared.rename_row.RenamePlace.TheVariants.{Field, Variant}
use Rattle.diag.specs.RenameRules.{name_of}
use Rattle.configuration.specs.Configuration.{place_name}
use Rattle.renaming.specs.declared.row_key.RowKey.{RowKey}
use Rattle.renaming.specs.Rows.{key_cmp, key_cmp_total}

-- ---- places have names of their own

place_named : List ℕ → RenamePlace
place_named name = cond (bytes_eq name (codes "field")) Field Variant

named_place : (place : RenamePlace) → place_named (place_name place) ≡ place
unfolding place_named
named_place Field = refl
named_place Variant = refl

place_from_name : (one other : RenamePlace) → place_name one ≡ place_name other → one ≡ other
place_from_name one other same = sym (named_place one) ∙ ap place_named same ∙ named_place other

-- ---- ties

then_tied : (o p : Ordering) → ordering_then o p ≡ Equal → (o ≡ Equal) × (p ≡ Equal)
then_tied Less p tie = absurd (cc)
then_tied Equal p tie = (refl, tie)
then_tied Greater p tie = absurd (cc)

text_from_tie : (a b : List ℕ) → slice_cmp nat_cmp a b ≡ Equal → a ≡ b
text_from_tie a b tie = (bytes_decides a b).0 (texts_ties a b ∙ ap is_eq tie)

pub same_key : (k j : RowKey) → k.rule ≡ j.rule → k.place ≡ j.place → k.from ≡ j.from → k ≡ j
same_key k j rules places names = λ i. record { rule = rules i; place = places i; from = names i }

-- the statement of diag's law
abbrev pub RulesHaveOwnNames : Type 0
RulesHaveOwnNames = (one other : RenameRule) → name_of one ≡ name_of other → one ≡ other

key_from_tie : RulesHaveOwnNames → (k j : RowKey) → key_cmp k j ≡ Equal → k ≡ j
key_from_tie own k j tie =
    let first : (slice_cmp nat_cmp (name_of k.rule) (name_of j.rule) ≡ Equal) × (ordering_then (slice_cmp nat_cmp (place_name k.place) (place_name j.place)) (slice_cmp nat_cmp k.from j.from) ≡ Equal) = then_tied _ _ tie in
    let second : (slice_cmp nat_cmp (place_name k.place) (place_name j.place) ≡ Equal) × (slice_cmp nat_cmp k.from j.from ≡ Equal) = then_tied _ _ first.1 in
    same_key k j (own k.rule j.rule (text_from_tie _ _ first.0)) (place_from_name k.place j.place (text_from_tie _ _ second.0)) (text_from_tie _ _ second.1)

pub key_found : RulesHaveOwnNames → (k j : RowKey) → is_eq (key_cmp k j) ≡ true → k ≡ j
key_found own k j found = key_from_tie own k j ((Equal-is (key_cmp k j)).0 found)

pub key_itself : (k : RowKey) → is_eq (key_cmp k k) ≡ true
key_itself k = ap is_eq (tied_itself key_cmp_total k)

pub key_turned : (k j : RowKey) → is_eq (key_cmp k j) ≡ is_eq (key_cmp j k)
key_turned k j = (eq_by_cmp_equiv key_cmp_total).symm k j

-- Which aliases of files name types.
use Rattle.std.proofs.Common.{◌≡◌, ◌∙◌, ◌⊎◌, ◌↔◌, inl, inr, refl, ap, sym, subst, List, [], ◌∷◌, ℕ, Bool, true, false, not, cond, MatchBool, IsTrue, Option, Some, None, is_some}
use Rattle.configuration.specs.Aliases.{alias_names, IsTypeText}
use Rattle.configuration.specs.Configuration.{Alias, Configuration, with_aliases}
use Rattle.diag.specs.declared.diagnostics.DiangosticsInner.{DiangosticsInner}
use Rattle.diag.specs.declared.error.DeriveError.{DeriveError}
use Rattle.diag.specs.declared.error.DeriveError.TheVariants.{Refused, Memory}
use Rattle.prepare.specs.declared.file_items.FileAlias.{FileAlias}
use Rattle.texts.specs.declared.span.Span.{Span}
use Rattle.type_grammar.specs.Source.{ReadsType, TypeNestsTooDeep, IsNoType, IsDeepType}
use Rattle.texts.specs.Names.{place_in}
use Rattle.written_types.specs.Written.{Written}
use Rattle.selecting.specs.Lists.{is_named}
use Rattle.selecting.specs.Types.{is_path_to, NamesType, with_new}

abbrev pub OneType : Type 0
OneType = (text : List ℕ) (t u : Written) → ReadsType text t → ReadsType text u → t ≡ u

pub read_text : (text of : List ℕ) (t : Written) → text ≡ of → ReadsType text t → ((span : Span) → TypeNestsTooDeep text span → ⊥) → IsTypeText of t
read_text text of t same reads shallow = subst (λ v. IsTypeText v t) same (reads, shallow)

module _ (c : Configuration) (a : FileAlias) where
  pub none_named : is_named a.declared.name (alias_names c.aliases) ≡ true → NamesType c a → ⊥
  none_named e (t, names) = let both : true ≡ false = sym e ∙ names.0 in cc

  pub none_refused : (e : DeriveError) (ds : List DiangosticsInner) → e ≡ Refused ds → (e ≡ Memory) ⊎ IsDeepType a.of e ⊎ IsNoType a.of e → NamesType c a → ⊥
  none_refused e ds is (inl memory) (t, names) = let both : Refused ds ≡ Memory = sym is ∙ memory in cc
  none_refused e ds is (inr (inl deep)) (t, names) = names.1.1 deep.0 deep.2
  none_refused e ds is (inr (inr none)) (t, names) = none.3 t names.1.0

  path_none : OneType → (t : Written) → IsTypeText a.of t → true ≡ is_path_to a.declared.name t → NamesType c a → ⊥
  path_none one t is e (u, names) =
      let same = one a.of u t names.1.0 is.0 in
      let path : is_path_to a.declared.name t ≡ false = subst (λ v. is_path_to a.declared.name v ≡ false) same names.2 in
      let both : true ≡ false = e ∙ path in
      cc

  pub judged : OneType → (t : Written) → is_named a.declared.name (alias_names c.aliases) ≡ false → IsTypeText a.of t → (b : Bool) → b ≡ is_path_to a.declared.name t → MatchBool (not b) (NamesType c a) (NamesType c a → ⊥)
  judged one t none is true e = path_none one t is e
  judged one t none is false e = (t, (none, is, sym e))

-- an alias is put behind the others where its name is new
by_place : (c : Configuration) (x : Alias) (d : Configuration) (o : Option ℕ) (b : Bool) → d ≡ cond b (with_aliases c (x ∷ [])) c → IsTrue b ↔ (o ≡ None) → d ≡ cond (is_some o) c (with_aliases c (x ∷ []))
by_place c x d None true e h = e
by_place c x d None false e h = let found = h.1 refl in cc
by_place c x d (Some n) true e h = let none = h.0 refl in cc
by_place c x d (Some n) false e h = e

pub new_is : (c : Configuration) (x : Alias) (d : Configuration) (name : List ℕ) → name ≡ x.name → (b : Bool) → d ≡ cond b (with_aliases c (record { name = name; of = x.of } ∷ [])) c → IsTrue b ↔ (place_in name (alias_names c.aliases) ≡ None) → d ≡ with_new c x
new_is c x d name same b e h =
    by_place c x d (place_in x.name (alias_names c.aliases)) b (e ∙ ap (λ (n : List ℕ). cond b (with_aliases c (record { name = n; of = x.of } ∷ [])) c) same) (subst (λ n. IsTrue b ↔ (place_in n (alias_names c.aliases) ≡ None)) same h)

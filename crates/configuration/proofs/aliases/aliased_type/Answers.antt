use Rattle.std.proofs.Common.{◌≡◌, ◌⊎◌, ◌∙◌, ℕ, List, inl, inr, sym}
use Rattle.diag.specs.declared.diagnostics.DiangosticsInner.{DiangosticsInner}
use Rattle.diag.specs.declared.error.DeriveError.{DeriveError}
use Rattle.diag.specs.declared.error.DeriveError.TheVariants.{Refused, Memory}
use Rattle.type_grammar.specs.Source.{IsNoType, IsDeepType}
use Rattle.written_types.specs.Written.{Written}
use Rattle.configuration.specs.Aliases.{IsTypeText}
use Rattle.configuration.proofs.aliases.aliased_type.Goals as goal

-- a text that is refused is no type
text_unread : (text : List ℕ) (e : DeriveError) (ds : List DiangosticsInner) → e ≡ Refused ds → (e ≡ Memory) ⊎ IsDeepType text e ⊎ IsNoType text e → (t : Written) → IsTypeText text t → ⊥
text_unread text e ds refused (inl memory) t says = let both : Refused ds ≡ Memory = sym refused ∙ memory in cc
text_unread text e ds refused (inr (inl deep)) t says = says.1 deep.0 deep.2
text_unread text e ds refused (inr (inr none)) t says = none.3 t says.0

pub returns-clause-refused : goal.returns-clause-refused
returns-clause-refused c =
    let none = text_unread c.args.text.now c.in-Err-Refused.field-0 c.in-Err-Refused.field-0-0 c.in-Err-Refused.field-0-is c.in-Err-Refused.ensures.refused in
    elim c.bad_row.ensures [ inl memory ↦ inl memory | inr bad ↦ inr (bad, none) ]

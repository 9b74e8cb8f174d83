use Rattle.std.proofs.Common.{◌≡◌, ◌∙◌, ◌⊎◌, ℕ, List, subst}
use Rattle.diag.specs.declared.error.DeriveError.TheVariants.{Refused}
use Rattle.lexing.specs.Cut.{IsDepthError}
use Rattle.prepare.specs.FileItems.{AreItemsOf, AreImplsOf, AreAliasesOf}
use Rattle.prepare.specs.FileTexts.{text_of_file}
use Rattle.prepare.specs.Prepared.{IsNoFile}
use Rattle.gathering.specs.Files.{file_of}
use Rattle.gathering.proofs.Taking.{has_of, cause_of, stopped_of}
use Rattle.gathering.proofs.gathered.parts_of.Goals as goal

pub returns-in-Ok-clause-items : goal.returns-in-Ok-clause-items
returns-in-Ok-clause-items c = has_of AreItemsOf c.args.file c.args.source.now.bytes.now c.as_str.ensures c.in_ok-text.ensures.text c.in-Ok.ensures.items c.in-Ok.ensures.shallow

pub returns-in-Ok-clause-impls : goal.returns-in-Ok-clause-impls
returns-in-Ok-clause-impls c = has_of AreImplsOf c.args.file c.args.source.now.bytes.now c.as_str.ensures c.in_ok-text.ensures.text c.in-Ok.ensures.impls c.in-Ok.ensures.shallow

pub returns-in-Ok-clause-aliases : goal.returns-in-Ok-clause-aliases
returns-in-Ok-clause-aliases c = has_of AreAliasesOf c.args.file c.args.source.now.bytes.now c.as_str.ensures c.in_ok-text.ensures.text c.in-Ok.ensures.aliases c.in-Ok.ensures.shallow

pub returns-clause-told : goal.returns-clause-told
returns-clause-told c =
    let f = file_of c.args.source.now in
    let text = c.in_ok-text.ensures.text in
    let is : c.as_str.result.now ≡ text_of_file f.bytes = c.as_str.ensures ∙ text.2 in
    let refusal = c.in-Err-Refused.refusal in
    let cause = cause_of c.as_str.result.now c.in-Err-Refused.field-0 _ refusal c.in-Err-Refused.field-0-is c.in-Err-Refused.refusal-is c.in-Err-Refused.ensures.refused in
    stopped_of f c.as_str-in-Err-Refused.result.now refusal c.in_ok-told-in-Err-Refused.told (c.as_str-in-Err-Refused.ensures ∙ text.2) text.0 text.1
    (subst (λ (v : List ℕ). IsDepthError v (Refused refusal) ⊎ IsNoFile v (Refused refusal)) is cause) c.in_ok-told-in-Err-Refused.ensures

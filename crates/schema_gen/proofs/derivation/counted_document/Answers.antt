use Rattle.std.proofs.Common.{◌≡◌, ◌⊎◌, ◌∙◌, ℕ, List, length, inl, inr, sym, subst}
use Rattle.std.proofs.lemmas.Result.{err_from_is_err_and}
use Rattle.diag.specs.declared.error.DeriveError.{DeriveError}
use Rattle.diag.specs.declared.error.DeriveError.TheVariants.{Memory}
use Rattle.schema_trees.specs.Held.{IsHeld}
use Rattle.schema_core.specs.Document.{Entry, document, text_of}
use Rattle.schema_core.specs.OneText.{OneText}
use Rattle.configuration.specs.Configuration.{Configuration}
use Rattle.closing.specs.Described.{Describes}
use Rattle.compose.specs.Bounds.{collects_all}
use Rattle.compose.specs.Faults.{IsDerived, IsRefused}
use Rattle.schema_gen.specs.Derived.{IsDocumentOf}
use Rattle.reporting.specs.Bytes.{IsText}
use Rattle.schema_gen.specs.Refusals.{IsRefusedSource}
use Rattle.schema_gen.proofs.derivation.counted_document.Goals as goal

-- what refuses the text refuses its bytes
refused_bytes : (config : Configuration) (source bytes : List ℕ) (e : DeriveError) → source ≡ bytes → IsText bytes → (e ≡ Memory) ⊎ IsRefused config source e → (e ≡ Memory) ⊎ IsRefusedSource config bytes e
refused_bytes config source bytes e same is_text (inl memory) = inl memory
refused_bytes config source bytes e same is_text (inr refused) = inr (inr (inr (is_text, subst (λ b. IsRefused config b e) same refused)))

-- the document of the text is that of its bytes, and has so many components
document_of_bytes : (config : Configuration) (source bytes text : List ℕ) (components : List Entry) (count : ℕ) → source ≡ bytes → IsText bytes → count ≡ length components
    → (made : IsDerived config source components) × Describes made.derived.resolved (collects_all config.collect) (document components) → text ≡ text_of (document components) → IsHeld (document components) → OneText
    → (of : IsDocumentOf config bytes text) × (count ≡ length of.components)
document_of_bytes config source bytes text components count same is_text counted made text_is held one =
    subst (λ b. (of : IsDocumentOf config b text) × (count ≡ length of.components)) same (
      record {
        is_text = subst IsText (sym same) is_text;
        components = components;
        made = made.0;
        describes = made.1;
        text_is = text_is;
        held = held;
        one = λ x short is. one x (document components) short held.0 (sym is ∙ text_is);
      },
      counted,
    )

pub returns-in_err-composition-clause-refused : goal.returns-in_err-composition-clause-refused
returns-in_err-composition-clause-refused c =
    let source = c.in_ok-source.ensures.text in
    let p = err_from_is_err_and c.from_residual-in_err-composition.result c.from_residual-in_err-composition.ensures.1 in
    rw (p.1, p.2) (refused_bytes c.args.config.now _ _ _ source.0 (record { short = c.requires; utf8 = source.1 }) c.in_err-composition.ensures.refused)

pub returns-clause-made : goal.returns-clause-made
returns-clause-made c =
    let source = c.in_ok-source.ensures.text in
    document_of_bytes _ _ _ _ _ _ source.0 (record { short = c.requires; utf8 = source.1 }) c.len.ensures c.in_ok-composition.ensures.describes c.in_ok-text.ensures.text c.in_ok-text.ensures.held c.texts_are_one.ensures

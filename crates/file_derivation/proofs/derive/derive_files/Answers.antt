use Rattle.std.proofs.Common.{◌≡◌, List, map, take, sym, subst, arith}
use Rattle.std.proofs.lemmas.Grind.{common_steps}
use Rattle.gathering.specs.Files.{FileOf, Gathers, file_of}
use Rattle.gathering.specs.declared.source.Source.{Source}
use Rattle.schema_core.specs.Document.{Entry}
use Rattle.file_derivation.specs.Outcomes.{AreDerivedFrom, AreTold, IfToldIs}
use Rattle.file_derivation.specs.declared.derive.Refusal.{Refusal}
use Rattle.file_derivation.proofs.derive.derive_files.Goals as goal

pub returns-in_ok-derived-in-Ok-clause-derived : goal.returns-in_ok-derived-in-Ok-clause-derived
returns-in_ok-derived-in-Ok-clause-derived c =
    let s = c.args.selection.now in
    let config = c.args.config in
    let files = map file_of c.args.sources.now in
    let whole : take c.loop-source.source-index c.args.sources.now ≡ c.args.sources.now = grind (arith, common_steps) in
    let gathers = subst (λ (v : List Source). Gathers (map file_of v) c.loop-source.gathered) whole c.loop-source.invariant in
    let made = c.in-Ok.ensures.derived files gathers in
    (made.0, subst (λ (v : List Entry). AreDerivedFrom s config files v made.0) (sym c.in_ok-derived-in-Ok.ensures) made.1, made.2)

pub returns-in-Err-Told-clause-complete : goal.returns-in-Err-Told-clause-complete
returns-in-Err-Told-clause-complete c = λ sound.
    let s = c.args.selection.now in
    let config = c.args.config in
    let files = map file_of c.args.sources.now in
    let whole : take c.loop-source.source-index c.args.sources.now ≡ c.args.sources.now = grind (arith, common_steps) in
    let gathers = subst (λ (v : List Source). Gathers (map file_of v) c.loop-source.gathered) whole c.loop-source.invariant in
    let told = subst (λ (r : Refusal). IfToldIs (λ told. (files : List FileOf) → Gathers files c.loop-source.gathered → AreTold s config files told) r) c.in-Err-Told.field-0-is c.in-Err-Told.ensures.told in
    c.sound_are_not_told.ensures s config files c.in-Err-Told.told sound (told files gathers)

use Rattle.std.proofs.Common.{◌∙◌, inl, inr, subst}
use Rattle.std.proofs.lemmas.Result.{err_from_is_err_and}
use Rattle.streams.specs.Faults.{CountsFault}
use Rattle.file_runs.proofs.Ended.{config_ends, named_ends}
use Rattle.file_runs.proofs.OptionFiles.{document_back, tells_back}
use Rattle.file_runs.proofs.options.options_at.Goals as goal

pub returns-in_err-config-clause-ending : goal.returns-in_err-config-clause-ending
returns-in_err-config-clause-ending g c =
    let p = err_from_is_err_and c.from_residual.result c.from_residual.ensures.1 in
    let told = c.in_err-config.ensures.ending in
    rw (p.1, p.2) (config_ends (g.F.Files.tells c.args.files.now) (g.F.Files.held c.args.files.now) c.args.request.now _ told.0 told.1 told.2)

pub returns-in_err-config-clause-failed : goal.returns-in_err-config-clause-failed
returns-in_err-config-clause-failed g c =
    let p = err_from_is_err_and c.from_residual.result c.from_residual.ensures.1 in
    let told = c.in_err-config.ensures.ending in
    rw (p.1, p.2) (λ fault. (told.0, inl told.1, told.3 fault))

pub returns-in_err-openapi-clause-ending : goal.returns-in_err-openapi-clause-ending
returns-in_err-openapi-clause-ending g c =
    let p = err_from_is_err_and c.from_residual-in_err-openapi.result c.from_residual-in_err-openapi.ensures.1 in
    let told = c.in_err-openapi.ensures.ending in
    let before = c.in_ok-config.ensures in
    let tells = g.F.Files.tells c.args.files.now in
    let held = g.F.Files.held c.args.files.now in
    rw (p.1, p.2) (named_ends tells held c.args.request.now _ told.0 (inl told.1) (tells_back (g.F.Files.tells c.config_at.new.files) tells (g.F.Files.held c.config_at.new.files) held before.tells_on before.same told.0 _ told.2))

pub returns-in_err-openapi-clause-failed : goal.returns-in_err-openapi-clause-failed
returns-in_err-openapi-clause-failed g c =
    let p = err_from_is_err_and c.from_residual-in_err-openapi.result c.from_residual-in_err-openapi.ensures.1 in
    let told = c.in_err-openapi.ensures.ending in
    let kept = c.in_ok-config.ensures.kept (λ e. cc) (λ e. cc) in
    rw (p.1, p.2) (λ fault. let failed = told.3 fault in (told.0, inr (inl told.1), (subst (λ n. CountsFault n (g.F.Files.faults c.document_at.new.files)) kept failed.0, failed.1, failed.2)))

pub returns-in_err-check-clause-ending : goal.returns-in_err-check-clause-ending
returns-in_err-check-clause-ending g c =
    let p = err_from_is_err_and c.from_residual-in_err-check.result c.from_residual-in_err-check.ensures.1 in
    let told = c.in_err-check.ensures.ending in
    let before = c.in_ok-config.ensures in
    let later = c.in_ok-openapi.ensures in
    let tells = g.F.Files.tells c.args.files.now in
    let held = g.F.Files.held c.args.files.now in
    rw (p.1, p.2) (
    named_ends tells held c.args.request.now _ told.0 (inr told.1)
    (tells_back (g.F.Files.tells c.document_at.new.files) tells (g.F.Files.held c.document_at.new.files) held (later.tells_on ∙ before.tells_on) (λ path. later.same path ∙ before.same path) told.0 _ told.2)
    )

pub returns-in_err-check-clause-failed : goal.returns-in_err-check-clause-failed
returns-in_err-check-clause-failed g c =
    let p = err_from_is_err_and c.from_residual-in_err-check.result c.from_residual-in_err-check.ensures.1 in
    let told = c.in_err-check.ensures.ending in
    let kept = c.in_ok-openapi.ensures.kept (λ e. cc) (λ e. cc) ∙ c.in_ok-config.ensures.kept (λ e. cc) (λ e. cc) in
    rw (p.1, p.2) (λ fault. let failed = told.3 fault in (told.0, inr (inr told.1), (subst (λ n. CountsFault n (g.F.Files.faults c.document_at-2.new.files)) kept failed.0, failed.1, failed.2)))

pub returns-clause-openapi : goal.returns-clause-openapi
returns-clause-openapi g c =
    let before = c.in_ok-config.ensures in
    document_back (g.F.Files.tells c.config_at.new.files) (g.F.Files.tells c.args.files.now) (g.F.Files.held c.config_at.new.files) (g.F.Files.held c.args.files.now) before.tells_on before.same c.args.request.now.openapi _ c.in_ok-openapi.ensures.said

pub returns-clause-check : goal.returns-clause-check
returns-clause-check g c =
    let before = c.in_ok-config.ensures in
    let later = c.in_ok-openapi.ensures in
    document_back (g.F.Files.tells c.document_at.new.files) (g.F.Files.tells c.args.files.now) (g.F.Files.held c.document_at.new.files) (g.F.Files.held c.args.files.now) (later.tells_on ∙ before.tells_on) (λ path. later.same path ∙ before.same path)
    c.args.request.now.check _ c.in_ok-check.ensures.said

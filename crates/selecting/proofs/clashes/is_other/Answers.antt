use Rattle.std.proofs.Common.{◌∙◌, ℕ, List, not, bytes_eq, map, option_map, ap, sym}
use Rattle.std.proofs.lemmas.Bool.{ltb-true}
use Rattle.std.specs.Borrow.{Bor}
use Rattle.prepare.specs.declared.file_items.FileAlias.{FileAlias}
use Rattle.selecting.specs.Clashes.{is_other}
use Rattle.selecting.proofs.Rest.{text_at}
use Rattle.selecting.proofs.clashes.is_other.Goals as goal

pub returns-in-Some-get : goal.returns-in-Some-get
returns-in-Some-get c =
    let of = c.args.of.now in
    let shown = map (λ (a : Bor FileAlias). a.now) c.args.aliases.now in
    let at = text_at c.args.aliases.now c.in-Some.at.now c.in-Some-get.first.now (ltb-true _ _ (sym c.in-Some-get.ensures.lookup.0)) c.in-Some-get.ensures.lookup.1 in
    c.ne.ensures
    ∙ ap (λ (v : List ℕ). not (bytes_eq v of)) (c.as_str.ensures ∙ sym at)
    ∙ ap (λ o. is_other shown of (option_map (λ (n : Bor ℕ). n.now) o)) (sym c.in-Some.is)

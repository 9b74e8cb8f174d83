use Rattle.std.proofs.Common.{◌≡◌, ◌<◌, ◌≤◌, length, get_or, sym, ap, ◌∙◌, arith}
use Rattle.std.proofs.lemmas.Grind.{common_steps}
use Rattle.scopes.proofs.TextLaws.{name_at-item, name_at-end}
use Rattle.scopes.proofs.text.name_at.Goals as goal

pub returns-in-Some : goal.returns-in-Some
returns-in-Some g c =
    let f = g.T.Named.ident_of in
    let items = c.args.items.now in
    let x = c.in-Some.item.now in
    let inside : c.args.place < length items = grind (arith, common_steps, c.in-Some.ensures.lookup) in
    let is : x ≡ get_or items c.args.place x = grind (arith, common_steps, c.in-Some.ensures.lookup) in
    c.as_str.ensures ∙ ap (λ i. i.text) c.ident.ensures ∙ sym (name_at-item f items c.args.place x inside is)

pub returns-in-None : goal.returns-in-None
returns-in-None g c =
    let past : length c.args.items.now ≤ c.args.place = grind (arith, common_steps, c.in-None.ensures.lookup) in
    sym (name_at-end g.T.Named.ident_of c.args.items.now c.args.place past)

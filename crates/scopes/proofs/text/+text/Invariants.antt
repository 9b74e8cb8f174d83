use Rattle.std.proofs.Common.{◌≡◌, ◌++◌, map, drop}
use Rattle.open_types.specs.Open.{opens_view}
use Rattle.scopes.specs.Texts.{name_at, texts_from}
use Rattle.scopes.proofs.text.+text.Given as goal

-- what is written and what is left are the whole
abbrev pub invariant-push_types-loop-at : goal.invariant-push_types-loop-at
invariant-push_types-loop-at g l =
    let names = name_at (map g.T.Named.ident_of l.names) in
    l.text ++ texts_from names l.at (opens_view (drop l.at l.types)) ≡ l.initial.text ++ texts_from names 0 (opens_view l.types)

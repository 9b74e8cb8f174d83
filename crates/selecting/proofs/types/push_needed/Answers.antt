use Rattle.std.proofs.Common.{◌≡◌, ◌-◌, List, length, take, drop, map, sym, subst}
use Rattle.std.specs.Borrow.{Bor}
use Rattle.configuration.specs.Configuration.{Alias, Configuration}
use Rattle.prepare.specs.declared.file_items.FileAlias.{FileAlias}
use Rattle.written_types.specs.Written.{written_view}
use Rattle.selecting.specs.Types.{Adds, with_new}
use Rattle.selecting.proofs.Rest.{split_first}
use Rattle.selecting.proofs.Typed.{read_text, new_is}
use Rattle.selecting.proofs.types.push_needed.Goals as goal

abbrev shown : List (Bor FileAlias) → List FileAlias
shown aliases = map (λ a. a.now) aliases

pub aliases-preserved : goal.aliases-preserved
aliases-preserved c = λ d adds.
    let config = c.aliases.config in
    let x = c.first-item.result in
    let t = written_view c.in-Ok.ty in
    let alias : Alias = record { name = x.now.declared.name; of = t } in
    let pushed : c.push_alias.new.self ≡ with_new config alias =
    new_is config alias c.push_alias.new.self c.as_str-in-len1-up.result.now c.as_str-in-len1-up.ensures c.in_ok-_is_new._is_new c.in_ok-_is_new.ensures.ok c.in_ok-_is_new.ensures.new in
    let split = split_first c.aliases.rest.now x c.in-len1-up.len_at_least c.first-item.is in
    let text = read_text c.as_str.result.now x.now.of t c.as_str.ensures c.in-Ok.ensures.found c.in-Ok.ensures.shallow in
    let behind = subst (λ (v : Configuration). Adds v (shown (take (length c.aliases.rest.now - 1) (drop 1 c.aliases.rest.now))) d) pushed adds in
    c.aliases.invariant d (subst (λ (v : List (Bor FileAlias)). Adds config (shown v) d) (sym split) (t, text, behind))

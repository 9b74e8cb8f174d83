use Rattle.std.proofs.Common.{◌∙◌, ℕ, List, ap₂, map}
use Rattle.syntax.specs.Items.{declaration_view}
use Rattle.prepare.specs.Blanks.{text_read}
use Rattle.gathering.specs.Telling.{told_by}
use Rattle.gathering.proofs.Together.{read_so_far, told_so_far, refused_is}
use Rattle.gathering.proofs.reading.Reading.add.Goals as goal

pub returns-in_ok-push_times-in-Ok : goal.returns-in_ok-push_times-in-Ok
returns-in_ok-push_times-in-Ok c =
    let i = c.args.item.now in
    let own = c.in-Ok.declarations.items in
    let read = c.in-Ok.ensures.read in
    read_so_far c.args.names.now i c.args.self.now c.append.result own c.append.new.self c.push_times.new.from c.len.result
    read (c.read_fields_are_named.ensures (text_read i) (map declaration_view own) read.read) c.len.ensures c.in_ok-push_times-in-Ok.ensures c.append.ensures.ok

pub returns-in_ok-told-in-Err-Refused : goal.returns-in_ok-told-in-Err-Refused
returns-in_ok-told-in-Err-Refused c =
    let i = c.args.item.now in
    let d = c.in-Err-Refused.refusal in
    let refused = refused_is (text_read i) c.in-Err-Refused.field-0 _ d c.in-Err-Refused.field-0-is c.in-Err-Refused.refusal-is c.in-Err-Refused.ensures.refused in
    let told = c.in_ok-told-in-Err-Refused.ensures ∙ ap₂ (λ (name text : List ℕ). told_by name i.place text d) c.file_name-name.ensures c.as_str.ensures in
    told_so_far c.args.names.now i c.args.self.now c.push.result d c.in_ok-told-in-Err-Refused.told c.push.new.self refused told c.push.ensures.ok

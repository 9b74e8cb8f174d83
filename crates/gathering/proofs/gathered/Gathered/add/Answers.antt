use Rattle.std.proofs.Common.{◌≡◌, ◌∙◌, ◌++◌, ℕ, List, [], ◌∷◌, ap, subst}
use Rattle.gathering.specs.Files.{file_of, IsToldOfFile, IfTold}
use Rattle.gathering.specs.declared.gathered.Gathered.{Gathered}
use Rattle.gathering.proofs.Taking.{gathers_file, gathers_told}
use Rattle.gathering.proofs.gathered.Gathered.add.Goals as goal
use Rattle.gathering.proofs.gathered.Gathered.add.Goals.{in-Ok+in_ok-append-in-Ok+in_ok-append-in-Ok-2+in_ok-append-in-Ok-3, in-Err-Told+in_ok-push-in-Err-Told}

pub returns : goal.returns
returns c = λ files g.
    let f = file_of c.args.source.now in
    let before : Gathered = c.args.self.now in
    let after : Gathered = record { names = c.push-2.new.self; items = c.match-parts_of.self.items; impls = c.match-parts_of.self.impls; aliases = c.match-parts_of.self.aliases; faults = c.match-parts_of.self.faults } in
    let named : c.push-2.new.self ≡ c.match-parts_of.self.names ++ f.name ∷ [] = c.in_ok-push.ensures.ok ∙ ap (λ (n : List ℕ). c.match-parts_of.self.names ++ n ∷ []) c.in_ok-new.ensures in
    elim c.match-parts_of.branch [
      | in-Ok+in_ok-append-in-Ok+in_ok-append-in-Ok-2+in_ok-append-in-Ok-3 w ↦
          let names = named ∙ ap (λ (x : Gathered). x.names ++ f.name ∷ []) w.self-is in
          let items = ap (λ (x : Gathered). x.items) w.self-is ∙ w.in_ok-append-in-Ok.ensures.ok in
          let impls = ap (λ (x : Gathered). x.impls) w.self-is ∙ w.in_ok-append-in-Ok-2.ensures.ok in
          let aliases = ap (λ (x : Gathered). x.aliases) w.self-is ∙ w.in_ok-append-in-Ok-3.ensures.ok in
          gathers_file files f before after c.len.result w.in-Ok.parts.items w.in-Ok.parts.impls w.in-Ok.parts.aliases c.len.ensures names items impls aliases (ap (λ (x : Gathered). x.faults) w.self-is) w.in-Ok.ensures.items w.in-Ok.ensures.impls w.in-Ok.ensures.aliases g
      | in-Err-Told+in_ok-push-in-Err-Told w ↦
          let names = named ∙ ap (λ (x : Gathered). x.names ++ f.name ∷ []) w.self-is in
          let faults = ap (λ (x : Gathered). x.faults) w.self-is ∙ w.in_ok-push-in-Err-Told.ensures.ok in
          gathers_told files f before after w.in-Err-Told.told names (ap (λ (x : Gathered). x.items) w.self-is) (ap (λ (x : Gathered). x.impls) w.self-is) (ap (λ (x : Gathered). x.aliases) w.self-is) faults (subst (IfTold (IsToldOfFile f)) w.in-Err-Told.field-0-is w.in-Err-Told.ensures.told) g
    ]

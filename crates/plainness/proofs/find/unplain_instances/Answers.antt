use Rattle.std.proofs.Common.{◌≡◌, ◌∙◌, ◌<◌, ◌+◌, ◌++◌, ◌∷◌, [], List, ℕ, Option, None, length, map, get_or, take, ap, sym, subst, arith}
use Rattle.std.proofs.lemmas.List.{take_more, get_or_read, length-map}
use Rattle.open_types.specs.Open.{Open, unit}
use Rattle.shapes.specs.Declarations.{DeclarationOf}
use Rattle.shapes.specs.Views.{declaration_view}
use Rattle.shapes.specs.InstanceNames.{instance_name}
use Rattle.instances.specs.Lists.{instance_at}
use Rattle.plainness.specs.Edges.{edges_of, edges_at, AreOrigins}
use Rattle.plainness.specs.Unplain.{AreUnplain}
use Rattle.plainness.specs.declared.unplain.Obstacle.{Obstacle}
use Rattle.plainness.specs.declared.unplain.Unplain.{Unplain}
use Rattle.plainness.proofs.Marked.{none-yet, plain-more, unplain-more, plain-at, unplain-at}
use Rattle.plainness.proofs.find.unplain_instances.Goals as goal
use Rattle.plainness.proofs.find.unplain_instances.Goals.{in-Some+in_ok-reason+in_ok-copy+in_ok-push, in_default}

pub loop-number-init : goal.loop-number-init
loop-number-init c =
    let ss = map declaration_view c.args.declared.now in
    subst (AreUnplain ss (take 0 c.args.reach.now)) (sym c.new-unplain.ensures) (none-yet ss c.args.reach.now)

-- the origin that was read
own-origin : (ss : List DeclarationOf) (is : List Open) (edges : List (List ℕ)) (obstacles : List (Option Obstacle)) (origins : List (Option ℕ)) (n : ℕ) (read : Option ℕ) → edges ≡ edges_of ss is → AreOrigins edges obstacles origins → n < length is → read ≡ get_or origins n read → read ≡ get_or origins n None
own-origin ss is edges obstacles origins n read same from l at =
    get_or_read origins n read (subst (λ k. n < k) (sym (from.many ∙ ap length same ∙ length-map is (edges_at ss is))) l) at None

pub reason_at-requires-clause-hindered : goal.reason_at-requires-clause-hindered
reason_at-requires-clause-hindered c =
    let found = c.in_ok-found.found in
    let n = c.loop-number.number in
    let read = own-origin (map declaration_view c.args.declared.now) c.args.reach.now found.edges found.obstacles found.origins.items n c.index.result.now c.in_ok-found.ensures.edges c.in_ok-found.ensures.origins (omega arith) c.index.ensures in
    (c.in_ok-found.ensures.origins.led.each n c.in-Some.origin (sym read ∙ c.in-Some.is)).1

pub loop-number-preserved : goal.loop-number-preserved
loop-number-preserved c =
    let ss = map declaration_view c.args.declared.now in
    let is = c.args.reach.now in
    let n = c.loop-number.number in
    let us = c.loop-number.unplain in
    let l : n < length is = omega arith in
    let found = c.in_ok-found.found in
    let read = own-origin ss is found.edges found.obstacles found.origins.items n c.index.result.now c.in_ok-found.ensures.edges c.in_ok-found.ensures.origins l c.index.ensures in
    let more = sym (take_more is n unit l) in
    elim c.match-index.branch [
      | in-Some+in_ok-reason+in_ok-copy+in_ok-push w ↦
          let u : Unplain = record { declaration = w.declaration.result; name = w.in_ok-copy.field-0; reason = w.in_ok-reason.reason } in
          let there : n < length c.args.names.now = subst (λ k. n < k) (sym (ap length c.requires.names ∙ length-map is (instance_name ss))) l in
          let name = w.in_ok-copy.ensures ∙ get_or_read c.args.names.now n w.index-names-number.result there w.index-names-number.is [] in
          let unplain = unplain-at c.same_types_are_equal.ensures c.obstacles_are_exact.ensures ss is c.requires.instances found.edges found.obstacles found.origins.items c.args.names.now c.in_ok-found.ensures.edges c.in_ok-found.ensures.obstacles c.in_ok-found.ensures.origins c.requires.names n w.in-Some.origin u l (sym read ∙ w.in-Some.is) w.declaration.ensures name w.in_ok-reason.ensures in
          subst (AreUnplain ss (take (n + 1) is)) (sym w.in_ok-push.ensures.ok ∙ sym w.unplain-is) (subst (λ ts. AreUnplain ss ts (us ++ u ∷ [])) more (unplain-more ss (take n is) us (instance_at is n) u c.loop-number.invariant unplain))
      | in_default w ↦
          let plain = plain-at c.same_types_are_equal.ensures c.obstacles_are_exact.ensures ss is c.requires.instances found.edges found.obstacles found.origins.items c.args.names.now c.in_ok-found.ensures.edges c.in_ok-found.ensures.obstacles c.in_ok-found.ensures.origins c.requires.names n l (sym read ∙ w.in_default.is) in
          subst (AreUnplain ss (take (n + 1) is)) (sym w.unplain-is) (subst (λ ts. AreUnplain ss ts us) more (plain-more ss (take n is) us (instance_at is n) c.loop-number.invariant plain))
    ]

use Rattle.std.proofs.Common.{◌≡◌, ◌<◌, ◌∙◌, ◌↔◌, ℕ, List, length, map, IsTrue, IfOk, Result, Ok, Err, sym, subst}
use Rattle.std.proofs.lemmas.Result.{IfOk-weaker}
use Rattle.inlining.specs.Inlining.{IsAmong, AreOnce}
use Rattle.inlining.specs.Marks.{mark}
use Rattle.inlining.specs.Shown.{IsShown as IsNumberShown, shown_first, shown_inline, shown_referred, IsComponent as IsNumberComponent, first_component, referred_component}
use Rattle.instances.specs.Lists.{instance_at}
use Rattle.shapes.specs.Views.{declaration_view}
use Rattle.closing.specs.Links.{inlining_of, IsFirst, IsShown, AreComponentsOf}
use Rattle.closing.specs.Made.{AreAlong}
use Rattle.closing.proofs.ShownNumbers.{first-there, targets-there, references-there, many, as-many, shown-marks, components-within, are-components}
use Rattle.closing.proofs.shown.shown_of.Goals as goal

both : {X E : Type 0} (r : Result X E) (P Q : X → Type 0) → IfOk r P → IfOk r Q → IfOk r (λ x. P x × Q x)
both (Ok x) P Q p q = (p, q)
both (Err e) P Q p q = tt

pub find_shown-requires : goal.find_shown-requires
find_shown-requires c =
    let same = c.same_types_are_equal.ensures in
    let none = c.types_stay_without_arguments.ensures in
    let ss = map declaration_view c.args.declared.now in
    let is = c.args.reach.now in
    let first = c.as_slice.result.now in
    let targets = c.as_slice-targets.result.now in
    let references = c.as_slice-references.result.now in
    let are_targets = c.as_slice-targets.ensures ∙ c.requires.targets in
    let are_references = c.as_slice-references.ensures ∙ c.requires.references in
    let firsts : (n : ℕ) → IsAmong n first ↔ ((n < length is) × IsFirst ss c.args.all (instance_at is n)) =
    subst (λ (ns : List ℕ). (n : ℕ) → IsAmong n ns ↔ ((n < length is) × IsFirst ss c.args.all (instance_at is n))) (sym c.as_slice.ensures) c.in_ok-first.ensures in
    record {
      first = first-there same none ss is c.requires.instances c.args.all targets references are_targets are_references first firsts;
      targets = targets-there same none ss is c.requires.instances c.args.all targets references are_targets are_references first firsts;
      references = references-there same none ss is c.requires.instances c.args.all targets references are_targets are_references first firsts;
      many = as-many same none ss is c.requires.instances c.args.all targets references are_targets are_references first firsts;
    }

component-shown : {first : List ℕ} {targets references : List (List ℕ)} (n : ℕ) → IsNumberComponent first targets references n → IsNumberShown first targets references n
component-shown n (first_component m among) = shown_first m among
component-shown n (referred_component m k shown among) = shown_referred m k shown among

pub returns : goal.returns
returns c =
    let same = c.same_types_are_equal.ensures in
    let none = c.types_stay_without_arguments.ensures in
    let ss = map declaration_view c.args.declared.now in
    let is = c.args.reach.now in
    let first = c.as_slice.result.now in
    let targets = c.as_slice-targets.result.now in
    let references = c.as_slice-references.result.now in
    let are_targets = c.as_slice-targets.ensures ∙ c.requires.targets in
    let are_references = c.as_slice-references.ensures ∙ c.requires.references in
    let firsts : (n : ℕ) → IsAmong n first ↔ ((n < length is) × IsFirst ss c.args.all (instance_at is n)) =
    subst (λ (ns : List ℕ). (n : ℕ) → IsAmong n ns ↔ ((n < length is) × IsFirst ss c.args.all (instance_at is n))) (sym c.as_slice.ensures) c.in_ok-first.ensures in
    record {
      marks = IfOk-weaker c.find_shown.result (λ s. (n : ℕ) → IsTrue (mark s.marks n) ↔ IsNumberShown first targets references n) (λ s. (n : ℕ) → n < length is → IsTrue (mark s.marks n) ↔ IsShown ss c.args.all (instance_at is n))
          (λ s h. shown-marks same none ss is c.requires.instances c.args.all targets references are_targets are_references first firsts (mark s.marks) h) c.find_shown.ensures.shown;
      many = IfOk-weaker c.find_shown.result (λ s. length s.marks ≡ length targets) (λ s. length s.marks ≡ length is) (λ s h. h ∙ many same none ss is c.requires.instances c.args.all targets references are_targets are_references first firsts) c.find_shown.ensures.many;
      along = IfOk-weaker c.find_shown.result (λ s. (n : ℕ) → IsTrue (mark s.marks n) ↔ IsNumberShown first targets references n) (λ s. AreAlong s.marks (inlining_of ss is))
          (λ s h. subst (AreAlong s.marks) are_targets (λ n m marked among. (h m).1 (shown_inline n m ((h n).0 marked) among))) c.find_shown.ensures.shown;
      shown = IfOk-weaker c.find_shown.result (λ s. ((n : ℕ) → IsTrue (mark s.marks n) ↔ IsNumberShown first targets references n) × ((n : ℕ) → IsAmong n s.components ↔ IsNumberComponent first targets references n)) (λ s. (n : ℕ) → IsAmong n s.components → IsTrue (mark s.marks n))
          (λ s h n among. (h.0 n).1 (component-shown n ((h.1 n).0 among)))
          (both c.find_shown.result (λ s. (n : ℕ) → IsTrue (mark s.marks n) ↔ IsNumberShown first targets references n) (λ s. (n : ℕ) → IsAmong n s.components ↔ IsNumberComponent first targets references n) c.find_shown.ensures.shown c.find_shown.ensures.components);
      numbers = IfOk-weaker c.find_shown.result (λ s. (n : ℕ) → IsAmong n s.components ↔ IsNumberComponent first targets references n) (λ s. (n : ℕ) → IsAmong n s.components → n < length is)
          (λ s h. components-within same none ss is c.requires.instances c.args.all targets references are_targets are_references first firsts s.components h) c.find_shown.ensures.components;
      once = c.find_shown.ensures.once;
      components = IfOk-weaker c.find_shown.result (λ s. AreOnce s.components × ((n : ℕ) → IsAmong n s.components ↔ IsNumberComponent first targets references n)) (λ s. AreComponentsOf ss c.args.all (map (instance_at is) s.components))
          (λ s h. are-components same none ss is c.requires.instances c.args.all targets references are_targets are_references first firsts s.components h.1 h.0)
          (both c.find_shown.result (λ s. AreOnce s.components) (λ s. (n : ℕ) → IsAmong n s.components ↔ IsNumberComponent first targets references n) c.find_shown.ensures.once c.find_shown.ensures.components);
    }
